use Rattle.std.proofs.Common.{◌≡◌, ◌∙◌, ◌+◌, ap, arith, length, take}
use Rattle.frame_layout.specs.Functions.{with_distances}
use Rattle.image_linker.specs.ImageOf.{distances}
use Rattle.image_linker.specs.Linking.{changed}
use Rattle.image_linker.proofs.Leading.{lead_taken, length-led}
use Rattle.image_linker.proofs.linking.lead_all.Goals as goal

pub loop-call_to-preserved : goal.loop-call_to-preserved
loop-call_to-preserved c =
    let l = c.loop-call_to in
    let text = c.args.text.now in
    let d = distances c.args.starts.now c.args.here in
    let calls = c.args.calls.now in
    let taken : c.lead.new.text ≡ changed c.args.begin c.args.end (with_distances d (take (l.call_to-index + 1) calls)) text =
    lead_taken c.args.begin c.args.end text l.text c.lead.new.text d calls l.call_to-index c.requires.rises c.requires.within
    (omega (arith, c.loop-call_to-test.true)) c.lead.ensures l.invariant.0 in
    (taken, ap length taken ∙ length-led c.args.begin c.args.end text d (take (l.call_to-index + 1) calls) c.requires.rises c.requires.within)
