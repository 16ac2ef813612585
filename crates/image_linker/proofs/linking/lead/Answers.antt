use Rattle.std.proofs.Common.{◌≡◌, ◌∙◌, ℕ, ◌+◌, List, ap}
use Rattle.std.specs.Prelude.{slice_index_or}
use Rattle.rv_isa.specs.Words.{word_of}
use Rattle.rv_isa.specs.Runs.{hi, lo}
use Rattle.rv_isa.specs.declared.operations.Op.{Op}
use Rattle.rv_isa.specs.declared.operations.Op.TheVariants.{Auipc, Jalr}
use Rattle.frame_layout.specs.Macros.{ra, distance}
use Rattle.image_linker.specs.ImageOf.{distances}
use Rattle.image_linker.proofs.Leading.{lead_words}
use Rattle.image_linker.proofs.linking.lead.Goals as goal

pub returns : goal.returns
returns c =
    let place = c.args.call_to.now.place in
    let d = distances c.args.starts.now c.args.here place c.args.call_to.now.function in
    let far : c.distance.result ≡ d = c.distance.ensures ∙ ap (distance (c.args.here + place)) c.start_at-there.ensures in
    let upper : c.encode.result ≡ word_of (Auipc ra (hi d)) =
    c.encode.ensures.word ∙ ap (λ (ops : List Op). word_of (slice_index_or ops 0 c.index-call-0.result)) c.call.ensures ∙ ap (λ (n : ℕ). word_of (Auipc ra (hi n))) far in
    let lower : c.encode-2.result ≡ word_of (Jalr ra ra (lo d)) =
    c.encode-2.ensures.word ∙ ap (λ (ops : List Op). word_of (slice_index_or ops 1 c.index-call-1.result)) c.call.ensures ∙ ap (λ (n : ℕ). word_of (Jalr ra ra (lo n))) far in
    lead_words c.args.begin c.args.end c.args.text.now c.replace.new.text c.replace-2.new.text d place _ _ c.requires.rises c.requires.within upper lower c.replace.ensures c.replace-2.ensures
