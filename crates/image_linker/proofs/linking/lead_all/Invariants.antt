use Rattle.std.proofs.Common.{◌≡◌, take, length}
use Rattle.frame_layout.specs.Functions.{with_distances}
use Rattle.image_linker.specs.ImageOf.{distances}
use Rattle.image_linker.specs.Linking.{changed}
use Rattle.image_linker.proofs.linking.lead_all.Given as goal

abbrev pub invariant-loop-call_to : goal.invariant-loop-call_to
invariant-loop-call_to l =
    (l.text ≡ changed l.begin l.end (with_distances (distances l.starts l.here) (take l.call_to-index l.calls)) l.initial.text) × (length l.text ≡ length l.initial.text)
