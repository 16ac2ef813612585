use Rattle.std.proofs.Common.{◌++◌, ◌∷◌, [], ap, ◌∙◌, ℕ}
use Rattle.image_linker.proofs.Fronts.{places_taken}
use Rattle.image_linker.proofs.imports.stub_places.Goals as goal

pub loop-number-preserved : goal.loop-number-preserved
loop-number-preserved c =
    places_taken c.loop-number.number c.loop-number.places.items c.push.new.self.items c.loop-number.invariant
    (c.in_ok-push.ensures.items ∙ ap (λ (n : ℕ). c.loop-number.places.items ++ n ∷ []) c.front_of.ensures)
