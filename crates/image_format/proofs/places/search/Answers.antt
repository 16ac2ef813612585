use Rattle.std.proofs.Common.{rules}
use Rattle.std.proofs.lemmas.List.Sorted.{answers_always}
use Rattle.image_format.specs.declared.image.TrapPlace.{TrapPlace}
use Rattle.image_format.proofs.Told.{searched}
use Rattle.image_format.proofs.places.search.Goals as goal

-- the closure gives a trap site's offset
pub returns : goal.returns
returns c =
    let facts = c.binary_search_by_key.ensures in
    let by_key = facts.position (λ (p : TrapPlace). p.offset) (answers_always _ _ _ (λ f a r g called. search rules)) in
    searched _ c.requires c.args.offset _ facts.bound by_key
