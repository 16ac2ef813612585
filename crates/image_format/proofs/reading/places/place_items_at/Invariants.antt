use Rattle.std.proofs.Common.{◌≡◌, ◌-◌, []}
use Rattle.image_format.specs.Bounds.{bound_of}
use Rattle.image_format.specs.Reading.{each, place_at}
use Rattle.image_format.proofs.reading.places.place_items_at.Given as goal

abbrev pub invariant-loop : goal.invariant-loop
invariant-loop l =
    (each (λ front. place_at l.words (bound_of front)) (l.count - l.counter) l.places.items l.rest ≡ each (λ front. place_at l.words (bound_of front)) l.count [] l.bytes)
    × (l.bound ≡ bound_of l.places.items)
