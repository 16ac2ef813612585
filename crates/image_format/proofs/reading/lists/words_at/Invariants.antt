use Rattle.std.proofs.Common.{◌≡◌, ◌-◌, []}
use Rattle.image_format.specs.Reading.{each, u32_at}
use Rattle.image_format.proofs.reading.lists.words_at.Given as goal

abbrev pub invariant-loop : goal.invariant-loop
invariant-loop l = each (λ _. u32_at) (l.count - l.counter) l.words l.rest ≡ each (λ _. u32_at) l.count [] l.bytes
