-- How far the input was read before workers start.
use Rattle.std.specs.Prelude.{◌≡◌, ◌<◌, ℕ, Bool, List, length, nat_lt, Option, Result, Ok, Err}
use Rattle.many_streams.specs.declared.member.Member.{Member}
use Rattle.many_streams.specs.declared.streams.ManyStop.{ManyStop}
use Rattle.many_streams.specs.declared.alone.Front.{Front}
use Rattle.many_streams.specs.declared.alone.Front.TheVariants as front
use Rattle.many_streams.specs.Many.{ComesToMany}
use Rattle.many_streams.specs.Members.{IsEnded}
use Rattle.many_streams.specs.Rests.{IsPaused}

-- to its end, or to where workers may start; or it comes to nothing
abbrev pub ReachesFront : Bool → Option (List ℕ) → ℕ → Option (List ℕ) → ℕ → Bool → Result Front ManyStop → Type 0
ReachesFront keeps first before left now may_read (Ok (front.Ended members)) = ComesToMany (IsEnded keeps) (nat_lt before now) first left (Ok members.items)
ReachesFront keeps first before left now may_read (Ok (front.Paused s buffer)) = IsPaused first before left now may_read s × (s.keeps ≡ keeps) × (0 < length buffer.items)
ReachesFront keeps first before left now may_read (Err e) = ComesToMany {E = Member} (IsEnded keeps) (nat_lt before now) first left (Err e)
