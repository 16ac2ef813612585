-- Modules whose compilations are lent, and what came of them meanwhile.
use Rattle.std.specs.Prelude.{◌≡◌, ℕ, true, List, [], ◌∷◌, slice_get, is_some, Option, None, Some}
use Rattle.many_streams.specs.declared.flow.Flow.{Flow}
use Rattle.many_streams.specs.declared.member.Part.{Part}
use Rattle.many_streams.specs.declared.member.Member.{Member}
use Rattle.many_streams.specs.declared.member.Member.TheVariants as member

-- a module with what came of it
abbrev pub part_with : Part → Flow → Part
part_with p f = record p { fed = f.fed; intake = Some f.intake }

abbrev pub member_with : Member → Option Flow → Member
member_with m None = m
member_with (member.Open p) (Some f) = member.Open (part_with p f)
member_with (member.Image built) (Some f) = member.Image built
member_with (member.Valid c) (Some f) = member.Valid c
member_with (member.Refused r) (Some f) = member.Refused r

-- several modules, each with what came of it
abbrev pub members_with : List Member → List (Option Flow) → List Member
members_with ms [] = ms
members_with [] (o ∷ os) = []
members_with (m ∷ ms) (o ∷ os) = member_with m o ∷ members_with ms os

-- where it is open, its bodies are kept
abbrev pub IsWaiting : Member → Type 0
IsWaiting m = (p : Part) → m ≡ member.Open p → is_some p.intake ≡ true

abbrev pub AreWaiting : List Member → Type 0
AreWaiting ms = (i : ℕ) (m : Member) → slice_get ms i ≡ Some m → IsWaiting m

-- it is open exactly where something may come of it
abbrev pub IsLent : Member → Option Flow → Type 0
IsLent m None = (p : Part) → m ≡ member.Open p → ⊥
IsLent m (Some f) = (p : Part) × (m ≡ member.Open p)

abbrev pub AreLent : List Member → List (Option Flow) → Type 0
AreLent ms os = (i : ℕ) (m : Member) (o : Option Flow) → slice_get ms i ≡ Some m → slice_get os i ≡ Some o → IsLent m o
