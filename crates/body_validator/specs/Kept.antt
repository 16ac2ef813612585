-- The operands of all frames, kept as single ones and as lists of types.
use Rattle.std.specs.Prelude.{◌≡◌, ◌⊎◌, ℕ, ◌+◌, ◌^◌, ◌<◌, ◌≤◌, Bool, false, List, [], ◌∷◌, ◌++◌, length, map, take, drop, reverse, Some, Result, Ok, Err, vec_len, vec_capacity}
use Rattle.std.specs.Borrow.{Bor}
use Rattle.body_validator.specs.declared.kept.Operands.{Operands}
use Rattle.body_validator.specs.declared.lists.Lists.{Lists}
use Rattle.body_validator.specs.declared.lists.Spread.{Spread}
use Rattle.body_validator.specs.declared.operands.Stop.{Stop}
use Rattle.body_validator.specs.declared.stack.Frame.{Frame}
use Rattle.wasm_defs.specs.Typing.{Types}
use Rattle.body_validator.specs.Checking.{Operand}
use Rattle.body_validator.specs.Stacks.{own_of}
use Rattle.body_validator.specs.Exchange.{exchanged}

abbrev pub spread : Bor Types → ℕ → Spread
spread types below = record { types = types; below = below }

-- lists of types, each with the number of single operands below it
abbrev pub paired : List (Bor Types) → List ℕ → List Spread
paired [] bs = []
paired (t ∷ ts) [] = []
paired (t ∷ ts) (b ∷ bs) = spread t b ∷ paired ts bs

abbrev pub spreads : Lists → List Spread
spreads l = paired l.types.items l.below.items

-- the operands from the lowest on; of the lists the topmost is the first
abbrev pub laid_out : List Spread → List Operand → List Operand
laid_out [] singles = singles
laid_out (s ∷ lists) singles = laid_out lists (take s.below singles) ++ (map Some s.types.now ++ drop s.below singles)

abbrev pub flat : Operands → List Operand
flat o = laid_out (reverse (spreads o.lists)) o.singles.items

-- how many operands are in the lists
abbrev pub total : List Spread → ℕ
total [] = 0
total (s ∷ lists) = length s.types.now + total lists

-- no list lies higher than the single ones go, or than the list above it
abbrev pub AreStacked : List Spread → ℕ → Type 0
AreStacked [] count = Unit {0}
AreStacked (s ∷ lists) count = (s.below ≤ count) × AreStacked lists s.below

abbrev pub floor_of : List Spread → ℕ
floor_of [] = 0
floor_of (s ∷ lists) = s.below

pub record IsKept (o : Operands) : Type 0 where
  pub stacked : AreStacked (reverse (spreads o.lists)) (length o.singles.items)
  pub listed : o.listed ≡ total (reverse (spreads o.lists))
  pub few : o.listed ≤ 2 ^ 62

-- the single ones from the start on are all above the base, or others lie between
abbrev pub IsAll : ℕ → Bool → Operands → Type 0
IsAll base unknown o = (base ≡ o.start + o.listed) × (o.unknown ≡ unknown)

abbrev pub IsPart : ℕ → Operands → Type 0
IsPart base o = (base < o.start + o.listed) × (o.unknown ≡ false) × (o.start ≡ floor_of (reverse (spreads o.lists)))

pub record IsSeen (base : ℕ) (unknown : Bool) (o : Operands) : Type 0 where
  pub kept : IsKept o
  pub above : floor_of (reverse (spreads o.lists)) ≤ o.start
  pub within : o.start ≤ length o.singles.items
  pub case : IsAll base unknown o ⊎ IsPart base o

-- so many of the topmost ones above the base are single ones, or all
abbrev pub AreShown : ℕ → ℕ → Operands → Type 0
AreShown base count o = (base ≡ o.start + o.listed) ⊎ (o.start + count ≤ length o.singles.items)

-- the operands are seen from the base of the first of these frames
abbrev pub IsSeenFrom : List Frame → Operands → Type 0
IsSeenFrom [] o = IsKept o
IsSeenFrom (f ∷ fs) o = IsSeen f.base f.unknown o

-- the operands are as before, but for the room that they have
abbrev pub AreSame : Operands → Operands → Type 0
AreSame o n = (n.singles.items ≡ o.singles.items) × (spreads n.lists ≡ spreads o.lists) × (n.listed ≡ o.listed) × (n.start ≡ o.start) × (n.unknown ≡ o.unknown)

-- there is room for one more list
abbrev pub HasPlace : Lists → Type 0
HasPlace l = (vec_len l.types < vec_capacity l.types) × (vec_len l.below < vec_capacity l.below)

abbrev pub KeepsPlace : Lists → Lists → Type 0
KeepsPlace o n = (vec_len n.types ≤ vec_len o.types) × (vec_capacity n.types ≡ vec_capacity o.types) × (vec_len n.below ≤ vec_len o.below) × (vec_capacity n.below ≡ vec_capacity o.below)

-- there is room for so many more, which are put one by one or as a list
abbrev pub HasRoom : ℕ → Operands → Type 0
HasRoom count o = (count < 16 → vec_len o.singles + count ≤ vec_capacity o.singles) × (16 ≤ count → HasPlace o.lists × (o.listed + count ≤ 2 ^ 62) × (vec_len o.singles < 2 ^ 32))

abbrev pub KeepsRoom : Operands → Operands → Type 0
KeepsRoom o n = (vec_len n.singles ≤ vec_len o.singles) × (vec_capacity n.singles ≡ vec_capacity o.singles) × KeepsPlace o.lists n.lists × (n.listed ≤ o.listed)

-- so many of those above the base are taken
abbrev pub IsTakenFrom : ℕ → Bool → ℕ → Operands → Operands → Type 0
IsTakenFrom base unknown count o n = (own_of (flat n) base ≡ drop count (own_of (flat o) base)) × (take base (flat n) ≡ take base (flat o)) × IsSeen base unknown n

-- s is the topmost of these
pub record Topmost (all : List Spread) (s : Spread) : Type 0 where
  pub rest : List Spread
  pub is : all ≡ s ∷ rest

-- so many types are left of the topmost list
pub record IsShort (left : ℕ) (old new : List Spread) : Type 0 where
  pub top : Spread
  pub rest : List Spread
  pub is : old ≡ top ∷ rest
  pub now : ((left ≡ 0) × (new ≡ rest)) ⊎ ((0 < left) × ((s : Spread) × (new ≡ s ∷ rest) × (s.types.now ≡ take left top.types.now) × (s.below ≡ top.below)))

-- single ones of those above the base were exchanged, or nothing is done
abbrev pub IsTried : ℕ → Bool → Types → Types → Result (Unit {0}) Stop → Operands → Operands → Type 0
IsTried base unknown p g (Ok done) o n =
    (exchanged unknown p g (own_of (flat o) base) ≡ Some (own_of (flat n) base)) × (take base (flat n) ≡ take base (flat o)) × IsSeen base unknown n
IsTried base unknown p g (Err stop) o n = (flat n ≡ flat o) × IsSeen base unknown n
