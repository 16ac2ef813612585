-- Where a trap comes from: a search among trap sites whose offsets rise.
use Rattle.std.specs.Prelude.{◌≡◌, ℕ, ◌+◌, ◌<◌, ◌≤◌, List, [], ◌∷◌, length, get_or}
use Rattle.image_format.specs.declared.image.TrapPlace.{TrapPlace}

-- the offsets rise, from a bound on
abbrev pub Rise : (bound : ℕ) → List TrapPlace → Type 0
Rise bound [] = Unit {0}
Rise bound (p ∷ ps) = (bound ≤ p.offset) × Rise (p.offset + 1) ps

abbrev pub no_place : TrapPlace
no_place = record { offset = 0; function = 0; module_offset = 0 }

abbrev pub offset_at : List TrapPlace → ℕ → ℕ
offset_at places i = (get_or places i no_place).offset

-- the trap site of that index has the offset
pub record IsAt (places : List TrapPlace) (offset i : ℕ) : Type 0 where
  pub in_range : i < length places
  pub has_offset : offset_at places i ≡ offset

-- none has it: those before the number have less, and the others more
pub record IsGapFor (places : List TrapPlace) (offset i : ℕ) : Type 0 where
  pub in_range : i ≤ length places
  pub smaller_before : (j : ℕ) → j < i → offset_at places j < offset
  pub greater_after : (j : ℕ) → i ≤ j → j < length places → offset < offset_at places j
