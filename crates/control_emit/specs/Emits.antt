-- What the calls of `Labels` do.
use Rattle.std.specs.Prelude.{◌≡◌, ℕ, List, ◌∷◌, ◌++◌, length, map, take}
use Rattle.rv_isa.specs.declared.operations.Op.{Op}
use Rattle.rv_isa.specs.Words.{word_of}
use Rattle.control_emit.specs.Pending.{Pending, Shape, shapes, Ends, meaning, Within}

-- labels, and the words under them
pub record FunctionBuilder : Type 0 where
  pub labels : List Pending
  pub words : List ℕ

abbrev pub draft : List Pending → List ℕ → FunctionBuilder
draft labels words = record { labels = labels; words = words }

-- these words come before others
abbrev pub IsFront : (front words : List ℕ) → Type 0
IsFront front words = take (length front) words ≡ front

abbrev pub IsHeld : FunctionBuilder → Type 0
IsHeld d = Within (length d.words) d.labels

-- the words of a draft, once it is known where the open blocks end
abbrev pub meant : FunctionBuilder → List Ends → List ℕ
meant d ends = meaning d.labels ends d.words

-- words are appended, and the labels are the same: wherever the open blocks end, the words are those before and these
pub record Emits (old new : FunctionBuilder) (ops : List Ends → List Op) : Type 0 where
  pub held : IsHeld new
  pub shapes_are : shapes new.labels ≡ shapes old.labels
  pub words_are : (ends : List Ends) → length ends ≡ length old.labels → meant new ends ≡ meant old ends ++ map word_of (ops ends)

-- a label is opened
pub record Opens (old new : FunctionBuilder) (shape : Shape) (ops : Ends → List Op) : Type 0 where
  pub held : IsHeld new
  pub shapes_are : shapes new.labels ≡ shape ∷ shapes old.labels
  pub words_are : (e : Ends) (ends : List Ends) → length ends ≡ length old.labels → meant new (e ∷ ends) ≡ meant old ends ++ map word_of (ops e)

-- the innermost one leads here where its `if` has no condition that holds; and from here on it goes on
pub record Turns (old new : FunctionBuilder) (ops : (end : ℕ) → List Op) : Type 0 where
  pub held : IsHeld new
  pub shapes_are : shapes new.labels ≡ shapes old.labels
  pub words_are : (other end : ℕ) (ends : List Ends) → length (record { other = other; end = end } ∷ ends) ≡ length old.labels
      → meant new (record { other = other; end = end } ∷ ends) ≡ meant old (record { other = length new.words; end = end } ∷ ends) ++ map word_of (ops end)

-- it ends here
pub record Closes (old new : FunctionBuilder) : Type 0 where
  pub held : IsHeld new
  pub shape : Shape
  pub shapes_are : shapes old.labels ≡ shape ∷ shapes new.labels
  pub size : length new.words ≡ length old.words
  pub words_are : (ends : List Ends) → length ends ≡ length new.labels
      → meant new ends ≡ meant old (record { other = length old.words; end = length old.words } ∷ ends)
