-- Structured instructions, and the tokens that encode them (Core 2.4 and 5.4).
use Rattle.std.specs.Prelude.{◌≡◌, ℕ, List, [], ◌∷◌, length}
use Rattle.wasm_defs.specs.declared.token.BlockType.{BlockType}
use Rattle.wasm_defs.specs.declared.token.Plain.{Plain}
use Rattle.wasm_defs.specs.declared.token.Token.{Token}
use Rattle.wasm_defs.specs.declared.token.Token.TheVariants as token

-- what a tree is of: a sequence of instructions, or the second branch of an `if`
pub data Sort : Type 0 where
  Sequence : Sort
  Branch : Sort

-- a sequence: its first instruction, with the sequences inside it, and the sequence after it; a branch: an `else` and a sequence, or
-- nothing
pub data Part : Sort → Type 0 where
  Nothing : {sort : Sort} → Part sort
  Simple : (p : Plain) (rest : Part Sequence) → Part Sequence
  Block : (type : BlockType) (body rest : Part Sequence) → Part Sequence
  Loop : (type : BlockType) (body rest : Part Sequence) → Part Sequence
  If : (type : BlockType) (body : Part Sequence) (other : Part Branch) (rest : Part Sequence) → Part Sequence
  Else : (other : Part Sequence) → Part Branch

abbrev pub Seq : Type 0
Seq = Part Sequence

-- its tokens, and then others
abbrev pub spelled : {sort : Sort} → Part sort → List Token → List Token
spelled Nothing after = after
spelled (Simple p rest) after = token.Plain p ∷ spelled rest after
spelled (Block type body rest) after = token.Block type ∷ spelled body (token.End ∷ spelled rest after)
spelled (Loop type body rest) after = token.Loop type ∷ spelled body (token.End ∷ spelled rest after)
spelled (If type body other rest) after = token.If type ∷ spelled body (spelled other (token.End ∷ spelled rest after))
spelled (Else other) after = token.Else ∷ spelled other after

-- how many these are
abbrev pub tokens_in : {sort : Sort} → Part sort → ℕ
tokens_in tree = length (spelled tree [])

-- the tokens of a whole body: a sequence and its `end`
abbrev pub Tree : List Token → Seq → Type 0
Tree tokens tree = tokens ≡ spelled tree (token.End ∷ [])
