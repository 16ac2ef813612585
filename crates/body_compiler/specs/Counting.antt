-- How many instruction words a body's tokens have, one token after the other.
use Rattle.std.specs.Prelude.{◌≡◌, ◌<◌, ℕ, ◌+◌, ◌*◌, Bool, true, false, List, [], ◌∷◌, length, map, drop, reverse, slice_index_or, Result, Ok, Err, None, Some}
use Rattle.rv_isa.specs.declared.compiled.Code.{Code}
use Rattle.wasm_defs.specs.declared.token.Plain.{Plain}
use Rattle.wasm_defs.specs.declared.token.Token.{Token}
use Rattle.wasm_defs.specs.declared.token.Token.TheVariants as token
use Rattle.wasm_defs.specs.Bodies.{BodyRead, Spelled}
use Rattle.wasm_defs.specs.Faults.{IsCodeFault, IsValidCode, tokens_of}
use Rattle.wasm_defs.specs.Fields.{Cursor}
use Rattle.wasm_defs.specs.Limits.{max_text}
use Rattle.wasm_defs.specs.Places.{Place, shape}
use Rattle.wasm_defs.specs.Trees.{Seq}
use Rattle.wasm_defs.specs.Typing.{Context}
use Rattle.body_validator.specs.Checks.{Checked}
use Rattle.frame_layout.specs.declared.layout.Layout.{Layout}
use Rattle.frame_layout.specs.Templates.{Label, EmitContext, declarations, words}
use Rattle.frame_layout.specs.Functions.{label, over, body_size}
use Rattle.body_compiler.specs.declared.code.BodyStop.{BodyStop}
use Rattle.body_compiler.specs.declared.code.BodyStop.TheVariants.{Refused, TooLong, NoMemory}
use Rattle.body_compiler.specs.Compiling.{IsCompiled, Compiles}
use Rattle.body_compiler.specs.Going.{IsGoing, ArePlaced}
use Rattle.body_compiler.specs.Making.{IsMadeOf, Makes}
use Rattle.body_compiler.specs.Steps.{FunctionsAreSmall}

-- how many values a branch to each open label takes along, innermost first; and how many words there are so far
pub record WordCount : Type 0 where
  pub takes : List ℕ
  pub words : ℕ

-- as the code keeps them: the outermost label first
abbrev pub word_count : (takes : List ℕ) → (words : ℕ) → WordCount
word_count takes words = record { takes = reverse takes; words = words }

-- labels to which branches take so many values along
abbrev pub labels_of : List ℕ → List Label
labels_of takes = map (λ (n : ℕ). label 0 n 0) takes

-- the words of jumps to several labels, one after the other
abbrev pub jump_sum : (takes labels : List ℕ) → ℕ
jump_sum takes [] = 0
jump_sum takes (l ∷ ls) = 2 + 6 * slice_index_or takes l 0 + jump_sum takes ls

-- a body's own label, after so many words
abbrev pub begun_count : (words results : ℕ) → WordCount
begun_count words results = record { takes = results ∷ []; words = words }

abbrev pub opening : (takes more : ℕ) → WordCount → WordCount
opening takes more n = record { takes = takes ∷ n.takes; words = n.words + more }

-- the condition of an `if`, where it is reachable
abbrev pub test_size : Place → ℕ
test_size None = 0
test_size (Some h) = 6

module _ (w : EmitContext) (c : Context) where
  -- the words of an instruction don't depend on where its labels lead
  abbrev pub plain_size : Place → (takes : List ℕ) → Plain → ℕ
  plain_size None takes p = 0
  plain_size (Some h) takes p = length (words w (declarations c) (labels_of takes) h 0 p)

  abbrev pub after_token : Token → Place → WordCount → WordCount
  after_token (token.Plain p) q n = record { takes = n.takes; words = n.words + plain_size q n.takes p }
  after_token (token.Block t) q n = opening (length (shape c t).results) 0 n
  after_token (token.Loop t) q n = opening (length (shape c t).params) 0 n
  after_token (token.If t) q n = opening (length (shape c t).results) (test_size q) n
  after_token token.Else q n = record { takes = n.takes; words = n.words + length (over q 0 0) }
  after_token token.End q n = record { takes = drop 1 n.takes; words = n.words + 0 }

  -- each token at its point
  abbrev pub after_tokens : List Token → List Place → WordCount → WordCount
  after_tokens [] qs n = n
  after_tokens (t ∷ ts) [] n = n
  after_tokens (t ∷ ts) (q ∷ qs) n = after_tokens ts qs (after_token t q n)

-- ---- how far the counting of a body's code came

-- the tokens that were read have these words, after so many
pub record IsCounting (counted : Bool) (c : Context) (last : ℕ) (cursor : Cursor) (check : Checked) (code : Spelled) (front : ℕ) (n : WordCount) : Type 0 where
  pub going : IsGoing counted c last cursor check code
  pub places : List Place
  pub count : length places ≡ length (tokens_of going.tokens)
  pub placed : ArePlaced c (tokens_of going.tokens) places
  pub words : (w : EmitContext) → n ≡ after_tokens w c (tokens_of going.tokens) places (begun_count front (length c.results))

-- every valid body whose code this is has, after so many, more words than a text
abbrev pub HasManyWords : Context → Spelled → (front : ℕ) → Type 0
HasManyWords c code front = (tree : Seq) → IsValidCode c code tree → (w : EmitContext) → max_text < 4 * (front + body_size w c tree)

-- or it is known by now that the body has too many
abbrev pub IsCountingOn : (counted too_long : Bool) → Context → ℕ → Cursor → Checked → Spelled → (front : ℕ) → WordCount → Type 0
IsCountingOn counted false c last cursor check code front n = IsCounting counted c last cursor check code front n
IsCountingOn counted true c last cursor check code front n = IsGoing counted c last cursor check code × HasManyWords c code front

-- what was read is right, whether or not there are too many words
abbrev pub going_of : (counted too_long : Bool) (c : Context) (last : ℕ) (cursor : Cursor) (check : Checked) (code : Spelled) (front : ℕ) (n : WordCount) → IsCountingOn counted too_long c last cursor check code front n → IsGoing counted c last cursor check code
going_of counted true c last cursor check code front n k = k.0
going_of counted false c last cursor check code front n k = k.going

-- a token more: the words are those after it, or there are too many then
abbrev pub CountsToken : (before after : Bool) → (new then : WordCount) → Type 0
CountsToken false false new then = new ≡ then
CountsToken false true new then = max_text < 4 * then.words
CountsToken true true new then = Unit {0}
CountsToken true false new then = ⊥

-- each frame that is open has its label, unless there are too many words; and the module's types are small
pub record AreCounted (too_long : Bool) (takes : List ℕ) (check : Checked) : Type 0 where
  pub count : too_long ≡ false → length takes ≡ length check.checker.frames
  pub unlabelled : check.context.labels ≡ []
  pub functions : FunctionsAreSmall check.context

-- the answer: valid code, and its words; or its first error; or valid code that has too many
abbrev pub CountsCode : Context → Spelled → (front : ℕ) → Result (Unit {0}) BodyStop → (words : ℕ) → Type 0
CountsCode c code front (Ok done) words = (tree : Seq) × IsValidCode c code tree × ((w : EmitContext) → words ≡ front + body_size w c tree)
CountsCode c code front (Err (Refused r)) words = IsCodeFault c code r
CountsCode c code front (Err TooLong) words = (tree : Seq) × IsValidCode c code tree × HasManyWords c code front
CountsCode c code front (Err NoMemory) words = Unit {0}

-- ---- a function

-- so many words has what the code is made to; or it isn't made, as where it is compiled
abbrev pub Sizes : (rows first : ℕ) → Context → Spelled → Layout → (results : ℕ) → Result ℕ BodyStop → Type 0
Sizes rows first c code slots results (Ok words) = (made : Code) × IsMadeOf rows first c code slots results made × (words ≡ length made.words)
Sizes rows first c code slots results (Err stop) = Makes rows first c code slots results (Err stop)

-- so many words has the function's code; or it has none, as where it is compiled
abbrev pub Measures : (rows first : ℕ) → Context → (index : ℕ) → BodyRead → Result ℕ BodyStop → Type 0
Measures rows first c index read (Ok words) = (code : Code) × IsCompiled rows first c index read code × (words ≡ length code.words)
Measures rows first c index read (Err stop) = Compiles rows first c index read (Err stop)
