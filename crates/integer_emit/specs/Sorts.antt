-- The tokens of integer operations, by their sorts (WebAssembly Core 1.0, 2.4.1), and their
-- instruction words.
use Rattle.std.specs.Prelude.{ℕ, List, []}
use Rattle.rv_isa.specs.declared.operations.Op.{Op}
use Rattle.wasm_defs.specs.declared.operation.Operation.TheVariants.{Unary, Test, Binary, Compare, Convert, Extend}
use Rattle.wasm_defs.specs.declared.token.Plain.TheVariants.{Numeric}
use Rattle.wasm_defs.specs.declared.token.Token.{Token}
use Rattle.wasm_defs.specs.declared.token.Token.TheVariants.{Plain}
use Rattle.frame_layout.specs.Templates.{EmitContext, operate_words}

-- a count of bits, or a sign extension
abbrev pub IsUnary : Token → Type 0
IsUnary (Plain (Numeric (Unary t o))) = Unit {0}
IsUnary (Plain (Numeric (Extend o))) = Unit {0}
IsUnary _ = ⊥

abbrev pub IsBinary : Token → Type 0
IsBinary (Plain (Numeric (Binary t o))) = Unit {0}
IsBinary _ = ⊥

-- a test compares its operand with zero
abbrev pub IsComparison : Token → Type 0
IsComparison (Plain (Numeric (Test t))) = Unit {0}
IsComparison (Plain (Numeric (Compare t o))) = Unit {0}
IsComparison _ = ⊥

abbrev pub IsConversion : Token → Type 0
IsConversion (Plain (Numeric (Convert o))) = Unit {0}
IsConversion _ = ⊥

-- how many operands the comparison of a token reads
abbrev pub compared : Token → ℕ
compared (Plain (Numeric (Compare t o))) = 2
compared _ = 1

-- the words of an operation's token
abbrev pub operation_words : EmitContext → (height : ℕ) → Token → List Op
operation_words w h (Plain (Numeric o)) = operate_words w h o
operation_words w h _ = []
