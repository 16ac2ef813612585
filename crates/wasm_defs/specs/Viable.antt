-- Tokens that others complete to a body, and which token is wrong.
use Rattle.std.specs.Prelude.{List, ◌++◌}
use Rattle.wasm_defs.specs.declared.fault.Kind.{Kind}
use Rattle.wasm_defs.specs.declared.fault.Kind.TheVariants.{Malformed, Unsupported, Limit, Invalid, Ended}
use Rattle.wasm_defs.specs.declared.token.Token.{Token}
use Rattle.wasm_defs.specs.Trees.{Seq, Tree}
use Rattle.wasm_defs.specs.Typing.{Context, IsBody}

-- some tokens after these complete them to structured instructions
abbrev pub IsGrammatical : List Token → Type 0
IsGrammatical tokens = (more : List Token) × (tree : Seq) × Tree (tokens ++ more) tree

-- some tokens after these complete them to a valid body
abbrev pub IsViable : Context → List Token → Type 0
IsViable c tokens = (more : List Token) × (tree : Seq) × Tree (tokens ++ more) tree × IsBody c tree

-- the last of these tokens is wrong, if those before it are viable
abbrev pub IsFaulty : Context → List Token → Kind → Type 0
IsFaulty c tokens Malformed = ¬ IsGrammatical tokens
IsFaulty c tokens Unsupported = ⊥
IsFaulty c tokens Limit = ⊥
IsFaulty c tokens Invalid = IsGrammatical tokens × (¬ IsViable c tokens)
IsFaulty c tokens Ended = ⊥
