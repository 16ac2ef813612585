-- Instructions that come often: those that have one index, and those that end a part of a block.
use Rattle.std.specs.Prelude.{ℕ}
use Rattle.wasm_defs.specs.declared.token.Plain.{Plain}
use Rattle.wasm_defs.specs.declared.token.Plain.TheVariants as plain
use Rattle.wasm_defs.specs.declared.token.Token.{Token}
use Rattle.wasm_defs.specs.declared.token.Token.TheVariants as token
use Rattle.body_compiler.specs.declared.token_loop.Closing.{Closing}
use Rattle.body_compiler.specs.declared.token_loop.Closing.TheVariants as closings
use Rattle.body_compiler.specs.declared.token_loop.Indexed.{Indexed}
use Rattle.body_compiler.specs.declared.token_loop.Indexed.TheVariants.{BrIf, LocalGet, LocalSet, LocalTee, GlobalGet, GlobalSet}

-- the instruction with an index
abbrev pub indexed : Indexed → ℕ → Plain
indexed BrIf x = plain.BrIf x
indexed LocalGet x = plain.LocalGet x
indexed LocalSet x = plain.LocalSet x
indexed LocalTee x = plain.LocalTee x
indexed GlobalGet x = plain.GlobalGet x
indexed GlobalSet x = plain.GlobalSet x

-- `else` or `end`
abbrev pub closing : Closing → Token
closing closings.Else = token.Else
closing closings.End = token.End
