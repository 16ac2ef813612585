-- A body before the first token of its code.
use Rattle.std.specs.Prelude.{◌≡◌, ◌≤◌, ℕ, Bool, List, Ok}
use Rattle.wasm_defs.specs.Bodies.{body_cursor, last_of, local_groups}
use Rattle.wasm_defs.specs.Context.{type_of_function}
use Rattle.wasm_defs.specs.Limits.{max_locals}
use Rattle.wasm_defs.specs.SmallTypes.{TypeIsSmall}
use Rattle.wasm_defs.specs.Typing.{Context}
use Rattle.body_validator.specs.Checking.{start_checker}
use Rattle.body_validator.specs.Checks.{Checked}
use Rattle.body_compiler.specs.declared.opened.OpenedBody.{OpenedBody}
use Rattle.body_compiler.specs.LocalGroups.{Declares}
use Rattle.body_compiler.specs.Steps.{FunctionsAreSmall}

-- the locals of a function's body were read and declared, in a module that counts its data segments or doesn't
pub record IsOpened (counted : Bool) (c : Context) (index first : ℕ) (bytes : List ℕ) (check : Checked) (body : OpenedBody) : Type 0 where
  pub counts : body.counted ≡ counted
  pub function : body.function.now ≡ type_of_function c index
  pub small : TypeIsSmall body.function.now
  pub functions : FunctionsAreSmall check.context
  pub declared : Declares c (type_of_function c index) local_groups (Ok body.locals) (body_cursor first bytes) body.fields check
  pub begun : check.checker ≡ start_checker check.context
  pub few : body.locals ≤ max_locals
  pub last : body.last ≡ last_of first bytes
