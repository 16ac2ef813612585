-- What the code's rules and block types mean.
use Rattle.std.specs.Prelude.{◌≡◌, Bool, List, [], reverse, Option, None, Some}
use Rattle.std.specs.Borrow.{Bor}
use Rattle.wasm_defs.specs.declared.types.ValType.{ValType}
use Rattle.wasm_defs.specs.declared.token.BlockType.{BlockType}
use Rattle.wasm_defs.specs.Typing.{Types, Context, Rule, Untyped, Fixed, Stops, Discards, Selects, block_type}
use Rattle.body_validator.specs.declared.instruction_types.Rule.{Rule as Given}
use Rattle.body_validator.specs.declared.instruction_types.Rule.TheVariants as given
use Rattle.body_validator.specs.declared.stack.Opening.{Opening}
use Rattle.body_validator.specs.Checking.{Frames, ◌>>=◌, enter}
use Rattle.body_validator.specs.Exchange.{taken_types, with_condition}
use Rattle.body_validator.specs.Stacks.{signature}

abbrev pub with_labels : Context → List Types → Context
with_labels c labels = record c { labels = labels }

-- the context of a body, in which no label is open but its own
abbrev pub unlabelled : Context → Context
unlabelled c = with_labels c []

abbrev pub with_locals : Context → Types → Context
with_locals c locals = record c { locals = locals }

abbrev pub rule_meant : Option Given → Rule
rule_meant None = Untyped
rule_meant (Some (given.Fixed taken left)) = Fixed (taken_types taken) (reverse left.now)
rule_meant (Some (given.Stops taken)) = Stops (taken_types taken)
rule_meant (Some given.Discards) = Discards
rule_meant (Some given.Selects) = Selects

abbrev pub IsBlockType : Context → BlockType → Bor (List ValType) × Bor (List ValType) → Type 0
IsBlockType c type s = block_type c type ≡ Some (signature s.0.now s.1.now)

-- the frames at the beginning of a block
abbrev pub begun : Context → Opening → BlockType → Bool → Frames → Option Frames
begun c opening type condition fs = block_type c type >>= λ s. enter opening s (with_condition condition s.params) fs
