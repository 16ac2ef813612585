use Rattle.std.proofs.Common.{◌≡◌, reverse, drop}
use Rattle.wasm_defs.specs.Typing.{are_labels}
use Rattle.body_validator.specs.Checking.{labels}
use Rattle.body_validator.proofs.instruction_types.are_all_labels.Given as goal

abbrev pub invariant-loop-index : goal.invariant-loop-index
invariant-loop-index l =
    are_labels (labels l.stack) (reverse l.types) (drop l.index-index l.indices) ≡ are_labels (labels l.stack) (reverse l.types) l.indices
