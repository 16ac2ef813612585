use Rattle.std.proofs.Common.{◌≡◌, ◌+◌, ◌*◌, ◌++◌, drop, take, map}
use Rattle.wasm_defs.specs.Values.{value_of}
use Rattle.image_format.specs.ImageRun.{values_at}
use Rattle.image_run.proofs.imports.read_arguments.Given as goal

abbrev pub invariant-loop-i : goal.invariant-loop-i
invariant-loop-i l = map value_of (take l.i l.room) ++ values_at l.stack (l.at + 8 * l.i) (drop l.i l.types) ≡ values_at l.stack l.at l.types
