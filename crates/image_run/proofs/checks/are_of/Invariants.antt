use Rattle.std.proofs.Common.{◌≡◌, drop, map}
use Rattle.wasm_defs.specs.Values.{type_of}
use Rattle.wasm_defs.specs.Typing.{same_types}
use Rattle.image_run.proofs.checks.are_of.Given as goal

abbrev pub invariant-loop-i : goal.invariant-loop-i
invariant-loop-i l = same_types (map type_of (drop l.i l.arguments)) (drop l.i l.types) ≡ same_types (map type_of l.arguments) l.types
