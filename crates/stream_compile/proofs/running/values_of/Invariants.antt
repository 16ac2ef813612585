use Rattle.std.proofs.Common.{◌≡◌, ◌++◌, true, drop, map}
use Rattle.wasm_defs.specs.Values.{value_of}
use Rattle.wasm_defs.specs.Host.{all_in_range}
use Rattle.stream_compile.specs.Texts.{given_value}
use Rattle.stream_compile.proofs.running.values_of.Given as goal

abbrev pub invariant-loop-argument : goal.invariant-loop-argument
invariant-loop-argument l =
    (l.values.items ++ map given_value (drop l.argument-index l.arguments) ≡ map given_value l.arguments) × (all_in_range (map value_of l.values.items) ≡ true)
