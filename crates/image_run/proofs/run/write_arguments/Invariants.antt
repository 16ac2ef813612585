use Rattle.std.proofs.Common.{◌≡◌, drop, map, length}
use Rattle.rv_isa.specs.declared.stepping.Region.TheVariants.{Stack}
use Rattle.rv64im_machine.specs.Lending.{with_bytes}
use Rattle.wasm_defs.specs.Values.{value_of, words_of}
use Rattle.image_format.specs.Environment.{with_words}
use Rattle.image_run.proofs.run.write_arguments.Given as goal

abbrev pub invariant-loop-i : goal.invariant-loop-i
invariant-loop-i l = record {
  others : l.machine ≡ with_bytes l.fn.machine Stack l.machine.bytes.stack;
  long : length l.machine.bytes.stack ≡ length l.fn.machine.bytes.stack;
  stack : with_words l.machine.bytes.stack l.i (words_of (map value_of (drop l.i l.arguments))) ≡ with_words l.fn.machine.bytes.stack 0 (words_of (map value_of l.arguments));
}
