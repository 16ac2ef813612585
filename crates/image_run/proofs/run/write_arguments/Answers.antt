use Rattle.std.proofs.Common.{◌+◌, List, drop, map, sym, ap, ◌∙◌}
use Rattle.std.proofs.lemmas.List.{at_drop_more}
use Rattle.wasm_defs.specs.declared.value.Value.{Value}
use Rattle.wasm_defs.specs.Values.{value_of, words_of}
use Rattle.rv64im_machine.specs.Contents.{Contents as Machine}
use Rattle.image_format.specs.Environment.{with_words}
use Rattle.image_run.proofs.SizeLaws.{written_again}
use Rattle.image_run.proofs.run.write_arguments.Goals as goal

pub loop-i-preserved : goal.loop-i-preserved
loop-i-preserved c =
    let l = c.loop-i in
    let arguments = c.args.arguments.now in
    let rest = words_of (map value_of (drop (l.i + 1) arguments)) in
    let next = at_drop_more (λ (vs : List Value). with_words l.machine.bytes.stack l.i (words_of (map value_of vs))) arguments l.i _ c.loop-i-test.true in
    record {
      others = written_again c.args.machine.now l.machine c.write_value.new.machine _ l.invariant.others c.write_value.ensures.written;
      long = c.write_value.ensures.kept.stack ∙ l.invariant.long;
      stack = ap (λ (m : Machine). with_words m.bytes.stack (l.i + 1) rest) c.write_value.ensures.written ∙ sym next ∙ l.invariant.stack;
    }
