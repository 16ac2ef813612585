use Rattle.std.proofs.Common.{◌-◌}
use Rattle.std.proofs.lemmas.List.{map-append}
use Rattle.rv_isa.specs.Words.{word_of}
use Rattle.frame_layout.specs.Slots.{operand}
use Rattle.frame_layout.specs.Macros.{t0, store_slot}
use Rattle.frame_layout.specs.Bodies.{compare_body}
use Rattle.integer_emit.proofs.compare.compare.Goals as goal

pub returns-in-Some-clause-ok : goal.returns-in-Some-clause-ok
returns-in-Some-clause-ok c = λ w same.
    let body = rw c.in-Some.is at c.words_of-word.ensures in
    let store = store_slot t0 (operand c.args.layout.now (c.args.height - 2)) in
    rw (same, map-append word_of (compare_body c.args.op) store, body)
    (rw (
      c.slot_load.ensures,
      c.slot_load-2.ensures,
      c.slot_store.ensures,
      c.operand-first.ensures,
      c.operand-second.ensures,
    ) at c.append.ensures.ok)
