use Rattle.std.proofs.Common.{arith}
use Rattle.section_reader.proofs.Awaiting.{params_advance, params_await, results_advance, results_await, list_is_placed}
use Rattle.section_reader.proofs.entry_waits.signature_wait.Goals as goal
use Rattle.wasm_laws.proofs.Steady.{advance_fewer}

-- ---- the parameters

pub list_wait-requires : goal.list_wait-requires
list_wait-requires c =
    rw c.fork-first.ensures (advance_fewer c.args.fields.now c.count.new.self (params_advance c.args.seen.now c.args.fields.now c.byte.new.self c.count.new.self c.in-Ok.form c.in-Ok-count.params (rw c.fork-next.ensures at c.in-Ok.ensures.read) c.in-Ok-count.ensures.read))

pub returns-in_default-value_types-clause-awaits : goal.returns-in_default-value_types-clause-awaits
returns-in_default-value_types-clause-awaits c =
    rw (c.list_wait.ensures, c.fork-first.ensures) (params_await c.args.seen.now c.args.fields.now c.byte.new.self c.count.new.self c.in-Ok.form c.in-Ok-count.params (rw c.fork-next.ensures at c.in-Ok.ensures.read) c.in-Ok-count.ensures.read (omega arith))

pub returns-in_default-value_types-clause-placed : goal.returns-in_default-value_types-clause-placed
returns-in_default-value_types-clause-placed c =
    rw (c.list_wait.ensures, c.fork-first.ensures) (list_is_placed c.args.fields.now c.count.new.self _ _ (params_advance c.args.seen.now c.args.fields.now c.byte.new.self c.count.new.self c.in-Ok.form c.in-Ok-count.params (rw c.fork-next.ensures at c.in-Ok.ensures.read) c.in-Ok-count.ensures.read))

-- ---- the results

pub list_wait-requires-2 : goal.list_wait-requires-2
list_wait-requires-2 c =
    advance_fewer c.args.fields.now c.count-2.new.self (results_advance c.args.seen.now c.args.fields.now c.byte.new.self c.count.new.self c.value_types.new.fields c.count-2.new.self c.in-Ok.form c.in-Ok-count.params c.in-Ok-value_types.field-0 c.in-Ok-count-2.results (rw c.fork-next.ensures at c.in-Ok.ensures.read) c.in-Ok-count.ensures.read c.in-Ok-value_types.ensures c.in-Ok-count-2.ensures.read)

pub returns-clause-awaits : goal.returns-clause-awaits
returns-clause-awaits c =
    rw c.list_wait-2.ensures (results_await c.args.seen.now c.args.fields.now c.byte.new.self c.count.new.self c.value_types.new.fields c.count-2.new.self c.in-Ok.form c.in-Ok-count.params c.in-Ok-value_types.field-0 c.in-Ok-count-2.results (rw c.fork-next.ensures at c.in-Ok.ensures.read) c.in-Ok-count.ensures.read c.in-Ok-value_types.ensures c.in-Ok-count-2.ensures.read (omega arith))

pub returns-clause-placed : goal.returns-clause-placed
returns-clause-placed c =
    rw c.list_wait-2.ensures (list_is_placed c.args.fields.now c.count-2.new.self _ _ (results_advance c.args.seen.now c.args.fields.now c.byte.new.self c.count.new.self c.value_types.new.fields c.count-2.new.self c.in-Ok.form c.in-Ok-count.params c.in-Ok-value_types.field-0 c.in-Ok-count-2.results (rw c.fork-next.ensures at c.in-Ok.ensures.read) c.in-Ok-count.ensures.read c.in-Ok-value_types.ensures c.in-Ok-count-2.ensures.read))
