use Rattle.std.proofs.Common.{arith, ap, length, ◌≤◌, ◌<◌, ◌+◌, ◌-◌}
use Rattle.wasm_defs.specs.Fields.{room_of}
use Rattle.section_reader.proofs.Awaiting.{bytes_await}
use Rattle.section_reader.proofs.entry_waits.bytes_wait.Goals as goal

pub returns-clause-awaits : goal.returns-clause-awaits
returns-clause-awaits c = λ from.
    let f = c.u32.new.self in
    let fits : c.in-Ok.len.1 ≤ room_of f = omega arith in
    let owed : length f.rest + (c.from-owed.result - length c.rest.result.now - 1) < c.in-Ok.len.1 = omega (arith, ap length c.rest.ensures) in
    bytes_await c.args.fields.now f from c.in-Ok.len (c.from-owed.result - length c.rest.result.now - 1) (rw c.fork-next.ensures at c.in-Ok.ensures.read) fits owed
