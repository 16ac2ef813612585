use Rattle.std.proofs.Common.{arith, ap, sym, length, ◌<◌, ◌≤◌}
use Rattle.wasm_defs.specs.Fields.{room_of}
use Rattle.section_reader.proofs.Texts.{name_awaits}
use Rattle.section_reader.proofs.entry_waits.name_wait.Goals as goal

pub returns-in-Some-clause-awaits : goal.returns-in-Some-clause-awaits
returns-in-Some-clause-awaits c =
    let d = c.u32.new.self in
    let fits : c.in-Ok.len.1 ≤ room_of d = omega arith in
    let owed : length d.rest < c.in-Ok.len.1 = omega (arith, ap length c.rest-text.ensures) in
    rw c.rest-text.ensures (λ from. name_awaits c.args.fields.now d c.in-Ok.len c.between.result c.in-Some.inside c.between.ensures (rw c.fork-next.ensures at c.in-Ok.ensures.read) fits owed (rw c.rest-text.ensures at (sym c.in-Some.ensures)) from)
