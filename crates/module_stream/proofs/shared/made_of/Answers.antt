use Rattle.std.proofs.Common.{Option, subst, rules}
use Rattle.std.specs.Arc.{arc_value}
use Rattle.body_compiler.specs.declared.batch.row.Row.{Row}
use Rattle.body_compiler.specs.BatchRows.{IsRowIf}
use Rattle.module_stream.proofs.Sharing.{reversed_front}
use Rattle.module_stream.proofs.shared.made_of.Goals as goal

pub returns : goal.returns
returns c =
    let row = c.in-Some.row in
    let is = subst (λ (o : Option Row). IsRowIf c.args.spaces.now c.args.cells.now o) c.in-Some.is c.requires in
    reversed_front c.args.spaces.now c.args.cells.now c.args.bodies.now (arc_value row.batch).bodies row.codes c.reverse.new.self.items row.fault row.cut (search rules) (search rules) is
