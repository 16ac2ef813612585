use Rattle.std.proofs.Common.{Option, subst, rules}
use Rattle.std.specs.Prelude.{IfSome}
use Rattle.body_cutter.specs.Bodies.{body_of}
use Rattle.body_compiler.specs.declared.batch.row.RowCode.{RowCode}
use Rattle.body_compiler.specs.BatchRows.{IsCodeFor}
use Rattle.module_stream.proofs.Sharing.{made_for}
use Rattle.module_stream.proofs.shared.take_next.Goals as goal

pub take_stored-requires-clause-code : goal.take_stored-requires-clause-code
take_stored-requires-clause-code c =
    made_for c.args.spaces.now c.args.cells.now c.args.codes.now.count _ (body_of c.args.body) c.in-Some.made (search rules) (search rules)
    (subst (λ (o : Option RowCode). IfSome o (IsCodeFor c.args.spaces.now c.args.cells.now (body_of c.args.body))) c.in-Some.is c.requires.made)
