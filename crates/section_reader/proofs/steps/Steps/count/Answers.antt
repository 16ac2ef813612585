use Rattle.std.proofs.Common.{subst}
use Rattle.std.proofs.lemmas.Result.{err_from_is_err_and}
use Rattle.section_reader.specs.declared.stage.Stage.{Stage}
use Rattle.section_reader.specs.Near.{IsNear}
use Rattle.section_reader.specs.declared.stage.Stage.TheVariants.{Contents}
use Rattle.section_reader.proofs.Leading.{front_halts}
use Rattle.section_reader.proofs.Telling as telling
use Rattle.section_reader.proofs.Going.{stops_at, front_goes}
use Rattle.section_reader.proofs.Near.{count_near}
use Rattle.section_reader.proofs.steps.Steps.count.Goals as goal

pub returns-in_err-n-clause-stepped : goal.returns-in_err-n-clause-stepped
returns-in_err-n-clause-stepped c =
    let o = c.args.self.now in
    let f = c.args.fields.now in
    let p = err_from_is_err_and c.from_residual.result c.from_residual.ensures.1 in
    let h = rw c.fork-next.ensures at c.in_err-n.ensures in
    rw (p.1, p.2) (stops_at o (Contents c.args.id) f _ c.requires.stage (front_halts o.seen f c.args.id _ h) (λ order apart. telling.front_halts o.seen f c.args.id _ h))

pub returns-clause-stepped : goal.returns-clause-stepped
returns-clause-stepped c =
    let o = c.args.self.now in
    front_goes o.stage o.seen c.args.fields.now c.entry_count.new.fields c.requires.sound c.args.id c.in_ok-n.n c.requires.stage (rw c.fork-next.ensures at c.in_ok-n.ensures)

pub returns-clause-on : goal.returns-clause-on
returns-clause-on c = λ most near.
    let o = c.args.self.now in
    let f = c.args.fields.now in
    count_near most o.seen f c.entry_count.new.fields c.args.id c.in_ok-n.n (rw c.fork-next.ensures at c.in_ok-n.ensures) (subst (λ (s : Stage). IsNear most s o.seen f) c.requires.stage near)
