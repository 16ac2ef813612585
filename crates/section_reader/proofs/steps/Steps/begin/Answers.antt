use Rattle.std.proofs.Common.{subst}
use Rattle.std.proofs.lemmas.Result.{err_from_is_err_and}
use Rattle.section_reader.specs.declared.stage.Stage.{Stage}
use Rattle.section_reader.specs.Near.{IsNear}
use Rattle.section_reader.specs.declared.stage.Stage.TheVariants.{Preamble}
use Rattle.section_reader.proofs.Leading.{preamble_halts}
use Rattle.section_reader.proofs.Telling as telling
use Rattle.section_reader.proofs.Going.{stops_at, preamble_goes}
use Rattle.section_reader.proofs.Near.{preamble_near}
use Rattle.section_reader.proofs.steps.Steps.begin.Goals as goal

pub returns-in_err-preamble-clause-stepped : goal.returns-in_err-preamble-clause-stepped
returns-in_err-preamble-clause-stepped c =
    let o = c.args.self.now in
    let f = c.args.fields.now in
    let p = err_from_is_err_and c.from_residual.result c.from_residual.ensures.1 in
    let h = rw c.fork-next.ensures at c.in_err-preamble.ensures.read in
    rw (p.1, p.2) (stops_at o Preamble f _ c.requires.stage (preamble_halts o.seen f _ h) (λ order apart. telling.preamble_halts o.seen f _ h))

pub returns-clause-stepped : goal.returns-clause-stepped
returns-clause-stepped c =
    let o = c.args.self.now in
    preamble_goes o.stage o.seen c.args.fields.now c.preamble.new.fields c.requires.sound _ c.requires.stage (rw c.fork-next.ensures at c.in_ok-preamble.ensures.read)

pub returns-clause-on : goal.returns-clause-on
returns-clause-on c = λ most near.
    let o = c.args.self.now in
    let f = c.args.fields.now in
    preamble_near most o.seen f c.preamble.new.fields _ (rw c.fork-next.ensures at c.in_ok-preamble.ensures.read) (subst (λ (s : Stage). IsNear most s o.seen f) c.requires.stage near)
