use Rattle.std.proofs.Common.{subst}
use Rattle.std.proofs.lemmas.Result.{err_from_is_err_and}
use Rattle.section_reader.specs.declared.stage.Stage.{Stage}
use Rattle.section_reader.specs.Near.{IsNear}
use Rattle.section_reader.specs.declared.stage.Stage.TheVariants.{Entries}
use Rattle.section_reader.proofs.Leading.{entry_halts}
use Rattle.section_reader.proofs.Telling as telling
use Rattle.section_reader.proofs.Going.{stops_at, entry_goes}
use Rattle.section_reader.proofs.Near.{entry_near}
use Rattle.section_reader.proofs.steps.Steps.read.Goals as goal

pub returns-in_err-item-clause-stepped : goal.returns-in_err-item-clause-stepped
returns-in_err-item-clause-stepped c =
    let o = c.args.self.now in
    let f = c.args.fields.now in
    let id = c.args.id in
    let n = c.args.n in
    let p = err_from_is_err_and c.from_residual.result c.from_residual.ensures.1 in
    let h = rw c.fork-next.ensures at c.in_err-item.ensures in
    rw (p.1, p.2) (stops_at o (Entries id n) f _ c.requires.stage (entry_halts o.seen f id n _ c.requires.some h) (λ order apart. telling.entry_halts o.seen f id n _ c.requires.some order h))

pub returns-clause-stepped : goal.returns-clause-stepped
returns-clause-stepped c =
    let o = c.args.self.now in
    rw c.in_ok-note_item.ensures.ok (entry_goes o.stage o.seen c.args.fields.now c.next_item.new.fields c.requires.sound c.args.id c.args.n c.in_ok-item.item c.requires.stage c.requires.some (rw c.fork-next.ensures at c.in_ok-item.ensures))

pub returns-clause-near : goal.returns-clause-near
returns-clause-near c =
    let o = c.args.self.now in
    let f = c.args.fields.now in
    entry_near c.args.most o.seen f c.next_item.new.fields c.args.id c.args.n c.in_ok-item.item c.requires.some (rw c.fork-next.ensures at c.in_ok-item.ensures) (subst (λ (s : Stage). IsNear c.args.most s o.seen f) c.requires.stage c.requires.before)
