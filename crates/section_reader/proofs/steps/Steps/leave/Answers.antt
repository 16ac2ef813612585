use Rattle.std.proofs.Common.{subst}
use Rattle.std.proofs.lemmas.Result.{err_from_is_err_and}
use Rattle.section_reader.specs.declared.stage.Stage.{Stage}
use Rattle.section_reader.specs.Near.{IsNear}
use Rattle.section_reader.specs.declared.stage.Stage.TheVariants.{Entries}
use Rattle.section_reader.proofs.Leading.{end_halts}
use Rattle.section_reader.proofs.Telling as telling
use Rattle.section_reader.proofs.Going.{stops_at, back_goes, nothing_back}
use Rattle.section_reader.proofs.Near.{back_near}
use Rattle.section_reader.proofs.steps.Steps.leave.Goals as goal

pub returns-in_err-section_end-clause-stepped : goal.returns-in_err-section_end-clause-stepped
returns-in_err-section_end-clause-stepped c =
    let o = c.args.self.now in
    let f = c.args.fields.now in
    let id = c.args.id in
    let p = err_from_is_err_and c.from_residual.result c.from_residual.ensures.1 in
    let h = rw c.fork-next.ensures at c.in_err-section_end.ensures.read in
    let back = nothing_back id f c.requires.listing in
    rw (p.1, p.2) (stops_at o (Entries id 0) f _ c.requires.stage (end_halts o.seen f id f _ back h) (λ order apart. telling.end_halts o.seen f id f _ apart back h))

pub returns-clause-stepped : goal.returns-clause-stepped
returns-clause-stepped c =
    let o = c.args.self.now in
    back_goes o.stage o.seen c.args.fields.now c.args.fields.now c.requires.sound c.args.id c.section_end.new.fields c.requires.stage (nothing_back c.args.id c.args.fields.now c.requires.listing) (rw c.fork-next.ensures at c.in_ok-section_end.ensures.read)

pub returns-clause-on : goal.returns-clause-on
returns-clause-on c = λ most near.
    let o = c.args.self.now in
    let f = c.args.fields.now in
    back_near most o.seen f f c.args.id c.section_end.new.fields (nothing_back c.args.id f c.requires.listing) (rw c.fork-next.ensures at c.in_ok-section_end.ensures.read) (subst (λ (s : Stage). IsNear most s o.seen f) c.requires.stage near)
