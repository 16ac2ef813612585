use Rattle.std.proofs.Common.{subst, arith, ap, ◌∙◌, length, ◌<◌, ◌≡◌}
use Rattle.std.proofs.lemmas.Result.{err_from_is_err_and}
use Rattle.wasm_defs.specs.Fields.{room_of}
use Rattle.leb_feed.specs.declared.stop.Stop.TheVariants as stop
use Rattle.section_reader.specs.declared.stage.Stage.{Stage}
use Rattle.section_reader.specs.Near.{IsNear}
use Rattle.section_reader.specs.declared.stage.Stage.TheVariants.{Entries}
use Rattle.section_reader.proofs.Leading.{back_halts, end_halts, pass_halts}
use Rattle.section_reader.proofs.Telling as telling
use Rattle.section_reader.proofs.Going.{stops_at, back_goes, rest_back, run_stops_at, pass_goes_at}
use Rattle.section_reader.proofs.Near.{back_near, run_is_near}
use Rattle.section_reader.proofs.steps.Steps.pass.Goals as goal

pub returns-in_err-rest_of_section-clause-stepped : goal.returns-in_err-rest_of_section-clause-stepped
returns-in_err-rest_of_section-clause-stepped c =
    let o = c.args.self.now in
    let f = c.args.fields.now in
    let id = c.args.id in
    let p = err_from_is_err_and c.from_residual.result c.from_residual.ensures.1 in
    let h = rw c.fork-next.ensures at c.in_err-rest_of_section.ensures.read in
    rw (p.1, p.2) (stops_at o (Entries id 0) f _ c.requires.stage (back_halts o.seen f id _ (rw (rest_back id f c.requires.passing) h)) (λ order apart. telling.back_halts o.seen f id _ apart (rw (rest_back id f c.requires.passing) h)))

pub returns-in_err-section_end-clause-stepped : goal.returns-in_err-section_end-clause-stepped
returns-in_err-section_end-clause-stepped c =
    let o = c.args.self.now in
    let f = c.args.fields.now in
    let id = c.args.id in
    let d = c.rest_of_section.new.fields in
    let p = err_from_is_err_and c.from_residual-in_err-section_end.result c.from_residual-in_err-section_end.ensures.1 in
    let back = rest_back id f c.requires.passing ∙ (rw c.fork-next.ensures at c.in_ok-rest_of_section.ensures.read) in
    let h = c.in_err-section_end.ensures.read in
    rw (p.1, p.2) (stops_at o (Entries id 0) f _ c.requires.stage (end_halts o.seen f id d _ back h) (λ order apart. telling.end_halts o.seen f id d _ apart back h))

pub returns-then-room-there-clause-stepped : goal.returns-then-room-there-clause-stepped
returns-then-room-there-clause-stepped c =
    let o = c.args.self.now in
    back_goes o.stage o.seen c.args.fields.now c.rest_of_section.new.fields c.requires.sound c.args.id c.section_end.new.fields c.requires.stage (rest_back c.args.id c.args.fields.now c.requires.passing ∙ (rw c.fork-next.ensures at c.in_ok-rest_of_section.ensures.read)) c.in_ok-section_end.ensures.read

pub returns-then-there-eq0-clause-stepped : goal.returns-then-there-eq0-clause-stepped
returns-then-there-eq0-clause-stepped c =
    let o = c.args.self.now in
    let f = c.args.fields.now in
    let id = c.args.id in
    let none : length f.rest ≡ 0 = omega (arith, ap length c.rest.ensures) in
    let some : 0 < room_of f = omega (arith, ap length c.rest.ensures) in
    stops_at o (Entries id 0) f stop.Wants c.requires.stage (pass_halts o.seen f id c.requires.passing none some) (λ order apart. telling.pass_halts o.seen f id apart c.requires.passing none some)

pub returns-in_err-run-clause-stepped : goal.returns-in_err-run-clause-stepped
returns-in_err-run-clause-stepped c =
    let p = err_from_is_err_and c.from_residual-in_err-run.result c.from_residual-in_err-run.ensures.1 in
    rw (p.1, p.2) (run_stops_at c.args.self.now c.args.fields.now _ _ (ap length c.rest.ensures) (omega arith) (rw c.fork-next-2.ensures at c.in_err-run.ensures.read))

pub returns-clause-stepped : goal.returns-clause-stepped
returns-clause-stepped c =
    let o = c.args.self.now in
    pass_goes_at o.stage o.seen c.args.fields.now c.run.new.self c.args.id _ _ c.requires.sound c.requires.stage c.requires.passing (ap length c.rest.ensures) (omega arith) (omega arith) (rw c.fork-next-2.ensures at c.in_ok-run.ensures.read)

pub returns-then-room-there-clause-on : goal.returns-then-room-there-clause-on
returns-then-room-there-clause-on c = λ most near.
    let o = c.args.self.now in
    let f = c.args.fields.now in
    back_near most o.seen f c.rest_of_section.new.fields c.args.id c.section_end.new.fields (rest_back c.args.id f c.requires.passing ∙ (rw c.fork-next.ensures at c.in_ok-rest_of_section.ensures.read)) c.in_ok-section_end.ensures.read (subst (λ (s : Stage). IsNear most s o.seen f) c.requires.stage near)

pub returns-clause-on : goal.returns-clause-on
returns-clause-on c = λ most near.
    run_is_near most c.args.self.now.stage c.args.self.now.seen _ c.args.fields.now c.run.new.self _ (rw c.fork-next-2.ensures at c.in_ok-run.ensures.read) (ap length c.rest.ensures)
