use Rattle.std.proofs.Common.{subst, sym, ◌∙◌}
use Rattle.std.proofs.lemmas.Result.{err_from_is_err_and}
use Rattle.leb_feed.specs.declared.stop.Stop.TheVariants as stop
use Rattle.section_reader.specs.declared.stage.Stage.{Stage}
use Rattle.section_reader.specs.Near.{IsNear}
use Rattle.section_reader.specs.declared.stage.Stage.TheVariants.{Between}
use Rattle.section_reader.proofs.Leading.{header_halts, between_ends}
use Rattle.section_reader.proofs.Telling as telling
use Rattle.section_reader.proofs.Going.{stops_at, header_goes, none_of, some_of}
use Rattle.section_reader.proofs.Near.{open_near}
use Rattle.section_reader.proofs.steps.Steps.open.Goals as goal

pub returns-then-is_empty-clause-stepped : goal.returns-then-is_empty-clause-stepped
returns-then-is_empty-clause-stepped c =
    let o = c.args.self.now in
    let f = c.args.fields.now in
    let none = none_of c.rest.result.now f.rest c.rest.ensures (sym c.is_empty.ensures ∙ c.if-is_empty.true) in
    stops_at o Between f stop.Wants c.requires.stage (between_ends o.seen f none) (λ order apart. telling.between_ends o.seen f none)

pub returns-in_err-id-clause-stepped : goal.returns-in_err-id-clause-stepped
returns-in_err-id-clause-stepped c =
    let o = c.args.self.now in
    let f = c.args.fields.now in
    let some = some_of c.rest.result.now f.rest c.rest.ensures (sym c.is_empty.ensures ∙ c.if-is_empty.false) in
    let p = err_from_is_err_and c.from_residual.result c.from_residual.ensures.1 in
    let h = rw c.fork-next.ensures at c.in_err-id.ensures.read in
    rw (p.1, p.2) (stops_at o Between f _ c.requires.stage (header_halts o.seen f some.0 some.1 _ some.2 h) (λ order apart. telling.header_halts o.seen f some.0 some.1 _ some.2 h))

pub returns-clause-stepped : goal.returns-clause-stepped
returns-clause-stepped c =
    let o = c.args.self.now in
    let f = c.args.fields.now in
    let some = some_of c.rest.result.now f.rest c.rest.ensures (sym c.is_empty.ensures ∙ c.if-is_empty.false) in
    let h = rw c.fork-next.ensures at c.in_ok-id.ensures.read in
    rw (c.enter.ensures, c.enter-2.ensures) (header_goes o.stage o.seen f c.header.new.fields c.requires.sound (c.in_ok-id.id, c.in_ok-id.end) some.0 some.1 c.requires.stage some.2 h)

pub returns-clause-on : goal.returns-clause-on
returns-clause-on c = λ most near.
    let o = c.args.self.now in
    let f = c.args.fields.now in
    let h = rw c.fork-next.ensures at c.in_ok-id.ensures.read in
    rw (c.enter.ensures, c.enter-2.ensures) (open_near most o.seen f c.header.new.fields (c.in_ok-id.id, c.in_ok-id.end) h (subst (λ (s : Stage). IsNear most s o.seen f) c.requires.stage near))
