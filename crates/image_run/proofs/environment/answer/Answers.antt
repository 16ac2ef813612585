use Rattle.std.proofs.Common.{◌≡◌, ℕ, ◌-◌, ◌%◌, ◌^◌, None, Some, sym, ap, ◌∙◌, subst, arith}
use Rattle.rv_isa.specs.Steps.{reg, text_base}
use Rattle.rv64im_machine.specs.Contents.{state_of}
use Rattle.wasm_defs.specs.Values.{trap_of}
use Rattle.image_format.specs.Contents.{Image}
use Rattle.image_format.specs.ImageRun.{place_told}
use Rattle.image_run.specs.Answers.{Grows}
use Rattle.image_run.proofs.EnvironmentLaws.{finishes, traps, traps_unknown, grows, unknown}
use Rattle.image_run.proofs.environment.answer.Goals as goal

pub returns-in-0-clause-answer : goal.returns-in-0-clause-answer
returns-in-0-clause-answer g c =
    finishes g.row.H.Denot g.H.Host.answers c.args.image.now c.args.host.now (state_of c.args.machine.now) c.args.pages.now (sym c.register.ensures ∙ c.in-0.is)

pub returns-in-Some-clause-answer : goal.returns-in-Some-clause-answer
returns-in-Some-clause-answer g c =
    let s = state_of c.args.machine.now in
    let kind : trap_of (reg s.registers 10) ≡ Some c.in-Some.kind = ap trap_of (sym c.register-a0.ensures) ∙ sym c.of_number.ensures ∙ c.in-Some.is in
    let offset : c.saturating_sub.result ≡ s.pc - 4 - text_base = omega (arith, c.saturating_sub.ensures, c.pc-place.ensures) in
    let told : place_told c.args.image.now.places (s.pc - 4 - text_base) ≡ c.place_told-told.result = sym (c.place_told-told.ensures ∙ ap (place_told c.args.image.now.places) offset) in
    traps g.row.H.Denot g.H.Host.answers c.args.image.now c.args.host.now s c.args.pages.now c.in-Some.kind c.place_told-told.result (sym c.register.ensures ∙ c.in-1.is) kind told

pub returns-in-None-clause-answer : goal.returns-in-None-clause-answer
returns-in-None-clause-answer g c =
    let s = state_of c.args.machine.now in
    let none : trap_of (reg s.registers 10) ≡ None = ap trap_of (sym c.register-a0.ensures) ∙ sym c.of_number.ensures ∙ c.in-None.is in
    rw c.pc-place.ensures (traps_unknown g.row.H.Denot g.H.Host.answers c.args.image.now c.args.host.now s c.args.pages.now (sym c.register.ensures ∙ c.in-1.is) none)

pub returns-in-2-clause-answer : goal.returns-in-2-clause-answer
returns-in-2-clause-answer g c =
    let s = state_of c.args.machine.now in
    let i = c.args.image.now in
    let new = state_of c.grow.new.machine in
    let more = subst (λ (a : ℕ). Grows c.image.inside.cap (a % 2 ^ 32) s new c.args.pages.now c.grow.new.pages) c.register-a0.ensures c.grow.ensures.grown in
    let grown = subst (λ (image : Image). Grows image.cap (reg s.registers 10 % 2 ^ 32) s new c.args.pages.now c.grow.new.pages) c.image.view_is more in
    grows g.row.H.Denot g.H.Host.answers i c.args.host.now s new c.args.pages.now c.grow.new.pages (sym c.register.ensures ∙ c.in-2.is) grown

pub returns-in_default-clause-answer : goal.returns-in_default-clause-answer
returns-in_default-clause-answer g c =
    let s = state_of c.args.machine.now in
    rw c.pc-place.ensures
    (
    unknown g.row.H.Denot g.H.Host.answers c.args.image.now c.args.host.now s c.args.pages.now (λ e. omega (arith, e, c.register.ensures)) (λ e. omega (arith, e, c.register.ensures)) (λ e. omega (arith, e, c.register.ensures))
    (λ e. omega (arith, e, c.register.ensures))
    )
