use Rattle.std.proofs.Common.{◌≡◌, ℕ, Bool, true, false, List, Option, None, Some, length, sym, ap, ◌∙◌, subst}
use Rattle.std.specs.Prelude.{max, slice_get}
use Rattle.rv_isa.specs.Steps.{reg}
use Rattle.rv64im_machine.specs.Contents.{state_of}
use Rattle.wasm_defs.specs.declared.types.FuncType.{FuncType}
use Rattle.wasm_defs.specs.declared.types.ValType.{ValType}
use Rattle.image_format.specs.ImageRun.{slots_at}
use Rattle.image_run.specs.Answers.{Replies}
use Rattle.image_run.proofs.ImportLaws.{no_import, no_slots, reply_goes, reply_stops, call_at}
use Rattle.image_run.proofs.imports.call_import.Given.{Over}
use Rattle.image_run.proofs.imports.call_import.Goals as goal
use Rattle.image_run.proofs.imports.call_import.Goals.{In-Some, After-as_slice, After-call_host}

-- the import that is called
found : (g : Over) (c : In-Some g) → slice_get c.args.image.now.imports (reg (state_of c.args.machine.now).registers 10) ≡ Some c.in-Some.import.now
found g c = ap (λ (n : ℕ). slice_get c.args.image.now.imports n) (sym c.register-number.ensures) ∙ sym c.in-Some.ensures.import

-- where its slots are
slots : (g : Over) (c : After-as_slice g) (there : Option ℕ) → there ≡ slots_at c.register.result (max 1 (length c.as_slice.result.now))
    → slots_at (reg (state_of c.args.machine.now).registers 8) (max 1 (length c.in-Some.import.now.signature.params)) ≡ there
slots g c there is =
    ap (λ (ps : List ValType). slots_at (reg (state_of c.args.machine.now).registers 8) (max 1 (length ps))) (sym (c.as_slice.ensures ∙ ap (λ (t : FuncType). t.params) c.deref-signature.ensures))
    ∙ ap (λ (a : ℕ). slots_at a (max 1 (length c.as_slice.result.now))) (sym c.register.ensures) ∙ sym is

-- the host's reply, by whether the run goes on
replied : (g : Over) (c : After-call_host g) (goes : Bool) → c.call_host.result ≡ goes
    → Replies g.H.Host.answers c.args.host.now c.call_host.new.host
    (call_at c.args.machine.now c.args.pages (reg (state_of c.args.machine.now).registers 10) c.in-Some-slots_at.at c.in-Some.import.now.signature.params)
    c.in-Some.import.now.signature.results goes c.in-Some-slots_at.at c.args.machine.now c.call_host.new.machine
replied g c goes is =
    let m = c.args.machine.now in
    let t = c.in-Some.import.now.signature in
    let at = c.in-Some-slots_at.at in
    subst (λ (b : Bool). Replies g.H.Host.answers c.args.host.now c.call_host.new.host (call_at m c.args.pages (reg (state_of m).registers 10) at t.params) t.results b at m c.call_host.new.machine) is
    (subst (λ (n : ℕ). Replies g.H.Host.answers c.args.host.now c.call_host.new.host (call_at m c.args.pages n at t.params) t.results c.call_host.result at m c.call_host.new.machine) c.register-number.ensures
    (subst (λ (s : FuncType). Replies g.H.Host.answers c.args.host.now c.call_host.new.host (call_at m c.args.pages c.register-number.result at s.params) s.results c.call_host.result at m c.call_host.new.machine) c.deref-signature.ensures c.call_host.ensures.replied))

pub returns-in_default-clause-answer : goal.returns-in_default-clause-answer
returns-in_default-clause-answer g c =
    let i = c.args.image.now in
    let m = c.args.machine.now in
    let none : slice_get i.imports (reg (state_of m).registers 10) ≡ None = ap (λ (n : ℕ). slice_get i.imports n) (sym c.register-number.ensures) ∙ sym c.in_default.ensures.import in
    rw c.pc.ensures (no_import g.row.H.Denot g.H.Host.answers i c.args.host.now m c.args.pages c.requires.call none)

pub returns-in_default-slots_at-clause-answer : goal.returns-in_default-slots_at-clause-answer
returns-in_default-slots_at-clause-answer g c =
    let from = goal.at.returns-in_default-slots_at-clause-answer g c in
    rw c.pc.ensures (
    no_slots g.row.H.Denot g.H.Host.answers c.args.image.now c.args.host.now c.args.machine.now c.args.pages c.requires.call c.in-Some.import.now (found g from.In-Some)
    (slots g from.After-as_slice None c.in_default-slots_at.ensures))

pub returns-then-call_host-clause-answer : goal.returns-then-call_host-clause-answer
returns-then-call_host-clause-answer g c =
    let from = goal.at.returns-then-call_host-clause-answer g c in
    let there = slots g from.After-as_slice (Some c.in-Some-slots_at.at) c.in-Some-slots_at.ensures in
    reply_goes g.row.H.Denot g.H.Host.answers c.args.image.now c.args.host.now c.args.machine.now c.args.pages c.requires.call c.in-Some.import.now (found g from.In-Some) c.in-Some-slots_at.at there
    c.call_host.new.host c.call_host.new.machine (replied g from.After-call_host true c.if-call_host.true)

pub returns-else-call_host-clause-answer : goal.returns-else-call_host-clause-answer
returns-else-call_host-clause-answer g c =
    let from = goal.at.returns-else-call_host-clause-answer g c in
    let there = slots g from.After-as_slice (Some c.in-Some-slots_at.at) c.in-Some-slots_at.ensures in
    reply_stops g.row.H.Denot g.H.Host.answers c.args.image.now c.args.host.now c.args.machine.now c.args.pages c.requires.call c.in-Some.import.now (found g from.In-Some) c.in-Some-slots_at.at there
    c.call_host.new.host c.call_host.new.machine (replied g from.After-call_host false c.if-call_host.false)
