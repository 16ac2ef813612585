-- What the environment does at a call.
use Rattle.std.proofs.Common.{◌≡◌, ℕ, ◌-◌, ◌%◌, ◌^◌, List, [], Option, None, Some, refl, sym, subst}
use Rattle.std.specs.Prelude.{◌≢◌}
use Rattle.std.proofs.lemmas.List.{append-nil}
use Rattle.std.proofs.lemmas.Bool.{ne_eqb}
use Rattle.rv_isa.specs.Steps.{State, reg, text_base}
use Rattle.rv_isa.specs.declared.stepping.FaultKind.TheVariants.{Call}
use Rattle.wasm_defs.specs.declared.types.ValType.{ValType}
use Rattle.wasm_defs.specs.declared.place.Place.{Place}
use Rattle.wasm_defs.specs.declared.value.TrapKind.{TrapKind}
use Rattle.wasm_defs.specs.Values.{trap_of}
use Rattle.wasm_defs.specs.Host.{HostCall, Reply}
use Rattle.image_format.specs.Contents.{Image}
use Rattle.image_format.specs.Environment.{Entry}
use Rattle.image_format.specs.ImageRun.{Running, environment, place_told, trapped}
use Rattle.image_run.specs.declared.answer.Answer.{Answer}
use Rattle.image_run.specs.declared.answer.Answer.TheVariants.{GoesOn, Ended, Over}
use Rattle.image_run.specs.declared.outcome.Outcome.TheVariants.{Trapped, Fault}
use Rattle.image_run.specs.States.{at}
use Rattle.image_run.specs.Answers.{Says, Grows, Answered}

module _ (H : Type 0) (Calls : H → HostCall → Reply → H → Type 0) (i : Image) (host : H) (old : State) where
  -- nothing is called
  pub quiet : (new : State) (pages pages_now : ℕ) (answer : Answer)
      → ((calls : List HostCall) (replies : List Reply) (results : List ValType) (later : List (Entry × List ValType))
      → Says answer (at new pages_now calls replies results later) (environment i (at old pages calls replies results later) (old.pc - 4)))
      → Answered Calls i host host old new pages pages_now answer
  quiet new pages pages_now answer says = record {
    calls = [];
    replies = [];
    leads = refl;
    says = λ before more results later.
        subst (λ (calls : List HostCall). Says answer (at new pages_now calls more results later) (environment i (at old pages before more results later) (old.pc - 4))) (sym (append-nil before)) (says before more results later);
  }

  pub finishes : (pages : ℕ) → reg old.registers 17 ≡ 0 → Answered Calls i host host old old pages pages Ended
  finishes pages is = quiet old pages pages Ended (λ calls replies results later. rw is refl)

  traps_say : (r : Running) (kind : TrapKind) (place : Option Place) (o : Option TrapKind) → o ≡ Some kind → place_told i.places (r.machine.pc - 4 - text_base) ≡ place
      → Says (Over (Trapped kind place)) r (trapped i.places r (old.pc - 4) o)
  traps_say r kind place None e told = absurd (cc)
  traps_say r kind place (Some k) e told = rw (same_kind k kind e, told) (tt, refl, (_, refl))
    where
      same_kind : (a b : TrapKind) → Some a ≡ Some b → a ≡ b
      same_kind a b e = cc

  pub traps : (pages : ℕ) (kind : TrapKind) (place : Option Place) → reg old.registers 17 ≡ 1 → trap_of (reg old.registers 10) ≡ Some kind → place_told i.places (old.pc - 4 - text_base) ≡ place
      → Answered Calls i host host old old pages pages (Over (Trapped kind place))
  traps pages kind place is e told = quiet old pages pages (Over (Trapped kind place)) (λ calls replies results later.
      rw is (traps_say (at old pages calls replies results later) kind place (trap_of (reg old.registers 10)) e told))

  pub traps_unknown : (pages : ℕ) → reg old.registers 17 ≡ 1 → trap_of (reg old.registers 10) ≡ None → Answered Calls i host host old old pages pages (Over (Fault Call (old.pc - 4)))
  traps_unknown pages is e = quiet old pages pages (Over (Fault Call (old.pc - 4))) (λ calls replies results later. rw (is, e) (tt, refl, refl))

  pub grows : (new : State) (pages pages_now : ℕ) → reg old.registers 17 ≡ 2 → Grows i.cap (reg old.registers 10 % 2 ^ 32) old new pages pages_now → Answered Calls i host host old new pages pages_now GoesOn
  grows new pages pages_now is h = quiet new pages pages_now GoesOn (λ calls replies results later. rw is (h calls replies results later))

  pub unknown : (pages : ℕ) → reg old.registers 17 ≢ 0 → reg old.registers 17 ≢ 1 → reg old.registers 17 ≢ 2 → reg old.registers 17 ≢ 3 → Answered Calls i host host old old pages pages (Over (Fault Call (old.pc - 4)))
  unknown pages a b c d = quiet old pages pages (Over (Fault Call (old.pc - 4))) (λ calls replies results later.
      rw (ne_eqb (reg old.registers 17) 0 a, ne_eqb (reg old.registers 17) 1 b, ne_eqb (reg old.registers 17) 2 c, ne_eqb (reg old.registers 17) 3 d) (tt, refl, refl))
