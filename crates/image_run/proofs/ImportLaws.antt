-- Calls of imported functions: the host's reply, and what the environment makes of it.
use Rattle.std.proofs.Common.{◌≡◌, ℕ, ◌-◌, ◌*◌, true, false, List, [], ◌∷◌, ◌++◌, take, length, Option, None, Some, refl, sym, ap}
use Rattle.std.specs.Prelude.{max, slice_get}
use Rattle.rv_isa.specs.Steps.{reg}
use Rattle.rv_isa.specs.declared.stepping.FaultKind.TheVariants.{Call}
use Rattle.rv64im_machine.specs.Contents.{Contents as Machine, state_of}
use Rattle.wasm_defs.specs.declared.types.ValType.{ValType}
use Rattle.wasm_defs.specs.Memory.{page}
use Rattle.wasm_defs.specs.Host.{HostCall, Reply, Taken, Goes, Stops, taken}
use Rattle.image_format.specs.Contents.{Image}
use Rattle.image_format.specs.declared.image.Import.{Import}
use Rattle.image_format.specs.Environment.{Entry}
use Rattle.wasm_defs.specs.ModuleRun as run
use Rattle.image_format.specs.ImageRun.{As, To, answered, slots_at, values_at}
use Rattle.image_run.specs.declared.answer.Answer.TheVariants.{GoesOn, Over}
use Rattle.image_run.specs.declared.outcome.Outcome.TheVariants.{HostStopped, Fault}
use Rattle.image_run.specs.States.{at}
use Rattle.image_run.specs.Answers.{Says, Answered, Takes, Replies}
use Rattle.image_run.proofs.EnvironmentLaws.{quiet}

-- the call that a machine's stack and memory give
abbrev pub call_at : Machine → (pages number at : ℕ) → List ValType → HostCall
call_at m pages number at params = record { number = number; arguments = values_at m.bytes.stack at params; memory = take (page * pages) m.bytes.memory }

-- a reply that is taken
goes : (t : Taken) (slot pages : ℕ) (old new : Machine) (calls : List HostCall) (replies more : List Reply) (results : List ValType) (later : List (Entry × List ValType)) → Takes true t slot old new
    → Says GoesOn (at (state_of new) pages calls more results later) (answered (at (state_of old) pages calls replies results later) more slot t)
goes (Goes values memory) slot pages old new calls replies more results later h =
    ap (λ (m : Machine). To (at (state_of m) pages calls more results later)) (sym h)
goes Stops slot pages old new calls replies more results later h = absurd h

stops : (t : Taken) (slot pages : ℕ) (old new : Machine) (calls : List HostCall) (replies more : List Reply) (results : List ValType) (later : List (Entry × List ValType)) → Takes false t slot old new
    → Says (Over HostStopped) (at (state_of new) pages calls more results later) (answered (at (state_of old) pages calls replies results later) more slot t)
stops (Goes values memory) slot pages old new calls replies more results later h = absurd h
stops Stops slot pages old new calls replies more results later h = (tt, refl, ap (λ (m : Machine). As (run.Stops (take (page * pages) m.bytes.memory))) (sym h))

module _ (H : Type 0) (Calls : H → HostCall → Reply → H → Type 0) (i : Image) (from : H) (old : Machine) (pages : ℕ) (is : reg (state_of old).registers 17 ≡ 3) where
  abbrev number : ℕ
  number = reg (state_of old).registers 10

  -- no import of that number
  pub no_import : slice_get i.imports number ≡ None → Answered Calls i from from (state_of old) (state_of old) pages pages (Over (Fault Call (old.pc - 4)))
  no_import none = quiet H Calls i from (state_of old) (state_of old) pages pages (Over (Fault Call (old.pc - 4))) (λ calls replies results later. rw (is, none) (tt, refl, refl))

  module _ (import : Import) (found : slice_get i.imports number ≡ Some import) where
    abbrev slots : Option ℕ
    slots = slots_at (reg (state_of old).registers 8) (max 1 (length import.signature.params))

    -- its slots aren't in the stack
    pub no_slots : slots ≡ None → Answered Calls i from from (state_of old) (state_of old) pages pages (Over (Fault Call (old.pc - 4)))
    no_slots none = quiet H Calls i from (state_of old) (state_of old) pages pages (Over (Fault Call (old.pc - 4))) (λ calls replies results later. rw (is, found, none) (tt, refl, refl))

    -- the host's reply is taken
    module _ (slot : ℕ) (there : slots ≡ Some slot) (to : H) (new : Machine) where
      abbrev made : HostCall
      made = call_at old pages number slot import.signature.params

      pub reply_goes : Replies Calls from to made import.signature.results true slot old new → Answered Calls i from to (state_of old) (state_of new) pages pages GoesOn
      reply_goes h = record {
        calls = made ∷ [];
        replies = h.reply ∷ [];
        leads = (to, h.answers, refl);
        says = λ before more results later. rw (is, found, there) (goes (taken import.signature.results made.memory h.reply) slot pages old new (before ++ made ∷ []) (h.reply ∷ more) more results later h.takes);
      }

      pub reply_stops : Replies Calls from to made import.signature.results false slot old new → Answered Calls i from to (state_of old) (state_of new) pages pages (Over HostStopped)
      reply_stops h = record {
        calls = made ∷ [];
        replies = h.reply ∷ [];
        leads = (to, h.answers, refl);
        says = λ before more results later. rw (is, found, there) (stops (taken import.signature.results made.memory h.reply) slot pages old new (before ++ made ∷ []) (h.reply ∷ more) more results later h.takes);
      }
