-- Runs of images under other replies: what they have in common.
use Rattle.std.proofs.Common.{◌≡◌, ℕ, zero, suc, ◌+◌, ◌-◌, ◌*◌, ◌%◌, ◌^◌, ◌==◌, ◌≤◌, Bool, true, false, nat_le, max, if◌then◌else◌, List, [], ◌∷◌, ◌++◌, take, drop, length, Option, None, Some, slice_get, refl, sym, ap, ◌∙◌, subst, append_assoc, length-append, arith}
use Rattle.std.proofs.lemmas.List.{append-nil, take_at}
use Rattle.rv_isa.specs.declared.stepping.FaultKind.TheVariants as fault
use Rattle.rv_isa.specs.Steps.{State, Registers, Stepped, Next, step, reg, set_reg}
use Rattle.rv_isa.specs.Steps as machine
use Rattle.wasm_defs.specs.declared.types.ValType.{ValType}
use Rattle.wasm_defs.specs.declared.value.TrapKind.{TrapKind}
use Rattle.wasm_defs.specs.Values.{Value, trap_of}
use Rattle.wasm_defs.specs.Memory.{page}
use Rattle.wasm_defs.specs.Host.{HostCall, Reply, Taken, Goes, Stops, taken}
use Rattle.image_format.specs.Contents.{Image}
use Rattle.image_format.specs.declared.image.Import.{Import}
use Rattle.image_format.specs.Environment.{Entry, entered, code_of_image}
use Rattle.image_format.specs.ImageRun.{Running, Stepping, To, Ended, Faulted, Waiting, ImageRun, answered, asked, await_reply, call_import, environment, finish, grow, memory_of, next, on, run_of, slots_at, stepped, steps, trapped, values_at, with_results}
use Rattle.image_format.specs.ImageRun as image
use Rattle.image_run.specs.Answers.{IsOver}
use Rattle.image_run.specs.Ends.{IsUnstopped}

abbrev pub with_replies : Running → List Reply → Running
with_replies r rs = record r { replies = rs }

-- what a step comes to, after these calls, whatever the replies are: the run goes on, or it ends, or it asks for a reply
pub data Turn (i : Image) (calls : List HostCall) (f : List Reply → Stepping) : Type 0 where
  GoesOn : (r : Running) → r.calls ≡ calls → ((rs : List Reply) → f rs ≡ To (with_replies r rs)) → Turn i calls f
  Ends : (o : ImageRun) → o.calls ≡ calls → IsUnstopped o.end → ((rs : List Reply) → IsOver (f rs)) → ((rs : List Reply) → run_of (f rs) ≡ o) → Turn i calls f
  Asks : (r : Running) (made : HostCall) (number at : ℕ) (import : Import) → r.calls ≡ calls ++ made ∷ [] → slice_get i.imports number ≡ Some import
      → made ≡ record { number = number; arguments = values_at r.machine.bytes.stack at import.signature.params; memory = memory_of r }
      → ((rs : List Reply) → f rs ≡ await_reply (with_replies r rs) import.signature.results at rs) → Turn i calls f

abbrev grown_registers : Running → (more : ℕ) → Registers
grown_registers r more = set_reg (set_reg r.machine.registers 10 r.pages) 18 (page * (r.pages + more))

-- the machine after a reply
abbrev pub machine_behind : Running → (at : ℕ) → List Value → List ℕ → State
machine_behind r at values memory =
    let bytes = r.machine.bytes in
    record r.machine { bytes = record bytes { stack = with_results bytes.stack at values; memory = memory ++ drop (length memory) bytes.memory } }

module _ (i : Image) where
  turn_if : (calls : List HostCall) (t : Bool) (f g : List Reply → Stepping) → Turn i calls f → Turn i calls g → Turn i calls (λ rs. if t then f rs else g rs)
  turn_if calls true f g a b = a
  turn_if calls false f g a b = b

  module _ (r : Running) where
    finish_turn : (later : List (Entry × List ValType)) → Turn i r.calls (λ rs. finish (with_replies r rs) later)
    finish_turn [] = Ends (run_of (finish r [])) refl tt (λ rs. tt) (λ rs. refl)
    finish_turn (e ∷ later) = GoesOn (record r { machine = entered r.pages r.machine.bytes e.0; results = e.1; later = later }) refl (λ rs. refl)

    trapped_turn : (pc : ℕ) (kind : Option TrapKind) → Turn i r.calls (λ rs. trapped i.places (with_replies r rs) pc kind)
    trapped_turn pc None = Ends (run_of (trapped i.places r pc None)) refl tt (λ rs. tt) (λ rs. refl)
    trapped_turn pc (Some kind) = Ends (run_of (trapped i.places r pc (Some kind))) refl tt (λ rs. tt) (λ rs. refl)

    unknown_turn : (pc : ℕ) → Turn i r.calls (λ rs. Faulted (with_replies r rs) fault.Call pc)
    unknown_turn pc = Ends (record { calls = r.calls; end = image.Fault fault.Call pc }) refl tt (λ rs. tt) (λ rs. refl)

    grow_turn : (cap more : ℕ) → Turn i r.calls (λ rs. grow cap (with_replies r rs) more)
    grow_turn cap more =
        turn_if r.calls (nat_le (r.pages + more) cap) _ _
        (GoesOn (record r { machine = record r.machine { registers = grown_registers r more }; pages = r.pages + more }) refl (λ rs. refl))
        (GoesOn (record r { machine = record r.machine { registers = set_reg r.machine.registers 10 (2 ^ 64 - 1) } }) refl (λ rs. refl))

    asked_turn : (pc number : ℕ) (import : Import) → slice_get i.imports number ≡ Some import → (at : Option ℕ) → Turn i r.calls (λ rs. asked (with_replies r rs) pc number import.signature at)
    asked_turn pc number import is None = unknown_turn pc
    asked_turn pc number import is (Some at) =
        let made : HostCall = record { number = number; arguments = values_at r.machine.bytes.stack at import.signature.params; memory = memory_of r } in
        Asks (record r { calls = r.calls ++ made ∷ [] }) made number at import refl is refl (λ rs. refl)

    import_turn : (pc number : ℕ) (import : Option Import) → slice_get i.imports number ≡ import → Turn i r.calls (λ rs. call_import (with_replies r rs) pc number import)
    import_turn pc number None is = unknown_turn pc
    import_turn pc number (Some import) is = asked_turn pc number import is (slots_at (reg r.machine.registers 8) (max 1 (length import.signature.params)))

    environment_turn : (pc : ℕ) → Turn i r.calls (λ rs. environment i (with_replies r rs) pc)
    environment_turn pc =
        let a0 = reg r.machine.registers 10 in
        let a7 = reg r.machine.registers 17 in
        turn_if r.calls (a7 == 0) _ _ (finish_turn r.later) (
        turn_if r.calls (a7 == 1) _ _ (trapped_turn pc (trap_of a0)) (
        turn_if r.calls (a7 == 2) _ _ (grow_turn i.cap (a0 % 2 ^ 32)) (
        turn_if r.calls (a7 == 3) _ _ (import_turn pc a0 (slice_get i.imports a0) refl) (unknown_turn pc))))

  stepped_turn : (r : Running) (now : Stepped) → Turn i r.calls (λ rs. stepped i (with_replies r rs) now)
  stepped_turn r (Next s) = GoesOn (record r { machine = s }) refl (λ rs. refl)
  stepped_turn r (machine.Call s) = environment_turn (record r { machine = s }) r.machine.pc
  stepped_turn r (machine.Fault kind) = Ends (record { calls = r.calls; end = image.Fault kind r.machine.pc }) refl tt (λ rs. tt) (λ rs. refl)

  pub next_turn : (r : Running) → Turn i r.calls (λ rs. next i (with_replies r rs))
  next_turn r = stepped_turn r (step (code_of_image i) r.machine)

  -- ---- the calls of a run begin with those that were made before

  abbrev pub calls_of : Stepping → List HostCall
  calls_of done = (run_of done).calls

  abbrev pub BeginWith : List HostCall → Stepping → Type 0
  BeginWith front done = (rest : List HostCall) × (calls_of done ≡ front ++ rest)

  -- what a run with these replies comes to
  abbrev pub goes : ℕ → Running → List Reply → Stepping
  goes n r rs = steps i n (with_replies r rs)

  pub over_on : (done : Stepping) (go : Running → Stepping) → IsOver done → on done go ≡ done
  over_on (To r) go h = absurd h
  over_on (Ended r end) go h = refl
  over_on (Faulted r kind pc) go h = refl
  over_on (Waiting r) go h = refl

  abbrev pub GrowAll : ℕ → Type 0
  GrowAll n = (r : Running) (rs : List Reply) → BeginWith r.calls (goes n r rs)

  taken_grows : (n : ℕ) (r : Running) (rs before : List Reply) (at : ℕ) (t : Taken) → GrowAll n → BeginWith r.calls (on (answered (with_replies r before) rs at t) (steps i n))
  taken_grows n r rs before at Stops all = ([], sym (append-nil r.calls))
  taken_grows n r rs before at (Goes values memory) all = all (record r { machine = machine_behind r at values memory }) rs

  pub reply_grows : (n : ℕ) (r : Running) (results : List ValType) (at : ℕ) (rs before : List Reply) → GrowAll n → BeginWith r.calls (on (await_reply (with_replies r before) results at rs) (steps i n))
  reply_grows n r results at [] before all = ([], sym (append-nil r.calls))
  reply_grows n r results at (q ∷ qs) before all = taken_grows n r qs before at (taken results (memory_of r) q) all

  turn_grows : (n : ℕ) (calls : List HostCall) (f : List Reply → Stepping) (rs : List Reply) → Turn i calls f → GrowAll n → BeginWith calls (on (f rs) (steps i n))
  turn_grows n calls f rs (GoesOn r same is) all = rw (is rs) (subst (λ (l : List HostCall). BeginWith l (goes n r rs)) same (all r rs))
  turn_grows n calls f rs (Ends o same end over is) all =
      rw (over_on (f rs) (steps i n) (over rs)) ([], ap (λ (x : ImageRun). x.calls) (is rs) ∙ same ∙ sym (append-nil calls))
  turn_grows n calls f rs (Asks r made number at import same there asks is) all =
      let b = reply_grows n r import.signature.results at rs rs all in
      rw (is rs) (made ∷ b.0, b.1 ∙ ap (λ (l : List HostCall). l ++ b.0) same ∙ append_assoc calls (made ∷ []) b.0)

  pub calls_grow : (n : ℕ) → GrowAll n
  calls_grow zero r rs = ([], sym (append-nil r.calls))
  calls_grow (suc n) r rs = turn_grows n r.calls _ rs (next_turn r) (calls_grow n)

  -- ---- replies that begin alike: so do the calls, up to the one after them

  abbrev pub alike_until : Running → List Reply → ℕ
  alike_until r p = length r.calls + length p + 1

  abbrev pub Alike : ℕ → (done other : Stepping) → Type 0
  Alike k done other = take k (calls_of done) ≡ take k (calls_of other)

  abbrev pub AlikeAll : ℕ → Type 0
  AlikeAll n = (r : Running) (p x y : List Reply) → Alike (alike_until r p) (goes n r (p ++ x)) (goes n r (p ++ y))

  -- calls that are all made
  made_alike : (k : ℕ) (front : List HostCall) (done other : Stepping) → k ≡ length front → BeginWith front done → BeginWith front other → Alike k done other
  made_alike k front done other e a b =
      let one : take k (calls_of done) ≡ front = ap (take k) a.1 ∙ take_at front a.0 k (sym e) in
      let two : take k (calls_of other) ≡ front = ap (take k) b.1 ∙ take_at front b.0 k (sym e) in
      one ∙ sym two

  taken_alike : (n k : ℕ) (r : Running) (p x y before after : List Reply) (at : ℕ) (t : Taken) → k ≡ alike_until r p → AlikeAll n
      → Alike k (on (answered (with_replies r before) (p ++ x) at t) (steps i n)) (on (answered (with_replies r after) (p ++ y) at t) (steps i n))
  taken_alike n k r p x y before after at Stops e all = refl
  taken_alike n k r p x y before after at (Goes values memory) e all =
      rw e (all (record r { machine = machine_behind r at values memory }) p x y)

  reply_alike : (n k : ℕ) (r : Running) (results : List ValType) (at : ℕ) (p x y before after : List Reply) → k ≡ length r.calls + length p → AlikeAll n
      → Alike k (on (await_reply (with_replies r before) results at (p ++ x)) (steps i n)) (on (await_reply (with_replies r after) results at (p ++ y)) (steps i n))
  reply_alike n k r results at [] x y before after e all =
      made_alike k r.calls (on (await_reply (with_replies r before) results at x) (steps i n)) (on (await_reply (with_replies r after) results at y) (steps i n)) (omega (arith, e))
      (reply_grows n r results at x before (calls_grow n)) (reply_grows n r results at y after (calls_grow n))
  reply_alike n k r results at (q ∷ p) x y before after e all =
      taken_alike n k r p x y before after at (taken results (memory_of r) q) (omega (arith, e)) all

  turn_alike : (n k : ℕ) (calls : List HostCall) (f : List Reply → Stepping) (p x y : List Reply) → Turn i calls f → k ≡ length calls + length p + 1 → AlikeAll n
      → Alike k (on (f (p ++ x)) (steps i n)) (on (f (p ++ y)) (steps i n))
  turn_alike n k calls f p x y (GoesOn r same is) e all =
      let until : k ≡ alike_until r p = e ∙ ap (λ (l : List HostCall). length l + length p + 1) (sym same) in
      rw (is (p ++ x)) (rw (is (p ++ y)) (rw until (all r p x y)))
  turn_alike n k calls f p x y (Ends o same end over is) e all =
      rw (over_on (f (p ++ x)) (steps i n) (over (p ++ x))) (rw (over_on (f (p ++ y)) (steps i n) (over (p ++ y)))
      (ap (λ (z : ImageRun). take k z.calls) (is (p ++ x) ∙ sym (is (p ++ y)))))
  turn_alike n k calls f p x y (Asks r made number at import same there asks is) e all =
      let size : length r.calls ≡ length calls + 1 = ap length same ∙ length-append calls (made ∷ []) in
      rw (is (p ++ x)) (rw (is (p ++ y)) (reply_alike n k r import.signature.results at p x y (p ++ x) (p ++ y) (omega (arith, e, size)) all))

  pub calls_alike : (n : ℕ) → AlikeAll n
  calls_alike zero r p x y = refl
  calls_alike (suc n) r p x y = turn_alike n (alike_until r p) r.calls _ p x y (next_turn r) refl (calls_alike n)

  -- ---- each step makes one call at most

  abbrev pub Few : ℕ → ℕ → Stepping → Type 0
  Few n calls done = length (calls_of done) ≤ calls + n

  abbrev pub FewAll : ℕ → Type 0
  FewAll n = (r : Running) (rs : List Reply) → Few n (length r.calls) (goes n r rs)

  taken_few : (n : ℕ) (r : Running) (rs before : List Reply) (at : ℕ) (t : Taken) → FewAll n → Few n (length r.calls) (on (answered (with_replies r before) rs at t) (steps i n))
  taken_few n r rs before at Stops all = omega arith
  taken_few n r rs before at (Goes values memory) all = all (record r { machine = machine_behind r at values memory }) rs

  reply_few : (n : ℕ) (r : Running) (results : List ValType) (at : ℕ) (rs before : List Reply) → FewAll n → Few n (length r.calls) (on (await_reply (with_replies r before) results at rs) (steps i n))
  reply_few n r results at [] before all = omega arith
  reply_few n r results at (q ∷ qs) before all = taken_few n r qs before at (taken results (memory_of r) q) all

  turn_few : (n : ℕ) (calls : List HostCall) (f : List Reply → Stepping) (rs : List Reply) → Turn i calls f → FewAll n → Few (suc n) (length calls) (on (f rs) (steps i n))
  turn_few n calls f rs (GoesOn r same is) all =
      rw (is rs) (omega (arith, all r rs, ap length same))
  turn_few n calls f rs (Ends o same end over is) all =
      rw (over_on (f rs) (steps i n) (over rs)) (omega (arith, ap (λ (x : ImageRun). length x.calls) (is rs), ap length same))
  turn_few n calls f rs (Asks r made number at import same there asks is) all =
      let size : length r.calls ≡ length calls + 1 = ap length same ∙ length-append calls (made ∷ []) in
      rw (is rs) (omega (arith, reply_few n r import.signature.results at rs rs all, size))

  pub calls_few : (n : ℕ) → FewAll n
  calls_few zero r rs = omega arith
  calls_few (suc n) r rs = turn_few n r.calls _ rs (next_turn r) (calls_few n)
