-- A verdict that stays, whatever bytes follow.
use Rattle.std.proofs.Common.{◌≡◌, ◌⊎◌, subst, ℕ, ◌≤◌, List, [], ◌++◌, length, Some, None, sym, ap, ◌∙◌}
use Rattle.wasm_defs.specs.declared.fault.Refusal.{Refusal}
use Rattle.wasm_defs.specs.Outside.{Run, Ending, Refused, module_read}
use Rattle.wasm_defs.specs.Faults.{Module, Verdict, Accepted, Rejected, IsFaultInside, ending_fault}
use Rattle.wasm_laws.proofs.Bounded.{module_is_refused, module_stays}
use Rattle.module_stream.specs.Limits.{max_read}
use Rattle.image_linker.specs.Judging.{IsTextFault, IsVerdictOf}

-- an error of a module with this run, of so many bytes, and that of least offset
abbrev IsFaultIn : ℕ → Run → Refusal → Type 0
IsFaultIn n run r = ((ending_fault n run.ending ≡ Some r) ⊎ IsFaultInside [] 0 run.parts r) ⊎ IsTextFault [] 0 0 run.parts r

abbrev IsFirstIn : ℕ → Run → Refusal → Type 0
IsFirstIn n run r = IsFaultIn n run r × ((s : Refusal) → IsFaultIn n run s → r.offset ≤ s.offset)

-- of a run that is refused, the number of bytes is no matter
first_stays : (n m : ℕ) (run later : Run) (stop r : Refusal) → run.ending ≡ Refused stop → later ≡ run → IsFirstIn n run r → IsFirstIn m later r
first_stays n m run later stop r e same p =
    let is : run ≡ record { parts = run.parts; ending = Refused stop } = ap (λ (x : Ending). record { parts = run.parts; ending = x }) e in
    let here : IsFirstIn m (record { parts = run.parts; ending = Refused stop }) r = subst (λ (x : Run). IsFirstIn n x r) is p in
    subst (λ (x : Run). IsFirstIn m x r) (sym (same ∙ is)) here

-- as many bytes as are read at most are no module
pub no_module : (read : List ℕ) → max_read ≤ length read → (m : Module) → IsVerdictOf read (Accepted m) → ⊥
no_module read le m v =
    let h = module_is_refused read le in
    let k : ending_fault (length read) (module_read read).ending ≡ Some h.0 = ap (ending_fault (length read)) h.1 in
    let none = v.is.whole in
    absurd (let t : Some h.0 ≡ None = sym k ∙ none in cc)

-- and more bytes after them change nothing
pub verdict_stays : (read more : List ℕ) → max_read ≤ length read → (v : Verdict) → IsVerdictOf read v → IsVerdictOf (read ++ more) v
verdict_stays read more le (Accepted m) v = absurd (no_module read le m v)
verdict_stays read more le (Rejected r) v =
    let h = module_is_refused read le in
    first_stays (length read) (length (read ++ more)) (module_read read) (module_read (read ++ more)) h.0 r h.1 (module_stays read more le) v
