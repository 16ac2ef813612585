-- Results where a frame began.
use Rattle.std.proofs.Common.{◌≡◌, ℕ, zero, suc, ◌+◌, ◌*◌, ◌^◌, ◌<◌, ◌≤◌, ◌⊎◌, inl, inr, ⊎_elim, List, [], ◌∷◌, length, refl, sym, ◌∙◌, subst, arith}
use Rattle.std.proofs.lemmas.Bool.{cases_lt}
use Rattle.rv_isa.specs.Steps.{Bytes}
use Rattle.rv_isa.specs.Runs.{FitWindows}
use Rattle.wasm_defs.specs.Configurations.{max_slots}
use Rattle.wasm_defs.specs.Values.{Value}
use Rattle.frame_layout.specs.declared.layout.Layout.{Layout}
use Rattle.frame_layout.specs.Slots.{operand}
use Rattle.frame_layout.specs.Laws.{slot_at, with_slot, with_results}
use Rattle.simulation.proofs.Frames.Slots.{slot_same, slot_other, stack_stays, windows_stay}
use Rattle.simulation.proofs.Frames.Values.{holds_as, Operands, SameBeside}
use Rattle.simulation.proofs.Frames.Words.{word_small}

-- operands hold words
pub operands_small : (b : Bytes) (first : ℕ) (vs : List Value) → Operands b first vs → (k : ℕ) → k < length vs → slot_at b (first + k) < 2 ^ 64
operands_small b first [] h k less = absurd (omega arith)
operands_small b first (v ∷ vs) h k less =
    ⊎_elim
    (λ below. operands_small b first vs h.1 k below)
    (λ top.
    let at : first + length vs ≡ first + k = omega arith in
    subst (λ (j : ℕ). slot_at b j < 2 ^ 64) at (subst (λ (n : ℕ). n < 2 ^ 64) (sym h.0.is) (word_small v.ty v.number h.0.range)))
    (cases_lt k (length vs))

-- operands that were moved
pub operands_moved : (old new : Bytes) (first to : ℕ) (vs : List Value) → ((k : ℕ) → k < length vs → slot_at new (to + k) ≡ slot_at old (first + k)) → Operands old first vs → Operands new to vs
operands_moved old new first to [] same h = tt
operands_moved old new first to (v ∷ vs) same h =
    (holds_as (slot_at new (to + length vs)) (same (length vs) (omega arith)) h.0, operands_moved old new first to vs (λ k less. same k (omega arith)) h.1)

-- so many results, from an index on, are in the frame's first slots; other slots and regions are as they were
pub record ResultsMoved (l : Layout) (base results index : ℕ) (b new : Bytes) : Type 0 where
  pub size : length new.stack ≡ length b.stack
  pub windows : FitWindows new
  pub beside : SameBeside b new
  pub others : (k : ℕ) → (k < base + index) ⊎ (base + index + results ≤ k) → slot_at new k ≡ slot_at b k
  pub moved : (k : ℕ) → index ≤ k → k < index + results → slot_at new (base + k) ≡ slot_at b (base + operand l k)

pub results_moved : (l : Layout) (base results index : ℕ) (b : Bytes) → length b.stack ≡ 8 * max_slots → FitWindows b → base + operand l index + results ≤ max_slots
    → ((k : ℕ) → index ≤ k → k < index + results → slot_at b (base + operand l k) < 2 ^ 64) → ResultsMoved l base results index b (with_results l base results index b)
results_moved l base zero index b size windows room small = record {
  size = refl;
  windows = windows;
  beside = record { globals = refl; table = refl; memory = refl; passive = refl };
  others = λ k apart. refl;
  moved = λ k low high. absurd (omega arith);
}
results_moved l base (suc n) index b size windows room small =
    let word = slot_at b (base + operand l index) in
    let b1 = with_slot b (base + index) word in
    let inside : base + index < max_slots = omega arith in
    let fits : word < 2 ^ 64 = small index (omega arith) (omega arith) in
    let other = slot_other b max_slots (base + index) word size inside in
    let written : slot_at b1 (base + index) ≡ word = slot_same b max_slots (base + index) word size inside fits in
    let x = results_moved l base n (index + 1) b1 (stack_stays b max_slots (base + index) word size inside ∙ size) (windows_stay b max_slots (base + index) word size inside windows) (omega arith)
    (λ k low high. subst (λ (v : ℕ). v < 2 ^ 64) (sym (other (base + operand l k) (λ e. omega (arith, e)))) (small k (omega arith) (omega arith))) in
    record {
      size = x.size ∙ stack_stays b max_slots (base + index) word size inside;
      windows = x.windows;
      beside = record { globals = x.beside.globals; table = x.beside.table; memory = x.beside.memory; passive = x.beside.passive };
      others = λ k apart. x.others k (⊎_elim (λ low. inl (omega (arith, low))) (λ high. inr (omega (arith, high))) apart) ∙ other k (λ e. ⊎_elim (λ low. omega (arith, e, low)) (λ high. omega (arith, e, high)) apart);
      moved = λ k low high.
          ⊎_elim
          (λ more. x.moved k (omega (arith, more)) (omega arith) ∙ other (base + operand l k) (λ e. omega (arith, e)))
          (λ first.
          let same : k ≡ index = omega (arith, first) in
          subst (λ (i : ℕ). slot_at (with_results l base n (index + 1) b1) (base + i) ≡ slot_at b (base + operand l i)) (sym same) (x.others (base + index) (inl (omega arith)) ∙ written))
          (cases_lt index k);
    }
