-- What a frame holds after instruction words that store one local, and after words that store
-- nothing.
use Rattle.std.proofs.Common.{◌≡◌, ℕ, ◌+◌, ◌^◌, ◌<◌, ◌≤◌, ◌⊎◌, inl, inr, List, [], ◌∷◌, length, slice_set, Option, Some, refl, sym, ap, ◌∙◌, subst, arith}
use Rattle.std.specs.Prelude.{◌≢◌, slice_get}
use Rattle.std.proofs.lemmas.Bool.{cases_eq}
use Rattle.rv_isa.specs.declared.operations.Op.{Op}
use Rattle.rv_isa.specs.Steps.{State, Bytes}
use Rattle.rv_isa.specs.Runs.{FitWindows}
use Rattle.wasm_defs.specs.Configurations.{max_slots}
use Rattle.wasm_defs.specs.Values.{Value}
use Rattle.frame_layout.specs.declared.layout.Layout.{Layout}
use Rattle.frame_layout.specs.Macros.{s0, s5}
use Rattle.frame_layout.specs.Slots.{link, operand}
use Rattle.frame_layout.specs.Laws.{slot_at, with_slot, Does}
use Rattle.simulation.proofs.Frames.Puts.{frame_stays}
use Rattle.simulation.proofs.Frames.Sets.{set_same, set_other, set_length}
use Rattle.simulation.proofs.Frames.Slots.{slot_same, slot_other}
use Rattle.simulation.proofs.Frames.Values.{Holds, holds_as, Operands, Locals, SameBeside, Matches}
use Rattle.simulation.proofs.Frames.Words.{word_small}

-- operands are kept where no slot from the first one on changes
operands_stay : (old new : Bytes) (first : ℕ) (vs : List Value) → ((k : ℕ) → first ≤ k → slot_at new k ≡ slot_at old k) → Operands old first vs → Operands new first vs
operands_stay old new first [] same h = tt
operands_stay old new first (v ∷ vs) same h =
    (holds_as (slot_at new (first + length vs)) (same (first + length vs) (omega arith)) h.0, operands_stay old new first vs same h.1)

module _ (code : List (Option Op)) (l : Layout) (base there : ℕ) (b : Bytes) (locals operands : List Value) (s : State) (steps words : ℕ) (m : Matches l base there b locals operands s) where
  -- ---- where no byte changes

  -- other operands, which are in the same slots
  pub other_operands : (others : List Value) → Operands s.bytes (base + operand l 0) others → Matches l base there b locals others s
  other_operands others live =
      record { frame = m.frame; room = m.room; width = m.width; values = m.values; live = live; link_is = m.link_is; beside = m.beside; low = m.low }

  pub kept_matches : (d : Does code steps words s s.bytes) → Matches l base there b locals operands d.end
  kept_matches d = record {
    frame = record {
      first = d.others s0 refl ∙ m.frame.first;
      end = d.others s5 refl ∙ m.frame.end;
      size = ap (λ (c : Bytes). length c.stack) d.bytes_are ∙ m.frame.size;
      windows = subst FitWindows (sym d.bytes_are) m.frame.windows;
    };
    room = m.room;
    width = m.width;
    values = subst (λ (c : Bytes). Locals c base locals) (sym d.bytes_are) m.values;
    live = subst (λ (c : Bytes). Operands c (base + operand l 0) operands) (sym d.bytes_are) m.live;
    link_is = ap (λ (c : Bytes). slot_at c (base + link l)) d.bytes_are ∙ m.link_is;
    beside = subst (SameBeside b) (sym d.bytes_are) m.beside;
    low = record { by = λ k less. ap (λ (c : Bytes). slot_at c k) d.bytes_are ∙ m.low.by k less };
  }

  -- ---- where a local changes

  module _ (x word : ℕ) (v : Value) (d : Does code steps words s (with_slot s.bytes (base + x) word)) (hold : Holds word v) (within : x < length locals)
      (below : List Value) (live : Operands s.bytes (base + operand l 0) below) where
    new : Bytes
    new = with_slot s.bytes (base + x) word

    inside : base + x < max_slots
    inside =
        let room = m.room in
        let width = m.width in
        omega arith

    small : word < 2 ^ 64
    small = subst (λ (n : ℕ). n < 2 ^ 64) (sym hold.is) (word_small v.ty v.number hold.range)

    written : slot_at new (base + x) ≡ word
    unfolding new
    written = slot_same s.bytes max_slots (base + x) word m.frame.size inside small

    others : (k : ℕ) → k ≢ base + x → slot_at new k ≡ slot_at s.bytes k
    unfolding new
    others k differs = slot_other s.bytes max_slots (base + x) word m.frame.size inside k differs

    set_holds : (k : ℕ) (u : Value) → (k ≡ x) ⊎ (k ≡ x → ⊥) → slice_get (slice_set locals x v) k ≡ Some u → Holds (slot_at new (base + k)) u
    set_holds k u (inl e) is =
        let first : slice_get (slice_set locals x v) k ≡ Some v = ap (slice_get (slice_set locals x v)) e ∙ set_same locals x v within in
        let same : v ≡ u = cc in
        subst (Holds (slot_at new (base + k))) same (holds_as (slot_at new (base + k)) (ap (λ (j : ℕ). slot_at new (base + j)) e ∙ written) hold)
    set_holds k u (inr differs) is =
        let old : slice_get locals k ≡ Some u = sym (set_other locals x v k differs) ∙ is in
        holds_as (slot_at new (base + k)) (others (base + k) (λ e. differs (omega (arith, e)))) (m.values.holds k u old)

    pub set_matches : Matches l base there b (slice_set locals x v) below d.end
    unfolding new
    set_matches =
        let width = m.width in
        record {
          frame = frame_stays code steps words base (base + x) word s d inside m.frame;
          room = m.room;
          width = set_length locals x v ∙ m.width;
          values = subst (λ (c : Bytes). Locals c base (slice_set locals x v)) (sym d.bytes_are) (record { holds = λ k u is. set_holds k u (cases_eq k x) is });
          live = subst (λ (c : Bytes). Operands c (base + operand l 0) below) (sym d.bytes_are) (operands_stay s.bytes new (base + operand l 0) below (λ k high. others k (λ e. omega (arith, e))) live);
          link_is = ap (λ (c : Bytes). slot_at c (base + link l)) d.bytes_are ∙ others (base + link l) (λ e. omega (arith, e)) ∙ m.link_is;
          beside = subst (SameBeside b) (sym d.bytes_are) (record { globals = m.beside.globals; table = m.beside.table; memory = m.beside.memory; passive = m.beside.passive });
          low = record { by = λ k less. ap (λ (c : Bytes). slot_at c k) d.bytes_are ∙ others k (λ e. omega (arith, e)) ∙ m.low.by k less };
        }
