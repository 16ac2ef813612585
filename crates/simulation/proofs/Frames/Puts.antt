-- What a frame holds after instruction words that store one operand.
use Rattle.std.proofs.Common.{◌≡◌, ℕ, ◌+◌, ◌^◌, ◌<◌, ◌≤◌, List, ◌∷◌, length, Option, refl, sym, ap, ◌∙◌, subst, arith}
use Rattle.rv_isa.specs.declared.operations.Op.{Op}
use Rattle.rv_isa.specs.Steps.{State, Bytes, reg}
use Rattle.rv_isa.specs.Runs.{FitWindows}
use Rattle.wasm_defs.specs.Configurations.{max_slots}
use Rattle.wasm_defs.specs.Values.{Value}
use Rattle.frame_layout.specs.declared.layout.Layout.{Layout}
use Rattle.frame_layout.specs.Macros.{s0, s5}
use Rattle.frame_layout.specs.Slots.{link, operand}
use Rattle.frame_layout.specs.Laws.{slot_at, with_slot, IsFrame, Does}
use Rattle.simulation.proofs.Frames.Slots.{slot_same, slot_other, stack_stays, windows_stay}
use Rattle.simulation.proofs.Frames.Values.{Holds, holds_as, Operands, Locals, Agree, operands_kept, locals_kept, SameBeside, Matches}
use Rattle.simulation.proofs.Frames.Words.{word_small}

-- a frame stays where the words change one slot
pub frame_stays : (code : List (Option Op)) (steps words base i x : ℕ) (s : State) (d : Does code steps words s (with_slot s.bytes i x)) → i < max_slots → IsFrame base s → IsFrame base d.end
frame_stays code steps words base i x s d inside f = record {
  first = d.others s0 refl ∙ f.first;
  end = d.others s5 refl ∙ f.end;
  size = ap (λ (b : Bytes). length b.stack) d.bytes_are ∙ stack_stays s.bytes max_slots i x f.size inside ∙ f.size;
  windows = subst FitWindows (sym d.bytes_are) (windows_stay s.bytes max_slots i x f.size inside f.windows);
}

-- a state where one slot is another than before, and the frame's registers are the same
module _ (l : Layout) (base there : ℕ) (b : Bytes) (locals operands below : List Value) (s end : State) (x : ℕ) (v : Value)
    (bytes_are : end.bytes ≡ with_slot s.bytes (base + operand l (length below)) x) (first : reg end.registers s0 ≡ reg s.registers s0) (last : reg end.registers s5 ≡ reg s.registers s5)
    (hold : Holds x v) (high : length below < l.greatest) (m : Matches l base there b locals operands s) (live : Operands s.bytes (base + operand l 0) below) where
  i : ℕ
  i = base + operand l (length below)

  new : Bytes
  new = with_slot s.bytes i x

  inside : i < max_slots
  unfolding i
  inside = let room = m.room in omega arith

  small : x < 2 ^ 64
  small = subst (λ (n : ℕ). n < 2 ^ 64) (sym hold.is) (word_small v.ty v.number hold.range)

  others : Agree i s.bytes new
  unfolding i new
  others = record { by = λ k less. slot_other s.bytes max_slots i x m.frame.size inside k (omega arith) }

  fewer : (n : ℕ) → n ≤ i → Agree n s.bytes new
  fewer n less = record { by = λ k h. others.by k (omega arith) }

  written : slot_at new i ≡ x
  unfolding i new
  written = slot_same s.bytes max_slots i x m.frame.size inside small

  pub put_stands : Matches l base there b locals (v ∷ below) end
  unfolding i new
  put_stands =
      let at : base + operand l 0 + length below ≡ i = omega arith in
      let top : Holds (slot_at new (base + operand l 0 + length below)) v = holds_as (slot_at new (base + operand l 0 + length below)) (ap (slot_at new) at ∙ written) hold in
      record {
        frame = record {
          first = first ∙ m.frame.first;
          end = last ∙ m.frame.end;
          size = ap (λ (c : Bytes). length c.stack) bytes_are ∙ stack_stays s.bytes max_slots i x m.frame.size inside ∙ m.frame.size;
          windows = subst FitWindows (sym bytes_are) (windows_stay s.bytes max_slots i x m.frame.size inside m.frame.windows);
        };
        room = m.room;
        width = m.width;
        values = subst (λ (c : Bytes). Locals c base locals) (sym bytes_are) (locals_kept s.bytes new base locals (fewer (base + length locals) (let w = m.width in omega arith)) m.values);
        live = subst (λ (c : Bytes). Operands c (base + operand l 0) (v ∷ below)) (sym bytes_are) (top, operands_kept s.bytes new (base + operand l 0) below (fewer (base + operand l 0 + length below) (omega arith)) live);
        link_is = ap (λ (c : Bytes). slot_at c (base + link l)) bytes_are ∙ others.by (base + link l) (omega arith) ∙ m.link_is;
        beside = subst (SameBeside b) (sym bytes_are) (record { globals = m.beside.globals; table = m.beside.table; memory = m.beside.memory; passive = m.beside.passive });
        low = record { by = λ k less. ap (λ (c : Bytes). slot_at c k) bytes_are ∙ others.by k (omega arith) ∙ m.low.by k less };
      }

pub put_matches : (code : List (Option Op)) (l : Layout) (base there : ℕ) (b : Bytes) (locals operands below : List Value) (s : State) (steps words x : ℕ) (v : Value)
    → (d : Does code steps words s (with_slot s.bytes (base + operand l (length below)) x)) → Holds x v → length below < l.greatest
    → Matches l base there b locals operands s → Operands s.bytes (base + operand l 0) below → Matches l base there b locals (v ∷ below) d.end
put_matches code l base there b locals operands below s steps words x v d hold high m live =
    put_stands l base there b locals operands below s d.end x v d.bytes_are (d.others s0 refl) (d.others s5 refl) hold high m live
