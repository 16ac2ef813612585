-- Steps in a row, and frames after them.
use Rattle.std.proofs.Common.{◌≡◌, ℕ, ◌+◌, ◌*◌, ◌<◌, true, false, List, length, Option, refl, sym, ap, subst, ◌∙◌, arith}
use Rattle.std.specs.Prelude.{◌≢◌}
use Rattle.std.proofs.lemmas.Bool.{false≢true}
use Rattle.rv_isa.specs.declared.operations.Op.{Op}
use Rattle.rv_isa.specs.Steps.{reg, Bytes, State}
use Rattle.rv_isa.specs.Runs.{Reaches, FitWindows, Leaves}
use Rattle.rv_isa.proofs.RunLaws.{Reaches-none, Reaches-then}
use Rattle.wasm_defs.specs.Configurations.{max_slots}
use Rattle.frame_layout.specs.Macros.{s0, s5}
use Rattle.frame_layout.specs.Laws.{with_slot, IsFrame, is_scratch, Does}
use Rattle.frame_layout.proofs.SlotLaws.{size_stays, windows_stay}

-- a register that isn't scratch is none that is
pub apart : (q r : ℕ) → is_scratch q ≡ false → is_scratch r ≡ true → q ≢ r
apart q r kept free same = false≢true (sym kept ∙ ap is_scratch same ∙ free)

-- one scratch register gets a value
abbrev pub does_leave : {code : List (Option Op)} {count : ℕ} {s : State} {bytes : Bytes} {r value : ℕ} → is_scratch r ≡ true → Leaves code count s bytes r value → Does code count count s bytes
does_leave {code} {count} {s} {bytes} {r} {value} free given =
    record {
      end = given.end;
      reaches = given.reaches;
      pc_is = given.pc_is;
      bytes_are = given.bytes_are;
      others = λ q kept. given.others q (apart q r kept free);
    }

abbrev pub does_then : {code : List (Option Op)} {j k a b : ℕ} {s : State} {bytes bytes' : Bytes} → (first : Does code j a s bytes) → Does code k b first.end bytes' → Does code (j + k) (a + b) s bytes'
does_then {code} {j} {k} {a} {b} {s} {bytes} {bytes'} first second =
    let here = first.pc_is in
    let there = second.pc_is in
    record {
      end = second.end;
      reaches = Reaches-then first.reaches second.reaches;
      pc_is = omega arith;
      bytes_are = second.bytes_are;
      others = λ q kept. second.others q kept ∙ first.others q kept;
    }

-- the same bytes, written otherwise
abbrev pub does_with : {code : List (Option Op)} {k a : ℕ} {s : State} {bytes bytes' : Bytes} → bytes ≡ bytes' → Does code k a s bytes → Does code k a s bytes'
does_with {code} {k} {a} {s} {bytes} {bytes'} same does =
    record {
      end = does.end;
      reaches = does.reaches;
      pc_is = does.pc_is;
      bytes_are = does.bytes_are ∙ same;
      others = does.others;
    }

-- the same numbers of steps and words, written otherwise
abbrev pub does_count : {code : List (Option Op)} {k a : ℕ} (k' a' : ℕ) {s : State} {bytes : Bytes} → k ≡ k' → a ≡ a' → Does code k a s bytes → Does code k' a' s bytes
does_count {code} {k} {a} k' a' {s} {bytes} steps words does =
    let pc_is = does.pc_is in
    record {
      end = does.end;
      reaches = subst (λ (n : ℕ). Reaches code n s does.end) steps does.reaches;
      pc_is = omega arith;
      bytes_are = does.bytes_are;
      others = does.others;
    }

abbrev pub does_nothing : (code : List (Option Op)) (s : State) → Does code 0 0 s s.bytes
does_nothing code s =
    record { end = s; reaches = Reaches-none code s; pc_is = omega arith; bytes_are = refl; others = λ q kept. refl }

-- a register gets a value, and then another one
abbrev pub leaves_then : {code : List (Option Op)} {a b r v v' : ℕ} {s : State} {bytes : Bytes} → (first : Leaves code a s bytes r v) → Leaves code b first.end first.end.bytes r v' → Leaves code (a + b) s bytes r v'
leaves_then {code} {a} {b} {r} {v} {v'} {s} {bytes} first second =
    let here = first.pc_is in
    let there = second.pc_is in
    record {
      end = second.end;
      reaches = Reaches-then first.reaches second.reaches;
      pc_is = omega arith;
      bytes_are = second.bytes_are ∙ first.bytes_are;
      value_is = second.value_is;
      others = λ q differs. second.others q differs ∙ first.others q differs;
    }

-- ---- the frame stays

-- in every state with its registers and a whole stack
pub frame_at : {base : ℕ} {s : State} (s' : State) → IsFrame base s → reg s'.registers s0 ≡ reg s.registers s0 → reg s'.registers s5 ≡ reg s.registers s5 → length s'.bytes.stack ≡ 8 * max_slots → FitWindows s'.bytes → IsFrame base s'
frame_at {base} {s} s' frame same same' size fit =
    record { first = same ∙ frame.first; end = same' ∙ frame.end; size = size; windows = fit }

-- where registers changed alone
pub frame_kept : {base : ℕ} {s : State} (s' : State) → IsFrame base s → reg s'.registers s0 ≡ reg s.registers s0 → reg s'.registers s5 ≡ reg s.registers s5 → s'.bytes ≡ s.bytes → IsFrame base s'
frame_kept {base} {s} s' frame same same' bytes =
    frame_at s' frame same same' (ap (λ (b : Bytes). length b.stack) bytes ∙ frame.size) (subst FitWindows (sym bytes) frame.windows)

pub frame_after : {code : List (Option Op)} {k a base : ℕ} {s : State} {bytes : Bytes} → IsFrame base s → length bytes.stack ≡ 8 * max_slots → FitWindows bytes → (does : Does code k a s bytes) → IsFrame base does.end
frame_after {code} {k} {a} {base} {s} {bytes} frame size fit does =
    frame_at does.end frame (does.others s0 refl) (does.others s5 refl) (ap (λ (b : Bytes). length b.stack) does.bytes_are ∙ size) (subst FitWindows (sym does.bytes_are) fit)

-- where no byte changes
pub frame_stays : {code : List (Option Op)} {k a base : ℕ} {s : State} → IsFrame base s → (does : Does code k a s s.bytes) → IsFrame base does.end
frame_stays {code} {k} {a} {base} {s} frame does = frame_after frame frame.size frame.windows does

-- where a slot is written
pub frame_written : {code : List (Option Op)} {k a base : ℕ} {s : State} (i v : ℕ) → i < max_slots → IsFrame base s → (does : Does code k a s (with_slot s.bytes i v)) → IsFrame base does.end
frame_written {code} {k} {a} {base} {s} i v inside frame does =
    frame_after frame (size_stays s.bytes i v frame.size inside ∙ frame.size) (windows_stay s.bytes i v frame.size inside frame.windows) does
