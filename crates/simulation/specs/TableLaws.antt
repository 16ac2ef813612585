-- What the machine does where the instruction words of `call_indirect` are (WebAssembly Core 1.0, 4.4.5), up to the function's
-- first word.
use Rattle.std.specs.Prelude.{◌≡◌, ℕ, ◌+◌, ◌-◌, ◌*◌, ◌^◌, ◌<◌, ◌≤◌, ◌==◌, ◌||◌, Bool, true, false, List, length, Option, None, Some, slice_get}
use Rattle.rv_isa.specs.declared.operations.Op.{Op}
use Rattle.rv_isa.specs.Steps.{reg, Bytes, State}
use Rattle.rv_isa.specs.Runs.{place, HasAt, Reaches}
use Rattle.wasm_defs.specs.declared.types.ValType.TheVariants.{I32}
use Rattle.wasm_defs.specs.Values.{word}
use Rattle.wasm_defs.specs.Configurations.{max_slots}
use Rattle.frame_layout.specs.Slots.{operand}
use Rattle.frame_layout.specs.Macros.{ra, s0}
use Rattle.frame_layout.specs.Templates.{EmitContext, indirect_words}
use Rattle.frame_layout.specs.Laws.{slot_at, IsFrame, is_scratch, TrapsAt}
use Rattle.simulation.specs.Regions.{row_code, row_like, HasRegions}

-- the rows are in the table: each function's address, and the index that its type has
pub record TableStands (rows : List (Option ℕ)) (places like_of : ℕ → ℕ) (b : Bytes) : Type 0 where
  pub size : length b.table ≡ 16 * length rows
  pub empty : (a : ℕ) → slice_get rows a ≡ Some None → row_code b a ≡ 0
  pub code_is : (a f : ℕ) → slice_get rows a ≡ Some (Some f) → row_code b a ≡ place (places f)
  pub like_is : (a f : ℕ) → slice_get rows a ≡ Some (Some f) → row_like b a ≡ like_of f

-- so many steps lead to the first word of a function, with the frame so many slots further up; the address after the jump is in ra
pub record Begins (code : List (Option Op)) (steps words slots there : ℕ) (s : State) : Type 0 where
  pub end : State
  pub reaches : Reaches code steps s end
  pub pc_is : end.pc ≡ there
  pub link_is : reg end.registers ra ≡ s.pc + 4 * words
  pub first_is : reg end.registers s0 ≡ reg s.registers s0 + 8 * slots
  pub bytes_are : end.bytes ≡ s.bytes
  pub others : (r : ℕ) → (is_scratch r || r == ra || r == s0) ≡ false → reg end.registers r ≡ reg s.registers r

-- where the function has the type, and else a trap
abbrev pub BeginsTyped : (code : List (Option Op)) (slots there : ℕ) (s : State) → (has_type : Bool) → Type 0
BeginsTyped code slots there s true = Begins code 29 38 slots there s
BeginsTyped code slots there s false = TrapsAt code 25 31 7 s

-- by the row
abbrev pub BeginsRow : (code : List (Option Op)) (slots like : ℕ) (places like_of : ℕ → ℕ) (s : State) → Option (Option ℕ) → Type 0
BeginsRow code slots like places like_of s None = TrapsAt code 14 14 5 s
BeginsRow code slots like places like_of s (Some None) = TrapsAt code 18 21 6 s
BeginsRow code slots like places like_of s (Some (Some f)) = BeginsTyped code slots (place (places f)) s (like_of f == like)

-- the functions are in the text, which ends below 2 ^ 64
abbrev pub IndirectLaw : Type 0
IndirectLaw =
    (w : EmitContext) (code : List (Option Op)) (s : State) (i base h type arguments a pages : ℕ) (rows : List (Option ℕ)) (places like_of : ℕ → ℕ)
    → HasAt code i (indirect_words w h type arguments) → s.pc ≡ place i → IsFrame base s → HasRegions pages s → TableStands rows places like_of s.bytes
    → w.rows ≡ length rows → w.like type < 2 ^ 32 → base + operand w.layout (h - 1) < max_slots
    → slot_at s.bytes (base + operand w.layout (h - 1)) ≡ word I32 a → a < 2 ^ 32 → length code ≤ 2 ^ 26
    → ((f : ℕ) → slice_get rows a ≡ Some (Some f) → places f ≤ length code)
    → BeginsRow code (operand w.layout (h - 1 - arguments)) (w.like type) places like_of s (slice_get rows a)
