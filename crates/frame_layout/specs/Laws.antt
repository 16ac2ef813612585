-- What the machine does where the instruction words of a template are: how many steps it makes, and which slots and registers
-- change.
use Rattle.std.specs.Prelude.{◌≡◌, ℕ, zero, suc, ◌+◌, ◌-◌, ◌*◌, ◌^◌, ◌<◌, ◌≤◌, ◌==◌, ◌||◌, ◌%◌, Bool, false, List, map, length, Option}
use Rattle.rv_isa.specs.declared.operations.Op.{Op}
use Rattle.rv_isa.specs.declared.compiled.TrapSite.{TrapSite}
use Rattle.rv_isa.specs.declared.stepping.Region.TheVariants.{Stack}
use Rattle.rv_isa.specs.Steps.{reg, Bytes, State, le_bytes, value_at, put, region_base, exec, Called}
use Rattle.rv_isa.specs.Runs.{place, HasAt, Reaches, FitWindows}
use Rattle.wasm_defs.specs.declared.types.ValType.{ValType}
use Rattle.wasm_defs.specs.declared.types.ValType.TheVariants.{I32}
use Rattle.wasm_defs.specs.declared.operation.Operation.TheVariants.{Binary}
use Rattle.wasm_defs.specs.declared.operation.BinaryOp.TheVariants.{Add}
use Rattle.wasm_defs.specs.declared.token.Plain.{Plain}
use Rattle.wasm_defs.specs.Trees.{Seq}
use Rattle.wasm_defs.specs.Typing.{Context}
use Rattle.wasm_defs.specs.Values.{modulus, word}
use Rattle.wasm_defs.specs.Integers.{iadd}
use Rattle.wasm_defs.specs.Configurations.{Origin, max_slots}
use Rattle.frame_layout.specs.declared.layout.Layout.{Layout}
use Rattle.frame_layout.specs.Slots.{link, operand, need}
use Rattle.frame_layout.specs.Macros.{ra, t0, t1, t2, t3, s0, s5, a0, a7}
use Rattle.frame_layout.specs.Templates.{Declarations, Label, EmitContext, const_words, local_get_words, operate_words, words, prologue, epilogue, import_stub, exit_stub}
use Rattle.frame_layout.specs.Traps.{traps_in, trap_places, AreSpaced}
use Rattle.frame_layout.specs.Functions.{sites_of, function_size}

-- ---- slots of the stack, counted from its beginning

abbrev pub slot_at : Bytes → ℕ → ℕ
slot_at b i = value_at 8 (8 * i) b.stack

abbrev pub with_slot : Bytes → (i value : ℕ) → Bytes
with_slot b i value = record b { stack = put 8 (8 * i) b.stack (le_bytes 8 value) }

-- ---- states of compiled code

-- the frame's first slot is `base`, and the stack is whole
pub record IsFrame (base : ℕ) (s : State) : Type 0 where
  pub first : reg s.registers s0 ≡ region_base Stack + 8 * base
  pub end : reg s.registers s5 ≡ region_base Stack + 8 * max_slots
  pub size : length s.bytes.stack ≡ 8 * max_slots
  pub windows : FitWindows s.bytes

-- registers that instructions use for themselves
abbrev pub is_scratch : ℕ → Bool
is_scratch r = r == t0 || r == t1 || r == t2 || r == t3 || r == a0

-- so many steps lead past so many words, with these bytes; other registers stay
pub record Does (code : List (Option Op)) (steps words : ℕ) (s : State) (bytes : Bytes) : Type 0 where
  pub end : State
  pub reaches : Reaches code steps s end
  pub pc_is : end.pc ≡ s.pc + 4 * words
  pub bytes_are : end.bytes ≡ bytes
  pub others : (r : ℕ) → is_scratch r ≡ false → reg end.registers r ≡ reg s.registers r

-- and those that say what the environment is asked
abbrev pub is_passed : ℕ → Bool
is_passed r = is_scratch r || r == a0 || r == a7

-- so many steps lead to a call of the environment with this number in a7, and after so many words, of which the last one is the
-- call's; other registers stay
pub record Asks (code : List (Option Op)) (steps words number : ℕ) (s : State) : Type 0 where
  pub end : State
  pub by : (n : ℕ) → exec code (steps + n) s ≡ Called n end
  pub pc_is : end.pc ≡ s.pc + 4 * words
  pub number_is : reg end.registers a7 ≡ number
  pub bytes_are : end.bytes ≡ s.bytes
  pub others : (r : ℕ) → is_passed r ≡ false → reg end.registers r ≡ reg s.registers r

-- and to a trap of that kind
pub record TrapsAt (code : List (Option Op)) (steps words kind : ℕ) (s : State) : Type 0 where
  pub asks : Asks code steps words 1 s
  pub kind_is : reg asks.end.registers a0 ≡ kind

-- ---- traps

-- the traps of an instruction are where the table says, wherever its words are, and no others are
abbrev pub TrapsLaw : Type 0
TrapsLaw = (w : EmitContext) (d : Declarations) (labels : List Label) (h here : ℕ) (p : Plain) → traps_in (words w d labels h here p) ≡ trap_places p

-- the traps of a function are apart, inside it
abbrev pub SpacedLaw : Type 0
SpacedLaw = (w : EmitContext) (o : Origin) (c : Context) (tree : Seq) → AreSpaced 0 (map (λ (t : TrapSite). t.place) (sites_of w o c tree)) (function_size w c tree)

-- ---- instructions

-- a constant of a type, below its modulus
abbrev pub ConstLaw : Type 0
ConstLaw =
    (w : EmitContext) (code : List (Option Op)) (s : State) (i base h : ℕ) (t : ValType) (n : ℕ) → HasAt code i (const_words w h t n) → s.pc ≡ place i
    → IsFrame base s → n < modulus t → base + operand w.layout h < max_slots
    → Does code (length (const_words w h t n)) (length (const_words w h t n)) s (with_slot s.bytes (base + operand w.layout h) (word t n))

abbrev pub LocalGetLaw : Type 0
LocalGetLaw =
    (w : EmitContext) (code : List (Option Op)) (s : State) (i base h x : ℕ) → HasAt code i (local_get_words w h x) → s.pc ≡ place i
    → IsFrame base s → base + x < max_slots → base + operand w.layout h < max_slots
    → Does code (length (local_get_words w h x)) (length (local_get_words w h x)) s (with_slot s.bytes (base + operand w.layout h) (slot_at s.bytes (base + x)))

-- the sum of two i32, in place of the first one
abbrev pub AddLaw : Type 0
AddLaw =
    (w : EmitContext) (code : List (Option Op)) (s : State) (i base h a b : ℕ) → HasAt code i (operate_words w h (Binary I32 Add)) → s.pc ≡ place i
    → IsFrame base s → 2 ≤ h → base + operand w.layout (h - 1) < max_slots → a < 2 ^ 32 → b < 2 ^ 32
    → slot_at s.bytes (base + operand w.layout (h - 2)) ≡ word I32 a → slot_at s.bytes (base + operand w.layout (h - 1)) ≡ word I32 b
    → Does code (length (operate_words w h (Binary I32 Add))) (length (operate_words w h (Binary I32 Add))) s
    (with_slot s.bytes (base + operand w.layout (h - 2)) (word I32 (iadd I32 a b)))

-- ---- functions

-- where there is room, the return address is in its slot, and the declared locals are zero
pub record Enters (code : List (Option Op)) (l : Layout) (base : ℕ) (s : State) : Type 0 where
  pub steps : ℕ
  pub bytes : Bytes
  pub within : steps ≤ 24 + 3 * l.locals
  pub does : Does code steps (length (prologue l)) s bytes
  pub link_is : slot_at bytes (base + link l) ≡ reg s.registers ra
  pub zeros : (k : ℕ) → k < l.locals → slot_at bytes (base + l.params + k) ≡ 0
  pub below : (k : ℕ) → k < base + l.params → slot_at bytes k ≡ slot_at s.bytes k
  pub size : length bytes.stack ≡ length s.bytes.stack
  pub globals : bytes.globals ≡ s.bytes.globals
  pub table : bytes.table ≡ s.bytes.table
  pub memory : bytes.memory ≡ s.bytes.memory
  pub passive : bytes.passive ≡ s.bytes.passive

abbrev pub PrologueLaw : Type 0
PrologueLaw =
    (code : List (Option Op)) (s : State) (i base : ℕ) (l : Layout) → HasAt code i (prologue l) → s.pc ≡ place i → IsFrame base s
    → reg s.registers ra < 2 ^ 64 → base + need l ≤ max_slots → length code ≤ 2 ^ 26 → Enters code l base s

-- where there is none, the function traps
abbrev pub ExhaustionLaw : Type 0
ExhaustionLaw =
    (code : List (Option Op)) (s : State) (i base : ℕ) (l : Layout) → HasAt code i (prologue l) → s.pc ≡ place i → IsFrame base s
    → base ≤ max_slots → need l < 2 ^ 30 → max_slots < base + need l → TrapsAt code 10 10 8 s

-- so many results go from their operands' slots to the frame's first ones, from the one of an index on
abbrev pub with_results : Layout → (base results index : ℕ) → Bytes → Bytes
with_results l base zero index b = b
with_results l base (suc n) index b = with_results l base n (index + 1) (with_slot b (base + index) (slot_at b (base + operand l index)))

-- the results go to the frame's first slots, and the machine to the return address
pub record Leaves (code : List (Option Op)) (l : Layout) (results base there : ℕ) (s : State) : Type 0 where
  pub end : State
  pub reaches : Reaches code (length (epilogue l results)) s end
  pub pc_is : end.pc ≡ there
  pub bytes_are : end.bytes ≡ with_results l base results 0 s.bytes
  pub others : (r : ℕ) → is_scratch r ≡ false → (r == ra) ≡ false → reg end.registers r ≡ reg s.registers r

abbrev pub EpilogueLaw : Type 0
EpilogueLaw =
    (code : List (Option Op)) (s : State) (i base results there : ℕ) (l : Layout) → HasAt code i (epilogue l results) → s.pc ≡ place i
    → IsFrame base s → base + need l ≤ max_slots → results ≤ l.greatest
    → slot_at s.bytes (base + link l) ≡ there → there < 2 ^ 64 → there % 4 ≡ 0 → Leaves code l results base there s

-- the function that was called from outside has ended
abbrev pub ExitLaw : Type 0
ExitLaw = (code : List (Option Op)) (s : State) (i : ℕ) → HasAt code i exit_stub → s.pc ≡ place i → Asks code 2 2 0 s

-- ---- the stub of an imported function

-- where there is room for its arguments, it asks with the import's number in a0
pub record AsksImport (code : List (Option Op)) (import : ℕ) (s : State) : Type 0 where
  pub asks : Asks code 14 17 3 s
  pub import_is : reg asks.end.registers a0 ≡ import

abbrev pub ImportLaw : Type 0
ImportLaw =
    (code : List (Option Op)) (s : State) (i base params import : ℕ) → HasAt code i (import_stub params import) → s.pc ≡ place i → IsFrame base s
    → params < 2 ^ 20 → import < 2 ^ 32 → base + (params + 1) ≤ max_slots → length code ≤ 2 ^ 26 → AsksImport code import s

-- where there is none, it traps
abbrev pub ImportExhaustionLaw : Type 0
ImportExhaustionLaw =
    (code : List (Option Op)) (s : State) (i base params import : ℕ) → HasAt code i (import_stub params import) → s.pc ≡ place i → IsFrame base s
    → params < 2 ^ 20 → base ≤ max_slots → max_slots < base + (params + 1) → TrapsAt code 10 10 8 s

-- after the call it leads to the return address
abbrev pub ImportReturnLaw : Type 0
ImportReturnLaw =
    (code : List (Option Op)) (s : State) (i params import there : ℕ) → HasAt code i (import_stub params import) → s.pc ≡ place (i + 17)
    → reg s.registers ra ≡ there → there < 2 ^ 64 → there % 4 ≡ 0 → Reaches code 1 s (record s { pc = there })
