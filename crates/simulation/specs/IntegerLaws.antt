-- What the instruction words of numeric instructions do (WebAssembly Core 1.0, 4.3.2 and 4.3.4; sign extension: Core 2.0, 4.3.2): the operands are in
-- the uppermost slots of the frame, as words of their types, and the result comes into the lowest of them.
use Rattle.std.specs.Prelude.{◌≡◌, ℕ, ◌+◌, ◌-◌, ◌^◌, ◌<◌, ◌≤◌, List, length, Option}
use Rattle.rv_isa.specs.declared.operations.Op.{Op}
use Rattle.rv_isa.specs.Steps.{State}
use Rattle.rv_isa.specs.Runs.{place, HasAt}
use Rattle.wasm_defs.specs.declared.types.ValType.{ValType}
use Rattle.wasm_defs.specs.declared.types.ValType.TheVariants.{I32, I64}
use Rattle.wasm_defs.specs.declared.operation.UnaryOp.{UnaryOp}
use Rattle.wasm_defs.specs.declared.operation.BinaryOp.{BinaryOp}
use Rattle.wasm_defs.specs.declared.operation.CompareOp.{CompareOp}
use Rattle.wasm_defs.specs.declared.operation.ConvertOp.{ConvertOp}
use Rattle.wasm_defs.specs.declared.operation.ConvertOp.TheVariants.{Wrap, ExtendS, ExtendU}
use Rattle.wasm_defs.specs.declared.operation.ExtendOp.{ExtendOp}
use Rattle.wasm_defs.specs.declared.operation.Operation.{Operation}
use Rattle.wasm_defs.specs.declared.operation.Operation.TheVariants.{Unary, Test, Binary, Compare, Convert, Extend}
use Rattle.wasm_defs.specs.declared.operation.Operands.{Operands}
use Rattle.wasm_defs.specs.declared.operation.Operands.TheVariants.{One, Two}
use Rattle.wasm_defs.specs.Opcodes.{row_type}
use Rattle.wasm_defs.specs.Typing.{extend_type}
use Rattle.wasm_defs.specs.Values.{modulus, word}
use Rattle.wasm_defs.specs.Integers.{Computed, Number, DividesByZero, Overflows, binary, unary, compare, ieqz, converted, converted_type, sign_extended}
use Rattle.wasm_defs.specs.Configurations.{max_slots}
use Rattle.frame_layout.specs.Slots.{operand}
use Rattle.frame_layout.specs.Templates.{EmitContext, operate_words}
use Rattle.frame_layout.specs.Laws.{slot_at, with_slot, IsFrame, Does, TrapsAt}

-- ---- operations on two operands

-- after so many words the environment is called where a quotient isn't representable
abbrev pub overflow_words : ValType → ℕ
overflow_words I32 = 17
overflow_words I64 = 18

-- what the words of an operation come to, whose result goes to a slot: the steps are never more than the words
abbrev pub Comes : (code : List (Option Op)) (words : ℕ) (s : State) (slot : ℕ) (t : ValType) → Computed → Type 0
Comes code words s slot t (Number n) = (steps : ℕ) × (steps ≤ words) × Does code steps words s (with_slot s.bytes slot (word t n))
Comes code words s slot t DividesByZero = (steps : ℕ) × (steps ≤ words) × TrapsAt code steps 10 2 s
Comes code words s slot t Overflows = (steps : ℕ) × (steps ≤ words) × TrapsAt code steps (overflow_words t) 3 s

-- the words of divisions branch, so the text has to end below 2 ^ 64
abbrev pub BinaryLaw : Type 0
BinaryLaw =
    (w : EmitContext) (code : List (Option Op)) (s : State) (i base h : ℕ) (t : ValType) (op : BinaryOp) (a b : ℕ)
    → HasAt code i (operate_words w h (Binary t op)) → s.pc ≡ place i → IsFrame base s → 2 ≤ h → base + operand w.layout (h - 1) < max_slots
    → a < modulus t → b < modulus t → slot_at s.bytes (base + operand w.layout (h - 2)) ≡ word t a → slot_at s.bytes (base + operand w.layout (h - 1)) ≡ word t b
    → length code ≤ 2 ^ 26 → Comes code (length (operate_words w h (Binary t op))) s (base + operand w.layout (h - 2)) t (binary op t a b)

-- a comparison gives an i32
abbrev pub CompareLaw : Type 0
CompareLaw =
    (w : EmitContext) (code : List (Option Op)) (s : State) (i base h : ℕ) (t : ValType) (op : CompareOp) (a b : ℕ)
    → HasAt code i (operate_words w h (Compare t op)) → s.pc ≡ place i → IsFrame base s → 2 ≤ h → base + operand w.layout (h - 1) < max_slots
    → a < modulus t → b < modulus t → slot_at s.bytes (base + operand w.layout (h - 2)) ≡ word t a → slot_at s.bytes (base + operand w.layout (h - 1)) ≡ word t b
    → Does code (length (operate_words w h (Compare t op))) (length (operate_words w h (Compare t op))) s
    (with_slot s.bytes (base + operand w.layout (h - 2)) (word I32 (compare op t a b)))

-- ---- operations on one operand

abbrev pub UnaryLaw : Type 0
UnaryLaw =
    (w : EmitContext) (code : List (Option Op)) (s : State) (i base h : ℕ) (t : ValType) (op : UnaryOp) (a : ℕ)
    → HasAt code i (operate_words w h (Unary t op)) → s.pc ≡ place i → IsFrame base s → 1 ≤ h → base + operand w.layout (h - 1) < max_slots
    → a < modulus t → slot_at s.bytes (base + operand w.layout (h - 1)) ≡ word t a
    → Does code (length (operate_words w h (Unary t op))) (length (operate_words w h (Unary t op))) s
    (with_slot s.bytes (base + operand w.layout (h - 1)) (word t (unary op t a)))

-- eqz gives an i32
abbrev pub TestLaw : Type 0
TestLaw =
    (w : EmitContext) (code : List (Option Op)) (s : State) (i base h : ℕ) (t : ValType) (a : ℕ)
    → HasAt code i (operate_words w h (Test t)) → s.pc ≡ place i → IsFrame base s → 1 ≤ h → base + operand w.layout (h - 1) < max_slots
    → a < modulus t → slot_at s.bytes (base + operand w.layout (h - 1)) ≡ word t a
    → Does code (length (operate_words w h (Test t))) (length (operate_words w h (Test t))) s
    (with_slot s.bytes (base + operand w.layout (h - 1)) (word I32 (ieqz a)))

-- ---- conversions

abbrev pub operand_type : Operands → ValType
operand_type (One t) = t
operand_type (Two t u) = u

-- the type of the operand
abbrev pub converted_from : ConvertOp → ValType
converted_from op = operand_type (row_type (Convert op)).operands

-- a conversion that has words
abbrev pub Converts : ConvertOp → Type 0
Converts op =
    (w : EmitContext) (code : List (Option Op)) (s : State) (i base h a : ℕ)
    → HasAt code i (operate_words w h (Convert op)) → s.pc ≡ place i → IsFrame base s → 1 ≤ h → base + operand w.layout (h - 1) < max_slots
    → a < modulus (converted_from op) → slot_at s.bytes (base + operand w.layout (h - 1)) ≡ word (converted_from op) a
    → Does code (length (operate_words w h (Convert op))) (length (operate_words w h (Convert op))) s
    (with_slot s.bytes (base + operand w.layout (h - 1)) (word (converted_type op) (converted op a)))

-- an extension by the sign has none: the result's word is the operand's
abbrev pub ConvertLaw : Type 0
ConvertLaw = Converts Wrap × Converts ExtendU × ((a : ℕ) → a < 2 ^ 32 → word I64 (converted ExtendS a) ≡ word I32 a)

-- ---- sign extension

abbrev pub ExtendLaw : Type 0
ExtendLaw =
    (w : EmitContext) (code : List (Option Op)) (s : State) (i base h : ℕ) (op : ExtendOp) (a : ℕ)
    → HasAt code i (operate_words w h (Extend op)) → s.pc ≡ place i → IsFrame base s → 1 ≤ h → base + operand w.layout (h - 1) < max_slots
    → a < modulus (extend_type op) → slot_at s.bytes (base + operand w.layout (h - 1)) ≡ word (extend_type op) a
    → Does code (length (operate_words w h (Extend op))) (length (operate_words w h (Extend op))) s
    (with_slot s.bytes (base + operand w.layout (h - 1)) (word (extend_type op) (sign_extended op a)))

-- ---- results are below the modulus of their type

abbrev pub BinaryRangeLaw : Type 0
BinaryRangeLaw = (t : ValType) (op : BinaryOp) (a b n : ℕ) → a < modulus t → b < modulus t → binary op t a b ≡ Number n → n < modulus t

abbrev pub CompareRangeLaw : Type 0
CompareRangeLaw = (t : ValType) (op : CompareOp) (a b : ℕ) → compare op t a b < 2 ^ 32

abbrev pub UnaryRangeLaw : Type 0
UnaryRangeLaw = (t : ValType) (op : UnaryOp) (a : ℕ) → a < modulus t → unary op t a < modulus t

abbrev pub TestRangeLaw : Type 0
TestRangeLaw = (a : ℕ) → ieqz a < 2 ^ 32

abbrev pub ConvertRangeLaw : Type 0
ConvertRangeLaw = (op : ConvertOp) (a : ℕ) → a < modulus (converted_from op) → converted op a < modulus (converted_type op)

abbrev pub ExtendRangeLaw : Type 0
ExtendRangeLaw = (op : ExtendOp) (a : ℕ) → sign_extended op a < modulus (extend_type op)

-- ---- lengths

-- the longest are the words of clz
abbrev pub LengthLaw : Type 0
LengthLaw = (w : EmitContext) (h : ℕ) (op : Operation) → length (operate_words w h op) ≤ 76
