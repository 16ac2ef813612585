-- Values (WebAssembly Core 1.0, 4.2.1), and the kinds of traps.
use Rattle.std.specs.Prelude.{ℕ, ◌^◌, ◌<◌, ◌+◌, ◌-◌, ℤ, List, map, codes, Option, None, Some, nat_lt, if◌then◌else◌, ◌==◌}
use Rattle.std.specs.Int.{w32, w64, cast_signed, cast_unsigned}
use Rattle.wasm_defs.specs.declared.types.ValType.{ValType}
use Rattle.wasm_defs.specs.declared.types.ValType.TheVariants.{I32, I64}
use Rattle.wasm_defs.specs.declared.value.Value.{Value as Given}
use Rattle.wasm_defs.specs.declared.value.Value.TheVariants as given
use Rattle.wasm_defs.specs.declared.value.TrapKind.{TrapKind}
use Rattle.wasm_defs.specs.declared.value.TrapKind.TheVariants.{Unreachable, DivideByZero, Overflow, MemoryBounds, UndefinedElement, UninitializedElement, TypeMismatch, StackExhausted}

-- a value: its type, and its bits as a natural number
pub record Value : Type 0 where
  pub ty : ValType
  pub number : ℕ

-- N for a type of N bits
abbrev pub bits : ValType → ℕ
bits I32 = 32
bits I64 = 64

-- 2 ^ N for a type of N bits
abbrev pub modulus : ValType → ℕ
modulus I32 = 2 ^ 32
modulus I64 = 2 ^ 64

abbrev pub InRange : Value → Type 0
InRange v = v.number < modulus v.ty

abbrev pub zero_of : ValType → Value
zero_of t = record { ty = t; number = 0 }

abbrev pub types_of_values : List Value → List ValType
types_of_values vs = map (λ v. v.ty) vs

-- the signed interpretation, and back (Core 4.3.2)
abbrev pub signed : ValType → ℕ → ℤ
signed I32 n = cast_signed w32 n
signed I64 n = cast_signed w64 n

abbrev pub unsigned : ValType → ℤ → ℕ
unsigned I32 z = cast_unsigned w32 z
unsigned I64 z = cast_unsigned w64 z

-- how 64 bits hold a value: an i32 is extended by its sign
abbrev pub word : ValType → ℕ → ℕ
word I32 n = if nat_lt n (2 ^ 31) then n else n + (2 ^ 64 - 2 ^ 32)
word I64 n = n

abbrev pub word_of : Value → ℕ
word_of v = word v.ty v.number

abbrev pub words_of : List Value → List ℕ
words_of vs = map word_of vs

-- a value that is given as a signed number
abbrev pub type_of : Given → ValType
type_of (given.I32 n) = I32
type_of (given.I64 n) = I64

abbrev pub value_of : Given → Value
value_of (given.I32 n) = record { ty = I32; number = unsigned I32 n }
value_of (given.I64 n) = record { ty = I64; number = unsigned I64 n }

-- ---- traps

abbrev pub trap_number : TrapKind → ℕ
trap_number Unreachable = 1
trap_number DivideByZero = 2
trap_number Overflow = 3
trap_number MemoryBounds = 4
trap_number UndefinedElement = 5
trap_number UninitializedElement = 6
trap_number TypeMismatch = 7
trap_number StackExhausted = 8

abbrev pub trap_of : ℕ → Option TrapKind
trap_of n =
    if n == 1 then Some Unreachable
    else if n == 2 then Some DivideByZero
    else if n == 3 then Some Overflow
    else if n == 4 then Some MemoryBounds
    else if n == 5 then Some UndefinedElement
    else if n == 6 then Some UninitializedElement
    else if n == 7 then Some TypeMismatch
    else if n == 8 then Some StackExhausted
    else None

abbrev pub trap_text : TrapKind → List ℕ
trap_text Unreachable = codes "unreachable"
trap_text DivideByZero = codes "integer divide by zero"
trap_text Overflow = codes "integer overflow"
trap_text MemoryBounds = codes "out of bounds memory access"
trap_text UndefinedElement = codes "undefined element"
trap_text UninitializedElement = codes "uninitialized element"
trap_text TypeMismatch = codes "indirect call type mismatch"
trap_text StackExhausted = codes "call stack exhausted"
