-- Integer operations (WebAssembly Core 1.0, 4.3.2 and 4.3.4; sign extension: Core 2.0, 4.3.2), on numbers below 2 ^ N.
use Rattle.std.specs.Prelude.{ℕ, ◌+◌, ◌-◌, ◌*◌, ◌/◌, ◌%◌, ◌^◌, pos, Bool, not, nat_lt, nat_le, ◌==◌, if◌then◌else◌, bit_and, bit_or, bit_xor, count_ones, int_lt, int_le, int_div, int_rem}
use Rattle.std.specs.Ordering.{int_eq}
use Rattle.std.specs.Int.{int_shr, w8, w16, w32, cast_signed}
use Rattle.std.specs.Int.Count.{count_leading_zeros, count_trailing_zeros}
use Rattle.wasm_defs.specs.declared.types.ValType.{ValType}
use Rattle.wasm_defs.specs.declared.types.ValType.TheVariants.{I32, I64}
use Rattle.wasm_defs.specs.declared.operation.UnaryOp.{UnaryOp}
use Rattle.wasm_defs.specs.declared.operation.UnaryOp.TheVariants.{Clz, Ctz, Popcnt}
use Rattle.wasm_defs.specs.declared.operation.BinaryOp.{BinaryOp}
use Rattle.wasm_defs.specs.declared.operation.BinaryOp.TheVariants.{Add, Sub, Mul, DivS, DivU, RemS, RemU, And, Or, Xor, Shl, ShrS, ShrU, Rotl, Rotr}
use Rattle.wasm_defs.specs.declared.operation.CompareOp.{CompareOp}
use Rattle.wasm_defs.specs.declared.operation.CompareOp.TheVariants.{Eq, Ne, LtS, LtU, GtS, GtU, LeS, LeU, GeS, GeU}
use Rattle.wasm_defs.specs.declared.operation.ConvertOp.{ConvertOp}
use Rattle.wasm_defs.specs.declared.operation.ConvertOp.TheVariants.{Wrap, ExtendS, ExtendU}
use Rattle.wasm_defs.specs.declared.operation.ExtendOp.{ExtendOp}
use Rattle.wasm_defs.specs.declared.operation.ExtendOp.TheVariants.{I32Extend8S, I32Extend16S, I64Extend8S, I64Extend16S, I64Extend32S}
use Rattle.wasm_defs.specs.declared.operation.Operation.TheVariants.{Convert}
use Rattle.wasm_defs.specs.Opcodes.{row_type}
use Rattle.wasm_defs.specs.Values.{modulus, signed, unsigned, bits}

-- what an operation gives that is not defined at some operands: where it is undefined, the instruction traps
pub data Computed : Type 0 where
  Number : (n : ℕ) → Computed
  DividesByZero : Computed
  Overflows : Computed

abbrev pub iadd : ValType → ℕ → ℕ → ℕ
iadd t a b = (a + b) % modulus t

abbrev pub isub : ValType → ℕ → ℕ → ℕ
isub t a b = (a + (modulus t - b)) % modulus t

abbrev pub imul : ValType → ℕ → ℕ → ℕ
imul t a b = (a * b) % modulus t

abbrev pub idiv_u : ℕ → ℕ → Computed
idiv_u a b = if b == 0 then DividesByZero else Number (a / b)

abbrev pub irem_u : ℕ → ℕ → Computed
irem_u a b = if b == 0 then DividesByZero else Number (a % b)

-- the quotient 2 ^ (N - 1) can't be represented
abbrev pub idiv_s : ValType → ℕ → ℕ → Computed
idiv_s t a b =
    if b == 0
    then DividesByZero
    else (let q = int_div (signed t a) (signed t b) in if int_eq q (pos (modulus t / 2)) then Overflows else Number (unsigned t q))

abbrev pub irem_s : ValType → ℕ → ℕ → Computed
irem_s t a b = if b == 0 then DividesByZero else Number (unsigned t (int_rem (signed t a) (signed t b)))

abbrev pub ishl : ValType → ℕ → ℕ → ℕ
ishl t a b = (a * 2 ^ (b % bits t)) % modulus t

abbrev pub ishr_u : ValType → ℕ → ℕ → ℕ
ishr_u t a b = a / 2 ^ (b % bits t)

abbrev pub ishr_s : ValType → ℕ → ℕ → ℕ
ishr_s t a b = unsigned t (int_shr (signed t a) (b % bits t))

-- the bits that leave at one end come in at the other
abbrev pub irotl : ValType → ℕ → ℕ → ℕ
irotl t a b = (a * 2 ^ (b % bits t)) % modulus t + a / 2 ^ (bits t - b % bits t)

abbrev pub irotr : ValType → ℕ → ℕ → ℕ
irotr t a b = a / 2 ^ (b % bits t) + (a * 2 ^ (bits t - b % bits t)) % modulus t

abbrev pub binary : BinaryOp → ValType → ℕ → ℕ → Computed
binary Add t a b = Number (iadd t a b)
binary Sub t a b = Number (isub t a b)
binary Mul t a b = Number (imul t a b)
binary DivS t a b = idiv_s t a b
binary DivU t a b = idiv_u a b
binary RemS t a b = irem_s t a b
binary RemU t a b = irem_u a b
binary And t a b = Number (bit_and a b)
binary Or t a b = Number (bit_or a b)
binary Xor t a b = Number (bit_xor a b)
binary Shl t a b = Number (ishl t a b)
binary ShrS t a b = Number (ishr_s t a b)
binary ShrU t a b = Number (ishr_u t a b)
binary Rotl t a b = Number (irotl t a b)
binary Rotr t a b = Number (irotr t a b)

-- 1 where a test holds
abbrev pub flag : Bool → ℕ
flag b = if b then 1 else 0

abbrev pub ieqz : ℕ → ℕ
ieqz a = flag (a == 0)

abbrev pub compare : CompareOp → ValType → ℕ → ℕ → ℕ
compare Eq t a b = flag (a == b)
compare Ne t a b = flag (not (a == b))
compare LtS t a b = flag (int_lt (signed t a) (signed t b))
compare LtU t a b = flag (nat_lt a b)
compare GtS t a b = flag (int_lt (signed t b) (signed t a))
compare GtU t a b = flag (nat_lt b a)
compare LeS t a b = flag (int_le (signed t a) (signed t b))
compare LeU t a b = flag (nat_le a b)
compare GeS t a b = flag (int_le (signed t b) (signed t a))
compare GeU t a b = flag (nat_le b a)

abbrev pub unary : UnaryOp → ValType → ℕ → ℕ
unary Clz t a = count_leading_zeros (bits t) a
unary Ctz t a = count_trailing_zeros (bits t) a
unary Popcnt t a = count_ones a

-- conversions (4.3.4)
abbrev pub converted : ConvertOp → ℕ → ℕ
converted Wrap n = n % 2 ^ 32
converted ExtendS n = unsigned I64 (signed I32 n)
converted ExtendU n = n

abbrev pub converted_type : ConvertOp → ValType
converted_type op = (row_type (Convert op)).result

-- ---- sign extension: the low 8, 16 or 32 bits as a signed number (iextendM_s)

abbrev pub extend_8 : ValType → ℕ → ℕ
extend_8 t a = unsigned t (cast_signed w8 (a % 2 ^ 8))

abbrev pub extend_16 : ValType → ℕ → ℕ
extend_16 t a = unsigned t (cast_signed w16 (a % 2 ^ 16))

abbrev pub extend_32 : ValType → ℕ → ℕ
extend_32 t a = unsigned t (cast_signed w32 (a % 2 ^ 32))

abbrev pub sign_extended : ExtendOp → ℕ → ℕ
sign_extended I32Extend8S a = extend_8 I32 a
sign_extended I32Extend16S a = extend_16 I32 a
sign_extended I64Extend8S a = extend_8 I64 a
sign_extended I64Extend16S a = extend_16 I64 a
sign_extended I64Extend32S a = extend_32 I64 a
