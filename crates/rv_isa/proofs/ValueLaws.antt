-- What operations compute from values of 64 bits has 64 bits.
use Rattle.std.proofs.Common.{◌≡◌, ℕ, zero, suc, ℤ, pos, negsuc, ◌-◌, ◌/◌, ◌%◌, ◌==◌, ◌^◌, ◌<◌, ◌≤◌, ◌*ℤ◌, Bool, true, false, if◌then◌else◌, lit<, lit≤, inl, inr, refl, arith}
use Rattle.std.proofs.Math.IntN.{neg_ℤ}
use Rattle.std.proofs.Math.Nat.{div-le_self, mod-le, mul-le-mul}
use Rattle.std.specs.Prelude.{int_div, int_rem}
use Rattle.std.specs.Int.{w32, w64, w128, cast_signed, cast_unsigned, int_shr}
use Rattle.std.specs.Int.RustNames.{unsigned_abs}
use Rattle.std.proofs.lemmas.Bool.{cases_lt, lt-ltb, le-ltb}
use Rattle.std.proofs.lemmas.Nat.{and_le_l, or_lt, xor_lt}
use Rattle.std.proofs.lemmas.Int.{unsigned_abs-mul}
use Rattle.rv_isa.specs.declared.operations.RegOp.{RegOp}
use Rattle.rv_isa.specs.declared.operations.RegOp.TheVariants.{Add, Sub, Sll, Slt, Sltu, Xor, Srl, Sra, Or, And, Mul, Mulh, Mulhsu, Mulhu, Div, Divu, Rem, Remu}
use Rattle.rv_isa.specs.declared.operations.RegOpW.{RegOpW}
use Rattle.rv_isa.specs.declared.operations.RegOpW.TheVariants.{Addw, Subw, Sllw, Srlw, Sraw, Mulw, Divw, Divuw, Remw, Remuw}
use Rattle.rv_isa.specs.declared.operations.LoadOp.{LoadOp}
use Rattle.rv_isa.specs.declared.operations.LoadOp.TheVariants.{Lb, Lh, Lw, Ld, Lbu, Lhu, Lwu}
use Rattle.rv_isa.specs.Values.{extended, flag, computed, computed_word, computed_w, load_width, load_value}

-- ---- signed numbers

bits_32 : (z : ℤ) → unsigned_abs z < 2 ^ 32 → cast_unsigned w32 z < 2 ^ 32
bits_32 (pos n) h = h
bits_32 (negsuc n) h = omega arith

bits_64 : (z : ℤ) → unsigned_abs z < 2 ^ 64 → cast_unsigned w64 z < 2 ^ 64
bits_64 (pos n) h = h
bits_64 (negsuc n) h = omega arith

bits_128 : (z : ℤ) → unsigned_abs z < 2 ^ 128 → cast_unsigned w128 z < 2 ^ 128
bits_128 (pos n) h = h
bits_128 (negsuc n) h = omega arith

abs_32 : (x : ℕ) → x < 2 ^ 32 → unsigned_abs (cast_signed w32 x) ≤ 2 ^ 31
abs_32 x h =
    elim (cases_lt x (2 ^ 31)) [
      | inl low ↦ rw (lt-ltb x (2 ^ 31) low) (omega arith)
      | inr high ↦ rw (le-ltb x (2 ^ 31) high) (omega arith)
    ]

abs_64 : (x : ℕ) → x < 2 ^ 64 → unsigned_abs (cast_signed w64 x) ≤ 2 ^ 63
abs_64 x h =
    elim (cases_lt x (2 ^ 63)) [
      | inl low ↦ rw (lt-ltb x (2 ^ 63) low) (omega arith)
      | inr high ↦ rw (le-ltb x (2 ^ 63) high) (omega arith)
    ]

abs_neg : (n : ℕ) → unsigned_abs (neg_ℤ (pos n)) ≡ n
abs_neg zero = refl
abs_neg (suc n) = refl

abs_div : (a b : ℤ) → unsigned_abs (int_div a b) ≤ unsigned_abs a
abs_div (pos a) (pos b) = div-le_self a b
abs_div (pos a) (negsuc b) = rw (abs_neg (a / suc b)) (div-le_self a (suc b))
abs_div (negsuc a) (pos b) = rw (abs_neg (suc a / b)) (div-le_self (suc a) b)
abs_div (negsuc a) (negsuc b) = div-le_self (suc a) (suc b)

abs_rem : (a b : ℤ) → unsigned_abs (int_rem a b) ≤ unsigned_abs a
abs_rem (pos a) b = mod-le a (unsigned_abs b)
abs_rem (negsuc a) b = rw (abs_neg (suc a % unsigned_abs b)) (mod-le (suc a) (unsigned_abs b))

abs_shr : (a : ℤ) (k : ℕ) → unsigned_abs (int_shr a k) ≤ unsigned_abs a
abs_shr (pos a) k = div-le_self a (2 ^ k)
abs_shr (negsuc a) k = let less = div-le_self a (2 ^ k) in omega arith

-- ---- numbers that are extended

pub extended_small : (bits n : ℕ) → n < 2 ^ bits → 2 ^ bits ≤ 2 ^ 64 → extended bits n < 2 ^ 64
extended_small bits n small wide =
    elim (cases_lt n (2 ^ (bits - 1))) [
      | inl low ↦ rw (lt-ltb n (2 ^ (bits - 1)) low) (omega arith)
      | inr high ↦ rw (le-ltb n (2 ^ (bits - 1)) high) (omega arith)
    ]

flag_small : (b : Bool) (k : ℕ) → 1 < k → flag b < k
flag_small true k h = h
flag_small false k h = omega arith

pub if_small : (b : Bool) (x y k : ℕ) → x < k → y < k → (if b then x else y) < k
if_small true x y k hx hy = hx
if_small false x y k hx hy = hy

-- ---- operations

module _ (x y : ℕ) (hx : x < 2 ^ 64) (hy : y < 2 ^ 64) where
  high_small : (z : ℤ) → unsigned_abs z < 2 ^ 128 → cast_unsigned w128 z / 2 ^ 64 < 2 ^ 64
  high_small z h = omega (arith, bits_128 z h)

  pub computed_small : (op : RegOp) → computed op x y < 2 ^ 64
  unfolding computed
  computed_small Add = omega arith
  computed_small Sub = omega arith
  computed_small Sll = omega arith
  computed_small Slt = flag_small _ (2 ^ 64) (lit< tt)
  computed_small Sltu = flag_small _ (2 ^ 64) (lit< tt)
  computed_small Xor = xor_lt 64 x y hx hy
  computed_small Srl = let less = div-le_self x (2 ^ (y % 64)) in omega arith
  computed_small Sra = bits_64 (int_shr (cast_signed w64 x) (y % 64)) (omega (arith, abs_shr (cast_signed w64 x) (y % 64), abs_64 x hx))
  computed_small Or = or_lt 64 x y hx hy
  computed_small And = (let less = and_le_l x y in omega arith)
  computed_small Mul = omega arith
  computed_small Mulh =
      let a = cast_signed w64 x in
      let b = cast_signed w64 y in
      let product = mul-le-mul (abs_64 x hx) (abs_64 y hy) in
      high_small (a *ℤ b) (omega (arith, unsigned_abs-mul a b, product))
  computed_small Mulhsu =
      let a = cast_signed w64 x in
      let less : y ≤ 2 ^ 64 = omega arith in
      let product = mul-le-mul (abs_64 x hx) less in
      high_small (a *ℤ pos y) (omega (arith, unsigned_abs-mul a (pos y), product))
  computed_small Mulhu =
      let less : x ≤ 2 ^ 64 - 1 = omega arith in
      let less' : y ≤ 2 ^ 64 - 1 = omega arith in
      omega (arith, mul-le-mul less less')
  computed_small Div =
      if_small (y == 0) _ _ (2 ^ 64) (lit< tt) (bits_64 (int_div (cast_signed w64 x) (cast_signed w64 y)) (omega (arith, abs_div (cast_signed w64 x) (cast_signed w64 y), abs_64 x hx)))
  computed_small Divu = if_small (y == 0) _ _ (2 ^ 64) (lit< tt) (let less = div-le_self x y in omega arith)
  computed_small Rem =
      if_small (y == 0) _ _ (2 ^ 64) hx (bits_64 (int_rem (cast_signed w64 x) (cast_signed w64 y)) (omega (arith, abs_rem (cast_signed w64 x) (cast_signed w64 y), abs_64 x hx)))
  computed_small Remu = if_small (y == 0) _ _ (2 ^ 64) hx (let less = mod-le x y in omega arith)

module _ (x y : ℕ) (hx : x < 2 ^ 32) (hy : y < 2 ^ 32) where
  computed_word_small : (op : RegOpW) → computed_word op x y < 2 ^ 32
  unfolding computed_word
  computed_word_small Addw = omega arith
  computed_word_small Subw = omega arith
  computed_word_small Sllw = omega arith
  computed_word_small Srlw = let less = div-le_self x (2 ^ (y % 32)) in omega arith
  computed_word_small Sraw = bits_32 (int_shr (cast_signed w32 x) (y % 32)) (omega (arith, abs_shr (cast_signed w32 x) (y % 32), abs_32 x hx))
  computed_word_small Mulw = omega arith
  computed_word_small Divw =
      if_small (y == 0) _ _ (2 ^ 32) (lit< tt) (bits_32 (int_div (cast_signed w32 x) (cast_signed w32 y)) (omega (arith, abs_div (cast_signed w32 x) (cast_signed w32 y), abs_32 x hx)))
  computed_word_small Divuw = if_small (y == 0) _ _ (2 ^ 32) (lit< tt) (let less = div-le_self x y in omega arith)
  computed_word_small Remw =
      if_small (y == 0) _ _ (2 ^ 32) hx (bits_32 (int_rem (cast_signed w32 x) (cast_signed w32 y)) (omega (arith, abs_rem (cast_signed w32 x) (cast_signed w32 y), abs_32 x hx)))
  computed_word_small Remuw = if_small (y == 0) _ _ (2 ^ 32) hx (let less = mod-le x y in omega arith)

pub computed_w_small : (op : RegOpW) (x y : ℕ) → computed_w op x y < 2 ^ 64
computed_w_small op x y =
    let word = computed_word_small (x % 2 ^ 32) (y % 2 ^ 32) (omega arith) (omega arith) op in
    extended_small 32 (computed_word op (x % 2 ^ 32) (y % 2 ^ 32)) word (lit≤ tt)

-- ---- loads

pub load_value_small : (op : LoadOp) (n : ℕ) → n < 256 ^ load_width op → load_value op n < 2 ^ 64
load_value_small Lb n h = extended_small 8 n h (lit≤ tt)
load_value_small Lh n h = extended_small 16 n h (lit≤ tt)
load_value_small Lw n h = extended_small 32 n h (lit≤ tt)
load_value_small Ld n h = h
load_value_small Lbu n h = omega arith
load_value_small Lhu n h = omega arith
load_value_small Lwu n h = omega arith
