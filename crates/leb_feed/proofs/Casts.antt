-- Numbers that were encoded fit what they are cast to.
use Rattle.std.proofs.Common.{◌≡◌, ℕ, ◌+◌, ◌-◌, ◌*◌, ◌^◌, ◌<◌, ◌≤◌, inl, inr, Bool, true, false, List, [], ◌∷◌, length, refl, ap, ◌∙◌, arith, ℤ, pos, ◌+ℤ◌}
use Rattle.std.specs.Prelude.{◌*ℤ◌, neg_ℤ, ◌≤ℤ◌, ◌<ℤ◌}
use Rattle.std.proofs.Common.{T, Fits, to_z, of_z, w32, w64}
use mir.Syntax.{w128}
use lib.Signed.{non_neg}
use Rattle.std.specs.Int.RustNames.{FitsSigned}
use lib.IntN.{nat_abs}
use Rattle.std.proofs.lemmas.Int.{to_z_pos, ints}
use Rattle.std.proofs.lemmas.Nat.{pow-add}
use Rattle.std.proofs.lemmas.Bool.{cases_Bool, ltb-true}
use Rattle.std.proofs.Math.Pow.{pow_mono}
use Rattle.std.proofs.Common.{ltb}
use Rattle.leb_feed.specs.declared.number.ReadAt.TheVariants as answers
use Rattle.leb_feed.specs.Answers.{answer}
use Rattle.wasm_defs.specs.Numbers.{Reading, Number, CutOff, Bad, Spells, number_at}
use Rattle.wasm_defs.proofs.NumberLaws.{seven_more, last_is_whole, after_cut}

-- an unsigned number is a natural one
pub record IsNatural (limit : ℕ) (n : ℤ) : Type 0 where
  pub value : ℕ
  pub is : n ≡ pos value
  pub small : value < limit

pub unsigned_natural : (n : ℤ) (bits : ℕ) (bytes : List ℕ) → Spells n bits false bytes → IsNatural (2 ^ bits) n
unsigned_natural n bits [] p = absurd p
unsigned_natural n bits (b ∷ []) p = record { value = b; is = p.2; small = p.1 }
unsigned_natural n bits (b ∷ c ∷ bytes) p =
    let r = unsigned_natural p.3 (bits - 7) (c ∷ bytes) p.4 in
    let wide = seven_more bits p.2 in
    record {
      value = b - 128 + 128 * r.value;
      is = p.5 ∙ ap (λ (z : ℤ). pos (b - 128) +ℤ (pos 128 *ℤ z)) r.is;
      small = omega (arith, wide, r.small, p.0, p.1);
    }

pub record IsSigned (limit : ℕ) (n : ℤ) : Type 0 where
  pub least : neg_ℤ (pos limit) ≤ℤ n
  pub most : n <ℤ pos limit

pub signed_bounds : (n : ℤ) (bits : ℕ) (bytes : List ℕ) → Spells n bits true bytes → IsSigned (2 ^ (bits - 1)) n
signed_bounds n bits [] p = absurd p
signed_bounds n bits (b ∷ []) (inl p) =
    let low = p.1 in
    let is = p.2 in
    record { least = omega (arith, ints); most = omega (arith, ints) }
signed_bounds n bits (b ∷ []) (inr p) =
    let low = p.1 in
    let high = p.2 in
    let is = p.3 in
    record { least = omega (arith, ints); most = omega (arith, ints) }
signed_bounds n bits (b ∷ c ∷ bytes) p =
    let r = signed_bounds p.3 (bits - 7) (c ∷ bytes) p.4 in
    let ge = p.0 in
    let lt = p.1 in
    let wide = p.2 in
    let e : bits - 1 ≡ 7 + (bits - 7 - 1) = omega arith in
    let k : 2 ^ (bits - 1) ≡ 128 * 2 ^ (bits - 7 - 1) = ap (λ (i : ℕ). 2 ^ i) e ∙ pow-add 2 7 (bits - 7 - 1) in
    let is = p.5 in
    record { least = omega (arith, ints, r.least, r.most); most = omega (arith, ints, r.least, r.most) }

pub spelled_bounds : (n : ℤ) (bits : ℕ) (signed : Bool) (bytes : List ℕ) → bits ≤ 64 → Spells n bits signed bytes → IsSigned (2 ^ 64) n
spelled_bounds n bits false bytes few p =
    let r = unsigned_natural n bits bytes p in
    let is = r.is in
    let small = r.small in
    let most = pow_mono few in
    record { least = omega (arith, ints); most = omega (arith, ints) }
spelled_bounds n bits true bytes few p =
    let r = signed_bounds n bits bytes p in
    let low = r.least in
    let high = r.most in
    let fewer : bits - 1 ≤ 64 = omega arith in
    let most = pow_mono fewer in
    record { least = omega (arith, ints); most = omega (arith, ints) }

pub wide_is : (n : ℤ) → IsSigned (2 ^ 64) n → to_z w128 (of_z w128 n) ≡ n
wide_is n b =
    let low = b.least in
    let high = b.most in
    omega (arith, ints)

wide : (v : ℕ) → v < 2 ^ 32 → to_z w128 v ≡ pos v
wide v small = to_z_pos w128 v (omega arith)

pub cast_fits : (n : ℤ) → IsNatural (2 ^ 32) n → T (non_neg (to_z w128 (of_z w128 n))) × Fits w32 (nat_abs (to_z w128 (of_z w128 n)))
cast_fits n r = rw (r.is, wide r.value r.small) (tt, record { fits = r.small })

pub cast_is : (n : ℤ) (nat : ℤ → ℕ) → ((v : ℕ) → nat (pos v) ≡ v) → IsNatural (2 ^ 32) n → nat n ≡ nat_abs (to_z w128 (of_z w128 n))
cast_is n nat computes r = rw (r.is, wide r.value r.small) (computes r.value)

-- ---- encodings that are cut off are short

pub cut_short : (signed : Bool) (bits : ℕ) (bytes : List ℕ) → 1 ≤ bits → number_at signed bits bytes ≡ CutOff → 7 * length bytes < bits
unfolding number_at
cut_short signed bits [] some e = omega arith
cut_short signed bits (b ∷ bytes) some e =
    elim (cases_Bool (ltb b 128)) [
      | inl low ↦ absurd (last_is_whole signed bits b (rw low at e))
      | inr high ↦ let t = rw high at e in elim (cases_Bool (ltb 7 bits)) [
        | inl wide ↦ let u = rw wide at t in shorter (ltb-true 7 bits wide) (cut_short signed (bits - 7) bytes (omega (arith, ltb-true 7 bits wide)) (after_cut b (number_at signed (bits - 7) bytes) u))
        | inr narrow ↦ absurd (let u = rw narrow at t in cc)
      ]
    ]
  where
    shorter : 7 < bits → 7 * length bytes < bits - 7 → 7 * length (b ∷ bytes) < bits
    shorter h k = omega arith

pub answered_cut : (place : ℕ) (r : Reading) → answers.CutOff ≡ answer place r → r ≡ CutOff
answered_cut place (Number n len) e = absurd cc
answered_cut place CutOff e = refl
answered_cut place Bad e = absurd cc

-- ---- signed numbers

sixty_four : (n : ℤ) (bits : ℕ) → bits ≤ 64 → IsSigned (2 ^ (bits - 1)) n → IsSigned (2 ^ 63) n
sixty_four n bits few b =
    let low = b.least in
    let high = b.most in
    let fewer : bits - 1 ≤ 63 = omega arith in
    let most = pow_mono fewer in
    record { least = omega (arith, ints); most = omega (arith, ints) }

pub signed_is : (n : ℤ) (bits : ℕ) → bits ≤ 64 → IsSigned (2 ^ (bits - 1)) n → to_z w64 (of_z w64 (to_z w128 (of_z w128 n))) ≡ n
signed_is n bits few b =
    let s = sixty_four n bits few b in
    let low = s.least in
    let high = s.most in
    omega (arith, ints)

pub signed_fits : (n : ℤ) (bits : ℕ) → bits ≤ 64 → IsSigned (2 ^ (bits - 1)) n → FitsSigned w64 (to_z w128 (of_z w128 n))
signed_fits n bits few b =
    let s = sixty_four n bits few b in
    let low = s.least in
    let high = s.most in
    grind (arith, ints)

-- ---- the least number

pub grown : (len b r k : ℕ) → r < 2 ^ (7 * k) → k + 1 ≡ len → b < 128 → b + 128 * r < 2 ^ (7 * len)
grown len b r k small e lt =
    let i : 7 * len ≡ 7 + 7 * k = omega (arith, e) in
    let p : 2 ^ (7 * len) ≡ 128 * 2 ^ (7 * k) = ap (λ (i : ℕ). 2 ^ i) i ∙ pow-add 2 7 (7 * k) in
    omega (arith, p, small, lt)

pub few : (len k v : ℕ) → v < 2 ^ (7 * k) → k ≡ len → len ≤ 5 → v < 2 ^ 35
few len k v small e le =
    let fewer : 7 * k ≤ 35 = omega (arith, e, le) in
    let p = pow_mono fewer in
    omega (arith, p, small)
