-- What the answer at an index says of the bytes there.
use Rattle.std.proofs.Common.{◌≡◌, ℕ, ◌+◌, ◌-◌, ◌^◌, ◌<◌, ◌≤◌, List, [], ◌∷◌, length, take, drop, ◌++◌, get_or, refl, sym, ap, ◌∙◌, arith, ℤ, pos, ◌+ℤ◌, append_assoc, length-append}
use Rattle.std.proofs.Common.{to_z, of_z}
use mir.Syntax.{w128}
use Rattle.std.proofs.lemmas.Int.{ints}
use Rattle.std.specs.Prelude.{zero, suc, negsuc, true, false, Bool, ◌↔◌, ◌*ℤ◌}
use Rattle.std.proofs.Common.{ltb, inl, inr, ◌*◌, ◌%◌}
use Rattle.std.proofs.lemmas.Bool.{cases_Bool, lt-ltb, le-ltb}
use Rattle.std.proofs.lemmas.Nat.{pow-add, shl_whole}
use Rattle.std.proofs.Math.IntN.{zero-*ℤ, suc_ℤ-*ℤ, pos-*ℤ-pos, +ℤ_assoc}
use Rattle.std.proofs.Math.Nat.{mul-le-mul_left, mul-le-mul_right}
use Rattle.std.proofs.Math.Pow.{pow_mono}
use Rattle.std.specs.Prelude.{unsigned_abs, FitsSigned}
use Rattle.std.proofs.lemmas.Int.{unsigned_abs-mul, fits_signed_from_abs}
use Rattle.std.proofs.lemmas.List.{drop_more, take-append-drop, length-take, append-nil, get_or-drop}
use Rattle.leb_feed.specs.declared.number.ReadAt.{ReadAt}
use Rattle.leb_feed.specs.declared.number.ReadAt.TheVariants as answers
use Rattle.leb_feed.specs.Answers.{answer, answer_behind}
use Rattle.wasm_defs.specs.Numbers.{Reading, Number, CutOff, Bad, Means, BeginsWithNumber, IsCutOff, IsNoNumber, number_at, last_byte, after_byte}
use Rattle.wasm_defs.proofs.NumberLaws.{AreBytes, reading_means, bytes_from, prefix_free}

-- the number that was answered was read
pub record WasRead (place : ℕ) (r : Reading) (n : ℤ) (next : ℕ) : Type 0 where
  pub len : ℕ
  pub read : r ≡ Number n len
  pub ends : next ≡ place + len

pub was_read : (place : ℕ) (r : Reading) (n : ℤ) (next : ℕ) → answers.Number n next ≡ answer place r → WasRead place r n next
was_read place (Number m len) n next e = record { len = len; read = cc; ends = cc }
was_read place CutOff n next e = absurd cc
was_read place Bad n next e = absurd cc

-- ---- one byte alone

pub small_byte : (signed : Bool) (bits place : ℕ) (bytes : List ℕ) (b : ℕ) → place < length bytes → b ≡ get_or bytes place 0 → b < 64 → 7 ≤ bits
    → answers.Number (pos b) (place + 1) ≡ answer place (number_at signed bits (drop place bytes))
unfolding number_at
small_byte false bits place bytes b lt is low wide =
    let cut : drop place bytes ≡ b ∷ drop (place + 1) bytes = rw is (drop_more bytes place 0 lt) in
    let p : 2 ^ 7 ≤ 2 ^ bits = pow_mono wide in
    let below : b < 128 = omega arith in
    let fits : b < 2 ^ bits = omega (arith, p) in
    rw (cut, lt-ltb b 128 below, lt-ltb b (2 ^ bits) fits) refl
small_byte true bits place bytes b lt is low wide =
    let cut : drop place bytes ≡ b ∷ drop (place + 1) bytes = rw is (drop_more bytes place 0 lt) in
    let fewer : 6 ≤ bits - 1 = omega arith in
    let p : 2 ^ 6 ≤ 2 ^ (bits - 1) = pow_mono fewer in
    let below : b < 128 = omega arith in
    let fits : b < 2 ^ (bits - 1) = omega (arith, p) in
    rw (cut, lt-ltb b 128 below, lt-ltb b 64 low, lt-ltb b (2 ^ (bits - 1)) fits) refl

pub small_negative : (bits place : ℕ) (bytes : List ℕ) (b : ℕ) → place < length bytes → b ≡ get_or bytes place 0 → 64 ≤ b → b < 128 → 7 ≤ bits
    → answers.Number (negsuc (127 - b)) (place + 1) ≡ answer place (number_at true bits (drop place bytes))
unfolding number_at
small_negative bits place bytes b lt is high below wide =
    let cut : drop place bytes ≡ b ∷ drop (place + 1) bytes = rw is (drop_more bytes place 0 lt) in
    let fewer : 6 ≤ bits - 1 = omega arith in
    let p : 2 ^ 6 ≤ 2 ^ (bits - 1) = pow_mono fewer in
    let fits : 128 ≤ b + 2 ^ (bits - 1) = omega (arith, p) in
    rw (cut, lt-ltb b 128 below, le-ltb b 64 high, le-ltb (b + 2 ^ (bits - 1)) 128 fits) refl

-- ---- bytes after others, which come to a number below 2 ^ k

adds : (a b : ℕ) (n : ℤ) → pos (a + b) *ℤ n ≡ (pos a *ℤ n) +ℤ (pos b *ℤ n)
adds zero b n = let e : pos zero *ℤ n ≡ pos zero = zero-*ℤ n in omega (arith, ints, e)
adds (suc a) b n =
    let e : pos (suc (a + b)) *ℤ n ≡ (pos (a + b) *ℤ n) +ℤ n = suc_ℤ-*ℤ (pos (a + b)) n in
    let f : pos (suc a) *ℤ n ≡ (pos a *ℤ n) +ℤ n = suc_ℤ-*ℤ (pos a) n in
    let g = adds a b n in
    let h : suc a + b ≡ suc (a + b) = omega arith in
    ap (λ (k : ℕ). pos k *ℤ n) h ∙ omega (arith, ints, e, f, g)

spreads : (s : ℕ) (x y : ℤ) → pos s *ℤ (x +ℤ y) ≡ (pos s *ℤ x) +ℤ (pos s *ℤ y)
spreads zero x y =
    let e : pos zero *ℤ (x +ℤ y) ≡ pos zero = zero-*ℤ (x +ℤ y) in
    let f : pos zero *ℤ x ≡ pos zero = zero-*ℤ x in
    let g : pos zero *ℤ y ≡ pos zero = zero-*ℤ y in
    omega (arith, ints, e, f, g)
spreads (suc s) x y =
    let e : pos (suc s) *ℤ (x +ℤ y) ≡ (pos s *ℤ (x +ℤ y)) +ℤ (x +ℤ y) = suc_ℤ-*ℤ (pos s) (x +ℤ y) in
    let f : pos (suc s) *ℤ x ≡ (pos s *ℤ x) +ℤ x = suc_ℤ-*ℤ (pos s) x in
    let g : pos (suc s) *ℤ y ≡ (pos s *ℤ y) +ℤ y = suc_ℤ-*ℤ (pos s) y in
    let h = spreads s x y in
    omega (arith, ints, e, f, g, h)

scaled : (s : ℕ) (n : ℤ) → pos (s * 128) *ℤ n ≡ pos s *ℤ (pos 128 *ℤ n)
scaled zero n = zero-*ℤ n ∙ sym (zero-*ℤ (pos 128 *ℤ n))
scaled (suc s) n =
    let h : suc s * 128 ≡ s * 128 + 128 = omega arith in
    let e = adds (s * 128) 128 n in
    let f : pos (suc s) *ℤ (pos 128 *ℤ n) ≡ (pos s *ℤ (pos 128 *ℤ n)) +ℤ (pos 128 *ℤ n) = suc_ℤ-*ℤ (pos s) (pos 128 *ℤ n) in
    ap (λ (k : ℕ). pos k *ℤ n) h ∙ e ∙ ap (λ (z : ℤ). z +ℤ (pos 128 *ℤ n)) (scaled s n) ∙ sym f

sums : (low a scale : ℕ) (n : ℤ) → pos (low + a * scale) +ℤ (pos (scale * 128) *ℤ n) ≡ pos low +ℤ (pos scale *ℤ (pos a +ℤ (pos 128 *ℤ n)))
sums low a scale n =
    let tail = pos scale *ℤ (pos 128 *ℤ n) in
    let e : pos (low + a * scale) ≡ pos low +ℤ pos (scale * a) = omega (arith, ints) in
    let f : pos scale *ℤ (pos a +ℤ (pos 128 *ℤ n)) ≡ pos (scale * a) +ℤ tail = spreads scale (pos a) (pos 128 *ℤ n) ∙ ap (λ (z : ℤ). z +ℤ tail) (pos-*ℤ-pos scale a) in
    ap (λ (z : ℤ). z +ℤ (pos (scale * 128) *ℤ n)) e ∙ ap (λ (z : ℤ). (pos low +ℤ pos (scale * a)) +ℤ z) (scaled scale n) ∙ +ℤ_assoc (pos low) (pos (scale * a)) tail ∙ ap (λ (z : ℤ). pos low +ℤ z) (sym f)

behind_byte : (low b scale place : ℕ) (r : Reading) → answer_behind (low + (b - 128) * scale) (scale * 128) (place + 1) r ≡ answer_behind low scale place (after_byte b r)
behind_byte low b scale place (Number n len) =
    let ends : place + 1 + len ≡ place + (len + 1) = omega arith in
    rw (sums low (b - 128) scale n, ends) refl
behind_byte low b scale place CutOff = refl
behind_byte low b scale place Bad = refl

pub goes_on : (signed : Bool) (bits place low k : ℕ) (bytes : List ℕ) (b : ℕ) → place < length bytes → b ≡ get_or bytes place 0 → 128 ≤ b → 7 < bits
    → answer_behind (low + (b - 128) * 2 ^ k) (2 ^ (k + 7)) (place + 1) (number_at signed (bits - 7) (drop (place + 1) bytes))
    ≡ answer_behind low (2 ^ k) place (number_at signed bits (drop place bytes))
unfolding number_at
goes_on signed bits place low k bytes b lt is ge wide =
    let cut : drop place bytes ≡ b ∷ drop (place + 1) bytes = rw is (drop_more bytes place 0 lt) in
    rw (cut, le-ltb b 128 ge, lt-ltb 7 bits wide, pow-add 2 k 7) (behind_byte low b (2 ^ k) place (number_at signed (bits - 7) (drop (place + 1) bytes)))

pub ends_with : (signed : Bool) (bits place low k : ℕ) (bytes : List ℕ) (b : ℕ) (n : ℤ) (next : ℕ) → place < length bytes → b ≡ get_or bytes place 0 → b < 128
    → answers.Number n next ≡ answer place (last_byte signed bits b)
    → answers.Number (pos low +ℤ (pos (2 ^ k) *ℤ n)) next ≡ answer_behind low (2 ^ k) place (number_at signed bits (drop place bytes))
unfolding number_at
ends_with signed bits place low k bytes b n next lt is below e =
    let cut : drop place bytes ≡ b ∷ drop (place + 1) bytes = rw is (drop_more bytes place 0 lt) in
    let w = was_read place (last_byte signed bits b) n next e in
    rw (cut, lt-ltb b 128 below, w.read) (ap (λ (i : ℕ). answers.Number (pos low +ℤ (pos (2 ^ k) *ℤ n)) i) w.ends)

-- a last byte's number is near zero
pub near : (signed : Bool) (bits b place : ℕ) (n : ℤ) (next : ℕ) → b < 128 → answers.Number n next ≡ answer place (last_byte signed bits b) → unsigned_abs n ≤ 128
near false bits b place n next lt e =
    elim (cases_Bool (ltb b (2 ^ bits))) [
      | inl h ↦ let t = rw h at e in let is : n ≡ pos b = cc in rw is (omega arith)
      | inr h ↦ absurd (let t = rw h at e in cc)
    ]
near true bits b place n next lt e =
    elim (cases_Bool (ltb b 64)) [
      | inl low ↦ let t = rw low at e in elim (cases_Bool (ltb b (2 ^ (bits - 1)))) [
        | inl h ↦ let u = rw h at t in let is : n ≡ pos b = cc in rw is (omega arith)
        | inr h ↦ absurd (let u = rw h at t in cc)
      ]
      | inr high ↦ let t = rw high at e in elim (cases_Bool (ltb (b + 2 ^ (bits - 1)) 128)) [
        | inl h ↦ absurd (let u = rw h at t in cc)
        | inr h ↦ let u = rw h at t in let is : n ≡ negsuc (127 - b) = cc in rw is (omega arith)
      ]
    ]

pub more_bits : (b k : ℕ) → 128 ≤ b → b < 256 → 7 + k ≤ 64 → ((b - 128) * 2 ^ k) % 2 ^ 64 ≡ (b - 128) * 2 ^ k
more_bits b k ge lt few = shl_whole (b - 128) 7 k 64 (omega arith) few

pub more_below : (low b k : ℕ) → low < 2 ^ k → 128 ≤ b → b < 256 → low + (b - 128) * 2 ^ k < 2 ^ (k + 7)
more_below low b k small ge lt =
    let p : 2 ^ (k + 7) ≡ 2 ^ k * 128 = pow-add 2 k 7 in
    let most : b - 128 ≤ 127 = omega arith in
    let m : (b - 128) * 2 ^ k ≤ 127 * 2 ^ k = mul-le-mul_right (2 ^ k) most in
    omega (arith, p, m, small)

-- ---- what the code computes, which fits

kept : (z : ℤ) → unsigned_abs z ≤ 2 ^ 70 → to_z w128 (of_z w128 z) ≡ z
kept z h = omega (arith, ints, h)

scaled_near : (k : ℕ) (n : ℤ) → k < 64 → unsigned_abs n ≤ 128 → unsigned_abs (pos (2 ^ k) *ℤ n) ≤ 2 ^ 70
scaled_near k n few close =
    let fewer : k ≤ 63 = omega arith in
    let q : 2 ^ k ≤ 2 ^ 63 = pow_mono fewer in
    let m : unsigned_abs (pos (2 ^ k) *ℤ n) ≡ 2 ^ k * unsigned_abs n = unsigned_abs-mul (pos (2 ^ k)) n in
    let most : 2 ^ k * unsigned_abs n ≤ 2 ^ k * 128 = mul-le-mul_left (2 ^ k) close in
    omega (arith, m, most, q)

scale_kept : (scale : ℤ) (k : ℕ) → scale ≡ pos (2 ^ k) → k < 64 → to_z w128 (of_z w128 scale) ≡ pos (2 ^ k)
scale_kept scale k times few =
    let fewer : k ≤ 63 = omega arith in
    let q : 2 ^ k ≤ 2 ^ 63 = pow_mono fewer in
    omega (arith, ints, q, times)

low_kept : (low : ℤ) (l : ℕ) → low ≡ pos l → l < 2 ^ 64 → to_z w128 (of_z w128 low) ≡ pos l
low_kept low l is small = omega (arith, ints, is, small)

pub product_fits : (scale : ℤ) (k : ℕ) (n : ℤ) → scale ≡ pos (2 ^ k) → k < 64 → unsigned_abs n ≤ 128
    → FitsSigned w128 (to_z w128 (of_z w128 scale) *ℤ to_z w128 (of_z w128 n))
product_fits scale k n times few close =
    let two : to_z w128 (of_z w128 n) ≡ n = kept n (omega (arith, close)) in
    let bound = scaled_near k n few close in
    rw (scale_kept scale k times few, two) (fits_signed_from_abs w128 (pos (2 ^ k) *ℤ n) (omega (arith, bound)))

pub sum_fits : (low scale : ℤ) (l k : ℕ) (n : ℤ) → low ≡ pos l → scale ≡ pos (2 ^ k) → l < 2 ^ 64 → k < 64 → unsigned_abs n ≤ 128
    → FitsSigned w128 (to_z w128 (of_z w128 low) +ℤ to_z w128 (of_z w128 (to_z w128 (of_z w128 scale) *ℤ to_z w128 (of_z w128 n))))
sum_fits low scale l k n is times small few close =
    let two : to_z w128 (of_z w128 n) ≡ n = kept n (omega (arith, close)) in
    let bound = scaled_near k n few close in
    rw (scale_kept scale k times few, two, low_kept low l is small, kept (pos (2 ^ k) *ℤ n) bound)
    (fits_signed_from_abs w128 (pos l +ℤ (pos (2 ^ k) *ℤ n)) (sum_near (pos (2 ^ k) *ℤ n) l bound small))
  where
    sum_near : (z : ℤ) (l : ℕ) → unsigned_abs z ≤ 2 ^ 70 → l < 2 ^ 64 → unsigned_abs (pos l +ℤ z) < 2 ^ 127
    sum_near z l h g = omega (arith, ints, h, g)

pub joined : (low scale : ℤ) (l k : ℕ) (n : ℤ) → low ≡ pos l → scale ≡ pos (2 ^ k) → l < 2 ^ 64 → k < 64 → unsigned_abs n ≤ 128
    → to_z w128 (of_z w128 (to_z w128 (of_z w128 low) +ℤ to_z w128 (of_z w128 (to_z w128 (of_z w128 scale) *ℤ to_z w128 (of_z w128 n))))) ≡ pos l +ℤ (pos (2 ^ k) *ℤ n)
joined low scale l k n is times small few close =
    let two : to_z w128 (of_z w128 n) ≡ n = kept n (omega (arith, close)) in
    let bound = scaled_near k n few close in
    rw (scale_kept scale k times few, two, low_kept low l is small) (whole (pos (2 ^ k) *ℤ n) l bound small)
  where
    whole : (z : ℤ) (l : ℕ) → unsigned_abs z ≤ 2 ^ 70 → l < 2 ^ 64 → to_z w128 (of_z w128 (pos l +ℤ to_z w128 (of_z w128 z))) ≡ pos l +ℤ z
    whole z l h g = let k = kept z h in rw k (omega (arith, ints, h, g))

abbrev pub HasNumber : Bool → ℕ → ℕ → List ℕ → ℤ → ℕ → Type 0
HasNumber signed bits place bytes n next = (len : ℕ) × (next ≡ place + len) × BeginsWithNumber signed bits bytes n len

abbrev pub Says : Bool → ℕ → ℕ → List ℕ → ReadAt → Type 0
Says signed bits place bytes result =
    ((n : ℤ) (next : ℕ) → (result ≡ answers.Number n next) ↔ HasNumber signed bits place bytes n next)
    × ((result ≡ answers.CutOff) ↔ IsCutOff signed bits bytes)
    × ((result ≡ answers.Bad) ↔ IsNoNumber signed bits bytes)

-- each answer says what the reading means, and is given where that holds
module _ (signed : Bool) (bits place : ℕ) (bytes : List ℕ) where
  says : (r : Reading) → Means signed bits bytes r → Says signed bits place bytes (answer place r)
  says (Number m len) p =
      (λ n next. (to n next, from n next), (λ e. absurd cc, λ q. absurd (not_cut q)), (λ e. absurd cc, λ q. absurd (q.0 m len p)))
    where
      to : (n : ℤ) (next : ℕ) → answers.Number m (place + len) ≡ answers.Number n next → HasNumber signed bits place bytes n next
      to n next e =
          let k : m ≡ n = cc in
          let j : place + len ≡ next = cc in
          (len, sym j, rw (← k) p)

      from : (n : ℤ) (next : ℕ) → HasNumber signed bits place bytes n next → answers.Number m (place + len) ≡ answers.Number n next
      from n next q =
          let whole = prefix_free signed bits (take len bytes) (take q.0 bytes) (drop len bytes) (drop q.0 bytes) m n p.1 q.2.1 (take-append-drop len bytes ∙ sym (take-append-drop q.0 bytes)) in
          let same : len ≡ q.0 = omega (arith, ap length whole.0, length-take len bytes, length-take q.0 bytes, p.0, q.2.0) in
          let ends : place + len ≡ next = omega (arith, q.1) in
          rw (whole.1, ends) refl

      not_cut : IsCutOff signed bits bytes → ⊥
      not_cut q =
          let parts : take len bytes ++ (drop len bytes ++ q.1 ∷ q.2) ≡ (bytes ++ q.1 ∷ q.2) ++ [] = sym (append_assoc (take len bytes) (drop len bytes) (q.1 ∷ q.2)) ∙ ap (λ (l : List ℕ). l ++ q.1 ∷ q.2) (take-append-drop len bytes) ∙ sym (append-nil (bytes ++ q.1 ∷ q.2)) in
          let whole = prefix_free signed bits (take len bytes) (bytes ++ q.1 ∷ q.2) (drop len bytes ++ q.1 ∷ q.2) [] m q.0 p.1 q.3 parts in
          omega (arith, ap length whole.0, length-take len bytes, length-append bytes (q.1 ∷ q.2), p.0)
  says CutOff p = (λ n next. (λ e. absurd cc, λ q. absurd (not_whole n next q)), (λ e. p, λ q. refl), (λ e. absurd cc, λ q. absurd (q.1 p)))
    where
      not_whole : (n : ℤ) (next : ℕ) → HasNumber signed bits place bytes n next → ⊥
      not_whole n next q =
          let len = q.0 in
          let parts : take len bytes ++ (drop len bytes ++ p.1 ∷ p.2) ≡ (bytes ++ p.1 ∷ p.2) ++ [] = sym (append_assoc (take len bytes) (drop len bytes) (p.1 ∷ p.2)) ∙ ap (λ (l : List ℕ). l ++ p.1 ∷ p.2) (take-append-drop len bytes) ∙ sym (append-nil (bytes ++ p.1 ∷ p.2)) in
          let whole = prefix_free signed bits (take len bytes) (bytes ++ p.1 ∷ p.2) (drop len bytes ++ p.1 ∷ p.2) [] n p.0 q.2.1 p.3 parts in
          omega (arith, ap length whole.0, length-take len bytes, length-append bytes (p.1 ∷ p.2), q.2.0)
  says Bad p = (λ n next. (λ e. absurd cc, λ q. absurd (p.0 n q.0 q.2)), (λ e. absurd cc, λ q. absurd (p.1 q)), (λ e. p, λ q. refl))

  pub all_said : (result : ReadAt) → AreBytes bytes → result ≡ answer place (number_at signed bits bytes) → Says signed bits place bytes result
  all_said result fits e = rw e (says (number_at signed bits bytes) (reading_means signed bits bytes fits))

pub bytes_after : (place : ℕ) (bytes : List ℕ) → ((i : ℕ) → get_or bytes i 0 < 256) → AreBytes (drop place bytes)
bytes_after place bytes h = bytes_from (drop place bytes) (λ i. rw get_or-drop (h (place + i)))
