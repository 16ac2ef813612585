-- A text that is read to its end is UTF-8, and UTF-8 is read to its end.
use Rattle.std.proofs.Common.{◌≡◌, ◌≢◌, ◌≤◌, ◌<◌, ◌⊎◌, inl, inr, ℕ, zero, suc, ◌+◌, ◌-◌, ◌*◌, ◌/◌, ◌%◌, true, false, ltb, eqb, ◌||◌, List, [], ◌∷◌, ◌++◌, length, Option, Some, None, refl, sym, ap, subst, ◌∙◌, arith, IsUtf8, encode_utf8_all}
use Rattle.std.specs.Char.{IsScalar, encode_utf8}
use Rattle.std.specs.Str.{all_scalars}
use Rattle.std.proofs.lemmas.Bool.{cases_lt, cases_eq, lt-ltb, le-ltb, leb-true, ne_eqb, and_parts}
use Rattle.std.proofs.lemmas.Bool.{cond-true, cond-false}
use Rattle.std.proofs.lemmas.Bool.Decides.{nat_tests}
use Rattle.std.proofs.lemmas.Str.{IsUtf8-append, IsUtf8-encode, IsUtf8-nil, encode_ascii}
use Rattle.wasm_defs.specs.declared.text.Inside.{Inside}
use Rattle.wasm_defs.specs.Text.{between, due_in, first_byte, next_byte, completes}

-- ---- the bytes of a character

pub encode_two : (c : ℕ) → 0x80 ≤ c → c < 0x800 → encode_utf8 c ≡ (192 + c / 64) ∷ (128 + c % 64) ∷ []
unfolding encode_utf8
encode_two c low high = cond-false _ _ _ (le-ltb c 128 low) ∙ cond-true _ _ _ (lt-ltb c 2048 high)

pub encode_three : (c : ℕ) → 0x800 ≤ c → c < 0x1_0000 → encode_utf8 c ≡ (224 + c / 4096) ∷ (128 + (c / 64) % 64) ∷ (128 + c % 64) ∷ []
unfolding encode_utf8
encode_three c low high = cond-false _ _ _ (le-ltb c 128 (omega arith)) ∙ cond-false _ _ _ (le-ltb c 2048 low) ∙ cond-true _ _ _ (lt-ltb c 65536 high)

pub encode_four : (c : ℕ) → 0x1_0000 ≤ c → encode_utf8 c ≡ (240 + c / 262144) ∷ (128 + (c / 4096) % 64) ∷ (128 + (c / 64) % 64) ∷ (128 + c % 64) ∷ []
unfolding encode_utf8
encode_four c low = cond-false _ _ _ (le-ltb c 128 (omega arith)) ∙ cond-false _ _ _ (le-ltb c 2048 (omega arith)) ∙ cond-false _ _ _ (le-ltb c 65536 low)

-- below the surrogates, or above them
abbrev Scalar : ℕ → Type 0
Scalar c = (c < 0xD800) ⊎ ((0xE000 ≤ c) × (c < 0x11_0000))

scalar_bounds : (c : ℕ) → IsScalar c → Scalar c
scalar_bounds c h = grind (arith, nat_tests)

bounds_scalar : (c : ℕ) → Scalar c → IsScalar c
bounds_scalar c h = grind (arith, nat_tests)

-- ---- first bytes

first_one : (b : ℕ) → b < 0x80 → first_byte b ≡ between
first_one b h = rw (lt-ltb b 0x80 h) refl

first_stray : (b : ℕ) → 0x80 ≤ b → b < 0xC2 → first_byte b ≡ None
first_stray b low high = rw (le-ltb b 0x80 low, lt-ltb b 0xC2 high) refl

first_two : (b : ℕ) → 0xC2 ≤ b → b < 0xE0 → first_byte b ≡ due_in 1 0x80 0xBF
first_two b low high = rw (le-ltb b 0x80 (omega arith), le-ltb b 0xC2 low, lt-ltb b 0xE0 high) refl

-- a row of the table: so many bytes are due after the first one, the second of them within a range, which is narrower at
-- the least first byte, and at one more
record Row (due b low high narrow least : ℕ) : Type 0 where
  from : ℕ
  to : ℕ
  is : first_byte b ≡ due_in due from to
  at_low : b ≡ low → from ≡ least
  above_low : b ≢ low → from ≡ 0x80
  at_high : b ≡ high → to ≡ narrow
  beside_high : b ≢ high → to ≡ 0xBF

first_three : (b : ℕ) → 0xE0 ≤ b → b < 0xF0 → Row 2 b 0xE0 0xED 0x9F 0xA0
first_three b low high =
    elim (cases_eq b 0xE0) [
      | inl e ↦ record { from = 0xA0; to = 0xBF; is = rw e refl; at_low = λ h. refl; above_low = λ h. absurd (h e); at_high = λ h. absurd (omega arith); beside_high = λ h. refl }
      | inr n ↦ elim (cases_eq b 0xED) [
        | inl e ↦ record { from = 0x80; to = 0x9F; is = rw e refl; at_low = λ h. absurd (n h); above_low = λ h. refl; at_high = λ h. refl; beside_high = λ h. absurd (h e) }
        | inr m ↦ record { from = 0x80; to = 0xBF; is = rw (le-ltb b 0x80 (omega arith), le-ltb b 0xC2 (omega arith), le-ltb b 0xE0 low, ne_eqb b 0xE0 n, ne_eqb b 0xED m, lt-ltb b 0xF0 high) refl; at_low = λ h. absurd (n h); above_low = λ h. refl; at_high = λ h. absurd (m h); beside_high = λ h. refl }
      ]
    ]

first_four : (b : ℕ) → 0xF0 ≤ b → b < 0xF5 → Row 3 b 0xF0 0xF4 0x8F 0x90
first_four b low high =
    elim (cases_eq b 0xF0) [
      | inl e ↦ record { from = 0x90; to = 0xBF; is = rw e refl; at_low = λ h. refl; above_low = λ h. absurd (h e); at_high = λ h. absurd (omega arith); beside_high = λ h. refl }
      | inr n ↦ elim (cases_eq b 0xF4) [
        | inl e ↦ record { from = 0x80; to = 0x8F; is = rw e refl; at_low = λ h. absurd (n h); above_low = λ h. refl; at_high = λ h. refl; beside_high = λ h. absurd (h e) }
        | inr m ↦ record { from = 0x80; to = 0xBF; is = rw (le-ltb b 0x80 (omega arith), le-ltb b 0xC2 (omega arith), le-ltb b 0xE0 (omega arith), ne_eqb b 0xE0 (λ h. omega arith), ne_eqb b 0xED (λ h. omega arith), le-ltb b 0xF0 low, ne_eqb b 0xF0 n, lt-ltb b 0xF4 (omega arith)) refl; at_low = λ h. absurd (n h); above_low = λ h. refl; at_high = λ h. absurd (m h); beside_high = λ h. refl }
      ]
    ]

first_none : (b : ℕ) → 0xF5 ≤ b → first_byte b ≡ None
first_none b low = rw (le-ltb b 0x80 (omega arith), le-ltb b 0xC2 (omega arith), le-ltb b 0xE0 (omega arith), ne_eqb b 0xE0 (λ h. omega arith), ne_eqb b 0xED (λ h. omega arith), le-ltb b 0xF0 (omega arith), ne_eqb b 0xF0 (λ h. omega arith), le-ltb b 0xF4 (omega arith), ne_eqb b 0xF4 (λ h. omega arith)) refl

-- ---- bytes that are due

one_on : (n : ℕ) (s : Inside) (b : ℕ) (bytes : List ℕ) → completes (suc n) (Some s) (b ∷ bytes) ≡ completes n (next_byte s b) bytes
one_on n s b bytes = let e : suc n - 1 ≡ n = omega arith in ap (λ (k : ℕ). completes k (next_byte s b) bytes) e

-- between characters the range doesn't matter
any_between : (n : ℕ) (least most : ℕ) (bytes : List ℕ) → completes n (due_in 0 least most) bytes ≡ completes n between bytes
any_between n least most [] = refl
any_between n least most (b ∷ bytes) = refl

due_on : (n k least most b : ℕ) (bytes : List ℕ) → least ≤ b → b ≤ most → completes (suc n) (due_in (suc k) least most) (b ∷ bytes) ≡ completes n (due_in k 0x80 0xBF) bytes
due_on n k least most b bytes low high =
    let s : Inside = record { due = suc k; least = least; most = most } in
    let some : eqb (suc k) 0 ≡ false = ne_eqb (suc k) 0 (λ e. omega arith) in
    let fewer : suc k - 1 ≡ k = omega arith in
    let next : next_byte s b ≡ due_in k 0x80 0xBF = rw (some, le-ltb b least low, le-ltb most b high, fewer) refl in
    one_on n s b bytes ∙ ap (λ (o : Option Inside). completes n o bytes) next

-- a byte is there, and within its range
record Due (k least most : ℕ) (bytes : List ℕ) : Type 0 where
  byte : ℕ
  rest : List ℕ
  is : bytes ≡ byte ∷ rest
  low : least ≤ byte
  high : byte ≤ most
  goes : completes (length rest) (due_in k 0x80 0xBF) rest ≡ true

due_there : (k least most : ℕ) (bytes : List ℕ) → completes (length bytes) (due_in (suc k) least most) bytes ≡ true → Due k least most bytes
due_there k least most [] h = absurd (let le = leb-true (suc k) 0 h in omega arith)
due_there k least most (b ∷ bytes) h =
    elim (cases_lt b least) [
      | inl lt ↦ absurd (let e = refused (rw (lt-ltb b least lt) refl) in cc)
      | inr low ↦ elim (cases_lt most b) [
        | inl lt ↦ absurd (let e = refused (rw (le-ltb b least low, lt-ltb most b lt) refl) in cc)
        | inr high ↦ record { byte = b; rest = bytes; is = refl; low = low; high = high; goes = sym (due_on (length bytes) k least most b bytes low high) ∙ h }
      ]
    ]
  where
    s : Inside
    s = record { due = suc k; least = least; most = most }

    refused : (ltb b least || ltb most b) ≡ true → false ≡ true
    refused out =
        let some : eqb (suc k) 0 ≡ false = ne_eqb (suc k) 0 (λ e. omega arith) in
        let next : next_byte s b ≡ None = rw (some, out) refl in
        sym (one_on (length bytes) s b bytes ∙ ap (λ (o : Option Inside). completes (length bytes) o bytes) next) ∙ h

-- ---- characters

start : (n b : ℕ) (bytes : List ℕ) → completes (suc n) between (b ∷ bytes) ≡ completes n (first_byte b) bytes
start n b bytes = one_on n (record { due = 0; least = 0; most = 0 }) b bytes

one_passes : (n b : ℕ) (rest : List ℕ) → b < 0x80 → completes (suc n) between (b ∷ rest) ≡ completes n between rest
one_passes n b rest h = start n b rest ∙ ap (λ (o : Option Inside). completes n o rest) (first_one b h)

two_pass : (n b d : ℕ) (rest : List ℕ) → 0xC2 ≤ b → b < 0xE0 → 0x80 ≤ d → d ≤ 0xBF → completes (suc (suc n)) between (b ∷ d ∷ rest) ≡ completes n between rest
two_pass n b d rest low high from to =
    start (suc n) b (d ∷ rest)
    ∙ ap (λ (o : Option Inside). completes (suc n) o (d ∷ rest)) (first_two b low high)
    ∙ due_on n 0 0x80 0xBF d rest from to
    ∙ any_between n 0x80 0xBF rest

three_pass : (n b d e least most : ℕ) (rest : List ℕ) → first_byte b ≡ due_in 2 least most → least ≤ d → d ≤ most → 0x80 ≤ e → e ≤ 0xBF → completes (suc (suc (suc n))) between (b ∷ d ∷ e ∷ rest) ≡ completes n between rest
three_pass n b d e least most rest is from to low high =
    start (suc (suc n)) b (d ∷ e ∷ rest)
    ∙ ap (λ (o : Option Inside). completes (suc (suc n)) o (d ∷ e ∷ rest)) is
    ∙ due_on (suc n) 1 least most d (e ∷ rest) from to
    ∙ due_on n 0 0x80 0xBF e rest low high
    ∙ any_between n 0x80 0xBF rest

four_pass : (n b d e f least most : ℕ) (rest : List ℕ) → first_byte b ≡ due_in 3 least most → least ≤ d → d ≤ most → 0x80 ≤ e → e ≤ 0xBF → 0x80 ≤ f → f ≤ 0xBF → completes (suc (suc (suc (suc n)))) between (b ∷ d ∷ e ∷ f ∷ rest) ≡ completes n between rest
four_pass n b d e f least most rest is from to low high start_of end_of =
    start (suc (suc (suc n))) b (d ∷ e ∷ f ∷ rest)
    ∙ ap (λ (o : Option Inside). completes (suc (suc (suc n))) o (d ∷ e ∷ f ∷ rest)) is
    ∙ due_on (suc (suc n)) 2 least most d (e ∷ f ∷ rest) from to
    ∙ due_on (suc n) 1 0x80 0xBF e (f ∷ rest) low high
    ∙ due_on n 0 0x80 0xBF f rest start_of end_of
    ∙ any_between n 0x80 0xBF rest

-- ---- UTF-8 is read to its end

-- the second byte is within the range of its row
second_of_three : (c from to : ℕ) → (224 + c / 4096 ≡ 0xE0 → from ≡ 0xA0) → (224 + c / 4096 ≢ 0xE0 → from ≡ 0x80) → (224 + c / 4096 ≡ 0xED → to ≡ 0x9F) → (224 + c / 4096 ≢ 0xED → to ≡ 0xBF) → Scalar c → 0x800 ≤ c → c < 0x1_0000
    → (from ≤ 128 + (c / 64) % 64) × (128 + (c / 64) % 64 ≤ to)
second_of_three c from to at_low above_low at_high beside_high h low high = (least, most)
  where
    least : from ≤ 128 + (c / 64) % 64
    least = elim (cases_eq (c / 4096) 0) [
      | inl e ↦ omega (arith, at_low (omega arith))
      | inr n ↦ omega (arith, above_low (λ k. n (omega arith)))
    ]

    most : 128 + (c / 64) % 64 ≤ to
    most = elim (cases_eq (c / 4096) 13) [
      | inl e ↦ omega (arith, at_high (omega arith))
      | inr n ↦ omega (arith, beside_high (λ k. n (omega arith)))
    ]

second_of_four : (c from to : ℕ) → (240 + c / 262144 ≡ 0xF0 → from ≡ 0x90) → (240 + c / 262144 ≢ 0xF0 → from ≡ 0x80) → (240 + c / 262144 ≡ 0xF4 → to ≡ 0x8F) → (240 + c / 262144 ≢ 0xF4 → to ≡ 0xBF) → c < 0x11_0000 → 0x1_0000 ≤ c
    → (from ≤ 128 + (c / 4096) % 64) × (128 + (c / 4096) % 64 ≤ to)
second_of_four c from to at_low above_low at_high beside_high high low = (least, most)
  where
    least : from ≤ 128 + (c / 4096) % 64
    least = elim (cases_eq (c / 262144) 0) [
      | inl e ↦ omega (arith, at_low (omega arith))
      | inr n ↦ omega (arith, above_low (λ k. n (omega arith)))
    ]

    most : 128 + (c / 4096) % 64 ≤ to
    most = elim (cases_eq (c / 262144) 4) [
      | inl e ↦ omega (arith, at_high (omega arith))
      | inr n ↦ omega (arith, beside_high (λ k. n (omega arith)))
    ]

three_passes : (c : ℕ) (rest : List ℕ) → Scalar c → 0x800 ≤ c → c < 0x1_0000 → Row 2 (224 + c / 4096) 0xE0 0xED 0x9F 0xA0 → completes (length (encode_utf8 c ++ rest)) between (encode_utf8 c ++ rest) ≡ completes (length rest) between rest
three_passes c rest h low high r =
    let s = second_of_three c r.from r.to r.at_low r.above_low r.at_high r.beside_high h low high in
    rw (encode_three c low high) (three_pass (length rest) (224 + c / 4096) (128 + (c / 64) % 64) (128 + c % 64) r.from r.to rest r.is s.0 s.1 (omega arith) (omega arith))

four_passes : (c : ℕ) (rest : List ℕ) → c < 0x11_0000 → 0x1_0000 ≤ c → Row 3 (240 + c / 262144) 0xF0 0xF4 0x8F 0x90 → completes (length (encode_utf8 c ++ rest)) between (encode_utf8 c ++ rest) ≡ completes (length rest) between rest
four_passes c rest high low r =
    let s = second_of_four c r.from r.to r.at_low r.above_low r.at_high r.beside_high high low in
    rw (encode_four c low) (four_pass (length rest) (240 + c / 262144) (128 + (c / 4096) % 64) (128 + (c / 64) % 64) (128 + c % 64) r.from r.to rest r.is s.0 s.1 (omega arith) (omega arith) (omega arith) (omega arith))

char_passes : (c : ℕ) (rest : List ℕ) → Scalar c → completes (length (encode_utf8 c ++ rest)) between (encode_utf8 c ++ rest) ≡ completes (length rest) between rest
char_passes c rest h =
    elim (cases_lt c 0x80) [
      | inl lt ↦ rw (encode_ascii c lt) (one_passes (length rest) c rest lt)
      | inr from_two ↦ elim (cases_lt c 0x800) [
        | inl lt ↦ rw (encode_two c from_two lt) (two_pass (length rest) (192 + c / 64) (128 + c % 64) rest (omega arith) (omega arith) (omega arith) (omega arith))
        | inr from_three ↦ elim (cases_lt c 0x1_0000) [
          | inl lt ↦ three_passes c rest h from_three lt (first_three (224 + c / 4096) (omega arith) (omega arith))
          | inr from_four ↦ let top : c < 0x11_0000 = omega arith in four_passes c rest top from_four (first_four (240 + c / 262144) (omega arith) (omega arith))
        ]
      ]
    ]

all_pass : (cs : List ℕ) → all_scalars cs ≡ true → completes (length (encode_utf8_all cs)) between (encode_utf8_all cs) ≡ true
all_pass [] h = refl
all_pass (c ∷ cs) h =
    let p = and_parts _ (all_scalars cs) h in
    char_passes c (encode_utf8_all cs) (scalar_bounds c p.0) ∙ all_pass cs p.1

pub utf8_completes : (text : List ℕ) → IsUtf8 text → completes (length text) between text ≡ true
utf8_completes text h = subst (λ (l : List ℕ). completes (length l) between l ≡ true) h.1.1 (all_pass h.0 h.1.0)

-- ---- what is read to its end is UTF-8

char_is : (c : ℕ) (bytes : List ℕ) → Scalar c → encode_utf8 c ≡ bytes → IsUtf8 bytes
char_is c bytes h e = subst IsUtf8 e (IsUtf8-encode c (bounds_scalar c h))

-- the characters of two, three and four bytes
two_are : (b d : ℕ) → 0xC2 ≤ b → b < 0xE0 → 0x80 ≤ d → d ≤ 0xBF → IsUtf8 (b ∷ d ∷ [])
two_are b d low high from to =
    let c = (b - 192) * 64 + (d - 128) in
    let one : 192 + c / 64 ≡ b = omega arith in
    let two : 128 + c % 64 ≡ d = omega arith in
    char_is c (b ∷ d ∷ []) (inl (omega arith)) (encode_two c (omega arith) (omega arith) ∙ rw (one, two) refl)

three_are : (b d e : ℕ) → 0xE0 ≤ b → b < 0xF0 → 0x80 ≤ d → d ≤ 0xBF → 0x80 ≤ e → e ≤ 0xBF → (b ≡ 0xE0 → 0xA0 ≤ d) → (b ≡ 0xED → d ≤ 0x9F) → IsUtf8 (b ∷ d ∷ e ∷ [])
three_are b d e low high from to last_from last_to least most =
    let c = (b - 224) * 4096 + (d - 128) * 64 + (e - 128) in
    let one : 224 + c / 4096 ≡ b = omega arith in
    let two : 128 + (c / 64) % 64 ≡ d = omega arith in
    let three : 128 + c % 64 ≡ e = omega arith in
    char_is c (b ∷ d ∷ e ∷ []) (scalar c (omega arith) (omega arith)) (encode_three c (enough c (omega arith) (omega arith)) (omega arith) ∙ rw (one, two, three) refl)
  where
    enough : (c : ℕ) → c ≡ (b - 224) * 4096 + (d - 128) * 64 + (e - 128) → c < 0x1_0000 → 0x800 ≤ c
    enough c is top = elim (cases_eq b 0xE0) [ inl at ↦ omega (arith, least at) | inr n ↦ omega arith ]

    scalar : (c : ℕ) → c ≡ (b - 224) * 4096 + (d - 128) * 64 + (e - 128) → c < 0x1_0000 → Scalar c
    scalar c is top = elim (cases_lt b 0xED) [
      | inl lt ↦ inl (omega arith)
      | inr ge ↦ elim (cases_eq b 0xED) [ inl at ↦ inl (omega (arith, most at)) | inr n ↦ inr (omega arith, omega arith) ]
    ]

four_are : (b d e f : ℕ) → 0xF0 ≤ b → b < 0xF5 → 0x80 ≤ d → d ≤ 0xBF → 0x80 ≤ e → e ≤ 0xBF → 0x80 ≤ f → f ≤ 0xBF → (b ≡ 0xF0 → 0x90 ≤ d) → (b ≡ 0xF4 → d ≤ 0x8F) → IsUtf8 (b ∷ d ∷ e ∷ f ∷ [])
four_are b d e f low high from to third_from third_to last_from last_to least most =
    let c = (b - 240) * 262144 + (d - 128) * 4096 + (e - 128) * 64 + (f - 128) in
    let one : 240 + c / 262144 ≡ b = omega arith in
    let two : 128 + (c / 4096) % 64 ≡ d = omega arith in
    let three : 128 + (c / 64) % 64 ≡ e = omega arith in
    let four : 128 + c % 64 ≡ f = omega arith in
    let low : 0x1_0000 ≤ c = enough c (omega arith) in
    char_is c (b ∷ d ∷ e ∷ f ∷ []) (inr (omega arith, few c (omega arith))) (encode_four c low ∙ rw (one, two, three, four) refl)
  where
    enough : (c : ℕ) → c ≡ (b - 240) * 262144 + (d - 128) * 4096 + (e - 128) * 64 + (f - 128) → 0x1_0000 ≤ c
    enough c is = elim (cases_eq b 0xF0) [ inl at ↦ omega (arith, least at) | inr n ↦ omega arith ]

    few : (c : ℕ) → c ≡ (b - 240) * 262144 + (d - 128) * 4096 + (e - 128) * 64 + (f - 128) → c < 0x11_0000
    few c is = elim (cases_eq b 0xF4) [ inl at ↦ omega (arith, most at) | inr n ↦ omega arith ]

-- a character first, and the rest of the text
front_then : (front rest text : List ℕ) → text ≡ front ++ rest → IsUtf8 front → IsUtf8 rest → IsUtf8 text
front_then front rest text e p q = subst IsUtf8 (sym e) (IsUtf8-append front rest p q)

abbrev Shorter : ℕ → Type 0
Shorter m = (text : List ℕ) → length text ≤ m → completes (length text) between text ≡ true → IsUtf8 text

module _ (m b : ℕ) (bytes : List ℕ) (fits : length bytes ≤ m) (shorter : Shorter m) where
  one_char : b < 0x80 → completes (length bytes) (first_byte b) bytes ≡ true → IsUtf8 (b ∷ bytes)
  one_char lt h =
      let rest : completes (length bytes) between bytes ≡ true = ap (λ (o : Option Inside). completes (length bytes) o bytes) (sym (first_one b lt)) ∙ h in
      IsUtf8-append (b ∷ []) bytes (char_is b (b ∷ []) (inl (omega arith)) (encode_ascii b lt)) (shorter bytes fits rest)

  two_chars : 0xC2 ≤ b → b < 0xE0 → completes (length bytes) (first_byte b) bytes ≡ true → IsUtf8 (b ∷ bytes)
  two_chars low high h =
      let d = due_there 0 0x80 0xBF bytes (ap (λ (o : Option Inside). completes (length bytes) o bytes) (sym (first_two b low high)) ∙ h) in
      front_then (b ∷ d.byte ∷ []) d.rest (b ∷ bytes) (ap (λ (l : List ℕ). b ∷ l) d.is) (two_are b d.byte low high d.low d.high) (shorter d.rest (omega (arith, ap length d.is)) (sym (any_between (length d.rest) 0x80 0xBF d.rest) ∙ d.goes))

  three_from : (r : Row 2 b 0xE0 0xED 0x9F 0xA0) (d : Due 1 r.from r.to bytes) (e : Due 0 0x80 0xBF d.rest) → 0xE0 ≤ b → b < 0xF0 → IsUtf8 (b ∷ bytes)
  three_from r d e low high =
      let from : 0x80 ≤ d.byte = elim (cases_eq b 0xE0) [ inl at ↦ omega (arith, r.at_low at, d.low) | inr n ↦ omega (arith, r.above_low n, d.low) ] in
      let to : d.byte ≤ 0xBF = elim (cases_eq b 0xED) [ inl at ↦ omega (arith, r.at_high at, d.high) | inr n ↦ omega (arith, r.beside_high n, d.high) ] in
      front_then (b ∷ d.byte ∷ e.byte ∷ []) e.rest (b ∷ bytes) (ap (λ (l : List ℕ). b ∷ l) d.is ∙ ap (λ (l : List ℕ). b ∷ d.byte ∷ l) e.is)
      (three_are b d.byte e.byte low high from to e.low e.high (λ at. omega (arith, r.at_low at, d.low)) (λ at. omega (arith, r.at_high at, d.high)))
      (shorter e.rest (omega (arith, ap length d.is, ap length e.is)) (sym (any_between (length e.rest) 0x80 0xBF e.rest) ∙ e.goes))

  three_chars : 0xE0 ≤ b → b < 0xF0 → completes (length bytes) (first_byte b) bytes ≡ true → IsUtf8 (b ∷ bytes)
  three_chars low high h =
      let r = first_three b low high in
      let d = due_there 1 r.from r.to bytes (ap (λ (o : Option Inside). completes (length bytes) o bytes) (sym r.is) ∙ h) in
      three_from r d (due_there 0 0x80 0xBF d.rest d.goes) low high

  four_from : (r : Row 3 b 0xF0 0xF4 0x8F 0x90) (d : Due 2 r.from r.to bytes) (e : Due 1 0x80 0xBF d.rest) (f : Due 0 0x80 0xBF e.rest) → 0xF0 ≤ b → b < 0xF5 → IsUtf8 (b ∷ bytes)
  four_from r d e f low high =
      let from : 0x80 ≤ d.byte = elim (cases_eq b 0xF0) [ inl at ↦ omega (arith, r.at_low at, d.low) | inr n ↦ omega (arith, r.above_low n, d.low) ] in
      let to : d.byte ≤ 0xBF = elim (cases_eq b 0xF4) [ inl at ↦ omega (arith, r.at_high at, d.high) | inr n ↦ omega (arith, r.beside_high n, d.high) ] in
      front_then (b ∷ d.byte ∷ e.byte ∷ f.byte ∷ []) f.rest (b ∷ bytes) (ap (λ (l : List ℕ). b ∷ l) d.is ∙ ap (λ (l : List ℕ). b ∷ d.byte ∷ l) e.is ∙ ap (λ (l : List ℕ). b ∷ d.byte ∷ e.byte ∷ l) f.is)
      (four_are b d.byte e.byte f.byte low high from to e.low e.high f.low f.high (λ at. omega (arith, r.at_low at, d.low)) (λ at. omega (arith, r.at_high at, d.high)))
      (shorter f.rest (omega (arith, ap length d.is, ap length e.is, ap length f.is)) (sym (any_between (length f.rest) 0x80 0xBF f.rest) ∙ f.goes))

  four_chars : 0xF0 ≤ b → b < 0xF5 → completes (length bytes) (first_byte b) bytes ≡ true → IsUtf8 (b ∷ bytes)
  four_chars low high h =
      let r = first_four b low high in
      let d = due_there 2 r.from r.to bytes (ap (λ (o : Option Inside). completes (length bytes) o bytes) (sym r.is) ∙ h) in
      let e = due_there 1 0x80 0xBF d.rest d.goes in
      four_from r d e (due_there 0 0x80 0xBF e.rest e.goes) low high

  no_char : first_byte b ≡ None → completes (length bytes) (first_byte b) bytes ≡ true → IsUtf8 (b ∷ bytes)
  no_char e h = absurd (let t = ap (λ (o : Option Inside). completes (length bytes) o bytes) (sym e) ∙ h in cc)

  any_char : completes (length bytes) (first_byte b) bytes ≡ true → IsUtf8 (b ∷ bytes)
  any_char h =
      elim (cases_lt b 0x80) [
        | inl one ↦ one_char one h
        | inr not_one ↦ elim (cases_lt b 0xC2) [
          | inl stray ↦ no_char (first_stray b not_one stray) h
          | inr from_two ↦ elim (cases_lt b 0xE0) [
            | inl two ↦ two_chars from_two two h
            | inr from_three ↦ elim (cases_lt b 0xF0) [
              | inl three ↦ three_chars from_three three h
              | inr from_four ↦ elim (cases_lt b 0xF5) [ inl four ↦ four_chars from_four four h | inr none ↦ no_char (first_none b none) h ]
            ]
          ]
        ]
      ]

all_shorter : (m : ℕ) → Shorter m
all_shorter m [] fits h = IsUtf8-nil
all_shorter zero (b ∷ bytes) fits h = absurd (omega arith)
all_shorter (suc m) (b ∷ bytes) fits h = any_char m b bytes (omega arith) (all_shorter m) (sym (start (length bytes) b bytes) ∙ h)

pub completes_utf8 : (text : List ℕ) → completes (length text) between text ≡ true → IsUtf8 text
completes_utf8 text h = all_shorter (length text) text (omega arith) h
