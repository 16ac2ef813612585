-- What the bytes are that came of a number.
use Rattle.std.proofs.Common.{◌≡◌, ℕ, ◌-◌, ◌*◌, ◌<◌, ◌≤◌, inl, inr, Bool, List, [], ◌∷◌, ◌++◌, length, take, drop, refl, sym, ap, ◌∙◌, arith, ℤ, append_assoc, length-append}
use Rattle.std.specs.Prelude.{◌↔◌}
use Rattle.std.proofs.lemmas.Bool.{cases_lt}
use Rattle.std.proofs.lemmas.List.{take-append-drop, length-take, append-nil, take-append-le, take_all}
use Rattle.wasm_defs.specs.Numbers.{Reading, Number, CutOff, Bad, Means, Spells, BeginsWithNumber, IsCutOff, IsNoNumber, number_at}
use Rattle.wasm_defs.proofs.NumberLaws.{AreBytes, reading_means, prefix_free}
use Rattle.leb_feed.specs.declared.leb.Fed.{Fed}
use Rattle.leb_feed.specs.declared.leb.Fed.TheVariants as fed
use Rattle.leb_feed.specs.Feeding.{told}

-- ---- encodings are short

spelled_short : (n : ℤ) (bits b : ℕ) (signed : Bool) (bytes : List ℕ) → 1 ≤ bits → Spells n bits signed (b ∷ bytes) → 7 * length bytes < bits
spelled_short n bits b signed [] some p = omega arith
spelled_short n bits b signed (c ∷ bytes) some p =
    let wide = p.2 in
    let shorter = spelled_short p.3 (bits - 7) c signed bytes (omega arith) p.4 in
    omega arith

pub unfinished_short : (signed : Bool) (bits : ℕ) (bytes : List ℕ) → 1 ≤ bits → IsCutOff signed bits bytes → 7 * length bytes < bits
unfinished_short signed bits [] some p = omega arith
unfinished_short signed bits (b ∷ bytes) some p =
    let short = spelled_short p.0 bits b signed (bytes ++ p.1 ∷ p.2) some p.3 in
    omega (arith, short, length-append bytes (p.1 ∷ p.2))

pub unfinished_bytes : (n : ℤ) (bits : ℕ) (signed : Bool) (bytes : List ℕ) (c : ℕ) (more : List ℕ) (b : ℕ) → b < 256 → Spells n bits signed (bytes ++ c ∷ more) → AreBytes (bytes ++ b ∷ [])
unfinished_bytes n bits signed [] c more b lt p = (lt, tt)
unfinished_bytes n bits signed (a ∷ []) c more b lt p = (p.1, (lt, tt))
unfinished_bytes n bits signed (a ∷ d ∷ bytes) c more b lt p = (p.1, unfinished_bytes p.3 (bits - 7) signed (d ∷ bytes) c more b lt p.4)

-- ---- nothing is fed yet

pub unfed : (signed : Bool) (bits : ℕ) → IsCutOff signed bits []
unfolding number_at
unfed signed bits = let means : Means signed bits [] (number_at signed bits []) = reading_means signed bits [] tt in means

-- ---- what is reported says what the bytes are

abbrev pub Says : Bool → ℕ → List ℕ → Fed → Type 0
Says signed bits bytes result =
    ((n : ℤ) → (result ≡ fed.Done n) ↔ Spells n bits signed bytes)
    × ((result ≡ fed.More) ↔ IsCutOff signed bits bytes)
    × ((result ≡ fed.Bad) ↔ IsNoNumber signed bits bytes)

module _ (signed : Bool) (bits : ℕ) where
  not_both : (bytes : List ℕ) (m : ℤ) (len : ℕ) → BeginsWithNumber signed bits bytes m len → IsCutOff signed bits bytes → ⊥
  not_both bytes m len p q =
      let parts : take len bytes ++ (drop len bytes ++ q.1 ∷ q.2) ≡ (bytes ++ q.1 ∷ q.2) ++ [] = sym (append_assoc (take len bytes) (drop len bytes) (q.1 ∷ q.2)) ∙ ap (λ (l : List ℕ). l ++ q.1 ∷ q.2) (take-append-drop len bytes) ∙ sym (append-nil (bytes ++ q.1 ∷ q.2)) in
      let whole = prefix_free signed bits (take len bytes) (bytes ++ q.1 ∷ q.2) (drop len bytes ++ q.1 ∷ q.2) [] m q.0 p.1 q.3 parts in
      omega (arith, ap length whole.0, length-take len bytes, length-append bytes (q.1 ∷ q.2), p.0)

  begins : (bytes : List ℕ) (n : ℤ) → Spells n bits signed bytes → BeginsWithNumber signed bits bytes n (length bytes)
  begins bytes n p = let all : take (length bytes) bytes ≡ bytes = take_all (length bytes) bytes (omega arith) in (omega arith, rw all p)

  -- a number that begins after unfinished bytes and one more takes them all
  takes_all : (bytes : List ℕ) (b : ℕ) (m : ℤ) (len : ℕ) → IsCutOff signed bits bytes → BeginsWithNumber signed bits (bytes ++ b ∷ []) m len → Spells m bits signed (bytes ++ b ∷ [])
  takes_all bytes b m len unfinished p =
      elim (cases_lt (length bytes) len) [
        | inl more ↦ let all : take len (bytes ++ b ∷ []) ≡ bytes ++ b ∷ [] = take_all len (bytes ++ b ∷ []) (omega (arith, length-append bytes (b ∷ []))) in rw all at p.1
        | inr few ↦ let front : take len (bytes ++ b ∷ []) ≡ take len bytes = take-append-le len bytes (b ∷ []) few in absurd (not_both bytes m len (few, rw front at p.1) unfinished)
      ]

  module _ (bytes : List ℕ) (b : ℕ) (unfinished : IsCutOff signed bits bytes) where
    says : (r : Reading) → Means signed bits (bytes ++ b ∷ []) r → Says signed bits (bytes ++ b ∷ []) (told r)
    says (Number m len) p =
        let all = takes_all bytes b m len unfinished p in (
          λ n. ((λ e. let k : m ≡ n = cc in rw (← k) all), (λ q. let one = prefix_free signed bits (bytes ++ b ∷ []) (bytes ++ b ∷ []) [] [] m n all q refl in rw one.1 refl)),
          (λ e. absurd cc, λ q. absurd (not_both (bytes ++ b ∷ []) m len p q)),
          (λ e. absurd cc, λ q. absurd (q.0 m len p)),
        )
    says CutOff p = (
      λ n. ((λ e. absurd cc), (λ q. absurd (not_both (bytes ++ b ∷ []) n (length (bytes ++ b ∷ [])) (begins (bytes ++ b ∷ []) n q) p))),
      (λ e. p, λ q. refl),
      (λ e. absurd cc, λ q. absurd (q.1 p)),
    )
    says Bad p = (
      λ n. ((λ e. absurd cc), (λ q. absurd (p.0 n (length (bytes ++ b ∷ [])) (begins (bytes ++ b ∷ []) n q)))),
      (λ e. absurd cc, λ q. absurd (p.1 q)),
      (λ e. p, λ q. refl),
    )

    pub all_says : (result : Fed) → AreBytes (bytes ++ b ∷ []) → result ≡ told (number_at signed bits (bytes ++ b ∷ [])) → Says signed bits (bytes ++ b ∷ []) result
    all_says result fits e = rw e (says (number_at signed bits (bytes ++ b ∷ [])) (reading_means signed bits (bytes ++ b ∷ []) fits))
