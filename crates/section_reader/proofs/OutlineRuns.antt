-- The outline's sections, one after the other: each takes a byte, so as many as there are bytes are enough.
use Rattle.std.proofs.Common.{◌≡◌, ℕ, zero, suc, ◌+◌, ◌-◌, ◌≤◌, ◌<◌, Bool, true, false, eqb, ltb, cond, List, [], ◌∷◌, length, refl, ap, ◌∙◌, arith, add-one, inl, inr}
use Rattle.std.proofs.lemmas.Bool.{cases_eq, cases_Bool, ne_eqb, eqb-true, eqb-false, ltb-true, ltb-false}
use Rattle.wasm_defs.specs.Fields.{Cursor, Read, Got, Fault, Wants}
use Rattle.wasm_defs.specs.Entries.{Seen}
use Rattle.wasm_defs.specs.Outside.{nothing_more, rest_of_section, Row, header, entered, inside, Run, runs_on, Next}
use Rattle.wasm_laws.specs.Steadiness.{LeavesFewer, SteadyRow}
use Rattle.wasm_laws.proofs.Steady.{done_steady}
use Rattle.wasm_laws.proofs.EntryLaws.{code_steady, rest_steady}
use Rattle.wasm_laws.proofs.RowLaws.{listed_steady, row_steady, either_row}
use Rattle.wasm_laws.proofs.Takes.{listed_takes, code_takes, header_takes}
use Rattle.wasm_laws.proofs.Runs.{Same, contents_same}
use Rattle.section_reader.specs.Outline.{counted_code, outline_row, outline_section, or_outline, outline_up_to, outline_sections}
use Rattle.section_reader.specs.Stages.{passes}

counted_steady : SteadyRow counted_code
counted_steady = record { front = λ s. done_steady [] 1; entry = λ s. listed_steady [] _ (code_steady [] s); back = rest_steady []; takes = λ s. listed_takes _ (code_takes s) }

pub outline_steady : (id : ℕ) → SteadyRow (outline_row id)
outline_steady id = either_row (eqb id 11) _ _ counted_steady (row_steady id)

-- ---- enough sections are enough

pub runs_same : {A : Type 0} (most : ℕ) (c : Cursor) (x : Read A) (f g : A → Cursor → Run) → LeavesFewer c x → length c.rest ≤ suc most
    → ((a : A) (d : Cursor) → length d.rest ≤ most → f a d ≡ g a d) → runs_on x f ≡ runs_on x g
runs_same most c (Got x d) f g fewer h same = same x d (omega arith)
runs_same most c (Fault r) f g fewer h same = refl
runs_same most c Wants f g fewer h same = refl

section_same : (most : ℕ) (f g : Next) (seen : Seen) (c : Cursor) → Same most f g → length c.rest ≤ suc most → outline_section f seen c ≡ outline_section g seen c
section_same most f g seen c same h =
    runs_same most c (header seen c) _ _ ((header_takes seen).some c) h (λ x d k. contents_same most (outline_row x.0) (outline_steady x.0) f g same (entered seen x.0) (inside d x.1) k)

or_same : (most : ℕ) (f g : Next) (seen : Seen) (c : Cursor) (rest : List ℕ) → Same most f g → length c.rest ≤ suc most → or_outline f seen c rest ≡ or_outline g seen c rest
or_same most f g seen c [] same h = refl
or_same most f g seen c (b ∷ rest) same h = section_same most f g seen c same h

no_bytes : (f g : Next) (seen : Seen) (c : Cursor) (rest : List ℕ) → length rest ≤ 0 → or_outline f seen c rest ≡ or_outline g seen c rest
no_bytes f g seen c [] h = refl
no_bytes f g seen c (b ∷ rest) h = absurd (omega arith)

enough : (n m : ℕ) (seen : Seen) (c : Cursor) → length c.rest < n → length c.rest < m → outline_up_to n seen c ≡ outline_up_to m seen c
unfolding outline_up_to
enough zero m seen c h k = absurd (omega arith)
enough (suc n) zero seen c h k = absurd (omega arith)
enough (suc n) (suc m) seen c h k =
    elim (cases_eq (length c.rest) 0) [
      | inl none ↦ no_bytes (outline_up_to n) (outline_up_to m) seen c c.rest (omega arith)
      | inr some ↦ or_same (length c.rest - 1) (outline_up_to n) (outline_up_to m) seen c c.rest (λ s d l. enough n m s d (omega arith) (omega arith)) (omega arith)
    ]

-- the sections from one offset on: none, or one and those after it
pub outline_is : (seen : Seen) (c : Cursor) → outline_sections seen c ≡ or_outline outline_sections seen c c.rest
unfolding outline_up_to
outline_is seen c =
    ap (λ (n : ℕ). outline_up_to n seen c) (add-one (length c.rest))
    ∙ elim (cases_eq (length c.rest) 0) [
      | inl none ↦ no_bytes (outline_up_to (length c.rest)) outline_sections seen c c.rest (omega arith)
      | inr some ↦ or_same (length c.rest - 1) (outline_up_to (length c.rest)) outline_sections seen c c.rest (λ s d l. enough (length c.rest) (length d.rest + 1) s d (omega arith) (omega arith)) (omega arith)
    ]

-- ---- what is passed over

pub passed_over : (id : ℕ) → passes id ≡ true → (outline_row id).back ≡ rest_of_section
passed_over id e =
    elim (cases_eq id 11) [
      | inl code ↦ rw code refl
      | inr n10 ↦ elim (cases_eq id 0) [
        | inl custom ↦ rw custom refl
        | inr n0 ↦ elim (cases_Bool (ltb 12 id)) [
          | inl high ↦ high_row id (ltb-true 12 id high)
          | inr low ↦ absurd (let t = rw (ne_eqb id 0 n0, ne_eqb id 11 n10, low) at e in cc)
        ]
      ]
    ]
  where
    high_row : (id : ℕ) → 12 < id → (outline_row id).back ≡ rest_of_section
    high_row id h = rw (ne_eqb id 11 (λ e. omega arith), ne_eqb id 1 (λ e. omega arith), ne_eqb id 2 (λ e. omega arith), ne_eqb id 3 (λ e. omega arith), ne_eqb id 4 (λ e. omega arith), ne_eqb id 5 (λ e. omega arith), ne_eqb id 6 (λ e. omega arith), ne_eqb id 7 (λ e. omega arith), ne_eqb id 8 (λ e. omega arith), ne_eqb id 9 (λ e. omega arith), ne_eqb id 10 (λ e. omega arith), ne_eqb id 12 (λ e. omega arith)) refl

record EndsBare (r : Row) : Type 0 where
  back : r.back ≡ nothing_more

either_bare : (b : Bool) (p q : Row) → (b ≡ true → EndsBare p) → (b ≡ false → EndsBare q) → EndsBare (cond b p q)
either_bare true p q h k = h refl
either_bare false p q h k = k refl

-- what the other sections have after their entries is nothing
pub not_passed : (id : ℕ) → passes id ≡ false → (outline_row id).back ≡ nothing_more
not_passed id e =
    elim (cases_eq id 11) [
      | inl code ↦ absurd (let t = rw code at e in cc)
      | inr n10 ↦ elim (cases_eq id 0) [
        | inl custom ↦ absurd (let t = rw custom at e in cc)
        | inr n0 ↦ elim (cases_Bool (ltb 12 id)) [
          | inl high ↦ absurd (let t = rw (ne_eqb id 0 n0, ne_eqb id 11 n10, high) at e in cc)
          | inr low ↦ (low_row id n10 n0 (ltb-false 12 id low)).back
        ]
      ]
    ]
  where
    low_row : (id : ℕ) → (id ≡ 11 → ⊥) → (id ≡ 0 → ⊥) → id ≤ 12 → EndsBare (outline_row id)
    low_row id n11 n0 h =
        either_bare (eqb id 11) _ _ (λ e. absurd (n11 (eqb-true id 11 e))) (λ o.
        either_bare (eqb id 1) _ _ (λ e. record { back = refl }) (λ o1.
        either_bare (eqb id 2) _ _ (λ e. record { back = refl }) (λ o2.
        either_bare (eqb id 3) _ _ (λ e. record { back = refl }) (λ o3.
        either_bare (eqb id 4) _ _ (λ e. record { back = refl }) (λ o4.
        either_bare (eqb id 5) _ _ (λ e. record { back = refl }) (λ o5.
        either_bare (eqb id 6) _ _ (λ e. record { back = refl }) (λ o6.
        either_bare (eqb id 7) _ _ (λ e. record { back = refl }) (λ o7.
        either_bare (eqb id 8) _ _ (λ e. record { back = refl }) (λ o8.
        either_bare (eqb id 9) _ _ (λ e. record { back = refl }) (λ o9.
        either_bare (eqb id 10) _ _ (λ e. record { back = refl }) (λ o10.
        either_bare (eqb id 11) _ _ (λ e. record { back = refl }) (λ o11.
        either_bare (eqb id 12) _ _ (λ e. record { back = refl }) (λ o12.
        let n1 = eqb-false id 1 o1 in
        let n2 = eqb-false id 2 o2 in
        let n3 = eqb-false id 3 o3 in
        let n4 = eqb-false id 4 o4 in
        let n5 = eqb-false id 5 o5 in
        let n6 = eqb-false id 6 o6 in
        let n7 = eqb-false id 7 o7 in
        let n8 = eqb-false id 8 o8 in
        let n9 = eqb-false id 9 o9 in
        let n10 = eqb-false id 10 o10 in
        let n12 = eqb-false id 12 o12 in
        absurd (omega (arith, n0, n1, n2, n3, n4, n5, n6, n7, n8, n9, n10, n11, n12, h)))))))))))))))
