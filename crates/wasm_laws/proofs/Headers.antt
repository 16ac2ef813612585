-- Which section may follow which.
use Rattle.std.proofs.Common.{◌≡◌, ◌≢◌, ℕ, ◌+◌, ◌<◌, false, not, ◌&&◌, eqb, leb, ltb, refl, arith, inl, inr, ◌⊎◌}
use Rattle.std.proofs.lemmas.Bool.{cases_Bool, cases_eq, or_parts, eq-eqb, ne_eqb, leb-false, ltb-false, lt-ltb}
use Rattle.wasm_defs.specs.Limits.{max_module}
use Rattle.wasm_defs.specs.Fields.{Cursor, byte, u32, here}
use Rattle.wasm_defs.specs.Entries.{Seen}
use Rattle.wasm_defs.specs.Outside.{position_of, is_misplaced, owes_code, owes_data, owes, header, entered}
use Rattle.wasm_laws.proofs.Steady.{IfGot, always}
use Rattle.wasm_laws.proofs.Parts.{then_got}

-- a section of the position may come next
pub record Follows (seen : Seen) (id : ℕ) : Type 0 where
  pub known : id < 13
  pub later : id ≢ 0 → seen.last < id
  pub owed : id ≡ 12 → owes_code seen ≡ false

misplaced_parts : (seen : Seen) (id : ℕ) → is_misplaced seen id ≡ false → (ltb 12 id ≡ false) × ((not (eqb id 0) && leb id seen.last) ≡ false) × ((eqb id 12 && owes_code seen) ≡ false)
misplaced_parts seen id right =
    elim (cases_Bool (ltb 12 id)) [
      | inl far ↦ absurd (let t = rw far at right in cc)
      | inr near ↦
          let t = rw near at right in
          let p = or_parts (not (eqb id 0) && leb id seen.last) (eqb id 12 && owes_code seen) t in
          (near, p.0, p.1)
    ]

follows_of : (seen : Seen) (id : ℕ) → is_misplaced seen id ≡ false → Follows seen id
follows_of seen id right =
    let p = misplaced_parts seen id right in
    record {
      known = omega (arith, ltb-false 12 id p.0);
      later = λ some. leb-false id seen.last (rw (ne_eqb id 0 some) at p.1);
      owed = λ e. rw (eq-eqb id 12 e) at p.2;
    }

abbrev Tells : Seen → ℕ × ℕ → Cursor → Type 0
Tells seen h d = Follows seen h.0

pub header_tells : (seen : Seen) (c : Cursor) → IfGot (λ h d. Follows seen h.0) (header seen c)
unfolding header here
header_tells seen c =
    then_got (λ b d. Unit {0}) (Tells seen) (byte c) _ (always (byte c))
    (λ b d t.
    elim (cases_Bool (is_misplaced seen (position_of b.1))) [
      | inl wrong ↦ rw wrong tt
      | inr right ↦ rw right (elim (cases_Bool (leb max_module b.0)) [
        | inl late ↦ rw late tt
        | inr early ↦ rw early (then_got (λ n e. Unit {0}) (Tells seen) (u32 d) _ (always (u32 d))
            (λ n e t.
            elim (cases_Bool (ltb max_module (e.at + n.1))) [
              | inl over ↦ rw over tt
              | inr fits ↦ rw fits (follows_of seen (position_of b.1) right)
            ]))
      ])
    ])

-- what is seen in a section
pub entered_as : (seen : Seen) (id : ℕ) → ((id ≡ 0) × (entered seen id ≡ seen)) ⊎ ((id ≢ 0) × (entered seen id ≡ record seen { last = id }))
entered_as seen id =
    elim (cases_eq id 0) [
      | inl none ↦ inl (none, rw (eq-eqb id 0 none) refl)
      | inr some ↦ inr (some, rw (ne_eqb id 0 some) refl)
    ]

-- no code is owed where none is declared, or the code section came
pub owes_none : (seen : Seen) → owes_code seen ≡ false → seen.last < 11 → seen.declared ≡ 0
owes_none seen e h =
    elim (cases_Bool (ltb 0 seen.declared)) [
      | inl some ↦ absurd (let t = rw (some, lt-ltb seen.last 11 h) at e in cc)
      | inr none ↦ let le = ltb-false 0 seen.declared none in omega arith
    ]

-- at the end nothing is owed: no code, and no data segments
pub owes_parts : (seen : Seen) → owes seen ≡ false → (owes_code seen ≡ false) × (owes_data seen ≡ false)
owes_parts seen e = or_parts (owes_code seen) (owes_data seen) e
