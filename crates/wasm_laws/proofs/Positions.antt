-- A section's id determines its position in the order, and the other way round.
use Rattle.std.proofs.Common.{◌≡◌, ◌≢◌, ℕ, refl, ap, ◌∙◌, inl, inr}
use Rattle.std.proofs.lemmas.Bool.{cases_eq, ne_eqb}
use Rattle.wasm_defs.specs.Outside.{position_of, id_of}

-- but for 10, 11 and 12 they are the same
other_position : (n : ℕ) → n ≢ 10 → n ≢ 11 → n ≢ 12 → position_of n ≡ n
other_position n n10 n11 n12 = rw (ne_eqb n 12 n12, ne_eqb n 10 n10, ne_eqb n 11 n11) refl

other_id : (n : ℕ) → n ≢ 10 → n ≢ 11 → n ≢ 12 → id_of n ≡ n
other_id n n10 n11 n12 = rw (ne_eqb n 10 n10, ne_eqb n 11 n11, ne_eqb n 12 n12) refl

pub id_again : (id : ℕ) → id_of (position_of id) ≡ id
id_again id =
    elim (cases_eq id 10) [
      | inl e ↦ rw e refl
      | inr n10 ↦ elim (cases_eq id 11) [
        | inl e ↦ rw e refl
        | inr n11 ↦ elim (cases_eq id 12) [ inl e ↦ rw e refl | inr n12 ↦ ap id_of (other_position id n10 n11 n12) ∙ other_id id n10 n11 n12 ]
      ]
    ]

pub position_again : (position : ℕ) → position_of (id_of position) ≡ position
position_again p =
    elim (cases_eq p 10) [
      | inl e ↦ rw e refl
      | inr n10 ↦ elim (cases_eq p 11) [
        | inl e ↦ rw e refl
        | inr n11 ↦ elim (cases_eq p 12) [ inl e ↦ rw e refl | inr n12 ↦ ap position_of (other_id p n10 n11 n12) ∙ other_position p n10 n11 n12 ]
      ]
    ]
