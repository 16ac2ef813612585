-- The least index of an equal type distinguishes types.
use Rattle.std.proofs.Common.{◌≡◌, ℕ, zero, suc, ◌<◌, ◌≤◌, ◌==◌, Bool, true, false, inl, inr, List, [], ◌∷◌, length, Option, Some, refl, sym, ap, ◌∙◌, subst, arith}
use Rattle.std.specs.Prelude.{slice_get}
use Rattle.std.proofs.lemmas.Bool.{cases_Bool, and_parts, eq-eqb, ne_eqb, false≢true, and_from}
use Rattle.wasm_defs.specs.declared.types.FuncType.{FuncType}
use Rattle.wasm_defs.specs.Typing.{same_types, same_function_types}
use Rattle.wasm_defs.specs.Context.{type_or_empty, first_like, like}
use Rattle.wasm_defs.proofs.TypeLaws.{same_types-self, same_types-equal}

pub same_self : (t : FuncType) → same_function_types t t ≡ true
same_self t = and_from (same_types t.params t.params) (same_types t.results t.results) (same_types-self t.params) (same_types-self t.results)

pub same_equal : (t u : FuncType) → same_function_types t u ≡ true → t ≡ u
same_equal t u e =
    let p = and_parts (same_types t.params u.params) (same_types t.results u.results) e in
    let params : t.params ≡ u.params = same_types-equal t.params u.params p.0 in
    let results : t.results ≡ u.results = same_types-equal t.results u.results p.1 in
    λ i. record { params = params i; results = results i }

-- ---- the least index

like_here : (x ty : FuncType) (xs : List FuncType) → same_function_types x ty ≡ true → first_like (x ∷ xs) ty ≡ 0
like_here x ty xs e = rw e refl

like_there : (x ty : FuncType) (xs : List FuncType) → same_function_types x ty ≡ false → first_like (x ∷ xs) ty ≡ suc (first_like xs ty)
like_there x ty xs e = rw e refl

-- no later than any equal type
like_le : (xs : List FuncType) (i : ℕ) (ty : FuncType) → slice_get xs i ≡ Some ty → first_like xs ty ≤ i
like_le [] i ty e = absurd cc
like_le (x ∷ xs) zero ty e =
    let here : same_function_types x ty ≡ true = subst (λ (t : FuncType). same_function_types x t ≡ true) (let h : x ≡ ty = cc in h) (same_self x) in
    let z = like_here x ty xs here in
    omega (arith, z)
like_le (x ∷ xs) (suc i) ty e =
    elim (cases_Bool (same_function_types x ty)) [
      | inl h ↦ let z = like_here x ty xs h in omega (arith, z)
      | inr h ↦ let z = like_there x ty xs h in omega (arith, z, like_le xs i ty e)
    ]

-- the index of an equal type
like_is : (xs : List FuncType) (ty : FuncType) → first_like xs ty < length xs → slice_get xs (first_like xs ty) ≡ Some ty
like_is [] ty h = absurd (omega arith)
like_is (x ∷ xs) ty h =
    elim (cases_Bool (same_function_types x ty)) [
      | inl e ↦ rw (like_here x ty xs e) (ap (λ (t : FuncType). Some t) (same_equal x ty e))
      | inr e ↦ let z = like_there x ty xs e in rw z (like_is xs ty (omega (arith, z)))
    ]

within_types : (xs : List FuncType) (i : ℕ) (t : FuncType) → slice_get xs i ≡ Some t → i < length xs
within_types [] i t e = absurd cc
within_types (x ∷ xs) zero t e = omega arith
within_types (x ∷ xs) (suc i) t e = let less = within_types xs i t e in omega arith

module _ (types : List FuncType) (i : ℕ) (t : FuncType) (is : slice_get types i ≡ Some t) where
  like_at : like types i ≡ first_like types t
  like_at = ap (λ (o : Option FuncType). first_like types (type_or_empty o)) is

  pub like_within : like types i < length types
  like_within = let le = like_le types i t is in let less = within_types types i t is in let e = like_at in omega arith

  -- indices are compared, and so are types
  pub likes_tell : (u : FuncType) → (first_like types u == like types i) ≡ same_function_types t u
  likes_tell u = by (same_function_types t u) refl
    where
      by : (b : Bool) → same_function_types t u ≡ b → (first_like types u == like types i) ≡ b
      by true e = eq-eqb (first_like types u) (like types i) (ap (first_like types) (sym (same_equal t u e)) ∙ sym like_at)
      by false e =
          ne_eqb (first_like types u) (like types i)
          (λ same.
          let at : first_like types u ≡ first_like types t = same ∙ like_at in
          let less : first_like types t < length types = let l = like_within in let e' = like_at in omega arith in
          let one : slice_get types (first_like types t) ≡ Some t = like_is types t less in
          let other : slice_get types (first_like types u) ≡ Some u = like_is types u (omega arith) in
          let also : Some t ≡ Some u = sym one ∙ ap (slice_get types) (sym at) ∙ other in
          let equal : t ≡ u = cc in
          absurd (false≢true (sym e ∙ ap (same_function_types t) (sym equal) ∙ same_self t)))
