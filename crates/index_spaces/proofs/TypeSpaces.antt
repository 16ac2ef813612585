-- One more type after others: the least equal index of each.
use Rattle.std.proofs.Common.{◌≡◌, ℕ, suc, ◌<◌, true, false, inl, inr, List, [], ◌∷◌, ◌++◌, map, length, Option, None, Some, Vec, refl, sym, ap, ◌∙◌, subst, append_assoc, arith}
use Rattle.std.specs.Prelude.{option_map, unwrap_or}
use Rattle.std.specs.Str.{bytes_eq}
use Rattle.std.specs.declared.alloc.Global.{Global}
use Rattle.std.proofs.lemmas.Bool.{cases_Bool}
use Rattle.wasm_defs.specs.declared.types.FuncType.{FuncType}
use Rattle.wasm_defs.specs.Context.{first_like}
use Rattle.index_spaces.specs.Likes.{key_of, first_index, Firsts, index_of, HasFirst, AreFirst}
use Rattle.index_spaces.proofs.LikeLaws.{same, same-self, same-equal, key_of-same, first_like-here, first_like-there, first_index-here, first_index-there}

-- ---- the new type's own

suc_or : (o : Option ℕ) (n : ℕ) → unwrap_or (option_map suc o) (suc n) ≡ suc (unwrap_or o n)
suc_or None n = refl
suc_or (Some i) n = refl

pub first_like-push : (xs : List FuncType) (ty : FuncType) → first_like (xs ++ ty ∷ []) ty ≡ unwrap_or (first_index xs ty) (length xs)
first_like-push [] ty = first_like-here ty ty [] (same-self ty)
first_like-push (x ∷ xs) ty =
    elim (cases_Bool (same x ty)) [
      | inl e ↦ first_like-here x ty (xs ++ ty ∷ []) e ∙ ap (λ (o : Option ℕ). unwrap_or o (suc (length xs))) (sym (first_index-here x ty xs e))
      | inr e ↦
          first_like-there x ty (xs ++ ty ∷ []) e ∙ ap (λ (n : ℕ). suc n) (first_like-push xs ty) ∙ sym (suc_or (first_index xs ty) (length xs))
          ∙ ap (λ (o : Option ℕ). unwrap_or o (suc (length xs))) (sym (first_index-there x ty xs e))
    ]

first_index-push : (xs : List FuncType) (ty : FuncType) → first_index (xs ++ ty ∷ []) ty ≡ Some (unwrap_or (first_index xs ty) (length xs))
first_index-push [] ty = first_index-here ty ty [] (same-self ty)
first_index-push (x ∷ xs) ty =
    elim (cases_Bool (same x ty)) [
      | inl e ↦ first_index-here x ty (xs ++ ty ∷ []) e ∙ ap (λ (o : Option ℕ). Some (unwrap_or o (suc (length xs)))) (sym (first_index-here x ty xs e))
      | inr e ↦
          first_index-there x ty (xs ++ ty ∷ []) e ∙ ap (option_map suc) (first_index-push xs ty)
          ∙ ap (λ (n : ℕ). Some n) (sym (suc_or (first_index xs ty) (length xs)))
          ∙ ap (λ (o : Option ℕ). Some (unwrap_or o (suc (length xs)))) (sym (first_index-there x ty xs e))
    ]

-- ---- those of other types stay

first_index-other : (xs : List FuncType) (ty other : FuncType) → same ty other ≡ false → first_index (xs ++ ty ∷ []) other ≡ first_index xs other
first_index-other [] ty other e = first_index-there ty other [] e
first_index-other (x ∷ xs) ty other e =
    elim (cases_Bool (same x other)) [
      | inl h ↦ first_index-here x other (xs ++ ty ∷ []) h ∙ sym (first_index-here x other xs h)
      | inr h ↦
          first_index-there x other (xs ++ ty ∷ []) h ∙ ap (option_map suc) (first_index-other xs ty other e) ∙ sym (first_index-there x other xs h)
    ]

first_like-stays : (xs ys : List FuncType) (ty : FuncType) → first_like xs ty < length xs → first_like (xs ++ ys) ty ≡ first_like xs ty
first_like-stays [] ys ty h = absurd (omega arith)
first_like-stays (x ∷ xs) ys ty h =
    elim (cases_Bool (same x ty)) [
      | inl e ↦ first_like-here x ty (xs ++ ys) e ∙ sym (first_like-here x ty xs e)
      | inr e ↦
          let z = first_like-there x ty xs e in
          first_like-there x ty (xs ++ ys) e ∙ ap (λ (n : ℕ). suc n) (first_like-stays xs ys ty (omega (arith, z))) ∙ sym z
    ]

first_like-inside : (front xs : List FuncType) (ty : FuncType) → first_like (front ++ ty ∷ xs) ty < length (front ++ ty ∷ xs)
first_like-inside [] xs ty = omega (arith, first_like-here ty ty xs (same-self ty))
first_like-inside (x ∷ front) xs ty =
    elim (cases_Bool (same x ty)) [
      | inl e ↦ omega (arith, first_like-here x ty (front ++ ty ∷ xs) e)
      | inr e ↦ omega (arith, first_like-there x ty (front ++ ty ∷ xs) e, first_like-inside front xs ty)
    ]

likes-stay : (front xs more : List FuncType) → map (first_like ((front ++ xs) ++ more)) xs ≡ map (first_like (front ++ xs)) xs
likes-stay front [] more = refl
likes-stay front (x ∷ xs) more =
    let head = first_like-stays (front ++ x ∷ xs) more x (first_like-inside front xs x) in
    let e : (front ++ x ∷ []) ++ xs ≡ front ++ x ∷ xs = append_assoc front (x ∷ []) xs in
    let tail = subst (λ (l : List FuncType). map (first_like (l ++ more)) xs ≡ map (first_like l) xs) e (likes-stay (front ++ x ∷ []) xs more) in
    cc

map-push : {A B : Type 0} (f : A → B) (xs : List A) (x : A) → map f (xs ++ x ∷ []) ≡ map f xs ++ f x ∷ []
map-push f [] x = refl
map-push f (y ∷ xs) x = ap (λ l. f y ∷ l) (map-push f xs x)

-- ---- one more type

found-push : (types : List FuncType) (old new : Firsts) (ty other : FuncType) (key q : Vec ℕ Global) (first : ℕ)
    → key.items ≡ key_of ty → q.items ≡ key_of other → first ≡ unwrap_or (first_index types ty) (length types) → HasFirst old new key first
    → index_of old q ≡ first_index types other → index_of new q ≡ first_index (types ++ ty ∷ []) other
found-push types old new ty other key q first k o is has was =
    let test : bytes_eq key.items q.items ≡ same ty other = ap (λ (l : List ℕ). bytes_eq l q.items) k ∙ ap (bytes_eq (key_of ty)) o ∙ key_of-same ty other in
    elim (cases_Bool (same ty other)) [
      | inl e ↦
          let t : bytes_eq key.items q.items ≡ true = test ∙ e in
          let this : index_of new q ≡ Some first = rw t at (has q) in
          this ∙ ap (λ (n : ℕ). Some n) is ∙ sym (first_index-push types ty) ∙ ap (first_index (types ++ ty ∷ [])) (same-equal ty other e)
      | inr e ↦
          let t : bytes_eq key.items q.items ≡ false = test ∙ e in
          let this : index_of new q ≡ index_of old q = rw t at (has q) in
          this ∙ was ∙ sym (first_index-other types ty other e)
    ]

pub types-push : (types after : List FuncType) (likes likes_after : List ℕ) (old new : Firsts) (ty : FuncType) (key : Vec ℕ Global) (first : ℕ)
    → after ≡ types ++ ty ∷ [] → likes_after ≡ likes ++ first ∷ []
    → AreFirst types likes old → key.items ≡ key_of ty → first ≡ unwrap_or (index_of old key) (length types) → HasFirst old new key first
    → AreFirst after likes_after new
types-push types after likes likes_after old new ty key first more one are k is has =
    let e : first ≡ unwrap_or (first_index types ty) (length types) = is ∙ ap (λ (o : Option ℕ). unwrap_or o (length types)) (are.found ty key k) in
    let own : first ≡ first_like (types ++ ty ∷ []) ty = e ∙ sym (first_like-push types ty) in
    let others : likes ≡ map (first_like (types ++ ty ∷ [])) types = are.listed ∙ sym (likes-stay [] types (ty ∷ [])) in
    let listed = ap (λ (l : List ℕ). l ++ first ∷ []) others ∙ ap (λ (n : ℕ). map (first_like (types ++ ty ∷ [])) types ++ n ∷ []) own ∙ sym (map-push (first_like (types ++ ty ∷ [])) types ty) in
    rw (more, one) (record { listed = listed; found = λ other q o. found-push types old new ty other key q first k o e has (are.found other q o) })
