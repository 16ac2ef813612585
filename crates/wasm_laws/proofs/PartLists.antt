-- Parts of a module, one after the other.
use Rattle.std.proofs.Common.{◌≡◌, ◌≤◌, inl, inr, ℕ, suc, ◌+◌, List, [], ◌∷◌, ◌++◌, length, refl, ap, append_assoc, arith}
use Rattle.std.proofs.lemmas.List.{append-nil}
use Rattle.wasm_defs.specs.declared.fault.Refusal.{Refusal}
use Rattle.wasm_defs.specs.declared.item.Item.{Item}
use Rattle.wasm_defs.specs.declared.item.Item.TheVariants.{Imported}
use Rattle.wasm_defs.specs.Trees.{Seq}
use Rattle.wasm_defs.specs.Context.{context_of, functions_of}
use Rattle.wasm_defs.specs.Outside.{Part, Section, Listed, Coded, Body}
use Rattle.wasm_defs.specs.Faults.{items_of, bodies_of, use_of, IsFaultInside, AreValid}
use Rattle.wasm_laws.specs.Typed.{AreTyped}
use Rattle.wasm_laws.proofs.Verdicts.{uses_without_fault, valid_bodies}

pub items_of-append : (xs ys : List Part) → items_of (xs ++ ys) ≡ items_of xs ++ items_of ys
items_of-append [] ys = refl
items_of-append (Section at id ∷ xs) ys = items_of-append xs ys
items_of-append (Listed x ∷ xs) ys = ap (λ (l : List Item). x ∷ l) (items_of-append xs ys)
items_of-append (Coded b ∷ xs) ys = items_of-append xs ys

pub bodies_of-append : (xs ys : List Part) → bodies_of (xs ++ ys) ≡ bodies_of xs ++ bodies_of ys
bodies_of-append [] ys = refl
bodies_of-append (Section at id ∷ xs) ys = bodies_of-append xs ys
bodies_of-append (Listed x ∷ xs) ys = bodies_of-append xs ys
bodies_of-append (Coded b ∷ xs) ys = ap (λ (l : List Body). b ∷ l) (bodies_of-append xs ys)

pub typed_behind : (items : List Item) (k : ℕ) (front rest : List Part) → AreTyped items k (front ++ rest) → AreTyped (items ++ items_of front) (k + length (bodies_of front)) rest
typed_behind items k [] rest p = let e : k + 0 ≡ k = omega arith in rw (append-nil, e) p
typed_behind items k (Section at id ∷ front) rest p = typed_behind items k front rest p
typed_behind items k (Listed x ∷ front) rest p = rw (← append_assoc items (x ∷ []) (items_of front)) (typed_behind (items ++ x ∷ []) k front rest p)
typed_behind items k (Coded b ∷ front) rest p = let e : k + suc (length (bodies_of front)) ≡ suc k + length (bodies_of front) = omega arith in rw e (typed_behind items (suc k) front rest p.1)

pub valid_both : (items : List Item) (k : ℕ) (front rest : List Part) (trees more : List Seq) → AreValid items k front trees → AreValid (items ++ items_of front) (k + length (bodies_of front)) rest more → AreValid items k (front ++ rest) (trees ++ more)
valid_both items k [] rest [] more p q = let e : k + 0 ≡ k = omega arith in rw (append-nil, e) at q
valid_both items k [] rest (t ∷ trees) more p q = absurd p
valid_both items k (Section at id ∷ front) rest trees more p q = valid_both items k front rest trees more p q
valid_both items k (Listed x ∷ front) rest trees more p q = (p.0, valid_both (items ++ x ∷ []) k front rest trees more p.1 (rw (append_assoc items (x ∷ []) (items_of front)) q))
valid_both items k (Coded b ∷ front) rest [] more p q = absurd p
valid_both items k (Coded b ∷ front) rest (t ∷ trees) more p q = let e : suc k + length (bodies_of front) ≡ k + suc (length (bodies_of front)) = omega arith in (p.0, valid_both items (suc k) front rest trees more p.1 (rw e q))

-- no error is in valid bodies
pub fault_behind : (items : List Item) (k : ℕ) (front rest : List Part) (trees : List Seq) (r : Refusal) → AreValid items k front trees → IsFaultInside items k (front ++ rest) r → IsFaultInside (items ++ items_of front) (k + length (bodies_of front)) rest r
fault_behind items k [] rest trees r p f = let e : k + 0 ≡ k = omega arith in rw (append-nil, e) f
fault_behind items k (Section at id ∷ front) rest trees r p f = fault_behind items k front rest trees r p f
fault_behind items k (Listed x ∷ front) rest trees r p (inl f) = absurd (uses_without_fault (context_of items) (use_of x) r p.0 f)
fault_behind items k (Listed x ∷ front) rest trees r p (inr f) = rw (← append_assoc items (x ∷ []) (items_of front)) (fault_behind (items ++ x ∷ []) k front rest trees r p.1 f)
fault_behind items k (Coded b ∷ front) rest [] r p f = absurd p
fault_behind items k (Coded b ∷ front) rest (t ∷ trees) r p (inl f) = absurd (valid_bodies items k (Coded b ∷ []) (t ∷ []) r (p.0, tt) (inl f))
fault_behind items k (Coded b ∷ front) rest (t ∷ trees) r p (inr f) = let e : k + suc (length (bodies_of front)) ≡ suc k + length (bodies_of front) = omega arith in rw e (fault_behind items (suc k) front rest trees r p.1 f)

pub fault_of_rest : (items : List Item) (k : ℕ) (front rest : List Part) (r : Refusal) → IsFaultInside (items ++ items_of front) (k + length (bodies_of front)) rest r → IsFaultInside items k (front ++ rest) r
fault_of_rest items k [] rest r f = let e : k + 0 ≡ k = omega arith in rw (append-nil, e) at f
fault_of_rest items k (Section at id ∷ front) rest r f = fault_of_rest items k front rest r f
fault_of_rest items k (Listed x ∷ front) rest r f = inr (fault_of_rest (items ++ x ∷ []) k front rest r (rw (append_assoc items (x ∷ []) (items_of front)) f))
fault_of_rest items k (Coded b ∷ front) rest r f = let e : suc k + length (bodies_of front) ≡ k + suc (length (bodies_of front)) = omega arith in inr (fault_of_rest items (suc k) front rest r (rw e f))

pub functions_are_few : (parts : List Part) → length (functions_of (items_of parts)) ≤ length parts
functions_are_few [] = omega arith
functions_are_few (Section at id ∷ parts) = omega (arith, functions_are_few parts)
functions_are_few (Listed x ∷ parts) = one_item x (functions_are_few parts)
  where
    one_item : (x : Item) → length (functions_of (items_of parts)) ≤ length parts → length (functions_of (x ∷ items_of parts)) ≤ suc (length parts)
    one_item (Imported from what kind type_index) h = omega arith
    one_item p h = omega arith
functions_are_few (Coded b ∷ parts) = omega (arith, functions_are_few parts)

pub bodies_are_few : (parts : List Part) → length (bodies_of parts) ≤ length parts
bodies_are_few [] = omega arith
bodies_are_few (Section at id ∷ parts) = omega (arith, bodies_are_few parts)
bodies_are_few (Listed x ∷ parts) = omega (arith, bodies_are_few parts)
bodies_are_few (Coded b ∷ parts) = omega (arith, bodies_are_few parts)
