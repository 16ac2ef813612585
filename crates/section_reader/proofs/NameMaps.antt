-- A map from the bytes of texts, kept as a map from texts.
use Rattle.std.proofs.Common.{◌≡◌, ℕ, Bool, true, false, cond, List, [], ◌∷◌, Some, refl, sym, ap, ◌∙◌}
use Rattle.std.specs.Global.{Vec}
use Rattle.std.specs.FinMap.{from_entries, get, insert, find, get-from_entries, get-insert, same_map}
use Rattle.std.specs.BTreeMap.{insert_entry, is_at}
use Rattle.std.specs.Map.{lookup}
use Rattle.std.specs.Ordering.{nat_cmp, eq_by_cmp, is_eq}
use Rattle.std.specs.declared.cmp.Ordering.{Ordering}
use Rattle.std.specs.declared.cmp.Ordering.TheVariants.{Less, Equal, Greater}
use Rattle.std.specs.Cmp.Lexicographic.{slice_cmp, nat_list_cmp_total}
use Rattle.std.proofs.lemmas.Map.Lookups.{exact_bytes}
use Rattle.section_reader.specs.ByText.{by_text}

abbrev pub text_cmp : List ℕ → List ℕ → Ordering
text_cmp = slice_cmp nat_cmp

abbrev pub vec_cmp : Vec ℕ → Vec ℕ → Ordering
vec_cmp a b = text_cmp a.items b.items

pub found : (q : List ℕ) (es : List (Vec ℕ × ℕ)) → lookup (is_at (λ (k : Vec ℕ). text_cmp q k.items)) es ≡ find text_cmp q (by_text es)
found q [] = refl
found q (e ∷ es) = ap (cond (is_eq (text_cmp q e.0.items)) (Some e.1)) (found q es)

pub get_found : (q : List ℕ) (es : List (Vec ℕ × ℕ)) → get (from_entries {R = text_cmp} (by_text es)) q ≡ find text_cmp q (by_text es)
get_found q es = get-from_entries nat_list_cmp_total (by_text es) q

equal_is : (q k : List ℕ) → is_eq (text_cmp q k) ≡ true → q ≡ k
equal_is q k e = exact_bytes q k (is_equal (text_cmp q k) e)
  where
    is_equal : (o : Ordering) → is_eq o ≡ true → o ≡ Equal
    is_equal Less e = absurd cc
    is_equal Equal e = refl
    is_equal Greater e = absurd cc

-- two tests that don't both hold
apart : {X : Type 0} (a b : Bool) (x y z : X) → (a ≡ true → b ≡ true → ⊥) → cond a x (cond b y z) ≡ cond b y (cond a x z)
apart true true x y z h = absurd (h refl refl)
apart true false x y z h = refl
apart false b x y z h = refl

twice : {X : Type 0} (a : Bool) (x y z : X) → cond a x z ≡ cond a x (cond a y z)
twice true x y z = refl
twice false x y z = refl

placed : (o : Ordering) (q : List ℕ) (k : Vec ℕ) (v : ℕ) (e : Vec ℕ × ℕ) (es : List (Vec ℕ × ℕ)) → vec_cmp k e.0 ≡ o
    → find text_cmp q (by_text (insert_entry vec_cmp es k v)) ≡ cond (eq_by_cmp text_cmp q k.items) (Some v) (find text_cmp q (by_text es))
    → find text_cmp q (by_text (insert_entry vec_cmp (e ∷ es) k v)) ≡ cond (eq_by_cmp text_cmp q k.items) (Some v) (find text_cmp q (by_text (e ∷ es)))
placed Less q k v e es is rest = rw is refl
placed Equal q k v e es is rest =
    let same : k.items ≡ e.0.items = exact_bytes k.items e.0.items is in
    rw (is, same) (twice (eq_by_cmp text_cmp q e.0.items) (Some v) (Some e.1) (find text_cmp q (by_text es)))
placed Greater q k v e es is rest =
    rw (is, rest) (apart (eq_by_cmp text_cmp q e.0.items) (eq_by_cmp text_cmp q k.items) (Some e.1) (Some v) (find text_cmp q (by_text es)) (λ a b. differ (ap (λ (t : List ℕ). text_cmp t e.0.items) (sym (equal_is q k.items b)) ∙ equal_at a)))
  where
    equal_at : is_eq (text_cmp q e.0.items) ≡ true → text_cmp q e.0.items ≡ Equal
    equal_at a = is_equal (text_cmp q e.0.items) a
      where
        is_equal : (o : Ordering) → is_eq o ≡ true → o ≡ Equal
        is_equal Less e = absurd cc
        is_equal Equal e = refl
        is_equal Greater e = absurd cc

    differ : vec_cmp k e.0 ≡ Equal → ⊥
    differ h = let t : Greater ≡ Equal = sym is ∙ h in absurd cc

pub insert_found : (q : List ℕ) (k : Vec ℕ) (v : ℕ) (es : List (Vec ℕ × ℕ)) → find text_cmp q (by_text (insert_entry vec_cmp es k v)) ≡ cond (eq_by_cmp text_cmp q k.items) (Some v) (find text_cmp q (by_text es))
insert_found q k v [] = refl
insert_found q k v (e ∷ es) = placed (vec_cmp k e.0) q k v e es refl (insert_found q k v es)

pub inserted : (k : Vec ℕ) (v : ℕ) (es : List (Vec ℕ × ℕ)) → from_entries {R = text_cmp} (by_text (insert_entry vec_cmp es k v)) ≡ insert (from_entries {R = text_cmp} (by_text es)) k.items v
inserted k v es = same_map nat_list_cmp_total exact_bytes _ _ (λ q.
    get_found q (insert_entry vec_cmp es k v) ∙ insert_found q k v es
    ∙ ap (cond (eq_by_cmp text_cmp q k.items) (Some v)) (sym (get_found q es))
    ∙ sym (get-insert nat_list_cmp_total (from_entries (by_text es)) k.items v q))
