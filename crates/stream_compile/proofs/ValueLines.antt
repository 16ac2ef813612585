-- What is written of the values that a run returned.
use Rattle.std.proofs.Common.{◌≡◌, ◌∙◌, ◌+◌, ◌++◌, ℕ, Bool, true, false, List, [], ◌∷◌, Option, Some, None, length, take, drop, refl, ap, sym, subst, arith}
use Rattle.std.specs.Prelude.{slice_get}
use Rattle.std.specs.List.{flat_map}
use Rattle.std.proofs.lemmas.Grind.{flat_map-append}
use Rattle.std.proofs.lemmas.List.{append-nil, take-append-drop, take_more}
use Rattle.std.proofs.lemmas.Option.{slice_get_within, get_or_from_slice_get}
use Rattle.io_edges.specs.Streams.{WritesText}
use Rattle.wasm_defs.specs.Values.{Value}
use Rattle.image_run.proofs.PrintLaws.{writes_then, fails_first}
use Rattle.stream_compile.specs.Texts.{drilled, returned, returned_by, value_line}

abbrev lines : List Value → List ℕ
lines values = flat_map value_line values

lines_more : (values : List Value) (i : ℕ) (v : Value) → slice_get values i ≡ Some v → lines (take (i + 1) values) ≡ lines (take i values) ++ value_line v
lines_more values i v is =
    ap lines (take_more values i v (slice_get_within values i v is) ∙ ap (λ (w : Value). take i values ++ w ∷ []) (get_or_from_slice_get values i v v is))
    ∙ flat_map-append value_line (take i values) (v ∷ [])
    ∙ ap (λ (l : List ℕ). lines (take i values) ++ l) (append-nil (value_line v))

lines_apart : (values : List Value) (i : ℕ) → lines values ≡ lines (take i values) ++ lines (drop i values)
lines_apart values i = ap lines (sym (take-append-drop i values)) ∙ flat_map-append value_line (take i values) (drop i values)

-- after the lines of the first values, that of one more
pub lines_step : (r : Bool) (values : List Value) (i : ℕ) (v : Value) (old between new : Option (List ℕ)) (before middle now : ℕ) → slice_get values i ≡ Some v
    → WritesText true (lines (take i values)) old between before middle → WritesText r (value_line v) between new middle now → WritesText r (lines (take (i + 1) values)) old new before now
lines_step r values i v old between new before middle now is first second =
    subst (λ (l : List ℕ). WritesText r l old new before now) (sym (lines_more values i v is)) (writes_then r (lines (take i values)) (value_line v) old between new before middle now first second)

-- where the sink failed at the first values
pub lines_failed : (values : List Value) (i : ℕ) (old new : Option (List ℕ)) (before now : ℕ) → WritesText false (lines (take i values)) old new before now → WritesText false (lines values) old new before now
lines_failed values i old new before now h =
    subst (λ (l : List ℕ). WritesText false l old new before now) (sym (lines_apart values i)) (fails_first (lines (take i values)) (lines (drop i values)) old new before now h)

-- ---- by how many there are

pub none_returned : (values : List Value) → length values ≡ 0 → returned values ≡ returned []
none_returned [] e = refl
none_returned (v ∷ values) e = absurd (omega (arith, e))

pub some_returned : (values : List Value) (n : ℕ) → length values ≡ n + 1 → (returned values).text ≡ lines values
some_returned [] n e = absurd (omega (arith, e))
some_returned (v ∷ values) n e = refl

pub none_drilled : (functions : ℕ) (values : List Value) → length values ≡ 0 → drilled functions values ≡ returned []
none_drilled functions [] e = refl
none_drilled functions (v ∷ values) e = absurd (omega (arith, e))

-- a drill's line gives the first
pub first_drilled : (functions : ℕ) (values : List Value) (v : Value) → slice_get values 0 ≡ Some v → drilled functions (v ∷ []) ≡ drilled functions values
first_drilled functions [] v is = absurd cc
first_drilled functions (w ∷ values) v is = let same : w ≡ v = cc in ap (λ (x : Value). drilled functions (x ∷ [])) (sym same)

-- the status is 0, whatever there is
pub returned_status : (drill : Option ℕ) (values : List Value) → 0 ≡ (returned_by drill values).status
returned_status None [] = refl
returned_status None (v ∷ values) = refl
returned_status (Some functions) [] = refl
returned_status (Some functions) (v ∷ values) = refl
