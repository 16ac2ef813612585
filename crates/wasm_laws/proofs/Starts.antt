-- A module's start function is one of its functions, and takes and gives nothing.
use Rattle.std.proofs.Common.{◌≡◌, ℕ, zero, suc, true, List, [], ◌∷◌, ◌++◌, length, Option, None, Some, refl, sym, ap, ◌∙◌, subst, append_assoc, arith}
use Rattle.std.specs.Prelude.{slice_get, ◌==◌}
use Rattle.std.proofs.lemmas.Bool.{eqb-true, and_parts}
use Rattle.wasm_defs.specs.declared.item.Item.{Item}
use Rattle.wasm_defs.specs.declared.item.Item.TheVariants.{Signature}
use Rattle.wasm_defs.specs.declared.types.FuncType.{FuncType}
use Rattle.wasm_defs.specs.Typing.{function_type}
use Rattle.wasm_defs.specs.Context.{context_of, types_of, functions_of}
use Rattle.wasm_defs.specs.Instances.{start_of}
use Rattle.wasm_defs.specs.Outside.{module_read}
use Rattle.wasm_defs.specs.Faults.{is_start_type, Use, Starts, Imports, use_of, UsesRight, Module, IsModule}
use Rattle.wasm_defs.proofs.ItemLaws.{types_of-append, functions_of-append}
use Rattle.wasm_laws.specs.Behind.{UsesKeep}
use Rattle.wasm_laws.specs.Kept.{TakesNothing}
use Rattle.wasm_laws.proofs.Behind.{uses_keep}

-- ---- what is there stays there with more after it

pub found_more : {A : Type 0} (xs ys : List A) (i : ℕ) (a : A) → slice_get xs i ≡ Some a → slice_get (xs ++ ys) i ≡ Some a
found_more [] ys i a e = absurd cc
found_more (x ∷ xs) ys zero a e = e
found_more (x ∷ xs) ys (suc i) a e = found_more xs ys i a e

-- a type that is looked up by what was looked up
abbrev typed_at : List FuncType → Option ℕ → Option FuncType
typed_at types None = None
typed_at types (Some i) = slice_get types i

typed_more : (types types' : List FuncType) (o o' : Option ℕ) (t : FuncType) → ((i : ℕ) → o ≡ Some i → o' ≡ Some i) → ((i : ℕ) → slice_get types i ≡ Some t → slice_get types' i ≡ Some t) → typed_at types o ≡ Some t → typed_at types' o' ≡ Some t
typed_more types types' None o' t functions more e = absurd cc
typed_more types types' (Some i) o' t functions more e = ap (typed_at types') (functions i refl) ∙ more i e

function_more : (xs ys : List Item) (f : ℕ) (t : FuncType) → function_type (context_of xs) f ≡ Some t → function_type (context_of (xs ++ ys)) f ≡ Some t
function_more xs ys f t e =
    typed_more (types_of xs) (types_of (xs ++ ys)) (slice_get (functions_of xs) f) (slice_get (functions_of (xs ++ ys)) f) t
    (λ i h. ap (λ (l : List ℕ). slice_get l f) (functions_of-append xs ys) ∙ found_more (functions_of xs) (functions_of ys) f i h)
    (λ i h. ap (λ (l : List FuncType). slice_get l i) (types_of-append xs ys) ∙ found_more (types_of xs) (types_of ys) i t h)
    e

-- ---- a type without parameters and results

no_elements : {A : Type 0} (xs : List A) → length xs ≡ 0 → xs ≡ []
no_elements [] e = refl
no_elements (x ∷ xs) e = absurd (omega arith)

takes_nothing : (o : Option FuncType) → is_start_type o ≡ true → (t : FuncType) × (o ≡ Some t) × TakesNothing t
takes_nothing None e = absurd cc
takes_nothing (Some t) e =
    let both = and_parts (length t.params == 0) (length t.results == 0) e in
    (t, refl, record { params = no_elements t.params (eqb-true (length t.params) 0 both.0); results = no_elements t.results (eqb-true (length t.results) 0 both.1) })

-- ---- the start function of some items

abbrev from_use : Option Use → Option ℕ → Option ℕ
from_use None later = later
from_use (Some (Starts at index)) later = Some index
from_use (Some (Imports at index)) later = later

start_by : (x : Item) (xs : List Item) → start_of (x ∷ xs) ≡ from_use (use_of x) (start_of xs)
start_by (Signature form params results ty) xs = refl
start_by p xs = refl

abbrev IsRight : List Item → ℕ → Type 0
IsRight items f = (t : FuncType) × (function_type (context_of items) f ≡ Some t) × TakesNothing t

right_more : (xs ys : List Item) (f : ℕ) → IsRight xs f → IsRight (xs ++ ys) f
right_more xs ys f (t, e, is) = (t, function_more xs ys f t e, is)

first_right : (before later : List Item) (o : Option Use) (next : Option ℕ) (f : ℕ) → UsesRight (context_of before) o → from_use o next ≡ Some f → (next ≡ Some f → IsRight (before ++ later) f) → IsRight (before ++ later) f
first_right before later None next f right e rest = rest e
first_right before later (Some (Starts at index)) next f right e rest =
    let same : index ≡ f = cc in
    subst (IsRight (before ++ later)) same (right_more before later index (takes_nothing (function_type (context_of before) index) right))
first_right before later (Some (Imports at index)) next f right e rest = rest e

all_right : (before xs : List Item) (f : ℕ) → UsesKeep before xs → start_of xs ≡ Some f → IsRight (before ++ xs) f
all_right before [] f keep e = absurd cc
all_right before (x ∷ xs) f keep e =
    first_right before (x ∷ xs) (use_of x) (start_of xs) f keep.0 (sym (start_by x xs) ∙ e)
    (λ h. subst (λ (l : List Item). IsRight l f) (append_assoc before (x ∷ []) xs) (all_right (before ++ x ∷ []) xs f keep.1 h))

pub start_is_right : (bytes : List ℕ) (m : Module) (f : ℕ) → IsModule bytes m → start_of m.items ≡ Some f → (t : FuncType) × (function_type (context_of m.items) f ≡ Some t) × TakesNothing t
start_is_right bytes m f is e =
    all_right [] m.items f (subst (UsesKeep []) (sym is.items) (uses_keep [] 0 (module_read bytes).parts m.trees is.valid)) e
