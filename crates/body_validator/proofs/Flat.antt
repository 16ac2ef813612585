-- Lists from their ends.
use Rattle.std.proofs.Common.{◌≡◌, ℕ, zero, suc, ◌+◌, ◌-◌, ◌<◌, ◌≤◌, Bool, true, false, ◌&&◌, List, [], ◌∷◌, ◌++◌, length, get_or, take, drop, map, Option, None, Some, refl, sym, ap, ◌∙◌, arith}
use Rattle.std.specs.Prelude.{reverse, is_some}
use Rattle.std.proofs.lemmas.List.{take_more, reverse-append, length-reverse, take-append-drop, length-take-le, length-drop, drop_at, drop_all, drop-take, drop-append-le, get_or-reverse}
use Rattle.wasm_defs.specs.declared.types.ValType.{ValType}
use Rattle.wasm_defs.specs.Typing.{Types, same_type, same_types}
use Rattle.body_validator.specs.Stacks.{own_of}
use Rattle.body_validator.specs.Exchange.{given_types, exchanged}
use Rattle.body_validator.specs.Checking.{Operand, ◌>>=◌, guarded, known, none_left, any_at, is_of, take_all}

pub reverse_more : {A : Type 0} (xs : List A) (i : ℕ) (d : A) → i < length xs → reverse (take (i + 1) xs) ≡ get_or xs i d ∷ reverse (take i xs)
reverse_more xs i d h = ap reverse (take_more xs i d h) ∙ reverse-append (take i xs) (get_or xs i d ∷ [])

-- one operand and one type from the ends
pub ends_taken : (unknown : Bool) (types : Types) (own : List Operand) (n left : ℕ) (t : ValType) (o : Operand) → 0 < n → 0 < left → n ≤ length types → left ≤ length own
    → take_all unknown (reverse (take n types)) (reverse (take left own))
    ≡ (guarded (is_of (get_or own (left - 1) o) (get_or types (n - 1) t)) (reverse (take (left - 1) own)) >>= take_all unknown (reverse (take (n - 1) types)))
ends_taken unknown types own n left t o p q h g =
    let e : n ≡ n - 1 + 1 = omega arith in
    let f : left ≡ left - 1 + 1 = omega arith in
    let a = ap (λ (k : ℕ). reverse (take k types)) e ∙ reverse_more types (n - 1) t (omega arith) in
    let b = ap (λ (k : ℕ). reverse (take k own)) f ∙ reverse_more own (left - 1) o (omega arith) in
    ap (λ (x : Types). take_all unknown x (reverse (take left own))) a ∙ ap (take_all unknown (get_or types (n - 1) t ∷ reverse (take (n - 1) types))) b

-- where they fit, what is left decides
pub one_fits : (unknown : Bool) (types : Types) (own : List Operand) (n left : ℕ) (t : ValType) (o : Operand) (r : Bool) → r ≡ is_of (get_or own (left - 1) o) (get_or types (n - 1) t) → r ≡ true
    → 0 < n → 0 < left → n ≤ length types → left ≤ length own
    → take_all unknown (reverse (take n types)) (reverse (take left own)) ≡ take_all unknown (reverse (take (n - 1) types)) (reverse (take (left - 1) own))
one_fits unknown types own n left t o r e f p q h g =
    ends_taken unknown types own n left t o p q h g
    ∙ ap (λ (b : Bool). guarded b (reverse (take (left - 1) own)) >>= take_all unknown (reverse (take (n - 1) types))) (sym e ∙ f)

pub all_unknown : (types : Types) → is_some (take_all true types []) ≡ true
all_unknown [] = refl
all_unknown (t ∷ types) = all_unknown types

pub none_there : (unknown : Bool) (types : Types) → 0 < length types → is_some (take_all unknown types []) ≡ unknown
none_there unknown [] h = absurd (omega arith)
none_there true (t ∷ types) h = all_unknown types
none_there false (t ∷ types) h = refl

-- a prefix of a list, reversed, is a suffix of its reverse
pub reverse-take : {A : Type 0} (xs : List A) (m n : ℕ) → m + n ≡ length xs → reverse (take m xs) ≡ drop n (reverse xs)
reverse-take xs m n h =
    let back : length (reverse (drop m xs)) ≡ n = length-reverse (drop m xs) ∙ length-drop m xs ∙ omega arith in
    let parts : reverse xs ≡ reverse (drop m xs) ++ reverse (take m xs) = ap reverse (sym (take-append-drop m xs)) ∙ reverse-append (take m xs) (drop m xs) in
    sym (ap (drop n) parts ∙ drop_at (reverse (drop m xs)) (reverse (take m xs)) n back)

-- some are taken from the end of what is above the base
pub taken_above : {A : Type 0} (items : List A) (base count : ℕ) → base + count ≤ length items
    → reverse (drop base (take (length items - count) items)) ≡ drop count (reverse (drop base items))
taken_above items base count h =
    let m = length items - count - base in
    let e : length items - count ≡ base + m = omega arith in
    let f : m + count ≡ length (drop base items) = omega (arith, length-drop base items) in
    ap (λ (n : ℕ). reverse (drop base (take n items))) e ∙ ap reverse (drop-take base m items) ∙ reverse-take (drop base items) m count f

pub reverse-length : {A : Type 0} (xs : List A) (n : ℕ) → 0 < n → n ≤ length xs → 0 < length (reverse (take n xs))
reverse-length xs n h g = omega (arith, length-reverse (take n xs), length-take-le n xs g)

-- ---- what is taken

drop_nothing : (n : ℕ) → drop {A = Operand} n [] ≡ []
drop_nothing zero = refl
drop_nothing (suc n) = refl

-- what is taken are the topmost ones
pub take_all-drop : (unknown : Bool) (p : Types) (own : List Operand) → is_some (take_all unknown p own) ≡ true → take_all unknown p own ≡ Some (drop (length p) own)
take_all-drop unknown [] own e = refl
take_all-drop true (t ∷ p) [] e = take_all-drop true p [] e ∙ ap (λ (x : List Operand). Some x) (drop_nothing (length p))
take_all-drop false (t ∷ p) [] e = absurd (cc)
take_all-drop unknown (t ∷ p) (o ∷ own) e = by_test (is_of o t) e (take_all-drop unknown p own)
  where
    by_test : (b : Bool) → is_some (guarded b own >>= take_all unknown p) ≡ true → (is_some (take_all unknown p own) ≡ true → take_all unknown p own ≡ Some (drop (length p) own))
        → (guarded b own >>= take_all unknown p) ≡ Some (drop (length p) own)
    by_test true f h = h f
    by_test false f h = absurd (cc)

known-append : (a b : Types) → known (a ++ b) ≡ known a ++ known b
known-append [] b = refl
known-append (t ∷ a) b = ap (λ (x : List Operand). Some t ∷ x) (known-append a b)

pub known-reverse : (ts : Types) → known (reverse ts) ≡ reverse (map Some ts)
known-reverse [] = refl
known-reverse (t ∷ ts) =
    ap known (reverse-append (t ∷ []) ts) ∙ known-append (reverse ts) (t ∷ []) ∙ ap (λ (x : List Operand). x ++ Some t ∷ []) (known-reverse ts)
    ∙ sym (reverse-append (Some t ∷ []) (map Some ts))

-- operands are put on top
pub put_own : (items : List Operand) (ts : Types) (base : ℕ) → base ≤ length items → own_of (items ++ map Some ts) base ≡ known (reverse ts) ++ own_of items base
put_own items ts base h =
    ap reverse (drop-append-le base items (map Some ts) h) ∙ reverse-append (drop base items) (map Some ts)
    ∙ ap (λ (x : List Operand). x ++ own_of items base) (sym (known-reverse ts))

pub one_reversed : (given : Option ValType) → reverse (given_types given) ≡ given_types given
one_reversed None = refl
one_reversed (Some t) = refl

pub exchanged_all : (unknown : Bool) (p g : Types) (own : List Operand) → is_some (take_all unknown p own) ≡ true → exchanged unknown p g own ≡ Some (known g ++ drop (length p) own)
exchanged_all unknown p g own e = ap (λ (o : Option (List Operand)). o >>= λ left. Some (known g ++ left)) (take_all-drop unknown p own e)

-- ---- nothing is left

none_left-by : (o : Option (List Operand)) (rest : List Operand) → (is_some o ≡ true → o ≡ Some rest) → rest ≡ [] → is_some o ≡ none_left o
none_left-by None rest h e = refl
none_left-by (Some own) rest h e = sym (ap none_left (h refl ∙ ap (λ (x : List Operand). Some x) e))

pub all_fit : (unknown : Bool) (p : Types) (own : List Operand) → length own ≤ length p → is_some (take_all unknown p own) ≡ none_left (take_all unknown p own)
all_fit unknown p own h = none_left-by (take_all unknown p own) (drop (length p) own) (take_all-drop unknown p own) (drop_all (length p) own h)

not_all : (rest : List Operand) → 0 < length rest → none_left (Some rest) ≡ false
not_all [] h = absurd (omega arith)
not_all (o ∷ rest) h = refl

some_left-by : (o : Option (List Operand)) (rest : List Operand) → (is_some o ≡ true → o ≡ Some rest) → 0 < length rest → none_left o ≡ false
some_left-by None rest h e = refl
some_left-by (Some own) rest h e = ap none_left (h refl) ∙ not_all rest e

pub too_many : (unknown : Bool) (p : Types) (own : List Operand) → length p < length own → none_left (take_all unknown p own) ≡ false
too_many unknown p own h = some_left-by (take_all unknown p own) (drop (length p) own) (take_all-drop unknown p own) (omega (arith, length-drop (length p) own))

-- ---- types that are compared

pub lengths_differ : (ts us : Types) → (length ts ≡ length us → ⊥) → same_types ts us ≡ false
lengths_differ [] [] h = absurd (h refl)
lengths_differ (t ∷ ts) [] h = refl
lengths_differ [] (u ∷ us) h = refl
lengths_differ (t ∷ ts) (u ∷ us) h = by_test (same_type t u) (lengths_differ ts us (λ e. h (ap suc e)))
  where
    by_test : (b : Bool) → same_types ts us ≡ false → b && same_types ts us ≡ false
    by_test true e = e
    by_test false e = refl

pub ends_same : (ts us : Types) (n : ℕ) (t u : ValType) (r : Bool) → r ≡ same_type (get_or ts (n - 1) t) (get_or us (n - 1) u) → 0 < n → n ≤ length ts → n ≤ length us
    → same_types (reverse (take n ts)) (reverse (take n us)) ≡ r && same_types (reverse (take (n - 1) ts)) (reverse (take (n - 1) us))
ends_same ts us n t u r e h g f =
    let m : n ≡ n - 1 + 1 = omega arith in
    let a = ap (λ (k : ℕ). reverse (take k ts)) m ∙ reverse_more ts (n - 1) t (omega arith) in
    let b = ap (λ (k : ℕ). reverse (take k us)) m ∙ reverse_more us (n - 1) u (omega arith) in
    ap (λ (x : Types). same_types x (reverse (take n us))) a ∙ ap (same_types (get_or ts (n - 1) t ∷ reverse (take (n - 1) ts))) b
    ∙ ap (λ (b : Bool). b && same_types (reverse (take (n - 1) ts)) (reverse (take (n - 1) us))) (sym e)

pub next_same : (ts us : Types) (n : ℕ) (t u : ValType) (r b : Bool) → r ≡ same_type (get_or ts (n - 1) t) (get_or us (n - 1) u) → r ≡ b → 0 < n → n ≤ length ts → n ≤ length us
    → same_types (reverse (take n ts)) (reverse (take n us)) ≡ b && same_types (reverse (take (n - 1) ts)) (reverse (take (n - 1) us))
next_same ts us n t u r b e f h g k =
    ends_same ts us n t u r e h g k ∙ ap (λ (x : Bool). x && same_types (reverse (take (n - 1) ts)) (reverse (take (n - 1) us))) f

-- ---- the operand at a depth

any_within : (unknown : Bool) (own : List Operand) (depth : ℕ) (d : Operand) → depth < length own → any_at unknown own depth ≡ Some (get_or own depth d)
any_within unknown [] depth d h = absurd (omega arith)
any_within unknown (o ∷ own) zero d h = refl
any_within unknown (o ∷ own) (suc depth) d h = any_within unknown own depth d (omega arith)

any_past : (unknown : Bool) (own : List Operand) (depth : ℕ) → length own ≤ depth → any_at unknown own depth ≡ guarded unknown None
any_past unknown [] depth h = refl
any_past unknown (o ∷ own) zero h = absurd (omega arith)
any_past unknown (o ∷ own) (suc depth) h = any_past unknown own depth (omega arith)

pub depth_within : (unknown : Bool) (own : List Operand) (depth : ℕ) (d : Operand) → depth < length own → any_at unknown (reverse own) depth ≡ Some (get_or own (length own - 1 - depth) d)
depth_within unknown own depth d h =
    any_within unknown (reverse own) depth d (omega (arith, length-reverse own)) ∙ ap (λ (x : Operand). Some x) (get_or-reverse own depth d h)

pub depth_past : (unknown : Bool) (own : List Operand) (depth : ℕ) (b : Bool) → length own ≤ depth → unknown ≡ b → any_at unknown (reverse own) depth ≡ guarded b None
depth_past unknown own depth b h e =
    any_past unknown (reverse own) depth (omega (arith, length-reverse own)) ∙ ap (λ (x : Bool). guarded x None) e
