-- The frames of a flat stack.
use Rattle.std.proofs.Common.{◌≡◌, ℕ, zero, suc, ◌-◌, ◌<◌, ◌≤◌, Bool, true, false, List, [], ◌∷◌, ◌++◌, length, get_or, set, take, drop, map, Option, None, Some, refl, sym, ap, ◌∙◌, subst, arith}
use Rattle.std.specs.Prelude.{reverse, is_some, slice_get}
use Rattle.std.proofs.lemmas.List.{reverse-append, length-reverse, length-take-le, length-drop, length-append, drop_all, drop_at, take_at, take-append-le, take_rest, set_split, get_or-reverse}
use Rattle.body_validator.specs.declared.stack.Frame.{Frame as Flat}
use Rattle.wasm_defs.specs.declared.types.ValType.TheVariants.{I32}
use Rattle.body_validator.specs.declared.stack.Opening.TheVariants.{Else as Elses}
use Rattle.wasm_defs.specs.Typing.{Types, Discards, Selects}
use Rattle.body_validator.specs.Checking.{Operand, Operands, Frames, ◌>>=◌, guarded, known, take_all as taken_all, is_of, Taken, take_any, joined, any_at, selected_of, label_of, labels, put, apply, applied, enter, turned, ended, height, closes, may_end, takes_else, starts_live, receive, is_live}
use Rattle.body_validator.specs.Stacks.{own_of, signature, frame_of, frames_of, IsLaid, HasLast, is_live_in, is_live_at}
use Rattle.body_validator.proofs.Options.{and_true}
use Rattle.body_validator.proofs.Flat.{take_all-drop, known-reverse, put_own}

pub height-frames_of : (fs : List Flat) (items : List Operand) → IsLaid fs items → height (frames_of fs items) ≡ length items
height-frames_of [] items h = ap length (sym h)
height-frames_of (f ∷ fs) items h =
    let below = height-frames_of fs (take f.base items) h.1 in
    let a = length-reverse (drop f.base items) in
    let b = length-drop f.base items in
    let d = length-take-le f.base items h.0 in
    omega arith

pub live_frames : (fs : List Flat) (items : List Operand) → is_live_at fs ≡ is_live (frames_of fs items)
live_frames [] items = refl
live_frames (f ∷ fs) items = refl

-- the innermost frame's operands change, and nothing below them
pub reverse-set_last : {A : Type 0} (xs : List A) (n : ℕ) (x : A) → n ≡ length xs → 0 < n → reverse (set xs (n - 1) x) ≡ x ∷ reverse (take (length xs - 1) xs)
reverse-set_last xs n x e h =
    let none : length xs ≤ suc (n - 1) = omega arith in
    let m : n - 1 ≡ length xs - 1 = omega arith in
    ap reverse (set_split xs (n - 1) x (omega arith) ∙ ap (λ ys. take (n - 1) xs ++ x ∷ ys) (drop_all (suc (n - 1)) xs none))
    ∙ reverse-append (take (n - 1) xs) (x ∷ []) ∙ ap (λ (k : ℕ). x ∷ reverse (take k xs)) m

any_left : (unknown : Bool) (own : List Operand) → (own ≡ [] → unknown ≡ true) → (x : Taken) × (take_any unknown own ≡ Some x) × (x.left ≡ drop 1 own)
any_left unknown [] h = (record { operand = None; left = [] }, ap (λ (b : Bool). guarded b (record { operand = None; left = [] })) (h refl), refl)
any_left unknown (o ∷ own) h = (record { operand = o; left = own }, refl, refl)

pub discard_steps : (all : List Flat) (f : Flat) (rest : List Flat) (old new : List Operand) → all ≡ f ∷ rest → (length old ≡ f.base → f.unknown ≡ true) → f.base ≤ length old
    → own_of new f.base ≡ drop 1 (own_of old f.base) → take f.base new ≡ take f.base old → applied Discards (frames_of all old) ≡ Some (frames_of all new)
discard_steps all f rest old new is some within own below =
    let o = (frame_of f old).operands in
    let own_length = length-reverse (drop f.base old) in
    let dropped = length-drop f.base old in
    let x = any_left f.unknown (own_of old f.base) (λ e. let none = ap length e in some (omega arith)) in
    let make : List Operand → List Operand → Frames = λ y z. record (frame_of f old) { operands = put o y } ∷ frames_of rest z in
    subst (λ (y : List Flat). applied Discards (frames_of y old) ≡ Some (frames_of y new)) (sym is)
    (ap (λ (y : Option Taken). (y >>= λ x. Some (put o x.left)) >>= λ o. Some (record (frame_of f old) { operands = o } ∷ frames_of rest (take f.base old))) x.1
    ∙ ap (λ (y : List Operand). Some (make y (take f.base old))) (x.2 ∙ sym own) ∙ ap (λ (z : List Operand). Some (make (own_of new f.base) z)) (sym below))

-- what is on top of some operands
laid_on : (items : List Operand) (types : Types) (base : ℕ) → base ≡ length items → own_of (items ++ map Some types) base ≡ known (reverse types)
laid_on items types base e = ap reverse (drop_at items (map Some types) base (sym e)) ∙ sym (known-reverse types)

pub enter_steps : (all after : List Flat) (f g : Flat) (rest : List Flat) (params : Types) (old left new : List Operand) → all ≡ f ∷ rest → after ≡ g ∷ f ∷ rest
    → is_some (taken_all f.unknown params (own_of old f.base)) ≡ true → own_of left f.base ≡ drop (length params) (own_of old f.base) → take f.base left ≡ take f.base old
    → new ≡ left ++ map Some g.params.now → g.base ≡ length left → g.unknown ≡ false → g.live ≡ f.live
    → enter g.opening (signature g.params.now g.results.now) params (frames_of all old) ≡ Some (frames_of after new)
enter_steps all after f g rest params old left new is later found own below laid base known_all live =
    let type = signature g.params.now g.results.now in
    let o = (frame_of f old).operands in
    let front : take g.base new ≡ left = ap (take g.base) laid ∙ take_at left (map Some g.params.now) g.base (sym base) in
    let top : own_of new g.base ≡ known type.params = ap (λ (x : List Operand). own_of x g.base) laid ∙ laid_on left g.params.now g.base base in
    let make : Bool → Bool → List Operand → List Operand → List Operand → Frames =
    λ unknown live x y z. record { opening = g.opening; type = type; operands = record { own = x; unknown = unknown; live = live } } ∷ record (frame_of f old) { operands = put o y } ∷ frames_of rest z in
    ap (λ (y : List Flat). enter g.opening type params (frames_of y old)) is
    ∙ ap (λ (y : Option (List Operand)). y >>= λ own. Some (make false f.live (known type.params) own (take f.base old))) (take_all-drop f.unknown params (own_of old f.base) found)
    ∙ ap (λ (y : List Operand). Some (make false f.live (known type.params) y (take f.base old))) (sym own ∙ ap (λ (x : List Operand). own_of x f.base) (sym front))
    ∙ ap (λ (z : List Operand). Some (make false f.live (known type.params) (own_of (take g.base new) f.base) z)) (sym below ∙ ap (take f.base) (sym front))
    ∙ ap (λ (x : List Operand). Some (make false f.live x (own_of (take g.base new) f.base) (take f.base (take g.base new)))) (sym top)
    ∙ ap (λ (b : Bool). Some (make false b (own_of new g.base) (own_of (take g.base new) f.base) (take f.base (take g.base new)))) (sym live)
    ∙ ap (λ (b : Bool). Some (make b g.live (own_of new g.base) (own_of (take g.base new) f.base) (take f.base (take g.base new)))) (sym known_all)
    ∙ ap (λ (y : List Flat). Some (frames_of y new)) (sym later)

starts_live-frames_of : (fs : List Flat) (items : List Operand) → starts_live (frames_of fs items) ≡ is_live_in fs
starts_live-frames_of [] items = refl
starts_live-frames_of (f ∷ fs) items = refl

abbrev turned_over : Flat → Bool → Flat
turned_over f live = record f { opening = Elses; unknown = false; live = live }

pub turn_steps : (all after : List Flat) (f : Flat) (rest : List Flat) (live : Bool) (old new : List Operand) → all ≡ f ∷ rest → after ≡ turned_over f live ∷ rest → f.base ≤ length old
    → takes_else f.opening ≡ true → closes (frame_of f old) ≡ true → live ≡ is_live_in rest → new ≡ take f.base old ++ map Some f.params.now
    → turned (frames_of all old) ≡ Some (frames_of after new)
turn_steps all after f rest live old new is later within opening just lives laid =
    let type = signature f.params.now f.results.now in
    let under = take f.base old in
    let long = length-take-le f.base old within in
    let front : take f.base new ≡ under = ap (take f.base) laid ∙ take_at under (map Some f.params.now) f.base long in
    let top : own_of new f.base ≡ known type.params = ap (λ (x : List Operand). own_of x f.base) laid ∙ laid_on under f.params.now f.base (sym long) in
    let make : Bool → List Operand → List Operand → Frames = λ l x z. record { opening = Elses; type = type; operands = record { own = x; unknown = false; live = l } } ∷ frames_of rest z in
    ap (λ (y : List Flat). turned (frames_of y old)) is
    ∙ ap (λ (b : Bool). guarded b (make (starts_live (frames_of rest under)) (known type.params) under)) (and_true (takes_else f.opening) (closes (frame_of f old)) opening just)
    ∙ ap (λ (l : Bool). Some (make l (known type.params) under)) (starts_live-frames_of rest under ∙ sym lives)
    ∙ ap (λ (x : List Operand). Some (make live x under)) (sym top) ∙ ap (λ (z : List Operand). Some (make live (own_of new f.base) z)) (sym front)
    ∙ ap (λ (y : List Flat). Some (frames_of y new)) (sym later)

received : (rest : List Flat) (results : Types) (items new : List Operand) → IsLaid rest items → (rest ≡ [] → ⊥) → new ≡ items ++ map Some results
    → receive (reverse results) (frames_of rest items) ≡ frames_of rest new
received [] results items new laid some e = absurd (some refl)
received (g ∷ gs) results items new laid some e =
    let own = ap (λ (x : List Operand). own_of x g.base) e ∙ put_own items results g.base laid.0 in
    let below = ap (take g.base) e ∙ take-append-le g.base items (map Some results) laid.0 in
    let make : List Operand → List Operand → Frames = λ x z. record (frame_of g items) { operands = put (frame_of g items).operands x } ∷ frames_of gs z in
    ap (λ (x : List Operand). make x (take g.base items)) (sym own) ∙ ap (make (own_of new g.base)) (sym below)

pub leave_steps : (all : List Flat) (f : Flat) (rest : List Flat) (old new : List Operand) → all ≡ f ∷ rest → IsLaid all old → closes (frame_of f old) ≡ true
    → may_end f.opening (signature f.params.now f.results.now) ≡ true → (rest ≡ [] → ⊥) → new ≡ take f.base old ++ map Some f.results.now → ended (frames_of all old) ≡ Some (frames_of rest new)
leave_steps all f rest old new is laid just may some e =
    let inside = subst (λ (y : List Flat). IsLaid y old) is laid in
    ap (λ (y : List Flat). ended (frames_of y old)) is
    ∙ ap (λ (b : Bool). guarded b (receive (reverse f.results.now) (frames_of rest (take f.base old)))) (and_true (closes (frame_of f old)) (may_end f.opening (signature f.params.now f.results.now)) just may)
    ∙ ap (λ (x : Frames). Some x) (received rest f.results.now (take f.base old) new inside.1 some e)

-- ---- facts as the calls give them

-- the part of a slice from the base on
pub part_own : (slice items : List Operand) (base : ℕ) → slice ≡ items → reverse (take (length slice - base) (drop base slice)) ≡ own_of items base
part_own slice items base e = ap reverse (take_rest slice base) ∙ ap (λ (x : List Operand). own_of x base) e

pub last_in : (slice items : List Flat) (f : Flat) → slice ≡ items → HasLast slice f → reverse items ≡ f ∷ reverse (take (length items - 1) items)
last_in slice items f e h = subst (λ (x : List Flat). HasLast x f) e h

pub base_within : (all : List Flat) (f : Flat) (rest : List Flat) (items : List Operand) → all ≡ f ∷ rest → IsLaid all items → f.base ≤ length items
base_within all f rest items e h = (subst (λ (x : List Flat). IsLaid x items) e h).0

pub pushed_first : (items old : List Flat) (g : Flat) → old ≡ items → reverse (old ++ g ∷ []) ≡ g ∷ reverse items
pushed_first items old g e = reverse-append old (g ∷ []) ∙ ap (λ (x : List Flat). g ∷ reverse x) e

-- more on top of some frames changes nothing below
pub laid_more : (fs : List Flat) (items more : List Operand) → (fs ≡ [] → ⊥) → IsLaid fs items → IsLaid fs (items ++ more)
laid_more [] items more some h = absurd (some refl)
laid_more (f ∷ fs) items more some h =
    (omega (arith, h.0, length-append items more), subst (λ (x : List Operand). IsLaid fs x) (sym (take-append-le f.base items more h.0)) h.1)

pub laid_below : (all : List Flat) (f : Flat) (rest : List Flat) (items : List Operand) → all ≡ f ∷ rest → IsLaid all items → IsLaid rest (take f.base items)
laid_below all f rest items e h = (subst (λ (x : List Flat). IsLaid x items) e h).1

-- ---- select, labels

same_test : {A B C D : Type 0} (b : Bool) (x : A) (y : B) (f : A → Option D) (g : Option C) (h : C → Option D) → f x ≡ (g >>= h) → (guarded b x >>= f) ≡ ((guarded b y >>= λ _. g) >>= h)
same_test true x y f g h e = e
same_test false x y f g h e = refl

two_taken : (o : Operands) (a : Operand) (own : List Operand) → (take_any o.unknown own >>= λ x. take_any o.unknown x.left >>= λ y. joined x.operand y.operand >>= λ t. Some (put o (t ∷ y.left)))
    ≡ ((any_at o.unknown (a ∷ own) 1 >>= λ left. any_at o.unknown (a ∷ own) 2 >>= λ right. joined left right) >>= λ t. Some (put o (t ∷ drop 3 (a ∷ own))))
two_taken o a own = by_parts o.unknown own
  where
    by_parts : (unknown : Bool) (own : List Operand) → (take_any unknown own >>= λ x. take_any unknown x.left >>= λ y. joined x.operand y.operand >>= λ t. Some (put o (t ∷ y.left)))
        ≡ ((any_at unknown (a ∷ own) 1 >>= λ left. any_at unknown (a ∷ own) 2 >>= λ right. joined left right) >>= λ t. Some (put o (t ∷ drop 3 (a ∷ own))))
    by_parts true [] = refl
    by_parts false [] = refl
    by_parts true (b ∷ []) = refl
    by_parts false (b ∷ []) = refl
    by_parts unknown (b ∷ d ∷ rest) = refl

pub select_applied : (o : Operands) → apply Selects o ≡ (selected_of o.unknown o.own >>= λ t. Some (put o (t ∷ drop 3 o.own)))
select_applied o = by_parts o.own o.unknown o.live
  where
    by_parts : (own : List Operand) (unknown live : Bool) → apply Selects (record { own = own; unknown = unknown; live = live })
        ≡ (selected_of unknown own >>= λ t. Some (record { own = t ∷ drop 3 own; unknown = unknown; live = live }))
    by_parts [] true live = refl
    by_parts [] false live = refl
    by_parts (a ∷ own) unknown live =
        let o : Operands = record { own = a ∷ own; unknown = unknown; live = live } in
        same_test (is_of a I32) own a (λ own. take_any unknown own >>= λ x. take_any unknown x.left >>= λ y. joined x.operand y.operand >>= λ t. Some (put o (t ∷ y.left)))
        (any_at unknown (a ∷ own) 1 >>= λ left. any_at unknown (a ∷ own) 2 >>= λ right. joined left right) (λ t. Some (put o (t ∷ drop 3 (a ∷ own)))) (two_taken o a own)

abbrev pub flat_label : Flat → Types
flat_label f = label_of f.opening (signature f.params.now f.results.now)

labels_get : (fs : List Flat) (items : List Operand) (k : ℕ) (d : Flat) → k < length fs → slice_get (labels (frames_of fs items)) k ≡ Some (flat_label (get_or fs k d))
labels_get [] items k d h = absurd (omega arith)
labels_get (f ∷ fs) items zero d h = refl
labels_get (f ∷ fs) items (suc k) d h = labels_get fs (take f.base items) k d (omega arith)

labels_past : (fs : List Flat) (items : List Operand) (k : ℕ) → length fs ≤ k → slice_get (labels (frames_of fs items)) k ≡ None
labels_past [] items k h = refl
labels_past (f ∷ fs) items zero h = absurd (omega arith)
labels_past (f ∷ fs) items (suc k) h = labels_past fs (take f.base items) k (omega arith)

pub label_found : (frames : List Flat) (items : List Operand) (k n : ℕ) (f : Flat) → k < n → n ≡ length frames → f ≡ get_or frames (n - 1 - k) f
    → slice_get (labels (frames_of (reverse frames) items)) k ≡ Some (flat_label f)
label_found frames items k n f h e is =
    labels_get (reverse frames) items k f (omega (arith, length-reverse frames))
    ∙ ap (λ (x : Flat). Some (flat_label x)) (get_or-reverse frames k f (omega arith) ∙ ap (λ (m : ℕ). get_or frames (m - 1 - k) f) (sym e) ∙ sym is)

pub label_missing : (frames : List Flat) (items : List Operand) (k n : ℕ) → n ≤ k → n ≡ length frames → slice_get (labels (frames_of (reverse frames) items)) k ≡ None
label_missing frames items k n h e = labels_past (reverse frames) items k (omega (arith, length-reverse frames))
