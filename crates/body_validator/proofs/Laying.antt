-- Operands that are laid out as single ones and lists.
use Rattle.std.proofs.Common.{◌≡◌, ◌⊎◌, inl, inr, ℕ, zero, suc, ◌+◌, ◌-◌, ◌<◌, ◌≤◌, Bool, true, false, List, [], ◌∷◌, ◌++◌, length, get_or, set, take, drop, map, Option, None, Some, Result, Ok, Err, refl, sym, ap, ◌∙◌, subst, append_assoc, arith}
use Rattle.std.specs.Global.{Vec}
use Rattle.std.specs.Prelude.{reverse, is_some}
use Rattle.std.proofs.lemmas.List.{append-nil, length-append, length-map, map-append, length-drop, length-take-le, length-reverse, take-append-drop, take-take, take_at, take-append-le, drop_at, drop-append-le, drop_all, reverse-append, take_all as take_all_of}
use Rattle.wasm_defs.specs.declared.types.ValType.{ValType}
use Rattle.wasm_defs.specs.Typing.{Types}
use Rattle.body_validator.specs.declared.kept.Operands.{Operands}
use Rattle.body_validator.specs.declared.lists.Spread.{Spread}
use Rattle.body_validator.specs.declared.operands.Stop.{Stop}
use Rattle.body_validator.specs.declared.operands.Stop.TheVariants.{Refused, NoMemory}
use Rattle.body_validator.specs.Checking.{Operand, ◌>>=◌, guarded, known, is_of, take_all, none_left, selected_of}
use Rattle.body_validator.specs.Stacks.{own_of}
use Rattle.body_validator.specs.Exchange.{exchanged, Exchanges}
use Rattle.body_validator.specs.Kept.{spreads, laid_out, flat, total, floor_of, AreStacked, IsKept, IsAll, IsPart, IsSeen, AreShown, AreSame, IsTried, IsShort, Topmost}
use Rattle.body_validator.proofs.Options.{through, some_inside}
use Rattle.body_validator.proofs.Flat.{too_many, reverse_more}
use Rattle.body_validator.proofs.Frames.{reverse-set_last}

-- ---- single ones from some place on are on top

drop_parts : {A : Type 0} (a b : ℕ) (xs : List A) → a ≤ b → drop a (take b xs) ++ drop b xs ≡ drop a xs
drop_parts zero b xs h = take-append-drop b xs
drop_parts (suc a) zero xs h = absurd (omega arith)
drop_parts (suc a) (suc b) [] h = refl
drop_parts (suc a) (suc b) (x ∷ xs) h = drop_parts a b xs (omega arith)

pub split : (lists : List Spread) (singles : List Operand) (start : ℕ) → floor_of lists ≤ start → laid_out lists singles ≡ laid_out lists (take start singles) ++ drop start singles
split [] singles start h = sym (take-append-drop start singles)
split (s ∷ lists) singles start h =
    let b = s.below in
    let types = map Some s.types.now in
    let low = laid_out lists (take b (take start singles)) in
    ap (λ (x : List Operand). laid_out lists x ++ (types ++ drop b singles)) (sym (take-take b start singles h))
    ∙ ap (λ (x : List Operand). low ++ (types ++ x)) (sym (drop_parts b start singles h))
    ∙ ap (λ (x : List Operand). low ++ x) (sym (append_assoc types (drop b (take start singles)) (drop start singles)))
    ∙ sym (append_assoc low (types ++ drop b (take start singles)) (drop start singles))

pub length-laid : (lists : List Spread) (singles : List Operand) → length (laid_out lists singles) ≡ total lists + length singles
length-laid [] singles = omega arith
length-laid (s ∷ lists) singles =
    let low = take s.below singles in
    let high = drop s.below singles in
    let types : List Operand = map Some s.types.now in
    let below = length-laid lists low in
    let parts = ap length (take-append-drop s.below singles) in
    let a = length-append low high in
    let b = length-append (laid_out lists low) (types ++ high) in
    let d = length-append types high in
    let e : length types ≡ length s.types.now = length-map s.types.now (λ (t : ValType). Some t) in
    omega (arith, below, parts, a, b, d, e, length-append low high)

pub length-under : (lists : List Spread) (singles : List Operand) (start : ℕ) → start ≤ length singles → length (laid_out lists (take start singles)) ≡ total lists + start
length-under lists singles start h =
    let a = length-laid lists (take start singles) in
    let b = length-take-le start singles h in
    omega arith

pub own_split : (lists : List Spread) (singles : List Operand) (start base : ℕ) → floor_of lists ≤ start → start ≤ length singles → base ≤ start + total lists
    → own_of (laid_out lists singles) base ≡ own_of singles start ++ own_of (laid_out lists (take start singles)) base
own_split lists singles start base h g f =
    let under = laid_out lists (take start singles) in
    let long = length-under lists singles start g in
    ap (λ (x : List Operand). own_of x base) (split lists singles start h)
    ∙ ap reverse (drop-append-le base under (drop start singles) (omega arith)) ∙ reverse-append (drop base under) (drop start singles)

pub below_split : (lists : List Spread) (singles : List Operand) (start base : ℕ) → floor_of lists ≤ start → start ≤ length singles → base ≤ start + total lists
    → take base (laid_out lists singles) ≡ take base (laid_out lists (take start singles))
below_split lists singles start base h g f =
    let under = laid_out lists (take start singles) in
    let long = length-under lists singles start g in
    ap (take base) (split lists singles start h) ∙ take-append-le base under (drop start singles) (omega arith)

-- ---- what is taken from the top

-- h is all that is below the top ones
abbrev pub IsBelow : Bool → List Operand → Bool → Type 0
IsBelow un h unknown = ((h ≡ []) × (un ≡ unknown)) ⊎ (un ≡ false)

-- there are so many, or nothing is below
abbrev pub AreThere : Bool → List Operand → List Operand → Bool → ℕ → Type 0
AreThere un v h unknown count = ((h ≡ []) × (un ≡ unknown)) ⊎ ((un ≡ false) × (count ≤ length v))

pub take_all-more : (unknown : Bool) (p : Types) (v left h : List Operand) → take_all false p v ≡ Some left → take_all unknown p (v ++ h) ≡ Some (left ++ h)
take_all-more unknown [] v left h e = ap (λ (x : List Operand). Some (x ++ h)) (some_inside v left e)
take_all-more unknown (t ∷ p) [] left h e = absurd (cc)
take_all-more unknown (t ∷ p) (o ∷ v) left h e = by_test (is_of o t) e (take_all-more unknown p v left h)
  where
    by_test : (b : Bool) → (guarded b v >>= take_all false p) ≡ Some left → (take_all false p v ≡ Some left → take_all unknown p (v ++ h) ≡ Some (left ++ h))
        → (guarded b (v ++ h) >>= take_all unknown p) ≡ Some (left ++ h)
    by_test true f g = g f
    by_test false f g = absurd (cc)

pub take_all-there : (unknown : Bool) (p : Types) (v h : List Operand) → length p ≤ length v → take_all unknown p (v ++ h) ≡ (take_all false p v >>= λ left. Some (left ++ h))
take_all-there unknown [] v h e = refl
take_all-there unknown (t ∷ p) [] h e = absurd (omega arith)
take_all-there unknown (t ∷ p) (o ∷ v) h e = by_test (is_of o t) (take_all-there unknown p v h (omega arith))
  where
    by_test : (b : Bool) → take_all unknown p (v ++ h) ≡ (take_all false p v >>= λ left. Some (left ++ h))
        → (guarded b (v ++ h) >>= take_all unknown p) ≡ ((guarded b v >>= take_all false p) >>= λ left. Some (left ++ h))
    by_test true f = f
    by_test false f = refl

nothing_more : (o : Option (List Operand)) → o ≡ (o >>= λ left. Some (left ++ []))
nothing_more None = refl
nothing_more (Some x) = ap (λ (y : List Operand). Some y) (sym (append-nil x))

pub taken_there : (un unknown : Bool) (p : Types) (v h : List Operand) → AreThere un v h unknown (length p) → take_all unknown p (v ++ h) ≡ (take_all un p v >>= λ left. Some (left ++ h))
taken_there un unknown p v h (inl e) =
    ap (λ (x : List Operand). take_all unknown p (v ++ x)) e.0 ∙ ap (take_all unknown p) (append-nil v) ∙ ap (λ (b : Bool). take_all b p v) (sym e.1)
    ∙ nothing_more (take_all un p v) ∙ ap (λ (x : List Operand). take_all un p v >>= λ left. Some (left ++ x)) (sym e.0)
taken_there un unknown p v h (inr e) =
    take_all-there unknown p v h e.1 ∙ ap (λ (b : Bool). take_all b p v >>= λ left. Some (left ++ h)) (sym e.0)

same_found : (o : Option (List Operand)) (h : List Operand) → is_some (o >>= λ left. Some (left ++ h)) ≡ is_some o
same_found None h = refl
same_found (Some x) h = refl

pub found_there : (un unknown : Bool) (p : Types) (v h : List Operand) → AreThere un v h unknown (length p) → is_some (take_all un p v) ≡ is_some (take_all unknown p (v ++ h))
found_there un unknown p v h e = sym (ap is_some (taken_there un unknown p v h e) ∙ same_found (take_all un p v) h)

pub exchanged_more : (un unknown : Bool) (p g : Types) (v left h : List Operand) → IsBelow un h unknown → exchanged un p g v ≡ Some left → exchanged unknown p g (v ++ h) ≡ Some (left ++ h)
exchanged_more un unknown p g v left h (inl e) f =
    ap (λ (x : List Operand). exchanged unknown p g (v ++ x)) e.0 ∙ ap (exchanged unknown p g) (append-nil v) ∙ ap (λ (b : Bool). exchanged b p g v) (sym e.1)
    ∙ f ∙ ap (λ (x : List Operand). Some x) (sym (append-nil left)) ∙ ap (λ (x : List Operand). Some (left ++ x)) (sym e.0)
exchanged_more un unknown p g v left h (inr e) f =
    let s = through (take_all un p v) (λ left. Some (known g ++ left)) left f in
    let taken : take_all false p v ≡ Some s.value = ap (λ (b : Bool). take_all b p v) (sym e) ∙ s.is in
    ap (λ (o : Option (List Operand)). o >>= λ left. Some (known g ++ left)) (take_all-more unknown p v s.value h taken)
    ∙ ap (λ (x : List Operand). Some x) (sym (append_assoc (known g) s.value h)) ∙ ap (λ (x : List Operand). Some (x ++ h)) (some_inside (known g ++ s.value) left s.then)

pub just_there : (un unknown : Bool) (p : Types) (v h : List Operand) → AreThere un v h unknown (length p + 1) → none_left (take_all un p v) ≡ none_left (take_all unknown p (v ++ h))
just_there un unknown p v h (inl e) =
    ap (λ (b : Bool). none_left (take_all b p v)) e.1 ∙ ap (λ (x : List Operand). none_left (take_all unknown p x)) (sym (append-nil v))
    ∙ ap (λ (x : List Operand). none_left (take_all unknown p (v ++ x))) (sym e.0)
just_there un unknown p v h (inr e) =
    too_many un p v (omega (arith, e.1)) ∙ sym (too_many unknown p (v ++ h) (omega (arith, e.1, length-append v h)))

pub selected_there : (un unknown : Bool) (v h : List Operand) → AreThere un v h unknown 3 → selected_of un v ≡ selected_of unknown (v ++ h)
selected_there un unknown v h (inl e) =
    ap (λ (b : Bool). selected_of b v) e.1 ∙ ap (selected_of unknown) (sym (append-nil v)) ∙ ap (λ (x : List Operand). selected_of unknown (v ++ x)) (sym e.0)
selected_there un unknown [] h (inr e) = absurd (omega (arith, e.1))
selected_there un unknown (a ∷ []) h (inr e) = absurd (omega (arith, e.1))
selected_there un unknown (a ∷ b ∷ []) h (inr e) = absurd (omega (arith, e.1))
selected_there un unknown (a ∷ b ∷ d ∷ v) h (inr e) = refl

pub dropped_there : (un unknown : Bool) (v h : List Operand) (count : ℕ) → AreThere un v h unknown count → drop count v ++ h ≡ drop count (v ++ h)
dropped_there un unknown v h count (inl e) =
    ap (λ (x : List Operand). drop count v ++ x) e.0 ∙ append-nil (drop count v) ∙ ap (drop count) (sym (append-nil v)) ∙ ap (λ (x : List Operand). drop count (v ++ x)) (sym e.0)
dropped_there un unknown v h count (inr e) = sym (drop-append-le count v h e.1)

-- ---- the operands of a base

-- those above the base that are not seen
abbrev pub hidden : ℕ → Operands → List Operand
hidden base o = own_of (laid_out (reverse (spreads o.lists)) (take o.start o.singles.items)) base

pub base_most : (base : ℕ) (unknown : Bool) (o : Operands) → IsSeen base unknown o → base ≤ o.start + total (reverse (spreads o.lists))
base_most base unknown o s = by_case s.case
  where
    by_case : IsAll base unknown o ⊎ IsPart base o → base ≤ o.start + total (reverse (spreads o.lists))
    by_case (inl e) = omega (arith, e.0, s.kept.listed)
    by_case (inr e) = omega (arith, e.0, s.kept.listed)

pub own_seen : (base : ℕ) (unknown : Bool) (o : Operands) → IsSeen base unknown o → own_of (flat o) base ≡ own_of o.singles.items o.start ++ hidden base o
own_seen base unknown o s = own_split (reverse (spreads o.lists)) o.singles.items o.start base s.above s.within (base_most base unknown o s)

pub base_seen : (base : ℕ) (unknown : Bool) (o : Operands) → IsSeen base unknown o → base ≤ length (flat o)
base_seen base unknown o s =
    omega (arith, base_most base unknown o s, length-laid (reverse (spreads o.lists)) o.singles.items, s.within)

pub nothing_hidden : (base : ℕ) (unknown : Bool) (o : Operands) → IsSeen base unknown o → base ≡ o.start + o.listed → hidden base o ≡ []
nothing_hidden base unknown o s e =
    let under = laid_out (reverse (spreads o.lists)) (take o.start o.singles.items) in
    ap reverse (drop_all base under (omega (arith, length-under (reverse (spreads o.lists)) o.singles.items o.start s.within, s.kept.listed)))

pub is_below : (base : ℕ) (unknown : Bool) (o : Operands) → IsSeen base unknown o → IsBelow o.unknown (hidden base o) unknown
is_below base unknown o s = by_case s.case
  where
    by_case : IsAll base unknown o ⊎ IsPart base o → IsBelow o.unknown (hidden base o) unknown
    by_case (inl e) = inl (nothing_hidden base unknown o s e.0, e.1)
    by_case (inr e) = inr e.1

pub are_there : (base count : ℕ) (unknown : Bool) (o : Operands) → IsSeen base unknown o → AreShown base count o → AreThere o.unknown (own_of o.singles.items o.start) (hidden base o) unknown count
are_there base count unknown o s shown = by_case s.case shown
  where
    long : length (own_of o.singles.items o.start) ≡ length o.singles.items - o.start
    long = length-reverse (drop o.start o.singles.items) ∙ length-drop o.start o.singles.items

    by_case : IsAll base unknown o ⊎ IsPart base o → AreShown base count o → AreThere o.unknown (own_of o.singles.items o.start) (hidden base o) unknown count
    by_case (inl e) w = inl (nothing_hidden base unknown o s e.0, e.1)
    by_case (inr e) (inl w) = absurd (omega (arith, e.0))
    by_case (inr e) (inr w) = inr (e.1, omega (arith, long, w))

-- ---- the single ones above the start change

pub record IsOver (o n : Operands) : Type 0 where
  pub lists : spreads n.lists ≡ spreads o.lists
  pub listed : n.listed ≡ o.listed
  pub start : n.start ≡ o.start
  pub unknown : n.unknown ≡ o.unknown
  pub under : take o.start n.singles.items ≡ take o.start o.singles.items
  pub above : o.start ≤ length n.singles.items

-- other single ones, the same below the start
pub singles_over : (o : Operands) (singles : Vec Operand) → take o.start singles.items ≡ take o.start o.singles.items → o.start ≤ length singles.items → IsOver o (record o { singles = singles })
singles_over o singles under above = record { lists = refl; listed = refl; start = refl; unknown = refl; under = under; above = above }

-- one is put on those that are left
pub put_over : (o : Operands) (singles : Vec Operand) (left : List Operand) (t : Operand) → o.start ≤ length left → take o.start left ≡ take o.start o.singles.items → singles.items ≡ left ++ t ∷ []
    → IsOver o (record o { singles = singles })
put_over o singles left t above under is =
    singles_over o singles (ap (take o.start) is ∙ take-append-le o.start left (t ∷ []) above ∙ under) (omega (arith, ap length is, length-append left (t ∷ []), above))

stacked_at : (lists : List Spread) (m n : ℕ) → AreStacked lists m → floor_of lists ≤ n → AreStacked lists n
stacked_at [] m n s h = tt
stacked_at (l ∷ lists) m n s h = (h, s.1)

pub seen_over : (base : ℕ) (unknown : Bool) (o n : Operands) → IsSeen base unknown o → IsOver o n → IsSeen base unknown n
seen_over base unknown o n s w = record {
  kept = record {
    stacked = subst (λ (x : List Spread). AreStacked (reverse x) (length n.singles.items)) (sym w.lists)
        (stacked_at (reverse (spreads o.lists)) (length o.singles.items) (length n.singles.items) s.kept.stacked (omega (arith, s.above, w.above)));
    listed = w.listed ∙ s.kept.listed ∙ ap (λ (x : List Spread). total (reverse x)) (sym w.lists);
    few = omega (arith, s.kept.few, w.listed);
  };
  above = subst (λ (x : List Spread). floor_of (reverse x) ≤ n.start) (sym w.lists) (omega (arith, s.above, w.start));
  within = omega (arith, w.above, w.start);
  case = by_case s.case;
}
  where
    by_case : IsAll base unknown o ⊎ IsPart base o → IsAll base unknown n ⊎ IsPart base n
    by_case (inl e) = inl (omega (arith, e.0, w.listed, w.start), w.unknown ∙ e.1)
    by_case (inr e) = inr (omega (arith, e.0, w.listed, w.start), w.unknown ∙ e.1, w.start ∙ e.2 ∙ ap (λ (x : List Spread). floor_of (reverse x)) (sym w.lists))

pub hidden_over : (base : ℕ) (o n : Operands) → IsOver o n → hidden base n ≡ hidden base o
hidden_over base o n w =
    ap (λ (x : List Spread). own_of (laid_out (reverse x) (take n.start n.singles.items)) base) w.lists
    ∙ ap (λ (k : ℕ). own_of (laid_out (reverse (spreads o.lists)) (take k n.singles.items)) base) w.start
    ∙ ap (λ (x : List Operand). own_of (laid_out (reverse (spreads o.lists)) x) base) w.under

pub below_over : (base : ℕ) (unknown : Bool) (o n : Operands) → IsSeen base unknown o → IsOver o n → take base (flat n) ≡ take base (flat o)
below_over base unknown o n s w =
    let t = seen_over base unknown o n s w in
    below_split (reverse (spreads n.lists)) n.singles.items n.start base t.above t.within (base_most base unknown n t)
    ∙ ap (λ (x : List Spread). take base (laid_out (reverse x) (take n.start n.singles.items))) w.lists
    ∙ ap (λ (k : ℕ). take base (laid_out (reverse (spreads o.lists)) (take k n.singles.items))) w.start
    ∙ ap (λ (x : List Operand). take base (laid_out (reverse (spreads o.lists)) x)) w.under
    ∙ sym (below_split (reverse (spreads o.lists)) o.singles.items o.start base s.above s.within (base_most base unknown o s))

-- the own ones of the new operands
pub own_over : (base : ℕ) (unknown : Bool) (o n : Operands) → IsSeen base unknown o → IsOver o n → own_of (flat n) base ≡ own_of n.singles.items o.start ++ hidden base o
own_over base unknown o n s w =
    own_seen base unknown n (seen_over base unknown o n s w)
    ∙ ap (λ (k : ℕ). own_of n.singles.items k ++ hidden base n) w.start ∙ ap (λ (x : List Operand). own_of n.singles.items o.start ++ x) (hidden_over base o n w)

pub exchange_over : (base : ℕ) (unknown : Bool) (p g : Types) (o n : Operands) → IsSeen base unknown o → IsOver o n
    → exchanged o.unknown p g (own_of o.singles.items o.start) ≡ Some (own_of n.singles.items o.start) → exchanged unknown p g (own_of (flat o) base) ≡ Some (own_of (flat n) base)
exchange_over base unknown p g o n s w e =
    ap (exchanged unknown p g) (own_seen base unknown o s)
    ∙ exchanged_more o.unknown unknown p g (own_of o.singles.items o.start) (own_of n.singles.items o.start) (hidden base o) (is_below base unknown o s) e
    ∙ ap (λ (x : List Operand). Some x) (sym (own_over base unknown o n s w))

pub found_seen : (base : ℕ) (unknown : Bool) (p : Types) (o : Operands) → IsSeen base unknown o → AreShown base (length p) o
    → is_some (take_all o.unknown p (own_of o.singles.items o.start)) ≡ is_some (take_all unknown p (own_of (flat o) base))
found_seen base unknown p o s shown =
    found_there o.unknown unknown p (own_of o.singles.items o.start) (hidden base o) (are_there base (length p) unknown o s shown)
    ∙ ap (λ (x : List Operand). is_some (take_all unknown p x)) (sym (own_seen base unknown o s))

pub just_seen : (base : ℕ) (unknown : Bool) (p : Types) (o : Operands) → IsSeen base unknown o → AreShown base (length p + 1) o
    → none_left (take_all o.unknown p (own_of o.singles.items o.start)) ≡ none_left (take_all unknown p (own_of (flat o) base))
just_seen base unknown p o s shown =
    just_there o.unknown unknown p (own_of o.singles.items o.start) (hidden base o) (are_there base (length p + 1) unknown o s shown)
    ∙ ap (λ (x : List Operand). none_left (take_all unknown p x)) (sym (own_seen base unknown o s))

pub selected_seen : (base : ℕ) (unknown : Bool) (o : Operands) → IsSeen base unknown o → AreShown base 3 o
    → selected_of o.unknown (own_of o.singles.items o.start) ≡ selected_of unknown (own_of (flat o) base)
selected_seen base unknown o s shown =
    selected_there o.unknown unknown (own_of o.singles.items o.start) (hidden base o) (are_there base 3 unknown o s shown)
    ∙ ap (selected_of unknown) (sym (own_seen base unknown o s))

pub dropped_over : (base count : ℕ) (unknown : Bool) (o n : Operands) → IsSeen base unknown o → AreShown base count o → IsOver o n
    → own_of n.singles.items o.start ≡ drop count (own_of o.singles.items o.start) → own_of (flat n) base ≡ drop count (own_of (flat o) base)
dropped_over base count unknown o n s shown w e =
    own_over base unknown o n s w ∙ ap (λ (x : List Operand). x ++ hidden base o) e
    ∙ dropped_there o.unknown unknown (own_of o.singles.items o.start) (hidden base o) count (are_there base count unknown o s shown)
    ∙ ap (drop count) (sym (own_seen base unknown o s))

-- ---- a list is made shorter

pub kept_length : (base : ℕ) (unknown : Bool) (o : Operands) → IsSeen base unknown o → length (flat o) ≡ o.listed + length o.singles.items
kept_length base unknown o s = omega (arith, length-laid (reverse (spreads o.lists)) o.singles.items, s.kept.listed)

pub flat_length : (o : Operands) → IsKept o → length (flat o) ≡ o.listed + length o.singles.items
flat_length o k = omega (arith, length-laid (reverse (spreads o.lists)) o.singles.items, k.listed)

floor_below : (lists : List Spread) (n : ℕ) → AreStacked lists n → floor_of lists ≤ n
floor_below [] n h = omega arith
floor_below (s ∷ lists) n h = h.0

pub floor_within : (o : Operands) → IsKept o → floor_of (reverse (spreads o.lists)) ≤ length o.singles.items
floor_within o k = floor_below (reverse (spreads o.lists)) (length o.singles.items) k.stacked

-- so the topmost of some is gone, or has so many types
abbrev IsLeft : ℕ → Spread → List Spread → List Spread → Type 0
IsLeft left s rest new =
    ((left ≡ 0) × (new ≡ rest)) ⊎ ((0 < left) × ((t : Spread) × (new ≡ t ∷ rest) × (t.types.now ≡ take left s.types.now) × (t.below ≡ s.below)))

short_now : (left : ℕ) (s : Spread) (rest new : List Spread) → IsShort left (s ∷ rest) new → IsLeft left s rest new
short_now left s rest new w = by_case w.now
  where
    tops : w.top ≡ s
    tops = let f = w.is in cc

    rests : w.rest ≡ rest
    rests = let f = w.is in cc

    by_case : IsLeft left w.top w.rest new → IsLeft left s rest new
    by_case (inl f) = inl (f.0, f.1 ∙ rests)
    by_case (inr f) =
        let t = f.1.0 in
        inr (f.0, (t, f.1.1 ∙ ap (λ (x : List Spread). t ∷ x) rests, f.1.2 ∙ ap (λ (x : Spread). take left x.types.now) tops, f.1.3 ∙ ap (λ (x : Spread). x.below) tops))

-- the last types of the topmost list are single operands above it
lowered : (s : Spread) (rest new : List Spread) (singles after : List Operand) (left : ℕ) → AreStacked (s ∷ rest) (length singles)
    → after ≡ take s.below singles ++ (map Some (drop left s.types.now) ++ drop s.below singles) → IsShort left (s ∷ rest) new → laid_out new after ≡ laid_out (s ∷ rest) singles
lowered s rest new singles after left h e w = subst (λ (x : List Operand). laid_out new x ≡ laid_out (s ∷ rest) singles) (sym e) (by_case (short_now left s rest new w))
  where
    b : ℕ
    b = s.below

    types : List Operand
    types = map Some (drop left s.types.now) ++ drop b singles

    long : length (take b singles) ≡ b
    long = length-take-le b singles h.0

    front : take b (take b singles ++ types) ≡ take b singles
    front = take_at (take b singles) types b long

    back : drop b (take b singles ++ types) ≡ types
    back = drop_at (take b singles) types b long

    by_case : IsLeft left s rest new
        → laid_out new (take b singles ++ types) ≡ laid_out (s ∷ rest) singles
    by_case (inl f) =
        ap (λ (x : List Spread). laid_out x (take b singles ++ types)) f.1
        ∙ split rest (take b singles ++ types) b (floor_below rest b h.1)
        ∙ ap (λ (x : List Operand). laid_out rest x ++ drop b (take b singles ++ types)) front
        ∙ ap (λ (x : List Operand). laid_out rest (take b singles) ++ x) back
        ∙ ap (λ (n : ℕ). laid_out rest (take b singles) ++ (map Some (drop n s.types.now) ++ drop b singles)) f.0
    by_case (inr f) =
        let t = f.1.0 in
        let at : t.below ≡ b = f.1.3 in
        let its : map Some t.types.now ≡ map Some (take left s.types.now) = ap (λ (x : Types). map Some x) f.1.2 in
        ap (λ (x : List Spread). laid_out x (take b singles ++ types)) f.1.1
        ∙ ap (λ (n : ℕ). laid_out rest (take n (take b singles ++ types)) ++ (map Some t.types.now ++ drop n (take b singles ++ types))) at
        ∙ ap (λ (x : List Operand). laid_out rest x ++ (map Some t.types.now ++ drop b (take b singles ++ types))) front
        ∙ ap (λ (x : List Operand). laid_out rest (take b singles) ++ (map Some t.types.now ++ x)) back
        ∙ ap (λ (x : List Operand). laid_out rest (take b singles) ++ (x ++ types)) its
        ∙ ap (λ (x : List Operand). laid_out rest (take b singles) ++ x) (sym (append_assoc (map Some (take left s.types.now)) (map Some (drop left s.types.now)) (drop b singles)))
        ∙ ap (λ (x : List Operand). laid_out rest (take b singles) ++ (x ++ drop b singles)) (sym (map-append Some (take left s.types.now) (drop left s.types.now)) ∙ ap (λ (x : Types). map Some x) (take-append-drop left s.types.now))

-- what of the topmost list lies above a height is taken away
cut_short : (s : Spread) (rest new : List Spread) (singles : List Operand) (left height : ℕ) → AreStacked (s ∷ rest) (length singles) → left ≤ length s.types.now
    → (left ≡ 0 → height ≤ s.below + total rest) → (0 < left → height ≡ s.below + total rest + left) → IsShort left (s ∷ rest) new
    → take height (laid_out new (take s.below singles)) ≡ take height (laid_out (s ∷ rest) singles)
cut_short s rest new singles left height h few none some w = by_case (short_now left s rest new w)
  where
    b : ℕ
    b = s.below

    low : List Operand
    low = laid_out rest (take b singles)

    long : length low ≡ total rest + b
    long = length-under rest singles b h.0

    over : length (take b singles) ≡ b
    over = length-take-le b singles h.0

    by_case : IsLeft left s rest new
        → take height (laid_out new (take b singles)) ≡ take height (laid_out (s ∷ rest) singles)
    by_case (inl f) =
        ap (λ (x : List Spread). take height (laid_out x (take b singles))) f.1
        ∙ sym (take-append-le height low (map Some s.types.now ++ drop b singles) (omega (arith, long, none f.0)))
    by_case (inr f) =
        let t = f.1.0 in
        let first = map Some (take left s.types.now) in
        let last = map Some (drop left s.types.now) in
        let at : t.below ≡ b = f.1.3 in
        let its : map Some t.types.now ≡ first = ap (λ (x : Types). map Some x) f.1.2 in
        let end : drop b (take b singles) ≡ [] = drop_all b (take b singles) (omega (arith, over)) in
        let all : map Some s.types.now ++ drop b singles ≡ first ++ (last ++ drop b singles) =
        ap (λ (x : Types). map Some x ++ drop b singles) (sym (take-append-drop left s.types.now))
        ∙ ap (λ (x : List Operand). x ++ drop b singles) (map-append Some (take left s.types.now) (drop left s.types.now)) ∙ append_assoc first last (drop b singles) in
        let size : length (low ++ first) ≡ height = omega (arith, length-append low first, long, some f.0, length-map (take left s.types.now) (λ (t : ValType). Some t), length-take-le left s.types.now few) in
        ap (λ (x : List Spread). take height (laid_out x (take b singles))) f.1.1
        ∙ ap (λ (n : ℕ). take height (laid_out rest (take n (take b singles)) ++ (map Some t.types.now ++ drop n (take b singles)))) at
        ∙ ap (λ (x : List Operand). take height (laid_out rest x ++ (map Some t.types.now ++ drop b (take b singles)))) (take-take b b singles (omega arith))
        ∙ ap (λ (x : List Operand). take height (low ++ (map Some t.types.now ++ x))) end
        ∙ ap (λ (x : List Operand). take height (low ++ x)) (append-nil (map Some t.types.now) ∙ its)
        ∙ sym (take-append-le height (low ++ first) (last ++ drop b singles) (omega (arith, size)))
        ∙ ap (take height) (append_assoc low first (last ++ drop b singles)) ∙ ap (λ (x : List Operand). take height (low ++ x)) (sym all)

-- more single operands on top
pub laid_on_top : (lists : List Spread) (singles more after : List Operand) → floor_of lists ≤ length singles → after ≡ singles ++ more → laid_out lists after ≡ laid_out lists singles ++ more
laid_on_top lists singles more after h e =
    ap (laid_out lists) e ∙ split lists (singles ++ more) (length singles) h
    ∙ ap (λ (x : List Operand). laid_out lists x ++ drop (length singles) (singles ++ more)) (take_at singles more (length singles) refl)
    ∙ ap (λ (x : List Operand). laid_out lists singles ++ x) (drop_at singles more (length singles) refl)

-- so many are left where only single ones are above
pub laid_to : (lists : List Spread) (singles : List Operand) (height count : ℕ) → floor_of lists ≤ count → count ≤ length singles → height ≡ total lists + count
    → laid_out lists (take count singles) ≡ take height (laid_out lists singles)
laid_to lists singles height count h g e =
    sym (ap (take height) (split lists singles count h) ∙ take_at (laid_out lists (take count singles)) (drop count singles) height (omega (arith, length-under lists singles count g)))

pub seen_same : (base : ℕ) (unknown : Bool) (o n : Operands) → IsSeen base unknown o → AreSame o n → IsSeen base unknown n
seen_same base unknown o n s e =
    seen_over base unknown o n s
    (record {
      lists = e.1;
      listed = e.2;
      start = e.3;
      unknown = e.4;
      under = ap (take o.start) e.0;
      above = omega (arith, s.within, ap length e.0);
    })

pub flat_same : (o n : Operands) → AreSame o n → flat n ≡ flat o
flat_same o n e = ap (λ (x : List Spread). laid_out (reverse x) n.singles.items) e.1 ∙ ap (laid_out (reverse (spreads o.lists))) e.0

pub shown_same : (base count : ℕ) (o n : Operands) → AreShown base count o → AreSame o n → AreShown base count n
shown_same base count o n (inl h) e = inl (omega (arith, h, e.2, e.3))
shown_same base count o n (inr h) e = inr (omega (arith, h, e.3, ap length e.0))

-- ---- steps of a method, from those of its single operands

pub flat_again : (o n : Operands) → IsOver o n → n.singles.items ≡ o.singles.items → flat n ≡ flat o
flat_again o n w e = ap (λ (x : List Spread). laid_out (reverse x) n.singles.items) w.lists ∙ ap (laid_out (reverse (spreads o.lists))) e

pub tried_over : (base : ℕ) (unknown : Bool) (p g : Types) (o n : Operands) (result : Result (Unit {0}) Stop) → IsSeen base unknown o → IsOver o n
    → Exchanges o.unknown o.start p g result o.singles.items n.singles.items → IsTried base unknown p g result o n
tried_over base unknown p g o n (Ok done) s w e = (exchange_over base unknown p g o n s w e, below_over base unknown o n s w, seen_over base unknown o n s w)
tried_over base unknown p g o n (Err Refused) s w e = (flat_again o n w e.1, seen_over base unknown o n s w)
tried_over base unknown p g o n (Err NoMemory) s w e = (flat_again o n w e, seen_over base unknown o n s w)

-- one is taken, or there is none
pub one_taken : (base : ℕ) (unknown : Bool) (o : Operands) → IsSeen base unknown o → (length o.singles.items ≡ o.start → o.unknown ≡ true) → length (flat o) ≡ base → unknown ≡ true
one_taken base unknown o s some e = by_case s.case
  where
    by_case : IsAll base unknown o ⊎ IsPart base o → unknown ≡ true
    by_case (inl f) = sym f.1 ∙ some (omega (arith, f.0, e, kept_length base unknown o s))
    by_case (inr f) = absurd (omega (arith, f.0, e, kept_length base unknown o s, s.within))

pub none_taken : (base : ℕ) (unknown : Bool) (o : Operands) → IsSeen base unknown o → AreShown base 1 o → length o.singles.items ≡ o.start → o.unknown ≡ false
    → (length (flat o) ≡ base) × (unknown ≡ false)
none_taken base unknown o s shown e g = by_case s.case shown
  where
    by_case : IsAll base unknown o ⊎ IsPart base o → AreShown base 1 o → (length (flat o) ≡ base) × (unknown ≡ false)
    by_case (inl f) h = (omega (arith, f.0, e, kept_length base unknown o s), sym f.1 ∙ g)
    by_case (inr f) (inl h) = absurd (omega (arith, f.0, h))
    by_case (inr f) (inr h) = absurd (omega (arith, h, e))

pub put_one : (items : List Operand) (t : Operand) (start : ℕ) → start ≤ length items → own_of (items ++ t ∷ []) start ≡ t ∷ own_of items start
put_one items t start h = ap reverse (drop-append-le start items (t ∷ []) h) ∙ reverse-append (drop start items) (t ∷ [])

-- three are taken, and one is put
pub three_taken : (base : ℕ) (unknown : Bool) (o n : Operands) (t : Operand) → IsSeen base unknown o → AreShown base 3 o → IsOver o n
    → own_of n.singles.items o.start ≡ t ∷ drop 3 (own_of o.singles.items o.start) → own_of (flat n) base ≡ t ∷ drop 3 (own_of (flat o) base)
three_taken base unknown o n t s shown w e =
    own_over base unknown o n s w ∙ ap (λ (x : List Operand). x ++ hidden base o) e
    ∙ ap (λ (x : List Operand). t ∷ x) (dropped_there o.unknown unknown (own_of o.singles.items o.start) (hidden base o) 3 (are_there base 3 unknown o s shown))
    ∙ ap (λ (x : List Operand). t ∷ drop 3 x) (sym (own_seen base unknown o s))

-- ---- the last of some

pub last_first : {A : Type 0} (xs : List A) (n : ℕ) (x : A) → n ≡ length xs → 0 < n → x ≡ get_or xs (n - 1) x → reverse xs ≡ x ∷ reverse (take (n - 1) xs)
last_first xs n x e h f =
    let m : n ≡ n - 1 + 1 = omega arith in
    ap reverse (sym (take_all_of n xs (omega (arith, e)))) ∙ ap (λ (k : ℕ). reverse (take k xs)) m ∙ reverse_more xs (n - 1) x (omega (arith, e))
    ∙ ap (λ (y : _). y ∷ reverse (take (n - 1) xs)) (sym f)

pub short_none : (xs after : List Spread) (n left : ℕ) (x : Spread) → n ≡ length xs → 0 < n → x ≡ get_or xs (n - 1) x → left ≡ 0 → after ≡ take (n - 1) xs → IsShort left (reverse xs) (reverse after)
short_none xs after n left x e h f g a = record { top = x; rest = reverse (take (n - 1) xs); is = last_first xs n x e h f; now = inl (g, ap reverse a) }

pub short_some : (xs : List Spread) (n left : ℕ) (x y : Spread) → n ≡ length xs → 0 < n → x ≡ get_or xs (n - 1) x → 0 < left → y.types.now ≡ take left x.types.now → y.below ≡ x.below
    → IsShort left (reverse xs) (reverse (set xs (n - 1) y))
short_some xs n left x y e h f g a b =
    record {
      top = x;
      rest = reverse (take (n - 1) xs);
      is = last_first xs n x e h f;
      now = inr (g, (y, reverse-set_last xs n y e h ∙ ap (λ (k : ℕ). y ∷ reverse (take (k - 1) xs)) (sym e), a, b));
    }

-- ---- the topmost list, as the code has it

short_at : (left : ℕ) (all new rest : List Spread) (s : Spread) → all ≡ s ∷ rest → IsShort left all new → IsShort left (s ∷ rest) new
short_at left all new rest s e w = subst (λ (x : List Spread). IsShort left x new) e w

stacked_in : (all rest : List Spread) (s : Spread) (n : ℕ) → all ≡ s ∷ rest → AreStacked all n → AreStacked (s ∷ rest) n
stacked_in all rest s n e h = subst (λ (x : List Spread). AreStacked x n) e h

total_short : (s : Spread) (rest new : List Spread) (left : ℕ) → left ≤ length s.types.now → IsShort left (s ∷ rest) new → total new ≡ total rest + left
total_short s rest new left few w = by_case (short_now left s rest new w)
  where
    by_case : IsLeft left s rest new → total new ≡ total rest + left
    by_case (inl f) = omega (arith, ap total f.1, f.0)
    by_case (inr f) =
        omega (arith, ap total f.1.1, ap length f.1.2, length-take-le left s.types.now few)

stacked_short : (s : Spread) (rest new : List Spread) (left m n : ℕ) → AreStacked (s ∷ rest) m → s.below ≤ n → IsShort left (s ∷ rest) new → AreStacked new n
stacked_short s rest new left m n h g w = by_case (short_now left s rest new w)
  where
    by_case : IsLeft left s rest new → AreStacked new n
    by_case (inl f) =
        subst (λ (x : List Spread). AreStacked x n) (sym f.1) (stacked_at rest s.below n h.1 (omega (arith, floor_below rest s.below h.1)))
    by_case (inr f) =
        let at : f.1.0.below ≡ s.below = f.1.3 in
        subst (λ (x : List Spread). AreStacked x n) (sym f.1.1) (omega (arith, at), subst (λ (k : ℕ). AreStacked rest k) (sym at) h.1)

pub total_at : (all : List Spread) (s : Spread) (t : Topmost all s) → total all ≡ length s.types.now + total t.rest
total_at all s t = ap total t.is

pub floor_at : (all : List Spread) (s : Spread) (t : Topmost all s) → floor_of all ≡ s.below
floor_at all s t = ap floor_of t.is

pub lowered_at : (all new : List Spread) (s : Spread) (singles after : List Operand) (left : ℕ) → Topmost all s → AreStacked all (length singles)
    → after ≡ take s.below singles ++ (map Some (drop left s.types.now) ++ drop s.below singles) → IsShort left all new → laid_out new after ≡ laid_out all singles
lowered_at all new s singles after left t h e w =
    lowered s t.rest new singles after left (stacked_in all t.rest s (length singles) t.is h) e (short_at left all new t.rest s t.is w)
    ∙ ap (λ (x : List Spread). laid_out x singles) (sym t.is)

pub cut_at : (all new : List Spread) (s : Spread) (singles : List Operand) (left height : ℕ) → (t : Topmost all s) → AreStacked all (length singles) → left ≤ length s.types.now
    → (left ≡ 0 → height ≤ s.below + total t.rest) → (0 < left → height ≡ s.below + total t.rest + left) → IsShort left all new
    → take height (laid_out new (take s.below singles)) ≡ take height (laid_out all singles)
cut_at all new s singles left height t h few none some w =
    cut_short s t.rest new singles left height (stacked_in all t.rest s (length singles) t.is h) few none some (short_at left all new t.rest s t.is w)
    ∙ ap (λ (x : List Spread). take height (laid_out x singles)) (sym t.is)

pub total_after : (all new : List Spread) (s : Spread) (left : ℕ) → (t : Topmost all s) → left ≤ length s.types.now → IsShort left all new → total new ≡ total t.rest + left
total_after all new s left t few w = total_short s t.rest new left few (short_at left all new t.rest s t.is w)

pub stacked_after : (all new : List Spread) (s : Spread) (left m n : ℕ) → Topmost all s → AreStacked all m → s.below ≤ n → IsShort left all new → AreStacked new n
stacked_after all new s left m n t h g w = stacked_short s t.rest new left m n (stacked_in all t.rest s m t.is h) g (short_at left all new t.rest s t.is w)

pub some_lists : (lists : List Spread) (n height : ℕ) → n ≡ total (reverse lists) → height < floor_of (reverse lists) + n → 0 < length lists
some_lists [] n height e h = absurd (omega (arith, e, h))
some_lists (s ∷ lists) n height e h = omega arith

-- what is above the base isn't all single
pub some_seen : (base : ℕ) (unknown : Bool) (o : Operands) → IsSeen base unknown o → base < o.start + o.listed → 0 < length (spreads o.lists)
some_seen base unknown o s h = by_case s.case
  where
    by_case : IsAll base unknown o ⊎ IsPart base o → 0 < length (spreads o.lists)
    by_case (inl e) = absurd (omega (arith, e.0, h))
    by_case (inr e) = some_lists (spreads o.lists) o.listed base s.kept.listed (omega (arith, e.2, h))
