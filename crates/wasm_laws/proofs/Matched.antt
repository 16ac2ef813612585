-- What may follow in a module, by what was seen before it: bodies for its functions, and data segments for its data count.
use Rattle.std.proofs.Common.{◌≡◌, ◌≢◌, ◌≤◌, ◌<◌, ℕ, zero, suc, ◌+◌, true, false, is_some, ◌&&◌, eqb, ltb, List, [], ◌∷◌, ◌++◌, length, Option, Some, None, refl, sym, ap, subst, ◌∙◌, arith, length-append, inl, inr}
use Rattle.std.proofs.lemmas.Bool.{cases_Bool, cases_lt, eqb-true, ne_eqb, le-ltb, lt-ltb, or_from}
use Rattle.wasm_defs.specs.declared.item.Item.{Item}
use Rattle.wasm_defs.specs.declared.item.Item.TheVariants.{Function, Start, DataCount, Code}
use Rattle.wasm_defs.specs.Context.{declared_count, data_count_of, segment_count_of}
use Rattle.wasm_defs.specs.Entries.{Seen, or_zero}
use Rattle.wasm_defs.specs.Outside.{Body, agrees, entered, owes_code, owes_data, owes}
use Rattle.wasm_defs.specs.Items.{each_is, AllOf, section_of, Section, Payload, Custom, Vector, Starting, Counting, Bodies, payload_position, payload_is, section_is, payload_items, payload_bodies, items_in, bodies_in, StandsBehind, last_with, AreInOrder}
use Rattle.wasm_defs.specs.Rules.{all_noted, SectionsKeep}
use Rattle.wasm_laws.proofs.Headers.{Follows}
use Rattle.wasm_laws.proofs.Sorts.{count_cons as declared_cons}
use Rattle.wasm_laws.proofs.Lasts.{all_noted_last, sections_keep_last, all_last, all_declared, all_counted}
use Rattle.wasm_laws.proofs.DataCounts.{all_front, all_back, count_cons, segments_cons, all_noted_count, counts_skip, segments_skip, segments_all, count_with, with_same, with_none, AreToldOf, told_same, agrees_same}
use Rattle.wasm_laws.proofs.SpeltRows.{IsCounted}

-- ---- what follows a section

count_append : (xs ys : List Item) → declared_count (xs ++ ys) ≡ declared_count xs + declared_count ys
count_append [] ys = omega arith
count_append (x ∷ xs) ys = omega (arith, count_append xs ys, declared_cons x xs, declared_cons x (xs ++ ys))

one_undeclared : (id : ℕ) (x : Item) → section_of x ≡ id → id ≢ 3 → declared_count (x ∷ []) ≡ 0
one_undeclared id (Function type_index) e other = absurd (other (sym e))
one_undeclared id x e other = refl

undeclared : (id : ℕ) (xs : List Item) → AllOf id xs → id ≢ 3 → declared_count xs ≡ 0
undeclared id [] a other = refl
undeclared id (x ∷ xs) a other = omega (arith, one_undeclared id x a.0 other, undeclared id xs a.1 other, declared_cons x xs)

-- no bodies follow the code section, and no functions after theirs
late_bodies : (last : ℕ) (xs : List Section) → AreInOrder last xs → 11 ≤ last → bodies_in xs ≡ []
late_bodies last [] o late = refl
late_bodies last (x ∷ xs) o late = of_payload x.payload o.0 o.1 (λ l rest late. late_bodies l xs rest late)
  where
    of_payload : (p : Payload) → StandsBehind last p → AreInOrder (last_with last p) xs → ((l : ℕ) → AreInOrder l xs → 11 ≤ l → bodies_in xs ≡ []) → payload_bodies p ++ bodies_in xs ≡ []
    of_payload (Custom name) b rest h = h last rest late
    of_payload (Vector id count items) b rest h = h id rest (omega arith)
    of_payload p b rest h = absurd (omega (arith, b))

late_functions : (last at : ℕ) (bytes : List ℕ) (xs : List Section) → each_is section_is xs at bytes → AreInOrder last xs → 3 ≤ last → declared_count (items_in xs) ≡ 0
late_functions last at bytes [] s o late = refl
late_functions last at bytes (x ∷ xs) s o late =
    let sized = s.first.second in
    of_payload x.payload (at + length s.first.front + length sized.front) sized.content sized.is o.0 o.1 (λ l rest late. late_functions l (at + length s.front) s.back xs s.second rest late)
  where
    of_payload : (p : Payload) (at : ℕ) (content : List ℕ) → payload_is p at content → StandsBehind last p → AreInOrder (last_with last p) xs → ((l : ℕ) → AreInOrder l xs → 3 ≤ l → declared_count (items_in xs) ≡ 0) → declared_count (payload_items p ++ items_in xs) ≡ 0
    of_payload (Custom name) at content s b rest h = h last rest late
    of_payload (Vector id count items) at content s b rest h = omega (arith, count_append items (items_in xs), undeclared id items s.1 (λ e. omega arith), h id rest (omega arith))
    of_payload (Starting index) at content s b rest h = h 8 rest (omega arith)
    of_payload (Counting count) at content s b rest h = h 10 rest (omega arith)
    of_payload (Bodies count end bodies) at content s b rest h = h 11 rest (omega arith)

-- no data count follows its section, and no segments theirs
late_counts : (last at : ℕ) (bytes : List ℕ) (xs : List Section) → each_is section_is xs at bytes → AreInOrder last xs → 10 ≤ last → data_count_of (items_in xs) ≡ None
late_counts last at bytes [] s o late = refl
late_counts last at bytes (x ∷ xs) s o late =
    let sized = s.first.second in
    of_payload x.payload (at + length s.first.front + length sized.front) sized.content sized.is o.0 o.1 (λ l rest late. late_counts l (at + length s.front) s.back xs s.second rest late)
  where
    of_payload : (p : Payload) (at : ℕ) (content : List ℕ) → payload_is p at content → StandsBehind last p → AreInOrder (last_with last p) xs → ((l : ℕ) → AreInOrder l xs → 10 ≤ l → data_count_of (items_in xs) ≡ None) → data_count_of (payload_items p ++ items_in xs) ≡ None
    of_payload (Custom name) at content s b rest h = h last rest late
    of_payload (Vector id count items) at content s b rest h = counts_skip id items (items_in xs) (λ e. omega arith) s.1 ∙ h id rest (omega arith)
    of_payload (Bodies count end bodies) at content s b rest h = h 11 rest (omega arith)
    of_payload p at content s b rest h = absurd (omega (arith, b))

late_segments : (last at : ℕ) (bytes : List ℕ) (xs : List Section) → each_is section_is xs at bytes → AreInOrder last xs → 12 ≤ last → segment_count_of (items_in xs) ≡ 0
late_segments last at bytes [] s o late = refl
late_segments last at bytes (x ∷ xs) s o late =
    let sized = s.first.second in
    of_payload x.payload (at + length s.first.front + length sized.front) sized.content sized.is o.0 o.1 (λ l rest late. late_segments l (at + length s.front) s.back xs s.second rest late)
  where
    of_payload : (p : Payload) (at : ℕ) (content : List ℕ) → payload_is p at content → StandsBehind last p → AreInOrder (last_with last p) xs → ((l : ℕ) → AreInOrder l xs → 12 ≤ l → segment_count_of (items_in xs) ≡ 0) → segment_count_of (payload_items p ++ items_in xs) ≡ 0
    of_payload (Custom name) at content s b rest h = h last rest late
    of_payload (Vector id count items) at content s b rest h = absurd (omega (arith, b, s.0.1))
    of_payload p at content s b rest h = absurd (omega (arith, b))

-- ---- before and after a section

-- these items and bodies may follow what was seen: there is a body for each declared function, unless the code section came; the
-- data segments are as many as the data count says, unless their section came; and bodies say whether there is a data count
pub record Matched (seen : Seen) (items : List Item) (bodies : List Body) : Type 0 where
  pub uncounted : seen.last < 11 → seen.counted ≡ false
  pub same : seen.last < 11 → seen.declared + declared_count items ≡ length bodies
  pub count : seen.last < 10 → seen.data_count ≡ None
  pub segments : seen.last < 12 → agrees (count_with seen.data_count items) (segment_count_of items) ≡ true
  pub told : AreToldOf (count_with seen.data_count items) bodies

owes_no_code : (seen : Seen) → (seen.last < 11 → seen.declared ≡ 0) → owes_code seen ≡ false
owes_no_code seen h =
    elim (cases_lt seen.last 11) [
      | inl early ↦ rw (h early) refl
      | inr late ↦ elim (cases_Bool (ltb 0 seen.declared)) [ inl some ↦ rw (some, le-ltb seen.last 11 late) refl | inr none ↦ rw none refl ]
    ]

owes_no_data : (count : Option ℕ) (last : ℕ) → (last < 12 → agrees (count_with count []) 0 ≡ true) → (ltb 0 (or_zero count) && ltb last 12) ≡ false
owes_no_data None last h = refl
owes_no_data (Some zero) last h = refl
owes_no_data (Some (suc n)) last h =
    elim (cases_lt last 12) [
      | inl early ↦ absurd (let t : eqb 0 (suc n) ≡ true = h early in omega (arith, eqb-true 0 (suc n) t))
      | inr late ↦ rw (lt-ltb 0 (suc n) (omega arith), le-ltb last 12 late) refl
    ]

-- at the end
pub owes_nothing : (seen : Seen) → Matched seen [] [] → owes seen ≡ false
owes_nothing seen m = or_from (owes_code seen) (owes_data seen) (owes_no_code seen (λ early. omega (arith, m.same early))) (owes_no_data seen.data_count seen.last m.segments)

-- what is seen after a section
abbrev pub after : Seen → Payload → Seen
after seen p = all_noted (entered seen (payload_position p)) (payload_items p)

pub after_last : (seen : Seen) (p : Payload) (at : ℕ) (content : List ℕ) → payload_is p at content → (after seen p).last ≡ last_with seen.last p
after_last seen (Custom name) at content s = refl
after_last seen (Vector id count items) at content s =
    let some : id ≢ 0 = λ e. omega (arith, s.0.0) in
    all_last (entered seen id) items ∙ rw (ne_eqb id 0 some) refl
after_last seen p at content s = refl

pub after_keeps : (seen : Seen) (p : Payload) (at : ℕ) (content : List ℕ) (xs : List Section) → payload_is p at content → SectionsKeep (all_noted seen (payload_items p)) xs → SectionsKeep (after seen p) xs
after_keeps seen (Custom name) at content xs s k = k
after_keeps seen (Vector id count items) at content xs s k =
    let some : id ≢ 0 = λ e. omega (arith, s.0.0) in
    let same : entered seen id ≡ record seen { last = id } = rw (ne_eqb id 0 some) refl in
    subst (λ (t : Seen). SectionsKeep (all_noted t items) xs) (sym same) (subst (λ (t : Seen). SectionsKeep t xs) (sym (all_noted_last seen id items)) (sections_keep_last (all_noted seen items) id xs k))
after_keeps seen (Starting index) at content xs s k = sections_keep_last seen 8 xs k
after_keeps seen (Counting count) at content xs s k = sections_keep_last (record seen { data_count = Some count.1 }) 10 xs k
after_keeps seen (Bodies count end bodies) at content xs s k = sections_keep_last (record seen { counted = true }) 11 xs k

-- an item of a section of its own, which is neither a data count nor a segment
match_item : (seen : Seen) (x : Item) (items : List Item) → section_of x ≢ 10 → section_of x ≢ 12 → (seen.last < 12 → agrees (count_with seen.data_count (x ∷ items)) (segment_count_of (x ∷ items)) ≡ true)
    → seen.last < 12 → agrees (count_with seen.data_count items) (segment_count_of items) ≡ true
match_item seen x items no_count no_segment h lt = agrees_same _ _ _ _ (with_same seen.data_count (x ∷ items) items (count_cons x items no_count)) (segments_cons x items no_segment) (h lt)

pub match_after : (seen : Seen) (p : Payload) (at : ℕ) (content : List ℕ) (items : List Item) (bodies : List Body) → payload_is p at content → StandsBehind seen.last p → Matched seen (payload_items p ++ items) (payload_bodies p ++ bodies) → Matched (after seen p) items bodies
match_after seen (Custom name) at content items bodies s b m = m
match_after seen (Vector id count listed) at content items bodies s b m =
    let t : Seen = record seen { last = id } in
    let same : entered seen id ≡ t = rw (ne_eqb id 0 (λ e. omega (arith, s.0.0))) refl in
    let last = all_last t listed in
    let noted : (all_noted t listed).data_count ≡ seen.data_count = all_noted_count id t listed s.0.4 s.1 in
    let count : count_with seen.data_count (listed ++ items) ≡ count_with (all_noted t listed).data_count items =
    with_same seen.data_count (listed ++ items) items (counts_skip id listed items s.0.4 s.1) ∙ ap (λ (c : Option ℕ). count_with c items) (sym noted) in
    subst (λ (u : Seen). Matched (all_noted u listed) items bodies) (sym same) (record {
      uncounted = λ lt. all_counted id t listed s.0.3 s.1 ∙ m.uncounted (omega arith);
      same = λ lt. omega (arith, all_declared t listed, count_append listed items, m.same (omega arith));
      count = λ lt. noted ∙ m.count (omega arith);
      segments = λ lt. agrees_same _ _ _ _ count (segments_skip id listed items (λ e. omega arith) s.1) (m.segments (omega arith));
      told = told_same _ _ bodies count m.told;
    })
match_after seen (Starting index) at content items bodies s b m = record {
  uncounted = λ lt. m.uncounted (omega arith);
  same = λ lt. m.same (omega arith);
  count = λ lt. m.count (omega arith);
  segments = λ lt. match_item seen (Start index) items (λ e. omega arith) (λ e. omega arith) m.segments (omega arith);
  told = told_same _ _ bodies (with_same seen.data_count (Start index ∷ items) items refl) m.told;
}
match_after seen (Counting count) at content items bodies s b m =
    let known = m.count b in
    let found : count_with seen.data_count (DataCount count ∷ items) ≡ Some count.1 = ap (λ (c : Option ℕ). count_with c (DataCount count ∷ items)) known in
    record {
      uncounted = λ lt. m.uncounted (omega arith);
      same = λ lt. m.same (omega arith);
      count = λ lt. absurd (omega arith);
      segments = λ lt. agrees_same _ _ (segment_count_of items) _ found refl (m.segments (omega arith));
      told = told_same _ _ bodies found m.told;
    }
match_after seen (Bodies count end listed) at content items bodies s b m = record {
  uncounted = λ lt. absurd (omega arith);
  same = λ lt. absurd (omega arith);
  count = λ lt. absurd (omega arith);
  segments = λ lt. match_item seen (Code (count, length listed) end) items (λ e. omega arith) (λ e. omega arith) m.segments (omega arith);
  told = told_same _ _ bodies (with_same seen.data_count (Code (count, length listed) end ∷ items) items refl) (all_back (λ b. b.counted ≡ is_some (count_with seen.data_count (Code (count, length listed) end ∷ items))) listed bodies m.told);
}

pub follows_from : (seen : Seen) (p : Payload) (at : ℕ) (content : List ℕ) (xs : List Section) → payload_is p at content → StandsBehind seen.last p → AreInOrder (last_with seen.last p) xs → Matched seen (payload_items p ++ items_in xs) (payload_bodies p ++ bodies_in xs) → Follows seen (payload_position p)
follows_from seen (Custom name) at content xs s b o m = record { known = omega arith; later = λ some. absurd (some refl); owed = λ e. absurd (omega arith) }
follows_from seen (Vector id count items) at content xs s b o m = record {
  known = omega (arith, s.0.1);
  later = λ some. b;
  owed = λ e. owes_no_code seen (λ early. omega (arith, m.same early, ap length (late_bodies id xs o (omega arith))));
}
follows_from seen p at content xs s b o m = record { known = omega arith; later = λ some. b; owed = λ e. absurd (omega (arith, e)) }

-- ---- what is in a section is read

-- data segments are as many as the data count says, and the code section's bodies are those of the declared functions, and say
-- whether there is a data count
abbrev pub IsExpected : Seen → Payload → Type 0
IsExpected seen (Vector id count items) = IsCounted id seen (length items)
IsExpected seen (Bodies count end bodies) = (seen.counted ≡ false) × (length bodies ≡ seen.declared) × AreToldOf seen.data_count bodies
IsExpected seen p = Unit {0}

pub is_expected : (seen : Seen) (p : Payload) (at after : ℕ) (content bytes : List ℕ) (xs : List Section) → payload_is p at content → each_is section_is xs after bytes → StandsBehind seen.last p → AreInOrder (last_with seen.last p) xs
    → Matched seen (payload_items p ++ items_in xs) (payload_bodies p ++ bodies_in xs) → IsExpected seen p
is_expected seen (Custom name) at after content bytes xs held s b o m = tt
is_expected seen (Vector id count items) at after content bytes xs held s b o m = λ is.
    let none = counts_skip id items (items_in xs) held.0.4 held.1 ∙ late_counts id after bytes xs s o (omega arith) in
    let many : segment_count_of (items ++ items_in xs) ≡ length items = omega (arith, segments_all id items (items_in xs) is held.1, late_segments id after bytes xs s o (omega arith)) in
    agrees_same _ _ _ _ (with_none seen.data_count (items ++ items_in xs) none) many (m.segments (omega (arith, b)))
is_expected seen (Starting index) at after content bytes xs held s b o m = tt
is_expected seen (Counting count) at after content bytes xs held s b o m = tt
is_expected seen (Bodies count end bodies) at after content bytes xs held s b o m =
    let known = count_with seen.data_count (Code (count, length bodies) end ∷ items_in xs) in
    let none : data_count_of (Code (count, length bodies) end ∷ items_in xs) ≡ None = late_counts 11 after bytes xs s o (omega arith) in (
      m.uncounted b,
      omega (arith, m.same b, late_functions 11 after bytes xs s o (omega arith), ap length (late_bodies 11 xs o (omega arith)), length-append bodies (bodies_in xs)),
      told_same known seen.data_count bodies (with_none seen.data_count (Code (count, length bodies) end ∷ items_in xs) none) (all_front (λ b. b.counted ≡ is_some known) bodies (bodies_in xs) m.told),
    )
