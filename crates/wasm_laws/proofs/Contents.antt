-- What is in the sections of a whole run: it is encoded, keeps the rules, and comes to the run's parts.
use Rattle.std.proofs.Common.{◌≡◌, ◌≢◌, ◌≤◌, ◌<◌, ℕ, zero, suc, true, false, List, [], ◌∷◌, ◌++◌, length, map, refl, sym, ap, subst, ◌∙◌, append_assoc, add-one, arith, inl, inr, is_some}
use Rattle.std.specs.List.{All}
use Rattle.std.proofs.lemmas.Bool.{cases_Bool, cases_eq, ne_eqb}
use Rattle.std.proofs.lemmas.List.Elements.{All-nil, All-cons}
use Rattle.wasm_defs.specs.declared.item.Item.{Item}
use Rattle.wasm_defs.specs.declared.item.Item.TheVariants.{Start, DataCount, Code}
use Rattle.wasm_defs.specs.Limits.{max_module, max_entries, max_body}
use Rattle.wasm_defs.specs.Fields.{Cursor, Reader, room_of}
use Rattle.wasm_defs.specs.Entries.{Seen, note, code, data_count, start}
use Rattle.wasm_defs.specs.Outside as outside
use Rattle.wasm_defs.specs.Outside.{Body, Part, Listed, Coded, listed, body, custom_name, code_entry, Row, entries_of, row, position_of, header, entered, noted, inside, no_end, section_end, after_part, Next, finish, entries, contents, section, owes, at_the_end, or_section, sections_up_to}
use Rattle.wasm_defs.specs.Items.{Spelling, exactly, each_is, u32_is, body_is, listed_index_is, item_is, section_of, AllOf, Payload, Custom, Vector, Starting, Counting, Bodies, HoldsVector, payload_position, payload_is, payload_items}
use Rattle.wasm_defs.specs.Rules.{AllKeep, all_noted, IsSmall}
use Rattle.wasm_laws.specs.Sections.{parts_of}
use Rattle.wasm_laws.proofs.Steady.{IfGot}
use Rattle.wasm_laws.proofs.Parts.{then_got, got_both, either_got}
use Rattle.wasm_laws.proofs.Headers.{Follows, header_tells}
use Rattle.wasm_laws.proofs.Spelt.{Ready, Found, found_nothing, found_then, found_alone, found_here, later}
use Rattle.wasm_laws.proofs.SpeltItems.{SpeltEntry, Belongs}
use Rattle.wasm_laws.proofs.SpeltRows.{IsFew, IsCounted, VectorRow, vector_row, StartFound, start_found, CountFound, data_count_found, CustomFound, custom_found, anything, rest_found, CodeFound, code_found, BodyFound, body_found}
use Rattle.wasm_laws.proofs.RowLaws.{end_steady}
use Rattle.wasm_laws.proofs.Sorts.{notes}
use Rattle.wasm_laws.proofs.Lasts.{note_counted}
use Rattle.wasm_laws.proofs.Describing.{IfWhole, whole_on, whole_as, Rest, Between, Describes, HeaderFound, header_found, Content, content_rest}

-- ---- where a section ends

abbrev Uncounted : Seen → Type 0
Uncounted seen = seen.last < 11 → seen.counted ≡ false

-- what follows the entries, and takes all bytes of the section
record Finished (t : Spelling) (seen : Seen) (c : Cursor) (parts : List Part) : Type 0 where
  stop : Cursor
  found : Found t (Unit {0}) c stop
  over : room_of stop ≡ 0
  rest : Rest seen (inside stop no_end) parts

finish_found : (r : Row) (t : Spelling) → ((c : Cursor) → Ready c → IfGot (λ x d. Found t (Unit {0}) c d) (r.back c)) → (next : Next) → Describes next → (seen : Seen) (c : Cursor) → Ready c → c.end ≤ max_module → Uncounted seen → IfWhole (Finished t seen c) (finish r next seen c)
finish_found r t back next describes seen c ready short uncounted =
    whole_on (λ x d. Found t (Unit {0}) c d) (Finished t seen c) (r.back c) _ (back c ready)
    (λ x d found.
    whole_on (λ y e. (room_of d ≡ 0) × (e ≡ inside d no_end)) (Finished t seen c) (section_end d) _ (end_steady.leaves d)
    (λ y e left.
    let ready_behind = later c d found ready in
    let low : d.at ≤ max_module = omega (arith, ready_behind.low, found.end) in
    let between : Between seen (inside d no_end) = record { ready = record { low = omega arith; bytes = ready_behind.bytes }; low = low; far = refl; uncounted = uncounted } in
    subst (λ (z : Cursor). IfWhole (Finished t seen c) (next seen z)) (sym left.1)
    (whole_as (Rest seen (inside d no_end)) (Finished t seen c) (next seen (inside d no_end)) (λ parts rest. record { stop = d; found = found; over = left.0; rest = rest }) (describes seen (inside d no_end) between))))

nothing_found : (c : Cursor) → Ready c → IfGot (λ x d. Found (exactly []) (Unit {0}) c d) (outside.nothing_more c)
nothing_found c ready = found_nothing c (Unit {0}) ready tt

-- ---- vectors of items

-- so many items, which take all bytes of the section
record Listing (id n : ℕ) (seen : Seen) (c : Cursor) (parts : List Part) : Type 0 where
  items : List Item
  stop : Cursor
  found : Found (each_is item_is items) (Unit {0}) c stop
  count : length items ≡ n
  kept : AllKeep seen items
  all : AllOf id items
  tail : List Part
  is : parts ≡ map Listed items ++ tail
  over : room_of stop ≡ 0
  rest : Rest (all_noted seen items) (inside stop no_end) tail

no_items : (id : ℕ) (seen : Seen) (c : Cursor) (parts : List Part) → Finished (exactly []) seen c parts → Listing id 0 seen c parts
no_items id seen c parts x = record { items = []; stop = x.stop; found = x.found; count = refl; kept = tt; all = tt; tail = parts; is = refl; over = x.over; rest = x.rest }

more_items : (id n : ℕ) (seen : Seen) (c d : Cursor) (x : Item) (parts : List Part) → Found (item_is x) (Belongs id seen x) c d → Listing id n (note seen x) d parts → Listing id (suc n) seen c (Listed x ∷ parts)
more_items id n seen c d x parts found l = record {
  items = x ∷ l.items;
  stop = l.stop;
  found = found_then (Unit {0}) c d l.stop found l.found tt;
  count = ap suc l.count;
  kept = (found.kept.0, l.kept);
  all = (found.kept.1, l.all);
  tail = l.tail;
  is = ap (λ (k : List Part). Listed x ∷ k) l.is;
  over = l.over;
  rest = l.rest;
}

record ItemFound (id : ℕ) (seen : Seen) (c d : Cursor) (y : Part) : Type 0 where
  item : Item
  is : y ≡ Listed item
  found : Found (item_is item) (Belongs id seen item) c d

item_found : (id : ℕ) (entry : Seen → Reader Item) → SpeltEntry id entry → (seen : Seen) (c : Cursor) → Ready c → IfGot (λ y d. ItemFound id seen c d y) (listed (entry seen) c)
item_found id entry h seen c ready =
    then_got (λ x d. Found (item_is x) (Belongs id seen x) c d) (λ y d. ItemFound id seen c d y) (entry seen c) _ ((h seen).sound c ready) (λ x d found. record { item = x; is = refl; found = found })

module _ (id : ℕ) (other : id ≢ 11) (r : VectorRow id) (next : Next) (describes : Describes next) where
  one_counts : (seen : Seen) (x : Item) → section_of x ≡ id → Uncounted seen → Uncounted (note seen x)
  one_counts seen x e h lt = note_counted seen x (λ k. other (sym e ∙ k)) ∙ h (omega (arith, (notes seen x).last))

  items_found : (n : ℕ) (seen : Seen) (c : Cursor) → Ready c → c.end ≤ max_module → Uncounted seen → IfWhole (Listing id n seen c) (entries n (entries_of r.front r.entry) next seen c)
  items_found zero seen c ready short uncounted =
      whole_as (Finished (exactly []) seen c) (Listing id 0 seen c) (finish (entries_of r.front r.entry) next seen c) (λ parts x. no_items id seen c parts x)
      (finish_found (entries_of r.front r.entry) (exactly []) nothing_found next describes seen c ready short uncounted)
  items_found (suc n) seen c ready short uncounted =
      whole_on (λ y d. ItemFound id seen c d y) (Listing id (suc n) seen c) (listed (r.entry seen) c) _ (item_found id r.entry r.spelt seen c ready)
      (λ y d x.
      subst (λ (z : Part). IfWhole (Listing id (suc n) seen c) (after_part z (entries n (entries_of r.front r.entry) next (noted seen z) d))) (sym x.is)
      (one_more seen c d x.item x.found (items_found n (note seen x.item) d (later c d x.found ready) (omega (arith, x.found.end)) (one_counts seen x.item x.found.kept.1 uncounted))))
    where
      one_more : (seen : Seen) (c d : Cursor) (x : Item) → Found (item_is x) (Belongs id seen x) c d → IfWhole (Listing id n (note seen x) d) (entries n (entries_of r.front r.entry) next (note seen x) d) → IfWhole (Listing id (suc n) seen c) (after_part (Listed x) (entries n (entries_of r.front r.entry) next (note seen x) d))
      one_more seen c d x found h s e = more_items id n seen c d x _ found (h s e)

  vector_found : HoldsVector id → (seen : Seen) (c : Cursor) → Ready c → c.end ≤ max_module → Uncounted seen → IfWhole (Content seen id c) (contents (entries_of r.front r.entry) next seen c)
  vector_found holds seen c ready short uncounted =
      whole_on (λ n d. Found (listed_index_is n) (IsFew id seen n × IsCounted id seen n) c d) (Content seen id c) (r.front seen c) _ ((r.few seen).sound c ready)
      (λ n d found.
      whole_as (Listing id n seen d) (Content seen id c) (entries n (entries_of r.front r.entry) next seen d) (λ parts l. content n d found parts l)
      (items_found n seen d (later c d found ready) (omega (arith, found.end)) uncounted))
    where
      content : (n : ℕ) (d : Cursor) → Found (listed_index_is n) (IsFew id seen n × IsCounted id seen n) c d → (parts : List Part) → Listing id n seen d parts → Content seen id c parts
      content n d found parts l =
          let count = found_here (u32_is (c.at, length l.items)) (Unit {0}) c d found (refl, subst (λ (k : ℕ). listed_index_is k c.at found.taken) (sym l.count) found.spelled) tt in
          let vector = found_then (Unit {0}) c d l.stop count l.found tt in
          record {
            payload = Vector id c.at l.items;
            stop = l.stop;
            found = found_here (payload_is (Vector id c.at l.items)) (Unit {0}) c l.stop vector (holds, l.all, vector.spelled) tt;
            over = l.over;
            id_is = refl;
            small = subst (λ (k : ℕ). IsFew id seen k) (sym l.count) found.kept.0;
            kept = l.kept;
            tail = l.tail;
            is = l.is;
            rest = l.rest;
          }

-- ---- custom sections

custom_content : (next : Next) → Describes next → (seen : Seen) (c : Cursor) → Ready c → c.end ≤ max_module → Uncounted seen → IfWhole (Content seen 0 c) (contents (row 0) next seen c)
custom_content next describes seen c ready short uncounted =
    whole_on (λ n d. CustomFound c d n) (Content seen 0 c) (custom_name c) _ (custom_found c ready)
    (λ n d x.
    subst (λ (k : ℕ). IfWhole (Content seen 0 c) (entries k (row 0) next seen d)) (sym x.is)
    (whole_as (Finished anything seen d) (Content seen 0 c) (finish (row 0) next seen d) (λ parts f. content d n x parts f)
    (finish_found (row 0) anything rest_found next describes seen d (later c d x.found ready) (omega (arith, x.found.end)) uncounted)))
  where
    content : (d : Cursor) (n : ℕ) → CustomFound c d n → (parts : List Part) → Finished anything seen d parts → Content seen 0 c parts
    content d n x parts f = record {
      payload = Custom x.name;
      stop = f.stop;
      found = found_then (Unit {0}) c d f.stop x.found f.found tt;
      over = f.over;
      id_is = refl;
      small = x.found.kept;
      kept = tt;
      tail = parts;
      is = refl;
      rest = f.rest;
    }

-- ---- the start function, and the data count

-- a section of one item, with nothing behind it
one_content : (id : ℕ) → ((c : Cursor) → Ready c → IfGot (λ x d. Found (exactly []) (Unit {0}) c d) ((row id).back c)) → (payload : Payload) (item : Item) (K : Type 0) (next : Next) → Describes next
    → (seen : Seen) (c d : Cursor) → Ready c → c.end ≤ max_module → Uncounted (note seen item) → Found (payload_is payload) K c d
    → payload_position payload ≡ id → IsSmall seen payload → AllKeep seen (payload_items payload) → parts_of payload ≡ Listed item ∷ [] → all_noted seen (payload_items payload) ≡ note seen item
    → IfWhole (Content seen id c) (after_part (Listed item) (finish (row id) next (note seen item) d))
one_content id back payload item K next describes seen c d ready short uncounted found id_is small kept parts after s e =
    let f = finish_found (row id) (exactly []) back next describes (note seen item) d (later c d found ready) (omega (arith, found.end)) uncounted s e in
    let tail = (finish (row id) next (note seen item) d).parts in
    record {
      payload = payload;
      stop = f.stop;
      found = found_alone (Unit {0}) c d f.stop found f.found tt;
      over = f.over;
      id_is = id_is;
      small = small;
      kept = kept;
      tail = tail;
      is = ap (λ (parts : List Part). parts ++ tail) (sym parts);
      rest = subst (λ (x : Seen). Rest x (inside f.stop no_end) tail) (sym after) f.rest;
    }

start_content : (next : Next) → Describes next → (seen : Seen) (c : Cursor) → Ready c → c.end ≤ max_module → Uncounted seen → IfWhole (Content seen 8 c) (contents (row 8) next seen c)
start_content next describes seen c ready short uncounted =
    whole_on (λ y d. StartFound seen c d y) (Content seen 8 c) (listed (start seen) c) _ (start_found seen c ready)
    (λ y d x.
    subst (λ (z : Part). IfWhole (Content seen 8 c) (after_part z (finish (row 8) next (noted seen z) d))) (sym x.is)
    (one_content 8 nothing_found (Starting x.index) (Start x.index) (x.index.1 < seen.functions) next describes seen c d ready short uncounted x.found refl tt (x.found.kept, tt) refl refl))

count_content : (next : Next) → Describes next → (seen : Seen) (c : Cursor) → Ready c → c.end ≤ max_module → Uncounted seen → IfWhole (Content seen 10 c) (contents (row 10) next seen c)
count_content next describes seen c ready short uncounted =
    whole_on (λ y d. CountFound c d y) (Content seen 10 c) (listed (data_count seen) c) _ (data_count_found seen c ready)
    (λ y d x.
    subst (λ (z : Part). IfWhole (Content seen 10 c) (after_part z (finish (row 10) next (noted seen z) d))) (sym x.is)
    (one_content 10 nothing_found (Counting x.number) (DataCount x.number) (x.number.1 ≤ max_entries) next describes seen c d ready short uncounted x.found refl tt (x.found.kept, tt) refl refl))

-- ---- the code section

-- so many bodies, which take all bytes of the section
record Coding (n : ℕ) (seen : Seen) (c : Cursor) (parts : List Part) : Type 0 where
  bodies : List Body
  stop : Cursor
  found : Found (each_is body_is bodies) (Unit {0}) c stop
  count : length bodies ≡ n
  small : All (λ b. length b.bytes ≤ max_body) bodies
  tail : List Part
  is : parts ≡ map Coded bodies ++ tail
  over : room_of stop ≡ 0
  rest : Rest seen (inside stop no_end) tail

no_bodies : (seen : Seen) (c : Cursor) (parts : List Part) → Finished (exactly []) seen c parts → Coding 0 seen c parts
no_bodies seen c parts x = record { bodies = []; stop = x.stop; found = x.found; count = refl; small = All-nil (λ b. length b.bytes ≤ max_body); tail = parts; is = refl; over = x.over; rest = x.rest }

more_bodies : (n : ℕ) (seen : Seen) (c d : Cursor) (b : Body) (parts : List Part) → Found (body_is b) (length b.bytes ≤ max_body) c d → Coding n seen d parts → Coding (suc n) seen c (Coded b ∷ parts)
more_bodies n seen c d b parts found l = record {
  bodies = b ∷ l.bodies;
  stop = l.stop;
  found = found_then (Unit {0}) c d l.stop found l.found tt;
  count = ap suc l.count;
  small = All-cons (λ b. length b.bytes ≤ max_body) b l.bodies found.kept l.small;
  tail = l.tail;
  is = ap (λ (k : List Part). Coded b ∷ k) l.is;
  over = l.over;
  rest = l.rest;
}

module _ (next : Next) (describes : Describes next) where
  bodies_found : (n : ℕ) (seen : Seen) (c : Cursor) → Ready c → c.end ≤ max_module → seen.last ≡ 11 → seen.counted ≡ true → IfWhole (Coding n seen c) (entries n (row 11) next seen c)
  bodies_found zero seen c ready short last counted =
      whole_as (Finished (exactly []) seen c) (Coding 0 seen c) (finish (row 11) next seen c) (λ parts x. no_bodies seen c parts x)
      (finish_found (row 11) (exactly []) nothing_found next describes seen c ready short (λ lt. absurd (omega arith)))
  bodies_found (suc n) seen c ready short last counted =
      whole_on (λ y d. BodyFound (is_some seen.data_count) c d y) (Coding (suc n) seen c) (code_entry seen c) _ (either_got (λ y d. BodyFound (is_some seen.data_count) c d y) seen.counted (body (is_some seen.data_count)) (listed (code seen)) c (λ e. body_found (is_some seen.data_count) c ready) (λ e. absurd cc))
      (λ y d x.
      subst (λ (z : Part). IfWhole (Coding (suc n) seen c) (after_part z (entries n (row 11) next (noted seen z) d))) (sym x.is)
      (one_more d x.«body» x.found (bodies_found n seen d (later c d x.found ready) (omega (arith, x.found.end)) last counted)))
    where
      one_more : (d : Cursor) (b : Body) → Found (body_is b) (length b.bytes ≤ max_body) c d → IfWhole (Coding n seen d) (entries n (row 11) next seen d) → IfWhole (Coding (suc n) seen c) (after_part (Coded b) (entries n (row 11) next seen d))
      one_more d b found h s e = more_bodies n seen c d b _ found (h s e)

  code_content : (seen : Seen) (c : Cursor) → Ready c → c.end ≤ max_module → seen.last ≡ 11 → seen.counted ≡ false → IfWhole (Content seen 11 c) (contents (row 11) next seen c)
  code_content seen c ready short last uncounted =
      rw add-one (whole_on (λ y d. CodeFound seen c d y) (Content seen 11 c) (code_entry seen c) _ (either_got (λ y d. CodeFound seen c d y) seen.counted (body (is_some seen.data_count)) (listed (code seen)) c (λ e. absurd cc) (λ e. code_found seen c ready))
      (λ y d x.
      subst (λ (z : Part). IfWhole (Content seen 11 c) (after_part z (entries seen.declared (row 11) next (noted seen z) d))) (sym x.is)
      (one d y x (bodies_found seen.declared (record seen { counted = true }) d (later c d x.found ready) (omega (arith, x.found.end)) last refl))))
    where
      one : (d : Cursor) (y : Part) (x : CodeFound seen c d y) → IfWhole (Coding seen.declared (record seen { counted = true }) d) (entries seen.declared (row 11) next (record seen { counted = true }) d) → IfWhole (Content seen 11 c) (after_part (Listed (Code x.count c.end)) (entries seen.declared (row 11) next (record seen { counted = true }) d))
      one d y x h s e =
          let l = h s e in
          let many : x.count.1 ≡ length l.bodies = x.found.kept ∙ sym l.count in
          let count = found_here (u32_is (x.count.0, length l.bodies)) (Unit {0}) c d x.found (x.found.spelled.0, subst (λ (k : ℕ). listed_index_is k c.at x.found.taken) many x.found.spelled.1) tt in
          let vector = found_then (Unit {0}) c d l.stop count l.found tt in
          record {
            payload = Bodies x.count.0 c.end l.bodies;
            stop = l.stop;
            found = found_here (payload_is (Bodies x.count.0 c.end l.bodies)) (Unit {0}) c l.stop vector (omega (arith, l.over, vector.at, vector.end, vector.fits), vector.spelled) tt;
            over = l.over;
            id_is = refl;
            small = l.small;
            kept = (tt, tt);
            tail = l.tail;
            is = ap (λ (k : ℕ). Listed (Code (x.count.0, k) c.end) ∷ (entries seen.declared (row 11) next (record seen { counted = true }) d).parts) many ∙ ap (λ (k : List Part). Listed (Code (x.count.0, length l.bodies) c.end) ∷ k) l.is;
            rest = l.rest;
          }

-- ---- sections

-- a section, by its position
section_content : (next : Next) → Describes next → (seen : Seen) (id : ℕ) (c : Cursor) → Follows seen id → Uncounted seen → Ready c → c.end ≤ max_module → IfWhole (Content (entered seen id) id c) (contents (row id) next (entered seen id) c)
section_content next describes seen id c follows uncounted ready short =
    elim (cases_eq id 0) [
      | inl e ↦ at_id 0 e (custom_content next describes seen c ready short uncounted)
      | inr n0 ↦
          elim (cases_eq id 8) [
            | inl e ↦ at_id 8 e (start_content next describes (record seen { last = 8 }) c ready short (λ lt. uncounted (omega (arith, follows.later n0))))
            | inr n8 ↦
                elim (cases_eq id 10) [
                  | inl e ↦ at_id 10 e (count_content next describes (record seen { last = 10 }) c ready short (λ lt. uncounted (omega (arith, follows.later n0))))
                  | inr n10 ↦ elim (cases_eq id 11) [
                    | inl e ↦ at_id 11 e (code_content next describes (record seen { last = 11 }) c ready short refl (uncounted (omega (arith, follows.later n0))))
                    | inr n11 ↦ vector n0 n8 n10 n11
                  ]
                ]
          ]
    ]
  where
    at_id : (k : ℕ) → id ≡ k → IfWhole (Content (entered seen k) k c) (contents (row k) next (entered seen k) c) → IfWhole (Content (entered seen id) id c) (contents (row id) next (entered seen id) c)
    at_id k e h = subst (λ (n : ℕ). IfWhole (Content (entered seen n) n c) (contents (row n) next (entered seen n) c)) (sym e) h

    vector : id ≢ 0 → id ≢ 8 → id ≢ 10 → id ≢ 11 → IfWhole (Content (entered seen id) id c) (contents (row id) next (entered seen id) c)
    vector n0 n8 n10 n11 =
        let holds : HoldsVector id = (omega arith, omega (arith, follows.known), n8, n11, n10) in
        let r = vector_row id holds in
        let t : Seen = record seen { last = id } in
        let same : entered seen id ≡ t = rw (ne_eqb id 0 n0) refl in
        let found : IfWhole (Content t id c) (contents (entries_of r.front r.entry) next t c) = vector_found id n11 r next describes holds t c ready short (λ lt. uncounted (omega (arith, follows.later n0))) in
        subst (λ (s : Seen). IfWhole (Content s id c) (contents (row id) next s c)) (sym same) (subst (λ (w : Row). IfWhole (Content t id c) (contents w next t c)) (sym r.is) found)

section_found : (next : Next) → Describes next → (seen : Seen) (c : Cursor) (b : ℕ) (rest : List ℕ) → c.rest ≡ b ∷ rest → Between seen c → IfWhole (λ parts. Rest seen c (outside.Section c.at (position_of b) ∷ parts)) (section next seen c)
section_found next describes seen c b rest e between =
    whole_on (λ h d. HeaderFound c d h × Follows seen h.0) (λ parts. Rest seen c (outside.Section c.at (position_of b) ∷ parts)) (header seen c) _ (got_both (λ h d. HeaderFound c d h) (λ h d. Follows seen h.0) (header seen c) (header_found seen c between.ready) (header_tells seen c))
    (λ h d p.
    whole_as (Content (entered seen h.0) h.0 (inside d h.1)) (λ parts. Rest seen c (outside.Section c.at (position_of b) ∷ parts)) (contents (row h.0) next (entered seen h.0) (inside d h.1))
    (λ parts x. subst (λ (k : ℕ). Rest seen c (outside.Section c.at k ∷ parts)) (sym p.0.position ∙ ap position_of (first_byte d h p.0)) (content_rest c d h seen parts p.0 p.1 x))
    (section_content next describes seen h.0 (inside d h.1) p.1 between.uncounted (record { low = omega (arith, p.0.end); bytes = (later c d p.0.found between.ready).bytes }) p.0.short))
  where
    first_byte : (d : Cursor) (h : ℕ × ℕ) (p : HeaderFound c d h) → p.id ≡ b
    first_byte d h p =
        let s = p.found.spelled in
        let whole : p.id ∷ (s.back ++ d.rest) ≡ b ∷ rest =
        ap (λ (l : List ℕ). l ++ (s.back ++ d.rest)) (sym s.first.1) ∙ sym (append_assoc s.front s.back d.rest) ∙ ap (λ (l : List ℕ). l ++ d.rest) (sym s.parts) ∙ sym p.found.parts ∙ e in
        cc

ends_found : (seen : Seen) (c : Cursor) → c.rest ≡ [] → c.at ≤ max_module → IfWhole (Rest seen c) (at_the_end seen)
ends_found seen c e low =
    elim (cases_Bool (owes seen)) [
      | inl owes ↦ rw owes (λ s k. absurd cc)
      | inr none ↦ rw none (λ s k. record { sections = []; spelled = e; ordered = tt; kept = tt; is = refl; short = omega (arith, ap length e) })
    ]

or_found : (next : Next) → Describes next → (seen : Seen) (c : Cursor) (rest : List ℕ) → c.rest ≡ rest → Between seen c → IfWhole (Rest seen c) (or_section next seen c rest)
or_found next describes seen c [] e between = ends_found seen c e between.low
or_found next describes seen c (b ∷ rest) e between = section_found next describes seen c b rest e between

pub up_to_found : (n : ℕ) → Describes (sections_up_to n)
unfolding sections_up_to
up_to_found zero seen c between = λ s e. absurd cc
up_to_found (suc n) seen c between = or_found (sections_up_to n) (up_to_found n) seen c c.rest refl between
