-- Sections that keep the rules are read whole, with their parts.
use Rattle.std.proofs.Common.{◌≡◌, ◌≤◌, ◌<◌, ℕ, suc, ◌+◌, ◌-◌, Bool, true, false, is_some, not, ◌&&◌, ltb, leb, eqb, cond, if◌then◌else◌, List, [], ◌∷◌, ◌++◌, length, map, refl, sym, ap, ◌∙◌, append_assoc, add-one, arith, length-append, inl, inr}
use Rattle.std.specs.List.{All}
use Rattle.std.proofs.lemmas.Bool.{cases_eq, eq-eqb, ne_eqb, le-ltb, lt-leb}
use Rattle.std.proofs.lemmas.List.Elements.{All-head, All-tail}
use Rattle.wasm_defs.specs.declared.fault.Kind.TheVariants.{Malformed, Limit}
use Rattle.wasm_defs.specs.declared.item.Item.{Item}
use Rattle.wasm_defs.specs.declared.item.Item.TheVariants.{Start, DataCount, Code}
use Rattle.wasm_defs.specs.Limits.{max_module, max_entries, max_body}
use Rattle.wasm_defs.specs.Fields.{Cursor, Read, Got, Reader, then_go, ◌>>=◌, done, refused, u32, here}
use Rattle.wasm_defs.specs.Entries.{Seen, nothing, note, code}
use Rattle.wasm_defs.specs.Outside.{Body, Part, Listed, Coded, Nothing, listed, body, code_entry, Row, entries_of, row, position_of, id_of, is_misplaced, header, noted, no_end, section_end, Run, after_part, runs_on, Next, finish, entries, contents, owes_code}
use Rattle.wasm_defs.specs.Items.{Spelling, Joined, ◌then◌, each_is, u32_is, name_is, body_is, item_is, AllOf, Custom, Vector, Bodies, payload_is}
use Rattle.wasm_defs.specs.Rules.{AllKeep, all_noted, IsSmall}
use Rattle.wasm_laws.specs.Sections.{parts_of}
use Rattle.wasm_laws.proofs.Headers.{Follows}
use Rattle.wasm_laws.proofs.Positions.{position_again}
use Rattle.wasm_laws.proofs.Spelt.{cursor, reads_on}
use Rattle.wasm_laws.proofs.SpeltFields.{byte_spelt, u32_spelt}
use Rattle.wasm_laws.proofs.SpeltRows.{VectorRow, IsCounted, start_read, data_count_read, custom_read, rest_read, code_read, body_read}

-- parts before those of a run
abbrev pub prepend : List Part → Run → Run
prepend parts r = record { parts = parts ++ r.parts; ending = r.ending }

-- two encodings, one after the other, and what follows
abbrev pub Behind : Spelling → Spelling → ℕ → List ℕ → List ℕ → Type 0
Behind p q at bytes back = (front : List ℕ) × (rest : List ℕ) × (bytes ++ back ≡ front ++ (rest ++ back)) × (length bytes ≡ length front + length rest) × p at front × q (at + length front) rest

pub joined_behind : (p q : Spelling) (at : ℕ) (bytes back : List ℕ) → Joined p q at bytes → Behind p q at bytes back
joined_behind p q at bytes back j =
    (j.front, j.back, ap (λ (l : List ℕ). l ++ back) j.parts ∙ append_assoc j.front j.back back, ap length j.parts ∙ length-append j.front j.back, j.first, j.second)

-- ---- headers

not_misplaced : (seen : Seen) (id : ℕ) → Follows seen id → is_misplaced seen id ≡ false
not_misplaced seen id f =
    let near : ltb 12 id ≡ false = le-ltb 12 id (omega (arith, f.known)) in
    rw (near, ordered, owed) refl
  where
    ordered : (not (eqb id 0) && leb id seen.last) ≡ false
    ordered = elim (cases_eq id 0) [
      | inl none ↦ rw (eq-eqb id 0 none) refl
      | inr some ↦ rw (ne_eqb id 0 some, lt-leb id seen.last (f.later some)) refl
    ]

    owed : (eqb id 12 && owes_code seen) ≡ false
    owed = elim (cases_eq id 12) [
      | inl data_section ↦ rw (eq-eqb id 12 data_section, f.owed data_section) refl
      | inr other ↦ rw (ne_eqb id 12 other) refl
    ]

-- a header after its id
abbrev sized : ℕ → Reader (ℕ × ℕ)
sized id = u32 >>= (λ size. here >>= (λ at. if ltb max_module (at + size.1) then refused Limit size.0 else done (id, at + size.1)))

sized_read : (id : ℕ) (size : ℕ × ℕ) (at : ℕ) (front back : List ℕ) → at + length front + size.1 ≤ max_module → u32_is size at front → sized id (cursor at (front ++ back) no_end) ≡ Got (id, at + length front + size.1) (cursor (at + length front) back no_end)
unfolding here
sized_read id size at front back fits s =
    ap (λ (z : Read (ℕ × ℕ)). then_go z (λ size. here >>= (λ at. if ltb max_module (at + size.1) then refused Limit size.0 else done (id, at + size.1)))) ((u32_spelt.complete size tt).by at no_end front back (omega arith) s)
    ∙ rw (le-ltb max_module (at + length front + size.1) fits) refl

-- a header's tests of its id
abbrev tested : Seen → ℕ × ℕ → Reader (ℕ × ℕ)
tested seen id = if is_misplaced seen (position_of id.1) then refused Malformed id.0 else if leb max_module id.0 then refused Limit id.0 else sized (position_of id.1)

pub header_read : (seen : Seen) (position : ℕ) (size : ℕ × ℕ) (at : ℕ) (front back : List ℕ) → Follows seen position → at + 1 + length front + size.1 ≤ max_module → u32_is size (at + 1) front
    → header seen (cursor at (id_of position ∷ (front ++ back)) no_end) ≡ Got (position, at + 1 + length front + size.1) (cursor (at + 1 + length front) back no_end)
unfolding header
header_read seen position size at front back follows fits s =
    let id = id_of position in
    ap (λ (z : Read (ℕ × ℕ)). then_go z (tested seen)) ((byte_spelt.complete (at, id) tt).by at no_end (id ∷ []) (front ++ back) (omega arith) (refl, refl))
    ∙ rw (position_again position, not_misplaced seen position follows, lt-leb max_module at (omega arith)) (sized_read position size (at + 1) front back fits s)

-- ---- where a section ends

section_end_read : (at end : ℕ) (back : List ℕ) → at ≡ end → section_end (cursor at back end) ≡ Got tt (cursor at back no_end)
unfolding section_end
section_end_read at end back e =
    let none : end - at ≡ 0 = omega arith in
    rw (eq-eqb (end - at) 0 none) refl

finish_read : (r : Row) (next : Next) (seen : Seen) (at end : ℕ) (front back : List ℕ) → at + length front ≡ end → r.back (cursor at (front ++ back) end) ≡ Got tt (cursor (at + length front) back end) → finish r next seen (cursor at (front ++ back) end) ≡ next seen (cursor end back no_end)
finish_read r next seen at end front back e read =
    ap (λ (z : Read Nothing). runs_on z (λ x d. runs_on (section_end d) (λ y e. next seen e))) read
    ∙ ap (λ (z : Read Nothing). runs_on z (λ y e. next seen e)) (section_end_read (at + length front) end back e)
    ∙ ap (λ (k : ℕ). next seen (cursor k back no_end)) e

-- where nothing follows the entries
finish_here : (r : Row) (next : Next) (seen : Seen) (at end : ℕ) (front back : List ℕ) → ((c : Cursor) → r.back c ≡ Got tt c) → at + length front ≡ end → front ≡ [] → finish r next seen (cursor at (front ++ back) end) ≡ next seen (cursor end back no_end)
finish_here r next seen at end front back nothing e none =
    let here : at ≡ end = omega (arith, ap length none) in
    ap (λ (l : List ℕ). finish r next seen (cursor at (l ++ back) end)) none
    ∙ ap (λ (z : Read Nothing). runs_on z (λ x d. runs_on (section_end d) (λ y e. next seen e))) (nothing (cursor at back end))
    ∙ ap (λ (z : Read Nothing). runs_on z (λ y e. next seen e)) (section_end_read at end back here)
    ∙ ap (λ (k : ℕ). next seen (cursor k back no_end)) here

-- ---- vectors of items

module _ (id : ℕ) (r : VectorRow id) (next : Next) where
  items_read : (items : List Item) (seen : Seen) (at end : ℕ) (front back : List ℕ) → at + length front ≡ end → each_is item_is items at front → AllKeep seen items → AllOf id items
      → entries (length items) (entries_of r.front r.entry) next seen (cursor at (front ++ back) end) ≡ prepend (map Listed items) (next (all_noted seen items) (cursor end back no_end))
  items_read [] seen at end front back e s k a = finish_here (entries_of r.front r.entry) next seen at end front back (λ c. refl) e s
  items_read (x ∷ xs) seen at end front back e s k a =
      let j = joined_behind (item_is x) (each_is item_is xs) at front back s in
      let first = (reads_on (r.entry seen) (λ y. done (Listed y)) x (Listed x) (item_is x) ((r.spelt seen).complete x (k.0, a.0)) (λ c. refl)).by at end j.0 (j.1 ++ back) (omega arith) j.4 in
      let rest = items_read xs (note seen x) (at + length j.0) end j.1 back (omega arith) j.5 k.1 a.1 in
      ap (λ (l : List ℕ). entries (suc (length xs)) (entries_of r.front r.entry) next seen (cursor at l end)) j.2
      ∙ ap (λ (z : Read Part). runs_on z (λ y d. after_part y (entries (length xs) (entries_of r.front r.entry) next (noted seen y) d))) first
      ∙ ap (after_part (Listed x)) rest

  pub vector_read : (count : ℕ) (items : List Item) (seen : Seen) (at end : ℕ) (front back : List ℕ) → at + length front ≡ end → payload_is (Vector id count items) at front → IsSmall seen (Vector id count items) → IsCounted id seen (length items) → AllKeep seen items
      → contents (entries_of r.front r.entry) next seen (cursor at (front ++ back) end) ≡ prepend (map Listed items) (next (all_noted seen items) (cursor end back no_end))
  vector_read count items seen at end front back e s small counted k =
      let j = joined_behind (u32_is (count, length items)) (each_is item_is items) at front back s.2 in
      let first = ((r.few seen).complete (length items) (small, counted)).by at end j.0 (j.1 ++ back) (omega arith) j.4.1 in
      let rest = items_read items seen (at + length j.0) end j.1 back (omega arith) j.5 k s.1 in
      ap (λ (l : List ℕ). contents (entries_of r.front r.entry) next seen (cursor at l end)) j.2
      ∙ ap (λ (z : Read ℕ). runs_on z (λ n d. entries n (entries_of r.front r.entry) next seen d)) first
      ∙ rest

-- ---- custom sections, and the start function

pub custom_read_whole : (name : ℕ × List ℕ) (next : Next) (seen : Seen) (at end : ℕ) (front back : List ℕ) → at + length front ≡ end → payload_is (Custom name) at front → IsSmall seen (Custom name)
    → contents (row 0) next seen (cursor at (front ++ back) end) ≡ next seen (cursor end back no_end)
custom_read_whole name next seen at end front back e s small =
    let j = joined_behind (name_is name) (λ at bytes. Unit {0}) at front back s in
    let first = (custom_read name small).by at end j.0 (j.1 ++ back) (omega arith) j.4 in
    ap (λ (l : List ℕ). contents (row 0) next seen (cursor at l end)) j.2
    ∙ ap (λ (z : Read ℕ). runs_on z (λ n d. entries n (row 0) next seen d)) first
    ∙ finish_read (row 0) next seen (at + length j.0) end j.1 back (omega arith) (rest_read (at + length j.0) end j.1 back (omega arith))

pub start_read_whole : (index : ℕ × ℕ) (next : Next) (seen : Seen) (at end : ℕ) (front back : List ℕ) → at + length front ≡ end → u32_is index at front → index.1 < seen.functions
    → contents (row 8) next seen (cursor at (front ++ back) end) ≡ prepend (Listed (Start index) ∷ []) (next seen (cursor end back no_end))
start_read_whole index next seen at end front back e s lt =
    ap (λ (z : Read Part). runs_on z (λ y d. after_part y (finish (row 8) next (noted seen y) d))) ((start_read seen index lt).by at end front back (omega arith) s)
    ∙ ap (after_part (Listed (Start index))) (finish_here (row 8) next seen (at + length front) end [] back (λ c. refl) (omega arith) refl)

-- ---- the data count

pub count_read_whole : (count : ℕ × ℕ) (next : Next) (seen : Seen) (at end : ℕ) (front back : List ℕ) → at + length front ≡ end → u32_is count at front → count.1 ≤ max_entries
    → contents (row 10) next seen (cursor at (front ++ back) end) ≡ prepend (Listed (DataCount count) ∷ []) (next (note seen (DataCount count)) (cursor end back no_end))
count_read_whole count next seen at end front back e s le =
    ap (λ (z : Read Part). runs_on z (λ y d. after_part y (finish (row 10) next (noted seen y) d))) ((data_count_read seen count le).by at end front back (omega arith) s)
    ∙ ap (after_part (Listed (DataCount count))) (finish_here (row 10) next (note seen (DataCount count)) (at + length front) end [] back (λ c. refl) (omega arith) refl)

-- ---- the code section

bodies_read : (next : Next) (bodies : List Body) (seen : Seen) (at end : ℕ) (front back : List ℕ) → at + length front ≡ end → each_is body_is bodies at front → All (λ b. length b.bytes ≤ max_body) bodies → All (λ b. b.counted ≡ is_some seen.data_count) bodies → seen.counted ≡ true
    → entries (length bodies) (row 11) next seen (cursor at (front ++ back) end) ≡ prepend (map Coded bodies) (next seen (cursor end back no_end))
bodies_read next [] seen at end front back e s small told counted = finish_here (row 11) next seen at end front back (λ c. refl) e s
bodies_read next (b ∷ bs) seen at end front back e s small told counted =
    let j = joined_behind (body_is b) (each_is body_is bs) at front back s in
    let first : code_entry seen (cursor at (j.0 ++ (j.1 ++ back)) end) ≡ Got (Coded b) (cursor (at + length j.0) (j.1 ++ back) end) = ap (λ (b : Bool). cond b (body (is_some seen.data_count)) (listed (code seen)) (cursor at (j.0 ++ (j.1 ++ back)) end)) counted
    ∙ ap (λ (t : Bool). body t (cursor at (j.0 ++ (j.1 ++ back)) end)) (sym (All-head (λ b. b.counted ≡ is_some seen.data_count) b bs told)) ∙ ((body_read b (All-head (λ b. length b.bytes ≤ max_body) b bs small)).by at end j.0 (j.1 ++ back) (omega arith) j.4) in
    let rest = bodies_read next bs seen (at + length j.0) end j.1 back (omega arith) j.5 (All-tail (λ b. length b.bytes ≤ max_body) b bs small) (All-tail (λ b. b.counted ≡ is_some seen.data_count) b bs told) counted in
    ap (λ (l : List ℕ). entries (suc (length bs)) (row 11) next seen (cursor at l end)) j.2
    ∙ ap (λ (z : Read Part). runs_on z (λ y d. after_part y (entries (length bs) (row 11) next (noted seen y) d))) first
    ∙ ap (after_part (Coded b)) rest

pub code_read_whole : (count end : ℕ) (bodies : List Body) (next : Next) (seen : Seen) (at : ℕ) (front back : List ℕ) → payload_is (Bodies count end bodies) at front → All (λ b. length b.bytes ≤ max_body) bodies → All (λ b. b.counted ≡ is_some seen.data_count) bodies → seen.counted ≡ false → length bodies ≡ seen.declared
    → contents (row 11) next seen (cursor at (front ++ back) end) ≡ prepend (parts_of (Bodies count end bodies)) (next (record seen { counted = true }) (cursor end back no_end))
code_read_whole count end bodies next seen at front back s small told uncounted many =
    let j = joined_behind (u32_is (count, length bodies)) (each_is body_is bodies) at front back s.1 in
    let stop = s.0 in
    let first : code_entry seen (cursor at (j.0 ++ (j.1 ++ back)) end) ≡ Got (Listed (Code (count, length bodies) end)) (cursor (at + length j.0) (j.1 ++ back) end) = ap (λ (b : Bool). cond b (body (is_some seen.data_count)) (listed (code seen)) (cursor at (j.0 ++ (j.1 ++ back)) end)) uncounted ∙ code_read seen (count, length bodies) many at end j.0 (j.1 ++ back) (omega arith) j.4 in
    let rest = bodies_read next bodies (record seen { counted = true }) (at + length j.0) end j.1 back (omega arith) j.5 small told refl in
    ap (λ (l : List ℕ). contents (row 11) next seen (cursor at l end)) j.2
    ∙ ap (λ (n : ℕ). entries n (row 11) next seen (cursor at (j.0 ++ (j.1 ++ back)) end)) (add-one seen.declared ∙ ap suc (sym many))
    ∙ ap (λ (z : Read Part). runs_on z (λ y d. after_part y (entries (length bodies) (row 11) next (noted seen y) d))) first
    ∙ ap (after_part (Listed (Code (count, length bodies) end))) rest
