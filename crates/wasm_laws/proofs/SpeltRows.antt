-- What is in a section is read as it is encoded: counts, bodies, and the rows of the sections that hold vectors.
use Rattle.std.proofs.Common.{◌≡◌, ◌≢◌, ◌≤◌, ◌<◌, ℕ, ◌+◌, ◌-◌, pos, Bool, true, false, ltb, eqb, ◌||◌, if◌then◌else◌, List, ◌++◌, length, refl, sym, ap, subst, ◌∙◌, arith, inl, inr}
use Rattle.std.proofs.lemmas.Bool.{cases_eq, le-ltb, ltb-false, eq-eqb, ne_eqb, or_parts, or_from}
use Rattle.wasm_defs.specs.declared.fault.Kind.{Kind}
use Rattle.wasm_defs.specs.declared.fault.Kind.TheVariants.{Malformed, Limit, Invalid}
use Rattle.wasm_defs.specs.declared.item.Item.{Item}
use Rattle.wasm_defs.specs.declared.item.Item.TheVariants.{Start, DataCount, Code}
use Rattle.wasm_defs.specs.Limits.{max_entries, max_body}
use Rattle.wasm_defs.specs.Numbers.{Spells}
use Rattle.wasm_defs.specs.Fields.{Cursor, Read, Got, Fault, Wants, Reader, then_go, ◌>>=◌, done, refused, room_of, u32, count, run, room, here, stop, name}
use Rattle.wasm_defs.specs.Entries.{Seen, index, signature, imported, function, table, memory, global, exported, start, element, code, data_count, segment}
use Rattle.wasm_defs.specs.Outside.{Body, Part, Listed, Coded, listed, body, number_of, at_most_one, function_count, agrees, segment_count, custom_name, rest_of_section, entries_of, row}
use Rattle.wasm_defs.specs.Items.{Spelling, exactly, u32_is, body_is, listed_index_is, name_is, HoldsVector}
use Rattle.wasm_defs.specs.Rules.{most_of}
use Rattle.wasm_laws.proofs.Steady.{IfGot}
use Rattle.wasm_laws.proofs.Spelt.{cursor, Ready, Found, found_here, found_as, read, unless, provided, Reads, reads_on, Spelt}
use Rattle.wasm_laws.proofs.SpeltFields.{Always, u32_spelt, run_spelt}
use Rattle.wasm_laws.proofs.SpeltLists.{found_sized, ReadsContent, reads_sized}
use Rattle.wasm_laws.proofs.SpeltNames.{IsShort, name_spelt}
use Rattle.wasm_laws.proofs.SpeltParts.{ruled_spelt, placed_spelt, count_spelt, index_spelt}
use Rattle.wasm_laws.proofs.SpeltItems.{SpeltEntry, signature_spelt, imported_spelt, function_spelt, table_spelt, memory_spelt, global_spelt, exported_spelt, element_spelt, segment_spelt}

-- ---- counts

-- a number of items that a section may list
abbrev pub IsFew : ℕ → Seen → ℕ → Type 0
IsFew id s n = (n ≤ most_of id) × (id ≡ 3 → s.functions + n ≤ max_entries)

number_of_spelt : (most : ℕ) → Spelt listed_index_is (λ n. n ≤ most) (number_of most)
unfolding number_of
number_of_spelt most = placed_spelt (λ n bytes. Spells (pos n) 32 false bytes) (λ n. n ≤ most) (count most) (ruled_spelt u32_is (λ n. Always n × (n.1 ≤ most)) (λ n. n.1 ≤ most) (count most) (λ n k. k.1) (λ n k. (tt, k)) (count_spelt most))

-- a count that a test passes
tested_spelt : (K : ℕ → Type 0) (wrong : ℕ → Bool) (kind : Kind) → ((n : ℕ) → wrong n ≡ false → K n) → ((n : ℕ) → K n → wrong n ≡ false) → Spelt listed_index_is K (u32 >>= (λ n. if wrong n.1 then refused kind n.0 else done n.1))
tested_spelt K wrong kind to from = record {
  sound = λ c ready.
      read u32_is Always u32 _ _ c u32_spelt ready (λ n d found ready.
      unless _ (wrong n.1) kind n.0 (done n.1) d (λ right.
      found_as (listed_index_is n.1) (K n.1) c d found (λ at bytes s. s.1) (to n.1 right)));
  complete = λ n k. record { by = λ at end front back fits s. ap (λ (z : Read (ℕ × ℕ)). then_go z (λ m. if wrong m.1 then refused kind m.0 else done m.1)) ((u32_spelt.complete (at, n) tt).by at end front back fits (refl, s)) ∙ rw (from n k) refl };
}

at_most_one_spelt : Spelt listed_index_is (λ n. n ≤ 1) at_most_one
unfolding at_most_one
at_most_one_spelt = tested_spelt (λ n. n ≤ 1) (λ n. ltb 1 n) Invalid (λ n e. ltb-false 1 n e) (λ n k. le-ltb 1 n k)

function_count_spelt : (seen : Seen) → Spelt listed_index_is (λ n. seen.functions + n ≤ max_entries) (function_count seen)
unfolding function_count
function_count_spelt seen = tested_spelt (λ n. seen.functions + n ≤ max_entries) (λ n. ltb max_entries (seen.functions + n)) Limit (λ n e. ltb-false max_entries (seen.functions + n) e) (λ n k. le-ltb max_entries (seen.functions + n) k)

segment_count_spelt : (seen : Seen) → Spelt listed_index_is (λ n. (n ≤ max_entries) × (agrees seen.data_count n ≡ true)) (segment_count seen)
unfolding segment_count
segment_count_spelt seen = record {
  sound = λ c ready.
      read u32_is Always u32 _ _ c u32_spelt ready (λ n d found ready.
      provided _ (agrees seen.data_count n.1) Malformed n.0 _ d (λ same.
      unless _ (ltb max_entries n.1) Limit n.0 (done n.1) d (λ right.
      found_as (listed_index_is n.1) ((n.1 ≤ max_entries) × (agrees seen.data_count n.1 ≡ true)) c d found (λ at bytes s. s.1) (ltb-false max_entries n.1 right, same))));
  complete = λ n k. record {
    by = λ at end front back fits s.
        ap (λ (z : Read (ℕ × ℕ)). then_go z (λ m. if agrees seen.data_count m.1 then (if ltb max_entries m.1 then refused Limit m.0 else done m.1) else refused Malformed m.0)) ((u32_spelt.complete (at, n) tt).by at end front back fits (refl, s))
        ∙ rw (k.1, le-ltb max_entries n k.0) refl;
  };
}

-- ---- rows of vectors

-- a number of data segments is the data count, where there is one
abbrev pub IsCounted : ℕ → Seen → ℕ → Type 0
IsCounted id s n = id ≡ 12 → agrees s.data_count n ≡ true

pub record VectorRow (id : ℕ) : Type 0 where
  pub front : Seen → Reader ℕ
  pub entry : Seen → Reader Item
  pub is : row id ≡ entries_of front entry
  pub few : (s : Seen) → Spelt listed_index_is (λ n. IsFew id s n × IsCounted id s n) (front s)
  pub spelt : SpeltEntry id entry

-- as many as the limit says
limited_few : (id : ℕ) → most_of id ≡ max_entries → id ≢ 3 → id ≢ 12 → (s : Seen) → Spelt listed_index_is (λ n. IsFew id s n × IsCounted id s n) (number_of max_entries)
limited_few id e other free s =
    ruled_spelt listed_index_is (λ n. n ≤ max_entries) (λ n. IsFew id s n × IsCounted id s n) (number_of max_entries) (λ n k. ((rw e k, λ t. absurd (other t)), λ t. absurd (free t))) (λ n k. rw e at k.0.0) (number_of_spelt max_entries)

one_few : (id : ℕ) → most_of id ≡ 1 → id ≢ 3 → id ≢ 12 → (s : Seen) → Spelt listed_index_is (λ n. IsFew id s n × IsCounted id s n) at_most_one
one_few id e other free s =
    ruled_spelt listed_index_is (λ n. n ≤ 1) (λ n. IsFew id s n × IsCounted id s n) at_most_one (λ n k. ((rw e k, λ t. absurd (other t)), λ t. absurd (free t))) (λ n k. rw e at k.0.0) at_most_one_spelt

function_few : (s : Seen) → Spelt listed_index_is (λ n. IsFew 3 s n × IsCounted 3 s n) (function_count s)
function_few s =
    ruled_spelt listed_index_is (λ n. s.functions + n ≤ max_entries) (λ n. IsFew 3 s n × IsCounted 3 s n) (function_count s) (λ n k. ((omega arith, λ t. k), λ t. absurd (omega arith))) (λ n k. k.0.1 refl) (function_count_spelt s)

segments_few : (s : Seen) → Spelt listed_index_is (λ n. IsFew 12 s n × IsCounted 12 s n) (segment_count s)
segments_few s =
    ruled_spelt listed_index_is (λ n. (n ≤ max_entries) × (agrees s.data_count n ≡ true)) (λ n. IsFew 12 s n × IsCounted 12 s n) (segment_count s) (λ n k. ((k.0, λ t. absurd (omega arith)), λ t. k.1)) (λ n k. (k.0.0, k.1 refl)) (segment_count_spelt s)

limited_row : (id : ℕ) (entry : Seen → Reader Item) → row id ≡ entries_of (λ s. number_of max_entries) entry → most_of id ≡ max_entries → id ≢ 3 → id ≢ 12 → SpeltEntry id entry → VectorRow id
limited_row id entry is most other free spelt = record { front = λ s. number_of max_entries; entry = entry; is = is; few = limited_few id most other free; spelt = spelt }

one_row : (id : ℕ) (entry : Seen → Reader Item) → row id ≡ entries_of (λ s. at_most_one) entry → most_of id ≡ 1 → id ≢ 3 → id ≢ 12 → SpeltEntry id entry → VectorRow id
one_row id entry is most other free spelt = record { front = λ s. at_most_one; entry = entry; is = is; few = one_few id most other free; spelt = spelt }

-- that row, or another one
row_or : (id k : ℕ) → VectorRow k → (id ≢ k → VectorRow id) → VectorRow id
row_or id k r other = elim (cases_eq id k) [ inl e ↦ subst VectorRow (sym e) r | inr n ↦ other n ]

pub vector_row : (id : ℕ) → HoldsVector id → VectorRow id
vector_row id h =
    row_or id 1 (limited_row 1 signature refl refl (λ t. omega arith) (λ t. omega arith) signature_spelt) (λ n1.
    row_or id 2 (limited_row 2 imported refl refl (λ t. omega arith) (λ t. omega arith) imported_spelt) (λ n2.
    row_or id 3 (record { front = function_count; entry = function; is = refl; few = function_few; spelt = function_spelt }) (λ n3.
    row_or id 4 (one_row 4 table refl refl (λ t. omega arith) (λ t. omega arith) table_spelt) (λ n4.
    row_or id 5 (one_row 5 memory refl refl (λ t. omega arith) (λ t. omega arith) memory_spelt) (λ n5.
    row_or id 6 (limited_row 6 global refl refl (λ t. omega arith) (λ t. omega arith) global_spelt) (λ n6.
    row_or id 7 (limited_row 7 exported refl refl (λ t. omega arith) (λ t. omega arith) exported_spelt) (λ n7.
    row_or id 9 (limited_row 9 element refl refl (λ t. omega arith) (λ t. omega arith) element_spelt) (λ n9.
    row_or id 12 (record { front = segment_count; entry = segment; is = refl; few = segments_few; spelt = segment_spelt }) (λ n12.
    absurd (let low = h.0 in let high = h.1 in let not_start = h.2 in let not_code = h.3 in let not_count = h.4 in omega arith))))))))))

-- ---- the start function

-- a part that was read is the start function's
pub record StartFound (seen : Seen) (c d : Cursor) (x : Part) : Type 0 where
  pub index : ℕ × ℕ
  pub is : x ≡ Listed (Start index)
  pub found : Found (u32_is index) (index.1 < seen.functions) c d

pub start_found : (seen : Seen) (c : Cursor) → Ready c → IfGot (λ x d. StartFound seen c d x) (listed (start seen) c)
unfolding start
start_found seen c ready = of_index (index seen.functions c) ((index_spelt seen.functions).sound c ready)
  where
    of_index : (r : Read (ℕ × ℕ)) → IfGot (λ i d. Found (u32_is i) (Always i × (i.1 < seen.functions)) c d) r → IfGot (λ x d. StartFound seen c d x) (then_go (then_go r (λ i. done (Start i))) (λ x. done (Listed x)))
    of_index (Got i d) p = record { index = i; is = refl; found = found_as (u32_is i) (i.1 < seen.functions) c d p (λ at bytes s. s) p.kept.1 }
    of_index (Fault r) p = tt
    of_index Wants p = tt

pub start_read : (seen : Seen) (i : ℕ × ℕ) → i.1 < seen.functions → Reads (listed (start seen)) (Listed (Start i)) (u32_is i)
unfolding start
start_read seen i lt = reads_on (start seen) _ (Start i) _ (u32_is i) (reads_on (index seen.functions) _ i _ (u32_is i) ((index_spelt seen.functions).complete i (tt, lt)) (λ c. refl)) (λ c. refl)

-- ---- the data count

pub record CountFound (c d : Cursor) (x : Part) : Type 0 where
  pub number : ℕ × ℕ
  pub is : x ≡ Listed (DataCount number)
  pub found : Found (u32_is number) (number.1 ≤ max_entries) c d

pub data_count_found : (seen : Seen) (c : Cursor) → Ready c → IfGot (λ x d. CountFound c d x) (listed (data_count seen) c)
unfolding data_count
data_count_found seen c ready = of_number (count max_entries c) ((count_spelt max_entries).sound c ready)
  where
    of_number : (r : Read (ℕ × ℕ)) → IfGot (λ n d. Found (u32_is n) (Always n × (n.1 ≤ max_entries)) c d) r → IfGot (λ x d. CountFound c d x) (then_go (then_go r (λ n. done (DataCount n))) (λ x. done (Listed x)))
    of_number (Got n d) p = record { number = n; is = refl; found = found_as (u32_is n) (n.1 ≤ max_entries) c d p (λ at bytes s. s) p.kept.1 }
    of_number (Fault r) p = tt
    of_number Wants p = tt

pub data_count_read : (seen : Seen) (n : ℕ × ℕ) → n.1 ≤ max_entries → Reads (listed (data_count seen)) (Listed (DataCount n)) (u32_is n)
unfolding data_count
data_count_read seen n le = reads_on (data_count seen) _ (DataCount n) _ (u32_is n) (reads_on (count max_entries) _ n _ (u32_is n) ((count_spelt max_entries).complete n (tt, le)) (λ c. refl)) (λ c. refl)

-- ---- custom sections

pub record CustomFound (c d : Cursor) (n : ℕ) : Type 0 where
  pub name : ℕ × List ℕ
  pub is : n ≡ 0
  pub found : Found (name_is name) (IsShort name) c d

pub custom_found : (c : Cursor) → Ready c → IfGot (λ n d. CustomFound c d n) (custom_name c)
unfolding custom_name
custom_found c ready = read name_is IsShort name _ _ c name_spelt ready (λ n d found ready. record { name = n; is = refl; found = found })

pub custom_read : (x : ℕ × List ℕ) → IsShort x → Reads custom_name 0 (name_is x)
unfolding custom_name
custom_read x short = reads_on name _ x 0 (name_is x) (name_spelt.complete x short) (λ c. refl)

abbrev pub anything : Spelling
anything = λ at bytes. Unit {0}

pub rest_found : (c : Cursor) → Ready c → IfGot (λ x d. Found anything (Unit {0}) c d) (rest_of_section c)
unfolding rest_of_section room
rest_found c ready = read exactly (λ bytes. length bytes ≡ room_of c) (run (room_of c)) _ _ c (run_spelt (room_of c)) ready (λ bytes d found ready. found_as anything (Unit {0}) c d found (λ at bytes s. tt) tt)

pub rest_read : (at end : ℕ) (front back : List ℕ) → at + length front ≡ end → rest_of_section (cursor at (front ++ back) end) ≡ Got tt (cursor (at + length front) back end)
unfolding rest_of_section room
rest_read at end front back whole = ap (λ (z : Read (List ℕ)). then_go z (λ bytes. done tt)) (((run_spelt (end - at)).complete front (omega arith)).by at end front back (omega arith) refl)

-- ---- the code section's count

pub record CodeFound (seen : Seen) (c d : Cursor) (x : Part) : Type 0 where
  pub count : ℕ × ℕ
  pub is : x ≡ Listed (Code count c.end)
  pub found : Found (u32_is count) (count.1 ≡ seen.declared) c d

pub code_found : (seen : Seen) (c : Cursor) → Ready c → IfGot (λ x d. CodeFound seen c d x) (listed (code seen) c)
unfolding code stop
code_found seen c ready = of_count (u32 c) (u32_spelt.sound c ready)
  where
    of_count : (r : Read (ℕ × ℕ)) → IfGot (λ n d. Found (u32_is n) (Always n) c d) r → IfGot (λ x d. CodeFound seen c d x) (then_go (then_go r (λ n. if eqb n.1 seen.declared then (stop >>= (λ end. done (Code n end))) else refused Malformed n.0)) (λ x. done (Listed x)))
    of_count (Got n d) p = elim (cases_eq n.1 seen.declared) [
      | inl e ↦ rw (eq-eqb n.1 seen.declared e) (record { count = n; is = ap (λ (end : ℕ). Listed (Code n end)) p.end; found = found_as (u32_is n) (n.1 ≡ seen.declared) c d p (λ at bytes s. s) e })
      | inr other ↦ rw (ne_eqb n.1 seen.declared other) tt
    ]
    of_count (Fault r) p = tt
    of_count Wants p = tt

pub code_read : (seen : Seen) (n : ℕ × ℕ) → n.1 ≡ seen.declared → (at end : ℕ) (front back : List ℕ) → at + length front ≤ end → u32_is n at front → listed (code seen) (cursor at (front ++ back) end) ≡ Got (Listed (Code n end)) (cursor (at + length front) back end)
unfolding code stop
code_read seen n e at end front back fits s =
    ap (λ (z : Read (ℕ × ℕ)). then_go (then_go z (λ m. if eqb m.1 seen.declared then (stop >>= (λ end. done (Code m end))) else refused Malformed m.0)) (λ x. done (Listed x))) ((u32_spelt.complete n tt).by at end front back fits s)
    ∙ rw (eq-eqb n.1 seen.declared e) refl

-- ---- bodies

pub record BodyFound (counted : Bool) (c d : Cursor) (x : Part) : Type 0 where
  pub «body» : Body
  pub is : x ≡ Coded «body»
  pub told : «body».counted ≡ counted
  pub found : Found (body_is «body») (length «body».bytes ≤ max_body) c d

body_from : (counted : Bool) (n : ℕ × ℕ) (c d e : Cursor) (bytes : List ℕ) → Found (u32_is n) (Always n) c d → Found (exactly bytes) (length bytes ≡ n.1) d e → 2 ≤ n.1 → n.1 ≤ max_body → BodyFound counted c e (Coded (record { counted = counted; size = n.0; first = d.at; bytes = bytes }))
body_from counted n c d e bytes n_found run_found least most =
    let len : length run_found.taken ≡ n.1 = ap length run_found.spelled ∙ run_found.kept in
    let content = found_here (λ at run. (d.at ≡ at) × (run ≡ bytes) × (2 ≤ length run)) (Unit {0}) d e run_found (refl, run_found.spelled, omega arith) tt in
    record {
      «body» = record { counted = counted; size = n.0; first = d.at; bytes = bytes };
      is = refl;
      told = refl;
      found = found_sized (length bytes ≤ max_body) n c d e n_found content (ap length content.spelled.1 ∙ run_found.kept) (omega (arith, run_found.kept));
    }

pub body_found : (counted : Bool) (c : Cursor) → Ready c → IfGot (λ x d. BodyFound counted c d x) (body counted c)
unfolding body room here
body_found counted c ready =
    read u32_is Always u32 _ _ c u32_spelt ready (λ n d n_found ready.
    unless _ (ltb n.1 2 || ltb (room_of d) n.1) Malformed n.0 _ d (λ right.
    unless _ (ltb max_body n.1) Limit n.0 _ d (λ small.
    read exactly (λ bytes. length bytes ≡ n.1) (run n.1) _ _ d (run_spelt n.1) ready (λ bytes e run_found ready.
    body_from counted n c d e bytes n_found run_found (ltb-false n.1 2 (or_parts (ltb n.1 2) (ltb (room_of d) n.1) right).0) (ltb-false max_body n.1 small)))))

-- a body after its size
abbrev body_rest : Bool → ℕ × ℕ → Reader Part
body_rest counted n = room >>= (λ left. if ltb n.1 2 || ltb left n.1 then refused Malformed n.0 else if ltb max_body n.1 then refused Limit n.0 else (here >>= (λ at. run n.1 >>= (λ bytes. done (Coded (record { counted = counted; size = n.0; first = at; bytes = bytes }))))))

body_content : (b : Body) → length b.bytes ≤ max_body → ReadsContent (body_rest b.counted) b.size (Coded b) (λ at bytes. (b.first ≡ at) × (bytes ≡ b.bytes) × (2 ≤ length bytes))
unfolding room here
body_content b small at end bytes back fits s =
    let len = ap length s.1 in
    rw (or_from (ltb (length bytes) 2) (ltb (end - at) (length bytes)) (le-ltb (length bytes) 2 s.2) (le-ltb (end - at) (length bytes) (omega arith)), le-ltb max_body (length bytes) (omega arith))
    (ap (λ (z : Read (List ℕ)). then_go z (λ run. done (Coded (record { counted = b.counted; size = b.size; first = at; bytes = run })))) (((run_spelt (length bytes)).complete b.bytes (sym len)).by at end bytes back fits s.1)
    ∙ ap (λ (first : ℕ). Got (Coded (record { counted = b.counted; size = b.size; first = first; bytes = b.bytes })) (cursor (at + length bytes) back end)) (sym s.0))

pub body_read : (b : Body) → length b.bytes ≤ max_body → Reads (body b.counted) (Coded b) (body_is b)
unfolding body
body_read b small = reads_sized (body_rest b.counted) b.size (Coded b) (λ at bytes. (b.first ≡ at) × (bytes ≡ b.bytes) × (2 ≤ length bytes)) (body_content b small)
