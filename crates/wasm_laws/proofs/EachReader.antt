-- A property that fields have and that sequences keep is one of all readers outside bodies: of entries, and of what is before and
-- after them.
use Rattle.std.proofs.Common.{◌<◌, ℕ, zero, suc, Bool, true, false, cond, ltb, eqb, List, arith, inl, inr}
use Rattle.std.proofs.lemmas.Bool.{cases_Bool}
use Rattle.wasm_defs.specs.declared.fault.Kind.{Kind}
use Rattle.wasm_defs.specs.declared.fault.Kind.TheVariants.{Malformed, Unsupported, Limit, Invalid}
use Rattle.wasm_defs.specs.declared.item.Item.{Item}
use Rattle.wasm_defs.specs.declared.types.ValType.{ValType}
use Rattle.wasm_defs.specs.Fields.{Reader, ◌>>=◌, done, refused, repeated, byte, number, u32, count, vector, run, room, here, stop, counted_bytes, name, fixed}
use Rattle.wasm_defs.specs.Entries.{Seen, within, is_left_out, is_opcode, wrong_opcode, wrong_number, refused_opcode, index, value_type, listed_type, limits, constant, signature, imported, function, table, memory, mutability, global, extern_kind, exported, start, listed_index, element, code, data_count, memory_of, passive, segment}
use Rattle.wasm_defs.specs.Outside.{Row, row, listed, entries_of, code_entry, rest_of_section, number_of, at_most_one, function_count, segment_count, custom_name, body, header, preamble}
use Rattle.wasm_defs.specs.Faults.{rank}

-- ---- the kinds of their errors

pub malformed : rank Malformed < 4
malformed = omega arith

pub unsupported : rank Unsupported < 4
unsupported = omega arith

pub limit : rank Limit < 4
limit = omega arith

pub invalid : rank Invalid < 4
invalid = omega arith

pub wrong : (b : ℕ) → rank (wrong_opcode b) < 4
wrong b =
    elim (cases_Bool (is_left_out b)) [
      | inl out ↦ rw out (omega arith)
      | inr other ↦ rw other (elim (cases_Bool (is_opcode b)) [ inl h ↦ rw h (omega arith) | inr h ↦ rw h (omega arith) ])
    ]

pub wrong_after : (n : ℕ) → rank (wrong_number n) < 4
wrong_after n =
    elim (cases_Bool (within 8 11 n)) [
      | inl known ↦ rw known (omega arith)
      | inr other ↦ rw other (elim (cases_Bool (ltb n 18)) [ inl h ↦ rw h (omega arith) | inr h ↦ rw h (omega arith) ])
    ]

-- ---- what has to be shown

-- a property of fields and of their sequences
pub record Composes (P : (A : Type 0) → Reader A → Type 0) : Type 1 where
  pub of_bind : {A B : Type 0} (p : Reader A) (f : A → Reader B) → P _ p → ((a : A) → P _ (f a)) → P _ (p >>= f)
  pub of_done : {A : Type 0} (x : A) → P _ (done x)
  pub of_refused : {A : Type 0} (kind : Kind) (at : ℕ) → rank kind < 4 → P _ (refused {A = A} kind at)
  pub of_byte : P _ byte
  pub of_number : (signed : Bool) (bits : ℕ) → P _ (number signed bits)
  pub of_run : (n : ℕ) → P _ (run n)
  pub of_room : P _ room
  pub of_here : P _ here
  pub of_stop : P _ stop
  pub of_fixed : (bytes : List ℕ) → P _ (fixed bytes)
  pub of_name : P _ name

-- so of the readers of a section
pub record RowHas (P : (A : Type 0) → Reader A → Type 0) (r : Row) : Type 0 where
  pub front : (seen : Seen) → P _ (r.front seen)
  pub entry : (seen : Seen) → P _ (r.entry seen)
  pub back : P _ r.back

module _ (P : (A : Type 0) → Reader A → Type 0) (h : Composes P) where
  -- ---- fields, and sequences of them

  bind : {A B : Type 0} (p : Reader A) (f : A → Reader B) → P _ p → ((a : A) → P _ (f a)) → P _ (p >>= f)
  bind p f hp hf = h.of_bind p f hp hf

  done_has : {A : Type 0} (x : A) → P _ (done x)
  done_has x = h.of_done x

  refused_has : {A : Type 0} (kind : Kind) (at : ℕ) → rank kind < 4 → P _ (refused {A = A} kind at)
  refused_has kind at few = h.of_refused kind at few

  byte_has : P _ byte
  byte_has = h.of_byte

  number_has : (signed : Bool) (bits : ℕ) → P _ (number signed bits)
  number_has signed bits = h.of_number signed bits

  run_has : (n : ℕ) → P _ (run n)
  run_has n = h.of_run n

  room_has : P _ room
  room_has = h.of_room

  here_has : P _ here
  here_has = h.of_here

  stop_has : P _ stop
  stop_has = h.of_stop

  fixed_has : (bytes : List ℕ) → P _ (fixed bytes)
  fixed_has bytes = h.of_fixed bytes

  name_has : P _ name
  name_has = h.of_name

  pub either : {A : Type 0} (b : Bool) (p q : Reader A) → P _ p → P _ q → P _ (cond b p q)
  either true p q hp hq = hp
  either false p q hp hq = hq

  pub repeated_has : {A : Type 0} (n : ℕ) (p : Reader A) → P _ p → P _ (repeated n p)
  repeated_has zero p hp = done_has _
  repeated_has (suc n) p hp = bind p _ hp (λ x. bind (repeated n p) _ (repeated_has n p hp) (λ xs. done_has _))

  ruleset leaves = (bind, either, done_has, refused_has, malformed, unsupported, limit, invalid, wrong, wrong_after, repeated_has, byte_has, number_has, run_has, room_has, here_has, stop_has, fixed_has, name_has)

  pub u32_has : P _ u32
  unfolding u32
  u32_has = search leaves depth 40

  pub count_has : (most : ℕ) → P _ (count most)
  unfolding count
  count_has most = search (u32_has, leaves) depth 40

  pub vector_has : {A : Type 0} (counted : Reader (ℕ × ℕ)) (p : Reader A) → P _ counted → P _ p → P _ (vector counted p)
  unfolding vector
  vector_has counted p hc hp = bind counted _ hc (λ n. bind _ _ (repeated_has n.1 p hp) (λ xs. done_has _))

  pub counted_bytes_has : P _ counted_bytes
  unfolding counted_bytes
  counted_bytes_has = search (u32_has, leaves) depth 40

  ruleset fields = (u32_has, count_has, vector_has, counted_bytes_has, leaves)

  -- ---- entries

  index_has : (most : ℕ) → P _ (index most)
  unfolding index
  index_has most = search fields depth 40

  pub value_type_has : P _ value_type
  unfolding value_type
  value_type_has = search fields depth 40

  listed_type_has : P _ listed_type
  unfolding listed_type
  listed_type_has = search (value_type_has, fields) depth 40

  limits_has : (most top : ℕ) → P _ (limits most top)
  unfolding limits
  limits_has most top = search fields depth 40

  refused_opcode_has : {A : Type 0} (b : ℕ × ℕ) → P _ (refused_opcode {A = A} b)
  unfolding refused_opcode
  refused_opcode_has b = search fields depth 40

  constant_has : (ty : ValType) → P _ (constant ty)
  unfolding constant
  constant_has ty = search (refused_opcode_has, fields) depth 40

  mutability_has : P _ mutability
  unfolding mutability
  mutability_has = search fields depth 40

  extern_kind_has : P _ extern_kind
  unfolding extern_kind
  extern_kind_has = search fields depth 40

  listed_index_has : (most : ℕ) → P _ (listed_index most)
  unfolding listed_index
  listed_index_has most = search (index_has, fields) depth 40

  ruleset parts = (index_has, value_type_has, listed_type_has, limits_has, constant_has, mutability_has, extern_kind_has, listed_index_has, fields)

  signature_has : (seen : Seen) → P _ (signature seen)
  unfolding signature
  signature_has seen = search parts depth 40

  imported_has : (seen : Seen) → P _ (imported seen)
  unfolding imported
  imported_has seen = search parts depth 40

  function_has : (seen : Seen) → P _ (function seen)
  unfolding function
  function_has seen = search parts depth 40

  table_has : (seen : Seen) → P _ (table seen)
  unfolding table
  table_has seen = search parts depth 40

  memory_has : (seen : Seen) → P _ (memory seen)
  unfolding memory
  memory_has seen = search parts depth 40

  global_has : (seen : Seen) → P _ (global seen)
  unfolding global
  global_has seen = search parts depth 40

  exported_has : (seen : Seen) → P _ (exported seen)
  unfolding exported
  exported_has seen = search parts depth 40

  start_has : (seen : Seen) → P _ (start seen)
  unfolding start
  start_has seen = search parts depth 40

  element_has : (seen : Seen) → P _ (element seen)
  unfolding element
  element_has seen = search parts depth 40

  pub code_has : (seen : Seen) → P _ (code seen)
  unfolding code
  code_has seen = search parts depth 40

  data_count_has : (seen : Seen) → P _ (data_count seen)
  unfolding data_count
  data_count_has seen = search parts depth 40

  memory_of_has : (seen : Seen) (form : ℕ × ℕ) → P _ (memory_of seen form)
  unfolding memory_of
  memory_of_has seen form = search parts depth 40

  passive_has : (form : ℕ) → P _ (passive form)
  unfolding passive
  passive_has form = search parts depth 40

  segment_has : (seen : Seen) → P _ (segment seen)
  unfolding segment
  segment_has seen = search (memory_of_has, passive_has, parts) depth 40

  body_has : (counted : Bool) → P _ (body counted)
  unfolding body
  body_has counted = search parts depth 40

  pub rest_has : P _ rest_of_section
  unfolding rest_of_section
  rest_has = search parts depth 40

  number_of_has : (most : ℕ) → P _ (number_of most)
  unfolding number_of
  number_of_has most = search parts depth 40

  at_most_one_has : P _ at_most_one
  unfolding at_most_one
  at_most_one_has = search parts depth 40

  function_count_has : (seen : Seen) → P _ (function_count seen)
  unfolding function_count
  function_count_has seen = search parts depth 40

  segment_count_has : (seen : Seen) → P _ (segment_count seen)
  unfolding segment_count
  segment_count_has seen = search parts depth 40

  custom_name_has : P _ custom_name
  unfolding custom_name
  custom_name_has = search parts depth 40

  pub header_has : (seen : Seen) → P _ (header seen)
  unfolding header
  header_has seen = search parts depth 40

  pub preamble_has : P _ preamble
  unfolding preamble
  preamble_has = search parts depth 40

  -- ---- rows

  pub listed_has : (p : Reader Item) → P _ p → P _ (listed p)
  listed_has p h = bind p _ h (λ x. done_has _)

  code_entry_has : (seen : Seen) → P _ (code_entry seen)
  code_entry_has seen = either _ _ _ (body_has _) (listed_has _ (code_has seen))

  entries_have : (front : Seen → Reader ℕ) (entry : Seen → Reader Item) → ((seen : Seen) → P _ (front seen)) → ((seen : Seen) → P _ (entry seen)) → RowHas P (entries_of front entry)
  entries_have front entry hf he = record { front = hf; entry = λ s. listed_has _ (he s); back = done_has tt }

  pub either_row : (b : Bool) (p q : Row) → RowHas P p → RowHas P q → RowHas P (cond b p q)
  either_row true p q hp hq = hp
  either_row false p q hp hq = hq

  pub row_has : (id : ℕ) → RowHas P (row id)
  row_has id =
      either_row (eqb id 1) _ _ (entries_have _ _ (λ s. number_of_has _) signature_has)
      (either_row (eqb id 2) _ _ (entries_have _ _ (λ s. number_of_has _) imported_has)
      (either_row (eqb id 3) _ _ (entries_have _ _ function_count_has function_has)
      (either_row (eqb id 4) _ _ (entries_have _ _ (λ s. at_most_one_has) table_has)
      (either_row (eqb id 5) _ _ (entries_have _ _ (λ s. at_most_one_has) memory_has)
      (either_row (eqb id 6) _ _ (entries_have _ _ (λ s. number_of_has _) global_has)
      (either_row (eqb id 7) _ _ (entries_have _ _ (λ s. number_of_has _) exported_has)
      (either_row (eqb id 8) _ _ (entries_have _ _ (λ s. done_has 1) start_has)
      (either_row (eqb id 9) _ _ (entries_have _ _ (λ s. number_of_has _) element_has)
      (either_row (eqb id 10) _ _ (entries_have _ _ (λ s. done_has 1) data_count_has)
      (either_row (eqb id 11) _ _ (record { front = λ s. done_has _; entry = code_entry_has; back = done_has tt })
      (either_row (eqb id 12) _ _ (entries_have _ _ segment_count_has segment_has)
      (record { front = λ s. custom_name_has; entry = λ s. listed_has _ (start_has s); back = rest_has }))))))))))))
