-- Entries of sections, and what is before and after them, are steady.
use Rattle.std.proofs.Common.{ℕ, Bool, List}
use Rattle.wasm_defs.specs.declared.types.ValType.{ValType}
use Rattle.wasm_defs.specs.Entries.{Seen, index, value_type, listed_type, limits, refused_opcode, constant, mutability, extern_kind, start, listed_index, code, memory_of, passive}
use Rattle.wasm_defs.specs.Outside.{rest_of_section, number_of, at_most_one, function_count, segment_count, custom_name, body, header, preamble}
use Rattle.wasm_laws.proofs.Steady.{Steady, In}
use Rattle.wasm_laws.proofs.FieldLaws.{readers, count_steady, vector_steady, counted_bytes_steady}
use Rattle.wasm_laws.proofs.Names.{name_field}

pub ruleset steady = (name_field, readers, count_steady, vector_steady, counted_bytes_steady)

-- ---- parts of entries

pub index_steady : (marks : List ℕ) (most : ℕ) → Steady marks (index most)
unfolding index
index_steady marks most = search steady depth 40

pub value_type_steady : (marks : List ℕ) → Steady marks value_type
unfolding value_type
value_type_steady marks = search steady depth 40

pub listed_type_steady : (marks : List ℕ) → Steady marks listed_type
unfolding listed_type
listed_type_steady marks = search (value_type_steady, steady) depth 40

pub limits_steady : (marks : List ℕ) (most top : ℕ) → Steady marks (limits most top)
unfolding limits
limits_steady marks most top = search steady depth 40

refused_opcode_steady : {A : Type 0} (marks : List ℕ) (b : ℕ × ℕ) → In b.0 marks → Steady marks (refused_opcode {A = A} b)
unfolding refused_opcode
refused_opcode_steady marks b i = search steady depth 40

pub constant_steady : (marks : List ℕ) (ty : ValType) → Steady marks (constant ty)
unfolding constant
constant_steady marks ty = search (refused_opcode_steady, steady) depth 40

pub mutability_steady : (marks : List ℕ) → Steady marks mutability
unfolding mutability
mutability_steady marks = search steady depth 40

pub extern_kind_steady : (marks : List ℕ) → Steady marks extern_kind
unfolding extern_kind
extern_kind_steady marks = search steady depth 40

pub listed_index_steady : (marks : List ℕ) (most : ℕ) → Steady marks (listed_index most)
unfolding listed_index
listed_index_steady marks most = search (index_steady, steady) depth 40

pub memory_of_steady : (marks : List ℕ) (seen : Seen) (form : ℕ × ℕ) → In form.0 marks → Steady marks (memory_of seen form)
unfolding memory_of
memory_of_steady marks seen form i = search (index_steady, steady) depth 40

pub passive_steady : (marks : List ℕ) (form : ℕ) → Steady marks (passive form)
unfolding passive
passive_steady marks form = search steady depth 40

pub ruleset parts = (memory_of_steady, passive_steady, index_steady, value_type_steady, listed_type_steady, limits_steady, constant_steady, mutability_steady, extern_kind_steady, listed_index_steady, steady)

-- ---- entries

pub start_steady : (marks : List ℕ) (seen : Seen) → Steady marks (start seen)
unfolding start
start_steady marks seen = search parts depth 40

pub code_steady : (marks : List ℕ) (seen : Seen) → Steady marks (code seen)
unfolding code
code_steady marks seen = search parts depth 40

pub body_steady : (marks : List ℕ) (counted : Bool) → Steady marks (body counted)
unfolding body
body_steady marks counted = search parts depth 40

-- ---- what comes before and after entries

pub rest_steady : (marks : List ℕ) → Steady marks rest_of_section
unfolding rest_of_section
rest_steady marks = search parts depth 40

pub number_of_steady : (marks : List ℕ) (most : ℕ) → Steady marks (number_of most)
unfolding number_of
number_of_steady marks most = search parts depth 40

pub at_most_one_steady : (marks : List ℕ) → Steady marks at_most_one
unfolding at_most_one
at_most_one_steady marks = search parts depth 40

pub function_count_steady : (marks : List ℕ) (seen : Seen) → Steady marks (function_count seen)
unfolding function_count
function_count_steady marks seen = search parts depth 40

pub segment_count_steady : (marks : List ℕ) (seen : Seen) → Steady marks (segment_count seen)
unfolding segment_count
segment_count_steady marks seen = search parts depth 40

pub custom_name_steady : (marks : List ℕ) → Steady marks custom_name
unfolding custom_name
custom_name_steady marks = search parts depth 40

pub header_steady : (marks : List ℕ) (seen : Seen) → Steady marks (header seen)
unfolding header
header_steady marks seen = search parts depth 40

pub preamble_steady : (marks : List ℕ) → Steady marks preamble
unfolding preamble
preamble_steady marks = search parts depth 40
