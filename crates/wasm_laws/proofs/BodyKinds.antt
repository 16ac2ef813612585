-- The error that stops reading, of a body or of what is outside bodies, isn't Ended.
use Rattle.std.proofs.Common.{◌≡◌, ◌<◌, ℕ, zero, suc, ◌+◌, ◌-◌, ℤ, pos, negsuc, Bool, true, eqb, nat_lt, ◌||◌, List, [], ◌∷◌, length, Option, Some, None, subst, inl, inr}
use Rattle.std.proofs.lemmas.Bool.{cases_Bool}
use Rattle.wasm_defs.specs.declared.fault.Kind.TheVariants.{Malformed, Unsupported}
use Rattle.wasm_defs.specs.declared.fault.Refusal.{Refusal}
use Rattle.wasm_defs.specs.declared.operation.Access.{Access}
use Rattle.wasm_defs.specs.declared.operation.Operation.{Operation}
use Rattle.wasm_defs.specs.declared.token.BlockType.{BlockType}
use Rattle.wasm_defs.specs.declared.token.BlockType.TheVariants.{Empty, Value, Index}
use Rattle.wasm_defs.specs.declared.token.Plain.{Plain}
use Rattle.wasm_defs.specs.declared.token.Token.{Token}
use Rattle.wasm_defs.specs.declared.types.ValType.{ValType}
use Rattle.wasm_defs.specs.declared.types.ValType.TheVariants.{I32, I64}
use Rattle.wasm_defs.specs.Fields.{Cursor, Read, Got, Fault, Wants, byte}
use Rattle.wasm_defs.specs.Entries.{Seen, nothing}
use Rattle.wasm_defs.specs.Bodies.{Group, Spelled, group, groups, local_groups, with_index, short_type, type_by, block_type, with_type, label, branch_table, zero_byte, indirect, with_zero, initializing, copying, by_number, prefixed, mem_arg, with_mem_arg, constant, control, variable, accessed_at, memory, operated_at, numeric, instruction, malformed_at, closed, goes_on, depth_after, spelled_from, read_code, last_of, body_cursor, body_read}
use Rattle.wasm_defs.specs.Outside.{Row, row, entered, noted, inside, Ending, Whole, Refused, Owed, Run, runs_on, Next, finish, entries, contents, section, owes, or_section, sections_up_to, beginning, module_read}
use Rattle.wasm_defs.specs.Faults.{rank}
use Rattle.wasm_laws.proofs.FieldKinds.{Lasts, Lasting, lasting, value_type_lasts, bind, done_lasts, refused_lasts, either, byte_lasts, number_lasts, here_lasts, header_lasts, preamble_lasts, end_lasts, row_lasts, AsLasting}
use Rattle.wasm_laws.proofs.EachReader.{RowHas, unsupported, malformed}

-- ---- locals

group_lasts : (declared : ℕ) → Lasting (group declared)
unfolding group
group_lasts declared = search (value_type_lasts, lasting) depth 40

groups_last : (n declared : ℕ) → Lasting (groups n declared)
groups_last zero declared = done_lasts _
groups_last (suc n) declared = bind _ _ (group_lasts declared) (λ g. bind _ _ (groups_last n (declared + g.count)) (λ gs. done_lasts _))

local_groups_last : Lasting local_groups
unfolding local_groups
local_groups_last = search (groups_last, lasting) depth 40

-- ---- immediates

with_index_lasts : (make : ℕ → Plain) → Lasting (with_index make)
unfolding with_index
with_index_lasts make = search lasting depth 40

short_type_lasts : (at less : ℕ) → Lasting (short_type at less)
short_type_lasts at less =
    either (eqb less 0x3F) _ _ (done_lasts Empty)
    (either (eqb less 0x00) _ _ (done_lasts (Value I32))
    (either (eqb less 0x01) _ _ (done_lasts (Value I64)) (either (eqb less 0x02 || eqb less 0x03) _ _ (refused_lasts Unsupported at unsupported) (refused_lasts Malformed at malformed))))

type_lasts : (at bytes : ℕ) (n : ℤ) → Lasting (type_by at bytes n)
type_lasts at bytes (pos i) = done_lasts (Index i)
type_lasts at bytes (negsuc less) = either (nat_lt 1 bytes) _ (short_type at less) (refused_lasts Malformed at malformed) (short_type_lasts at less)

block_type_lasts : Lasting block_type
unfolding block_type
block_type_lasts = bind _ _ (number_lasts true 33) (λ n. bind _ _ here_lasts (λ behind. type_lasts n.0 (behind - n.0) n.1))

with_type_lasts : (make : BlockType → Token) → Lasting (with_type make)
unfolding with_type
with_type_lasts make = search (block_type_lasts, lasting) depth 40

label_lasts : Lasting label
unfolding label
label_lasts = search lasting depth 40

branch_table_lasts : Lasting branch_table
unfolding branch_table
branch_table_lasts = search (label_lasts, lasting) depth 40

zero_byte_lasts : Lasting zero_byte
unfolding zero_byte
zero_byte_lasts = bind _ _ byte_lasts (λ b. either _ _ _ (done_lasts tt) (refused_lasts _ b.0 malformed))

indirect_lasts : Lasting indirect
unfolding indirect
indirect_lasts = search lasting depth 40

with_zero_lasts : (p : Plain) → Lasting (with_zero p)
unfolding with_zero
with_zero_lasts p = search (zero_byte_lasts, lasting) depth 40

initializing_lasts : Lasting initializing
unfolding initializing
initializing_lasts = search (zero_byte_lasts, lasting) depth 40

copying_lasts : Lasting copying
unfolding copying
copying_lasts = search (zero_byte_lasts, lasting) depth 40

mem_arg_lasts : Lasting mem_arg
unfolding mem_arg
mem_arg_lasts = search lasting depth 40

with_mem_arg_lasts : (op : Access) → Lasting (with_mem_arg op)
unfolding with_mem_arg
with_mem_arg_lasts op = search (mem_arg_lasts, lasting) depth 40

constant_lasts : (ty : ValType) → Lasting (constant ty)
unfolding constant
constant_lasts ty = search lasting depth 40

ruleset immediates = (with_index_lasts, with_type_lasts, branch_table_lasts, indirect_lasts, with_zero_lasts, with_mem_arg_lasts, constant_lasts, lasting)

-- ---- instructions

control_lasts : (at b : ℕ) → Lasting (control at b)
unfolding control
control_lasts at b = search immediates depth 40

variable_lasts : (at b : ℕ) → Lasting (variable at b)
unfolding variable
variable_lasts at b = search immediates depth 40

accessed_lasts : (at : ℕ) (row : Option (Option Access)) → Lasting (accessed_at at row)
accessed_lasts at None = refused_lasts _ at malformed
accessed_lasts at (Some None) = refused_lasts _ at unsupported
accessed_lasts at (Some (Some op)) = with_mem_arg_lasts op

memory_lasts : (at b : ℕ) → Lasting (memory at b)
unfolding memory
memory_lasts at b = search (accessed_lasts, immediates) depth 40

by_number_lasts : (counted : Bool) (at n : ℕ) → Lasting (by_number counted at n)
unfolding by_number
by_number_lasts counted at n = search (initializing_lasts, copying_lasts, immediates) depth 40

prefixed_lasts : (counted : Bool) (at : ℕ) → Lasting (prefixed counted at)
unfolding prefixed
prefixed_lasts counted at = search (by_number_lasts, lasting) depth 40

operated_lasts : (counted : Bool) (at b : ℕ) (row : Option (Option Operation)) → Lasting (operated_at counted at b row)
operated_lasts counted at b None = either _ _ _ (prefixed_lasts counted at) (refused_lasts _ at malformed)
operated_lasts counted at b (Some None) = refused_lasts _ at unsupported
operated_lasts counted at b (Some (Some op)) = done_lasts _

numeric_lasts : (counted : Bool) (at b : ℕ) → Lasting (numeric counted at b)
unfolding numeric
numeric_lasts counted at b = search (operated_lasts, immediates) depth 40

instruction_lasts : (counted : Bool) (at b : ℕ) → Lasting (instruction counted at b)
unfolding instruction
instruction_lasts counted at b = search (control_lasts, variable_lasts, memory_lasts, numeric_lasts, immediates) depth 40

-- ---- bodies

abbrev SpellingLasts : Spelled → Type 0
SpellingLasts s = (r : Refusal) → s.fault ≡ Some r → rank r.kind < 4

malformed_lasts : (at : ℕ) → SpellingLasts (malformed_at at)
malformed_lasts at r e = let same : record { offset = at; kind = Malformed } ≡ r = cc in subst (λ (x : Refusal). rank x.kind < 4) same malformed

stop_lasts : (s r : Refusal) → rank s.kind < 4 → Some s ≡ Some r → rank r.kind < 4
stop_lasts s r h e = let same : s ≡ r = cc in subst (λ (x : Refusal). rank x.kind < 4) same h

goes_lasts : {A : Type 0} (last : ℕ) (x : Read A) (f : A → Cursor → Spelled) → Lasts x → ((a : A) (d : Cursor) → SpellingLasts (f a d)) → SpellingLasts (goes_on last x f)
goes_lasts last (Got a d) f h k = k a d
goes_lasts last (Fault s) f h k = λ r e. stop_lasts s r h e
goes_lasts last Wants f h k = malformed_lasts last

closed_lasts : (at : ℕ) (rest : List ℕ) → SpellingLasts (closed at rest)
closed_lasts at [] r e = absurd cc
closed_lasts at (b ∷ rest) r e = malformed_lasts at r e

spelled_lasts : (counted : Bool) (n depth last : ℕ) (c : Cursor) → SpellingLasts (spelled_from counted n depth last c)
unfolding spelled_from
spelled_lasts counted zero depth last c = malformed_lasts last
spelled_lasts counted (suc n) zero last c = closed_lasts c.at c.rest
spelled_lasts counted (suc n) (suc depth) last c =
    goes_lasts last (byte c) _ (byte_lasts.by c)
    (λ b d. goes_lasts last (instruction counted b.0 b.1 d) _ ((instruction_lasts counted b.0 b.1).by d) (λ t e. spelled_lasts counted n (depth_after t (suc depth)) last e))

code_lasts : (counted : Bool) (last : ℕ) (x : Read (List Group)) (n : ℕ) → Lasts x → SpellingLasts (read_code counted last x n).code
code_lasts counted last (Got gs c) n h = spelled_lasts counted n 1 last c
code_lasts counted last (Fault s) n h = λ r e. stop_lasts s r h e
code_lasts counted last Wants n h = malformed_lasts last

pub body_fault_lasts : (counted : Bool) (first : ℕ) (bytes : List ℕ) → SpellingLasts (body_read counted first bytes).code
body_fault_lasts counted first bytes = code_lasts counted (last_of first bytes) (local_groups (body_cursor first bytes)) (length bytes + 1) (local_groups_last.by (body_cursor first bytes))

-- ---- modules

abbrev pub EndingLasts : Ending → Type 0
EndingLasts (Whole seen) = Unit {0}
EndingLasts (Refused r) = rank r.kind < 4
EndingLasts Owed = Unit {0}

runs_last : {A : Type 0} (x : Read A) (f : A → Cursor → Run) → Lasts x → ((a : A) (d : Cursor) → EndingLasts (f a d).ending) → EndingLasts (runs_on x f).ending
runs_last (Got a d) f h k = k a d
runs_last (Fault r) f h k = h
runs_last Wants f h k = tt

abbrev LastingNext : Next → Type 0
LastingNext next = (seen : Seen) (c : Cursor) → EndingLasts (next seen c).ending

module _ (r : Row) (lasts : RowHas AsLasting r) (next : Next) (h : LastingNext next) where
  finish_lasts : LastingNext (finish r next)
  finish_lasts seen c = runs_last _ _ (lasts.back.by c) (λ x d. runs_last _ _ (end_lasts.by d) (λ y e. h seen e))

  entries_last : (n : ℕ) → LastingNext (entries n r next)
  entries_last zero seen c = finish_lasts seen c
  entries_last (suc n) seen c = runs_last _ _ ((lasts.entry seen).by c) (λ x d. entries_last n (noted seen x) d)

  contents_last : LastingNext (contents r next)
  contents_last seen c = runs_last _ _ ((lasts.front seen).by c) (λ n d. entries_last n seen d)

section_lasts : (next : Next) → LastingNext next → LastingNext (section next)
section_lasts next h seen c = runs_last _ _ ((header_lasts seen).by c) (λ x d. contents_last (row x.0) (row_lasts x.0) next h (entered seen x.0) (inside d x.1))

or_lasts : (next : Next) → LastingNext next → (seen : Seen) (c : Cursor) (rest : List ℕ) → EndingLasts (or_section next seen c rest).ending
or_lasts next h seen c [] = elim (cases_Bool (owes seen)) [ inl e ↦ rw e tt | inr e ↦ rw e tt ]
or_lasts next h seen c (b ∷ rest) = section_lasts next h seen c

up_to_lasts : (n : ℕ) → LastingNext (sections_up_to n)
unfolding sections_up_to
up_to_lasts zero seen c = tt
up_to_lasts (suc n) seen c = or_lasts (sections_up_to n) (up_to_lasts n) seen c c.rest

pub module_lasts : (bytes : List ℕ) → EndingLasts (module_read bytes).ending
module_lasts bytes = runs_last _ _ (preamble_lasts.by (beginning bytes)) (λ x c. up_to_lasts (length c.rest + 1) nothing c)
