-- What a body is read by is steady: its locals, and an instruction after its opcode.
use Rattle.std.proofs.Common.{ℕ, zero, suc, ◌+◌, ◌-◌, ℤ, pos, negsuc, Bool, true, eqb, nat_lt, ◌||◌, List, ◌∷◌, Option, Some, None}
use Rattle.wasm_defs.specs.declared.fault.Kind.TheVariants.{Malformed, Unsupported}
use Rattle.wasm_defs.specs.declared.operation.Access.{Access}
use Rattle.wasm_defs.specs.declared.operation.Operation.{Operation}
use Rattle.wasm_defs.specs.declared.token.BlockType.{BlockType}
use Rattle.wasm_defs.specs.declared.token.BlockType.TheVariants.{Empty, Value, Index}
use Rattle.wasm_defs.specs.declared.token.Plain.{Plain}
use Rattle.wasm_defs.specs.declared.token.Token.{Token}
use Rattle.wasm_defs.specs.declared.types.ValType.{ValType}
use Rattle.wasm_defs.specs.declared.types.ValType.TheVariants.{I32, I64}
use Rattle.wasm_defs.specs.Fields.{u32, byte, number, here}
use Rattle.wasm_defs.specs.Bodies.{group, groups, local_groups, with_index, short_type, type_by, block_type, with_type, label, branch_table, zero_byte, indirect, with_zero, initializing, copying, by_number, prefixed, mem_arg, with_mem_arg, constant, control, variable, accessed_at, memory, operated_at, numeric, instruction}
use Rattle.wasm_laws.specs.Steadiness.{token}
use Rattle.wasm_laws.proofs.Steady.{Steady, In, here_in, bind, bind_field, either, done_steady, refused_steady}
use Rattle.wasm_laws.proofs.Windows.{byte_field, number_field}
use Rattle.wasm_laws.proofs.FieldLaws.{u32_field, here_steady}
use Rattle.wasm_laws.proofs.EntryLaws.{steady, value_type_steady}

-- ---- locals

pub group_steady : (marks : List ℕ) (declared : ℕ) → Steady marks (group declared)
unfolding group
group_steady marks declared =
    bind_field marks u32 _ u32_field (λ count. either _ _ _ _ (refused_steady _ _ _ here_in)
    (bind _ _ _ (value_type_steady _) (λ ty. done_steady _ _)))

pub groups_steady : (marks : List ℕ) (n declared : ℕ) → Steady marks (groups n declared)
groups_steady marks zero declared = done_steady marks _
groups_steady marks (suc n) declared =
    bind marks _ _ (group_steady marks declared) (λ g. bind _ _ _ (groups_steady _ n (declared + g.count)) (λ gs. done_steady _ _))

pub local_groups_steady : (marks : List ℕ) → Steady marks local_groups
unfolding local_groups
local_groups_steady marks = search (groups_steady, steady) depth 40

-- ---- immediates

pub with_index_steady : (marks : List ℕ) (make : ℕ → Plain) → Steady marks (with_index make)
unfolding with_index
with_index_steady marks make = search steady depth 40

short_type_steady : (marks : List ℕ) (at less : ℕ) → In at marks → Steady marks (short_type at less)
short_type_steady marks at less i =
    either marks (eqb less 0x3F) _ _ (done_steady marks Empty)
    (either marks (eqb less 0x00) _ _ (done_steady marks (Value I32))
    (either marks (eqb less 0x01) _ _ (done_steady marks (Value I64))
    (either marks (eqb less 0x02 || eqb less 0x03) _ _ (refused_steady marks Unsupported at i) (refused_steady marks Malformed at i))))

type_steady : (marks : List ℕ) (at bytes : ℕ) (n : ℤ) → In at marks → Steady marks (type_by at bytes n)
type_steady marks at bytes (pos x) i = done_steady marks (Index x)
type_steady marks at bytes (negsuc less) i = either marks (nat_lt 1 bytes) _ (short_type at less) (refused_steady marks Malformed at i) (short_type_steady marks at less i)

pub block_type_steady : (marks : List ℕ) → Steady marks block_type
unfolding block_type
block_type_steady marks =
    bind_field marks (number true 33) _ (number_field true 33) (λ n. bind _ here _ (here_steady _) (λ behind. type_steady _ n.0 (behind - n.0) n.1 here_in))

pub with_type_steady : (marks : List ℕ) (make : BlockType → Token) → Steady marks (with_type make)
unfolding with_type
with_type_steady marks make = search (block_type_steady, steady) depth 40

pub label_steady : (marks : List ℕ) → Steady marks label
unfolding label
label_steady marks = search steady depth 40

pub branch_table_steady : (marks : List ℕ) → Steady marks branch_table
unfolding branch_table
branch_table_steady marks = search (label_steady, steady) depth 40

pub zero_byte_steady : (marks : List ℕ) → Steady marks zero_byte
unfolding zero_byte
zero_byte_steady marks = search steady depth 40

pub indirect_steady : (marks : List ℕ) → Steady marks indirect
unfolding indirect
indirect_steady marks = search steady depth 40

pub with_zero_steady : (marks : List ℕ) (p : Plain) → Steady marks (with_zero p)
unfolding with_zero
with_zero_steady marks p = search (zero_byte_steady, steady) depth 40

pub copying_steady : (marks : List ℕ) → Steady marks copying
unfolding copying
copying_steady marks = search (zero_byte_steady, steady) depth 40

pub initializing_steady : (marks : List ℕ) → Steady marks initializing
unfolding initializing
initializing_steady marks = search (zero_byte_steady, steady) depth 40

pub mem_arg_steady : (marks : List ℕ) → Steady marks mem_arg
unfolding mem_arg
mem_arg_steady marks = search steady depth 40

pub with_mem_arg_steady : (marks : List ℕ) (op : Access) → Steady marks (with_mem_arg op)
unfolding with_mem_arg
with_mem_arg_steady marks op = search (mem_arg_steady, steady) depth 40

pub constant_steady : (marks : List ℕ) (ty : ValType) → Steady marks (constant ty)
unfolding constant
constant_steady marks ty = search steady depth 40

pub ruleset immediates = (with_index_steady, with_type_steady, branch_table_steady, indirect_steady, with_zero_steady, with_mem_arg_steady, constant_steady, steady)

-- ---- instructions, whose opcode is a mark

pub control_steady : (marks : List ℕ) (at b : ℕ) → In at marks → Steady marks (control at b)
unfolding control
control_steady marks at b i = search immediates depth 40

pub variable_steady : (marks : List ℕ) (at b : ℕ) → In at marks → Steady marks (variable at b)
unfolding variable
variable_steady marks at b i = search immediates depth 40

pub accessed_at_steady : (marks : List ℕ) (at : ℕ) (row : Option (Option Access)) → In at marks → Steady marks (accessed_at at row)
accessed_at_steady marks at None i = refused_steady marks _ at i
accessed_at_steady marks at (Some None) i = refused_steady marks _ at i
accessed_at_steady marks at (Some (Some op)) i = with_mem_arg_steady marks op

pub memory_steady : (marks : List ℕ) (at b : ℕ) → In at marks → Steady marks (memory at b)
unfolding memory
memory_steady marks at b i = search (accessed_at_steady, immediates) depth 40

pub by_number_steady : (marks : List ℕ) (counted : Bool) (at n : ℕ) → In at marks → Steady marks (by_number counted at n)
unfolding by_number
by_number_steady marks counted at n i = search (initializing_steady, copying_steady, immediates) depth 40

pub prefixed_steady : (marks : List ℕ) (counted : Bool) (at : ℕ) → In at marks → Steady marks (prefixed counted at)
unfolding prefixed
prefixed_steady marks counted at i = search (by_number_steady, steady) depth 40

pub operated_at_steady : (marks : List ℕ) (counted : Bool) (at b : ℕ) (row : Option (Option Operation)) → In at marks → Steady marks (operated_at counted at b row)
operated_at_steady marks counted at b None i = either marks _ _ _ (prefixed_steady marks counted at i) (refused_steady marks _ at i)
operated_at_steady marks counted at b (Some None) i = refused_steady marks _ at i
operated_at_steady marks counted at b (Some (Some op)) i = done_steady marks _

pub numeric_steady : (marks : List ℕ) (counted : Bool) (at b : ℕ) → In at marks → Steady marks (numeric counted at b)
unfolding numeric
numeric_steady marks counted at b i = search (operated_at_steady, immediates) depth 40

pub instruction_steady : (marks : List ℕ) (counted : Bool) (at b : ℕ) → In at marks → Steady marks (instruction counted at b)
unfolding instruction
instruction_steady marks counted at b i = search (control_steady, variable_steady, memory_steady, numeric_steady, immediates) depth 40

-- an opcode and its instruction
pub token_steady : (marks : List ℕ) (counted : Bool) → Steady marks (token counted)
token_steady marks counted = bind_field marks byte _ byte_field (λ b. instruction_steady (b.0 ∷ marks) counted b.0 b.1 here_in)
