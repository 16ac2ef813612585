-- A body's fields: its locals, and its tokens up to the `end` that closes it (WebAssembly Core 1.0, 5.4 and 5.5.13).
use Rattle.std.specs.Prelude.{ℕ, zero, suc, ◌+◌, ◌-◌, ℤ, pos, negsuc, Bool, ◌||◌, ◌==◌, true, List, [], ◌∷◌, length, Option, None, Some, slice_get, nat_lt, if◌then◌else◌}
use Rattle.wasm_defs.specs.declared.fault.Kind.TheVariants.{Malformed, Unsupported, Limit}
use Rattle.wasm_defs.specs.declared.fault.Refusal.{Refusal}
use Rattle.wasm_defs.specs.declared.types.ValType.{ValType}
use Rattle.wasm_defs.specs.declared.types.ValType.TheVariants.{I32, I64}
use Rattle.wasm_defs.specs.declared.operation.Operation.{Operation}
use Rattle.wasm_defs.specs.declared.operation.Access.{Access}
use Rattle.wasm_defs.specs.declared.operation.Access.TheVariants as access
use Rattle.wasm_defs.specs.declared.token.BlockType.{BlockType}
use Rattle.wasm_defs.specs.declared.token.BlockType.TheVariants.{Empty, Value, Index}
use Rattle.wasm_defs.specs.declared.token.MemArg.{MemArg}
use Rattle.wasm_defs.specs.declared.token.BulkOp.TheVariants.{Fill, Copy, Init}
use Rattle.wasm_defs.specs.declared.token.Plain.{Plain}
use Rattle.wasm_defs.specs.declared.token.Plain.TheVariants.{Unreachable, Nop, Br, BrIf, BrTable, Return, Call, CallIndirect, Drop, Select, LocalGet, LocalSet, LocalTee, GlobalGet, GlobalSet, Load, Store, MemorySize, MemoryGrow, Bulk, DataDrop, Const, Numeric}
use Rattle.wasm_defs.specs.declared.token.Token.{Token}
use Rattle.wasm_defs.specs.declared.token.Token.TheVariants as token
use Rattle.wasm_defs.specs.Limits.{max_locals}
use Rattle.wasm_defs.specs.Opcodes.{operations, accesses}
use Rattle.wasm_defs.specs.Fields.{Cursor, Read, Got, Fault, Wants, Reader, ◌>>=◌, done, refused, byte, number, u32, vector, here}
use Rattle.wasm_defs.specs.Entries.{value_type}
use Rattle.wasm_defs.specs.Outside.{Nothing}
use Rattle.wasm_defs.specs.Values.{bits}

-- ---- locals (5.5.13)

-- so many locals of one type
pub record Group : Type 0 where
  pub count : ℕ
  pub ty : ValType

-- a group, after that many locals were declared; a count that passes the limit is refused before its type is read
unfoldable pub group : ℕ → Reader Group
group declared = do
  count ← u32
  if nat_lt max_locals (declared + count.1) then refused Limit count.0 else (do
    ty ← value_type
    done (record { count = count.1; ty = ty.1 }))

abbrev pub groups : ℕ → ℕ → Reader (List Group)
groups zero declared = done []
groups (suc n) declared = do
  g ← group declared
  gs ← groups n (declared + g.count)
  done (g ∷ gs)

unfoldable pub local_groups : Reader (List Group)
local_groups = do
  n ← u32
  groups n.1 0

-- ---- immediates

abbrev pub plain : Plain → Reader Token
plain p = done (token.Plain p)

unfoldable pub with_index : (ℕ → Plain) → Reader Token
with_index make = do
  i ← u32
  plain (make i.1)

-- a block's type (Core 2.0, 5.4.1) is a number of 33 bits: the index of a type; or a negative one of one byte, 40 where there is no
-- result, or the value type of one. That byte is 7F less so much

abbrev pub short_type : (at less : ℕ) → Reader BlockType
short_type at less =
    if less == 0x3F then done Empty
    else if less == 0x00 then done (Value I32)
    else if less == 0x01 then done (Value I64)
    else if less == 0x02 || less == 0x03 then refused Unsupported at
    else refused Malformed at

-- by the number of its bytes, and what they encode
abbrev pub type_by : (at bytes : ℕ) → ℤ → Reader BlockType
type_by at bytes (pos i) = done (Index i)
type_by at bytes (negsuc less) = if nat_lt 1 bytes then refused Malformed at else short_type at less

unfoldable pub block_type : Reader BlockType
block_type = do
  n ← number true 33
  behind ← here
  type_by n.0 (behind - n.0) n.1

unfoldable pub with_type : (BlockType → Token) → Reader Token
with_type make = do
  t ← block_type
  done (make t)

unfoldable pub label : Reader ℕ
label = do
  l ← u32
  done l.1

-- the labels of a `br_table`, and its last one
unfoldable pub branch_table : Reader Token
branch_table = do
  labels ← vector u32 label
  last ← label
  plain (BrTable labels.1 last)

-- a byte that has to be zero
unfoldable pub zero_byte : Reader Nothing
zero_byte = do
  b ← byte
  if b.1 == 0 then done tt else refused Malformed b.0

-- the type, and the table (Core 2.0, 5.4.1)
unfoldable pub indirect : Reader Token
indirect = do
  i ← u32
  table ← u32
  plain (CallIndirect i.1 table.1)

unfoldable pub with_zero : Plain → Reader Token
with_zero p = do
  x ← zero_byte
  plain p

unfoldable pub mem_arg : Reader MemArg
mem_arg = do
  align ← u32
  offset ← u32
  done (record { align = align.1; offset = offset.1 })

abbrev pub accessed : Access → MemArg → Plain
accessed (access.Load op) m = Load op m
accessed (access.Store op) m = Store op m

unfoldable pub with_mem_arg : Access → Reader Token
with_mem_arg op = do
  m ← mem_arg
  plain (accessed op m)

unfoldable pub constant : ValType → Reader Token
constant ty = do
  n ← number true (bits ty)
  plain (Const ty n.1)

-- ---- instructions, after an opcode b at an offset

-- control and parametric instructions (5.4.1, 5.4.2)
unfoldable pub control : ℕ → ℕ → Reader Token
control at b =
    if b == 0x00 then plain Unreachable
    else if b == 0x01 then plain Nop
    else if b == 0x02 then with_type token.Block
    else if b == 0x03 then with_type token.Loop
    else if b == 0x04 then with_type token.If
    else if b == 0x05 then done token.Else
    else if b == 0x0B then done token.End
    else if b == 0x0C then with_index Br
    else if b == 0x0D then with_index BrIf
    else if b == 0x0E then branch_table
    else if b == 0x0F then plain Return
    else if b == 0x10 then with_index Call
    else if b == 0x11 then indirect
    else if b == 0x1A then plain Drop
    else if b == 0x1B then plain Select
    else refused Malformed at

-- variable instructions (5.4.3)
unfoldable pub variable : ℕ → ℕ → Reader Token
variable at b =
    if b == 0x20 then with_index LocalGet
    else if b == 0x21 then with_index LocalSet
    else if b == 0x22 then with_index LocalTee
    else if b == 0x23 then with_index GlobalGet
    else if b == 0x24 then with_index GlobalSet
    else refused Malformed at

abbrev pub accessed_at : ℕ → Option (Option Access) → Reader Token
accessed_at at None = refused Malformed at
accessed_at at (Some None) = refused Unsupported at
accessed_at at (Some (Some op)) = with_mem_arg op

-- memory instructions (5.4.4)
unfoldable pub memory : ℕ → ℕ → Reader Token
memory at b =
    if b == 0x3F then with_zero MemorySize
    else if b == 0x40 then with_zero MemoryGrow
    else accessed_at at (slice_get accesses (b - 0x28))

-- two memories, which both have the index 0
unfoldable pub copying : Reader Token
copying = do
  first ← zero_byte
  second ← zero_byte
  plain (Bulk Copy)

-- a data segment, and the memory, whose index is 0
unfoldable pub initializing : Reader Token
initializing = do
  segment ← u32
  memory ← zero_byte
  plain (Bulk (Init segment.1))

-- an instruction on data segments is there only where the module counts them (Core 2.0, 5.5.16)
abbrev pub if_counted : Bool → ℕ → Reader Token → Reader Token
if_counted counted at p = if counted then p else refused Malformed at

-- after the prefix FC, by the number that follows it (Core 2.0, 5.4.5 to 5.4.7)
unfoldable pub by_number : Bool → ℕ → ℕ → Reader Token
by_number counted at n =
    if n == 8 then if_counted counted at initializing
    else if n == 9 then if_counted counted at (with_index DataDrop)
    else if n == 10 then copying
    else if n == 11 then with_zero (Bulk Fill)
    else if nat_lt n 18 then refused Unsupported at
    else refused Malformed at

unfoldable pub prefixed : Bool → ℕ → Reader Token
prefixed counted at = do
  n ← u32
  by_number counted at n.1

-- after the table of operations nothing but the prefix FC is an opcode
abbrev pub past_table : Bool → ℕ → ℕ → Reader Token
past_table counted at b = if b == 0xFC then prefixed counted at else refused Malformed at

abbrev pub operated_at : Bool → ℕ → ℕ → Option (Option Operation) → Reader Token
operated_at counted at b None = past_table counted at b
operated_at counted at b (Some None) = refused Unsupported at
operated_at counted at b (Some (Some op)) = plain (Numeric op)

-- numeric instructions (5.4.5)
unfoldable pub numeric : Bool → ℕ → ℕ → Reader Token
numeric counted at b =
    if b == 0x41 then constant I32
    else if b == 0x42 then constant I64
    else if nat_lt b 0x45 then refused Unsupported at
    else operated_at counted at b (slice_get operations (b - 0x45))

-- in a module that counts its data segments, or doesn't
unfoldable pub instruction : Bool → ℕ → ℕ → Reader Token
instruction counted at b =
    if nat_lt b 0x20 then control at b
    else if nat_lt b 0x28 then variable at b
    else if nat_lt b 0x41 then memory at b
    else numeric counted at b

-- ---- a body's tokens

-- how many blocks are open after a token, the body's own among them
abbrev pub depth_after : Token → ℕ → ℕ
depth_after (token.Plain p) depth = depth
depth_after (token.Block t) depth = suc depth
depth_after (token.Loop t) depth = suc depth
depth_after (token.If t) depth = suc depth
depth_after token.Else depth = depth
depth_after token.End depth = depth - 1

-- the tokens that are whole, each with the offset of its opcode; and the first error of encoding: none where the last token closes
-- the body, and nothing is left
pub record Spelled : Type 0 where
  pub tokens : List (ℕ × Token)
  pub fault : Option Refusal

abbrev pub stops : Option Refusal → Spelled
stops fault = record { tokens = []; fault = fault }

abbrev pub malformed_at : ℕ → Spelled
malformed_at at = stops (Some (record { offset = at; kind = Malformed }))

-- bytes after the `end` that closes the body are malformed at the first of them
abbrev pub closed : ℕ → List ℕ → Spelled
closed at [] = stops None
closed at (b ∷ bytes) = malformed_at at

abbrev pub after_token : ℕ → Token → Spelled → Spelled
after_token at t s = record s { tokens = (at, t) ∷ s.tokens }

-- an error stops reading; where bytes are owed, the missing `end` is malformed at the body's last byte
abbrev pub goes_on : {A : Type 0} → ℕ → Read A → (A → Cursor → Spelled) → Spelled
goes_on last (Got x c) f = f x c
goes_on last (Fault r) f = stops (Some r)
goes_on last Wants f = malformed_at last

-- at most so many tokens, with so many blocks open
unfoldable pub spelled_from : Bool → ℕ → ℕ → ℕ → Cursor → Spelled
spelled_from counted zero depth last c = malformed_at last
spelled_from counted (suc n) zero last c = closed c.at c.rest
spelled_from counted (suc n) (suc depth) last c =
    goes_on last (byte c) (λ b d.
    goes_on last (instruction counted b.0 b.1 d) (λ t e. after_token b.0 t (spelled_from counted n (depth_after t (suc depth)) last e)))

-- in a body a field is never cut off by an end that is near, but by the bytes alone
abbrev pub body_cursor : ℕ → List ℕ → Cursor
body_cursor first bytes = record { at = first; rest = bytes; end = first + length bytes + 1 }

abbrev pub last_of : ℕ → List ℕ → ℕ
last_of first bytes = first + (length bytes - 1)

pub record BodyRead : Type 0 where
  pub groups : List Group
  pub code : Spelled

abbrev pub no_code : Spelled → BodyRead
no_code s = record { groups = []; code = s }

abbrev pub read_code : Bool → ℕ → Read (List Group) → ℕ → BodyRead
read_code counted last (Got gs c) n = record { groups = gs; code = spelled_from counted n 1 last c }
read_code counted last (Fault r) n = no_code (stops (Some r))
read_code counted last Wants n = no_code (malformed_at last)

-- a body whose first byte has that offset, in a module that counts its data segments or doesn't; each token takes a byte
abbrev pub body_read : Bool → ℕ → List ℕ → BodyRead
body_read counted first bytes = read_code counted (last_of first bytes) (local_groups (body_cursor first bytes)) (length bytes + 1)
