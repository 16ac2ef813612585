-- Entries of the sections: each item's fields in order, and where one is refused (WebAssembly Core 1.0, 5.5).
use Rattle.std.specs.Prelude.{ℕ, ◌+◌, Bool, true, false, ◌&&◌, ◌||◌, ◌==◌, Option, Some, None, is_some, nat_lt, nat_le, if◌then◌else◌}
use Rattle.std.specs.FinMap as map
use Rattle.std.specs.Cmp.Lexicographic.{slice_cmp}
use Rattle.std.specs.Ordering.{nat_cmp}
use Rattle.wasm_defs.specs.declared.fault.Kind.{Kind}
use Rattle.wasm_defs.specs.declared.fault.Kind.TheVariants.{Malformed, Unsupported, Limit, Invalid}
use Rattle.wasm_defs.specs.declared.types.ValType.{ValType}
use Rattle.wasm_defs.specs.declared.types.ValType.TheVariants.{I32, I64}
use Rattle.wasm_defs.specs.declared.item.Extern.{Extern}
use Rattle.wasm_defs.specs.declared.item.Extern.TheVariants as extern
use Rattle.wasm_defs.specs.declared.item.Limits.{Limits}
use Rattle.wasm_defs.specs.declared.item.Constant.{Constant}
use Rattle.wasm_defs.specs.declared.item.Item.{Item}
use Rattle.wasm_defs.specs.declared.item.Item.TheVariants.{Signature, Imported, Function, Table, Memory, Global, Exported, Start, Element, Code, DataCount, Passive, Segment}
use Rattle.wasm_defs.specs.Limits.{max_params, max_results, max_entries, max_table, max_pages, top_pages, top_rows}
use Rattle.wasm_defs.specs.Fields.{Reader, ◌>>=◌, done, refused, byte, number, u32, count, vector, stop, counted_bytes, name}
use Rattle.wasm_defs.specs.Values.{bits}

-- the names that were exported, each with its offset
abbrev pub Names : Type 0
Names = map.FinMap (slice_cmp nat_cmp) ℕ

-- what the items before say of the next one: how many there are of each sort (functions: with the imported ones; declared:
-- without), the exported names, whether the code section's count came, the data count where one came, and the last section's
-- position in the order
pub record Seen : Type 0 where
  pub types : ℕ
  pub functions : ℕ
  pub declared : ℕ
  pub tables : ℕ
  pub memories : ℕ
  pub globals : ℕ
  pub names : Names
  pub counted : Bool
  pub data_count : Option ℕ
  pub last : ℕ

abbrev pub nothing : Seen
nothing = record { types = 0; functions = 0; declared = 0; tables = 0; memories = 0; globals = 0; names = map.empty; counted = false; data_count = None; last = 0 }

-- the data count, or 0 where there is none
abbrev pub or_zero : Option ℕ → ℕ
or_zero None = 0
or_zero (Some n) = n

abbrev pub note : Seen → Item → Seen
note s (Signature form params results ty) = record s { types = s.types + 1 }
note s (Imported from what kind type_index) = record s { functions = s.functions + 1 }
note s (Function type_index) = record s { functions = s.functions + 1; declared = s.declared + 1 }
note s (Table element limits) = record s { tables = s.tables + 1 }
note s (Memory limits) = record s { memories = s.memories + 1 }
note s (Global ty mutable init) = record s { globals = s.globals + 1 }
note s (Exported label kind index) = record s { names = map.insert s.names label.1 label.0 }
note s (Start index) = s
note s (Element table place functions) = s
note s (Code count end) = record s { counted = true }
note s (DataCount count) = record s { data_count = Some count.1 }
note s (Passive form bytes) = s
note s (Segment form memory place bytes) = s

-- ---- parts of entries

-- an index into so many
unfoldable pub index : ℕ → Reader (ℕ × ℕ)
index most = do
  i ← u32
  if nat_lt i.1 most then done i else refused Invalid i.0

-- a value type (5.3.1)
unfoldable pub value_type : Reader (ℕ × ValType)
value_type = do
  b ← byte
  if b.1 == 0x7F then done (b.0, I32)
      else if b.1 == 0x7E then done (b.0, I64)
      else if b.1 == 0x7D || b.1 == 0x7C then refused Unsupported b.0
      else refused Malformed b.0

-- a value type, without its offset
unfoldable pub listed_type : Reader ValType
listed_type = do
  ty ← value_type
  done ty.1

-- limits (5.3.4), with the limit on the minimum, and the greatest maximum
unfoldable pub limits : ℕ → ℕ → Reader Limits
limits most top = do
  flag ← byte
  if nat_lt 1 flag.1 then refused Malformed flag.0 else (do
    min ← u32
    if nat_lt most min.1 then refused Limit min.0
        else if flag.1 == 0 then done (record { flag = flag.0; min = min; max = None })
        else (do
          max ← u32
          if nat_lt top max.1 || nat_lt max.1 min.1 then refused Invalid max.0
              else done (record { flag = flag.0; min = min; max = Some max })))

-- between two numbers, both included
abbrev pub within : ℕ → ℕ → ℕ → Bool
within low high n = nat_le low n && nat_le n high

-- the opcodes of 1.0 (5.4), and those of sign extension
abbrev pub is_opcode : ℕ → Bool
is_opcode b = within 0x00 0x05 b || within 0x0B 0x11 b || within 0x1A 0x1B b || within 0x20 0x24 b || within 0x28 0xC4 b

-- opcodes that are left out: constants of float types
abbrev pub is_left_out : ℕ → Bool
is_left_out b = within 0x43 0x44 b

-- the same of the number after the prefix FC (Core 2.0, 5.4.5 to 5.4.7)
abbrev pub wrong_number : ℕ → Kind
wrong_number n = if within 8 11 n then Invalid else if nat_lt n 18 then Unsupported else Malformed

-- an opcode that is in a constant expression in place of the right one
abbrev pub wrong_opcode : ℕ → Kind
wrong_opcode b = if is_left_out b then Unsupported else if is_opcode b then Invalid else Malformed

abbrev pub const_opcode : ValType → ℕ
const_opcode I32 = 0x41
const_opcode I64 = 0x42

-- an opcode in place of the right one is refused at its offset; after the prefix FC its number has to be whole
unfoldable pub refused_opcode : {A : Type 0} → ℕ × ℕ → Reader A
refused_opcode b =
    if b.1 == 0xFC then (do
      n ← u32
      refused (wrong_number n.1) b.0)
    else refused (wrong_opcode b.1) b.0

-- a constant expression of a type (3.3.7, 5.4.6)
unfoldable pub constant : ValType → Reader Constant
constant ty = do
  opcode ← byte
  if opcode.1 == const_opcode ty then (do
    value ← number true (bits ty)
    end ← byte
    if end.1 == 0x0B then done (record { opcode = opcode.0; value = value; end = end.0 })
        else refused_opcode end)
      else refused_opcode opcode

-- ---- entries

-- a type (5.3.3)
unfoldable pub signature : Seen → Reader Item
signature seen = do
  form ← byte
  if form.1 == 0x60 then (do
    params ← vector (count max_params) listed_type
    out ← vector (count max_results) listed_type
    done (Signature form.0 params.0 out.0 (record { params = params.1; results = out.1 })))
      else refused Malformed form.0

unfoldable pub imported : Seen → Reader Item
imported seen = do
  from ← name
  what ← name
  kind ← byte
  if nat_lt 3 kind.1 then refused Malformed kind.0
      else if nat_lt 0 kind.1 then refused Unsupported kind.0
      else (do
        i ← index seen.types
        done (Imported from what kind.0 i))

unfoldable pub function : Seen → Reader Item
function seen = do
  i ← index seen.types
  done (Function i)

unfoldable pub table : Seen → Reader Item
table seen = do
  element ← byte
  if element.1 == 0x70 then (do
    l ← limits max_table top_rows
    done (Table element.0 l))
      else refused Malformed element.0

unfoldable pub memory : Seen → Reader Item
memory seen = do
  l ← limits max_pages top_pages
  done (Memory l)

unfoldable pub mutability : Reader (ℕ × Bool)
mutability = do
  b ← byte
  if nat_lt 1 b.1 then refused Malformed b.0 else done (b.0, b.1 == 1)

unfoldable pub global : Seen → Reader Item
global seen = do
  ty ← value_type
  mutable ← mutability
  init ← constant ty.1
  done (Global ty mutable init)

unfoldable pub extern_kind : Reader (ℕ × Extern)
extern_kind = do
  b ← byte
  if b.1 == 0 then done (b.0, extern.Function)
      else if b.1 == 1 then done (b.0, extern.Table)
      else if b.1 == 2 then done (b.0, extern.Memory)
      else if b.1 == 3 then done (b.0, extern.Global)
      else refused Malformed b.0

abbrev pub space : Seen → Extern → ℕ
space s extern.Function = s.functions
space s extern.Table = s.tables
space s extern.Memory = s.memories
space s extern.Global = s.globals

unfoldable pub exported : Seen → Reader Item
exported seen = do
  label ← name
  if is_some (map.get seen.names label.1) then refused Invalid label.0 else (do
    kind ← extern_kind
    i ← index (space seen kind.1)
    done (Exported label kind i))

unfoldable pub start : Seen → Reader Item
start seen = do
  i ← index seen.functions
  done (Start i)

-- an index, without its offset
unfoldable pub listed_index : ℕ → Reader ℕ
listed_index most = do
  i ← index most
  done i.1

unfoldable pub element : Seen → Reader Item
element seen = do
  i ← index seen.tables
  place ← constant I32
  functions ← vector u32 (listed_index seen.functions)
  done (Element i place functions)

-- the code section's count; its bodies follow
unfoldable pub code : Seen → Reader Item
code seen = do
  n ← u32
  if n.1 == seen.declared then (do
    end ← stop
    done (Code n end))
      else refused Malformed n.0

-- the data count (Core 2.0, 5.5.15)
unfoldable pub data_count : Seen → Reader Item
data_count seen = do
  n ← count max_entries
  done (DataCount n)

-- the index of an active segment's memory, which form 2 has; form 0 means the memory of index 0
unfoldable pub memory_of : Seen → ℕ × ℕ → Reader (Option (ℕ × ℕ))
memory_of seen form =
    if form.1 == 2 then (do
      i ← index seen.memories
      done (Some i))
    else if nat_lt 0 seen.memories then done None
    else refused Invalid form.0

unfoldable pub passive : ℕ → Reader Item
passive form = do
  bytes ← counted_bytes
  done (Passive form bytes)

-- a data segment has one of three forms (Core 2.0, 5.5.14): active, passive, and active with a memory's index
unfoldable pub segment : Seen → Reader Item
segment seen = do
  form ← u32
  if nat_lt 2 form.1 then refused Malformed form.0
      else if form.1 == 1 then passive form.0
      else (do
        m ← memory_of seen form
        place ← constant I32
        bytes ← counted_bytes
        done (Segment form.0 m place bytes))
