-- A module's context: what its items declare, each list the items of that sort in order (WebAssembly Core 1.0, 3.1 and
-- 3.4.10).
use Rattle.std.specs.Prelude.{ℕ, suc, ◌+◌, List, [], ◌∷◌, ◌++◌, length, replicate, reverse, Option, None, Some, slice_get, if◌then◌else◌}
use Rattle.wasm_defs.specs.Entries.{or_zero}
use Rattle.wasm_defs.specs.declared.context.GlobalType.{GlobalType}
use Rattle.wasm_defs.specs.declared.item.Item.{Item}
use Rattle.wasm_defs.specs.declared.item.Item.TheVariants.{Signature, Imported, Function, Table, Memory, Global, DataCount, Passive, Segment}
use Rattle.wasm_defs.specs.declared.item.Limits.{Limits}
use Rattle.wasm_defs.specs.declared.types.FuncType.{FuncType}
use Rattle.wasm_defs.specs.Bodies.{Group}
use Rattle.wasm_defs.specs.Typing.{Types, Context, function_type, same_function_types}

abbrev pub types_of : List Item → List FuncType
types_of [] = []
types_of (Signature form params results ty ∷ xs) = ty ∷ types_of xs
types_of (_ ∷ xs) = types_of xs

-- the types of the functions, by their indices; imports are before declared functions
abbrev pub functions_of : List Item → List ℕ
functions_of [] = []
functions_of (Imported from what kind type_index ∷ xs) = type_index.1 ∷ functions_of xs
functions_of (Function type_index ∷ xs) = type_index.1 ∷ functions_of xs
functions_of (_ ∷ xs) = functions_of xs

abbrev pub import_count : List Item → ℕ
import_count [] = 0
import_count (Imported from what kind type_index ∷ xs) = import_count xs + 1
import_count (_ ∷ xs) = import_count xs

abbrev pub declared_count : List Item → ℕ
declared_count [] = 0
declared_count (Function type_index ∷ xs) = declared_count xs + 1
declared_count (_ ∷ xs) = declared_count xs

abbrev pub tables_of : List Item → List Limits
tables_of [] = []
tables_of (Table element limits ∷ xs) = limits ∷ tables_of xs
tables_of (_ ∷ xs) = tables_of xs

abbrev pub memories_of : List Item → List Limits
memories_of [] = []
memories_of (Memory limits ∷ xs) = limits ∷ memories_of xs
memories_of (_ ∷ xs) = memories_of xs

abbrev pub globals_of : List Item → List GlobalType
globals_of [] = []
globals_of (Global ty mutable init ∷ xs) = record { ty = ty.1; mutable = mutable.1 } ∷ globals_of xs
globals_of (_ ∷ xs) = globals_of xs

-- the data count, where there is one; and how many data segments there are
abbrev pub data_count_of : List Item → Option ℕ
data_count_of [] = None
data_count_of (DataCount count ∷ xs) = Some count.1
data_count_of (_ ∷ xs) = data_count_of xs

abbrev pub segment_count_of : List Item → ℕ
segment_count_of [] = 0
segment_count_of (Passive form bytes ∷ xs) = suc (segment_count_of xs)
segment_count_of (Segment form memory place bytes ∷ xs) = suc (segment_count_of xs)
segment_count_of (_ ∷ xs) = segment_count_of xs

-- what every body of the module may name
abbrev pub context_of : List Item → Context
context_of items = record {
  types = types_of items;
  functions = functions_of items;
  tables = length (tables_of items);
  memories = length (memories_of items);
  segments = or_zero (data_count_of items);
  globals = globals_of items;
  locals = [];
  results = [];
  labels = [];
}

-- a function that isn't there is taken to have no parameters and no result
abbrev pub type_or_empty : Option FuncType → FuncType
type_or_empty None = record { params = []; results = [] }
type_or_empty (Some f) = f

abbrev pub declared_types : List Group → Types
declared_types [] = []
declared_types (g ∷ gs) = replicate g.count g.ty ++ declared_types gs

-- the context of a body: the parameters of its function and the declared locals, and the function's results
abbrev pub body_context : Context → FuncType → List Group → Context
body_context c f gs = record c { locals = f.params ++ declared_types gs; results = reverse f.results }

-- the type of the function with that index
abbrev pub type_of_function : Context → ℕ → FuncType
type_of_function c i = type_or_empty (function_type c i)

-- ---- which types are equal: an indirect call compares the types of functions by what they are, and not by their indices
-- (4.4.5.11), so one index represents all types that are equal: the least

-- the least index of a type that equals this one; where there is none, the number of types
abbrev pub first_like : List FuncType → FuncType → ℕ
first_like [] ty = 0
first_like (t ∷ ts) ty = if same_function_types t ty then 0 else suc (first_like ts ty)

-- the least index of a type that equals the type of an index
abbrev pub like : List FuncType → ℕ → ℕ
like types i = first_like types (type_or_empty (slice_get types i))
