-- What a run is made of: the module's instance, the store, frames and labels (WebAssembly Core 1.0, 4.2). Operands are listed
-- topmost first.
use Rattle.std.specs.Prelude.{ℕ, ◌+◌, ◌-◌, List, [], ◌∷◌, ◌++◌, length, Option, slice_index}
use Rattle.wasm_defs.specs.declared.types.FuncType.{FuncType}
use Rattle.wasm_defs.specs.declared.value.TrapKind.{TrapKind}
use Rattle.wasm_defs.specs.declared.place.Place.{Place}
use Rattle.wasm_defs.specs.Trees.{Seq, tokens_in}
use Rattle.wasm_defs.specs.Typing.{Types, Context}
use Rattle.wasm_defs.specs.Values.{Value}
use Rattle.wasm_defs.specs.Host.{HostCall, Reply}

-- ---- what doesn't change in a run (4.2.5 to 4.2.7)

-- where a declared function is in the module: its index, the offset of its body's first byte, and those of its tokens
pub record Origin : Type 0 where
  pub index : ℕ
  pub first : ℕ
  pub offsets : List ℕ

-- a declared function: where it is, its type, the types of its declared locals, its greatest reachable height, and its body
pub record Func : Type 0 where
  pub origin : Origin
  pub ty : FuncType
  pub locals : Types
  pub greatest : ℕ
  pub body : Seq

-- a function: imported, with its number among the imports, which is its index too, and the offset of the import's first byte; or
-- declared
pub data Function : Type 0 where
  Imported : (number : ℕ) (ty : FuncType) (first : ℕ) → Function
  Declared : (f : Func) → Function

abbrev pub type_of : Function → FuncType
type_of (Imported number ty first) = ty
type_of (Declared f) = f.ty

-- the module's types and what else its code may name; the functions by their indices; the table's rows, each a function's index
-- where it has one; and the most pages that the memory may have. No instruction writes to the table, so it is here and not in the
-- store (4.2.3)
pub record Instance : Type 0 where
  pub context : Context
  pub functions : List Function
  pub table : List (Option ℕ)
  pub cap : ℕ

-- ---- what does

-- what outlives a frame (4.2.3): the memory, the globals, and the bytes of the data segments (Core 2.0, 4.2.10); also the
-- calls that were made of imported functions, in order, and the replies that the host still has
pub record Store : Type 0 where
  pub memory : List ℕ
  pub globals : List Value
  pub segments : List (List ℕ)
  pub calls : List HostCall
  pub replies : List Reply

-- an open label (4.2.12): how many values a branch to it takes, where the branch leads, what is below and after the block, and how
-- many tokens are between the instructions inside and those after it
pub record Label : Type 0 where
  pub arity : ℕ
  pub target : Seq
  pub below : List Value
  pub after : Seq
  pub between : ℕ

-- an active function (4.2.12): its locals, the parameters first, the operands of the innermost block, what is left of that
-- block, and the open labels, the innermost first
pub record Frame : Type 0 where
  pub function : Func
  pub locals : List Value
  pub operands : List Value
  pub code : Seq
  pub labels : List Label

-- a call from outside (4.5.5): a function's index, and the arguments in the order of the text
pub record Invocation : Type 0 where
  pub function : ℕ
  pub arguments : List Value

-- the running frame, its callers, the nearest first, weight that is owed before the next rule, and what is invoked afterwards
pub record Config : Type 0 where
  pub store : Store
  pub frame : Frame
  pub callers : List Frame
  pub owed : ℕ
  pub later : List Invocation

-- between two weights: next, a function is invoked from outside, or a frame runs, or results are handed out
pub data State : Type 0 where
  Outside : (store : Store) (next : Invocation) (later : List Invocation) → State
  Inside : (c : Config) → State
  -- the function that was invoked from outside has several results, for which this weight is owed and one more
  Carrying : (store : Store) (owed : ℕ) (values : List Value) (later : List Invocation) → State

pub data Step : Type 0 where
  To : (s : State) → Step
  -- the last function that was invoked has returned
  Returned : (store : Store) (values : List Value) → Step
  Trapped : (store : Store) (kind : TrapKind) (place : Place) → Step
  -- the host stopped the run
  Stopped : (store : Store) → Step
  -- a call has no reply yet
  Waiting : (store : Store) → Step
  -- no rule applies: in a valid module it doesn't come
  Stuck : Step

-- ---- source locations, at which a run may trap

-- how many tokens follow the code of the innermost block: those of the open blocks, and the function's last `end`
abbrev pub tokens_behind : List Label → ℕ
tokens_behind [] = 1
tokens_behind (label ∷ labels) = label.between + tokens_in label.after + tokens_behind labels

-- the offset of the token from which on so many of a function's tokens are left
abbrev pub offset_of : Origin → (left : ℕ) → ℕ
offset_of o left = slice_index o.offsets (length o.offsets - left)

-- the first instruction of those that are left of a frame's innermost block
abbrev pub place_left : Origin → (left : ℕ) → Place
place_left o left = record { function = o.index; offset = offset_of o left }

abbrev pub place_of : Frame → Seq → Place
place_of f code = place_left f.function.origin (tokens_in code + tokens_behind f.labels)

-- a function's body, and an import
abbrev pub place_of_body : Origin → Place
place_of_body o = record { function = o.index; offset = o.first }

abbrev pub place_of_import : (number first : ℕ) → Place
place_of_import number first = record { function = number; offset = first }

-- ---- the stack that a run uses, in slots of a value each (appendix "Implementation Limitations")

-- all operands of a frame
abbrev pub belows : List Label → List Value
belows [] = []
belows (label ∷ labels) = label.below ++ belows labels

abbrev pub whole : Frame → List Value
whole f = f.operands ++ belows f.labels

-- the part of a caller: its locals, its return address, and its operands below the arguments that it passes
abbrev pub part : Frame → ℕ
part f = length f.locals + 1 + length (whole f)

abbrev pub used : List Frame → ℕ
used [] = 0
used (f ∷ fs) = used fs + part f

-- what a function needs at most, and what an imported one does
abbrev pub need_of : (params locals greatest : ℕ) → ℕ
need_of params locals greatest = params + locals + 1 + greatest

abbrev pub need : Func → ℕ
need f = need_of (length f.ty.params) (length f.locals) f.greatest

-- the slots that there are
abbrev pub max_slots : ℕ
max_slots = 131072
