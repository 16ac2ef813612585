-- Reductions (WebAssembly Core 1.0, 4.4.5 to 4.4.7): a total step with one clause for each rule, and runs by weight.
--
-- A weight is one reduction, or one constant that is moved to the operands. A call and the entry of the declared function that it
-- leads to are one together, and owe one more for each declared local. A branch or a return that carries several values, and the
-- end of a function that does, owe one more for each of them. So does an instruction that writes many bytes, for each byte.
-- A function's own label is left together with the function: a branch to it is a return, and the end of its body is one reduction.
--
-- A trap has its location in the module: the function and the offset of the instruction's first byte. Where the stack has no room, it is
-- the callee and the first byte of its body, or of the import.
use Rattle.std.specs.Prelude.{ℕ, zero, suc, ◌+◌, List, [], ◌∷◌, ◌++◌, map, take, drop, reverse, length, Option, Some, None, nat_lt, if◌then◌else◌, slice_get, slice_index_or}
use Rattle.wasm_defs.specs.declared.types.FuncType.{FuncType}
use Rattle.wasm_defs.specs.declared.value.TrapKind.TheVariants as trap
use Rattle.wasm_defs.specs.declared.place.Place.{Place}
use Rattle.wasm_defs.specs.declared.token.Plain.{Plain}
use Rattle.wasm_defs.specs.declared.token.Plain.TheVariants.{Unreachable, Br, BrIf, BrTable, Return, Call, CallIndirect}
use Rattle.wasm_defs.specs.Trees.{Part, Branch, Seq, Nothing, Simple, Block, Loop, If, Else, tokens_in}
use Rattle.wasm_defs.specs.Typing.{Types, Signature, same_function_types}
use Rattle.wasm_defs.specs.Places.{shape}
use Rattle.wasm_defs.specs.Values.{Value, zero_of}
use Rattle.wasm_defs.specs.Host.{Reply, Taken, Goes, Stops, taken}
use Rattle.wasm_defs.specs.Configurations.{Func, Function, Imported, Declared, type_of, Instance, Store, Label, Frame, Invocation, Config, State, Outside, Inside, Carrying, Step, To, Returned, Trapped, Stopped, Waiting, Stuck, place_of, place_of_body, place_of_import, used, need_of, need, max_slots}
use Rattle.wasm_defs.specs.Effects.{Effect, Gives, Traps, Fails, effect, bytes_written}

-- ---- returns and entries (4.4.7)

-- one more for each of several values that are carried
abbrev pub carried : (values : ℕ) → ℕ
carried zero = 0
carried (suc zero) = 0
carried (suc (suc n)) = suc (suc n)

-- the results of the function that was invoked from outside, once nothing is owed for them: the next function is invoked, or the
-- run is over
abbrev pub hand_out : Store → (owed : ℕ) → List Value → List Invocation → Step
hand_out store (suc n) values later = To (Carrying store n values later)
hand_out store zero values (i ∷ later) = To (Outside store i later)
hand_out store zero values [] = Returned store (reverse values)

-- values, the topmost first, go to the caller's operands, or outside
abbrev pub finish : Store → (owed : ℕ) → List Value → List Frame → List Invocation → Step
finish store owed values (f ∷ fs) later =
    To (Inside (record { store = store; frame = record f { operands = values ++ f.operands }; callers = fs; owed = owed; later = later }))
finish store owed values [] later = hand_out store owed values later

abbrev pub enter : Store → Func → List Value → List Frame → List Invocation → Step
enter store f arguments callers later =
    if nat_lt max_slots (used callers + need f)
    then Trapped store trap.StackExhausted (place_of_body f.origin)
    else To (Inside (record {
      store = store;
      frame = record { function = f; locals = arguments ++ map zero_of f.locals; operands = []; code = f.body; labels = [] };
      callers = callers;
      owed = length f.locals;
      later = later;
    }))

-- a call of an imported function waits for the host's reply
abbrev pub replied : Store → List Reply → List Frame → List Invocation → Taken → Step
replied store replies callers later Stops = Stopped (record store { replies = replies })
replied store replies callers later (Goes values memory) = finish (record store { memory = memory; replies = replies }) 0 (reverse values) callers later

abbrev pub await_reply : Types → Store → List Reply → List Frame → List Invocation → Step
await_reply results store [] callers later = Waiting store
await_reply results store (r ∷ rs) callers later = replied store rs callers later (taken results store.memory r)

abbrev pub ask : (number : ℕ) → FuncType → (first : ℕ) → Store → List Value → List Frame → List Invocation → Step
ask number ty first store arguments callers later =
    if nat_lt max_slots (used callers + need_of (length ty.params) 0 0)
    then Trapped store trap.StackExhausted (place_of_import number first)
    else await_reply ty.results
    (record store { calls = store.calls ++ record { number = number; arguments = arguments; memory = store.memory } ∷ [] })
    store.replies callers later

abbrev pub start_function : Store → Option Function → List Value → List Frame → List Invocation → Step
start_function store None arguments callers later = Stuck
start_function store (Some (Imported number ty first)) arguments callers later = ask number ty first store arguments callers later
start_function store (Some (Declared f)) arguments callers later = enter store f arguments callers later

-- ---- the running frame

-- it goes on with other operands and other code
abbrev pub goes_on : Config → Store → (locals operands : List Value) → Seq → List Label → Step
goes_on c store locals operands code labels =
    To (Inside (record c { store = store; frame = record c.frame { locals = locals; operands = operands; code = code; labels = labels }; owed = 0 }))

-- with the same store, locals and labels
abbrev pub proceeds : Config → List Value → Seq → Step
proceeds c operands code = goes_on c c.store c.frame.locals operands code c.frame.labels

-- an instruction at an offset, which owes so much weight if it doesn't trap
abbrev pub applied : Config → Place → Seq → (owed : ℕ) → Effect → Step
applied c here rest owed (Gives store locals operands) =
    To (Inside (record c { store = store; frame = record c.frame { locals = locals; operands = operands; code = rest }; owed = owed }))
applied c here rest owed (Traps kind) = Trapped c.store kind here
applied c here rest owed Fails = Stuck

-- the function returns (4.4.5.9, 4.4.7.2)
abbrev pub returns : Config → List Value → Step
returns c operands =
    let count = length c.frame.function.ty.results in
    finish c.store (carried count) (take count operands) c.callers c.later

-- a branch (4.4.5.6) with these operands to a label, or to the function's label, which returns
abbrev pub branch : Config → List Value → ℕ → List Label → Step
branch c operands zero [] = returns c operands
branch c operands (suc l) [] = Stuck
branch c operands zero (label ∷ labels) =
    To (Inside (record c { frame = record c.frame { operands = take label.arity operands ++ label.below; code = label.target; labels = labels }; owed = carried label.arity }))
branch c operands (suc l) (label ∷ labels) = branch c operands l labels

-- where the condition isn't zero (4.4.5.7)
abbrev pub branch_if : Config → ℕ → Seq → List Value → Step
branch_if c l rest [] = Stuck
branch_if c l rest (x ∷ below) = branch_by x.number
  where
    branch_by : ℕ → Step
    branch_by zero = proceeds c below rest
    branch_by (suc n) = branch c below l c.frame.labels

-- by an index, the last label at every other one (4.4.5.8)
abbrev pub branch_table : Config → List ℕ → ℕ → List Value → Step
branch_table c ls l [] = Stuck
branch_table c ls l (x ∷ below) = branch c below (slice_index_or ls x.number l) c.frame.labels

-- a call (4.4.5.10 and 4.4.7.1): the arguments leave the operands
abbrev pub call : Config → Seq → List Value → Option Function → Step
call c rest operands None = Stuck
call c rest operands (Some f) =
    let count = length (type_of f).params in
    start_function c.store (Some f) (reverse (take count operands)) (record c.frame { operands = drop count operands; code = rest } ∷ c.callers) c.later

abbrev pub call_typed : Config → Place → Seq → List Value → Option FuncType → Option Function → Step
call_typed c here rest operands None f = Stuck
call_typed c here rest operands (Some ty) None = Stuck
call_typed c here rest operands (Some ty) (Some f) =
    if same_function_types ty (type_of f) then call c rest operands (Some f) else Trapped c.store trap.TypeMismatch here

-- the block's end (4.4.6.2), or the function's
abbrev pub leave : Config → List Label → Step
leave c [] = returns c c.frame.operands
leave c (label ∷ labels) = goes_on c c.store c.frame.locals (c.frame.operands ++ label.below) label.after labels

-- the entry of a block (4.4.5.3 to 4.4.5.5, 4.4.6.1), which takes operands along; a branch to it takes so many, and leads to its
-- target; so many tokens are between its body and what follows it
abbrev pub within : Config → List Value → Signature → (arity : ℕ) → (target body : Seq) → (between : ℕ) → (rest : Seq) → Step
within c operands s arity target body between rest =
    let count = length s.params in
    goes_on c c.store c.frame.locals (take count operands) body
    (record { arity = arity; target = target; below = drop count operands; after = rest; between = between } ∷ c.frame.labels)

-- without its `else`
abbrev pub branch_of : Part Branch → Seq
branch_of Nothing = Nothing
branch_of (Else other) = other

-- between the first branch and what follows the `if` are the second one and its `end`
abbrev pub choose : Config → Signature → (body : Seq) (other : Part Branch) (rest : Seq) → List Value → Step
choose c s body other rest [] = Stuck
choose c s body other rest (x ∷ below) = choose_by x.number
  where
    choose_by : ℕ → Step
    choose_by zero = within c below s (length s.results) rest (branch_of other) 1 rest
    choose_by (suc n) = within c below s (length s.results) rest body (1 + tokens_in other) rest

module _ (i : Instance) where
  -- an indirect call (4.4.5.11) by a row of the table, of which there is one at most
  abbrev pub call_row : Config → Place → Seq → (type : ℕ) → List Value → Option (Option ℕ) → Step
  call_row c here rest type operands None = Trapped c.store trap.UndefinedElement here
  call_row c here rest type operands (Some None) = Trapped c.store trap.UninitializedElement here
  call_row c here rest type operands (Some (Some f)) = call_typed c here rest operands (slice_get i.context.types type) (slice_get i.functions f)

  abbrev pub call_indirect : Config → Place → Seq → (type : ℕ) → List Value → Step
  call_indirect c here rest type [] = Stuck
  call_indirect c here rest type (x ∷ below) = call_row c here rest type below (slice_get i.table x.number)

  abbrev pub simple : Config → Plain → Seq → Step
  simple c Unreachable rest = Trapped c.store trap.Unreachable (place_of c.frame (Simple Unreachable rest))
  simple c (Br l) rest = branch c c.frame.operands l c.frame.labels
  simple c (BrIf l) rest = branch_if c l rest c.frame.operands
  simple c (BrTable ls l) rest = branch_table c ls l c.frame.operands
  simple c Return rest = returns c c.frame.operands
  simple c (Call f) rest = call c rest c.frame.operands (slice_get i.functions f)
  simple c (CallIndirect type table) rest = call_indirect c (place_of c.frame (Simple (CallIndirect type table) rest)) rest type c.frame.operands
  simple c p rest = applied c (place_of c.frame (Simple p rest)) rest (bytes_written p c.frame.operands) (effect c.store c.frame.locals i.cap p c.frame.operands)

  -- a rule for each instruction, and for the end of a sequence
  abbrev pub reduce : Config → Seq → Step
  reduce c Nothing = leave c c.frame.labels
  reduce c (Simple p rest) = simple c p rest
  reduce c (Block type body rest) =
      let s = shape i.context type in
      within c c.frame.operands s (length s.results) rest body 1 rest
  reduce c (Loop type body rest) =
      let s = shape i.context type in
      within c c.frame.operands s (length s.params) (Loop type body rest) body 1 rest
  reduce c (If type body other rest) = choose c (shape i.context type) body other rest c.frame.operands

  -- ---- one weight

  -- what is owed is paid first
  abbrev pub pay : Config → ℕ → Step
  pay c zero = reduce c c.frame.code
  pay c (suc n) = To (Inside (record c { owed = n }))

  abbrev pub next : State → Step
  next (Outside store invocation later) = start_function store (slice_get i.functions invocation.function) invocation.arguments [] later
  next (Inside c) = pay c c.owed
  next (Carrying store owed values later) = hand_out store owed values later

  abbrev pub on : Step → (State → Step) → Step
  on (To s) go = go s
  on (Returned store values) go = Returned store values
  on (Trapped store kind place) go = Trapped store kind place
  on (Stopped store) go = Stopped store
  on (Waiting store) go = Waiting store
  on Stuck go = Stuck

  -- at most so much weight
  abbrev pub run : ℕ → State → Step
  run zero s = To s
  run (suc k) s = on (next s) (run k)
