-- What a run of a module comes to (WebAssembly Core 1.0, 4.5.4 and 4.5.5): the start function, if there is one, and then an
-- exported function.
use Rattle.std.specs.Prelude.{ℕ, List, [], ◌∷◌, Option, None, Some}
use Rattle.wasm_defs.specs.declared.value.TrapKind.{TrapKind}
use Rattle.wasm_defs.specs.declared.place.Place.{Place}
use Rattle.wasm_defs.specs.Values.{Value, words_of}
use Rattle.wasm_defs.specs.Host.{HostCall, Reply}
use Rattle.wasm_defs.specs.Faults.{Module}
use Rattle.wasm_defs.specs.Configurations.{Store, Invocation, State, Outside, Inside, Carrying, Step, To, Returned, Trapped, Stopped, Waiting, Stuck}
use Rattle.wasm_defs.specs.Reductions.{run}
use Rattle.wasm_defs.specs.Instances.{instance_of, store_of, start_of}

-- how a run ends, with the memory and the globals after it; each global as the word that holds it. A trap of a module's run has its
-- location in the module; that of an image's has the one that the image gives, if it gives one.
pub data End : Type 0 where
  Returns : (values : List Value) (memory globals : List ℕ) → End
  Traps : (kind : TrapKind) (place : Option Place) (memory globals : List ℕ) → End
  -- the host stopped it, at a call with this memory
  Stops : (memory : List ℕ) → End
  -- it hasn't ended
  Going : End
  -- no rule applies
  Fails : End

-- the calls of imported functions, in order, and the end
pub record Run : Type 0 where
  pub calls : List HostCall
  pub end : End

abbrev pub ended : Store → End → Run
ended store end = record { calls = store.calls; end = end }

abbrev pub store_in : State → Store
store_in (Outside store next later) = store
store_in (Inside c) = c.store
store_in (Carrying store owed values later) = store

-- where a call finds no reply, the run goes on for every larger weight
abbrev pub run_of : Step → Run
run_of (To s) = ended (store_in s) Going
run_of (Returned store values) = ended store (Returns values store.memory (words_of store.globals))
run_of (Trapped store kind place) = ended store (Traps kind (Some place) store.memory (words_of store.globals))
run_of (Stopped store) = ended store (Stops store.memory)
run_of (Waiting store) = ended store Going
run_of Stuck = record { calls = []; end = Fails }

abbrev pub first_state : Option ℕ → Store → Invocation → State
first_state None store invocation = Outside store invocation []
first_state (Some start) store invocation = Outside store (record { function = start; arguments = [] }) (invocation ∷ [])

-- the function of the index with these arguments, where the host has these replies, for at most so much weight
abbrev pub module_run : Module → (function : ℕ) → List Value → List Reply → ℕ → Run
module_run m function arguments replies k =
    run_of (run (instance_of m) k (first_state (start_of m.items) (store_of m replies) (record { function = function; arguments = arguments })))
