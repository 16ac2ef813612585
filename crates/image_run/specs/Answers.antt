-- What an answer of the environment says of where it leads, and what the steps of a function say of theirs.
use Rattle.std.specs.Prelude.{◌≡◌, ℕ, ◌-◌, ◌*◌, Bool, true, false, List, [], ◌++◌, take, drop, length, Option, None, Some}
use Rattle.rv_isa.specs.Steps.{State}
use Rattle.rv_isa.specs.declared.stepping.Region.TheVariants.{Memory}
use Rattle.rv64im_machine.specs.Lending.{with_bytes}
use Rattle.rv64im_machine.specs.Contents.{Contents as Machine}
use Rattle.wasm_defs.specs.declared.types.ValType.{ValType}
use Rattle.wasm_defs.specs.Values.{Value}
use Rattle.wasm_defs.specs.Memory.{page}
use Rattle.wasm_defs.specs.Host.{HostCall, Reply, Taken, Goes, Stops, taken}
use Rattle.image_format.specs.Contents.{Image}
use Rattle.image_format.specs.Environment.{Entry, entered}
use Rattle.image_format.specs.ImageRun.{Running, Stepping, To, Ended, Faulted, Waiting, environment, finish, first_running, grow, memory_of, on, run_of, steps, with_results}
use Rattle.image_run.specs.declared.answer.Answer.{Answer}
use Rattle.image_run.specs.declared.answer.Answer.TheVariants as answer
use Rattle.image_run.specs.declared.outcome.Outcome.{Outcome}
use Rattle.image_run.specs.Hosts.{Leads}
use Rattle.image_run.specs.Ends.{IsEnd}
use Rattle.image_run.specs.States.{at}

-- ---- replies

-- the machine after a reply: its values in the slots from an index on, and the memory's first bytes as they are then
abbrev pub replied : Machine → (at : ℕ) → List Value → (memory : List ℕ) → Machine
replied m at values memory =
    record m { bytes = record m.bytes { stack = with_results m.bytes.stack at values; memory = memory ++ drop (length memory) m.bytes.memory } }

-- a patch is written to the machine's memory, whose first bytes are as they are then, or it isn't in it
abbrev pub Patches : Bool → Option (List ℕ) → Machine → Machine → Type 0
Patches true (Some memory) old new = new ≡ with_bytes old Memory (memory ++ drop (length memory) old.bytes.memory)
Patches true None old new = ⊥
Patches false (Some memory) old new = ⊥
Patches false None old new = new ≡ old

-- a reply is written to the machine, or it is taken as a stop
abbrev pub Takes : Bool → Taken → (at : ℕ) → Machine → Machine → Type 0
Takes true (Goes values memory) at old new = new ≡ replied old at values memory
Takes true Stops at old new = ⊥
Takes false (Goes values memory) at old new = ⊥
Takes false Stops at old new = new ≡ old

-- the host answers a call with some reply, which is taken so where the memory has these bytes
pub record Replies {H : Type 0} (Answers : H → HostCall → Reply → H → Type 0) (from to : H) (call : HostCall) (results : List ValType) (goes : Bool) (at : ℕ) (old new : Machine) : Type 0 where
  pub reply : Reply
  pub answers : Answers from call reply to
  pub takes : Takes goes (taken results call.memory reply) at old new

-- ---- growing

-- the memory grows by so many pages, if the cap allows: whatever was called, is replied later, and is left to run
abbrev pub Grows : (cap more : ℕ) → State → State → (pages pages_now : ℕ) → Type 0
Grows cap more old new pages pages_now =
    (calls : List HostCall) (replies : List Reply) (results : List ValType) (later : List (Entry × List ValType))
    → grow cap (at old pages calls replies results later) more ≡ To (at new pages_now calls replies results later)

-- ---- answers

abbrev pub IsOver : Stepping → Type 0
IsOver (To r) = ⊥
IsOver (Ended r end) = Unit {0}
IsOver (Faulted r kind pc) = Unit {0}
IsOver (Waiting r) = Unit {0}

-- what an answer says of what the environment does, where r is the run after it
abbrev pub Says : Answer → Running → Stepping → Type 0
Says answer.GoesOn r done = done ≡ To r
Says answer.Ended r done = done ≡ finish r r.later
Says (answer.Over outcome) r done = IsOver done × ((run_of done).calls ≡ r.calls) × IsEnd outcome (memory_of r) [] (run_of done).end

-- the environment, called at a machine whose pc is after the ECALL, makes calls that lead the host so, and does what is answered:
-- whatever was called before, replied later, and left to run
pub record Answered {H : Type 0} (Answers : H → HostCall → Reply → H → Type 0) (i : Image) (from to : H) (old new : State) (pages pages_now : ℕ) (answer : Answer) : Type 0 where
  pub calls : List HostCall
  pub replies : List Reply
  pub leads : Leads Answers from calls replies to
  pub says : (before : List HostCall) (more : List Reply) (results : List ValType) (later : List (Entry × List ValType))
      → Says answer (at new pages_now (before ++ calls) more results later) (environment i (at old pages before (replies ++ more) results later) (old.pc - 4))

-- ---- functions

-- what the steps of a function come to: it has ended with so many steps left, or the run is over
abbrev pub Comes : Option Outcome → Image → (left : ℕ) → Running → Stepping → Type 0
Comes None i left r done = done ≡ on (finish r r.later) (steps i left)
Comes (Some outcome) i left r done = ((run_of done).calls ≡ r.calls) × IsEnd outcome (memory_of r) [] (run_of done).end

-- the function that runs makes calls that lead the host so, and its steps come to that: whatever was called before, replied later,
-- and left to run
pub record Runs {H : Type 0} (Answers : H → HostCall → Reply → H → Type 0) (i : Image) (from to : H) (old new : State) (pages pages_now left left_now : ℕ) (ended : Option Outcome) : Type 0 where
  pub calls : List HostCall
  pub replies : List Reply
  pub leads : Leads Answers from calls replies to
  pub comes : (before : List HostCall) (more : List Reply) (results : List ValType) (later : List (Entry × List ValType))
      → Comes ended i left_now (at new pages_now (before ++ calls) more results later) (steps i left (at old pages before (replies ++ more) results later))

-- ---- the start function

-- the run of an image in which that function is called, after the start function
unfoldable pub run_with : Image → (steps : ℕ) → Entry × List ValType → List Reply → Stepping
run_with i n e replies = steps i n (first_running i replies e)

-- what the start function's steps come to: it has ended with so many steps left, and the other function is called; or the run is over
abbrev pub Begins : Option Outcome → Image → (left : ℕ) → State → (pages : ℕ) → List HostCall → List Reply → Entry × List ValType → Stepping → Type 0
Begins None i left machine pages calls more e done = done ≡ steps i left (at (entered pages machine.bytes e.0) pages calls more e.1 [])
Begins (Some outcome) i left machine pages calls more e done =
    ((run_of done).calls ≡ calls) × IsEnd outcome (take (page * pages) machine.bytes.memory) [] (run_of done).end

-- the start function of an image that is loaded, if there is one, makes calls that lead the host so, and its steps come to that:
-- whatever is replied later, and called then
pub record Starts {H : Type 0} (Answers : H → HostCall → Reply → H → Type 0) (i : Image) (from to : H) (machine : State) (pages steps left : ℕ) (ended : Option Outcome) : Type 0 where
  pub calls : List HostCall
  pub replies : List Reply
  pub leads : Leads Answers from calls replies to
  pub begins : (more : List Reply) (e : Entry × List ValType) → Begins ended i left machine pages calls more e (run_with i steps e (replies ++ more))
