-- A run of an image goes by runs of its machine, with a call of the environment between them.
use Rattle.std.proofs.Common.{◌≡◌, ℕ, zero, suc, ◌+◌, ◌-◌, ◌*◌, length, ◌==◌, ◌%◌, ◌<◌, ◌≤◌, Bool, true, false, if◌then◌else◌, List, [], ◌++◌, Option, None, Some, refl, sym, ap, ◌∙◌, subst, append_assoc, arith}
use Rattle.std.proofs.lemmas.List.{append-nil}
use Rattle.rv_isa.specs.declared.operations.Op.{Op}
use Rattle.rv_isa.specs.declared.operations.Op.TheVariants.{Lui, Auipc, Jal, Jalr, Branch, Load, Store, Imm, Shift, Addiw, ShiftW, Reg, RegW, Fence, Ecall, Ebreak}
use Rattle.rv_isa.specs.declared.stepping.FaultKind.{FaultKind}
use Rattle.rv_isa.specs.Steps.{State, Bytes, reg, Stepped, Next, Call, Fault, jump, branch, load, store, act, fetched, at_word, step, Ran, Spent, Called, Faulted, go_on, exec}
use Rattle.rv_isa.specs.Values.{plus, b_value, is_taken}
use Rattle.rv_isa.specs.Runs.{OnRan, SameSizes}
use Rattle.rv64im_machine.specs.declared.outcome.Ran.{Ran as Made}
use Rattle.rv64im_machine.specs.declared.outcome.Ran.TheVariants as made
use Rattle.rv64im_machine.specs.Outcomes.{IsRun}
use Rattle.wasm_defs.specs.Memory.{page}
use Rattle.rv_isa.proofs.SizeLaws.{runs_keep_sizes}
use Rattle.wasm_defs.specs.declared.types.ValType.{ValType}
use Rattle.image_format.specs.Contents.{Image}
use Rattle.image_format.specs.Environment.{code_of_image, Entry}
use Rattle.image_format.specs.ImageRun.{Running, Stepping, To, environment, memory_of, stepped, on, steps, run_of}
use Rattle.image_format.specs.ImageRun as image
use Rattle.image_run.specs.declared.answer.Answer.{Answer}
use Rattle.image_run.specs.declared.answer.Answer.TheVariants as answer
use Rattle.image_run.specs.declared.outcome.Outcome.{Outcome}
use Rattle.image_run.specs.declared.outcome.Outcome.TheVariants as outcome
use Rattle.wasm_defs.specs.Host.{HostCall, Reply}
use Rattle.image_run.specs.Hosts.{Leads}
use Rattle.image_run.specs.Ends.{IsEnd}
use Rattle.rv64im_machine.specs.Contents.{Contents as Machine, state_of}
use Rattle.image_run.specs.States.{at, Keeps, RunsImage}
use Rattle.image_run.specs.Answers.{IsOver, Says, Answered, Comes, Runs}
use Rattle.image_run.proofs.LeadLaws.{leads_append}

-- ---- a step that calls the environment leads to the next word

abbrev IsBehind : ℕ → Stepped → Type 0
IsBehind pc (Next s) = Unit {0}
IsBehind pc (Call s) = s.pc ≡ pc + 4
IsBehind pc (Fault kind) = Unit {0}

on_if : (pc : ℕ) (t : Bool) (x y : Stepped) → IsBehind pc x → IsBehind pc y → IsBehind pc (if t then x else y)
on_if pc true x y here there = here
on_if pc false x y here there = there

jump_behind : (s : State) (rd target : ℕ) → IsBehind s.pc (jump s rd target)
jump_behind s rd target = on_if s.pc (target % 4 == 0) _ _ tt tt

branch_behind : (s : State) (taken : Bool) (target : ℕ) → IsBehind s.pc (branch s taken target)
branch_behind s taken target = on_if s.pc taken _ _ (on_if s.pc (target % 4 == 0) _ _ tt tt) tt

load_behind : (s : State) (rd : ℕ) (value : Option ℕ) → IsBehind s.pc (load s rd value)
load_behind s rd None = tt
load_behind s rd (Some value) = tt

store_behind : (s : State) (bytes : Option Bytes) → IsBehind s.pc (store s bytes)
store_behind s None = tt
store_behind s (Some bytes) = tt

act_behind : (op : Op) (s : State) → IsBehind s.pc (act op s)
act_behind (Lui rd imm) s = tt
act_behind (Auipc rd imm) s = tt
act_behind (Jal rd offset) s = jump_behind s rd _
act_behind (Jalr rd rs1 imm) s = jump_behind s rd _
act_behind (Branch op rs1 rs2 offset) s = branch_behind s (is_taken op (reg s.registers rs1) (reg s.registers rs2)) (plus s.pc (b_value offset))
act_behind (Load op rd rs1 imm) s = load_behind s rd _
act_behind (Store op rs1 rs2 imm) s = store_behind s _
act_behind (Imm op rd rs1 imm) s = tt
act_behind (Shift op rd rs1 amount) s = tt
act_behind (Addiw rd rs1 imm) s = tt
act_behind (ShiftW op rd rs1 amount) s = tt
act_behind (Reg op rd rs1 rs2) s = tt
act_behind (RegW op rd rs1 rs2) s = tt
act_behind (Fence rd rs1 imm) s = tt
act_behind Ecall s = refl
act_behind Ebreak s = tt

word_behind : (word : Option (Option Op)) (s : State) → IsBehind s.pc (at_word word s)
word_behind None s = tt
word_behind (Some None) s = tt
word_behind (Some (Some op)) s = act_behind op s

step_behind : (code : List (Option Op)) (s s' : State) → step code s ≡ Call s' → s'.pc ≡ s.pc + 4
step_behind code s s' e = subst (IsBehind s.pc) e (word_behind (fetched code s.pc) s)

-- ---- a run that calls the environment has made a step

abbrev HasCalled : ℕ → Ran → Type 0
HasCalled n (Spent s) = Unit {0}
HasCalled n (Called left s) = (left < n) × (4 ≤ s.pc)
HasCalled n (Faulted left kind s) = Unit {0}

called_later : (n : ℕ) (ran : Ran) → HasCalled n ran → HasCalled (suc n) ran
called_later n (Spent s) h = tt
called_later n (Called left s) h = (omega (arith, h.0), h.1)
called_later n (Faulted left kind s) h = tt

called_by : (n : ℕ) (s : State) (now : Stepped) (rest : State → Ran) → IsBehind s.pc now → ((s' : State) → HasCalled n (rest s')) → HasCalled (suc n) (go_on now n s rest)
called_by n s (Next s') rest behind later = called_later n (rest s') (later s')
called_by n s (Call s') rest behind later = (omega arith, omega (arith, behind))
called_by n s (Fault kind) rest behind later = tt

has_called : (code : List (Option Op)) (n : ℕ) (s : State) → HasCalled n (exec code n s)
has_called code zero s = tt
has_called code (suc n) s = called_by n s (step code s) (exec code n) (word_behind (fetched code s.pc) s) (has_called code n)

pub called_says : (code : List (Option Op)) (n left : ℕ) (s s' : State) → exec code n s ≡ Called left s' → (left < n) × (4 ≤ s'.pc)
called_says code n left s s' e = subst (HasCalled n) e (has_called code n s)

-- ---- the steps of an image

-- what the steps come to after a run of the machine
abbrev after : Image → Running → Ran → Stepping
after i r (Spent s) = To (record r { machine = s })
after i r (Called left s) = on (environment i (record r { machine = s }) (s.pc - 4)) (steps i left)
after i r (Faulted left kind s) = image.Faulted (record r { machine = s }) kind s.pc

after_from : (i : Image) (r : Running) (s : State) (ran : Ran) → after i (record r { machine = s }) ran ≡ after i r ran
after_from i r s (Spent s') = refl
after_from i r s (Called left s') = refl
after_from i r s (Faulted left kind s') = refl

by_step : (i : Image) (n : ℕ) (r : Running) (now : Stepped) → step (code_of_image i) r.machine ≡ now → ((s : State) → steps i n (record r { machine = s }) ≡ after i (record r { machine = s }) (exec (code_of_image i) n s))
    → on (stepped i r now) (steps i n) ≡ after i r (go_on now n r.machine (exec (code_of_image i) n))
by_step i n r (Next s) is rest = rest s ∙ after_from i r s (exec (code_of_image i) n s)
by_step i n r (Call s) is rest =
    let place : r.machine.pc ≡ s.pc - 4 = omega (arith, step_behind (code_of_image i) r.machine s is) in
    ap (λ (pc : ℕ). on (environment i (record r { machine = s }) pc) (steps i n)) place
by_step i n r (Fault kind) is rest = refl

pub steps-exec : (i : Image) (n : ℕ) (r : Running) → steps i n r ≡ after i r (exec (code_of_image i) n r.machine)
steps-exec i zero r = refl
steps-exec i (suc n) r = by_step i n r (step (code_of_image i) r.machine) refl (λ s. steps-exec i n (record r { machine = s }))

-- ---- a run in its loop

over_stays : (done : Stepping) (go : Running → Stepping) → IsOver done → on done go ≡ done
over_stays (To r) go h = absurd h
over_stays (image.Ended r end) go h = refl
over_stays (image.Faulted r kind pc) go h = refl
over_stays (image.Waiting r) go h = refl

-- the machine after some of a function's steps: the calls so far have led the host so, and so many steps are left
pub record Underway (H : Type 0) (Calls : H → HostCall → Reply → H → Type 0) (i : Image) (from to : H) (first now : State) (first_pages pages all left : ℕ) : Type 0 where
  pub calls : List HostCall
  pub replies : List Reply
  pub leads : Leads Calls from calls replies to
  pub so_far : (before : List HostCall) (more : List Reply) (results : List ValType) (later : List (Entry × List ValType))
      → steps i all (at first first_pages before (replies ++ more) results later) ≡ steps i left (at now pages (before ++ calls) more results later)

-- before the first step
pub begun : (H : Type 0) (Calls : H → HostCall → Reply → H → Type 0) (i : Image) (host : H) (s : State) (pages all : ℕ) → Underway H Calls i host host s s pages pages all all
begun H Calls i host s pages all = record {
  calls = [];
  replies = [];
  leads = refl;
  so_far = λ before more results later. ap (λ (calls : List HostCall). steps i all (at s pages calls more results later)) (sym (append-nil before));
}

module _ (H : Type 0) (Calls : H → HostCall → Reply → H → Type 0) (i : Image) (from to : H) (first now : State) (first_pages pages all left : ℕ) (code : List (Option Op)) (same : code ≡ code_of_image i) (u : Underway H Calls i from to first now first_pages pages all left) where
  -- what all steps come to, by a run of the machine
  all_are : (ran : Ran) → exec code left now ≡ ran → (before : List HostCall) (more : List Reply) (results : List ValType) (later : List (Entry × List ValType))
      → steps i all (at first first_pages before (u.replies ++ more) results later) ≡ after i (at now pages (before ++ u.calls) more results later) ran
  all_are ran e before more results later =
      let r = at now pages (before ++ u.calls) more results later in
      u.so_far before more results later ∙ steps-exec i left r
      ∙ ap (λ (c : List (Option Op)). after i r (exec c left now)) (sym same)
      ∙ ap (after i r) e

  -- where the machine's run is over, the function's is
  stops : (ran : Ran) (s : State) (o : Outcome) → exec code left now ≡ ran
      → ((before : List HostCall) (more : List Reply) (results : List ValType) (later : List (Entry × List ValType)) → Comes (Some o) i left (at s pages (before ++ u.calls) more results later) (after i (at now pages (before ++ u.calls) more results later) ran))
      → Runs Calls i from to first s first_pages pages all left (Some o)
  stops ran s o e h = record {
    calls = u.calls;
    replies = u.replies;
    leads = u.leads;
    comes = λ before more results later.
        subst (λ (done : Stepping). Comes (Some o) i left (at s pages (before ++ u.calls) more results later) done) (sym (all_are ran e before more results later)) (h before more results later);
  }

  pub spent : (s : State) → exec code left now ≡ Spent s → Runs Calls i from to first s first_pages pages all left (Some outcome.StepsSpent)
  spent s e = stops (Spent s) s outcome.StepsSpent e (λ before more results later. (refl, refl))

  pub faulted : (rest : ℕ) (kind : FaultKind) (s : State) → exec code left now ≡ Faulted rest kind s → Runs Calls i from to first s first_pages pages all left (Some (outcome.Fault kind s.pc))
  faulted rest kind s e = stops (Faulted rest kind s) s (outcome.Fault kind s.pc) e (λ before more results later. (refl, refl))

  -- the environment was called, and has answered
  module _ (rest : ℕ) (s : State) (called : exec code left now ≡ Called rest s) (host : H) (new : State) (pages_now : ℕ) (said : Answer) (a : Answered Calls i to host s new pages pages_now said) where
    leads : Leads Calls from (u.calls ++ a.calls) (u.replies ++ a.replies) host
    leads = leads_append H Calls from to host u.calls a.calls u.replies a.replies u.leads a.leads

    -- what the environment does, and the run after it
    abbrev done : List HostCall → List Reply → List ValType → List (Entry × List ValType) → Stepping
    done before more results later = environment i (at s pages (before ++ u.calls) (a.replies ++ more) results later) (s.pc - 4)

    abbrev behind : List HostCall → List Reply → List ValType → List (Entry × List ValType) → Running
    behind before more results later = at new pages_now (before ++ (u.calls ++ a.calls)) more results later

    answers : (before : List HostCall) (more : List Reply) (results : List ValType) (later : List (Entry × List ValType)) → Says said (behind before more results later) (done before more results later)
    answers before more results later =
        subst (λ (calls : List HostCall). Says said (at new pages_now calls more results later) (done before more results later)) (append_assoc before u.calls a.calls) (a.says (before ++ u.calls) more results later)

    leads_to : (before : List HostCall) (more : List Reply) (results : List ValType) (later : List (Entry × List ValType))
        → steps i all (at first first_pages before ((u.replies ++ a.replies) ++ more) results later) ≡ on (done before more results later) (steps i rest)
    leads_to before more results later =
        ap (λ (replies : List Reply). steps i all (at first first_pages before replies results later)) (append_assoc u.replies a.replies more)
        ∙ all_are (Called rest s) called before (a.replies ++ more) results later

    pub goes_on : said ≡ answer.GoesOn → Underway H Calls i from host first new first_pages pages_now all rest
    goes_on is = record {
      calls = u.calls ++ a.calls;
      replies = u.replies ++ a.replies;
      leads = leads;
      so_far = λ before more results later.
          leads_to before more results later
          ∙ ap (λ (x : Stepping). on x (steps i rest)) (subst (λ (x : Answer). Says x (behind before more results later) (done before more results later)) is (answers before more results later));
    }

    pub ends : said ≡ answer.Ended → Runs Calls i from host first new first_pages pages_now all rest None
    ends is = record {
      calls = u.calls ++ a.calls;
      replies = u.replies ++ a.replies;
      leads = leads;
      comes = λ before more results later.
          leads_to before more results later
          ∙ ap (λ (x : Stepping). on x (steps i rest)) (subst (λ (x : Answer). Says x (behind before more results later) (done before more results later)) is (answers before more results later));
    }

    pub is_over : (o : Outcome) → said ≡ answer.Over o → Runs Calls i from host first new first_pages pages_now all rest (Some o)
    is_over o is = record {
      calls = u.calls ++ a.calls;
      replies = u.replies ++ a.replies;
      leads = leads;
      comes = λ before more results later.
          let r = behind before more results later in
          let x = done before more results later in
          let h : IsOver x × ((run_of x).calls ≡ r.calls) × IsEnd o (memory_of r) [] (run_of x).end = subst (λ (y : Answer). Says y r x) is (answers before more results later) in
          subst (λ (y : Stepping). Comes (Some o) i rest r y) (sym (leads_to before more results later ∙ over_stays x (steps i rest) h.0)) (h.1, h.2);
    }

-- ---- sizes

pub of_image : (i : Image) (old new : Machine) (pages : ℕ) → RunsImage i old pages → Keeps old new → RunsImage i new pages
of_image i old new pages h k = record { code = k.code ∙ h.code; stack = k.stack ∙ h.stack; memory = k.memory ∙ h.memory; within = h.within; backed = omega (arith, h.backed, k.backed) }

-- a run of the machine keeps its text and the sizes of its regions
pub still_runs : (i : Image) (old new : Machine) (pages n : ℕ) (ran : Ran) → RunsImage i old pages → new.code ≡ old.code → OnRan (λ (t : State). t ≡ state_of new) ran → exec old.code n (state_of old) ≡ ran → page * pages ≤ new.backed → RunsImage i new pages
still_runs i old new pages n ran h code is e backed =
    let sizes : OnRan (λ (t : State). SameSizes old.bytes t.bytes) ran = subst (OnRan (λ (t : State). SameSizes old.bytes t.bytes)) e (runs_keep_sizes old.code n (state_of old)) in
    let same : SameSizes old.bytes new.bytes = on_ran ran is sizes in
    record { code = code ∙ h.code; stack = same.stack ∙ h.stack; memory = same.memory ∙ h.memory; within = h.within; backed = backed }
  where
    on_ran : (x : Ran) → OnRan (λ (t : State). t ≡ state_of new) x → OnRan (λ (t : State). SameSizes old.bytes t.bytes) x → SameSizes old.bytes new.bytes
    on_ran (Spent t) k g = subst (λ (q : State). SameSizes old.bytes q.bytes) k g
    on_ran (Called left t) k g = subst (λ (q : State). SameSizes old.bytes q.bytes) k g
    on_ran (Faulted left kind t) k g = subst (λ (q : State). SameSizes old.bytes q.bytes) k g

-- and the memory's size
pub memory_kept : (code : List (Option Op)) (n : ℕ) (ran : Made) (s s' : State) → IsRun code n ran s s' → length s'.bytes.memory ≡ length s.bytes.memory
memory_kept code n ran s s' row =
    by_case ran row
  where
    keeps : (x : Ran) → OnRan (λ (t : State). t ≡ s') x → exec code n s ≡ x → length s'.bytes.memory ≡ length s.bytes.memory
    keeps x is e = on_ran x is (subst (OnRan (λ (t : State). SameSizes s.bytes t.bytes)) e (runs_keep_sizes code n s))
      where
        on_ran : (x : Ran) → OnRan (λ (t : State). t ≡ s') x → OnRan (λ (t : State). SameSizes s.bytes t.bytes) x → length s'.bytes.memory ≡ length s.bytes.memory
        on_ran (Spent t) k g = subst (λ (q : State). length q.bytes.memory ≡ length s.bytes.memory) k g.memory
        on_ran (Called left t) k g = subst (λ (q : State). length q.bytes.memory ≡ length s.bytes.memory) k g.memory
        on_ran (Faulted left kind t) k g = subst (λ (q : State). length q.bytes.memory ≡ length s.bytes.memory) k g.memory

    by_case : (ran : Made) → IsRun code n ran s s' → length s'.bytes.memory ≡ length s.bytes.memory
    by_case made.Spent e = keeps (Spent s') refl e
    by_case (made.Call done) e = keeps (Called (n - done) s') refl e.1
    by_case (made.Fault done kind) e = keeps (Faulted (n - done) kind s') refl e.1
