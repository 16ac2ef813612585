-- How a state of the machine matches the frames of a configuration: where their values are, and where their code is.
use Rattle.std.proofs.Common.{◌≡◌, ℕ, ◌+◌, ◌≤◌, ◌==◌, ◌⊎◌, false, List, [], ◌∷◌, ◌++◌, length, map, reverse, Option, Some, None, ap}
use Rattle.rv_isa.specs.declared.operations.Op.{Op}
use Rattle.rv_isa.specs.Steps.{State, Bytes, reg, text_base}
use Rattle.rv_isa.specs.Runs.{place, HasAt}
use Rattle.wasm_defs.specs.Trees.{Seq}
use Rattle.wasm_defs.specs.Typing.{Types, Context, Typed}
use Rattle.wasm_defs.specs.Places.{Place, end_of}
use Rattle.wasm_defs.specs.Values.{types_of_values}
use Rattle.wasm_defs.specs.Configurations.{Func, Instance, Frame, tokens_behind, belows, whole, part, used, max_slots}
use Rattle.wasm_defs.specs.Configurations as config
use Rattle.frame_layout.specs.Macros.{ra, s0, distance, far, back}
use Rattle.frame_layout.specs.Slots.{link, operand, need}
use Rattle.frame_layout.specs.Templates.{Label}
use Rattle.frame_layout.specs.Functions.{label, code, traps, body_place, body_size}
use Rattle.frame_layout.specs.Laws.{slot_at, IsFrame, is_scratch}
use Rattle.simulation.specs.Covered.{IsCovered}
pub use Rattle.simulation.specs.Functions.{TextPlaces, AreSited, Compiled}
use Rattle.simulation.proofs.Frames.Heights.{peak}
use Rattle.simulation.proofs.Frames.Values.{Operands, Locals}

-- ---- open labels

-- a label of the code: the types that a branch to it takes along, the height below its block, the index where it leads, and how many
-- tokens follow what its block holds
pub record Open : Type 0 where
  pub takes : Types
  pub base : ℕ
  pub place : ℕ
  pub behind : ℕ

abbrev pub label_of : Open → Label
label_of o = label o.base (length o.takes) o.place

abbrev pub labels_of : List Open → List Label
labels_of os = map label_of os

-- how many follow the innermost sequence
abbrev pub behind_of : List Open → ℕ
behind_of [] = 0
behind_of (o ∷ os) = o.behind

-- the context inside the blocks
abbrev pub under : Context → List Open → Context
under c os = record c { labels = map (λ (o : Open). o.takes) os }

-- ---- what is compiled

module _ (text : List (Option Op)) (inst : Instance) (places : TextPlaces) where
  -- the function's own label leads to its epilogue; after the body is its `end`
  abbrev pub own : {f : Func} → Compiled text inst places f → Open
  own {f} k = record { takes = k.context.results; base = 0; place = body_place k.around + body_size k.around k.context f.body; behind = 1 }

  -- ---- sequences

  module _ {f : Func} (k : Compiled text inst places f) where
    -- the end of a sequence, if it is reachable, is where it leads, or a jump leads there
    abbrev pub Ending : Place → (here there : ℕ) → Type 0
    Ending None here there = Unit {0}
    Ending (Some h) here there = (here ≡ there) ⊎ HasAt text (k.begin + here) (far (distance here there))

    -- A sequence that takes operands of these types to others is at an index, and leads from its end to another.
    pub record SitsAt (os : List Open) (height : Place) (from : Types) (here : ℕ) (tree : Seq) (to : Types) (there : ℕ) : Type 0 where
      pub covered : IsCovered tree
      pub typed : Typed (under k.context os) tree from to
      pub low : peak (under k.context os) tree height ≤ k.around.layout.greatest
      pub has : HasAt text (k.begin + here) (code k.around (under k.context os) (labels_of os) height here tree)
      pub inside : k.begin + (here + length (code k.around (under k.context os) (labels_of os) height here tree)) ≤ length text
      pub ending : Ending (end_of (under k.context os) tree height) (here + length (code k.around (under k.context os) (labels_of os) height here tree)) there
      -- and the source locations of its traps are known
      pub sited : AreSited places.trap k.begin f.origin (traps k.around (under k.context os) (labels_of os) height here (behind_of os) tree)

    -- where so many operands are below its block
    abbrev pub Sits : (os : List Open) (below : ℕ) (from : Types) (here : ℕ) (tree : Seq) (to : Types) (there : ℕ) → Type 0
    Sits os below from here tree to there = SitsAt os (Some (length from + below)) from here tree to there

    -- a label of the configuration and one of the code, where the innermost sequence ends with operands of the types `to`: what
    -- follows the block is there, and what a branch leads to is at the label's word
    pub record Opened (o : Open) (os : List Open) (l : config.Label) (ls : List config.Label) (to : Types) (there : ℕ) (outer : Types) (outer_there : ℕ) : Type 0 where
      pub arity : l.arity ≡ length o.takes
      pub base : o.base ≡ length (l.below ++ belows ls)
      pub behind_is : o.behind ≡ tokens_behind (l ∷ ls)
      pub near : k.begin + o.place ≤ length text
      pub end_near : k.begin + there ≤ length text
      pub after : Sits os (length (belows ls)) (to ++ types_of_values l.below) there l.after outer outer_there
      pub target : Sits os (length (belows ls)) (o.takes ++ types_of_values l.below) o.place l.target outer outer_there

    -- the open labels, the innermost first; the function's own one is the last of the code
    abbrev pub Fit : List config.Label → List Open → (to : Types) (there : ℕ) → Type 0
    Fit [] os to there = (os ≡ own k ∷ []) × (to ≡ k.context.results) × (there ≡ (own k).place)
    Fit (l ∷ ls) [] to there = ⊥
    Fit (l ∷ ls) (o ∷ os) to there = (outer : Types) × (outer_there : ℕ) × Opened o os l ls to there outer outer_there × Fit ls os outer outer_there

    -- as many tokens follow the innermost sequence as the configuration says
    pub behind_now : (ls : List config.Label) (os : List Open) (to : Types) (there : ℕ) → Fit ls os to there → behind_of os ≡ tokens_behind ls
    behind_now [] os to there fit = ap behind_of fit.0
    behind_now (l ∷ ls) [] to there fit = absurd fit
    behind_now (l ∷ ls) (o ∷ os) to there fit = fit.2.behind_is

  -- ---- frames

  -- A frame is in the stack from the slot `base` on, and its code is at an index of its function, where operands of the types
  -- `awaited` are put on top: none in the running frame, the callee's results in a caller. It returns to the address `link`.
  pub record Stays (b : Bytes) (base here : ℕ) (awaited : Types) (address : ℕ) (f : Frame) : Type 0 where
    pub compiled : Compiled text inst places f.function
    pub os : List Open
    pub to : Types
    pub there : ℕ
    pub room : base + need compiled.around.layout ≤ max_slots
    pub width : length f.locals ≡ link compiled.around.layout
    pub are : compiled.context.locals ≡ types_of_values f.locals
    pub values : Locals b base f.locals
    pub live : Operands b (base + operand compiled.around.layout 0) (whole f)
    pub link_is : slot_at b (base + link compiled.around.layout) ≡ address
    pub sits : Sits compiled os (length (belows f.labels)) (awaited ++ types_of_values f.operands) here f.code to there
    pub fit : Fit compiled f.labels os to there

  -- Callers are one below the other. The address that a frame returns to has the words that give its caller's frame back, and the
  -- caller's code goes on after them; the last one is that of the exit stub. The outermost function has results of the types
  -- `outer`.
  module _ (outer : Types) where
    pub record Returns (b : Bytes) (base : ℕ) (awaited : Types) (address to : ℕ) (f : Frame) : Type 0 where
      pub at : ℕ
      pub here : ℕ
      pub is : address ≡ place at
      pub gives_back : HasAt text at (back (part f))
      pub stays : Stays b base here awaited to f
      pub goes_on : stays.compiled.begin + here ≡ at + 6

    abbrev pub CallersStay : Bytes → (address : ℕ) → (awaited : Types) → List Frame → Type 0
    CallersStay b address awaited [] = (address ≡ text_base) × (awaited ≡ reverse outer)
    CallersStay b address awaited (f ∷ fs) =
        (to : ℕ) × Returns b (used fs) awaited address to f × CallersStay b to (reverse f.function.ty.results) fs

    -- the running frame and its callers
    pub record FramesStay (f : Frame) (callers : List Frame) (s : State) : Type 0 where
      pub frame : IsFrame (used callers) s
      pub here : ℕ
      pub address : ℕ
      pub running : Stays s.bytes (used callers) here [] address f
      pub at : s.pc ≡ place (running.compiled.begin + here)
      pub callers_stay : CallersStay s.bytes address (reverse f.function.ty.results) callers

-- the registers that hold what outlives a frame
pub record KeepsRegisters (s s' : State) : Type 0 where
  pub by : (r : ℕ) → is_scratch r ≡ false → (r == ra) ≡ false → (r == s0) ≡ false → reg s'.registers r ≡ reg s.registers r
