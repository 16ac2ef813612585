-- Frames stay where the slots that they are in stay; and where a rule's instruction words lead in the running frame.
use Rattle.std.proofs.Common.{◌≡◌, ℕ, suc, ◌+◌, ◌*◌, ◌<◌, ◌≤◌, ◌⊎◌, false, List, [], ◌∷◌, ◌++◌, length, reverse, Option, Some, refl, sym, ◌∙◌, subst, arith}
use Rattle.rv_isa.specs.declared.operations.Op.{Op}
use Rattle.rv_isa.specs.Steps.{State, Bytes, reg, exec, Called}
use Rattle.rv_isa.specs.Runs.{place, Reaches, FitWindows}
use Rattle.rv_isa.proofs.RunLaws.{Reaches-then}
use Rattle.wasm_defs.specs.declared.place.Place.{Place}
use Rattle.wasm_defs.specs.declared.value.TrapKind.{TrapKind}
use Rattle.wasm_defs.specs.Trees.{Sort, Part, Seq, Nothing, Simple, Block, Loop, If, Else}
use Rattle.wasm_defs.specs.Typing.{Types}
use Rattle.wasm_defs.specs.Values.{Value, types_of_values, trap_number}
use Rattle.wasm_defs.specs.Configurations.{Instance, Store, Invocation, Frame, Config, Outside, Inside, Carrying, Step, To, Returned, Trapped, Stopped, Waiting, Stuck, belows, whole, part, used, max_slots}
use Rattle.wasm_defs.specs.Configurations as config
use Rattle.frame_layout.specs.Laws.{is_scratch, TrapsAt}
use Rattle.frame_layout.specs.Macros.{a0, a7}
use Rattle.frame_layout.specs.Slots.{link, operand}
use Rattle.simulation.proofs.Frames.Values.{Agree, Locals, operands_kept, locals_kept, SameBeside, Matches}
use Rattle.simulation.proofs.Frames.Frames.{Open, TextPlaces, Sits, Fit, Stays, CallersStay, FramesStay, KeepsRegisters}

pub agree_less : {n : ℕ} (m : ℕ) {old new : Bytes} → m ≤ n → Agree n old new → Agree m old new
agree_less {n} m {old} {new} le agree = record { by = λ k less. agree.by k (omega arith) }

pub same_beside : (b c : Bytes) → c ≡ b → SameBeside b c
same_beside b c e = subst (SameBeside b) (sym e) (record { globals = refl; table = refl; memory = refl; passive = refl })

pub beside_then : (b c d : Bytes) → SameBeside b c → SameBeside c d → SameBeside b d
beside_then b c d x y = record { globals = y.globals ∙ x.globals; table = y.table ∙ x.table; memory = y.memory ∙ x.memory; passive = y.passive ∙ x.passive }

pub registers_then : (s t u : State) → KeepsRegisters s t → KeepsRegisters t u → KeepsRegisters s u
registers_then s t u x y = record { by = λ r a b c. y.by r a b c ∙ x.by r a b c }

pub registers_of : (s t : State) → ((r : ℕ) → is_scratch r ≡ false → reg t.registers r ≡ reg s.registers r) → KeepsRegisters s t
registers_of s t others = record { by = λ r a b c. others r a }

module _ (text : List (Option Op)) (inst : Instance) (places : TextPlaces) where
  abbrev pub stays_kept : (old new : Bytes) (base here : ℕ) (awaited : Types) (address : ℕ) (f : Frame) → Agree (base + part f) old new → Stays text inst places old base here awaited address f → Stays text inst places new base here awaited address f
  stays_kept old new base here awaited address f agree x =
      let l = x.compiled.around.layout in
      let width = x.width in
      record {
        compiled = x.compiled;
        os = x.os;
        to = x.to;
        there = x.there;
        room = x.room;
        width = x.width;
        are = x.are;
        values = locals_kept old new base f.locals (agree_less (base + length f.locals) (omega arith) agree) x.values;
        live = operands_kept old new (base + operand l 0) (whole f) (agree_less (base + operand l 0 + length (whole f)) (omega arith) agree) x.live;
        link_is = agree.by (base + link l) (omega arith) ∙ x.link_is;
        sits = x.sits;
        fit = x.fit;
      }

  module _ (outer : Types) where
    pub callers_kept : (old new : Bytes) (address : ℕ) (awaited : Types) (callers : List Frame) → Agree (used callers) old new → CallersStay text inst places outer old address awaited callers → CallersStay text inst places outer new address awaited callers
    callers_kept old new address awaited [] agree x = x
    callers_kept old new address awaited (f ∷ fs) agree x =
        let r = x.1 in (
          x.0,
          record { at = r.at; here = r.here; is = r.is; gives_back = r.gives_back; stays = stays_kept old new (used fs) r.here awaited x.0 f agree r.stays; goes_on = r.goes_on },
          callers_kept old new x.0 (reverse f.function.ty.results) fs (agree_less (used fs) (omega arith) agree) x.2,
        )

    -- so many steps at most lead to where these frames are; what is outside the stack stays
    pub record Leads (most : ℕ) (s : State) (f : Frame) (callers : List Frame) : Type 0 where
      pub steps : ℕ
      pub short : steps ≤ most
      pub end : State
      pub reaches : Reaches text steps s end
      pub stay : FramesStay text inst places outer f callers end
      pub beside : SameBeside s.bytes end.bytes
      pub registers : KeepsRegisters s end

    abbrev pub leads_less : {most : ℕ} (more : ℕ) {s : State} {f : Frame} {callers : List Frame} → most ≤ more → Leads most s f callers → Leads more s f callers
    leads_less {most} more {s} {f} {callers} le x = record { steps = x.steps; short = omega (arith, x.short); end = x.end; reaches = x.reaches; stay = x.stay; beside = x.beside; registers = x.registers }

    abbrev pub leads_after : (j most : ℕ) (s t : State) (f : Frame) (callers : List Frame) → Reaches text j s t → SameBeside s.bytes t.bytes → KeepsRegisters s t → Leads most t f callers → Leads (j + most) s f callers
    leads_after j most s t f callers reaches beside registers x = record {
      steps = j + x.steps;
      short = omega (arith, x.short);
      end = x.end;
      reaches = Reaches-then reaches x.reaches;
      stay = x.stay;
      beside = beside_then s.bytes t.bytes x.end.bytes beside x.beside;
      registers = registers_then s t x.end registers x.registers;
    }

    module _ (f : Frame) (callers : List Frame) (s : State) (m : FramesStay text inst places outer f callers s) where
      -- what the running frame holds, for the words of one instruction
      pub matches_now : Matches m.running.compiled.around.layout (used callers) m.address s.bytes f.locals (whole f) s
      matches_now = record {
        frame = m.frame;
        room = m.running.room;
        width = m.running.width;
        values = m.running.values;
        live = m.running.live;
        link_is = m.running.link_is;
        beside = same_beside s.bytes s.bytes refl;
        low = record { by = λ k less. refl };
      }

      -- in the running frame, other operands and other code; the frames below stay, and what is outside the stack may change
      abbrev pub stands_on : (here there : ℕ) (b : Bytes) (end : State) (locals operands : List Value) (tree : Seq) (labels : List config.Label) (os : List Open) (to : Types)
          → end.pc ≡ place (m.running.compiled.begin + here) → Matches m.running.compiled.around.layout (used callers) m.address b locals (operands ++ belows labels) end → Agree (used callers) s.bytes end.bytes
          → types_of_values locals ≡ types_of_values f.locals → Sits text inst places m.running.compiled os (length (belows labels)) (types_of_values operands) here tree to there
          → Fit text inst places m.running.compiled labels os to there → FramesStay text inst places outer (record f { locals = locals; operands = operands; code = tree; labels = labels }) callers end
      stands_on here there b end locals operands tree labels os to at x low same sits fit = record {
        frame = x.frame;
        here = here;
        address = m.address;
        running = record {
          compiled = m.running.compiled;
          os = os;
          to = to;
          there = there;
          room = x.room;
          width = x.width;
          are = m.running.are ∙ sym same;
          values = x.values;
          live = x.live;
          link_is = x.link_is;
          sits = sits;
          fit = fit;
        };
        at = at;
        callers_stay = callers_kept s.bytes end.bytes m.address (reverse f.function.ty.results) callers low m.callers_stay;
      }

      -- words lead to an index where they are
      abbrev pub proceeds : (most steps here there : ℕ) (end : State) (locals operands : List Value) (tree : Seq) (labels : List config.Label) (os : List Open) (to : Types) → steps ≤ most → Reaches text steps s end
          → end.pc ≡ place (m.running.compiled.begin + here) → Matches m.running.compiled.around.layout (used callers) m.address s.bytes locals (operands ++ belows labels) end
          → types_of_values locals ≡ types_of_values f.locals → Sits text inst places m.running.compiled os (length (belows labels)) (types_of_values operands) here tree to there
          → Fit text inst places m.running.compiled labels os to there → KeepsRegisters s end
          → Leads most s (record f { locals = locals; operands = operands; code = tree; labels = labels }) callers
      proceeds most steps here there end locals operands tree labels os to short reaches at x same sits fit registers = record {
        steps = steps;
        short = short;
        end = end;
        reaches = reaches;
        stay = stands_on here there s.bytes end locals operands tree labels os to at x x.low same sits fit;
        beside = x.beside;
        registers = registers;
      }

-- ---- what a rule comes to

-- how many rules without a word may follow one another at most
abbrev pub ahead : {sort : Sort} → Part sort → ℕ
ahead Nothing = 0
ahead (Simple p rest) = 1 + ahead rest
ahead (Block type body rest) = 2 + ahead body + ahead rest
ahead (Loop type body rest) = 2 + ahead body + ahead rest
ahead (If type body other rest) = 2 + ahead body + ahead other + ahead rest
ahead (Else other) = ahead other

abbrev pub labels_ahead : List config.Label → ℕ
labels_ahead [] = 0
labels_ahead (l ∷ ls) = 1 + ahead l.after + labels_ahead ls

abbrev pub pending : Config → ℕ
pending c = c.owed + ahead c.frame.code + labels_ahead c.frame.labels

-- the weight that a step owes
abbrev pub owed_of : Step → ℕ
owed_of (To (Inside c)) = c.owed
owed_of (To (Outside store next later)) = 0
owed_of (To (Carrying store owed values later)) = suc owed
owed_of (Returned store values) = 0
owed_of (Trapped store kind place) = 0
owed_of (Stopped store) = 0
owed_of (Waiting store) = 0
owed_of Stuck = 0

module _ (text : List (Option Op)) (inst : Instance) (places : TextPlaces) (outer : Types) (store : Store) (later : List Invocation) where
  -- The machine comes to where the frames of a configuration are. It takes a step, or fewer rules without words are ahead.
  pub record Reached (most size : ℕ) (s : State) (c : Config) : Type 0 where
    pub same_store : c.store ≡ store
    pub same_later : c.later ≡ later
    pub leads : Leads text inst places outer most s c.frame c.callers
    pub moves : (0 < leads.steps) ⊎ (pending c < size)

  -- the function that was called from outside has ended, and its results are in the first slots, in order
  pub record Over (most : ℕ) (s : State) (values : List Value) : Type 0 where
    pub steps : ℕ
    pub short : steps ≤ most
    pub end : State
    pub by : (n : ℕ) → exec text (steps + n) s ≡ Called n end
    pub number_is : reg end.registers a7 ≡ 0
    pub beside : SameBeside s.bytes end.bytes
    pub results : Locals end.bytes 0 values
    pub types_are : types_of_values values ≡ outer
    pub size : length end.bytes.stack ≡ 8 * max_slots
    pub windows : FitWindows end.bytes

  -- a trap, whose words end with one whose source location is known
  pub record Halts (most : ℕ) (s : State) (kind : TrapKind) (from : Place) : Type 0 where
    pub steps : ℕ
    pub short : steps ≤ most
    pub end : State
    pub by : (n : ℕ) → exec text (steps + n) s ≡ Called n end
    pub number_is : reg end.registers a7 ≡ 1
    pub kind_is : reg end.registers a0 ≡ trap_number kind
    pub word : ℕ
    pub pc_is : end.pc ≡ place (word + 1)
    pub from_is : places.trap word ≡ Some from
    pub beside : SameBeside s.bytes end.bytes

  pub halts_at : {behind : ℕ} (most steps : ℕ) (s : State) (kind : TrapKind) (at word : ℕ) (from : Place) → s.pc ≡ place at → at + behind ≡ word + 1 → places.trap word ≡ Some from → steps ≤ most
      → TrapsAt text steps behind (trap_number kind) s → Halts most s kind from
  halts_at {behind} most steps s kind at word from starts ends told short x = record {
    steps = steps;
    short = short;
    end = x.asks.end;
    by = x.asks.by;
    number_is = x.asks.number_is;
    kind_is = x.kind_is;
    word = word;
    pc_is = omega (arith, x.asks.pc_is, starts, ends);
    from_is = told;
    beside = same_beside s.bytes x.asks.end.bytes x.asks.bytes_are;
  }

  abbrev pub Follows : (most size : ℕ) → State → Step → Type 0
  Follows most size s (To (Inside c)) = Reached most size s c
  Follows most size s (To (Outside now next more)) = (now ≡ store) × (later ≡ next ∷ more) × (values : List Value) × Over most s values
  Follows most size s (To (Carrying now owed values next)) = (now ≡ store) × (later ≡ next) × Over most s (reverse values)
  Follows most size s (Returned now values) = (now ≡ store) × (later ≡ []) × Over most s values
  Follows most size s (Trapped now kind from) = (now ≡ store) × Halts most s kind from
  Follows most size s step = ⊥
