-- A call of a declared function.
use Rattle.std.proofs.Common.{◌≡◌, ℕ, suc, ◌+◌, ◌-◌, ◌^◌, ◌<◌, ◌≤◌, List, [], ◌∷◌, ◌++◌, length, take, drop, reverse, Option, Some, None, refl, sym, ap, ◌∙◌, subst, arith, ◌*◌}
use Rattle.std.specs.Prelude.{slice_get}
use Rattle.std.proofs.lemmas.Bool.{eq-eqb, false≢true}
use Rattle.std.proofs.lemmas.List.{length-append, length-reverse, reverse-reverse, take-append-drop, length-take-le}
use Rattle.std.proofs.Common.{append_assoc}
use Rattle.rv_isa.specs.declared.operations.Op.{Op}
use Rattle.rv_isa.specs.declared.operations.Op.TheVariants.{Auipc, Jalr}
use Rattle.rv_isa.specs.Steps.{State, Bytes, reg}
use Rattle.rv_isa.specs.Runs.{place, HasAt, Reaches, FitWindows, hi, lo}
use Rattle.rv_isa.proofs.RunLaws.{Reaches-then}
use Rattle.wasm_defs.specs.declared.types.FuncType.{FuncType}
use Rattle.wasm_defs.specs.declared.token.Plain.TheVariants.{Call}
use Rattle.wasm_defs.specs.Trees.{Seq, Simple}
use Rattle.wasm_defs.specs.Typing.{Types, Context, Moves, with_type, called, function_type}
use Rattle.wasm_defs.specs.Places.{Place, after_rule}
use Rattle.wasm_defs.specs.Context.{type_or_empty, type_of_function}
use Rattle.wasm_defs.specs.Values.{Value, types_of_values}
use Rattle.wasm_defs.specs.Configurations.{Func, Function, Declared, type_of, Instance, Frame, Config, belows, part, used, max_slots, Step}
use Rattle.wasm_defs.specs.Reductions.{call, enter}
use Rattle.frame_layout.specs.Macros.{ra, s0, s5, distance, shift, back}
use Rattle.frame_layout.specs.Slots.{operand}
use Rattle.frame_layout.specs.Templates.{exit_stub}
use Rattle.frame_layout.specs.Laws.{IsFrame}
use Rattle.frame_layout.proofs.Standing.{has_first, has_rest}
use Rattle.simulation.specs.Functions.{TextPlaces, Known}
use Rattle.simulation.proofs.Frames.Frames.{under, Compiled, SitsAt, Returns, CallersStay, FramesStay, KeepsRegisters}
use Rattle.simulation.proofs.Frames.Follows.{same_beside, ahead, labels_ahead, Follows, owed_of}
use Rattle.simulation.proofs.Frames.Heights.{peak_here}
use Rattle.simulation.proofs.Frames.Holding.{follows_less, follows_after}
use Rattle.simulation.proofs.Frames.Jumps.{shift_moves, linked_lands}
use Rattle.simulation.proofs.Frames.Leaving.{operands_below}
use Rattle.simulation.proofs.Frames.Rules.{types_length, types_split, MovesFixed, moves_fixed, rule_height}
use Rattle.simulation.proofs.Frames.Sitting.{has_at, has_words, sits_rest}
use Rattle.simulation.proofs.Frames.Values.{Operands, Locals}
use Rattle.simulation.proofs.Frames.Reversed.{types_reverse, passed}
use Rattle.simulation.proofs.Calls.Entered.{enters_follow}

-- what the rule says of types
pub record CalledAt (o : Option FuncType) (from mid : Types) : Type 0 where
  pub ty : FuncType
  pub is : o ≡ Some ty
  pub moves : MovesFixed (reverse ty.params) (reverse ty.results) from mid
  pub height : (n : ℕ) → after_rule (with_type o (called [])) (Some (length from + n)) ≡ Some (length mid + n)

pub called_at : (o : Option FuncType) (from mid : Types) → Moves (with_type o (called [])) from mid → CalledAt o from mid
called_at None from mid m = absurd m.allowed
called_at (Some t) from mid m =
    record { ty = t; is = refl; moves = moves_fixed (reverse t.params) (reverse t.results) from mid m; height = λ n. rule_height (called [] t) from mid n tt m }

-- a frame that calls a function of some type: the topmost of these operands are the arguments, and types of the others are `low`
module _ (text : List (Option Op)) (inst : Instance) (places : TextPlaces) (outer : Types) (f : Frame) (callers : List Frame) (s : State) (m : FramesStay text inst places outer f callers s) (ty : FuncType)
    (ops : List Value) (low : Types) (before : types_of_values ops ≡ reverse ty.params ++ low) where
  abbrev taken : ℕ
  taken = length ty.params

  pub arguments : (types_of_values (take (length ty.params) ops) ≡ reverse ty.params) × (types_of_values (drop (length ty.params) ops) ≡ low) × (length ty.params ≤ length ops)
  arguments =
      let parts = types_split (reverse ty.params) low ops before in
      let same : length (reverse ty.params) ≡ taken = length-reverse ty.params in
      (ap (λ (i : ℕ). types_of_values (take i ops)) (sym same) ∙ parts.0, ap (λ (i : ℕ). types_of_values (drop i ops)) (sym same) ∙ parts.1, omega (arith, parts.2, same))

  pub others_count : length (types_of_values ops) ≡ length ty.params + length (drop (length ty.params) ops)
  others_count = types_length ops ∙ ap length (sym (take-append-drop taken ops)) ∙ length-append (take taken ops) (drop taken ops) ∙ omega (arith, length-take-le taken ops arguments.2)

  pub arguments_typed : types_of_values (reverse (take (length ty.params) ops)) ≡ ty.params
  arguments_typed = types_reverse (take taken ops) ∙ ap reverse arguments.0 ∙ reverse-reverse ty.params

  module _ (live : Operands s.bytes (used callers + operand m.running.compiled.around.layout 0) (ops ++ belows f.labels)) where
    parted : Operands s.bytes (used callers + operand m.running.compiled.around.layout 0) (take (length ty.params) ops ++ (drop (length ty.params) ops ++ belows f.labels))
    parted =
        subst (Operands s.bytes (used callers + operand m.running.compiled.around.layout 0))
        (ap (λ (vs : List Value). vs ++ belows f.labels) (sym (take-append-drop taken ops)) ∙ append_assoc (take taken ops) (drop taken ops) (belows f.labels)) live

    -- they are the function's first locals
    pub arguments_stand : (b : Bytes) (rest : Seq) → b ≡ s.bytes → Locals b (used (record f { operands = drop (length ty.params) ops; code = rest } ∷ callers)) (reverse (take (length ty.params) ops))
    arguments_stand b rest bytes_are =
        let base_is : used callers + operand m.running.compiled.around.layout 0 + length (drop taken ops ++ belows f.labels) ≡ used (record f { operands = drop taken ops; code = rest } ∷ callers) = omega (arith, m.running.width) in
        subst (λ (b : Bytes). Locals b (used (record f { operands = drop taken ops; code = rest } ∷ callers)) (reverse (take taken ops))) (sym bytes_are)
        (subst (λ (i : ℕ). Locals s.bytes i (reverse (take taken ops))) base_is
        (record { holds = λ i u is. passed s.bytes (used callers + operand m.running.compiled.around.layout 0) (take taken ops) (drop taken ops ++ belows f.labels) parted i u is }))

    -- the function returns to the frame, which goes on with its results
    pub caller_returns : (at here : ℕ) (rest : Seq) (mid : Types) → HasAt text at (back (part (record f { operands = drop (length ty.params) ops; code = rest }))) → m.running.compiled.begin + here ≡ at + 6
        → SitsAt text inst places m.running.compiled m.running.os (Some (length mid + length (belows f.labels))) mid here rest m.running.to m.running.there → mid ≡ reverse ty.results ++ low
        → Returns text inst places outer s.bytes (used callers) (reverse ty.results) (place at) m.address (record f { operands = drop (length ty.params) ops; code = rest })
    caller_returns at here rest mid gives_back goes_on sits after =
        let awaits : mid ≡ reverse ty.results ++ types_of_values (drop taken ops) = after ∙ ap (λ (ts : Types). reverse ty.results ++ ts) (sym arguments.1) in
        record {
          at = at;
          here = here;
          is = refl;
          gives_back = gives_back;
          stays = record {
            compiled = m.running.compiled;
            os = m.running.os;
            to = m.running.to;
            there = m.running.there;
            room = m.running.room;
            width = m.running.width;
            are = m.running.are;
            values = m.running.values;
            live = operands_below s.bytes (used callers + operand m.running.compiled.around.layout 0) (take taken ops) (drop taken ops ++ belows f.labels) parted;
            link_is = m.running.link_is;
            sits = subst (λ (ts : Types). SitsAt text inst places m.running.compiled m.running.os (Some (length ts + length (belows f.labels))) ts here rest m.running.to m.running.there) awaits sits;
            fit = m.running.fit;
          };
          goes_on = goes_on;
        }

module _ (text : List (Option Op)) (near : length text ≤ 2 ^ 26) (inst : Instance) (places : TextPlaces) (outer : Types) (stub : HasAt text 0 exit_stub) where
  module _ (c : Config) (s : State) (g : ℕ) (rest : Seq) (m : FramesStay text inst places outer (record c.frame { code = Simple (Call g) rest }) c.callers s) where
    abbrev k : Compiled text inst places c.frame.function
    k = m.running.compiled

    abbrev pub at : Context
    at = under k.context m.running.os

    abbrev ops : List Value
    ops = c.frame.operands

    abbrev n : ℕ
    n = length (belows c.frame.labels)

    abbrev h : ℕ
    h = length (types_of_values ops) + n

    abbrev size : ℕ
    size = ahead (Simple (Call g) rest) + labels_ahead c.frame.labels

    pub x : CalledAt (function_type at g) (types_of_values ops) m.running.sits.typed.0
    x = called_at (function_type at g) (types_of_values ops) m.running.sits.typed.0 m.running.sits.typed.1

    -- to a function of some type, at its index
    module _ (ty : FuncType) (ty_is : ty ≡ x.ty) (target : places.function g ≤ length text) where
      abbrev count : ℕ
      count = length ty.params

      abbrev caller : Frame
      caller = record c.frame { operands = drop (length ty.params) c.frame.operands; code = rest }

      before : types_of_values ops ≡ reverse ty.params ++ x.moves.below
      before = x.moves.before ∙ ap (λ (t : FuncType). reverse t.params ++ x.moves.below) (sym ty_is)

      arguments_are : length (type_of_function at g).params ≡ count
      arguments_are = ap (λ (o : Option FuncType). length (type_or_empty o).params) x.is ∙ ap (λ (t : FuncType). length t.params) (sym ty_is)

      slots_are : operand k.around.layout (h - length (type_of_function at g).params) ≡ part (record c.frame { operands = drop (length ty.params) c.frame.operands; code = rest })
      slots_are = omega (arith, m.running.width, arguments_are, others_count text inst places outer (record c.frame { code = Simple (Call g) rest }) c.callers s m ty ops x.moves.below before, length-append (drop count ops) (belows c.frame.labels))

      small : (part (record c.frame { operands = drop (length ty.params) c.frame.operands; code = rest }) < 2 ^ 24) × (used c.callers ≤ max_slots)
      small =
          let room = m.running.room in
          let width = m.running.width in
          let low = m.running.sits.low in
          let peak_is = peak_here at (Simple (Call g) rest) h in
          (omega (arith, slots_are), omega arith)

      d_is : k.around.distance_to (m.here + 6) g ≡ distance (k.begin + (m.here + 6)) (places.function g)
      d_is = k.distances (m.here + 6) g

      abbrev Words : (slots d : ℕ) → List Op
      Words slots d = shift slots ++ (Auipc ra (hi d) ∷ Jalr ra ra (lo d) ∷ back slots)

      has : HasAt text (k.begin + m.here) (Words (part (record c.frame { operands = drop (length ty.params) c.frame.operands; code = rest })) (distance (k.begin + (m.here + 6)) (places.function g)))
      has =
          subst (λ (d : ℕ). HasAt text (k.begin + m.here) (Words (part caller) d)) d_is
          (subst (λ (i : ℕ). HasAt text (k.begin + m.here) (Words i (k.around.distance_to (m.here + 6) g))) slots_are
          (has_words text inst places k m.running.os (Call g) rest h m.here (types_of_values ops) m.running.to m.running.there m.running.sits))

      -- where the caller goes on
      sits : SitsAt text inst places k m.running.os (Some (length m.running.sits.typed.0 + n)) m.running.sits.typed.0 (m.here + 14) rest m.running.to m.running.there
      sits =
          subst (λ (q : Place). SitsAt text inst places k m.running.os q m.running.sits.typed.0 (m.here + 14) rest m.running.to m.running.there) (x.height n)
          (sits_rest text inst places k m.running.os (Call g) rest h m.here (types_of_values ops) m.running.to m.running.there m.running.sits m.running.sits.typed.0 m.running.sits.typed.2)

      returns : Returns text inst places outer s.bytes (used c.callers) (reverse ty.results) (place (k.begin + (m.here + 8))) m.address caller
      returns =
          let behind = has_rest text (k.begin + m.here) (shift (part caller)) (Auipc ra (hi (distance (k.begin + (m.here + 6)) (places.function g))) ∷ Jalr ra ra (lo (distance (k.begin + (m.here + 6)) (places.function g))) ∷ back (part caller)) has in
          caller_returns text inst places outer (record c.frame { code = Simple (Call g) rest }) c.callers s m ty ops x.moves.below before m.running.live (k.begin + (m.here + 8)) (m.here + 14) rest m.running.sits.typed.0
          (has_at text (suc (suc (k.begin + m.here + 6))) (k.begin + (m.here + 8)) (back (part caller)) (omega arith) behind.1.1) (omega arith) sits
          (x.moves.after ∙ ap (λ (t : FuncType). reverse t.results ++ x.moves.below) (sym ty_is))

      -- where the function begins
      pub record Begun : Type 0 where
        pub end : State
        pub reaches : Reaches text 8 s end
        pub bytes_are : end.bytes ≡ s.bytes
        pub registers : KeepsRegisters s end
        pub at : end.pc ≡ place (places.function g)
        pub frame : IsFrame (used (record c.frame { operands = drop (length ty.params) c.frame.operands; code = rest } ∷ c.callers)) end
        pub link_is : reg end.registers ra ≡ place (m.running.compiled.begin + (m.here + 8))
        pub types : types_of_values (reverse (take (length ty.params) c.frame.operands)) ≡ ty.params
        pub stand : Locals end.bytes (used (record c.frame { operands = drop (length ty.params) c.frame.operands; code = rest } ∷ c.callers)) (reverse (take (length ty.params) c.frame.operands))
        pub stay : CallersStay text inst places outer end.bytes (place (m.running.compiled.begin + (m.here + 8))) (reverse ty.results) (record c.frame { operands = drop (length ty.params) c.frame.operands; code = rest } ∷ c.callers)

      pub begins : Begun
      begins =
          let slots = part caller in
          let d = distance (k.begin + (m.here + 6)) (places.function g) in
          let calls = Auipc ra (hi d) ∷ Jalr ra ra (lo d) ∷ back slots in
          let behind = has_rest text (k.begin + m.here) (shift slots) calls has in
          let inside = m.running.sits.inside in
          let one = shift_moves text s (k.begin + m.here) slots m.at small.0 (used c.callers) (has_first text (k.begin + m.here) (shift slots) calls has) m.frame.first small.1 in
          let pc_one = one.pc_is in
          let here_is = m.at in
          let two = linked_lands text one.end (k.begin + m.here + 6) (k.begin + (m.here + 6)) (places.function g) (behind.0, (behind.1.0, tt)) (omega arith) (omega arith) (omega arith) (omega arith) in
          let bytes : two.end.bytes ≡ s.bytes = two.bytes_are ∙ one.bytes_are in
          let link = two.link_is in
          record {
            end = two.end;
            reaches = Reaches-then one.reaches two.reaches;
            bytes_are = bytes;
            registers = record { by = λ r a b e. two.others r (λ f. false≢true (sym b ∙ eq-eqb r ra f)) ∙ one.others r a (λ f. false≢true (sym e ∙ eq-eqb r s0 f)) };
            at = two.pc_is;
            frame = record {
              first = two.others s0 (λ e. absurd cc) ∙ one.first_is;
              end = two.others s5 (λ e. absurd cc) ∙ one.others s5 refl (λ e. absurd cc) ∙ m.frame.end;
              size = ap (λ (b : Bytes). length b.stack) bytes ∙ m.frame.size;
              windows = subst FitWindows (sym bytes) m.frame.windows;
            };
            link_is = omega arith;
            types = arguments_typed text inst places outer (record c.frame { code = Simple (Call g) rest }) c.callers s m ty ops x.moves.below before;
            stand = arguments_stand text inst places outer (record c.frame { code = Simple (Call g) rest }) c.callers s m ty ops x.moves.below before m.running.live two.end.bytes rest bytes;
            stay = subst (λ (b : Bytes). CallersStay text inst places outer b (place (k.begin + (m.here + 8))) (reverse ty.results) (caller ∷ c.callers)) (sym bytes) (m.address, returns, m.callers_stay);
          }

    -- what a call owes is paid
    abbrev Pays : Step → Type 0
    Pays step = Follows text inst places outer c.store c.later (128 + 128 * owed_of step) size s step

    -- a declared function
    enters : (f : Func) (callee : Compiled text inst places f) → callee.begin ≡ places.function g → f.ty ≡ x.ty
        → Pays (enter c.store f (reverse (take (length f.ty.params) c.frame.operands)) (record c.frame { operands = drop (length f.ty.params) c.frame.operands; code = rest } ∷ c.callers) c.later)
    enters f callee begin_is ty_is =
        let inside = callee.inside in
        let b = begins f.ty ty_is (omega arith) in
        let arguments = reverse (take (length f.ty.params) c.frame.operands) in
        let callers = record c.frame { operands = drop (length f.ty.params) c.frame.operands; code = rest } ∷ c.callers in
        let step = enter c.store f arguments callers c.later in
        follows_less text inst places outer c.store c.later (8 + (24 + 128 * owed_of step)) (128 + 128 * owed_of step) size s step (omega arith)
        (follows_after text inst places outer c.store c.later 8 (24 + 128 * owed_of step) size s b.end b.reaches (same_beside s.bytes b.end.bytes b.bytes_are) b.registers step
        (enters_follow text near inst places outer stub c.store c.later size f callee arguments callers b.end (place (k.begin + (m.here + 8))) (b.at ∙ ap place (sym begin_is)) b.frame b.link_is b.types b.stand b.stay))

    -- by the function's index
    pub known : (h : Function) → slice_get inst.functions g ≡ Some h → type_of h ≡ x.ty → Known text inst places g h → Follows text inst places outer c.store c.later (128 + 128 * owed_of (call c rest ops (slice_get inst.functions g))) size s (call c rest ops (slice_get inst.functions g))
    known h is ty_is y =
        let found : slice_get inst.functions g ≡ Some (Declared y.func) = is ∙ ap (λ (z : Function). Some z) y.is in
        subst (λ (o : Option Function). Pays (call c rest ops o)) (sym found)
        (enters y.func y.compiled y.begin_is (ap type_of (sym y.is) ∙ ty_is))
