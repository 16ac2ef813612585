-- A call by a row of the table, up to the function's first instruction word.
use Rattle.std.proofs.Common.{◌≡◌, ℕ, suc, ◌+◌, ◌-◌, ◌^◌, ◌<◌, ◌≤◌, Bool, true, false, List, [], ◌∷◌, ◌++◌, length, take, drop, reverse, Option, Some, None, refl, sym, ap, ◌∙◌, subst, arith}
use Rattle.std.specs.Prelude.{slice_get, nat_lt}
use Rattle.std.proofs.lemmas.List.{length-append}
use Rattle.rv_isa.specs.declared.operations.Op.{Op}
use Rattle.rv_isa.specs.declared.operations.Op.TheVariants as op
use Rattle.rv_isa.specs.declared.operations.ShiftOp.TheVariants.{Slli}
use Rattle.rv_isa.specs.declared.operations.RegOp.TheVariants.{Add}
use Rattle.rv_isa.specs.declared.operations.LoadOp.TheVariants.{Ld}
use Rattle.rv_isa.specs.declared.operations.BranchOp.TheVariants.{Beq, Bne, Bltu}
use Rattle.rv_isa.specs.Steps.{State, Bytes, reg}
use Rattle.rv_isa.specs.Runs.{place, HasAt, Reaches, FitWindows}
use Rattle.wasm_defs.specs.declared.types.ValType.TheVariants.{I32}
use Rattle.wasm_defs.specs.declared.types.FuncType.{FuncType}
use Rattle.wasm_defs.specs.declared.token.Plain.TheVariants.{CallIndirect}
use Rattle.wasm_defs.specs.Trees.{Seq, Simple}
use Rattle.wasm_defs.specs.Typing.{Types, Context, Moves, with_type, only_if, called}
use Rattle.wasm_defs.specs.Places.{Place, after_rule}
use Rattle.wasm_defs.specs.Context.{type_or_empty}
use Rattle.wasm_defs.specs.Values.{Value, types_of_values}
use Rattle.wasm_defs.specs.Configurations.{Instance, Frame, Config, belows, part, used, max_slots}
use Rattle.frame_layout.specs.Macros.{x0, ra, t0, t1, t2, s4, s5, shift, back, forward, trap, zero_extend, const_32}
use Rattle.frame_layout.specs.Slots.{operand}
use Rattle.frame_layout.specs.Templates.{load_operand, indirect_words}
use Rattle.frame_layout.specs.Laws.{slot_at, IsFrame}
use Rattle.frame_layout.proofs.Standing.{has_rest}
use Rattle.simulation.specs.Regions.{HasRegions}
use Rattle.simulation.specs.TableLaws.{Begins, BeginsRow}
use Rattle.simulation.proofs.Memory.Tables.{indirect_does}
use Rattle.simulation.specs.Functions.{TextPlaces}
use Rattle.simulation.proofs.Frames.Frames.{under, Compiled, SitsAt, Returns, CallersStay, FramesStay, KeepsRegisters}
use Rattle.simulation.proofs.Frames.Heights.{peak_here}
use Rattle.simulation.proofs.Frames.Rules.{types_length, MovesFixed, moves_fixed, rule_height}
use Rattle.simulation.proofs.Frames.Sitting.{has_at, has_words, sits_rest}
use Rattle.simulation.proofs.Frames.Values.{Locals}
use Rattle.simulation.specs.Tables.{like_in, TableHolds}
use Rattle.simulation.proofs.Straight.Operations.{typed_word, typed_range}
use Rattle.simulation.proofs.Calls.Calls.{others_count, arguments_typed, arguments_stand, caller_returns}
use Rattle.simulation.proofs.TypeIndices.{like_within}

-- what the rule says of types
pub record CalledBy (b : Bool) (o : Option FuncType) (from mid : Types) : Type 0 where
  pub ty : FuncType
  pub is : o ≡ Some ty
  pub moves : MovesFixed (I32 ∷ reverse ty.params) (reverse ty.results) from mid
  pub height : (n : ℕ) → after_rule (only_if b (with_type o (called (I32 ∷ [])))) (Some (length from + n)) ≡ Some (length mid + n)

pub called_by : (b : Bool) (o : Option FuncType) (from mid : Types) → Moves (only_if b (with_type o (called (I32 ∷ [])))) from mid → CalledBy b o from mid
called_by false o from mid m = absurd m.allowed
called_by true None from mid m = absurd m.allowed
called_by true (Some t) from mid m =
    record { ty = t; is = refl; moves = moves_fixed (I32 ∷ reverse t.params) (reverse t.results) from mid m; height = λ n. rule_height (called (I32 ∷ []) t) from mid n tt m }

module _ (text : List (Option Op)) (near : length text ≤ 2 ^ 26) (inst : Instance) (places : TextPlaces) (outer : Types) (start : Config) (s : State) (type table_index : ℕ) (rest : Seq) (v : Value) (below : List Value)
    (m : FramesStay text inst places outer (record start.frame { operands = v ∷ below; code = Simple (CallIndirect type table_index) rest }) start.callers s) where
  abbrev k : Compiled text inst places start.frame.function
  k = m.running.compiled

  abbrev at : Context
  at = under k.context m.running.os

  abbrev lower : List Value
  lower = belows start.frame.labels

  abbrev n : ℕ
  n = length (belows start.frame.labels)

  abbrev h : ℕ
  h = length (types_of_values (v ∷ below)) + n

  pub x : CalledBy (nat_lt table_index (under m.running.compiled.context m.running.os).tables) (slice_get (under m.running.compiled.context m.running.os).types type) (types_of_values (v ∷ below)) m.running.sits.typed.0
  x = called_by (nat_lt table_index at.tables) (slice_get at.types type) (types_of_values (v ∷ below)) m.running.sits.typed.0 m.running.sits.typed.1

  -- the type is one of the module's
  pub type_is : slice_get inst.context.types type ≡ Some x.ty
  type_is = ap (λ (ts : List FuncType). slice_get ts type) (sym k.types_are) ∙ x.is

  index_type : v.ty ≡ I32
  index_type = let e = x.moves.before in cc

  arguments_before : types_of_values below ≡ reverse x.ty.params ++ x.moves.below
  arguments_before = let e = x.moves.before in cc

  abbrev Words : (slots : ℕ) → List Op
  Words slots =
      load_operand k.around t0 (h - 1) ++ (zero_extend t0 ++ (const_32 t1 k.around.rows ++ (op.Branch Bltu t0 t1 (forward 16) ∷ trap 5
      ++ (op.Shift Slli t0 t0 4 ∷ op.Reg Add t0 t0 s4 ∷ op.Load Ld t1 t0 0 ∷ op.Branch Bne t1 x0 (forward 16) ∷ trap 6
      ++ (op.Load Ld t0 t0 8 ∷ const_32 t2 (k.around.like type) ++ (op.Branch Beq t0 t2 (forward 16) ∷ trap 7
      ++ (shift slots ++ (op.Jalr ra t1 0 ∷ back slots))))))))

  has_here : HasAt text (m.running.compiled.begin + m.here) (indirect_words m.running.compiled.around (length (types_of_values (v ∷ below)) + length (belows start.frame.labels)) type (length (type_or_empty (slice_get (under m.running.compiled.context m.running.os).types type)).params))
  has_here = has_words text inst places k m.running.os (CallIndirect type table_index) rest h m.here (types_of_values (v ∷ below)) m.running.to m.running.there m.running.sits

  -- ---- by the row

  high : used start.callers + operand m.running.compiled.around.layout (length (types_of_values (v ∷ below)) + length (belows start.frame.labels) - 1) < max_slots
  high =
      let room = m.running.room in
      let low = m.running.sits.low in
      let peak_is = peak_here at (Simple (CallIndirect type table_index) rest) h in
      omega arith

  pub by_row : (pages : ℕ) → HasRegions pages s → TableHolds inst places s.bytes → ((f : ℕ) → slice_get inst.table v.number ≡ Some (Some f) → places.function f ≤ length text)
      → BeginsRow text (operand m.running.compiled.around.layout (length (types_of_values (v ∷ below)) + length (belows start.frame.labels) - 1 - length (type_or_empty (slice_get (under m.running.compiled.context m.running.os).types type)).params)) (m.running.compiled.around.like type) places.function (like_in inst) s (slice_get inst.table v.number)
  by_row pages regions table fit =
      let there_is : used start.callers + operand k.around.layout (h - 1) ≡ used start.callers + operand k.around.layout 0 + length (below ++ lower) = omega (arith, types_length (v ∷ below), length-append below lower) in
      let slot = slot_at s.bytes (used start.callers + operand k.around.layout 0 + length (below ++ lower)) in
      let word_is = ap (slot_at s.bytes) there_is ∙ typed_word slot v I32 index_type m.running.live.0 in
      let small = typed_range slot v I32 index_type m.running.live.0 in
      let like_is : k.around.like type ≡ _ = ap (λ (f : ℕ → ℕ). f type) k.like_is in
      let within = like_within inst.context.types type x.ty type_is in
      let few = table.few_types in
      indirect_does k.around text s (k.begin + m.here) (used start.callers) h type (length (type_or_empty (slice_get at.types type)).params) v.number pages inst.table places.function (like_in inst)
      has_here m.at m.frame regions table.rows k.rows_are (omega arith) high word_is small near fit

  -- ---- to a function of the type, at its address

  module _ (ty : FuncType) (ty_is : ty ≡ x.ty) where
    abbrev count : ℕ
    count = length ty.params

    abbrev caller : Frame
    caller = record start.frame { operands = drop (length ty.params) below; code = rest }

    before : types_of_values below ≡ reverse ty.params ++ x.moves.below
    before = arguments_before ∙ ap (λ (t : FuncType). reverse t.params ++ x.moves.below) (sym ty_is)

    arguments_are : length (type_or_empty (slice_get (under m.running.compiled.context m.running.os).types type)).params ≡ count
    arguments_are = ap (λ (o : Option FuncType). length (type_or_empty o).params) x.is ∙ ap (λ (t : FuncType). length t.params) (sym ty_is)

    pub slots_are : operand m.running.compiled.around.layout (length (types_of_values (v ∷ below)) + length (belows start.frame.labels) - 1 - length (type_or_empty (slice_get (under m.running.compiled.context m.running.os).types type)).params) ≡ part (record start.frame { operands = drop (length ty.params) below; code = rest })
    slots_are = omega (arith, m.running.width, arguments_are, others_count text inst places outer (record start.frame { operands = v ∷ below; code = Simple (CallIndirect type table_index) rest }) start.callers s m ty below x.moves.below before, length-append (drop count below) lower)

    has : HasAt text (k.begin + m.here) (Words (part (record start.frame { operands = drop (length ty.params) below; code = rest })))
    has = subst (λ (i : ℕ). HasAt text (k.begin + m.here) (Words i)) slots_are has_here

    -- after the jump
    has_back : HasAt text (k.begin + (m.here + 38)) (back (part (record start.frame { operands = drop (length ty.params) below; code = rest })))
    has_back =
        let slots = part caller in
        let last = op.Jalr ra t1 0 ∷ back slots in
        let third = op.Branch Beq t0 t2 (forward 16) ∷ trap 7 in
        let second = op.Load Ld t0 t0 8 ∷ const_32 t2 (k.around.like type) in
        let row = op.Shift Slli t0 t0 4 ∷ op.Reg Add t0 t0 s4 ∷ op.Load Ld t1 t0 0 ∷ op.Branch Bne t1 x0 (forward 16) ∷ trap 6 in
        let first = op.Branch Bltu t0 t1 (forward 16) ∷ trap 5 in
        let a = has_rest text (k.begin + m.here) (load_operand k.around t0 (h - 1)) (zero_extend t0 ++ (const_32 t1 k.around.rows ++ (first ++ (row ++ (second ++ (third ++ (shift slots ++ last))))))) has in
        let b = has_rest text (k.begin + m.here + 3) (zero_extend t0) (const_32 t1 k.around.rows ++ (first ++ (row ++ (second ++ (third ++ (shift slots ++ last)))))) a in
        let c = has_rest text (k.begin + m.here + 3 + 2) (const_32 t1 k.around.rows) (first ++ (row ++ (second ++ (third ++ (shift slots ++ last))))) b in
        let d = has_rest text (k.begin + m.here + 3 + 2 + 5) first (row ++ (second ++ (third ++ (shift slots ++ last)))) c in
        let e = has_rest text (k.begin + m.here + 3 + 2 + 5 + 4) row (second ++ (third ++ (shift slots ++ last))) d in
        let f = has_rest text (k.begin + m.here + 3 + 2 + 5 + 4 + 7) second (third ++ (shift slots ++ last)) e in
        let g = has_rest text (k.begin + m.here + 3 + 2 + 5 + 4 + 7 + 6) third (shift slots ++ last) f in
        let i = has_rest text (k.begin + m.here + 3 + 2 + 5 + 4 + 7 + 6 + 4) (shift slots) last g in
        has_at text (suc (k.begin + m.here + 3 + 2 + 5 + 4 + 7 + 6 + 4 + 6)) (k.begin + (m.here + 38)) (back slots) (omega arith) i.1

    -- where the caller goes on
    sits : SitsAt text inst places k m.running.os (Some (length m.running.sits.typed.0 + n)) m.running.sits.typed.0 (m.here + 44) rest m.running.to m.running.there
    sits =
        subst (λ (q : Place). SitsAt text inst places k m.running.os q m.running.sits.typed.0 (m.here + 44) rest m.running.to m.running.there) (x.height n)
        (sits_rest text inst places k m.running.os (CallIndirect type table_index) rest h m.here (types_of_values (v ∷ below)) m.running.to m.running.there m.running.sits m.running.sits.typed.0 m.running.sits.typed.2)

    returns : Returns text inst places outer s.bytes (used start.callers) (reverse ty.results) (place (k.begin + (m.here + 38))) m.address caller
    returns =
        caller_returns text inst places outer (record start.frame { operands = v ∷ below; code = Simple (CallIndirect type table_index) rest }) start.callers s m ty below x.moves.below before m.running.live.1 (k.begin + (m.here + 38)) (m.here + 44) rest m.running.sits.typed.0
        has_back (omega arith) sits (x.moves.after ∙ ap (λ (t : FuncType). reverse t.results ++ x.moves.below) (sym ty_is))

    -- where the function begins
    pub record Begun (there : ℕ) : Type 0 where
      pub end : State
      pub reaches : Reaches text 29 s end
      pub bytes_are : end.bytes ≡ s.bytes
      pub registers : KeepsRegisters s end
      pub at : end.pc ≡ place there
      pub frame : IsFrame (used (record start.frame { operands = drop (length ty.params) below; code = rest } ∷ start.callers)) end
      pub link_is : reg end.registers ra ≡ place (m.running.compiled.begin + (m.here + 38))
      pub types : types_of_values (reverse (take (length ty.params) below)) ≡ ty.params
      pub stand : Locals end.bytes (used (record start.frame { operands = drop (length ty.params) below; code = rest } ∷ start.callers)) (reverse (take (length ty.params) below))
      pub stay : CallersStay text inst places outer end.bytes (place (m.running.compiled.begin + (m.here + 38))) (reverse ty.results) (record start.frame { operands = drop (length ty.params) below; code = rest } ∷ start.callers)

    pub begun : (there : ℕ)
        → Begins text 29 38 (operand m.running.compiled.around.layout (length (types_of_values (v ∷ below)) + length (belows start.frame.labels) - 1 - length (type_or_empty (slice_get (under m.running.compiled.context m.running.os).types type)).params)) (place there) s
        → Begun there
    begun there y =
        let here_is = m.at in
        let link = y.link_is in
        let first = y.first_is in
        let first_now = m.frame.first in
        let bytes = y.bytes_are in
        record {
          end = y.end;
          reaches = y.reaches;
          bytes_are = bytes;
          registers = record { by = λ r a b e. y.others r (rw (a, b, e) refl) };
          at = y.pc_is;
          frame = record {
            first = omega (arith, slots_are);
            end = y.others s5 refl ∙ m.frame.end;
            size = ap (λ (b : Bytes). length b.stack) bytes ∙ m.frame.size;
            windows = subst FitWindows (sym bytes) m.frame.windows;
          };
          link_is = omega arith;
          types = arguments_typed text inst places outer (record start.frame { operands = v ∷ below; code = Simple (CallIndirect type table_index) rest }) start.callers s m ty below x.moves.below before;
          stand = arguments_stand text inst places outer (record start.frame { operands = v ∷ below; code = Simple (CallIndirect type table_index) rest }) start.callers s m ty below x.moves.below before m.running.live.1 y.end.bytes rest bytes;
          stay = subst (λ (b : Bytes). CallersStay text inst places outer b (place (k.begin + (m.here + 38))) (reverse ty.results) (caller ∷ start.callers)) (sym bytes) (m.address, returns, m.callers_stay);
        }
