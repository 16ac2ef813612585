-- What each instruction of a chain comes to.
use Rattle.std.proofs.Common.{◌≡◌, ℕ, ◌^◌, ◌<◌, ◌≤◌, inl, List, [], ◌∷◌, length, Option, refl, sym, ap, ◌∙◌, arith}
use Rattle.std.specs.Prelude.{slice_get, nat_lt}
use Rattle.rv_isa.specs.declared.operations.Op.{Op}
use Rattle.rv_isa.specs.Steps.{State, Bytes}
use Rattle.rv_isa.specs.Runs.{place, HasAt}
use Rattle.wasm_defs.specs.declared.types.ValType.{ValType}
use Rattle.wasm_defs.specs.declared.types.ValType.TheVariants.{I32, I64}
use Rattle.wasm_defs.specs.declared.token.Plain.{Plain}
use Rattle.wasm_defs.specs.declared.token.Plain.TheVariants.{Unreachable, Br, BrIf, BrTable, Return, Call, CallIndirect, Nop, Drop, Select, LocalGet, LocalSet, LocalTee, GlobalGet, Load, MemorySize, Const, Numeric}
use Rattle.wasm_defs.specs.declared.operation.LoadOp.{LoadOp}
use Rattle.wasm_defs.specs.declared.token.MemArg.{MemArg}
use Rattle.wasm_defs.specs.Typing.{Types, Context, Moves, Fixed, operated, load_type, load_alignment, accesses, rule_of}
use Rattle.wasm_defs.specs.Configurations.{Store}
use Rattle.wasm_defs.specs.Values.{Value, types_of_values}
use Rattle.frame_layout.specs.Templates.{Label, EmitContext, const_words, load_words, declarations, words}
use Rattle.simulation.specs.Covered.{IsStraightStep}
use Rattle.simulation.proofs.Frames.Rules.{types_length, MovesFixed, moves_fixed, discards, selects, on_local, on_global, moves_only}
use Rattle.simulation.proofs.Frames.Values.{Matches}
use Rattle.simulation.proofs.Straight.Instructions.{most_steps, Outcome}
use Rattle.simulation.proofs.Straight.Variables.{nop_follows, discard_follows, const_follows, get_follows, set_follows, tee_follows, select_follows}
use Rattle.simulation.proofs.Straight.Operations.{operates}
use Rattle.simulation.proofs.Straight.Effects.{KeepsStore}
use Rattle.simulation.proofs.Straight.Memories.{global_get_follows, size_follows, load_outcome}
use Rattle.simulation.specs.StoreStands.{StoreStands}
use Rattle.simulation.specs.Functions.{global_types}

const_short : (w : EmitContext) (h : ℕ) (t : ValType) (n : ℕ) → length (const_words w h t n) ≤ most_steps
const_short w h I32 n = omega arith
const_short w h I64 n = omega arith

module _ (code : List (Option Op)) (near : length code ≤ 2 ^ 26) (c : Context) (labels : List Label) (w : EmitContext) (base there : ℕ) (b : Bytes) (store : Store)
    (cap : ℕ) (locals : List Value) (are : c.locals ≡ types_of_values locals) (here : ℕ) (s : State) (i : ℕ) (at : s.pc ≡ place i) (pages : ℕ) (holds : StoreStands store pages cap s)
    (globals_are : global_types c.globals ≡ types_of_values store.globals) where
  -- one more operand than before
  fits_one_more : (operands : List Value) (t : ValType) (mid : Types) → t ∷ types_of_values operands ≡ mid → length mid ≤ w.layout.greatest → length operands < w.layout.greatest
  fits_one_more operands t mid is high = omega (arith, ap length is, types_length operands)

  -- an address on top of the operands
  load_one : (o : LoadOp) (mem : MemArg) (operands : List Value) (mid : Types) → mem.offset < 2 ^ 32 → MovesFixed (I32 ∷ []) (load_type o ∷ []) (types_of_values operands) mid → length operands ≤ w.layout.greatest
      → HasAt code i (load_words w (length operands) o mem.offset) → Matches w.layout base there b locals operands s → Outcome code c labels w base there b store cap locals here s operands (Load o mem) mid
  load_one o mem [] mid small f low has m = let e = f.before in absurd cc
  load_one o mem (x ∷ below) mid small f low has m =
      let e = f.before in
      let x_ty : x.ty ≡ I32 = cc in
      let rest : types_of_values below ≡ f.below = cc in
      load_outcome code c labels w base there b store cap locals here s i at pages holds x below o mem x_ty low m mid (ap (λ (ts : Types). load_type o ∷ ts) rest ∙ sym f.after) small has near

  pub outcome : (p : Plain) (operands : List Value) (mid : Types) → IsStraightStep p → KeepsStore p → Moves (rule_of c p) (types_of_values operands) mid → length operands ≤ w.layout.greatest → length mid ≤ w.layout.greatest
      → HasAt code i (words w (declarations c) labels (length operands) here p) → Matches w.layout base there b locals operands s → Outcome code c labels w base there b store cap locals here s operands p mid
  outcome Nop operands mid h keeps moves low high has m =
      inl (nop_follows code c labels w base there b store cap locals here s i at operands mid (moves_fixed [] [] (types_of_values operands) mid moves) m)
  outcome Drop operands mid h keeps moves low high has m =
      let d = discards (types_of_values operands) mid moves in
      inl (discard_follows code c labels w base there b store cap locals here s i at operands mid d.ty d.moves m)
  outcome Select operands mid h keeps moves low high has m =
      let d = selects (types_of_values operands) mid moves in
      inl (select_follows code c labels w base there b store cap locals here s i at operands mid d.ty d.moves low near has m)
  outcome (LocalGet x) operands mid h keeps moves low high has m =
      let r = on_local c.locals locals x (λ t. []) (λ t. t ∷ []) (types_of_values operands) mid (slice_get c.locals x) are refl moves in
      let is : r.ty ∷ types_of_values operands ≡ mid = ap (λ (ts : Types). r.ty ∷ ts) r.moves.before ∙ sym r.moves.after in
      inl (get_follows code c labels w base there b store cap locals here s i at operands mid x r (fits_one_more operands r.ty mid is high) has m)
  outcome (LocalSet x) operands mid h keeps moves low high has m =
      let r = on_local c.locals locals x (λ t. t ∷ []) (λ t. []) (types_of_values operands) mid (slice_get c.locals x) are refl moves in
      inl (set_follows code c labels w base there b store cap locals here s i at operands mid x r low has m)
  outcome (LocalTee x) operands mid h keeps moves low high has m =
      let r = on_local c.locals locals x (λ t. t ∷ []) (λ t. t ∷ []) (types_of_values operands) mid (slice_get c.locals x) are refl moves in
      inl (tee_follows code c labels w base there b store cap locals here s i at operands mid x r low has m)
  outcome (GlobalGet x) operands mid h keeps moves low high has m =
      let r = on_global c.globals store.globals x (λ t. []) (λ t. t ∷ []) (types_of_values operands) mid (slice_get c.globals x) globals_are refl moves in
      let is : r.ty ∷ types_of_values operands ≡ mid = ap (λ (ts : Types). r.ty ∷ ts) r.moves.before ∙ sym r.moves.after in
      let v = r.local.v in
      let v_is : v.ty ∷ types_of_values operands ≡ mid = ap (λ (t : ValType). t ∷ types_of_values operands) r.local.ty_is ∙ is in
      inl (global_get_follows code c labels w base there b store cap locals here s i at pages holds operands mid x v r.local.is v_is (fits_one_more operands r.ty mid is high) has m)
  outcome (Load o mem) operands mid h keeps moves low high has m =
      load_one o mem operands mid h (moves_fixed (I32 ∷ []) (load_type o ∷ []) (types_of_values operands) mid (moves_only (accesses c mem.align (load_alignment o)) (Fixed (I32 ∷ []) (load_type o ∷ [])) (types_of_values operands) mid moves)) low has m
  outcome MemorySize operands mid h keeps moves low high has m =
      let f = moves_fixed [] (I32 ∷ []) (types_of_values operands) mid (moves_only (nat_lt 0 c.memories) (Fixed [] (I32 ∷ [])) (types_of_values operands) mid moves) in
      let is : I32 ∷ types_of_values operands ≡ mid = ap (λ (ts : Types). I32 ∷ ts) f.before ∙ sym f.after in
      inl (size_follows code c labels w base there b store cap locals here s i at pages holds operands mid is (fits_one_more operands I32 mid is high) has m)
  outcome (Const t n) operands mid h keeps moves low high has m =
      let f = moves_fixed [] (t ∷ []) (types_of_values operands) mid moves in
      let is : t ∷ types_of_values operands ≡ mid = ap (λ (ts : Types). t ∷ ts) f.before ∙ sym f.after in
      inl (const_follows code c labels w base there b store cap locals here s i at operands mid t n f h (fits_one_more operands t mid is high) has m (const_short w (length operands) t _))
  outcome (Numeric op) operands mid h keeps moves low high has m =
      operates code c labels w base there b store cap locals here s i at op operands mid (moves_fixed (operated op).params (operated op).results (types_of_values operands) mid moves) low near has m
  outcome Unreachable operands mid h keeps moves low high has m = absurd h
  outcome (Br l) operands mid h keeps moves low high has m = absurd h
  outcome (BrIf l) operands mid h keeps moves low high has m = absurd h
  outcome (BrTable ls l) operands mid h keeps moves low high has m = absurd h
  outcome Return operands mid h keeps moves low high has m = absurd h
  outcome (Call f) operands mid h keeps moves low high has m = absurd h
  outcome (CallIndirect i table) operands mid h keeps moves low high has m = absurd h
  outcome p operands mid h keeps moves low high has m = absurd cc
