-- Constants, locals, `drop` and `select`.
use Rattle.std.proofs.Common.{◌≡◌, ℕ, zero, suc, ◌+◌, ◌-◌, ◌^◌, ◌==◌, ◌<◌, ◌≤◌, List, [], ◌∷◌, length, slice_set, Option, Some, refl, sym, ap, ◌∙◌, subst, arith}
use Rattle.std.specs.Prelude.{slice_get, nat_lt, ℤ}
use Rattle.std.proofs.lemmas.Bool.{cond-true, cond-false, eq-eqb, ne_eqb, lt-ltb}
use Rattle.std.proofs.lemmas.Option.{slice_get_within}
use Rattle.rv_isa.specs.declared.operations.Op.{Op}
use Rattle.rv_isa.specs.Steps.{State, Bytes}
use Rattle.rv_isa.specs.Runs.{place, HasAt}
use Rattle.wasm_defs.specs.declared.types.ValType.{ValType}
use Rattle.wasm_defs.specs.declared.types.ValType.TheVariants.{I32}
use Rattle.wasm_defs.specs.declared.token.Plain.{Plain}
use Rattle.wasm_defs.specs.declared.token.Plain.TheVariants.{Nop, Drop, Select, LocalGet, LocalSet, LocalTee, Const}
use Rattle.wasm_defs.specs.Typing.{Types, Context}
use Rattle.wasm_defs.specs.Configurations.{Store}
use Rattle.wasm_defs.specs.Values.{Value, modulus, word, word_of, types_of_values, unsigned}
use Rattle.wasm_defs.specs.Effects.{Gives, Fails, pushed, local_set, effect, value}
use Rattle.frame_layout.specs.Slots.{operand}
use Rattle.frame_layout.specs.Templates.{Label, EmitContext, const_words, local_get_words, local_set_words, select_words, declarations, words}
use Rattle.frame_layout.specs.Laws.{slot_at, with_slot}
use Rattle.frame_layout.proofs.Instructions.{const_does, local_get_does}
use Rattle.frame_layout.proofs.Steps.{does_with, does_count, does_nothing}
use Rattle.simulation.specs.VariableLaws.{chosen, Chooses}
use Rattle.simulation.proofs.Memory.Instructions.{local_set_does, select_does}
use Rattle.simulation.proofs.Frames.Values.{Holds, holds_as, Operands, Matches}
use Rattle.simulation.proofs.Frames.Rules.{MovesFixed, OnLocal}
use Rattle.simulation.proofs.Frames.Sets.{set_types}
use Rattle.simulation.proofs.Frames.Stores.{other_operands, set_matches}
use Rattle.simulation.proofs.Straight.Instructions.{most_steps, Follows, kept_follows, put_follows}

module _ (code : List (Option Op)) (c : Context) (labels : List Label) (w : EmitContext) (base there : ℕ) (b : Bytes) (store : Store)
    (cap : ℕ) (locals : List Value) (here : ℕ) (s : State) (i : ℕ) (at : s.pc ≡ place i) where
  abbrev Goes : List Value → Plain → Types → Type 0
  Goes operands p mid = Follows code c labels w base there b store cap locals operands p mid here s

  abbrev Holding : List Value → Type 0
  Holding operands = Matches w.layout base there b locals operands s

  -- ---- no instruction words

  pub nop_follows : (operands : List Value) (mid : Types) → MovesFixed [] [] (types_of_values operands) mid → Holding operands → Goes operands Nop mid
  nop_follows operands mid f m =
      kept_follows code c labels w base there b store cap locals here s Nop operands operands mid 0 refl (f.before ∙ sym f.after) (omega arith) (does_nothing code s) m

  pub discard_follows : (operands : List Value) (mid : Types) (t : ValType) → MovesFixed (t ∷ []) [] (types_of_values operands) mid → Holding operands → Goes operands Drop mid
  discard_follows [] mid t f m = let e = f.before in absurd cc
  discard_follows (x ∷ below) mid t f m =
      let e = f.before in
      let rest : types_of_values below ≡ f.below = cc in
      kept_follows code c labels w base there b store cap locals here s Drop (x ∷ below) below mid 0 refl (rest ∙ sym f.after) (omega arith) (does_nothing code s)
      (other_operands code w.layout base there b locals (x ∷ below) s 0 0 m below m.live.1)

  -- ---- constants

  pub const_follows : (operands : List Value) (mid : Types) (t : ValType) (n : ℤ) → MovesFixed [] (t ∷ []) (types_of_values operands) mid → unsigned t n < modulus t → length operands < w.layout.greatest
      → HasAt code i (const_words w (length operands) t (unsigned t n)) → Holding operands → length (const_words w (length operands) t (unsigned t n)) ≤ most_steps → Goes operands (Const t n) mid
  const_follows operands mid t n f small high has m short =
      let room = m.room in
      let is : t ∷ types_of_values operands ≡ mid = ap (λ (ts : Types). t ∷ ts) f.before ∙ sym f.after in
      put_follows code c labels w base there b store cap locals here s (Const t n) operands operands mid (value t (unsigned t n)) (length (const_words w (length operands) t (unsigned t n))) refl is short
      (const_does w code s i base (length operands) t (unsigned t n) has at m.frame small (omega arith)) small high m m.live

  -- ---- locals

  pub get_follows : (operands : List Value) (mid : Types) (x : ℕ) → OnLocal locals x (λ t. []) (λ t. t ∷ []) (types_of_values operands) mid → length operands < w.layout.greatest
      → HasAt code i (local_get_words w (length operands) x) → Holding operands → Goes operands (LocalGet x) mid
  get_follows operands mid x r high has m =
      let room = m.room in
      let width = m.width in
      let f = r.local in
      let within : x < length locals = slice_get_within locals x f.v f.is in
      let hold = m.values.holds x f.v f.is in
      let d = local_get_does w code s i base (length operands) x has at m.frame (omega arith) (omega arith) in
      let is : f.v.ty ∷ types_of_values operands ≡ mid = ap (λ (t : ValType). t ∷ types_of_values operands) f.ty_is ∙ ap (λ (ts : Types). r.ty ∷ ts) r.moves.before ∙ sym r.moves.after in
      put_follows code c labels w base there b store cap locals here s (LocalGet x) operands operands mid f.v 6 (ap (pushed store locals operands) f.is) is (omega arith)
      (does_with (ap (with_slot s.bytes (base + operand w.layout (length operands))) hold.is) d) hold.range high m m.live

  -- the topmost operand goes to a local of its type
  stored_follows : (p : Plain) (x : ℕ) (v u : Value) (below others : List Value) (mid : Types) → slice_get locals x ≡ Some u → v.ty ≡ u.ty
      → effect store locals cap p (v ∷ below) ≡ local_set store locals x v others → types_of_values others ≡ mid → 6 ≡ length (words w (declarations c) labels (suc (length below)) here p)
      → suc (length below) ≤ w.layout.greatest → HasAt code i (local_set_words w (suc (length below)) x) → Holding (v ∷ below) → Operands s.bytes (base + operand w.layout 0) others → Goes (v ∷ below) p mid
  stored_follows p x v u below others mid u_is same sets is size high has m live =
      let room = m.room in
      let width = m.width in
      let h = suc (length below) in
      let within : x < length locals = slice_get_within locals x u u_is in
      let top : base + operand w.layout (h - 1) ≡ base + operand w.layout 0 + length below = omega arith in
      let hold : Holds (slot_at s.bytes (base + operand w.layout (h - 1))) v = holds_as (slot_at s.bytes (base + operand w.layout (h - 1))) (ap (slot_at s.bytes) top) m.live.0 in
      let d = does_count 6 (length (words w (declarations c) labels (suc (length below)) here p)) refl size (local_set_does w code s i base h x has at m.frame (omega arith) (omega arith)) in
      record {
        locals_after = slice_set locals x v;
        after = others;
        gives = sets ∙ cond-true (nat_lt x (length locals)) (Gives store (slice_set locals x v) others) Fails (lt-ltb x (length locals) within);
        locals_are = set_types locals x u v u_is same;
        types_are = is;
        steps = 6;
        short = omega arith;
        end = d.end;
        reaches = d.reaches;
        pc_is = d.pc_is;
        others = d.others;
        matches =
            set_matches code w.layout base there b locals (v ∷ below) s 6 (length (words w (declarations c) labels (suc (length below)) here p)) m x (slot_at s.bytes (base + operand w.layout (h - 1))) v d hold within others live;
      }

  pub set_follows : (operands : List Value) (mid : Types) (x : ℕ) → OnLocal locals x (λ t. t ∷ []) (λ t. []) (types_of_values operands) mid → length operands ≤ w.layout.greatest
      → HasAt code i (local_set_words w (length operands) x) → Holding operands → Goes operands (LocalSet x) mid
  set_follows [] mid x r high has m = let e = r.moves.before in absurd cc
  set_follows (v ∷ below) mid x r high has m =
      let e = r.moves.before in
      let ty_is : v.ty ≡ r.ty = cc in
      let rest : types_of_values below ≡ r.moves.below = cc in
      stored_follows (LocalSet x) x v r.local.v below below mid r.local.is (ty_is ∙ sym r.local.ty_is) refl (rest ∙ sym r.moves.after) refl high has m m.live.1

  pub tee_follows : (operands : List Value) (mid : Types) (x : ℕ) → OnLocal locals x (λ t. t ∷ []) (λ t. t ∷ []) (types_of_values operands) mid → length operands ≤ w.layout.greatest
      → HasAt code i (local_set_words w (length operands) x) → Holding operands → Goes operands (LocalTee x) mid
  tee_follows [] mid x r high has m = let e = r.moves.before in absurd cc
  tee_follows (v ∷ below) mid x r high has m =
      let e = r.moves.before in
      let ty_is : v.ty ≡ r.ty = cc in
      stored_follows (LocalTee x) x v r.local.v below (v ∷ below) mid r.local.is (ty_is ∙ sym r.local.ty_is) refl (e ∙ sym r.moves.after) refl high has m m.live

  -- ---- select

  module _ (z y x : Value) (below : List Value) (mid : Types) (high : suc (suc (suc (length below))) ≤ w.layout.greatest) (m : Holding (z ∷ y ∷ x ∷ below)) where
    -- the words of `select`, and the slot of the first operand
    abbrev Chosen : Type 0
    Chosen = Chooses code 10 s (chosen z.number (word_of y) (base + operand w.layout (length below)) s.bytes)

    second_follows : z.number ≡ 0 → Chosen → y.ty ∷ types_of_values below ≡ mid → Goes (z ∷ y ∷ x ∷ below) Select mid
    second_follows none chooses is =
        let here_is = eq-eqb z.number 0 none in
        let slot = base + operand w.layout (length below) in
        put_follows code c labels w base there b store cap locals here s Select (z ∷ y ∷ x ∷ below) below mid y chooses.0 (ap (λ (v : Value). Gives store locals (v ∷ below)) (cond-true (z.number == 0) y x here_is)) is
        (omega (arith, chooses.1)) (does_with (cond-true (z.number == 0) (with_slot s.bytes slot (word_of y)) s.bytes here_is) chooses.2) m.live.1.0.range (omega arith) m m.live.1.1.1

    first_follows : (z.number ≡ 0 → ⊥) → Chosen → x.ty ∷ types_of_values below ≡ mid → Goes (z ∷ y ∷ x ∷ below) Select mid
    first_follows some chooses is =
        let here_is = ne_eqb z.number 0 some in
        let slot = base + operand w.layout (length below) in
        kept_follows code c labels w base there b store cap locals here s Select (z ∷ y ∷ x ∷ below) (x ∷ below) mid chooses.0 (ap (λ (v : Value). Gives store locals (v ∷ below)) (cond-false (z.number == 0) y x here_is)) is
        (omega (arith, chooses.1)) (does_with (cond-false (z.number == 0) (with_slot s.bytes slot (word_of y)) s.bytes here_is) chooses.2)
        (other_operands code w.layout base there b locals (z ∷ y ∷ x ∷ below) s 0 0 m (x ∷ below) m.live.1.1)

    one_follows : (n : ℕ) → z.number ≡ n → Chosen → y.ty ∷ types_of_values below ≡ mid → x.ty ∷ types_of_values below ≡ mid → Goes (z ∷ y ∷ x ∷ below) Select mid
    one_follows zero e chooses y_is x_is = second_follows e chooses y_is
    one_follows (suc n) e chooses y_is x_is = first_follows (λ none. let wrong : suc n ≡ 0 = sym e ∙ none in absurd (omega arith)) chooses x_is

    chooses_one : length code ≤ 2 ^ 26 → z.ty ≡ I32 → HasAt code i (select_words w (suc (suc (suc (length below))))) → Chosen
    chooses_one near z_ty has =
        let room = m.room in
        let h = suc (suc (suc (length below))) in
        let low : h - 3 ≡ length below = omega arith in
        let second_at : base + operand w.layout (h - 2) ≡ base + operand w.layout 0 + suc (length below) = omega arith in
        let top_at : base + operand w.layout (h - 1) ≡ base + operand w.layout 0 + suc (suc (length below)) = omega arith in
        let y_is : slot_at s.bytes (base + operand w.layout (h - 2)) ≡ word_of y = ap (slot_at s.bytes) second_at ∙ m.live.1.0.is in
        let z_is : slot_at s.bytes (base + operand w.layout (h - 1)) ≡ word I32 z.number = ap (slot_at s.bytes) top_at ∙ m.live.0.is ∙ ap (λ (t : ValType). word t z.number) z_ty in
        subst (λ (j : ℕ). Chooses code 10 s (chosen z.number (word_of y) (base + operand w.layout j) s.bytes)) low
        (select_does w code s i base h z.number (word_of y) has at m.frame (omega arith) (omega arith) y_is z_is near)

  pub select_follows : (operands : List Value) (mid : Types) (t : ValType) → MovesFixed (I32 ∷ t ∷ t ∷ []) (t ∷ []) (types_of_values operands) mid → length operands ≤ w.layout.greatest → length code ≤ 2 ^ 26
      → HasAt code i (select_words w (length operands)) → Holding operands → Goes operands Select mid
  select_follows [] mid t f high near has m = let e = f.before in absurd cc
  select_follows (z ∷ []) mid t f high near has m = let e = f.before in absurd cc
  select_follows (z ∷ y ∷ []) mid t f high near has m = let e = f.before in absurd cc
  select_follows (z ∷ y ∷ x ∷ below) mid t f high near has m =
      let e = f.before in
      let z_ty : z.ty ≡ I32 = cc in
      let y_ty : y.ty ≡ t = cc in
      let x_ty : x.ty ≡ t = cc in
      let rest : types_of_values below ≡ f.below = cc in
      let after : t ∷ types_of_values below ≡ mid = ap (λ (ts : Types). t ∷ ts) rest ∙ sym f.after in
      one_follows z y x below mid high m z.number refl (chooses_one z y x below mid high m near z_ty has)
      (ap (λ (u : ValType). u ∷ types_of_values below) y_ty ∙ after) (ap (λ (u : ValType). u ∷ types_of_values below) x_ty ∙ after)
