-- Numeric instructions, with the traps of division.
use Rattle.std.proofs.Common.{◌≡◌, ℕ, suc, ◌+◌, ◌-◌, ◌^◌, ◌<◌, ◌≤◌, inl, inr, Bool, true, false, List, [], ◌∷◌, length, Option, refl, sym, ap, ◌∙◌, subst, arith}
use Rattle.std.specs.Prelude.{◌==◌, ◌/◌, ◌%◌, int_rem, if◌then◌else◌}
use Rattle.rv_isa.specs.declared.operations.Op.{Op}
use Rattle.rv_isa.specs.Steps.{State, Bytes}
use Rattle.rv_isa.specs.Runs.{place, HasAt}
use Rattle.wasm_defs.specs.declared.types.ValType.{ValType}
use Rattle.wasm_defs.specs.declared.types.ValType.TheVariants.{I32, I64}
use Rattle.wasm_defs.specs.declared.value.TrapKind.TheVariants.{DivideByZero, Overflow}
use Rattle.wasm_defs.specs.declared.operation.Operation.{Operation}
use Rattle.wasm_defs.specs.declared.operation.Operation.TheVariants.{Unary, Test, Binary, Compare, Convert, Extend}
use Rattle.wasm_defs.specs.declared.operation.UnaryOp.{UnaryOp}
use Rattle.wasm_defs.specs.declared.operation.BinaryOp.{BinaryOp}
use Rattle.wasm_defs.specs.declared.operation.BinaryOp.TheVariants.{Add, DivS, DivU, RemS, RemU}
use Rattle.wasm_defs.specs.declared.operation.CompareOp.{CompareOp}
use Rattle.wasm_defs.specs.declared.operation.ConvertOp.{ConvertOp}
use Rattle.wasm_defs.specs.declared.operation.ConvertOp.TheVariants.{Wrap, ExtendS, ExtendU}
use Rattle.wasm_defs.specs.declared.operation.ExtendOp.{ExtendOp}
use Rattle.wasm_defs.specs.declared.token.Plain.TheVariants.{Numeric}
use Rattle.wasm_defs.specs.Typing.{Types, Context, operated, extend_type}
use Rattle.wasm_defs.specs.Configurations.{Store, max_slots}
use Rattle.wasm_defs.specs.Values.{Value, modulus, word, signed, unsigned, types_of_values}
use Rattle.wasm_defs.specs.Integers.{Computed, Number, DividesByZero, Overflows, binary, compare, unary, ieqz, converted, converted_type, sign_extended}
use Rattle.wasm_defs.specs.Effects.{Gives, computed, effect, value}
use Rattle.frame_layout.specs.Slots.{operand}
use Rattle.frame_layout.specs.Traps.{trap_places, overflow_place}
use Rattle.frame_layout.specs.Templates.{Label, EmitContext, operate_words}
use Rattle.frame_layout.specs.Laws.{slot_at, with_slot, Does}
use Rattle.frame_layout.proofs.Steps.{does_nothing}
use Rattle.simulation.specs.IntegerLaws.{overflow_words, Comes, converted_from}
use Rattle.simulation.proofs.Integers.Binary.{binary_does}
use Rattle.simulation.proofs.Integers.Comparisons.{compare_does, test_does}
use Rattle.simulation.proofs.Integers.Unary.{unary_does}
use Rattle.simulation.proofs.Integers.Conversions.{convert_does}
use Rattle.simulation.proofs.Integers.SignExtensions.{extend_does, extend_is_below}
use Rattle.simulation.proofs.Integers.Ranges.{binary_is_below, compare_is_below, unary_is_below, test_is_below, convert_is_below}
use Rattle.simulation.proofs.Integers.Lengths.{lengths_are_bounded}
use Rattle.simulation.proofs.Frames.Values.{Holds, Matches}
use Rattle.simulation.proofs.Frames.Rules.{MovesFixed}
use Rattle.simulation.proofs.Frames.Sited.{IsIn}
use Rattle.simulation.proofs.Frames.Stores.{other_operands}
use Rattle.simulation.proofs.Straight.Instructions.{most_steps, Follows, Outcome, kept_follows, put_follows}

-- the word and the number of a value of a type
pub typed_word : (x : ℕ) (v : Value) (t : ValType) → v.ty ≡ t → Holds x v → x ≡ word t v.number
typed_word x v t e h = h.is ∙ ap (λ (u : ValType). word u v.number) e

pub typed_range : (x : ℕ) (v : Value) (t : ValType) → v.ty ≡ t → Holds x v → v.number < modulus t
typed_range x v t e h = subst (λ (u : ValType). v.number < modulus u) e h.range

-- ---- the traps of divisions are among their trap sites

zero_among : (op : BinaryOp) (t : ValType) (a b : ℕ) → binary op t a b ≡ DividesByZero → IsIn 9 (trap_places (Numeric (Binary t op)))
zero_among DivS t a b e = inl refl
zero_among DivU t a b e = inl refl
zero_among RemS t a b e = inl refl
zero_among RemU t a b e = inl refl
zero_among Add t a b e = absurd cc
zero_among p t a b e = absurd cc

-- where the divisor is another one there is a number
never_overflows : (b : Bool) (n : ℕ) → (if b then DividesByZero else Number n) ≡ Overflows → ⊥
never_overflows true n e = absurd cc
never_overflows false n e = absurd cc

overflow_among : (op : BinaryOp) (t : ValType) (a b : ℕ) → binary op t a b ≡ Overflows → IsIn (overflow_place t) (trap_places (Numeric (Binary t op)))
overflow_among DivS t a b e = inr (inl refl)
overflow_among DivU t a b e = absurd (never_overflows (b == 0) (a / b) e)
overflow_among RemS t a b e = absurd (never_overflows (b == 0) (unsigned t (int_rem (signed t a) (signed t b))) e)
overflow_among RemU t a b e = absurd (never_overflows (b == 0) (a % b) e)
overflow_among Add t a b e = absurd cc
overflow_among p t a b e = absurd cc

overflow_ends : (t : ValType) → overflow_place t + 1 ≡ overflow_words t
overflow_ends I32 = refl
overflow_ends I64 = refl

module _ (code : List (Option Op)) (c : Context) (labels : List Label) (w : EmitContext) (base there : ℕ) (b : Bytes) (store : Store)
    (cap : ℕ) (locals : List Value) (here : ℕ) (s : State) (i : ℕ) (at : s.pc ≡ place i) where
  abbrev Goes : List Value → Operation → Types → Type 0
  Goes operands op mid = Follows code c labels w base there b store cap locals operands (Numeric op) mid here s

  abbrev ComesTo : List Value → Operation → Types → Type 0
  ComesTo operands op mid = Outcome code c labels w base there b store cap locals here s operands (Numeric op) mid

  abbrev Holding : List Value → Type 0
  Holding operands = Matches w.layout base there b locals operands s

  short : (h : ℕ) (op : Operation) → length (operate_words w h op) ≤ most_steps
  short h op = omega (arith, lengths_are_bounded w h op)

  -- ---- on two operands of a type

  module _ (y x : Value) (below : List Value) (t : ValType) (y_ty : y.ty ≡ t) (x_ty : x.ty ≡ t) (high : suc (suc (length below)) ≤ w.layout.greatest) (m : Holding (y ∷ x ∷ below)) where
    abbrev two : ℕ
    two = suc (suc (length below))

    low : suc (suc (length below)) - 2 ≡ length below
    low = omega arith

    near_two : base + operand w.layout (suc (suc (length below)) - 1) < max_slots
    near_two = let room = m.room in omega arith

    x_word : slot_at s.bytes (base + operand w.layout (suc (suc (length below)) - 2)) ≡ word t x.number
    x_word =
        let there_is : base + operand w.layout (suc (suc (length below)) - 2) ≡ base + operand w.layout 0 + length below = omega arith in
        ap (slot_at s.bytes) there_is ∙ typed_word (slot_at s.bytes (base + operand w.layout 0 + length below)) x t x_ty m.live.1.0

    y_word : slot_at s.bytes (base + operand w.layout (suc (suc (length below)) - 1)) ≡ word t y.number
    y_word =
        let there_is : base + operand w.layout (suc (suc (length below)) - 1) ≡ base + operand w.layout 0 + suc (length below) = omega arith in
        ap (slot_at s.bytes) there_is ∙ typed_word (slot_at s.bytes (base + operand w.layout 0 + suc (length below))) y t y_ty m.live.0

    x_small : x.number < modulus t
    x_small = typed_range (slot_at s.bytes (base + operand w.layout 0 + length below)) x t x_ty m.live.1.0

    y_small : y.number < modulus t
    y_small = typed_range (slot_at s.bytes (base + operand w.layout 0 + suc (length below))) y t y_ty m.live.0

    computed_outcome : (op : BinaryOp) (mid : Types) (r : Computed) → t ∷ types_of_values below ≡ mid → binary op t x.number y.number ≡ r
        → Comes code (length (operate_words w (suc (suc (length below))) (Binary t op))) s (base + operand w.layout (length below)) t r → ComesTo (y ∷ x ∷ below) (Binary t op) mid
    computed_outcome op mid (Number n) is e comes =
        let size = short two (Binary t op) in
        inl (put_follows code c labels w base there b store cap locals here s (Numeric (Binary t op)) (y ∷ x ∷ below) below mid (value t n) comes.0 (ap (computed store locals t below) e) is
        (omega (arith, comes.1)) comes.2 (binary_is_below t op x.number y.number n x_small y_small e) (omega arith) m m.live.1.1)
    computed_outcome op mid DividesByZero is e comes =
        let size = short two (Binary t op) in
        inr (record { kind = DivideByZero; gives = ap (computed store locals t below) e; steps = comes.0; short = omega (arith, comes.1); behind = 10; traps = comes.2; word = 9; ends = refl; among = zero_among op t x.number y.number e })
    computed_outcome op mid Overflows is e comes =
        let size = short two (Binary t op) in
        inr (record { kind = Overflow; gives = ap (computed store locals t below) e; steps = comes.0; short = omega (arith, comes.1); behind = overflow_words t; traps = comes.2; word = overflow_place t; ends = overflow_ends t; among = overflow_among op t x.number y.number e })

    binary_comes : (op : BinaryOp) (mid : Types) → t ∷ types_of_values below ≡ mid → HasAt code i (operate_words w (suc (suc (length below))) (Binary t op)) → length code ≤ 2 ^ 26
        → ComesTo (y ∷ x ∷ below) (Binary t op) mid
    binary_comes op mid is has near =
        let r = binary op t x.number y.number in
        let comes = binary_does w code s i base two t op x.number y.number has at m.frame (omega arith) near_two x_small y_small x_word y_word near in
        computed_outcome op mid r is refl (subst (λ (j : ℕ). Comes code (length (operate_words w two (Binary t op))) s (base + operand w.layout j) t r) low comes)

    compare_goes : (op : CompareOp) (mid : Types) → I32 ∷ types_of_values below ≡ mid → HasAt code i (operate_words w (suc (suc (length below))) (Compare t op)) → Goes (y ∷ x ∷ below) (Compare t op) mid
    compare_goes op mid is has =
        let n = compare op t x.number y.number in
        let k = length (operate_words w two (Compare t op)) in
        let d = compare_does w code s i base two t op x.number y.number has at m.frame (omega arith) near_two x_small y_small x_word y_word in
        put_follows code c labels w base there b store cap locals here s (Numeric (Compare t op)) (y ∷ x ∷ below) below mid (value I32 n) k refl is (short two (Compare t op))
        (subst (λ (j : ℕ). Does code k k s (with_slot s.bytes (base + operand w.layout j) (word I32 n))) low d) (compare_is_below t op x.number y.number) (omega arith) m m.live.1.1

  -- ---- on one operand of a type

  module _ (x : Value) (below : List Value) (t : ValType) (x_ty : x.ty ≡ t) (high : suc (length below) ≤ w.layout.greatest) (m : Holding (x ∷ below)) where
    top : suc (length below) - 1 ≡ length below
    top = omega arith

    near_one : base + operand w.layout (suc (length below) - 1) < max_slots
    near_one = let room = m.room in omega arith

    top_word : slot_at s.bytes (base + operand w.layout (suc (length below) - 1)) ≡ word t x.number
    top_word =
        let there_is : base + operand w.layout (suc (length below) - 1) ≡ base + operand w.layout 0 + length below = omega arith in
        ap (slot_at s.bytes) there_is ∙ typed_word (slot_at s.bytes (base + operand w.layout 0 + length below)) x t x_ty m.live.0

    top_small : x.number < modulus t
    top_small = typed_range (slot_at s.bytes (base + operand w.layout 0 + length below)) x t x_ty m.live.0

    -- the result of a type
    result_goes : (op : Operation) (mid : Types) (u : ValType) (n : ℕ) → effect store locals cap (Numeric op) (x ∷ below) ≡ Gives store locals (value u n ∷ below) → u ∷ types_of_values below ≡ mid → n < modulus u
        → Does code (length (operate_words w (suc (length below)) op)) (length (operate_words w (suc (length below)) op)) s (with_slot s.bytes (base + operand w.layout (suc (length below) - 1)) (word u n))
        → Goes (x ∷ below) op mid
    result_goes op mid u n gives is small d =
        let k = length (operate_words w (suc (length below)) op) in
        put_follows code c labels w base there b store cap locals here s (Numeric op) (x ∷ below) below mid (value u n) k gives is (short (suc (length below)) op)
        (subst (λ (j : ℕ). Does code k k s (with_slot s.bytes (base + operand w.layout j) (word u n))) top d) small (omega arith) m m.live.1

    unary_goes : (op : UnaryOp) (mid : Types) → t ∷ types_of_values below ≡ mid → HasAt code i (operate_words w (suc (length below)) (Unary t op)) → Goes (x ∷ below) (Unary t op) mid
    unary_goes op mid is has =
        result_goes (Unary t op) mid t (unary op t x.number) refl is (unary_is_below t op x.number top_small)
        (unary_does w code s i base (suc (length below)) t op x.number has at m.frame (omega arith) near_one top_small top_word)

    test_goes : (mid : Types) → I32 ∷ types_of_values below ≡ mid → HasAt code i (operate_words w (suc (length below)) (Test t)) → Goes (x ∷ below) (Test t) mid
    test_goes mid is has =
        result_goes (Test t) mid I32 (ieqz x.number) refl is (test_is_below x.number)
        (test_does w code s i base (suc (length below)) t x.number has at m.frame (omega arith) near_one top_small top_word)

  convert_goes : (op : ConvertOp) (x : Value) (below : List Value) (mid : Types) → x.ty ≡ converted_from op → suc (length below) ≤ w.layout.greatest → converted_type op ∷ types_of_values below ≡ mid
      → HasAt code i (operate_words w (suc (length below)) (Convert op)) → Holding (x ∷ below) → Goes (x ∷ below) (Convert op) mid
  convert_goes Wrap x below mid x_ty high is has m =
      let small = top_small x below I64 x_ty high m in
      result_goes x below I64 x_ty high m (Convert Wrap) mid I32 (converted Wrap x.number) refl is (convert_is_below Wrap x.number small)
      (convert_does.0 w code s i base (suc (length below)) x.number has at m.frame (omega arith) (near_one x below I64 x_ty high m) small (top_word x below I64 x_ty high m))
  convert_goes ExtendU x below mid x_ty high is has m =
      let small = top_small x below I32 x_ty high m in
      result_goes x below I32 x_ty high m (Convert ExtendU) mid I64 (converted ExtendU x.number) refl is (convert_is_below ExtendU x.number small)
      (convert_does.1 w code s i base (suc (length below)) x.number has at m.frame (omega arith) (near_one x below I32 x_ty high m) small (top_word x below I32 x_ty high m))
  convert_goes ExtendS x below mid x_ty high is has m =
      let small = top_small x below I32 x_ty high m in
      let n = converted ExtendS x.number in
      let slot = slot_at s.bytes (base + operand w.layout 0 + length below) in
      let hold : Holds slot (value I64 n) = record { is = typed_word slot x I32 x_ty m.live.0 ∙ sym (convert_does.2 x.number small); range = convert_is_below ExtendS x.number small } in
      kept_follows code c labels w base there b store cap locals here s (Numeric (Convert ExtendS)) (x ∷ below) (value I64 n ∷ below) mid 0 refl is (omega arith) (does_nothing code s)
      (other_operands code w.layout base there b locals (x ∷ below) s 0 0 m (value I64 n ∷ below) (hold, m.live.1))

  extend_goes : (op : ExtendOp) (x : Value) (below : List Value) (mid : Types) → x.ty ≡ extend_type op → suc (length below) ≤ w.layout.greatest → extend_type op ∷ types_of_values below ≡ mid
      → HasAt code i (operate_words w (suc (length below)) (Extend op)) → Holding (x ∷ below) → Goes (x ∷ below) (Extend op) mid
  extend_goes op x below mid x_ty high is has m =
      let t = extend_type op in
      result_goes x below t x_ty high m (Extend op) mid t (sign_extended op x.number) refl is (extend_is_below op x.number)
      (extend_does w code s i base (suc (length below)) op x.number has at m.frame (omega arith) (near_one x below t x_ty high m) (top_small x below t x_ty high m) (top_word x below t x_ty high m))

  -- ---- all of them

  binary_operates : (t : ValType) (op : BinaryOp) (operands : List Value) (mid : Types) → MovesFixed (t ∷ t ∷ []) (t ∷ []) (types_of_values operands) mid → length operands ≤ w.layout.greatest
      → length code ≤ 2 ^ 26 → HasAt code i (operate_words w (length operands) (Binary t op)) → Holding operands → ComesTo operands (Binary t op) mid
  binary_operates t op [] mid f high near has m = let e = f.before in absurd cc
  binary_operates t op (y ∷ []) mid f high near has m = let e = f.before in absurd cc
  binary_operates t op (y ∷ x ∷ below) mid f high near has m =
      let e = f.before in
      let y_ty : y.ty ≡ t = cc in
      let x_ty : x.ty ≡ t = cc in
      let rest : types_of_values below ≡ f.below = cc in
      binary_comes y x below t y_ty x_ty high m op mid (ap (λ (ts : Types). t ∷ ts) rest ∙ sym f.after) has near

  compare_operates : (t : ValType) (op : CompareOp) (operands : List Value) (mid : Types) → MovesFixed (t ∷ t ∷ []) (I32 ∷ []) (types_of_values operands) mid → length operands ≤ w.layout.greatest
      → HasAt code i (operate_words w (length operands) (Compare t op)) → Holding operands → Goes operands (Compare t op) mid
  compare_operates t op [] mid f high has m = let e = f.before in absurd cc
  compare_operates t op (y ∷ []) mid f high has m = let e = f.before in absurd cc
  compare_operates t op (y ∷ x ∷ below) mid f high has m =
      let e = f.before in
      let y_ty : y.ty ≡ t = cc in
      let x_ty : x.ty ≡ t = cc in
      let rest : types_of_values below ≡ f.below = cc in
      compare_goes y x below t y_ty x_ty high m op mid (ap (λ (ts : Types). I32 ∷ ts) rest ∙ sym f.after) has

  unary_operates : (t : ValType) (op : UnaryOp) (operands : List Value) (mid : Types) → MovesFixed (t ∷ []) (t ∷ []) (types_of_values operands) mid → length operands ≤ w.layout.greatest
      → HasAt code i (operate_words w (length operands) (Unary t op)) → Holding operands → Goes operands (Unary t op) mid
  unary_operates t op [] mid f high has m = let e = f.before in absurd cc
  unary_operates t op (x ∷ below) mid f high has m =
      let e = f.before in
      let x_ty : x.ty ≡ t = cc in
      let rest : types_of_values below ≡ f.below = cc in
      unary_goes x below t x_ty high m op mid (ap (λ (ts : Types). t ∷ ts) rest ∙ sym f.after) has

  test_operates : (t : ValType) (operands : List Value) (mid : Types) → MovesFixed (t ∷ []) (I32 ∷ []) (types_of_values operands) mid → length operands ≤ w.layout.greatest
      → HasAt code i (operate_words w (length operands) (Test t)) → Holding operands → Goes operands (Test t) mid
  test_operates t [] mid f high has m = let e = f.before in absurd cc
  test_operates t (x ∷ below) mid f high has m =
      let e = f.before in
      let x_ty : x.ty ≡ t = cc in
      let rest : types_of_values below ≡ f.below = cc in
      test_goes x below t x_ty high m mid (ap (λ (ts : Types). I32 ∷ ts) rest ∙ sym f.after) has

  convert_operates : (op : ConvertOp) (operands : List Value) (mid : Types) → MovesFixed (converted_from op ∷ []) (converted_type op ∷ []) (types_of_values operands) mid → length operands ≤ w.layout.greatest
      → HasAt code i (operate_words w (length operands) (Convert op)) → Holding operands → Goes operands (Convert op) mid
  convert_operates op [] mid f high has m = let e = f.before in absurd cc
  convert_operates op (x ∷ below) mid f high has m =
      let e = f.before in
      let x_ty : x.ty ≡ converted_from op = cc in
      let rest : types_of_values below ≡ f.below = cc in
      convert_goes op x below mid x_ty high (ap (λ (ts : Types). converted_type op ∷ ts) rest ∙ sym f.after) has m

  extend_operates : (op : ExtendOp) (operands : List Value) (mid : Types) → MovesFixed (extend_type op ∷ []) (extend_type op ∷ []) (types_of_values operands) mid → length operands ≤ w.layout.greatest
      → HasAt code i (operate_words w (length operands) (Extend op)) → Holding operands → Goes operands (Extend op) mid
  extend_operates op [] mid f high has m = let e = f.before in absurd cc
  extend_operates op (x ∷ below) mid f high has m =
      let e = f.before in
      let x_ty : x.ty ≡ extend_type op = cc in
      let rest : types_of_values below ≡ f.below = cc in
      extend_goes op x below mid x_ty high (ap (λ (ts : Types). extend_type op ∷ ts) rest ∙ sym f.after) has m

  pub operates : (op : Operation) (operands : List Value) (mid : Types) → MovesFixed (operated op).params (operated op).results (types_of_values operands) mid → length operands ≤ w.layout.greatest
      → length code ≤ 2 ^ 26 → HasAt code i (operate_words w (length operands) op) → Holding operands → ComesTo operands op mid
  operates (Unary t op) operands mid f high near has m = inl (unary_operates t op operands mid f high has m)
  operates (Test t) operands mid f high near has m = inl (test_operates t operands mid f high has m)
  operates (Binary t op) operands mid f high near has m = binary_operates t op operands mid f high near has m
  operates (Compare t op) operands mid f high near has m = inl (compare_operates t op operands mid f high has m)
  operates (Convert Wrap) operands mid f high near has m = inl (convert_operates Wrap operands mid f high has m)
  operates (Convert ExtendS) operands mid f high near has m = inl (convert_operates ExtendS operands mid f high has m)
  operates (Convert ExtendU) operands mid f high near has m = inl (convert_operates ExtendU operands mid f high has m)
  operates (Extend op) operands mid f high near has m = inl (extend_operates op operands mid f high has m)
