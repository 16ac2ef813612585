-- What the instruction words of divisions come to.
use Rattle.std.proofs.Common.{◌≡◌, ℕ, ◌+◌, ◌-◌, ◌/◌, ◌==◌, ◌^◌, ◌<◌, ◌≤◌, Bool, true, false, if◌then◌else◌, List, ◌++◌, length, Option, inl, inr, refl, sym, ap, ap₂, subst, ◌∙◌, arith, lit≤}
use Rattle.std.specs.Prelude.{int_div, pos}
use Rattle.std.specs.Ordering.{int_eq}
use Rattle.std.proofs.lemmas.Bool.{cases_eq, eq-eqb, ne_eqb, and_left, and_right, and_from}
use Rattle.std.proofs.lemmas.Option.{slice_get_within}
use Rattle.rv_isa.specs.declared.operations.RegOp.{RegOp}
use Rattle.rv_isa.specs.declared.operations.RegOp.TheVariants.{Div}
use Rattle.rv_isa.specs.declared.operations.RegOpW.{RegOpW}
use Rattle.rv_isa.specs.declared.operations.RegOpW.TheVariants.{Divw}
use Rattle.rv_isa.specs.declared.operations.Op.{Op}
use Rattle.rv_isa.specs.Steps.{reg, State}
use Rattle.rv_isa.specs.Runs.{place, HasAt}
use Rattle.wasm_defs.specs.declared.types.ValType.{ValType}
use Rattle.wasm_defs.specs.declared.types.ValType.TheVariants.{I32, I64}
use Rattle.wasm_defs.specs.declared.operation.BinaryOp.TheVariants.{DivS}
use Rattle.wasm_defs.specs.Values.{modulus, signed, unsigned, word}
use Rattle.wasm_defs.specs.Integers.{Computed, Number, DividesByZero, Overflows, idiv_s}
use Rattle.wasm_defs.specs.Configurations.{max_slots}
use Rattle.frame_layout.specs.Slots.{operand}
use Rattle.frame_layout.specs.Macros.{t0, t1}
use Rattle.frame_layout.specs.Templates.{EmitContext, on_two}
use Rattle.frame_layout.specs.Bodies.{both, guard, overflow_guard, binary_body}
use Rattle.frame_layout.specs.Laws.{slot_at, IsFrame, TrapsAt}
use Rattle.frame_layout.proofs.Jumps.{traps_after}
use Rattle.frame_layout.proofs.Instructions.{Operands}
use Rattle.simulation.specs.IntegerLaws.{overflow_words, Comes}
use Rattle.simulation.proofs.Integers.Extensions.{eq_i32}
use Rattle.simulation.proofs.Integers.Runs.{Gives, two_load, two_body, two_store_does}
use Rattle.simulation.proofs.Integers.Sized.{sized_value, exact_value, sized_word, div_s_is}
use Rattle.simulation.proofs.Integers.Divisions.{least, zero_traps, guarded_gives, plain_gives, other_gives, overflow_traps}
use Rattle.simulation.proofs.Integers.Overflows.{overflow_test}

-- the six words that load the operands, and those up to the trap
overflow_there : {code : List (Option Op)} {s : State} (t : ValType) (steps : ℕ) → TrapsAt code (6 + steps) (6 + (overflow_words t - 6)) 3 s → TrapsAt code (6 + steps) (overflow_words t) 3 s
overflow_there I32 steps traps = traps
overflow_there I64 steps traps = traps

-- ---- the tests on words

zero_test : (t : ValType) (b : ℕ) → b < modulus t → (word t b == 0) ≡ (b == 0)
zero_test I32 b h = eq_i32 b 0 h (omega arith)
zero_test I64 b h = refl

minus_one_test : (t : ValType) (b : ℕ) → b < modulus t → (word t b == 2 ^ 64 - 1) ≡ (b == modulus t - 1)
minus_one_test I32 b h = eq_i32 b (2 ^ 32 - 1) h (omega arith)
minus_one_test I64 b h = refl

least_test : (t : ValType) (a : ℕ) → a < modulus t → (word t a == least t) ≡ (a == modulus t / 2)
least_test I32 a h = eq_i32 a (2 ^ 31) h (omega arith)
least_test I64 a h = refl

-- ---- lengths

guarded_length : (w : EmitContext) (h : ℕ) (t : ValType) (o : RegOpW) (wide : RegOp) → length (on_two w h (guard ++ both t o wide)) ≡ 14
guarded_length w h I32 o wide = refl
guarded_length w h I64 o wide = refl

signed_length : (w : EmitContext) (h : ℕ) (t : ValType) → 21 ≤ length (on_two w h (binary_body DivS t))
signed_length w h I32 = lit≤ tt
signed_length w h I64 = lit≤ tt

-- the same value, written otherwise
gives_as : {code : List (Option Op)} {steps words v : ℕ} {s : State} (v' : ℕ) → v ≡ v' → Gives code steps words s v → Gives code steps words s v'
gives_as {code} {steps} {words} {v} {s} v' is gives = subst (λ (x : ℕ). Gives code steps words s x) is gives

module _ (w : EmitContext) (code : List (Option Op)) (s : State) (i base h : ℕ) (t : ValType) (a b : ℕ) (at : s.pc ≡ place i) (frame : IsFrame base s) (inside : base + operand w.layout (h - 1) < max_slots) (two : 2 ≤ h) (ha : a < modulus t) (hb : b < modulus t) (a_is : slot_at s.bytes (base + operand w.layout (h - 2)) ≡ word t a) (b_is : slot_at s.bytes (base + operand w.layout (h - 1)) ≡ word t b) (short : length code ≤ 2 ^ 26) where
  abbrev slot : ℕ
  slot = base + operand w.layout (h - 2)

  -- ---- after the loads

  -- the operands are in t0 and t1, six words on
  module _ (body : List Op) (has : HasAt code i (on_two w h body)) where
    given : Operands code s (slot_at s.bytes slot) (slot_at s.bytes (base + operand w.layout (h - 1)))
    given = two_load w code s i base h body at frame inside has two

    abbrev mid : State
    mid = given.does.end

    mid_at : mid.pc ≡ place (i + 6)
    mid_at = let pc_is = given.does.pc_is in omega arith

    first_is : reg mid.registers t0 ≡ word t a
    first_is = given.first ∙ a_is

    second_is : reg mid.registers t1 ≡ word t b
    second_is = given.second ∙ b_is

    zero_is : (c : Bool) → (b == 0) ≡ c → (reg mid.registers t1 == 0) ≡ c
    zero_is c e = ap (λ (x : ℕ). x == 0) second_is ∙ zero_test t b hb ∙ e

    minus_one_is : (c : Bool) → (b == modulus t - 1) ≡ c → (reg mid.registers t1 == 2 ^ 64 - 1) ≡ c
    minus_one_is c e = ap (λ (x : ℕ). x == 2 ^ 64 - 1) second_is ∙ minus_one_test t b hb ∙ e

    least_is : (c : Bool) → (a == modulus t / 2) ≡ c → (reg mid.registers t0 == least t) ≡ c
    least_is c e = ap (λ (x : ℕ). x == least t) first_is ∙ least_test t a ha ∙ e

    traps_there : (steps words kind : ℕ) → TrapsAt code steps words kind mid → TrapsAt code (6 + steps) (6 + words) kind s
    traps_there steps words kind traps = traps_after given.does traps

    value_there : (o : RegOpW) (wide : RegOp) (n : ℕ) → exact_value t o wide a b ≡ n → sized_value t o wide (reg mid.registers t0) (reg mid.registers t1) ≡ word t n
    value_there o wide n is = ap₂ (sized_value t o wide) first_is second_is ∙ sized_word t o wide a b ha hb ∙ ap (word t) is

  -- ---- divisions that trap at zero alone

  module _ (o : RegOpW) (wide : RegOp) (has : HasAt code i (on_two w h (guard ++ both t o wide))) where
    abbrev guarded : List Op
    guarded = guard ++ both t o wide

    guarded_has : HasAt code (i + 6) guarded
    guarded_has = two_body w code s i base h guarded at frame inside has two

    guarded_near : i + 6 < 2 ^ 26
    guarded_near = let within = slice_get_within code (i + 6) _ guarded_has.0 in omega arith

    pub guarded_comes : (n : ℕ) → ((b ≡ 0 → ⊥) → exact_value t o wide a b ≡ n) → Comes code (length (on_two w h guarded)) s slot t (if b == 0 then DividesByZero else Number n)
    guarded_comes n is =
        let words = guarded_length w h t o wide in
        let start = mid guarded has in
        let start_at = mid_at guarded has in
        elim (cases_eq b 0) [
          | inl e ↦
              let zero = eq-eqb b 0 e in
              let which : DividesByZero ≡ (if b == 0 then DividesByZero else Number n) = rw zero refl in
              let traps = zero_traps code start (i + 6) start_at guarded_near (both t o wide) guarded_has (zero_is guarded has true zero) in
              subst (λ (c : Computed). Comes code (length (on_two w h guarded)) s slot t c) which (10, omega arith, traps_there guarded has 4 4 2 traps)
          | inr ne ↦
              let more = ne_eqb b 0 ne in
              let which : Number n ≡ (if b == 0 then DividesByZero else Number n) = rw more refl in
              let gives = guarded_gives code start (i + 6) start_at guarded_near t o wide guarded_has (zero_is guarded has false more) in
              let value = value_there guarded has o wide n (is ne) in
              let does = two_store_does w code s i base h guarded at frame inside has two _ _ (word t n) 2 (given guarded has) (gives_as (word t n) value gives) in
              subst (λ (c : Computed). Comes code (length (on_two w h guarded)) s slot t c) which (11, omega arith, does)
        ]

  -- ---- the quotient of signed numbers

  module _ (has : HasAt code i (on_two w h (binary_body DivS t))) where
    abbrev body : List Op
    body = binary_body DivS t

    abbrev start : State
    start = mid body has

    body_has : HasAt code (i + 6) body
    body_has = two_body w code s i base h body at frame inside has two

    near : i + 6 < 2 ^ 26
    near = let within = slice_get_within code (i + 6) _ body_has.0 in omega arith

    -- with a body that gives the quotient
    number_comes : (steps : ℕ) → steps ≤ 7 → (b ≡ 0 → ⊥) → int_eq (int_div (signed t a) (signed t b)) (pos (modulus t / 2)) ≡ false → Gives code steps (length body) start (sized_value t Divw Div (reg start.registers t0) (reg start.registers t1)) → Comes code (length (on_two w h body)) s slot t (idiv_s t a b)
    number_comes steps few ne fits gives =
        let n = unsigned t (int_div (signed t a) (signed t b)) in
        let which : Number n ≡ idiv_s t a b = rw (ne_eqb b 0 ne, fits) refl in
        let value = value_there body has Divw Div n (div_s_is t a b ne) in
        let does = two_store_does w code s i base h body at frame inside has two _ _ (word t n) steps (given body has) (gives_as (word t n) value gives) in
        subst (λ (c : Computed). Comes code (length (on_two w h body)) s slot t c) which (steps + 9, omega (arith, signed_length w h t), does)

    overflow_comes : (b ≡ 0 → ⊥) → b ≡ modulus t - 1 → a ≡ modulus t / 2 → Comes code (length (on_two w h body)) s slot t (idiv_s t a b)
    overflow_comes ne eb ea =
        let same = eq-eqb b (modulus t - 1) eb in
        let least_same = eq-eqb a (modulus t / 2) ea in
        let test = sym (overflow_test t a b ha hb) ∙ and_from (b == modulus t - 1) (a == modulus t / 2) same least_same in
        let which : Overflows ≡ idiv_s t a b = rw (ne_eqb b 0 ne, test) refl in
        let traps = overflow_traps code start (i + 6) (mid_at body has) near t body_has (zero_is body has false (ne_eqb b 0 ne)) (minus_one_is body has true same) (least_is body has true least_same) in
        subst (λ (c : Computed). Comes code (length (on_two w h body)) s slot t c) which (6 + traps.0, omega (arith, signed_length w h t, traps.1), overflow_there t traps.0 (traps_there body has traps.0 (overflow_words t - 6) 3 traps.2))

    nonzero_comes : (b ≡ 0 → ⊥) → Comes code (length (on_two w h body)) s slot t (idiv_s t a b)
    nonzero_comes ne =
        let more = zero_is body has false (ne_eqb b 0 ne) in
        elim (cases_eq b (modulus t - 1)) [
          | inr nb ↦
              let other = ne_eqb b (modulus t - 1) nb in
              let fits = sym (overflow_test t a b ha hb) ∙ and_left (b == modulus t - 1) (a == modulus t / 2) other in
              number_comes 4 (lit≤ tt) ne fits (plain_gives code start (i + 6) (mid_at body has) near t body_has more (minus_one_is body has false other))
          | inl eb ↦ elim (cases_eq a (modulus t / 2)) [
            | inr na ↦
                let other = ne_eqb a (modulus t / 2) na in
                let fits = sym (overflow_test t a b ha hb) ∙ and_right (b == modulus t - 1) (a == modulus t / 2) other in
                let gives = other_gives code start (i + 6) (mid_at body has) near t body_has more (minus_one_is body has true (eq-eqb b (modulus t - 1) eb)) (least_is body has false other) in
                number_comes gives.0 gives.1 ne fits gives.2
            | inl ea ↦ overflow_comes ne eb ea
          ]
        ]

    pub signed_comes : Comes code (length (on_two w h body)) s slot t (idiv_s t a b)
    signed_comes =
        elim (cases_eq b 0) [
          | inl e ↦
              let zero = eq-eqb b 0 e in
              let which : DividesByZero ≡ idiv_s t a b = rw zero refl in
              let traps = zero_traps code start (i + 6) (mid_at body has) near (overflow_guard t ++ both t Divw Div) body_has (zero_is body has true zero) in
              subst (λ (c : Computed). Comes code (length (on_two w h body)) s slot t c) which (10, omega (arith, signed_length w h t), traps_there body has 4 4 2 traps)
          | inr ne ↦ nonzero_comes ne
        ]
