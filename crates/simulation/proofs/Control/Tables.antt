-- The first part of a branch by an index: it leads to the jump of that index, or to the last one.
use Rattle.std.proofs.Common.{◌≡◌, ℕ, zero, suc, ◌+◌, ◌-◌, ◌*◌, ◌/◌, ◌%◌, ◌^◌, ◌<◌, ◌≤◌, true, false, ⊎_elim, List, [], ◌∷◌, ◌++◌, length, Option, refl, sym, ap, ◌∙◌, subst, arith, mul_assoc, mul_comm, ap₂}
use Rattle.std.specs.Prelude.{nat_lt, if◌then◌else◌}
use Rattle.std.proofs.lemmas.Bool.{cond-true, cond-false, cases_lt, lt-ltb, le-ltb, eq-eqb}
use Rattle.std.proofs.lemmas.Option.{slice_get_within}
use Rattle.rv_isa.specs.declared.operations.BranchOp.{BranchOp}
use Rattle.rv_isa.specs.declared.operations.BranchOp.TheVariants.{Bltu}
use Rattle.rv_isa.specs.declared.operations.ImmOp.TheVariants.{Addi}
use Rattle.rv_isa.specs.declared.operations.ShiftOp.TheVariants.{Slli}
use Rattle.rv_isa.specs.declared.operations.RegOp.TheVariants.{Add, Mul}
use Rattle.rv_isa.specs.declared.operations.Op.{Op}
use Rattle.rv_isa.specs.declared.operations.Op.TheVariants.{Auipc, Jalr, Branch, Imm, Shift, Reg}
use Rattle.rv_isa.specs.Values.{is_taken, plus, b_value, i_value, u_value, computed}
use Rattle.rv_isa.specs.Steps.{reg, set_reg, State, Next, act, branch, jump}
use Rattle.rv_isa.specs.Runs.{place, HasAt, Reaches, Leaves}
use Rattle.rv_isa.proofs.RunLaws.{Reaches-then, one_step}
use Rattle.rv_isa.proofs.OffsetLaws.{other_registers_stay}
use Rattle.wasm_defs.specs.declared.types.ValType.TheVariants.{I32}
use Rattle.wasm_defs.specs.Values.{Value, modulus, word}
use Rattle.wasm_defs.specs.declared.types.ValType.{ValType}
use Rattle.frame_layout.specs.Macros.{x0, t0, t1, forward, const_32, zero_extend, t2}
use Rattle.frame_layout.specs.Templates.{EmitContext, load_operand, scale_words, table_front}
use Rattle.frame_layout.specs.Laws.{is_scratch}
use Rattle.frame_layout.proofs.Standing.{has_first, has_rest}
use Rattle.frame_layout.proofs.Constants.{block_leaves, const_32_leaves}
use Rattle.frame_layout.proofs.Steps.{apart}
use Rattle.frame_layout.proofs.Jumps.{taken_reaches}
use Rattle.frame_layout.proofs.WordLaws.{low_word}
use Rattle.simulation.proofs.Frames.Jumps.{Lands}
use Rattle.simulation.proofs.Frames.Sitting.{has_at}
use Rattle.frame_layout.proofs.Sizes.{jump_count, front_count}
use Rattle.simulation.proofs.Frames.Values.{Matches}
use Rattle.simulation.proofs.Control.Tests.{loads}

up_and_down : (w n : ℕ) → w % 2 ^ 32 ≡ n → (w * 2 ^ 32) % 2 ^ 64 / 2 ^ 32 ≡ n
up_and_down w n e = omega arith

-- which jump
abbrev pub chosen : (n count : ℕ) → ℕ
chosen n count = if nat_lt n count then n else count

-- a register holds a value, after so many steps that change no byte
record Held (code : List (Option Op)) (most : ℕ) (s : State) (at r value : ℕ) : Type 0 where
  steps : ℕ
  some : 0 < steps
  short : steps ≤ most
  end : State
  reaches : Reaches code steps s end
  pc_is : end.pc ≡ place at
  bytes_are : end.bytes ≡ s.bytes
  value_is : reg end.registers r ≡ value
  others : (q : ℕ) → is_scratch q ≡ false → reg end.registers q ≡ reg s.registers q

passed_reaches : (code : List (Option Op)) (s : State) (i : ℕ) → s.pc ≡ place i → (op : BranchOp) (left right field : ℕ) → HasAt code i (Branch op left right field ∷ []) → is_taken op (reg s.registers left) (reg s.registers right) ≡ false → Reaches code 1 s (record s { pc = s.pc + 4 })
passed_reaches code s i at op left right field has not_taken =
    let row = ap (λ t. branch s t (plus s.pc (b_value field))) not_taken in
    one_step code s (record s { pc = s.pc + 4 }) i (Branch op left right field) at has.0 row

module _ (code : List (Option Op)) (near : length code ≤ 2 ^ 26) (s : State) (i : ℕ) (n count : ℕ) (small : n < 2 ^ 32) (few : count < 2 ^ 26) where
  -- the index, and the number of jumps
  record Compared : Type 0 where
    end : State
    reaches : Reaches code 10 s end
    pc_is : end.pc ≡ place (i + 10)
    bytes_are : end.bytes ≡ s.bytes
    index_is : reg end.registers t0 ≡ n
    count_is : reg end.registers t1 ≡ count
    others : (q : ℕ) → is_scratch q ≡ false → reg end.registers q ≡ reg s.registers q

  compared : s.pc ≡ place i → (one : Leaves code 3 s s.bytes t0 (word I32 n)) → HasAt code (i + 3) (zero_extend t0) → HasAt code (i + 5) (const_32 t1 count) → Compared
  unfolding computed
  compared at one has_extend has_count =
      let pc_one = one.pc_is in
      let is : (reg one.end.registers t0 * 2 ^ 32) % 2 ^ 64 / 2 ^ 32 ≡ n = up_and_down (reg one.end.registers t0) n (ap (λ (x : ℕ). x % 2 ^ 32) one.value_is ∙ low_word n small) in
      let two = block_leaves code (zero_extend t0) (i + 3) one.end t0 n refl has_extend (omega arith) is in
      let pc_two = two.pc_is in
      let three = const_32_leaves code two.end (i + 5) t1 count has_count (omega arith) (λ e. absurd cc) (omega arith) in
      let pc_three = three.pc_is in
      record {
        end = three.end;
        reaches = Reaches-then one.reaches (Reaches-then two.reaches three.reaches);
        pc_is = omega arith;
        bytes_are = three.bytes_are ∙ two.bytes_are ∙ one.bytes_are;
        index_is = three.others t0 (λ e. absurd cc) ∙ two.value_is;
        count_is = three.value_is;
        others = λ q kept. three.others q (apart q t1 kept refl) ∙ two.others q (apart q t0 kept refl) ∙ one.others q (apart q t0 kept refl);
      }

  module _ (x : Compared) (has : HasAt code (i + 10) (Branch Bltu t0 t1 (forward 8) ∷ Imm Addi t0 t1 0 ∷ [])) where
    -- the index is below the number
    inside : n < count → Held code 12 s (i + 12) t0 n
    unfolding is_taken
    inside less =
        let pc_x = x.pc_is in
        let is : nat_lt (reg x.end.registers t0) (reg x.end.registers t1) ≡ true = lt-ltb (reg x.end.registers t0) (reg x.end.registers t1) (omega (arith, x.index_is, x.count_is)) in
        let within = slice_get_within code (i + 10) _ has.0 in
        record {
          steps = 10 + 1;
          some = omega arith;
          short = omega arith;
          end = record x.end { pc = place (i + 12) };
          reaches = Reaches-then x.reaches (taken_reaches code x.end (i + 10) x.pc_is Bltu t0 t1 (forward 8) (place (i + 12)) (has.0, tt) is (omega arith) (omega arith));
          pc_is = refl;
          bytes_are = x.bytes_are;
          value_is = x.index_is;
          others = x.others;
        }

    -- or not
    outside : count ≤ n → Held code 12 s (i + 12) t0 count
    unfolding is_taken computed
    outside more =
        let pc_x = x.pc_is in
        let is : nat_lt (reg x.end.registers t0) (reg x.end.registers t1) ≡ false = le-ltb (reg x.end.registers t0) (reg x.end.registers t1) (omega (arith, x.index_is, x.count_is)) in
        let next : State = record x.end { pc = x.end.pc + 4 } in
        let passed = passed_reaches code x.end (i + 10) x.pc_is Bltu t0 t1 (forward 8) (has.0, tt) is in
        let value : plus (reg x.end.registers t1) (i_value 0) ≡ count = omega (arith, x.count_is) in
        let step : suc (i + 10) ≡ i + 11 = omega arith in
        let put = block_leaves code (Imm Addi t0 t1 0 ∷ []) (i + 11) next t0 count refl (has_at code (suc (i + 10)) (i + 11) (Imm Addi t0 t1 0 ∷ []) step has.1) (omega arith) value in
        let pc_put = put.pc_is in
        record {
          steps = 10 + (1 + 1);
          some = omega arith;
          short = omega arith;
          end = put.end;
          reaches = Reaches-then x.reaches (Reaches-then passed put.reaches);
          pc_is = omega arith;
          bytes_are = put.bytes_are ∙ x.bytes_are;
          value_is = put.value_is;
          others = λ q kept. put.others q (apart q t0 kept refl) ∙ x.others q kept;
        }

    indexed : Held code 12 s (i + 12) t0 (chosen n count)
    indexed = ⊎_elim
        (λ less. subst (Held code 12 s (i + 12) t0) (sym (cond-true (nat_lt n count) n count (lt-ltb n count less))) (inside less))
        (λ more. subst (Held code 12 s (i + 12) t0) (sym (cond-false (nat_lt n count) n count (le-ltb n count more))) (outside more))
        (cases_lt n count)

-- the index times the bytes of a jump
module _ (code : List (Option Op)) (near : length code ≤ 2 ^ 26) (w : EmitContext) (s : State) (i index : ℕ) (x : Held code 12 s (i + 12) t0 index) where
  times : (index m : ℕ) → index * (4 * m) ≡ 4 * (index * m)
  times index m = sym (mul_assoc index 4 m) ∙ ap (λ (n : ℕ). n * m) (mul_comm index 4) ∙ mul_assoc 4 index m

  shifted : (power words : ℕ) → HasAt code (i + 12) (Shift Slli t0 t0 power ∷ []) → (index * 2 ^ (power % 64)) % 2 ^ 64 ≡ 4 * words → Held code 18 s (i + 12 + 1) t0 (4 * words)
  unfolding computed
  shifted power words has scaled =
      let pc_x = x.pc_is in
      let inside = slice_get_within code (i + 12) _ has.0 in
      let is : (reg x.end.registers t0 * 2 ^ (power % 64)) % 2 ^ 64 ≡ 4 * words = ap (λ (n : ℕ). (n * 2 ^ (power % 64)) % 2 ^ 64) x.value_is ∙ scaled in
      let one = block_leaves code (Shift Slli t0 t0 power ∷ []) (i + 12) x.end t0 (4 * words) refl has x.pc_is is in
      let pc_one = one.pc_is in
      record {
        steps = x.steps + 1;
        some = omega arith;
        short = omega (arith, x.short);
        end = one.end;
        reaches = Reaches-then x.reaches one.reaches;
        pc_is = omega arith;
        bytes_are = one.bytes_are ∙ x.bytes_are;
        value_is = one.value_is;
        others = λ q kept. one.others q (apart q t0 kept refl) ∙ x.others q kept;
      }

  multiplied : (n : ℕ) → HasAt code (i + 12) (const_32 t2 (8 + 24 * n) ++ Reg Mul t0 t0 t2 ∷ []) → n < 2 ^ 24 → index * jump_count n < 2 ^ 30 → Held code 18 s (i + 12 + 6) t0 (4 * (index * jump_count n))
  unfolding computed
  multiplied n has few small =
      let pc_x = x.pc_is in
      let inside = slice_get_within code (i + 12) _ has.0 in
      let number = const_32 t2 (8 + 24 * n) in
      let product : List Op = Reg Mul t0 t0 t2 ∷ [] in
      let one = const_32_leaves code x.end (i + 12) t2 (8 + 24 * n) (has_first code (i + 12) number product has) x.pc_is (λ e. absurd cc) (omega arith) in
      let pc_one = one.pc_is in
      let first : reg one.end.registers t0 ≡ index = one.others t0 (λ e. absurd cc) ∙ x.value_is in
      let bytes : 8 + 24 * n ≡ 4 * jump_count n = omega arith in
      let whole : index * (8 + 24 * n) ≡ 4 * (index * jump_count n) = ap (λ (m : ℕ). index * m) bytes ∙ times index (jump_count n) in
      let is : (reg one.end.registers t0 * reg one.end.registers t2) % 2 ^ 64 ≡ 4 * (index * jump_count n) =
      ap₂ (λ (a b : ℕ). (a * b) % 2 ^ 64) first one.value_is ∙ ap (λ (m : ℕ). m % 2 ^ 64) whole ∙ omega arith in
      let two = block_leaves code product (i + 12 + 5) one.end t0 (4 * (index * jump_count n)) refl (has_rest code (i + 12) number product has) (omega arith) is in
      let pc_two = two.pc_is in
      record {
        steps = x.steps + (5 + 1);
        some = omega arith;
        short = omega (arith, x.short);
        end = two.end;
        reaches = Reaches-then x.reaches (Reaches-then one.reaches two.reaches);
        pc_is = omega arith;
        bytes_are = two.bytes_are ∙ one.bytes_are ∙ x.bytes_are;
        value_is = two.value_is;
        others = λ q kept. two.others q (apart q t0 kept refl) ∙ one.others q (apart q t2 kept refl) ∙ x.others q kept;
      }

  scaled : (takes : ℕ) → HasAt code (i + 12) (scale_words w takes) → takes < 2 ^ 24 → index * jump_count takes < 2 ^ 30 → Held code 18 s (i + 12 + length (scale_words w takes)) t0 (4 * (index * jump_count takes))
  scaled zero has few small = shifted 3 (index * jump_count 0) has (omega arith)
  scaled (suc zero) has few small = shifted 5 (index * jump_count 1) has (omega arith)
  scaled (suc (suc n)) has few small = multiplied (suc (suc n)) has few small

-- so many words on
module _ (code : List (Option Op)) (near : length code ≤ 2 ^ 26) (s : State) (i words : ℕ) (x : Held code 18 s i t0 (4 * words)) (few : words < 2 ^ 30)
    (has : HasAt code i (Auipc t1 0 ∷ Reg Add t1 t1 t0 ∷ Jalr x0 t1 12 ∷ [])) where
  goes_on : (k : ℕ) × (0 < k) × (k ≤ 21) × Lands code k s s.bytes (place (i + 3 + words))
  unfolding computed
  goes_on =
      let pc_x = x.pc_is in
      let inside = slice_get_within code i _ has.0 in
      let step_three : suc i ≡ i + 1 = omega arith in
      let step_four : suc (suc i) ≡ i + 2 = omega arith in
      let t = x.end in
      let two : State = record t { registers = set_reg t.registers t1 (plus t.pc (u_value 0)); pc = t.pc + 4 } in
      let to_two = one_step code t two i (Auipc t1 0) x.pc_is has.0 refl in
      let sum : plus (plus t.pc (u_value 0)) (reg t.registers t0) ≡ place i + 4 * words = omega (arith, x.value_is) in
      let three = block_leaves code (Reg Add t1 t1 t0 ∷ []) (i + 1) two t1 (place i + 4 * words) refl (has_at code (suc i) (i + 1) (Reg Add t1 t1 t0 ∷ []) step_three (has.1.0, tt)) (omega arith) sum in
      let pc_three = three.pc_is in
      let there = place (i + 3 + words) in
      let four : State = record three.end { pc = there } in
      let target : plus (reg three.end.registers t1) (i_value 12) / 2 * 2 ≡ there = omega (arith, three.value_is) in
      let row : act (Jalr x0 t1 12) three.end ≡ Next four = ap (jump three.end 0) target ∙ rw (eq-eqb (there % 4) 0 (omega arith)) refl in
      let to_four = one_step code three.end four (i + 2) (Jalr x0 t1 12) (omega arith) (has_at code (suc (suc i)) (i + 2) (Jalr x0 t1 12 ∷ []) step_four (has.1.1.0, tt)).0 row in (
        x.steps + (1 + (1 + 1)),
        omega arith,
        omega (arith, x.short),
        record {
          end = four;
          reaches = Reaches-then x.reaches (Reaches-then to_two (Reaches-then three.reaches to_four));
          pc_is = refl;
          bytes_are = three.bytes_are ∙ x.bytes_are;
          others = λ q kept. three.others q (apart q t1 kept refl) ∙ other_registers_stay t.registers t1 q (plus t.pc (u_value 0)) (apart q t1 kept refl) ∙ x.others q kept;
        },
      )

-- ---- the first part

module _ (code : List (Option Op)) (near : length code ≤ 2 ^ 26) (w : EmitContext) (base there : ℕ) (locals : List Value) (s : State) (begin here h : ℕ) (at : s.pc ≡ place (begin + here)) (v : Value) (rest : List Value)
    (m : Matches w.layout base there s.bytes locals (v ∷ rest) s) (ty : v.ty ≡ I32) (h_is : h ≡ suc (length rest)) (high : h ≤ w.layout.greatest) (count : ℕ) (few : count < 2 ^ 26) where
  pub front_lands : (takes : ℕ) → takes < 2 ^ 24 → chosen v.number count * jump_count takes < 2 ^ 30
      → HasAt code (begin + here) (table_front w h count takes) → (k : ℕ) × (0 < k) × (k ≤ 21) × Lands code k s s.bytes (place (begin + (here + (front_count takes + chosen v.number count * jump_count takes))))
  front_lands takes narrow low has =
      let i = begin + here in
      let load = load_operand w t0 (h - 1) in
      let extend = zero_extend t0 in
      let number = const_32 t1 count in
      let on : List Op = Auipc t1 0 ∷ Reg Add t1 t1 t0 ∷ Jalr x0 t1 12 ∷ [] in
      let scale = scale_words w takes in
      let tail = Branch Bltu t0 t1 (forward 8) ∷ Imm Addi t0 t1 0 ∷ scale ++ on in
      let behind_load = has_rest code i load (extend ++ (number ++ tail)) has in
      let behind_extend = has_rest code (i + 3) extend (number ++ tail) behind_load in
      let five : i + 3 + 2 ≡ i + 5 = omega arith in
      let ten : i + 3 + 2 + 5 ≡ i + 10 = omega arith in
      let has_number = has_at code (i + 3 + 2) (i + 5) number five (has_first code (i + 3 + 2) number tail behind_extend) in
      let has_tail = has_at code (i + 3 + 2 + 5) (i + 10) tail ten (has_rest code (i + 3 + 2) number tail behind_extend) in
      let range : v.number < 2 ^ 32 = number_small in
      let one = loads code near w base there locals s begin here h at v rest m ty h_is high (has_first code i load (extend ++ (number ++ tail)) has) in
      let x = compared code near s i v.number count range few at one (has_first code (i + 3) extend (number ++ tail) behind_load) has_number in
      let y = indexed code near s i v.number count range few x (has_tail.0, (has_tail.1.0, tt)) in
      let index = chosen v.number count in
      let twelve : suc (suc (i + 10)) ≡ i + 12 = omega arith in
      let last = has_at code (suc (suc (i + 10))) (i + 12) (scale ++ on) twelve has_tail.1.1 in
      let z = scaled code near w s i index y takes (has_first code (i + 12) scale on last) narrow low in
      let u = goes_on code near s (i + 12 + length scale) (index * jump_count takes) z low (has_rest code (i + 12) scale on last) in
      let place_is : i + 12 + length scale + 3 + index * jump_count takes ≡ begin + (here + (front_count takes + index * jump_count takes)) = omega (arith, scale_count takes) in
      (u.0, u.1, u.2, subst (λ (n : ℕ). Lands code u.0 s s.bytes (place n)) place_is u.3)
    where
      number_small : v.number < 2 ^ 32
      number_small = subst (λ (t : ValType). v.number < modulus t) ty m.live.0.range

      scale_count : (takes : ℕ) → 15 + length (scale_words w takes) ≡ front_count takes
      scale_count zero = refl
      scale_count (suc zero) = refl
      scale_count (suc (suc n)) = refl
