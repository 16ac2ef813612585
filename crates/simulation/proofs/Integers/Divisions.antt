-- The bodies of divisions: where they trap, and what they leave.
use Rattle.std.proofs.Common.{◌≡◌, ℕ, ◌-◌, ◌==◌, ◌^◌, ◌<◌, ◌≤◌, lit<, true, false, not, List, [], ◌∷◌, ◌++◌, length, Option, refl, ap, arith}
use Rattle.rv_isa.specs.declared.operations.BranchOp.TheVariants.{Bne}
use Rattle.rv_isa.specs.declared.operations.ImmOp.TheVariants.{Addi}
use Rattle.rv_isa.specs.declared.operations.ShiftOp.TheVariants.{Slli}
use Rattle.rv_isa.specs.declared.operations.RegOp.{RegOp}
use Rattle.rv_isa.specs.declared.operations.RegOp.TheVariants.{Div}
use Rattle.rv_isa.specs.declared.operations.RegOpW.{RegOpW}
use Rattle.rv_isa.specs.declared.operations.RegOpW.TheVariants.{Divw}
use Rattle.rv_isa.specs.declared.operations.Op.{Op}
use Rattle.rv_isa.specs.declared.operations.Op.TheVariants.{Lui, Imm, Shift}
use Rattle.rv_isa.specs.Values.{computed, is_taken}
use Rattle.rv_isa.specs.Steps.{reg, State}
use Rattle.rv_isa.specs.Runs.{place, HasAt, after_all}
use Rattle.wasm_defs.specs.declared.types.ValType.{ValType}
use Rattle.wasm_defs.specs.declared.types.ValType.TheVariants.{I32, I64}
use Rattle.wasm_defs.specs.declared.operation.BinaryOp.TheVariants.{DivS}
use Rattle.frame_layout.specs.Macros.{x0, t0, t1, t2, forward, minus_one}
use Rattle.frame_layout.specs.Bodies.{sized, both, guard, overflow_guard, binary_body}
use Rattle.frame_layout.specs.Laws.{is_scratch, TrapsAt}
use Rattle.rv_isa.proofs.RunLaws.{blocks_keep}
use Rattle.simulation.specs.IntegerLaws.{overflow_words}
use Rattle.simulation.proofs.Integers.Runs.{Gives}
use Rattle.simulation.proofs.Integers.Sized.{sized_value}
use Rattle.simulation.proofs.Integers.Walks.{Walks, starts, computes_on, passes, branches, walk_traps, walk_gives}

-- the least number, as the words make it
abbrev pub least : ValType → ℕ
least I32 = 2 ^ 64 - 2 ^ 31
least I64 = 2 ^ 63

-- from the first word of a body on, with the operands in t0 and t1
module _ (code : List (Option Op)) (s : State) (j : ℕ) (at : s.pc ≡ place j) (near : j < 2 ^ 26) where
  -- ---- the divisor

  module _ (rest : List Op) (has : HasAt code j (guard ++ rest)) where
    pub zero_traps : (reg s.registers t1 == 0) ≡ true → TrapsAt code 4 4 2 s
    unfolding is_taken
    zero_traps zero_is =
        let first = passes code (guard ++ rest) s j has at 0 0 _ (starts code s) Bne t1 x0 (forward 16) refl (ap not zero_is) in
        walk_traps code (guard ++ rest) s j has at 1 1 _ first 2 rest refl (lit< tt) (λ r kept. refl)

    past_guard : (reg s.registers t1 == 0) ≡ false → Walks code 1 4 s s.registers
    unfolding is_taken
    past_guard more = branches code (guard ++ rest) s j has at 0 0 _ (starts code s) Bne t1 x0 (forward 16) 4 refl (ap not more) (omega arith)

  pub guarded_gives : (t : ValType) (o : RegOpW) (wide : RegOp) → HasAt code j (guard ++ both t o wide) → (reg s.registers t1 == 0) ≡ false → Gives code 2 (length (guard ++ both t o wide)) s (sized_value t o wide (reg s.registers t0) (reg s.registers t1))
  guarded_gives I32 o wide has more =
      let body = both I32 o wide in
      walk_gives code s 2 5 _ body (computes_on code (guard ++ body) s j has at 1 4 _ (past_guard body has more) (sized I32 o wide t0 t0 t1) refl refl) refl refl
  guarded_gives I64 o wide has more =
      let body = both I64 o wide in
      walk_gives code s 2 5 _ body (computes_on code (guard ++ body) s j has at 1 4 _ (past_guard body has more) (sized I64 o wide t0 t0 t1) refl refl) refl refl

  -- ---- the quotient of signed numbers, of i32

  module _ (has : HasAt code j (binary_body DivS I32)) (more : (reg s.registers t1 == 0) ≡ false) where
    abbrev op_32 : Op
    op_32 = sized I32 Divw Div t0 t0 t1

    abbrev minus_one_32 : Op
    minus_one_32 = Imm Addi t2 x0 minus_one

    abbrev least_32 : Op
    least_32 = Lui t2 0x80000

    first_32 : Walks code 2 5 s (after_all (minus_one_32 ∷ []) s.registers)
    first_32 = computes_on code (binary_body DivS I32) s j has at 1 4 _ (past_guard (overflow_guard I32 ++ (op_32 ∷ [])) has more) minus_one_32 refl refl

    plain_32 : (reg s.registers t1 == 2 ^ 64 - 1) ≡ false → Gives code 4 12 s (sized_value I32 Divw Div (reg s.registers t0) (reg s.registers t1))
    unfolding computed is_taken
    plain_32 other =
        let second = branches code (binary_body DivS I32) s j has at 2 5 _ first_32 Bne t1 t2 (forward 24) 11 refl (ap not other) (omega arith) in
        let third = computes_on code (binary_body DivS I32) s j has at 3 11 _ second op_32 refl refl in
        walk_gives code s 4 12 _ (minus_one_32 ∷ op_32 ∷ []) third refl refl

    made_32 : (reg s.registers t1 == 2 ^ 64 - 1) ≡ true → Walks code 4 7 s (after_all (minus_one_32 ∷ least_32 ∷ []) s.registers)
    unfolding computed is_taken
    made_32 same =
        let second = passes code (binary_body DivS I32) s j has at 2 5 _ first_32 Bne t1 t2 (forward 24) refl (ap not same) in
        computes_on code (binary_body DivS I32) s j has at 3 6 _ second least_32 refl refl

    other_32 : (reg s.registers t1 == 2 ^ 64 - 1) ≡ true → (reg s.registers t0 == least I32) ≡ false → Gives code 6 12 s (sized_value I32 Divw Div (reg s.registers t0) (reg s.registers t1))
    unfolding computed is_taken
    other_32 same other =
        let next = branches code (binary_body DivS I32) s j has at 4 7 _ (made_32 same) Bne t0 t2 (forward 16) 11 refl (ap not other) (omega arith) in
        let last = computes_on code (binary_body DivS I32) s j has at 5 11 _ next op_32 refl refl in
        walk_gives code s 6 12 _ (minus_one_32 ∷ least_32 ∷ op_32 ∷ []) last refl refl

    overflow_32 : (reg s.registers t1 == 2 ^ 64 - 1) ≡ true → (reg s.registers t0 == least I32) ≡ true → TrapsAt code 8 11 3 s
    unfolding computed is_taken
    overflow_32 same least_is =
        let next = passes code (binary_body DivS I32) s j has at 4 7 _ (made_32 same) Bne t0 t2 (forward 16) refl (ap not least_is) in
        walk_traps code (binary_body DivS I32) s j has at 5 8 _ next 3 (op_32 ∷ []) refl (lit< tt) (λ r kept. blocks_keep is_scratch (minus_one_32 ∷ least_32 ∷ []) s.registers r refl kept)

  -- ---- of i64

  module _ (has : HasAt code j (binary_body DivS I64)) (more : (reg s.registers t1 == 0) ≡ false) where
    abbrev op_64 : Op
    op_64 = sized I64 Divw Div t0 t0 t1

    abbrev minus_one_64 : Op
    minus_one_64 = Imm Addi t2 x0 minus_one

    abbrev bit_64 : Op
    bit_64 = Imm Addi t2 x0 1

    abbrev least_64 : Op
    least_64 = Shift Slli t2 t2 63

    first_64 : Walks code 2 5 s (after_all (minus_one_64 ∷ []) s.registers)
    first_64 = computes_on code (binary_body DivS I64) s j has at 1 4 _ (past_guard (overflow_guard I64 ++ (op_64 ∷ [])) has more) minus_one_64 refl refl

    plain_64 : (reg s.registers t1 == 2 ^ 64 - 1) ≡ false → Gives code 4 13 s (sized_value I64 Divw Div (reg s.registers t0) (reg s.registers t1))
    unfolding computed is_taken
    plain_64 other =
        let second = branches code (binary_body DivS I64) s j has at 2 5 _ first_64 Bne t1 t2 (forward 28) 12 refl (ap not other) (omega arith) in
        let third = computes_on code (binary_body DivS I64) s j has at 3 12 _ second op_64 refl refl in
        walk_gives code s 4 13 _ (minus_one_64 ∷ op_64 ∷ []) third refl refl

    made_64 : (reg s.registers t1 == 2 ^ 64 - 1) ≡ true → Walks code 5 8 s (after_all (minus_one_64 ∷ bit_64 ∷ least_64 ∷ []) s.registers)
    unfolding computed is_taken
    made_64 same =
        let second = passes code (binary_body DivS I64) s j has at 2 5 _ first_64 Bne t1 t2 (forward 28) refl (ap not same) in
        let third = computes_on code (binary_body DivS I64) s j has at 3 6 _ second bit_64 refl refl in
        computes_on code (binary_body DivS I64) s j has at 4 7 _ third least_64 refl refl

    other_64 : (reg s.registers t1 == 2 ^ 64 - 1) ≡ true → (reg s.registers t0 == least I64) ≡ false → Gives code 7 13 s (sized_value I64 Divw Div (reg s.registers t0) (reg s.registers t1))
    unfolding computed is_taken
    other_64 same other =
        let next = branches code (binary_body DivS I64) s j has at 5 8 _ (made_64 same) Bne t0 t2 (forward 16) 12 refl (ap not other) (omega arith) in
        let last = computes_on code (binary_body DivS I64) s j has at 6 12 _ next op_64 refl refl in
        walk_gives code s 7 13 _ (minus_one_64 ∷ bit_64 ∷ least_64 ∷ op_64 ∷ []) last refl refl

    overflow_64 : (reg s.registers t1 == 2 ^ 64 - 1) ≡ true → (reg s.registers t0 == least I64) ≡ true → TrapsAt code 9 12 3 s
    unfolding computed is_taken
    overflow_64 same least_is =
        let next = passes code (binary_body DivS I64) s j has at 5 8 _ (made_64 same) Bne t0 t2 (forward 16) refl (ap not least_is) in
        walk_traps code (binary_body DivS I64) s j has at 6 9 _ next 3 (op_64 ∷ []) refl (lit< tt) (λ r kept. blocks_keep is_scratch (minus_one_64 ∷ bit_64 ∷ least_64 ∷ []) s.registers r refl kept)

  -- ---- at both types

  -- the divisor isn't -1
  pub plain_gives : (t : ValType) → HasAt code j (binary_body DivS t) → (reg s.registers t1 == 0) ≡ false → (reg s.registers t1 == 2 ^ 64 - 1) ≡ false → Gives code 4 (length (binary_body DivS t)) s (sized_value t Divw Div (reg s.registers t0) (reg s.registers t1))
  plain_gives I32 has more other = plain_32 has more other
  plain_gives I64 has more other = plain_64 has more other

  -- the dividend isn't the least number
  pub other_gives : (t : ValType) → HasAt code j (binary_body DivS t) → (reg s.registers t1 == 0) ≡ false → (reg s.registers t1 == 2 ^ 64 - 1) ≡ true → (reg s.registers t0 == least t) ≡ false → (steps : ℕ) × (steps ≤ 7) × Gives code steps (length (binary_body DivS t)) s (sized_value t Divw Div (reg s.registers t0) (reg s.registers t1))
  other_gives I32 has more same other = (6, omega arith, other_32 has more same other)
  other_gives I64 has more same other = (7, omega arith, other_64 has more same other)

  -- the quotient isn't representable
  pub overflow_traps : (t : ValType) → HasAt code j (binary_body DivS t) → (reg s.registers t1 == 0) ≡ false → (reg s.registers t1 == 2 ^ 64 - 1) ≡ true → (reg s.registers t0 == least t) ≡ true → (steps : ℕ) × (steps ≤ 9) × TrapsAt code steps (overflow_words t - 6) 3 s
  overflow_traps I32 has more same least_is = (8, omega arith, overflow_32 has more same least_is)
  overflow_traps I64 has more same least_is = (9, omega arith, overflow_64 has more same least_is)
