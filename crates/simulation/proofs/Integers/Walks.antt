-- Steps through instruction words with branches. Each way is taken apart: how many steps it has, how many words it has
-- passed, and the registers that it leaves.
use Rattle.std.proofs.Common.{◌≡◌, ℕ, zero, suc, ◌+◌, ◌*◌, ◌%◌, ◌^◌, ◌<◌, true, false, List, [], ◌∷◌, ◌++◌, drop, Option, Some, refl, ap, subst, ◌∙◌, arith}
use Rattle.std.specs.Prelude.{slice_get}
use Rattle.rv_isa.specs.declared.operations.BranchOp.{BranchOp}
use Rattle.rv_isa.specs.declared.operations.Op.{Op}
use Rattle.rv_isa.specs.declared.operations.Op.TheVariants.{Branch}
use Rattle.rv_isa.specs.Values.{b_value, plus, is_taken}
use Rattle.rv_isa.specs.Steps.{Registers, reg, State, Next, act, branch}
use Rattle.rv_isa.specs.Runs.{place, HasAt, Reaches, computes, after_one, all_compute, after_all}
use Rattle.rv_isa.proofs.RunLaws.{Reaches-none, Reaches-then, one_step, word_at, act_computes, blocks_keep}
use Rattle.frame_layout.specs.Macros.{t0, trap}
use Rattle.frame_layout.specs.Laws.{is_scratch, Does, TrapsAt}
use Rattle.frame_layout.proofs.Standing.{has_first}
use Rattle.frame_layout.proofs.Jumps.{taken_reaches, trap_traps, traps_after}
use Rattle.simulation.proofs.Integers.Runs.{Gives}

-- so many words further, with these registers
abbrev pub ahead : State → Registers → (words : ℕ) → State
ahead s registers words = record s { registers = registers; pc = s.pc + 4 * words }

pub record Walks (code : List (Option Op)) (steps words : ℕ) (s : State) (registers : Registers) : Type 0 where
  pub reaches : Reaches code steps s (ahead s registers words)

-- words further on
has_part : (code : List (Option Op)) (k i : ℕ) (ops : List Op) → HasAt code i ops → HasAt code (i + k) (drop k ops)
has_part code zero i ops has = let here : i ≡ i + 0 = omega arith in subst (λ (p : ℕ). HasAt code p ops) here has
has_part code (suc k) i [] has = tt
has_part code (suc k) i (op ∷ ops) has =
    let there : suc i + k ≡ i + suc k = omega arith in subst (λ (p : ℕ). HasAt code p (drop k ops)) there (has_part code k (suc i) ops has.1)

pub starts : (code : List (Option Op)) (s : State) → Walks code 0 0 s s.registers
starts code s =
    let still : s.pc ≡ s.pc + 4 * 0 = omega arith in
    record { reaches = subst (λ (p : ℕ). Reaches code 0 s (record s { pc = p })) still (Reaches-none code s) }

module _ (code : List (Option Op)) (body : List Op) (s : State) (i : ℕ) (has : HasAt code i body) (at : s.pc ≡ place i) (steps words : ℕ) (registers : Registers) (before : Walks code steps words s registers) where
  -- the next word
  abbrev here : State
  here = ahead s registers words

  here_at : here.pc ≡ place (i + words)
  here_at = omega arith

  next_pc : here.pc + 4 ≡ s.pc + 4 * (words + 1)
  next_pc = omega arith

  pub computes_on : (op : Op) → slice_get body words ≡ Some op → computes is_scratch op ≡ true → Walks code (steps + 1) (words + 1) s (after_one op registers)
  computes_on op is alone =
      let row = act_computes is_scratch op here alone ∙ ap (λ (q : ℕ). Next (record s { registers = after_one op registers; pc = q })) next_pc in
      record { reaches = Reaches-then before.reaches (one_step code here (ahead s (after_one op registers) (words + 1)) (i + words) op here_at (word_at code body i words op has is) row) }

  pub passes : (op : BranchOp) (left right field : ℕ) → slice_get body words ≡ Some (Branch op left right field) → is_taken op (reg registers left) (reg registers right) ≡ false → Walks code (steps + 1) (words + 1) s registers
  passes op left right field is not_taken =
      let row : act (Branch op left right field) here ≡ Next (ahead s registers (words + 1)) =
      ap (λ t. branch here t (plus here.pc (b_value field))) not_taken ∙ ap (λ (q : ℕ). Next (record s { registers = registers; pc = q })) next_pc in
      record { reaches = Reaches-then before.reaches (one_step code here (ahead s registers (words + 1)) (i + words) (Branch op left right field) here_at (word_at code body i words (Branch op left right field) has is) row) }

  pub branches : (op : BranchOp) (left right field there : ℕ) → slice_get body words ≡ Some (Branch op left right field) → is_taken op (reg registers left) (reg registers right) ≡ true → plus (s.pc + 4 * words) (b_value field) ≡ s.pc + 4 * there → Walks code (steps + 1) there s registers
  branches op left right field there is taken distance =
      let aligned : (s.pc + 4 * there) % 4 ≡ 0 = omega arith in
      record { reaches = Reaches-then before.reaches (taken_reaches code here (i + words) here_at op left right field (s.pc + 4 * there) (word_at code body i words (Branch op left right field) has is, tt) taken distance aligned) }

  pub walk_traps : (kind : ℕ) (rest : List Op) → drop words body ≡ trap kind ++ rest → kind < 2 ^ 11 → ((r : ℕ) → is_scratch r ≡ false → reg registers r ≡ reg s.registers r) → TrapsAt code (steps + 3) (words + 3) kind s
  walk_traps kind rest is small kept =
      let stands = has_first code (i + words) (trap kind) rest (subst (HasAt code (i + words)) is (has_part code words i body has)) in
      let does : Does code steps words s s.bytes = record { end = here; reaches = before.reaches; pc_is = refl; bytes_are = refl; others = kept } in
      traps_after does (trap_traps code here (i + words) kind stands here_at small)

-- the registers are those after operations that only compute
pub walk_gives : (code : List (Option Op)) (s : State) (steps words v : ℕ) (ops : List Op) → Walks code steps words s (after_all ops s.registers) → all_compute is_scratch ops ≡ true → reg (after_all ops s.registers) t0 ≡ v → Gives code steps words s v
walk_gives code s steps words v ops walk alone is =
    record {
      does = record {
        end = ahead s (after_all ops s.registers) words;
        reaches = walk.reaches;
        pc_is = refl;
        bytes_are = refl;
        others = λ q kept. blocks_keep is_scratch ops s.registers q alone kept;
      };
      value = is;
    }
