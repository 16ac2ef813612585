-- The fields of the operations that write many bytes fit their words.
use Rattle.std.proofs.Common.{ℕ, ◌+◌, ◌-◌, ◌*◌, ◌^◌, ◌<◌, [], ◌∷◌, ◌++◌, arith}
use Rattle.rv_isa.specs.declared.operations.BranchOp.TheVariants.{Bgeu}
use Rattle.rv_isa.specs.declared.operations.RegOp.TheVariants.{Add}
use Rattle.rv_isa.specs.declared.operations.Op.TheVariants.{Branch, Reg}
use Rattle.rv_isa.specs.Words.{IsInRange}
use Rattle.rv_isa.specs.Runs.{AllInRange, load_behind}
use Rattle.wasm_defs.specs.declared.token.BulkOp.{BulkOp}
use Rattle.wasm_defs.specs.declared.token.BulkOp.TheVariants.{Fill, Copy, Init}
use Rattle.frame_layout.specs.declared.layout.Layout.{Layout}
use Rattle.frame_layout.specs.Slots.{operand}
use Rattle.frame_layout.specs.Macros.{t0, t1, t2, t3, s1, s3, a0, forward, load_slot, trap, zero_extend}
use Rattle.frame_layout.specs.BulkWords.{bound, fill_loop, up_loop, down_loop, copy_places, copy_up, copy_down, init_test, init_places, load_number, load_three, fill_front, fill_places, fill_words, copy_words, init_words, bulk_words, drop_words}
use Rattle.simulation.proofs.MacroRanges.{both_in_range, load_in_range, behind_in_range, trap_in_range}

trapping : AllInRange (trap 4)
trapping = trap_in_range 4 (omega arith)

bound_in_range : (a b r : ℕ) → a < 2 ^ 5 → b < 2 ^ 5 → r < 2 ^ 5 → AllInRange (bound a b r)
unfolding IsInRange
bound_in_range a b r small_a small_b small_r = ((small_r, small_a, small_b), ((omega arith, small_r, omega arith), trapping))

pub drop_in_range : (g : ℕ) → AllInRange (drop_words g)
unfolding IsInRange
drop_in_range g = ((omega arith, omega arith), ((omega arith, omega arith, omega arith), ((omega arith, omega arith, omega arith), tt)))

fill_loop_in_range : AllInRange fill_loop
unfolding IsInRange
fill_loop_in_range = ((omega arith, omega arith, omega arith), ((omega arith, omega arith, omega arith), ((omega arith, omega arith, omega arith), ((omega arith, omega arith), tt))))

up_loop_in_range : (exit : ℕ) → forward exit < 2 ^ 12 → AllInRange (up_loop exit)
unfolding IsInRange
up_loop_in_range exit small = (
  (omega arith, omega arith, small),
  ((omega arith, omega arith, omega arith), ((omega arith, omega arith, omega arith), ((omega arith, omega arith, omega arith), ((omega arith, omega arith, omega arith), ((omega arith, omega arith), tt))))),
)

down_loop_in_range : AllInRange down_loop
unfolding IsInRange
down_loop_in_range = (
  (omega arith, omega arith, omega arith),
  ((omega arith, omega arith, omega arith), ((omega arith, omega arith, omega arith), ((omega arith, omega arith, omega arith), ((omega arith, omega arith, omega arith), ((omega arith, omega arith, omega arith), ((omega arith, omega arith), tt)))))),
)

one_sum : (a b r : ℕ) → a < 2 ^ 5 → b < 2 ^ 5 → r < 2 ^ 5 → AllInRange (Reg Add r a b ∷ [])
unfolding IsInRange
one_sum a b r small_a small_b small_r = ((small_r, small_a, small_b), tt)

copy_places_in_range : AllInRange copy_places
unfolding IsInRange
copy_places_in_range = ((omega arith, omega arith, omega arith), ((omega arith, omega arith, omega arith), ((omega arith, omega arith, omega arith), tt)))

two_sums : AllInRange (Reg Add t0 t0 t2 ∷ Reg Add t1 t1 t2 ∷ [])
unfolding IsInRange
two_sums = ((omega arith, omega arith, omega arith), ((omega arith, omega arith, omega arith), tt))

init_sums : AllInRange (Reg Add t1 t1 a0 ∷ Reg Add t2 t2 t0 ∷ [])
unfolding IsInRange
init_sums = ((omega arith, omega arith, omega arith), ((omega arith, omega arith, omega arith), tt))

fill_sums : AllInRange (Reg Add t0 t0 s1 ∷ Reg Add t2 t2 s1 ∷ [])
unfolding IsInRange
fill_sums = ((omega arith, omega arith, omega arith), ((omega arith, omega arith, omega arith), tt))

init_bound : AllInRange (Reg Add a0 t1 t2 ∷ Branch Bgeu t3 a0 (forward 16) ∷ trap 4)
unfolding IsInRange
init_bound = ((omega arith, omega arith, omega arith), ((omega arith, omega arith, omega arith), trapping))

extended : (r : ℕ) → r < 2 ^ 5 → AllInRange (zero_extend r)
unfolding IsInRange
extended r small = ((small, small, omega arith), ((small, small, omega arith), tt))

module _ (l : Layout) where
  number_in_range : (r j : ℕ) → r < 2 ^ 5 → AllInRange (load_number l r j)
  number_in_range r j small = both_in_range (load_slot r (operand l j)) (zero_extend r) (load_in_range r (operand l j) small) (extended r small)

  three_in_range : (h : ℕ) → AllInRange (load_three l h)
  three_in_range h =
      both_in_range (load_number l t0 (h - 3)) (load_number l t1 (h - 2) ++ load_number l t2 (h - 1)) (number_in_range t0 (h - 3) (omega arith)) (
      both_in_range (load_number l t1 (h - 2)) (load_number l t2 (h - 1)) (number_in_range t1 (h - 2) (omega arith)) (number_in_range t2 (h - 1) (omega arith)))

  fill_in_range : (h : ℕ) → AllInRange (fill_words l h)
  fill_in_range h =
      both_in_range (fill_front l h) (bound t0 t1 t2 ++ (fill_places l h ++ fill_loop)) (both_in_range (load_number l t0 (h - 3)) (load_number l t1 (h - 1)) (number_in_range t0 (h - 3) (omega arith)) (number_in_range t1 (h - 1) (omega arith))) (
      both_in_range (bound t0 t1 t2) (fill_places l h ++ fill_loop) (bound_in_range t0 t1 t2 (omega arith) (omega arith) (omega arith)) (
      both_in_range (fill_places l h) fill_loop (both_in_range (Reg Add t0 t0 s1 ∷ Reg Add t2 t2 s1 ∷ []) (load_slot t1 (operand l (h - 2))) fill_sums (load_in_range t1 (operand l (h - 2)) (omega arith))) fill_loop_in_range))

  copy_in_range : (h : ℕ) → AllInRange (copy_words l h)
  copy_in_range h =
      both_in_range (load_three l h) (bound t0 t2 t3 ++ (bound t1 t2 t3 ++ (copy_places ++ (copy_up ++ copy_down)))) (three_in_range h) (
      both_in_range (bound t0 t2 t3) (bound t1 t2 t3 ++ (copy_places ++ (copy_up ++ copy_down))) (bound_in_range t0 t2 t3 (omega arith) (omega arith) (omega arith)) (
      both_in_range (bound t1 t2 t3) (copy_places ++ (copy_up ++ copy_down)) (bound_in_range t1 t2 t3 (omega arith) (omega arith) (omega arith)) (
      both_in_range copy_places (copy_up ++ copy_down) copy_places_in_range (
      both_in_range copy_up copy_down (both_in_range (Reg Add t2 t2 t0 ∷ []) (up_loop 60) (one_sum t2 t0 t2 (omega arith) (omega arith) (omega arith)) (up_loop_in_range 60 (omega arith)))
      (both_in_range (Reg Add t0 t0 t2 ∷ Reg Add t1 t1 t2 ∷ []) down_loop two_sums down_loop_in_range)))))

  init_in_range : (h g : ℕ) → AllInRange (init_words l h g)
  init_in_range h g =
      both_in_range (load_three l h) (init_test g ++ (bound t0 t2 a0 ++ (init_places g ++ up_loop 24))) (three_in_range h) (
      both_in_range (init_test g) (bound t0 t2 a0 ++ (init_places g ++ up_loop 24)) (both_in_range (load_behind t3 s3 g) (Reg Add a0 t1 t2 ∷ Branch Bgeu t3 a0 (forward 16) ∷ trap 4) (behind_in_range t3 s3 g (omega arith) (omega arith)) init_bound) (
      both_in_range (bound t0 t2 a0) (init_places g ++ up_loop 24) (bound_in_range t0 t2 a0 (omega arith) (omega arith) (omega arith)) (
      both_in_range (init_places g) (up_loop 24) (both_in_range (Reg Add t0 t0 s1 ∷ []) (load_behind a0 s3 (g + 8) ++ (Reg Add t1 t1 a0 ∷ Reg Add t2 t2 t0 ∷ [])) (one_sum t0 s1 t0 (omega arith) (omega arith) (omega arith))
      (both_in_range (load_behind a0 s3 (g + 8)) (Reg Add t1 t1 a0 ∷ Reg Add t2 t2 t0 ∷ []) (behind_in_range a0 s3 (g + 8) (omega arith) (omega arith)) init_sums)) (up_loop_in_range 24 (omega arith)))))

  pub bulk_in_range : (globals h : ℕ) (op : BulkOp) → AllInRange (bulk_words l globals h op)
  bulk_in_range globals h Fill = fill_in_range h
  bulk_in_range globals h Copy = copy_in_range h
  bulk_in_range globals h (Init x) = init_in_range h (8 * (globals + 2 * x))
