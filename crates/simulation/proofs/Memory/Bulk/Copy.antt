-- What the words of `memory.copy` do.
use Rattle.std.proofs.Common.{◌≡◌, ℕ, suc, ◌+◌, ◌*◌, ◌^◌, ◌<◌, ◌≤◌, true, false, List, [], ◌∷◌, ◌++◌, take, drop, length, Option, None, inl, inr, refl, sym, ap, subst, ◌∙◌, arith, length-take, length-drop}
use Rattle.std.proofs.lemmas.Bool.{cases_lt, lt-ltb, le-ltb}
use Rattle.std.proofs.lemmas.List.{length-take-le}
use Rattle.std.proofs.lemmas.Option.{slice_get_within}
use Rattle.rv_isa.specs.declared.operations.BranchOp.TheVariants.{Beq, Bltu}
use Rattle.rv_isa.specs.declared.operations.LoadOp.TheVariants.{Lbu}
use Rattle.rv_isa.specs.declared.operations.StoreOp.TheVariants.{Sb}
use Rattle.rv_isa.specs.declared.operations.ImmOp.TheVariants.{Addi}
use Rattle.rv_isa.specs.declared.operations.RegOp.TheVariants.{Add}
use Rattle.rv_isa.specs.declared.operations.Op.{Op}
use Rattle.rv_isa.specs.declared.operations.Op.TheVariants.{Jal, Branch, Load, Store, Imm, Reg}
use Rattle.rv_isa.specs.declared.stepping.Region.TheVariants.{Memory}
use Rattle.rv_isa.specs.Values.{plus, is_taken}
use Rattle.rv_isa.specs.Steps.{reg, Bytes, State, put}
use Rattle.rv_isa.specs.Runs.{place, HasAt, AreBytes}
use Rattle.wasm_defs.specs.Memory.{page, copied_at}
use Rattle.frame_layout.specs.Macros.{x0, t0, t1, t2, t3, s1, forward, minus_one}
use Rattle.frame_layout.specs.Templates.{EmitContext}
use Rattle.frame_layout.specs.Laws.{IsFrame, Does, TrapsAt}
use Rattle.frame_layout.proofs.Standing.{has_first}
use Rattle.frame_layout.proofs.Steps.{does_then, does_with, frame_stays}
use Rattle.simulation.specs.Regions.{memory_now, HasRegions}
use Rattle.simulation.proofs.Memory.Tests.{passes, turns}
use Rattle.simulation.proofs.Memory.Parts.{part_is}
use Rattle.simulation.proofs.Memory.Written.{over_part}
use Rattle.frame_layout.specs.BulkWords.{jump_back, bound, up_loop, load_three, copy_places, copy_up, copy_down, copy_words}
use Rattle.simulation.specs.BulkLaws.{Writes, Copied, CopyLaw}
use Rattle.simulation.proofs.Memory.Bulk.Choosing.{by_bounds}
use Rattle.simulation.proofs.Memory.Bulk.Loops.{address, moved_up, moved_down, up_does, down_does}
use Rattle.simulation.proofs.Memory.Bulk.Moved.{with_bytes, moved_up_is, moved_down_is}
use Rattle.simulation.proofs.Memory.Bulk.Operands.{place_behind, has_from, three_load, fits_in, lies_outside}
use Rattle.simulation.proofs.Memory.Bulk.Parts.{part_is_put}
use Rattle.simulation.proofs.Memory.Bulk.Three.{Three, sum_into, sets_t0, sets_t1, sets_t2, goes}

-- ---- within the bounds

module _ (code : List (Option Op)) (s : State) (i base d from n pages : ℕ) (has : HasAt code (i + 25) (copy_places ++ (copy_up ++ copy_down))) (at : s.pc ≡ place i) (frame : IsFrame base s) (regions : HasRegions pages s) (sound : AreBytes s.bytes.memory)
    (short : length code ≤ 2 ^ 26) (inside : d + n ≤ page * pages) (within : from + n ≤ page * pages) (given : Three code 19 25 s d from n) where
  abbrev Goal : Type 0
  Goal = Writes code (25 + 7 * n) 44 s (over_part d (page * pages) (take n (drop from s.bytes.memory)) s.bytes.memory)

  near : i + 43 < 2 ^ 26
  near = let last = slice_get_within code (i + 43) _ (has_from code (i + 25) (i + 43) (copy_places ++ (copy_up ++ (Reg Add t0 t0 t2 ∷ Reg Add t1 t1 t2 ∷ Branch Beq t2 x0 (forward 28) ∷ Imm Addi t0 t0 minus_one ∷ Imm Addi t1 t1 minus_one ∷ Load Lbu t3 t1 0 ∷ Store Sb t0 t3 0 ∷ Imm Addi t2 t2 minus_one ∷ []))) (Jal x0 (jump_back 24) ∷ []) (omega arith) has).0 in omega arith

  small : page * pages ≤ 2 ^ 28
  small = let fit = frame.windows Memory in let whole = regions.whole in omega arith

  placed : Three code 21 27 s (address d) (address from) n
  placed =
      let pc : given.does.end.pc ≡ place (i + 25) = place_behind i (i + 25) at refl given.does in
      let d_is = given.t0_is in
      let base_a = given.does.others s1 refl ∙ regions.memory in
      let low = small in
      let to : plus (reg given.does.end.registers t0) (reg given.does.end.registers s1) ≡ address d = omega arith in
      let a = sets_t0 given (sum_into code given.does.end (i + 25) 4 t0 s1 (address d) (has.0, tt) pc to) in
      more a
    where
      more : Three code 20 26 s (address d) from n → Three code 21 27 s (address d) (address from) n
      more a =
          let from_is = a.t1_is in
          let base_b = a.does.others s1 refl ∙ regions.memory in
          let low = small in
          let source : plus (reg a.does.end.registers t1) (reg a.does.end.registers s1) ≡ address from = omega arith in
          sets_t1 a (sum_into code a.does.end (suc (i + 25)) 5 t1 s1 (address from) (has.1.0, tt) (place_behind i (suc (i + 25)) at (omega arith) a.does) source)

  same_size : (l : List ℕ) → length l ≡ length s.bytes.memory → from + n ≤ length l
  same_size l e = let whole = regions.whole in omega arith

  count : length (take n (drop from s.bytes.memory)) ≡ n
  count = let whole = regions.whole in omega (arith, length-take n (drop from s.bytes.memory), length-drop from s.bytes.memory)

  -- the machine's bytes are the language's
  abbrev moved : Bytes
  moved = with_bytes s.bytes (put n d s.bytes.memory (take n (drop from s.bytes.memory)))

  done : (k : ℕ) → 0 < k → k ≤ 25 + 7 * n → Does code k 44 s moved → Goal
  done k some le does =
      let whole = regions.whole in
      record { steps = k; some = some; within = le; does = does_with (part_is_put s.bytes n d (page * pages) (take n (drop from s.bytes.memory)) count (omega (arith, count)) whole) does }

  has_up : HasAt code (i + 28) (copy_up ++ copy_down)
  has_up = has_from code (i + 25) (i + 28) copy_places (copy_up ++ copy_down) (omega arith) has

  has_down : HasAt code (i + 35) copy_down
  has_down = has_from code (i + 28) (i + 35) copy_up copy_down (omega arith) has_up

  goes_up : d ≤ from → Three code 22 28 s (address d) (address from) n → Goal
  goes_up less a =
      let d_is = a.t0_is in
      let n_is = a.t2_is in
      let low = small in
      let end : plus (reg a.does.end.registers t2) (reg a.does.end.registers t0) ≡ address (d + n) = omega arith in
      let b = sets_t2 a (sum_into code a.does.end (i + 28) 6 t2 t0 (address (d + n)) (has_up.0, tt) (place_behind i (i + 28) at refl a.does) end) in
      runs b
    where
      runs : Three code 23 29 s (address d) (address from) (address (d + n)) → Goal
      runs b =
          let whole = regions.whole in
          let same = b.does.bytes_are in
          let size = ap (λ (x : Bytes). length x.memory) same in
          let has_loop = has_first code (suc (i + 28)) (up_loop 60) copy_down has_up.1 in
          let loop = up_does code (suc (i + 28)) 60 15 refl Memory has_loop (omega (arith, near)) (omega arith) n b.does.end d from (place_behind i (suc (i + 28)) at (omega arith) b.does) b.t0_is b.t1_is b.t2_is (omega (arith, size)) (same_size b.does.end.bytes.memory size) (frame_stays frame b.does).windows in
          let bytes_are = ap (moved_up Memory n d from) same ∙ moved_up_is n d from s.bytes less (omega arith) (omega arith) sound in
          done (23 + (6 * n + 1)) (omega arith) (omega arith) (does_then b.does (does_with bytes_are loop))

  goes_down : from ≤ d → Three code 22 35 s (address d) (address from) n → Goal
  goes_down above a =
      let d_is = a.t0_is in
      let n_is = a.t2_is in
      let low = small in
      let end : plus (reg a.does.end.registers t0) (reg a.does.end.registers t2) ≡ address (d + n) = omega arith in
      let b = sets_t0 a (sum_into code a.does.end (i + 35) 4 t0 t2 (address (d + n)) (has_down.0, tt) (place_behind i (i + 35) at refl a.does) end) in
      second b
    where
      runs : Three code 24 37 s (address (d + n)) (address (from + n)) n → Goal
      runs b =
          let whole = regions.whole in
          let same = b.does.bytes_are in
          let size = ap (λ (x : Bytes). length x.memory) same in
          let loop = down_does code (suc (suc (i + 35))) has_down.1.1 (omega (arith, near)) n b.does.end d from (place_behind i (suc (suc (i + 35))) at (omega arith) b.does) b.t0_is b.t1_is b.t2_is (omega (arith, size)) (same_size b.does.end.bytes.memory size) (frame_stays frame b.does).windows in
          let bytes_are = ap (moved_down n d from) same ∙ moved_down_is n d from s.bytes above (omega arith) sound in
          done (24 + (7 * n + 1)) (omega arith) (omega arith) (does_then b.does (does_with bytes_are loop))

      second : Three code 23 36 s (address (d + n)) (address from) n → Goal
      second a =
          let from_is = a.t1_is in
          let n_is = a.t2_is in
          let low = small in
          let end : plus (reg a.does.end.registers t1) (reg a.does.end.registers t2) ≡ address (from + n) = omega arith in
          runs (sets_t1 a (sum_into code a.does.end (suc (i + 35)) 5 t1 t2 (address (from + n)) (has_down.1.0, tt) (place_behind i (suc (i + 35)) at (omega arith) a.does) end))

  lower : from < d → is_taken Bltu (reg placed.does.end.registers t1) (reg placed.does.end.registers t0) ≡ true
  unfolding is_taken
  lower above = let d_is = placed.t0_is in let from_is = placed.t1_is in lt-ltb (reg placed.does.end.registers t1) (reg placed.does.end.registers t0) (omega arith)

  not_lower : d ≤ from → is_taken Bltu (reg placed.does.end.registers t1) (reg placed.does.end.registers t0) ≡ false
  unfolding is_taken
  not_lower below = let d_is = placed.t0_is in let from_is = placed.t1_is in le-ltb (reg placed.does.end.registers t1) (reg placed.does.end.registers t0) (omega arith)

  pub moves : Goal
  moves =
      let a = placed in
      let d_is = a.t0_is in
      let from_is = a.t1_is in
      elim (cases_lt from d) [
        | inl above ↦ goes_down (omega arith) (goes a 8 (turns code a.does.end (suc (suc (i + 25))) (place_behind i (suc (suc (i + 25))) at (omega arith) a.does) Bltu t1 t0 (forward 32) (has.1.1.0, tt) 8 (lower above) (omega (arith, near, a.does.pc_is, at))))
        | inr below ↦ goes_up below (goes a 1 (passes code a.does.end (suc (suc (i + 25))) (place_behind i (suc (suc (i + 25))) at (omega arith) a.does) Bltu t1 t0 (forward 32) (has.1.1.0, tt) (not_lower below)))
      ]

-- ---- the whole

module _ (w : EmitContext) (code : List (Option Op)) (s : State) (i base h d from n pages : ℕ) (has : HasAt code i (copy_words w.layout h)) (at : s.pc ≡ place i) (frame : IsFrame base s) (regions : HasRegions pages s) (sound : AreBytes s.bytes.memory) (short : length code ≤ 2 ^ 26)
    (small_d : d < 2 ^ 32) (small_from : from < 2 ^ 32) (small_n : n < 2 ^ 32) (given : Three code 15 15 s d from n) where
  abbrev last : List Op
  last = copy_places ++ (copy_up ++ copy_down)

  has_first_bound : HasAt code (i + 15) (bound t0 t2 t3)
  has_first_bound = has_first code (i + 15) (bound t0 t2 t3) (bound t1 t2 t3 ++ last) (has_from code i (i + 15) (load_three w.layout h) (bound t0 t2 t3 ++ (bound t1 t2 t3 ++ last)) refl has)

  has_second_bound : HasAt code (i + 20) (bound t1 t2 t3)
  has_second_bound = has_first code (i + 20) (bound t1 t2 t3) last (has_from code i (i + 20) (load_three w.layout h ++ bound t0 t2 t3) (bound t1 t2 t3 ++ last) refl has)

  has_last : HasAt code (i + 25) (copy_places ++ (copy_up ++ copy_down))
  has_last = has_from code i (i + 25) (load_three w.layout h ++ (bound t0 t2 t3 ++ bound t1 t2 t3)) last refl has

  near_whole : i + 25 < 2 ^ 26
  near_whole = let within = slice_get_within code (i + 25) _ has_last.0 in omega arith

  pc_first : given.does.end.pc ≡ place (i + 15)
  pc_first = place_behind i (i + 15) at refl given.does

  first_traps : page * pages < d + n → TrapsAt code 20 20 4 s
  first_traps large = lies_outside given (i + 15) (page * pages) t0 27 d refl (λ e. absurd cc) (λ e. absurd cc) (λ e. absurd cc) pc_first (omega (arith, near_whole)) regions.size has_first_bound given.t0_is small_d small_n large

  first_fits : d + n ≤ page * pages → Three code 17 20 s d from n
  first_fits fits = fits_in given (i + 15) (page * pages) t0 27 d refl (λ e. absurd cc) (λ e. absurd cc) (λ e. absurd cc) pc_first (omega (arith, near_whole)) regions.size has_first_bound given.t0_is small_d small_n fits

  module _ (a : Three code 17 20 s d from n) where
    pc_second : a.does.end.pc ≡ place (i + 20)
    pc_second = place_behind i (i + 20) at refl a.does

    second_traps : page * pages < from + n → TrapsAt code 22 25 4 s
    second_traps large = lies_outside a (i + 20) (page * pages) t1 27 from refl (λ e. absurd cc) (λ e. absurd cc) (λ e. absurd cc) pc_second (omega (arith, near_whole)) regions.size has_second_bound a.t1_is small_from small_n large

    second_fits : from + n ≤ page * pages → Three code 19 25 s d from n
    second_fits fits = fits_in a (i + 20) (page * pages) t1 27 from refl (λ e. absurd cc) (λ e. absurd cc) (λ e. absurd cc) pc_second (omega (arith, near_whole)) regions.size has_second_bound a.t1_is small_from small_n fits

  by_first : page * pages < d + n → Copied code n s None
  by_first far = record { steps = 20; words = 20; within = omega arith; among = inl refl; traps = first_traps far }

  no_source : page * pages < from + n → Copied code n s None
  no_source large =
      elim (cases_lt (page * pages) (d + n)) [
        | inl far ↦ by_first far
        | inr fits ↦ record { steps = 22; words = 25; within = omega arith; among = inr refl; traps = second_traps (first_fits fits) large }
      ]

  copies : Copied code n s (copied_at (memory_now pages s.bytes) (memory_now pages s.bytes) d from n)
  copies =
      let size = length-take-le (page * pages) s.bytes.memory regions.whole in
      by_bounds (memory_now pages s.bytes) (memory_now pages s.bytes) d from n (page * pages) (page * pages) size size (Copied code n s) no_source (λ within far. by_first far) (λ within fits.
      subst (λ (l : List ℕ). Writes code (25 + 7 * n) 44 s (over_part d (page * pages) l s.bytes.memory)) (sym (part_is from n (page * pages) s.bytes.memory within))
      (moves code s i base d from n pages has_last at frame regions sound short fits within (second_fits (first_fits fits) within)))

pub copy_law_does : CopyLaw
copy_law_does w code s i base h d from n pages has at frame regions sound high inside d_is from_is n_is small_d small_from small_n short =
    let three = three_load w code s i base h d from n (has_first code i (load_three w.layout h) (bound t0 t2 t3 ++ (bound t1 t2 t3 ++ (copy_places ++ (copy_up ++ copy_down)))) has) at frame high inside d_is from_is n_is small_d small_from small_n in
    copies w code s i base h d from n pages has at frame regions sound short small_d small_from small_n three
