-- What the words of `memory.init` and `data.drop` do.
use Rattle.std.proofs.Common.{◌≡◌, ℕ, suc, ◌+◌, ◌*◌, ◌^◌, ◌<◌, ◌≤◌, List, [], ◌∷◌, ◌++◌, take, drop, length, Option, inl, inr, refl, sym, ap, subst, ◌∙◌, arith, length-take, length-drop}
use Rattle.std.specs.Prelude.{◌≢◌}
use Rattle.std.proofs.lemmas.List.{drop-drop, length-take-le}
use Rattle.std.proofs.lemmas.Option.{slice_get_within}
use Rattle.rv_isa.specs.declared.operations.BranchOp.TheVariants.{Bgeu}
use Rattle.rv_isa.specs.declared.operations.RegOp.TheVariants.{Add}
use Rattle.rv_isa.specs.declared.operations.Op.{Op}
use Rattle.rv_isa.specs.declared.operations.Op.TheVariants.{Branch, Reg}
use Rattle.rv_isa.specs.declared.stepping.Region.TheVariants.{Globals, Memory, Passive}
use Rattle.rv_isa.specs.Values.{plus}
use Rattle.rv_isa.specs.Steps.{reg, Bytes, State, put, region_base}
use Rattle.rv_isa.specs.Runs.{place, HasAt, AreBytes, FitWindows, LiesIn, Leaves, load_behind}
use Rattle.rv_isa.proofs.OffsetLaws.{loads_behind, stores_behind}
use Rattle.wasm_defs.specs.Memory.{page, copied_at}
use Rattle.frame_layout.specs.Macros.{x0, t0, t1, t2, t3, s1, s3, a0, forward, trap}
use Rattle.frame_layout.specs.Templates.{EmitContext}
use Rattle.frame_layout.specs.Laws.{IsFrame, TrapsAt}
use Rattle.frame_layout.proofs.Standing.{has_first}
use Rattle.frame_layout.proofs.Steps.{does_leave, does_then, does_with, frame_stays}
use Rattle.frame_layout.proofs.Jumps.{traps_after}
use Rattle.simulation.specs.Regions.{global_at, memory_now, HasRegions, SegmentStands}
use Rattle.simulation.proofs.Memory.Parts.{part_is}
use Rattle.simulation.proofs.Memory.Written.{over_part}
use Rattle.frame_layout.specs.BulkWords.{bound, up_loop, load_three, init_test, init_places, init_words}
use Rattle.simulation.specs.BulkLaws.{Writes, Inited, InitLaw, DropLaw}
use Rattle.simulation.proofs.Memory.Bulk.Choosing.{by_bounds}
use Rattle.simulation.proofs.Memory.Bulk.Loops.{address, moved_up, up_does}
use Rattle.simulation.proofs.Memory.Bulk.Moved.{with_bytes, moved_from}
use Rattle.simulation.proofs.Memory.Bulk.Operands.{place_behind, has_from, three_load, fits_in, lies_outside}
use Rattle.simulation.proofs.Memory.Bulk.Parts.{part_is_put}
use Rattle.simulation.proofs.Memory.Bulk.Three.{Three, leaves_as, sum_into, sets_t0, sets_t1, sets_t2, sets_other, goes, test_turns, test_traps}

-- ---- a word after the globals

word_lies : (s : State) (y : ℕ) → reg s.registers s3 ≡ region_base Globals → 8 * (y + 1) ≤ length s.bytes.globals → FitWindows s.bytes → LiesIn s.bytes Globals (8 * y) 8 (plus (reg s.registers s3) (8 * y))
word_lies s y first inside fit =
    let small = fit Globals in
    record { address_is = omega arith; inside = omega arith }

-- it comes into a register
word_into : (code : List (Option Op)) (s e : State) (i r y v offset : ℕ) → offset ≡ 8 * y → HasAt code i (load_behind (suc r) s3 offset) → e.pc ≡ place i → s3 ≢ suc r → reg e.registers s3 ≡ region_base Globals → e.bytes ≡ s.bytes → 8 * (y + 1) ≤ length s.bytes.globals
    → FitWindows s.bytes → global_at s.bytes y ≡ v → Leaves code 3 e e.bytes (suc r) v
word_into code s e i r y v offset offset_is has at apart first same inside fit is =
    let inside' : 8 * (y + 1) ≤ length e.bytes.globals = omega (arith, ap (λ (b : Bytes). length b.globals) same) in
    let fit' = subst FitWindows (sym same) fit in
    let small = fit Globals in
    let has' = subst (λ (o : ℕ). HasAt code i (load_behind (suc r) s3 o)) offset_is has in
    leaves_as v (ap (λ (b : Bytes). global_at b y) same ∙ is) (loads_behind code e i (suc r) s3 (8 * y) Globals (8 * y) has' at (λ e. absurd cc) apart (omega arith) (word_lies e y first inside' fit') fit')

-- ---- within the bounds

module _ (code : List (Option Op)) (s : State) (i base d from n pages x : ℕ) (bytes : List ℕ) (has : HasAt code (i + 28) (init_places (8 * x) ++ up_loop 24)) (at : s.pc ≡ place i) (frame : IsFrame base s) (regions : HasRegions pages s) (sound : AreBytes s.bytes.passive) (stands : SegmentStands s.bytes x bytes)
    (short : length code ≤ 2 ^ 26) (inside : d + n ≤ page * pages) (within : from + n ≤ length bytes) (given : Three code 22 28 s d from n) where
  abbrev Goal : Type 0
  Goal = Writes code (29 + 6 * n) 40 s (over_part d (page * pages) (take n (drop from bytes)) s.bytes.memory)

  abbrev origin : ℕ
  origin = stands.from + from

  has_loop : HasAt code (i + 34) (up_loop 24)
  has_loop = has_from code (i + 28) (i + 34) (init_places (8 * x)) (up_loop 24) (omega arith) has

  near : i + 34 < 2 ^ 26
  near = let last = slice_get_within code (i + 34) _ has_loop.0 in omega arith

  small : page * pages ≤ 2 ^ 28
  small = let fit = frame.windows Memory in let whole = regions.whole in omega arith

  few : origin + n ≤ 2 ^ 28
  few = let fit = frame.windows Passive in let lies = stands.within in omega arith

  -- the first address in the memory
  first : Three code 23 29 s (address d) from n
  first =
      let d_is = given.t0_is in
      let base_a = given.does.others s1 refl ∙ regions.memory in
      let low = small in
      let to : plus (reg given.does.end.registers t0) (reg given.does.end.registers s1) ≡ address d = omega arith in
      sets_t0 given (sum_into code given.does.end (i + 28) 4 t0 s1 (address d) (has.0, tt) (place_behind i (i + 28) at refl given.does) to)

  -- and that of the segment's bytes
  module _ (a : Three code 23 29 s (address d) from n) where
    abbrev source : Leaves code 3 a.does.end a.does.end.bytes a0 (region_base Passive + stands.from)
    source =
        let has_word = has_first code (suc (i + 28)) (load_behind a0 s3 (8 * x + 8)) (Reg Add t1 t1 a0 ∷ Reg Add t2 t2 t0 ∷ []) (has_first code (suc (i + 28)) (load_behind a0 s3 (8 * x + 8) ++ (Reg Add t1 t1 a0 ∷ Reg Add t2 t2 t0 ∷ [])) (up_loop 24) has.1) in
        word_into code s a.does.end (suc (i + 28)) 9 (x + 1) (region_base Passive + stands.from) (8 * x + 8) (omega arith) has_word (place_behind i (suc (i + 28)) at (omega arith) a.does) (λ e. absurd cc) (a.does.others s3 refl ∙ regions.globals) a.does.bytes_are (omega (arith, stands.inside)) frame.windows stands.address_is

    second : Three code 26 32 s (address d) from n
    second = sets_other a a0 refl (λ e. absurd cc) (λ e. absurd cc) (λ e. absurd cc) source

    a0_is : reg second.does.end.registers a0 ≡ region_base Passive + stands.from
    unfolding second
    a0_is = source.value_is

    third : Three code 27 33 s (address d) (region_base Passive + origin) n
    third =
        let from_is = second.t1_is in
        let is = a0_is in
        let low = few in
        let sum : plus (reg second.does.end.registers t1) (reg second.does.end.registers a0) ≡ region_base Passive + origin = omega arith in
        sets_t1 second (sum_into code second.does.end (i + 32) 5 t1 a0 (region_base Passive + origin) (has_from code (i + 28) (i + 32) (Reg Add t0 t0 s1 ∷ load_behind a0 s3 (8 * x + 8)) (Reg Add t1 t1 a0 ∷ []) (omega arith) (front_four)) (place_behind i (i + 32) at refl second.does) sum)
      where
        front_four : HasAt code (i + 28) (Reg Add t0 t0 s1 ∷ load_behind a0 s3 (8 * x + 8) ++ (Reg Add t1 t1 a0 ∷ []))
        front_four = has_first code (i + 28) (Reg Add t0 t0 s1 ∷ load_behind a0 s3 (8 * x + 8) ++ (Reg Add t1 t1 a0 ∷ [])) (Reg Add t2 t2 t0 ∷ []) (has_first code (i + 28) (init_places (8 * x)) (up_loop 24) has)

  last : (b : Three code 27 33 s (address d) (region_base Passive + origin) n) → Three code 28 34 s (address d) (region_base Passive + origin) (address (d + n))
  last b =
      let d_is = b.t0_is in
      let n_is = b.t2_is in
      let low = small in
      let end : plus (reg b.does.end.registers t2) (reg b.does.end.registers t0) ≡ address (d + n) = omega arith in
      sets_t2 b (sum_into code b.does.end (i + 33) 6 t2 t0 (address (d + n)) (has_from code (i + 28) (i + 33) (Reg Add t0 t0 s1 ∷ load_behind a0 s3 (8 * x + 8) ++ (Reg Add t1 t1 a0 ∷ [])) (Reg Add t2 t2 t0 ∷ []) (omega arith) (has_first code (i + 28) (init_places (8 * x)) (up_loop 24) has)) (place_behind i (i + 33) at refl b.does) end)

  count : length (take n (drop from bytes)) ≡ n
  count = omega (arith, length-take n (drop from bytes), length-drop from bytes)

  -- the bytes there are the segment's
  same_bytes : take n (drop (stands.from + from) s.bytes.passive) ≡ take n (drop from bytes)
  same_bytes =
      ap (take n) (sym (drop-drop from stands.from s.bytes.passive))
      ∙ sym (part_is from n (length bytes) (drop stands.from s.bytes.passive) within)
      ∙ ap (λ (l : List ℕ). take n (drop from l)) stands.bytes_are

  in_passive : (l : List ℕ) → length l ≡ length s.bytes.passive → stands.from + from + n ≤ length l
  in_passive l e = let lies = stands.within in omega arith

  moves_last : Three code 28 34 s (address d) (region_base Passive + origin) (address (d + n)) → Goal
  moves_last b =
      let whole = regions.whole in
      let same = b.does.bytes_are in
      let size = ap (λ (y : Bytes). length y.memory) same in
      let size' = ap (λ (y : Bytes). length y.passive) same in
      let loop = up_does code (i + 34) 24 6 refl Passive has_loop near (omega arith) n b.does.end d origin (place_behind i (i + 34) at refl b.does) b.t0_is b.t1_is b.t2_is (omega (arith, size)) (in_passive b.does.end.bytes.passive size') (frame_stays frame b.does).windows in
      let bytes_are = ap (moved_up Passive n d origin) same ∙ moved_from Passive (λ b at value. refl) n d origin s.bytes (omega arith) (in_passive s.bytes.passive refl) sound
      ∙ ap (λ (l : List ℕ). with_bytes s.bytes (put n d s.bytes.memory l)) same_bytes
      ∙ part_is_put s.bytes n d (page * pages) (take n (drop from bytes)) count (omega (arith, count)) whole in
      record { steps = 28 + (6 * n + 1); some = omega arith; within = omega arith; does = does_then b.does (does_with bytes_are loop) }

  pub moves : Goal
  moves = moves_last (last (third first))

-- ---- the whole

module _ (w : EmitContext) (code : List (Option Op)) (s : State) (i base h d from n pages x : ℕ) (bytes : List ℕ) (has : HasAt code i (init_words w.layout h (8 * x))) (at : s.pc ≡ place i) (frame : IsFrame base s) (regions : HasRegions pages s) (sound : AreBytes s.bytes.passive) (stands : SegmentStands s.bytes x bytes)
    (short : length code ≤ 2 ^ 26) (small_d : d < 2 ^ 32) (small_from : from < 2 ^ 32) (small_n : n < 2 ^ 32) (given : Three code 15 15 s d from n) where
  abbrev rest : List Op
  rest = init_places (8 * x) ++ up_loop 24

  has_test : HasAt code (i + 15) (init_test (8 * x))
  has_test = has_first code (i + 15) (init_test (8 * x)) (bound t0 t2 a0 ++ rest) (has_from code i (i + 15) (load_three w.layout h) (init_test (8 * x) ++ (bound t0 t2 a0 ++ rest)) refl has)

  has_sum : HasAt code (i + 18) (Reg Add a0 t1 t2 ∷ Branch Bgeu t3 a0 (forward 16) ∷ trap 4)
  has_sum = has_from code (i + 15) (i + 18) (load_behind t3 s3 (8 * x)) (Reg Add a0 t1 t2 ∷ Branch Bgeu t3 a0 (forward 16) ∷ trap 4) (omega arith) has_test

  has_bound : HasAt code (i + 23) (bound t0 t2 a0)
  has_bound = has_first code (i + 23) (bound t0 t2 a0) rest (has_from code i (i + 23) (load_three w.layout h ++ init_test (8 * x)) (bound t0 t2 a0 ++ rest) refl has)

  has_rest' : HasAt code (i + 28) (init_places (8 * x) ++ up_loop 24)
  has_rest' = has_from code i (i + 28) (load_three w.layout h ++ (init_test (8 * x) ++ bound t0 t2 a0)) rest refl has

  near_whole : i + 28 < 2 ^ 26
  near_whole = let within = slice_get_within code (i + 28) _ has_rest'.0 in omega arith

  -- the segment's length
  abbrev length_in : Leaves code 3 given.does.end given.does.end.bytes t3 (length bytes)
  length_in =
      let has_word = has_first code (i + 15) (load_behind t3 s3 (8 * x)) (Reg Add a0 t1 t2 ∷ Branch Bgeu t3 a0 (forward 16) ∷ trap 4) has_test in
      word_into code s given.does.end (i + 15) 27 x (length bytes) (8 * x) refl has_word (place_behind i (i + 15) at refl given.does) (λ e. absurd cc) (given.does.others s3 refl ∙ regions.globals) given.does.bytes_are (omega (arith, stands.inside)) frame.windows stands.length_is

  measured : Three code 18 18 s d from n
  measured = sets_other given t3 refl (λ e. absurd cc) (λ e. absurd cc) (λ e. absurd cc) length_in

  t3_is : reg measured.does.end.registers t3 ≡ length bytes
  unfolding measured
  t3_is = length_in.value_is

  abbrev sum_in : Leaves code 1 measured.does.end measured.does.end.bytes a0 (from + n)
  sum_in =
      let from_is = measured.t1_is in
      let n_is = measured.t2_is in
      let sum : plus (reg measured.does.end.registers t1) (reg measured.does.end.registers t2) ≡ from + n = omega arith in
      sum_into code measured.does.end (i + 18) 9 t1 t2 (from + n) (has_sum.0, tt) (place_behind i (i + 18) at refl measured.does) sum

  summed : Three code 19 19 s d from n
  summed = sets_other measured a0 refl (λ e. absurd cc) (λ e. absurd cc) (λ e. absurd cc) sum_in

  summed_t3 : reg summed.does.end.registers t3 ≡ length bytes
  unfolding summed
  summed_t3 = sum_in.others t3 (λ e. absurd cc) ∙ t3_is

  summed_a0 : reg summed.does.end.registers a0 ≡ from + n
  unfolding summed
  summed_a0 = sum_in.value_is

  first_traps : length bytes < from + n → TrapsAt code 23 23 4 s
  first_traps large = traps_after summed.does (test_traps code summed.does.end (suc (i + 18)) t3 a0 (from + n) (length bytes) (place_behind i (suc (i + 18)) at (omega arith) summed.does) (omega (arith, near_whole)) has_sum.1 summed_t3 summed_a0 large)

  first_fits : from + n ≤ length bytes → Three code 20 23 s d from n
  first_fits fits = goes summed 4 (test_turns code summed.does.end (suc (i + 18)) t3 a0 (from + n) (length bytes) (place_behind i (suc (i + 18)) at (omega arith) summed.does) (omega (arith, near_whole)) has_sum.1 summed_t3 summed_a0 fits)

  module _ (a : Three code 20 23 s d from n) where
    second_traps : page * pages < d + n → TrapsAt code 25 28 4 s
    second_traps large = lies_outside a (i + 23) (page * pages) t0 9 d refl (λ e. absurd cc) (λ e. absurd cc) (λ e. absurd cc) (place_behind i (i + 23) at refl a.does) (omega (arith, near_whole)) regions.size has_bound a.t0_is small_d small_n large

    second_fits : d + n ≤ page * pages → Three code 22 28 s d from n
    second_fits fits = fits_in a (i + 23) (page * pages) t0 9 d refl (λ e. absurd cc) (λ e. absurd cc) (λ e. absurd cc) (place_behind i (i + 23) at refl a.does) (omega (arith, near_whole)) regions.size has_bound a.t0_is small_d small_n fits

  inits : Inited code n s (copied_at bytes (memory_now pages s.bytes) d from n)
  inits =
      by_bounds bytes (memory_now pages s.bytes) d from n (length bytes) (page * pages) refl (length-take-le (page * pages) s.bytes.memory regions.whole) (Inited code n s)
      (λ large. record { steps = 23; words = 23; within = omega arith; among = inl refl; traps = first_traps large })
      (λ within far. record { steps = 25; words = 28; within = omega arith; among = inr refl; traps = second_traps (first_fits within) far })
      (λ within fits. moves code s i base d from n pages x bytes has_rest' at frame regions sound stands short fits within (second_fits (first_fits within) fits))

pub init_law_does : InitLaw
init_law_does w code s i base h d from n pages x bytes has at frame regions sound stands high inside d_is from_is n_is small_d small_from small_n short =
    let three = three_load w code s i base h d from n (has_first code i (load_three w.layout h) (init_test (8 * x) ++ (bound t0 t2 a0 ++ (init_places (8 * x) ++ up_loop 24))) has) at frame high inside d_is from_is n_is small_d small_from small_n in
    inits w code s i base h d from n pages x bytes has at frame regions sound stands short small_d small_from small_n three

pub drop_law_does : DropLaw
drop_law_does code s i base x pages has at frame regions inside =
    let small = frame.windows Globals in
    does_leave refl (stores_behind code s i x0 t3 s3 (8 * x) Globals (8 * x) has at (λ e. absurd cc) (λ e. absurd cc) (λ e. absurd cc) (omega arith) (word_lies s x regions.globals inside frame.windows) refl frame.windows)
