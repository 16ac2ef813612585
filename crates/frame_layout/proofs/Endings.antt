-- The end of a function, and the end of what was called from outside.
use Rattle.std.proofs.Common.{◌≡◌, ℕ, zero, suc, ◌+◌, ◌==◌, ◌<◌, ◌≤◌, ◌*◌, false, List, [], ◌∷◌, ◌++◌, length, Option, refl, sym, subst, ◌∙◌, arith, length-append, ap}
use Rattle.std.specs.Prelude.{◌≢◌}
use Rattle.std.proofs.lemmas.Bool.{eq-eqb, false≢true}
use Rattle.rv_isa.specs.declared.operations.Op.{Op}
use Rattle.rv_isa.specs.declared.operations.Op.TheVariants.{Jalr}
use Rattle.rv_isa.specs.Steps.{State}
use Rattle.rv_isa.specs.Runs.{place, HasAt, Leaves as Gives, Reaches}
use Rattle.rv_isa.proofs.RunLaws.{Reaches-then}
use Rattle.wasm_defs.specs.Configurations.{max_slots}
use Rattle.frame_layout.specs.declared.layout.Layout.{Layout}
use Rattle.frame_layout.specs.Slots.{link, operand}
use Rattle.frame_layout.specs.Macros.{x0, ra, s0, s5, load_slot, t0, store_slot}
use Rattle.frame_layout.specs.Templates.{result_words, epilogue}
use Rattle.frame_layout.specs.Laws.{slot_at, with_slot, IsFrame, Does, EpilogueLaw, ExitLaw, with_results}
use Rattle.frame_layout.proofs.Standing.{has_first, has_rest}
use Rattle.frame_layout.proofs.SlotLaws.{load_slot_leaves}
use Rattle.frame_layout.proofs.Steps.{frame_kept, does_nothing, frame_written, does_count, does_then, does_with}
use Rattle.frame_layout.proofs.Instructions.{copied_does}
use Rattle.frame_layout.proofs.Jumps.{returned_reaches, exit_asks}

differs : (q r : ℕ) → (q == r) ≡ false → q ≢ r
differs q r other same = false≢true (sym other ∙ eq-eqb q r same)

-- results move one after the other
results_move : (code : List (Option Op)) (base results index : ℕ) (l : Layout) (s : State) (i : ℕ) → HasAt code i (result_words l results index) → s.pc ≡ place i → IsFrame base s → base + operand l index + results ≤ max_slots
    → Does code (6 * results) (6 * results) s (with_results l base results index s.bytes)
results_move code base zero index l s i has at frame room = does_nothing code s
results_move code base (suc n) index l s i has at frame room =
    let move = load_slot t0 (operand l index) ++ store_slot t0 index in
    let more = result_words l n (index + 1) in
    let one : Does code 6 6 s (with_slot s.bytes (base + index) (slot_at s.bytes (base + operand l index))) = copied_does code s i base (operand l index) index (has_first code i move more has) at frame (omega arith) (omega arith) in
    let pc_one = one.pc_is in
    let rest = results_move code base n (index + 1) l one.end (i + 6) (has_rest code i move more has) (omega arith) (frame_written (base + index) (slot_at s.bytes (base + operand l index)) (omega arith) frame one) (omega arith) in
    does_count (6 * suc n) (6 * suc n) (omega arith) (omega arith) (does_then one (does_with (ap (with_results l base n (index + 1)) one.bytes_are) rest))

-- the return address, into ra
link_loaded : (code : List (Option Op)) (s : State) (i base there : ℕ) (l : Layout) → HasAt code i (load_slot ra (link l)) → s.pc ≡ place i → IsFrame base s → base + link l < max_slots → slot_at s.bytes (base + link l) ≡ there → Gives code 3 s s.bytes ra there
link_loaded code s i base there l has at frame inside is =
    subst (Gives code 3 s s.bytes ra) is (load_slot_leaves code s i base ra (link l) has at frame (λ e. absurd cc) (λ e. absurd cc) inside)

pub results_count : (l : Layout) (results index : ℕ) → length (result_words l results index) ≡ 6 * results
results_count l zero index = refl
results_count l (suc n) index = omega (arith, results_count l n (index + 1))

pub epilogue_does : EpilogueLaw
epilogue_does code s i base results there l has at frame room some is small aligned =
    let front = load_slot ra (link l) in
    let moves = result_words l results 0 in
    let back = Jalr x0 ra 0 ∷ [] in
    let one = link_loaded code s i base there l (has_first code i front (moves ++ back) has) at frame (omega arith) is in
    let pc_one = one.pc_is in
    let behind = has_rest code i front (moves ++ back) has in
    let frame' = frame_kept one.end frame (one.others s0 (λ e. absurd cc)) (one.others s5 (λ e. absurd cc)) one.bytes_are in
    let two = results_move code base results 0 l one.end (i + 3) (has_first code (i + 3) moves back behind) (omega arith) frame' (omega arith) in
    let pc_two = two.pc_is in
    let count = results_count l results 0 in
    let at_back : i + 3 + length moves ≡ i + 3 + 6 * results = omega arith in
    let last = returned_reaches code two.end (i + 3 + 6 * results) (omega arith) there (subst (λ (k : ℕ). HasAt code k back) at_back (has_rest code (i + 3) moves back behind)) (two.others ra refl ∙ one.value_is) small aligned in
    let size : 3 + (6 * results + 1) ≡ length (epilogue l results) = omega (arith, length-append moves back) in
    record {
      end = record two.end { pc = there };
      reaches = subst (λ (n : ℕ). Reaches code n s (record two.end { pc = there })) size (Reaches-then one.reaches (Reaches-then two.reaches last));
      pc_is = refl;
      bytes_are = two.bytes_are ∙ ap (with_results l base results 0) one.bytes_are;
      others = λ q kept other. two.others q kept ∙ one.others q (differs q ra other);
    }

pub exit_does : ExitLaw
exit_does code s i has at = exit_asks code s i has at
