-- The sequences of an `if`, with a second branch and without.
use Rattle.std.proofs.Common.{◌≡◌, ℕ, suc, ◌+◌, ◌-◌, ◌≤◌, inr, List, ◌∷◌, ◌++◌, length, Option, Some, None, refl, subst, arith}
use Rattle.std.proofs.lemmas.List.{length-append}
use Rattle.rv_isa.specs.declared.operations.Op.{Op}
use Rattle.rv_isa.specs.Runs.{HasAt}
use Rattle.wasm_defs.specs.declared.token.BlockType.{BlockType}
use Rattle.wasm_defs.specs.declared.types.ValType.TheVariants.{I32}
use Rattle.wasm_defs.specs.Trees.{Branch, Part, Seq, Nothing, If, Else, tokens_in}
use Rattle.wasm_defs.specs.Typing.{Types, Context, Signature, Typed, inside}
use Rattle.wasm_defs.specs.Places.{Place, end_of, shape, after_if}
use Rattle.wasm_defs.specs.Configurations.{Func, Instance}
use Rattle.wasm_defs.specs.Reductions.{branch_of}
use Rattle.frame_layout.specs.Templates.{Label}
use Rattle.frame_layout.specs.Functions.{label, size, code, over, over_from, test_words, traps}
use Rattle.frame_layout.proofs.Standing.{has_first, has_rest}
use Rattle.simulation.specs.Functions.{TextPlaces}
use Rattle.simulation.specs.Covered.{IsCovered}
use Rattle.simulation.proofs.Frames.Frames.{Open, labels_of, behind_of, under, AreSited, Compiled, Ending, SitsAt}
use Rattle.simulation.proofs.Frames.Heights.{peak, peak_if, of_if}
use Rattle.simulation.proofs.Frames.Sited.{sited_first, sited_rest, traps_alike}
use Rattle.simulation.proofs.Frames.Sitting.{has_at, ending_at}
use Rattle.frame_layout.proofs.Sizes.{code_size, over_size}
use Rattle.simulation.proofs.Control.Blocks.{Pieces, ending_falls}

module _ (text : List (Option Op)) (inst : Instance) (places : TextPlaces) {f : Func} (k : Compiled text inst places f) (os : List Open) where
  -- a test leads on to the first sequence, or to the second one at its index
  pub record Choice (s : Signature) (h : ℕ) (below : Types) (here : ℕ) (body : Seq) (other : Part Branch) (rest : Seq) (to : Types) (there : ℕ) : Type 0 where
    pub second : ℕ
    pub stop : ℕ
    pub test : HasAt text (k.begin + here) (test_words k.around h here second)
    pub test_inside : k.begin + (here + 6) ≤ length text
    pub second_near : k.begin + second ≤ length text
    pub near : k.begin + stop ≤ length text
    pub first_pieces : Pieces text inst places k os s s.results (h - 1) below (here + 6) body rest stop stop (1 + tokens_in other) to there
    pub second_pieces : Pieces text inst places k os s s.results (h - 1) below second (branch_of other) rest stop stop 1 to there

  abbrev at : Context
  at = under k.context os

  abbrev labels : List Label
  labels = labels_of os

  module _ (type : BlockType) (body rest : Seq) (h here : ℕ) (from to : Types) (there : ℕ) where
    abbrev s : Signature
    s = shape at type

    abbrev within : Context
    within = inside at s.results

    abbrev base : ℕ
    base = h - 1 - length s.params

    abbrev n : ℕ
    n = length s.results

    -- what follows
    behind_sits : (below : Types) (end : ℕ) → IsCovered rest → Typed at rest (s.results ++ below) to → peak at rest (after_if s (Some h)) ≤ k.around.layout.greatest → HasAt text (k.begin + end) (code k.around at labels (after_if s (Some h)) end rest)
        → k.begin + (end + length (code k.around at labels (after_if s (Some h)) end rest)) ≤ length text → Ending text inst places k (end_of at rest (after_if s (Some h))) (end + length (code k.around at labels (after_if s (Some h)) end rest)) there
        → AreSited places.trap k.begin f.origin (traps k.around at labels (after_if s (Some h)) end (behind_of os) rest) → SitsAt text inst places k os (Some (h - 1 - length s.params + length s.results)) (s.results ++ below) end rest to there
    behind_sits below end covered typed low has inside_text ending sited =
        let e : h - suc (length s.params) + length s.results ≡ h - 1 - length s.params + length s.results = omega arith in
        subst (λ (i : ℕ). SitsAt text inst places k os (Some i) (s.results ++ below) end rest to there) e
        (record { covered = covered; typed = typed; low = low; has = has; inside = inside_text; ending = ending; sited = sited })

    inner_low : (tree : Seq) (m : ℕ) → peak within tree (Some (h - 1 + 0)) ≤ m → peak within tree (Some (h - 1)) ≤ m
    inner_low tree m low =
        let e : h - 1 + 0 ≡ h - 1 = omega arith in
        subst (λ (i : ℕ). peak within tree (Some i) ≤ m) e low

    -- a sequence inside, at an index of its own, with so many tokens up to what follows
    pieces : (tree : Seq) (below : Types) (i end between : ℕ) → k.begin + end ≤ length text → SitsAt text inst places k os (Some (h - 1 - length s.params + length s.results)) (s.results ++ below) end rest to there
        → IsCovered tree → Typed within tree s.params s.results → peak within tree (Some (h - 1 + 0)) ≤ k.around.layout.greatest → HasAt text (k.begin + i) (code k.around within (label base n end ∷ labels) (Some (h - 1)) i tree)
        → k.begin + (i + length (code k.around within (label base n end ∷ labels) (Some (h - 1)) i tree)) ≤ length text
        → Ending text inst places k (end_of within tree (Some (h - 1))) (i + length (code k.around within (label base n end ∷ labels) (Some (h - 1)) i tree)) end
        → AreSited places.trap k.begin f.origin (traps k.around within (label base n 0 ∷ labels) (Some (h - 1)) i (between + tokens_in rest + behind_of os) tree)
        → Pieces text inst places k os s s.results (h - 1) below i tree rest end end between to there
    pieces tree below i end between near after covered typed low has inside_text ending sited = record {
      base = base;
      base_is = refl;
      near = near;
      inner = record {
        covered = covered;
        typed = typed;
        low = inner_low tree k.around.layout.greatest low;
        has = has;
        inside = inside_text;
        ending = ending;
        sited = subst (AreSited places.trap k.begin f.origin)
            (traps_alike k.around k.around.distance_to within (label base n 0 ∷ labels) (label base n end ∷ labels) refl tree (Some (h - 1)) i (between + tokens_in rest + behind_of os)) sited;
      };
      after = after;
    }

    -- and of a second branch
    branch_pieces : (other : Part Branch) (below : Types) (i end : ℕ) → k.begin + end ≤ length text → SitsAt text inst places k os (Some (h - 1 - length s.params + length s.results)) (s.results ++ below) end rest to there
        → IsCovered other → Typed within other s.params s.results → peak within (branch_of other) (Some (h - 1 + 0)) ≤ k.around.layout.greatest → HasAt text (k.begin + i) (code k.around within (label base n end ∷ labels) (Some (h - 1)) i other)
        → k.begin + end ≤ length text → i + length (code k.around within (label base n end ∷ labels) (Some (h - 1)) i other) ≡ end
        → AreSited places.trap k.begin f.origin (traps k.around within (label base n 0 ∷ labels) (Some (h - 1)) i (1 + tokens_in rest + behind_of os) other)
        → Pieces text inst places k os s s.results (h - 1) below i (branch_of other) rest end end 1 to there
    branch_pieces Nothing below i end near after covered typed low has inside_text ends sited =
        pieces Nothing below i end 1 near after covered typed low has (omega (arith, ends)) (ending_falls text inst places k (Some (h - 1)) (i + 0) end ends) sited
    branch_pieces (Else other) below i end near after covered typed low has inside_text ends sited =
        pieces other below i end 1 near after covered typed low has (omega (arith, ends)) (ending_falls text inst places k (end_of within other (Some (h - 1))) _ end ends) sited

    module _ (other : Part Branch) where
      pub if_choice : (x : SitsAt text inst places k os (Some h) from here (If type body other rest) to there) → (below : Types) × (from ≡ I32 ∷ (shape (under k.context os) type).params ++ below) × Choice (shape (under k.context os) type) h below here body other rest to there
      if_choice x =
          let b = of_if at type body rest from to other x.typed in
          let low = peak_if at type body rest (Some h) other in
          let counted = label base n 0 ∷ labels in
          let first_end = here + 6 + size k.around within counted (Some (h - 1)) body in
          let live = over_from other (end_of within body (Some (h - 1))) in
          let second = first_end + length (over live 0 0) in
          let end = second + size k.around within counted (Some (h - 1)) other in
          let inner = label base n end ∷ labels in
          let one = code k.around within inner (Some (h - 1)) (here + 6) body in
          let jump = over live first_end end in
          let two = code k.around within inner (Some (h - 1)) second other in
          let behind = code k.around at labels (after_if s (Some h)) end rest in
          let test = test_words k.around h here second in
          let count : length one ≡ size k.around within counted (Some (h - 1)) body = code_size k.around k.around.distance_to within inner counted refl body (Some (h - 1)) (here + 6) in
          let count_two : length two ≡ size k.around within counted (Some (h - 1)) other = code_size k.around k.around.distance_to within inner counted refl other (Some (h - 1)) second in
          let count_jump : length jump ≡ length (over live 0 0) = over_size k.around k.around.distance_to live first_end end in
          let split = length-append one (jump ++ (two ++ behind)) in
          let split_jump = length-append jump (two ++ behind) in
          let split_two = length-append two behind in
          let all = x.inside in
          let held = 1 + tokens_in other + tokens_in rest + behind_of os in
          let held' = 1 + tokens_in rest + behind_of os in
          let one_traps = traps k.around within counted (Some (h - 1)) (here + 6) held body in
          let two_traps = traps k.around within counted (Some (h - 1)) second held' other in
          let more_traps = traps k.around at labels (after_if s (Some h)) end (behind_of os) rest in
          let sited_more = sited_rest places.trap k.begin f.origin one_traps (two_traps ++ more_traps) x.sited in
          let has_one = has_at text (k.begin + here + 6) (k.begin + (here + 6)) (one ++ (jump ++ (two ++ behind))) (omega arith) (has_rest text (k.begin + here) test (one ++ (jump ++ (two ++ behind))) x.has) in
          let has_jump = has_at text (k.begin + (here + 6) + length one) (k.begin + first_end) (jump ++ (two ++ behind)) (omega arith) (has_rest text (k.begin + (here + 6)) one (jump ++ (two ++ behind)) has_one) in
          let has_two = has_at text (k.begin + first_end + length jump) (k.begin + second) (two ++ behind) (omega arith) (has_rest text (k.begin + first_end) jump (two ++ behind) has_jump) in
          let after = behind_sits b.below end x.covered.2 b.outer (omega (arith, low.2, x.low))
          (has_at text (k.begin + second + length two) (k.begin + end) behind (omega arith) (has_rest text (k.begin + second) two behind has_two)) (omega arith)
          (ending_at text inst places k os (end_of at rest (after_if s (Some h))) (here + length (test ++ (one ++ (jump ++ (two ++ behind))))) (end + length behind) there (omega arith) x.ending)
          (sited_rest places.trap k.begin f.origin two_traps more_traps sited_more) in
          let near : k.begin + end ≤ length text = omega arith in (
            b.below,
            b.before,
            record {
              second = second;
              stop = end;
              test = has_first text (k.begin + here) test (one ++ (jump ++ (two ++ behind))) x.has;
              test_inside = omega arith;
              second_near = omega arith;
              near = near;
              first_pieces = pieces body b.below (here + 6) end (1 + tokens_in other) near after x.covered.0 b.inner (omega (arith, low.0, x.low)) (has_first text (k.begin + (here + 6)) one (jump ++ (two ++ behind)) has_one)
                  (omega arith)
                  (ending_at text inst places k os (end_of within body (Some (h - 1))) first_end (here + 6 + length one) end (omega arith) (over_leads other (end_of within body (Some (h - 1))) first_end (has_first text (k.begin + first_end) jump (two ++ behind) has_jump)))
                  (sited_first places.trap k.begin f.origin one_traps (two_traps ++ more_traps) x.sited);
              second_pieces = branch_pieces other b.below second end near after x.covered.1 b.second (omega (arith, low.1, x.low)) (has_first text (k.begin + second) two behind has_two) near (omega arith)
                  (sited_first places.trap k.begin f.origin two_traps more_traps sited_more);
            },
          )
        where
          over_leads : (b : Part Branch) (p : Place) (here : ℕ) → let there = here + length (over (over_from b p) 0 0) + size k.around within (label base n 0 ∷ labels) (Some (h - 1)) b in
              HasAt text (k.begin + here) (over (over_from b p) here there) → Ending text inst places k p here there
          over_leads Nothing p here has = ending_falls text inst places k p here (here + 0 + 0) (omega arith)
          over_leads (Else o) None here has = tt
          over_leads (Else o) (Some i) here has = inr has
