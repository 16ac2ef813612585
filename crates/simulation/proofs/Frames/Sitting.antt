-- Sequences inside sequences.
use Rattle.std.proofs.Common.{◌≡◌, ℕ, ◌+◌, List, ◌++◌, length, Option, Some, refl, sym, ap, ◌∙◌, subst, arith}
use Rattle.std.proofs.lemmas.List.{length-append}
use Rattle.rv_isa.specs.declared.operations.Op.{Op}
use Rattle.rv_isa.specs.Runs.{HasAt}
use Rattle.wasm_defs.specs.declared.token.Plain.{Plain}
use Rattle.wasm_defs.specs.Trees.{Seq, Simple, tokens_in}
use Rattle.wasm_defs.specs.Typing.{Types, Context, rule_of, Typed}
use Rattle.wasm_defs.specs.Places.{Place, after_rule, end_of}
use Rattle.wasm_defs.specs.Configurations.{Func, Instance, tokens_behind, place_left}
use Rattle.wasm_defs.specs.Configurations as config
use Rattle.frame_layout.specs.Templates.{Label, declarations, words}
use Rattle.frame_layout.specs.Traps.{trap_places}
use Rattle.frame_layout.specs.Functions.{code, traps_of, traps}
use Rattle.frame_layout.proofs.Standing.{has_first, has_rest}
use Rattle.simulation.proofs.Frames.Frames.{Open, labels_of, behind_of, under, TextPlaces, AreSited, Compiled, Ending, SitsAt, Fit, behind_now}
use Rattle.simulation.proofs.Frames.Heights.{peak_rest}
use Rattle.simulation.proofs.Frames.Sited.{IsIn, sited_first, sited_rest, told_of}
use Rattle.frame_layout.proofs.Sizes.{words_size}

pub has_at : (code : List (Option Op)) (i j : ℕ) (ops : List Op) → i ≡ j → HasAt code i ops → HasAt code j ops
has_at code i j ops e has = subst (λ (k : ℕ). HasAt code k ops) e has

module _ (text : List (Option Op)) (inst : Instance) (places : TextPlaces) {f : Func} (k : Compiled text inst places f) (os : List Open) where
  abbrev at : Context
  at = under k.context os

  abbrev labels : List Label
  labels = labels_of os

  pub ending_at : (p : Place) (here also there : ℕ) → here ≡ also → Ending text inst places k p here there → Ending text inst places k p also there
  ending_at p here also there e x = subst (λ (n : ℕ). Ending text inst places k p n there) e x

  -- what follows an instruction
  module _ (p : Plain) (rest : Seq) (h here : ℕ) (from to : Types) (there : ℕ) (x : SitsAt text inst places k os (Some h) from here (Simple p rest) to there) where
    abbrev first : List Op
    first = words k.around (declarations at) labels h here p

    abbrev next : Place
    next = after_rule (rule_of at p) (Some h)

    abbrev behind : List Op
    behind = code k.around at labels next (here + length first) rest

    pub has_words : HasAt text (k.begin + here) (words k.around (declarations (under k.context os)) (labels_of os) h here p)
    has_words = has_first text (k.begin + here) first behind x.has

    -- the source location of a trap of the instruction is known, as the configuration's labels say
    pub trap_told : (ls : List config.Label) → Fit text inst places k ls os to there → (word : ℕ) → IsIn word (trap_places p) → places.trap (k.begin + (here + word)) ≡ Some (place_left f.origin (tokens_in (Simple p rest) + tokens_behind ls))
    trap_told ls fit word among =
        let left = tokens_in (Simple p rest) + behind_of os in
        told_of places.trap k.begin f.origin here left word p among
        (sited_first places.trap k.begin f.origin (traps_of here left p) (traps k.around at labels next (here + length (words k.around (declarations at) labels h 0 p)) (behind_of os) rest) x.sited)
        ∙ ap (λ (n : ℕ). Some (place_left f.origin (tokens_in (Simple p rest) + n))) (behind_now text inst places k ls os to there fit)

    pub sits_rest : (mid : Types) → Typed (under k.context os) rest mid to → SitsAt text inst places k os (after_rule (rule_of (under k.context os) p) (Some h)) mid (here + length (words k.around (declarations (under k.context os)) (labels_of os) h here p)) rest to there
    sits_rest mid typed =
        let split = length-append first behind in
        let left = tokens_in (Simple p rest) + behind_of os in
        record {
          covered = x.covered.1;
          typed = typed;
          low = omega (arith, x.low, peak_rest at p rest (Some h));
          has = has_at text (k.begin + here + length first) (k.begin + (here + length first)) behind (omega arith) (has_rest text (k.begin + here) first behind x.has);
          inside = omega (arith, x.inside, split);
          ending = ending_at (end_of at rest next) (here + length (first ++ behind)) (here + length first + length behind) there (omega (arith, split)) x.ending;
          sited = subst (λ (n : ℕ). AreSited places.trap k.begin f.origin (traps k.around at labels next (here + n) (behind_of os) rest))
              (sym (words_size k.around k.around.distance_to (declarations at) labels labels refl h here p))
              (sited_rest places.trap k.begin f.origin (traps_of here left p) (traps k.around at labels next (here + length (words k.around (declarations at) labels h 0 p)) (behind_of os) rest) x.sited);
        }
