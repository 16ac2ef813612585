-- The rule of `br_if`.
use Rattle.std.proofs.Common.{◌≡◌, ℕ, zero, suc, ◌+◌, ◌-◌, ◌^◌, ◌≤◌, List, [], ◌∷◌, ◌++◌, length, map, Option, Some, refl, sym, ap, ◌∙◌, subst, arith, ◌*◌, length-append}
use Rattle.std.specs.Prelude.{slice_get}
use Rattle.rv_isa.specs.declared.operations.Op.{Op}
use Rattle.rv_isa.specs.Steps.{State, Bytes}
use Rattle.rv_isa.specs.Runs.{place, HasAt}
use Rattle.wasm_defs.specs.declared.types.ValType.TheVariants.{I32}
use Rattle.wasm_defs.specs.declared.token.Plain.TheVariants.{BrIf}
use Rattle.wasm_defs.specs.Trees.{Seq, Simple}
use Rattle.wasm_defs.specs.Typing.{Types, Rule, Fixed, with_type, rule_of}
use Rattle.wasm_defs.specs.Places.{after_rule}
use Rattle.wasm_defs.specs.Values.{Value, types_of_values}
use Rattle.wasm_defs.specs.Configurations.{Instance, Config, Step, belows, used}
use Rattle.wasm_defs.specs.Reductions.{simple, branch, branch_if, proceeds}
use Rattle.frame_layout.specs.Macros.{s0, s5}
use Rattle.frame_layout.specs.Slots.{operand}
use Rattle.frame_layout.specs.Templates.{Label, label_at, jump_if_words, declarations, words, exit_stub, unless_words, jump_words}
use Rattle.simulation.specs.Functions.{TextPlaces}
use Rattle.simulation.proofs.Frames.Frames.{Open, labels_of, under, Compiled, SitsAt, FramesStay}
use Rattle.simulation.proofs.Frames.Follows.{same_beside, registers_of, ahead, labels_ahead, Follows, owed_of}
use Rattle.simulation.proofs.Frames.Holding.{Held, held_after, held_less, arrives, follows_less, follows_after}
use Rattle.simulation.proofs.Frames.Jumps.{Lands}
use Rattle.frame_layout.proofs.Sizes.{jump_count, jump_length, unless_count, unless_length}
use Rattle.simulation.proofs.Frames.Values.{Operands}
use Rattle.simulation.proofs.Control.Branches.{branch_follows, carried_pays}
use Rattle.simulation.proofs.Control.Entries.{still}
use Rattle.simulation.proofs.Control.Steps.{IfLabel, if_label, held_here, has_here, inside_here, high_here, stand_here, rest_sits}
use Rattle.simulation.proofs.Control.Tests.{has_jump, branch_holds, branch_fails}

module _ (text : List (Option Op)) (near : length text ≤ 2 ^ 26) (inst : Instance) (places : TextPlaces) (outer : Types) (stub : HasAt text 0 exit_stub) where
  module _ (start : Config) (s : State) (l : ℕ) (rest : Seq) where
    abbrev at : List Value → Config
    at ops = record start { frame = record start.frame { operands = ops } }

    abbrev Goes : List Value → Step → Type 0
    Goes ops step = Follows text inst places outer start.store start.later (128 + 128 * owed_of step) (ahead (Simple (BrIf l) rest) + labels_ahead start.frame.labels) s step

    module _ (v : Value) (below : List Value) (m : FramesStay text inst places outer (record start.frame { operands = v ∷ below; code = Simple (BrIf l) rest }) start.callers s) where
      abbrev c : Config
      c = at (v ∷ below)

      abbrev k : Compiled text inst places start.frame.function
      k = m.running.compiled

      abbrev os : List Open
      os = m.running.os

      abbrev label : Label
      label = label_at k.around (labels_of os) l

      abbrev size : ℕ
      size = ahead (Simple (BrIf l) rest) + labels_ahead start.frame.labels

      x : IfLabel (map (λ (o : Open). o.takes) m.running.os) l (types_of_values (v ∷ below)) m.running.sits.typed.0
      x = if_label (map (λ (o : Open). o.takes) os) l (types_of_values (v ∷ below)) m.running.sits.typed.0 (slice_get (map (λ (o : Open). o.takes) os) l) refl m.running.sits.typed.1

      held : Held text inst places outer start.frame start.callers m.running.compiled m.address below s
      held = held_less text inst places outer start.frame start.callers k m.address v below s (held_of (held_here text near inst places outer stub c s (BrIf l) rest m))
        where
          held_of : Held text inst places outer (record start.frame { operands = v ∷ below }) start.callers m.running.compiled m.address (v ∷ below) s → Held text inst places outer start.frame start.callers m.running.compiled m.address (v ∷ below) s
          held_of y = record { matches = y.matches; are = y.are; stay = y.stay }

      module _ (steps there : ℕ) (y : Lands text steps s s.bytes there) where
        landed : Held text inst places outer start.frame start.callers m.running.compiled m.address below y.end
        landed = held_after text inst places outer start.frame start.callers k m.address below s y.end held y.bytes_are (y.others s0 refl) (y.others s5 refl)

        after_test : (most : ℕ) (step : Step) → steps + most ≤ 128 + 128 * owed_of step → Follows text inst places outer start.store start.later most (ahead (Simple (BrIf l) rest) + labels_ahead start.frame.labels) y.end step → Goes (v ∷ below) step
        after_test most step le h =
            follows_less text inst places outer start.store start.later (steps + most) (128 + 128 * owed_of step) size s step le
            (follows_after text inst places outer start.store start.later steps most size s y.end y.reaches (same_beside s.bytes y.end.bytes y.bytes_are) (registers_of s y.end y.others) step h)

      ty : v.ty ≡ I32
      ty = let e = x.moves.before in cc

      types : types_of_values below ≡ m.running.sits.typed.0
      types = let e = x.moves.before in let f = x.moves.after in cc

      words_here : HasAt text (k.begin + m.here) (jump_if_words k.around (length ((v ∷ below) ++ belows start.frame.labels)) m.here (label_at k.around (labels_of os) l))
      words_here = has_here text near inst places outer stub c s (BrIf l) rest m

      count_is : length (words m.running.compiled.around (declarations (under m.running.compiled.context m.running.os)) (labels_of m.running.os) (length ((v ∷ below) ++ belows start.frame.labels)) m.here (BrIf l))
          ≡ 3 + unless_count (label_at m.running.compiled.around (labels_of m.running.os) l).takes + jump_count (label_at m.running.compiled.around (labels_of m.running.os) l).takes
      count_is =
          let skip = unless_words k.around (m.here + 3) label.takes in
          let h = length ((v ∷ below) ++ belows start.frame.labels) in
          omega (arith, length-append skip (jump_words k.around (h - 1) (m.here + 3 + length skip) label), unless_length k.around (m.here + 3) label.takes, jump_length k.around (h - 1) (m.here + 3 + length skip) label)

      inside_words : m.running.compiled.begin + (m.here + (3 + unless_count (label_at m.running.compiled.around (labels_of m.running.os) l).takes + jump_count (label_at m.running.compiled.around (labels_of m.running.os) l).takes)) ≤ length text
      inside_words = omega (arith, inside_here text near inst places outer stub c s (BrIf l) rest m, count_is)

      by_number : (n : ℕ) → v.number ≡ n → Goes (v ∷ below) (branch_if (at (v ∷ below)) l rest (record { ty = v.ty; number = n } ∷ below))
      by_number zero e =
          let mid = m.running.sits.typed.0 in
          let n = length (belows start.frame.labels) in
          let first = words k.around (declarations (under k.context os)) (labels_of os) (length ((v ∷ below) ++ belows start.frame.labels)) m.here (BrIf l) in
          let y = branch_fails text near k.around (used start.callers) m.address start.frame.locals s k.begin m.here (length ((v ∷ below) ++ belows start.frame.labels)) m.at v (below ++ belows start.frame.labels)
          (held_here text near inst places outer stub c s (BrIf l) rest m).matches ty refl (high_here text near inst places outer stub c s (BrIf l) rest m) label words_here inside_words e in
          let z = y.3 in
          let held' = landed y.0 (place (k.begin + (m.here + (3 + unless_count label.takes + jump_count label.takes)))) z in
          let count : length first ≡ 3 + unless_count label.takes + jump_count label.takes = count_is in
          let rule_is : rule_of (under k.context os) (BrIf l) ≡ Fixed (I32 ∷ x.takes) x.takes = ap (λ (o : Option Types). with_type o (λ ts. Fixed (I32 ∷ ts) ts)) x.is in
          let sits = rest_sits text near inst places outer stub c s (BrIf l) rest m mid m.running.sits.typed.2 (ap (λ (r : Rule). after_rule r (Some (length (types_of_values (v ∷ below)) + n))) rule_is ∙ x.height n) in
          after_test y.0 (place (k.begin + (m.here + (3 + unless_count label.takes + jump_count label.takes)))) z 122 (proceeds c below rest) (omega (arith, y.2))
          (still text near inst places outer stub c z.end (record start.frame { operands = below; code = rest }) size
          (arrives text inst places outer start.frame start.callers k m.address below z.end z.end (m.here + length first) m.running.there below rest start.frame.labels os m.running.to held' held'.matches
          (z.pc_is ∙ ap (λ (i : ℕ). place (k.begin + (m.here + i))) (sym count))
          (subst (λ (ts : Types). SitsAt text inst places k os (Some (length ts + n)) ts (m.here + length first) rest m.running.to m.running.there) (sym types) sits) m.running.fit)
          (omega arith))
      by_number (suc i) e =
          let h = length ((v ∷ below) ++ belows start.frame.labels) in
          let y = branch_holds text near k.around (used start.callers) m.address start.frame.locals s k.begin m.here h m.at v (below ++ belows start.frame.labels)
          (held_here text near inst places outer stub c s (BrIf l) rest m).matches ty refl (high_here text near inst places outer stub c s (BrIf l) rest m) label words_here inside_words i e in
          let has = has_jump text near k.around (used start.callers) m.address start.frame.locals s k.begin m.here h m.at v (below ++ belows start.frame.labels)
          (held_here text near inst places outer stub c s (BrIf l) rest m).matches ty refl (high_here text near inst places outer stub c s (BrIf l) rest m) label words_here in
          let held' = landed 4 (place (k.begin + (m.here + 3 + unless_count label.takes))) y in
          let f = x.moves.before in
          let before : types_of_values below ≡ x.takes ++ x.moves.below = cc in
          let inside = inside_here text near inst places outer stub c s (BrIf l) rest m in
          let high = high_here text near inst places outer stub c s (BrIf l) rest m in
          let stand = stand_here text near inst places outer stub c s (BrIf l) rest m in
          let stand' = subst (λ (b : Bytes). Operands b (used start.callers + operand k.around.layout 0) (belows start.frame.labels)) (sym y.bytes_are) stand in
          let step = branch c below l start.frame.labels in
          let n = length x.takes in
          let jumped = branch_follows text near inst places outer stub c k m.address (m.here + 3 + unless_count label.takes) (h - 1) y.end below (held_c y.end held') y.pc_is (omega arith) (omega arith)
          size l start.frame.labels os m.running.to m.running.there m.running.fit x.takes x.moves.below x.is before stand' (omega arith) has (omega (arith, inside_words, jump_length k.around (h - 1) (m.here + 3 + unless_count label.takes) label)) in
          after_test 4 (place (k.begin + (m.here + 3 + unless_count label.takes))) y (12 + 12 * n) step (omega (arith, jumped.1, carried_pays n)) jumped.0
        where
          held_c : (t : State) → Held text inst places outer start.frame start.callers m.running.compiled m.address below t → Held text inst places outer (record start.frame { operands = v ∷ below }) start.callers m.running.compiled m.address below t
          held_c t z = record { matches = z.matches; are = z.are; stay = z.stay }

    by_operands : (ops : List Value) → FramesStay text inst places outer (record start.frame { operands = ops; code = Simple (BrIf l) rest }) start.callers s → Goes ops (branch_if (at ops) l rest ops)
    by_operands [] m =
        let y = if_label (map (λ (o : Open). o.takes) m.running.os) l [] m.running.sits.typed.0 (slice_get (map (λ (o : Open). o.takes) m.running.os) l) refl m.running.sits.typed.1 in
        let e = y.moves.before in
        absurd cc
    by_operands (v ∷ below) m = by_number v below m v.number refl

    pub br_if_follows : FramesStay text inst places outer (record start.frame { code = Simple (BrIf l) rest }) start.callers s
        → Follows text inst places outer start.store start.later (128 + 128 * owed_of (simple inst start (BrIf l) rest)) (ahead (Simple (BrIf l) rest) + labels_ahead start.frame.labels) s (simple inst start (BrIf l) rest)
    br_if_follows m = by_operands start.frame.operands m
