-- The rules of `if`.
use Rattle.std.proofs.Common.{◌≡◌, ℕ, zero, suc, ◌+◌, ◌-◌, ◌^◌, ◌<◌, ◌≤◌, List, [], ◌∷◌, ◌++◌, length, take, drop, Option, refl, subst, arith}
use Rattle.rv_isa.specs.declared.operations.Op.{Op}
use Rattle.rv_isa.specs.Steps.{State}
use Rattle.rv_isa.specs.Runs.{place, HasAt}
use Rattle.wasm_defs.specs.declared.types.ValType.TheVariants.{I32}
use Rattle.wasm_defs.specs.declared.token.BlockType.{BlockType}
use Rattle.wasm_defs.specs.Trees.{Branch, Part, Seq, Nothing, If, Else, tokens_in}
use Rattle.wasm_defs.specs.Typing.{Types, Signature}
use Rattle.wasm_defs.specs.Places.{shape}
use Rattle.wasm_defs.specs.Values.{Value, types_of_values}
use Rattle.wasm_defs.specs.Configurations.{Instance, Config, Step, belows, used}
use Rattle.wasm_defs.specs.Reductions.{branch_of, within, choose, reduce}
use Rattle.frame_layout.specs.Macros.{s0, s5}
use Rattle.frame_layout.specs.Templates.{exit_stub}
use Rattle.simulation.specs.Functions.{TextPlaces}
use Rattle.simulation.proofs.Frames.Frames.{Open, under, Compiled, FramesStay}
use Rattle.simulation.proofs.Frames.Follows.{same_beside, registers_of, ahead, labels_ahead, Follows}
use Rattle.simulation.proofs.Frames.Heights.{peak_here}
use Rattle.simulation.proofs.Frames.Holding.{Held, held_now, held_after, held_less, follows_less, follows_after}
use Rattle.simulation.proofs.Frames.Jumps.{Lands}
use Rattle.simulation.proofs.Frames.Values.{Matches}
use Rattle.simulation.proofs.Control.Blocks.{Pieces, behind_sits, enters}
use Rattle.simulation.proofs.Control.Choices.{Choice, if_choice}
use Rattle.simulation.proofs.Control.Entries.{still, sits_whole, same_shape}
use Rattle.simulation.proofs.Control.Tests.{if_holds, if_fails}

ahead_of : (other : Part Branch) → ahead (branch_of other) ≡ ahead other
ahead_of Nothing = refl
ahead_of (Else other) = refl

module _ (text : List (Option Op)) (near : length text ≤ 2 ^ 26) (inst : Instance) (places : TextPlaces) (outer : Types) (stub : HasAt text 0 exit_stub) where
  module _ (start : Config) (s : State) (tree : Seq) (type : BlockType) (v : Value) (below : List Value)
      (m : FramesStay text inst places outer (record start.frame { operands = v ∷ below; code = tree }) start.callers s) where
    abbrev c : Config
    c = record start { frame = record start.frame { operands = v ∷ below } }

    abbrev k : Compiled text inst places start.frame.function
    k = m.running.compiled

    abbrev os : List Open
    os = m.running.os

    abbrev size : ℕ
    size = ahead tree + labels_ahead start.frame.labels

    abbrev sig : Signature
    sig = shape (under m.running.compiled.context m.running.os) type

    abbrev Goes : Step → Type 0
    Goes step = Follows text inst places outer start.store start.later 128 (ahead tree + labels_ahead start.frame.labels) s step

    held : Held text inst places outer start.frame start.callers m.running.compiled m.address below s
    held = held_less text inst places outer start.frame start.callers k m.address v below s (held_of (held_now text inst places outer (record start.frame { operands = v ∷ below; code = tree }) start.callers s m))
      where
        held_of : Held text inst places outer (record start.frame { operands = v ∷ below; code = tree }) start.callers m.running.compiled m.address (v ∷ below) s → Held text inst places outer start.frame start.callers m.running.compiled m.address (v ∷ below) s
        held_of y = record { matches = y.matches; are = y.are; stay = y.stay }

    -- into one of the sequences
    chosen : (branch rest : Seq) (here stop between : ℕ) (below_types : Types) (steps : ℕ) → types_of_values below ≡ (shape (under m.running.compiled.context m.running.os) type).params ++ below_types
        → Pieces text inst places m.running.compiled m.running.os (shape (under m.running.compiled.context m.running.os) type) (shape (under m.running.compiled.context m.running.os) type).results (length ((v ∷ below) ++ belows start.frame.labels) - 1) below_types here branch rest stop stop between m.running.to m.running.there
        → (y : Lands text steps s s.bytes (place (m.running.compiled.begin + here))) → steps ≤ 128 → ahead branch + (1 + ahead rest + labels_ahead start.frame.labels) < ahead tree + labels_ahead start.frame.labels
        → Goes (within (record start { frame = record start.frame { operands = v ∷ below } }) below (shape (under m.running.compiled.context m.running.os) type) (length (shape (under m.running.compiled.context m.running.os) type).results) rest branch between rest)
    chosen branch rest here stop between below_types steps types pieces y short fewer =
        let lower : length ((v ∷ below) ++ belows start.frame.labels) - 1 ≡ length (below ++ belows start.frame.labels) = omega arith in
        let p = subst (λ (h : ℕ). Pieces text inst places k os sig sig.results h below_types here branch rest stop stop between m.running.to m.running.there) lower pieces in
        let held' = held_after text inst places outer start.frame start.callers k m.address below s y.end held y.bytes_are (y.others s0 refl) (y.others s5 refl) in
        let aims = behind_sits text inst places outer start.frame start.callers k m.address os below y.end y.end held' sig sig.results below_types here stop stop between branch rest m.running.to m.running.there types p in
        let stay = enters text inst places outer start.frame start.callers k m.address os below y.end y.end held' sig sig.results below_types here stop stop between branch rest m.running.to m.running.there types p rest aims p.near held'.matches y.pc_is m.running.fit in
        let step = within c below sig (length sig.results) rest branch between rest in
        follows_less text inst places outer start.store start.later (steps + 0) 128 size s step (omega arith)
        (follows_after text inst places outer start.store start.later steps 0 size s y.end y.reaches (same_beside s.bytes y.end.bytes y.bytes_are) (registers_of s y.end y.others) step
        (still text near inst places outer stub c y.end (record start.frame { operands = take (length sig.params) below; code = branch; labels = record { arity = length sig.results; target = rest; below = drop (length sig.params) below; after = rest; between = between } ∷ start.frame.labels }) size stay (omega arith)))

    module _ (body : Seq) (other : Part Branch) (rest : Seq) (bt : Types) (before : types_of_values (v ∷ below) ≡ I32 ∷ (shape (under m.running.compiled.context m.running.os) type).params ++ bt)
        (x : Choice text inst places m.running.compiled m.running.os (shape (under m.running.compiled.context m.running.os) type) (length ((v ∷ below) ++ belows start.frame.labels)) bt m.here body other rest m.running.to m.running.there)
        (high : length ((v ∷ below) ++ belows start.frame.labels) ≤ m.running.compiled.around.layout.greatest)
        (fewer : ahead body + (1 + ahead rest + labels_ahead start.frame.labels) < ahead tree + labels_ahead start.frame.labels) (fewer' : ahead (branch_of other) + (1 + ahead rest + labels_ahead start.frame.labels) < ahead tree + labels_ahead start.frame.labels) where
      ty : v.ty ≡ I32
      ty = cc

      types : types_of_values below ≡ (shape (under m.running.compiled.context m.running.os) type).params ++ bt
      types = cc

      matches : Matches m.running.compiled.around.layout (used start.callers) m.address s.bytes start.frame.locals (v ∷ (below ++ belows start.frame.labels)) s
      matches = (held_now text inst places outer (record start.frame { operands = v ∷ below; code = tree }) start.callers s m).matches

      abbrev Chosen : ℕ → Type 0
      Chosen n = Goes (choose (record start { frame = record start.frame { operands = v ∷ below } }) (shape (under m.running.compiled.context m.running.os) type) body other rest (record { ty = v.ty; number = n } ∷ below))

      by_number : (n : ℕ) → v.number ≡ n → Chosen n
      by_number zero e =
          chosen (branch_of other) rest x.second x.stop 1 bt 6 types x.second_pieces
          (if_fails text near k.around (used start.callers) m.address start.frame.locals s k.begin m.here (length ((v ∷ below) ++ belows start.frame.labels)) m.at v (below ++ belows start.frame.labels) matches ty refl high x.second x.test x.test_inside x.second_near e)
          (omega arith) fewer'
      by_number (suc n) e =
          chosen body rest (m.here + 6) x.stop (1 + tokens_in other) bt 4 types x.first_pieces
          (if_holds text near k.around (used start.callers) m.address start.frame.locals s k.begin m.here (length ((v ∷ below) ++ belows start.frame.labels)) m.at v (below ++ belows start.frame.labels) matches ty refl high x.second x.test x.test_inside x.second_near n e)
          (omega arith) fewer

      chooses : Goes (choose (record start { frame = record start.frame { operands = v ∷ below } }) (shape inst.context type) body other rest (v ∷ below))
      chooses =
          subst (λ (g : Signature). Goes (choose c g body other rest (v ∷ below))) (same_shape text near inst places outer stub c s tree m type) (by_number v.number refl)

  module _ (start : Config) (s : State) (type : BlockType) (body : Seq) (other : Part Branch) (rest : Seq) where
    abbrev at : List Value → Config
    at ops = record start { frame = record start.frame { operands = ops } }

    if_by : (ops : List Value) → FramesStay text inst places outer (record start.frame { operands = ops; code = If type body other rest }) start.callers s
        → Follows text inst places outer start.store start.later 128 (ahead (If type body other rest) + labels_ahead start.frame.labels) s (choose (at ops) (shape inst.context type) body other rest ops)
    if_by [] m = let e = m.running.sits.typed.3 in absurd cc
    if_by (v ∷ below) m =
        let x = sits_whole text near inst places outer stub (at (v ∷ below)) s (If type body other rest) m in
        let same = same_shape text near inst places outer stub (at (v ∷ below)) s (If type body other rest) m type in
        let p = if_choice text inst places m.running.compiled m.running.os type body rest (length ((v ∷ below) ++ belows start.frame.labels)) m.here (types_of_values (v ∷ below)) m.running.to m.running.there other x in
        chooses start s (If type body other rest) type v below m body other rest p.0 p.1 p.2 (omega (arith, x.low, peak_here (under m.running.compiled.context m.running.os) (If type body other rest) (length ((v ∷ below) ++ belows start.frame.labels)))) (omega arith) (omega (arith, ahead_of other))

    pub if_follows : FramesStay text inst places outer (record start.frame { code = If type body other rest }) start.callers s
        → Follows text inst places outer start.store start.later 128 (ahead (If type body other rest) + labels_ahead start.frame.labels) s (reduce inst start (If type body other rest))
    if_follows m = if_by start.frame.operands m
