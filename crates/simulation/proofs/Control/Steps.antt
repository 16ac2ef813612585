-- The rules of `unreachable`, `br`, `br_if` and `return`.
use Rattle.std.proofs.Common.{◌≡◌, ℕ, ◌+◌, ◌^◌, ◌≤◌, inl, List, [], ◌∷◌, ◌++◌, length, map, Option, Some, None, refl, ap, ◌∙◌, subst, append_assoc, arith, ◌*◌}
use Rattle.std.specs.Prelude.{slice_get}
use Rattle.std.proofs.lemmas.List.{length-append}
use Rattle.rv_isa.specs.declared.operations.Op.{Op}
use Rattle.rv_isa.specs.Steps.{State}
use Rattle.rv_isa.specs.Runs.{HasAt}
use Rattle.wasm_defs.specs.declared.types.ValType.TheVariants.{I32}
use Rattle.wasm_defs.specs.declared.value.TrapKind.TheVariants as trap
use Rattle.wasm_defs.specs.declared.token.Plain.{Plain}
use Rattle.wasm_defs.specs.declared.token.Plain.TheVariants.{Unreachable, Br, Return}
use Rattle.wasm_defs.specs.Trees.{Seq, Simple}
use Rattle.wasm_defs.specs.Typing.{Types, Stops, Fixed, Moves, with_type, rule_of, Typed}
use Rattle.wasm_defs.specs.Places.{Place, after_rule}
use Rattle.wasm_defs.specs.Values.{types_of_values}
use Rattle.wasm_defs.specs.Configurations.{Func, Instance, Config, Step, place_of, belows, used}
use Rattle.wasm_defs.specs.Configurations as config
use Rattle.wasm_defs.specs.Reductions.{simple, branch, returns}
use Rattle.frame_layout.specs.Slots.{operand}
use Rattle.frame_layout.specs.Traps.{trap_places}
use Rattle.frame_layout.specs.Templates.{Label, EmitContext, last_label, jump_words, declarations, words, exit_stub}
use Rattle.frame_layout.specs.Functions.{code}
use Rattle.frame_layout.proofs.Jumps.{trap_traps}
use Rattle.simulation.specs.Functions.{TextPlaces}
use Rattle.simulation.proofs.Frames.Frames.{Open, label_of, labels_of, under, Compiled, own, SitsAt, Fit, FramesStay}
use Rattle.simulation.proofs.Frames.Follows.{ahead, labels_ahead, halts_at, Follows, owed_of}
use Rattle.simulation.proofs.Frames.Heights.{peak_here}
use Rattle.simulation.proofs.Frames.Holding.{Held, held_now, follows_less}
use Rattle.simulation.proofs.Frames.Leaving.{operands_below}
use Rattle.simulation.proofs.Frames.Rules.{types_length, MovesFixed, moves_fixed, rule_height}
use Rattle.simulation.proofs.Frames.Sited.{IsIn}
use Rattle.simulation.proofs.Frames.Sitting.{has_words, trap_told, sits_rest}
use Rattle.simulation.proofs.Frames.Values.{Operands}
use Rattle.simulation.proofs.Control.Branches.{branch_follows, returns_follow, carried_pays}
use Rattle.simulation.proofs.Control.Entries.{sits_whole}

-- ---- what rules say of types

-- after which nothing is reachable
pub record StopsAt (params from : Types) : Type 0 where
  pub rest : Types
  pub before : from ≡ params ++ rest

pub stops : (params from mid : Types) → Moves (Stops params) from mid → StopsAt params from
stops params from mid m = record { rest = m.allowed.0 ++ m.below; before = m.before ∙ ap (λ (ts : Types). ts ++ m.below) m.allowed.1 ∙ append_assoc params m.allowed.0 m.below }

pub record ByLabel (labels : List Types) (l : ℕ) (from : Types) : Type 0 where
  pub takes : Types
  pub is : slice_get labels l ≡ Some takes
  pub stops : StopsAt takes from

pub by_label : (labels : List Types) (l : ℕ) (from mid : Types) (o : Option Types) → slice_get labels l ≡ o → Moves (with_type o Stops) from mid → ByLabel labels l from
by_label labels l from mid None e m = absurd m.allowed
by_label labels l from mid (Some ts) e m = record { takes = ts; is = e; stops = stops ts from mid m }

pub record IfLabel (labels : List Types) (l : ℕ) (from mid : Types) : Type 0 where
  pub takes : Types
  pub is : slice_get labels l ≡ Some takes
  pub moves : MovesFixed (I32 ∷ takes) takes from mid
  pub height : (n : ℕ) → after_rule (Fixed (I32 ∷ takes) takes) (Some (length from + n)) ≡ Some (length mid + n)

pub if_label : (labels : List Types) (l : ℕ) (from mid : Types) (o : Option Types) → slice_get labels l ≡ o → Moves (with_type o (λ ts. Fixed (I32 ∷ ts) ts)) from mid → IfLabel labels l from mid
if_label labels l from mid None e m = absurd m.allowed
if_label labels l from mid (Some ts) e m = record { takes = ts; is = e; moves = moves_fixed (I32 ∷ ts) ts from mid m; height = λ n. rule_height (Fixed (I32 ∷ ts) ts) from mid n tt m }

-- the function's label is the last one
last_is : (os : List Open) (o : Open) (w : EmitContext) → last_label w (labels_of (os ++ o ∷ [])) ≡ label_of o
last_is [] o w = refl
last_is (x ∷ []) o w = refl
last_is (x ∷ y ∷ os) o w = last_is (y ∷ os) o w

module _ (text : List (Option Op)) (near : length text ≤ 2 ^ 26) (inst : Instance) (places : TextPlaces) (outer : Types) (stub : HasAt text 0 exit_stub) where
  -- the open labels end with the function's own one
  own_is_last : {f : Func} (k : Compiled text inst places f) (labels : List config.Label) (os : List Open) (to : Types) (there : ℕ) → Fit text inst places k labels os to there
      → last_label k.around (labels_of os) ≡ label_of (own text inst places k)
  own_is_last k [] os to there fit = ap (λ (xs : List Open). last_label k.around (labels_of xs)) fit.0
  own_is_last k (l ∷ ls) [] to there fit = absurd fit
  own_is_last k (l ∷ ls) (o ∷ []) to there fit = none ls fit.3
    where
      none : (ls : List config.Label) → Fit text inst places k ls [] fit.0 fit.1 → last_label k.around (labels_of (o ∷ [])) ≡ label_of (own text inst places k)
      none [] h = let wrong = h.0 in absurd cc
      none (m ∷ ms) h = absurd h
  own_is_last k (l ∷ ls) (o ∷ p ∷ os) to there fit = own_is_last k ls (p ∷ os) fit.0 fit.1 fit.3

  module _ (c : Config) (s : State) where
    abbrev Here : Plain → Seq → Type 0
    Here p rest = FramesStay text inst places outer (record c.frame { code = Simple p rest }) c.callers s

    abbrev Goal : Plain → Seq → Step → Type 0
    Goal p rest step = Follows text inst places outer c.store c.later 128 (ahead (Simple p rest) + labels_ahead c.frame.labels) s step

    module _ (p : Plain) (rest : Seq) (m : FramesStay text inst places outer (record c.frame { code = Simple p rest }) c.callers s) where
      abbrev k : Compiled text inst places c.frame.function
      k = m.running.compiled

      abbrev os : List Open
      os = m.running.os

      abbrev h : ℕ
      h = length (c.frame.operands ++ belows c.frame.labels)

      pub held_here : Held text inst places outer c.frame c.callers m.running.compiled m.address c.frame.operands s
      held_here =
          let x = held_now text inst places outer (record c.frame { code = Simple p rest }) c.callers s m in
          record { matches = x.matches; are = x.are; stay = x.stay }

      pub has_here : HasAt text (m.running.compiled.begin + m.here) (words m.running.compiled.around (declarations (under m.running.compiled.context m.running.os)) (labels_of m.running.os) (length (c.frame.operands ++ belows c.frame.labels)) m.here p)
      has_here = has_words text inst places k os p rest h m.here (types_of_values c.frame.operands) m.running.to m.running.there (sits_whole text near inst places outer stub c s (Simple p rest) m)

      pub told_here : (word : ℕ) → IsIn word (trap_places p) → places.trap (m.running.compiled.begin + (m.here + word)) ≡ Some (place_of c.frame (Simple p rest))
      told_here word among =
          trap_told text inst places k os p rest h m.here (types_of_values c.frame.operands) m.running.to m.running.there (sits_whole text near inst places outer stub c s (Simple p rest) m) c.frame.labels m.running.fit word among

      pub inside_here : m.running.compiled.begin + (m.here + length (words m.running.compiled.around (declarations (under m.running.compiled.context m.running.os)) (labels_of m.running.os) (length (c.frame.operands ++ belows c.frame.labels)) m.here p)) ≤ length text
      inside_here =
          let x = sits_whole text near inst places outer stub c s (Simple p rest) m in
          let first = words k.around (declarations (under k.context os)) (labels_of os) h m.here p in
          let behind = code k.around (under k.context os) (labels_of os) (after_rule (rule_of (under k.context os) p) (Some h)) (m.here + length first) rest in
          omega (arith, x.inside, length-append first behind)

      pub high_here : length (c.frame.operands ++ belows c.frame.labels) ≤ m.running.compiled.around.layout.greatest
      high_here =
          let x = sits_whole text near inst places outer stub c s (Simple p rest) m in
          omega (arith, x.low, peak_here (under k.context os) (Simple p rest) h)

      pub stand_here : Operands s.bytes (used c.callers + operand m.running.compiled.around.layout 0) (belows c.frame.labels)
      stand_here = operands_below s.bytes (used c.callers + operand k.around.layout 0) c.frame.operands (belows c.frame.labels) m.running.live

      -- what follows an instruction that goes on
      pub rest_sits : (mid : Types) → Typed (under m.running.compiled.context m.running.os) rest mid m.running.to
          → after_rule (rule_of (under m.running.compiled.context m.running.os) p) (Some (length (types_of_values c.frame.operands) + length (belows c.frame.labels))) ≡ Some (length mid + length (belows c.frame.labels))
          → SitsAt text inst places m.running.compiled m.running.os (Some (length mid + length (belows c.frame.labels))) mid (m.here + length (words m.running.compiled.around (declarations (under m.running.compiled.context m.running.os)) (labels_of m.running.os) (length (c.frame.operands ++ belows c.frame.labels)) m.here p)) rest m.running.to m.running.there
      rest_sits mid typed e =
          let height : length (c.frame.operands ++ belows c.frame.labels) ≡ length (types_of_values c.frame.operands) + length (belows c.frame.labels) = omega (arith, types_length c.frame.operands, length-append c.frame.operands (belows c.frame.labels)) in
          subst (λ (q : Place). SitsAt text inst places k os q mid (m.here + length (words k.around (declarations (under k.context os)) (labels_of os) h m.here p)) rest m.running.to m.running.there)
          (ap (λ (x : ℕ). after_rule (rule_of (under k.context os) p) (Some x)) height ∙ e)
          (sits_rest text inst places k os p rest h m.here (types_of_values c.frame.operands) m.running.to m.running.there (sits_whole text near inst places outer stub c s (Simple p rest) m) mid typed)

    pub unreachable_follows : (rest : Seq) → Here Unreachable rest → Goal Unreachable rest (simple inst c Unreachable rest)
    unreachable_follows rest m = (
      refl,
      halts_at text inst places outer c.store c.later 128 3 s trap.Unreachable (m.running.compiled.begin + m.here) (m.running.compiled.begin + (m.here + 2)) (place_of c.frame (Simple Unreachable rest)) m.at (omega arith) (told_here Unreachable rest m 2 (inl refl)) (omega arith)
          (trap_traps text s (m.running.compiled.begin + m.here) 1 (has_here Unreachable rest m) m.at (omega arith)),
    )

    -- what a branch owes is paid
    abbrev Pays : Plain → Seq → Step → Type 0
    Pays p rest step = Follows text inst places outer c.store c.later (128 + 128 * owed_of step) (ahead (Simple p rest) + labels_ahead c.frame.labels) s step

    pub br_follows : (l : ℕ) (rest : Seq) → Here (Br l) rest → Pays (Br l) rest (simple inst c (Br l) rest)
    br_follows l rest m =
        let k = m.running.compiled in
        let os = m.running.os in
        let size = ahead (Simple (Br l) rest) + labels_ahead c.frame.labels in
        let x = by_label (map (λ (o : Open). o.takes) os) l (types_of_values c.frame.operands) m.running.sits.typed.0 (slice_get (map (λ (o : Open). o.takes) os) l) refl m.running.sits.typed.1 in
        let step = branch c c.frame.operands l c.frame.labels in
        let n = length x.takes in
        let y = branch_follows text near inst places outer stub c k m.address m.here (length (c.frame.operands ++ belows c.frame.labels)) s c.frame.operands (held_here (Br l) rest m) m.at refl (high_here (Br l) rest m)
        size l c.frame.labels os m.running.to m.running.there m.running.fit x.takes x.stops.rest x.is x.stops.before (stand_here (Br l) rest m) (omega arith) (has_here (Br l) rest m) (inside_here (Br l) rest m) in
        follows_less text inst places outer c.store c.later (12 + 12 * n) (128 + 128 * owed_of step) size s step (omega (arith, y.1, carried_pays n)) y.0

    pub return_follows : (rest : Seq) → Here Return rest → Pays Return rest (simple inst c Return rest)
    return_follows rest m =
        let k = m.running.compiled in
        let size = ahead (Simple Return rest) + labels_ahead c.frame.labels in
        let x = stops k.context.results (types_of_values c.frame.operands) m.running.sits.typed.0 m.running.sits.typed.1 in
        let last = own_is_last k c.frame.labels m.running.os m.running.to m.running.there m.running.fit in
        let j = length (c.frame.operands ++ belows c.frame.labels) in
        let step = returns c c.frame.operands in
        let n = length k.context.results in
        let y = returns_follow text near inst places outer stub c k m.address m.here j s c.frame.operands (held_here Return rest m) m.at refl (high_here Return rest m)
        size x.rest x.before (subst (λ (label : Label). HasAt text (k.begin + m.here) (jump_words k.around j m.here label) × (k.begin + (m.here + length (jump_words k.around j m.here label)) ≤ length text)) last (has_here Return rest m, inside_here Return rest m)) in
        follows_less text inst places outer c.store c.later (12 + 12 * n) (128 + 128 * owed_of step) size s step (omega (arith, y.1, carried_pays n)) y.0
