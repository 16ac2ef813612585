-- A straight instruction in the running frame of any configuration.
use Rattle.std.proofs.Common.{◌≡◌, ℕ, ◌+◌, ◌*◌, ◌^◌, ◌≤◌, ◌⊎◌, inl, inr, List, ◌++◌, length, Option, Some, refl, sym, ap, ◌∙◌, subst, arith}
use Rattle.std.proofs.lemmas.List.{length-append, append_cancel_right}
use Rattle.rv_isa.specs.declared.operations.Op.{Op}
use Rattle.rv_isa.specs.Steps.{State}
use Rattle.rv_isa.specs.Runs.{HasAt}
use Rattle.wasm_defs.specs.declared.token.Plain.{Plain}
use Rattle.wasm_defs.specs.declared.token.Plain.TheVariants.{Unreachable, Br, BrIf, BrTable, Return, Call, CallIndirect}
use Rattle.wasm_defs.specs.Trees.{Seq, Simple}
use Rattle.wasm_defs.specs.Typing.{Types, Context, Moves, Typed, rule_of}
use Rattle.wasm_defs.specs.Places.{Place, after_rule}
use Rattle.wasm_defs.specs.Values.{Value, types_of_values, trap_number}
use Rattle.wasm_defs.specs.declared.value.TrapKind.{TrapKind}
use Rattle.frame_layout.specs.Laws.{TrapsAt}
use Rattle.wasm_defs.specs.Configurations.{Instance, Config, Step, place_of, belows, used}
use Rattle.wasm_defs.specs.Reductions.{applied, simple}
use Rattle.wasm_defs.specs.Effects.{Effect, Gives, Traps, Fails, effect, bytes_written}
use Rattle.frame_layout.specs.Traps.{trap_places}
use Rattle.frame_layout.specs.Templates.{Label, declarations, words}
use Rattle.simulation.specs.Covered.{IsStraightStep}
use Rattle.simulation.proofs.Frames.Frames.{labels_of, under, Compiled, SitsAt, FramesStay}
use Rattle.simulation.proofs.Frames.Follows.{registers_of, matches_now, proceeds, leads_less, ahead, labels_ahead, halts_at, Follows}
use Rattle.simulation.proofs.Frames.Heights.{peak_here}
use Rattle.simulation.proofs.Frames.Rules.{types_length, types_append, moves_above, height_after}
use Rattle.simulation.proofs.Frames.Values.{Matches}
use Rattle.simulation.proofs.Frames.Sited.{IsIn}
use Rattle.simulation.proofs.Frames.Sitting.{has_words, trap_told, sits_rest}
use Rattle.simulation.proofs.Straight.Effects.{above, enough, effect_above, KeepsStore, none_written}
use Rattle.simulation.proofs.Straight.Instructions as one
use Rattle.simulation.proofs.Straight.Outcomes.{outcome}
use Rattle.simulation.specs.StoreStands.{StoreStands}
use Rattle.simulation.specs.Functions.{TextPlaces, global_types}

pub simple_applied : (inst : Instance) (c : Config) (p : Plain) (rest : Seq) → IsStraightStep p → simple inst c p rest ≡ applied c (place_of c.frame (Simple p rest)) rest (bytes_written p c.frame.operands) (effect c.store c.frame.locals inst.cap p c.frame.operands)
simple_applied inst c Unreachable rest h = absurd h
simple_applied inst c (Br l) rest h = absurd h
simple_applied inst c (BrIf l) rest h = absurd h
simple_applied inst c (BrTable ls l) rest h = absurd h
simple_applied inst c Return rest h = absurd h
simple_applied inst c (Call f) rest h = absurd h
simple_applied inst c (CallIndirect i table) rest h = absurd h
simple_applied inst c p rest h = refl

module _ (text : List (Option Op)) (near : length text ≤ 2 ^ 26) (inst : Instance) (places : TextPlaces) (outer : Types) (c : Config) (s : State) (p : Plain) (rest : Seq) (step : IsStraightStep p)
    (m : FramesStay text inst places outer (record c.frame { code = Simple p rest }) c.callers s) where
  abbrev k : Compiled text inst places c.frame.function
  k = m.running.compiled

  abbrev at : Context
  at = under k.context m.running.os

  abbrev labels : List Label
  labels = labels_of m.running.os

  abbrev n : ℕ
  n = length (belows c.frame.labels)

  abbrev types : Types
  types = types_of_values c.frame.operands

  pub height : length (types_of_values c.frame.operands) + length (belows c.frame.labels) ≡ length (c.frame.operands ++ belows c.frame.labels)
  height = omega (arith, types_length c.frame.operands, length-append c.frame.operands (belows c.frame.labels))

  module _ (mid : Types) (moves : Moves (rule_of (under m.running.compiled.context m.running.os) p) (types_of_values c.frame.operands) mid) where
    place_is : after_rule (rule_of at p) (Some (length types + n)) ≡ Some (length mid + n)
    place_is = height_after at p types mid n step moves

    pub behind : Typed (under m.running.compiled.context m.running.os) rest mid m.running.to
        → SitsAt text inst places m.running.compiled m.running.os (Some (length mid + length (belows c.frame.labels))) mid
        (m.here + length (words m.running.compiled.around (declarations (under m.running.compiled.context m.running.os)) (labels_of m.running.os) (length (types_of_values c.frame.operands) + length (belows c.frame.labels)) m.here p)) rest m.running.to m.running.there
    behind typed =
        subst (λ (q : Place). SitsAt text inst places k m.running.os q mid (m.here + length (words k.around (declarations at) labels (length types + n) m.here p)) rest m.running.to m.running.there) place_is
        (sits_rest text inst places k m.running.os p rest (length types + n) m.here types m.running.to m.running.there m.running.sits mid typed)

    -- what the words need where they begin
    pub moves_all : Moves (rule_of (under m.running.compiled.context m.running.os) p) (types_of_values (c.frame.operands ++ belows c.frame.labels)) (mid ++ types_of_values (belows c.frame.labels))
    moves_all =
        subst (λ (ts : Types). Moves (rule_of at p) ts (mid ++ types_of_values (belows c.frame.labels))) (sym (types_append c.frame.operands (belows c.frame.labels)))
        (moves_above (rule_of at p) types mid (types_of_values (belows c.frame.labels)) moves)

    pub low_behind : Typed (under m.running.compiled.context m.running.os) rest mid m.running.to → length (mid ++ types_of_values (belows c.frame.labels)) ≤ m.running.compiled.around.layout.greatest
    low_behind typed =
        let later = behind typed in
        let next = peak_here at rest (length mid + n) in
        omega (arith, later.low, length-append mid (types_of_values (belows c.frame.labels)), types_length (belows c.frame.labels))

  pub low_now : length (c.frame.operands ++ belows c.frame.labels) ≤ m.running.compiled.around.layout.greatest
  low_now =
      let low = m.running.sits.low in
      let first = peak_here at (Simple p rest) (length types + n) in
      omega (arith, height)

  pub has_now : HasAt text (m.running.compiled.begin + m.here) (words m.running.compiled.around (declarations (under m.running.compiled.context m.running.os)) (labels_of m.running.os) (length (c.frame.operands ++ belows c.frame.labels)) m.here p)
  has_now =
      subst (λ (h : ℕ). HasAt text (k.begin + m.here) (words k.around (declarations at) labels h m.here p)) height
      (has_words text inst places k m.running.os p rest (length types + n) m.here types m.running.to m.running.there m.running.sits)

  -- a trap of the instruction comes from its source location
  pub told_now : (word : ℕ) → IsIn word (trap_places p) → places.trap (m.running.compiled.begin + (m.here + word)) ≡ Some (place_of c.frame (Simple p rest))
  told_now word among =
      trap_told text inst places k m.running.os p rest (length types + n) m.here types m.running.to m.running.there m.running.sits c.frame.labels m.running.fit word among

  pub size_now : length (words m.running.compiled.around (declarations (under m.running.compiled.context m.running.os)) (labels_of m.running.os) (length (c.frame.operands ++ belows c.frame.labels)) m.here p)
      ≡ length (words m.running.compiled.around (declarations (under m.running.compiled.context m.running.os)) (labels_of m.running.os) (length (types_of_values c.frame.operands) + length (belows c.frame.labels)) m.here p)
  size_now = ap (λ (h : ℕ). length (words k.around (declarations at) labels h m.here p)) (sym height)

  module _ (pages : ℕ) (holds : StoreStands c.store pages inst.cap s) (globals_are : global_types inst.context.globals ≡ types_of_values c.store.globals) where
    abbrev Whole : Effect → Type 0
    Whole e = effect c.store c.frame.locals inst.cap p (c.frame.operands ++ belows c.frame.labels) ≡ e

    abbrev Goes : Types → Type 0
    Goes mid = one.Follows text at labels k.around (used c.callers) m.address s.bytes c.store inst.cap c.frame.locals (c.frame.operands ++ belows c.frame.labels) p (mid ++ types_of_values (belows c.frame.labels)) m.here s

    abbrev Stops : Type 0
    Stops = one.Halts text c.store inst.cap c.frame.locals (c.frame.operands ++ belows c.frame.labels) p s

    module _ (mid : Types) (moves : Moves (rule_of at p) types mid) where
      comes : KeepsStore p → Typed at rest mid m.running.to → Goes mid ⊎ Stops
      comes keeps typed =
          outcome text near at labels k.around (used c.callers) m.address s.bytes c.store inst.cap c.frame.locals m.running.are m.here s (k.begin + m.here) m.at pages holds (ap global_types k.globals_are ∙ globals_are) p (c.frame.operands ++ belows c.frame.labels)
          (mid ++ types_of_values (belows c.frame.labels)) step keeps (moves_all mid moves) low_now (low_behind mid moves typed) has_now
          (matches_now text inst places outer (record c.frame { code = Simple p rest }) c.callers s m)

      abbrev Goal : Effect → Type 0
      Goal e = Follows text inst places outer c.store c.later 128 (ahead (Simple p rest) + labels_ahead c.frame.labels) s (applied c (place_of c.frame (Simple p rest)) rest 0 e)

      by_effect : Typed at rest mid m.running.to → (e : Effect) → Whole (above (belows c.frame.labels) e) → Goes mid ⊎ Stops → Goal e
      by_effect typed (Gives store locals operands) whole_is (inl x) =
          let same : Gives store locals (operands ++ belows c.frame.labels) ≡ Gives c.store x.locals_after x.after = sym whole_is ∙ x.gives in
          let store_is : store ≡ c.store = cc in
          let locals_are : x.locals_after ≡ locals = cc in
          let after_is : x.after ≡ operands ++ belows c.frame.labels = cc in
          let all : types_of_values operands ++ types_of_values (belows c.frame.labels) ≡ mid ++ types_of_values (belows c.frame.labels) =
          sym (types_append operands (belows c.frame.labels)) ∙ ap types_of_values (sym after_is) ∙ x.types_are in
          let types_are : types_of_values operands ≡ mid = append_cancel_right (types_of_values operands) mid (types_of_values (belows c.frame.labels)) all in
          let pc_is = x.pc_is in
          let at_is = m.at in
          let size = size_now in
          record {
            same_store = store_is;
            same_later = refl;
            leads = leads_less text inst places outer (128 + 128 * 0) (omega arith)
                (proceeds text inst places outer (record c.frame { code = Simple p rest }) c.callers s m 128 x.steps (m.here + length (words k.around (declarations at) labels (length types + n) m.here p)) m.running.there x.end locals operands rest c.frame.labels m.running.os m.running.to
                x.short x.reaches (omega arith)
                (subst (λ (vs : List Value). Matches k.around.layout (used c.callers) m.address s.bytes vs (operands ++ belows c.frame.labels) x.end) locals_are
                (subst (λ (vs : List Value). Matches k.around.layout (used c.callers) m.address s.bytes x.locals_after vs x.end) after_is x.matches))
                (ap types_of_values (sym locals_are) ∙ x.locals_are)
                (subst (λ (ts : Types). SitsAt text inst places k m.running.os (Some (length ts + n)) ts (m.here + length (words k.around (declarations at) labels (length types + n) m.here p)) rest m.running.to m.running.there) (sym types_are) (behind mid moves typed))
                m.running.fit (registers_of s x.end x.others));
            moves = inr (omega arith);
          }
      by_effect typed (Gives store locals operands) whole_is (inr x) = let wrong = sym whole_is ∙ x.gives in absurd cc
      by_effect typed (Traps kind) whole_is (inl x) = let wrong = sym whole_is ∙ x.gives in absurd cc
      by_effect typed (Traps kind) whole_is (inr x) =
          let same : Traps kind ≡ Traps x.kind = sym whole_is ∙ x.gives in
          let kind_is : x.kind ≡ kind = cc in (
            refl,
            halts_at text inst places outer c.store c.later 128 x.steps s kind (k.begin + m.here) (k.begin + (m.here + x.word)) (place_of c.frame (Simple p rest)) m.at (omega (arith, x.ends)) (told_now x.word x.among) x.short
                (subst (λ (t : TrapKind). TrapsAt text x.steps x.behind (trap_number t) s) kind_is x.traps),
          )
      by_effect typed Fails whole_is (inl x) = let wrong = sym whole_is ∙ x.gives in absurd cc
      by_effect typed Fails whole_is (inr x) = let wrong = sym whole_is ∙ x.gives in absurd cc

    pub straight_follows : KeepsStore p → Follows text inst places outer c.store c.later 128 (ahead (Simple p rest) + labels_ahead c.frame.labels) s (simple inst c p rest)
    straight_follows keeps =
        let typed = m.running.sits.typed in
        let mid = typed.0 in
        let moves = typed.1 in
        subst (λ (x : Step). Follows text inst places outer c.store c.later 128 (ahead (Simple p rest) + labels_ahead c.frame.labels) s x) (sym (simple_applied inst c p rest step ∙ ap (λ (n : ℕ). applied c (place_of c.frame (Simple p rest)) rest n (effect c.store c.frame.locals inst.cap p c.frame.operands)) (none_written p c.frame.operands keeps)))
        (by_effect mid moves typed.2 (effect c.store c.frame.locals inst.cap p c.frame.operands)
        (effect_above c.store c.frame.locals (belows c.frame.labels) inst.cap p c.frame.operands step (enough at p c.frame.operands mid step moves)) (comes mid moves keeps typed.2))
