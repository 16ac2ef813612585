-- An instruction that changes the store, or asks for pages, in the running frame of any configuration.
use Rattle.std.proofs.Common.{◌≡◌, ℕ, ◌+◌, ◌^◌, ◌≤◌, ◌⊎◌, inl, inr, List, ◌++◌, length, Option, Some, refl, sym, ap, ◌∙◌, subst, arith}
use Rattle.std.proofs.lemmas.List.{append_cancel_right}
use Rattle.rv_isa.specs.declared.operations.Op.{Op}
use Rattle.wasm_defs.specs.declared.value.TrapKind.{TrapKind}
use Rattle.wasm_defs.specs.declared.token.Plain.{Plain}
use Rattle.wasm_defs.specs.Trees.{Seq, Simple}
use Rattle.wasm_defs.specs.Typing.{Types, Context, Moves, Typed, rule_of}
use Rattle.wasm_defs.specs.Values.{Value, types_of_values, trap_number}
use Rattle.wasm_defs.specs.Configurations.{Instance, Store, Config, Step, Trapped, place_of, belows, used}
use Rattle.wasm_defs.specs.Reductions.{applied, simple}
use Rattle.wasm_defs.specs.Effects.{Effect, Gives, Traps, Fails, effect, bytes_written}
use Rattle.frame_layout.specs.Laws.{TrapsAt}
use Rattle.frame_layout.specs.Templates.{Label, declarations, words}
use Rattle.image_format.specs.Contents.{Image}
use Rattle.image_format.specs.Environment.{code_of_image}
use Rattle.image_format.specs.ImageRun.{Running}
use Rattle.simulation.specs.Covered.{IsStraightStep}
use Rattle.simulation.specs.Functions.{TextPlaces, global_types, StoreFits}
use Rattle.simulation.proofs.Frames.Frames.{labels_of, under, Compiled, SitsAt, FramesStay}
use Rattle.simulation.proofs.Frames.Follows.{matches_now, stands_on, ahead, labels_ahead, halts_at}
use Rattle.simulation.proofs.Frames.Rules.{types_append}
use Rattle.simulation.proofs.Frames.Values as values
use Rattle.simulation.specs.Entries.{AreEntries}
use Rattle.simulation.specs.Laws.{EnvironmentStands}
use Rattle.simulation.proofs.Changing.{Passes, passes}
use Rattle.simulation.proofs.Entering.{table_kept}
use Rattle.simulation.proofs.Matching.{StoreStays, Matches, Leads, lifted}
use Rattle.simulation.proofs.Straight.Effects.{above, enough, effect_above, written_above, ChangesStore}
use Rattle.simulation.proofs.Straight.Instructions as one
use Rattle.simulation.proofs.Straight.Lifts.{simple_applied, behind, moves_all, low_now, has_now, told_now, size_now}

module _ (im : Image) (near : length (code_of_image im) ≤ 2 ^ 26) (inst : Instance) (places : TextPlaces) (outer : Types) (environment : EnvironmentStands inst im places) (c : Config) (r : Running) (x : Matches im inst places outer c r)
    (p : Plain) (rest : Seq) (step : IsStraightStep p) (changes : ChangesStore p) (m : FramesStay (code_of_image im) inst places outer (record c.frame { code = Simple p rest }) c.callers r.machine) where
  abbrev text : List (Option Op)
  text = code_of_image im

  abbrev k : Compiled (code_of_image im) inst places c.frame.function
  k = m.running.compiled

  abbrev at : Context
  at = under k.context m.running.os

  abbrev labels : List Label
  labels = labels_of m.running.os

  abbrev lower : List Value
  lower = belows c.frame.labels

  abbrev size : ℕ
  size = ahead (Simple p rest) + labels_ahead c.frame.labels

  abbrev Whole : Effect → Type 0
  Whole e = effect c.store c.frame.locals im.cap p (c.frame.operands ++ belows c.frame.labels) ≡ e

  abbrev Goes : Types → Type 0
  Goes mid = Passes im at labels k.around (used c.callers) m.address c.store c.frame.locals (c.frame.operands ++ belows c.frame.labels) p (mid ++ types_of_values (belows c.frame.labels)) m.here r

  abbrev Stops : Type 0
  Stops = one.Halts (code_of_image im) c.store im.cap c.frame.locals (c.frame.operands ++ belows c.frame.labels) p r.machine

  -- what the function's context says holds of the store
  fits_now : StoreFits (under m.running.compiled.context m.running.os) c.store
  fits_now = record {
    globals = ap global_types k.globals_are ∙ x.store.types.globals;
    segments = subst (λ (n : ℕ). n ≤ length c.store.segments) (sym k.segments_are) x.store.types.segments;
  }

  module _ (mid : Types) (moves : Moves (rule_of at p) (types_of_values c.frame.operands) mid) (typed : Typed at rest mid m.running.to) where
    comes : Goes mid ⊎ Stops
    comes =
        passes im near environment.few at labels k.around (used c.callers) m.address c.store c.frame.locals m.here r (k.begin + m.here) m.at x.store.stands fits_now p (c.frame.operands ++ belows c.frame.labels)
        (mid ++ types_of_values (belows c.frame.labels)) step changes (moves_all text near inst places outer c r.machine p rest step m mid moves) (low_now text near inst places outer c r.machine p rest step m) (has_now text near inst places outer c r.machine p rest step m)
        (matches_now text inst places outer (record c.frame { code = Simple p rest }) c.callers r.machine m)

    abbrev Goal : Effect → Type 0
    Goal e = Leads im inst places outer 128 size r (applied c (place_of c.frame (Simple p rest)) rest (bytes_written p c.frame.operands) e)

    by_effect : (e : Effect) → Whole (above (belows c.frame.labels) e) → Goes mid ⊎ Stops → Goal e
    by_effect (Gives store locals operands) whole_is (inl y) =
        let z = y.change in
        let same : Gives store locals (operands ++ lower) ≡ Gives z.store_after c.frame.locals z.after = sym whole_is ∙ z.gives in
        let store_is : z.store_after ≡ store = cc in
        let locals_are : c.frame.locals ≡ locals = cc in
        let after_is : z.after ≡ operands ++ lower = cc in
        let all : types_of_values operands ++ types_of_values lower ≡ mid ++ types_of_values lower = sym (types_append operands lower) ∙ ap types_of_values (sym after_is) ∙ z.types_are in
        let types_are : types_of_values operands ≡ mid = append_cancel_right (types_of_values operands) mid (types_of_values lower) all in
        let owed : bytes_written p (c.frame.operands ++ lower) ≡ bytes_written p c.frame.operands = written_above p c.frame.operands lower step (enough at p c.frame.operands mid step moves) in
        let pc_is = y.pc_is in
        let at_is = m.at in
        let count = size_now text near inst places outer c r.machine p rest step m in
        let here = m.here + length (words k.around (declarations at) labels (length (types_of_values c.frame.operands) + length lower) m.here p) in
        let sits = behind text near inst places outer c r.machine p rest step m mid moves typed in
        record {
          steps = z.steps;
          within = omega (arith, z.short, owed);
          moves = inl z.some;
          to = y.last;
          goes = y.goes;
          matches = record {
            stay = stands_on text inst places outer (record c.frame { code = Simple p rest }) c.callers r.machine m here m.running.there y.bytes y.last.machine locals operands rest c.frame.labels m.running.os m.running.to (omega arith)
                (subst (λ (vs : List Value). values.Matches k.around.layout (used c.callers) m.address y.bytes vs (operands ++ lower) y.last.machine) locals_are
                (subst (λ (vs : List Value). values.Matches k.around.layout (used c.callers) m.address y.bytes c.frame.locals vs y.last.machine) after_is y.matches))
                y.low (ap types_of_values (sym locals_are))
                (subst (λ (ts : Types). SitsAt text inst places k m.running.os (Some (length ts + length lower)) ts here rest m.running.to m.running.there) (sym types_are) sits)
                m.running.fit;
            store = subst (λ (st : Store). StoreStays im inst places st y.last) store_is
                (record { calls = y.calls ∙ x.store.calls ∙ sym z.calls_stay; replies = y.replies ∙ x.store.replies ∙ sym z.replies_stay; stands = y.stands; types = record { globals = x.store.types.globals ∙ sym z.globals_stay; segments = subst (λ (n : ℕ). inst.context.segments ≤ n) (sym z.segments_stay) x.store.types.segments }; table = table_kept inst places r.machine.bytes y.last.machine.bytes y.table_stays x.store.table; told = x.store.told });
            results = y.results ∙ x.results;
            later = subst (AreEntries inst places c.later) (sym y.later) x.later;
          };
        }
    by_effect (Gives store locals operands) whole_is (inr y) = let wrong = sym whole_is ∙ y.gives in absurd cc
    by_effect (Traps kind) whole_is (inl y) = let wrong = sym whole_is ∙ y.change.gives in absurd cc
    by_effect (Traps kind) whole_is (inr y) =
        let same : Traps kind ≡ Traps y.kind = sym whole_is ∙ y.gives in
        let kind_is : y.kind ≡ kind = cc in
        lifted im inst places outer c.store c.later r x.store x.results x.later 128 size (Trapped c.store kind (place_of c.frame (Simple p rest))) (
          refl,
          halts_at text inst places outer c.store c.later 128 y.steps r.machine kind (k.begin + m.here) (k.begin + (m.here + y.word)) (place_of c.frame (Simple p rest)) m.at (omega (arith, y.ends))
              (told_now text near inst places outer c r.machine p rest step m y.word y.among) y.short (subst (λ (t : TrapKind). TrapsAt text y.steps y.behind (trap_number t) r.machine) kind_is y.traps),
        )
    by_effect Fails whole_is (inl y) = let wrong = sym whole_is ∙ y.change.gives in absurd cc
    by_effect Fails whole_is (inr y) = let wrong = sym whole_is ∙ y.gives in absurd cc

  pub storing_leads : Leads im inst places outer 128 (ahead (Simple p rest) + labels_ahead c.frame.labels) r (simple inst c p rest)
  storing_leads =
      let typed = m.running.sits.typed in
      let mid = typed.0 in
      let moves = typed.1 in
      let same_cap = ap (λ (n : ℕ). applied c (place_of c.frame (Simple p rest)) rest (bytes_written p c.frame.operands) (effect c.store c.frame.locals n p c.frame.operands)) (sym environment.cap) in
      subst (λ (next : Step). Leads im inst places outer 128 size r next) (sym (simple_applied inst c p rest step ∙ same_cap))
      (by_effect mid moves typed.2 (effect c.store c.frame.locals im.cap p c.frame.operands)
      (effect_above c.store c.frame.locals lower im.cap p c.frame.operands step (enough at p c.frame.operands mid step moves)) (comes mid moves typed.2))
