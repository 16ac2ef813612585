-- A branch: values move down to the label's base, and a jump leads to the label's word. The induction is over the labels
-- that are passed.
use Rattle.std.proofs.Common.{◌≡◌, ℕ, zero, suc, ◌+◌, ◌^◌, ◌≤◌, inl, List, [], ◌∷◌, ◌++◌, length, map, take, reverse, Option, Some, refl, sym, ap, ◌∙◌, subst, append_assoc, arith, ◌*◌}
use Rattle.std.specs.Prelude.{slice_get}
use Rattle.std.proofs.lemmas.List.{length-append, append-nil, length-reverse}
use Rattle.rv_isa.specs.declared.operations.Op.{Op}
use Rattle.rv_isa.specs.Steps.{State}
use Rattle.rv_isa.specs.Runs.{place, HasAt}
use Rattle.wasm_defs.specs.Typing.{Types}
use Rattle.wasm_defs.specs.Values.{Value, types_of_values}
use Rattle.wasm_defs.specs.Configurations.{Instance, Config, Step, belows, used, Store, Invocation, Frame}
use Rattle.wasm_defs.specs.Configurations as config
use Rattle.wasm_defs.specs.Reductions.{returns, branch, carried, hand_out, finish}
use Rattle.frame_layout.specs.Slots.{operand}
use Rattle.frame_layout.specs.Templates.{label_at, jump_words, exit_stub}
use Rattle.simulation.specs.Functions.{TextPlaces}
use Rattle.simulation.proofs.Frames.Frames.{Open, label_of, labels_of, Compiled, own, Opened, SitsAt, Fit}
use Rattle.simulation.proofs.Frames.Follows.{callers_kept, Follows, owed_of}
use Rattle.simulation.proofs.Frames.Holding.{Held, arrives, follows_less, follows_after}
use Rattle.simulation.proofs.Frames.Leaving.{operands_below, own_near, leaves_follow}
use Rattle.simulation.proofs.Frames.Rules.{types_length, types_append, types_split}
use Rattle.simulation.proofs.Frames.Values.{Operands, Matches}
use Rattle.simulation.proofs.Control.Moves.{Jumps, jumps_by}

-- what is owed for values is enough for their moves, and for those of results
pub carried_pays : (n : ℕ) → 12 * n ≤ 12 + 128 * carried n
carried_pays zero = omega arith
carried_pays (suc zero) = omega arith
carried_pays (suc (suc n)) = omega arith

-- a return owes what is said
hand_out_owes : (store : Store) (owed : ℕ) (values : List Value) (later : List Invocation) → owed_of (hand_out store owed values later) ≡ owed
hand_out_owes store zero values [] = refl
hand_out_owes store zero values (i ∷ later) = refl
hand_out_owes store (suc n) values later = refl

pub finish_owes : (store : Store) (owed : ℕ) (values : List Value) (callers : List Frame) (later : List Invocation) → owed_of (finish store owed values callers later) ≡ owed
finish_owes store owed values [] later = hand_out_owes store owed values later
finish_owes store owed values (f ∷ fs) later = refl

module _ (text : List (Option Op)) (near : length text ≤ 2 ^ 26) (inst : Instance) (places : TextPlaces) (outer : Types) (stub : HasAt text 0 exit_stub)
    (c : Config) (k : Compiled text inst places c.frame.function) (address here j : ℕ) (s : State) (ops : List Value) (held : Held text inst places outer c.frame c.callers k address ops s)
    (at : s.pc ≡ place (k.begin + here)) (top : j ≡ length (ops ++ belows c.frame.labels)) (high : length (ops ++ belows c.frame.labels) ≤ k.around.layout.greatest) where
  abbrev Words : Open → Type 0
  Words o = HasAt text (k.begin + here) (jump_words k.around j here (label_of o)) × (k.begin + (here + length (jump_words k.around j here (label_of o))) ≤ length text)

  abbrev Stand : List Value → Type 0
  Stand under = Operands s.bytes (used c.callers + operand k.around.layout 0) under

  -- where a branch of so many values leads
  abbrev Comes : (takes size : ℕ) → Step → Type 0
  Comes takes size step = Follows text inst places outer c.store c.later (12 + 12 * takes) size s step × (owed_of step ≡ carried takes)

  jumps_to : (o : Open) (us : Types) (under : List Value) → types_of_values ops ≡ o.takes ++ us → o.base ≡ length under → length under ≤ length (belows c.frame.labels) → k.begin + o.place ≤ length text
      → Words o → Stand under → Jumps text (6 * length o.takes + 2) k.around (used c.callers) address k.begin c.frame.locals (take (length o.takes) ops ++ under) s o.place
  jumps_to o us under types base_is low target words stand =
      let few = types_split o.takes us ops types in
      jumps_by text near k.around (used c.callers) address k.begin c.frame.locals s here at (length o.takes) o.base o.place j ops (belows c.frame.labels) under few.2 base_is low top
      high words.1 target words.0 held.matches stand

  -- to the function's own label
  pub returns_follow : (size : ℕ) (us : Types) → types_of_values ops ≡ k.context.results ++ us → Words (own text inst places k) → Comes (length k.context.results) size (returns c ops)
  returns_follow size us types words =
      let n = length k.context.results in
      let count : length c.frame.function.ty.results ≡ n = omega (arith, ap length k.results_are, length-reverse c.frame.function.ty.results) in
      let vs = take (length c.frame.function.ty.results) ops in
      let x = jumps_to (own text inst places k) us [] types refl (omega arith) (own_near text near inst places outer stub k) words tt in
      let same : take n ops ++ [] ≡ vs = append-nil (take n ops) ∙ ap (λ (m : ℕ). take m ops) (sym count) in
      let matches = subst (λ (os : List Value). Matches k.around.layout (used c.callers) address s.bytes c.frame.locals os x.end) same x.matches in
      let split = types_split k.context.results us ops types in
      let are : types_of_values vs ≡ reverse c.frame.function.ty.results = ap (λ (m : ℕ). types_of_values (take m ops)) count ∙ split.0 ∙ k.results_are in
      let size_is : length vs ≡ n = sym (types_length vs) ∙ ap length are ∙ length-reverse c.frame.function.ty.results ∙ count in
      let after = 10 + 6 * length c.frame.function.ty.results in (
        follows_less text inst places outer c.store c.later (x.steps + after) (12 + 12 * n) size s (returns c ops) (omega (arith, x.short, count))
            (follows_after text inst places outer c.store c.later x.steps after size s x.end x.reaches x.matches.beside x.registers (returns c ops)
            (leaves_follow text near inst places outer stub c.store c.later size c.frame c.callers k address s.bytes vs c.frame.locals x.end matches x.pc_is are
            (omega (arith, size_is, split.2, length-append ops (belows c.frame.labels)))
            (callers_kept text inst places outer s.bytes x.end.bytes address (reverse c.frame.function.ty.results) c.callers x.matches.low held.stay) (carried (length c.frame.function.ty.results)))),
        finish_owes c.store (carried (length c.frame.function.ty.results)) vs c.callers c.later ∙ ap carried count,
      )

  -- to an open label
  opened_follows : (size : ℕ) (o : Open) (os : List Open) (l : config.Label) (ls : List config.Label) (to : Types) (there : ℕ) (outmost : Types) (outmost_there : ℕ) → Opened text inst places k o os l ls to there outmost outmost_there
      → Fit text inst places k ls os outmost outmost_there → (us : Types) → types_of_values ops ≡ o.takes ++ us → Stand (belows (l ∷ ls)) → length (belows (l ∷ ls)) ≤ length (belows c.frame.labels) → Words o
      → Comes (length o.takes) size (branch c ops 0 (l ∷ ls))
  opened_follows size o os l ls to there outmost outmost_there x fit us types stand low words =
      let j = jumps_to o us (l.below ++ belows ls) types x.base low x.near words stand in
      let split = types_split o.takes us ops types in
      let vs = take l.arity ops ++ l.below in
      let same : take (length o.takes) ops ++ (l.below ++ belows ls) ≡ vs ++ belows ls =
      ap (λ (n : ℕ). take n ops ++ (l.below ++ belows ls)) (sym x.arity) ∙ sym (append_assoc (take l.arity ops) l.below (belows ls)) in
      let are : o.takes ++ types_of_values l.below ≡ types_of_values vs =
      ap (λ (ts : Types). ts ++ types_of_values l.below) (sym split.0 ∙ ap (λ (n : ℕ). types_of_values (take n ops)) (sym x.arity)) ∙ sym (types_append (take l.arity ops) l.below) in (
        record {
          same_store = refl;
          same_later = refl;
          leads = record {
            steps = j.steps;
            short = omega (arith, j.short);
            end = j.end;
            reaches = j.reaches;
            stay = arrives text inst places outer c.frame c.callers k address ops s j.end o.place outmost_there vs l.target ls os outmost held
                (subst (λ (ws : List Value). Matches k.around.layout (used c.callers) address s.bytes c.frame.locals ws j.end) same j.matches) j.pc_is
                (subst (λ (ts : Types). SitsAt text inst places k os (Some (length ts + length (belows ls))) ts o.place l.target outmost outmost_there) are x.target) fit;
            beside = j.matches.beside;
            registers = j.registers;
          };
          moves = inl j.some;
        },
        ap carried x.arity,
      )

  -- from label to label, outwards
  own_follows : (size l : ℕ) (ts us : Types) → slice_get (map (λ (o : Open). o.takes) (own text inst places k ∷ [])) l ≡ Some ts → types_of_values ops ≡ ts ++ us
      → HasAt text (k.begin + here) (jump_words k.around j here (label_at k.around (labels_of (own text inst places k ∷ [])) l))
      → k.begin + (here + length (jump_words k.around j here (label_at k.around (labels_of (own text inst places k ∷ [])) l))) ≤ length text → Comes (length ts) size (branch c ops l [])
  own_follows size zero ts us is types has inside =
      let same : k.context.results ≡ ts = cc in
      subst (λ (n : ℕ). Comes n size (returns c ops)) (ap length same) (returns_follow size us (types ∙ ap (λ (x : Types). x ++ us) (sym same)) (has, inside))
  own_follows size (suc l) ts us is types has inside = absurd cc

  pub branch_follows : (size l : ℕ) (labels : List config.Label) (os : List Open) (to : Types) (there : ℕ) → Fit text inst places k labels os to there → (ts us : Types) → slice_get (map (λ (o : Open). o.takes) os) l ≡ Some ts → types_of_values ops ≡ ts ++ us
      → Stand (belows labels) → length (belows labels) ≤ length (belows c.frame.labels) → HasAt text (k.begin + here) (jump_words k.around j here (label_at k.around (labels_of os) l))
      → k.begin + (here + length (jump_words k.around j here (label_at k.around (labels_of os) l))) ≤ length text → Comes (length ts) size (branch c ops l labels)
  branch_follows size l [] os to there fit ts us is types stand low has inside =
      (subst (λ (os' : List Open). slice_get (map (λ (o : Open). o.takes) os') l ≡ Some ts → HasAt text (k.begin + here) (jump_words k.around j here (label_at k.around (labels_of os') l))
      → k.begin + (here + length (jump_words k.around j here (label_at k.around (labels_of os') l))) ≤ length text → Comes (length ts) size (branch c ops l []))
      (sym fit.0) (λ e h i. own_follows size l ts us e types h i)) is has inside
  branch_follows size l (label ∷ labels) [] to there fit ts us is types stand low has inside = absurd fit
  branch_follows size zero (label ∷ labels) (o ∷ os) to there fit ts us is types stand low has inside =
      let same : o.takes ≡ ts = cc in
      subst (λ (n : ℕ). Comes n size (branch c ops 0 (label ∷ labels))) (ap length same) (opened_follows size o os label labels to there fit.0 fit.1 fit.2 fit.3 us (types ∙ ap (λ (x : Types). x ++ us) (sym same)) stand low (has, inside))
  branch_follows size (suc l) (label ∷ labels) (o ∷ os) to there fit ts us is types stand low has inside =
      branch_follows size l labels os fit.0 fit.1 fit.3 ts us is types (operands_below s.bytes (used c.callers + operand k.around.layout 0) label.below (belows labels) stand)
      (omega (arith, length-append label.below (belows labels))) has inside
