-- The rules of blocks and loops, and of the end of a block and of a function.
use Rattle.std.proofs.Common.{◌≡◌, ℕ, ◌+◌, ◌^◌, ◌<◌, ◌≤◌, inr, ⊎_elim, List, [], ◌∷◌, ◌++◌, length, take, drop, reverse, Option, Some, refl, sym, ap, ◌∙◌, subst, append_assoc, arith, ◌*◌}
use Rattle.std.proofs.lemmas.List.{length-append, append-nil, take_all, length-reverse}
use Rattle.rv_isa.specs.declared.operations.Op.{Op}
use Rattle.rv_isa.specs.Steps.{State}
use Rattle.rv_isa.specs.Runs.{place, HasAt, Reaches}
use Rattle.rv_isa.proofs.RunLaws.{Reaches-none}
use Rattle.wasm_defs.specs.declared.token.BlockType.{BlockType}
use Rattle.wasm_defs.specs.Trees.{Seq, Nothing, Block, Loop}
use Rattle.wasm_defs.specs.Typing.{Types, Signature}
use Rattle.wasm_defs.specs.Places.{shape}
use Rattle.wasm_defs.specs.Values.{Value, types_of_values}
use Rattle.wasm_defs.specs.Configurations.{Instance, Frame, Config, Step, belows, used}
use Rattle.wasm_defs.specs.Configurations as config
use Rattle.wasm_defs.specs.Reductions.{within, leave, returns, reduce, carried}
use Rattle.frame_layout.specs.Macros.{distance, far}
use Rattle.frame_layout.specs.Templates.{exit_stub}
use Rattle.simulation.specs.Functions.{TextPlaces}
use Rattle.simulation.proofs.Frames.Frames.{Open, under, Compiled, own, Opened, SitsAt, Fit, FramesStay, KeepsRegisters}
use Rattle.simulation.proofs.Frames.Follows.{same_beside, callers_kept, ahead, labels_ahead, Reached, Follows, owed_of}
use Rattle.simulation.proofs.Frames.Heights.{peak_here, shape_by_types}
use Rattle.simulation.proofs.Frames.Holding.{Held, held_now, arrives, follows_less, follows_after}
use Rattle.simulation.proofs.Frames.Leaving.{own_near, leaves_follow}
use Rattle.simulation.proofs.Frames.Rules.{types_length, types_append, types_split}
use Rattle.simulation.proofs.Frames.Values.{Matches}
use Rattle.simulation.proofs.Control.Blocks.{block_stop, loop_stop, block_pieces, loop_pieces, behind_sits, enters}
use Rattle.simulation.proofs.Control.Branches.{carried_pays, finish_owes}
use Rattle.simulation.proofs.Control.Moves.{far_jumps}

module _ (text : List (Option Op)) (near : length text ≤ 2 ^ 26) (inst : Instance) (places : TextPlaces) (outer : Types) (stub : HasAt text 0 exit_stub) (c : Config) (s : State) where
  abbrev Here : Seq → Type 0
  Here tree = FramesStay text inst places outer (record c.frame { code = tree }) c.callers s

  abbrev pub Goal : Seq → Step → Type 0
  Goal tree step = Follows text inst places outer c.store c.later 128 (ahead tree + labels_ahead c.frame.labels) s step

  -- the height, by all operands
  pub sits_whole : (tree : Seq) → (m : Here tree) → SitsAt text inst places m.running.compiled m.running.os (Some (length (c.frame.operands ++ belows c.frame.labels))) (types_of_values c.frame.operands) m.here tree m.running.to m.running.there
  sits_whole tree m =
      let e : length (types_of_values c.frame.operands) + length (belows c.frame.labels) ≡ length (c.frame.operands ++ belows c.frame.labels) = omega (arith, types_length c.frame.operands, length-append c.frame.operands (belows c.frame.labels)) in
      subst (λ (h : ℕ). SitsAt text inst places m.running.compiled m.running.os (Some h) (types_of_values c.frame.operands) m.here tree m.running.to m.running.there) e m.running.sits

  abbrev Same : {tree : Seq} → (m : Here tree) → BlockType → Signature
  Same m type = shape (under m.running.compiled.context m.running.os) type

  pub same_shape : (tree : Seq) (m : Here tree) (type : BlockType) → shape (under m.running.compiled.context m.running.os) type ≡ shape inst.context type
  same_shape tree m type = shape_by_types (under m.running.compiled.context m.running.os) inst.context type m.running.compiled.types_are

  -- no step, and fewer rules ahead
  pub still : {most : ℕ} (f : Frame) (size : ℕ) → FramesStay text inst places outer f c.callers s → ahead f.code + labels_ahead f.labels < size → Reached text inst places outer c.store c.later most size s (record c { frame = f; owed = 0 })
  still {most} f size stay fewer = record {
    same_store = refl;
    same_later = refl;
    leads = record { steps = 0; short = omega arith; end = s; reaches = Reaches-none text s; stay = stay; beside = same_beside s.bytes s.bytes refl; registers = record { by = λ r a b d. refl } };
    moves = inr (omega arith);
  }

  pub block_follows : (type : BlockType) (body rest : Seq) → Here (Block type body rest) → Goal (Block type body rest) (reduce inst c (Block type body rest))
  block_follows type body rest m =
      let k = m.running.compiled in
      let os = m.running.os in
      let ops = c.frame.operands in
      let h = length (ops ++ belows c.frame.labels) in
      let sig = Same m type in
      let same = same_shape (Block type body rest) m type in
      let p = block_pieces text inst places k os type body rest h m.here (types_of_values ops) m.running.to m.running.there (sits_whole (Block type body rest) m) in
      let stop = block_stop text inst places k os type body h m.here in
      let held = held_now text inst places outer (record c.frame { code = Block type body rest }) c.callers s m in
      let aims = behind_sits text inst places outer (record c.frame { code = Block type body rest }) c.callers k m.address os ops s s held sig sig.results p.0 m.here stop stop 1 body rest m.running.to m.running.there p.1 p.2 in
      subst (λ (g : Signature). Goal (Block type body rest) (within c ops g (length g.results) rest body 1 rest)) same
      (still (record c.frame { operands = take (length sig.params) ops; code = body; labels = record { arity = length sig.results; target = rest; below = drop (length sig.params) ops; after = rest; between = 1 } ∷ c.frame.labels })
      (ahead (Block type body rest) + labels_ahead c.frame.labels)
      (enters text inst places outer (record c.frame { code = Block type body rest }) c.callers k m.address os ops s s held sig sig.results p.0 m.here stop stop 1 body rest m.running.to m.running.there p.1 p.2 rest aims p.2.near held.matches m.at m.running.fit)
      (omega arith))

  pub loop_follows : (type : BlockType) (body rest : Seq) → Here (Loop type body rest) → Goal (Loop type body rest) (reduce inst c (Loop type body rest))
  loop_follows type body rest m =
      let k = m.running.compiled in
      let os = m.running.os in
      let ops = c.frame.operands in
      let h = length (ops ++ belows c.frame.labels) in
      let sig = Same m type in
      let same = same_shape (Loop type body rest) m type in
      let p = loop_pieces text inst places k os type body rest h m.here (types_of_values ops) m.running.to m.running.there (sits_whole (Loop type body rest) m) in
      let stop = loop_stop text inst places k os type body h m.here in
      let held = held_now text inst places outer (record c.frame { code = Loop type body rest }) c.callers s m in
      let split = types_split sig.params p.0 ops p.1 in
      let types : types_of_values ops ≡ sig.params ++ types_of_values (drop (length sig.params) ops) = p.1 ∙ ap (λ (ts : Types). sig.params ++ ts) (sym split.1) in
      let inside = m.running.sits.inside in
      let aims = subst (λ (ts : Types). SitsAt text inst places k os (Some (length ts + length (belows c.frame.labels))) ts m.here (Loop type body rest) m.running.to m.running.there) types m.running.sits in
      subst (λ (g : Signature). Goal (Loop type body rest) (within c ops g (length g.params) (Loop type body rest) body 1 rest)) same
      (still (record c.frame { operands = take (length sig.params) ops; code = body; labels = record { arity = length sig.params; target = Loop type body rest; below = drop (length sig.params) ops; after = rest; between = 1 } ∷ c.frame.labels })
      (ahead (Loop type body rest) + labels_ahead c.frame.labels)
      (enters text inst places outer (record c.frame { code = Loop type body rest }) c.callers k m.address os ops s s held sig sig.params p.0 m.here stop m.here 1 body rest m.running.to m.running.there p.1 p.2 (Loop type body rest) aims (omega arith) held.matches m.at m.running.fit)
      (omega arith))

  -- ---- the end of a sequence

  -- it falls through, or jumps
  record Ends (k : Compiled text inst places c.frame.function) (address : ℕ) (locals operands : List Value) (there : ℕ) : Type 0 where
    steps : ℕ
    short : steps ≤ 2
    end : State
    reaches : Reaches text steps s end
    pc_is : end.pc ≡ place (k.begin + there)
    matches : Matches k.around.layout (used c.callers) address s.bytes locals operands end
    registers : KeepsRegisters s end

  module _ (labels : List config.Label) (m : FramesStay text inst places outer (record c.frame { code = Nothing; labels = labels }) c.callers s) where
    abbrev k : Compiled text inst places c.frame.function
    k = m.running.compiled

    abbrev ops : List Value
    ops = c.frame.operands

    abbrev Comes : Step → Type 0
    Comes step = Follows text inst places outer c.store c.later (128 + 128 * owed_of step) (labels_ahead labels) s step

    held : Held text inst places outer (record c.frame { code = Nothing; labels = labels }) c.callers m.running.compiled m.address c.frame.operands s
    held = held_now text inst places outer (record c.frame { code = Nothing; labels = labels }) c.callers s m

    ends : m.running.compiled.begin + m.running.there ≤ length text → Ends m.running.compiled m.address c.frame.locals (c.frame.operands ++ belows labels) m.running.there
    ends target = ⊎_elim falls jumps m.running.sits.ending
      where
        falls : m.here + 0 ≡ m.running.there → Ends m.running.compiled m.address c.frame.locals (c.frame.operands ++ belows labels) m.running.there
        falls e = record { steps = 0; short = omega arith; end = s; reaches = Reaches-none text s; pc_is = m.at ∙ omega arith; matches = held.matches; registers = record { by = λ r a b d. refl } }

        jumps : HasAt text (m.running.compiled.begin + (m.here + 0)) (far (distance (m.here + 0) m.running.there)) → Ends m.running.compiled m.address c.frame.locals (c.frame.operands ++ belows labels) m.running.there
        jumps has =
            let inside = m.running.sits.inside in
            let j = far_jumps text near m.running.compiled.around (used c.callers) m.address m.running.compiled.begin c.frame.locals s (m.here + 0) m.running.there (m.at ∙ omega arith) (omega arith) target 2 (omega arith) (c.frame.operands ++ belows labels) has held.matches in
            record { steps = j.steps; short = j.short; end = j.end; reaches = j.reaches; pc_is = j.pc_is; matches = j.matches; registers = j.registers }

    -- of the function
    function_ends : belows labels ≡ [] → m.running.to ≡ k.context.results → m.running.there ≡ (own text inst places k).place → Comes (returns c c.frame.operands)
    function_ends none to_is there_is =
        let target : k.begin + m.running.there ≤ length text = omega (arith, there_is, own_near text near inst places outer stub k) in
        let e = ends target in
        let rs = c.frame.function.ty.results in
        let types : types_of_values ops ≡ reverse rs = m.running.sits.typed ∙ to_is ∙ k.results_are in
        let count : length rs ≡ length ops = sym (length-reverse rs) ∙ sym (ap length types) ∙ types_length ops in
        let all : take (length rs) ops ≡ ops = take_all (length rs) ops (omega arith) in
        let whole_is : ops ++ belows labels ≡ take (length rs) ops = ap (λ (vs : List Value). ops ++ vs) none ∙ append-nil ops ∙ sym all in
        let low = m.running.sits.low in
        let high = peak_here (under k.context m.running.os) Nothing (length (types_of_values ops) + length (belows labels)) in
        let owed = carried (length rs) in
        let after = 10 + 6 * length rs in
        let owes = finish_owes c.store owed (take (length rs) ops) c.callers c.later in
        follows_less text inst places outer c.store c.later (e.steps + after) (128 + 128 * owed_of (returns c ops)) (labels_ahead labels) s (returns c ops) (omega (arith, e.short, owes, carried_pays (length rs)))
        (follows_after text inst places outer c.store c.later e.steps after (labels_ahead labels) s e.end e.reaches e.matches.beside e.registers (returns c ops)
        (leaves_follow text near inst places outer stub c.store c.later (labels_ahead labels) c.frame c.callers k m.address s.bytes (take (length rs) ops) c.frame.locals e.end
        (subst (λ (vs : List Value). Matches k.around.layout (used c.callers) m.address s.bytes c.frame.locals vs e.end) whole_is e.matches)
        (e.pc_is ∙ ap (λ (n : ℕ). place (k.begin + n)) there_is) (ap types_of_values all ∙ types) (omega (arith, ap length all, types_length ops))
        (callers_kept text inst places outer s.bytes e.end.bytes m.address (reverse rs) c.callers e.matches.low m.callers_stay) owed))

    -- of a block
    block_ends : (l : config.Label) (ls : List config.Label) (o : Open) (os : List Open) (outmost : Types) (outmost_there : ℕ) → belows labels ≡ l.below ++ belows ls → ahead l.after + labels_ahead ls < labels_ahead labels
        → Opened text inst places k o os l ls m.running.to m.running.there outmost outmost_there → Fit text inst places k ls os outmost outmost_there → Comes (leave c (l ∷ ls))
    block_ends l ls o os outmost outmost_there below fewer x fit =
        let e = ends x.end_near in
        let vs = ops ++ l.below in
        let whole_is : ops ++ belows labels ≡ vs ++ belows ls = ap (λ (ws : List Value). ops ++ ws) below ∙ sym (append_assoc ops l.below (belows ls)) in
        let types : m.running.to ++ types_of_values l.below ≡ types_of_values vs = ap (λ (ts : Types). ts ++ types_of_values l.below) (sym m.running.sits.typed) ∙ sym (types_append ops l.below) in
        record {
          same_store = refl;
          same_later = refl;
          leads = record {
            steps = e.steps;
            short = omega (arith, e.short);
            end = e.end;
            reaches = e.reaches;
            stay = arrives text inst places outer (record c.frame { code = Nothing; labels = labels }) c.callers k m.address ops s e.end m.running.there outmost_there vs l.after ls os outmost held
                (subst (λ (ws : List Value). Matches k.around.layout (used c.callers) m.address s.bytes c.frame.locals ws e.end) whole_is e.matches) e.pc_is
                (subst (λ (ts : Types). SitsAt text inst places k os (Some (length ts + length (belows ls))) ts m.running.there l.after outmost outmost_there) types x.after) fit;
            beside = e.matches.beside;
            registers = e.registers;
          };
          moves = inr (omega arith);
        }

  by_label : (l : config.Label) (ls : List config.Label) → (m : FramesStay text inst places outer (record c.frame { code = Nothing; labels = l ∷ ls }) c.callers s) → (os : List Open) → Fit text inst places m.running.compiled (l ∷ ls) os m.running.to m.running.there
      → Follows text inst places outer c.store c.later (128 + 128 * owed_of (leave c (l ∷ ls))) (labels_ahead (l ∷ ls)) s (leave c (l ∷ ls))
  by_label l ls m [] fit = absurd fit
  by_label l ls m (o ∷ os) fit = block_ends (l ∷ ls) m l ls o os fit.0 fit.1 refl (omega arith) fit.2 fit.3

  pub end_follows : (labels : List config.Label) → FramesStay text inst places outer (record c.frame { code = Nothing; labels = labels }) c.callers s → Follows text inst places outer c.store c.later (128 + 128 * owed_of (leave c labels)) (labels_ahead labels) s (leave c labels)
  end_follows [] m = function_ends [] m refl m.running.fit.1 m.running.fit.2
  end_follows (l ∷ ls) m = by_label l ls m m.running.os m.running.fit
