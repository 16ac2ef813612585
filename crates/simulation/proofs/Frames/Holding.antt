-- The running frame between the instruction words of one instruction, where its operands may be others than the
-- configuration's.
use Rattle.std.proofs.Common.{◌≡◌, ℕ, ◌+◌, ◌≤◌, ⊎_elim, inl, inr, List, ◌∷◌, ◌++◌, length, reverse, Option, refl, sym, ap, ◌∙◌, subst, arith}
use Rattle.rv_isa.specs.declared.operations.Op.{Op}
use Rattle.rv_isa.specs.Steps.{State, Bytes, reg, exec}
use Rattle.rv_isa.specs.Runs.{place, Reaches, FitWindows}
use Rattle.wasm_defs.specs.Trees.{Seq}
use Rattle.wasm_defs.specs.Typing.{Types}
use Rattle.wasm_defs.specs.Values.{Value, types_of_values}
use Rattle.wasm_defs.specs.Configurations.{Instance, Store, Invocation, Frame, Outside, Inside, Carrying, Step, To, Returned, Trapped, Stopped, Waiting, Stuck, belows, used}
use Rattle.wasm_defs.specs.Configurations as config
use Rattle.frame_layout.specs.Laws.{slot_at}
use Rattle.frame_layout.specs.Macros.{s0, s5}
use Rattle.frame_layout.specs.Slots.{link, operand}
use Rattle.frame_layout.specs.declared.layout.Layout.{Layout}
use Rattle.simulation.proofs.Frames.Values.{Locals, Operands, SameBeside, Matches}
use Rattle.simulation.proofs.Frames.Frames.{Open, TextPlaces, Compiled, Sits, Fit, CallersStay, FramesStay, KeepsRegisters}
use Rattle.simulation.proofs.Frames.Follows.{same_beside, beside_then, callers_kept, matches_now, leads_less, leads_after, Over, Follows}

-- the same bytes in another state
pub matches_at : (l : Layout) (base there : ℕ) (b : Bytes) (locals operands : List Value) (s t : State) → Matches l base there b locals operands s → t.bytes ≡ s.bytes → reg t.registers s0 ≡ reg s.registers s0 → reg t.registers s5 ≡ reg s.registers s5 → Matches l base there t.bytes locals operands t
matches_at l base there b locals operands s t m same first last = record {
  frame = record { first = first ∙ m.frame.first; end = last ∙ m.frame.end; size = ap (λ (c : Bytes). length c.stack) same ∙ m.frame.size; windows = subst FitWindows (sym same) m.frame.windows };
  room = m.room;
  width = m.width;
  values = subst (λ (c : Bytes). Locals c base locals) (sym same) m.values;
  live = subst (λ (c : Bytes). Operands c (base + operand l 0) operands) (sym same) m.live;
  link_is = ap (λ (c : Bytes). slot_at c (base + link l)) same ∙ m.link_is;
  beside = same_beside t.bytes t.bytes refl;
  low = record { by = λ k less. refl };
}

module _ (text : List (Option Op)) (inst : Instance) (places : TextPlaces) (outer : Types) where
  pub record Held (f : Frame) (callers : List Frame) (k : Compiled text inst places f.function) (address : ℕ) (operands : List Value) (s : State) : Type 0 where
    pub matches : Matches k.around.layout (used callers) address s.bytes f.locals (operands ++ belows f.labels) s
    pub are : k.context.locals ≡ types_of_values f.locals
    pub stay : CallersStay text inst places outer s.bytes address (reverse f.function.ty.results) callers

  module _ (f : Frame) (callers : List Frame) where
    pub held_now : (s : State) → (m : FramesStay text inst places outer f callers s) → Held f callers m.running.compiled m.address f.operands s
    held_now s m = record { matches = matches_now text inst places outer f callers s m; are = m.running.are; stay = m.callers_stay }

    module _ (k : Compiled text inst places f.function) (address : ℕ) where
      pub held_after : (operands : List Value) (s t : State) → Held f callers k address operands s → t.bytes ≡ s.bytes → reg t.registers s0 ≡ reg s.registers s0 → reg t.registers s5 ≡ reg s.registers s5 → Held f callers k address operands t
      held_after operands s t x same first last = record {
        matches = matches_at k.around.layout (used callers) address s.bytes f.locals (operands ++ belows f.labels) s t x.matches same first last;
        are = x.are;
        stay = subst (λ (b : Bytes). CallersStay text inst places outer b address (reverse f.function.ty.results) callers) (sym same) x.stay;
      }

      -- fewer operands
      pub held_less : (v : Value) (operands : List Value) (s : State) → Held f callers k address (v ∷ operands) s → Held f callers k address operands s
      held_less v operands s x =
          let m = x.matches in
          record {
            matches = record { frame = m.frame; room = m.room; width = m.width; values = m.values; live = m.live.1; link_is = m.link_is; beside = m.beside; low = m.low };
            are = x.are;
            stay = x.stay;
          }

      -- the frames are where the running one goes on
      pub arrives : (operands : List Value) (s end : State) (here there : ℕ) (operands' : List Value) (tree : Seq) (labels : List config.Label) (os : List Open) (to : Types) → Held f callers k address operands s
          → Matches k.around.layout (used callers) address s.bytes f.locals (operands' ++ belows labels) end → end.pc ≡ place (k.begin + here)
          → Sits text inst places k os (length (belows labels)) (types_of_values operands') here tree to there → Fit text inst places k labels os to there
          → FramesStay text inst places outer (record f { operands = operands'; code = tree; labels = labels }) callers end
      arrives operands s end here there operands' tree labels os to held x at sits fit = record {
        frame = x.frame;
        here = here;
        address = address;
        running = record {
          compiled = k;
          os = os;
          to = to;
          there = there;
          room = x.room;
          width = x.width;
          are = held.are;
          values = x.values;
          live = x.live;
          link_is = x.link_is;
          sits = sits;
          fit = fit;
        };
        at = at;
        callers_stay = callers_kept text inst places outer s.bytes end.bytes address (reverse f.function.ty.results) callers x.low held.stay;
      }

  -- ---- steps before what a rule comes to

  module _ (store : Store) (later : List Invocation) where
    pub follows_less : (most more size : ℕ) (s : State) (step : Step) → most ≤ more → Follows text inst places outer store later most size s step → Follows text inst places outer store later more size s step
    follows_less most more size s (To (Inside c)) le h =
        record { same_store = h.same_store; same_later = h.same_later; leads = leads_less text inst places outer more le h.leads; moves = h.moves }
    follows_less most more size s (To (Outside now next rest)) le h = (h.0, h.1, h.2, over_less h.2 h.3)
      where
        over_less : (values : List Value) → Over text inst places outer store later most s values → Over text inst places outer store later more s values
        over_less values x = record { steps = x.steps; short = omega (arith, x.short); end = x.end; by = x.by; number_is = x.number_is; beside = x.beside; results = x.results; types_are = x.types_are; size = x.size; windows = x.windows }
    follows_less most more size s (To (Carrying now owed values next)) le h = (h.0, h.1, over_less (reverse values) h.2)
      where
        over_less : (values : List Value) → Over text inst places outer store later most s values → Over text inst places outer store later more s values
        over_less values x = record { steps = x.steps; short = omega (arith, x.short); end = x.end; by = x.by; number_is = x.number_is; beside = x.beside; results = x.results; types_are = x.types_are; size = x.size; windows = x.windows }
    follows_less most more size s (Returned now values) le h = (h.0, h.1, over_less h.2)
      where
        over_less : Over text inst places outer store later most s values → Over text inst places outer store later more s values
        over_less x = record { steps = x.steps; short = omega (arith, x.short); end = x.end; by = x.by; number_is = x.number_is; beside = x.beside; results = x.results; types_are = x.types_are; size = x.size; windows = x.windows }
    follows_less most more size s (Trapped now kind from) le h = (h.0, record { steps = h.1.steps; short = omega (arith, h.1.short); end = h.1.end; by = h.1.by; number_is = h.1.number_is; kind_is = h.1.kind_is; word = h.1.word; pc_is = h.1.pc_is; from_is = h.1.from_is; beside = h.1.beside })
    follows_less most more size s (Stopped now) le h = h
    follows_less most more size s (Waiting now) le h = h
    follows_less most more size s Stuck le h = h

    module _ (j most size : ℕ) (s t : State) (reaches : Reaches text j s t) (same : SameBeside s.bytes t.bytes) (registers : KeepsRegisters s t) where
      over_after : (values : List Value) → Over text inst places outer store later most t values → Over text inst places outer store later (j + most) s values
      over_after values x = record {
        steps = j + x.steps;
        short = omega (arith, x.short);
        end = x.end;
        by = λ n.
            let regroup : j + x.steps + n ≡ j + (x.steps + n) = omega arith in
            ap (λ (k : ℕ). exec text k s) regroup ∙ reaches.by (x.steps + n) ∙ x.by n;
        number_is = x.number_is;
        beside = beside_then s.bytes t.bytes x.end.bytes same x.beside;
        results = x.results;
        types_are = x.types_are;
        size = x.size;
        windows = x.windows;
      }

      pub follows_after : (step : Step) → Follows text inst places outer store later most size t step → Follows text inst places outer store later (j + most) size s step
      follows_after (To (Inside c)) h = record {
        same_store = h.same_store;
        same_later = h.same_later;
        leads = leads_after text inst places outer j most s t c.frame c.callers reaches same registers h.leads;
        moves = ⊎_elim (λ some. inl (omega arith)) (λ fewer. inr fewer) h.moves;
      }
      follows_after (To (Outside now next rest)) h = (h.0, h.1, h.2, over_after h.2 h.3)
      follows_after (To (Carrying now owed values next)) h = (h.0, h.1, over_after (reverse values) h.2)
      follows_after (Returned now values) h = (h.0, h.1, over_after values h.2)
      follows_after (Trapped now kind from) h = (
        h.0,
        record {
          steps = j + h.1.steps;
          short = omega (arith, h.1.short);
          end = h.1.end;
          by = λ n.
              let regroup : j + h.1.steps + n ≡ j + (h.1.steps + n) = omega arith in
              ap (λ (k : ℕ). exec text k s) regroup ∙ reaches.by (h.1.steps + n) ∙ h.1.by n;
          number_is = h.1.number_is;
          kind_is = h.1.kind_is;
          word = h.1.word;
          pc_is = h.1.pc_is;
          from_is = h.1.from_is;
          beside = beside_then s.bytes t.bytes h.1.end.bytes same h.1.beside;
        },
      )
      follows_after (Stopped now) h = h
      follows_after (Waiting now) h = h
      follows_after Stuck h = h
