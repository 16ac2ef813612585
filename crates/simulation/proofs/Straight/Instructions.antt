-- One instruction: its instruction words lead from the operands and locals before it to those after it, or
-- to its trap.
use Rattle.std.proofs.Common.{◌≡◌, false, ℕ, ◌+◌, ◌*◌, ◌<◌, ◌≤◌, ◌⊎◌, List, ◌∷◌, length, Option, refl}
use Rattle.rv_isa.specs.declared.operations.Op.{Op}
use Rattle.rv_isa.specs.Steps.{State, Bytes, reg}
use Rattle.rv_isa.specs.Runs.{Reaches}
use Rattle.wasm_defs.specs.declared.value.TrapKind.{TrapKind}
use Rattle.wasm_defs.specs.declared.token.Plain.{Plain}
use Rattle.wasm_defs.specs.Typing.{Types, Context}
use Rattle.wasm_defs.specs.Configurations.{Store}
use Rattle.wasm_defs.specs.Values.{Value, InRange, word_of, types_of_values, trap_number}
use Rattle.wasm_defs.specs.Effects.{Gives, Traps, effect}
use Rattle.frame_layout.specs.Slots.{operand}
use Rattle.frame_layout.specs.Traps.{trap_places}
use Rattle.frame_layout.specs.Templates.{Label, EmitContext, declarations, words}
use Rattle.frame_layout.specs.Laws.{with_slot, is_scratch, Does, TrapsAt}
use Rattle.simulation.proofs.Frames.Values.{Operands, Matches}
use Rattle.simulation.proofs.Frames.Puts.{put_matches}
use Rattle.simulation.proofs.Frames.Sited.{IsIn}
use Rattle.simulation.proofs.Frames.Stores.{kept_matches}

-- the most steps that one instruction takes
abbrev pub most_steps : ℕ
most_steps = 128

pub record Follows (code : List (Option Op)) (c : Context) (labels : List Label) (w : EmitContext) (base there : ℕ) (b : Bytes) (store : Store) (cap : ℕ) (locals operands : List Value) (p : Plain)
    (mid : Types) (here : ℕ) (s : State) : Type 0 where
  pub locals_after : List Value
  pub after : List Value
  pub gives : effect store locals cap p operands ≡ Gives store locals_after after
  pub locals_are : types_of_values locals_after ≡ types_of_values locals
  pub types_are : types_of_values after ≡ mid
  pub steps : ℕ
  pub short : steps ≤ most_steps
  pub end : State
  pub reaches : Reaches code steps s end
  pub pc_is : end.pc ≡ s.pc + 4 * length (words w (declarations c) labels (length operands) here p)
  pub others : (r : ℕ) → is_scratch r ≡ false → reg end.registers r ≡ reg s.registers r
  pub matches : Matches w.layout base there b locals_after after end

pub record Halts (code : List (Option Op)) (store : Store) (cap : ℕ) (locals operands : List Value) (p : Plain) (s : State) : Type 0 where
  pub kind : TrapKind
  pub gives : effect store locals cap p operands ≡ Traps kind
  pub steps : ℕ
  pub short : steps ≤ most_steps
  -- after the word that asks for it, which is among the indices of the instruction's traps
  pub behind : ℕ
  pub traps : TrapsAt code steps behind (trap_number kind) s
  pub word : ℕ
  pub ends : word + 1 ≡ behind
  pub among : IsIn word (trap_places p)

module _ (code : List (Option Op)) (c : Context) (labels : List Label) (w : EmitContext) (base there : ℕ) (b : Bytes) (store : Store) (cap : ℕ) (locals : List Value) (here : ℕ) (s : State) where
  -- what an instruction comes to
  abbrev pub Outcome : List Value → Plain → Types → Type 0
  Outcome operands p mid = Follows code c labels w base there b store cap locals operands p mid here s ⊎ Halts code store cap locals operands p s

  -- its words change no byte, and leave some of the operands
  pub kept_follows : (p : Plain) (operands others : List Value) (mid : Types) (steps : ℕ) → effect store locals cap p operands ≡ Gives store locals others → types_of_values others ≡ mid → steps ≤ most_steps
      → Does code steps (length (words w (declarations c) labels (length operands) here p)) s s.bytes → Matches w.layout base there b locals others s → Follows code c labels w base there b store cap locals operands p mid here s
  kept_follows p operands others mid steps gives is short d m = record {
    locals_after = locals;
    after = others;
    gives = gives;
    locals_are = refl;
    types_are = is;
    steps = steps;
    short = short;
    end = d.end;
    reaches = d.reaches;
    pc_is = d.pc_is;
    others = d.others;
    matches = kept_matches code w.layout base there b locals others s steps (length (words w (declarations c) labels (length operands) here p)) m d;
  }

  -- its words put one value above some of the operands
  pub put_follows : (p : Plain) (operands below : List Value) (mid : Types) (v : Value) (steps : ℕ) → effect store locals cap p operands ≡ Gives store locals (v ∷ below) → v.ty ∷ types_of_values below ≡ mid
      → steps ≤ most_steps → Does code steps (length (words w (declarations c) labels (length operands) here p)) s (with_slot s.bytes (base + operand w.layout (length below)) (word_of v)) → InRange v
      → length below < w.layout.greatest → Matches w.layout base there b locals operands s → Operands s.bytes (base + operand w.layout 0) below
      → Follows code c labels w base there b store cap locals operands p mid here s
  put_follows p operands below mid v steps gives is short d range high m live = record {
    locals_after = locals;
    after = v ∷ below;
    gives = gives;
    locals_are = refl;
    types_are = is;
    steps = steps;
    short = short;
    end = d.end;
    reaches = d.reaches;
    pc_is = d.pc_is;
    others = d.others;
    matches =
        put_matches code w.layout base there b locals operands below s steps (length (words w (declarations c) labels (length operands) here p)) (word_of v) v d (record { is = refl; range = range }) high m live;
  }
