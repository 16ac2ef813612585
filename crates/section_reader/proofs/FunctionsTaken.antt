-- What a push reader has left after it took functions many at once.
use Rattle.std.proofs.Common.{◌≡◌, ℕ, ◌+◌, ◌-◌, ◌≤◌, List, ◌++◌, length, take, drop, map, refl, sym, ap, ◌∙◌, arith, length-take}
use Rattle.wasm_defs.specs.Fields.{Cursor, past}
use Rattle.wasm_defs.specs.Outside.{row, entries, sections}
use Rattle.wasm_laws.specs.Steadiness.{with_more}
use Rattle.section_reader.specs.declared.front.Front.{Front}
use Rattle.section_reader.specs.declared.functions.Functions.{Functions}
use Rattle.section_reader.specs.declared.stage.Stage.{Stage}
use Rattle.section_reader.specs.declared.stage.Stage.TheVariants.{Entries}
use Rattle.section_reader.specs.declared.steps.Steps.{Steps}
use Rattle.section_reader.specs.FrontLeft.{left}
use Rattle.section_reader.specs.FrontOnward.{remaining_parts}
use Rattle.section_reader.specs.Functions.{AreRead, declares, function_part, IsAtFunctions, TakesFunctions}
use Rattle.section_reader.specs.Onward.{onward, after_parts}
use Rattle.section_reader.specs.Outline.{outline_sections}
use Rattle.section_reader.specs.Stages.{proceed, is_at_bodies}
use Rattle.section_reader.proofs.Declaring.{functions_are}
use Rattle.section_reader.proofs.FrontTelling.{onward_joined}
use Rattle.section_reader.proofs.Reaching.{left_joined}

module _ (old : Front) (bytes there : List ℕ) (owed : ℕ) (read : Functions) (at : IsAtFunctions old owed) (few : read.count ≤ owed) (is : take (old.end - old.at) bytes ≡ there) where
  abbrev begun : Cursor
  begun = record { at = old.at; rest = bytes; end = old.end }

  joined : bytes ≡ old.kept.items ++ bytes
  joined = ap (λ (l : List ℕ). l ++ bytes) (sym at.none)

  module _ (new : Front) (same_at : new.at ≡ old.at + read.bytes) (same_end : new.end ≡ old.end) (same_kept : new.kept.items ≡ old.kept.items) (same_waiting : new.waiting ≡ old.waiting) (same_refusal : new.refusal ≡ old.refusal)
      (steps : new.steps ≡ record { stage = Entries 3 (owed - read.count); seen = declares old.steps.seen read.count }) where
    left_new : (more : List ℕ) → left new (drop read.bytes bytes ++ more) ≡ entries (owed - read.count) (row 3) outline_sections (declares old.steps.seen read.count) (with_more (past begun read.bytes) more)
    left_new more = rw (same_waiting, at.waiting, same_refusal, at.refusal, same_kept, at.none, same_at, same_end, steps) refl

    onward_new : (more : List ℕ) → remaining_parts new (drop read.bytes bytes ++ more) ≡ entries (owed - read.count) (row 3) sections (declares old.steps.seen read.count) (with_more (past begun read.bytes) more)
    onward_new more = rw (same_waiting, at.waiting, same_refusal, at.refusal, same_kept, at.none, same_at, same_end, steps) refl

    pub functions_taken : (types : List ℕ) → AreRead old.steps.seen.types there read types → TakesFunctions old bytes read types new
    functions_taken types r =
        let a = functions_are read.count owed old.steps.seen begun (past begun read.bytes) (take read.count types) few (r.from begun is) in
        record {
          room = r.room;
          some = omega (arith, r.within, ap length is, length-take (old.end - old.at) bytes);
          indices = a.indices;
          are = a.are;
          same = λ more.
              left_joined old bytes bytes at.waiting at.refusal joined more
              ∙ ap (λ (s : Stage). proceed s old.steps.seen (with_more begun more)) at.stage
              ∙ a.run outline_sections more
              ∙ ap (after_parts (map function_part a.indices)) (sym (left_new more));
          onward = λ more.
              onward_joined old bytes bytes at.waiting at.refusal joined more
              ∙ ap (λ (s : Stage). onward s old.steps.seen (with_more begun more)) at.stage
              ∙ a.run sections more
              ∙ ap (after_parts (map function_part a.indices)) (sym (onward_new more));
          total_is = omega (arith, same_at, ap length same_kept);
          waiting = same_waiting;
          apart = λ h. ap (λ (s : Steps). is_at_bodies s.stage) steps;
        }
