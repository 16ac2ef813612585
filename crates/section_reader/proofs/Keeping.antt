-- What keeping bytes leaves.
use Rattle.std.proofs.Common.{◌≡◌, ℕ, ◌<◌, inl, true, ltb, List, [], ◌∷◌, ◌++◌, length, None, refl, sym, ap, ◌∙◌, arith, append_assoc, length-append}
use Rattle.std.proofs.lemmas.Bool.{and_parts, ltb-true}
use Rattle.std.proofs.lemmas.List.{append-nil}
use Rattle.std.proofs.Math.Seq.{drop-length}
use Rattle.wasm_defs.specs.Fields.{Cursor, Read, Got, Fault, Wants}
use Rattle.wasm_defs.specs.Entries.{Seen}
use Rattle.wasm_defs.specs.Outside.{Part, Ending, Whole, Refused, Owed, Run, ends}
use Rattle.section_reader.specs.declared.stage.Stage.{Stage}
use Rattle.section_reader.specs.declared.stage.Stage.TheVariants.{Preamble, Between, Contents, Entries}
use Rattle.section_reader.specs.declared.steps.Steps.{Steps}
use Rattle.section_reader.specs.declared.front.Front.{Front}
use Rattle.section_reader.specs.Outline.{outline_row}
use Rattle.section_reader.specs.Stages.{proceed, is_owing, IsOwed, is_at_bodies}
use Rattle.section_reader.specs.Onward.{onward}
use Rattle.section_reader.specs.FrontLeft.{left, cursor_of, Fed}
use Rattle.section_reader.specs.FrontOnward.{remaining_parts, FedOnward}
use Rattle.section_reader.specs.Waits.{Passes, wants_more, is_wanting}
use Rattle.section_reader.proofs.Leading.{runs_owed, entries_are}
use Rattle.section_reader.proofs.Reaching.{owed_there}

pub owing_is : (parts : List Part) (ending : Ending) → is_owing parts ending ≡ true → record { parts = parts; ending = ending } ≡ ends Owed
owing_is [] Owed e = refl
owing_is [] (Whole seen) e = absurd cc
owing_is [] (Refused r) e = absurd cc
owing_is (x ∷ parts) ending e = absurd cc

pub wants_of : {A : Type 0} (r : Read A) → wants_more r ≡ true → r ≡ Wants
wants_of (Got x d) h = absurd cc
wants_of (Fault r) h = absurd cc
wants_of Wants h = refl

pub entry_wants : (id n : ℕ) (seen : Seen) (c : Cursor) → is_wanting (Entries id n) seen c ≡ true → (0 < n) × ((outline_row id).entry seen c ≡ Wants)
entry_wants id n seen c h =
    let both = and_parts (ltb 0 n) (wants_more ((outline_row id).entry seen c)) h in
    (ltb-true 0 n both.0, wants_of ((outline_row id).entry seen c) both.1)

-- where what is read next isn't whole, nothing is read before the bytes that are owed come
wanting_owes : (stage : Stage) (seen : Seen) (c : Cursor) → is_wanting stage seen c ≡ true → proceed stage seen c ≡ ends Owed
wanting_owes Preamble seen c h = absurd cc
wanting_owes Between seen c h = absurd cc
wanting_owes (Contents id) seen c h = runs_owed _ _ (wants_of ((outline_row id).front seen c) h)
wanting_owes (Entries id n) seen c h =
    let entry = entry_wants id n seen c h in
    entries_are seen c id n c entry.0 ∙ runs_owed _ _ entry.1

pub kept_owed : (old : Front) (bytes : List ℕ) → 0 < length old.kept.items → Passes old.wait (cursor_of old) bytes → IsOwed old.steps.stage old.steps.seen (record { at = old.at; rest = old.kept.items ++ bytes; end = old.end })
kept_owed old bytes some passes = λ more. ap (λ (r : Run). is_owing r.parts r.ending) (wanting_owes old.steps.stage old.steps.seen _ (old.unread some bytes passes))

pub kept_fed : (old new : Front) (bytes : List ℕ) → old.waiting ≡ None → old.refusal ≡ None → 0 < length old.kept.items → Passes old.wait (cursor_of old) bytes
    → new.steps ≡ old.steps → new.at ≡ old.at → new.end ≡ old.end → new.kept.items ≡ old.kept.items ++ bytes → new.waiting ≡ None → new.refusal ≡ None
    → Fed old bytes (length bytes) new
kept_fed old new bytes waiting refusal some passes same_steps same_at same_end kept waits none = record {
  some = omega arith;
  same = λ more.
      left_old more
      ∙ ap (λ (l : List ℕ). proceed old.steps.stage old.steps.seen (record { at = old.at; rest = l; end = old.end })) (sym (append_assoc old.kept.items bytes more))
      ∙ sym (left_new more)
      ∙ ap (λ (l : List ℕ). left new (l ++ more)) (sym (drop-length bytes));
  all = inl refl;
  stuck = λ _.
      left_new []
      ∙ ap (λ (l : List ℕ). proceed old.steps.stage old.steps.seen (record { at = old.at; rest = l; end = old.end })) (append-nil (old.kept.items ++ bytes))
      ∙ wanting_owes old.steps.stage old.steps.seen _ (old.unread some bytes passes)
      ∙ sym (owed_there new.steps.stage new.steps.seen (cursor_of new) (omega (arith, ap length kept, length-append old.kept.items bytes)));
}
  where
    left_old : (more : List ℕ) → left old (bytes ++ more) ≡ proceed old.steps.stage old.steps.seen (record { at = old.at; rest = old.kept.items ++ (bytes ++ more); end = old.end })
    left_old more = rw (waiting, refusal) refl

    left_new : (more : List ℕ) → left new more ≡ proceed old.steps.stage old.steps.seen (record { at = old.at; rest = (old.kept.items ++ bytes) ++ more; end = old.end })
    left_new more = rw (waits, none, same_steps, same_at, same_end, kept) refl

pub kept_told : (old new : Front) (bytes : List ℕ) → old.waiting ≡ None → old.refusal ≡ None
    → new.steps ≡ old.steps → new.at ≡ old.at → new.end ≡ old.end → new.kept.items ≡ old.kept.items ++ bytes → new.waiting ≡ None → new.refusal ≡ None
    → FedOnward old bytes (length bytes) new
kept_told old new bytes waiting refusal same_steps same_at same_end kept waits none = record {
  count = omega (arith, same_at, ap length kept, length-append old.kept.items bytes);
  going = λ _. none;
  told = λ _. record {
    told = [];
    sections = tt;
    run = λ more.
        onward_old more
        ∙ ap (λ (l : List ℕ). onward old.steps.stage old.steps.seen (record { at = old.at; rest = l; end = old.end })) (sym (append_assoc old.kept.items bytes more))
        ∙ sym (onward_new more)
        ∙ ap (λ (l : List ℕ). remaining_parts new (l ++ more)) (sym (drop-length bytes));
  };
  apart = λ apart _. ap (λ (s : Steps). is_at_bodies s.stage) same_steps ∙ apart;
}
  where
    onward_old : (more : List ℕ) → remaining_parts old (bytes ++ more) ≡ onward old.steps.stage old.steps.seen (record { at = old.at; rest = old.kept.items ++ (bytes ++ more); end = old.end })
    onward_old more = rw (waiting, refusal) refl

    onward_new : (more : List ℕ) → remaining_parts new more ≡ onward old.steps.stage old.steps.seen (record { at = old.at; rest = (old.kept.items ++ bytes) ++ more; end = old.end })
    onward_new more = rw (waits, none, same_steps, same_at, same_end, kept) refl
