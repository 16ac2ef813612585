-- What a push reader reports of the module, with each piece that it is fed.
use Rattle.std.proofs.Common.{◌≡◌, ℕ, ◌-◌, ◌<◌, ◌≤◌, true, false, List, [], ◌∷◌, ◌++◌, length, drop, Option, Some, None, refl, sym, ap, ◌∙◌, arith, append_assoc, length-append}
use Rattle.wasm_defs.specs.declared.fault.Refusal.{Refusal}
use Rattle.wasm_defs.specs.declared.item.Item.{Item}
use Rattle.wasm_defs.specs.Fields.{Cursor}
use Rattle.wasm_defs.specs.Entries.{Seen}
use Rattle.wasm_defs.specs.Outside.{position_of, Section, Owed, Run, ends, after_part, section, sections, or_section}
use Rattle.wasm_laws.specs.Steadiness.{with_more}
use Rattle.leb_feed.specs.declared.stop.Stop.TheVariants as stop
use Rattle.section_reader.specs.declared.stage.Stage.{Stage}
use Rattle.section_reader.specs.declared.stage.Stage.TheVariants.{Preamble, Between, Contents, Entries}
use Rattle.section_reader.specs.declared.steps.Steps.{Steps}
use Rattle.section_reader.specs.declared.front.Front.{Front}
use Rattle.section_reader.specs.Outline.{outline_row}
use Rattle.section_reader.specs.Stages.{prepend, is_owing, is_at_bodies}
use Rattle.section_reader.specs.Onward.{onward, after_parts, begun_section, next_part, is_owing_behind, is_stalled, IsStalled, IsOrdered}
use Rattle.section_reader.specs.Stepped.{Reached, RefusedOnward}
use Rattle.section_reader.specs.FrontLeft.{from_there, cursor_of}
use Rattle.section_reader.specs.Waits.{Passes, is_wanting}
use Rattle.section_reader.specs.FrontOnward.{remaining_parts, FedOnward, ToldRefused}
use Rattle.section_reader.proofs.Runs.{sections_are}
use Rattle.section_reader.proofs.Telling.{front_halts, entry_halts}
use Rattle.section_reader.proofs.Reaching.{end_is, owed_there}
use Rattle.section_reader.proofs.Keeping.{owing_is, wants_of, entry_wants}

-- ---- where the bytes that are there complete nothing

next_stalls : (at : ℕ) (bytes : List ℕ) → 0 < length bytes → is_owing_behind (after_parts (next_part at bytes) (ends Owed)).parts Owed ≡ true
next_stalls at [] some = absurd (omega arith)
next_stalls at (b ∷ bytes) some = refl

begun_stalls : (stage : Stage) (c : Cursor) → 0 < length c.rest → is_stalled stage (after_parts (begun_section stage c) (ends Owed)) ≡ true
begun_stalls Preamble c some = refl
begun_stalls Between c some = ap (is_owing_behind (after_parts (next_part c.at c.rest) (ends Owed)).parts) (next_ending c.at c.rest) ∙ next_stalls c.at c.rest some
  where
    next_ending : (at : ℕ) (bytes : List ℕ) → (after_parts (next_part at bytes) (ends Owed)).ending ≡ Owed
    next_ending at [] = refl
    next_ending at (b ∷ bytes) = refl
begun_stalls (Contents id) c some = refl
begun_stalls (Entries id n) c some = refl

pub stalled_of : (old new : Steps) (a c : Cursor) → IsOrdered old.stage old.seen → Reached old a None new c → IsStalled new.stage new.seen c
stalled_of old new a c o r = λ some apart.
    ap (is_stalled new.stage) (r.stalls o apart refl ∙ ap (after_parts (begun_section new.stage c)) (owed_there new.stage new.seen c some))
    ∙ begun_stalls new.stage c some

pub stalled_at : (stage : Stage) (seen : Seen) (d : Cursor) (at end : ℕ) (kept : List ℕ) → at ≡ d.at → end ≡ d.end → kept ≡ d.rest → IsStalled stage seen d → IsStalled stage seen (record { at = at; rest = kept; end = end })
stalled_at stage seen d at end kept same_at same_end same h = rw (same_at, same_end, same) h

section_stalled : (seen : Seen) (c : Cursor) (rest : List ℕ) → 0 < length rest → is_owing_behind (or_section sections seen c rest).parts (or_section sections seen c rest).ending ≡ true
    → or_section sections seen c rest ≡ after_parts (next_part c.at rest) (ends Owed)
section_stalled seen c [] some e = absurd (omega arith)
section_stalled seen c (b ∷ rest) some e = ap (after_part (Section c.at (position_of b))) (owing_is (section sections seen c).parts (section sections seen c).ending e)

pub stalled_is : (stage : Stage) (seen : Seen) (c : Cursor) → 0 < length c.rest → is_stalled stage (onward stage seen c) ≡ true → onward stage seen c ≡ after_parts (begun_section stage c) (ends Owed)
stalled_is Preamble seen c some e = owing_is _ _ e
stalled_is Between seen c some e =
    sections_are seen c ∙ section_stalled seen c c.rest some (sym (ap (λ (r : Run). is_owing_behind r.parts r.ending) (sections_are seen c)) ∙ e)
stalled_is (Contents id) seen c some e = owing_is _ _ e
stalled_is (Entries id n) seen c some e = owing_is _ _ e

-- ---- bytes that are kept

-- where what is read next isn't whole, the module's reading is owing as the outline's is
wanting_stalls : (stage : Stage) (seen : Seen) (c : Cursor) → IsOrdered stage seen → is_wanting stage seen c ≡ true → is_stalled stage (onward stage seen c) ≡ true
wanting_stalls Preamble seen c o h = absurd cc
wanting_stalls Between seen c o h = absurd cc
wanting_stalls (Contents id) seen c o h = ap (λ (r : Run). is_owing r.parts r.ending) (front_halts seen c id stop.Wants (wants_of ((outline_row id).front seen c) h))
wanting_stalls (Entries id n) seen c o h =
    let entry = entry_wants id n seen c h in
    ap (λ (r : Run). is_owing r.parts r.ending) (entry_halts seen c id n stop.Wants entry.0 o entry.1)

pub kept_stalled : (old : Front) (bytes : List ℕ) → 0 < length old.kept.items → Passes old.wait (cursor_of old) bytes → IsStalled old.steps.stage old.steps.seen (record { at = old.at; rest = old.kept.items ++ bytes; end = old.end })
kept_stalled old bytes some passes = λ more apart. wanting_stalls old.steps.stage old.steps.seen _ old.ordered (old.unread some bytes passes)

-- ---- what was fed

module _ (old : Front) (bytes all : List ℕ) (waiting : old.waiting ≡ None) (refusal : old.refusal ≡ None) (joined : all ≡ old.kept.items ++ bytes) where
  abbrev there : Cursor
  there = record { at = old.at; rest = all; end = old.end }

  pub onward_joined : (more : List ℕ) → remaining_parts old (bytes ++ more) ≡ onward old.steps.stage old.steps.seen (with_more there more)
  onward_joined more =
      ap (λ (x : Option Item). prepend x (from_there old.refusal (onward old.steps.stage old.steps.seen (with_more (cursor_of old) (bytes ++ more))))) waiting
      ∙ ap (λ (x : Option Refusal). from_there x (onward old.steps.stage old.steps.seen (with_more (cursor_of old) (bytes ++ more)))) refusal
      ∙ ap (λ (l : List ℕ). onward old.steps.stage old.steps.seen (record { at = old.at; rest = l; end = old.end })) (sym (append_assoc old.kept.items bytes more) ∙ ap (λ (l : List ℕ). l ++ more) (sym joined))

  pub item_told : (new : Front) (x : Item) (d : Cursor) (rest : List ℕ) → rest ≡ d.rest → Reached old.steps there (Some x) new.steps d → length d.rest ≤ length bytes
      → new.at ≡ d.at → new.end ≡ d.end → new.kept.items ≡ [] → new.waiting ≡ Some x → new.refusal ≡ None
      → FedOnward old bytes (length bytes - length rest) new
  item_told new x d rest is reached few same_at same_end kept waits none = rw is (record {
    count = omega (arith, same_at, ap length kept, reached.passed.at, ap length joined, ap length reached.passed.parts, length-append old.kept.items bytes, length-append reached.passed.taken d.rest);
    going = λ _. none;
    told = λ apart.
        let t = (reached.tells old.ordered).tells apart in
        record {
          told = t.told;
          sections = t.sections;
          run = λ more.
              onward_joined more
              ∙ t.run more
              ∙ ap (after_parts t.told) (
              ap (λ (l : List ℕ). prepend (Some x) (onward new.steps.stage new.steps.seen (record { at = d.at; rest = l ++ more; end = d.end }))) (sym (end_is old.kept.items bytes all reached.passed.taken d.rest joined reached.passed.parts few))
              ∙ sym (onward_new more));
        };
    apart = λ apart h. absurd (let e = sym waits ∙ h in cc);
  })
    where
      onward_new : (more : List ℕ) → remaining_parts new (drop (length bytes - length d.rest) bytes ++ more) ≡ prepend (Some x) (onward new.steps.stage new.steps.seen (record { at = d.at; rest = drop (length bytes - length d.rest) bytes ++ more; end = d.end }))
      onward_new more = rw (waits, none, kept, same_at, same_end) refl

  pub refused_told : (new : Front) (r : Refusal) → is_at_bodies old.steps.stage ≡ false → (IsOrdered old.steps.stage old.steps.seen → is_at_bodies old.steps.stage ≡ false → RefusedOnward old.steps there r)
      → new.waiting ≡ None → new.refusal ≡ Some r
      → ToldRefused old bytes r new
  refused_told new r apart h waits some =
      let t = h old.ordered apart in
      record {
        told = t.told;
        sections = t.sections;
        run = λ more. onward_joined more ∙ t.run more;
        stays = λ more. rw (waits, some) refl;
      }
