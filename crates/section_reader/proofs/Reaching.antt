-- Steps in a row, and what a piece that was read leaves.
use Rattle.std.proofs.Common.{rules, ◌≡◌, ℕ, false, ◌+◌, ◌-◌, ◌^◌, ◌≤◌, ◌<◌, inl, inr, List, [], ◌∷◌, ◌++◌, length, drop, Option, Some, None, Err, refl, sym, ap, subst, ◌∙◌, arith, append_assoc, length-append}
use Rattle.std.proofs.lemmas.List.{append-nil}
use Rattle.std.proofs.Math.Seq.{drop-append_seam, drop-append-add, drop-length}
use Rattle.wasm_defs.specs.declared.fault.Refusal.{Refusal}
use Rattle.wasm_defs.specs.declared.item.Item.{Item}
use Rattle.wasm_defs.specs.Fields.{Cursor}
use Rattle.wasm_defs.specs.Entries.{Seen}
use Rattle.wasm_defs.specs.Outside.{Refused, Owed, Run, ends}
use Rattle.wasm_laws.specs.Steadiness.{with_more}
use Rattle.leb_feed.specs.declared.stop.Stop.TheVariants as stop
use Rattle.wasm_defs.specs.declared.front_stop.FrontStop.TheVariants as front
use Rattle.section_reader.specs.declared.stage.Stage.{Stage}
use Rattle.section_reader.specs.declared.steps.Steps.{Steps}
use Rattle.section_reader.specs.declared.steps.Mark.{Mark}
use Rattle.section_reader.specs.declared.front.Front.{Front}
use Rattle.section_reader.specs.declared.stage.Stage.TheVariants.{Preamble, Between, Contents, Entries}
use Rattle.section_reader.specs.Counts.{IsWithin, IsSound}
use Rattle.section_reader.specs.Stages.{proceed, prepend, between, unfinished, is_owing, is_at_bodies, IsOwed, Passed, Leads, IsSameButLast}
use Rattle.section_reader.specs.Onward.{begun_section, after_parts, HaltsOnward, IsOrdered}
use Rattle.section_reader.specs.Stepped.{Goes, GoesOnward, Stepped, Reached, Reaches, RefusedOnward, Tells}
use Rattle.section_reader.specs.FrontLeft.{left, from_there, cursor_of, Fed, IsRefused}
use Rattle.section_reader.proofs.Telling.{sections_append, after_append, begun_is_section}
use Rattle.section_reader.proofs.Going.{passed_then}

-- ---- steps in a row

leads_then : (p q r : Stage) (s t u : Seen) (a c e : Cursor) (x : Option Item) → Leads p s a None q t c → Leads q t c x r u e → Leads p s a x r u e
leads_then p q r s t u a c e x h k = λ more. h more ∙ k more

same_then : (a b c : Seen) → IsSameButLast a b → IsSameButLast b c → IsSameButLast a c
same_then a b c h k = ap (λ (s : Seen). record s { last = a.last }) k ∙ h

told_then : (old mid new : Steps) (a c e : Cursor) (x : Option Item) → Tells old a None mid c → Tells mid c x new e → Tells old a x new e
told_then old mid new a c e x h k = record {
  told = h.told ++ k.told;
  sections = sections_append h.told k.told h.sections k.sections;
  run = λ more. h.run more ∙ ap (after_parts h.told) (k.run more) ∙ sym (after_append h.told k.told _);
}

tells_then : (old mid new : Steps) (a c e : Cursor) (x : Option Item) → GoesOnward old a None mid c → GoesOnward mid c x new e → GoesOnward old a x new e
tells_then old mid new a c e x h k = record {
  tells = λ apart. told_then old mid new a c e x (h.tells apart) (k.tells (h.apart apart refl));
  apart = λ apart none. k.apart (h.apart apart refl) none;
  ordered = k.ordered;
  behind = k.behind;
}

-- no item so far
pub record StillGoing (old : Steps) (a : Cursor) (now : Steps) (c : Cursor) : Type 0 where
  pub leads : Leads old.stage old.seen a None now.stage now.seen c
  pub sound : IsSound now.seen c
  pub passed : Passed a c
  pub same : IsSameButLast old.seen now.seen
  pub tells : IsOrdered old.stage old.seen → GoesOnward old a None now c

pub goes_on : (old mid new : Steps) (a c d : Cursor) → StillGoing old a mid c → Goes mid c None new d → StillGoing old a new d
goes_on old mid new a c d s g = record {
  leads = leads_then old.stage mid.stage new.stage old.seen mid.seen new.seen a c d None s.leads g.leads;
  sound = g.sound;
  passed = passed_then a c d s.passed g.passed;
  same = same_then old.seen mid.seen new.seen s.same (g.same refl);
  tells = λ o. tells_then old mid new a c d None (s.tells o) (g.tells (s.tells o).ordered);
}

pub reaches_item : (old mid new : Steps) (a c d : Cursor) (x : Item) → StillGoing old a mid c → Goes mid c (Some x) new d → Reached old a (Some x) new d
reaches_item old mid new a c d x s g = record {
  leads = leads_then old.stage mid.stage new.stage old.seen mid.seen new.seen a c d (Some x) s.leads g.leads;
  sound = g.sound;
  passed = passed_then a c d s.passed g.passed;
  stuck = λ h. absurd cc;
  same = λ h. absurd cc;
  tells = λ o. tells_then old mid new a c d (Some x) (s.tells o) (g.tells (s.tells o).ordered);
  stalls = λ o apart h. absurd cc;
}

-- refused where reading is
refused_onward : (old mid : Steps) (a c : Cursor) (r : Refusal) → StillGoing old a mid c
    → (IsOrdered mid.stage mid.seen → is_at_bodies mid.stage ≡ false → HaltsOnward mid.stage mid.seen c (stop.Refused r))
    → IsOrdered old.stage old.seen → is_at_bodies old.stage ≡ false → RefusedOnward old a r
refused_onward old mid a c r s k o apart =
    let g = s.tells o in
    let t = g.tells apart in
    let next = begun_section mid.stage c in
    record {
      told = t.told ++ next;
      sections = sections_append t.told next t.sections (begun_is_section mid.stage c);
      run = λ more. t.run more ∙ ap (after_parts t.told) (k g.ordered (g.apart apart refl) more) ∙ sym (after_append t.told next _);
    }

pub reaches_refusal : (old mid new : Steps) (a c d : Cursor) (r : Refusal) → StillGoing old a mid c → Stepped mid c (Err (stop.Refused r)) new d → Reaches old a (Err (front.Refused r)) new d
reaches_refusal old mid new a c d r s h =
    subst (λ (n : Steps). Reaches old a (Err (front.Refused r)) n d) (sym h.1)
    (subst (λ (e : Cursor). Reaches old a (Err (front.Refused r)) mid e) (sym h.2) (
      λ more. s.leads more ∙ h.0 more,
      s.same,
      refused_onward old mid a c r s h.3,
    ))

-- ---- what is given back

-- the end of two lists in a row
pub end_is : (kept bytes all taken rest : List ℕ) → all ≡ kept ++ bytes → all ≡ taken ++ rest → length rest ≤ length bytes → drop (length bytes - length rest) bytes ≡ rest
end_is kept bytes all taken rest joined parts few =
    let lengths : length kept + length bytes ≡ length taken + length rest = sym (length-append kept bytes) ∙ ap length (sym joined ∙ parts) ∙ length-append taken rest in
    let at : length kept + (length bytes - length rest) ≡ length taken = omega (arith, lengths) in
    sym (drop-append-add kept bytes (length bytes - length rest))
    ∙ ap (λ (n : ℕ). drop n (kept ++ bytes)) at
    ∙ ap (drop (length taken)) (sym joined ∙ parts)
    ∙ drop-append_seam taken rest

-- ---- what was fed

module _ (old : Front) (bytes all : List ℕ) (waiting : old.waiting ≡ None) (refusal : old.refusal ≡ None) (joined : all ≡ old.kept.items ++ bytes) where
  abbrev there : Cursor
  there = record { at = old.at; rest = all; end = old.end }

  -- nothing waits, and nothing is refused: what is left is what is read
  left_is : (more : List ℕ) → left old more ≡ proceed old.steps.stage old.steps.seen (with_more (cursor_of old) more)
  left_is more =
      ap (λ (x : Option Item). prepend x (from_there old.refusal (proceed old.steps.stage old.steps.seen (with_more (cursor_of old) more)))) waiting
      ∙ ap (λ (x : Option Refusal). from_there x (proceed old.steps.stage old.steps.seen (with_more (cursor_of old) more))) refusal

  pub left_joined : (more : List ℕ) → left old (bytes ++ more) ≡ proceed old.steps.stage old.steps.seen (with_more there more)
  left_joined more =
      left_is (bytes ++ more)
      ∙ ap (λ (l : List ℕ). proceed old.steps.stage old.steps.seen (record { at = old.at; rest = l; end = old.end })) (sym (append_assoc old.kept.items bytes more) ∙ ap (λ (l : List ℕ). l ++ more) (sym joined))

  pub item_fed : (new : Front) (x : Item) (d : Cursor) (rest : List ℕ) → rest ≡ d.rest → Reached old.steps there (Some x) new.steps d → length d.rest ≤ length bytes
      → new.at ≡ d.at → new.end ≡ d.end → new.kept.items ≡ [] → new.waiting ≡ Some x → new.refusal ≡ None
      → Fed old bytes (length bytes - length rest) new
  item_fed new x d rest is reached few same_at same_end kept waits none = rw is (record {
    some = omega arith;
    same = λ more.
        left_joined more
        ∙ reached.leads more
        ∙ ap (λ (l : List ℕ). prepend (Some x) (proceed new.steps.stage new.steps.seen (record { at = d.at; rest = l ++ more; end = d.end }))) (sym (end_is old.kept.items bytes all reached.passed.taken d.rest joined reached.passed.parts few))
        ∙ sym (left_new more);
    all = inr (rw waits (search rules));
    stuck = λ h. absurd (let e = sym waits ∙ h in cc);
  })
    where
      left_new : (more : List ℕ) → left new (drop (length bytes - length d.rest) bytes ++ more) ≡ prepend (Some x) (proceed new.steps.stage new.steps.seen (record { at = d.at; rest = drop (length bytes - length d.rest) bytes ++ more; end = d.end }))
      left_new more = rw (waits, none, kept, same_at, same_end) refl

  pub all_fed : (new : Front) (d : Cursor) → Reached old.steps there None new.steps d
      → new.at ≡ d.at → new.end ≡ d.end → new.kept.items ≡ d.rest → new.waiting ≡ None → new.refusal ≡ None
      → Fed old bytes (length bytes) new
  all_fed new d reached same_at same_end kept waits none = record {
    some = omega arith;
    same = λ more.
        left_joined more
        ∙ reached.leads more
        ∙ ap (λ (l : List ℕ). proceed new.steps.stage new.steps.seen (record { at = d.at; rest = d.rest ++ (l ++ more); end = d.end })) (sym (drop-length bytes))
        ∙ sym (left_new (drop (length bytes) bytes ++ more));
    all = inl refl;
    stuck = λ _. left_new [] ∙ ap (λ (l : List ℕ). proceed new.steps.stage new.steps.seen (record { at = d.at; rest = l; end = d.end })) (append-nil d.rest) ∙ reached.stuck refl ∙ rw (kept, same_at, same_end) refl;
  }
    where
      left_new : (more : List ℕ) → left new more ≡ proceed new.steps.stage new.steps.seen (record { at = d.at; rest = d.rest ++ more; end = d.end })
      left_new more = rw (waits, none, kept, same_at, same_end) refl

  pub refused_there : (new : Front) (r : Refusal) → ((more : List ℕ) → proceed old.steps.stage old.steps.seen (with_more there more) ≡ ends (Refused r)) → new.waiting ≡ None → new.refusal ≡ Some r → IsRefused old bytes r new
  refused_there new r h waits some = record { run = λ more. left_joined more ∙ h more; stays = λ more. rw (waits, some) refl; kept = (some, waits) }

-- ---- as it was

pub restored : (old new back : Steps) (mark : Mark) → mark ≡ record { stage = old.stage; last = old.seen.last } → IsSameButLast old.seen new.seen
    → back ≡ record { stage = mark.stage; seen = record new.seen { last = mark.last } } → back ≡ old
restored old new back mark e h is =
    is
    ∙ ap (λ (m : Mark). record { stage = m.stage; seen = record new.seen { last = m.last } }) e
    ∙ ap (λ (s : Seen). record { stage = old.stage; seen = s }) h

pub left_same : (f : Front) (steps : Steps) → steps ≡ f.steps → (more : List ℕ) → prepend f.waiting (from_there f.refusal (proceed steps.stage steps.seen (with_more (cursor_of f) more))) ≡ left f more
left_same f steps e more = ap (λ (s : Steps). prepend f.waiting (from_there f.refusal (proceed s.stage s.seen (with_more (cursor_of f) more)))) e

pub sound_at : (seen : Seen) (at end : ℕ) (rest : List ℕ) (c : Cursor) → c ≡ record { at = at; rest = rest; end = end } → IsWithin seen at → at + length rest < 2 ^ 63 → IsSound seen c
sound_at seen at end rest c e within fits = subst (λ (d : Cursor). IsSound seen d) (sym e) (record { counts = within; fits = fits })

-- what is owed with bytes that are there
pub owed_there : (stage : Stage) (seen : Seen) (c : Cursor) → 0 < length c.rest → unfinished stage seen c ≡ ends Owed
owed_there Preamble seen c some = refl
owed_there Between seen c some = between_owed seen c.rest some
  where
    between_owed : (seen : Seen) (bytes : List ℕ) → 0 < length bytes → between seen bytes ≡ ends Owed
    between_owed seen [] some = absurd (omega arith)
    between_owed seen (b ∷ bytes) some = refl
owed_there (Contents id) seen c some = refl
owed_there (Entries id n) seen c some = refl

pub owed_of : (old new : Steps) (a c : Cursor) → Reached old a None new c → IsOwed new.stage new.seen c
owed_of old new a c r = λ some. ap (λ (q : Run). is_owing q.parts q.ending) (r.stuck refl ∙ owed_there new.stage new.seen c some)

pub owed_at : (stage : Stage) (seen : Seen) (d : Cursor) (at end : ℕ) (kept : List ℕ) → at ≡ d.at → end ≡ d.end → kept ≡ d.rest → IsOwed stage seen d → IsOwed stage seen (record { at = at; rest = kept; end = end })
owed_at stage seen d at end kept same_at same_end same h = rw (same_at, same_end, same) h
