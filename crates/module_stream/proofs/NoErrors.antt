-- Where nothing is refused, what came has no error outside the bytes of bodies.
use Rattle.std.proofs.Common.{◌≡◌, ℕ, ◌-◌, Bool, true, false, List, [], ◌∷◌, ◌++◌, length, drop, Option, Some, None, refl, sym, ap, subst, ◌∙◌, arith}
use Rattle.std.specs.Prelude.{◌≢◌, if◌then◌else◌}
use Rattle.std.proofs.lemmas.List.{append-nil}
use Rattle.wasm_defs.specs.declared.fault.Kind.TheVariants.{Ended}
use Rattle.wasm_defs.specs.declared.fault.Refusal.{Refusal}
use Rattle.wasm_defs.specs.declared.item.Item.{Item}
use Rattle.wasm_defs.specs.Entries.{Seen}
use Rattle.wasm_defs.specs.Faults.{ending_fault}
use Rattle.wasm_defs.specs.Fields.{Cursor, fixed}
use Rattle.wasm_defs.specs.Outside.{Part, Section, Listed, Coded, Run, Whole, Owed, Refused, ends, after_part, owes, no_end, at_the_end, sections_up_to, sections, preamble, module_read}
use Rattle.wasm_laws.specs.Steadiness.{with_more}
use Rattle.section_reader.specs.declared.front.Front.{Front}
use Rattle.section_reader.specs.declared.stage.Stage.{Stage}
use Rattle.section_reader.specs.declared.stage.Stage.TheVariants.{Preamble, Between, Contents, Entries}
use Rattle.section_reader.specs.Stages.{proceed, unfinished, between, is_at_bodies}
use Rattle.section_reader.specs.FrontLeft.{from_there, cursor_of, total}
use Rattle.section_reader.specs.FrontLeft as outline
use Rattle.section_reader.specs.FrontOnward.{remaining_parts, Told, EndsOnward}
use Rattle.section_reader.specs.Onward.{onward, after_parts, AreSections}
use Rattle.section_reader.proofs.OnwardSilence.{kept_ends, silent_ends}
use Rattle.section_reader.proofs.Silence.{silent_is}
use Rattle.body_cutter.specs.Sections.{End, Whole as AllCut, Faulty, Owed as BytesOwed}
use Rattle.body_cutter.specs.Places.{Place, still}
use Rattle.body_cutter.specs.Queues.{bodies_in}
use Rattle.body_cutter.specs.Cuttings.{Cutting, left, IsFed}
use Rattle.module_stream.specs.CutBodies.{counts_data, coded_all, behind, cut_run, sections_behind}
use Rattle.module_stream.specs.ValidPrefixes.{PrefixIsValid}
use Rattle.module_stream.specs.Streaming.{HasNoError}
use Rattle.module_stream.proofs.Cutting.{left_ending}
use Rattle.module_stream.proofs.ValidPrefixes.{parts_after, ending_after, front_ends, none_dropped, none_waits}

-- ---- before the first byte

-- nothing was read
pub none_read : (closing : Option ℕ) → PrefixIsValid closing []
unfolding fixed preamble
none_read closing = record {
  front = [];
  bodies = [];
  parts = refl;
  trees = [];
  valid = tt;
  text = λ r f. f;
  no_error = λ r e. absurd cc;
  waiting = none_waits closing (module_read []).ending;
}

-- ---- outside the bodies

owed_fault : (at : ℕ) (r : Refusal) → r.kind ≢ Ended → Some (record { offset = at; kind = Ended }) ≡ Some r → ⊥
owed_fault at r kind e = let same : record { offset = at; kind = Ended } ≡ r = cc in kind (sym (ap (λ (x : Refusal). x.kind) same))

end_fault : (seen : Seen) (at : ℕ) (r : Refusal) → r.kind ≢ Ended → ending_fault at (at_the_end seen).ending ≡ Some r → ⊥
end_fault seen at r kind e = of (owes seen) e
  where
    of : (b : Bool) → ending_fault at (if b then ends Owed else ends (Whole seen)).ending ≡ Some r → ⊥
    of true t = owed_fault at r kind t
    of false t = absurd cc

between_fault : (seen : Seen) (l : List ℕ) (at : ℕ) (r : Refusal) → r.kind ≢ Ended → ending_fault at (between seen l).ending ≡ Some r → ⊥
between_fault seen [] at r kind e = end_fault seen at r kind e
between_fault seen (b ∷ l) at r kind e = owed_fault at r kind e

unfinished_fault : (stage : Stage) (seen : Seen) (c : Cursor) (at : ℕ) (r : Refusal) → r.kind ≢ Ended → ending_fault at (unfinished stage seen c).ending ≡ Some r → ⊥
unfinished_fault Preamble seen c at r kind e = owed_fault at r kind e
unfinished_fault Between seen c at r kind e = between_fault seen c.rest at r kind e
unfinished_fault (Contents id) seen c at r kind e = owed_fault at r kind e
unfinished_fault (Entries id n) seen c at r kind e = owed_fault at r kind e

section_is_none : (seen : Seen) (at : ℕ) (l : List ℕ) → l ≡ [] → HasNoError (sections seen (record { at = at; rest = l; end = no_end }))
unfolding sections_up_to
section_is_none seen at [] none r kind e = end_fault seen at r kind (ap (ending_fault at) e)
section_is_none seen at (b ∷ l) none r kind e = absurd cc

-- a reader where what came completes no item
module _ (f : Front) (waits : f.waiting ≡ None) (none : f.refusal ≡ None) (apart : is_at_bodies f.steps.stage ≡ false) (stuck : outline.left f [] ≡ unfinished f.steps.stage f.steps.seen (cursor_of f)) where
  outline_there : f.kept.items ≡ [] → outline.left f [] ≡ proceed f.steps.stage f.steps.seen (record { at = f.at; rest = []; end = f.end })
  outline_there kept = rw (waits, none) (ap (λ (l : List ℕ). proceed f.steps.stage f.steps.seen (record { at = f.at; rest = l; end = f.end })) (append-nil f.kept.items ∙ kept))

  answered : {answer : _} (k : EndsOnward f answer) (r : Refusal) → (remaining_parts f []).ending ≡ Refused r → answer ≡ Some r
  answered k r e = sym k.fault ∙ ap (ending_fault (total f)) (sym (ap (λ (run : Run). run.ending) k.run ∙ ending_after k.told (ends k.ending)) ∙ e)

  pub front_is_none : HasNoError (remaining_parts f [])
  front_is_none = of f.kept.items refl
    where
      of : (l : List ℕ) → f.kept.items ≡ l → HasNoError (remaining_parts f [])
      of [] kept r kind e =
          unfinished_fault f.steps.stage f.steps.seen (cursor_of f) f.at r kind
          (ap (λ (run : Run). ending_fault f.at run.ending) (sym stuck ∙ outline_there kept)
          ∙ silent_is f.steps.seen f.at f.end f.ahead f.steps.stage
          ∙ answered (silent_ends f waits none apart kept) r e)
      of (b ∷ l) kept r kind e = owed_fault (total f) r kind (answered (kept_ends f waits none apart (omega (arith, ap length kept))) r e)

-- no item is there where no byte was fed
no_item : (told more : List Part) (x : Item) → AreSections (told ++ Listed x ∷ more) → ⊥
no_item [] more x are = are
no_item (Section at position ∷ told) more x are = no_item told more x are
no_item (Listed y ∷ told) more x are = are
no_item (Coded b ∷ told) more x are = are

pub none_is_read : (f g : Front) (taken : ℕ) (x : Item) → f.waiting ≡ None → is_at_bodies f.steps.stage ≡ false → Told f [] taken g → g.waiting ≡ Some x → ⊥
none_is_read f g taken x waits apart t some =
    let e = front_ends f waits apart in
    let run = from_there g.refusal (onward g.steps.stage g.steps.seen (with_more (cursor_of g) (drop taken [] ++ []))) in
    let item : remaining_parts g (drop taken [] ++ []) ≡ after_part (Listed x) run = rw some refl in
    let same : e.1.told ≡ t.told ++ Listed x ∷ run.parts =
    sym (append-nil e.1.told)
    ∙ sym (parts_after e.1.told (ends e.1.ending))
    ∙ ap (λ (k : Run). k.parts) (sym e.1.run ∙ t.run [] ∙ ap (after_parts t.told) item)
    ∙ parts_after t.told (after_part (Listed x) run) in
    no_item t.told run.parts x (subst AreSections same e.1.sections)

-- ---- among the bodies

pub place_is_none : (old mid : Cutting) (piece : List ℕ) (taken : ℕ) (p : Place) → IsFed old piece taken mid → p ≡ mid.place → (r : Refusal) → (still p []).ending ≡ Faulty r → ⊥
place_is_none old mid piece taken p fed place r e =
    let stop = fed.prompt.refused r (left_ending mid [] ∙ ap (λ (q : Place). (still q []).ending) (sym place) ∙ e) in
    let t : None ≡ Some r = sym fed.going ∙ stop in
    absurd cc

pub cut_is_none : (seen : Seen) (c : Cutting) → ((r : Refusal) → (still c.place []).ending ≡ Faulty r → ⊥) → HasNoError (cut_run (counts_data seen) (left c []) (sections_behind seen c.place.at c.place.end []))
cut_is_none seen c free r kind e = of (left c []).ending refl (sym (ending_after (coded_all (counts_data seen) (bodies_in (left c []).queue)) (behind (left c []).ending next)) ∙ e)
  where
    next : Run
    next = sections_behind seen c.place.at c.place.end []

    of : (k : End) → (left c []).ending ≡ k → (behind k next).ending ≡ Refused r → ⊥
    of AllCut is t = section_is_none seen c.place.end (drop (c.place.end - c.place.at) []) (none_dropped (c.place.end - c.place.at) [] refl) r kind t
    of (Faulty q) is t = free q (sym (left_ending c []) ∙ is)
    of BytesOwed is t = absurd cc

-- after the section
pub behind_is_none : (f : Front) (seen : Seen) (at : ℕ) → remaining_parts f [] ≡ sections seen (record { at = at; rest = []; end = no_end }) → HasNoError (remaining_parts f [])
behind_is_none f seen at run r kind e = section_is_none seen at [] refl r kind (ap (λ (k : Run). k.ending) (sym run) ∙ e)
