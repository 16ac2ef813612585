-- A module whose bytes come: what each step leaves.
use Rattle.std.specs.Prelude.{◌⊎◌, IsSome}
use Rattle.std.proofs.lemmas.List.{append-nil}
use Rattle.std.proofs.Common.{◌≡◌, ℕ, ◌+◌, ◌^◌, ◌≤◌, ◌<◌, inl, inr, true, false, List, [], ◌∷◌, ◌++◌, length, drop, Option, Some, None, Err, refl, sym, ap, subst, ◌∙◌, arith, length-append, length-drop}
use Rattle.wasm_defs.specs.declared.fault.Refusal.{Refusal}
use Rattle.wasm_defs.specs.declared.item.Item.{Item}
use Rattle.wasm_defs.specs.declared.item.Item.TheVariants as item
use Rattle.wasm_defs.specs.Faults.{ending_fault, use_of, UsesRight, IsUseFault, Rejected}
use Rattle.wasm_defs.specs.Outside.{Part, Run, Ending, Whole, Refused, Owed, ends, sections, no_end, module_read}
use Rattle.index_spaces.specs.Spaces.{Spaces, spaces_of, context_in, with_item}
use Rattle.section_reader.specs.declared.front.Front.{Front}
use Rattle.section_reader.specs.declared.steps.Steps.{Steps}
use Rattle.section_reader.specs.declared.stage.Stage.TheVariants as stage
use Rattle.section_reader.specs.Stages.{is_at_bodies, prepend}
use Rattle.section_reader.specs.Onward.{after_parts}
use Rattle.section_reader.specs.FrontLeft.{total, can_skip}
use Rattle.section_reader.specs.FrontOnward.{remaining_parts, Told, FedOnward, ToldRefused, FeedsOnward, Follows, BodiesCome, EndsOnward}
use Rattle.wasm_defs.specs.Entries.{Seen}
use Rattle.body_cutter.specs.Sections.{bodies_from}
use Rattle.body_cutter.specs.Sections as cut
use Rattle.body_cutter.specs.Places.{Place}
use Rattle.body_cutter.specs.Cuttings.{Cutting, Handed, left, handed, no_batch, is_whole, IsFed, IsRefused, Ends}
use Rattle.image_linker.specs.Judging.{IsVerdictOf}
use Rattle.module_stream.specs.Limits.{max_read}
use Rattle.module_stream.specs.declared.compilation.Compilation.{Compilation}
use Rattle.module_stream.specs.CutBodies.{counts_data, coded_all, cut_run, sections_behind}
use Rattle.wasm_defs.specs.declared.fault.Kind.TheVariants.{Ended}
use Rattle.wasm_defs.specs.declared.front_stop.FrontStop.{FrontStop}
use Rattle.wasm_defs.specs.declared.front_stop.FrontStop.TheVariants as stop
use Rattle.module_stream.specs.Codes.{Coding, AreAll}
use Rattle.module_stream.specs.Progress.{IsJudging, TakesPart}
use Rattle.module_stream.specs.Done.{Decides}
use Rattle.module_stream.specs.Streaming.{mode_weight, work_left, left_of, AreOpen, IsOutside, IsInside, IsPlaced, IsGoing, IsTaking, IsWaiting, TakesItem, Advances, GoesOn, with_cutter}
use Rattle.module_stream.proofs.CutRuns.{entries_cut, handed_run}
use Rattle.module_stream.proofs.Cutting.{run_fed, count_fed, whole_run, whole_at, refused_run, ended_run, prompt_on, rest_run, split_rest, rest_is}
use Rattle.module_stream.proofs.Compiled.{begins, after_item, sections_taken, start_refused, is_refused}
use Rattle.module_stream.proofs.Taking.{judging_on}
use Rattle.module_stream.proofs.Judging.{few_functions, few_imports}
use Rattle.module_stream.proofs.CodeEnds.{code_ends}
use Rattle.wasm_laws.proofs.Described.{whole_ending}

-- ---- what came is right

pub record IsReading (bytes : List ℕ) (f : Front) (spaces : Spaces) (codes : Coding) (more : List ℕ) : Type 0 where
  pub few : length bytes ≤ max_read
  pub judging : IsJudging bytes (remaining_parts f more) spaces codes
  pub place : IsOutside f (length bytes) more

pub record IsCutting (bytes : List ℕ) (f : Front) (c : Cutting) (spaces : Spaces) (codes : Coding) (more : List ℕ) : Type 0 where
  pub few : length bytes ≤ max_read
  pub judging : IsJudging bytes (cut_run (counts_data f.steps.seen) (left c more) (sections_behind f.steps.seen c.place.at c.place.end more)) spaces codes
  pub skips : can_skip f c.place.end ≡ true
  pub count : c.place.at + length more ≡ length bytes

module _ (bytes : List ℕ) (s : Compilation) (more : List ℕ) where
  pub reading_of : s.cutter ≡ None → IsGoing bytes s more → IsReading bytes s.front s.spaces s.codes more
  reading_of e g = record {
    few = g.few;
    judging = subst (λ (o : Option Cutting). IsJudging bytes (left_of s.front o more) s.spaces s.codes) e g.judging;
    place = subst (λ (o : Option Cutting). IsPlaced s.batch s.front o (length bytes) more) e g.place;
  }

  pub going_reading : s.cutter ≡ None → IsReading bytes s.front s.spaces s.codes more → IsGoing bytes s more
  going_reading e r = record {
    few = r.few;
    judging = subst (λ (o : Option Cutting). IsJudging bytes (left_of s.front o more) s.spaces s.codes) (sym e) r.judging;
    place = subst (λ (o : Option Cutting). IsPlaced s.batch s.front o (length bytes) more) (sym e) r.place;
  }

  module _ (c : Cutting) (e : s.cutter ≡ Some c) where
    inside_of : IsGoing bytes s more → IsInside s.batch s.front c (length bytes) more
    inside_of g = subst (λ (o : Option Cutting). IsPlaced s.batch s.front o (length bytes) more) e g.place

    pub cutting_of : IsGoing bytes s more → IsCutting bytes s.front c s.spaces s.codes more
    cutting_of g = record {
      few = g.few;
      judging = subst (λ (o : Option Cutting). IsJudging bytes (left_of s.front o more) s.spaces s.codes) e g.judging;
      skips = (inside_of g).skips;
      count = (inside_of g).count;
    }

    pub begun_of : IsGoing bytes s more → AreOpen s.batch (left c more).queue.begun
    begun_of g = (inside_of g).begun

    pub going_cutting : IsCutting bytes s.front c s.spaces s.codes more → AreOpen s.batch (left c more).queue.begun → IsGoing bytes s more
    going_cutting k begun = record {
      few = k.few;
      judging = subst (λ (o : Option Cutting). IsJudging bytes (left_of s.front o more) s.spaces s.codes) (sym e) k.judging;
      place = subst (λ (o : Option Cutting). IsPlaced s.batch s.front o (length bytes) more) (sym e) (record { skips = k.skips; count = k.count; begun = begun });
    }

-- ---- before the first byte

pub reading_begins : (bytes : List ℕ) (f : Front) (spaces : Spaces) (codes : Coding) → length bytes ≤ max_read → remaining_parts f bytes ≡ module_read bytes → total f ≡ 0 → is_at_bodies f.steps.stage ≡ false → f.waiting ≡ None → spaces ≡ spaces_of [] → AreAll codes []
    → IsReading bytes f spaces codes bytes
reading_begins bytes f spaces codes few is none apart idle empty uncoded = record {
  few = few;
  judging = begins bytes (remaining_parts f bytes) spaces codes is empty uncoded;
  place = record { idle = idle; outside = apart; count = omega (arith, none) };
}

-- ---- bytes outside the bodies

pub length_left : (n : ℕ) (xs : List ℕ) → n ≤ length xs → n + length (drop n xs) ≡ length xs
length_left n xs h = omega (arith, length-drop n xs)

module _ (bytes : List ℕ) (f g h : Front) (spaces : Spaces) (codes : Coding) (piece more : List ℕ) (taken : ℕ) (few : taken ≤ length piece) (fed : FedOnward f piece taken g) (item : Option Item)
    (same : (later : List ℕ) → remaining_parts g later ≡ prepend item (remaining_parts h later)) (count : total h ≡ total g) where
  abbrev pub later : List ℕ
  later = drop taken piece ++ more

  pub judging_fed : IsReading bytes f spaces codes (piece ++ more) → IsJudging bytes (prepend item (remaining_parts h later)) spaces codes
  judging_fed r =
      let t : Told f piece taken g = fed.told r.place.outside in
      sections_taken bytes spaces codes t.told (prepend item (remaining_parts h later)) t.sections
      (judging_on bytes (remaining_parts f (piece ++ more)) (after_parts t.told (prepend item (remaining_parts h later))) spaces codes (t.run more ∙ ap (after_parts t.told) (same later)) r.judging)

  pub count_later : IsReading bytes f spaces codes (piece ++ more) → total h + length later ≡ length bytes
  count_later r = omega (arith, r.place.count, count, fed.count, few, length-append piece more, length-append (drop taken piece) more, length_left taken piece few)

-- no item is whole
pub reading_on : (bytes : List ℕ) (f g h : Front) (spaces : Spaces) (codes : Coding) (piece more : List ℕ) (taken : ℕ) → taken ≤ length piece → FedOnward f piece taken g
    → ((later : List ℕ) → remaining_parts g later ≡ remaining_parts h later) → h.steps ≡ g.steps → total h ≡ total g → g.waiting ≡ None → h.waiting ≡ None
    → IsReading bytes f spaces codes (piece ++ more) → IsReading bytes h spaces codes (drop taken piece ++ more)
reading_on bytes f g h spaces codes piece more taken few fed same steps count none idle r = record {
  few = r.few;
  judging = judging_fed bytes f g h spaces codes piece more taken few fed None same count r;
  place = record {
    idle = idle;
    outside = ap (λ (s : Steps). is_at_bodies s.stage) steps ∙ fed.apart r.place.outside none;
    count = count_later bytes f g h spaces codes piece more taken few fed None same count r;
  };
}

-- ---- errors outside bodies

-- no part is left, and the module is refused so
pub refused_at : (bytes : List ℕ) (spaces : Spaces) (codes : Coding) (ending : Ending) (r : Refusal) → ending_fault (length bytes) ending ≡ Some r → IsJudging bytes (ends ending) spaces codes → IsVerdictOf bytes (Rejected r)
refused_at bytes spaces codes ending r is j = is_refused bytes (ends ending) spaces codes (length bytes) r j refl refl is

pub refused_reading : (bytes : List ℕ) (f g : Front) (spaces : Spaces) (codes : Coding) (piece more : List ℕ) (r : Refusal) → ToldRefused f piece r g → IsReading bytes f spaces codes (piece ++ more) → IsVerdictOf bytes (Rejected r)
refused_reading bytes f g spaces codes piece more r t p =
    refused_at bytes spaces codes (Refused r) r refl
    (sections_taken bytes spaces codes t.told (ends (Refused r)) t.sections (judging_on bytes (remaining_parts f (piece ++ more)) (after_parts t.told (ends (Refused r))) spaces codes (t.run more) p.judging))

-- ---- the bytes end outside the bodies

module _ (bytes : List ℕ) (f : Front) (spaces : Spaces) (codes : Coding) (fault : Option Refusal) (t : EndsOnward f fault) (p : IsReading bytes f spaces codes []) where
  judging_end : IsJudging bytes (ends t.ending) spaces codes
  judging_end = sections_taken bytes spaces codes t.told (ends t.ending) t.sections (judging_on bytes (remaining_parts f []) (after_parts t.told (ends t.ending)) spaces codes t.run p.judging)

  all_read : total f ≡ length bytes
  all_read = omega (arith, p.place.count)

  fault_is : ending_fault (length bytes) t.ending ≡ fault
  fault_is = ap (λ (n : ℕ). ending_fault n t.ending) (sym all_read) ∙ t.fault

  pub end_refused : (e : Refusal) → fault ≡ Some e → IsVerdictOf bytes (Rejected e)
  end_refused e is = refused_at bytes spaces codes t.ending e (fault_is ∙ is) judging_end

  pub end_whole : fault ≡ None → (seen : Seen) × IsJudging bytes (ends (Whole seen)) spaces codes
  end_whole is =
      let w = whole_ending (length bytes) t.ending (fault_is ∙ is) in
      (w.0, judging_on bytes (ends t.ending) (ends (Whole w.0)) spaces codes (ap ends w.1) judging_end)

-- ---- items

module _ (bytes : List ℕ) (s : Compilation) (x : Item) (more : List ℕ) (t : IsTaking bytes s x more) where
  -- the start function is wrong
  pub item_refused : (r : Refusal) → IsUseFault (context_in s.spaces) (use_of x) r → IsVerdictOf bytes (Rejected r)
  item_refused r f = start_refused bytes (remaining_parts s.front more) s.spaces s.codes x r t.judging f

  pub item_judged : (later : Spaces) → UsesRight (context_in s.spaces) (use_of x) → later ≡ with_item s.spaces x → IsJudging bytes (remaining_parts s.front more) later s.codes
  item_judged later starts is = after_item bytes (remaining_parts s.front more) s.codes s.spaces later x t.judging starts is

  -- no bodies come
  pub item_reading : (later : Spaces) → UsesRight (context_in s.spaces) (use_of x) → later ≡ with_item s.spaces x → is_at_bodies s.front.steps.stage ≡ false → IsReading bytes s.front later s.codes more
  item_reading later starts is apart = record {
    few = t.few;
    judging = item_judged later starts is;
    place = record { idle = t.idle; outside = apart; count = t.count };
  }

  -- the bodies come
  pub item_cutting : (later : Spaces) (c : Cutting) (count end : ℕ) → UsesRight (context_in s.spaces) (use_of x) → later ≡ with_item s.spaces x → BodiesCome count end s.front
      → ((rest : List ℕ) → remaining_parts s.front rest ≡ cut_run (counts_data s.front.steps.seen) (left c rest) (sections_behind s.front.steps.seen c.place.at c.place.end rest)) → c.place.at ≡ total s.front → c.place.end ≡ end
      → IsCutting bytes s.front c later s.codes more
  item_cutting later c count end starts is come run at ends = record {
    few = t.few;
    judging = judging_on bytes (remaining_parts s.front more) (cut_run (counts_data s.front.steps.seen) (left c more) (sections_behind s.front.steps.seen c.place.at c.place.end more)) later s.codes (run more) (item_judged later starts is);
    skips = subst (λ (n : ℕ). can_skip s.front n ≡ true) (sym ends) come.skip;
    count = omega (arith, at, t.count);
  }

-- the bodies, by the cutter
pub bodies_cut : (f : Front) (c : Cutting) (index count end least : ℕ) → BodiesCome count end f
    → ((rest : List ℕ) → left c rest ≡ handed (no_batch least) (bodies_from index count (record { at = total f; rest = rest; end = end }))) → c.place.at ≡ total f → c.place.end ≡ end
    → (rest : List ℕ) → remaining_parts f rest ≡ cut_run (counts_data f.steps.seen) (left c rest) (sections_behind f.steps.seen c.place.at c.place.end rest)
bodies_cut f c index count end least come is at ends rest =
    let g = bodies_from index count (record { at = total f; rest = rest; end = end }) in
    come.run rest
    ∙ entries_cut count index f.steps.seen come.counted (record { at = total f; rest = rest; end = end }) come.ahead
    ∙ sym (handed_run (counts_data f.steps.seen) least g (sections_behind f.steps.seen (total f) end rest))
    ∙ ap (λ (h : Handed). cut_run (counts_data f.steps.seen) h (sections_behind f.steps.seen (total f) end rest)) (sym (is rest))
    ∙ ap (λ (n : ℕ). cut_run (counts_data f.steps.seen) (left c rest) (sections_behind f.steps.seen n end rest)) (sym at)
    ∙ ap (λ (n : ℕ). cut_run (counts_data f.steps.seen) (left c rest) (sections_behind f.steps.seen c.place.at n rest)) (sym ends)

-- after an item other than the code section's count the bodies don't come
pub not_bodies : (x : Item) (f : Front) → ((count : ℕ × ℕ) (end : ℕ) → x ≡ item.Code count end → ⊥) → Follows x f → is_at_bodies f.steps.stage ≡ false
not_bodies (item.Code count end) f none h = absurd (none count end refl)
not_bodies (item.Signature form params results ty) f none h = h
not_bodies (item.Imported from what kind type_index) f none h = h
not_bodies (item.Function type_index) f none h = h
not_bodies (item.Table element limits) f none h = h
not_bodies (item.Memory limits) f none h = h
not_bodies (item.Global ty mutable init) f none h = h
not_bodies (item.Exported label kind index) f none h = h
not_bodies (item.Start index) f none h = h
not_bodies (item.Element table place functions) f none h = h
not_bodies (item.DataCount count) f none h = h
not_bodies (item.Passive form bytes) f none h = h
not_bodies (item.Segment form memory place bytes) f none h = h

-- the bodies may begin
pub may_begin : (bytes : List ℕ) (s : Compilation) (count : ℕ × ℕ) (end : ℕ) (more : List ℕ) (t : IsTaking bytes s (item.Code count end) more) (later : Spaces) → UsesRight (context_in s.spaces) (use_of (item.Code count end)) → later ≡ with_item s.spaces (item.Code count end)
    → (length later.functions < 2 ^ 32) × (later.imported + count.1 < 2 ^ 32) × (total s.front ≤ end) × (end < 2 ^ 60)
may_begin bytes s count end more t later starts is =
    let run = remaining_parts s.front more in
    let j = item_judged bytes s (item.Code count end) more t later starts is in
    let functions = few_functions bytes run later s.codes.count j.judged in
    let imports = few_imports bytes run later s.codes.count j.judged in
    let near = code_ends bytes t.judging.judged.front run.parts count end t.judging.judged.parts in
    (omega (arith, t.few), omega (arith, t.few, t.follows.few, t.count), t.follows.ahead, omega arith)

-- ---- each step lessens what is left

pub shorter : (taken : ℕ) (piece : List ℕ) → taken ≤ length piece → length (drop taken piece) ≤ length piece
shorter taken piece few = omega (arith, length-drop taken piece)

pub parts_told : (told : List Part) (r : Run) → length (after_parts told r).parts ≡ length told + length r.parts
parts_told [] r = omega arith
parts_told (x ∷ told) r = omega (arith, parts_told told r)

module _ (f g h : Front) (piece : List ℕ) (taken : ℕ) (few : taken ≤ length piece) (t : Told f piece taken g) (item : Option Item)
    (same : (later : List ℕ) → remaining_parts g later ≡ prepend item (remaining_parts h later)) where
  run_is : remaining_parts f piece ≡ after_parts t.told (prepend item (remaining_parts h (drop taken piece)))
  run_is =
      ap (remaining_parts f) (sym (append-nil piece))
      ∙ t.run []
      ∙ ap (λ (l : List ℕ). after_parts t.told (remaining_parts g l)) (append-nil (drop taken piece))
      ∙ ap (after_parts t.told) (same (drop taken piece))

  pub parts_are : length (remaining_parts f piece).parts ≡ length t.told + length (prepend item (remaining_parts h (drop taken piece))).parts
  parts_are = ap (λ (r : Run). length r.parts) run_is ∙ parts_told t.told (prepend item (remaining_parts h (drop taken piece)))

mode_is_small : (o : Option Cutting) → mode_weight o ≤ 1
mode_is_small None = omega arith
mode_is_small (Some c) = omega arith

pub less_item : (old new : Compilation) (g h : Front) (x : Item) (piece : List ℕ) (taken : ℕ) → old.cutter ≡ None → taken ≤ length piece → Told old.front piece taken g → ((later : List ℕ) → remaining_parts g later ≡ prepend (Some x) (remaining_parts h later))
    → ((later : List ℕ) → remaining_parts h later ≡ left_of new.front new.cutter later) → work_left new (drop taken piece) < work_left old piece
less_item old new g h x piece taken none few t same took =
    let there : length (left_of old.front old.cutter piece).parts ≡ length (remaining_parts old.front piece).parts = ap (λ (o : Option Cutting). length (left_of old.front o piece).parts) none in
    let here : length (left_of new.front new.cutter (drop taken piece)).parts ≡ length (remaining_parts h (drop taken piece)).parts = sym (ap (λ (r : Run). length r.parts) (took (drop taken piece))) in
    omega (arith, there, here, parts_are old.front g h piece taken few t (Some x) same, mode_is_small new.cutter, shorter taken piece few)

pub less_none : (old new : Compilation) (g h : Front) (piece : List ℕ) (taken : ℕ) → old.cutter ≡ None → new.cutter ≡ None → new.front ≡ h → taken ≡ length piece → 0 < length piece → Told old.front piece taken g
    → ((later : List ℕ) → remaining_parts g later ≡ remaining_parts h later) → work_left new (drop taken piece) < work_left old piece
less_none old new g h piece taken none still front all some t same =
    let few : taken ≤ length piece = omega arith in
    let there : length (left_of old.front old.cutter piece).parts ≡ length (remaining_parts old.front piece).parts = ap (λ (o : Option Cutting). length (left_of old.front o piece).parts) none in
    let here : length (left_of new.front new.cutter (drop taken piece)).parts ≡ length (remaining_parts h (drop taken piece)).parts = ap (λ (o : Option Cutting). length (left_of new.front o (drop taken piece)).parts) still ∙ ap (λ (k : Front). length (remaining_parts k (drop taken piece)).parts) front in
    let mode : mode_weight new.cutter ≡ 0 = ap mode_weight still in
    omega (arith, there, here, mode, parts_are old.front g h piece taken few t None same, length-drop taken piece)

-- ---- bytes among the bodies

module _ (bytes : List ℕ) (f : Front) (old mid : Cutting) (spaces : Spaces) (codes : Coding) (piece more : List ℕ) (k : IsCutting bytes f old spaces codes (piece ++ more)) where
  -- the closed batches come next
  pub fed_judging : (taken : ℕ) → IsFed old piece taken mid → IsJudging bytes (after_parts (coded_all (counts_data f.steps.seen) mid.queue.closed) (rest_run f.steps.seen mid (drop taken piece ++ more))) spaces codes
  fed_judging taken fed =
      judging_on bytes (cut_run (counts_data f.steps.seen) (left old (piece ++ more)) (sections_behind f.steps.seen old.place.at old.place.end (piece ++ more))) (after_parts (coded_all (counts_data f.steps.seen) mid.queue.closed) (rest_run f.steps.seen mid (drop taken piece ++ more))) spaces codes
      (run_fed old mid piece taken fed f.steps.seen more ∙ split_rest f.steps.seen mid (drop taken piece ++ more)) k.judging

  -- and then the section's error
  pub refused_judging : (r : Refusal) → IsRefused old piece r mid → IsJudging bytes (after_parts (coded_all (counts_data f.steps.seen) mid.queue.closed) (ends (Refused r))) spaces codes
  refused_judging r refused =
      judging_on bytes (cut_run (counts_data f.steps.seen) (left old (piece ++ more)) (sections_behind f.steps.seen old.place.at old.place.end (piece ++ more))) (after_parts (coded_all (counts_data f.steps.seen) mid.queue.closed) (ends (Refused r))) spaces codes
      (refused_run (counts_data f.steps.seen) old mid piece more r (sections_behind f.steps.seen old.place.at old.place.end (piece ++ more)) refused) k.judging

-- the bodies that were closed are taken
module _ (bytes : List ℕ) (f : Front) (old mid new : Cutting) (spaces : Spaces) (codes : Coding) (piece more : List ℕ) (taken : ℕ) (fed : IsFed old piece taken mid)
    (place : new.place ≡ mid.place) (closed : new.queue.closed ≡ []) (begun_same : new.queue.begun ≡ mid.queue.begun) where
  abbrev behind_piece : List ℕ
  behind_piece = drop taken piece ++ more

  judged_run : (later : List ℕ) → rest_run f.steps.seen mid later ≡ cut_run (counts_data f.steps.seen) (left new later) (sections_behind f.steps.seen new.place.at new.place.end later)
  judged_run later = rest_is f.steps.seen mid new later place closed begun_same

  at_same : new.place.at ≡ mid.place.at
  at_same = ap (λ (p : Place). p.at) place

  end_same : new.place.end ≡ old.place.end
  end_same = ap (λ (p : Place). p.end) place ∙ fed.place.1

  pub cutting_on : can_skip f old.place.end ≡ true → length bytes ≤ max_read → old.place.at + length (piece ++ more) ≡ length bytes → IsJudging bytes (rest_run f.steps.seen mid behind_piece) spaces codes
      → IsCutting bytes f new spaces codes behind_piece
  cutting_on skips few count j = record {
    few = few;
    judging = judging_on bytes (rest_run f.steps.seen mid behind_piece) (cut_run (counts_data f.steps.seen) (left new behind_piece) (sections_behind f.steps.seen new.place.at new.place.end behind_piece)) spaces codes (judged_run behind_piece) j;
    skips = subst (λ (n : ℕ). can_skip f n ≡ true) (sym end_same) skips;
    count = ap (λ (n : ℕ). n + length behind_piece) at_same ∙ count_fed old mid piece taken fed (length bytes) more count;
  }

  pub waiting_on : is_whole new ≡ false → IsWaiting new
  waiting_on owed = record {
    going = ap (λ (p : Place). p.stop) place ∙ fed.going;
    owed = owed;
    taken = closed;
    prompt = prompt_on mid new fed.prompt.queue place begun_same;
  }

  cut_parts : length (cut_run (counts_data f.steps.seen) (left old piece) (sections_behind f.steps.seen old.place.at old.place.end piece)).parts ≡ length (coded_all (counts_data f.steps.seen) mid.queue.closed) + length (rest_run f.steps.seen mid (drop taken piece)).parts
  cut_parts =
      ap (λ (l : List ℕ). length (cut_run (counts_data f.steps.seen) (left old l) (sections_behind f.steps.seen old.place.at old.place.end l)).parts) (sym (append-nil piece))
      ∙ ap (λ (r : Run). length r.parts) (run_fed old mid piece taken fed f.steps.seen [])
      ∙ ap (λ (l : List ℕ). length (cut_run (counts_data f.steps.seen) (left mid l) (sections_behind f.steps.seen mid.place.at mid.place.end l)).parts) (append-nil (drop taken piece))
      ∙ ap (λ (r : Run). length r.parts) (split_rest f.steps.seen mid (drop taken piece))
      ∙ parts_told (coded_all (counts_data f.steps.seen) mid.queue.closed) (rest_run f.steps.seen mid (drop taken piece))

  -- the section is whole
  module _ (g : Front) (whole : is_whole new ≡ true) (is : (later : List ℕ) → left new later ≡ record { queue = new.queue; ending = cut.Whole }) (skipped : (later : List ℕ) → remaining_parts g later ≡ sections f.steps.seen (record { at = new.place.end; rest = later; end = no_end })) where
    skipped_run : (later : List ℕ) → rest_run f.steps.seen mid later ≡ remaining_parts g later
    skipped_run later = judged_run later ∙ whole_run f.steps.seen new later whole (is later) closed ∙ sym (skipped later)

    pub reading_behind : length bytes ≤ max_read → old.place.at + length (piece ++ more) ≡ length bytes → IsJudging bytes (rest_run f.steps.seen mid behind_piece) spaces codes
        → g.steps.stage ≡ stage.Between → total g ≡ new.place.end → g.waiting ≡ None → IsReading bytes g spaces codes behind_piece
    reading_behind few count j between all idle = record {
      few = few;
      judging = judging_on bytes (rest_run f.steps.seen mid behind_piece) (remaining_parts g behind_piece) spaces codes (skipped_run behind_piece) j;
      place = record {
        idle = idle;
        outside = ap is_at_bodies between;
        count = omega (arith, all, whole_at new whole, at_same, count_fed old mid piece taken fed (length bytes) more count);
      };
    }

    pub less_whole : length (remaining_parts g (drop taken piece)).parts ≤ length (cut_run (counts_data f.steps.seen) (left old piece) (sections_behind f.steps.seen old.place.at old.place.end piece)).parts
    less_whole = omega (arith, ap (λ (r : Run). length r.parts) (skipped_run (drop taken piece)), cut_parts)

  pub less_cut : length (cut_run (counts_data f.steps.seen) (left new (drop taken piece)) (sections_behind f.steps.seen new.place.at new.place.end (drop taken piece))).parts ≤ length (cut_run (counts_data f.steps.seen) (left old piece) (sections_behind f.steps.seen old.place.at old.place.end piece)).parts
  less_cut = omega (arith, cut_parts, ap (λ (r : Run). length r.parts) (judged_run (drop taken piece)))

-- ---- errors

pub fault_advances : (bytes piece : List ℕ) (s : FrontStop) (run : Run) (spaces : Spaces) (codes : Coding) (state : Compilation) (more : List ℕ) → TakesPart bytes (Err s) run spaces codes → Advances bytes piece (Err s) state more
fault_advances bytes piece (stop.Refused r) run spaces codes state more h = h
fault_advances bytes piece stop.NoMemory run spaces codes state more h = tt

pub front_stops : (bytes : List ℕ) (f g : Front) (spaces : Spaces) (codes : Coding) (piece more : List ℕ) (s : FrontStop) (state : Compilation) → FeedsOnward f piece (Err s) g → IsReading bytes f spaces codes (piece ++ more) → Advances bytes piece (Err s) state more
front_stops bytes f g spaces codes piece more (stop.Refused r) state fed p = refused_reading bytes f g spaces codes piece more r (fed p.place.outside) p
front_stops bytes f g spaces codes piece more stop.NoMemory state fed p = tt

pub fault_decides : (bytes : List ℕ) (s : FrontStop) (run : Run) (spaces : Spaces) (codes : Coding) (state : Compilation) → TakesPart bytes (Err s) run spaces codes → Decides bytes (Err s) state
fault_decides bytes (stop.Refused r) run spaces codes state h = h
fault_decides bytes stop.NoMemory run spaces codes state h = tt

pub going_decides : (bytes : List ℕ) (s : FrontStop) (old state : Compilation) (more : List ℕ) → GoesOn bytes (Err s) old more → Decides bytes (Err s) state
going_decides bytes (stop.Refused r) old state more h = h
going_decides bytes stop.NoMemory old state more h = tt

pub item_advances : (bytes piece : List ℕ) (s : FrontStop) (old state new : Compilation) (more next : List ℕ) → TakesItem bytes old (Err s) state more → Advances bytes piece (Err s) new next
item_advances bytes piece (stop.Refused r) old state new more next h = h
item_advances bytes piece stop.NoMemory old state new more next h = tt

-- ---- the bytes end among the bodies

stops_not : (old : Cutting) (r : Refusal) → old.place.stop ≡ None → old.place.stop ≡ Some r → ⊥
stops_not old r e f = let t : None ≡ Some r = sym e ∙ f in absurd cc

pub ended_judging : (bytes : List ℕ) (f : Front) (old new : Cutting) (spaces : Spaces) (codes : Coding) (s : FrontStop) → IsCutting bytes f old spaces codes [] → IsWaiting old → Ends old (Err s) new
    → IsJudging bytes (after_parts (coded_all (counts_data f.steps.seen) new.queue.closed) (ends Owed)) spaces codes × (s ≡ stop.Refused (record { offset = length bytes; kind = Ended }))
ended_judging bytes f old new spaces codes (stop.Refused r) k w (inl e) = absurd (stops_not old r w.going e.0)
ended_judging bytes f old new spaces codes (stop.Refused r) k w (inr e) =
    let count : old.place.at ≡ length bytes = omega (arith, k.count) in (
      judging_on bytes (cut_run (counts_data f.steps.seen) (left old []) (sections_behind f.steps.seen old.place.at old.place.end [])) (after_parts (coded_all (counts_data f.steps.seen) new.queue.closed) (ends Owed)) spaces codes
          (ended_run (counts_data f.steps.seen) old new (sections_behind f.steps.seen old.place.at old.place.end []) w.prompt e.owed e.closed) k.judging,
      ap (λ (x : Refusal). stop.Refused x) (e.fault ∙ ap (λ (n : ℕ). record { offset = n; kind = Ended }) count),
    )
ended_judging bytes f old new spaces codes stop.NoMemory k w e = absurd e

-- with the cutter taken out and put back
pub taken_out : (bytes : List ℕ) (s t : Compilation) (c : Cutting) (more : List ℕ) → s.cutter ≡ Some c → t.batch ≡ s.batch → t.front ≡ s.front → t.spaces ≡ s.spaces → t.codes ≡ s.codes → IsGoing bytes s more
    → IsGoing bytes (with_cutter t c) more
taken_out bytes s t c more e batch front spaces codes g =
    let k = cutting_of bytes s more c e g in
    going_cutting bytes (with_cutter t c) more c refl (rw (front, spaces, codes) k) (subst (λ (n : ℕ). AreOpen n (left c more).queue.begun) (sym batch) (begun_of bytes s more c e g))

-- ---- an item that was read

pub item_read : (bytes : List ℕ) (s t : Compilation) (g : Front) (x : Item) (piece more : List ℕ) (taken : ℕ) → taken ≤ length piece → FedOnward s.front piece taken g
    → ((later : List ℕ) → remaining_parts g later ≡ prepend (Some x) (remaining_parts t.front later)) → total t.front ≡ total g → t.front.waiting ≡ None → Follows x t.front
    → t.cutter ≡ None → t.spaces ≡ s.spaces → t.codes ≡ s.codes
    → IsReading bytes s.front s.spaces s.codes (piece ++ more) → IsTaking bytes t x (drop taken piece ++ more)
item_read bytes s t g x piece more taken few fed same count idle follows none spaces codes r =
    let k = judging_fed bytes s.front g t.front s.spaces s.codes piece more taken few fed (Some x) same count r in
    record {
      few = r.few;
      judging = rw (spaces, codes) k;
      outside = none;
      idle = idle;
      follows = follows;
      count = count_later bytes s.front g t.front s.spaces s.codes piece more taken few fed (Some x) same count r;
    }

-- where no item waits, all bytes were taken
pub none_waits : (g : Front) (len taken : ℕ) → g.waiting ≡ None → (taken ≡ len) ⊎ IsSome g.waiting → taken ≡ len
none_waits g len taken none (inl all) = all
none_waits g len taken none (inr some) = absurd (let e = rw none at some in cc)
