-- What a compilation took of a module's bytes is right so far.
use Rattle.std.proofs.Common.{◌≡◌, ℕ, zero, suc, ◌+◌, ◌-◌, ◌<◌, inl, inr, Bool, true, false, cond, List, [], ◌∷◌, ◌++◌, length, drop, Option, Some, None, refl, sym, ap, subst, ◌∙◌, append_assoc, arith}
use Rattle.std.specs.Prelude.{◌≢◌, ◌⊎◌, IfSome, is_some}
use Rattle.std.proofs.lemmas.List.{append-nil}
use Rattle.wasm_defs.specs.declared.fault.Kind.TheVariants.{Ended}
use Rattle.wasm_defs.specs.declared.fault.Refusal.{Refusal}
use Rattle.wasm_defs.specs.declared.item.Item.{Item}
use Rattle.wasm_defs.specs.Context.{data_count_of}
use Rattle.wasm_defs.specs.Entries.{Seen}
use Rattle.wasm_defs.specs.Faults.{items_of, bodies_of, AreValid}
use Rattle.wasm_defs.specs.Outside.{Part, Section, Listed, Coded, Run, Ending, Whole, Refused, Owed, ends, owes, no_end, sections_up_to, sections, module_read}
use Rattle.wasm_laws.proofs.BodyKinds.{EndingLasts, module_lasts}
use Rattle.wasm_laws.proofs.PartLists.{valid_both}
use Rattle.wasm_laws.specs.Order.{AreOrdered, first_section}
use Rattle.wasm_laws.proofs.Order.{parts_in_module}
use Rattle.image_linker.specs.Judging.{IsTextFault}
use Rattle.index_spaces.specs.Spaces.{Spaces}
use Rattle.section_reader.specs.declared.front.Front.{Front}
use Rattle.section_reader.specs.Stages.{is_at_bodies}
use Rattle.section_reader.specs.FrontLeft.{total}
use Rattle.section_reader.specs.FrontOnward.{EndsOnward}
use Rattle.section_reader.specs.Onward.{after_parts, AreSections}
use Rattle.section_reader.proofs.OnwardSilence.{refused_ends, kept_ends, silent_ends}
use Rattle.body_cutter.specs.Sections.{End, Whole as AllCut, Faulty, Owed as BytesOwed}
use Rattle.body_cutter.specs.Bodies.{Body, byte_count}
use Rattle.body_cutter.specs.Queues.{Queue, bodies_in}
use Rattle.body_cutter.specs.Cuttings.{Cutting, left}
use Rattle.module_stream.specs.declared.compilation.Compilation.{Compilation}
use Rattle.module_stream.specs.CutBodies.{counts_data, coded_all, behind, sections_behind}
use Rattle.module_stream.specs.Codes.{Coding}
use Rattle.module_stream.specs.Progress.{IsJudged, IsJudging}
use Rattle.module_stream.specs.ValidPrefixes.{MayWait, PrefixIsValid}
use Rattle.module_stream.specs.Streaming.{left_of, AreOpen, IsGoing, IsPlaced, IsWaiting, AllWait, ClosedAreValid, HasNoError, IsErrorFree}
use Rattle.module_stream.proofs.Cutting.{left_begun}
use Rattle.module_stream.proofs.Judging.{all_told}
use Rattle.module_stream.proofs.Stopped.{not_ended, text_stays, text_splits}
use Rattle.module_stream.proofs.TextFaults.{text_in_one}

-- ---- parts one after the other

pub parts_after : (told : List Part) (run : Run) → (after_parts told run).parts ≡ told ++ run.parts
parts_after [] run = refl
parts_after (x ∷ told) run = ap (λ (l : List Part). x ∷ l) (parts_after told run)

pub ending_after : (told : List Part) (run : Run) → (after_parts told run).ending ≡ run.ending
ending_after [] run = refl
ending_after (x ∷ told) run = ending_after told run

-- ---- outside the bodies

pub front_ends : (f : Front) → f.waiting ≡ None → is_at_bodies f.steps.stage ≡ false → (answer : Option Refusal) × EndsOnward f answer
front_ends f waits apart = of f.refusal refl
  where
    held : f.refusal ≡ None → (l : List ℕ) → f.kept.items ≡ l → (answer : Option Refusal) × EndsOnward f answer
    held none [] e = (_, silent_ends f waits none apart e)
    held none (b ∷ l) e = (Some (record { offset = total f; kind = Ended }), kept_ends f waits none apart (omega (arith, ap length e)))

    of : (r : Option Refusal) → f.refusal ≡ r → (answer : Option Refusal) × EndsOnward f answer
    of None e = held e f.kept.items refl
    of (Some r) e = (Some r, refused_ends f r waits e)

-- ---- among the bodies

pub none_dropped : (n : ℕ) (l : List ℕ) → l ≡ [] → drop n l ≡ []
none_dropped zero [] e = refl
none_dropped (suc n) [] e = refl
none_dropped n (b ∷ l) e = absurd cc

no_part : (b : Bool) (seen : Seen) → (cond b (ends Owed) (ends (Whole seen))).parts ≡ []
no_part true seen = refl
no_part false seen = refl

no_section : (seen : Seen) (at : ℕ) (l : List ℕ) → l ≡ [] → (sections seen (record { at = at; rest = l; end = no_end })).parts ≡ []
unfolding sections_up_to
no_section seen at [] e = no_part (owes seen) seen
no_section seen at (b ∷ l) e = absurd cc

nothing_behind : (e : End) (next : Run) → next.parts ≡ [] → (behind e next).parts ≡ []
nothing_behind AllCut next h = h
nothing_behind (Faulty r) next h = refl
nothing_behind BytesOwed next h = refl

bodies_cut : (f : Front) (c : Cutting) → (left_of f (Some c) []).parts ≡ coded_all (counts_data f.steps.seen) (bodies_in (left c []).queue)
bodies_cut f c =
    parts_after (coded_all (counts_data f.steps.seen) (bodies_in (left c []).queue)) (behind (left c []).ending (sections_behind f.steps.seen c.place.at c.place.end []))
    ∙ ap (λ (l : List Part). coded_all (counts_data f.steps.seen) (bodies_in (left c []).queue) ++ l) (nothing_behind (left c []).ending (sections_behind f.steps.seen c.place.at c.place.end []) (no_section f.steps.seen c.place.end _ (none_dropped (c.place.end - c.place.at) [] refl)))
    ∙ append-nil (coded_all (counts_data f.steps.seen) (bodies_in (left c []).queue))

-- the bodies say what the items before them say
counted_in : (came : List ℕ) (f : Front) (c : Cutting) {spaces : _} {n : ℕ} (j : IsJudged came (left_of f (Some c) []) spaces n)
    → coded_all (counts_data f.steps.seen) (bodies_in (left c []).queue) ≡ coded_all (is_some (data_count_of (items_of j.front))) (bodies_in (left c []).queue)
counted_in came f c j =
    let bodies = bodies_in (left c []).queue in
    all_told came (behind (left c []).ending (sections_behind f.steps.seen c.place.at c.place.end [])) _ _ (counts_data f.steps.seen) bodies j
    ∙ ap (λ (s : Spaces). coded_all (is_some s.data_count) bodies) j.spaces_are

-- ---- what came

-- sections are valid
sections_valid : (items : List Item) (k : ℕ) (told : List Part) → AreSections told → AreValid items k told []
sections_valid items k [] are = tt
sections_valid items k (Section at position ∷ told) are = sections_valid items k told are
sections_valid items k (Listed x ∷ told) are = absurd are
sections_valid items k (Coded b ∷ told) are = absurd are

-- and have no text
sections_no_text : (items : List Item) (k words : ℕ) (told : List Part) (r : Refusal) → AreSections told → IsTextFault items k words told r → ⊥
sections_no_text items k words [] r are f = f
sections_no_text items k words (Section at position ∷ told) r are f = sections_no_text items k words told r are f
sections_no_text items k words (Listed x ∷ told) r are f = absurd are
sections_no_text items k words (Coded b ∷ told) r are f = absurd are

-- the text of the bodies that were validated keeps its limit
text_keeps : (came : List ℕ) (run : Run) (spaces : Spaces) (codes : Coding) (j : IsJudging came run spaces codes) (r : Refusal) → IsTextFault [] 0 0 j.judged.front r → ⊥
text_keeps came run spaces codes j r f =
    let front = j.judged.front in
    let whole = subst (λ (l : List Part). IsTextFault [] 0 0 l r) (sym j.judged.parts) (text_stays [] 0 0 front run.parts r f) in
    let ordered = subst (λ (l : List Part). AreOrdered first_section (length came) l) j.judged.parts (parts_in_module came) in
    text_in_one first_section (length came) [] (items_of front) 0 0 (length (bodies_of front)) codes.words front run.parts r ordered f (j.text_left r whole)

-- with sections after them too
text_keeps_told : (came : List ℕ) (run : Run) (spaces : Spaces) (codes : Coding) (j : IsJudging came run spaces codes) (told : List Part) → AreSections told → (r : Refusal) → IsTextFault [] 0 0 (j.judged.front ++ told) r → ⊥
text_keeps_told came run spaces codes j told are r f =
    elim (text_splits [] 0 0 j.judged.front told r f) [
      | inl g ↦ text_keeps came run spaces codes j r g
      | inr g ↦ sections_no_text g.0 g.1 g.2 told r are g.3
    ]

-- an error of what came lasts
refused_lasts : (came : List ℕ) (r : Refusal) → (module_read came).ending ≡ Refused r → r.kind ≢ Ended
refused_lasts came r e = not_ended r.kind (subst EndingLasts e (module_lasts came))

no_error_read : (came : List ℕ) (run : Run) {spaces : _} {bodies : ℕ} → IsJudged came run spaces bodies → HasNoError run → (r : Refusal) → (module_read came).ending ≡ Refused r → ⊥
no_error_read came run j free r e = free r (refused_lasts came r e) (sym j.ending ∙ e)

-- ---- bodies that may wait

waits_open : (least : ℕ) (e : Ending) (bodies : List Body) → (bodies ≡ []) ⊎ ((e ≡ Owed) × (byte_count bodies < least)) → MayWait (Some least) e bodies
waits_open least e [] h = tt
waits_open least e (b ∷ bodies) (inl none) = absurd cc
waits_open least e (b ∷ bodies) (inr h) = h

-- none does
pub none_waits : (closing : Option ℕ) (e : Ending) → MayWait closing e []
none_waits None e = tt
none_waits (Some least) e = tt

-- the batch that is begun
module _ (f : Front) (c : Cutting) (w : IsWaiting c) where
  begun_bodies : bodies_in (left c []).queue ≡ c.queue.begun
  begun_bodies = ap bodies_in w.prompt ∙ ap (λ (l : List Body). l ++ c.queue.begun) w.taken

  none_begun : ((left c []).ending ≡ BytesOwed → ⊥) → bodies_in (left c []).queue ≡ []
  none_begun over = begun_bodies ∙ sym (ap (λ (q : Queue). q.begun) w.prompt) ∙ left_begun c [] over

  begun_waits : (least : ℕ) (e : Ending) → (left_of f (Some c) []).ending ≡ e → AreOpen least (left c []).queue.begun → MayWait (Some least) e (bodies_in (left c []).queue)
  begun_waits least e is opens = waits_open least e (bodies_in (left c []).queue) (of (left c []).ending refl opens)
    where
      next : Run
      next = sections_behind f.steps.seen c.place.at c.place.end []

      same : (left c []).queue.begun ≡ bodies_in (left c []).queue
      same = ap (λ (q : Queue). q.begun) w.prompt ∙ sym begun_bodies

      owed : (left c []).ending ≡ BytesOwed → e ≡ Owed
      owed k = sym is ∙ ending_after (coded_all (counts_data f.steps.seen) (bodies_in (left c []).queue)) (behind (left c []).ending next) ∙ ap (λ (x : End). (behind x next).ending) k

      of : (k : End) → (left c []).ending ≡ k → AreOpen least (left c []).queue.begun → (bodies_in (left c []).queue ≡ []) ⊎ ((e ≡ Owed) × (byte_count (bodies_in (left c []).queue) < least))
      of AllCut k o = inl (none_begun (λ t. let u : AllCut ≡ BytesOwed = sym k ∙ t in absurd cc))
      of (Faulty r) k o = inl (none_begun (λ t. let u : Faulty r ≡ BytesOwed = sym k ∙ t in absurd cc))
      of BytesOwed k (inl none) = inl (sym same ∙ none)
      of BytesOwed k (inr few) = inr (owed k, subst (λ (l : List Body). byte_count l < least) same few)

-- closed batches wait at most where none is to be validated before more bytes are read
abbrev Waits : (closing : Option ℕ) → (batch : ℕ) → Option Cutting → Type 0
Waits closing batch cutter = IfSome closing (λ least. (batch ≡ least) × AllWait cutter)

waiting_there : (closing : Option ℕ) (batch : ℕ) (f : Front) (c : Cutting) (e : Ending) → Waits closing batch (Some c) → (left_of f (Some c) []).ending ≡ e → AreOpen batch (left c []).queue.begun
    → MayWait closing e (bodies_in (left c []).queue)
waiting_there None batch f c e w is opens = tt
waiting_there (Some least) batch f c e w is opens = begun_waits f c w.1 least e is (subst (λ (n : ℕ). AreOpen n (left c []).queue.begun) w.0 opens)

right : (closing : Option ℕ) (batch : ℕ) (came : List ℕ) (f : Front) (cutter : Option Cutting) (spaces : Spaces) (codes : Coding) → IsPlaced batch f cutter (length came) [] → IsJudging came (left_of f cutter []) spaces codes
    → HasNoError (left_of f cutter []) → Waits closing batch cutter → PrefixIsValid closing came
right closing batch came f None spaces codes p judging free w =
    let j = judging.judged in
    let t = front_ends f p.idle p.outside in
    let told = t.1.told in
    record {
      front = j.front ++ told;
      bodies = [];
      parts =
          j.parts
          ∙ ap (λ (l : List Part). j.front ++ l) (ap (λ (r : Run). r.parts) t.1.run ∙ parts_after told (ends t.1.ending))
          ∙ sym (append_assoc j.front told []);
      trees = j.trees ++ [];
      valid = valid_both [] 0 j.front told j.trees [] j.valid (sections_valid (items_of j.front) (0 + length (bodies_of j.front)) told t.1.sections);
      text = text_keeps_told came (left_of f None []) spaces codes judging told t.1.sections;
      no_error = no_error_read came (left_of f None []) j free;
      waiting = none_waits closing (module_read came).ending;
    }
right closing batch came f (Some c) spaces codes p judging free w = let j = judging.judged in record {
  front = j.front;
  bodies = bodies_in (left c []).queue;
  parts = j.parts ∙ ap (λ (l : List Part). j.front ++ l) (bodies_cut f c ∙ counted_in came f c j);
  trees = j.trees;
  valid = j.valid;
  text = text_keeps came (left_of f (Some c) []) spaces codes judging;
  no_error = no_error_read came (left_of f (Some c) []) j free;
  waiting = waiting_there closing batch f c (module_read came).ending w (sym j.ending) p.begun;
}

pub valid_prefix : (closing : Option ℕ) (came : List ℕ) (s : Compilation) → IsGoing came s [] → IsErrorFree s → ClosedAreValid closing s → PrefixIsValid closing came
valid_prefix closing came s g free w = right closing s.batch came s.front s.cutter s.spaces s.codes g.place g.judging free w
