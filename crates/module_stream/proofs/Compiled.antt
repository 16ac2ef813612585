-- How far the compiling of a module came, and what follows from it.
use Rattle.std.proofs.Common.{◌≡◌, ◌≤◌, ◌<◌, inl, inr, ℕ, suc, ◌+◌, List, [], ◌∷◌, ◌++◌, length, Some, refl, sym, ap, ◌∙◌, subst, arith, length-append}
use Rattle.std.proofs.lemmas.List.{append-nil}
use Rattle.rv_isa.specs.declared.compiled.Code.{Code}
use Rattle.wasm_defs.specs.declared.fault.Refusal.{Refusal}
use Rattle.wasm_defs.specs.declared.item.Item.{Item}
use Rattle.wasm_defs.specs.Limits.{max_text}
use Rattle.wasm_defs.specs.Trees.{Seq}
use Rattle.wasm_defs.specs.Entries.{Seen}
use Rattle.wasm_defs.specs.Outside.{Part, Section, Listed, Coded, Body, Run, Whole, after_part, ends, module_read}
use Rattle.wasm_defs.specs.Faults.{ending_fault, items_of, bodies_of, read_of, context_at, use_of, UsesRight, IsUseFault, IsCodeFault, IsValidCode, IsOutsideFault, IsFaultInside, Module, IsModule, Rejected}
use Rattle.wasm_defs.specs.Context.{context_of}
use Rattle.wasm_laws.specs.Order.{AreOrdered, BodyStands, UseStands, behind_use, end_of, first_section}
use Rattle.wasm_laws.proofs.Behind.{bodies_stand_behind}
use Rattle.wasm_laws.proofs.Counted.{entries_are_few}
use Rattle.wasm_laws.proofs.Order.{around_body, around_item, parts_before_fault, parts_in_module}
use Rattle.wasm_laws.proofs.Verdicts.{valid_has_no_fault}
use Rattle.index_spaces.specs.Spaces.{Spaces, spaces_of, context_in, with_item}
use Rattle.section_reader.specs.Onward.{after_parts, AreSections}
use Rattle.image_linker.specs.ImageOf.{size_of}
use Rattle.image_linker.specs.Linking.{words_of}
use Rattle.image_linker.specs.Codes.{IsCodeOf, AreCodesOf}
use Rattle.image_linker.specs.Judging.{text_bytes, limit_at, IsTextFault, IsFaultOf, IsVerdictOf}
use Rattle.module_stream.specs.Codes.{Coding, AreAll, with_code}
use Rattle.module_stream.specs.Progress.{IsJudging, body_of_spaces}
use Rattle.wasm_laws.proofs.PartLists.{items_of-append, bodies_of-append}
use Rattle.wasm_laws.proofs.PartOrder.{use_fault_stands, fault_after}
use Rattle.image_linker.proofs.ImportBounds.{imports_are_few}
use Rattle.module_stream.proofs.TextFaults.{text_after, tree_once}
use Rattle.module_stream.proofs.CodeWords.{all_more, codes_both, codes_of_module}
use Rattle.module_stream.proofs.Judging as judging
use Rattle.module_stream.proofs.Judging.{IsVerdictBesideText, context_is, inside_rest}

-- ---- steps

pub begins : (bytes : List ℕ) (left : Run) (spaces : Spaces) (codes : Coding) → left ≡ module_read bytes → spaces ≡ spaces_of [] → AreAll codes [] → IsJudging bytes left spaces codes
begins bytes left spaces codes is none uncoded = rw (is, none) (record {
  judged = record { front = []; parts = refl; ending = refl; spaces_are = refl; count = uncoded.count; trees = []; valid = tt };
  all = [];
  are_all = uncoded;
  coded = tt;
  fits = omega (arith, uncoded.words, imports_are_few (items_of (module_read bytes).parts), entries_are_few 2 (λ ten. absurd cc) bytes);
  text_left = λ r f. subst (λ (n : ℕ). IsTextFault [] 0 n (module_read bytes).parts r) (sym uncoded.words) f;
  text_whole = λ r f. subst (λ (n : ℕ). IsTextFault [] 0 n (module_read bytes).parts r) uncoded.words f;
})

module _ (bytes : List ℕ) (left : Run) (codes : Coding) where
  -- with the same items and bodies before them
  moved : (items items' : List Item) (k k' : ℕ) (parts : List Part) (r : Refusal) → items ≡ items' → k ≡ k' → IsTextFault items k codes.words parts r → IsTextFault items' k' codes.words parts r
  moved items items' k k' parts r p q f = rw (p, q) at f

  after_section : (spaces : Spaces) (at position : ℕ) → IsJudging bytes (after_part (Section at position) left) spaces codes → IsJudging bytes left spaces codes
  after_section spaces at position j =
      let front = j.judged.front in
      let items : items_of (front ++ Section at position ∷ []) ≡ items_of front = items_of-append front (Section at position ∷ []) ∙ append-nil (items_of front) in
      let bodies : length (bodies_of (front ++ Section at position ∷ [])) ≡ length (bodies_of front) = ap (λ (l : List Body). length l) (bodies_of-append front (Section at position ∷ []) ∙ append-nil (bodies_of front)) in
      record {
        judged = judging.after_section bytes left spaces codes.count at position j.judged;
        all = j.all;
        are_all = j.are_all;
        coded = rw (append-nil j.all) at (codes_both [] 0 front (Section at position ∷ []) j.judged.trees [] j.all [] j.coded tt);
        fits = j.fits;
        text_left = λ r f. moved (items_of front) _ (length (bodies_of front)) _ left.parts r (sym items) (sym bodies) (j.text_left r f);
        text_whole = λ r f. j.text_whole r (moved _ (items_of front) _ (length (bodies_of front)) left.parts r items bodies f);
      }

  pub after_item : (spaces later : Spaces) (x : Item) → IsJudging bytes (after_part (Listed x) left) spaces codes → UsesRight (context_in spaces) (use_of x) → later ≡ with_item spaces x → IsJudging bytes left later codes
  after_item spaces later x j starts e =
      let front = j.judged.front in
      let items : items_of (front ++ Listed x ∷ []) ≡ items_of front ++ x ∷ [] = items_of-append front (Listed x ∷ []) in
      let bodies : length (bodies_of (front ++ Listed x ∷ [])) ≡ length (bodies_of front) = ap (λ (l : List Body). length l) (bodies_of-append front (Listed x ∷ []) ∙ append-nil (bodies_of front)) in
      record {
        judged = judging.after_item bytes left spaces later codes.count x j.judged starts e;
        all = j.all;
        are_all = j.are_all;
        coded = rw (append-nil j.all) at (codes_both [] 0 front (Listed x ∷ []) j.judged.trees [] j.all [] j.coded tt);
        fits = j.fits;
        text_left = λ r f. moved (items_of front ++ x ∷ []) _ (length (bodies_of front)) _ left.parts r (sym items) (sym bodies) (j.text_left r f);
        text_whole = λ r f. j.text_whole r (moved _ (items_of front ++ x ∷ []) _ (length (bodies_of front)) left.parts r items bodies f);
      }

-- sections were reported
pub sections_taken : (bytes : List ℕ) (spaces : Spaces) (codes : Coding) (told : List Part) (run : Run) → AreSections told → IsJudging bytes (after_parts told run) spaces codes → IsJudging bytes run spaces codes
sections_taken bytes spaces codes [] run are j = j
sections_taken bytes spaces codes (Section at position ∷ told) run are j = sections_taken bytes spaces codes told run are (after_section bytes (after_parts told run) codes spaces at position j)
sections_taken bytes spaces codes (Listed x ∷ told) run are j = absurd are
sections_taken bytes spaces codes (Coded b ∷ told) run are j = absurd are

-- ---- verdicts

-- an error that comes before that of the text, if there is one
lifted : (bytes : List ℕ) (r : Refusal) → IsVerdictBesideText bytes (Rejected r) → ((s : Refusal) → IsTextFault [] 0 0 (module_read bytes).parts s → r.offset ≤ s.offset) → IsVerdictOf bytes (Rejected r)
lifted bytes r v first = (inl v.0, λ s f. elim f [ inl g ↦ v.1 s g | inr t ↦ first s t ])

no_text_left : (items : List Item) (k words : ℕ) (parts : List Part) (s : Refusal) → parts ≡ [] → IsTextFault items k words parts s → ⊥
no_text_left items k words [] s e f = f
no_text_left items k words (x ∷ parts) s e f = absurd cc

-- no part is left, and the module has this error
pub is_refused : (bytes : List ℕ) (left : Run) (spaces : Spaces) (codes : Coding) (total : ℕ) (r : Refusal) → IsJudging bytes left spaces codes → total ≡ length bytes → left.parts ≡ [] → ending_fault total left.ending ≡ Some r → IsVerdictOf bytes (Rejected r)
is_refused bytes left spaces codes total r j len none fault =
    lifted bytes r (judging.is_refused bytes left spaces codes.count total r j.judged len none fault)
    (λ s f. absurd (no_text_left (items_of j.judged.front) (length (bodies_of j.judged.front)) codes.words left.parts s none (j.text_left s f)))

-- the start function is wrong
pub start_refused : (bytes : List ℕ) (left : Run) (spaces : Spaces) (codes : Coding) (x : Item) (r : Refusal) → IsJudging bytes (after_part (Listed x) left) spaces codes
    → IsUseFault (context_in spaces) (use_of x) r → IsVerdictOf bytes (Rejected r)
start_refused bytes left spaces codes x r j f =
    lifted bytes r (judging.start_refused bytes left spaces codes.count x r j.judged f) (λ s t. later s (j.text_left s t))
  where
    front : List Part
    front = j.judged.front

    here : IsUseFault (context_of (items_of front)) (use_of x) r
    here = subst (λ (s : Spaces). IsUseFault (context_in s) (use_of x) r) j.judged.spaces_are f

    around : (at : ℕ) × UseStands at (length bytes) (use_of x) × AreOrdered (behind_use at (use_of x)) (length bytes) left.parts
    around = around_item first_section (length bytes) front x left.parts (rw j.judged.parts at (parts_in_module bytes))

    later : (s : Refusal) → IsTextFault (items_of front) (length (bodies_of front)) codes.words (Listed x ∷ left.parts) s → r.offset ≤ s.offset
    later s t =
        let k = text_after (behind_use around.0 (use_of x)) (length bytes) (items_of front ++ x ∷ []) (length (bodies_of front)) codes.words left.parts s around.2 t in
        omega (arith, (use_fault_stands around.0 (length bytes) (context_of (items_of front)) (use_of x) r around.1 here).1)

-- a body is wrong
pub body_refused : (bytes : List ℕ) (left : Run) (spaces : Spaces) (codes : Coding) (b : Body) (r : Refusal) → IsJudging bytes (after_part (Coded b) left) spaces codes
    → IsCodeFault (body_of_spaces spaces codes.count b) (read_of b).code r → IsVerdictOf bytes (Rejected r)
body_refused bytes left spaces codes b r j f =
    lifted bytes r (judging.body_refused bytes left spaces codes.count b r j.judged f) (λ s t. no_text s (j.text_left s t))
  where
    here : IsCodeFault (context_at (items_of j.judged.front) (length (bodies_of j.judged.front)) b) (read_of b).code r
    here = rw (context_is bytes (after_part (Coded b) left) spaces codes.count b j.judged) at f

    no_text : (s : Refusal) → IsTextFault (items_of j.judged.front) (length (bodies_of j.judged.front)) codes.words (Coded b ∷ left.parts) s → r.offset ≤ s.offset
    no_text s (tree, v, t) = absurd (valid_has_no_fault (context_at (items_of j.judged.front) (length (bodies_of j.judged.front)) b) (read_of b).code tree r v here)

-- ---- a body's code

module _ (bytes : List ℕ) (left : Run) (spaces : Spaces) (codes : Coding) (b : Body) (j : IsJudging bytes (after_part (Coded b) left) spaces codes) (tree : Seq) (code : Code)
    (valid : IsValidCode (body_of_spaces spaces codes.count b) (read_of b).code tree)
    (is_code : IsCodeOf (items_of j.judged.front) (length (bodies_of j.judged.front)) b tree code) where
  abbrev pub items : List Item
  items = items_of j.judged.front

  abbrev pub k : ℕ
  k = length (bodies_of j.judged.front)

  here : IsValidCode (context_at items k b) (read_of b).code tree
  here = rw (context_is bytes (after_part (Coded b) left) spaces codes.count b j.judged) at valid

  size_is : (t : Seq) → IsValidCode (context_at items k b) (read_of b).code t → size_of items k b t ≡ length code.words
  size_is t v = ap (size_of items k b) (tree_once items k b t tree v here) ∙ sym is_code.size

  -- with it the text passes its limit
  pub text_passes : max_text < text_bytes items (codes.words + length code.words) → IsVerdictOf bytes (Rejected (limit_at b.size))
  text_passes over = (inr (j.text_whole (limit_at b.size) (tree, here, inl (subst (λ (n : ℕ). max_text < text_bytes items (codes.words + n)) is_code.size over, refl))), λ s f. no_less s f)
    where
      around : AreOrdered first_section b.size j.judged.front × BodyStands first_section (length bytes) b × AreOrdered (end_of b) (length bytes) left.parts
      around = around_body first_section (length bytes) j.judged.front b left.parts (rw j.judged.parts at (parts_in_module bytes))

      of_outside : (s : Refusal) → IsOutsideFault bytes s → b.size ≤ s.offset
      of_outside s e =
          let o = (parts_before_fault bytes s e).0 in
          let stands = (around_body first_section s.offset j.judged.front b left.parts (rw j.judged.parts at o)).1 in
          omega (arith, stands.sized, stands.before)

      of_inside : (s : Refusal) → IsFaultInside items k (Coded b ∷ left.parts) s → b.size ≤ s.offset
      of_inside s (inl g) = absurd (valid_has_no_fault (context_at items k b) (read_of b).code tree s here g)
      of_inside s (inr g) =
          let stands = around.1 in
          let later = fault_after (end_of b) (length bytes) items (suc k) left.parts s around.2 g in
          omega (arith, stands.sized)

      of_text : (s : Refusal) → IsTextFault items k codes.words (Coded b ∷ left.parts) s → b.size ≤ s.offset
      of_text s (t, v, inl g) = let at : s.offset ≡ b.size = ap (λ (x : Refusal). x.offset) g.1 in omega arith
      of_text s (t, v, inr g) =
          let stands = around.1 in
          let later = text_after (end_of b) (length bytes) items (suc k) (codes.words + size_of items k b t) left.parts s around.2 g.1 in
          omega (arith, stands.sized)

      no_less : (s : Refusal) → IsFaultOf bytes s → b.size ≤ s.offset
      no_less s (inl (inl g)) = of_outside s g
      no_less s (inl (inr g)) = of_inside s (inside_rest bytes (after_part (Coded b) left) spaces codes.count s j.judged g)
      no_less s (inr g) = of_text s (j.text_left s g)

  -- with it the text keeps the limit
  module _ (under : text_bytes items (codes.words + length code.words) ≤ max_text) where
    here_to_later : (r : Refusal) → IsTextFault items k codes.words (Coded b ∷ left.parts) r → IsTextFault items (suc k) (codes.words + length code.words) left.parts r
    here_to_later r (t, v, inl f) = absurd (omega (arith, f.0, under, size_is t v))
    here_to_later r (t, v, inr f) = subst (λ (n : ℕ). IsTextFault items (suc k) (codes.words + n) left.parts r) (size_is t v) f.1

    later_to_here : (r : Refusal) → IsTextFault items (suc k) (codes.words + length code.words) left.parts r → IsTextFault items k codes.words (Coded b ∷ left.parts) r
    later_to_here r f = (
      tree,
      here,
      inr (
        subst (λ (n : ℕ). text_bytes items (codes.words + n) ≤ max_text) is_code.size under,
        subst (λ (n : ℕ). IsTextFault items (suc k) (codes.words + n) left.parts r) is_code.size f,
      ),
    )

    pub after_body : IsJudging bytes left spaces (with_code codes code)
    after_body =
        let front = j.judged.front in
        let items_are : items_of (front ++ Coded b ∷ []) ≡ items = items_of-append front (Coded b ∷ []) ∙ append-nil items in
        let count : length (bodies_of (front ++ Coded b ∷ [])) ≡ suc k = omega (arith, ap (λ (l : List Body). length l) (bodies_of-append front (Coded b ∷ [])), length-append (bodies_of front) (b ∷ [])) in
        let e : 0 + k ≡ k = omega arith in
        record {
          judged = judging.after_body bytes left spaces codes.count b tree j.judged valid;
          all = j.all ++ code ∷ [];
          are_all = all_more codes j.all code j.are_all;
          coded = codes_both [] 0 front (Coded b ∷ []) j.judged.trees (tree ∷ []) j.all (code ∷ []) j.coded (rw e (is_code, tt));
          fits = omega (arith, under, (bodies_stand_behind bytes front b left.parts j.judged.parts).same.imports);
          text_left = λ r f. moved bytes left (with_code codes code) items _ (suc k) _ left.parts r (sym items_are) (sym count) (here_to_later r (j.text_left r f));
          text_whole = λ r f. j.text_whole r (later_to_here r (moved bytes left (with_code codes code) _ items _ (suc k) left.parts r items_are count f));
        }

-- ---- the whole

-- nothing is left: the bytes are a module, and these are the codes of its functions
pub record IsWhole (bytes : List ℕ) (spaces : Spaces) (codes : List Code) (m : Module) : Type 0 where
  pub is : IsModule bytes m
  pub spaces_are : spaces ≡ spaces_of m.items
  pub coded : AreCodesOf m.items 0 m.bodies m.trees codes
  pub words : text_bytes m.items (length (words_of codes)) ≤ max_text

pub is_whole : (bytes : List ℕ) (left : Run) (spaces : Spaces) (codes : Coding) (seen : Seen) → (j : IsJudging bytes left spaces codes) → left ≡ ends (Whole seen) → (m : Module) × IsWhole bytes spaces j.all m
is_whole bytes left spaces codes seen j whole =
    let all : (module_read bytes).parts ≡ j.judged.front = j.judged.parts ∙ ap (λ (r : Run). j.judged.front ++ r.parts) whole ∙ append-nil j.judged.front in
    let m = judging.is_module bytes left spaces codes.count seen spaces.declared j.judged whole refl in
    let m' : Module = record { items = items_of (module_read bytes).parts; bodies = bodies_of (module_read bytes).parts; trees = j.judged.trees } in (
      m',
      record {
        is = m.1;
        spaces_are = j.judged.spaces_are ∙ ap (λ (l : List Part). spaces_of (items_of l)) (sym all);
        coded = codes_of_module bytes j.judged.trees j.all (rw all j.coded);
        words = omega (arith, j.fits, j.are_all.words);
      },
    )
