-- How far the validation of a module came, and what follows from it.
use Rattle.std.proofs.Common.{◌≡◌, ◌≤◌, ◌<◌, inl, inr, ℕ, suc, ◌+◌, List, [], ◌∷◌, ◌++◌, length, Option, Some, refl, sym, ap, ◌∙◌, subst, append_assoc, arith, length-append}
use Rattle.std.specs.Prelude.{Bool, IsSome, is_some}
use Rattle.std.proofs.lemmas.List.{append-nil}
use Rattle.std.proofs.lemmas.List.Elements.{All-head}
use Rattle.wasm_defs.specs.declared.fault.Refusal.{Refusal}
use Rattle.wasm_defs.specs.declared.item.Item.{Item}
use Rattle.wasm_defs.specs.Typing.{function_type}
use Rattle.wasm_defs.specs.Trees.{Seq}
use Rattle.wasm_defs.specs.Entries.{Seen}
use Rattle.wasm_defs.specs.Context.{context_of, data_count_of, import_count, declared_count, functions_of}
use Rattle.wasm_defs.specs.Outside.{Part, Section, Listed, Coded, Body, Run, Whole, after_part, ends, module_read}
use Rattle.wasm_defs.specs.Faults.{ending_fault, items_of, bodies_of, IsCodeFault, IsValidCode, read_of, context_at, use_of, UsesRight, IsUseFault, IsFaultInside, AreValid, IsOutsideFault, IsFault, Module, IsModule, Verdict, Accepted, Rejected}
use Rattle.wasm_defs.proofs.ItemLaws.{functions_of-counts}
use Rattle.wasm_laws.specs.Order.{AreOrdered, BodyStands, UseStands, behind_use, end_of, first_section}
use Rattle.wasm_laws.specs.Typed.{AreTyped}
use Rattle.wasm_laws.proofs.Typed.{functions_have_types}
use Rattle.wasm_laws.proofs.Order.{around_body, around_item, use_goes_on, parts_before_fault, parts_in_module}
use Rattle.wasm_laws.proofs.Behind.{bodies_stand_behind}
use Rattle.wasm_laws.proofs.DataCounts.{AreToldOf, all_back, bodies_are_told}
use Rattle.wasm_laws.proofs.Few.{parts_are_few}
use Rattle.wasm_laws.proofs.Verdicts.{some_once, code_fault_once, code_fault_inside}
use Rattle.index_spaces.specs.Spaces.{Spaces, spaces_of, with_item, context_in}
use Rattle.section_reader.specs.Onward.{after_parts}
use Rattle.body_cutter.specs.Bodies.{Body as GivenBody}
use Rattle.module_stream.specs.CutBodies.{coded_all}
use Rattle.module_stream.specs.Progress.{IsJudged, body_of_spaces}
use Rattle.index_spaces.proofs.SpaceLaws.{spaces_of-append}
use Rattle.wasm_laws.proofs.PartLists.{items_of-append, bodies_of-append, typed_behind, valid_both, fault_behind, fault_of_rest, functions_are_few, bodies_are_few}
use Rattle.wasm_laws.proofs.PartOrder.{use_fault_stands, use_once, fault_after}

-- ---- how far validation came

pub regrouped : (bytes : List ℕ) (front rest : List Part) (x : Part) → (module_read bytes).parts ≡ front ++ x ∷ rest → (module_read bytes).parts ≡ (front ++ x ∷ []) ++ rest
regrouped bytes front rest x e = e ∙ sym (append_assoc front (x ∷ []) rest)

pub valid_more : (front : List Part) (x : Part) (trees more : List Seq) → AreValid [] 0 front trees → AreValid (items_of front) (length (bodies_of front)) (x ∷ []) more → AreValid [] 0 (front ++ x ∷ []) (trees ++ more)
valid_more front x trees more p q = let e : 0 + length (bodies_of front) ≡ length (bodies_of front) = omega arith in valid_both [] 0 front (x ∷ []) trees more p (rw e q)

abbrev pub after_section : (bytes : List ℕ) (left : Run) (spaces : Spaces) (bodies at position : ℕ) → IsJudged bytes (after_part (Section at position) left) spaces bodies → IsJudged bytes left spaces bodies
after_section bytes left spaces bodies at position j = record {
  front = j.front ++ Section at position ∷ [];
  parts = regrouped bytes j.front left.parts (Section at position) j.parts;
  ending = j.ending;
  spaces_are = j.spaces_are ∙ ap spaces_of (sym (items_of-append j.front (Section at position ∷ []) ∙ append-nil (items_of j.front)));
  count = j.count ∙ ap length (sym (bodies_of-append j.front (Section at position ∷ []) ∙ append-nil (bodies_of j.front)));
  trees = j.trees ++ [];
  valid = valid_more j.front (Section at position) j.trees [] j.valid tt;
}

abbrev pub after_item : (bytes : List ℕ) (left : Run) (spaces later : Spaces) (bodies : ℕ) (x : Item) → IsJudged bytes (after_part (Listed x) left) spaces bodies → UsesRight (context_in spaces) (use_of x) → later ≡ with_item spaces x → IsJudged bytes left later bodies
after_item bytes left spaces later bodies x j starts e = record {
  front = j.front ++ Listed x ∷ [];
  parts = regrouped bytes j.front left.parts (Listed x) j.parts;
  ending = j.ending;
  spaces_are = e ∙ ap (λ (s : Spaces). with_item s x) j.spaces_are ∙ sym (spaces_of-append (items_of j.front) x) ∙ ap spaces_of (sym (items_of-append j.front (Listed x ∷ [])));
  count = j.count ∙ ap length (sym (bodies_of-append j.front (Listed x ∷ []) ∙ append-nil (bodies_of j.front)));
  trees = j.trees ++ [];
  valid = valid_more j.front (Listed x) j.trees [] j.valid (subst (λ (s : Spaces). UsesRight (context_in s) (use_of x)) j.spaces_are starts, tt);
}

pub context_is : (bytes : List ℕ) (left : Run) (spaces : Spaces) (bodies : ℕ) (b : Body) (j : IsJudged bytes left spaces bodies) → body_of_spaces spaces bodies b ≡ context_at (items_of j.front) (length (bodies_of j.front)) b
context_is bytes left spaces bodies b j = ap (λ (s : Spaces). body_of_spaces s bodies b) j.spaces_are ∙ ap (λ (k : ℕ). body_of_spaces (spaces_of (items_of j.front)) k b) j.count

abbrev pub after_body : (bytes : List ℕ) (left : Run) (spaces : Spaces) (bodies : ℕ) (b : Body) (tree : Seq) → IsJudged bytes (after_part (Coded b) left) spaces bodies → IsValidCode (body_of_spaces spaces bodies b) (read_of b).code tree → IsJudged bytes left spaces (bodies + 1)
after_body bytes left spaces bodies b tree j v = record {
  front = j.front ++ Coded b ∷ [];
  parts = regrouped bytes j.front left.parts (Coded b) j.parts;
  ending = j.ending;
  spaces_are = j.spaces_are ∙ ap spaces_of (sym (items_of-append j.front (Coded b ∷ []) ∙ append-nil (items_of j.front)));
  count = omega (arith, j.count, ap length (bodies_of-append j.front (Coded b ∷ [])), length-append (bodies_of j.front) (b ∷ []));
  trees = j.trees ++ tree ∷ [];
  valid = valid_more j.front (Coded b) j.trees (tree ∷ []) j.valid (rw (context_is bytes (after_part (Coded b) left) spaces bodies b j) at v, tt);
}

-- ---- verdicts

pub nothing_left : (items : List Item) (k : ℕ) (parts : List Part) (s : Refusal) → parts ≡ [] → IsFaultInside items k parts s → ⊥
nothing_left items k [] s e f = f
nothing_left items k (x ∷ parts) s e f = absurd cc

pub zero_more : (n : ℕ) → 0 + n ≡ n
zero_more n = omega arith

-- an error of a body is in what is left
pub inside_rest : (bytes : List ℕ) (left : Run) (spaces : Spaces) (bodies : ℕ) (r : Refusal) (j : IsJudged bytes left spaces bodies) → IsFaultInside [] 0 (module_read bytes).parts r → IsFaultInside (items_of j.front) (length (bodies_of j.front)) left.parts r
inside_rest bytes left spaces bodies r j f =
    let g = fault_behind [] 0 j.front left.parts j.trees r j.valid (rw j.parts at f) in
    rw zero_more at g

-- the module that the bytes are, or their error of least offset, the limit on the text aside
abbrev pub IsVerdictBesideText : List ℕ → Verdict → Type 0
IsVerdictBesideText bytes (Accepted m) = IsModule bytes m
IsVerdictBesideText bytes (Rejected r) = IsFault bytes r × ((s : Refusal) → IsFault bytes s → r.offset ≤ s.offset)

-- the bytes are a module
abbrev pub is_module : (bytes : List ℕ) (left : Run) (spaces : Spaces) (bodies : ℕ) (seen : Seen) (functions : ℕ) → IsJudged bytes left spaces bodies → left ≡ ends (Whole seen) → functions ≡ spaces.declared → (m : Module) × IsVerdictBesideText bytes (Accepted m) × (functions ≡ declared_count m.items)
is_module bytes left spaces bodies seen functions j whole counted =
    let all : (module_read bytes).parts ≡ j.front = j.parts ∙ ap (λ (r : Run). j.front ++ r.parts) whole ∙ append-nil j.front in
    let m : Module = record { items = items_of (module_read bytes).parts; bodies = bodies_of (module_read bytes).parts; trees = j.trees } in (
      m,
      record {
        whole = ap (ending_fault (length bytes)) (j.ending ∙ ap (λ (r : Run). r.ending) whole);
        items = refl;
        bodies = refl;
        valid = rw all j.valid;
      },
      counted ∙ ap (λ (s : Spaces). s.declared) j.spaces_are ∙ ap (λ (l : List Part). declared_count (items_of l)) (sym all),
    )

-- an error outside bodies is the only one
only_outside : (x : Option Refusal) (r s : Refusal) → x ≡ Some r → x ≡ Some s → r.offset ≤ s.offset
only_outside x r s e f = let same = ap (λ (t : Refusal). t.offset) (some_once x r s e f) in omega (arith, same)

-- no part is left, and the module has this error
pub is_refused : (bytes : List ℕ) (left : Run) (spaces : Spaces) (bodies total : ℕ) (r : Refusal) → IsJudged bytes left spaces bodies → total ≡ length bytes → left.parts ≡ [] → ending_fault total left.ending ≡ Some r → IsVerdictBesideText bytes (Rejected r)
is_refused bytes left spaces bodies total r j len none fault =
    let outside : IsOutsideFault bytes r = ap (ending_fault (length bytes)) j.ending ∙ ap (λ (n : ℕ). ending_fault n left.ending) (sym len) ∙ fault in (
      inl outside,
      λ s f. elim f [
        | inl o ↦ only_outside _ r s outside o
        | inr i ↦ absurd (nothing_left _ _ left.parts s none (inside_rest bytes left spaces bodies s j i))
      ],
    )

-- ---- a body is wrong

pub body_refused : (bytes : List ℕ) (left : Run) (spaces : Spaces) (bodies : ℕ) (b : Body) (r : Refusal) → IsJudged bytes (after_part (Coded b) left) spaces bodies → IsCodeFault (body_of_spaces spaces bodies b) (read_of b).code r → IsVerdictBesideText bytes (Rejected r)
body_refused bytes left spaces bodies b r j f = (inr inside, λ s g. no_less s g)
  where
    here : IsCodeFault (context_at (items_of j.front) (length (bodies_of j.front)) b) (read_of b).code r
    here = rw (context_is bytes (after_part (Coded b) left) spaces bodies b j) at f

    inside : IsFaultInside [] 0 (module_read bytes).parts r
    inside = rw j.parts (fault_of_rest [] 0 j.front (Coded b ∷ left.parts) r (rw zero_more (inl here)))

    around : AreOrdered first_section b.size j.front × BodyStands first_section (length bytes) b × AreOrdered (end_of b) (length bytes) left.parts
    around = around_body first_section (length bytes) j.front b left.parts (rw j.parts at (parts_in_module bytes))

    before_end : r.offset < end_of b
    before_end = let stands = around.1 in (code_fault_inside (context_at (items_of j.front) (length (bodies_of j.front)) b) b r (omega (arith, stands.least)) here).1

    of_outside : (s : Refusal) → IsOutsideFault bytes s → r.offset ≤ s.offset
    of_outside s e =
        let o = (parts_before_fault bytes s e).0 in
        let stands = (around_body first_section s.offset j.front b left.parts (rw j.parts at o)).1 in
        omega (arith, before_end, stands.before)

    of_inside : (s : Refusal) → IsFaultInside (items_of j.front) (length (bodies_of j.front)) (Coded b ∷ left.parts) s → r.offset ≤ s.offset
    of_inside s (inl g) = let same = ap (λ (t : Refusal). t.offset) (code_fault_once (context_at (items_of j.front) (length (bodies_of j.front)) b) (read_of b).code r s here g) in omega (arith, same)
    of_inside s (inr g) = let k = fault_after (end_of b) (length bytes) (items_of j.front) (suc (length (bodies_of j.front))) left.parts s around.2 g in omega (arith, before_end)

    no_less : (s : Refusal) → IsFault bytes s → r.offset ≤ s.offset
    no_less s (inl g) = of_outside s g
    no_less s (inr g) = of_inside s (inside_rest bytes (after_part (Coded b) left) spaces bodies s j g)

-- ---- the start function is wrong

pub start_refused : (bytes : List ℕ) (left : Run) (spaces : Spaces) (bodies : ℕ) (x : Item) (r : Refusal) → IsJudged bytes (after_part (Listed x) left) spaces bodies → IsUseFault (context_in spaces) (use_of x) r → IsVerdictBesideText bytes (Rejected r)
start_refused bytes left spaces bodies x r j f = (inr inside, λ s g. no_less s g)
  where
    here : IsUseFault (context_of (items_of j.front)) (use_of x) r
    here = subst (λ (s : Spaces). IsUseFault (context_in s) (use_of x) r) j.spaces_are f

    inside : IsFaultInside [] 0 (module_read bytes).parts r
    inside = rw j.parts (fault_of_rest [] 0 j.front (Listed x ∷ left.parts) r (inl here))

    around : (at : ℕ) × UseStands at (length bytes) (use_of x) × AreOrdered (behind_use at (use_of x)) (length bytes) left.parts
    around = around_item first_section (length bytes) j.front x left.parts (rw j.parts at (parts_in_module bytes))

    before : r.offset < behind_use around.0 (use_of x)
    before = (use_fault_stands around.0 (length bytes) (context_of (items_of j.front)) (use_of x) r around.1 here).1

    of_outside : (s : Refusal) → IsOutsideFault bytes s → r.offset ≤ s.offset
    of_outside s e =
        let a = around_item first_section s.offset j.front x left.parts (rw j.parts at (parts_before_fault bytes s e).0) in
        let b = use_fault_stands a.0 s.offset (context_of (items_of j.front)) (use_of x) r a.1 here in
        omega (arith, b.1, (use_goes_on a.0 s.offset (use_of x) a.1).1)

    of_inside : (s : Refusal) → IsFaultInside (items_of j.front) (length (bodies_of j.front)) (Listed x ∷ left.parts) s → r.offset ≤ s.offset
    of_inside s (inl g) = omega (arith, ap (λ (t : Refusal). t.offset) (use_once (context_of (items_of j.front)) (use_of x) r s here g))
    of_inside s (inr g) = let k = fault_after (behind_use around.0 (use_of x)) (length bytes) (items_of j.front ++ x ∷ []) (length (bodies_of j.front)) left.parts s around.2 g in omega (arith, before)

    no_less : (s : Refusal) → IsFault bytes s → r.offset ≤ s.offset
    no_less s (inl g) = of_outside s g
    no_less s (inr g) = of_inside s (inside_rest bytes (after_part (Listed x) left) spaces bodies s j g)

-- ---- a body can be validated

counts_fit : (front : List Part) → import_count (items_of front) ≤ length front
counts_fit front = let e = functions_of-counts (items_of front) in omega (arith, functions_are_few front)

pub typed_there : (bytes : List ℕ) (left : Run) (spaces : Spaces) (bodies : ℕ) (b : Body) → IsJudged bytes (after_part (Coded b) left) spaces bodies → IsSome (function_type (context_in spaces) (spaces.imported + bodies))
typed_there bytes left spaces bodies b j =
    let whole : AreTyped [] 0 (j.front ++ Coded b ∷ left.parts) = rw j.parts at (functions_have_types bytes) in
    let here = typed_behind [] 0 j.front (Coded b ∷ left.parts) whole in
    let k : 0 + length (bodies_of j.front) ≡ length (bodies_of j.front) = zero_more (length (bodies_of j.front)) in
    let there = rw k at here.0 in
    rw (j.spaces_are, j.count) there

-- a body says whether the data segments were counted
pub told_there : (bytes : List ℕ) (left : Run) (spaces : Spaces) (bodies : ℕ) (b : Body) → IsJudged bytes (after_part (Coded b) left) spaces bodies → is_some spaces.data_count ≡ b.counted
told_there bytes left spaces bodies b j =
    let count = data_count_of (items_of (module_read bytes).parts) in
    let all : bodies_of (module_read bytes).parts ≡ bodies_of j.front ++ b ∷ bodies_of left.parts = ap bodies_of j.parts ∙ bodies_of-append j.front (Coded b ∷ left.parts) in
    let rest = all_back (λ d. d.counted ≡ is_some count) (bodies_of j.front) (b ∷ bodies_of left.parts) (subst (AreToldOf count) all (bodies_are_told bytes)) in
    let same : count ≡ data_count_of (items_of j.front) = (bodies_stand_behind bytes j.front b left.parts j.parts).same.data_count in
    ap (λ (s : Spaces). is_some s.data_count) j.spaces_are ∙ ap is_some (sym same) ∙ sym (All-head (λ d. d.counted ≡ is_some count) b (bodies_of left.parts) rest)

-- and so are all bodies that come next
pub all_told : (bytes : List ℕ) (left : Run) (spaces : Spaces) (bodies : ℕ) (counted : Bool) (given : List GivenBody) → IsJudged bytes (after_parts (coded_all counted given) left) spaces bodies
    → coded_all counted given ≡ coded_all (is_some spaces.data_count) given
all_told bytes left spaces bodies counted [] j = refl
all_told bytes left spaces bodies counted (b ∷ given) j =
    ap (λ (k : Bool). coded_all k (b ∷ given)) (sym (told_there bytes (after_parts (coded_all counted given) left) spaces bodies _ j))

pub fewer_parts : (bytes : List ℕ) (left : Run) (spaces : Spaces) (bodies : ℕ) (j : IsJudged bytes left spaces bodies) → length j.front ≤ length bytes
fewer_parts bytes left spaces bodies j = omega (arith, parts_are_few bytes, ap length j.parts, length-append j.front left.parts)

pub few_functions : (bytes : List ℕ) (left : Run) (spaces : Spaces) (bodies : ℕ) → IsJudged bytes left spaces bodies → length spaces.functions ≤ length bytes
few_functions bytes left spaces bodies j =
    let e : length spaces.functions ≡ length (functions_of (items_of j.front)) = ap (λ (s : Spaces). length s.functions) j.spaces_are in
    omega (arith, functions_are_few j.front, fewer_parts bytes left spaces bodies j)

pub few_bodies : (bytes : List ℕ) (left : Run) (spaces : Spaces) (bodies : ℕ) → IsJudged bytes left spaces bodies → bodies ≤ length bytes
few_bodies bytes left spaces bodies j = omega (arith, j.count, bodies_are_few j.front, fewer_parts bytes left spaces bodies j)

pub few_imports : (bytes : List ℕ) (left : Run) (spaces : Spaces) (bodies : ℕ) → IsJudged bytes left spaces bodies → spaces.imported ≤ length bytes
few_imports bytes left spaces bodies j =
    let e : spaces.imported ≡ import_count (items_of j.front) = ap (λ (s : Spaces). s.imported) j.spaces_are in
    omega (arith, counts_fit j.front, fewer_parts bytes left spaces bodies j)
