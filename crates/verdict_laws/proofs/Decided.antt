-- Any bytes have a verdict.
use Rattle.std.proofs.Common.{◌≡◌, ◌≤◌, inl, inr, ℕ, suc, ◌+◌, ◌*◌, List, [], ◌∷◌, ◌++◌, length, Option, None, Some, refl, sym, ap, ◌∙◌, subst, append_assoc, arith}
use Rattle.std.proofs.lemmas.Bool.{cases_Bool, cases_lt}
use Rattle.std.proofs.lemmas.List.{append-nil}
use Rattle.wasm_defs.specs.declared.fault.Refusal.{Refusal}
use Rattle.wasm_defs.specs.declared.item.Item.{Item}
use Rattle.wasm_defs.specs.Items.{Section as Spelled}
use Rattle.wasm_defs.specs.Limits.{max_text}
use Rattle.wasm_defs.specs.Outside.{Part, Section, Listed, Coded, Body, module_read}
use Rattle.wasm_defs.specs.Trees.{Seq}
use Rattle.wasm_defs.specs.Typing.{Context}
use Rattle.wasm_defs.specs.Context.{context_of}
use Rattle.wasm_defs.specs.Faults.{ending_fault, items_of, bodies_of, read_of, context_at, Use, use_of, offset_of_use, serves, use_kind, UsesRight, IsUseFault, IsCodeFault, IsValidCode, IsOutsideFault, IsFaultInside, IsFault, AreValid, Module, Verdict, Accepted, Rejected}
use Rattle.wasm_laws.specs.Sections.{AreBytes}
use Rattle.wasm_laws.proofs.Behind.{bodies_stand_behind}
use Rattle.wasm_laws.proofs.Counted.{entries_are_few}
use Rattle.wasm_laws.proofs.Verdicts.{code_fault_once, valid_has_no_fault, uses_without_fault}
use Rattle.frame_layout.specs.Templates.{exit_stub}
use Rattle.image_linker.specs.ImageOf.{size_of, stub_size, front_size}
use Rattle.image_linker.specs.Judging.{sizes, text_bytes, limit_at, IsTextFault, IsFaultOf, IsModuleOf, IsVerdictOf}
use Rattle.image_linker.proofs.ImportBounds.{imports_are_few}
use Rattle.module_stream.proofs.CodeWords.{same_size}
use Rattle.module_stream.proofs.Once.{no_fault_of}
use Rattle.wasm_laws.proofs.PartLists.{items_of-append}
use Rattle.module_stream.proofs.TextFaults.{tree_once, text_once}
use Rattle.body_laws.specs.Spelled.{IsSpelledModule}
use Rattle.body_laws.proofs.SpelledModules.{module_is_spelled, spelled_is_module}
use Rattle.verdict_laws.proofs.Leasts.{HasLeast, least_only, none_of, least_either}
use Rattle.verdict_laws.proofs.Judged.{IsJudged, body_judged}

-- ---- errors of bodies

code_least : (c : Context) (b : Body) → IsJudged c (read_of b).code → HasLeast (IsCodeFault c (read_of b).code)
code_least c b (inl v) = inr (λ s f. valid_has_no_fault c (read_of b).code v.0 s v.1 f)
code_least c b (inr p) = inl (p.0, p.1, λ s g. omega (arith, ap (λ (r : Refusal). r.offset) (code_fault_once c (read_of b).code p.0 s p.1 g)))

-- ---- and of the start function, or of an import

use_least : (c : Context) (o : Option Use) → HasLeast (IsUseFault c o)
use_least c None = inr (λ s f. f)
use_least c (Some u) =
    elim (cases_Bool (serves c u)) [
      | inl does ↦ inr (λ s f. uses_without_fault c (Some u) s does f)
      | inr wrong ↦ inl (record { offset = offset_of_use u; kind = use_kind u }, (wrong, refl), λ s f. omega (arith, ap (λ (r : Refusal). r.offset) f.1))
    ]

uses_of : (c : Context) (o : Option Use) → ((s : Refusal) → IsUseFault c o s → ⊥) → UsesRight c o
uses_of c None none = tt
uses_of c (Some u) none =
    elim (cases_Bool (serves c u)) [
      | inl does ↦ does
      | inr wrong ↦ absurd (none (record { offset = offset_of_use u; kind = use_kind u }) (wrong, refl))
    ]

inside_least : (items : List Item) (k : ℕ) (parts : List Part) → HasLeast (IsFaultInside items k parts)
inside_least items k [] = inr (λ s f. f)
inside_least items k (Section at position ∷ parts) = inside_least items k parts
inside_least items k (Listed x ∷ parts) =
    least_either (IsUseFault (context_of items) (use_of x)) (IsFaultInside (items ++ x ∷ []) k parts) (use_least (context_of items) (use_of x)) (inside_least (items ++ x ∷ []) k parts)
inside_least items k (Coded b ∷ parts) =
    least_either (IsCodeFault (context_at items k b) (read_of b).code) (IsFaultInside items (suc k) parts)
    (code_least (context_at items k b) b (body_judged (context_at items k b) b.counted b.first b.bytes)) (inside_least items (suc k) parts)

trees_of : (items : List Item) (k : ℕ) (parts : List Part) → ((s : Refusal) → IsFaultInside items k parts s → ⊥) → (trees : List Seq) × AreValid items k parts trees
trees_of items k [] none = ([], tt)
trees_of items k (Section at position ∷ parts) none = trees_of items k parts none
trees_of items k (Listed x ∷ parts) none =
    let rest = trees_of (items ++ x ∷ []) k parts (λ s f. none s (inr f)) in
    (rest.0, (uses_of (context_of items) (use_of x) (λ s f. none s (inl f)), rest.1))
trees_of items k (Coded b ∷ parts) none =
    elim (body_judged (context_at items k b) b.counted b.first b.bytes) [
      | inl v ↦ let rest = trees_of items (suc k) parts (λ s f. none s (inr f)) in (v.0 ∷ rest.0, (v.1, rest.1))
      | inr p ↦ absurd (none p.0 (inl p.1))
    ]

-- ---- the error of the text

-- one at most: so it is the least
text_only : (items : List Item) (k words : ℕ) (parts : List Part) (r : Refusal) → IsTextFault items k words parts r → HasLeast (IsTextFault items k words parts)
text_only items k words parts r f = inl (r, f, λ s g. omega (arith, ap (λ (x : Refusal). x.offset) (text_once items k words parts r s f g)))

no_text : (items : List Item) (k words : ℕ) (b : Body) (parts : List Part) (tree : Seq) → IsValidCode (context_at items k b) (read_of b).code tree → text_bytes items (words + size_of items k b tree) ≤ max_text
    → ((s : Refusal) → IsTextFault items (suc k) (words + size_of items k b tree) parts s → ⊥) → (s : Refusal) → IsTextFault items k words (Coded b ∷ parts) s → ⊥
no_text items k words b parts tree v le none s (t, w, inl f) =
    let same : size_of items k b t ≡ size_of items k b tree = ap (size_of items k b) (tree_once items k b t tree w v) in
    omega (arith, f.0, le, ap (λ (n : ℕ). text_bytes items (words + n)) same)
no_text items k words b parts tree v le none s (t, w, inr f) =
    let same : size_of items k b t ≡ size_of items k b tree = ap (size_of items k b) (tree_once items k b t tree w v) in
    none s (subst (λ (n : ℕ). IsTextFault items (suc k) (words + n) parts s) same f.1)

text_least : (items : List Item) (k words : ℕ) (parts : List Part) → HasLeast (IsTextFault items k words parts)
text_least items k words [] = inr (λ s f. f)
text_least items k words (Section at position ∷ parts) = text_least items k words parts
text_least items k words (Listed x ∷ parts) = text_least (items ++ x ∷ []) k words parts
text_least items k words (Coded b ∷ parts) =
    elim (body_judged (context_at items k b) b.counted b.first b.bytes) [
      | inr p ↦ inr (λ s f. valid_has_no_fault (context_at items k b) (read_of b).code f.0 p.0 f.1 p.1)
      | inl v ↦ elim (cases_lt max_text (text_bytes items (words + size_of items k b v.0))) [
        | inl over ↦ text_only items k words (Coded b ∷ parts) (limit_at b.size) (v.0, v.1, inl (over, refl))
        | inr le ↦ elim (text_least items (suc k) (words + size_of items k b v.0) parts) [
          | inl r ↦ text_only items k words (Coded b ∷ parts) r.0 (v.0, v.1, inr (le, r.1))
          | inr none ↦ inr (no_text items k words b parts v.0 v.1 le none)
        ]
      ]
    ]

-- after these parts of the module it keeps its limit
text_keeps : (bytes : List ℕ) (front parts : List Part) (k words : ℕ) (trees : List Seq) → (module_read bytes).parts ≡ front ++ parts → AreValid (items_of front) k parts trees
    → ((s : Refusal) → IsTextFault (items_of front) k words parts s → ⊥) → text_bytes (items_of (module_read bytes).parts) words ≤ max_text
    → text_bytes (items_of (module_read bytes).parts) (words + sizes (items_of (module_read bytes).parts) k (bodies_of parts) trees) ≤ max_text
text_keeps bytes front [] k words trees e v none le = omega (arith, le)
text_keeps bytes front (Section at position ∷ parts) k words trees e v none le =
    let same : items_of (front ++ Section at position ∷ []) ≡ items_of front = items_of-append front (Section at position ∷ []) ∙ append-nil (items_of front) in
    text_keeps bytes (front ++ Section at position ∷ []) parts k words trees (e ∙ sym (append_assoc front (Section at position ∷ []) parts))
    (rw same v) (rw same none) le
text_keeps bytes front (Listed x ∷ parts) k words trees e v none le =
    text_keeps bytes (front ++ Listed x ∷ []) parts k words trees (e ∙ sym (append_assoc front (Listed x ∷ []) parts))
    (rw (items_of-append front (Listed x ∷ [])) v.1) (rw (items_of-append front (Listed x ∷ [])) none) le
text_keeps bytes front (Coded b ∷ parts) k words [] e v none le = absurd v
text_keeps bytes front (Coded b ∷ parts) k words (tree ∷ trees) e v none le =
    let items = items_of (module_read bytes).parts in
    let behind = bodies_stand_behind bytes front b parts e in
    let size : size_of items k b tree ≡ size_of (items_of front) k b tree = same_size items (items_of front) behind.same k b tree in
    let stubs : front_size items ≡ front_size (items_of front) = ap (λ (n : ℕ). length exit_stub + stub_size * n) behind.same.imports in
    let same : items_of (front ++ Coded b ∷ []) ≡ items_of front = items_of-append front (Coded b ∷ []) ∙ append-nil (items_of front) in
    let now : ℕ = words + size_of (items_of front) k b tree in
    elim (cases_lt max_text (text_bytes (items_of front) now)) [
      | inl over ↦ absurd (none (limit_at b.size) (tree, v.0, inl (over, refl)))
      | inr under ↦
          let rest = text_keeps bytes (front ++ Coded b ∷ []) parts (suc k) now trees (e ∙ sym (append_assoc front (Coded b ∷ []) parts))
          (rw same v.1) (rw same (λ (s : Refusal) (f : IsTextFault (items_of front) (suc k) now parts s). none s (tree, v.0, inr (under, f)))) (omega (arith, under, stubs)) in
          omega (arith, rest, size)
    ]

-- ---- verdicts

fault_least : (bytes : List ℕ) → HasLeast (IsFaultOf bytes)
fault_least bytes =
    least_either (IsFault bytes) (IsTextFault [] 0 0 (module_read bytes).parts)
    (least_either (IsOutsideFault bytes) (IsFaultInside [] 0 (module_read bytes).parts) (least_only (ending_fault (length bytes) (module_read bytes).ending)) (inside_least [] 0 (module_read bytes).parts))
    (text_least [] 0 0 (module_read bytes).parts)

pub module_of : (bytes : List ℕ) → ((r : Refusal) → IsFaultOf bytes r → ⊥) → (m : Module) × IsModuleOf bytes m
module_of bytes none =
    let all = (module_read bytes).parts in
    let valid = trees_of [] 0 all (λ s f. none s (inl (inr f))) in
    let m : Module = record { items = items_of all; bodies = bodies_of all; trees = valid.0 } in
    let first : text_bytes (items_of all) 0 ≤ max_text = omega (arith, imports_are_few (items_of all), entries_are_few 2 (λ ten. absurd cc) bytes) in (
      m,
      record {
        is = record { whole = none_of _ (λ s e. none s (inl (inl e))); items = refl; bodies = refl; valid = valid.1 };
        fits = omega (arith, text_keeps bytes [] all 0 0 valid.0 refl valid.1 (λ s f. none s (inr f)) first);
      },
    )

pub has_verdict : (bytes : List ℕ) → (v : Verdict) × IsVerdictOf bytes v
has_verdict bytes = of (fault_least bytes)
  where
    of : HasLeast (IsFaultOf bytes) → (v : Verdict) × IsVerdictOf bytes v
    of (inl p) = (Rejected p.0, (p.1, p.2))
    of (inr none) = let m = module_of bytes none in (Accepted m.0, m.1)

-- ---- the module is encoded

pub no_fault_is_spelled : (bytes : List ℕ) → AreBytes bytes → ((r : Refusal) → IsFaultOf bytes r → ⊥) → (m : Module) × (sections : List Spelled) × IsSpelledModule bytes m sections × (text_bytes m.items (sizes m.items 0 m.bodies m.trees) ≤ max_text)
no_fault_is_spelled bytes fits none =
    let m = module_of bytes none in
    let is = m.1 in
    let s = module_is_spelled bytes m.0 fits is.is in
    (m.0, s.0, s.1, is.fits)

pub spelled_has_no_fault : (bytes : List ℕ) (m : Module) (sections : List Spelled) → IsSpelledModule bytes m sections → text_bytes m.items (sizes m.items 0 m.bodies m.trees) ≤ max_text → (r : Refusal) → IsFaultOf bytes r → ⊥
spelled_has_no_fault bytes m sections s fits r f = no_fault_of bytes m r (record { is = spelled_is_module bytes m sections s; fits = fits }) f
