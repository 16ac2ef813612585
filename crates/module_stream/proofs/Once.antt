-- Bytes have one verdict.
use Rattle.std.proofs.Common.{◌≡◌, ◌≤◌, ◌<◌, inl, inr, ℕ, suc, ◌+◌, ◌*◌, List, [], ◌∷◌, ◌++◌, length, refl, sym, ap, ◌∙◌, append_assoc, arith}
use Rattle.wasm_defs.specs.declared.fault.Refusal.{Refusal}
use Rattle.wasm_defs.specs.declared.item.Item.{Item}
use Rattle.wasm_defs.specs.Trees.{Seq}
use Rattle.wasm_defs.specs.Outside.{Part, Section, Listed, Coded, Body, module_read}
use Rattle.wasm_defs.specs.Faults.{items_of, bodies_of, tokens_of, read_of, context_at, use_of, IsOutsideFault, IsFaultInside, IsFault, AreValid, Module, IsModule, Verdict, Accepted, Rejected}
use Rattle.wasm_defs.specs.Context.{context_of}
use Rattle.wasm_laws.specs.Order.{AreOrdered, behind_use, end_of, first_section}
use Rattle.wasm_laws.proofs.Order.{use_goes_on, parts_before_fault, parts_in_module}
use Rattle.wasm_laws.proofs.Verdicts.{some_once, code_fault_once, code_fault_inside, module_has_no_fault}
use Rattle.body_validator.proofs.TreeLaws.{trees_one}
use Rattle.std.proofs.lemmas.List.{append-nil}
use Rattle.wasm_defs.specs.Limits.{max_text}
use Rattle.wasm_laws.proofs.Behind.{bodies_stand_behind}
use Rattle.frame_layout.specs.Templates.{exit_stub}
use Rattle.image_linker.specs.ImageOf.{size_of, stub_size, front_size}
use Rattle.wasm_laws.proofs.PartLists.{items_of-append}
use Rattle.module_stream.proofs.CodeWords.{same_size}
use Rattle.image_linker.specs.Judging.{sizes, text_bytes, IsTextFault, IsFaultOf, IsModuleOf, IsVerdictOf}
use Rattle.wasm_laws.proofs.PartOrder.{use_fault_stands, use_once, fault_after}
use Rattle.module_stream.proofs.TextFaults.{text_not_outside, text_not_inside, text_once, tree_once}

-- ---- errors of bodies

inside_once : (low last : ℕ) (items : List Item) (k : ℕ) (parts : List Part) (r s : Refusal) → AreOrdered low last parts → IsFaultInside items k parts r → IsFaultInside items k parts s → r.offset ≡ s.offset → r ≡ s
inside_once low last items k [] r s o f g e = absurd f
inside_once low last items k (Section at position ∷ parts) r s o f g e = inside_once (suc at) last items k parts r s o.2 f g e
inside_once low last items k (Listed x ∷ parts) r s o (inl f) (inl g) e = use_once (context_of items) (use_of x) r s f g
inside_once low last items k (Listed x ∷ parts) r s o (inl f) (inr g) e =
    let here = use_fault_stands low last (context_of items) (use_of x) r o.0 f in
    let later = fault_after (behind_use low (use_of x)) last (items ++ x ∷ []) k parts s o.1 g in
    absurd (omega (arith, here.1))
inside_once low last items k (Listed x ∷ parts) r s o (inr f) (inl g) e =
    let here = use_fault_stands low last (context_of items) (use_of x) s o.0 g in
    let later = fault_after (behind_use low (use_of x)) last (items ++ x ∷ []) k parts r o.1 f in
    absurd (omega (arith, here.1))
inside_once low last items k (Listed x ∷ parts) r s o (inr f) (inr g) e = inside_once (behind_use low (use_of x)) last (items ++ x ∷ []) k parts r s o.1 f g e
inside_once low last items k (Coded b ∷ parts) r s o (inl f) (inl g) e = code_fault_once (context_at items k b) (read_of b).code r s f g
inside_once low last items k (Coded b ∷ parts) r s o (inl f) (inr g) e =
    let stands = o.0 in
    let here = code_fault_inside (context_at items k b) b r (omega (arith, stands.least)) f in
    let later = fault_after (end_of b) last items (suc k) parts s o.1 g in
    absurd (omega (arith, here.1))
inside_once low last items k (Coded b ∷ parts) r s o (inr f) (inl g) e =
    let stands = o.0 in
    let here = code_fault_inside (context_at items k b) b s (omega (arith, stands.least)) g in
    let later = fault_after (end_of b) last items (suc k) parts r o.1 f in
    absurd (omega (arith, here.1))
inside_once low last items k (Coded b ∷ parts) r s o (inr f) (inr g) e = inside_once (end_of b) last items (suc k) parts r s o.1 f g e

-- all are before the ending's error
pub before_last : (low last : ℕ) (items : List Item) (k : ℕ) (parts : List Part) (r : Refusal) → AreOrdered low last parts → IsFaultInside items k parts r → r.offset < last
before_last low last items k [] r o f = absurd f
before_last low last items k (Section at position ∷ parts) r o f = before_last (suc at) last items k parts r o.2 f
before_last low last items k (Listed x ∷ parts) r o (inl f) =
    let here = use_fault_stands low last (context_of items) (use_of x) r o.0 f in
    omega (arith, here.1, (use_goes_on low last (use_of x) o.0).1)
before_last low last items k (Listed x ∷ parts) r o (inr f) = before_last (behind_use low (use_of x)) last (items ++ x ∷ []) k parts r o.1 f
before_last low last items k (Coded b ∷ parts) r o (inl f) =
    let stands = o.0 in
    let here = code_fault_inside (context_at items k b) b r (omega (arith, stands.least)) f in
    omega (arith, here.1, stands.before)
before_last low last items k (Coded b ∷ parts) r o (inr f) = before_last (end_of b) last items (suc k) parts r o.1 f

not_both : (bytes : List ℕ) (r s : Refusal) → IsOutsideFault bytes r → IsFaultInside [] 0 (module_read bytes).parts s → r.offset ≡ s.offset → ⊥
not_both bytes r s f g e = let k = before_last first_section r.offset [] 0 (module_read bytes).parts s (parts_before_fault bytes r f).0 g in omega arith

-- ---- no two errors share an offset

pub fault_once : (bytes : List ℕ) (r s : Refusal) → IsFault bytes r → IsFault bytes s → r.offset ≡ s.offset → r ≡ s
fault_once bytes r s (inl f) (inl g) e = some_once _ r s f g
fault_once bytes r s (inl f) (inr g) e = absurd (not_both bytes r s f g e)
fault_once bytes r s (inr f) (inl g) e = absurd (not_both bytes s r g f (sym e))
fault_once bytes r s (inr f) (inr g) e = inside_once first_section (length bytes) [] 0 (module_read bytes).parts r s (parts_in_module bytes) f g e

-- ---- trees

same_trees : (items : List Item) (k : ℕ) (parts : List Part) (xs ys : List Seq) → AreValid items k parts xs → AreValid items k parts ys → xs ≡ ys
same_trees items k [] [] [] v w = refl
same_trees items k [] (x ∷ xs) ys v w = absurd v
same_trees items k [] [] (y ∷ ys) v w = absurd w
same_trees items k (Section at position ∷ parts) xs ys v w = same_trees items k parts xs ys v w
same_trees items k (Listed x ∷ parts) xs ys v w = same_trees (items ++ x ∷ []) k parts xs ys v.1 w.1
same_trees items k (Coded b ∷ parts) [] ys v w = absurd v
same_trees items k (Coded b ∷ parts) (x ∷ xs) [] v w = absurd w
same_trees items k (Coded b ∷ parts) (x ∷ xs) (y ∷ ys) v w =
    let first = v.0 in
    let second = w.0 in
    let h = trees_one (tokens_of (read_of b).code.tokens) x y first.tree_is second.tree_is in
    let t = same_trees items (suc k) parts xs ys v.1 w.1 in
    ap (λ (z : Seq). z ∷ xs) h ∙ ap (λ (l : List Seq). y ∷ l) t

-- ---- verdicts

same_module : (bytes : List ℕ) (m n : Module) → IsModule bytes m → IsModule bytes n → m ≡ n
same_module bytes m n p q =
    let items : m.items ≡ n.items = p.items ∙ sym q.items in
    let bodies : m.bodies ≡ n.bodies = p.bodies ∙ sym q.bodies in
    let trees : m.trees ≡ n.trees = same_trees [] 0 (module_read bytes).parts m.trees n.trees p.valid q.valid in
    ap (λ (x : List Item). record { items = x; bodies = m.bodies; trees = m.trees }) items
    ∙ ap (λ (x : List Body). record { items = n.items; bodies = x; trees = m.trees }) bodies
    ∙ ap (λ (x : List Seq). record { items = n.items; bodies = n.bodies; trees = x }) trees

no_fault : (bytes : List ℕ) (m : Module) (r : Refusal) → IsModule bytes m → IsFault bytes r → ⊥
no_fault bytes m r p f = module_has_no_fault bytes m.trees r p.whole p.valid f

-- ---- a module's text keeps its limit

-- after these parts of the module no body passes it
text_fits : (bytes : List ℕ) (front parts : List Part) (k words : ℕ) (trees : List Seq) (r : Refusal) → (module_read bytes).parts ≡ front ++ parts
    → AreValid (items_of front) k parts trees → text_bytes (items_of (module_read bytes).parts) (words + sizes (items_of (module_read bytes).parts) k (bodies_of parts) trees) ≤ max_text
    → IsTextFault (items_of front) k words parts r → ⊥
text_fits bytes front [] k words trees r e v le f = f
text_fits bytes front (Section at position ∷ parts) k words trees r e v le f =
    text_fits bytes (front ++ Section at position ∷ []) parts k words trees r (e ∙ sym (append_assoc front (Section at position ∷ []) parts))
    (rw (items_of-append front (Section at position ∷ []), append-nil (items_of front)) v) le (rw (items_of-append front (Section at position ∷ []), append-nil (items_of front)) f)
text_fits bytes front (Listed x ∷ parts) k words trees r e v le f =
    text_fits bytes (front ++ Listed x ∷ []) parts k words trees r (e ∙ sym (append_assoc front (Listed x ∷ []) parts))
    (rw (items_of-append front (Listed x ∷ [])) v.1) le (rw (items_of-append front (Listed x ∷ [])) f)
text_fits bytes front (Coded b ∷ parts) k words [] r e v le f = absurd v
text_fits bytes front (Coded b ∷ parts) k words (tree ∷ trees) r e v le (t, w, inl f) =
    let behind = bodies_stand_behind bytes front b parts e in
    let size : size_of (items_of (module_read bytes).parts) k b tree ≡ size_of (items_of front) k b t = same_size (items_of (module_read bytes).parts) (items_of front) behind.same k b tree ∙ ap (size_of (items_of front) k b) (tree_once (items_of front) k b tree t v.0 w) in
    let stubs : front_size (items_of (module_read bytes).parts) ≡ front_size (items_of front) = ap (λ (n : ℕ). length exit_stub + stub_size * n) behind.same.imports in
    absurd (omega (arith, f.0, le, size, stubs))
text_fits bytes front (Coded b ∷ parts) k words (tree ∷ trees) r e v le (t, w, inr f) =
    let behind = bodies_stand_behind bytes front b parts e in
    let size : size_of (items_of (module_read bytes).parts) k b tree ≡ size_of (items_of front) k b t = same_size (items_of (module_read bytes).parts) (items_of front) behind.same k b tree ∙ ap (size_of (items_of front) k b) (tree_once (items_of front) k b tree t v.0 w) in
    text_fits bytes (front ++ Coded b ∷ []) parts (suc k) (words + size_of (items_of front) k b t) trees r (e ∙ sym (append_assoc front (Coded b ∷ []) parts))
    (rw (items_of-append front (Coded b ∷ []), append-nil (items_of front)) v.1) (omega (arith, le, size)) (rw (items_of-append front (Coded b ∷ []), append-nil (items_of front)) f.1)

pub no_fault_of : (bytes : List ℕ) (m : Module) (r : Refusal) → IsModuleOf bytes m → IsFaultOf bytes r → ⊥
no_fault_of bytes m r p (inl f) = no_fault bytes m r p.is f
no_fault_of bytes m r p (inr f) =
    let fits : text_bytes (items_of (module_read bytes).parts) (0 + sizes (items_of (module_read bytes).parts) 0 (bodies_of (module_read bytes).parts) m.trees) ≤ max_text =
    omega (arith, p.fits, ap (λ (x : List Item). text_bytes x (sizes x 0 m.bodies m.trees)) p.is.items, ap (λ (x : List Body). sizes (items_of (module_read bytes).parts) 0 x m.trees) p.is.bodies) in
    text_fits bytes [] (module_read bytes).parts 0 0 m.trees r refl p.is.valid fits f

-- ---- with the limit on the text

pub fault_of_once : (bytes : List ℕ) (r s : Refusal) → IsFaultOf bytes r → IsFaultOf bytes s → r.offset ≡ s.offset → r ≡ s
fault_of_once bytes r s (inl f) (inl g) e = fault_once bytes r s f g e
fault_of_once bytes r s (inl (inl f)) (inr g) e = absurd (text_not_outside bytes r s f g e)
fault_of_once bytes r s (inl (inr f)) (inr g) e = absurd (text_not_inside bytes r s f g e)
fault_of_once bytes r s (inr f) (inl (inl g)) e = absurd (text_not_outside bytes s r g f (sym e))
fault_of_once bytes r s (inr f) (inl (inr g)) e = absurd (text_not_inside bytes s r g f (sym e))
fault_of_once bytes r s (inr f) (inr g) e = text_once [] 0 0 (module_read bytes).parts r s f g

pub verdict_once : (bytes : List ℕ) (v w : Verdict) → IsVerdictOf bytes v → IsVerdictOf bytes w → v ≡ w
verdict_once bytes (Accepted m) (Accepted n) p q = ap (λ (x : Module). Accepted x) (same_module bytes m n p.is q.is)
verdict_once bytes (Accepted m) (Rejected r) p q = absurd (no_fault_of bytes m r p q.0)
verdict_once bytes (Rejected r) (Accepted m) p q = absurd (no_fault_of bytes m r q p.0)
verdict_once bytes (Rejected r) (Rejected s) p q =
    let same : r.offset ≡ s.offset = omega (arith, p.1 s q.0, q.1 r p.0) in
    ap (λ (x : Refusal). Rejected x) (fault_of_once bytes r s p.0 q.0 same)
