-- A module has one verdict.
use Rattle.std.proofs.Common.{◌≡◌, ◌≤◌, ◌<◌, inl, inr, ℕ, suc, ◌+◌, Bool, true, false, List, [], ◌∷◌, ◌++◌, length, Option, None, Some, refl, ◌∙◌, arith}
use Rattle.std.proofs.lemmas.List.{append-nil}
use Rattle.wasm_defs.specs.declared.fault.Refusal.{Refusal}
use Rattle.wasm_defs.specs.declared.item.Item.{Item}
use Rattle.wasm_defs.specs.Fields.{Read, Got, Fault, Wants}
use Rattle.wasm_defs.specs.Bodies.{Group, Spelled, read_code, local_groups, body_cursor, last_of, body_read}
use Rattle.wasm_defs.specs.Outside.{Part, Section, Listed, Coded, Body, module_read}
use Rattle.wasm_defs.specs.Typing.{Context}
use Rattle.wasm_defs.specs.Context.{context_of}
use Rattle.wasm_defs.specs.Trees.{Seq}
use Rattle.wasm_defs.specs.Faults.{ending_fault, tokens_of, IsCodeFault, IsValidCode, read_of, context_at, Use, serves, use_of, UsesRight, IsUseFault, IsFaultInside, IsFault, AreValid}
use Rattle.wasm_laws.specs.Steadiness.{Advances, StandsIn}
use Rattle.wasm_laws.proofs.Faulty.{no_token_fault, token_fault_once}
use Rattle.wasm_laws.proofs.Spelling.{AllWithin, Places, places_lower, stops_at, missing, IsOpen, open_later, spelled_places}
use Rattle.wasm_laws.proofs.BodyLaws.{local_groups_steady}

-- ---- a body has one error

none_is_some : (x : Option Refusal) (r : Refusal) → x ≡ None → x ≡ Some r → ⊥
none_is_some x r p q = absurd cc

pub some_once : (x : Option Refusal) (r s : Refusal) → x ≡ Some r → x ≡ Some s → r ≡ s
some_once x r s p q = cc

pub code_fault_once : (c : Context) (code : Spelled) (r s : Refusal) → IsCodeFault c code r → IsCodeFault c code s → r ≡ s
code_fault_once c code r s (inl f) (inl g) = token_fault_once c code.tokens r s f g
code_fault_once c code r s (inl f) (inr g) = absurd (no_token_fault c code.tokens r g.viable f)
code_fault_once c code r s (inr f) (inl g) = absurd (no_token_fault c code.tokens s f.viable g)
code_fault_once c code r s (inr f) (inr g) = some_once code.fault r s f.is g.is

-- ---- a body's error is in the body

read_places : (counted : Bool) (first : ℕ) (bytes : List ℕ) (x : Read (List Group)) → 1 ≤ length bytes → Advances (body_cursor first bytes) x → StandsIn first (body_cursor first bytes) x
    → Places first (first + length bytes) (last_of first bytes) (read_code counted (last_of first bytes) x (length bytes + 1)).code
read_places counted first bytes (Got gs d) some p q =
    let high = first + length bytes in
    let last = last_of first bytes in
    let begin : IsOpen high (body_cursor first bytes) = record { far = omega arith; high_is = refl } in
    places_lower first d.at high last _ (omega (arith, p.at)) (spelled_places counted (length bytes + 1) 1 high last d (open_later high (body_cursor first bytes) d p begin))
read_places counted first bytes (Fault r) some p q =
    stops_at first (first + length bytes) (last_of first bytes) r (inl (q.from, q.at_a_byte (omega arith)))
read_places counted first bytes Wants some p q = missing first (first + length bytes) (last_of first bytes)

pub body_places : (counted : Bool) (first : ℕ) (bytes : List ℕ) → 1 ≤ length bytes → Places first (first + length bytes) (last_of first bytes) (body_read counted first bytes).code
body_places counted first bytes some =
    let s = local_groups_steady [] in
    let c = body_cursor first bytes in
    read_places counted first bytes (local_groups c) some (s.moves c) (s.place first c (omega arith) tt)

within_list : {A : Type 0} (low high : ℕ) (before after : List (ℕ × A)) (x : ℕ × A) → AllWithin low high (before ++ x ∷ after) → (low ≤ x.0) × (x.0 < high)
within_list low high [] after x p = (p.0, p.1)
within_list low high (y ∷ before) after x p = within_list low high before after x p.2

pub code_fault_inside : (c : Context) (b : Body) (r : Refusal) → 1 ≤ length b.bytes → IsCodeFault c (read_of b).code r → (b.first ≤ r.offset) × (r.offset < b.first + length b.bytes)
code_fault_inside c b r some (inl t) =
    let places : Places b.first (b.first + length b.bytes) (last_of b.first b.bytes) (read_of b).code = body_places b.counted b.first b.bytes some in
    let h = within_list b.first (b.first + length b.bytes) t.before t.after (t.at, t.token) (rw t.parts at places.tokens) in
    (omega (arith, h.0, t.place), omega (arith, h.1, t.place))
code_fault_inside c b r some (inr s) =
    let places : Places b.first (b.first + length b.bytes) (last_of b.first b.bytes) (read_of b).code = body_places b.counted b.first b.bytes some in
    elim (places.fault r s.is) [
      | inl h ↦ h
      | inr h ↦ (omega arith, omega arith)
    ]

-- ---- a valid body has no error

pub valid_has_no_fault : (c : Context) (code : Spelled) (tree : Seq) (r : Refusal) → IsValidCode c code tree → IsCodeFault c code r → ⊥
valid_has_no_fault c code tree r v (inl t) = no_token_fault c code.tokens r ([], tree, append-nil (tokens_of code.tokens) ∙ v.tree_is, v.typed) t
valid_has_no_fault c code tree r v (inr s) = none_is_some code.fault r v.whole s.is

-- ---- an index whose type serves has no error

true_or_false : (b : Bool) → b ≡ true → b ≡ false → ⊥
true_or_false b t f = cc

pub uses_without_fault : (c : Context) (o : Option Use) (r : Refusal) → UsesRight c o → IsUseFault c o r → ⊥
uses_without_fault c None r p f = f
uses_without_fault c (Some u) r p f = true_or_false (serves c u) p f.0

pub valid_bodies : (items : List Item) (k : ℕ) (parts : List Part) (trees : List Seq) (r : Refusal) → AreValid items k parts trees → IsFaultInside items k parts r → ⊥
valid_bodies items k [] trees r v f = f
valid_bodies items k (Section at id ∷ parts) trees r v f = valid_bodies items k parts trees r v f
valid_bodies items k (Listed x ∷ parts) trees r v (inl f) = uses_without_fault (context_of items) (use_of x) r v.0 f
valid_bodies items k (Listed x ∷ parts) trees r v (inr f) = valid_bodies (items ++ x ∷ []) k parts trees r v.1 f
valid_bodies items k (Coded b ∷ parts) [] r v f = v
valid_bodies items k (Coded b ∷ parts) (tree ∷ trees) r v (inl f) = valid_has_no_fault (context_at items k b) (read_of b).code tree r v.0 f
valid_bodies items k (Coded b ∷ parts) (tree ∷ trees) r v (inr f) = valid_bodies items (suc k) parts trees r v.1 f

-- a module has no error
pub module_has_no_fault : (bytes : List ℕ) (trees : List Seq) (r : Refusal) → ending_fault (length bytes) (module_read bytes).ending ≡ None
    → AreValid [] 0 (module_read bytes).parts trees → IsFault bytes r → ⊥
module_has_no_fault bytes trees r whole valid (inl f) = none_is_some _ r whole f
module_has_no_fault bytes trees r whole valid (inr f) = valid_bodies [] 0 (module_read bytes).parts trees r valid f
