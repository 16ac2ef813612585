-- The bodies of a module are encoded, and what is encoded is a module.
use Rattle.std.proofs.Common.{◌≡◌, ℕ, suc, ◌+◌, List, [], ◌∷◌, ◌++◌, length, refl, sym, ap, ◌∙◌, subst, append_assoc}
use Rattle.std.proofs.lemmas.List.{append-nil}
use Rattle.wasm_defs.specs.declared.item.Item.{Item}
use Rattle.wasm_defs.specs.declared.token.Token.{Token}
use Rattle.wasm_defs.specs.Bodies.{Group}
use Rattle.wasm_defs.specs.Context.{context_of, import_count, body_context, type_of_function}
use Rattle.wasm_defs.specs.Faults.{ending_fault, tokens_of, read_of, context_at, items_of, bodies_of, IsValidCode, AreValid, Module, IsModule}
use Rattle.wasm_defs.specs.Items.{Section}
use Rattle.wasm_defs.specs.Outside.{Body, Part, Section as Headed, Listed, Coded, Ending, Run, module_read}
use Rattle.wasm_defs.specs.Trees.{Seq, Tree}
use Rattle.wasm_defs.specs.Typing.{Context, IsBody}
use Rattle.wasm_laws.specs.Behind.{UsesKeep, AreValidIn}
use Rattle.wasm_laws.specs.Sections.{AreBytes, parts_in}
use Rattle.wasm_laws.proofs.Behind.{same_context, items_with, bodies_stand_behind, bodies_are_valid, uses_keep}
use Rattle.wasm_laws.proofs.Bytes.{each_byte, HaveBytes, bodies_have_bytes}
use Rattle.wasm_laws.proofs.Described.{items_of_parts, bodies_of_parts, whole_is_described, whole_ending}
use Rattle.wasm_laws.proofs.Locals.{locals_are_few}
use Rattle.wasm_laws.proofs.WholeModules.{described_is_whole}
use Rattle.body_laws.specs.Spelled.{IsSpelled, AreSpelled, IsSpelledModule}
use Rattle.body_laws.proofs.SpeltCodes.{body_found, spelled_is_read}

-- ---- a body

valid_is_spelled : (items : List Item) (k : ℕ) (b : Body) (tree : Seq) → AreBytes b.bytes → IsValidCode (context_at items k b) (read_of b).code tree → IsSpelled items k b tree
valid_is_spelled items k b tree fits v = record {
  groups = (read_of b).groups;
  tokens = (read_of b).code.tokens;
  spelled = body_found b.counted b.first b.bytes (each_byte b.bytes fits) v.whole;
  few = locals_are_few b.counted b.first b.bytes;
  nests = v.tree_is;
  typed = v.typed;
}

spelled_is_valid : (items : List Item) (k : ℕ) (b : Body) (tree : Seq) → IsSpelled items k b tree → IsValidCode (context_at items k b) (read_of b).code tree
spelled_is_valid items k b tree s =
    let c = context_of items in
    let is = spelled_is_read b.counted b.first b.bytes s.groups s.tokens tree s.nests s.spelled s.few in
    record {
      whole = is.whole;
      tree_is = subst (λ (ts : List (ℕ × Token)). Tree (tokens_of ts) tree) (sym is.code) s.nests;
      typed = subst (λ (gs : List Group). IsBody (body_context c (type_of_function c (import_count items + k)) gs) tree) (sym is.locals) s.typed;
    }

-- ---- bodies

valid_are_spelled : (items : List Item) (k : ℕ) (bodies : List Body) (trees : List Seq) → HaveBytes bodies → AreValidIn items k bodies trees → AreSpelled items k bodies trees
valid_are_spelled items k [] [] fits v = tt
valid_are_spelled items k [] (tree ∷ trees) fits v = absurd v
valid_are_spelled items k (b ∷ bodies) [] fits v = absurd v
valid_are_spelled items k (b ∷ bodies) (tree ∷ trees) fits v = (valid_is_spelled items k b tree fits.0 v.0, valid_are_spelled items (suc k) bodies trees fits.1 v.1)

spelled_are_valid : (items : List Item) (k : ℕ) (bodies : List Body) (trees : List Seq) → AreSpelled items k bodies trees → AreValidIn items k bodies trees
spelled_are_valid items k [] [] s = tt
spelled_are_valid items k [] (tree ∷ trees) s = absurd s
spelled_are_valid items k (b ∷ bodies) [] s = absurd s
spelled_are_valid items k (b ∷ bodies) (tree ∷ trees) s = (spelled_is_valid items k b tree s.0, spelled_are_valid items (suc k) bodies trees s.1)

-- ---- all items say of a body what those before it say

valid_at_parts : (bytes : List ℕ) (front : List Part) (items : List Item) (k : ℕ) (parts : List Part) (trees : List Seq) → (module_read bytes).parts ≡ front ++ parts → items_of front ≡ items
    → UsesKeep items (items_of parts) → AreValidIn (items_of (module_read bytes).parts) k (bodies_of parts) trees → AreValid items k parts trees
valid_at_parts bytes front items k [] [] e same s h = tt
valid_at_parts bytes front items k [] (tree ∷ trees) e same s h = absurd h
valid_at_parts bytes front items k (Headed at id ∷ parts) trees e same s h =
    valid_at_parts bytes (front ++ Headed at id ∷ []) items k parts trees (e ∙ sym (append_assoc front (Headed at id ∷ []) parts)) (items_with front (Headed at id) ∙ append-nil (items_of front) ∙ same) s h
valid_at_parts bytes front items k (Listed x ∷ parts) trees e same s h =
    (s.0, valid_at_parts bytes (front ++ Listed x ∷ []) (items ++ x ∷ []) k parts trees (e ∙ sym (append_assoc front (Listed x ∷ []) parts)) (items_with front (Listed x) ∙ ap (λ (l : List Item). l ++ x ∷ []) same) s.1 h)
valid_at_parts bytes front items k (Coded b ∷ parts) [] e same s h = absurd h
valid_at_parts bytes front items k (Coded b ∷ parts) (tree ∷ trees) e same s h =
    let all = items_of (module_read bytes).parts in
    let stands = bodies_stand_behind bytes front b parts e in
    let here : context_at all k b ≡ context_at items k b = sym (same_context all (items_of front) k b stands.same) ∙ ap (λ (l : List Item). context_at l k b) same in (
      subst (λ (c : Context). IsValidCode c (read_of b).code tree) here h.0,
      valid_at_parts bytes (front ++ Coded b ∷ []) items (suc k) parts trees (e ∙ sym (append_assoc front (Coded b ∷ []) parts)) (items_with front (Coded b) ∙ append-nil (items_of front) ∙ same) s h.1,
    )

-- ---- modules

pub module_is_spelled : (bytes : List ℕ) (m : Module) → AreBytes bytes → IsModule bytes m → (sections : List Section) × IsSpelledModule bytes m sections
module_is_spelled bytes m fits is =
    let run = module_read bytes in
    let whole = whole_ending (length bytes) run.ending is.whole in
    let d = whole_is_described bytes run.parts (each_byte bytes fits) whole.0 (ap (λ (z : Ending). record { parts = run.parts; ending = z }) whole.1) in
    let valid = valid_are_spelled m.items 0 m.bodies m.trees (subst HaveBytes (sym is.bodies) (bodies_have_bytes bytes fits)) (bodies_are_valid bytes m is) in (
      d.0,
      record {
        is = d.1;
        items = is.items ∙ ap items_of d.2 ∙ items_of_parts d.0;
        bodies = is.bodies ∙ ap bodies_of d.2 ∙ bodies_of_parts d.0;
        starts = subst (UsesKeep []) (sym is.items) (uses_keep [] 0 run.parts m.trees is.valid);
        spelled = valid;
      },
    )

pub spelled_is_module : (bytes : List ℕ) (m : Module) (sections : List Section) → IsSpelledModule bytes m sections → IsModule bytes m
spelled_is_module bytes m sections s =
    let w = described_is_whole bytes sections s.is in
    let parts : (module_read bytes).parts ≡ parts_in sections = ap (λ (r : Run). r.parts) w.1 in
    let items : m.items ≡ items_of (module_read bytes).parts = s.items ∙ sym (items_of_parts sections) ∙ ap items_of (sym parts) in
    let bodies : m.bodies ≡ bodies_of (module_read bytes).parts = s.bodies ∙ sym (bodies_of_parts sections) ∙ ap bodies_of (sym parts) in
    let valid = spelled_are_valid m.items 0 m.bodies m.trees s.spelled in
    record {
      whole = ap (λ (r : Run). ending_fault (length bytes) r.ending) w.1;
      items = items;
      bodies = bodies;
      valid = valid_at_parts bytes [] [] 0 (module_read bytes).parts m.trees refl refl (subst (UsesKeep []) items s.starts)
          (subst (λ (l : List Body). AreValidIn (items_of (module_read bytes).parts) 0 l m.trees) bodies (subst (λ (l : List Item). AreValidIn l 0 m.bodies m.trees) items valid));
    }
