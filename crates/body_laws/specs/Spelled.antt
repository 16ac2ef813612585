-- Bodies of a module as the grammar encodes them, with no reader (WebAssembly Core 1.0, 5.4, 5.5.13 and 3.4.1).
use Rattle.std.specs.Prelude.{◌≡◌, ℕ, suc, ◌+◌, List, [], ◌∷◌}
use Rattle.wasm_defs.specs.declared.item.Item.{Item}
use Rattle.wasm_defs.specs.declared.token.Token.{Token}
use Rattle.wasm_defs.specs.Bodies.{Group}
use Rattle.wasm_defs.specs.Codes.{Code}
use Rattle.wasm_defs.specs.Context.{context_of, import_count, body_context, type_of_function}
use Rattle.wasm_defs.specs.Faults.{tokens_of, Module}
use Rattle.wasm_defs.specs.Items.{Section, items_in, bodies_in}
use Rattle.wasm_defs.specs.Outside.{Body}
use Rattle.wasm_defs.specs.Trees.{Seq, Tree}
use Rattle.wasm_defs.specs.Typing.{IsBody}
use Rattle.wasm_laws.specs.Behind.{UsesKeep}
use Rattle.wasm_laws.specs.Kept.{LocalsAreFew}
use Rattle.wasm_laws.specs.Sections.{AreSectionsOf}

-- the k-th body of a module of these items: its bytes encode groups of locals and the tokens of a tree, which is typed
pub record IsSpelled (items : List Item) (k : ℕ) (b : Body) (tree : Seq) : Type 0 where
  pub groups : List Group
  pub tokens : List (ℕ × Token)
  pub spelled : Code b.counted groups tokens b.first b.bytes
  pub few : LocalsAreFew groups
  pub nests : Tree (tokens_of tokens) tree
  pub typed : IsBody (body_context (context_of items) (type_of_function (context_of items) (import_count items + k)) groups) tree

-- so of each body, of which the first is the k-th
abbrev pub AreSpelled : List Item → ℕ → List Body → List Seq → Type 0
AreSpelled items k [] [] = Unit {0}
AreSpelled items k [] (tree ∷ trees) = ⊥
AreSpelled items k (b ∷ bodies) [] = ⊥
AreSpelled items k (b ∷ bodies) (tree ∷ trees) = IsSpelled items k b tree × AreSpelled items (suc k) bodies trees

-- the bytes are a module of these sections; its start function is one of those before it, of the right type; and its bodies are
-- encoded
pub record IsSpelledModule (bytes : List ℕ) (m : Module) (sections : List Section) : Type 0 where
  pub is : AreSectionsOf sections bytes
  pub items : m.items ≡ items_in sections
  pub bodies : m.bodies ≡ bodies_in sections
  pub starts : UsesKeep [] m.items
  pub spelled : AreSpelled m.items 0 m.bodies m.trees
