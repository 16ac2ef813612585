-- How many instruction words the functions of a drill have in the text of its image.
use Rattle.std.specs.Prelude.{ℕ, suc, ◌+◌, ◌*◌, ◌≤◌, List, ◌∷◌, length}
use Rattle.wasm_defs.specs.declared.item.Item.{Item}
use Rattle.wasm_defs.specs.Faults.{Module, context_at}
use Rattle.wasm_defs.specs.Outside.{Body}
use Rattle.wasm_defs.specs.Trees.{Seq}
use Rattle.frame_layout.specs.Functions.{function_code}
use Rattle.frame_layout.specs.Templates.{EmitContext}

-- the words of functions, of which the first is the k-th that is declared, by what else they depend on
abbrev pub words_of : (ℕ → Body → Seq → EmitContext) → List Item → (k : ℕ) → List Body → List Seq → ℕ
words_of around items k (b ∷ bodies) (tree ∷ trees) = length (function_code (around k b tree) (context_at items k b) tree) + words_of around items (suc k) bodies trees
words_of around items k bodies trees = 0

-- Each function that adds has 62 at most, and the one that calls them 46, and 14 for each call.
abbrev pub HasFewWords : ℕ → Module → Type 0
HasFewWords n m = (around : ℕ → Body → Seq → EmitContext) → words_of around m.items 0 m.bodies m.trees ≤ 76 * n + 46
