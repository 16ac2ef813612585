-- Each body's function has a type; its index counts the imported functions and the bodies before it (WebAssembly Core 1.0,
-- 2.5.1 and 3.4.1).
use Rattle.std.specs.Prelude.{ℕ, suc, ◌+◌, List, [], ◌∷◌, ◌++◌, IsSome}
use Rattle.wasm_defs.specs.declared.item.Item.{Item}
use Rattle.wasm_defs.specs.Context.{context_of, import_count}
use Rattle.wasm_defs.specs.Outside.{Part, Section, Listed, Coded}
use Rattle.wasm_defs.specs.Typing.{function_type}

-- each body's function is there, with its type, among the items before it, where these items and so many bodies are before
-- the parts
abbrev pub AreTyped : List Item → ℕ → List Part → Type 0
AreTyped items bodies [] = Unit {0}
AreTyped items bodies (Section at id ∷ parts) = AreTyped items bodies parts
AreTyped items bodies (Listed x ∷ parts) = AreTyped (items ++ x ∷ []) bodies parts
AreTyped items bodies (Coded b ∷ parts) = IsSome (function_type (context_of items) (import_count items + bodies)) × AreTyped items (suc bodies) parts
