-- Bodies belong to declared functions, in the same order (WebAssembly Core 1.0, 5.5.13).
use Rattle.std.specs.Prelude.{◌≡◌, ◌<◌, ℕ, suc, ◌+◌, List, [], ◌∷◌}
use Rattle.wasm_defs.specs.Outside.{Part, Section, Listed, Coded}
use Rattle.wasm_defs.specs.Context.{declared_count}
use Rattle.wasm_defs.specs.Faults.{items_of}

-- a body that so many declared functions and so many bodies are before: its function is one of them, and none is declared
-- after it
pub record IsDeclared (declared bodies : ℕ) (behind : List Part) : Type 0 where
  pub before : bodies < declared
  pub none : declared_count (items_of behind) ≡ 0

-- so of each body, where so many are before the parts
abbrev pub AreDeclared : ℕ → ℕ → List Part → Type 0
AreDeclared declared bodies [] = Unit {0}
AreDeclared declared bodies (Section at id ∷ parts) = AreDeclared declared bodies parts
AreDeclared declared bodies (Listed x ∷ parts) = AreDeclared (declared + declared_count (x ∷ [])) bodies parts
AreDeclared declared bodies (Coded b ∷ parts) = IsDeclared declared bodies parts × AreDeclared declared (suc bodies) parts
