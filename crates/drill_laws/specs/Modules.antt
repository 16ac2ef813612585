-- A drill as a module (WebAssembly Core 1.0, 2.5).
use Rattle.std.specs.Prelude.{◌≡◌, ℕ, ◌+◌, ◌*◌, ◌≤◌, true, List, [], ◌∷◌, None, Some, codes}
use Rattle.wasm_defs.specs.Context.{context_of, declared_count, import_count}
use Rattle.wasm_defs.specs.Faults.{IsModule, Module}
use Rattle.wasm_defs.specs.Instances.{exports_of, instance_of, is_linkable, start_of, store_of}
use Rattle.wasm_defs.specs.declared.types.ValType.TheVariants.{I32}
use Rattle.wasm_defs.specs.Effects.{value}
use Rattle.wasm_defs.specs.Host.{Reply}
use Rattle.wasm_defs.specs.ModuleRun.{Returns, module_run}
use Rattle.wasm_defs.specs.Values.{words_of}
use Rattle.wasm_defs.specs.Typing.{function_type}
use Rattle.module_gen.specs.Drill.{drill_bytes}
use Rattle.drill_laws.specs.Functions.{HasDrill, runner_type, sum_below}
use Rattle.drill_laws.specs.Words.{HasFewWords}

-- The module declares n functions that add, and the one that calls them. It imports nothing, has no start function, and can be
-- instantiated; the last function is its only export, by the name `run`; and its text is short.
pub record IsDrill (n : ℕ) (m : Module) : Type 0 where
  pub declared : declared_count m.items ≡ n + 1
  pub imported : import_count m.items ≡ 0
  pub functions : HasDrill n (instance_of m)
  pub exports : exports_of m.items ≡ (codes "run", n) ∷ []
  pub exported : function_type (context_of m.items) n ≡ Some runner_type
  pub start : start_of m.items ≡ None
  pub linkable : is_linkable m ≡ true
  pub words : HasFewWords n m

-- The bytes are such a module: they are read whole, and it is valid.
abbrev pub DrillsAreModules : Type 0
DrillsAreModules = (n : ℕ) → n ≤ 50000 → (m : Module) × IsModule (drill_bytes n) m × IsDrill n m

-- Its run returns the sum of 0 to n - 1, for each weight from 5 n + 3 on (4.5.5).
abbrev pub DrillsRun : Type 0
DrillsRun = (n : ℕ) (m : Module) (replies : List Reply) → n ≤ 50000 → IsDrill n m → (more : ℕ)
    → let store = store_of m replies in
    (module_run m n [] replies (5 * n + 3 + more)).end ≡ Returns (value I32 (sum_below n) ∷ []) store.memory (words_of store.globals)
