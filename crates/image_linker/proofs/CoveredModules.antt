-- Modules that keep their limits and whose bodies are of covered instructions: so are all that are compiled.
use Rattle.std.proofs.Common.{◌≡◌, ℕ, suc, ◌+◌, ◌^◌, ◌<◌, ◌≤◌, List, [], ◌∷◌, length, Some}
use Rattle.std.specs.Prelude.{slice_get}
use Rattle.std.specs.List.{All}
use Rattle.wasm_defs.specs.declared.item.Item.{Item}
use Rattle.wasm_defs.specs.Limits.{max_entries, max_module, max_params}
use Rattle.wasm_defs.specs.Outside.{Body}
use Rattle.wasm_defs.specs.Trees.{Seq}
use Rattle.wasm_defs.specs.Typing.{IsBody}
use Rattle.wasm_defs.specs.Faults.{context_at, Module}
use Rattle.wasm_defs.specs.Instances.{data_of, segments_of, exports_of, named, function_of, instance_of, start_of}
use Rattle.wasm_defs.specs.SmallTypes.{TypesAreSmall}
use Rattle.wasm_laws.specs.Kept.{SpacesAreSmall, ConstantsFit, TakesNothing, ImportsReturnOne}
use Rattle.frame_layout.specs.Slots.{need}
use Rattle.simulation.specs.Covered.{IsCovered}
use Rattle.wasm_defs.specs.Context.{context_of, types_of, functions_of, import_count, type_of_function}
use Rattle.image_linker.specs.ImageOf.{layout_of, segments_at_first, joined}
use Rattle.image_linker.proofs.Imported.{ImportsFirst}
use Rattle.wasm_laws.specs.Short.{AreShortImports, AreShortBodies}
use Rattle.image_linker.proofs.SegmentFacts.{AreHeld}

-- the k-th body
pub record IsCoveredBody (items : List Item) (k : ℕ) (b : Body) (tree : Seq) : Type 0 where
  pub covered : IsCovered tree
  pub typed : IsBody (context_at items k b) tree
  pub few_params : length (function_of items k b tree).ty.params ≤ max_params
  pub fits : need (layout_of items k b tree) < 2 ^ 30

-- the bodies, of which the first is the k-th
abbrev pub AreCoveredBodies : List Item → (k : ℕ) → List Body → List Seq → Type 0
AreCoveredBodies items k [] [] = Unit {0}
AreCoveredBodies items k (b ∷ bodies) (tree ∷ trees) = IsCoveredBody items k b tree × AreCoveredBodies items (suc k) bodies trees
AreCoveredBodies items k bodies trees = ⊥

-- data segments that bodies may name: as many as are counted
pub record AreCounted (count : ℕ) (segments : List (List ℕ)) : Type 0 where
  pub all : length segments ≡ count
  pub few : count ≤ max_entries
  pub held : length (joined segments) ≤ max_module
  pub bytes : All (λ (b : ℕ). b < 256) (joined segments)

pub record IsCoveredModule (m : Module) : Type 0 where
  pub spaces : SpacesAreSmall m.items
  pub constants : ConstantsFit m.items
  pub segments : AreHeld (data_of m.items) (segments_of m.items) max_module
  pub counted : AreCounted (context_of m.items).segments (segments_at_first m)
  pub bodies : AreCoveredBodies m.items 0 m.bodies m.trees
  -- imported functions come first
  pub imports_first : ImportsFirst m.items
  pub functions : length (functions_of m.items) ≡ import_count m.items + length m.bodies
  pub few_types : length (types_of m.items) ≤ max_entries
  -- functions in rows of the table are there
  pub rows : (a f : ℕ) → slice_get (instance_of m).table a ≡ Some (Some f) → f < length (functions_of m.items)
  -- exported functions are there
  pub exports : (name : List ℕ) (f : ℕ) → named name (exports_of m.items) ≡ Some f → f < length (functions_of m.items)
  -- and so is the start function, which takes and gives nothing
  pub start : (f : ℕ) → start_of m.items ≡ Some f → (f < length (functions_of m.items)) × TakesNothing (type_of_function (context_of m.items) f)
  pub types : TypesAreSmall (context_of m.items).types
  pub returns : ImportsReturnOne (context_of m.items).types m.items
  -- offsets in the module have 32 bits
  pub short_imports : AreShortImports m.items
  pub short_bodies : AreShortBodies m.bodies
  pub few_functions : import_count m.items + length m.bodies < 2 ^ 32
