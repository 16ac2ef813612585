-- What is called from outside afterwards: after a module's start function an exported one (WebAssembly Core 1.0, 4.5.4 and 4.5.5).
use Rattle.std.specs.Prelude.{◌≡◌, ◌*◌, ◌≤◌, true, List, [], ◌∷◌, length, Some, slice_get}
use Rattle.wasm_defs.specs.declared.types.ValType.{ValType}
use Rattle.wasm_defs.specs.Limits.{max_params}
use Rattle.wasm_defs.specs.Host.{are_of}
use Rattle.wasm_defs.specs.Configurations.{Function, type_of, Instance, Invocation}
use Rattle.image_format.specs.Environment.{Entry}
use Rattle.simulation.specs.Functions.{TextPlaces}

module _ (inst : Instance) (places : TextPlaces) where
  -- an image's entry calls the function that is invoked, with the same arguments
  pub record IsEntry (i : Invocation) (e : Entry × List ValType) : Type 0 where
    pub function : Function
    pub is : slice_get inst.functions i.function ≡ Some function
    pub offset : e.0.offset ≡ 4 * places.function i.function
    pub arguments : e.0.arguments ≡ i.arguments
    pub are_of_types : are_of (type_of function).params i.arguments ≡ true
    pub few : length (type_of function).params ≤ max_params
    pub results : e.1 ≡ (type_of function).results

  -- entries call the functions that are invoked, in order
  abbrev pub AreEntries : List Invocation → List (Entry × List ValType) → Type 0
  AreEntries [] [] = Unit {0}
  AreEntries (i ∷ is) (e ∷ es) = IsEntry i e × AreEntries is es
  AreEntries is es = ⊥
