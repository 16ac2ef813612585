-- What an item keeps so that the types of a module keep the limits of this implementation.
use Rattle.wasm_defs.specs.declared.item.Item.{Item}
use Rattle.wasm_defs.specs.declared.item.Item.TheVariants.{Signature}
use Rattle.wasm_defs.specs.SmallTypes.{TypeIsSmall}

-- a type that it lists has at most 1,000 parameters and at most 1,000 results
abbrev pub HasSmallType : Item → Type 0
HasSmallType (Signature form params results ty) = TypeIsSmall ty
HasSmallType _ = Unit {0}
