-- What follows a body: data segments, and nothing that a body may name (WebAssembly Core 1.0, 5.5.2).
use Rattle.std.specs.Prelude.{◌≡◌, ℕ, suc, List, [], ◌∷◌, ◌++◌}
use Rattle.wasm_defs.specs.declared.item.Item.{Item}
use Rattle.wasm_defs.specs.declared.item.Item.TheVariants.{Passive, Segment}
use Rattle.wasm_defs.specs.Context.{context_of, import_count, declared_count, tables_of, memories_of, data_count_of}
use Rattle.wasm_defs.specs.Outside.{Body, Part}
use Rattle.wasm_defs.specs.Trees.{Seq}
use Rattle.wasm_defs.specs.Faults.{items_of, read_of, context_at, use_of, UsesRight, IsValidCode}

abbrev pub AreSegments : List Item → Type 0
AreSegments [] = Unit {0}
AreSegments (Passive form bytes ∷ xs) = AreSegments xs
AreSegments (Segment form memory place bytes ∷ xs) = AreSegments xs
AreSegments (_ ∷ xs) = ⊥

-- all items of a module say the same of its bodies as the first ones
pub record SayTheSame (all first : List Item) : Type 0 where
  pub context : context_of all ≡ context_of first
  pub imports : import_count all ≡ import_count first
  pub declared : declared_count all ≡ declared_count first
  pub tables : tables_of all ≡ tables_of first
  pub memories : memories_of all ≡ memories_of first
  pub data_count : data_count_of all ≡ data_count_of first

-- what is before a body and after it, in these parts
pub record StandBehind (parts front back : List Part) : Type 0 where
  pub segments : AreSegments (items_of back)
  pub same : SayTheSame (items_of parts) (items_of front)

-- the bodies, of which the first is the k-th, are valid in the context of these items, with these trees
abbrev pub AreValidIn : List Item → ℕ → List Body → List Seq → Type 0
AreValidIn items k [] [] = Unit {0}
AreValidIn items k [] (tree ∷ trees) = ⊥
AreValidIn items k (b ∷ bodies) [] = ⊥
AreValidIn items k (b ∷ bodies) (tree ∷ trees) = IsValidCode (context_at items k b) (read_of b).code tree × AreValidIn items (suc k) bodies trees

-- the type of the start function and of each import is one before it, and serves
abbrev pub UsesKeep : List Item → List Item → Type 0
UsesKeep before [] = Unit {0}
UsesKeep before (x ∷ xs) = UsesRight (context_of before) (use_of x) × UsesKeep (before ++ x ∷ []) xs
