-- The codes of a module's functions.
use Rattle.std.specs.Prelude.{◌≡◌, ℕ, suc, List, [], ◌∷◌, map, length}
use Rattle.rv_isa.specs.Words.{word_of}
use Rattle.rv_isa.specs.declared.compiled.Code.{Code}
use Rattle.wasm_defs.specs.declared.item.Item.{Item}
use Rattle.wasm_defs.specs.Outside.{Body}
use Rattle.wasm_defs.specs.Trees.{Seq}
use Rattle.wasm_defs.specs.Faults.{context_at}
use Rattle.wasm_defs.specs.Instances.{origin_of}
use Rattle.frame_layout.specs.Functions.{no_distance, function_code, calls_of, sites_of}
use Rattle.image_linker.specs.ImageOf.{around, size_of}

-- the code of the k-th declared function of a module with these items: its words, whose calls have no distances yet, its calls, and its
-- traps with the offsets of what traps
pub record IsCodeOf (items : List Item) (k : ℕ) (b : Body) (tree : Seq) (code : Code) : Type 0 where
  pub words : code.words ≡ map word_of (function_code (around items k b tree no_distance) (context_at items k b) tree)
  pub relocations : code.relocations ≡ calls_of (around items k b tree no_distance) (context_at items k b) tree
  pub traps : code.traps ≡ sites_of (around items k b tree no_distance) (origin_of items k b) (context_at items k b) tree
  pub size : length code.words ≡ size_of items k b tree

-- of each of these bodies, of which the first is the k-th
abbrev pub AreCodesOf : List Item → ℕ → List Body → List Seq → List Code → Type 0
AreCodesOf items k [] [] [] = Unit {0}
AreCodesOf items k (b ∷ bodies) (tree ∷ trees) (code ∷ codes) = IsCodeOf items k b tree code × AreCodesOf items (suc k) bodies trees codes
AreCodesOf items k bodies trees codes = ⊥
