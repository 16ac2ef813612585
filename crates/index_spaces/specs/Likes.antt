-- The least index of an equal type (`like`), and how it is kept.
use Rattle.std.specs.Prelude.{◌≡◌, ◌≢◌, ℕ, suc, ◌<◌, ◌≤◌, List, [], ◌∷◌, ◌++◌, map, length, Option, None, Some, option_map, slice_get, Vec, if◌then◌else◌}
use Rattle.std.specs.Ordering.{nat_cmp}
use Rattle.std.specs.Cmp.Lexicographic.{slice_cmp}
use Rattle.std.specs.Str.{bytes_eq}
use Rattle.std.specs.BTreeMap.{BTreeMap, get_by}
use Rattle.std.specs.declared.alloc.Global.{Global}
use Rattle.wasm_defs.specs.declared.types.FuncType.{FuncType}
use Rattle.wasm_defs.specs.Typing.{same_function_types}
use Rattle.wasm_defs.specs.Context.{first_like, like}
use Rattle.wasm_defs.specs.Items.{type_code}

-- it is the index of an equal type, and no type before it is equal
abbrev pub LikeIsLeast : Type 0
LikeIsLeast = (types : List FuncType) (i : ℕ) → i < length types → (like types i ≤ i)
    × (slice_get types (like types i) ≡ slice_get types i)
    × ((k : ℕ) → k < like types i → slice_get types k ≢ slice_get types i)

-- ---- how it is kept

-- the key of a type: the codes of its parameters and of its results, and a zero between them
abbrev pub key_of : FuncType → List ℕ
key_of ty = map type_code ty.params ++ (0 ∷ map type_code ty.results)

abbrev pub first_index : List FuncType → FuncType → Option ℕ
first_index [] ty = None
first_index (t ∷ ts) ty =
    if same_function_types t ty then Some 0 else option_map suc (first_index ts ty)

-- keys, and an index of each
abbrev pub Firsts : Type 0
Firsts = BTreeMap (Vec ℕ Global) ℕ

abbrev pub index_of : Firsts → Vec ℕ Global → Option ℕ
index_of firsts key = get_by (λ k. slice_cmp nat_cmp key.items k.items) firsts

-- a key has an index, and all others have what they had
abbrev pub HasFirst : Firsts → Firsts → Vec ℕ Global → ℕ → Type 0
HasFirst old new key first = (q : Vec ℕ Global) → index_of new q ≡ (if bytes_eq key.items q.items then Some first else index_of old q)

-- the least equal index of each type, and of each key that of its types
pub record AreFirst (types : List FuncType) (likes : List ℕ) (firsts : Firsts) : Type 0 where
  pub listed : likes ≡ map (first_like types) types
  pub found : (ty : FuncType) (key : Vec ℕ Global) → key.items ≡ key_of ty → index_of firsts key ≡ first_index types ty
