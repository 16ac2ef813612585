-- Where the groups of locals at the start of a body are wrong (WebAssembly Core 1.0, 5.5.13): after the fields that are encoded,
-- at the first that isn't.
use Rattle.std.specs.Prelude.{◌≡◌, ◌≤◌, ◌<◌, ◌⊎◌, ℕ, ◌+◌, List, ◌++◌, length}
use Rattle.wasm_defs.specs.declared.fault.Kind.TheVariants.{Limit}
use Rattle.wasm_defs.specs.declared.fault.Refusal.{Refusal}
use Rattle.wasm_defs.specs.Bodies.{Group}
use Rattle.wasm_defs.specs.Codes.{group_is, listed_vector_is}
use Rattle.wasm_defs.specs.Context.{declared_types}
use Rattle.wasm_defs.specs.Items.{each_is, listed_type_is, listed_index_is}
use Rattle.wasm_defs.specs.Limits.{max_locals}
use Rattle.wasm_laws.specs.Kept.{LocalsAreFew}
use Rattle.body_laws.specs.WrongFields.{IsWrong}

-- a group's count is encoded, and with it the locals pass their limit; or they keep it, and the type after it is wrong
pub record IsWrongBehind (declared at : ℕ) (bytes : List ℕ) (last : ℕ) (r : Refusal) : Type 0 where
  pub count : ℕ
  pub front : List ℕ
  pub back : List ℕ
  pub parts : bytes ≡ front ++ back
  pub spelled : listed_index_is count at front
  pub wrong : ((max_locals < declared + count) × (r ≡ record { offset = at; kind = Limit }))
      ⊎ ((declared + count ≤ max_locals) × IsWrong listed_type_is (at + length front) back last r)

-- a group, after so many locals
abbrev pub IsWrongGroup : (declared at : ℕ) → List ℕ → (last : ℕ) → Refusal → Type 0
IsWrongGroup declared at bytes last r = IsWrong listed_index_is at bytes last r ⊎ IsWrongBehind declared at bytes last r

-- of so many groups, some are encoded, which keep the limit, and the next one is wrong
pub record AreWrong (n declared at : ℕ) (bytes : List ℕ) (last : ℕ) (r : Refusal) : Type 0 where
  pub groups : List Group
  pub front : List ℕ
  pub back : List ℕ
  pub parts : bytes ≡ front ++ back
  pub spelled : each_is group_is groups at front
  pub fewer : length groups < n
  pub few : declared + length (declared_types groups) ≤ max_locals
  pub wrong : IsWrongGroup (declared + length (declared_types groups)) (at + length front) back last r

-- the groups, after their number
pub record AreWrongBehind (first : ℕ) (bytes : List ℕ) (last : ℕ) (r : Refusal) : Type 0 where
  pub count : ℕ
  pub front : List ℕ
  pub back : List ℕ
  pub parts : bytes ≡ front ++ back
  pub spelled : listed_index_is count first front
  pub wrong : AreWrong count 0 (first + length front) back last r

-- the number of groups is wrong, or a group after it
abbrev pub AreLocalsWrong : (first : ℕ) → List ℕ → (last : ℕ) → Refusal → Type 0
AreLocalsWrong first bytes last r = IsWrong listed_index_is first bytes last r ⊎ AreWrongBehind first bytes last r

-- no prefix of the bytes encodes groups that keep the limit
abbrev pub BeginNoLocals : (first : ℕ) → List ℕ → Type 0
BeginNoLocals first bytes = (groups : List Group) (front back : List ℕ) → bytes ≡ front ++ back → listed_vector_is group_is groups first front → LocalsAreFew groups → ⊥
