-- The locals of a function that was called: its arguments, and zeros.
use Rattle.std.proofs.Common.{◌≡◌, ℕ, zero, suc, ◌<◌, true, List, [], ◌∷◌, length, map, Some, refl, sym, ap, subst, arith}
use Rattle.std.specs.Prelude.{slice_get}
use Rattle.std.proofs.lemmas.Bool.{and_parts, ltb-true}
use Rattle.wasm_defs.specs.declared.types.ValType.{ValType}
use Rattle.wasm_defs.specs.Typing.{Types, same_types}
use Rattle.wasm_defs.specs.Values.{Value, InRange, modulus, zero_of, types_of_values}
use Rattle.wasm_defs.specs.Host.{in_range, all_in_range, are_of}
use Rattle.wasm_defs.proofs.TypeLaws.{same_types-equal}

-- ---- arguments of given types

all_are_in_range : (vs : List Value) → all_in_range vs ≡ true → (k : ℕ) (v : Value) → slice_get vs k ≡ Some v → InRange v
all_are_in_range [] e k v is = absurd cc
all_are_in_range (u ∷ vs) e zero v is =
    let parts = and_parts (in_range u) (all_in_range vs) e in
    let same : u ≡ v = cc in
    subst InRange same (ltb-true u.number (modulus u.ty) parts.0)
all_are_in_range (u ∷ vs) e (suc k) v is = all_are_in_range vs (and_parts (in_range u) (all_in_range vs) e).1 k v is

pub record AreOf (types : Types) (values : List Value) : Type 0 where
  pub types_are : types_of_values values ≡ types
  pub ranges : (k : ℕ) (v : Value) → slice_get values k ≡ Some v → InRange v

pub are_of_types : (types : Types) (values : List Value) → are_of types values ≡ true → AreOf types values
are_of_types types values e =
    let parts = and_parts (same_types types (types_of_values values)) (all_in_range values) e in
    record { types_are = sym (same_types-equal types (types_of_values values) parts.0); ranges = all_are_in_range values parts.1 }

-- ---- zeros

pub types_of_zeros : (ts : Types) → types_of_values (map zero_of ts) ≡ ts
types_of_zeros [] = refl
types_of_zeros (t ∷ ts) = ap (λ (us : Types). t ∷ us) (types_of_zeros ts)

pub among_zeros : (ts : Types) (k : ℕ) (v : Value) → slice_get (map zero_of ts) k ≡ Some v → (k < length ts) × (t : ValType) × (v ≡ zero_of t)
among_zeros [] k v e = absurd cc
among_zeros (t ∷ ts) zero v e = let same : zero_of t ≡ v = cc in (omega arith, t, sym same)
among_zeros (t ∷ ts) (suc k) v e = let rest = among_zeros ts k v e in (omega (arith, rest.0), rest.1, rest.2)
