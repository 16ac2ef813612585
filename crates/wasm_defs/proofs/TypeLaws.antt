-- Lists of types are compared type by type.
use Rattle.std.proofs.Common.{◌≡◌, true, [], ◌∷◌, refl, ap}
use Rattle.wasm_defs.specs.declared.types.ValType.TheVariants.{I32, I64}
use Rattle.wasm_defs.specs.Typing.{Types, same_types}

pub same_types-self : (ts : Types) → same_types ts ts ≡ true
same_types-self [] = refl
same_types-self (I32 ∷ ts) = same_types-self ts
same_types-self (I64 ∷ ts) = same_types-self ts

pub same_types-equal : (ts us : Types) → same_types ts us ≡ true → ts ≡ us
same_types-equal [] [] e = refl
same_types-equal (t ∷ ts) [] e = absurd (cc)
same_types-equal [] (u ∷ us) e = absurd (cc)
same_types-equal (I32 ∷ ts) (I32 ∷ us) e = ap (λ (l : Types). I32 ∷ l) (same_types-equal ts us e)
same_types-equal (I64 ∷ ts) (I64 ∷ us) e = ap (λ (l : Types). I64 ∷ l) (same_types-equal ts us e)
same_types-equal (I32 ∷ ts) (I64 ∷ us) e = absurd (cc)
same_types-equal (I64 ∷ ts) (I32 ∷ us) e = absurd (cc)
