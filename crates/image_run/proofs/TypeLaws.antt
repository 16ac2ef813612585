-- Lists of types that differ in length are not the same.
use Rattle.std.proofs.Common.{◌≡◌, suc, Bool, false, ◌&&◌, List, [], ◌∷◌, length, refl, ap, ◌∙◌, arith}
use Rattle.std.specs.Prelude.{◌≢◌}
use Rattle.wasm_defs.specs.declared.types.ValType.{ValType}
use Rattle.wasm_defs.specs.Typing.{same_type, same_types}

and-false : (b : Bool) → (b && false) ≡ false
and-false b = grind arith

pub same_types-lengths : (ts us : List ValType) → length ts ≢ length us → same_types ts us ≡ false
same_types-lengths [] [] ne = absurd (ne refl)
same_types-lengths (t ∷ ts) [] ne = refl
same_types-lengths [] (u ∷ us) ne = refl
same_types-lengths (t ∷ ts) (u ∷ us) ne =
    ap (λ (b : Bool). same_type t u && b) (same_types-lengths ts us (λ e. ne (ap suc e))) ∙ and-false (same_type t u)
