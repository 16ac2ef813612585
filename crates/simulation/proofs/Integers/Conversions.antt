-- Conversions between i32 and i64.
use Rattle.std.proofs.Common.{◌≡◌, ℕ, ◌+◌, ◌%◌, ◌^◌, ◌<◌, refl, ap, ◌∙◌, arith}
use Rattle.std.specs.Int.{w32, w64, cast_signed, cast_unsigned}
use Rattle.std.proofs.Math.Facts.{sfits_to_z}
use Rattle.std.proofs.lemmas.Int.{of_z-to_z}
use Rattle.rv_isa.specs.declared.operations.RegOp.TheVariants.{Sll, Srl}
use Rattle.rv_isa.specs.declared.operations.RegOpW.TheVariants.{Addw}
use Rattle.rv_isa.specs.Values.{extended, computed, computed_w, computed_word}
use Rattle.wasm_defs.specs.declared.types.ValType.TheVariants.{I32}
use Rattle.wasm_defs.specs.declared.operation.ConvertOp.TheVariants.{Wrap, ExtendU}
use Rattle.wasm_defs.specs.Values.{word}
use Rattle.frame_layout.specs.Bodies.{convert_body}
use Rattle.frame_layout.proofs.WordLaws.{low_word}
use Rattle.simulation.specs.IntegerLaws.{Converts, ConvertLaw}
use Rattle.simulation.proofs.Integers.Extensions.{word_of_signed}
use Rattle.simulation.proofs.Integers.Runs.{one_does}

-- the lower half, by two shifts
pub cleared : (x : ℕ) → computed Srl (computed Sll x 32) 32 ≡ x % 2 ^ 32
unfolding computed
cleared x = omega arith

pub wrapped : (a : ℕ) → computed_w Addw a 0 ≡ word I32 (a % 2 ^ 32)
unfolding computed_word
wrapped a =
    let same : (a % 2 ^ 32 + 0) % 2 ^ 32 ≡ a % 2 ^ 32 = omega arith in
    ap (extended 32) same

wrap_does : Converts Wrap
wrap_does w code s i base h a has at frame one inside ha a_is =
    one_does w code s i base h (convert_body Wrap) at frame inside has a (word I32 (a % 2 ^ 32)) a_is refl (λ r x. ap (λ (y : ℕ). computed_w Addw y 0) x ∙ wrapped a)

extend_u_does : Converts ExtendU
extend_u_does w code s i base h a has at frame one inside ha a_is =
    one_does w code s i base h (convert_body ExtendU) at frame inside has (word I32 a) a a_is refl
    (λ r x. ap (λ (y : ℕ). computed Srl (computed Sll y 32) 32) x ∙ cleared (word I32 a) ∙ low_word a ha)

-- the number of 64 bits whose signed value is the i32's
pub extended_is : (a : ℕ) → a < 2 ^ 32 → cast_unsigned w64 (cast_signed w32 a) ≡ word I32 a
extended_is a h = word_of_signed (cast_signed w32 a) (sfits_to_z {w = w32} {n = a} (record { fits = h })) ∙ ap (word I32) (of_z-to_z w32 a h)

pub convert_does : ConvertLaw
convert_does = (wrap_does, extend_u_does, extended_is)
