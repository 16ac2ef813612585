-- One law for all counts of bits.
use Rattle.std.proofs.Common.{◌≡◌, true, refl, ap, ◌∙◌}
use Rattle.rv_isa.specs.Values.{computed}
use Rattle.rv_isa.specs.Steps.{Registers, reg}
use Rattle.rv_isa.specs.Runs.{all_compute, after_all}
use Rattle.wasm_defs.specs.declared.types.ValType.{ValType}
use Rattle.wasm_defs.specs.declared.types.ValType.TheVariants.{I32, I64}
use Rattle.wasm_defs.specs.declared.operation.UnaryOp.{UnaryOp}
use Rattle.wasm_defs.specs.declared.operation.UnaryOp.TheVariants.{Clz, Ctz, Popcnt}
use Rattle.wasm_defs.specs.Values.{word}
use Rattle.wasm_defs.specs.Integers.{unary}
use Rattle.frame_layout.specs.Macros.{t0}
use Rattle.frame_layout.specs.Bodies.{unary_body}
use Rattle.frame_layout.specs.Laws.{is_scratch}
use Rattle.simulation.specs.IntegerLaws.{UnaryLaw}
use Rattle.simulation.proofs.Integers.Runs.{one_does}
use Rattle.simulation.proofs.Integers.Counts.{unary_value, counted_is}

body_counts : (o : UnaryOp) (t : ValType) (r : Registers) → reg (after_all (unary_body o t) r) t0 ≡ unary_value o t (reg r t0)
unfolding computed
body_counts Clz I32 r = refl
body_counts Clz I64 r = refl
body_counts Ctz I32 r = refl
body_counts Ctz I64 r = refl
body_counts Popcnt I32 r = refl
body_counts Popcnt I64 r = refl

all_computes : (o : UnaryOp) (t : ValType) → all_compute is_scratch (unary_body o t) ≡ true
all_computes Clz I32 = refl
all_computes Clz I64 = refl
all_computes Ctz I32 = refl
all_computes Ctz I64 = refl
all_computes Popcnt I32 = refl
all_computes Popcnt I64 = refl

pub unary_does : UnaryLaw
unary_does w code s i base h t o a has at frame one inside ha a_is =
    one_does w code s i base h (unary_body o t) at frame inside has (word t a) (word t (unary o t a)) a_is (all_computes o t)
    (λ r x. body_counts o t r ∙ ap (unary_value o t) x ∙ counted_is t o a ha)
