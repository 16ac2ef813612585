use Rattle.std.proofs.Common.{◌<◌, ◌^◌, ℕ, List, length, ap, arith}
use Rattle.image_format.specs.declared.version.Version.{Version}
use Rattle.image_format.specs.declared.version.Version.TheVariants.{One, Two, Three}
use Rattle.image_format.specs.Bounds.{IsPassive}
use Rattle.image_format.proofs.parts.put_before_passive.Goals as goal

few_bytes : (v : Version) (bytes : List ℕ) → IsPassive v bytes → length bytes < 2 ^ 32
few_bytes One bytes fits = let none = ap (λ (l : List ℕ). length l) fits in omega arith
few_bytes Two bytes fits = let none = ap (λ (l : List ℕ). length l) fits in omega arith
few_bytes Three bytes fits = omega arith

pub put_passive_count-requires : goal.put_passive_count-requires
put_passive_count-requires c =
    omega (arith, ap (λ (l : List ℕ). length l) c.as_slice.ensures, few_bytes c.image.inside.version c.image.inside.passive c.image.invariant.passive)
