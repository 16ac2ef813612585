use Rattle.std.proofs.Common.{subst}
use Rattle.std.proofs.Math.Facts.{to_z-of_z}
use Rattle.embedding.specs.Modules.{IsCompiled}
use Rattle.embedding.proofs.Modules.{called_module, with_ok}
use Rattle.embedding.proofs.calling.call_module.Goals as goal

pub returns-in-Image : goal.returns-in-Image
returns-in-Image g c =
    let made = subst (IsCompiled c.args.bytes.now) c.in-Image.is c.in_ok-refusal.ensures in
    let called = rw (to_z-of_z c.ranges.argument) at c.call_image.ensures in
    with_ok c.call_image.result _ _ (λ x h. called_module c.args.bytes.now c.args.export.now c.args.argument c.args.numbers.now c.args.steps _ x c.ranges.argument made h) called
