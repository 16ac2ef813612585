use Rattle.std.proofs.Common.{◌<◌, ◌≤◌, length, reverse, ◌∙◌, sym, arith}
use Rattle.std.proofs.lemmas.Bool.{lt-leb}
use Rattle.std.proofs.lemmas.List.{length-reverse}
use Rattle.body_validator.proofs.Flat.{all_fit, too_many}
use Rattle.body_validator.proofs.operands.are_just.Goals as goal

pub returns-then-own-types : goal.returns-then-own-types
returns-then-own-types c =
    let types = reverse c.args.types.now in
    let own = reverse c.args.own.now in
    let few : length own ≤ length types = omega (arith, length-reverse c.args.own.now, length-reverse c.args.types.now) in
    c.fits.ensures ∙ all_fit c.args.unknown types own few

pub returns-else-own-types : goal.returns-else-own-types
returns-else-own-types c =
    let types = reverse c.args.types.now in
    let own = reverse c.args.own.now in
    let many : length types < length own = omega (arith, length-reverse c.args.own.now, length-reverse c.args.types.now) in
    lt-leb (length c.args.own.now) (length c.args.types.now) c.if-own-types.false ∙ sym (too_many c.args.unknown types own many)
