use Rattle.leb_feed.proofs.Casts.{signed_bounds, signed_fits, signed_is}
use Rattle.leb_feed.proofs.fields.Fields.signed.Goals as goal

pub overflow_cast-result : goal.overflow_cast-result
overflow_cast-result c =
    let spelled = c.in_ok-at.ensures.spelled in
    signed_fits c.in_ok-at.n c.args.bits c.requires.few_bits (signed_bounds c.in_ok-at.n c.args.bits spelled.0 spelled.1)

pub returns : goal.returns
returns c =
    let spelled = c.in_ok-at.ensures.spelled in
    let bounds = signed_bounds c.in_ok-at.n c.args.bits spelled.0 spelled.1 in
    let e = signed_is c.in_ok-at.n c.args.bits c.requires.few_bits bounds in
    rw e (record { read = c.in_ok-at.ensures.read; free = tt; stays = tt; range = (bounds.least, bounds.most) })
