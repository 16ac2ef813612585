use Rattle.module_gen.proofs.Lists.{adder_put}
use Rattle.module_gen.proofs.drill.put_adder.Goals as goal

pub returns : goal.returns
returns c = rw (c.in_ok-extend_from_slice-2.ensures.items, c.in_ok-put_number.ensures, c.in_ok-extend_from_slice.ensures.items, c.in_ok-put_unsigned.ensures, c.adder_content_size.ensures.value)
    (adder_put c.args.out.now.items c.args.i)
