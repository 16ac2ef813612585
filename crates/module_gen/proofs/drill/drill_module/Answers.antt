use Rattle.std.proofs.Common.{◌≡◌, rules}
use Rattle.module_gen.proofs.Lists.{drill_put, front}
use Rattle.module_gen.proofs.drill.drill_module.Goals as goal

pub returns : goal.returns
returns c =
    let begun : c.extend_from_slice.new.self.items ≡ front = search rules in
    rw (c.in_ok-put_code.ensures, c.in_ok-put_exports.ensures, c.in_ok-put_functions.ensures) (drill_put c.args.n c.extend_from_slice.new.self.items begun)
