use Rattle.std.proofs.Common.{◌≡◌, length, arith}
use Rattle.body_validator.proofs.Frames.{reverse-set_last}
use Rattle.body_validator.proofs.stack.replace_innermost.Goals as goal

pub returns : goal.returns
returns c =
    let items = c.args.frames.now.items in
    let len : c.len-n.result ≡ length items = omega (arith, c.args.frames.now.ok.0) in
    reverse-set_last items c.len-n.result c.args.frame len (omega arith)
