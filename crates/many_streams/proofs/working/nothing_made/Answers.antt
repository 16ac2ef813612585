use Rattle.std.proofs.Common.{rules, ◌≡◌, [], ◌∷◌, length, length-append, ap, arith}
use Rattle.body_compiler.proofs.Rests.{all_pushed}
use Rattle.many_streams.proofs.Workers.{made_none}
use Rattle.many_streams.proofs.working.nothing_made.Goals as goal

pub loop-preserved : goal.loop-preserved
loop-preserved c = (
  let e = ap length c.in_ok-push.ensures.items in let i = c.loop.invariant.0 in omega (arith, length-append c.loop.made.items (c.in_ok-one.one ∷ [])),
  all_pushed (λ x. x.rows.items ≡ []) c.in_ok-one.one c.loop.made.items c.push.new.self.items c.in_ok-push.ensures.items c.loop.invariant.1 c.in_ok-one.ensures,
)

pub returns : goal.returns
returns c = made_none c.args.members.now c.loop.made.items (search rules) c.loop.invariant.1
