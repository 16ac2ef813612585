use Rattle.std.proofs.Common.{List, subst}
use Rattle.many_streams.specs.declared.member.Member.{Member}
use Rattle.many_streams.specs.Workers.{AreMade}
use Rattle.many_streams.proofs.judging.judge_ended.Goals as goal

pub settle_members-requires-clause-made : goal.settle_members-requires-clause-made
settle_members-requires-clause-made c = subst (λ (l : List Member). AreMade l c.in_ok-made.made.items) c.as_slice.ensures.value c.in_ok-made.ensures

pub returns : goal.returns
returns c = c.settle_members.ensures
