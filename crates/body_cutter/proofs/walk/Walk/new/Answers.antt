use Rattle.std.proofs.Common.{refl, ap}
use Rattle.leb_feed.specs.Feeding.{Feeding}
use Rattle.body_cutter.proofs.Fills.{begun}
use Rattle.body_cutter.proofs.walk.Walk.new.Goals as goal

pub returns-clause-given : goal.returns-clause-given
returns-clause-given c = λ more. begun _ _ more (c.settle.ensures.same more) c.settle.ensures.only (ap (λ (f : Feeding). f.bytes) c.next_size.ensures.begun) refl refl
