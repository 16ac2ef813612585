use Rattle.std.proofs.Common.{refl}
use Rattle.batch_pool.specs.Lanes.{Works, Runs}
use Rattle.batch_pool.proofs.Seats.{each_same, works_same}
use Rattle.batch_pool.proofs.lanes.crew.crew_at.Goals as goal

pub returns-then-is_refused : goal.returns-then-is_refused
returns-then-is_refused g c = record {
  seated = c.requires.seats;
  works = each_same c.args.lanes.now Works c.args.seats.items (λ k l s at. works_same l s);
  running = λ fed. each_same c.args.lanes.now Runs c.args.seats.items (λ k l s at. refl);
}
