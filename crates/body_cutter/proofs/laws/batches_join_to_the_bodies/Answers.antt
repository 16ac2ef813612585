use Rattle.body_cutter.proofs.Joined.{handed_join, taken_join}
use Rattle.body_cutter.proofs.laws.batches_join_to_the_bodies.Goals as goal

pub returns : goal.returns
returns c = record { handed = handed_join; taken = taken_join }
