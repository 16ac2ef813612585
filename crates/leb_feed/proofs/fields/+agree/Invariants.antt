use Rattle.std.proofs.Common.{length}
use Rattle.leb_feed.proofs.fields.+agree.Given as goal

abbrev pub decreases-agree : goal.decreases-agree
decreases-agree l = length l.bytes.now
