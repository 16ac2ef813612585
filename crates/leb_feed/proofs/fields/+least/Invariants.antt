use Rattle.std.proofs.Common.{length}
use Rattle.leb_feed.proofs.fields.+least.Given as goal

abbrev pub decreases-least : goal.decreases-least
decreases-least l = length l.bytes.now
