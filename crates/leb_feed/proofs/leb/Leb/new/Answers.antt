use Rattle.leb_feed.proofs.Feeds.{unfed}
use Rattle.leb_feed.proofs.leb.Leb.new.Goals as goal

pub returns-clause-unfinished : goal.returns-clause-unfinished
returns-clause-unfinished c = unfed c.args.signed c.args.bits
