use Rattle.section_reader.proofs.Skimming.{list_follows, rest_from}
use Rattle.section_reader.proofs.wait.list_after.Goals as goal

pub returns-clause-follows : goal.returns-clause-follows
returns-clause-follows c = λ kept joined fits.
    rw c.rest.ensures (list_follows c.args.place c.args.owed c.in_ok-owed.owed c.args.element c.args.at c.args.end kept c.args.bytes.now c.args.all.now c.skim.new.fields joined fits (rw (c.new-fields.ensures, rest_from c.args.place c.args.all.now) at c.in_ok-owed.ensures))
