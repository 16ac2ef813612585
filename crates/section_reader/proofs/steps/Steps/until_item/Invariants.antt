use Rattle.section_reader.proofs.Reaching.{StillGoing}
use Rattle.section_reader.specs.Near.{IsNear}
use Rattle.section_reader.specs.Stages.{work_left}
use Rattle.section_reader.proofs.steps.Steps.until_item.Given as goal

abbrev pub invariant-steps : goal.invariant-steps
invariant-steps l = record {
  going : StillGoing l.fn.self l.fn.fields l.self l.fields;
  near : IsNear l.most l.self.stage l.self.seen l.fields;
}

abbrev pub decreases-steps : goal.decreases-steps
decreases-steps l = work_left l.self.stage l.fields
