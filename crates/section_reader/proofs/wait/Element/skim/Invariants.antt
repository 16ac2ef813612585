use Rattle.std.proofs.Common.{◌-◌}
use Rattle.section_reader.specs.Waits.{element_of, Skims}
use Rattle.section_reader.proofs.wait.Element.skim.Given as goal

-- those that were passed over are whole
abbrev pub invariant-loop-passed : goal.invariant-loop-passed
invariant-loop-passed l = Skims (element_of l.self) l.owed l.fn.fields (l.owed - l.passed) l.fields
