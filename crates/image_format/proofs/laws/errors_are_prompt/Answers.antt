use Rattle.image_format.proofs.LateFields.{late_begins_none}
use Rattle.image_format.proofs.Prompt.{errors_are_prompt}
use Rattle.image_format.proofs.laws.errors_are_prompt.Goals as goal

pub returns-clause-prompt : goal.returns-clause-prompt
returns-clause-prompt c = errors_are_prompt

pub returns-clause-late : goal.returns-clause-late
returns-clause-late c = late_begins_none
