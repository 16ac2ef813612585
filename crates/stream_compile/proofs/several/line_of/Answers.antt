use Rattle.stream_compile.proofs.ManyLines.{so_said, valid_line, refused_line}
use Rattle.stream_compile.proofs.several.line_of.Goals as goal

pub returns-in-Valid : goal.returns-in-Valid
returns-in-Valid c = so_said c.format.result _ _ c.format.ensures.ok (valid_line c.args.index c.in-Valid.checked c.args.each.now c.in-Valid.is)

pub returns-in-Refused : goal.returns-in-Refused
returns-in-Refused c = so_said c.format-in-Refused.result _ _ c.format-in-Refused.ensures.ok (refused_line c.args.index c.in-Refused.refusal c.args.each.now c.kind_name-kind.result.now c.in-Refused.is c.kind_name-kind.ensures)
