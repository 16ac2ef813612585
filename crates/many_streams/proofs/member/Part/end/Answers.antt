use Rattle.std.proofs.Common.{Err, subst}
use Rattle.wasm_defs.specs.declared.front_stop.FrontStop.{FrontStop}
use Rattle.module_stream.specs.Done.{Decides}
use Rattle.many_streams.proofs.member.Part.end.Goals as goal

pub answer-requires : goal.answer-requires
answer-requires c = let r = c.requires.fed in (r.0, c.in-Ok.ensures.decides r.0 r.1)

pub returns-in-Err-Refused : goal.returns-in-Err-Refused
returns-in-Err-Refused c = λ keeps came i same. subst (λ (e : FrontStop). Decides came (Err e) c.finish.new.self.compilation) c.in-Err-Refused.field-0-is (c.in-Err-Refused.ensures.decides came i)
