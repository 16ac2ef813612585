use Rattle.std.proofs.Common.{◌∙◌, Err, subst}
use Rattle.std.proofs.lemmas.Result.{IfOk-weaker}
use Rattle.wasm_defs.specs.declared.front_stop.FrontStop.{FrontStop}
use Rattle.many_streams.specs.Members.{ResumesOn}
use Rattle.many_streams.proofs.Feeding.{may_resume, none_kept, resumed, resume_refused}
use Rattle.many_streams.proofs.member.Part.settle.Goals as goal

pub resume-requires-clause-may : goal.resume-requires-clause-may
resume-requires-clause-may c = let r = c.requires.fed in may_resume r.0 c.args.self.now r.1

pub end-requires-clause-none : goal.end-requires-clause-none
end-requires-clause-none c = let r = c.requires.fed in none_kept r.0 c.args.self.now r.1 c.resume.new.self c.in-Ok.ensures.goes

pub end-requires-clause-fed : goal.end-requires-clause-fed
end-requires-clause-fed c = let r = c.requires.fed in (r.0, resumed r.0 c.args.self.now r.1 c.resume.new.self c.resume.ensures.fed c.in-Ok.ensures.goes)

pub returns-in-Ok : goal.returns-in-Ok
returns-in-Ok c =
    IfOk-weaker c.end.result _ _
    (λ m judges keeps came i same. judges keeps came (resumed came c.args.self.now i c.resume.new.self c.resume.ensures.fed c.in-Ok.ensures.goes) (c.resume.ensures.kept ∙ same)) c.end.ensures

pub returns-in-Err-Refused : goal.returns-in-Err-Refused
returns-in-Err-Refused c = λ keeps came i same.
    resume_refused came c.args.self.now i c.in-Err-Refused.refusal c.resume.new.self
    (λ bytes more g. subst (λ (e : FrontStop). ResumesOn bytes (Err e) c.resume.new.self more) c.in-Err-Refused.field-0-is (c.in-Err-Refused.ensures.goes bytes more g))
