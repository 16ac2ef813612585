use Rattle.std.proofs.Common.{◌+◌, ◌<◌, length, Err, sym, subst}
use Rattle.wasm_defs.specs.declared.fault.Refusal.{Refusal}
use Rattle.body_cutter.specs.Bodies.{body_of}
use Rattle.body_compiler.specs.declared.code.BodyStop.TheVariants.{Refused}
use Rattle.body_compiler.specs.BatchRows.{CompilesBody}
use Rattle.body_compiler.proofs.Coding.{fault_inside, refused_of}
use Rattle.body_compiler.proofs.batch.bodies.count_body.Goals as goal

pub returns-in-Err-Refused : goal.returns-in-Err-Refused
returns-in-Err-Refused c =
    let spaces = c.args.context.now in
    let body = body_of c.args.body in
    let fault = refused_of spaces body c.in-Err-Refused.field-0 c.in-Err-Refused.refusal c.in-Err-Refused.field-0-is c.in-Err-Refused.ensures in
    subst (λ (r : Refusal). CompilesBody spaces body (Err (Refused r)) × (r.offset < body.first + length body.bytes)) (sym c.in-Err-Refused.refusal-is)
    (fault, fault_inside spaces body c.in-Err-Refused.refusal c.requires.low fault)
