use Rattle.std.proofs.Common.{[], Err, refl, sym, subst}
use Rattle.wasm_defs.specs.declared.front_stop.FrontStop.{FrontStop}
use Rattle.wasm_defs.specs.Outside.{Owed, ends}
use Rattle.module_stream.specs.CutBodies.{counts_data}
use Rattle.module_stream.specs.Done.{Decides}
use Rattle.module_stream.specs.Streaming.{with_cutter}
use Rattle.module_stream.proofs.Streaming.{cutting_of, ended_judging, refused_at, fault_decides}
use Rattle.module_stream.proofs.compilation.Compilation.end_bodies.Goals as goal

pub judge-requires : goal.judge-requires
judge-requires c =
    let s = c.args.self.now in
    let old = c.args.cutter in
    let bytes = c.requires.goes.0 in
    let k = cutting_of bytes (with_cutter s old) [] old refl c.requires.goes.2 in
    (bytes, ends Owed, k.few, counts_data s.front.steps.seen, (ended_judging bytes s.front old c.end.new.self s.spaces s.codes c.in-Err.stop k c.requires.waits c.in-Err.ensures).0)

pub returns-in-Ok-judge-clause-decides : goal.returns-in-Ok-judge-clause-decides
returns-in-Ok-judge-clause-decides c = λ bytes g.
    let s = c.args.self.now in
    let t = c.judge.new.self in
    let old = c.args.cutter in
    let k = cutting_of bytes (with_cutter s old) [] old refl g in
    let e = ended_judging bytes s.front old c.end.new.self s.spaces s.codes c.in-Err.stop k c.requires.waits c.in-Err.ensures in
    subst (λ (x : FrontStop). Decides bytes (Err x) t) (sym e.1) (refused_at bytes t.spaces t.codes Owed _ refl (c.in-Ok-judge.ensures.takes bytes (ends Owed) (counts_data s.front.steps.seen) k.few e.0))

pub returns-clause-decides : goal.returns-clause-decides
returns-clause-decides c = λ bytes g.
    let s = c.args.self.now in
    let old = c.args.cutter in
    let k = cutting_of bytes (with_cutter s old) [] old refl g in
    let e = ended_judging bytes s.front old c.end.new.self s.spaces s.codes c.in-Err.stop k c.requires.waits c.in-Err.ensures in
    fault_decides bytes c.in-Err-judge.earlier (ends Owed) c.judge.new.self.spaces c.judge.new.self.codes c.judge.new.self (c.in-Err-judge.ensures.takes bytes (ends Owed) (counts_data s.front.steps.seen) k.few e.0)
