use Rattle.std.proofs.Common.{◌∙◌, refl, arith}
use Rattle.source_reading.proofs.Fronts.{took_nothing, took_more}
use Rattle.source_reading.proofs.beside.read_beside.Goals as goal

pub loop-rest-init : goal.loop-rest-init
loop-rest-init g c = record { arrives = λ first before a. a; few = c.requires.arrives.2.few; front = took_nothing _ _; kept = refl }

pub read_round-requires-clause-arrives : goal.read_round-requires-clause-arrives
read_round-requires-clause-arrives g c κs within = let r = c.requires.arrives in (r.0, r.1, c.loop-rest.invariant.arrives r.0 r.1 r.2)

pub returns-in-Err-clause-resumes : goal.returns-in-Err-clause-resumes
returns-in-Err-clause-resumes g c = λ first before a. c.in-Err.ensures.resumes first before (c.loop-rest.invariant.arrives first before a)

pub returns-in-Err-clause-kept : goal.returns-in-Err-clause-kept
returns-in-Err-clause-kept g c = c.in-Err.ensures.kept ∙ c.loop-rest.invariant.kept

pub returns-in-Err-clause-front : goal.returns-in-Err-clause-front
returns-in-Err-clause-front g c =
    let l = c.loop-rest in
    took_more (g.S.Source.left c.args.source.now) (g.S.Source.left l.source) (g.S.Source.left c.read_round.new.source) (g.S.Source.faults c.args.source.now) (g.S.Source.faults l.source) (g.S.Source.faults c.read_round.new.source) l.invariant.front c.in-Err.ensures.front

pub returns-then-is_empty-clause-resumes : goal.returns-then-is_empty-clause-resumes
returns-then-is_empty-clause-resumes g c = λ first before a. c.in-Ok.ensures.resumes first before (c.loop-rest.invariant.arrives first before a)

pub returns-then-is_empty-clause-kept : goal.returns-then-is_empty-clause-kept
returns-then-is_empty-clause-kept g c = c.in-Ok.ensures.kept ∙ c.loop-rest.invariant.kept

pub returns-then-is_empty-clause-front : goal.returns-then-is_empty-clause-front
returns-then-is_empty-clause-front g c =
    let l = c.loop-rest in
    took_more (g.S.Source.left c.args.source.now) (g.S.Source.left l.source) (g.S.Source.left c.read_round.new.source) (g.S.Source.faults c.args.source.now) (g.S.Source.faults l.source) (g.S.Source.faults c.read_round.new.source) l.invariant.front c.in-Ok.ensures.front

pub returns-then-read-before-clause-resumes : goal.returns-then-read-before-clause-resumes
returns-then-read-before-clause-resumes g c = λ first before a. c.in-Ok.ensures.resumes first before (c.loop-rest.invariant.arrives first before a)

pub returns-then-read-before-clause-kept : goal.returns-then-read-before-clause-kept
returns-then-read-before-clause-kept g c = c.in-Ok.ensures.kept ∙ c.loop-rest.invariant.kept

pub returns-then-read-before-clause-front : goal.returns-then-read-before-clause-front
returns-then-read-before-clause-front g c =
    let l = c.loop-rest in
    took_more (g.S.Source.left c.args.source.now) (g.S.Source.left l.source) (g.S.Source.left c.read_round.new.source) (g.S.Source.faults c.args.source.now) (g.S.Source.faults l.source) (g.S.Source.faults c.read_round.new.source) l.invariant.front c.in-Ok.ensures.front

pub loop-rest-preserved : goal.loop-rest-preserved
loop-rest-preserved g c =
    let l = c.loop-rest in
    let r = c.requires.arrives in
    record {
      arrives = λ first before a. c.in-Ok.ensures.resumes first before (l.invariant.arrives first before a);
      few = (c.in-Ok.ensures.resumes r.0 r.1 (l.invariant.arrives r.0 r.1 r.2)).few;
      front = took_more (g.S.Source.left c.args.source.now) (g.S.Source.left l.source) (g.S.Source.left c.read_round.new.source) (g.S.Source.faults c.args.source.now) (g.S.Source.faults l.source) (g.S.Source.faults c.read_round.new.source) l.invariant.front c.in-Ok.ensures.front;
      kept = c.in-Ok.ensures.kept ∙ l.invariant.kept;
    }

pub loop-rest-smaller : goal.loop-rest-smaller
loop-rest-smaller g c =
    let r = c.requires.arrives in
    let few = (c.in-Ok.ensures.resumes r.0 r.1 (c.loop-rest.invariant.arrives r.0 r.1 r.2)).few in
    omega (arith, few, c.count-before.ensures, c.count-read.ensures, c.if-read-before.false)
