use Rattle.std.proofs.Common.{None, ◌∙◌}
use Rattle.source_reading.specs.Keeping.{keeping}
use Rattle.source_reading.proofs.Arriving.{may_be_read}
use Rattle.source_reading.proofs.Fronts.{took_more}
use Rattle.source_reading.proofs.intake.read_bodies.Goals as goal

pub returns-in-Err-clause-keeps : goal.returns-in-Err-clause-keeps
returns-in-Err-clause-keeps g c = λ first before s a.
    let l = c.loop-stop in
    c.in-Err.ensures.keeps first before (g.S.Source.left l.source) (g.S.Source.faults l.source) (g.S.Source.is_open l.source) s (l.invariant.arrives first before s a)

pub returns-then-is_whole-clause-keeps : goal.returns-then-is_whole-clause-keeps
returns-then-is_whole-clause-keeps g c = λ first before s a.
    let l = c.loop-stop in
    c.in-Ok.ensures.keeps first before (g.S.Source.left l.source) (g.S.Source.faults l.source) (g.S.Source.is_open l.source) s (l.invariant.arrives first before s a)

pub returns-then-sees_fault-clause-keeps : goal.returns-then-sees_fault-clause-keeps
returns-then-sees_fault-clause-keeps g c = λ first before s a.
    let l = c.loop-stop in
    c.in-Ok.ensures.keeps first before (g.S.Source.left l.source) (g.S.Source.faults l.source) (g.S.Source.is_open l.source) s (l.invariant.arrives first before s a)

pub read-came-requires-clause-none : goal.read-came-requires-clause-none
read-came-requires-clause-none g c = c.in-Ok.ensures.all (c.is_whole.ensures.owed c.if-is_whole.false c.in-Ok.ensures.going)

pub read-came-requires-clause-on : goal.read-came-requires-clause-on
read-came-requires-clause-on g c = λ is.
    let l = c.loop-stop in
    let r = c.requires.arrives in
    let i = c.take_piece.new.intake in
    may_be_read None r.0 r.1 (g.S.Source.left l.source) (g.S.Source.faults l.source) (g.S.Source.is_open l.source) (keeping r.2 i) i.chunk
    (c.in-Ok.ensures.keeps r.0 r.1 (g.S.Source.left l.source) (g.S.Source.faults l.source) (g.S.Source.is_open l.source) r.2 (l.invariant.arrives r.0 r.1 r.2 r.3)) is

pub returns-then-ne-clause-keeps : goal.returns-then-ne-clause-keeps
returns-then-ne-clause-keeps g c = λ first before s a.
    let l = c.loop-stop in
    c.read-came.ensures.arrives None first before (keeping s c.take_piece.new.intake) (c.in-Ok.ensures.no_error s) tt
    (c.in-Ok.ensures.keeps first before (g.S.Source.left l.source) (g.S.Source.faults l.source) (g.S.Source.is_open l.source) s (l.invariant.arrives first before s a))

pub returns-then-round_is_over-clause-keeps : goal.returns-then-round_is_over-clause-keeps
returns-then-round_is_over-clause-keeps g c = λ first before s a.
    let l = c.loop-stop in
    c.read-came.ensures.arrives None first before (keeping s c.take_piece.new.intake) (c.in-Ok.ensures.no_error s) tt
    (c.in-Ok.ensures.keeps first before (g.S.Source.left l.source) (g.S.Source.faults l.source) (g.S.Source.is_open l.source) s (l.invariant.arrives first before s a))

pub loop-stop-preserved : goal.loop-stop-preserved
loop-stop-preserved g c =
    let l = c.loop-stop in
    record {
      desk = c.sees_fault.ensures.desk;
      parts = c.sees_fault.ensures.parts ∙ c.in-Ok.ensures.parts ∙ l.invariant.parts;
      idle = record {
        done = c.sees_fault.ensures.idle.done ∙ c.in-Ok.ensures.idle.done ∙ l.invariant.idle.done;
        reported = c.sees_fault.ensures.idle.reported ∙ c.in-Ok.ensures.idle.reported ∙ l.invariant.idle.reported;
      };
      front = took_more (g.S.Source.left c.args.source.now) (g.S.Source.left l.source) (g.S.Source.left c.read-came.new.source) (g.S.Source.faults c.args.source.now) (g.S.Source.faults l.source) (g.S.Source.faults c.read-came.new.source) l.invariant.front c.read-came.ensures.front;
      few = c.read-came.ensures.few;
      arrives = λ first before s a.
          c.read-came.ensures.arrives None first before (keeping s c.take_piece.new.intake) (c.in-Ok.ensures.no_error s) tt
          (c.in-Ok.ensures.keeps first before (g.S.Source.left l.source) (g.S.Source.faults l.source) (g.S.Source.is_open l.source) s (l.invariant.arrives first before s a));
    }

pub returns-then-ne-clause-front : goal.returns-then-ne-clause-front
returns-then-ne-clause-front g c =
    let l = c.loop-stop in
    took_more (g.S.Source.left c.args.source.now) (g.S.Source.left l.source) (g.S.Source.left c.read-came.new.source) (g.S.Source.faults c.args.source.now) (g.S.Source.faults l.source) (g.S.Source.faults c.read-came.new.source) l.invariant.front c.read-came.ensures.front

pub returns-then-round_is_over-clause-front : goal.returns-then-round_is_over-clause-front
returns-then-round_is_over-clause-front g c =
    let l = c.loop-stop in
    took_more (g.S.Source.left c.args.source.now) (g.S.Source.left l.source) (g.S.Source.left c.read-came.new.source) (g.S.Source.faults c.args.source.now) (g.S.Source.faults l.source) (g.S.Source.faults c.read-came.new.source) l.invariant.front c.read-came.ensures.front
