use Rattle.std.proofs.Common.{◌++◌, Bool, Err, rules, sym, subst, ◌∙◌}
use Rattle.source_reading.specs.Reading.{Settled}
use Rattle.source_reading.proofs.Arriving.{closed_valid, may_be_read, may_end, going_here, ends_there}
use Rattle.module_stream.proofs.Stops.{unless_stopped}
use Rattle.source_reading.proofs.Fronts.{took_more}
use Rattle.source_reading.proofs.reading.read_on.Goals as goal

pub take_pending-requires : goal.take_pending-requires
take_pending-requires g c = (c.requires.0, c.requires.1, c.requires.2, _, _, _, c.loop-stop.invariant.arrives c.requires.0 c.requires.1 c.requires.2 c.requires.3 c.requires.4)

pub returns-in-Err-clause-reads : goal.returns-in-Err-clause-reads
returns-in-Err-clause-reads g c = λ closing first before whole a low.
    let l = c.loop-stop in
    subst (λ (b : Bool). Settled closing b (Err c.in-Err.stop) c.take_pending.new.compilation first (g.S.Source.left l.source) before (g.S.Source.faults l.source)) (sym c.has_failed.ensures)
    (c.in-Err.ensures.arrives closing first before (g.S.Source.left l.source) (g.S.Source.faults l.source) (g.S.Source.is_open l.source) (l.invariant.arrives closing first before whole a) low)

pub read-came-requires-clause-none : goal.read-came-requires-clause-none
read-came-requires-clause-none g c =
    unless_stopped c.args.up_to_bodies c.take_pending.new.compilation.cutter c.in-Ok.ensures.all.0 c.in-Ok.ensures.all.1 (sym c.stops.ensures ∙ c.if-stops.false)

pub read-came-requires-clause-on : goal.read-came-requires-clause-on
read-came-requires-clause-on g c = λ is.
    let l = c.loop-stop in
    let r = c.requires in
    let left = g.S.Source.left l.source in
    let now = g.S.Source.faults l.source in
    let may = g.S.Source.is_open l.source in
    may_be_read r.0 r.1 r.2 left now may c.take_pending.new.compilation c.take_pending.new.chunk (c.in-Ok.ensures.arrives r.0 r.1 r.2 left now may (l.invariant.arrives r.0 r.1 r.2 r.3 r.4)) is

pub finish-requires : goal.finish-requires
finish-requires g c =
    let l = c.loop-stop in
    let r = c.requires in
    let s = c.take_pending.new.compilation in
    let d = c.read-came.new.self in
    let free = unless_stopped c.args.up_to_bodies c.take_pending.new.compilation.cutter c.in-Ok.ensures.no_error.0 c.in-Ok.ensures.no_error.1 (sym c.stops.ensures ∙ c.if-stops.false) in
    let there = c.in-Ok.ensures.arrives r.0 r.1 r.2 (g.S.Source.left l.source) (g.S.Source.faults l.source) (g.S.Source.is_open l.source) (l.invariant.arrives r.0 r.1 r.2 r.3 r.4) in
    let a = c.read-came.ensures.arrives r.0 r.1 r.2 s free (closed_valid r.0 s c.args.up_to_bodies r.3 c.in-Ok.ensures.waits there.batch) there in
    may_end r.0 r.1 r.2 (g.S.Source.left c.read-came.new.source) (g.S.Source.faults c.read-came.new.source) (g.S.Source.is_open c.read-came.new.source) s d a (c.read-came.ensures.rest (search rules))

pub returns-then-ne-clause-reads : goal.returns-then-ne-clause-reads
returns-then-ne-clause-reads g c = λ closing first before whole start low.
    let l = c.loop-stop in
    let s = c.take_pending.new.compilation in
    let d = c.read-came.new.self in
    let left = g.S.Source.left c.read-came.new.source in
    let now = g.S.Source.faults c.read-came.new.source in
    let may = g.S.Source.is_open c.read-came.new.source in
    let free = unless_stopped c.args.up_to_bodies c.take_pending.new.compilation.cutter c.in-Ok.ensures.no_error.0 c.in-Ok.ensures.no_error.1 (sym c.stops.ensures ∙ c.if-stops.false) in
    let there = c.in-Ok.ensures.arrives closing first before (g.S.Source.left l.source) (g.S.Source.faults l.source) (g.S.Source.is_open l.source) (l.invariant.arrives closing first before whole start) in
    let a = c.read-came.ensures.arrives closing first before s free (closed_valid closing s c.args.up_to_bodies whole c.in-Ok.ensures.waits there.batch) there in
    let none = c.read-came.ensures.rest (search rules) in
    subst (λ (b : Bool). Settled closing b c.finish.result c.finish.new.self first left before now) (sym c.has_failed-then-ne.ensures)
    (ends_there closing first before left now may s d a c.finish.result c.finish.new.self (search rules) (c.finish.ensures.decides (a.came ++ a.piece) a.bytes (going_here closing first before left now may s d a none)) low)

pub loop-stop-preserved : goal.loop-stop-preserved
loop-stop-preserved g c =
    let l = c.loop-stop in
    record {
      arrives = λ closing first before whole a.
          let there = c.in-Ok.ensures.arrives closing first before (g.S.Source.left l.source) (g.S.Source.faults l.source) (g.S.Source.is_open l.source) (l.invariant.arrives closing first before whole a) in
          c.read-came.ensures.arrives closing first before c.take_pending.new.compilation
          (unless_stopped c.args.up_to_bodies c.take_pending.new.compilation.cutter c.in-Ok.ensures.no_error.0 c.in-Ok.ensures.no_error.1 (sym c.stops.ensures ∙ c.if-stops.false))
          (closed_valid closing c.take_pending.new.compilation c.args.up_to_bodies whole c.in-Ok.ensures.waits there.batch) there;
      few = c.read-came.ensures.few;
      front = took_more (g.S.Source.left c.args.source.now) (g.S.Source.left l.source) (g.S.Source.left c.read-came.new.source) (g.S.Source.faults c.args.source.now) (g.S.Source.faults l.source) (g.S.Source.faults c.read-came.new.source) l.invariant.front c.read-came.ensures.front;
      kept = c.in-Ok.ensures.kept ∙ l.invariant.kept;
    }

pub returns-then-ne-clause-front : goal.returns-then-ne-clause-front
returns-then-ne-clause-front g c =
    let l = c.loop-stop in
    took_more (g.S.Source.left c.args.source.now) (g.S.Source.left l.source) (g.S.Source.left c.read-came.new.source) (g.S.Source.faults c.args.source.now) (g.S.Source.faults l.source) (g.S.Source.faults c.read-came.new.source) l.invariant.front c.read-came.ensures.front
