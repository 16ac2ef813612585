use Rattle.std.proofs.Common.{None}
use Rattle.module_stream.specs.ValidPrefixes.{closing_bytes}
use Rattle.source_reading.proofs.Arriving.{arriving_begins, none_given, closing_is, closing_whole, settled_beside}
use Rattle.source_reading.proofs.Fronts.{took_more}
use Rattle.source_reading.proofs.reading.read_source.Goals as goal

pub read_on-requires : goal.read_on-requires
read_on-requires g c =
    let left = g.S.Source.left c.args.source.now in
    let before = g.S.Source.faults c.args.source.now in
    let workers = c.args.workers in
    let s = c.args.compilation.now in
    let closing = closing_bytes workers s.batch in
    (closing, left, before, closing_whole workers s.batch, arriving_begins closing left before (g.S.Source.is_open c.args.source.now) s c.in-Ok.chunk c.in-Ok.ensures c.requires.open c.requires.unread (closing_is workers s.batch))

pub returns-in-Some-clause-settled : goal.returns-in-Some-clause-settled
returns-in-Some-clause-settled g c =
    let left = g.S.Source.left c.args.source.now in
    let before = g.S.Source.faults c.args.source.now in
    let workers = c.args.workers in
    let s = c.args.compilation.now in
    let closing = closing_bytes workers s.batch in
    let a = arriving_begins closing left before (g.S.Source.is_open c.args.source.now) s c.in-Ok.chunk c.in-Ok.ensures c.requires.open c.requires.unread (closing_is workers s.batch) in
    c.in-Some.ensures.reads closing left before (closing_whole workers s.batch) a c.requires.faults

pub read_beside-requires-clause-arrives : goal.read_beside-requires-clause-arrives
read_beside-requires-clause-arrives g c κs within =
    let left = g.S.Source.left c.args.source.now in
    let before = g.S.Source.faults c.args.source.now in
    let a = arriving_begins None left before (g.S.Source.is_open c.args.source.now) c.args.compilation.now c.in-Ok.chunk c.in-Ok.ensures c.requires.open c.requires.unread tt in
    (left, before, c.in_default-read_on.ensures.reads None left before (none_given _) a)

pub read_to_end-requires : goal.read_to_end-requires
read_to_end-requires g c =
    let left = g.S.Source.left c.args.source.now in
    let before = g.S.Source.faults c.args.source.now in
    let a = arriving_begins None left before (g.S.Source.is_open c.args.source.now) c.args.compilation.now c.in-Ok.chunk c.in-Ok.ensures c.requires.open c.requires.unread tt in
    (left, before, c.in-Ok-read_beside.ensures.resumes left before (c.in_default-read_on.ensures.reads None left before (none_given _) a))

pub returns-in-Ok-read_beside-clause-settled : goal.returns-in-Ok-read_beside-clause-settled
returns-in-Ok-read_beside-clause-settled g c =
    let left = g.S.Source.left c.args.source.now in
    let before = g.S.Source.faults c.args.source.now in
    let a = arriving_begins None left before (g.S.Source.is_open c.args.source.now) c.args.compilation.now c.in-Ok.chunk c.in-Ok.ensures c.requires.open c.requires.unread tt in
    let end = c.read_to_end in
    settled_beside c.args.workers c.args.compilation.now.batch end.result.failed end.result.judged end.new.compilation left (g.S.Source.left end.new.source) before (g.S.Source.faults end.new.source) c.in_default-read_on.ensures.some
    (end.ensures.settled left before c.requires.faults (c.in-Ok-read_beside.ensures.resumes left before (c.in_default-read_on.ensures.reads None left before (none_given _) a)))

pub returns-in-Err-clause-settled : goal.returns-in-Err-clause-settled
returns-in-Err-clause-settled g c =
    let left = g.S.Source.left c.args.source.now in
    let before = g.S.Source.faults c.args.source.now in
    let a = arriving_begins None left before (g.S.Source.is_open c.args.source.now) c.args.compilation.now c.in-Ok.chunk c.in-Ok.ensures c.requires.open c.requires.unread tt in
    let bodies = c.read_beside.new in
    settled_beside c.args.workers c.args.compilation.now.batch c.in-Err.ending.failed c.in-Err.ending.judged bodies.compilation left (g.S.Source.left bodies.source) before (g.S.Source.faults bodies.source) c.in_default-read_on.ensures.some
    (c.in-Err.ensures.resumes left before (c.in_default-read_on.ensures.reads None left before (none_given _) a) c.requires.faults)

pub returns-in-Ok-read_beside-clause-front : goal.returns-in-Ok-read_beside-clause-front
returns-in-Ok-read_beside-clause-front g c =
    let first = c.args.source.now in
    let front = c.read_on.new.source in
    let bodies = c.read_beside.new.source in
    let end = c.read_to_end.new.source in
    took_more (g.S.Source.left first) (g.S.Source.left bodies) (g.S.Source.left end) (g.S.Source.faults first) (g.S.Source.faults bodies) (g.S.Source.faults end)
    (took_more (g.S.Source.left first) (g.S.Source.left front) (g.S.Source.left bodies) (g.S.Source.faults first) (g.S.Source.faults front) (g.S.Source.faults bodies) c.read_on.ensures.front c.in-Ok-read_beside.ensures.front)
    c.read_to_end.ensures.front

pub returns-in-Err-clause-front : goal.returns-in-Err-clause-front
returns-in-Err-clause-front g c =
    let first = c.args.source.now in
    let front = c.read_on.new.source in
    let bodies = c.read_beside.new.source in
    took_more (g.S.Source.left first) (g.S.Source.left front) (g.S.Source.left bodies) (g.S.Source.faults first) (g.S.Source.faults front) (g.S.Source.faults bodies) c.read_on.ensures.front c.in-Err.ensures.front
