use Rattle.std.proofs.Common.{◌≡◌, ◌≤◌, ◌<◌, ◌∙◌, ◌++◌, ℕ, Bool, List, Ok, Err, length, take, drop, sym, subst, arith, length-append}
use Rattle.std.specs.Io.KnownBytes.{IsAtEnd}
use Rattle.std.proofs.lemmas.List.{length-take, length-drop}
use Rattle.many_streams.specs.Many.{IsStreaming, ComesToEnd}
use Rattle.many_streams.specs.Members.{IsEnded}
use Rattle.many_streams.proofs.Sources.{moves_on, took, took_more, ended, broken, failed, rest_is}
use Rattle.many_streams.proofs.alone.read_front.Goals as goal

-- bytes came
some_came : (n : ℕ) (buf : List ℕ) → 0 < n → n ≤ length buf → 0 < length (take n buf)
some_came n buf some fits = omega (arith, length-take n buf)

-- the buffer is as long as it was
room_stays : (len : ℕ) (given items : List ℕ) → len ≡ length items → 0 < length items → 0 < length (take len (given ++ drop (length given) items))
room_stays len given items is some = omega (arith, length-take len (given ++ drop (length given) items), length-append given (drop (length given) items), length-drop (length given) items)

pub loop-count-smaller : goal.loop-count-smaller
loop-count-smaller g c =
    let i = c.loop-count.invariant.came in
    let r = c.in-Bytes.ensures.bytes in
    let s = c.loop-count.streams in
    let t = c.feed.new.self in
    moves_on i.0 (take c.in-Bytes.count c.read.new.buf) s.keeps t.keeps s.reader t.reader s.members.items t.members.items i.1 (c.in-Ok-feed.ensures.takes i.0 i.1) (some_came c.in-Bytes.count c.read.new.buf r.0 r.1)

pub loop-count-preserved : goal.loop-count-preserved
loop-count-preserved g c =
    let i = c.loop-count.invariant.came in
    let r = c.in-Bytes.ensures.bytes in
    record {
      room = room_stays c.loop-count.buffer.len c.buffer-in-Bytes-1.given c.loop-count.buffer.items c.loop-count.buffer.ok.0 c.loop-count.invariant.room;
      came = (
        i.0 ++ take c.in-Bytes.count c.read.new.buf,
        c.in-Ok-feed.ensures.takes i.0 i.1,
        took_more (g.S.Source.left c.args.source.now) (g.S.Source.left c.loop-count.source) (g.S.Source.left c.read.new.self) i.0 (take c.in-Bytes.count c.read.new.buf) i.2 r.2,
      );
      same = c.in-Bytes.ensures.cause ∙ c.loop-count.invariant.same;
      open_now = c.in-Bytes.ensures.on;
      keeps = c.feed.ensures.keeps ∙ c.loop-count.invariant.keeps;
    }

pub returns-in-Err-clause-answer : goal.returns-in-Err-clause-answer
returns-in-Err-clause-answer g c =
    let i = c.loop-count.invariant.came in
    let r = c.in-Bytes.ensures.bytes in
    broken (IsEnded c.args.keeps) (λ (l : List ℕ). IsStreaming l c.feed.new.self) (g.S.Source.faults c.args.source.now) (g.S.Source.faults c.read.new.self) (g.S.Source.left c.args.source.now) (g.S.Source.left c.read.new.self) i.0 (take c.in-Bytes.count c.read.new.buf) c.in-Err.stop
    (c.in-Bytes.ensures.cause ∙ c.loop-count.invariant.same)
    (took_more (g.S.Source.left c.args.source.now) (g.S.Source.left c.loop-count.source) (g.S.Source.left c.read.new.self) i.0 (take c.in-Bytes.count c.read.new.buf) i.2 r.2)
    (c.in-Err.ensures.takes i.0 i.1)

pub returns-in-Err-clause-front : goal.returns-in-Err-clause-front
returns-in-Err-clause-front g c =
    let i = c.loop-count.invariant.came in
    let r = c.in-Bytes.ensures.bytes in
    let same = c.in-Bytes.ensures.cause ∙ c.loop-count.invariant.same in
    took (g.S.Source.left c.args.source.now) (g.S.Source.left c.read.new.self) (i.0 ++ take c.in-Bytes.count c.read.new.buf) (g.S.Source.faults c.args.source.now) (g.S.Source.faults c.read.new.self)
    (took_more (g.S.Source.left c.args.source.now) (g.S.Source.left c.loop-count.source) (g.S.Source.left c.read.new.self) i.0 (take c.in-Bytes.count c.read.new.buf) i.2 r.2) (omega (arith, same))

pub returns-in-Failed-clause-answer : goal.returns-in-Failed-clause-answer
returns-in-Failed-clause-answer g c =
    let i = c.loop-count.invariant.came in
    failed (IsEnded c.args.keeps) (g.S.Source.faults c.args.source.now) (g.S.Source.faults c.read.new.self) (g.S.Source.faults c.loop-count.source) (g.S.Source.left c.args.source.now) (g.S.Source.left c.read.new.self) i.0 c.stop.result
    c.requires.faults c.loop-count.invariant.same c.in-Failed.ensures.cause
    (rest_is i.0 (g.S.Source.left c.args.source.now) (g.S.Source.left c.loop-count.source) (g.S.Source.left c.read.new.self) i.2 c.in-Failed.ensures.bytes)
    (c.stop.ensures.front i.0 i.1) c.stop.ensures.fault

pub returns-in-Ok-end-clause-answer : goal.returns-in-Ok-end-clause-answer
returns-in-Ok-end-clause-answer g c =
    let i = c.loop-count.invariant.came in
    let r = c.in-End.ensures.bytes in
    ended (IsEnded c.args.keeps) (g.S.Source.faults c.args.source.now) (g.S.Source.faults c.read.new.self) (g.S.Source.left c.args.source.now) (g.S.Source.left c.read.new.self) i.0 (Ok c.in-Ok-end.members.items)
    (c.in-End.ensures.cause ∙ c.loop-count.invariant.same)
    (rest_is i.0 (g.S.Source.left c.args.source.now) (g.S.Source.left c.loop-count.source) (g.S.Source.left c.read.new.self) i.2 r.1)
    (subst IsAtEnd (sym r.1) r.0) (subst (λ (b : Bool). ComesToEnd (IsEnded b) i.0 (Ok c.in-Ok-end.members.items)) c.loop-count.invariant.keeps (c.in-Ok-end.ensures i.0 i.1))

pub returns-in-Err-end-clause-answer : goal.returns-in-Err-end-clause-answer
returns-in-Err-end-clause-answer g c =
    let i = c.loop-count.invariant.came in
    let r = c.in-End.ensures.bytes in
    ended (IsEnded c.args.keeps) (g.S.Source.faults c.args.source.now) (g.S.Source.faults c.read.new.self) (g.S.Source.left c.args.source.now) (g.S.Source.left c.read.new.self) i.0 (Err c.in-Err-end.stop)
    (c.in-End.ensures.cause ∙ c.loop-count.invariant.same)
    (rest_is i.0 (g.S.Source.left c.args.source.now) (g.S.Source.left c.loop-count.source) (g.S.Source.left c.read.new.self) i.2 r.1)
    (subst IsAtEnd (sym r.1) r.0) (subst (λ (b : Bool). ComesToEnd (IsEnded b) i.0 (Err c.in-Err-end.stop)) c.loop-count.invariant.keeps (c.in-Err-end.ensures i.0 i.1))

pub returns-then-may_start-clause-answer : goal.returns-then-may_start-clause-answer
returns-then-may_start-clause-answer g c =
    let i = c.loop-count.invariant.came in
    let r = c.in-Bytes.ensures.bytes in
    let more = take c.in-Bytes.count c.read.new.buf in
    let on = c.in-Ok-feed.ensures.takes i.0 i.1 in
    let start = c.may_start.ensures c.if-may_start.true in
    let count = on.count in (
      record {
        bytes = i.0 ++ more;
        come = record {
          took = took_more (g.S.Source.left c.args.source.now) (g.S.Source.left c.loop-count.source) (g.S.Source.left c.read.new.self) i.0 more i.2 r.2;
          few = c.requires.faults;
          same = c.in-Bytes.ensures.cause ∙ c.loop-count.invariant.same;
          open_now = c.in-Bytes.ensures.on;
        };
        streaming = on;
        some = let some = start.1 in omega arith;
        waiting = start.0;
      },
      c.feed.ensures.keeps ∙ c.loop-count.invariant.keeps,
      room_stays c.loop-count.buffer.len c.buffer-in-Bytes-1.given c.loop-count.buffer.items c.loop-count.buffer.ok.0 c.loop-count.invariant.room,
    )

pub returns-then-may_start-clause-front : goal.returns-then-may_start-clause-front
returns-then-may_start-clause-front g c =
    let i = c.loop-count.invariant.came in
    let r = c.in-Bytes.ensures.bytes in
    let same = c.in-Bytes.ensures.cause ∙ c.loop-count.invariant.same in
    took (g.S.Source.left c.args.source.now) (g.S.Source.left c.read.new.self) (i.0 ++ take c.in-Bytes.count c.read.new.buf) (g.S.Source.faults c.args.source.now) (g.S.Source.faults c.read.new.self)
    (took_more (g.S.Source.left c.args.source.now) (g.S.Source.left c.loop-count.source) (g.S.Source.left c.read.new.self) i.0 (take c.in-Bytes.count c.read.new.buf) i.2 r.2) (omega (arith, same))
