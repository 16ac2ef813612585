use Rattle.std.proofs.Common.{rules, ◌≤◌, ◌<◌, ℕ, List, length, take, arith}
use Rattle.std.proofs.lemmas.List.{length-take}
use Rattle.batch_pool.proofs.Crews.{reads_more}
use Rattle.many_streams.specs.Flows.{members_with}
use Rattle.many_streams.proofs.Sources.{moves_on, took, took_nothing, took_none, took_both}
use Rattle.many_streams.proofs.Rests.{arrives_on, arrived_end, arrived_err, arrived_fail}
use Rattle.many_streams.proofs.rest.read_rest.Goals as goal

-- bytes came
some_came : (n : ℕ) (buf : List ℕ) → 0 < n → n ≤ length buf → 0 < length (take n buf)
some_came n buf some fits = omega (arith, length-take n buf)

pub loop-count-init : goal.loop-count-init
loop-count-init g c = record {
  room = c.requires.room;
  arrives = λ first before keeps members a. a;
  front = took_nothing _ _;
  desks = c.hand_over_kept.ensures.desks;
  each = c.hand_over_kept.ensures.each;
}

pub read-requires-clause-open : goal.read-requires-clause-open
read-requires-clause-open g c =
    let r = c.requires.arrives in (c.loop-count.invariant.arrives r.0 r.1 r.2 r.3 r.4).1.open_now

pub feed-requires-clause-may : goal.feed-requires-clause-may
feed-requires-clause-may g c =
    let r = c.requires.arrives in
    let a = c.loop-count.invariant.arrives r.0 r.1 r.2 r.3 r.4 in (a.0, r.2, r.3, a.2)

pub end-requires : goal.end-requires
end-requires g c =
    let r = c.requires.arrives in
    let a = c.loop-count.invariant.arrives r.0 r.1 r.2 r.3 r.4 in (a.0, r.2, r.3, a.2)

pub stop-requires : goal.stop-requires
stop-requires g c =
    let r = c.requires.arrives in
    let a = c.loop-count.invariant.arrives r.0 r.1 r.2 r.3 r.4 in (a.0, r.2, r.3, a.2)

pub loop-count-smaller : goal.loop-count-smaller
loop-count-smaller g c =
    let r = c.requires.arrives in
    let a = c.loop-count.invariant.arrives r.0 r.1 r.2 r.3 r.4 in
    let b = c.in-Bytes.ensures.bytes in
    let s = c.loop-count.rest in
    let t = c.feed.new.self in
    moves_on a.0 (take c.in-Bytes.count c.read.new.buf) r.2 r.2 s.reader t.reader (members_with r.3 s.flows.items) (members_with r.3 t.flows.items) a.2.streaming (c.in-Ok-feed.ensures.takes a.0 r.2 r.3 a.2).streaming (some_came c.in-Bytes.count c.read.new.buf b.0 b.1)

pub loop-count-preserved : goal.loop-count-preserved
loop-count-preserved g c =
    let i = c.loop-count.invariant in
    let b = c.in-Bytes.ensures.bytes in
    let more = take c.in-Bytes.count c.read.new.buf in
    let same = c.in-Bytes.ensures.cause in
    let left = g.S.Source.left c.loop-count.source in
    let last = g.S.Source.left c.read.new.self in
    let now = g.S.Source.faults c.loop-count.source in
    let then = g.S.Source.faults c.read.new.self in
    record {
      room = search rules;
      arrives = λ first before keeps members a.
          arrives_on first before left last now then (g.S.Source.is_open c.loop-count.source) keeps members c.loop-count.rest (i.arrives first before keeps members a) c.feed.new.self (g.S.Source.is_open c.read.new.self) more b.2 same c.in-Bytes.ensures.on
          (λ bytes is. c.in-Ok-feed.ensures.takes bytes keeps members is);
      front = took_both _ left last _ now then i.front (took left last more now then b.2 (omega (arith, same)));
      desks = c.feed.ensures.desks;
      each = reads_more c.args.lanes.now c.args.desks.now.items c.loop-count.desks.items c.feed.new.desks.items i.desks i.each c.feed.ensures.each;
    }

pub returns-in-Err : goal.returns-in-Err
returns-in-Err g c =
    let i = c.loop-count.invariant in
    let b = c.in-Bytes.ensures.bytes in
    let more = take c.in-Bytes.count c.read.new.buf in
    let same = c.in-Bytes.ensures.cause in
    let left = g.S.Source.left c.loop-count.source in
    let last = g.S.Source.left c.read.new.self in
    let now = g.S.Source.faults c.loop-count.source in
    let then = g.S.Source.faults c.read.new.self in
    record {
      arrived = λ first before keeps members a.
          arrived_err first before left last now then (g.S.Source.is_open c.loop-count.source) keeps members c.loop-count.rest (i.arrives first before keeps members a) c.feed.new.self more c.in-Err.stop b.2 same (λ bytes is. c.in-Err.ensures.takes bytes keeps members is);
      front = took_both _ left last _ now then i.front (took left last more now then b.2 (omega (arith, same)));
      desks = c.feed.ensures.desks;
      each = reads_more c.args.lanes.now c.args.desks.now.items c.loop-count.desks.items c.feed.new.desks.items i.desks i.each c.feed.ensures.each;
    }

pub returns-in-End : goal.returns-in-End
returns-in-End g c =
    let i = c.loop-count.invariant in
    let e = c.in-End.ensures in
    let left = g.S.Source.left c.loop-count.source in
    let last = g.S.Source.left c.read.new.self in
    let now = g.S.Source.faults c.loop-count.source in
    let then = g.S.Source.faults c.read.new.self in
    record {
      arrived = λ first before keeps members a.
          arrived_end first before left last now then (g.S.Source.is_open c.loop-count.source) keeps members c.loop-count.rest (i.arrives first before keeps members a) c.end.result e.cause e.bytes.1 e.bytes.0 (λ bytes is. c.end.ensures bytes keeps members is);
      front = took_both _ left last _ now then i.front (took_none left last now then e.bytes.1 (omega (arith, e.cause)));
      desks = i.desks;
      each = i.each;
    }

pub returns-in-Failed : goal.returns-in-Failed
returns-in-Failed g c =
    let i = c.loop-count.invariant in
    let e = c.in-Failed.ensures in
    let left = g.S.Source.left c.loop-count.source in
    let last = g.S.Source.left c.read.new.self in
    let now = g.S.Source.faults c.loop-count.source in
    let then = g.S.Source.faults c.read.new.self in
    record {
      arrived = λ first before keeps members a.
          arrived_fail first before left last now then (g.S.Source.is_open c.loop-count.source) keeps members c.loop-count.rest (i.arrives first before keeps members a) c.stop.result e.cause e.bytes (λ bytes is. c.stop.ensures.front bytes keeps members is) c.stop.ensures.fault;
      front = took_both _ left last _ now then i.front (took_none left last now then e.bytes e.never_falls);
      desks = i.desks;
      each = i.each;
    }
