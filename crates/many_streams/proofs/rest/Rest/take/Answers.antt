use Rattle.std.proofs.Common.{◌<◌, ℕ, refl, sym, subst}
use Rattle.many_streams.specs.declared.reader.Taken.TheVariants as taken
use Rattle.batch_pool.proofs.Crews.{reads_begin}
use Rattle.many_streams.proofs.Crowds.{taken_so, flags_so}
use Rattle.many_streams.proofs.Rests.{flow_in, set_here, may_feed, rest_passed, rest_fed, rest_number, rest_ended, never_counted}
use Rattle.many_streams.proofs.rest.Rest.take.Goals as goal

pub index_mut-requires : goal.index_mut-requires
index_mut-requires c =
    let m = c.requires.may in
    let i = m.3 in
    let now = c.args.self.now.reader in
    let at = taken.Bytes c.in-Ok-Bytes.index c.in-Ok-Bytes.count in
    let t = taken_so m.0 i.streaming.of c.args.piece.now c.in-Ok-Bytes.field-0 at now c.take.new.self c.in-Ok-Bytes.field-0-is (c.in-Ok-Bytes.ensures.taken m.0 i.streaming.of i.streaming.reading) in
    subst (λ (n : ℕ). c.in-Ok-Bytes.index < n) (sym c.args.self.now.flows.ok.0) (flow_in m.0 m.1 m.2 c.args.self.now i c.in-Ok-Bytes.index t.2)

pub feed-requires-clause-fed : goal.feed-requires-clause-fed
feed-requires-clause-fed c =
    let m = c.requires.may in
    let i = m.3 in
    let now = c.args.self.now.reader in
    let at = taken.Bytes c.in-Ok-Bytes.index c.in-Ok-Bytes.count in
    let t = taken_so m.0 i.streaming.of c.args.piece.now c.in-Ok-Bytes.field-0 at now c.take.new.self c.in-Ok-Bytes.field-0-is (c.in-Ok-Bytes.ensures.taken m.0 i.streaming.of i.streaming.reading) in
    let f = flags_so c.in-Ok-Bytes.field-0 at now.ended c.take.new.self.ended c.in-Ok-Bytes.field-0-is c.in-Ok-Bytes.ensures.flags in
    may_feed m.0 m.1 m.2 c.args.self.now i c.in-Ok-Bytes.index t.2 c.index_mut.result.now c.index_mut.ensures.value c.in-Some.flow c.in-Some.is f.0

pub returns-in-Ok-Number-clause-takes : goal.returns-in-Ok-Number-clause-takes
returns-in-Ok-Number-clause-takes c = λ bytes keeps members i.
    let now = c.args.self.now.reader in
    let t = taken_so bytes i.streaming.of c.args.piece.now c.in-Ok-Number.field-0 taken.Number now c.take.new.self c.in-Ok-Number.field-0-is (c.in-Ok-Number.ensures.taken bytes i.streaming.of i.streaming.reading) in
    let f = flags_so c.in-Ok-Number.field-0 taken.Number now.ended c.take.new.self.ended c.in-Ok-Number.field-0-is c.in-Ok-Number.ensures.flags in
    rest_number bytes keeps members c.args.self.now i c.args.piece.now _ c.take.new.self refl c.requires.some t f

pub returns-in-Ok-End-clause-takes : goal.returns-in-Ok-End-clause-takes
returns-in-Ok-End-clause-takes c = λ bytes keeps members i.
    let now = c.args.self.now.reader in
    let at = taken.End c.in-Ok-End._index in
    let t = taken_so bytes i.streaming.of c.args.piece.now c.in-Ok-End.field-0 at now c.take.new.self c.in-Ok-End.field-0-is (c.in-Ok-End.ensures.taken bytes i.streaming.of i.streaming.reading) in
    let f = flags_so c.in-Ok-End.field-0 at now.ended c.take.new.self.ended c.in-Ok-End.field-0-is c.in-Ok-End.ensures.flags in
    rest_ended bytes keeps members c.args.self.now i c.args.piece.now _ c.take.new.self refl c.requires.some c.in-Ok-End._index t f

pub returns-in_default-clause-takes : goal.returns-in_default-clause-takes
returns-in_default-clause-takes c = λ bytes keeps members i.
    let now = c.args.self.now.reader in
    let at = taken.Bytes c.in-Ok-Bytes.index c.in-Ok-Bytes.count in
    let t = taken_so bytes i.streaming.of c.args.piece.now c.in-Ok-Bytes.field-0 at now c.take.new.self c.in-Ok-Bytes.field-0-is (c.in-Ok-Bytes.ensures.taken bytes i.streaming.of i.streaming.reading) in
    let f = flags_so c.in-Ok-Bytes.field-0 at now.ended c.take.new.self.ended c.in-Ok-Bytes.field-0-is c.in-Ok-Bytes.ensures.flags in
    rest_passed bytes keeps members c.args.self.now i c.in-Ok-Bytes.index t.2 c.index_mut.result.now c.index_mut.ensures.value c.args.piece.now c.in-Ok-Bytes.count _ c.take.new.self refl t f c.in_default.is
    (set_here bytes keeps members c.args.self.now i c.in-Ok-Bytes.index t.2 c.index_mut.result.now c.index_mut.ensures.value)

pub returns-in-Ok-clause-takes : goal.returns-in-Ok-clause-takes
returns-in-Ok-clause-takes c = λ bytes keeps members i.
    let now = c.args.self.now.reader in
    let at = taken.Bytes c.in-Ok-Bytes.index c.in-Ok-Bytes.count in
    let t = taken_so bytes i.streaming.of c.args.piece.now c.in-Ok-Bytes.field-0 at now c.take.new.self c.in-Ok-Bytes.field-0-is (c.in-Ok-Bytes.ensures.taken bytes i.streaming.of i.streaming.reading) in
    let f = flags_so c.in-Ok-Bytes.field-0 at now.ended c.take.new.self.ended c.in-Ok-Bytes.field-0-is c.in-Ok-Bytes.ensures.flags in
    rest_fed bytes keeps members c.args.self.now i c.in-Ok-Bytes.index t.2 c.index_mut.result.now c.index_mut.ensures.value c.args.piece.now c.in-Ok-Bytes.count _ c.take.new.self refl t f c.in-Some.flow c.feed.new.self c.in-Some.is refl c.in-Ok.ensures.fed

pub returns-in-Err-clause-takes : goal.returns-in-Err-clause-takes
returns-in-Err-clause-takes c = λ bytes keeps members i. c.in-Err.ensures.taken bytes i.streaming.of i.streaming.reading

pub returns-in-Ok-Number-clause-each : goal.returns-in-Ok-Number-clause-each
returns-in-Ok-Number-clause-each c = reads_begin c.args.lanes.now c.args.desks.now.items

pub returns-in-Ok-End-clause-each : goal.returns-in-Ok-End-clause-each
returns-in-Ok-End-clause-each c = reads_begin c.args.lanes.now c.args.desks.now.items

pub returns-in_default-clause-each : goal.returns-in_default-clause-each
returns-in_default-clause-each c = reads_begin c.args.lanes.now c.args.desks.now.items

pub returns-in-Err-clause-each : goal.returns-in-Err-clause-each
returns-in-Err-clause-each c = reads_begin c.args.lanes.now c.args.desks.now.items

pub unreachable-requires : goal.unreachable-requires
unreachable-requires c =
    let m = c.requires.may in
    let i = m.3 in
    let now = c.args.self.now.reader in
    let t = taken_so m.0 i.streaming.of c.args.piece.now c.in-Ok-Count.field-0 taken.Count now c.take.new.self c.in-Ok-Count.field-0-is (c.in-Ok-Count.ensures.taken m.0 i.streaming.of i.streaming.reading) in
    never_counted m.0 m.1 m.2 c.args.self.now i c.args.piece.now (record c.args.self.now { reader = c.take.new.self }) c.take.new.self refl c.requires.some t
