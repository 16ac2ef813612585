use Rattle.std.proofs.Common.{◌≤◌, ◌∙◌, ℕ, refl, subst}
use Rattle.std.proofs.Math.ListN.{set}
use Rattle.many_streams.specs.declared.reader.Taken.TheVariants as taken
use Rattle.many_streams.proofs.Crowds.{member_fits, streams_number, streams_counted, streams_bytes, streams_ended, taken_so, flags_so}
use Rattle.many_streams.proofs.streams.Streams.take.Goals as goal

pub end-requires : goal.end-requires
end-requires c =
    let m = c.requires.may in
    let i = m.1 in
    let now = c.args.self.now.reader in
    let at = taken.End c.in-Ok-End.index in
    let t = taken_so m.0 i.of c.args.piece.now c.in-Ok-End.field-0 at now c.take.new.self c.in-Ok-End.field-0-is (c.in-Ok-End.ensures.taken m.0 i.of i.reading) in
    let f = flags_so c.in-Ok-End.field-0 at now.ended c.take.new.self.ended c.in-Ok-End.field-0-is c.in-Ok-End.ensures.flags in
    (c.args.self.now.keeps, i.of c.in-Ok-End.index, member_fits m.0 c.args.self.now i c.in-Ok-End.index c.index_mut.result.now t.2 f.0 c.index_mut.ensures.value)

pub feed-requires : goal.feed-requires
feed-requires c =
    let m = c.requires.may in
    let i = m.1 in
    let now = c.args.self.now.reader in
    let at = taken.Bytes c.in-Ok-Bytes.index c.in-Ok-Bytes.count in
    let t = taken_so m.0 i.of c.args.piece.now c.in-Ok-Bytes.field-0 at now c.take.new.self c.in-Ok-Bytes.field-0-is (c.in-Ok-Bytes.ensures.taken m.0 i.of i.reading) in
    let f = flags_so c.in-Ok-Bytes.field-0 at now.ended c.take.new.self.ended c.in-Ok-Bytes.field-0-is c.in-Ok-Bytes.ensures.flags in
    (c.args.self.now.keeps, i.of c.in-Ok-Bytes.index, member_fits m.0 c.args.self.now i c.in-Ok-Bytes.index c.index_mut-in-Ok-Bytes.result.now t.2 f.0 c.index_mut-in-Ok-Bytes.ensures.value)

pub returns-in-Ok-Number-clause-takes : goal.returns-in-Ok-Number-clause-takes
returns-in-Ok-Number-clause-takes c = λ bytes i.
    let now = c.args.self.now.reader in
    let t = taken_so bytes i.of c.args.piece.now c.in-Ok-Number.field-0 taken.Number now c.take.new.self c.in-Ok-Number.field-0-is (c.in-Ok-Number.ensures.taken bytes i.of i.reading) in
    let f = flags_so c.in-Ok-Number.field-0 taken.Number now.ended c.take.new.self.ended c.in-Ok-Number.field-0-is c.in-Ok-Number.ensures.flags in
    streams_number bytes c.args.piece.now c.args.self.now _ c.take.new.self i refl c.requires.some t.0 t.1 f

pub returns-in-Ok-clause-takes : goal.returns-in-Ok-clause-takes
returns-in-Ok-clause-takes c = λ bytes i.
    let now = c.args.self.now.reader in
    let at = taken.End c.in-Ok-End.index in
    let t = taken_so bytes i.of c.args.piece.now c.in-Ok-End.field-0 at now c.take.new.self c.in-Ok-End.field-0-is (c.in-Ok-End.ensures.taken bytes i.of i.reading) in
    let f = flags_so c.in-Ok-End.field-0 at now.ended c.take.new.self.ended c.in-Ok-End.field-0-is c.in-Ok-End.ensures.flags in
    streams_ended bytes c.args.piece.now c.args.self.now c.take.new.self c.in-Ok-End.index c.index_mut.result.now c.end.new.self (set c.args.self.now.members.items c.in-Ok-End.index c.end.new.self) i refl c.requires.some t f c.index_mut.ensures.value c.in-Ok.ensures

pub returns-in-Ok-new_members-clause-takes : goal.returns-in-Ok-new_members-clause-takes
returns-in-Ok-new_members-clause-takes c = λ bytes i.
    let now = c.args.self.now.reader in
    let t = taken_so bytes i.of c.args.piece.now c.in-Ok-Count.field-0 taken.Count now c.take.new.self c.in-Ok-Count.field-0-is (c.in-Ok-Count.ensures.taken bytes i.of i.reading) in
    let f = flags_so c.in-Ok-Count.field-0 taken.Count now.ended c.take.new.self.ended c.in-Ok-Count.field-0-is c.in-Ok-Count.ensures.flags in
    streams_counted bytes c.args.piece.now c.args.self.now _ c.take.new.self c.in-Ok-new_members.members i refl c.requires.some t.0 t.1 (c.in-Ok-new_members.ensures.count ∙ c.modules.ensures.count) (subst (λ (n : ℕ). n ≤ 64) c.modules.ensures.count c.modules.ensures.few) f c.in-Ok-new_members.ensures.each

pub returns-in-Ok-feed-clause-takes : goal.returns-in-Ok-feed-clause-takes
returns-in-Ok-feed-clause-takes c = λ bytes i.
    let now = c.args.self.now.reader in
    let at = taken.Bytes c.in-Ok-Bytes.index c.in-Ok-Bytes.count in
    let t = taken_so bytes i.of c.args.piece.now c.in-Ok-Bytes.field-0 at now c.take.new.self c.in-Ok-Bytes.field-0-is (c.in-Ok-Bytes.ensures.taken bytes i.of i.reading) in
    let f = flags_so c.in-Ok-Bytes.field-0 at now.ended c.take.new.self.ended c.in-Ok-Bytes.field-0-is c.in-Ok-Bytes.ensures.flags in
    streams_bytes bytes c.args.piece.now c.args.self.now c.take.new.self c.in-Ok-Bytes.index c.in-Ok-Bytes.count c.index_mut-in-Ok-Bytes.result.now c.feed.new.self (set c.args.self.now.members.items c.in-Ok-Bytes.index c.feed.new.self) i refl t f c.index_mut-in-Ok-Bytes.ensures.value c.in-Ok-feed.ensures

pub returns-in-Err-clause-takes : goal.returns-in-Err-clause-takes
returns-in-Err-clause-takes c = λ bytes i. c.in-Err.ensures.taken bytes i.of i.reading
