use Rattle.std.proofs.Common.{◌+◌, ◌-◌, ◌*◌, ◌<◌, ◌∙◌, length, length-set, arith}
use Rattle.section_reader.proofs.Declaring.{one_byte, two_bytes, one_more}
use Rattle.section_reader.proofs.functions.read_short.Goals as goal
use Rattle.section_reader.proofs.functions.read_short.Goals.{then-low-single, else-low-single+else-low-lt128+else-high-ge128+else-types-index}

pub loop-count-preserved : goal.loop-count-preserved
loop-count-preserved c =
    let types = c.args.types in
    let bytes = c.args.bytes.now in
    let l = c.loop-count in
    let i = l.invariant in
    let low = c.from-low.result in
    let room : l.count < length l.indices = omega (arith, c.loop-count-test.true, i.room) in
    elim c.if-low-single.branch [
      | then-low-single w ↦ rw (w.indices-is, w.place-is) (record {
        read =
            one_more types bytes l.indices l.count l.place low _ room
            (one_byte types bytes l.place low (omega (arith, c.loop-count-test.true, i.there)) c.from-low.ensures (omega (arith, w.if-low-single.true, c.min-single.ensures)) (omega (arith, w.if-low-single.true, c.min-single.ensures))) i.read;
        len = length-set l.indices l.count low ∙ i.len;
        more = omega (arith, i.more);
        most = omega (arith, c.loop-count-test.true);
        room = omega (arith, i.room, length-set l.indices l.count low);
        there = omega (arith, i.there);
      })
      | else-low-single+else-low-lt128+else-high-ge128+else-types-index w ↦ rw (w.indices-is, w.place-is) (record {
        read =
            one_more types bytes l.indices l.count l.place _ _ room
            (two_bytes types bytes l.place low w.from-high.result (omega (arith, c.loop-count-test.true, i.there)) c.from-low.ensures w.from-high.ensures w.if-low-lt128.false w.if-high-ge128.false w.if-types-index.false) i.read;
        len = length-set l.indices l.count _ ∙ i.len;
        more = omega (arith, i.more);
        most = omega (arith, c.loop-count-test.true);
        room = omega (arith, i.room, length-set l.indices l.count (low - 128 + 128 * w.from-high.result));
        there = omega (arith, i.there, c.loop-count-test.true);
      })
    ]
