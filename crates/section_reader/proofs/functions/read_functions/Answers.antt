use Rattle.std.proofs.Common.{◌∙◌, length-set, arith}
use Rattle.section_reader.proofs.Declaring.{one_more}
use Rattle.section_reader.proofs.functions.read_functions.Goals as goal

pub reading-preserved : goal.reading-preserved
reading-preserved c =
    let r = c.read_short-read in
    record {
      read = one_more _ c.args.bytes.now r.new.indices r.result.count r.result.bytes c.in-Some.index c.in-Some.next (omega (arith, c.if-indices-read.false, r.ensures.read.room)) c.in-Some.ensures r.ensures.read;
      len = length-set r.new.indices r.result.count c.in-Some.index ∙ r.ensures.len ∙ c.reading.invariant.len;
    }
