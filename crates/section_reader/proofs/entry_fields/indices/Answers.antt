use Rattle.wasm_defs.specs.Fields.{repeated}
use Rattle.wasm_defs.specs.Entries.{listed_index}
use Rattle.leb_feed.proofs.Loops.{goes_on}
use Rattle.section_reader.proofs.entry_fields.indices.Goals as goal

pub loop-preserved : goal.loop-preserved
loop-preserved c =
    rw c.in_ok-push.ensures.items (goes_on (listed_index c.args.most) c.loop.indices.items c.args.n c.loop.counter c.loop.fields c.listed_index.new.fields _ (repeated c.args.n (listed_index c.args.most) c.args.fields.now) c.loop-test.true c.in_ok-listed_index.ensures.read c.loop.invariant)
