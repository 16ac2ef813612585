use Rattle.std.proofs.Common.{length}
use Rattle.body_compiler.proofs.CountingOn.{instruction_stops}
use Rattle.body_compiler.proofs.Going.{instruction_shrinks, on_any}
use Rattle.body_compiler.proofs.Spelled.{bytes_later, token_in_range}
use Rattle.body_compiler.proofs.token_loop.take_other.Goals as goal

pub returns-in-Ok-clause-shrinks : goal.returns-in-Ok-clause-shrinks
returns-in-Ok-clause-shrinks g c =
    on_any _ _ (instruction_shrinks c.args.reading.counted c.args.at c.args.opcode c.args.fields.now c.instruction.new.fields _ (c.in-Ok.ensures))

pub returns-in-Ok-clause-bytes : goal.returns-in-Ok-clause-bytes
returns-in-Ok-clause-bytes g c =
    on_any _ _ (bytes_later c.args.reading.counted c.args.at c.args.opcode c.args.fields.now c.instruction.new.fields _ (c.in-Ok.ensures) c.requires.bytes)

pub returns-in-Ok-clause-fits : goal.returns-in-Ok-clause-fits
returns-in-Ok-clause-fits g c =
    c.take_read.ensures.fits (length c.args.fields.now.rest) (length c.instruction.new.fields.rest) c.requires.fits (instruction_shrinks c.args.reading.counted c.args.at c.args.opcode c.args.fields.now c.instruction.new.fields _ (c.in-Ok.ensures))

pub take_read-requires-clause-range : goal.take_read-requires-clause-range
take_read-requires-clause-range g c =
    token_in_range c.args.reading.counted c.args.at c.args.opcode c.args.fields.now c.instruction.new.fields c.in-Ok.token c.requires.bytes c.in-Ok.ensures

pub returns-in-Ok-clause-goes : goal.returns-in-Ok-clause-goes
returns-in-Ok-clause-goes g c =
    λ c' code before front k h. c.take_read.ensures.goes c.args.reading.counted c' c.args.reading.last c.args.opcode code before c.args.fields.now c.instruction.new.fields front k h c.in-Ok.ensures

pub returns-in-Err-clause-goes : goal.returns-in-Err-clause-goes
returns-in-Err-clause-goes g c =
    λ c' code before front k h. (
      tt,
      rw c.stop_of.ensures (instruction_stops c.args.reading.counted c' c.args.reading.last c.args.at c.args.opcode before c.args.fields.now c.args.check.now code c.in-Err.stop
          (g.T.TokenSink.going c.args.reading.counted c' c.args.reading.last before c.args.check.now code front c.args.sink.now k) h c.requires.more c.in-Err.ensures),
    )
