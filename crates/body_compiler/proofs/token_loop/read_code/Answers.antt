use Rattle.std.proofs.Common.{ℕ, List, length, subst, arith, rules}
use Rattle.body_compiler.proofs.CountingOn.{byte_stops}
use Rattle.body_compiler.proofs.Going.{byte_shrinks, byte_takes, isnt_over, is_over, has_more, tested_empty, tested_some}
use Rattle.body_compiler.proofs.Spelled.{bytes_behind}
use Rattle.body_compiler.proofs.token_loop.read_code.Goals as goal

pub loop-reading-smaller : goal.loop-reading-smaller
loop-reading-smaller g c =
    let fewer = byte_shrinks c.loop-reading.fields c.byte.new.self c.in-Ok.at c.in-Ok.opcode c.in-Ok.ensures.read in
    let no_more = c.in-Ok-take_instruction.ensures.shrinks in
    omega (arith, fewer, no_more)

pub take_instruction-requires-clause-bytes : goal.take_instruction-requires-clause-bytes
take_instruction-requires-clause-bytes g c = bytes_behind c.loop-reading.fields c.byte.new.self c.in-Ok.at c.in-Ok.opcode c.in-Ok.ensures.read c.loop-reading.invariant.bytes

pub take_instruction-requires-clause-fits : goal.take_instruction-requires-clause-fits
take_instruction-requires-clause-fits g c =
    let exact = byte_takes c.loop-reading.fields c.byte.new.self c.in-Ok.at c.in-Ok.opcode c.in-Ok.ensures.read in
    subst (λ (n : ℕ). g.T.TokenSink.Fits c.loop-reading.check n c.loop-reading.sink) exact c.loop-reading.invariant.fits

pub take_instruction-requires-clause-more : goal.take_instruction-requires-clause-more
take_instruction-requires-clause-more g c = isnt_over c.is_over.result c.loop-reading-test.true c.is_over.ensures

pub loop-reading-preserved : goal.loop-reading-preserved
loop-reading-preserved g c =
    let i = c.loop-reading.invariant in
    let e = c.in-Ok-take_instruction.ensures in
    record {
      fits = e.fits;
      bytes = e.bytes;
      goes = λ c' code front k. (e.goes c' code c.loop-reading.fields front (i.goes c' code front k) c.in-Ok.ensures.read).0;
    }

pub returns-in-Err-take_instruction-clause-goes : goal.returns-in-Err-take_instruction-clause-goes
returns-in-Err-take_instruction-clause-goes g c = λ c' code front k.
    (tt, (c.in-Err-take_instruction.ensures.goes c' code c.loop-reading.fields front (c.loop-reading.invariant.goes c' code front k) c.in-Ok.ensures.read).1)

pub returns-in-Err-clause-goes : goal.returns-in-Err-clause-goes
returns-in-Err-clause-goes g c = λ c' code front k.
    let going = g.T.TokenSink.going c.args.reading.counted c' c.args.reading.last c.loop-reading.fields c.loop-reading.check code front c.loop-reading.sink (c.loop-reading.invariant.goes c' code front k) in
    (tt, rw c.stop_of.ensures (byte_stops c.args.reading.counted c' c.args.reading.last c.loop-reading.fields c.loop-reading.check code c.in-Err.stop going (isnt_over c.is_over.result c.loop-reading-test.true c.is_over.ensures) c.in-Err.ensures.read))

pub returns-then-not-is_empty-clause-goes : goal.returns-then-not-is_empty-clause-goes
returns-then-not-is_empty-clause-goes g c = λ c' code front k.
    let going = g.T.TokenSink.going c.args.reading.counted c' c.args.reading.last c.loop-reading.fields c.loop-reading.check code front c.loop-reading.sink (c.loop-reading.invariant.goes c' code front k) in (
      tt,
      rw (c.malformed.ensures, c.offset.ensures) (has_more c.args.reading.counted c' c.args.reading.last c.loop-reading.fields c.loop-reading.check code going (is_over c.is_over.result c.loop-reading-test.false c.is_over.ensures)
          (tested_some c.loop-reading.fields.rest c.rest.result.now c.is_empty.result c.rest.ensures c.is_empty.ensures (search rules))),
    )

pub returns-clause-goes : goal.returns-clause-goes
returns-clause-goes g c = λ c' code front k.
    let empty = tested_empty c.loop-reading.fields.rest c.rest.result.now c.is_empty.result c.rest.ensures c.is_empty.ensures (search rules) in
    ((c.loop-reading.invariant.goes c' code front k, empty), tt)

pub returns-clause-over : goal.returns-clause-over
returns-clause-over g c = is_over c.is_over.result c.loop-reading-test.false c.is_over.ensures

pub returns-clause-fits : goal.returns-clause-fits
returns-clause-fits g c =
    let empty = tested_empty c.loop-reading.fields.rest c.rest.result.now c.is_empty.result c.rest.ensures c.is_empty.ensures (search rules) in
    subst (λ (xs : List ℕ). g.T.TokenSink.Fits c.loop-reading.check (length xs) c.loop-reading.sink) empty c.loop-reading.invariant.fits
