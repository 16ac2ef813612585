use Rattle.std.specs.Prelude.{length}
use Rattle.wasm_defs.specs.Bodies.{Spelled}
use Rattle.wasm_defs.specs.Typing.{Context}
use Rattle.wasm_laws.specs.Sections.{AreBytes}
use Rattle.body_compiler.proofs.token_loop.read_code.Given as goal

abbrev pub invariant-loop-reading : goal.invariant-loop-reading
invariant-loop-reading g l = record {
  fits : g.T.TokenSink.Fits l.check (length l.fields.rest) l.sink;
  bytes : AreBytes l.fields.rest;
  goes : (c : Context) (code : Spelled) (front : g.T.TokenSink.Front) → g.T.TokenSink.Tracks l.reading.counted c l.reading.last l.fn.fields l.fn.check code front l.fn.sink
      → g.T.TokenSink.Tracks l.reading.counted c l.reading.last l.fields l.check code front l.sink;
}

abbrev pub decreases-loop-reading : goal.decreases-loop-reading
decreases-loop-reading g l = length l.fields.rest
