use Rattle.std.proofs.Common.{◌++◌, take, drop, refl}
use Rattle.module_stream.proofs.Declaring.{functions_taken, functions_less}
use Rattle.module_stream.proofs.Streaming.{reading_of, going_reading}
use Rattle.module_stream.proofs.compilation.Compilation.take_functions.Goals as goal

pub returns-clause-goes : goal.returns-clause-goes
returns-clause-goes c = λ bytes more g.
    let s = c.args.self.now in
    let piece = c.args.piece.now in
    let f = c.take_functions-read in
    let t = f.ensures.takes in
    going_reading bytes _ (drop f.result.bytes piece ++ more) c.requires.none
    (functions_taken s.front f.new.self piece f.new.types f.result t bytes more s.spaces c.add_functions.new.self s.codes (take f.result.count f.new.types) t.are c.in_ok-add_functions.ensures.ok
    (reading_of bytes s (piece ++ more) c.requires.none g))

pub returns-clause-less : goal.returns-clause-less
returns-clause-less c =
    let s = c.args.self.now in
    let f = c.take_functions-read in
    functions_less s.front f.new.self c.args.piece.now f.new.types f.result f.ensures.takes s (record s { front = f.new.self; spaces = c.add_functions.new.self }) refl refl c.requires.none c.requires.none
