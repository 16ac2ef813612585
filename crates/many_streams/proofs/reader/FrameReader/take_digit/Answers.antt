use Rattle.std.proofs.Common.{◌≡◌, ◌<◌, ◌++◌, ℕ, length, sym, ap, subst, arith}
use Rattle.std.proofs.lemmas.List.{length-take}
use Rattle.many_streams.specs.Frames.{IsBadFrame}
use Rattle.many_streams.specs.Reading.{Progress}
use Rattle.many_streams.proofs.Numbers.{number_too_long}
use Rattle.many_streams.proofs.reader.FrameReader.take_digit.Goals as goal

pub returns-then-self-eq-MAX_INPUT-clause-takes : goal.returns-then-self-eq-MAX_INPUT-clause-takes
returns-then-self-eq-MAX_INPUT-clause-takes c =
    let piece = c.args.piece.now in
    let now = c.args.self.now in
    λ bytes of r more.
    let at : c.self.inside.at ≡ now.at = ap (λ (f : Progress). f.at) c.self.view_is in
    let short : length now.number < 4 =
    subst (λ (f : Progress). length f.number < 4) c.self.view_is (let i = c.self.invariant in let have = i.0 in omega (arith, length-take c.self.inside.have c.self.inside.number)) in
    subst (λ (n : ℕ). IsBadFrame (bytes ++ (piece ++ more)) n) (sym at) (number_too_long bytes of now piece more c.requires.part short r c.requires.some (omega arith))
