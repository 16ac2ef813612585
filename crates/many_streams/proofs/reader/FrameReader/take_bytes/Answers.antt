use Rattle.std.proofs.Common.{◌≡◌, ◌+◌, ◌-◌, ◌++◌, ℕ, min, sym, ap, ◌∙◌, subst, arith}
use Rattle.many_streams.specs.declared.reader.Next.TheVariants as next
use Rattle.many_streams.specs.Frames.{IsBadFrame}
use Rattle.many_streams.specs.Reading.{Progress}
use Rattle.many_streams.proofs.Bytes.{bytes_too_long, took_on, took_out}
use Rattle.many_streams.proofs.Numbers.{bytes_flag}
use Rattle.many_streams.proofs.reader.FrameReader.take_bytes.Goals as goal

pub returns-then-room-eq0-clause-takes : goal.returns-then-room-eq0-clause-takes
returns-then-room-eq0-clause-takes c =
    let piece = c.args.piece.now in
    let now = c.args.self.now in
    λ bytes of r more.
    let at : c.self.inside.at ≡ now.at = ap (λ (f : Progress). f.at) c.self.view_is in
    let at' = r.at in
    let few = r.few in
    subst (λ (n : ℕ). IsBadFrame (bytes ++ (piece ++ more)) n) (sym at) (bytes_too_long bytes of now piece more c.args.index c.args.left c.requires.part r c.requires.some (omega arith))

pub returns-then-taken-left-clause-takes : goal.returns-then-taken-left-clause-takes
returns-then-taken-left-clause-takes c =
    let now = c.args.self.now in
    λ bytes of r.
    let at : c.self.inside.at ≡ now.at = ap (λ (f : Progress). f.at) c.self.view_is in
    took_out bytes of c.args.piece.now now _ c.args.index c.args.left c.min-taken.result c.requires.part r c.requires.some (omega arith) c.if-taken-left.true
    (c.min-taken.ensures ∙ ((λ i. min (c.min.ensures i) (1073741824 - at i))))
    (ap (λ (f : Progress). record f { at = f.at + c.min-taken.result; next = next.Index }) c.self.view_is)

pub returns-clause-takes : goal.returns-clause-takes
returns-clause-takes c =
    let now = c.args.self.now in
    λ bytes of r.
    let at : c.self.inside.at ≡ now.at = ap (λ (f : Progress). f.at) c.self.view_is in
    took_on bytes of c.args.piece.now now _ c.args.index c.args.left c.min-taken.result c.requires.part r c.requires.some (omega arith) c.if-taken-left.false
    (c.min-taken.ensures ∙ ((λ i. min (c.min.ensures i) (1073741824 - at i))))
    (ap (λ (f : Progress). record f { at = f.at + c.min-taken.result; next = next.Bytes c.args.index (c.args.left - c.min-taken.result) }) c.self.view_is)

pub returns-then-taken-left-clause-flags : goal.returns-then-taken-left-clause-flags
returns-then-taken-left-clause-flags c =
    let m = c.requires.may in
    (bytes_flag m.0 m.1 c.args.self.now c.args.index c.args.left c.requires.part m.2, ap (λ (f : Progress). f.ended) c.self.view_is)

pub returns-clause-flags : goal.returns-clause-flags
returns-clause-flags c =
    let m = c.requires.may in
    (bytes_flag m.0 m.1 c.args.self.now c.args.index c.args.left c.requires.part m.2, ap (λ (f : Progress). f.ended) c.self.view_is)
