use Rattle.std.proofs.Common.{◌≡◌, ℕ, Bool, List, true, false, get_or, ap, subst, arith}
use Rattle.std.proofs.Math.ListN.{set}
use Rattle.many_streams.specs.declared.reader.Next.TheVariants as next
use Rattle.many_streams.specs.Reading.{Progress, HasLength}
use Rattle.many_streams.proofs.Numbers.{length_on, length_flag, ended_all, ended_one}
use Rattle.many_streams.proofs.reader.FrameReader.take_length.Goals as goal

pub returns-then-number-ne0-clause-takes : goal.returns-then-number-ne0-clause-takes
returns-then-number-ne0-clause-takes c =
    λ bytes of m. length_on bytes of c.args.self.now _ c.args.index c.args.number m (omega arith) (omega arith) (ap (λ (f : Progress). record f { next = next.Bytes c.args.index c.args.number }) c.self.view_is)

pub returns-then-are_ended-clause-takes : goal.returns-then-are_ended-clause-takes
returns-then-are_ended-clause-takes c =
    let now = c.args.self.now in
    λ bytes of m.
    let modules : c.self.inside.modules ≡ now.modules = ap (λ (f : Progress). f.modules) c.self.view_is in
    let i = c.self.invariant in
    let few = i.1 in
    ended_all bytes of now _ c.args.index (omega arith) (subst (λ (n : ℕ). HasLength bytes of now c.args.index n) c.if-number-ne0.false m)
    (ap (λ (f : Progress). record f { ended = set f.ended c.args.index true; next = next.Nothing }) c.self.view_is)
    (λ k below. subst (λ (l : List Bool). get_or (set l c.args.index true) k false ≡ true) (ap (λ (f : Progress). f.ended) c.self.view_is) (c.are_ended.ensures.all c.if-are_ended.true k (omega arith)))

pub returns-clause-takes : goal.returns-clause-takes
returns-clause-takes c =
    let now = c.args.self.now in
    λ bytes of m.
    let modules : c.self.inside.modules ≡ now.modules = ap (λ (f : Progress). f.modules) c.self.view_is in
    let i = c.self.invariant in
    let few = i.1 in
    let one = c.are_ended.ensures.one c.if-are_ended.false in
    let below = one.1 in
    ended_one bytes of now _ c.args.index one.0 (omega arith) (subst (λ (n : ℕ). HasLength bytes of now c.args.index n) c.if-number-ne0.false m)
    (ap (λ (f : Progress). record f { ended = set f.ended c.args.index true; next = next.Index }) c.self.view_is)
    (omega arith) (subst (λ (l : List Bool). get_or (set l c.args.index true) one.0 false ≡ false) (ap (λ (f : Progress). f.ended) c.self.view_is) one.2)

pub returns-then-are_ended-clause-flags : goal.returns-then-are_ended-clause-flags
returns-then-are_ended-clause-flags c =
    let r = c.requires in
    let flag = length_flag r.0 r.1 c.args.self.now c.args.index c.args.number r.2 in
    (flag.0, flag.1, ap (λ (f : Progress). set f.ended c.args.index true) c.self.view_is)

pub returns-clause-flags : goal.returns-clause-flags
returns-clause-flags c =
    let r = c.requires in
    let flag = length_flag r.0 r.1 c.args.self.now c.args.index c.args.number r.2 in
    (flag.0, flag.1, ap (λ (f : Progress). set f.ended c.args.index true) c.self.view_is)
