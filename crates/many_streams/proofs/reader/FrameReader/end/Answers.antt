use Rattle.std.proofs.Common.{◌≡◌, ◌<◌, length, sym, ap, ◌∙◌, subst, arith}
use Rattle.std.proofs.lemmas.List.{length-take}
use Rattle.many_streams.specs.Reading.{Progress}
use Rattle.many_streams.proofs.Ending.{ends_cut_off, whole_frames, all_set}
use Rattle.many_streams.proofs.reader.FrameReader.end.Goals as goal

pub returns-in_default-clause-ends : goal.returns-in_default-clause-ends
returns-in_default-clause-ends c =
    let now = c.args.self.now in
    λ bytes of r.
    let same = c.self.view_is in
    let at : c.self.inside.at ≡ now.at = ap (λ (f : Progress). f.at) same in
    let short : length now.number < 4 =
    subst (λ (f : Progress). length f.number < 4) same (let i = c.self.invariant in let have = i.0 in omega (arith, length-take c.self.inside.have c.self.inside.number)) in
    let e = ends_cut_off bytes of now r (λ is. c.in_default.not-Nothing (ap (λ (f : Progress). f.next) same ∙ is)) short in
    (e.0, at ∙ e.1)

pub returns-in-Nothing-clause-ends : goal.returns-in-Nothing-clause-ends
returns-in-Nothing-clause-ends c =
    λ bytes of r list count each. whole_frames bytes of c.args.self.now list (sym (ap (λ (f : Progress). f.next) c.self.view_is) ∙ c.in-Nothing.is) r count each

pub returns-in-Nothing-clause-flags : goal.returns-in-Nothing-clause-flags
returns-in-Nothing-clause-flags c = let r = c.requires in all_set r.0 r.1 c.args.self.now (sym (ap (λ (f : Progress). f.next) c.self.view_is) ∙ c.in-Nothing.is) r.2
