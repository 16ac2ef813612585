use Rattle.std.proofs.Common.{◌∙◌, ℕ, List, sym, subst, ap}
use Rattle.std.specs.Prelude.{slice_set}
use Rattle.rv_isa.specs.Stored.{AreStored, words_in}
use Rattle.rv_isa.proofs.Stored.{replaced, words_replaced}
use Rattle.rv_isa.proofs.compiled.Words.set.Goals as goal

pub invariant_of-self : goal.invariant_of-self
invariant_of-self c =
    let all = c.self.inside.words.items in
    subst (λ (b : List ℕ). AreStored (slice_set all c.args.index b)) (sym c.to_le_bytes.ensures) (replaced all c.args.index c.args.word c.ranges.word.fits c.self.invariant)

pub returns-then-index-len : goal.returns-then-index-len
returns-then-index-len c =
    let all = c.self.inside.words.items in
    ap (λ (b : List ℕ). words_in (slice_set all c.args.index b)) c.to_le_bytes.ensures
    ∙ words_replaced all c.args.index c.args.word c.ranges.word.fits
    ∙ ap (λ (l : List ℕ). slice_set l c.args.index c.args.word) c.self.view_is
