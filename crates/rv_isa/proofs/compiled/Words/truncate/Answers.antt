use Rattle.std.proofs.Common.{◌∙◌, sym, subst, ap, take}
use Rattle.rv_isa.specs.Stored.{AreStored, words_in}
use Rattle.rv_isa.proofs.Stored.{taken, words_taken}
use Rattle.rv_isa.proofs.compiled.Words.truncate.Goals as goal

pub invariant_of-self : goal.invariant_of-self
invariant_of-self c = subst AreStored (sym c.truncate.ensures.items) (taken c.args.words c.self.inside.words.items c.self.invariant)

pub returns : goal.returns
returns c =
    ap words_in c.truncate.ensures.items ∙ words_taken c.args.words c.self.inside.words.items ∙ ap (take c.args.words) c.self.view_is
