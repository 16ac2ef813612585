use Rattle.std.proofs.Common.{◌∙◌, sym, subst, ap}
use Rattle.rv_isa.specs.Stored.{AreStored, words_in}
use Rattle.rv_isa.proofs.Stored.{appended, appended_words, made, read_back}
use Rattle.rv_isa.proofs.compiled.Words.append_array.Goals as goal

pub invariant_of-self : goal.invariant_of-self
invariant_of-self g c = appended _ _ _ _ c.extend_from_slice.ensures.items c.self.invariant (subst AreStored (sym c.stored.ensures.stored) (made c.args.words.now c.stored.ensures.small))

pub returns-clause-ok : goal.returns-clause-ok
returns-clause-ok g c =
    appended_words c.extend_from_slice.result _ _ _ c.args.self.now c.args.words.now c.extend_from_slice.ensures.items c.self.view_is
    (ap words_in c.stored.ensures.stored ∙ read_back c.args.words.now c.stored.ensures.small)
