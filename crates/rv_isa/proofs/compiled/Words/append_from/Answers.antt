use Rattle.std.proofs.Common.{◌∙◌, ◌-◌, ℕ, List, length, drop, sym, subst, ap, arith, length-drop}
use Rattle.std.proofs.lemmas.List.{take_all}
use Rattle.rv_isa.specs.Stored.{AreStored, words_in}
use Rattle.rv_isa.proofs.Stored.{appended, appended_words, dropped, taken, words_dropped}
use Rattle.rv_isa.proofs.compiled.Words.append_from.Goals as goal

pub invariant_of-self : goal.invariant_of-self
invariant_of-self c =
    let all = c.deref.result.now in
    let more = taken (length all - c.args.index) _ (dropped c.args.index all (subst AreStored (sym c.deref.ensures.value) c.more.invariant)) in
    appended _ _ _ _ c.extend_from_slice.ensures.items c.self.invariant more

pub returns-clause-ok : goal.returns-clause-ok
returns-clause-ok c =
    let all = c.deref.result.now in
    let index = c.args.index in
    let whole = take_all (length all - index) (drop index all) (omega (arith, length-drop index all)) in
    appended_words c.extend_from_slice.result _ _ _ c.args.self.now (drop index c.args.more.now) c.extend_from_slice.ensures.items
    c.self.view_is (ap words_in whole ∙ words_dropped index all ∙ ap (λ (l : List (List ℕ)). drop index (words_in l)) c.deref.ensures.value ∙ ap (drop index) c.more.view_is)
