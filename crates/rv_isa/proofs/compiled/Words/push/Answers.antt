use Rattle.std.proofs.Common.{ℕ, List, [], ◌∷◌, sym, subst}
use Rattle.rv_isa.specs.Stored.{AreStored}
use Rattle.rv_isa.proofs.Stored.{appended, made, one_fits}
use Rattle.rv_isa.proofs.compiled.Words.push.Goals as goal

pub invariant_of-self-2 : goal.invariant_of-self-2
invariant_of-self-2 c =
    let one = made (c.args.word ∷ []) (one_fits c.args.word c.ranges.word.fits) in
    appended _ _ _ _ c.push.ensures.items c.self.invariant (subst (λ (b : List ℕ). AreStored (b ∷ [])) (sym c.to_le_bytes.ensures) one)
