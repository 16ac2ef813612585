use Rattle.rv_isa.proofs.Stored.{resized}
use Rattle.rv_isa.proofs.compiled.Words.resize.Goals as goal

pub invariant_of-self : goal.invariant_of-self
invariant_of-self c = resized _ _ _ _ _ c.resize.ensures.items c.self.invariant
