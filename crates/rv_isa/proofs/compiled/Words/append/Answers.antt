use Rattle.std.proofs.Common.{sym, subst}
use Rattle.rv_isa.specs.Stored.{AreStored}
use Rattle.rv_isa.proofs.Stored.{appended}
use Rattle.rv_isa.proofs.compiled.Words.append.Goals as goal

pub invariant_of-self : goal.invariant_of-self
invariant_of-self c = appended _ _ _ _ c.extend_from_slice.ensures.items c.self.invariant (subst AreStored (sym c.deref.ensures.value) c.more.invariant)
