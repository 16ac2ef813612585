use Rattle.std.proofs.Common.{sym, subst}
use Rattle.rv_isa.specs.Stored.{AreStored}
use Rattle.rv_isa.proofs.Stored.{appended, joined, taken, dropped}
use Rattle.rv_isa.proofs.compiled.Words.append_own.Goals as goal

pub invariant_of-self : goal.invariant_of-self
invariant_of-self c = appended _ _ _ _ c.extend_from_slice.ensures.items c.self.invariant (subst AreStored (sym c.deref.ensures.value) c.more.invariant)

pub invariant_of-self-2 : goal.invariant_of-self-2
invariant_of-self-2 c =
    let all = c.extend_from_slice-2.new.self.items in
    let count = c.len-count.result in
    let both : AreStored all = appended _ _ _ _ c.extend_from_slice-2.ensures.items c.more.invariant (subst AreStored (sym c.deref-2.ensures.value) c.self.invariant) in
    subst AreStored (sym c.rotate_left.ensures.items) (joined _ _ (dropped count all both) (taken count all both))
