use Rattle.std.proofs.Common.{List, [], ◌∷◌, ◌∙◌, length, ap, sym, subst}
use Rattle.control_emit.specs.declared.labels.Jump.{Jump}
use Rattle.control_emit.specs.Pending.{pending_of, pending_in, chain, AreKept, IsBefore, all_patched}
use Rattle.control_emit.proofs.Bases.{kept-front, kept-last}
use Rattle.control_emit.proofs.Views.{pending-split}
use Rattle.control_emit.proofs.Calls.{closes}
use Rattle.control_emit.proofs.labels.Labels.close.Goals as goal

pub patch_all-requires-clause-last : goal.patch_all-requires-clause-last
patch_all-requires-clause-last c =
    let js = c.self.inside.jumps.items in
    let kept = kept-last (length js) c.pop.new.self.items c.in-Some.open (subst (AreKept (length js)) c.in-Some.ensures.items c.self.invariant.0) in
    subst (λ (l : List Jump). IsBefore (length l) c.in-Some.open.last_jump) (sym c.as_slice.ensures.value) kept.1

pub invariant_of-self : goal.invariant_of-self
invariant_of-self c =
    let js = c.self.inside.jumps.items in
    (kept-front (length js) c.pop.new.self.items (c.in-Some.open ∷ []) (subst (AreKept (length js)) c.in-Some.ensures.items c.self.invariant.0), c.self.invariant.1)

pub returns : goal.returns
returns c =
    let js = c.self.inside.jumps.items in
    let l = c.in-Some.open in
    let after = c.pop.new.self.items in
    let n = c.place-here.result in
    let parts = sym c.self.view_is ∙ ap (pending_in js) c.in-Some.ensures.items ∙ pending-split js after l [] in
    let is = c.patch_all.ensures ∙ ap (λ (x : List Jump). all_patched n (chain x (length x) l.last_jump) c.patch_test.new.words) c.as_slice.ensures.value ∙ ap (all_patched n (chain js (length js) l.last_jump)) c.patch_test.ensures in
    closes c.args.self.now (pending_in js after) (pending_of js l) c.args.buffer.now c.patch_all.new.words n c.requires.held c.place-here.ensures parts is
