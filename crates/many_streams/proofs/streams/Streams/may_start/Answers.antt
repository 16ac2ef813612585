use Rattle.std.proofs.Common.{◌≡◌, ℕ, Some, slice_get, length, refl, subst, arith}
use mathlib.Core.Logic.{dite}
use native.Mathlib.Decide.{ℕ_discrete}
use Rattle.std.proofs.lemmas.Option.{slice_get_read}
use Rattle.many_streams.specs.Flows.{IsWaiting}
use Rattle.batch_pool.proofs.Elements.{some_one}
use Rattle.many_streams.proofs.streams.Streams.may_start.Goals as goal

pub loop-k-preserved : goal.loop-k-preserved
loop-k-preserved c = λ i m less at. dite (ℕ_discrete i c.loop-k.k)
    (λ same.
    let here = c.index.result.now in
    let is = slice_get_read c.args.self.now.members.items (length c.args.self.now.members.items) c.loop-k.k here refl (omega arith) c.index.ensures in
    subst IsWaiting (some_one c.args.self.now.members.items c.loop-k.k here m is (subst (λ (j : ℕ). slice_get c.args.self.now.members.items j ≡ Some m) same at)) c.in-Some.ensures)
    (λ other. c.loop-k.invariant i m (omega (arith, less, other)) at)
