use Rattle.std.proofs.Common.{◌≡◌, ◌+◌, ℕ, List, length, drop, get_or, suc, sym, ap, ◌∙◌, arith}
use Rattle.std.proofs.Math.Seq.{drop-cons}
use Rattle.control_emit.specs.Pending.{unjumped, all_unjumped}
use Rattle.control_emit.proofs.Calls.{below-next}
use Rattle.control_emit.proofs.Undoing.{length-unjumped}
use Rattle.control_emit.proofs.labels.Labels.forget_all.Goals as goal

pub loop-label-preserved : goal.loop-label-preserved
loop-label-preserved c =
    let i = c.loop-label.invariant in
    let k = c.loop-label.label-index in
    let is = c.args.labels.now in
    let next : suc k ≡ k + 1 = omega arith in
    record {
      count = ap length c.forget.ensures ∙ length-unjumped (get_or is k 0) c.loop-label.self ∙ i.count;
      below = below-next (length c.args.self.now) k is i.below;
      left =
          ap (all_unjumped (drop (k + 1) is)) c.forget.ensures
          ∙ ap (λ (m : ℕ). all_unjumped (drop m is) (unjumped (get_or is k 0) c.loop-label.self)) (sym next)
          ∙ ap (λ (x : List ℕ). all_unjumped x c.loop-label.self) (sym (drop-cons is k 0 c.loop-label-test.true))
          ∙ i.left;
    }
