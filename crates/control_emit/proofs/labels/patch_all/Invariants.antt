use Rattle.std.proofs.Common.{◌≡◌, ℕ, suc, Option, None, Some, length}
use Rattle.control_emit.specs.Pending.{chain, all_patched, AreWithin, IsBefore}
use Rattle.control_emit.proofs.labels.patch_all.Given as goal

abbrev pub invariant-loop-next : goal.invariant-loop-next
invariant-loop-next l = record {
  size : length l.words ≡ length l.initial.words;
  named : IsBefore (length l.jumps) l.next;
  within : AreWithin (length l.initial.words) (chain l.jumps (length l.jumps) l.next);
  so_far : all_patched l.there (chain l.jumps (length l.jumps) l.next) l.words ≡ all_patched l.there (chain l.jumps (length l.jumps) l.initial.next) l.initial.words;
}

abbrev measure : Option ℕ → ℕ
measure None = 0
measure (Some k) = suc k

abbrev pub decreases-loop-next : goal.decreases-loop-next
decreases-loop-next l = measure l.next
