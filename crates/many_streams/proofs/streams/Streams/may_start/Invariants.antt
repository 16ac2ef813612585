use Rattle.std.proofs.Common.{◌≡◌, ◌<◌, ℕ, Some, slice_get}
use Rattle.many_streams.specs.declared.member.Member.{Member}
use Rattle.many_streams.specs.Flows.{IsWaiting}
use Rattle.many_streams.proofs.streams.Streams.may_start.Given as goal

abbrev pub invariant-loop-k : goal.invariant-loop-k
invariant-loop-k l = (i : ℕ) (m : Member) → i < l.k → slice_get l.self.members.items i ≡ Some m → IsWaiting m
