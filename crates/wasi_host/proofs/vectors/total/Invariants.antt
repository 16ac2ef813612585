use Rattle.std.proofs.Common.{◌≡◌, ◌+◌, ◌*◌, ◌≤◌, length}
use Rattle.std.specs.Prelude.{option_map}
use Rattle.wasi_host.specs.Vectors.{gathered}
use Rattle.wasi_host.proofs.vectors.total.Given as goal

abbrev pub invariant-loop-left : goal.invariant-loop-left
invariant-loop-left l = record {
  same : option_map length (gathered l.memory l.iovs l.iovs_len) ≡ option_map (λ n. l.sum + n) (option_map length (gathered l.memory l.address l.left));
  most : l.sum + l.left * 4294967296 ≤ 4398046511104;
  at : l.address + 8 * l.left ≡ l.iovs + 8 * l.iovs_len;
  few : l.iovs_len ≤ 1024;
}

abbrev pub decreases-loop-left : goal.decreases-loop-left
decreases-loop-left l = l.left
