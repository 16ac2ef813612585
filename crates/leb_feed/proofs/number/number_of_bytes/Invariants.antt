use Rattle.std.proofs.Common.{◌≡◌, ◌≤◌, ◌<◌, ◌+◌, ◌^◌, drop, length}
use Rattle.wasm_defs.specs.Numbers.{number_at}
use Rattle.leb_feed.specs.Answers.{answer, answer_behind}
use Rattle.leb_feed.proofs.number.number_of_bytes.Given as goal

abbrev pub invariant-loop-at : goal.invariant-loop-at
invariant-loop-at l = record {
  within : l.at ≤ length l.bytes;
  bits_left : 1 ≤ l.left;
  bits_in_all : l.low_bits + l.left ≤ 64;
  fits : l.low < 2 ^ l.low_bits;
  same : answer_behind l.low (2 ^ l.low_bits) l.at (number_at l.signed l.left (drop l.at l.bytes)) ≡ answer l.place (number_at l.signed l.bits (drop l.place l.bytes));
}

abbrev pub decreases-loop-at : goal.decreases-loop-at
decreases-loop-at l = l.left
