use Rattle.std.proofs.Common.{ℕ, ◌≤◌, ◌<◌, slice_index}
use Rattle.io_edges.proofs.pieces.piece_behind.Given as goal

abbrev pub invariant-loop-piece : goal.invariant-loop-piece
invariant-loop-piece l = (i : ℕ) → l.first ≤ i → i < l.piece → slice_index l.ends i ≤ l.place
