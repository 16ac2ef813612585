use Rattle.std.proofs.Common.{◌≡◌, ◌-◌, take, length, slice_index}
use Rattle.std.specs.List.{flat_map}
use Rattle.io_edges.specs.PiecesState.{ends_from}
use Rattle.io_edges.proofs.pieces.Pieces.new.Given as goal

abbrev pub invariant-loop-piece : goal.invariant-loop-piece
invariant-loop-piece l = record {
  whole : l.whole.items ≡ flat_map (λ piece. piece.items) (take l.piece-index l.pieces);
  ends : l.ends.items ≡ ends_from 0 (take l.piece-index l.pieces);
  last : slice_index l.ends.items (length l.ends.items - 1) ≡ length l.whole.items;
}
