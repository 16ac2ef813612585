use Rattle.std.proofs.Common.{ℕ, List, [], ◌∷◌, ◌++◌, ◌≡◌, ◌∙◌, ap, arith, length}
use Rattle.io_edges.proofs.PieceEnds.{ends_from-ordered, gathers_more, last_pushed}
use Rattle.io_edges.proofs.pieces.Pieces.new.Goals as goal

pub loop-piece-preserved : goal.loop-piece-preserved
loop-piece-preserved c =
    let piece = c.piece-item.result in
    let held = c.loop-piece.invariant in
    let more = gathers_more c.args.pieces.now c.loop-piece.piece-index piece c.loop-piece.whole.items c.loop-piece.ends.items c.loop-piece-test.true c.piece-item.is held.whole held.ends in
    let whole : c.extend_from_slice.new.self.items ≡ c.loop-piece.whole.items ++ piece.items = c.in_ok-extend_from_slice.ensures.items ∙ ap (λ (l : List ℕ). c.loop-piece.whole.items ++ l) c.deref.ensures.value in
    let end : c.len.result ≡ length c.extend_from_slice.new.self.items = omega arith in
    let ends : c.push.new.self.items ≡ c.loop-piece.ends.items ++ length c.extend_from_slice.new.self.items ∷ [] =
    c.in_ok-push.ensures.items ∙ ap (λ (n : ℕ). c.loop-piece.ends.items ++ n ∷ []) end in
    record {
      whole = whole ∙ more.0;
      ends = ends ∙ ap (λ (l : List ℕ). c.loop-piece.ends.items ++ length l ∷ []) whole ∙ more.1;
      last = rw ends (last_pushed c.loop-piece.ends.items (length c.extend_from_slice.new.self.items));
    }

pub invariant_of-result : goal.invariant_of-result
invariant_of-result c = record {
  within = omega arith;
  limit = λ x e. omega arith;
  last = c.loop-piece.invariant.last;
  ordered = rw c.loop-piece.invariant.ends (ends_from-ordered 0 _);
  passed = λ i h. omega arith;
}
