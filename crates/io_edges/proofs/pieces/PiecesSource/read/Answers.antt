use Rattle.std.proofs.Common.{rules, ◌≡◌, ◌+◌, ◌-◌, ◌<◌, take, drop, length, ap, ℕ, List, Option, Some, ◌∙◌, arith}
use Rattle.io_edges.proofs.Parts.{part_read}
use Rattle.io_edges.proofs.PieceEnds.{stops_behind}
use Rattle.io_edges.proofs.pieces.PiecesSource.read.Goals as goal

pub overflow_sub-end : goal.overflow_sub-end
overflow_sub-end c =
    let here : c.self.inside.fails_at ≡ Some c.self.inside.given → ⊥ = search rules in
    let next = c.piece_behind-self-inside in
    let stop = stops_behind next.result c.index.result.now c.len-2.result c.deref.result.now c.deref.ensures.value c.self.invariant (omega arith) here (omega arith) next.ensures.passed next.ensures.behind c.index.ensures in
    omega (arith, stop, c.unwrap_or.ensures, c.min-end.ensures)

abbrev some : List ℕ → Option (List ℕ)
some l = Some l

pub returns-clause-bytes : goal.returns-clause-bytes
returns-clause-bytes c =
    let p = c.self.inside in
    let n = c.min-count.result in
    let here : p.fails_at ≡ Some p.given → ⊥ = search rules in
    let next = c.piece_behind-self-inside in
    let stop = stops_behind next.result c.index.result.now c.len-2.result c.deref.result.now c.deref.ensures.value c.self.invariant (omega arith) here (omega arith) next.ensures.passed next.ensures.behind c.index.ensures in
    let d = c.deref-2.ensures.value in
    let count : (0 < n) × (p.given + n < length p.whole.items + 1) = (omega (arith, stop), omega (arith, stop)) in
    let e : p.given + n - p.given ≡ n = omega arith in
    let copied = c.copy_from_slice.ensures.after ∙ ap (λ k. take k (drop p.given c.deref-2.result.now)) e ∙ ap (λ l. take n (drop p.given l)) d in
    let part = part_read p.whole.items c.args.buf.now c.copy_from_slice.new.self p.given n count.0 (omega arith) (omega (arith, count)) copied in
    rw (← c.self.view_is) (part.0, part.1, ap some part.2)
