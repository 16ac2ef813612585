use Rattle.std.proofs.Common.{◌∙◌, ◌<◌, ◌-◌, ℕ, List, length, drop, ap, arith}
use Rattle.std.proofs.lemmas.List.{length-take}
use Rattle.body_cutter.specs.declared.body.Cut.{Cut}
use Rattle.body_cutter.specs.Bodies.{Block, body_at, body_between}
use Rattle.body_cutter.proofs.Blocks.{count, IsAt, stands}
use Rattle.body_cutter.proofs.block.BodyBlock.get.Goals as goal
use Rattle.body_cutter.proofs.block.BodyBlock.get.Goals.{After-self, After-begin_of-begin}

few : (c : After-self) → c.args.index < length c.self.inside.cuts.items
few c =
    let i = c.self.inside in
    omega (arith, c.requires, count i.bytes.items 0 i.cuts.items, ap (λ (b : Block). length b.bodies) c.self.view_is)

pub index-cut-requires : goal.index-cut-requires
index-cut-requires c = omega (arith, few (goal.at.index-cut-requires c).After-self, c.self.inside.cuts.ok.0)

pub begin_of-begin-requires : goal.begin_of-begin-requires
begin_of-begin-requires c = omega (arith, few (goal.at.begin_of-begin-requires c).After-self, ap (λ (l : List Cut). length l) c.deref.ensures.value)

at : (c : After-begin_of-begin) → IsAt c.self.inside.bytes.items c.begin_of-begin.result c.index-cut.result.now (body_at c.args.self.now.bodies c.args.index)
at c =
    let i = c.self.inside in
    stands i.bytes.items i.cuts.items c.args.self.now c.self.view_is c.self.invariant c.args.index c.deref.result.now c.begin_of-begin.result c.index-cut.result.now
    c.requires c.deref.ensures.value c.begin_of-begin.ensures c.index-cut.ensures

pub slice_bounds-result-count : goal.slice_bounds-result-count
slice_bounds-result-count c = (at (goal.at.slice_bounds-result-count c).After-begin_of-begin).rises

pub slice_bounds-result-start : goal.slice_bounds-result-start
slice_bounds-result-start c = (at (goal.at.slice_bounds-result-start c).After-begin_of-begin).rises

pub slice_bounds-result-end : goal.slice_bounds-result-end
slice_bounds-result-end c = omega (arith, (at (goal.at.slice_bounds-result-end c).After-begin_of-begin).within, ap (λ (l : List ℕ). length l) c.deref-2.ensures.value)

pub returns-clause-body : goal.returns-clause-body
returns-clause-body c =
    ap (λ (l : List ℕ). body_between l c.begin_of-begin.result c.index-cut.result.now) c.deref-2.ensures.value ∙ (at (goal.at.returns-clause-body c).After-begin_of-begin).is

pub returns-clause-small : goal.returns-clause-small
returns-clause-small c =
    let begin = c.begin_of-begin.result in
    let end = c.index-cut.result.now.end in
    omega (arith, (at (goal.at.returns-clause-small c).After-begin_of-begin).small, length-take (end - begin) (drop begin c.deref-2.result.now))
