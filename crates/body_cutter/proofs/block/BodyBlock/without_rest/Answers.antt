use Rattle.std.proofs.Common.{◌≡◌, ◌∙◌, [], length, arith}
use Rattle.body_cutter.specs.Bodies.{block_of, AreCuts}
use Rattle.body_cutter.proofs.Blocks.{end_is, without_rest}
use Rattle.body_cutter.proofs.block.BodyBlock.without_rest.Goals as goal
use Rattle.body_cutter.proofs.block.BodyBlock.without_rest.Goals.{After-shrink_to_fit-2}

-- the bodies that are left, and their cuts
left : (c : After-shrink_to_fit-2) → (block_of c.shrink_to_fit.new.self.items c.shrink_to_fit-2.new.self.items ≡ record { bodies = c.args.self.bodies; rest = [] })
    × AreCuts (length c.shrink_to_fit.new.self.items) 0 c.shrink_to_fit-2.new.self.items
left c =
    let i = c.self.inside in
    let end = end_is i.cuts.items c.deref.result.now c.len.result c.begin_of-end.result c.begin_of-end.ensures c.deref.ensures.value (omega (arith, c.len.ensures, i.cuts.ok.0)) in
    without_rest i.bytes.items i.cuts.items c.args.self c.self.view_is c.self.invariant c.begin_of-end.result end
    _ (c.shrink_to_fit.ensures.items ∙ c.truncate.ensures.items) _ c.shrink_to_fit-2.ensures.items

pub invariant_of-self : goal.invariant_of-self
invariant_of-self c = (left (goal.at.invariant_of-self c).After-shrink_to_fit-2).1

pub returns : goal.returns
returns c = (left (goal.at.returns c).After-shrink_to_fit-2).0
