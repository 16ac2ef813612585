use Rattle.std.proofs.Common.{◌≡◌, ◌++◌, ◌∷◌, [], length, arith}
use Rattle.body_cutter.specs.declared.body.Cut.{Cut}
use Rattle.body_cutter.specs.Bodies.{block_of, AreCuts}
use Rattle.body_cutter.proofs.Blocks.{completed}
use Rattle.body_cutter.proofs.block.BodyBlock.complete.Goals as goal
use Rattle.body_cutter.proofs.block.BodyBlock.complete.Goals.{In_ok-push}

-- the bodies that there are then, and their cuts
more : (c : In_ok-push) → (block_of c.self.inside.bytes.items c.push.new.self.items ≡ record { bodies = c.args.self.now.bodies ++ record { index = c.args.index; size = c.args.size; first = c.args.first; bytes = c.args.self.now.rest } ∷ []; rest = [] })
    × AreCuts (length c.self.inside.bytes.items) 0 c.push.new.self.items
more c =
    let i = c.self.inside in
    let last : Cut = record { index = c.args.index; size = c.args.size; first = c.args.first; end = c.len.result } in
    completed i.bytes.items last (omega (arith, c.len.ensures, i.bytes.ok.0)) i.cuts.items c.args.self.now c.self.view_is c.self.invariant c.requires c.push.new.self.items c.in_ok-push.ensures.items

pub invariant_of-self-2 : goal.invariant_of-self-2
invariant_of-self-2 c = (more (goal.at.invariant_of-self-2 c).In_ok-push).1

pub returns-clause-ok : goal.returns-clause-ok
returns-clause-ok c = (more (goal.at.returns-clause-ok c).In_ok-push).0
