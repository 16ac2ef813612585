use Rattle.std.proofs.Common.{◌≡◌, ℕ, List, length, refl, ap, arith}
use Rattle.body_cutter.specs.declared.body.Mark.{Mark}
use Rattle.body_cutter.specs.Bodies.{Block, bytes_in}
use Rattle.body_cutter.proofs.Blocks.{count, bytes_are}
use Rattle.body_cutter.proofs.block.BodyBlock.mark.Goals as goal

same_mark : (a b k m : ℕ) → a ≡ k → b ≡ m → ◌≡◌ {A = Mark} (record { bodies = a; bytes = b }) (record { bodies = k; bytes = m })
same_mark a b k m p q = rw (p, q) refl

pub returns : goal.returns
returns c =
    let i = c.self.inside in
    let bodies : c.len.result ≡ length c.args.self.now.bodies =
    omega (arith, c.len.ensures, i.cuts.ok.0, count i.bytes.items 0 i.cuts.items, ap (λ (b : Block). length b.bodies) c.self.view_is) in
    let bytes : c.len-2.result ≡ length (bytes_in c.args.self.now) =
    omega (arith, c.len-2.ensures, i.bytes.ok.0, ap (λ (l : List ℕ). length l) (bytes_are i.bytes.items i.cuts.items c.args.self.now c.self.view_is c.self.invariant)) in
    same_mark _ _ _ _ bodies bytes
