use Rattle.std.proofs.Common.{◌≡◌, ◌≤◌, ◌++◌, ℕ, List, length, Result, Ok, Err, is_ok, OnOk, if◌then◌else◌, ap, arith, length-append}
use Rattle.body_cutter.specs.declared.body.Cut.{Cut}
use Rattle.body_cutter.specs.Bodies.{Block, block_of, AreCuts}
use Rattle.body_cutter.proofs.Blocks.{within, enough, extended}
use Rattle.body_cutter.proofs.block.BodyBlock.extend.Goals as goal

-- no byte goes
grows : {S E : Type 0} (r : Result S E) (xs ys zs : List ℕ) → zs ≡ (if is_ok r then xs ++ ys else xs) → length xs ≤ length zs
grows (Ok u) xs ys zs e = omega (arith, ap (λ (l : List ℕ). length l) e, length-append xs ys)
grows (Err u) xs ys zs e = omega (arith, ap (λ (l : List ℕ). length l) e)

came : {S E : Type 0} (r : Result S E) (bytes more : List ℕ) (cuts : List Cut) (b : Block) → block_of bytes cuts ≡ b → AreCuts (length bytes) 0 cuts
    → (bytes2 : List ℕ) → bytes2 ≡ (if is_ok r then bytes ++ more else bytes) → OnOk r (block_of bytes2 cuts ≡ record { bodies = b.bodies; rest = b.rest ++ more })
came (Ok u) bytes more cuts b view is bytes2 e = rw e (extended bytes more cuts b view is)
came (Err u) bytes more cuts b view is bytes2 e = tt

pub invariant_of-self : goal.invariant_of-self
invariant_of-self c =
    let i = c.self.inside in
    enough (length i.bytes.items) (length c.extend_from_slice.new.self.items) 0 i.cuts.items c.self.invariant
    (omega (arith, within (length i.bytes.items) 0 i.cuts.items c.self.invariant, grows c.extend_from_slice.result i.bytes.items c.args.piece.now c.extend_from_slice.new.self.items c.extend_from_slice.ensures.items))

pub returns-clause-ok : goal.returns-clause-ok
returns-clause-ok c =
    let i = c.self.inside in
    came c.extend_from_slice.result i.bytes.items c.args.piece.now i.cuts.items c.args.self.now c.self.view_is c.self.invariant c.extend_from_slice.new.self.items c.extend_from_slice.ensures.items
