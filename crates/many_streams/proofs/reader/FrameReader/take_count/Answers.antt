use Rattle.std.proofs.Common.{◌≡◌, ◌<◌, ◌⊎◌, inl, inr, ℕ, arith}
use Rattle.many_streams.specs.declared.limits.TheConstants.{MAX_MODULES}
use Rattle.many_streams.proofs.Numbers.{bad_count}
use Rattle.many_streams.proofs.reader.FrameReader.take_count.Goals as goal

out_of_range : (n : ℕ) → (n ≡ 0) ⊎ ((n ≡ 0 → ⊥) × (MAX_MODULES < n)) → (n ≡ 0) ⊎ (MAX_MODULES < n)
out_of_range n (inl none) = inl none
out_of_range n (inr (some, many)) = inr many

pub returns-then-number-eq0-clause-takes : goal.returns-then-number-eq0-clause-takes
returns-then-number-eq0-clause-takes c =
    λ bytes of counted more. bad_count bytes of c.args.self.now c.args.number counted (omega arith) (out_of_range c.args.number c.then-number-eq0.either) more
