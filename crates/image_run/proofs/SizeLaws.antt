-- What is written to a region is as long as what was there.
use Rattle.std.proofs.Common.{◌≡◌, ℕ, List, sym, ap, ◌∙◌}
use Rattle.rv_isa.specs.declared.stepping.Region.TheVariants.{Stack}
use Rattle.rv64im_machine.specs.Contents.{Contents as Machine}
use Rattle.rv64im_machine.specs.Lending.{with_bytes}

-- a stack that was written again is the one that was written last
pub written_again : (old now new : Machine) (stack : List ℕ) → now ≡ with_bytes old Stack now.bytes.stack → new ≡ with_bytes now Stack stack → new ≡ with_bytes old Stack new.bytes.stack
written_again old now new stack before is =
    is ∙ ap (λ (m : Machine). with_bytes m Stack stack) before ∙ ap (λ (l : List ℕ). with_bytes old Stack l) (sym (ap (λ (m : Machine). m.bytes.stack) is))
