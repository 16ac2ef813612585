use Rattle.std.proofs.Common.{◌<◌, ◌^◌, ℕ, List, length, ap, arith, subst}
use Rattle.std.specs.List.{All}
use Rattle.rv_isa.proofs.Stored.{small, words_length}
use Rattle.rv_isa.proofs.compiled.Words.keeps_bounds.Goals as goal

pub returns-clause-small : goal.returns-clause-small
returns-clause-small c = subst (All (λ word. word < 2 ^ 32)) c.self.view_is (small c.self.inside.words.items c.self.invariant)

pub returns-clause-few : goal.returns-clause-few
returns-clause-few c = omega (
  arith,
  c.as_slice-words.type_inv,
  c.as_slice-words.ensures.len,
  c.self.inside.words.ok.0,
  words_length c.self.inside.words.items,
  ap (λ (l : List ℕ). length l) c.self.view_is,
)
