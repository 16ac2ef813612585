use Rattle.std.proofs.Common.{List, ℕ, ap, ◌∙◌}
use Rattle.std.specs.Borrow.{Bor}
use Rattle.wasm_defs.specs.Typing.{Types}
use Rattle.body_validator.specs.Kept.{paired}
use Rattle.body_validator.proofs.lists.Lists.reserve.Goals as goal

pub returns-clause-same : goal.returns-clause-same
returns-clause-same c =
    let l = c.args.self.now in
    ap (λ (x : List ℕ). paired c.reserve.new.self.items x) c.reserve-2.ensures.items ∙ ap (λ (x : List (Bor Types)). paired x l.below.items) c.reserve.ensures.items
