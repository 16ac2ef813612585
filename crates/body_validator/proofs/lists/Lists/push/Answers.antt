use Rattle.std.proofs.Common.{List, ℕ, ◌++◌, ◌∷◌, [], ap, ◌∙◌}
use Rattle.std.specs.Borrow.{Bor}
use Rattle.wasm_defs.specs.Typing.{Types}
use Rattle.body_validator.specs.Kept.{paired}
use Rattle.body_validator.proofs.Paired.{paired-push, evenly}
use Rattle.body_validator.proofs.lists.Lists.push.Goals as goal

pub returns : goal.returns
returns c =
    let l = c.args.self.now in
    ap (λ (x : List ℕ). paired c.push_reserved.new.self.items x) c.push_reserved-2.ensures.items
    ∙ ap (λ (x : List (Bor Types)). paired x (l.below.items ++ c.args.below ∷ [])) c.push_reserved.ensures.items ∙ paired-push l.types.items l.below.items c.args.types c.args.below (evenly l)
