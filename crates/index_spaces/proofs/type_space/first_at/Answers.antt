use Rattle.std.proofs.Common.{Bool, cond, Some, ap, ◌∙◌}
use Rattle.std.proofs.lemmas.Map.Text.{is_eq-slice_cmp}
use Rattle.index_spaces.specs.Likes.{index_of}
use Rattle.index_spaces.proofs.type_space.first_at.Goals as goal

pub returns-clause-ok : goal.returns-clause-ok
returns-clause-ok c = λ q.
    c.in_ok-insert.ensures.updates.0 q
    ∙ ap (λ (b : Bool). cond b (Some c.args.place) (index_of c.args.firsts.now q)) (is_eq-slice_cmp c.args.key.items q.items)
