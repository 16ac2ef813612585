use Rattle.std.proofs.Common.{◌≡◌, ◌<◌, ◌+◌, ◌-◌, List, length, arith, ap, sym, ◌∙◌, subst}
use Rattle.std.specs.Prelude.{slice_index_or}
use Rattle.control_emit.specs.declared.labels.Open.{Open}
use Rattle.control_emit.specs.Pending.{Pending, shapes, most_base}
use Rattle.control_emit.specs.Walks.{end_shape}
use Rattle.control_emit.proofs.Bases.{kept-at}
use Rattle.control_emit.proofs.Views.{length-pending, shape-found}
use Rattle.control_emit.proofs.labels.Labels.goal.Goals as goal

pub returns-clause-is : goal.returns-clause-is
returns-clause-is c =
    let js = c.self.inside.jumps.items in
    let items = c.self.inside.labels.items in
    let i = c.len.result - 1 - c.args.label in
    let size : length c.args.self.now ≡ length items = ap length (sym c.self.view_is) ∙ length-pending js items in
    let len : c.len.result ≡ length items = omega (arith, c.self.inside.labels.ok.0) in
    let at : i + c.args.label + 1 ≡ length items = omega (arith, c.requires) in
    ap (λ (ps : List Pending). slice_index_or (shapes ps) c.args.label (end_shape 0 0)) (sym c.self.view_is)
    ∙ shape-found js items i c.args.label c.index-open.result.now (end_shape 0 0) at c.index-open.ensures

pub returns-clause-low : goal.returns-clause-low
returns-clause-low c =
    let js = c.self.inside.jumps.items in
    let items = c.self.inside.labels.items in
    let i = c.len.result - 1 - c.args.label in
    let size : length c.args.self.now ≡ length items = ap length (sym c.self.view_is) ∙ length-pending js items in
    let len : c.len.result ≡ length items = omega (arith, c.self.inside.labels.ok.0) in
    let at : i < length items = omega (arith, c.requires) in
    subst (λ (o : Open). o.base + o.takes < most_base) (sym c.index-open.ensures) (kept-at (length js) items i c.index-open.result.now at c.self.invariant.0).0
