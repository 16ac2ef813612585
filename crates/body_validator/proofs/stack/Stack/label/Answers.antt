use Rattle.std.proofs.Common.{◌≡◌, length, Some, ap, ◌∙◌, sym, arith}
use Rattle.std.specs.Prelude.{slice_get}
use Rattle.wasm_defs.specs.Typing.{Types}
use Rattle.body_validator.specs.Checking.{Frames, labels}
use Rattle.body_validator.specs.Kept.{flat}
use Rattle.body_validator.proofs.Frames.{label_found, label_missing}
use Rattle.body_validator.proofs.stack.Stack.label.Goals as goal

pub returns-then-count-depth : goal.returns-then-count-depth
returns-then-count-depth c =
    let s = c.self.inside in
    let len : c.len-count.result ≡ length s.frames.items = omega (arith, s.frames.ok.0) in
    ap (λ (x : Frames). slice_get (labels x) c.args.index) (sym c.self.view_is)
    ∙ label_missing s.frames.items (flat s.operands) c.args.index c.len-count.result c.if-count-depth.true len

pub returns : goal.returns
returns c =
    let s = c.self.inside in
    let len : c.len-count.result ≡ length s.frames.items = omega (arith, s.frames.ok.0) in
    ap (λ (x : Frames). slice_get (labels x) c.args.index) (sym c.self.view_is)
    ∙ label_found s.frames.items (flat s.operands) c.args.index c.len-count.result c.index.result.now c.if-count-depth.false len c.index.ensures
    ∙ ap (λ (x : Types). Some x) (sym c.taken_by_label.ensures)
