use Rattle.std.proofs.Common.{ap, ◌∙◌}
use Rattle.image_linker.specs.Linking.{with_segments}
use Rattle.module_stream.specs.declared.built.Checked.{Checked}
use Rattle.module_stream.proofs.Wholes.{kept_whole, done_built}
use Rattle.module_stream.proofs.compilation.Compilation.build.Goals as goal

pub link-requires : goal.link-requires
link-requires c =
    let d = c.requires.done in
    let same = ap (with_segments c.context-context.result.now) c.segments.ensures ∙ c.context-context.ensures in
    record { whole = (d.0, d.1.«module», kept_whole d.0 c.args.self.now c.take-codes.result d.1 c.take-codes.ensures.codes _ same) }

pub returns : goal.returns
returns c = λ bytes d.
    let same = ap (with_segments c.context-context.result.now) c.segments.ensures ∙ c.context-context.ensures in
    let whole = kept_whole bytes c.args.self.now c.take-codes.result d c.take-codes.ensures.codes _ same in
    done_built bytes c.args.self.now d _ (c.in_ok-image.ensures.image bytes d.«module» whole).0
    (ap (λ (x : Checked). x.functions) c.checked-functions.ensures) (ap (λ (x : Checked). x.bytes) c.checked-functions.ensures)
