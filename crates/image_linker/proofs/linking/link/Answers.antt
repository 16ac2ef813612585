use Rattle.std.proofs.Common.{◌≡◌, ◌∙◌, sym, subst}
use Rattle.std.proofs.lemmas.Result.{IfOk-weaker}
use Rattle.image_linker.specs.ImageOf.{image_of}
use Rattle.image_linker.specs.Linking.{with_segments, linked}
use Rattle.image_linker.specs.Same.{Same}
use Rattle.image_linker.proofs.Modules.{images_behave_alike}
use Rattle.image_linker.proofs.Whole.{whole_is_image, whole_is_bounded, whole_numbers_fit}
use Rattle.image_linker.proofs.linking.link.Goals as goal

pub assemble-requires-clause-bounded : goal.assemble-requires-clause-bounded
assemble-requires-clause-bounded c =
    let w = c.requires.whole in
    whole_is_bounded w.0 w.1 (with_segments c.args.context.now c.args.segments.now) c.args.codes w.2

pub assemble-requires-clause-numbers : goal.assemble-requires-clause-numbers
assemble-requires-clause-numbers c =
    let w = c.requires.whole in
    whole_numbers_fit w.0 w.1 (with_segments c.args.context.now c.args.segments.now) c.args.codes w.2

pub returns : goal.returns
returns c = record {
  image = λ bytes m w.
      let s = with_segments c.args.context.now c.args.segments.now in
      let codes = c.args.codes in
      let is = whole_is_image bytes m s codes w in
      IfOk-weaker c.assemble.result (λ i. i ≡ linked s codes) (λ i. (i ≡ image_of m) × Same m i)
      (λ i e. (e ∙ is, subst (Same m) (sym (e ∙ is)) (images_behave_alike bytes m w.bytes_fit w.is))) c.assemble.ensures;
}
