use Rattle.std.proofs.Common.{◌+◌, ◌≤◌, ◌∙◌, length, refl, sym, ap, subst, arith}
use Rattle.wasm_defs.specs.declared.token.Token.TheVariants.{Plain}
use Rattle.wasm_defs.specs.Faults.{tokens_of}
use Rattle.frame_layout.specs.declared.layout.Layout.{Layout}
use Rattle.frame_layout.specs.Slots.{link}
use Rattle.body_validator.specs.Checks.{Checked}
use Rattle.body_compiler.specs.Steps.{AreTied, max_link}
use Rattle.body_compiler.specs.Going.{IsTaking, calling, going_of}
use Rattle.body_compiler.proofs.Going.{goes_or_stops, on_any, on_four, on_map, on_three, refused_token}
use Rattle.body_compiler.proofs.code.BodyBuilderTokenSink.take_common.Goals as goal

pub returns-in-Some-Ok-clause-fits : goal.returns-in-Some-Ok-clause-fits
returns-in-Some-Ok-clause-fits c =
    λ left later fits less.
    let e = c.take_checked.ensures in
    on_four _ _ _ _ _ (e.tied c.args.check.now left later fits.0 less (rw c.in-Some-Ok.field-0-is at c.in-Some-Ok.ensures.steps)) e.held
    (on_any _ _ (subst (λ (l : Layout). link l ≤ max_link) (sym e.layout) fits.2))
    (on_map (length c.args.self.now.function.words ≤ length c.take_checked.new.draft.function.words) (5 ≤ length c.take_checked.new.draft.function.words) _ (λ g. omega (arith, fits.3, g)) e.grows)

pub returns-in-Some-Ok-clause-goes : goal.returns-in-Some-Ok-clause-goes
returns-in-Some-Ok-clause-goes c =
    λ counted c' last b code before mid after front k h is.
    let old = c.args.self.now.function in
    let new = c.take_checked.new.draft.function in
    let e = c.take_checked.ensures in
    let taking = subst (λ (l : Layout). IsTaking counted old.too_long c' last before c.args.check.now code l front.words (calling old.labels old.words old.calls.items old.rows c.args.self.now.sites.items)) (sym k.0) k.2 in
    let goes = e.goes counted c' last b code before mid after front.words c.args.check.now (rw c.in-Some-Ok.field-0-is at c.in-Some-Ok.ensures.steps)
    (λ tokens reach. ((rw c.in-Some-Ok.field-0-is at (c.in-Some-Ok.ensures.exact tokens reach)), (rw c.in-Some-Ok.field-0-is at (c.in-Some-Ok.ensures.places tokens reach)))) taking h c.requires.more is in
    let both = goes_or_stops counted c' last code old.layout front.words c.take_checked.result new.too_long after c.common.new.self (calling new.labels new.words new.calls.items new.rows c.take_checked.new.draft.sites.items) goes in (
      on_three _ _ _ _ (on_any _ _ (e.layout ∙ k.0)) (on_any _ _ (e.rows ∙ k.1))
          (on_map _ _ _ (λ t. subst (λ (l : Layout). IsTaking counted new.too_long c' last after c.common.new.self code l front.words (calling new.labels new.words new.calls.items new.rows c.take_checked.new.draft.sites.items)) k.0 t) both.0),
      both.1,
    )

pub returns-in-Some-Err-Refused-clause-goes : goal.returns-in-Some-Err-Refused-clause-goes
returns-in-Some-Err-Refused-clause-goes c =
    λ counted c' last b code before mid after front k h is.
    let g = going_of counted c.args.self.now.function.too_long c' last before c.args.check.now code front.layout front.words (calling c.args.self.now.function.labels c.args.self.now.function.words c.args.self.now.function.calls.items c.args.self.now.function.rows c.args.self.now.sites.items) k.2 in
    let steps = (rw c.in-Some-Err-Refused.field-0-0-is at (rw c.in-Some-Err-Refused.field-0-is at c.in-Some-Err-Refused.ensures.steps)) in
    let exact = (rw c.in-Some-Err-Refused.field-0-0-is at (rw c.in-Some-Err-Refused.field-0-is at (c.in-Some-Err-Refused.ensures.exact (tokens_of g.tokens) g.reached))) in
    (tt, refused_token counted c' last c.args.at b before mid after (Plain c.args.plain) c.args.check.now code _ g h c.requires.more is (ap (λ r. r.offset) steps.1) exact)

pub returns-clause-fits : goal.returns-clause-fits
returns-clause-fits c =
    λ left later fits less. c.take_plain_read.ensures.fits left later (subst (λ (x : Checked). AreTied c.args.self.now.function.labels x (left + 1)) (sym (c.in-None.ensures.left refl)) fits.0, fits.1, fits.2, fits.3) less

pub returns-clause-goes : goal.returns-clause-goes
returns-clause-goes c =
    λ counted c' last b code before mid after front k h is.
    let old = c.args.self.now.function in
    c.take_plain_read.ensures.goes counted c' last b code before mid after front
    (k.0, k.1, subst (λ (x : Checked). IsTaking counted old.too_long c' last before x code front.layout front.words (calling old.labels old.words old.calls.items old.rows c.args.self.now.sites.items)) (sym (c.in-None.ensures.left refl)) k.2) h is
