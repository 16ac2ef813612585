use Rattle.std.proofs.Common.{◌≡◌, ◌∙◌, ◌++◌, length, take, sym, ap, subst, ℕ, List, arith}
use Rattle.std.proofs.lemmas.Result.{IfOk-weaker}
use Rattle.rv_isa.specs.declared.compiled.Code.{Code}
use Rattle.rv_isa.specs.declared.compiled.Relocation.{Relocation}
use Rattle.code_list.specs.declared.list.CodeEnd.{CodeEnd}
use Rattle.code_list.specs.CodeLists.{AreEnds}
use Rattle.code_list.proofs.Ends.{within}
use Rattle.image_linker.specs.ImageOf.{front_of}
use Rattle.image_linker.specs.Linking.{front_words, words_from, led_text}
use Rattle.image_linker.proofs.Fronts.{front_length}
use Rattle.image_linker.proofs.LedTexts.{led_behind}
use Rattle.image_linker.proofs.linking.text_of.Goals as goal
use Rattle.image_linker.proofs.linking.text_of.Goals.{After-lead_codes}

pub lead_codes-requires-clause-ends : goal.lead_codes-requires-clause-ends
lead_codes-requires-clause-ends c =
    let parts = c.into_parts-text.result in
    let is = c.into_parts-text.ensures in (
      length is.0,
      subst (λ (n : ℕ). AreEnds (length parts.text) n (length is.0) parts.begin c.deref-2.result.now) (sym (ap (λ (l : List Relocation). length l) c.deref.ensures.value))
          (subst (λ (l : List CodeEnd). AreEnds (length parts.text) (length parts.calls.items) (length is.0) parts.begin l) (sym c.deref-2.ensures.value) is.1),
    )

-- the text once its calls are led
led_is : (c : After-lead_codes) → c.lead_codes.new.text ≡ take c.into_parts-text.result.begin.words c.into_parts-text.result.text ++ words_from c.args.starts.now (front_of (length c.args.context.now.imports)) c.args.codes
led_is c =
    let parts = c.into_parts-text.result in
    let is = c.into_parts-text.ensures in
    let starts = c.args.starts.now in
    let here : c.len.result ≡ front_of (length c.args.context.now.imports) =
    omega (arith, c.len.ensures, ap (λ (l : List ℕ). length l) c.in_ok-stubs.ensures, front_length c.args.context.now) in
    c.lead_codes.ensures.words is.0
    ∙ ap (λ (l : List Relocation). led_text starts l is.0 parts.text c.len.result parts.begin c.deref-2.result.now) c.deref.ensures.value
    ∙ ap (λ (l : List CodeEnd). led_text starts parts.calls.items is.0 parts.text c.len.result parts.begin l) c.deref-2.ensures.value
    ∙ ap (λ (n : ℕ). led_text starts parts.calls.items is.0 parts.text n parts.begin parts.ends.items) here
    ∙ ap (λ (l : List Code). take parts.begin.words parts.text ++ words_from starts (front_of (length c.args.context.now.imports)) l) (sym is.2)

pub with_stubs-requires : goal.with_stubs-requires
with_stubs-requires c =
    let parts = c.into_parts-text.result in
    let is = c.into_parts-text.ensures in
    let w = within (length parts.text) (length parts.calls.items) (length is.0) parts.begin parts.ends.items is.1 in
    omega (arith, w.words, c.lead_codes.ensures.length)

pub returns : goal.returns
returns c =
    let parts = c.into_parts-text.result in
    let is = c.into_parts-text.ensures in
    let led = c.lead_codes.new.text in
    let starts = c.args.starts.now in
    let front = front_of (length c.args.context.now.imports) in
    let stubs = c.in_ok-stubs.stubs in
    let w = within (length parts.text) (length parts.calls.items) (length is.0) parts.begin parts.ends.items is.1 in
    let left = led_behind starts front parts.text led c.args.codes parts.begin.words w.words (led_is (goal.at.returns c).After-lead_codes) in
    IfOk-weaker c.with_stubs.result _ (λ text. text ≡ front_words c.args.context.now ++ words_from starts front c.args.codes)
    (λ text e. e ∙ ap (λ (l : List ℕ). stubs ++ l) left ∙ ap (λ (l : List ℕ). l ++ words_from starts front c.args.codes) c.in_ok-stubs.ensures)
    c.with_stubs.ensures
