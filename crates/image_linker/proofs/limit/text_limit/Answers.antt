use Rattle.std.proofs.Common.{◌≡◌, ℕ, suc, ◌+◌, ◌<◌, ◌≤◌, List, take, length, refl, sym, ap, ◌∙◌, subst, ⊎_elim, ltb-true, ltb-false, arith}
use Rattle.std.proofs.lemmas.Bool.{cases_lt}
use Rattle.std.proofs.lemmas.Option.{slice_get-get_or}
use Rattle.rv_isa.specs.declared.compiled.Code.{Code}
use Rattle.wasm_defs.specs.Limits.{max_text}
use Rattle.index_spaces.specs.Spaces.{Spaces}
use Rattle.image_linker.specs.Linking.{words_of}
use Rattle.image_linker.specs.TextLimits.{bytes_up_to}
use Rattle.image_linker.proofs.Coded.{words_at}
use Rattle.image_linker.proofs.limit.text_limit.Goals as goal

-- the words up to a code, where a loop counts from there
next_words : (codes : List Code) (i : ℕ) → length (words_of (take (i + 1) codes)) ≡ length (words_of (take (suc i) codes))
next_words codes i = let k : i + 1 ≡ suc i = omega arith in ap (λ (n : ℕ). length (words_of (take n codes))) k

-- what holds of so many codes, and of one more
kept_more : (s : Spaces) (codes : List Code) (i : ℕ) → ((j : ℕ) → j < i → bytes_up_to s codes (suc j) ≤ max_text) → bytes_up_to s codes (suc i) ≤ max_text
    → (j : ℕ) → j < i + 1 → bytes_up_to s codes (suc j) ≤ max_text
kept_more s codes i kept one j less =
    ⊎_elim (λ before. kept j before) (λ le. let same : i ≡ j = omega arith in subst (λ (n : ℕ). bytes_up_to s codes (suc n) ≤ max_text) same one) (cases_lt j i)

pub returns-then-passes_limit : goal.returns-then-passes_limit
returns-then-passes_limit c =
    let i = c.loop-index.index in
    let codes = c.args.codes.now in
    let within : i < length codes = omega (arith, c.loop-index-test.true, c.count-index-end.ensures) in
    let at = words_at codes i c.get.result.words within c.get.ensures.words in
    let long = ltb-true max_text _ (sym c.passes_limit.ensures ∙ c.if-passes_limit.true) in (
      i,
      _,
      record {
        is = within;
        at = slice_get-get_or c.args.size_offsets.now i 0 (omega (arith, within, c.requires));
        passes = omega (arith, long, ap length c.imports.ensures, c.loop-index.invariant.0, at.next, next_words codes i);
        first = c.loop-index.invariant.1;
      },
      refl,
    )

pub loop-index-preserved : goal.loop-index-preserved
loop-index-preserved c =
    let i = c.loop-index.index in
    let codes = c.args.codes.now in
    let within : i < length codes = omega (arith, c.loop-index-test.true, c.count-index-end.ensures) in
    let at = words_at codes i c.get.result.words within c.get.ensures.words in
    let short = ltb-false max_text _ (sym c.passes_limit.ensures ∙ c.if-passes_limit.false) in (
      omega (arith, c.loop-index.invariant.0, at.next),
      kept_more c.args.context.now codes i c.loop-index.invariant.1
          (omega (arith, short, ap length c.imports.ensures, c.loop-index.invariant.0, at.next, next_words codes i)),
      omega (arith, short),
    )
