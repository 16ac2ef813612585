use Rattle.std.proofs.Common.{◌≡◌, ◌∙◌, ap, sym, true}
use Rattle.std.specs.Prelude.{None, option_and_then}
use Rattle.command_words.specs.Grammar.{in_range, is_short}
use Rattle.command_words.proofs.Numbers.{of_parse, parsed, short_is}
use Rattle.command_words.proofs.peek.short_number.Goals as goal

pub returns-in-Ok : goal.returns-in-Ok
returns-in-Ok c =
    let least = c.args.least in
    let most = c.args.most in
    let short : is_short c.args.text.now ≡ true = sym c.is_short.ensures ∙ c.if-not-is_short.false in
    let value = of_parse least most c.args.text.now c.parse.result c.parse.ensures.value.0 in
    short_is least most c.args.text.now c.in_range.result short (c.in_range.ensures ∙ sym (ap (λ r. option_and_then (in_range least most) (parsed r)) c.in-Ok.is) ∙ value)

pub returns-in-Err : goal.returns-in-Err
returns-in-Err c =
    let least = c.args.least in
    let most = c.args.most in
    let short : is_short c.args.text.now ≡ true = sym c.is_short.ensures ∙ c.if-not-is_short.false in
    let value = of_parse least most c.args.text.now c.parse.result c.parse.ensures.value.0 in
    short_is least most c.args.text.now None short (sym (ap (λ r. option_and_then (in_range least most) (parsed r)) c.in-Err.is) ∙ value)
