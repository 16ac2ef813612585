use Rattle.std.proofs.Common.{◌≡◌, ◌∙◌, [], ap, codes, map, refl, subst}
use Rattle.std.specs.Prelude.{unwrap_or}
use Rattle.clap.specs.Matches.{found_of}
use Rattle.clap.specs.Walk.{rows_of}
use Rattle.clap.proofs.WalkLemmas.{raw_values-rows}
use Rattle.command_words.specs.Arguments.{arguments_in}
use Rattle.command_words.specs.Grammar.{Gives, found_words}
use Rattle.command_words.proofs.FoundWords.{words_found}
use Rattle.command_words.proofs.reading.arguments_in.Goals as goal

pub returns : goal.returns
returns c =
    let rows = rows_of (found_of c.args.matches.now) in
    let words : map (λ w. w.now) c.unwrap_or-words.result.now ≡ found_words rows = ap (λ s. map (λ w. w.now) s.now) c.unwrap_or-words.ensures
    ∙ words_found c.get_strs.result _ refl ∙ ap (λ o. unwrap_or o []) (c.get_strs.ensures ∙ raw_values-rows (found_of c.args.matches.now) (codes "arguments")) in
    subst (λ ws. Gives (arguments_in ws) c.arguments_of.result) words c.arguments_of.ensures
