use Rattle.std.proofs.Common.{rules}
use Rattle.command_words.proofs.ArgumentWords.{is_argument_in}
use Rattle.command_words.proofs.argument.argument_of.Goals as goal

pub returns-in-Some-clause-value : goal.returns-in-Some-clause-value
returns-in-Some-clause-value c = is_argument_in c.args.word.now c.map.result (search rules)

pub returns-in-Some-strip_prefix-clause-value : goal.returns-in-Some-strip_prefix-clause-value
returns-in-Some-strip_prefix-clause-value c = is_argument_in c.args.word.now c.map-in-Some-strip_prefix.result (search rules)
