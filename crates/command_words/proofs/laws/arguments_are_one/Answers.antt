use Rattle.command_words.proofs.ArgumentWords.{argument_in-IsArgument, argument_is_one}
use Rattle.command_words.proofs.laws.arguments_are_one.Goals as goal

pub returns : goal.returns
returns c = record { one = argument_is_one; computed = argument_in-IsArgument }
