use Rattle.std.proofs.Common.{refl}
use Rattle.clap.specs.Faults.{fault_of}
use Rattle.clap.specs.Simple.{subcommand_of}
use Rattle.command_words.specs.Grammar.{command_in, program}
use Rattle.command_words.proofs.Passing.{read_or_outside}
use Rattle.command_words.proofs.Readings.{apart, exec_arguments, in_ranges, run_arguments, same_some}
use Rattle.command_words.proofs.laws.commands_are_one.Goals as goal

pub returns : goal.returns
returns c = record {
  total = λ words. read_or_outside words (fault_of program words) refl;
  apart = λ words. apart (fault_of program words) (subcommand_of program words);
  one = λ words a b. same_some (command_in words) a b;
  ranges = λ words. in_ranges (fault_of program words) (subcommand_of program words);
  run_arguments = λ words. run_arguments (fault_of program words) (subcommand_of program words);
  exec_arguments = λ words. exec_arguments (fault_of program words) (subcommand_of program words);
}
