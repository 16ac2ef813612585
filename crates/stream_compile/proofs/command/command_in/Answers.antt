use Rattle.std.proofs.Common.{map, string_bytes}
use Rattle.clap.specs.Faults.{fault_of}
use Rattle.clap.specs.Simple.{subcommand_of}
use Rattle.command_words.specs.Grammar.{program}
use Rattle.command_words.proofs.Readings.{in_ranges}
use Rattle.stream_compile.proofs.command.command_in.Goals as goal

pub returns-in-Ok-clause-ranges : goal.returns-in-Ok-clause-ranges
returns-in-Ok-clause-ranges c =
    let words = map string_bytes c.args.words.now.items in
    in_ranges (fault_of program words) (subcommand_of program words) c.in-Ok.command c.in-Ok.ensures.reads
