use Rattle.std.proofs.Common.{◌∙◌}
use Rattle.std.specs.Str.Parse.{ParsesUnsigned, ExplainsUnsignedError, HasUnsignedDigitsIfOk}
use Rattle.clap.specs.Matches.{found_of}
use Rattle.command_words.proofs.Numbers.{number_is}
use Rattle.command_words.proofs.reading.number_in.Goals as goal

pub returns : goal.returns
returns c = c.in_range.ensures
    ∙ number_is _ (λ bs r. ParsesUnsigned 64 10 bs r × ExplainsUnsignedError 10 bs r × HasUnsignedDigitsIfOk bs r) (λ bs r h. h.0)
    (found_of c.args.matches.now) c.args.id.now c.args.least c.args.most c.get_one.result c.get_one.ensures.none c.get_one.ensures.value
