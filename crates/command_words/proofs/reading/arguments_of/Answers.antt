use Rattle.std.proofs.Common.{sym}
use Rattle.command_words.proofs.FoundWords.{one_more}
use Rattle.command_words.proofs.reading.arguments_of.Goals as goal

pub loop-word-preserved : goal.loop-word-preserved
loop-word-preserved c = rw c.in_ok-push.ensures.items
    (one_more c.args.words.now c.loop-word.word-index _ c.loop-word.arguments.items c.in-Some.argument c.loop-word-test.true (sym c.in-Some.ensures.value) c.loop-word.invariant)
