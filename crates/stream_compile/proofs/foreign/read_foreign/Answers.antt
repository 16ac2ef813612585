use Rattle.std.proofs.Common.{rules}
use Rattle.stream_compile.proofs.ForeignLaws.{image_came, bad_came}
use Rattle.stream_compile.proofs.foreign.read_foreign.Goals as goal

pub returns-in-Ok : goal.returns-in-Ok
returns-in-Ok g c = record {
  answer = search (rules, image_came);
  front = c.in_ok-input.ensures.front;
}

pub returns-in-Err-Bad : goal.returns-in-Err-Bad
returns-in-Err-Bad g c = record {
  answer = search (rules, bad_came);
  front = c.in_ok-input.ensures.front;
}
