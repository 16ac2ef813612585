use Rattle.std.proofs.Common.{refl, true, false}
use Rattle.module_gen.proofs.Shortest.{no_shorter, spells_signed, spells_unsigned}
use Rattle.module_gen.proofs.laws.numbers_are_short.Goals as goal

pub returns : goal.returns
returns c = record {
  without_sign = λ n below. (spells_unsigned 4 32 n refl below, λ other h. no_shorter false 5 32 n other h);
  with_sign = λ n below. (spells_signed 4 32 n refl below, λ other h. no_shorter true 5 32 n other h);
}
