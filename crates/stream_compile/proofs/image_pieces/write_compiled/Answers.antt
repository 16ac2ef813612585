use Rattle.std.proofs.Common.{List, ℕ, refl, subst}
use Rattle.std.specs.Prelude.{nat_lt}
use Rattle.image_format.specs.ImageBytes.{spelling}
use Rattle.stream_compile.specs.Texts.{compiled, Told}
use Rattle.stream_compile.proofs.image_pieces.write_compiled.Goals as goal

pub returns-clause-told : goal.returns-clause-told
returns-clause-told g c = (
  compiled (spelling c.args.image.now),
  refl,
  subst (λ (l : List ℕ). Told c.write_joined.result (compiled l) (nat_lt (g.O.Sink.faults c.args.out.now) (g.O.Sink.faults c.write_joined.new.out)) (g.O.Sink.written c.args.out.now) (g.O.Sink.written c.write_joined.new.out)) c.in_ok-fields.ensures.spelled c.write_joined.ensures,
)
