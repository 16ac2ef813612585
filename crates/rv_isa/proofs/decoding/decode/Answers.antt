use Rattle.std.proofs.Common.{ap, ◌∙◌}
use Rattle.rv_isa.specs.Words.{opcode_with, with_opcode, decoded}
use Rattle.rv_isa.proofs.Inverse.{exact, none_exact}
use Rattle.rv_isa.proofs.decoding.decode.Goals as goal

pub returns-clause-value : goal.returns-clause-value
unfolding decoded
returns-clause-value c =
    let w = c.args.word in
    c.with_opcode.ensures ∙ ap (λ o. with_opcode o w) (c.with_bits.ensures ∙ ap opcode_with c.field.ensures.value)

pub returns-clause-exact : goal.returns-clause-exact
returns-clause-exact c = rw (returns-clause-value c) (exact c.args.word c.ranges.word.fits)

pub returns-clause-none : goal.returns-clause-none
returns-clause-none c = rw (returns-clause-value c) (none_exact c.args.word c.ranges.word.fits)
