use Rattle.rv_isa.proofs.OffsetLaws.{written_register_is_read, other_registers_stay}
use Rattle.rv_isa.proofs.laws.register_law.Goals as goal

pub returns : goal.returns
returns c = record { same = written_register_is_read; others = other_registers_stay }
