use Rattle.rv_isa.proofs.AccessLaws.{loads_are_exact, stores_are_exact}
use Rattle.rv_isa.proofs.laws.access_law.Goals as goal

pub returns : goal.returns
returns c = record { loads = loads_are_exact; stores = stores_are_exact }
