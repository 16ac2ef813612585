use Rattle.std.proofs.Common.{◌++◌}
use Rattle.wasm_laws.proofs.Bytes.{each_byte}
use Rattle.body_laws.proofs.Longest.{read_through}
use Rattle.body_laws.proofs.spelling.fronts_are_read.Goals as goal

pub returns : goal.returns
returns c = λ counted first front back groups fits s few. read_through counted first front back groups (each_byte (front ++ back) fits) s few
