use Rattle.std.proofs.Common.{[]}
use Rattle.wasm_laws.proofs.EntryLaws.{header_steady, preamble_steady}
use Rattle.wasm_laws.proofs.Takes.{header_takes}
use Rattle.wasm_laws.proofs.RowLaws.{row_steady, end_steady}
use Rattle.wasm_laws.proofs.laws.sections_are_steady.Goals as goal

pub returns : goal.returns
returns c = record {
  preamble = preamble_steady [];
  header = λ seen. (header_steady [] seen, header_takes seen);
  row = row_steady;
  end = end_steady;
}
