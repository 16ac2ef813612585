use Rattle.wasm_laws.proofs.DataCounts.{bodies_are_told, segments_agree}
use Rattle.wasm_laws.proofs.laws.segments_match_the_data_count.Goals as goal

pub returns : goal.returns
returns c = record { told = bodies_are_told; whole = segments_agree }
