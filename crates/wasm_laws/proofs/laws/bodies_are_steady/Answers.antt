use Rattle.std.proofs.Common.{[], ◌∷◌}
use Rattle.wasm_laws.proofs.Steady.{here_in}
use Rattle.wasm_laws.proofs.BodyLaws.{local_groups_steady, instruction_steady, token_steady}
use Rattle.wasm_laws.proofs.laws.bodies_are_steady.Goals as goal

pub returns : goal.returns
returns c = record {
  locals = local_groups_steady [];
  instruction = λ counted at b. instruction_steady (at ∷ []) counted at b here_in;
  token = token_steady [];
}
