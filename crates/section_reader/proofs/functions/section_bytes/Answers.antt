use Rattle.std.proofs.Common.{◌∙◌, ℕ, take, ap}
use Rattle.std.proofs.lemmas.List.{take_min}
use Rattle.wasm_defs.specs.Fields.{room_of}
use Rattle.section_reader.proofs.functions.section_bytes.Goals as goal

pub returns : goal.returns
returns c =
    let rest = c.rest-rest.result.now in
    ap (λ (n : ℕ). take n rest) c.min-there.ensures
    ∙ take_min c.room.result rest
    ∙ ap (λ (n : ℕ). take n rest) c.room.ensures
    ∙ ap (take (room_of c.args.fields.now)) c.rest-rest.ensures
