use Rattle.std.proofs.Common.{ℕ, Option, Some, sym, ap, ◌∙◌}
use Rattle.std.specs.Prelude.{slice_index_or}
use Rattle.wasm_defs.specs.declared.place.Place.{Place}
use Rattle.image_format.specs.Told.{no_place}
use Rattle.image_format.proofs.Told.{told_at, told_in_gap}
use Rattle.image_format.proofs.places.told.Goals as goal

pub returns-in-Ok : goal.returns-in-Ok
returns-in-Ok c =
    let told : Place → Option Place = λ p. Some p in
    ap (λ (n : ℕ). told (record { function = (slice_index_or c.args.places.now c.in-Ok.at no_place).function; offset = n })) c.from.ensures
    ∙ sym (told_at 0 c.args.places.now c.requires c.args.offset c.in-Ok.at c.in-Ok.ensures.found)

pub returns-in-Err : goal.returns-in-Err
returns-in-Err c = sym (told_in_gap _ _ _ c.in-Err.ensures.absent)
