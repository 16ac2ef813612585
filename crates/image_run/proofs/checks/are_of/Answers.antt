use Rattle.std.proofs.Common.{map, length, sym, ◌∙◌}
use Rattle.std.specs.Prelude.{◌≢◌}
use Rattle.std.proofs.lemmas.List.{length-map}
use Rattle.wasm_defs.specs.Values.{type_of}
use Rattle.image_run.proofs.TypeLaws.{same_types-lengths}
use Rattle.image_run.proofs.checks.are_of.Goals as goal

pub returns-then-arguments-types : goal.returns-then-arguments-types
returns-then-arguments-types c =
    let ne : length (map type_of c.args.arguments.now) ≢ length c.args.types.now = λ e. c.if-arguments-types.true (sym (length-map c.args.arguments.now type_of) ∙ e) in
    sym (same_types-lengths (map type_of c.args.arguments.now) c.args.types.now ne)
