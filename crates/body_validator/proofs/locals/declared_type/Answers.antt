use Rattle.std.proofs.Common.{◌≡◌, length, Some, refl, sym}
use Rattle.std.specs.Prelude.{slice_get}
use Rattle.std.proofs.lemmas.Bool.{ltb-true}
use Rattle.std.proofs.lemmas.Option.{slice_get_read}
use Rattle.body_validator.proofs.RunLaws.{first_found}
use Rattle.body_validator.proofs.locals.declared_type.Goals as goal

pub returns-then-index-run : goal.returns-then-index-run
returns-then-index-run c = λ start up h.
    let runs = c.args.runs.now in
    let there : slice_get runs 0 ≡ Some c.in-Some.run'.now = slice_get_read runs (length runs) 0 _ refl (ltb-true 0 (length runs) (sym c.in-Some.ensures.lookup.0)) c.in-Some.ensures.lookup.1 in
    first_found start runs c.in-Some.run'.now c.args.index up there h c.if-index-run.true
