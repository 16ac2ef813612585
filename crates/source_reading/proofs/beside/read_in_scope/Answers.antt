use Rattle.std.proofs.Common.{None, ◌≡◌, inl, inr, sym, ◌∙◌, subst}
use Rattle.source_reading.proofs.Fronts.{took_nothing}
use Rattle.source_reading.specs.declared.intake.Intake.{Intake}
use Rattle.source_reading.specs.Arriving.{IsArriving}
use Rattle.source_reading.specs.Keeping.{keeping}
use Rattle.source_reading.proofs.beside.read_in_scope.Goals as goal

pub run_beside-requires-clause-can : goal.run_beside-requires-clause-can
run_beside-requires-clause-can g c κs within =
    let r = c.requires.arrives in
    let new = c.new-reader.result.source.now in (
      r.0,
      r.1,
      r.2,
      subst (λ (i : Intake). IsArriving None r.0 r.1 (g.S.Source.left new) (g.S.Source.faults new) (g.S.Source.is_open new) (keeping r.2 i) i.chunk) (sym c.new-reader.ensures.intake)
          (subst (λ (s : g.row.S.Denot). IsArriving None r.0 r.1 (g.S.Source.left s) (g.S.Source.faults s) (g.S.Source.is_open s) (keeping r.2 c.args.intake) c.args.intake.chunk) (sym c.new-reader.ensures.source) r.3),
    )

pub returns-in-Err-clause-front : goal.returns-in-Err-clause-front
returns-in-Err-clause-front g c =
    let r = c.in-Err.reader in
    elim c.in-Err.ensures.back [
      | inl reads ↦
          rw (c.source-in-Err-1.given.1 (sym c.new-reader.ensures.same_reference ∙ sym reads.0))
          (rw c.new-reader.ensures.source at reads.1)
      | inr same ↦
          let now : r.source.now ≡ c.args.source.now = rw (← same) at c.new-reader.ensures.source in
          let name = rw (← same) at c.new-reader.ensures.same_reference in
          rw (c.source-in-Err-1.given.1 (sym name))
          (rw now (took_nothing _ _))
    ]
