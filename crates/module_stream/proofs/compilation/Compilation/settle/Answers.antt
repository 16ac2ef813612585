use Rattle.std.proofs.Common.{ℕ, List, [], ◌++◌, refl, sym, subst, ◌∙◌}
use Rattle.std.proofs.Math.Seq.{drop-nil}
use Rattle.module_stream.specs.Streaming.{IsGoing}
use Rattle.module_stream.proofs.Streaming.{taken_out}
use Rattle.module_stream.proofs.compilation.Compilation.settle.Goals as goal

pub returns-in-Ok-clause-goes : goal.returns-in-Ok-clause-goes
returns-in-Ok-clause-goes c = λ bytes g.
    let s = c.args.self.now in
    let here = taken_out bytes s (record s { cutter = c.take.new.self }) c.in-Some.cutter [] (sym c.take.ensures.value ∙ c.in-Some.is) refl refl refl refl g in
    subst (λ (l : List ℕ). IsGoing bytes c.cut.new.self (l ++ [])) (drop-nil c.in-Ok.field-0) (c.in-Ok.ensures.goes bytes [] here)
