use Rattle.std.proofs.Common.{None, Some, sym, ap, subst, ◌∙◌, rules}
use Rattle.std.specs.Prelude.{is_some}
use Rattle.body_cutter.specs.Cuttings.{Cutting}
use Rattle.module_stream.specs.declared.compilation.Compilation.{Compilation}
use Rattle.module_stream.specs.Streaming.{with_cutter}
use Rattle.source_reading.specs.Arriving.{IsArriving}
use Rattle.source_reading.specs.Chunks.{Chunked}
use Rattle.source_reading.proofs.Keeping.{none_kept, put_back, keeping_begins}
use Rattle.source_reading.proofs.beside.read_round.Goals as goal

pub returns-in_default-clause-resumes : goal.returns-in_default-clause-resumes
returns-in_default-clause-resumes g c = λ first before a.
    none_kept first before (g.S.Source.left c.args.source.now) (g.S.Source.faults c.args.source.now) (g.S.Source.is_open c.args.source.now) c.args.compilation.now c.take_cutter.new.self c.args.chunk (search rules) c.take_cutter.ensures.rest a

pub returns-then-is_whole-clause-resumes : goal.returns-then-is_whole-clause-resumes
returns-then-is_whole-clause-resumes g c = λ first before a.
    put_back first before (g.S.Source.left c.args.source.now) (g.S.Source.faults c.args.source.now) (g.S.Source.is_open c.args.source.now) c.args.compilation.now c.take_cutter.new.self c.put_cutter.new.self c.in-Some.cutter c.args.chunk
    (sym c.take_cutter.ensures.cutter ∙ c.in-Some.is) c.take_cutter.ensures.rest c.put_cutter.ensures a

pub returns-then-is_whole-clause-kept : goal.returns-then-is_whole-clause-kept
returns-then-is_whole-clause-kept g c = ap (λ (s : Compilation). is_some s.codes.kept) (c.put_cutter.ensures ∙ ap (λ (s : Compilation). with_cutter s c.in-Some.cutter) c.take_cutter.ensures.rest)

pub read_with_workers-requires-clause-arrives : goal.read_with_workers-requires-clause-arrives
read_with_workers-requires-clause-arrives g c κs within =
    let r = c.requires.arrives in
    let old = c.args.source.now in
    let i = c.new-intake.result in
    let some = sym c.take_cutter.ensures.cutter ∙ c.in-Some.is ∙ ap (λ (k : Cutting). Some k) (sym c.new-intake.ensures.cutter) in (
      r.0,
      r.1,
      c.take_cutter.new.self,
      keeping_begins r.0 r.1 (g.S.Source.left old) (g.S.Source.faults old) (g.S.Source.is_open old) c.args.compilation.now c.take_cutter.new.self i some c.take_cutter.ensures.rest c.new-intake.ensures.kept
          (subst (λ (k : Chunked). IsArriving None r.0 r.1 (g.S.Source.left old) (g.S.Source.faults old) (g.S.Source.is_open old) c.args.compilation.now k) (sym c.new-intake.ensures.chunk) r.2),
    )

pub judge_section-requires-clause-rows : goal.judge_section-requires-clause-rows
judge_section-requires-clause-rows g c = c.in-Ok.ensures.rows

pub judge_section-requires-clause-keeps : goal.judge_section-requires-clause-keeps
judge_section-requires-clause-keeps g c =
    let r = c.requires.arrives in
    let new = c.read_with_workers.new.source in
    let old = c.args.source.now in
    let i = c.new-intake.result in
    let some = sym c.take_cutter.ensures.cutter ∙ c.in-Some.is ∙ ap (λ (k : Cutting). Some k) (sym c.new-intake.ensures.cutter) in (
      r.0,
      r.1,
      g.S.Source.left new,
      g.S.Source.faults new,
      g.S.Source.is_open new,
      c.in-Ok.ensures.keeps r.0 r.1 c.take_cutter.new.self (keeping_begins r.0 r.1 (g.S.Source.left old) (g.S.Source.faults old) (g.S.Source.is_open old) c.args.compilation.now c.take_cutter.new.self i some c.take_cutter.ensures.rest c.new-intake.ensures.kept
          (subst (λ (k : Chunked). IsArriving None r.0 r.1 (g.S.Source.left old) (g.S.Source.faults old) (g.S.Source.is_open old) c.args.compilation.now k) (sym c.new-intake.ensures.chunk) r.2)),
    )

pub returns-clause-resumes : goal.returns-clause-resumes
returns-clause-resumes g c = λ first before a.
    let new = c.read_with_workers.new.source in
    let old = c.args.source.now in
    let i = c.new-intake.result in
    let some = sym c.take_cutter.ensures.cutter ∙ c.in-Some.is ∙ ap (λ (k : Cutting). Some k) (sym c.new-intake.ensures.cutter) in
    c.judge_section.ensures.resumes first before (g.S.Source.left new) (g.S.Source.faults new) (g.S.Source.is_open new) (c.in-Ok.ensures.keeps first before c.take_cutter.new.self (keeping_begins first before (g.S.Source.left old) (g.S.Source.faults old) (g.S.Source.is_open old) c.args.compilation.now c.take_cutter.new.self i some c.take_cutter.ensures.rest c.new-intake.ensures.kept
    (subst (λ (k : Chunked). IsArriving None first before (g.S.Source.left old) (g.S.Source.faults old) (g.S.Source.is_open old) c.args.compilation.now k) (sym c.new-intake.ensures.chunk) a)))

pub returns-clause-kept : goal.returns-clause-kept
returns-clause-kept g c = c.judge_section.ensures.kept ∙ ap (λ (s : Compilation). is_some s.codes.kept) c.take_cutter.ensures.rest
