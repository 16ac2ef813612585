use Rattle.std.proofs.Common.{◌≡◌, Option, None, Some, true, sym, ap, subst, ◌∙◌}
use Rattle.std.specs.Prelude.{map}
use Rattle.wasm_defs.specs.Values.{type_of, value_of}
use Rattle.image_format.specs.declared.image.Export.{Export}
use Rattle.image_run.specs.Checks.{export_named}
use Rattle.image_run.specs.Ends.{run_of_export}
use Rattle.image_run.proofs.SignatureLaws.{all_known, then_fit}
use Rattle.wasi_host.specs.declared.run_end.RunEnd.{RunEnd}
use Rattle.wasi_host.specs.Hosted.{HostsRun}
use Rattle.wasi_host.proofs.HostedSinks.{HostedRun, came}
use Rattle.wasi_host.proofs.running.run_hosted.Given.{Over}
use Rattle.wasi_host.proofs.running.run_hosted.Goals as goal
use Rattle.wasi_host.proofs.running.run_hosted.Goals.{After-is_open}

-- what the run came to
run : (g : Over) (c : After-is_open g) → (e : Export) × (export_named c.args.export.now c.args.image.now.exports ≡ Some e)
    × HostedRun g.row.O.Denot g.O.Sink.written g.O.Sink.faults c.args.image.now e (map value_of c.args.arguments.now) c.args.steps c.new-host.result c.start_and_run-outcome.new.host
    c.start_and_run-outcome.result c.start_and_run-outcome.new.self.memory c.start_and_run-outcome.new.self.results
run g c =
    let h = rw c.requires.same at c.start_and_run-outcome.ensures.run in (
      h.0,
      h.1,
      came g.row.O.Denot g.O.Sink.written g.O.Sink.faults c.args.image.now h.0 (map value_of c.args.arguments.now) c.args.steps c.new-host.result c.start_and_run-outcome.new.host
          c.new-host.ensures.image c.new-host.ensures.can c.new-host.ensures.exit
          c.start_and_run-outcome.result c.start_and_run-outcome.new.self.memory c.start_and_run-outcome.new.self.results h.2,
    )

-- what is written, from this sink on
abbrev Hosted : (g : Over) (c : After-is_open g) → Option RunEnd → Export → g.row.O.Denot → Type 0
Hosted g c end e from =
    HostsRun end c.args.image.now.imports (λ rs. run_of_export c.args.image.now e (map value_of c.args.arguments.now) rs c.args.steps)
    c.start_and_run-outcome.new.self.memory c.start_and_run-outcome.new.self.results (g.O.Sink.written from) (g.O.Sink.written c.start_and_run-outcome.new.host.out.now)

pub start_and_run-outcome-requires-clause-fit : goal.start_and_run-outcome-requires-clause-fit
start_and_run-outcome-requires-clause-fit g c =
    rw c.requires.same (then_fit c.args.image.now c.args.export.now (map type_of c.args.arguments.now) c.requires.fit)

pub end_of-requires-clause-stopped : goal.end_of-requires-clause-stopped
end_of-requires-clause-stopped g c =
    let known = all_known c.args.image.now c.args.export.now (map type_of c.args.arguments.now) c.requires.fit in
    rw c.exit_code.ensures ((run g (goal.at.end_of-requires-clause-stopped g c).After-is_open).2.exits_agree known (sym c.is_open.ensures ∙ c.if-is_open.true)).0

pub end_of-requires-clause-exited : goal.end_of-requires-clause-exited
end_of-requires-clause-exited g c =
    let known = all_known c.args.image.now c.args.export.now (map type_of c.args.arguments.now) c.requires.fit in
    rw c.exit_code.ensures ((run g (goal.at.end_of-requires-clause-exited g c).After-is_open).2.exits_agree known (sym c.is_open.ensures ∙ c.if-is_open.true)).1

-- ---- the sink took all

pub returns-then-is_open-clause-faults : goal.returns-then-is_open-clause-faults
returns-then-is_open-clause-faults g c =
    let r = run g (goal.at.returns-then-is_open-clause-faults g c).After-is_open in
    let is = c.out-1.given.1 (sym c.new-host.ensures.same_reference ∙ sym r.2.still) in
    let told = r.2.hosts (sym c.is_open.ensures ∙ c.if-is_open.true) c.end_of.result c.end_of.ensures.outcome (c.end_of.ensures.code ∙ c.exit_code.ensures) in
    ap g.O.Sink.faults is ∙ told.1 ∙ ap g.O.Sink.faults c.new-host.ensures.out

pub returns-then-is_open-clause-open : goal.returns-then-is_open-clause-open
returns-then-is_open-clause-open g c =
    let r = run g (goal.at.returns-then-is_open-clause-open g c).After-is_open in
    let is = c.out-1.given.1 (sym c.new-host.ensures.same_reference ∙ sym r.2.still) in
    let open_now : c.start_and_run-outcome.new.host.is_open ≡ true = sym c.is_open.ensures ∙ c.if-is_open.true in
    rw is (rw open_now at c.start_and_run-outcome.ensures.host)

pub returns-then-is_open-clause-run : goal.returns-then-is_open-clause-run
returns-then-is_open-clause-run g c =
    let r = run g (goal.at.returns-then-is_open-clause-run g c).After-is_open in
    let is = c.out-1.given.1 (sym c.new-host.ensures.same_reference ∙ sym r.2.still) in
    let told = r.2.hosts (sym c.is_open.ensures ∙ c.if-is_open.true) c.end_of.result c.end_of.ensures.outcome (c.end_of.ensures.code ∙ c.exit_code.ensures) in
    let hosted = subst (λ x. Hosted g (goal.at.returns-then-is_open-clause-run g c).After-is_open (Some c.end_of.result) r.0 x) c.new-host.ensures.out told.0 in
    rw is (r.0, r.1, hosted)

-- ---- the sink failed

pub returns-else-is_open-clause-faults : goal.returns-else-is_open-clause-faults
returns-else-is_open-clause-faults g c =
    let r = run g (goal.at.returns-else-is_open-clause-faults g c).After-is_open in
    let is = c.out-else-is_open-1.given.1 (sym c.new-host.ensures.same_reference ∙ sym r.2.still) in
    let rose = rw c.new-host.ensures.out at (r.2.fails (sym c.is_open.ensures ∙ c.if-is_open.false)).1 in
    rw is rose

pub returns-else-is_open-clause-run : goal.returns-else-is_open-clause-run
returns-else-is_open-clause-run g c =
    let r = run g (goal.at.returns-else-is_open-clause-run g c).After-is_open in
    let is = c.out-else-is_open-1.given.1 (sym c.new-host.ensures.same_reference ∙ sym r.2.still) in
    let told = r.2.fails (sym c.is_open.ensures ∙ c.if-is_open.false) in
    let hosted = subst (λ x. Hosted g (goal.at.returns-else-is_open-clause-run g c).After-is_open None r.0 x) c.new-host.ensures.out told.0 in
    rw is (r.0, r.1, hosted)
