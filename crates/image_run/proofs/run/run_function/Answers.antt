use Rattle.std.proofs.Common.{◌-◌, refl}
use Rattle.rv64im_machine.specs.Contents.{state_of}
use Rattle.rv_isa.specs.Steps.{Spent, Called, Faulted}
use Rattle.image_run.specs.declared.answer.Answer.TheVariants.{GoesOn, Ended, Over}
use Rattle.image_run.proofs.RunLaws.{begun, called_says, spent, faulted, goes_on, ends, is_over, still_runs}
use Rattle.image_run.proofs.run.run_function.Goals as goal

pub calls-init : goal.calls-init
calls-init g c = record {
  host = c.requires.host;
  machine = c.requires.machine;
  so_far = begun g.row.H.Denot g.H.Host.answers c.args.image.now c.args.host.now (state_of c.args.machine.now) c.args.pages.now c.args.left.now;
}

pub returns-in-Spent-clause-machine : goal.returns-in-Spent-clause-machine
returns-in-Spent-clause-machine g c =
    let l = c.calls in
    let s = state_of c.run_machine.new.machine in
    still_runs c.args.image.now l.machine c.run_machine.new.machine l.pages l.left (Spent s) l.invariant.machine c.in-Spent.ensures.code refl c.in-Spent.ensures.rows c.in-Spent.ensures.backed

pub returns-in-Spent-clause-runs : goal.returns-in-Spent-clause-runs
returns-in-Spent-clause-runs g c =
    let l = c.calls in
    spent g.row.H.Denot g.H.Host.answers c.args.image.now c.args.host.now l.host (state_of c.args.machine.now) (state_of l.machine) c.args.pages.now l.pages c.args.left.now l.left l.machine.code l.invariant.machine.code l.invariant.so_far
    (state_of c.run_machine.new.machine) c.in-Spent.ensures.rows

pub returns-in-Fault-clause-machine : goal.returns-in-Fault-clause-machine
returns-in-Fault-clause-machine g c =
    let l = c.calls in
    let s = state_of c.run_machine.new.machine in
    still_runs c.args.image.now l.machine c.run_machine.new.machine l.pages l.left (Faulted (l.left - c.in-Fault.field-0) c.in-Fault.kind s) l.invariant.machine c.in-Fault.ensures.code refl c.in-Fault.ensures.rows.1 c.in-Fault.ensures.backed

pub returns-in-Fault-clause-runs : goal.returns-in-Fault-clause-runs
returns-in-Fault-clause-runs g c =
    let l = c.calls in
    rw c.pc.ensures
    (
    faulted g.row.H.Denot g.H.Host.answers c.args.image.now c.args.host.now l.host (state_of c.args.machine.now) (state_of l.machine) c.args.pages.now l.pages c.args.left.now l.left l.machine.code l.invariant.machine.code l.invariant.so_far
    (l.left - c.in-Fault.field-0) c.in-Fault.kind (state_of c.run_machine.new.machine) c.in-Fault.ensures.rows.1
    )

pub answer-requires-clause-machine : goal.answer-requires-clause-machine
answer-requires-clause-machine g c =
    let l = c.calls in
    let s = state_of c.run_machine.new.machine in
    still_runs c.args.image.now l.machine c.run_machine.new.machine l.pages l.left (Called (l.left - c.in-Call.done) s) l.invariant.machine c.in-Call.ensures.code refl c.in-Call.ensures.rows.1 c.in-Call.ensures.backed

pub answer-requires-clause-place : goal.answer-requires-clause-place
answer-requires-clause-place g c =
    let l = c.calls in
    (called_says l.machine.code l.left (l.left - c.in-Call.done) (state_of l.machine) (state_of c.run_machine.new.machine) c.in-Call.ensures.rows.1).1

pub calls-smaller : goal.calls-smaller
calls-smaller g c =
    let l = c.calls in
    (called_says l.machine.code l.left (l.left - c.in-Call.done) (state_of l.machine) (state_of c.run_machine.new.machine) c.in-Call.ensures.rows.1).0

pub calls-preserved : goal.calls-preserved
calls-preserved g c =
    let l = c.calls in
    record {
      host = c.in-GoesOn.ensures.host;
      machine = c.in-GoesOn.ensures.machine;
      so_far =
          goes_on g.row.H.Denot g.H.Host.answers c.args.image.now c.args.host.now l.host (state_of c.args.machine.now) (state_of l.machine) c.args.pages.now l.pages c.args.left.now l.left l.machine.code l.invariant.machine.code l.invariant.so_far
          (l.left - c.in-Call.done) (state_of c.run_machine.new.machine) c.in-Call.ensures.rows.1 c.answer.new.host (state_of c.answer.new.machine) c.answer.new.pages GoesOn c.in-GoesOn.ensures.answer refl;
    }

pub returns-in-Ended-clause-runs : goal.returns-in-Ended-clause-runs
returns-in-Ended-clause-runs g c =
    let l = c.calls in
    ends g.row.H.Denot g.H.Host.answers c.args.image.now c.args.host.now l.host (state_of c.args.machine.now) (state_of l.machine) c.args.pages.now l.pages c.args.left.now l.left l.machine.code l.invariant.machine.code l.invariant.so_far
    (l.left - c.in-Call.done) (state_of c.run_machine.new.machine) c.in-Call.ensures.rows.1 c.answer.new.host (state_of c.answer.new.machine) c.answer.new.pages Ended c.in-Ended.ensures.answer refl

pub returns-in-Over-clause-runs : goal.returns-in-Over-clause-runs
returns-in-Over-clause-runs g c =
    let l = c.calls in
    is_over g.row.H.Denot g.H.Host.answers c.args.image.now c.args.host.now l.host (state_of c.args.machine.now) (state_of l.machine) c.args.pages.now l.pages c.args.left.now l.left l.machine.code l.invariant.machine.code l.invariant.so_far
    (l.left - c.in-Call.done) (state_of c.run_machine.new.machine) c.in-Call.ensures.rows.1 c.answer.new.host (state_of c.answer.new.machine) c.answer.new.pages (Over c.in-Over.outcome) c.in-Over.ensures.answer c.in-Over.outcome refl
