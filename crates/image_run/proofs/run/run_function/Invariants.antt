use Rattle.std.proofs.Common.{◌≡◌, true}
use Rattle.rv64im_machine.specs.Contents.{state_of}
use Rattle.image_run.specs.States.{RunsImage}
use Rattle.image_run.proofs.RunLaws.{Underway}
use Rattle.image_run.proofs.run.run_function.Given as goal

abbrev pub invariant-calls : goal.invariant-calls
invariant-calls g l = record {
  host : g.H.Host.is_ready l.host ≡ true;
  machine : RunsImage l.image l.machine l.pages;
  so_far : Underway g.row.H.Denot g.H.Host.answers l.image l.fn.host l.host (state_of l.fn.machine) (state_of l.machine) l.fn.pages l.pages l.fn.left l.left;
}

abbrev pub decreases-calls : goal.decreases-calls
decreases-calls g l = l.left
