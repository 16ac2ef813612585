use Rattle.std.proofs.Common.{sym, ap, subst}
use Rattle.rv_isa.specs.Steps.{State}
use Rattle.image_format.specs.Contents.{Image}
use Rattle.image_run.specs.States.{IsLoaded}
use Rattle.image_run.proofs.RegionLaws.{first_is}
use Rattle.image_run.proofs.instance.Instance.load.Goals as goal

pub returns-clause-memory : goal.returns-clause-memory
returns-clause-memory c =
    let bytes = ap (λ (s : State). s.bytes) c.in_ok-machine.ensures.state in
    first_is c.args.image.now c.in_ok-machine.machine.bytes c.image.inside.pages (subst (IsLoaded c.args.image.now) (sym bytes) c.in_ok-regions.ensures.loaded) (ap (λ (i : Image). i.pages) c.image.view_is)
