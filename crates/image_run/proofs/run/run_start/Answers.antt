use Rattle.std.proofs.Common.{[], ◌∙◌, sym, ap}
use Rattle.rv64im_machine.specs.Contents.{state_of}
use Rattle.image_format.specs.Contents.{Image}
use Rattle.image_format.specs.Environment.{entered}
use Rattle.image_run.proofs.StartLaws.{starts_at_once, starts_by}
use Rattle.image_run.proofs.run.run_start.Goals as goal

pub returns-then-image-eq0-clause-starts : goal.returns-then-image-eq0-clause-starts
returns-then-image-eq0-clause-starts g c =
    starts_at_once g.row.H.Denot g.H.Host.answers c.args.image.now c.args.host.now c.args.left.now (state_of c.args.machine.now) c.args.pages.now c.requires.bytes c.requires.pages
    (ap (λ (i : Image). i.start) (sym c.image.view_is) ∙ c.if-image-eq0.true)

pub returns-clause-starts : goal.returns-clause-starts
returns-clause-starts g c =
    starts_by g.row.H.Denot g.H.Host.answers c.args.image.now c.args.host.now c.args.left.now c.args.machine.now.bytes (state_of c.enter.new.machine) (state_of c.run_function.new.machine) c.args.pages.now c.run_function.new.pages c.run_function.new.left c.run_function.new.host
    c.run_function.result c.requires.bytes c.requires.pages (λ e. c.if-image-eq0.false (ap (λ (i : Image). i.start) c.image.view_is ∙ e)) (c.enter.ensures.state ∙ ap (λ (i : Image). entered c.args.pages.now c.args.machine.now.bytes (record { offset = i.start; arguments = [] })) c.image.view_is) c.run_function.ensures.runs
