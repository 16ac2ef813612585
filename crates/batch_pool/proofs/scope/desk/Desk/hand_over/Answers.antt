use Rattle.std.proofs.Common.{rules, ℕ, refl, inl, ap, ◌∙◌}
use Rattle.std.specs.Arc.{arc_value}
use Rattle.cancel_drain.specs.Views.{publishes}
use Rattle.batch_pool.proofs.Handing.{start_is, is_next, puts_in}
use Rattle.batch_pool.proofs.scope.desk.Desk.hand_over.Goals as goal

pub returns-clause-handed : goal.returns-clause-handed
returns-clause-handed c =
    let d = c.args.self.now in
    let b = arc_value c.args.batch.now in
    let t = c.in-Some.ticket in
    let same = c.in-Some.ensures.ticket ∙ c.in_ok-try_clone.ensures in
    let start = start_is c.args.context.now c.args.board.now d b t same in
    inl (
      is_next c.args.context.now c.args.board.now d b t same c.requires.desk (search rules) (λ some. search rules) (search rules),
      record {
        of = refl;
        seat = c.in_ok-keep.ensures.view ∙ ap (λ (s : ℕ). record d.seat { view = publishes d.seat.view s }) start;
        ticket = t;
        batch = same;
        kept = c.in_ok-keep.ensures.pushed;
        last = start;
        feeder = puts_in d.module c.args.feeder.now c.put.new.self b c.new-other.result c.put.result (c.new-other.ensures.batch ∙ c.in_ok-try_clone-2.ensures) c.new-other.ensures.of_module c.put.ensures;
      },
    )
