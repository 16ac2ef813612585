use Rattle.std.proofs.Common.{rules, ◌∙◌}
use Rattle.std.specs.Vec.Iter.{into_iter_items, into_iter_len}
use Rattle.batch_pool.proofs.Served.{grows_trans}
use Rattle.batch_pool.proofs.Tried.{tried_begins, tried_steps, tried_ends, length_step}
use Rattle.batch_pool.proofs.scope.settling.try_all.Goals as goal

pub loop-ticket-init : goal.loop-ticket-init
loop-ticket-init g c = (search rules, tried_begins c.args.compiler.now.context.now c.args.compiler.now.cells.now c.args.board.now.functions c.args.seat.now.view c.args.rows.now.items (into_iter_items c.into_iter-ticket-iterator.result) c.args.kept.items (search rules) c.requires.kept, search rules)

pub loop-ticket-preserved : goal.loop-ticket-preserved
loop-ticket-preserved g c = (
  search rules,
  tried_steps c.args.compiler.now.context.now c.args.compiler.now.cells.now c.args.board.now.functions c.args.seat.now.view c.loop-ticket.seat.view c.serve_fitting.new.seat.view c.args.rows.now.items c.loop-ticket.rows.items c.serve_fitting.new.rows.items
      (into_iter_items c.loop-ticket.ticket-iterator) (into_iter_items c.next.new.self) c.in-Some.ticket c.loop-ticket.invariant.1 c.in-Some.ensures.steps.0 c.serve_fitting.ensures.grows c.in-Ok.ensures.running (λ _. c.in-Ok.ensures.served),
  length_step (into_iter_items c.loop-ticket.ticket-iterator) (into_iter_items c.next.new.self) c.in-Some.ticket (into_iter_len c.loop-ticket.ticket-iterator) (into_iter_len c.next.new.self) c.in-Some.ensures.steps.0 c.in-Some.ensures.steps.1 c.loop-ticket.invariant.2,
)

pub returns-in-Err-clause-grows : goal.returns-in-Err-clause-grows
returns-in-Err-clause-grows g c =
    grows_trans c.args.compiler.now.context.now c.args.compiler.now.cells.now c.args.seat.now.view c.loop-ticket.seat.view c.serve_fitting.new.seat.view c.args.rows.now.items c.loop-ticket.rows.items c.serve_fitting.new.rows.items c.loop-ticket.invariant.1.grows c.serve_fitting.ensures.grows

pub returns-clause-tried : goal.returns-clause-tried
returns-clause-tried g c =
    tried_ends c.args.compiler.now.context.now c.args.compiler.now.cells.now c.args.board.now.functions c.args.seat.now.view c.loop-ticket.seat.view c.args.rows.now.items c.loop-ticket.rows.items (into_iter_items c.loop-ticket.ticket-iterator) c.loop-ticket.invariant.1 (c.loop-ticket.invariant.2 ∙ (search rules)) c.requires.feeder
