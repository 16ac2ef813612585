use Rattle.std.proofs.Common.{rules}
use Rattle.std.specs.Vec.Iter.{into_iter_items}
use Rattle.batch_pool.specs.Gathering.{AreOf}
use Rattle.batch_pool.proofs.GatheringLaws.{gathers_same, gathers_trans}
use Rattle.body_compiler.proofs.Rests.{all_same, all_tail}
use Rattle.batch_pool.proofs.scope.gathering.join_all.Goals as goal

pub loop-handle-init : goal.loop-handle-init
loop-handle-init g c = (
  search rules,
  all_same (λ h. AreOf c.args.context.now c.args.cells.now c.args.board.now.table h.promise) c.args.handles.items (into_iter_items c.into_iter-handle-iterator.result) (search rules) c.requires.each,
  gathers_same c.args.context.now c.args.cells.now c.args.seat.now.view c.args.rows.now.items,
  search rules,
)

pub loop-handle-preserved : goal.loop-handle-preserved
loop-handle-preserved g c = (
  search rules,
  all_tail (λ h. AreOf c.args.context.now c.args.cells.now c.args.board.now.table h.promise) c.in-Some.handle (into_iter_items c.loop-handle.handle-iterator) (into_iter_items c.next.new.self) c.in-Some.ensures.steps.0 c.loop-handle.invariant.1,
  gathers_trans c.args.context.now c.args.cells.now _ _ _ _ _ _ c.loop-handle.invariant.2 c.in_ok-take_in.ensures.gathers,
  search rules,
)
