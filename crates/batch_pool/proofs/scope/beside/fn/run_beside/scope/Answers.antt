use Rattle.std.proofs.Common.{◌≡◌, rules, refl, ap, ◌∙◌, arith, []}
use Rattle.cancel_drain.specs.Handles.{Sitter}
use Rattle.batch_pool.specs.Gathering.{AreOf}
use Rattle.batch_pool.proofs.GatheringLaws.{gathers_split, gathers_trans, gathers_at, are_of}
use Rattle.body_compiler.proofs.Rests.{all_pushed, all_same}
use Rattle.batch_pool.proofs.AfterReading.{has_read}
use Rattle.batch_pool.proofs.scope.beside.fn.run_beside.scope.Goals.{in-Ok+in-Ok-push, in-Err+in-Some-take_in}
use Rattle.batch_pool.proofs.scope.beside.fn.run_beside.scope.Goals as goal

pub loop-hand-preserved : goal.loop-hand-preserved
loop-hand-preserved g c =
    let i = c.loop-hand.invariant in
    let ctx = c.captures.compiler.now.context.now in
    let cells = c.captures.compiler.now.cells.now in
    let split = gathers_split ctx cells c.captures.seat.view c.loop-hand.seat.view c.split-part.new.seat.view [] c.loop-hand.rows.items i.3 (ap (λ s. s.view) c.split-part.ensures.left) in
    elim c.match-spawn_with.branch [
      | in-Ok+in-Ok-push w ↦ (
        tt,
        tt,
        search rules,
        gathers_at ctx cells c.captures.seat.view c.split-part.new.seat.view c.match-spawn_with.seat.view [] c.loop-hand.rows.items c.match-spawn_with.rows.items (search rules) (search rules) split,
        search rules,
        search rules,
        all_pushed (λ h. AreOf c.captures.compiler.now.context.now c.captures.compiler.now.cells.now c.captures.board.now.table h.promise) w.in-Ok.handle c.loop-hand.handles.items c.match-spawn_with.handles.items (search (rules, w.in-Ok-push.ensures.items)) i.6
            (are_of c.captures.compiler.now.context.now c.captures.compiler.now.cells.now c.captures.board.now.table w.in-Ok.handle.promise _ c.split-part.result c.loop-hand.seat.view.seen w.in-Ok.ensures.ok refl refl c.of.ensures (search rules) c.split-part.ensures.right.1),
      )
      | in-Err+in-Some-take_in w ↦ (
        tt,
        tt,
        search rules,
        gathers_at ctx cells c.captures.seat.view w.take_in.new.seat.view c.match-spawn_with.seat.view [] w.take_in.new.rows.items c.match-spawn_with.rows.items (search rules) (search rules)
            (gathers_trans ctx cells c.captures.seat.view c.split-part.new.seat.view w.take_in.new.seat.view [] c.loop-hand.rows.items w.take_in.new.rows.items split w.in-Some-take_in.ensures.gathers),
        search rules,
        search rules,
        all_same (λ h. AreOf c.captures.compiler.now.context.now c.captures.compiler.now.cells.now c.captures.board.now.table h.promise) c.loop-hand.handles.items c.match-spawn_with.handles.items (search rules) i.6,
      )
    ]

pub help-requires-clause-parts : goal.help-requires-clause-parts
help-requires-clause-parts g c = λ κs lives.
    let i = c.loop-hand.invariant in
    omega (arith, i.4, i.5, c.read.ensures.parts, ap (λ (s : Sitter). s.view.parts) c.new-desk.ensures.seat)

pub help-requires-clause-room : goal.help-requires-clause-room
help-requires-clause-room g c = λ κs lives.
    let i = c.loop-hand.invariant in
    omega (arith, i.4, c.read.ensures.parts, c.requires.parts.1, ap (λ (s : Sitter). s.view.parts) c.new-desk.ensures.seat)

pub join_all-requires : goal.join_all-requires
join_all-requires g c =
    let i = c.loop-hand.invariant in
    let kept = c.read.ensures in
    record {
      table = c.help.ensures.table ∙ kept.desk.table;
      room = omega (arith, i.4, kept.parts, c.help.ensures.parts, c.requires.parts.1, ap (λ (s : Sitter). s.view.parts) c.new-desk.ensures.seat);
      each = i.6;
    }

pub returns : goal.returns
returns g c =
    let i = c.loop-hand.invariant in
    let ctx = c.captures.compiler.now.context.now in
    let cells = c.captures.compiler.now.cells.now in
    let d = c.new-desk.result in
    let kept = c.read.ensures in
    let same : d.seat.view.parts ≡ c.loop-hand.seat.view.parts = ap (λ (s : Sitter). s.view.parts) c.new-desk.ensures.seat in
    let more = gathers_trans ctx cells c.read.new.desk.seat.view c.help.new.seat.view c.join_all.new.seat.view c.loop-hand.rows.items c.help.new.rows.items c.join_all.new.rows.items c.in-Some-help.ensures.gathers c.in-Some-join_all.ensures.gathers in
    record {
      read = has_read ctx cells c.captures.board.now c.captures.seat.view c.loop-hand.seat.view c.loop-hand.rows.items c.join_all.new.rows.items d c.read.new.desk c.join_all.new.seat i.3
          (ap (λ (s : Sitter). s.view) c.new-desk.ensures.seat) kept.idle kept.desk more (c.join_all.ensures.table ∙ (c.help.ensures.table ∙ kept.desk.table))
          (omega (arith, i.4, kept.parts, same, c.help.ensures.parts, c.in-Some-join_all.ensures.parts));
      made = kept.reads;
      back = tt;
    }
