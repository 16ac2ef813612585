use Rattle.std.proofs.Common.{rules, ◌≡◌, ℕ, List, ◌∷◌, All, set, Option, Some, refl, ◌∙◌}
use Rattle.std.specs.Vec.Iter.{into_iter_items}
use Rattle.std.proofs.lemmas.List.Elements.{All-set}
use Rattle.index_spaces.specs.Spaces.{Spaces}
use Rattle.result_cells.specs.Rooms.{Store}
use Rattle.body_compiler.specs.declared.batch.row.Row.{Row}
use Rattle.body_compiler.specs.BatchRows.{IsRowOf, IsRowIf}
use Rattle.body_compiler.proofs.Rests.{all_head, all_tail}
use Rattle.batch_pool.proofs.Placing.{placing_ends, row_placed}
use Rattle.batch_pool.proofs.scope.numbered.by_number.Goals as goal

-- the rows that are left, and the places with this one
kept : (spaces : Spaces) (cells : Store) (row : Row) (rows rest : List Row) (places : List (Option Row)) → rows ≡ row ∷ rest → All (IsRowOf spaces cells) rows → All (IsRowIf spaces cells) places
    → All (IsRowOf spaces cells) rest × ((number : ℕ) → All (IsRowIf spaces cells) (set places number (Some row)))
kept spaces cells row rows rest places step all if-any = (
  all_tail (IsRowOf spaces cells) row rows rest step all,
  λ number. All-set (IsRowIf spaces cells) places number (Some row) (all_head (IsRowOf spaces cells) row rows rest step all) if-any,
)

pub loop-row-preserved-then-number-len : goal.loop-row-preserved-then-number-len
loop-row-preserved-then-number-len c =
    let k = kept c.args.context.now c.args.cells.now c.in-Some.row (into_iter_items c.loop-row.row-iterator) (into_iter_items c.next.new.self) c.loop-row.places.items c.in-Some.ensures.steps.0 c.loop-row.invariant.0 c.loop-row.invariant.1 in
    (k.0, k.1 _, search rules, search rules, search rules)

pub loop-row-preserved-then-number-len-2 : goal.loop-row-preserved-then-number-len-2
loop-row-preserved-then-number-len-2 c =
    let k = kept c.args.context.now c.args.cells.now c.in-Some.row (into_iter_items c.loop-row.row-iterator) (into_iter_items c.next.new.self) c.loop-row.places.items c.in-Some.ensures.steps.0 c.loop-row.invariant.0 c.loop-row.invariant.1 in
    let placed = row_placed c.args.rows.items (into_iter_items c.loop-row.row-iterator) (into_iter_items c.next.new.self) c.in-Some.row c.in-Some.ensures.steps.0 c.loop-row.places.items _ c.deref.result.now.number c.loop-row.invariant.3 (search rules) (search rules) refl in
    (k.0, k.1 _, search rules, placed, search rules)

pub loop-row-preserved-then-number-len-3 : goal.loop-row-preserved-then-number-len-3
loop-row-preserved-then-number-len-3 c =
    let k = kept c.args.context.now c.args.cells.now c.in-Some.row (into_iter_items c.loop-row.row-iterator) (into_iter_items c.next.new.self) c.loop-row.places.items c.in-Some.ensures.steps.0 c.loop-row.invariant.0 c.loop-row.invariant.1 in
    let placed = row_placed c.args.rows.items (into_iter_items c.loop-row.row-iterator) (into_iter_items c.next.new.self) c.in-Some.row c.in-Some.ensures.steps.0 c.loop-row.places.items _ c.deref.result.now.number c.loop-row.invariant.3 (search rules) (search rules) refl in
    (k.0, k.1 _, search rules, placed, search rules)

pub loop-row-preserved : goal.loop-row-preserved
loop-row-preserved c = (
  all_tail (IsRowOf c.args.context.now c.args.cells.now) c.in-Some.row (into_iter_items c.loop-row.row-iterator) (into_iter_items c.next.new.self) c.in-Some.ensures.steps.0 c.loop-row.invariant.0,
  c.loop-row.invariant.1,
  search rules,
  search rules,
  search rules,
)

pub loop-row-preserved-else-number-len : goal.loop-row-preserved-else-number-len
loop-row-preserved-else-number-len c = (
  all_tail (IsRowOf c.args.context.now c.args.cells.now) c.in-Some.row (into_iter_items c.loop-row.row-iterator) (into_iter_items c.next.new.self) c.in-Some.ensures.steps.0 c.loop-row.invariant.0,
  c.loop-row.invariant.1,
  search rules,
  search rules,
  search rules,
)

pub returns-clause-places : goal.returns-clause-places
returns-clause-places c = placing_ends c.args.rows.items (into_iter_items c.loop-row.row-iterator) c.loop-row.places.items c.args.count c.loop-row.invariant.3 (c.loop-row.invariant.4 ∙ (search rules)) (search rules)
