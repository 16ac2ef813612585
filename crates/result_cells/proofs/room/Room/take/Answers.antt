use Rattle.std.proofs.Common.{◌-◌, rules, arith, refl, ◌∙◌}
use Rattle.result_cells.specs.Views.{seen_view}
use Rattle.result_cells.proofs.Kept.{looks_kept, tries_kept, empties_kept, missed, lowered, granted, short_of}
use Rattle.result_cells.proofs.room.Room.take.Goals as goal

pub load_new_seat-left-requires : goal.load_new_seat-left-requires
load_new_seat-left-requires c = (search rules, looks_kept _ _ (seen_view 0))

pub compare_exchange-found-requires : goal.compare_exchange-found-requires
compare_exchange-found-requires c = (search rules, search rules, tries_kept _ _ _ _ _ _ (omega arith))

pub loop-left-preserved : goal.loop-left-preserved
loop-left-preserved c = (
  c.compare_exchange-found.ensures.0 ∙ c.loop-left.invariant.0,
  missed c.loop-left.place.me c.compare_exchange-found.new.seat.me c.loop-left.left (c.loop-left.left - c.args.words) c.compare_exchange-found.result c.loop-left.invariant.1 c.compare_exchange-found.ensures.2 c.if-found-left.false,
)

pub loop-left-smaller : goal.loop-left-smaller
loop-left-smaller c =
    lowered c.loop-left.place.me c.compare_exchange-found.new.seat.me c.loop-left.left (c.loop-left.left - c.args.words) c.compare_exchange-found.result c.loop-left.invariant.1 c.compare_exchange-found.ensures.2 c.if-found-left.false

pub returns-then-found-left-clause-taken : goal.returns-then-found-left-clause-taken
returns-then-found-left-clause-taken c = (
  search rules,
  granted c.loop-left.place.me c.compare_exchange-found.new.seat.me c.loop-left.left (c.loop-left.left - c.args.words) c.compare_exchange-found.result c.loop-left.invariant.1 c.compare_exchange-found.ensures.2 c.args.words (omega arith) refl c.if-found-left.true,
)

pub swap-requires : goal.swap-requires
swap-requires c = (search rules, search rules, empties_kept _ _ _ _)

pub returns-clause-short : goal.returns-clause-short
returns-clause-short c =
    let short = short_of c.loop-left.place.me c.swap.new.seat.me c.swap.result c.loop-left.left c.args.words c.loop-left.invariant.1 c.swap.ensures.2 (omega arith) in (
      search rules,
      short.0,
      short.1,
    )
