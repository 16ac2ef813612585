-- What workers give back to the thread that started them.
use Rattle.std.specs.Prelude.{◌≡◌, ℕ, List}
use Rattle.atomic_table.specs.Seated.{TableId}
use Rattle.index_spaces.specs.Spaces.{Spaces}
use Rattle.result_cells.specs.Rooms.{Store}
use Rattle.batch_pool.specs.declared.scope.labour.Labour.{Labour}
use Rattle.cancel_drain.specs.declared.view.View.{View}
use Rattle.cancel_drain.specs.Handles.{Sitter}
use Rattle.cancel_drain.specs.Views.{spent_view}
use Rattle.body_compiler.specs.declared.batch.row.Row.{Row}
use Rattle.batch_pool.specs.Working.{Adds}

-- a seat that was split off, with one part
abbrev pub IsFresh : TableId → Sitter → Type 0
IsFresh table s = (s.table ≡ table) × ((seen : ℕ) × (s.view ≡ record spent_view { parts = 1; seen = seen }))

-- the rows of some workers, whose seats were joined: nothing of theirs is running
pub record Gathers (c : Spaces) (cells : Store) (old new : View) (rows rows' : List Row) : Type 0 where
  pub adds : Adds c cells old new rows rows'
  pub running : new.running ≡ old.running

-- a promise under this context and these cells, of a seat that was split off
abbrev pub AreOf : Spaces → Store → TableId → Labour → Type 0
AreOf spaces cells table p = (p.context.now ≡ spaces) × (p.cells.now ≡ cells) × IsFresh table p.seat.value
