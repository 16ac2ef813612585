-- What the caller has once it took in what a worker gave back.
use Rattle.std.proofs.Common.{◌≡◌, ℕ, ◌||◌, Bool, true, false, List, sym, refl, ap, ◌∙◌, subst}
use Rattle.atomic_table.specs.Seated.{TableId}
use Rattle.cancel_drain.specs.declared.view.View.{View}
use Rattle.cancel_drain.specs.Handles.{Sitter}
use Rattle.cancel_drain.specs.Views.{spent_view, split_from}
use Rattle.body_compiler.specs.declared.batch.row.Row.{Row}
use Rattle.batch_pool.proofs.Served.{adds_same, adds_trans}
use Rattle.index_spaces.specs.Spaces.{Spaces}
use Rattle.result_cells.specs.Rooms.{Store}
use Rattle.batch_pool.specs.declared.scope.labour.Labour.{Labour}
use Rattle.batch_pool.specs.Gathering.{Gathers, AreOf}

pub or_false : (b : Bool) → (b || false) ≡ b
or_false true = refl
or_false false = refl

module _ (c : Spaces) (cells : Store) where
  pub gathers_same : (v : View) (rows : List Row) → Gathers c cells v v rows rows
  gathers_same v rows = record { adds = adds_same c cells v rows; running = refl }

  pub gathers_trans : (v w x : View) (rs ss ts : List Row) → Gathers c cells v w rs ss → Gathers c cells w x ss ts → Gathers c cells v x rs ts
  gathers_trans v w x rs ss ts a b = record { adds = adds_trans c cells v w x rs ss ts a.adds b.adds; running = b.running ∙ a.running }

  pub gathers_at : (v w w' : View) (rs ss ss' : List Row) → w' ≡ w → ss' ≡ ss → Gathers c cells v w rs ss → Gathers c cells v w' rs ss'
  gathers_at v w w' rs ss ss' e f g = subst (λ (z : View × List Row). Gathers c cells v z.0 rs z.1) (λ i. (sym e i, sym f i)) g

  -- one part was split off
  pub gathers_split : (v w x : View) (rs ss : List Row) → Gathers c cells v w rs ss → x ≡ split_from w → Gathers c cells v x rs ss
  gathers_split v w x rs ss g e = let a = g.adds in subst (λ (y : View). Gathers c cells v y rs ss) (sym e)
      (record { adds = record { more = a.more; are = a.are; right = a.right; done = a.done; reported = a.reported; drained = a.drained; lost = a.lost; feeder = a.feeder; published = a.published }; running = g.running })

-- the promise of a seat that was split off
pub are_of : (spaces : Spaces) (cells : Store) (table : TableId) (p q : Labour) (s : Sitter) (seen : ℕ) → p ≡ q → q.context.now ≡ spaces → q.cells.now ≡ cells → q.seat.value ≡ s
    → s.table ≡ table → s.view ≡ record spent_view { parts = 1; seen = seen } → AreOf spaces cells table p
are_of spaces cells table p q s seen same a b e t v = subst (AreOf spaces cells table) (sym same) (a, b, (ap (λ (x : Sitter). x.table) e ∙ t, (seen, ap (λ (x : Sitter). x.view) e ∙ v)))
