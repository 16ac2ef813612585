-- What the thread that reads has once it joined the workers.
use Rattle.std.proofs.Common.{◌≡◌, ℕ, List, [], ◌++◌, map, All, sym, ap, subst, ◌∙◌, append_assoc}
use mathlib.Core.List.{map-append}
use Rattle.batch_pool.proofs.Served.{keys-append}
use Rattle.std.proofs.lemmas.List.Elements.{All-append}
use Rattle.index_spaces.specs.Spaces.{Spaces}
use Rattle.result_cells.specs.Rooms.{Store}
use Rattle.cancel_drain.specs.declared.view.View.{View}
use Rattle.cancel_drain.specs.Handles.{Site, Sitter}
use Rattle.body_compiler.specs.declared.batch.row.Row.{Row}
use Rattle.body_compiler.specs.BatchRows.{IsRowOf}
use Rattle.batch_pool.specs.Working.{Grows, place_of, keys_of}
use Rattle.batch_pool.specs.declared.scope.desk.Desk.{Desk}
use Rattle.batch_pool.specs.Desks.{IsDesk, IsIdle, HasRead}
use Rattle.batch_pool.specs.Gathering.{Gathers}
use Rattle.batch_pool.specs.Settling.{AreKept}

module _ (c : Spaces) (cells : Store) where
  -- the rows of the workers that couldn't be started, and of the others
  rows_right : (v w x y : View) (rows more : List Row) → Gathers c cells v w [] rows → Gathers c cells x y rows more → All (IsRowOf c cells) more
  rows_right v w x y rows more a b =
      subst (All (IsRowOf c cells)) (sym (b.adds.are ∙ ap (λ (l : List Row). l ++ b.adds.more) a.adds.are)) (All-append (IsRowOf c cells) a.adds.more b.adds.more a.adds.right b.adds.right)

  pub has_read : (board : Site) (v w : View) (rows more : List Row) (d d' : Desk) (seat : Sitter) → Gathers c cells v w [] rows → d.seat.view ≡ w → IsIdle d d' → IsDesk c board d' → Gathers c cells d'.seat.view seat.view rows more
      → seat.table ≡ board.table → seat.view.parts ≡ v.parts → HasRead c cells board v seat d'.kept.items more
  has_read board v w rows more d d' seat a at idle desk b table all = record {
    table = table;
    feeder = b.adds.feeder ∙ desk.feeder;
    running = b.running ∙ desk.running;
    all = all;
    tickets = subst (λ (l : List ℕ). AreKept c board.functions l d'.kept.items) (sym b.adds.published) desk.kept;
    right = rows_right v w d'.seat.view seat.view rows more a b;
    done = b.adds.done ∙ (ap (λ (l : List (ℕ × ℕ)). l ++ map place_of b.adds.more) (idle.done ∙ (ap (λ (x : View). x.done) at ∙ a.adds.done))
        ∙ (append_assoc v.done (map place_of a.adds.more) (map place_of b.adds.more) ∙ ap (λ (l : List (ℕ × ℕ)). v.done ++ l) (sym (map-append place_of a.adds.more b.adds.more) ∙ ap (map place_of) (sym (are_all a.adds.more b.adds.more a.adds.are b.adds.are)))));
    reported = b.adds.reported ∙ (ap (λ (l : List ℕ). l ++ keys_of b.adds.more) (idle.reported ∙ (ap (λ (x : View). x.reported) at ∙ a.adds.reported))
        ∙ (append_assoc v.reported (keys_of a.adds.more) (keys_of b.adds.more) ∙ ap (λ (l : List ℕ). v.reported ++ l) (sym (keys-append a.adds.more b.adds.more) ∙ ap keys_of (sym (are_all a.adds.more b.adds.more a.adds.are b.adds.are)))));
  }
    where
      are_all : (xs ys : List Row) → rows ≡ xs → more ≡ rows ++ ys → more ≡ xs ++ ys
      are_all xs ys e f = f ∙ ap (λ (l : List Row). l ++ ys) e

  -- the rows of the workers, and those of the thread that settled
  pub rows_grown : (v w : View) (rows more : List Row) → Grows c cells v w rows more → All (IsRowOf c cells) rows → All (IsRowOf c cells) more
  rows_grown v w rows more g all = subst (All (IsRowOf c cells)) (sym g.adds.are) (All-append (IsRowOf c cells) rows g.adds.more all g.adds.right)
