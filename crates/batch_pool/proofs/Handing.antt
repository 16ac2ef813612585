-- Which batches may be handed over.
use Rattle.std.proofs.Common.{ℕ, ◌≡◌, ◌<◌, ◌≤◌, [], ◌∷◌, length, All, inl, inr, ap, subst, ◌∙◌, arith}
use Rattle.std.specs.Prelude.{Result, Ok, Err, MatchResult}
use Rattle.std.specs.Arc.{arc_value}
use Rattle.index_spaces.specs.Spaces.{Spaces}
use Rattle.body_cutter.specs.declared.batch.Batch.{Batch}
use Rattle.cancel_drain.specs.Handles.{Site}
use Rattle.batch_pool.specs.declared.ticket.Ticket.{Ticket}
use Rattle.batch_pool.specs.Hands.{Feeding}
use Rattle.body_compiler.specs.LowBatches.{IsLow}
use Rattle.batch_pool.specs.Queues.{puts}
use Rattle.body_compiler.specs.BatchRows.{FitsBody}
use Rattle.batch_pool.specs.Working.{Fits}
use Rattle.batch_pool.specs.declared.scope.desk.Desk.{Desk}
use Rattle.batch_pool.specs.Desks.{IsDesk, IsNext, PutsIn}

module _ (c : Spaces) (board : Site) (d : Desk) (b : Batch) where
  module _ (t : Ticket) (same : arc_value t.batch ≡ b) where
    pub number_is : t.number ≡ b.number
    number_is = t.same_number ∙ ap (λ (x : Batch). x.number) same

    pub start_is : t.start ≡ b.start
    start_is = t.same_start ∙ ap (λ (x : Batch). x.start) same

    pub is_next : IsDesk c board d → t.number ≡ length d.kept.items → (0 < length d.kept.items → d.last < t.start) → Fits c board.functions t → IsNext c board.functions d b
    is_next desk number above fits =
        let count = desk.kept.count in
        let place = fits.place in record {
          low = subst IsLow same t.low;
          number = omega (arith, number_is);
          start = λ some. let later = above (omega arith) in let last = desk.last some in omega (arith, later, last, start_is);
          place = omega (arith, number_is);
          bodies = subst (λ (x : Batch). All (FitsBody c) x.bodies) same fits.bodies;
        }

-- what came of the ticket that was put
pub puts_in : (m : ℕ) (f f' : Feeding) (b : Batch) (t : Ticket) (r : Result (Unit {0}) Ticket) → arc_value t.batch ≡ b → t.module ≡ m
    → MatchResult r (λ _. f' ≡ record f { view = puts f.view (t ∷ []) }) (λ u. (u ≡ t) × (f' ≡ f) × (f.room ≤ length f.view.put)) → PutsIn m f b f'
puts_in m f f' b t (Ok u) same of is = inl (t, same, of, is)
puts_in m f f' b t (Err u) same of is = inr (is.1, is.2)
