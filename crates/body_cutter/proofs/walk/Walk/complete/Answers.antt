use Rattle.std.proofs.Common.{◌≡◌, ℕ, ◌-◌, [], ◌∷◌, ◌++◌, false, refl, sym, ap, subst, ◌∙◌}
use Rattle.leb_feed.specs.Feeding.{Feeding}
use Rattle.body_cutter.specs.declared.walk.Walk.{Walk}
use Rattle.body_cutter.specs.Bodies.{Block, Begins}
use Rattle.body_cutter.specs.Queues.{with_begun, with_body, joined}
use Rattle.body_cutter.specs.Walks.{batches_of, index_of, Starts}
use Rattle.body_cutter.proofs.Fills.{completed, body_of}
use Rattle.body_cutter.proofs.Starts.{begun_anew, completed as completed_starts}
use Rattle.body_cutter.proofs.walk.Walk.complete.Goals as goal

-- the body is the one in hand
gained : (w : Walk) (b : Block) (len : ℕ) → len ≡ w.len → b ≡ record { bodies = w.block.bodies ++ record { index = index_of w; size = w.size_at; first = w.at - len; bytes = w.block.rest } ∷ []; rest = [] }
    → b ≡ record { bodies = w.block.bodies ++ body_of w ∷ []; rest = [] }
gained w b len e is = is ∙ ap (λ (n : ℕ). record { bodies = w.block.bodies ++ record { index = index_of w; size = w.size_at; first = w.at - n; bytes = w.block.rest } ∷ []; rest = [] }) e

-- the block with the body is what `close_full` finds
starts : (w : Walk) (saved b : Block) → b ≡ record { bodies = w.block.bodies ++ body_of w ∷ []; rest = [] } → Starts saved w → Starts saved (record w { block = b })
starts w saved b e h = begun_anew w.closed saved w.block b (λ k. subst (Begins saved) (sym e) (completed_starts saved w.block (body_of w) refl k)) h

pub returns-in_err-close_full-clause-starts : goal.returns-in_err-close_full-clause-starts
returns-in_err-close_full-clause-starts c = λ saved h. c.close_full.ensures.starts saved (starts c.args.self.now saved c.complete.new.self (gained c.args.self.now c.complete.new.self c.from.result c.from.ensures c.in_ok-complete.ensures.ok) h)

pub returns-clause-starts : goal.returns-clause-starts
returns-clause-starts c = λ saved h.
    subst (Starts saved) (sym c.settle.ensures.only) (c.close_full.ensures.starts saved (starts c.args.self.now saved c.complete.new.self (gained c.args.self.now c.complete.new.self c.from.result c.from.ensures c.in_ok-complete.ensures.ok) h))

pub returns-clause-same : goal.returns-clause-same
returns-clause-same c =
    let w = c.args.self.now in
    let v = c.close_full.new.self in
    let m : Walk = record v { count = v.count - 1; sized = false; size_at = v.at; leb = c.next_size-self.result } in
    let ok = c.in_ok-close_full.ensures.ok in
    let batches : batches_of m ≡ with_body (batches_of w) (body_of w) =
    c.in_ok-close_full.ensures.batches
    ∙ ap (λ (b : Block). with_begun (record { least = w.least; number = 0; closed = joined w.closed; begun = b.bodies }) b.bodies) (gained w c.complete.new.self c.from.result c.from.ensures c.in_ok-complete.ensures.ok) in
    let count : m.count ≡ w.count - 1 = ap (λ (u : Walk). u.count - 1) ok in
    let behind : m.behind ≡ w.behind = ap (λ (u : Walk). u.behind) ok in
    let end : m.end ≡ w.end = ap (λ (u : Walk). u.end) ok in
    let place : m.size_at ≡ w.at = ap (λ (u : Walk). u.at) ok in
    let going = ap (λ (u : Walk). u.stop) ok ∙ c.requires.going in
    λ more. completed w m c.requires batches count behind end place (ap (λ (f : Feeding). f.bytes) c.next_size-self.ensures.begun) refl going more ∙ c.settle.ensures.same more
