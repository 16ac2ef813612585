-- The batches, joined.
use Rattle.std.proofs.Common.{◌≡◌, inl, inr, leb, List, [], ◌∷◌, ◌++◌, take, drop, Some, refl, sym, ap, ◌∙◌, append_assoc}
use Rattle.std.proofs.lemmas.Bool.{cases_Bool}
use Rattle.std.proofs.lemmas.List.{append-nil, take-append-drop}
use Rattle.body_cutter.specs.declared.batch.Batch.{Batch}
use Rattle.body_cutter.specs.Bodies.{Body, byte_count}
use Rattle.body_cutter.specs.Sections.{Given, End, Whole, Faulty, Owed}
use Rattle.body_cutter.specs.Queues.{Queue, bodies_in, with_begun, with_body, with_bodies, all_closed, batch_length}
use Rattle.body_cutter.specs.Cuttings.{Cutting, handed, finished, Takes}

pub begun_in : (q : Queue) (bodies : List Body) → bodies_in (with_begun q bodies) ≡ q.closed ++ bodies
begun_in q bodies = elim (cases_Bool (leb q.least (byte_count bodies))) [
  | inl e ↦ rw e (append-nil (q.closed ++ bodies))
  | inr e ↦ rw e refl
]

with_in : (bodies : List Body) (q : Queue) → bodies_in (with_bodies q bodies) ≡ bodies_in q ++ bodies
with_in [] q = sym (append-nil (bodies_in q))
with_in (b ∷ bodies) q =
    with_in bodies (with_body q b)
    ∙ ap (λ (l : List Body). l ++ bodies) (begun_in q (q.begun ++ b ∷ []) ∙ sym (append_assoc q.closed q.begun (b ∷ [])))
    ∙ append_assoc (bodies_in q) (b ∷ []) bodies

closed_in : (q : Queue) → bodies_in (all_closed q) ≡ bodies_in q
closed_in q = append-nil (q.closed ++ q.begun)

finished_in : (e : End) (q : Queue) → bodies_in (finished e q) ≡ bodies_in q
finished_in Whole q = closed_in q
finished_in (Faulty r) q = closed_in q
finished_in Owed q = refl

pub handed_join : (q : Queue) (g : Given) → bodies_in (handed q g).queue ≡ bodies_in q ++ g.bodies
handed_join q g = finished_in g.ending (with_bodies q g.bodies) ∙ with_in g.bodies q

pub taken_join : (old new : Cutting) (b : Batch) → Takes old (Some b) new → bodies_in old.queue ≡ b.bodies ++ bodies_in new.queue
taken_join old new b (number, bodies, start, is) =
    let n = batch_length old.queue.least old.queue.closed in
    ap (λ (l : List Body). l ++ old.queue.begun) (sym (take-append-drop n old.queue.closed))
    ∙ append_assoc (take n old.queue.closed) (drop n old.queue.closed) old.queue.begun
    ∙ ap (λ (l : List Body). l ++ (drop n old.queue.closed ++ old.queue.begun)) (sym bodies)
    ∙ ap (λ (l : List Body). b.bodies ++ l) (sym (ap (λ (k : Cutting). bodies_in k.queue) is))
