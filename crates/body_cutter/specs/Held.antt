-- What holds of a cutter between two calls.
use Rattle.std.specs.Prelude.{◌≡◌, ℕ, ◌+◌, ◌<◌, ◌≤◌, ◌^◌, List, [], ◌++◌, length, All, Bool, true, false, ◌&&◌, ◌==◌, Option, Some, None}
use Rattle.wasm_defs.specs.declared.fault.Refusal.{Refusal}
use Rattle.body_cutter.specs.Sections.{End, Whole, Faulty, Owed}
use Rattle.body_cutter.specs.Cuttings.{finished}
use Rattle.body_cutter.specs.declared.walk.Walk.{Walk}
use Rattle.body_cutter.specs.declared.queue.Waiting.{Waiting}
use Rattle.body_cutter.specs.Walks.{IsSound, AreBatches, is_over}
use Rattle.body_cutter.specs.Bodies.{Body}
use Rattle.body_cutter.specs.Queues.{Queue, joined, IsFull, IsLast}

-- how the section ends by what came
abbrev pub end_of : Option Refusal → Bool → End
end_of (Some r) whole = Faulty r
end_of None true = Whole
end_of None false = Owed

-- how it ends by a walk: it is whole where all bodies came, and the last of them ends where the section does
abbrev pub end_by : Walk → End
end_by w = end_of w.stop (w.count == 0 && w.at == w.end)

-- the bodies of the last batch, none where it doesn't wait
abbrev pub last_of : Option (List Body) → List Body
last_of None = []
last_of (Some bodies) = bodies

-- where a last batch waits, its bodies are one batch if none follows
abbrev pub IsLastIf : ℕ → Option (List Body) → Type 0
IsLastIf least None = Unit {0}
IsLastIf least (Some bodies) = IsLast least bodies

-- the bodies of the batches that wait
abbrev pub waiting : Waiting → List Body
waiting q = joined q.closed ++ last_of q.last

-- with the batch that is begun
abbrev pub queue_of : Walk → Waiting → Queue
queue_of w q = record { least = w.least; number = q.number; closed = waiting q; begun = w.block.bodies }

-- what holds of a walk and of the batches that wait, between two calls
pub record IsHeld (w : Walk) (q : Waiting) : Type 0 where
  pub sound : IsSound w
  pub batches : AreBatches w
  pub given : w.closed ≡ []
  pub indices : w.behind < 2 ^ 32
  pub numbers : q.number + (length (waiting q) + length w.block.bodies) + w.count ≤ w.behind
  pub prompt : finished (end_by w) (queue_of w q) ≡ queue_of w q
  pub full : All (IsFull w.least) q.closed
  pub last : IsLastIf w.least q.last
  pub going : is_over w ≡ false → q.last ≡ None
