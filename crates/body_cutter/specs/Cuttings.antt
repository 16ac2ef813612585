-- What a cutter has still to hand over.
use Rattle.std.specs.Prelude.{◌≡◌, ℕ, ◌+◌, ◌-◌, min, Bool, true, not, ◌&&◌, ◌==◌, is_some, List, [], ◌++◌, length, take, drop, ◌⊎◌, Option, Some, None, Result, Ok, Err}
use Rattle.wasm_defs.specs.declared.fault.Kind.TheVariants.{Ended}
use Rattle.wasm_defs.specs.declared.fault.Refusal.{Refusal}
use Rattle.body_cutter.specs.declared.batch.Batch.{Batch}
use Rattle.wasm_defs.specs.declared.front_stop.FrontStop.{FrontStop}
use Rattle.wasm_defs.specs.declared.front_stop.FrontStop.TheVariants as stop
use Rattle.body_cutter.specs.Sections.{Given, End, Whole, Faulty, Owed}
use Rattle.body_cutter.specs.Places.{Place, still}
use Rattle.body_cutter.specs.Queues.{Queue, with_bodies, all_closed, batch_length, without_first, starts_at}

-- where reading is, and the batches that wait
pub record Cutting : Type 0 where
  pub place : Place
  pub queue : Queue

-- the batches and how the section ends
pub record Handed : Type 0 where
  pub queue : Queue
  pub ending : End

-- where the section has ended, or has an error, the batch that is begun closes
abbrev pub finished : End → Queue → Queue
finished Whole q = all_closed q
finished (Faulty r) q = all_closed q
finished Owed q = q

abbrev pub handed : Queue → Given → Handed
handed q g = record { queue = finished g.ending (with_bodies q g.bodies); ending = g.ending }

-- what is handed over where these bytes come next
unfoldable pub left : Cutting → List ℕ → Handed
left c more = handed c.queue (still c.place more)

abbrev pub no_batch : ℕ → Queue
no_batch least = record { least = least; number = 0; closed = []; begun = [] }

-- all that the bytes that came decide is there: the queue has their bodies, its batches are closed where they are to be, and
-- an error is known
pub record IsPrompt (c : Cutting) : Type 0 where
  pub queue : (left c []).queue ≡ c.queue
  pub refused : (r : Refusal) → (left c []).ending ≡ Faulty r → c.place.stop ≡ Some r

-- the bytes that were taken are all that are in the section, whatever bytes follow the same is handed over, and so far there
-- is no error
pub record IsFed (old : Cutting) (bytes : List ℕ) (taken : ℕ) (new : Cutting) : Type 0 where
  pub all : taken ≡ min (length bytes) (old.place.end - old.place.at)
  pub same : (more : List ℕ) → left old (bytes ++ more) ≡ left new (drop taken bytes ++ more)
  pub place : (new.place.at ≡ old.place.at + taken) × (new.place.end ≡ old.place.end)
  pub going : new.place.stop ≡ None
  pub prompt : IsPrompt new

-- whatever bytes follow, the section has this error, and what is in the queue is handed over; it is so for good
pub record IsRefused (old : Cutting) (bytes : List ℕ) (r : Refusal) (new : Cutting) : Type 0 where
  pub same : (more : List ℕ) → left old (bytes ++ more) ≡ record { queue = new.queue; ending = Faulty r }
  pub stays : new.place.stop ≡ Some r
  pub again : old.place.stop ≡ Some r → new ≡ old

-- running out of memory changes nothing, and is answered only where no refusal was reported before
abbrev pub Feeds : Cutting → List ℕ → Result ℕ FrontStop → Cutting → Type 0
Feeds old bytes (Ok taken) new = IsFed old bytes taken new
Feeds old bytes (Err (stop.Refused r)) new = IsRefused old bytes r new
Feeds old bytes (Err stop.NoMemory) new = (old.place.stop ≡ None) × (new ≡ old)

-- the bytes end: the section isn't whole, which is an error at the number of bytes, and the batch that is begun closes
abbrev pub ended_at : ℕ → Refusal
ended_at len = record { offset = len; kind = Ended }

pub record IsEnded (old : Cutting) (r : Refusal) (new : Cutting) : Type 0 where
  pub owed : (left old []).ending ≡ Owed
  pub fault : r ≡ ended_at old.place.at
  pub stays : new.place.stop ≡ Some r
  pub closed : new.queue ≡ all_closed old.queue

-- all bytes of the section came, and it has no error
abbrev pub is_whole : Cutting → Bool
is_whole c = not (is_some c.place.stop) && (c.place.count == 0 && c.place.at == c.place.end)

-- the section is whole; or it has this error, which was reported before, or is that its bytes ended
abbrev pub Ends : Cutting → Result (Unit {0}) FrontStop → Cutting → Type 0
Ends old (Ok u) new = (is_whole old ≡ true) × ((left old []).ending ≡ Whole) × (new ≡ old)
Ends old (Err (stop.Refused r)) new = ((old.place.stop ≡ Some r) × (new ≡ old)) ⊎ IsEnded old r new
Ends old (Err stop.NoMemory) new = ⊥

-- the first closed batch, or that none is closed
abbrev pub Takes : Cutting → Option Batch → Cutting → Type 0
Takes old (Some b) new =
    (b.number ≡ old.queue.number)
    × (b.bodies ≡ take (batch_length old.queue.least old.queue.closed) old.queue.closed)
    × starts_at b.start old.queue.closed
    × (new ≡ record { place = old.place; queue = without_first old.queue })
Takes old None new = (old.queue.closed ≡ []) × (new ≡ old)
