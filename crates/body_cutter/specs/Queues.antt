-- Bodies in batches.
use Rattle.std.specs.Prelude.{◌≡◌, ℕ, suc, ◌-◌, ◌<◌, ◌⊎◌, List, [], ◌∷◌, ◌++◌, length, drop, nat_le, if◌then◌else◌}
use Rattle.body_cutter.specs.Bodies.{Body, byte_count}

-- batches from a number on: the bodies of those that are closed, one after another, and of the one that is begun; a batch
-- closes where its bodies have so many bytes
pub record Queue : Type 0 where
  pub least : ℕ
  pub number : ℕ
  pub closed : List Body
  pub begun : List Body

-- all bodies, in order
abbrev pub bodies_in : Queue → List Body
bodies_in q = q.closed ++ q.begun

-- the batch that is begun gains a body
abbrev pub with_begun : Queue → List Body → Queue
with_begun q bodies =
    if nat_le q.least (byte_count bodies)
    then record { least = q.least; number = q.number; closed = q.closed ++ bodies; begun = [] }
    else record { least = q.least; number = q.number; closed = q.closed; begun = bodies }

abbrev pub with_body : Queue → Body → Queue
with_body q b = with_begun q (q.begun ++ b ∷ [])

abbrev pub with_bodies : Queue → List Body → Queue
with_bodies q [] = q
with_bodies q (b ∷ bodies) = with_bodies (with_body q b) bodies

-- nothing is to come: the batch that is begun closes
abbrev pub all_closed : Queue → Queue
all_closed q = record { least = q.least; number = q.number; closed = q.closed ++ q.begun; begun = [] }

-- how many bodies the first batch has: up to the first at which they have so many bytes
abbrev pub batch_length : ℕ → List Body → ℕ
batch_length least [] = 0
batch_length least (b ∷ bodies) = if nat_le least (length b.bytes) then 1 else suc (batch_length (least - length b.bytes) bodies)

-- without its first batch
abbrev pub without_first : Queue → Queue
without_first q = record { least = q.least; number = suc q.number; closed = drop (batch_length q.least q.closed) q.closed; begun = q.begun }

-- the first body's size has that offset
abbrev pub starts_at : ℕ → List Body → Type 0
starts_at start [] = ⊥
starts_at start (b ∷ bodies) = start ≡ b.size

-- ---- batches that are lists of their own

abbrev pub joined : List (List Body) → List Body
joined [] = []
joined (batch ∷ batches) = batch ++ joined batches

-- there is a body, and whatever bodies follow, the first batch is these
pub record IsFull (least : ℕ) (batch : List Body) : Type 0 where
  pub some : 0 < length batch
  pub first : (bodies : List Body) → batch_length least (batch ++ bodies) ≡ length batch

-- there is a body, and where none follows, the first batch is these
pub record IsLast (least : ℕ) (batch : List Body) : Type 0 where
  pub some : 0 < length batch
  pub first : batch_length least batch ≡ length batch

-- they have too few bytes for a batch
abbrev pub AreFew : ℕ → List Body → Type 0
AreFew least bodies = (bodies ≡ []) ⊎ (byte_count bodies < least)
