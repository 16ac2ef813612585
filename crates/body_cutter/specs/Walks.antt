-- What a walk over a code section has given, and has still to give.
use Rattle.std.specs.Prelude.{◌≡◌, ℕ, ◌+◌, ◌-◌, ◌<◌, ◌≤◌, ◌^◌, Bool, true, false, List, [], ◌∷◌, length, All, Option, None, Some, is_some, ◌||◌, ◌&&◌, ◌==◌}
use Rattle.wasm_defs.specs.declared.fault.Refusal.{Refusal}
use Rattle.wasm_defs.specs.Limits.{max_body}
use Rattle.leb_feed.specs.Feeding.{IsUnfinished}
use Rattle.body_cutter.specs.declared.walk.Walk.{Walk}
use Rattle.body_cutter.specs.Bodies.{Body, Block, Begins}
use Rattle.body_cutter.specs.Sections.{Given, End}
use Rattle.body_cutter.specs.Queues.{Queue, with_bodies, joined, IsFull as IsFullBatch, AreFew}
use Rattle.body_cutter.specs.Places.{Place, on_size, on_body, on_hand, still}

-- where a walk is
abbrev pub position_of : Walk → Place
position_of w = record {
  behind = w.behind;
  count = w.count;
  at = w.at;
  end = w.end;
  size_at = w.size_at;
  size = w.leb.bytes;
  sized = w.sized;
  len = w.len;
  bytes = w.block.rest;
  stop = w.stop;
}

abbrev pub index_of : Walk → ℕ
index_of w = w.behind - w.count

abbrev pub from_size : Walk → List ℕ → Given
from_size w more = on_size (position_of w) more

abbrev pub from_body : Walk → List ℕ → Given
from_body w more = on_body (position_of w) more

abbrev pub from_hand : Walk → Bool → List ℕ → Given
from_hand w sized more = on_hand (position_of w) sized more

-- its batches: those that were closed on the way, and the one that is begun
abbrev pub batches_of : Walk → Queue
batches_of w = record { least = w.least; number = 0; closed = joined w.closed; begun = w.block.bodies }

-- batches, and how the section ends
pub record Batched : Type 0 where
  pub queue : Queue
  pub ending : End

abbrev pub after_batches : Queue → Given → Batched
after_batches q g = record { queue = with_bodies q g.bodies; ending = g.ending }

-- its batches with the bodies that are to come where these bytes come next
unfoldable pub given : Walk → List ℕ → Batched
given w more = after_batches (batches_of w) (still (position_of w) more)

-- those that were closed are batches, and the one that is begun has too few bytes for one
pub record AreBatches (w : Walk) : Type 0 where
  pub full : All (IsFullBatch w.least) w.closed
  pub few : AreFew w.least w.block.bodies

-- a size is begun, and the section has room for more of it; or no body is to come
pub record IsAtSize (w : Walk) : Type 0 where
  pub place : w.at ≡ w.size_at + length w.leb.bytes
  pub bits : w.leb.bits ≡ 32
  pub signed : w.leb.signed ≡ false
  pub unfinished : IsUnfinished w.leb
  pub empty : w.block.rest ≡ []
  pub room : 0 < w.count → w.at < w.end
  pub fresh : w.count ≡ 0 → w.leb.bytes ≡ []

-- a body is begun: its size was right, and it isn't complete
pub record IsInBody (w : Walk) : Type 0 where
  pub one : 0 < w.count
  pub short : length w.block.rest < w.len
  pub small : w.len ≤ max_body
  pub came : length w.block.rest ≤ w.at
  pub room : w.at + w.len ≤ w.end + length w.block.rest

abbrev pub IsInHand : Walk → Bool → Type 0
IsInHand w false = IsAtSize w
IsInHand w true = IsInBody w

abbrev pub UnlessRefused : Option Refusal → Type 0 → Type 0
UnlessRefused None P = P
UnlessRefused (Some r) P = Unit {0}

pub record IsSound (w : Walk) : Type 0 where
  pub counted : w.count ≤ w.behind
  pub inside : w.at ≤ w.end
  pub fits : w.end < 2 ^ 60
  pub hand : UnlessRefused w.stop (IsInHand w w.sized)

-- between two bodies, or at the section's end
pub record IsBetween (w : Walk) : Type 0 where
  pub place : w.size_at ≡ w.at
  pub begun : w.leb ≡ record { bits = 32; signed = false; bytes = [] }
  pub unfinished : IsUnfinished w.leb
  pub empty : w.block.rest ≡ []
  pub unsized : w.sized ≡ false
  pub going : w.stop ≡ None
  pub counted : w.count ≤ w.behind
  pub inside : w.at ≤ w.end
  pub fits : w.end < 2 ^ 60

-- all bytes of a body came
pub record IsFull (w : Walk) : Type 0 where
  pub sized : w.sized ≡ true
  pub going : w.stop ≡ None
  pub one : 0 < w.count
  pub full : length w.block.rest ≡ w.len
  pub small : w.len ≤ max_body
  pub came : w.len ≤ w.at
  pub counted : w.count ≤ w.behind
  pub inside : w.at ≤ w.end
  pub fits : w.end < 2 ^ 60

-- the first batch that was closed on the way, or what is begun
abbrev pub first_block : List (List Body) → Block → Block
first_block [] block = block
first_block (batch ∷ batches) block = record { bodies = batch; rest = [] }

-- it still begins with the bodies and the bytes that there were
abbrev pub Starts : Block → Walk → Type 0
Starts saved w = Begins saved (first_block w.closed w.block)

-- no byte of the section can follow
abbrev pub is_over : Walk → Bool
is_over w = is_some w.stop || (w.count == 0 && w.at == w.end)
