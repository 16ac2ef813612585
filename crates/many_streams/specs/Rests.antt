-- How far the rest of the input was read, while the compilations of its modules are lent.
use Rattle.std.specs.Prelude.{◌≡◌, ◌<◌, ◌^◌, ◌-◌, ℕ, Bool, true, List, length, nat_lt, Option, Result, Ok, Err, OnOk}
use Rattle.std.specs.Io.KnownBytes.{prepend_known}
use Rattle.many_streams.specs.declared.member.Member.{Member}
use Rattle.many_streams.specs.declared.streams.Streams.{Streams}
use Rattle.many_streams.specs.declared.streams.ManyStop.{ManyStop}
use Rattle.many_streams.specs.declared.rest.Rest.{Rest}
use Rattle.many_streams.specs.Flows.{members_with, AreWaiting, AreLent}
use Rattle.many_streams.specs.Many.{AreStreaming, IsStreaming, ComesToMany}
use Rattle.many_streams.specs.Members.{IsEnded}

-- of these modules, which are lent, these bytes came
pub record IsRest (bytes : List ℕ) (keeps : Bool) (members : List Member) (r : Rest) : Type 0 where
  pub count : length r.flows.items ≡ length members
  pub some : 0 < r.reader.modules
  pub lent : AreLent members r.flows.items
  pub streaming : AreStreaming bytes keeps r.reader (members_with members r.flows.items)

abbrev pub MayFlow : Rest → Type 0
MayFlow r = (bytes : List ℕ) × (keeps : Bool) × (members : List Member) × IsRest bytes keeps members r

-- the modules once all bytes came, with what came of them
abbrev pub members_of : List Member → Rest → Result (Unit {0}) ManyStop → Result (List Member) ManyStop
members_of members r (Ok done) = Ok (members_with members r.flows.items)
members_of members r (Err e) = Err e

-- By what was left in the source at first and is now, and how often it had failed at first and has now: these bytes came, and it may be
-- read on
pub record HaveCome (bytes : List ℕ) (first : Option (List ℕ)) (before : ℕ) (left : Option (List ℕ)) (now : ℕ) (may_read : Bool) : Type 0 where
  pub took : first ≡ prepend_known bytes left
  pub few : before < 2 ^ 64 - 1
  pub same : now ≡ before
  pub open_now : may_read ≡ true

-- and they are those of these modules, which are lent
abbrev pub IsArriving : Option (List ℕ) → ℕ → Option (List ℕ) → ℕ → Bool → Bool → List Member → Rest → Type 0
IsArriving first before left now may_read keeps members r = (bytes : List ℕ) × HaveCome bytes first before left now may_read × IsRest bytes keeps members r

-- what the reading of the rest comes to
pub record HasArrived (first : Option (List ℕ)) (before : ℕ) (left : Option (List ℕ)) (now : ℕ) (keeps : Bool) (members : List Member) (result : Result (Unit {0}) ManyStop) (r : Rest) : Type 0 where
  pub count : OnOk result (length r.flows.items ≡ length members)
  pub comes : ComesToMany (IsEnded keeps) (nat_lt before now) first left (members_of members r result)

-- the reading pauses, so that the modules, each of which waits, may be lent
pub record IsPaused (first : Option (List ℕ)) (before : ℕ) (left : Option (List ℕ)) (now : ℕ) (may_read : Bool) (s : Streams) : Type 0 where
  pub bytes : List ℕ
  pub come : HaveCome bytes first before left now may_read
  pub streaming : IsStreaming bytes s
  pub some : 0 < s.reader.modules
  pub waiting : AreWaiting s.members.items
