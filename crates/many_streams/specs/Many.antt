-- What several modules in one input come to.
use Rattle.std.specs.Prelude.{◌≡◌, ◌≤◌, ◌<◌, ◌⊎◌, ℕ, Bool, true, false, List, ◌++◌, length, take, slice_get, slice_index_or, Option, Some, Result, Ok, Err}
use Rattle.std.specs.Io.KnownBytes.{prepend_known, IsAtEnd}
use Rattle.std.specs.declared.vec.Vec.{Vec}
use Rattle.std.specs.declared.alloc.Global.{Global}
use Rattle.many_streams.specs.declared.member.Each.{Each}
use Rattle.many_streams.specs.declared.member.EachChecked.{EachChecked}
use Rattle.many_streams.specs.declared.member.Member.{Member}
use Rattle.many_streams.specs.declared.streams.Streams.{Streams}
use Rattle.many_streams.specs.declared.streams.ManyStop.{ManyStop}
use Rattle.many_streams.specs.declared.streams.ManyStop.TheVariants as stop
use Rattle.many_streams.specs.Frames.{Frames, IsCutOff, IsBadFrame}
use Rattle.many_streams.specs.Members.{IsMember, IsEnded, IsEach, IsEachChecked}
use Rattle.many_streams.specs.Reading.{Progress, IsReading}

-- of a module these bytes came, by whether it has ended
abbrev pub StandsSo : (ended keeps : Bool) → List ℕ → Member → Type 0
StandsSo false keeps came m = IsMember keeps came m
StandsSo true keeps came m = IsEnded keeps came m

-- of each module these bytes came; those have ended whose flags are set
abbrev pub AreMembers : Bool → List Bool → (ℕ → List ℕ) → List Member → Type 0
AreMembers keeps flags of members = (i : ℕ) (m : Member) → slice_get members i ≡ Some m → StandsSo (slice_index_or flags i false) keeps (of i) m

-- of these modules these bytes came
pub record AreStreaming (bytes : List ℕ) (keeps : Bool) (p : Progress) (ms : List Member) : Type 0 where
  pub of : ℕ → List ℕ
  pub reading : IsReading bytes of p
  pub count : length ms ≡ p.modules
  pub members : AreMembers keeps p.ended of ms

abbrev pub IsStreaming : List ℕ → Streams → Type 0
IsStreaming bytes s = AreStreaming bytes s.keeps s.reader s.members.items

abbrev pub MayStream : Streams → Type 0
MayStream s = (bytes : List ℕ) × IsStreaming bytes s

-- so many bytes of a piece were taken, and this holds of all bytes that came; or they are no frames, whatever follows
abbrev pub TakesSomeSo : (List ℕ → Type 0) → List ℕ → List ℕ → Result ℕ ManyStop → Type 0
TakesSomeSo Came bytes piece (Ok n) = Came (bytes ++ take n piece) × (0 < n) × (n ≤ length piece)
TakesSomeSo Came bytes piece (Err (stop.Frame at)) = (more : List ℕ) → IsBadFrame (bytes ++ (piece ++ more)) at
TakesSomeSo Came bytes piece (Err stop.ReadFault) = ⊥
TakesSomeSo Came bytes piece (Err stop.NoMemory) = Unit {0}

abbrev pub TakesSome : List ℕ → List ℕ → Result ℕ ManyStop → Streams → Type 0
TakesSome bytes piece r s = TakesSomeSo (λ came. IsStreaming came s) bytes piece r

-- the piece was taken, or with it the bytes are no frames
abbrev pub TakesAllSo : (List ℕ → Type 0) → List ℕ → List ℕ → Result (Unit {0}) ManyStop → Type 0
TakesAllSo Came bytes piece (Ok done) = Came (bytes ++ piece)
TakesAllSo Came bytes piece (Err (stop.Frame at)) = IsBadFrame (bytes ++ piece) at
TakesAllSo Came bytes piece (Err stop.ReadFault) = ⊥
TakesAllSo Came bytes piece (Err stop.NoMemory) = Unit {0}

abbrev pub TakesAll : List ℕ → List ℕ → Result (Unit {0}) ManyStop → Streams → Type 0
TakesAll bytes piece r s = TakesAllSo (λ came. IsStreaming came s) bytes piece r

-- the list that a vector holds
abbrev pub view : {E : Type 0} → Result (Vec E Global) ManyStop → Result (List E) ManyStop
view (Ok v) = Ok v.items
view (Err s) = Err s

-- nothing is wrong with them: they are frames, or the front of some
abbrev pub IsFront : List ℕ → Type 0
IsFront bytes = IsCutOff bytes ⊎ ((list : List (List ℕ)) × Frames bytes list)

-- for each module there is what its bytes alone come to
abbrev pub AreEach : {E : Type 0} → (List ℕ → E → Type 0) → List (List ℕ) → List E → Type 0
AreEach {E} Comes list each = (length each ≡ length list) × ((i : ℕ) (bytes : List ℕ) (e : E) → slice_get list i ≡ Some bytes → slice_get each i ≡ Some e → Comes bytes e)

-- the bytes are frames, and for each module there is what it comes to; or they end too soon
abbrev pub ComesToEnd : {E : Type 0} → (List ℕ → E → Type 0) → List ℕ → Result (List E) ManyStop → Type 0
ComesToEnd Comes bytes (Ok each) = (list : List (List ℕ)) × Frames bytes list × AreEach Comes list each
ComesToEnd Comes bytes (Err (stop.Frame at)) = IsCutOff bytes × (at ≡ length bytes)
ComesToEnd Comes bytes (Err stop.ReadFault) = ⊥
ComesToEnd Comes bytes (Err stop.NoMemory) = Unit {0}

-- By whether the source failed, and what was left in it before and after. A good answer comes at its end; a bad frame where the bytes
-- that came are none, or where they ended too soon; a read error where the source failed and no bad frame came
abbrev pub ComesToMany : {E : Type 0} → (List ℕ → E → Type 0) → Bool → (left rest : Option (List ℕ)) → Result (List E) ManyStop → Type 0
ComesToMany Comes failed left rest (Ok each) =
    (failed ≡ false) × (bytes : List ℕ) × (left ≡ prepend_known bytes rest) × IsAtEnd rest × (list : List (List ℕ)) × Frames bytes list × AreEach Comes list each
ComesToMany Comes failed left rest (Err (stop.Frame at)) =
    (failed ≡ false) × (bytes : List ℕ) × (left ≡ prepend_known bytes rest) × (IsBadFrame bytes at ⊎ (IsAtEnd rest × IsCutOff bytes × (at ≡ length bytes)))
ComesToMany Comes failed left rest (Err stop.ReadFault) = (failed ≡ true) × (bytes : List ℕ) × (left ≡ prepend_known bytes rest) × IsFront bytes
ComesToMany Comes failed left rest (Err stop.NoMemory) = Unit {0}

-- each module's answer is that of its bytes alone: its one image, or its error of least offset
abbrev pub AnswersMany : Bool → (left rest : Option (List ℕ)) → Result (List Each) ManyStop → Type 0
AnswersMany failed left rest r = ComesToMany IsEach failed left rest r

-- or that they are a module, its numbers of functions and bytes
abbrev pub ChecksMany : Bool → (left rest : Option (List ℕ)) → Result (List EachChecked) ManyStop → Type 0
ChecksMany failed left rest r = ComesToMany IsEachChecked failed left rest r
