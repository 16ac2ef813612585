-- A module whose bytes arrive, chunk by chunk.
use Rattle.std.specs.Prelude.{◌≡◌, ◌≤◌, ◌<◌, ◌^◌, ◌-◌, ℕ, Bool, true, false, List, ◌++◌, length, All, Option, Some, None, IfSome, Result, Ok, Err}
use Rattle.std.specs.Io.KnownBytes.{prepend_known, IsAtEnd}
use Rattle.io_edges.specs.Causes.{Rose}
use Rattle.wasm_defs.specs.declared.front_stop.FrontStop.{FrontStop}
use Rattle.source_reading.specs.declared.chunk.ReadStatus.{ReadStatus}
use Rattle.source_reading.specs.declared.chunk.ReadStatus.TheVariants as came
use Rattle.module_stream.specs.Limits.{max_read}
use Rattle.module_stream.specs.declared.compilation.Compilation.{Compilation}
use Rattle.source_reading.specs.declared.reading.Ending.{Ending}
use Rattle.source_reading.specs.Chunks.{Chunked}
use Rattle.module_stream.specs.ValidPrefixes.{PrefixIsValid}
use Rattle.source_reading.specs.Reading.{Settled}
use Rattle.module_stream.specs.Streaming.{IsGoing}

-- how a source is by what its last read came to: by what is left in it, its counts of errors at first and now, how many bytes were
-- read, and whether it may be read
abbrev pub StandsAt : ReadStatus → (left : Option (List ℕ)) → (before now count : ℕ) → (may_read : Bool) → Type 0
StandsAt came.Bytes left before now count may_read = (now ≡ before) × (may_read ≡ true)
StandsAt came.Full left before now count may_read = (now ≡ before) × (max_read ≤ count)
StandsAt came.End left before now count may_read = (now ≡ before) × IsAtEnd left
StandsAt came.Failed left before now count may_read = Rose before now

-- A source had this left at first, and is so now. The bytes that came between are those that were taken, and those that are pending in
-- the chunk. Nothing was found wrong, and before the last piece nothing can be; where a number of bytes is given which closes a batch of
-- bodies, no closed batch waits there.
pub record IsArriving (closing : Option ℕ) (first : Option (List ℕ)) (before : ℕ) (left : Option (List ℕ)) (now : ℕ) (may_read : Bool) (s : Compilation) (c : Chunked) : Type 0 where
  pub came : List ℕ
  pub piece : List ℕ
  pub count : length (came ++ piece) ≡ c.count
  pub few : c.count ≤ max_read
  pub bytes : All (λ b. b < 256) (came ++ piece)
  pub taken : first ≡ prepend_known (came ++ piece) left
  pub stands : StandsAt c.came left before now c.count may_read
  pub short : length piece ≤ 65536
  pub right : PrefixIsValid closing came
  pub batch : IfSome closing (λ least. s.batch ≡ least)
  pub going : (more : List ℕ) → length ((came ++ piece) ++ more) ≤ max_read → IsGoing ((came ++ piece) ++ more) s (c.pending ++ more)

abbrev pub has_failed : ReadStatus → Bool
has_failed came.Bytes = false
has_failed came.Full = false
has_failed came.End = false
has_failed came.Failed = true

-- pending bytes were taken; or this is what the bytes come to
abbrev pub Arrives : (closing : Option ℕ) → Result (Unit {0}) FrontStop → (first : Option (List ℕ)) → (before : ℕ) → (left : Option (List ℕ)) → (now : ℕ) → (may_read : Bool) → Compilation → Chunked → Type 0
Arrives closing (Ok done) first before left now may_read s c = IsArriving closing first before left now may_read s c
Arrives closing (Err stop) first before left now may_read s c = before < 2 ^ 64 - 1 → Settled closing (has_failed c.came) (Err stop) s first left before now

-- it was read to the end, or up to the bodies
abbrev pub ReadsOn : (closing : Option ℕ) → Option Ending → (first : Option (List ℕ)) → (before : ℕ) → (left : Option (List ℕ)) → (now : ℕ) → (may_read : Bool) → Compilation → Chunked → Type 0
ReadsOn closing None first before left now may_read s c = IsArriving closing first before left now may_read s c
ReadsOn closing (Some e) first before left now may_read s c = before < 2 ^ 64 - 1 → Settled closing e.failed e.judged s first left before now
