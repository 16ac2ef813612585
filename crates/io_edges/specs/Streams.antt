-- What a read and a write do to the bytes left, the bytes written and the count of errors.
use Rattle.std.specs.Prelude.{◌≡◌, ℕ, ◌<◌, ◌≤◌, List, length, take, Option, Bool, true, false}
use Rattle.std.specs.Io.KnownBytes.{prepend_known, append_known, IsAtEnd}
use Rattle.io_edges.specs.Causes.{Rose}
use Rattle.io_edges.specs.declared.source.Got.{Got}
use Rattle.io_edges.specs.declared.source.Got.TheVariants as got
use Rattle.io_edges.specs.declared.sink.Put.{Put}
use Rattle.io_edges.specs.declared.sink.Put.TheVariants as put

-- What a read took from the bytes left, where they are observable: the answer, the buffer afterwards, the bytes left before and after.
abbrev pub Reads : Got → List ℕ → Option (List ℕ) → Option (List ℕ) → Type 0
Reads (got.Bytes n) buf old new = (0 < n) × (n ≤ length buf) × (old ≡ prepend_known (take n buf) new)
Reads got.End buf old new = IsAtEnd old × (new ≡ old)
Reads got.Failed buf old new = new ≡ old

-- over a read the count of errors rose at `Failed`, and is the same at any other answer
abbrev pub ReadCounts : Got → ℕ → ℕ → Type 0
ReadCounts (got.Bytes n) before now = now ≡ before
ReadCounts got.End before now = now ≡ before
ReadCounts got.Failed before now = Rose before now

-- bytes leave the source open, so that it may be read again; of the other answers nothing is said
abbrev pub ReadsOn : Got → Bool → Type 0
ReadsOn (got.Bytes n) open_now = open_now ≡ true
ReadsOn got.End open_now = Unit {0}
ReadsOn got.Failed open_now = Unit {0}

-- Over some reads, or none: what was left before and after, and the count of errors before and now. A prefix of the bytes came, and the count never
-- fell.
pub record TookFront (old : Option (List ℕ)) (before : ℕ) (new : Option (List ℕ)) (now : ℕ) : Type 0 where
  pub came : List ℕ
  pub took : old ≡ prepend_known came new
  pub counts : before ≤ now

-- What a write added to the bytes written, where they are observable: the answer, the piece, the bytes written before and after.
abbrev pub Writes : Put → List ℕ → Option (List ℕ) → Option (List ℕ) → Type 0
Writes (put.Took n) piece old new = (0 < n) × (n ≤ length piece) × (new ≡ append_known old (take n piece))
Writes put.Failed piece old new = new ≡ old

-- over a write the count of errors rose at `Failed`, and is the same at any other answer
abbrev pub WriteCounts : Put → ℕ → ℕ → Type 0
WriteCounts (put.Took n) before now = now ≡ before
WriteCounts put.Failed before now = Rose before now

-- a write that took bytes leaves the sink open, so that it may be written to again; of `Failed` nothing is said
abbrev pub WritesOn : Put → Bool → Type 0
WritesOn (put.Took n) open_now = open_now ≡ true
WritesOn put.Failed open_now = Unit {0}

-- What the writing of a whole text did: whether the sink took it, the text, the bytes written before and after, and the count of errors before and
-- now.
abbrev pub WritesText : Bool → List ℕ → Option (List ℕ) → Option (List ℕ) → ℕ → ℕ → Type 0
WritesText true text old new before now = (new ≡ append_known old text) × (now ≡ before)
WritesText false text old new before now = (n : ℕ) × (new ≡ append_known old (take n text)) × Rose before now × (n < length text)
