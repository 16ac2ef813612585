-- What an edge over a reader or a writer holds, and what a call on it passes on.
use Rattle.std.specs.Prelude.{ℕ, List, take, Option}
use Rattle.std.specs.Io.KnownBytes.{Keeps, Appends, Consumes, IsAtEnd}
use Rattle.io_edges.specs.declared.source.Got.{Got}
use Rattle.io_edges.specs.declared.source.Got.TheVariants as got
use Rattle.io_edges.specs.declared.sink.Put.{Put}
use Rattle.io_edges.specs.declared.sink.Put.TheVariants as put

pub record EdgeState (X : Type 0) : Type 0 where
  -- the reader or the writer
  pub inner : X
  pub faults : ℕ

-- What an edge's read passed on of the bytes that its reader has left, where these are known: the answer, the buffer afterwards, the bytes left before and after.
abbrev pub PassesRead : Got → List ℕ → Option (List ℕ) → Option (List ℕ) → Type 0
PassesRead (got.Bytes n) buf old new = Consumes old new (take n buf)
PassesRead got.End buf old new = Keeps old new × IsAtEnd new
PassesRead got.Failed buf old new = Keeps old new

-- What an edge's write passed on to its writer, where the bytes that it holds are known: the answer, the piece, the bytes held before and after.
abbrev pub PassesWrite : Put → List ℕ → Option (List ℕ) → Option (List ℕ) → Type 0
PassesWrite (put.Took n) piece old new = Appends old new (take n piece)
PassesWrite put.Failed piece old new = Keeps old new
