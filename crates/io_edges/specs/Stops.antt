-- Why the reading of a whole input stopped.
use Rattle.std.specs.Prelude.{◌≡◌, ℕ, List, Option}
use Rattle.std.specs.Io.KnownBytes.{IsAtEnd}
use Rattle.io_edges.specs.Causes.{Rose}
use Rattle.io_edges.specs.declared.reading.Stop.{Stop}
use Rattle.io_edges.specs.declared.reading.Stop.TheVariants.{End, Failed, Full}

-- the stop, the bytes left, the count of errors before and now, how many bytes were read, and how many may be
abbrev pub StopsFor : Stop → Option (List ℕ) → ℕ → ℕ → ℕ → ℕ → Type 0
StopsFor End left before now len limit = IsAtEnd left × (now ≡ before)
StopsFor Failed left before now len limit = Rose before now
StopsFor Full left before now len limit = (len ≡ limit) × (now ≡ before)
