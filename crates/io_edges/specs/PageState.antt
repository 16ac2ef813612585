-- What a page holds.
use Rattle.std.specs.Prelude.{ℕ, List, ◌++◌, take}
use Rattle.io_edges.specs.Causes.{one_more}
use Rattle.io_edges.specs.declared.sink.Put.{Put}
use Rattle.io_edges.specs.declared.sink.Put.TheVariants.{Took, Failed}

pub record PageState : Type 0 where
  -- what was written
  pub bytes : List ℕ
  -- how many bytes there can be
  pub limit : ℕ
  pub faults : ℕ

-- the page after a write of a piece that was answered so
abbrev pub after_write : Put → List ℕ → PageState → PageState
after_write (Took n) piece page = record page { bytes = page.bytes ++ take n piece }
after_write Failed piece page = record page { faults = one_more page.faults }
