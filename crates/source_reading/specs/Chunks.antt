-- Bytes of a source, chunk by chunk.
use Rattle.std.specs.Prelude.{ℕ, List}
use Rattle.source_reading.specs.declared.chunk.ReadStatus.{ReadStatus}

-- the bytes that are still to be taken of those that were read last, how many were read in all, and what the last read came to
pub record Chunked : Type 0 where
  pub pending : List ℕ
  pub count : ℕ
  pub came : ReadStatus
