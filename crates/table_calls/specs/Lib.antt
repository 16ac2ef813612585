pub mod IndirectParts
