-- Bytes of a memory (WebAssembly Core 1.0, 4.2.8 and 4.4.4).
use Rattle.std.specs.Prelude.{ℕ, zero, suc, ◌+◌, ◌*◌, ◌/◌, ◌%◌, ◌^◌, List, [], ◌∷◌, ◌++◌, take, drop, length, replicate, Option, None, Some, nat_le, if◌then◌else◌}
use Rattle.std.specs.Int.{w8, w16, w32, cast_signed}
use Rattle.wasm_defs.specs.declared.types.ValType.TheVariants.{I32, I64}
use Rattle.wasm_defs.specs.declared.operation.LoadOp.{LoadOp}
use Rattle.wasm_defs.specs.declared.operation.LoadOp.TheVariants.{I32Load, I64Load, I32Load8S, I32Load8U, I32Load16S, I32Load16U, I64Load8S, I64Load8U, I64Load16S, I64Load16U, I64Load32S, I64Load32U}
use Rattle.wasm_defs.specs.declared.operation.StoreOp.{StoreOp}
use Rattle.wasm_defs.specs.Typing.{load_alignment, store_alignment}
use Rattle.wasm_defs.specs.Values.{unsigned}

-- bytes of a page
abbrev pub page : ℕ
page = 65536

abbrev pub pages_of : List ℕ → ℕ
pages_of memory = length memory / page

-- a number, the low byte first (4.3.1)
abbrev pub number_of : List ℕ → ℕ
number_of [] = 0
number_of (b ∷ bs) = b + 256 * number_of bs

abbrev pub bytes_of : (count n : ℕ) → List ℕ
bytes_of zero n = []
bytes_of (suc count) n = n % 256 ∷ bytes_of count (n / 256)

-- so many bytes from an offset on, if all are there
abbrev pub bytes_at : List ℕ → (place count : ℕ) → Option (List ℕ)
bytes_at memory place count = if nat_le (place + count) (length memory) then Some (take count (drop place memory)) else None

-- bytes written over others from an offset on, if all are there
abbrev pub written_at : List ℕ → (place : ℕ) → List ℕ → Option (List ℕ)
written_at memory place bytes =
    if nat_le (place + length bytes) (length memory) then Some (take place memory ++ (bytes ++ drop (place + length bytes) memory)) else None

-- so many bytes of one value, of which the low eight bits count (Core 2.0, 4.4.7)
abbrev pub filled_at : List ℕ → (place value count : ℕ) → Option (List ℕ)
filled_at memory place value count = written_at memory place (replicate count (value % 256))

-- so many bytes of a source from an index on, if all are there
abbrev pub written_with : List ℕ → (place : ℕ) → Option (List ℕ) → Option (List ℕ)
written_with memory place None = None
written_with memory place (Some bytes) = written_at memory place bytes

abbrev pub copied_at : (source memory : List ℕ) → (place from count : ℕ) → Option (List ℕ)
copied_at source memory place from count = written_with memory place (bytes_at source from count)

-- how many bytes a load reads, and a store writes
abbrev pub load_count : LoadOp → ℕ
load_count op = 2 ^ load_alignment op

abbrev pub store_count : StoreOp → ℕ
store_count op = 2 ^ store_alignment op

-- the value of a number that was read: it is extended to the value's type
abbrev pub extended : LoadOp → ℕ → ℕ
extended I32Load n = n
extended I64Load n = n
extended I32Load8S n = unsigned I32 (cast_signed w8 n)
extended I32Load8U n = n
extended I32Load16S n = unsigned I32 (cast_signed w16 n)
extended I32Load16U n = n
extended I64Load8S n = unsigned I64 (cast_signed w8 n)
extended I64Load8U n = n
extended I64Load16S n = unsigned I64 (cast_signed w16 n)
extended I64Load16U n = n
extended I64Load32S n = unsigned I64 (cast_signed w32 n)
extended I64Load32U n = n

-- more pages of zeros (4.2.8, 4.5.3.7), of which there may be so many in all
abbrev pub grown : List ℕ → (more cap : ℕ) → Option (List ℕ)
grown memory more cap =
    if nat_le (pages_of memory + more) cap then Some (memory ++ replicate (page * more) 0) else None
