-- The bytes that are gathered from vectors in a memory (`ciovec_array` of WASI preview 1). A vector (`ciovec`) is eight bytes: the
-- address of its bytes and their number, of four bytes each, the low byte first.
use Rattle.std.specs.Prelude.{ℕ, zero, suc, ◌+◌, List, [], ◌++◌, take, drop, Option, None, Some}
use Rattle.wasm_defs.specs.Memory.{bytes_at, number_of}

-- by the eight bytes of a vector
abbrev pub bytes_named : List ℕ → Option (List ℕ) → Option (List ℕ)
bytes_named memory None = None
bytes_named memory (Some vector) = bytes_at memory (number_of (take 4 vector)) (number_of (take 4 (drop 4 vector)))

-- The bytes of the vector at an address, if it and they are in the memory. Address and number are added without wrapping, and the
-- sum is at most the memory's size where the number is 0 too.
abbrev pub vector_at : List ℕ → (address : ℕ) → Option (List ℕ)
vector_at memory address = bytes_named memory (bytes_at memory address 8)

abbrev pub prepended : List ℕ → Option (List ℕ) → Option (List ℕ)
prepended bytes None = None
prepended bytes (Some rest) = Some (bytes ++ rest)

abbrev pub joined : Option (List ℕ) → Option (List ℕ) → Option (List ℕ)
joined None rest = None
joined (Some bytes) rest = prepended bytes rest

-- the bytes of so many vectors from an address on, in order, if all are in the memory
abbrev pub gathered : List ℕ → (address count : ℕ) → Option (List ℕ)
gathered memory address zero = Some []
gathered memory address (suc count) = joined (vector_at memory address) (gathered memory (address + 8) count)
