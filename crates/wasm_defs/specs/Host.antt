-- The outside of a run: calls of imported functions and the host's replies (WebAssembly Core 1.0, 4.4.7.3).
use Rattle.std.specs.Prelude.{ℕ, ◌&&◌, Bool, true, false, List, [], ◌∷◌, length, Option, None, Some, nat_lt, nat_le, if◌then◌else◌}
use Rattle.wasm_defs.specs.Typing.{Types, same_types}
use Rattle.wasm_defs.specs.Values.{Value, modulus, types_of_values}
use Rattle.wasm_defs.specs.Memory.{written_at}

-- a call: the import's number, the arguments in the order of the text, and the memory at the call
pub record HostCall : Type 0 where
  pub number : ℕ
  pub arguments : List Value
  pub memory : List ℕ

-- bytes that a host writes to the memory from an address on
pub record Patch : Type 0 where
  pub place : ℕ
  pub bytes : List ℕ

-- a host's reply: values, and at most one patch; or that the run is to stop
pub data Reply : Type 0 where
  Answer : (values : List Value) (patch : Option Patch) → Reply
  Stop : Reply

abbrev pub in_range : Value → Bool
in_range v = nat_lt v.number (modulus v.ty)

abbrev pub all_in_range : List Value → Bool
all_in_range [] = true
all_in_range (v ∷ vs) = in_range v && all_in_range vs

-- the bytes of a patch are at most eight
abbrev pub most_patched : ℕ
most_patched = 8

-- each of the numbers is a byte
abbrev pub are_bytes : List ℕ → Bool
are_bytes [] = true
are_bytes (b ∷ bs) = nat_lt b 256 && are_bytes bs

-- the memory after a patch: none where the patch has too many bytes, or numbers that are none, or isn't in the memory
abbrev pub patched : List ℕ → Option Patch → Option (List ℕ)
patched memory None = Some memory
patched memory (Some p) = if nat_le (length p.bytes) most_patched && are_bytes p.bytes then written_at memory p.place p.bytes else None

-- the values are of these types
abbrev pub are_of : Types → List Value → Bool
are_of types values = same_types types (types_of_values values) && all_in_range values

-- what a reply comes to: the values and the memory after it. A reply that isn't of the import's result types, or whose patch
-- isn't of bytes or doesn't fit, is taken as a stop.
pub data Taken : Type 0 where
  Goes : (values : List Value) (memory : List ℕ) → Taken
  Stops : Taken

abbrev pub answered : Bool → List Value → Option (List ℕ) → Taken
answered true values (Some memory) = Goes values memory
answered true values None = Stops
answered false values memory = Stops

abbrev pub taken : Types → List ℕ → Reply → Taken
taken results memory Stop = Stops
taken results memory (Answer values patch) = answered (are_of results values) values (patched memory patch)
