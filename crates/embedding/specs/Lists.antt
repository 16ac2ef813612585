-- What the host answers from its list.
use Rattle.std.specs.Prelude.{ℕ, ℤ, List, [], ◌∷◌, Option, None, Some, slice_get}
use Rattle.wasm_defs.specs.declared.types.ValType.{ValType}
use Rattle.wasm_defs.specs.declared.types.ValType.TheVariants.{I32, I64}
use Rattle.wasm_defs.specs.Values.{Value, unsigned}
use Rattle.wasm_defs.specs.Host.{HostCall, Reply, Answer, Stop}

-- an i64, or that there is none
abbrev pub found : Option ℤ → Reply
found None = Stop
found (Some n) = Answer (record { ty = I64; number = unsigned I64 n } ∷ []) None

-- the number at the index that a value is, if it is an i32
abbrev pub at_index : List ℤ → ValType → ℕ → Reply
at_index numbers I32 index = found (slice_get numbers index)
at_index numbers I64 index = Stop

abbrev pub by_first : List ℤ → Option Value → Reply
by_first numbers None = Stop
by_first numbers (Some v) = at_index numbers v.ty v.number

-- what a call with these arguments is answered
abbrev pub reply_to : List ℤ → List Value → Reply
reply_to numbers arguments = by_first numbers (slice_get arguments 0)

-- the replies to calls, in order
abbrev pub replies_to : List ℤ → List HostCall → List Reply
replies_to numbers [] = []
replies_to numbers (c ∷ cs) = reply_to numbers c.arguments ∷ replies_to numbers cs
