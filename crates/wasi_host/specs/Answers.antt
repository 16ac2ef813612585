-- What the host does at calls: which bytes it writes, and what it replies (WASI preview 1, functions `fd_write` and `proc_exit`).
use Rattle.std.specs.Prelude.{◌≡◌, ℕ, ℤ, pos, ◌+◌, ◌==◌, Bool, true, false, if◌then◌else◌, nat_le, List, [], ◌∷◌, ◌++◌, length, map, Option, None, Some, Result, Ok, Err}
use Rattle.wasm_defs.specs.declared.types.ValType.{ValType}
use Rattle.wasm_defs.specs.declared.types.ValType.TheVariants.{I32, I64}
use Rattle.wasm_defs.specs.Values.{Value}
use Rattle.wasm_defs.specs.Memory.{bytes_of}
use Rattle.wasm_defs.specs.Host.{HostCall, Reply, Answer, Stop}
use Rattle.image_format.specs.declared.image.Import.{Import}
use Rattle.image_run.specs.declared.wasi_function.WasiFunction.{WasiFunction}
use Rattle.image_run.specs.declared.wasi_function.WasiFunction.TheVariants.{FdWrite, ProcExit}
use Rattle.image_run.specs.Printing.{function_at, text_of}
use Rattle.image_run.specs.WasiFunctions.{wasi_at}
use Rattle.wasi_host.specs.declared.write_call.WriteCall.{WriteCall}
use Rattle.wasi_host.specs.Vectors.{gathered}

-- ---- arguments

abbrev pub i32_in : ValType → ℕ → Option ℕ
i32_in I32 n = Some n
i32_in I64 n = None

-- the number of an i32, unsigned
abbrev pub i32_of : Value → Option ℕ
i32_of v = i32_in v.ty v.number

abbrev pub write_of : Option ℕ → Option ℕ → Option ℕ → Option ℕ → Option WriteCall
write_of None b c d = None
write_of (Some a) None c d = None
write_of (Some a) (Some b) None d = None
write_of (Some a) (Some b) (Some c) None = None
write_of (Some a) (Some b) (Some c) (Some d) = Some (record { fd = a; iovs = b; iovs_len = c; nwritten = d })

-- the call of fd_write with these arguments, where they are of its types
abbrev pub write_in : List Value → Option WriteCall
write_in (a ∷ b ∷ c ∷ d ∷ []) = write_of (i32_of a) (i32_of b) (i32_of c) (i32_of d)
write_in _ = None

-- the exit code in the arguments of proc_exit, where they are of its types
abbrev pub code_in : List Value → Option ℕ
code_in (a ∷ []) = i32_of a
code_in _ = None

-- ---- fd_write

-- the values of the type `errno` that are returned
abbrev pub success : ℕ
success = 0

-- the file isn't 1, standard output
abbrev pub badf : ℕ
badf = 8

-- an address is outside the memory
abbrev pub fault : ℕ
fault = 21

-- there are too many vectors, or their bytes are more than an i32 can count
abbrev pub inval : ℕ
inval = 28

-- by whether the four bytes at `nwritten` are in the memory, and the bytes of the vectors, where all of them do
abbrev pub checked : (has_room : Bool) → Option (List ℕ) → Result (List ℕ) ℕ
checked has_room None = Err fault
checked false (Some bytes) = Err fault
checked true (Some bytes) = if nat_le (length bytes) 4294967295 then Ok bytes else Err inval

-- The bytes that a call of fd_write writes, or its error, after which nothing is written. In order: another file than 1; more than
-- 1,024 vectors; a vector, its bytes, or the bytes at `nwritten` outside the memory; more bytes than an i32 can count.
abbrev pub bytes_or_errno : WriteCall → (memory : List ℕ) → Result (List ℕ) ℕ
bytes_or_errno w memory =
    if w.fd == 1 then (if nat_le w.iovs_len 1024 then checked (nat_le (w.nwritten + 4) (length memory)) (gathered memory w.iovs w.iovs_len) else Err inval)
    else Err badf

-- the number of the bytes that are written, or the same error
abbrev pub Counts : Result ℕ ℤ → Result (List ℕ) ℕ → Type 0
Counts (Ok n) (Ok bytes) = n ≡ length bytes
Counts (Err e) (Err error) = e ≡ pos error
Counts (Ok n) (Err error) = ⊥
Counts (Err e) (Ok bytes) = ⊥

-- ---- calls

-- the bytes that a call writes, and the reply to it where the sink takes them
pub record Answered : Type 0 where
  pub bytes : List ℕ
  pub reply : Reply

-- nothing is written, and nothing returned
abbrev pub nothing : Answered
nothing = record { bytes = []; reply = Answer [] None }

abbrev pub one_i32 : ℕ → List Value
one_i32 n = record { ty = I32; number = n } ∷ []

-- an `errno` is returned; where there is no error, the number of bytes is stored at `nwritten` in four bytes
abbrev pub answered_by : (nwritten : ℕ) → Result (List ℕ) ℕ → Answered
answered_by nwritten (Ok bytes) = record { bytes = bytes; reply = Answer (one_i32 success) (Some (record { place = nwritten; bytes = bytes_of 4 (length bytes) })) }
answered_by nwritten (Err error) = record { bytes = []; reply = Answer (one_i32 error) None }

abbrev pub writes : Option WriteCall → (memory : List ℕ) → Answered
writes None memory = nothing
writes (Some w) memory = answered_by w.nwritten (bytes_or_errno w memory)

-- proc_exit doesn't return
abbrev pub exits : (code : Option ℕ) → Answered
exits None = nothing
exits (Some code) = record { bytes = []; reply = Stop }

-- A call of any other import writes what `put` and `num` of the module host write, and returns nothing.
abbrev pub answer_by : Option WasiFunction → List Import → HostCall → Answered
answer_by (Some FdWrite) imports c = writes (write_in c.arguments) c.memory
answer_by (Some ProcExit) imports c = exits (code_in c.arguments)
answer_by None imports c = record { bytes = text_of (function_at imports c.number) c.arguments; reply = Answer [] None }

abbrev pub answer_of : List Import → HostCall → Answered
answer_of imports c = answer_by (wasi_at imports c.number) imports c

-- the bytes that calls of these imports write, in order
abbrev pub bytes_written : List Import → List HostCall → List ℕ
bytes_written imports [] = []
bytes_written imports (c ∷ cs) = (answer_of imports c).bytes ++ bytes_written imports cs

-- the replies to them
abbrev pub replies : List Import → List HostCall → List Reply
replies imports calls = map (λ c. (answer_of imports c).reply) calls
