-- The host functions of the program: which imports they are, and what their calls print.
use Rattle.std.specs.Prelude.{◌≡◌, ℕ, ◌%◌, ◌&&◌, Bool, true, false, if◌then◌else◌, List, [], ◌∷◌, ◌++◌, Option, None, Some, codes, slice_get}
use Rattle.std.specs.Str.{bytes_eq}
use Rattle.std.specs.Fmt.{signed_decimal}
use Rattle.wasm_defs.specs.declared.types.ValType.{ValType}
use Rattle.wasm_defs.specs.declared.types.ValType.TheVariants.{I32, I64}
use Rattle.wasm_defs.specs.declared.types.FuncType.{FuncType}
use Rattle.wasm_defs.specs.Typing.{same_types}
use Rattle.wasm_defs.specs.Values.{Value, signed}
use Rattle.wasm_defs.specs.Host.{Reply, Answer, Stop}
use Rattle.io_edges.specs.Streams.{WritesText}
use Rattle.image_format.specs.declared.image.Import.{Import}
use Rattle.image_run.specs.declared.sink_host.HostFunction.{HostFunction}
use Rattle.image_run.specs.declared.sink_host.HostFunction.TheVariants.{Put, Num}

-- of one value of that type to nothing
abbrev pub takes : FuncType → ValType → Bool
takes f t = same_types (t ∷ []) f.params && same_types [] f.results

-- the function that an import is: put or num of the module host, of its type
abbrev pub function_of : Import → Option HostFunction
function_of i =
    if bytes_eq i.module (codes "host") then (
    if bytes_eq i.name (codes "put") && takes i.signature I32 then Some Put
    else if bytes_eq i.name (codes "num") && takes i.signature I64 then Some Num
    else None)
    else None

abbrev pub function_in : Option Import → Option HostFunction
function_in None = None
function_in (Some i) = function_of i

abbrev pub function_at : List Import → (number : ℕ) → Option HostFunction
function_at imports number = function_in (slice_get imports number)

-- the low byte
abbrev pub put_text : ValType → ℕ → List ℕ
put_text I32 n = n % 256 ∷ []
put_text I64 n = []

-- the signed number, and a newline
abbrev pub num_text : ValType → ℕ → List ℕ
num_text I32 n = []
num_text I64 n = signed_decimal (signed I64 n) ++ codes "\n"

-- what a call of a function with these arguments prints: nothing where they aren't its own
abbrev pub text_of : Option HostFunction → List Value → List ℕ
text_of (Some Put) (v ∷ []) = put_text v.ty v.number
text_of (Some Num) (v ∷ []) = num_text v.ty v.number
text_of _ _ = []

-- A call's text is written and it returns nothing, or the sink failed and the run stops. Once it has, nothing is written. By
-- whether the sink is open before the call and after it.
abbrev pub Prints : (is_open open_now : Bool) → (text : List ℕ) → Reply → (written written_now : Option (List ℕ)) → (faults faults_now : ℕ) → Type 0
Prints true true text reply written written_now faults faults_now = (reply ≡ Answer [] None) × WritesText true text written written_now faults faults_now
Prints true false text reply written written_now faults faults_now = (reply ≡ Stop) × WritesText false text written written_now faults faults_now
Prints false true text reply written written_now faults faults_now = ⊥
Prints false false text reply written written_now faults faults_now = (reply ≡ Stop) × (written_now ≡ written) × (faults_now ≡ faults)
