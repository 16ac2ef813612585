-- Exit codes of calls, one after another.
use Rattle.std.proofs.Common.{◌≡◌, ℕ, List, [], ◌∷◌, ◌++◌, Option, None, Some, refl, sym, ap, ◌∙◌}
use Rattle.wasm_defs.specs.Host.{HostCall}
use Rattle.image_format.specs.declared.image.Import.{Import}
use Rattle.wasi_host.specs.ExitCodes.{code_of_call, exit_code, last_of}

pub last_of-none : (code : Option ℕ) → last_of None code ≡ code
last_of-none None = refl
last_of-none (Some n) = refl

pub last_of-last_of : (a b c : Option ℕ) → last_of (last_of a b) c ≡ last_of a (last_of b c)
last_of-last_of a b None = refl
last_of-last_of a b (Some n) = refl

pub exit_code-append : (imports : List Import) (calls more : List HostCall) → exit_code imports (calls ++ more) ≡ last_of (exit_code imports calls) (exit_code imports more)
exit_code-append imports [] more = sym (last_of-none (exit_code imports more))
exit_code-append imports (c ∷ calls) more =
    ap (last_of (code_of_call imports c)) (exit_code-append imports calls more)
    ∙ sym (last_of-last_of (code_of_call imports c) (exit_code imports calls) (exit_code imports more))

-- with one call more
pub exit_code-none : (imports : List Import) (calls : List HostCall) (c : HostCall) → exit_code imports calls ≡ None → code_of_call imports c ≡ None → exit_code imports (calls ++ c ∷ []) ≡ None
exit_code-none imports calls c none is = exit_code-append imports calls (c ∷ []) ∙ rw (none, is) refl

pub exit_code-last : (imports : List Import) (calls : List HostCall) (c : HostCall) (code : ℕ) → code_of_call imports c ≡ Some code → exit_code imports (calls ++ c ∷ []) ≡ Some code
exit_code-last imports calls c code is = exit_code-append imports calls (c ∷ []) ∙ rw is refl
