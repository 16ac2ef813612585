-- Replies fit their calls.
use Rattle.std.proofs.Common.{◌≡◌, ℕ, ◌+◌, ◌%◌, ◌/◌, ◌&&◌, ◌||◌, ◌==◌, ◌⊎◌, is_some, if◌then◌else◌, Bool, true, false, List, [], ◌∷◌, length, Option, None, Some, Ok, Err, Result, codes, inl, inr, refl, arith}
use Rattle.std.specs.Prelude.{IsSome, nat_le, nat_lt}
use Rattle.std.specs.Str.{bytes_eq}
use Rattle.std.proofs.lemmas.Bool.{and_parts, cases_Bool, lt-ltb}
use Rattle.wasm_defs.specs.declared.types.ValType.{ValType}
use Rattle.wasm_defs.specs.declared.types.ValType.TheVariants.{I32, I64}
use Rattle.wasm_defs.specs.Typing.{same_type, same_types}
use Rattle.wasm_defs.specs.Values.{Value, types_of_values}
use Rattle.wasm_defs.specs.Memory.{bytes_of}
use Rattle.wasm_defs.specs.Host.{HostCall, Answer, Stop, are_bytes, taken}
use Rattle.image_format.specs.declared.image.Import.{Import}
use Rattle.image_run.specs.declared.wasi_function.WasiFunction.{WasiFunction}
use Rattle.image_run.specs.declared.wasi_function.WasiFunction.TheVariants.{FdWrite, ProcExit}
use Rattle.image_run.specs.WasiFunctions.{has_type, wasi_of}
use Rattle.wasi_host.specs.declared.write_call.WriteCall.{WriteCall}
use Rattle.wasi_host.specs.Vectors.{gathered}
use Rattle.wasi_host.specs.Answers.{code_in, answer_by, answer_of, answered_by, badf, fault, inval, i32_in, checked, write_in, writes}
use Rattle.wasi_host.specs.ExitCodes.{code_of_call}
use Rattle.wasi_host.specs.Fitting.{GoesOn, IsCallOf, IsTaken}
use Rattle.image_run.specs.Checks.{is_known}
use Rattle.image_run.specs.Printing.{function_of, takes}

-- ---- types

i32_is : (t : ValType) (n : ℕ) → same_type I32 t ≡ true → i32_in t n ≡ Some n
i32_is I32 n h = refl
i32_is I64 n h = absurd cc

one_result : (l : List ValType) → same_types (I32 ∷ []) l ≡ true → l ≡ I32 ∷ []
one_result [] h = absurd cc
one_result (I32 ∷ []) h = refl
one_result (I64 ∷ l) h = absurd cc
one_result (I32 ∷ x ∷ l) h = absurd cc

four_params : (l : List ValType) → same_types (I32 ∷ I32 ∷ I32 ∷ I32 ∷ []) l ≡ true → l ≡ I32 ∷ I32 ∷ I32 ∷ I32 ∷ []
four_params [] h = absurd cc
four_params (I64 ∷ l) h = absurd cc
four_params (I32 ∷ []) h = absurd cc
four_params (I32 ∷ I64 ∷ l) h = absurd cc
four_params (I32 ∷ I32 ∷ []) h = absurd cc
four_params (I32 ∷ I32 ∷ I64 ∷ l) h = absurd cc
four_params (I32 ∷ I32 ∷ I32 ∷ []) h = absurd cc
four_params (I32 ∷ I32 ∷ I32 ∷ I64 ∷ l) h = absurd cc
four_params (I32 ∷ I32 ∷ I32 ∷ I32 ∷ []) h = refl
four_params (I32 ∷ I32 ∷ I32 ∷ I32 ∷ x ∷ l) h = absurd cc

own_arguments : (vs : List Value) → same_types (I32 ∷ I32 ∷ I32 ∷ I32 ∷ []) (types_of_values vs) ≡ true → (w : WriteCall) × (write_in vs ≡ Some w)
own_arguments [] h = absurd cc
own_arguments (a ∷ []) h = absurd (no a.ty h)
  where
    no : (t : ValType) → (same_type I32 t && false) ≡ true → ⊥
    no I32 e = absurd cc
    no I64 e = absurd cc
own_arguments (a ∷ b ∷ []) h = absurd (no a.ty b.ty h)
  where
    no : (t u : ValType) → (same_type I32 t && (same_type I32 u && false)) ≡ true → ⊥
    no I64 u e = absurd cc
    no I32 I64 e = absurd cc
    no I32 I32 e = absurd cc
own_arguments (a ∷ b ∷ c ∷ []) h =
    let p = and_parts (same_type I32 a.ty) _ h in
    let q = and_parts (same_type I32 b.ty) _ p.1 in
    let r = and_parts (same_type I32 c.ty) _ q.1 in
    absurd (let t : false ≡ true = r.1 in cc)
own_arguments (a ∷ b ∷ c ∷ d ∷ []) h =
    let p = and_parts (same_type I32 a.ty) _ h in
    let q = and_parts (same_type I32 b.ty) _ p.1 in
    let r = and_parts (same_type I32 c.ty) _ q.1 in
    let s = and_parts (same_type I32 d.ty) _ r.1 in (
      record { fd = a.number; iovs = b.number; iovs_len = c.number; nwritten = d.number },
      rw (i32_is a.ty a.number p.0, i32_is b.ty b.number q.0, i32_is c.ty c.number r.0, i32_is d.ty d.number s.0) refl,
    )
own_arguments (a ∷ b ∷ c ∷ d ∷ e ∷ vs) h =
    let p = and_parts (same_type I32 a.ty) _ h in
    let q = and_parts (same_type I32 b.ty) _ p.1 in
    let r = and_parts (same_type I32 c.ty) _ q.1 in
    let s = and_parts (same_type I32 d.ty) _ r.1 in
    absurd (let t : false ≡ true = s.1 in cc)

-- ---- the patch

bytes_four : (n : ℕ) → are_bytes (bytes_of 4 n) ≡ true
bytes_four n =
    rw (below n, below (n / 256), below (n / 256 / 256), below (n / 256 / 256 / 256)) refl
  where
    below : (k : ℕ) → nat_lt (k % 256) 256 ≡ true
    below k = lt-ltb (k % 256) 256 (omega arith)

goes_ok : (memory text : List ℕ) (nwritten : ℕ) → nat_le (nwritten + 4) (length memory) ≡ true → GoesOn (taken (I32 ∷ []) memory (answered_by nwritten (Ok text)).reply)
goes_ok memory text nwritten inside = rw (bytes_four (length text), inside) tt

goes_error : (memory : List ℕ) (nwritten error : ℕ) → nat_lt error 4294967296 ≡ true → GoesOn (taken (I32 ∷ []) memory (answered_by nwritten (Err error)).reply)
goes_error memory nwritten error small = rw small tt

abbrev Fits : List ℕ → ℕ → Result (List ℕ) ℕ → Type 0
Fits memory nwritten r = GoesOn (taken (I32 ∷ []) memory (answered_by nwritten r).reply)

sized_fits : (memory text : List ℕ) (nwritten : ℕ) → nat_le (nwritten + 4) (length memory) ≡ true → (b : Bool) → Fits memory nwritten (if b then Ok text else Err inval)
sized_fits memory text nwritten inside true = goes_ok memory text nwritten inside
sized_fits memory text nwritten inside false = goes_error memory nwritten inval refl

checked_fits : (memory : List ℕ) (nwritten : ℕ) (room : Bool) (o : Option (List ℕ)) → nat_le (nwritten + 4) (length memory) ≡ room → Fits memory nwritten (checked room o)
checked_fits memory nwritten room None h = goes_error memory nwritten fault refl
checked_fits memory nwritten false (Some text) h = goes_error memory nwritten fault refl
checked_fits memory nwritten true (Some text) h = sized_fits memory text nwritten h (nat_le (length text) 4294967295)

few_fits : (memory : List ℕ) (w : WriteCall) (few : Bool) → Fits memory w.nwritten (if few then checked (nat_le (w.nwritten + 4) (length memory)) (gathered memory w.iovs w.iovs_len) else Err inval)
few_fits memory w true = checked_fits memory w.nwritten (nat_le (w.nwritten + 4) (length memory)) (gathered memory w.iovs w.iovs_len) refl
few_fits memory w false = goes_error memory w.nwritten inval refl

file_fits : (memory : List ℕ) (w : WriteCall) (one few : Bool) → Fits memory w.nwritten (if one then (if few then checked (nat_le (w.nwritten + 4) (length memory)) (gathered memory w.iovs w.iovs_len) else Err inval) else Err badf)
file_fits memory w true few = few_fits memory w few
file_fits memory w false few = goes_error memory w.nwritten badf refl

-- ---- calls of fd_write

write_types : (i : Import) → wasi_of i ≡ Some FdWrite → has_type i.signature (I32 ∷ I32 ∷ I32 ∷ I32 ∷ []) (I32 ∷ []) ≡ true
write_types i h =
    elim (cases_Bool (bytes_eq i.module (codes "wasi_snapshot_preview1"))) [
      | inl m ↦
          elim (cases_Bool (bytes_eq i.name (codes "fd_write") && has_type i.signature (I32 ∷ I32 ∷ I32 ∷ I32 ∷ []) (I32 ∷ []))) [
            | inl p ↦ (and_parts (bytes_eq i.name (codes "fd_write")) (has_type i.signature (I32 ∷ I32 ∷ I32 ∷ I32 ∷ []) (I32 ∷ [])) p).1
            | inr p ↦
                elim (cases_Bool (bytes_eq i.name (codes "proc_exit") && has_type i.signature (I32 ∷ []) [])) [
                  | inl q ↦ absurd (let t : Some ProcExit ≡ Some FdWrite = rw (m, p, q) at h in cc)
                  | inr q ↦ absurd (let t : None ≡ Some FdWrite = rw (m, p, q) at h in cc)
                ]
          ]
      | inr m ↦ absurd (let t : None ≡ Some FdWrite = rw m at h in cc)
    ]

own_fits : (memory : List ℕ) (results : List ValType) (o : Option WriteCall) (w : WriteCall) → o ≡ Some w → results ≡ I32 ∷ [] → GoesOn (taken results memory (writes o memory).reply)
own_fits memory results o w is one = rw (is, one) (file_fits memory w (w.fd == 1) (nat_le w.iovs_len 1024))

write_taken : (imports : List Import) (c : HostCall) (i : Import) → wasi_of i ≡ Some FdWrite → IsCallOf imports c i → IsTaken imports c i
write_taken imports c i is call =
    let types = and_parts (same_types (I32 ∷ I32 ∷ I32 ∷ I32 ∷ []) i.signature.params) (same_types (I32 ∷ []) i.signature.results) (write_types i is) in
    let params = four_params i.signature.params types.0 in
    let results = one_result i.signature.results types.1 in
    let own = own_arguments c.arguments (rw params at call.1) in
    rw (call.0, is) (own_fits c.memory i.signature.results (write_in c.arguments) own.0 own.1 results)

-- ---- calls of known imports

exit_types : (i : Import) → wasi_of i ≡ Some ProcExit → has_type i.signature (I32 ∷ []) [] ≡ true
exit_types i h =
    elim (cases_Bool (bytes_eq i.module (codes "wasi_snapshot_preview1"))) [
      | inl m ↦
          elim (cases_Bool (bytes_eq i.name (codes "fd_write") && has_type i.signature (I32 ∷ I32 ∷ I32 ∷ I32 ∷ []) (I32 ∷ []))) [
            | inl p ↦ absurd (let t : Some FdWrite ≡ Some ProcExit = rw (m, p) at h in cc)
            | inr p ↦
                elim (cases_Bool (bytes_eq i.name (codes "proc_exit") && has_type i.signature (I32 ∷ []) [])) [
                  | inl q ↦ (and_parts (bytes_eq i.name (codes "proc_exit")) (has_type i.signature (I32 ∷ []) []) q).1
                  | inr q ↦ absurd (let t : None ≡ Some ProcExit = rw (m, p, q) at h in cc)
                ]
          ]
      | inr m ↦ absurd (let t : None ≡ Some ProcExit = rw m at h in cc)
    ]

one_param : (l : List ValType) → same_types (I32 ∷ []) l ≡ true → l ≡ I32 ∷ []
one_param = one_result

own_code : (vs : List Value) → same_types (I32 ∷ []) (types_of_values vs) ≡ true → (code : ℕ) × (code_in vs ≡ Some code)
own_code [] h = absurd cc
own_code (a ∷ []) h = (a.number, i32_is a.ty a.number (and_parts (same_type I32 a.ty) true h).0)
own_code (a ∷ b ∷ vs) h = absurd (let t : false ≡ true = (and_parts (same_type I32 a.ty) false h).1 in cc)

no_results : (l : List ValType) → same_types [] l ≡ true → l ≡ []
no_results [] h = refl
no_results (x ∷ l) h = absurd cc

prints_nothing_back : (i : Import) → is_some (function_of i) ≡ true → i.signature.results ≡ []
prints_nothing_back i h =
    elim (cases_Bool (bytes_eq i.module (codes "host"))) [
      | inl m ↦
          elim (cases_Bool (bytes_eq i.name (codes "put") && takes i.signature I32)) [
            | inl p ↦ no_results i.signature.results (and_parts (same_types (I32 ∷ []) i.signature.params) (same_types [] i.signature.results) (and_parts (bytes_eq i.name (codes "put")) (takes i.signature I32) p).1).1
            | inr p ↦
                elim (cases_Bool (bytes_eq i.name (codes "num") && takes i.signature I64)) [
                  | inl q ↦ no_results i.signature.results (and_parts (same_types (I64 ∷ []) i.signature.params) (same_types [] i.signature.results) (and_parts (bytes_eq i.name (codes "num")) (takes i.signature I64) q).1).1
                  | inr q ↦ absurd (let t : false ≡ true = rw (m, p, q) at h in cc)
                ]
          ]
      | inr m ↦ absurd (let t : false ≡ true = rw m at h in cc)
    ]

none_goes : (results : List ValType) (memory : List ℕ) → results ≡ [] → GoesOn (taken results memory (Answer [] None))
none_goes results memory none = rw none tt

unknown_goes : (imports : List Import) (c : HostCall) (results : List ValType) → results ≡ [] → GoesOn (taken results c.memory (answer_by None imports c).reply)
unknown_goes imports c results none = none_goes results c.memory none

-- the reply is taken, and the call isn't of proc_exit
pub record IsAnswered (imports : List Import) (c : HostCall) (i : Import) : Type 0 where
  pub goes_on : IsTaken imports c i
  pub no_code : code_of_call imports c ≡ None

-- the call is of proc_exit, and the reply is Stop
pub record IsExit (imports : List Import) (c : HostCall) : Type 0 where
  pub code : ℕ
  pub has_code : code_of_call imports c ≡ Some code
  pub stops : (answer_of imports c).reply ≡ Stop

pub answered_or_exits : (imports : List Import) (c : HostCall) (i : Import) → is_known i ≡ true → IsCallOf imports c i → IsAnswered imports c i ⊎ IsExit imports c
answered_or_exits imports c i known call = by_function (wasi_of i) refl
  where
    by_function : (o : Option WasiFunction) → wasi_of i ≡ o → IsAnswered imports c i ⊎ IsExit imports c
    by_function (Some FdWrite) is = inl (record { goes_on = write_taken imports c i is call; no_code = rw (call.0, is) refl })
    by_function (Some ProcExit) is =
        let params = one_param i.signature.params (and_parts (same_types (I32 ∷ []) i.signature.params) (same_types [] i.signature.results) (exit_types i is)).0 in
        let own = own_code c.arguments (rw params at call.1) in
        inr (record { code = own.0; has_code = rw (call.0, is) own.1; stops = rw (call.0, is, own.1) refl })
    by_function None is =
        let prints : is_some (function_of i) ≡ true = or_none (is_some (function_of i)) (rw is at known) in
        inl (record { goes_on = rw (call.0, is) (unknown_goes imports c i.signature.results (prints_nothing_back i prints)); no_code = rw (call.0, is) refl })
      where
        or_none : (b : Bool) → (b || false) ≡ true → b ≡ true
        or_none true e = refl
        or_none false e = absurd cc

pub taken_or_exits : (imports : List Import) (c : HostCall) (i : Import) → is_known i ≡ true → IsCallOf imports c i → IsTaken imports c i ⊎ IsSome (code_of_call imports c)
taken_or_exits imports c i known call =
    elim (answered_or_exits imports c i known call) [
      | inl h ↦ inl h.goes_on
      | inr h ↦ inr (rw h.has_code refl)
    ]
