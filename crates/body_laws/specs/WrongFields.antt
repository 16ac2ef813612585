-- A field whose bytes are wrong.
use Rattle.std.specs.Prelude.{◌≡◌, ◌⊎◌, ℕ, List, ◌++◌}
use Rattle.wasm_defs.specs.declared.fault.Kind.TheVariants.{Malformed}
use Rattle.wasm_defs.specs.declared.fault.Refusal.{Refusal}
use Rattle.wasm_defs.specs.Items.{Spelling}

-- no prefix of these bytes encodes such a field
abbrev pub BeginsNone : {A : Type 0} → (A → Spelling) → (at : ℕ) → List ℕ → Type 0
BeginsNone {A} is at bytes = (x : A) (front back : List ℕ) → bytes ≡ front ++ back → is x at front → ⊥

-- there begins no such field. The error is at the field's first byte; or, where the bytes end in the field, it is malformed at the
-- body's last byte
abbrev pub IsWrong : {A : Type 0} → (A → Spelling) → (at : ℕ) → List ℕ → (last : ℕ) → Refusal → Type 0
IsWrong is at bytes last r = BeginsNone is at bytes × ((r.offset ≡ at) ⊎ (r ≡ record { offset = last; kind = Malformed }))
