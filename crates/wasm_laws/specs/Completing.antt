-- A field that wants more bytes can be completed in its section: none waits for bytes that can't come (WebAssembly Core 1.0, 5.2).
use Rattle.std.specs.Prelude.{◌≡◌, ◌⊎◌, ℕ, List}
use Rattle.wasm_defs.specs.declared.fault.Kind.TheVariants.{Limit}
use Rattle.wasm_defs.specs.Fields.{Cursor, Read, Got, Fault, Wants, Reader}
use Rattle.wasm_laws.specs.Sections.{AreBytes}
use Rattle.wasm_laws.specs.Steadiness.{with_more}

abbrev pub IsGot : {A : Type 0} → Read A → Type 0
IsGot (Got x d) = Unit {0}
IsGot (Fault r) = ⊥
IsGot Wants = ⊥

-- it is whole, but longer than this implementation takes
abbrev pub IsTooLong : {A : Type 0} → Read A → Type 0
IsTooLong (Got x d) = ⊥
IsTooLong (Fault r) = r.kind ≡ Limit
IsTooLong Wants = ⊥

-- some bytes after those that are there complete it
abbrev pub Completes : {A : Type 0} → Reader A → Cursor → Type 0
Completes p c = (more : List ℕ) × AreBytes more × IsGot (p (with_more c more))

abbrev pub CompletesOrPasses : {A : Type 0} → Reader A → Cursor → Type 0
CompletesOrPasses p c = (more : List ℕ) × AreBytes more × (IsGot (p (with_more c more)) ⊎ IsTooLong (p (with_more c more)))
