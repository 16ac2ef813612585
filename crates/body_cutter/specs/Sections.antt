-- A code section's bodies, read from the left: those that are complete, and what ends them (WebAssembly Core 1.0, 5.5.13).
use Rattle.std.specs.Prelude.{ℕ, zero, suc, false, ◌||◌, List, [], ◌∷◌, Option, Some, None, nat_lt, if◌then◌else◌}
use Rattle.wasm_defs.specs.declared.fault.Kind.{Kind}
use Rattle.wasm_defs.specs.declared.fault.Kind.TheVariants.{Malformed, Limit}
use Rattle.wasm_defs.specs.declared.fault.Refusal.{Refusal}
use Rattle.wasm_defs.specs.Limits.{max_body}
use Rattle.wasm_defs.specs.Fields.{Cursor, Read, Got, Fault, Wants, Reader, ◌>>=◌, done, run, here}
use Rattle.wasm_defs.specs.Outside.{Part, Section, Listed, Coded, body, section_end}
use Rattle.body_cutter.specs.Bodies.{Body}

-- the section is whole, it has an error, or more bytes are owed
pub data End : Type 0 where
  Whole : End
  Faulty : (r : Refusal) → End
  Owed : End

pub record Given : Type 0 where
  pub bodies : List Body
  pub ending : End

abbrev pub ends : End → Given
ends ending = record { bodies = []; ending = ending }

-- a body, as that of a function
abbrev pub with_part : ℕ → Part → Given → Given
with_part index (Coded b) g = record { bodies = record { index = index; size = b.size; first = b.first; bytes = b.bytes } ∷ g.bodies; ending = g.ending }
with_part index (Section at id) g = g
with_part index (Listed x) g = g

abbrev pub goes_on : {A : Type 0} → Read A → (A → Cursor → Given) → Given
goes_on (Got x c) f = f x c
goes_on (Fault r) f = ends (Faulty r)
goes_on Wants f = ends Owed

-- so many bodies, the first of which is that of the function of this index, and the section's end; what is given doesn't say
-- whether data segments are counted
unfoldable pub bodies_from : ℕ → ℕ → Cursor → Given
bodies_from index zero c = goes_on (section_end c) (λ x d. ends Whole)
bodies_from index (suc n) c = goes_on (body false c) (λ part d. with_part index part (bodies_from (suc index) n d))

-- the bytes of a body whose size has that offset, and is right
unfoldable pub sized : ℕ → ℕ → Reader Part
sized size len = do
  at ← here
  bytes ← run len
  done (Coded (record { counted = false; size = size; first = at; bytes = bytes }))

-- what is wrong with a size after which the section has so many bytes, as `body` validates it
abbrev pub size_fault : ℕ → ℕ → Option Kind
size_fault size room =
    if nat_lt size 2 || nat_lt room size then Some Malformed
    else if nat_lt max_body size then Some Limit
    else None
