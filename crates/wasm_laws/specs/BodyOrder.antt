-- Where the fields of a body are: its tokens one after the other, up to the error of encoding, which is at a byte of the body
-- (WebAssembly Core 1.0, 5.4 and 5.5.13).
use Rattle.std.specs.Prelude.{◌≤◌, ℕ, suc, List, [], ◌∷◌, Option, Some, None}
use Rattle.wasm_defs.specs.declared.fault.Refusal.{Refusal}
use Rattle.wasm_defs.specs.Bodies.{Spelled}

-- the offsets rise, from low on, to last at most
abbrev pub AreRising : {X : Type 0} → ℕ → ℕ → List (ℕ × X) → Type 0
AreRising low last [] = Unit {0}
AreRising low last (x ∷ xs) = (low ≤ x.0) × (x.0 ≤ last) × AreRising (suc x.0) last xs

-- where encoding stops: at the error, or at the body's last byte
abbrev pub stop_of : ℕ → Option Refusal → ℕ
stop_of last None = last
stop_of last (Some r) = r.offset

-- what is encoded from first on, in a body whose last byte is at last: tokens are up to where encoding stops
pub record IsSpelledIn (first last : ℕ) (s : Spelled) : Type 0 where
  pub tokens : AreRising first (stop_of last s.fault) s.tokens
  pub after : first ≤ stop_of last s.fault
  pub within : stop_of last s.fault ≤ last
