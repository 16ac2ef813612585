-- The limit on a text, where all codes are there.
use Rattle.std.specs.Prelude.{◌≡◌, ◌<◌, ◌≤◌, ℕ, suc, ◌+◌, ◌*◌, List, take, length, Option, None, Some, slice_get}
use Rattle.rv_isa.specs.declared.compiled.Code.{Code}
use Rattle.wasm_defs.specs.declared.fault.Refusal.{Refusal}
use Rattle.wasm_defs.specs.Limits.{max_text}
use Rattle.index_spaces.specs.Spaces.{Spaces}
use Rattle.image_linker.specs.ImageOf.{front_of}
use Rattle.image_linker.specs.Judging.{limit_at}
use Rattle.image_linker.specs.Linking.{words_of}

-- the bytes of the text up to so many of the codes, with the stubs before them
abbrev pub bytes_up_to : Spaces → List Code → ℕ → ℕ
bytes_up_to s codes n = 4 * (front_of (length s.imports) + length (words_of (take n codes)))

-- the text passes its limit with the k-th code, and with none before it; the size of its body is at this offset
pub record Passes (s : Spaces) (codes : List Code) (size_offsets : List ℕ) (k offset : ℕ) : Type 0 where
  pub is : k < length codes
  pub at : slice_get size_offsets k ≡ Some offset
  pub passes : max_text < bytes_up_to s codes (suc k)
  pub first : (j : ℕ) → j < k → bytes_up_to s codes (suc j) ≤ max_text

-- the error is at the size of the body with whose code the limit is passed
abbrev pub IsTextLimit : Spaces → List Code → List ℕ → Option Refusal → Type 0
IsTextLimit s codes size_offsets None = (j : ℕ) → j < length codes → bytes_up_to s codes (suc j) ≤ max_text
IsTextLimit s codes size_offsets (Some r) = (k offset : ℕ) × Passes s codes size_offsets k offset × (r ≡ limit_at offset)
