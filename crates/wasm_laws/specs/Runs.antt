-- What more bytes make of a module's reading (WebAssembly Core 1.0, 5.5).
use Rattle.std.specs.Prelude.{◌≡◌, ℕ, ◌+◌, List, ◌++◌}
use Rattle.wasm_defs.specs.declared.fault.Refusal.{Refusal}
use Rattle.wasm_defs.specs.Limits.{max_module}
use Rattle.wasm_defs.specs.Outside.{Part, Ending, Whole, Refused, Owed, Run}

-- a refused run stays as it is, with all its parts; the parts of any other are the first ones of what it becomes
abbrev pub Becomes : List Part → Ending → Run → Type 0
Becomes parts (Refused r) later = later ≡ record { parts = parts; ending = Refused r }
Becomes parts (Whole seen) later = (tail : List Part) × (later.parts ≡ parts ++ tail)
Becomes parts Owed later = (tail : List Part) × (later.parts ≡ parts ++ tail)

abbrev pub GoesOn : Run → Run → Type 0
GoesOn r later = Becomes r.parts r.ending later

-- so many bytes decide about any module: the size of its last section begins at the limit on a module's bytes at most, and
-- has five bytes at most
abbrev pub deciding_length : ℕ
deciding_length = max_module + 5

abbrev pub IsRefused : Ending → Type 0
IsRefused ending = (r : Refusal) × (ending ≡ Refused r)
