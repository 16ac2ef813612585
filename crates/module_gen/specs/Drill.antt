-- The drill: a module with n functions that each add a number, 0 to n - 1, to their argument, and with one that calls them in turn,
-- first with 0, and returns the last one's result. That one is exported as `run` (WebAssembly Core 1.0, 5.4 and 5.5).
use Rattle.std.specs.Prelude.{ℕ, ◌+◌, List, [], ◌∷◌, ◌++◌, length, replicate}
use Rattle.std.specs.List.{flat_map, range_with_len}
use Rattle.wasm_defs.specs.Outside.{magic, version}
use Rattle.module_gen.specs.Numbers.{unsigned, signed}

-- 0 to n - 1
abbrev pub below : ℕ → List ℕ
below n = range_with_len 0 n

-- a size, and as many bytes
abbrev pub sized : List ℕ → List ℕ
sized content = unsigned (length content) ++ content

-- a section of that id
abbrev pub section : ℕ → List ℕ → List ℕ
section id content = id ∷ sized content

-- ---- bodies: no locals; and code

-- local.get 0, i32.const i, i32.add
unfoldable pub adder : ℕ → List ℕ
adder i = sized (0x00 ∷ 0x20 ∷ 0x00 ∷ 0x41 ∷ (signed i ++ 0x6A ∷ 0x0B ∷ []))

unfoldable pub call : ℕ → List ℕ
call i = 0x10 ∷ unsigned i

-- i32.const 0, and a call of each of the others
abbrev pub runner : ℕ → List ℕ
runner n = sized (0x00 ∷ 0x41 ∷ 0x00 ∷ (flat_map call (below n) ++ 0x0B ∷ []))

-- ---- sections

-- i32 to i32, and nothing to i32
abbrev pub types : List ℕ
types = section 1 (0x02 ∷ 0x60 ∷ 0x01 ∷ 0x7F ∷ 0x01 ∷ 0x7F ∷ 0x60 ∷ 0x00 ∷ 0x01 ∷ 0x7F ∷ [])

abbrev pub functions : ℕ → List ℕ
functions n = section 3 (unsigned (n + 1) ++ (replicate n 0x00 ++ 0x01 ∷ []))

abbrev pub exports : ℕ → List ℕ
exports n = section 7 (0x01 ∷ 0x03 ∷ 0x72 ∷ 0x75 ∷ 0x6E ∷ 0x00 ∷ unsigned n)

abbrev pub code : ℕ → List ℕ
code n = section 10 (unsigned (n + 1) ++ (flat_map adder (below n) ++ runner n))

unfoldable pub drill_bytes : ℕ → List ℕ
drill_bytes n = magic ++ (version ++ (types ++ (functions n ++ (exports n ++ code n))))
