-- Counts of what a module's items add up to.
use Rattle.std.specs.Prelude.{ℕ, ◌+◌, ◌<◌, ◌≤◌, ◌^◌, Bool, Option, length, refl}
use Rattle.std.specs.FinMap as map
use Rattle.std.specs.Coded.{Coded, code_by, coded×, coded_ℕ, coded_bool, coded_option, coded_list}
use Rattle.wasm_defs.specs.Fields.{Cursor}
use Rattle.wasm_defs.specs.Entries.{Seen, Names}

-- ---- what was seen, stored as a tuple

abbrev pub names_code : Coded Names
names_code = map.code (coded_list coded_ℕ) coded_ℕ

abbrev pub Counts : Type 0
Counts = ℕ × (ℕ × (ℕ × (ℕ × (ℕ × (ℕ × (Names × (Bool × (Option ℕ × ℕ))))))))

abbrev pub seen_code : Coded Seen
seen_code =
    code_by Counts (coded× coded_ℕ (coded× coded_ℕ (coded× coded_ℕ (coded× coded_ℕ (coded× coded_ℕ (coded× coded_ℕ (coded× names_code (coded× coded_bool (coded× (coded_option coded_ℕ) coded_ℕ)))))))))
    (λ s. (s.types, (s.functions, (s.declared, (s.tables, (s.memories, (s.globals, (s.names, (s.counted, (s.data_count, s.last))))))))))
    (λ p. record { types = p.0; functions = p.1.0; declared = p.1.1.0; tables = p.1.1.1.0; memories = p.1.1.1.1.0; globals = p.1.1.1.1.1.0; names = p.1.1.1.1.1.1.0; counted = p.1.1.1.1.1.1.1.0; data_count = p.1.1.1.1.1.1.1.1.0; last = p.1.1.1.1.1.1.1.1.1 })
    (λ _. refl)

-- ---- the counts fit

-- one more item fits
pub record HasRoom (s : Seen) : Type 0 where
  pub types : s.types + 1 < 2 ^ 64
  pub functions : s.functions + 1 < 2 ^ 64
  pub declared : s.declared + 1 < 2 ^ 64
  pub tables : s.tables + 1 < 2 ^ 64
  pub memories : s.memories + 1 < 2 ^ 64
  pub globals : s.globals + 1 < 2 ^ 64

-- each count is at most the offset, since each item takes a byte
pub record IsWithin (s : Seen) (at : ℕ) : Type 0 where
  pub types : s.types ≤ at
  pub functions : s.functions ≤ at
  pub declared : s.declared ≤ at
  pub tables : s.tables ≤ at
  pub memories : s.memories ≤ at
  pub globals : s.globals ≤ at

-- ---- what holds at every stage

-- the counts are no more than the offset, and the offsets are those of a slice
pub record IsSound (seen : Seen) (c : Cursor) : Type 0 where
  pub counts : IsWithin seen c.at
  pub fits : c.at + length c.rest < 2 ^ 63
