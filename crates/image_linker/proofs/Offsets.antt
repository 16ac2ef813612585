-- The offsets of traps have 32 bits.
use Rattle.std.proofs.Common.{ℕ, zero, suc, ◌^◌, ◌<◌, List, [], ◌∷◌, map, arith}
use Rattle.std.specs.Prelude.{slice_index}
use Rattle.rv_isa.specs.declared.compiled.TrapSite.{TrapSite}
use Rattle.wasm_defs.specs.Configurations.{Origin}
use Rattle.wasm_laws.specs.Short.{AreShort}
use Rattle.frame_layout.specs.Functions.{Trap, site_of}

abbrev pub AreShortSites : List TrapSite → Type 0
AreShortSites [] = Unit {0}
AreShortSites (s ∷ ss) = (s.offset < 2 ^ 32) × AreShortSites ss

-- an offset that isn't there counts as 0
short_at : (ns : List ℕ) (i : ℕ) → AreShort ns → slice_index ns i < 2 ^ 32
short_at [] i h = omega arith
short_at (n ∷ ns) zero h = h.0
short_at (n ∷ ns) (suc i) h = short_at ns i h.1

pub sites_are_short : (o : Origin) → AreShort o.offsets → (ts : List Trap) → AreShortSites (map (site_of o) ts)
sites_are_short o h [] = tt
sites_are_short o h (t ∷ ts) = (short_at o.offsets _ h, sites_are_short o h ts)
