use Rattle.std.proofs.Common.{◌≡◌, map, take, length}
use Rattle.std.specs.Int.{w32, to_le_bytes}
use Rattle.rv_isa.proofs.compiled.stored.Given as goal

abbrev pub invariant-loop-index : goal.invariant-loop-index
invariant-loop-index g l = (take l.index l.bytes ≡ map (to_le_bytes w32) (take l.index l.words)) × (length l.bytes ≡ g.row.N)
