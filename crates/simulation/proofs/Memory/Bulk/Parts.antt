-- The language's memory after bytes were put, and the machine's.
use Rattle.std.proofs.Common.{◌≡◌, ℕ, ◌+◌, ◌≤◌, List, ◌++◌, drop, length, sym, ap, ◌∙◌}
use Rattle.rv_isa.specs.Steps.{Bytes, put}
use Rattle.simulation.specs.Regions.{with_memory}
use Rattle.simulation.proofs.Memory.Written.{over_part, over_part_size, over_part_is}
use Rattle.simulation.proofs.Memory.Bulk.Moved.{with_bytes}

pub part_is_put : (b : Bytes) (n at size : ℕ) (bytes : List ℕ) → length bytes ≡ n → at + length bytes ≤ size → size ≤ length b.memory → with_bytes b (put n at b.memory bytes) ≡ with_memory b (over_part at size bytes b.memory)
part_is_put b n at size bytes count inside whole =
    let written = over_part at size bytes b.memory in
    ap (λ (k : ℕ). with_bytes b (put k at b.memory bytes)) (sym count)
    ∙ ap (with_bytes b) (over_part_is at size bytes b.memory inside whole ∙ ap (λ (k : ℕ). written ++ drop k b.memory) (sym (over_part_size at size bytes b.memory inside whole)))
