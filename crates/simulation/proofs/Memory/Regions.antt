-- The regions' registers stay.
use Rattle.std.proofs.Common.{◌≡◌, ℕ, ◌*◌, ◌≤◌, List, length, Option, refl, sym, ap, subst, ◌∙◌}
use Rattle.rv_isa.specs.declared.operations.Op.{Op}
use Rattle.rv_isa.specs.Steps.{Bytes, State}
use Rattle.wasm_defs.specs.Memory.{page}
use Rattle.frame_layout.specs.Macros.{s1, s2, s3, s4}
use Rattle.frame_layout.specs.Laws.{Does}
use Rattle.simulation.specs.Regions.{HasRegions}

-- where scratch registers change, and the memory keeps its length
pub regions_after : {code : List (Option Op)} {k a pages : ℕ} {s : State} {bytes : Bytes} → HasRegions pages s → length bytes.memory ≡ length s.bytes.memory → (does : Does code k a s bytes) → HasRegions pages does.end
regions_after {code} {k} {a} {pages} {s} {bytes} regions size does =
    record {
      memory = does.others s1 refl ∙ regions.memory;
      size = does.others s2 refl ∙ regions.size;
      globals = does.others s3 refl ∙ regions.globals;
      table = does.others s4 refl ∙ regions.table;
      whole = subst (λ (n : ℕ). page * pages ≤ n) (sym (ap (λ (b : Bytes). length b.memory) does.bytes_are ∙ size)) regions.whole;
    }

-- where no byte changes
pub regions_stay : {code : List (Option Op)} {k a pages : ℕ} {s : State} → HasRegions pages s → (does : Does code k a s s.bytes) → HasRegions pages does.end
regions_stay {code} {k} {a} {pages} {s} regions does = regions_after regions refl does
