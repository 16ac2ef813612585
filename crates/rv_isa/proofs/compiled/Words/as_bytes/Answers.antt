use Rattle.std.proofs.Common.{◌∙◌, ℕ, List, ap}
use Rattle.std.specs.Int.{w32, to_le_bytes}
use Rattle.std.specs.List.{flat_map}
use Rattle.rv_isa.proofs.Stored.{flattened}
use Rattle.rv_isa.proofs.compiled.Words.as_bytes.Goals as goal

pub returns : goal.returns
returns c =
    c.as_flattened.ensures.value ∙ ap (flat_map (λ (x : List ℕ). x)) c.as_slice.ensures.value
    ∙ flattened c.self.inside.words.items c.self.invariant ∙ ap (flat_map (to_le_bytes w32)) c.self.view_is
