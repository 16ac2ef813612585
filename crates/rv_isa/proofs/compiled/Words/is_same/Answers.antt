use Rattle.std.proofs.Common.{◌∙◌, sym, ap}
use Rattle.std.specs.Int.{w32, to_le_bytes}
use Rattle.std.specs.List.{flat_map}
use Rattle.rv_isa.proofs.Stored.{told}
use Rattle.rv_isa.proofs.compiled.Words.is_same.Goals as goal

pub returns : goal.returns
returns c = (
  λ yes.
      told c.args.self.now c.args.other.now c.keeps_bounds.ensures.small c.keeps_bounds-2.ensures.small
      (sym c.as_bytes.ensures ∙ c.are_same.ensures.0 yes ∙ c.as_bytes-2.ensures),
  λ e. c.are_same.ensures.1 (c.as_bytes.ensures ∙ ap (flat_map (to_le_bytes w32)) e ∙ sym c.as_bytes-2.ensures),
)
