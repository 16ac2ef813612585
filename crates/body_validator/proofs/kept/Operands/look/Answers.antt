use Rattle.std.proofs.Common.{◌≡◌, reverse, inl, refl, arith}
use Rattle.body_validator.specs.Kept.{spreads, floor_of}
use Rattle.body_validator.proofs.Laying.{flat_length}
use Rattle.body_validator.proofs.kept.Operands.look.Goals as goal

pub returns-then-floor-self-clause-seen : goal.returns-then-floor-self-clause-seen
returns-then-floor-self-clause-seen c =
    let o = c.args.self.now in
    let floor : c.floor-floor.result ≡ floor_of (reverse (spreads o.lists)) = c.floor-floor.ensures in
    let long = flat_length o c.requires.kept in
    record {
      kept = record { stacked = c.requires.kept.stacked; listed = c.requires.kept.listed; few = c.requires.kept.few };
      above = omega (arith, floor, c.if-floor-self.true);
      within = omega (arith, long, c.requires.within);
      case = inl (omega (arith, c.if-floor-self.true), refl);
    }
