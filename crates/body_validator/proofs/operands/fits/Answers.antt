use Rattle.std.proofs.Common.{reverse, take, is_some, ap, ◌∙◌, sym, arith}
use Rattle.body_validator.specs.Checking.{take_all}
use Rattle.body_validator.proofs.Flat.{one_fits, none_there, reverse-length}
use Rattle.body_validator.proofs.operands.fits.Goals as goal

pub returns-then-left-eq0 : goal.returns-then-left-eq0
returns-then-left-eq0 c =
    let l = c.loop-owed in
    let types = reverse (take l.owed c.args.types.now) in
    sym (ap is_some l.invariant.same ∙ ap (λ n. is_some (take_all c.args.unknown types (reverse (take n c.args.own.now)))) c.if-left-eq0.true
    ∙ none_there c.args.unknown types (reverse-length c.args.types.now l.owed (omega arith) l.invariant.types_within))

pub loop-owed-preserved : goal.loop-owed-preserved
loop-owed-preserved c =
    let l = c.loop-owed in
    record {
      types_within = omega arith;
      own_within = omega arith;
      same = l.invariant.same ∙ one_fits c.args.unknown c.args.types.now c.args.own.now l.owed l.left _ _ c.is_of_type.result c.is_of_type.ensures c.if-not-is_of_type.false
          (omega arith) (omega arith) l.invariant.types_within l.invariant.own_within;
    }
