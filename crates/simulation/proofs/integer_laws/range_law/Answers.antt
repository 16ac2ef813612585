use Rattle.simulation.proofs.Integers.Ranges.{binary_is_below, compare_is_below, unary_is_below, test_is_below, convert_is_below}
use Rattle.simulation.proofs.Integers.SignExtensions.{extend_is_below}
use Rattle.simulation.proofs.integer_laws.range_law.Goals as goal

pub returns : goal.returns
returns c = record { binary = binary_is_below; compare = compare_is_below; unary = unary_is_below; test = test_is_below; convert = convert_is_below; extend = extend_is_below }
