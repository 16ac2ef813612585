use Rattle.std.proofs.Common.{◌≡◌, ◌++◌, map, take}
use Rattle.wasm_defs.specs.Items.{type_code}
use Rattle.index_spaces.proofs.type_space.push_codes.Given as goal

abbrev pub invariant-loop-ty : goal.invariant-loop-ty
invariant-loop-ty l = l.key.items ≡ l.initial.key.items ++ map type_code (take l.ty-index l.types)
