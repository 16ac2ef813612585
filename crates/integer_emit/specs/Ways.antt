-- How operations on two operands are computed.
use Rattle.std.specs.Prelude.{List, [], ◌∷◌, ◌++◌}
use Rattle.rv_isa.specs.declared.operations.Op.{Op}
use Rattle.rv_isa.specs.declared.operations.Op.TheVariants.{Reg}
use Rattle.rv_isa.specs.declared.operations.RegOpW.TheVariants.{Divw}
use Rattle.rv_isa.specs.declared.operations.RegOp.TheVariants.{Div}
use Rattle.wasm_defs.specs.declared.types.ValType.{ValType}
use Rattle.frame_layout.specs.Macros.{t0, t1}
use Rattle.frame_layout.specs.Bodies.{sized, both, rotation, guard, overflow_guard}
use Rattle.integer_emit.specs.declared.binary.Way.{Way}
use Rattle.integer_emit.specs.declared.binary.Way.TheVariants.{Sized, Whole, Divided, DividedSigned, Rotated}

abbrev pub way_body : Way → ValType → List Op
way_body (Sized op) t = both t op.narrow op.wide
way_body (Whole op) t = Reg op t0 t0 t1 ∷ []
way_body (Divided op) t = guard ++ both t op.narrow op.wide
way_body DividedSigned t = guard ++ (overflow_guard t ++ both t Divw Div)
way_body (Rotated onward back) t = rotation (sized t onward.narrow onward.wide) (sized t back.narrow back.wide)
