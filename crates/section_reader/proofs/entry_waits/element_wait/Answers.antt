use Rattle.std.proofs.Common.{subst, refl, ◌-◌, length}
use Rattle.wasm_defs.specs.Entries.{Seen, element}
use Rattle.section_reader.specs.declared.wait.Element.TheVariants.{Index}
use Rattle.section_reader.specs.declared.wait.Wait.TheVariants as wait
use Rattle.section_reader.specs.Waits.{Awaits}
use Rattle.section_reader.proofs.Awaiting.{indices_advance, element_awaits, list_is_placed}
use Rattle.section_reader.proofs.entry_waits.element_wait.Goals as goal
use Rattle.wasm_laws.proofs.Steady.{advance_fewer}

pub list_wait-requires : goal.list_wait-requires
list_wait-requires c =
    advance_fewer c.args.fields.now c.u32.new.self (indices_advance c.args.seen.now c.args.fields.now c.index.new.fields c.constant.new.fields c.u32.new.self c.in-Ok.field-0 c.in-Ok-constant.field-0 c.in-Ok-u32.indices _ (rw c.fork-next.ensures at c.in-Ok.ensures.read) c.in-Ok-constant.ensures.read c.in-Ok-u32.ensures.read)

pub returns-clause-awaits : goal.returns-clause-awaits
returns-clause-awaits c =
    rw c.list_wait.ensures (subst (λ (s : Seen). Awaits (element s) c.args.fields.now (wait.List (length c.args.fields.now.rest - length c.u32.new.self.rest) c.in-Ok-u32.indices.1 (Index c.seen.inside.functions))) c.seen.view_is
    (element_awaits _ c.args.fields.now c.index.new.fields c.constant.new.fields c.u32.new.self c.in-Ok.field-0 c.in-Ok-constant.field-0 c.in-Ok-u32.indices _ (rw c.fork-next.ensures at c.in-Ok.ensures.read) c.in-Ok-constant.ensures.read c.in-Ok-u32.ensures.read refl))

pub returns-clause-placed : goal.returns-clause-placed
returns-clause-placed c =
    rw c.list_wait.ensures (list_is_placed c.args.fields.now c.u32.new.self _ _ (indices_advance c.args.seen.now c.args.fields.now c.index.new.fields c.constant.new.fields c.u32.new.self c.in-Ok.field-0 c.in-Ok-constant.field-0 c.in-Ok-u32.indices _ (rw c.fork-next.ensures at c.in-Ok.ensures.read) c.in-Ok-constant.ensures.read c.in-Ok-u32.ensures.read))
