use Rattle.std.proofs.Common.{◌+◌, length, ap, ◌∙◌, arith, set, get_or, List}
use Rattle.image_format.specs.declared.image.Row.{Row}
use Rattle.image_linker.proofs.ElementRows.{none_over, get_or_same, written_length, written_more}
use Rattle.image_linker.proofs.tables.write.Goals as goal

pub loop-i-init : goal.loop-i-init
loop-i-init c = none_over c.args.rows.now c.args.place

pub set-requires : goal.set-requires
set-requires c =
    let same = ap (λ (l : List Row). length l) c.loop-i.invariant in
    let size = written_length c.args.context.now c.args.starts.now c.args.rows.now c.args.place c.loop-i.i c.args.functions.now c.loop-i-test.true c.requires in
    omega (arith, same, size, c.requires, c.loop-i-test.true)

pub loop-i-preserved : goal.loop-i-preserved
loop-i-preserved c =
    let functions = c.args.functions.now in
    let f = get_or functions c.loop-i.i 0 in
    written_more c.args.context.now c.args.starts.now c.args.rows.now c.loop-i.rows c.set.new.rows c.args.place c.loop-i.i f functions c.loop-i-test.true (get_or_same functions c.loop-i.i c.loop-i-test.true) c.requires c.loop-i.invariant
    (c.set.ensures ∙ ap (λ (r : Row). set c.loop-i.rows (c.args.place + c.loop-i.i) r) c.row_of.ensures)
