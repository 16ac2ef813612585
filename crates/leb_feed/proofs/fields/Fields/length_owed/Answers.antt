use Rattle.std.proofs.Common.{length, ap, arith}
use Rattle.leb_feed.proofs.Casts.{few}
use Rattle.leb_feed.proofs.fields.Fields.length_owed.Goals as goal

pub overflow_add-window-2 : goal.overflow_add-window-2
overflow_add-window-2 c =
    let small = few _ _ c.least.result c.least.ensures.small (ap length c.window-window.ensures) c.requires in
    omega (arith, small, c.requires, ap length c.window-window.ensures)
