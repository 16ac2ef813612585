use Rattle.std.proofs.Common.{[], length, ap, ◌∙◌, subst, arith}
use Rattle.image_format.specs.Contents.{Image, IsImage}
use Rattle.image_format.proofs.Placed.{segments_fit, pages_are_few}
use Rattle.image_run.specs.Sizes.{bytes_wanted}
use Rattle.image_format.proofs.EnvironmentLaws.{globals_few}
use Rattle.image_run.proofs.RegionLaws.{region_bytes_are}
use Rattle.image_run.proofs.sizes.bytes_wanted.Goals as goal

pub overflow_mul-globals : goal.overflow_mul-globals
overflow_mul-globals c = omega (arith, ap length c.as_slice.ensures, c.image.invariant.globals.0, globals_few c.image.inside.version)

pub overflow_mul-table : goal.overflow_mul-table
overflow_mul-table c = omega (arith, ap length c.as_slice-2.ensures, c.image.invariant.table.0)

pub overflow_mul-memory : goal.overflow_mul-memory
overflow_mul-memory c = omega (arith, c.image.invariant.cap, pages_are_few c.image.inside.version)

pub overflow_mul-text : goal.overflow_mul-text
overflow_mul-text c = omega (arith, c.len.ensures, c.image.invariant.text.most)

pub returns : goal.returns
unfolding bytes_wanted
returns c =
    let i = c.args.image.now in
    let is = c.image.view_is in
    let bounds : IsImage i = subst IsImage is c.image.invariant in
    let regions = region_bytes_are i bounds.pages (segments_fit i.pages [] i.segments bounds.segments.1) in
    let globals = c.as_slice.ensures ∙ ap (λ (x : Image). x.globals) is in
    let table = c.as_slice-2.ensures ∙ ap (λ (x : Image). x.table) is in
    let passive = c.as_slice-3.ensures ∙ ap (λ (x : Image). x.passive) is in
    let text = ap (λ (x : Image). length x.text) is in
    omega (arith, regions, ap length globals, ap length table, ap length passive, c.len.ensures, text, ap (λ (x : Image). x.cap) is)
