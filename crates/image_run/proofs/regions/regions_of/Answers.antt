use Rattle.std.proofs.Common.{◌*◌, List, [], length, ap, ◌∙◌, refl, arith}
use Rattle.wasm_defs.specs.Memory.{page}
use Rattle.wasm_defs.specs.Instances.{all_over}
use Rattle.image_format.specs.declared.image.Row.{Row}
use Rattle.image_format.specs.declared.image.Segment.{Segment}
use Rattle.image_format.specs.Environment.{row_words, word_bytes, segments_of}
use Rattle.image_format.proofs.Placed.{segments_fit}
use Rattle.image_format.proofs.EnvironmentLaws.{globals_few}
use Rattle.image_run.specs.States.{zeros}
use Rattle.image_run.proofs.RegionLaws.{loaded_is, globals_short, table_short, passive_short}
use Rattle.image_run.proofs.regions.regions_of.Goals as goal

pub memory_of-requires-clause-fit : goal.memory_of-requires-clause-fit
memory_of-requires-clause-fit c =
    let i = c.image.inside in
    let there = segments_fit i.pages [] i.segments c.image.invariant.segments.1 in
    rw c.as_slice-3.ensures there

pub returns-clause-loaded : goal.returns-clause-loaded
returns-clause-loaded c =
    let i = c.image.inside in
    let memory = c.in_ok-memory.ensures.bytes ∙ ap (λ (segments : List Segment). all_over (zeros (page * i.cap)) (segments_of segments)) c.as_slice-3.ensures in
    rw (← c.image.view_is)
    (loaded_is _ _ _ refl c.in_ok-stack.ensures.items (c.in_ok-globals.ensures ∙ ap word_bytes c.as_slice.ensures)
    (c.in_ok-table.ensures ∙ ap (λ (rows : List Row). word_bytes (row_words rows)) c.as_slice-2.ensures) memory (c.in_ok-passive.ensures.items ∙ c.as_slice-4.ensures))

pub returns-clause-globals : goal.returns-clause-globals
returns-clause-globals c = globals_short c.image.inside.version c.image.inside.globals _ (c.in_ok-globals.ensures ∙ ap word_bytes c.as_slice.ensures) c.image.invariant.globals.0

pub globals_of-requires : goal.globals_of-requires
globals_of-requires c = omega (arith, ap length c.as_slice.ensures, c.image.invariant.globals.0, globals_few c.image.inside.version)

pub returns-clause-passive : goal.returns-clause-passive
returns-clause-passive c = rw (c.in_ok-passive.ensures.items, c.as_slice-4.ensures) (passive_short c.image.inside.version c.image.inside.passive c.image.invariant.passive)

pub returns-clause-table : goal.returns-clause-table
returns-clause-table c =
    table_short c.image.inside.table _ (c.in_ok-table.ensures ∙ ap (λ (rows : List Row). word_bytes (row_words rows)) c.as_slice-2.ensures) c.image.invariant.table.0
