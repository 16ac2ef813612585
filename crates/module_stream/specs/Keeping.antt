-- Bodies that were cut and kept, while none of them is validated.
use Rattle.std.specs.Prelude.{ℕ, List, ◌++◌}
use Rattle.wasm_defs.specs.declared.fault.Refusal.{Refusal}
use Rattle.wasm_defs.specs.Outside.{Refused, ends}
use Rattle.section_reader.specs.Onward.{after_parts}
use Rattle.body_cutter.specs.Bodies.{Body}
use Rattle.body_cutter.specs.Cuttings.{Cutting}
use Rattle.module_stream.specs.declared.compilation.Compilation.{Compilation}
use Rattle.module_stream.specs.CutBodies.{counts_data, coded_all}
use Rattle.module_stream.specs.Progress.{IsJudging}
use Rattle.module_stream.specs.Streaming.{with_cutter}

-- a cutter as if it still had these bodies
abbrev pub with_kept : List Body → Cutting → Cutting
with_kept kept c = record { place = c.place; queue = record { least = c.queue.least; number = c.queue.number; closed = kept ++ c.queue.closed; begun = c.queue.begun } }

-- a compilation that has the cutter back, with the bodies that were kept
abbrev pub with_bodies : Compilation → List Body → Cutting → Compilation
with_bodies s kept c = with_cutter s (with_kept kept c)

-- of these bytes the bodies that were kept come next, and then the error of their section
abbrev pub HasSectionError : List ℕ → Compilation → List Body → Refusal → Type 0
HasSectionError bytes s kept r = IsJudging bytes (after_parts (coded_all (counts_data s.front.steps.seen) kept) (ends (Refused r))) s.spaces s.codes
