use Rattle.std.proofs.Common.{◌≡◌, ◌++◌, take, length}
use Rattle.frame_layout.specs.Templates.{exit_stub}
use Rattle.image_linker.specs.Linking.{import_traps}
use Rattle.image_linker.proofs.trap_places.put_stubs.Given as goal

abbrev pub invariant-loop-import : goal.invariant-loop-import
invariant-loop-import l =
    (l.places.items ≡ l.initial.places.items ++ import_traps (length exit_stub) 0 (take l.import-index l.imports)) × (l.number ≡ l.import-index)
