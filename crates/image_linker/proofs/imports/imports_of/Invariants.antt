use Rattle.std.proofs.Common.{◌≡◌, map, take}
use Rattle.image_linker.specs.Linking.{linked_import}
use Rattle.image_linker.specs.Signatures.{AreOf}
use Rattle.image_linker.proofs.imports.imports_of.Given as goal

abbrev pub invariant-loop-import : goal.invariant-loop-import
invariant-loop-import l =
    (l.imports.items ≡ map (linked_import l.context.types) (take l.import-index l.context.imports)) × AreOf l.context.types l.copies
