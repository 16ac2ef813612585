use Rattle.std.proofs.Common.{◌≡◌, map, take}
use Rattle.index_spaces.specs.Entries.{function_exports}
use Rattle.image_linker.specs.Linking.{linked_export}
use Rattle.image_linker.specs.Signatures.{AreOf}
use Rattle.image_linker.proofs.linking.exports_of.Given as goal

abbrev pub invariant-loop-export : goal.invariant-loop-export
invariant-loop-export l =
    (l.exports.items ≡ map (linked_export l.context l.starts) (function_exports (take l.export-index l.context.exports))) × AreOf l.context.types l.copies
