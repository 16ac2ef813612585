use Rattle.std.proofs.Common.{◌≡◌, ◌++◌, map, take}
use Rattle.rv_isa.specs.Words.{word_of}
use Rattle.frame_layout.specs.Templates.{exit_stub}
use Rattle.image_linker.specs.Linking.{stub_words}
use Rattle.image_linker.proofs.imports.front.Given as goal

abbrev pub invariant-loop-import : goal.invariant-loop-import
invariant-loop-import l =
    (l.text ≡ map word_of exit_stub ++ stub_words l.context.types 0 (take l.import-index l.context.imports)) × (l.number ≡ l.import-index)
