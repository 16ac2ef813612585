-- The imports of a module's image: few, under names that are UTF-8 and short, with small types.
use Rattle.std.proofs.Common.{◌≡◌, ◌≤◌, List, [], ◌∷◌, length, refl, arith}
use Rattle.std.specs.Prelude.{All, slice_get}
use Rattle.std.proofs.lemmas.List.Elements.{All-nil, All-cons}
use Rattle.wasm_defs.specs.declared.item.Item.{Item}
use Rattle.wasm_defs.specs.declared.item.Item.TheVariants.{Imported}
use Rattle.wasm_defs.specs.Context.{import_count, type_or_empty}
use Rattle.wasm_defs.specs.Entries.{Seen, note}
use Rattle.wasm_defs.specs.Rules.{AllKeep}
use Rattle.wasm_defs.specs.Typing.{Context}
use Rattle.wasm_defs.specs.SmallTypes.{TypesAreSmall}
use Rattle.wasm_laws.specs.Kept.{ImportsReturnOne}
use Rattle.wasm_laws.proofs.Counted.{entries_in}
use Rattle.image_format.specs.Bounds.{IsImport}
use Rattle.image_linker.specs.ImageOf.{imports_of}
use Rattle.image_linker.proofs.ExportBounds.{AreNamed}
use Rattle.image_linker.proofs.Imported.{small_at}

-- as many as the import section lists
pub imports_are_few : (items : List Item) → import_count items ≤ entries_in 2 items
imports_are_few [] = omega arith
imports_are_few (Imported from what kind type_index ∷ items) = omega (arith, imports_are_few items)
imports_are_few (x ∷ items) = imports_are_few items

pub imports_counted : (c : Context) (items : List Item) → length (imports_of c items) ≡ import_count items
imports_counted c [] = refl
imports_counted c (Imported from what kind type_index ∷ items) = omega (arith, imports_counted c items)
imports_counted c (x ∷ items) = imports_counted c items

pub imports_fit : (c : Context) (s : Seen) (items : List Item) → TypesAreSmall c.types → ImportsReturnOne c.types items → AreNamed items → AllKeep s items → All IsImport (imports_of c items)
imports_fit c s [] types one named keep = All-nil IsImport
imports_fit c s (Imported from what kind type_index ∷ items) types one named keep =
    let ty = type_or_empty (slice_get c.types type_index.1) in
    let small = small_at c.types type_index.1 types in
    let rules = keep.0 in
    All-cons IsImport (record { «module» = from.1; name = what.1; signature = ty }) (imports_of c items)
    (record {
      module_name = record { short = omega (arith, rules.0); utf8 = named.0.0 };
      name = record { short = omega (arith, rules.1); utf8 = named.0.1 };
      signature = record { params = omega (arith, small.params); results = omega (arith, small.results) };
      one_result = one.0;
    })
    (imports_fit c (note s (Imported from what kind type_index)) items types one.1 named.1 keep.1)
imports_fit c s (x ∷ items) types one named keep = imports_fit c (note s x) items types one named.1 keep.1
