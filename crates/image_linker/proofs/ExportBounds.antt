-- The exports of a module's image: few, under names that are UTF-8, short and unlike, with small types, at offsets in the text.
use Rattle.std.proofs.Common.{◌≡◌, ℕ, ◌+◌, ◌≤◌, ◌<◌, ◌||◌, Bool, true, false, cond, List, [], ◌∷◌, ◌++◌, map, length, Option, Some, refl, sym, ap, ◌∙◌, arith}
use Rattle.std.specs.Prelude.{is_some}
use Rattle.std.specs.FinMap as map
use Rattle.std.specs.FinMap.{get-insert}
use Rattle.std.specs.Str.{IsUtf8, bytes_eq}
use Rattle.std.specs.Ordering.{nat_cmp, eq_by_cmp}
use Rattle.std.specs.Cmp.Lexicographic.{slice_cmp, texts_ties, nat_list_cmp_total}
use Rattle.wasm_defs.specs.declared.item.Item.{Item}
use Rattle.wasm_defs.specs.declared.item.Item.TheVariants.{Imported, Exported}
use Rattle.wasm_defs.specs.declared.item.Extern.TheVariants as extern
use Rattle.wasm_defs.specs.Context.{context_of}
use Rattle.wasm_defs.specs.Entries.{Seen, note}
use Rattle.wasm_defs.specs.Faults.{Module}
use Rattle.wasm_defs.specs.Instances.{exports_of}
use Rattle.wasm_defs.specs.Items.{each_is, item_is, section_is, Section, Payload, Custom, Vector, payload_is, payload_items, items_in}
use Rattle.wasm_defs.specs.Rules.{AllKeep, all_noted, SectionsKeep}
use Rattle.wasm_defs.specs.SmallTypes.{TypesAreSmall}
use Rattle.wasm_laws.specs.Kept.{AreThere}
use Rattle.wasm_laws.proofs.Counted.{entries_in}
use Rattle.wasm_laws.proofs.Exports.{function_is_small}
use Rattle.image_format.specs.declared.image.Export.{Export}
use Rattle.image_format.specs.Bounds.{Each, IsOffset, ExportFits, has_name}
use Rattle.image_format.proofs.SeenNames.{has_name-push}
use Rattle.image_linker.specs.ImageOf.{offset_of, export_of}

-- ---- how many

pub exports_are_few : (items : List Item) → length (exports_of items) ≤ entries_in 7 items
exports_are_few [] = omega arith
exports_are_few (Exported name (at, extern.Function) index ∷ items) = omega (arith, exports_are_few items)
exports_are_few (Exported name (at, extern.Table) index ∷ items) = omega (arith, exports_are_few items)
exports_are_few (Exported name (at, extern.Memory) index ∷ items) = omega (arith, exports_are_few items)
exports_are_few (Exported name (at, extern.Global) index ∷ items) = omega (arith, exports_are_few items)
exports_are_few (x ∷ items) = exports_are_few items

-- ---- names are UTF-8

abbrev pub IsNamed : Item → Type 0
IsNamed (Imported from what kind type_index) = IsUtf8 from.1 × IsUtf8 what.1
IsNamed (Exported label kind index) = IsUtf8 label.1
IsNamed _ = Unit {0}

abbrev pub AreNamed : List Item → Type 0
AreNamed [] = Unit {0}
AreNamed (x ∷ xs) = IsNamed x × AreNamed xs

both_named : (xs ys : List Item) → AreNamed xs → AreNamed ys → AreNamed (xs ++ ys)
both_named [] ys p q = q
both_named (x ∷ xs) ys p q = (p.0, both_named xs ys p.1 q)

item_named : (x : Item) (at : ℕ) (bytes : List ℕ) → item_is x at bytes → IsNamed x
item_named (Imported from what kind type_index) at bytes s = (s.first.0, s.second.first.0)
item_named (Exported label kind index) at bytes s = s.first.0
item_named x at bytes s = tt

items_named : (xs : List Item) (at : ℕ) (bytes : List ℕ) → each_is item_is xs at bytes → AreNamed xs
items_named [] at bytes s = tt
items_named (x ∷ xs) at bytes s = (item_named x at s.front s.first, items_named xs (at + length s.front) s.back s.second)

payload_named : (p : Payload) (at : ℕ) (bytes : List ℕ) → payload_is p at bytes → AreNamed (payload_items p)
payload_named (Custom name) at bytes s = tt
payload_named (Vector id count items) at bytes s = let listed = s.2 in items_named items (at + length listed.front) listed.back listed.second
payload_named p at bytes s = (tt, tt)

pub sections_named : (xs : List Section) (at : ℕ) (bytes : List ℕ) → each_is section_is xs at bytes → AreNamed (items_in xs)
sections_named [] at bytes s = tt
sections_named (x ∷ xs) at bytes s =
    let sized = s.first.second in
    both_named (payload_items x.payload) (items_in xs)
    (payload_named x.payload (at + length s.first.front + length sized.front) sized.content sized.is)
    (sections_named xs (at + length s.front) s.back s.second)

-- ---- all items keep the rules

both_keep : (s : Seen) (xs ys : List Item) → AllKeep s xs → AllKeep (all_noted s xs) ys → AllKeep s (xs ++ ys)
both_keep s [] ys p q = q
both_keep s (x ∷ xs) ys p q = (p.0, both_keep (note s x) xs ys p.1 q)

pub items_keep : (s : Seen) (xs : List Section) → SectionsKeep s xs → AllKeep s (items_in xs)
items_keep s [] h = tt
items_keep s (x ∷ xs) h =
    both_keep s (payload_items x.payload) (items_in xs) h.1 (items_keep (all_noted s (payload_items x.payload)) xs h.2)

-- ---- names are unlike

-- a name that wasn't seen is none of these exports'
abbrev AreSeen : Seen → List Export → Type 0
AreSeen s front = (name : List ℕ) → is_some (map.get s.names name) ≡ false → has_name front name ≡ false

or_false : (a b : Bool) → a ≡ false → b ≡ false → (a || b) ≡ false
or_false false b p q = q
or_false true b p q = absurd cc

-- a name that isn't among some after another was put in is unlike it, and wasn't among them before
record IsFresh (s : Seen) (label : ℕ × List ℕ) (name : List ℕ) : Type 0 where
  unlike : bytes_eq name label.1 ≡ false
  before : is_some (map.get s.names name) ≡ false

fresh_by : (b : Bool) (v : ℕ) (o : Option ℕ) → is_some (cond b (Some v) o) ≡ false → (b ≡ false) × (is_some o ≡ false)
fresh_by true v o h = absurd cc
fresh_by false v o h = (refl, h)

is_fresh : (s : Seen) (label : ℕ × List ℕ) (name : List ℕ) → is_some (map.get (map.insert s.names label.1 label.0) name) ≡ false → IsFresh s label name
is_fresh s label name h =
    let parts = fresh_by (eq_by_cmp (slice_cmp nat_cmp) name label.1) label.0 (map.get s.names name)
    (sym (ap (λ (o : Option ℕ). is_some o) (get-insert nat_list_cmp_total s.names label.1 label.0 name)) ∙ h) in
    record { unlike = texts_ties name label.1 ∙ parts.0; before = parts.1 }

-- ---- each export fits, after those before it

module _ (m : Module) (words functions : ℕ) (types : TypesAreSmall (context_of m.items).types) (places : (f : ℕ) → f < functions → IsOffset words (offset_of m f)) where
  pub exports_fit : (s : Seen) (items : List Item) (front : List Export) → AreNamed items → AllKeep s items → AreThere (context_of m.items) functions (exports_of items) → AreSeen s front
      → Each (ExportFits words) front (map (export_of m) (exports_of items))
  exports_fit s [] front named keep there seen = tt
  exports_fit s (Exported name (at, extern.Function) index ∷ items) front named keep there seen =
      let small = function_is_small (context_of m.items) index.1 types in
      let e = export_of m (name.1, index.1) in
      let rules = keep.0 in (
        record {
          is = record { name = record { short = omega (arith, rules.0); utf8 = named.0 }; signature = record { params = omega (arith, small.params); results = omega (arith, small.results) } };
          differs = seen name.1 rules.1;
          offset = places index.1 there.0.function;
        },
        exports_fit (note s (Exported name (at, extern.Function) index)) items (front ++ e ∷ []) named.1 keep.1 there.1
            (λ other h. let f = is_fresh s name other h in has_name-push front e other ∙ or_false (bytes_eq other name.1) (has_name front other) f.unlike (seen other f.before)),
      )
  exports_fit s (Exported name (at, extern.Table) index ∷ items) front named keep there seen =
      exports_fit (note s (Exported name (at, extern.Table) index)) items front named.1 keep.1 there (λ other h. seen other (is_fresh s name other h).before)
  exports_fit s (Exported name (at, extern.Memory) index ∷ items) front named keep there seen =
      exports_fit (note s (Exported name (at, extern.Memory) index)) items front named.1 keep.1 there (λ other h. seen other (is_fresh s name other h).before)
  exports_fit s (Exported name (at, extern.Global) index ∷ items) front named keep there seen =
      exports_fit (note s (Exported name (at, extern.Global) index)) items front named.1 keep.1 there (λ other h. seen other (is_fresh s name other h).before)
  exports_fit s (x ∷ items) front named keep there seen = exports_fit (note s x) items front named.1 keep.1 there seen
