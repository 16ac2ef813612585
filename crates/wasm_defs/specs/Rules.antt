-- What a module keeps to outside its bodies in addition to its grammar: validation (WebAssembly Core 1.0, 3.4), and the limits of
-- this implementation.
use Rattle.std.specs.Prelude.{◌≡◌, ◌<◌, ◌≤◌, ℕ, ◌+◌, ◌||◌, ◌==◌, false, List, [], ◌∷◌, length, Option, Some, None, is_some, if◌then◌else◌}
use Rattle.std.specs.List.{All}
use Rattle.std.specs.FinMap as map
use Rattle.wasm_defs.specs.declared.item.Item.{Item}
use Rattle.wasm_defs.specs.declared.item.Item.TheVariants.{Signature, Imported, Function, Table, Memory, Global, Exported, Start, Element, Code, DataCount, Passive, Segment}
use Rattle.wasm_defs.specs.declared.item.Limits.{Limits}
use Rattle.wasm_defs.specs.Limits.{max_module, max_entries, max_params, max_results, max_table, max_pages, top_pages, top_rows, max_body, max_name}
use Rattle.wasm_defs.specs.Entries.{Seen, nothing, note, space}
use Rattle.wasm_defs.specs.Items.{Section, Payload, Custom, Vector, Starting, Bodies, Counting, payload_items}

-- ---- items

-- limits within a range (3.2.1): the minimum is no more than the maximum, which is top at most
abbrev pub IsUpTo : Option (ℕ × ℕ) → ℕ × ℕ → ℕ → Type 0
IsUpTo None min top = Unit {0}
IsUpTo (Some max) min top = (min.1 ≤ max.1) × (max.1 ≤ top)

abbrev pub LimitsKeep : Limits → ℕ → ℕ → Type 0
LimitsKeep l most top = (l.min.1 ≤ most) × IsUpTo l.max l.min top

-- an item after those that were seen: an index is one of what it counts, and an export's name is new (3.4.10)
abbrev pub Keeps : Seen → Item → Type 0
Keeps s (Signature form params results ty) = (length ty.params ≤ max_params) × (length ty.results ≤ max_results)
Keeps s (Imported from what kind type_index) = (length from.1 ≤ max_name) × (length what.1 ≤ max_name) × (type_index.1 < s.types)
Keeps s (Function type_index) = type_index.1 < s.types
Keeps s (Table element limits) = LimitsKeep limits max_table top_rows
Keeps s (Memory limits) = LimitsKeep limits max_pages top_pages
Keeps s (Global ty mutable init) = Unit {0}
Keeps s (Exported label kind index) = (length label.1 ≤ max_name) × (is_some (map.get s.names label.1) ≡ false) × (index.1 < space s kind.1)
Keeps s (Start index) = index.1 < s.functions
Keeps s (Element table place functions) = (table.1 < s.tables) × All (λ i. i < s.functions) functions.1
Keeps s (Code count end) = Unit {0}
Keeps s (DataCount count) = count.1 ≤ max_entries
Keeps s (Passive form bytes) = Unit {0}
Keeps s (Segment form None place bytes) = 0 < s.memories
Keeps s (Segment form (Some memory) place bytes) = memory.1 < s.memories

abbrev pub AllKeep : Seen → List Item → Type 0
AllKeep s [] = Unit {0}
AllKeep s (x ∷ xs) = Keeps s x × AllKeep (note s x) xs

abbrev pub all_noted : Seen → List Item → Seen
all_noted s [] = s
all_noted s (x ∷ xs) = all_noted (note s x) xs

-- ---- sections

-- how many items a section lists: one table and one memory (3.4.10), and of others as many as the limit says
abbrev pub most_of : ℕ → ℕ
most_of position = if position == 4 || position == 5 then 1 else max_entries

-- the limits on what a section holds; imports and functions together have one
abbrev pub IsSmall : Seen → Payload → Type 0
IsSmall s (Custom name) = length name.1 ≤ max_name
IsSmall s (Vector position count items) = (length items ≤ most_of position) × (position ≡ 3 → s.functions + length items ≤ max_entries)
IsSmall s (Starting index) = Unit {0}
IsSmall s (Counting count) = Unit {0}
IsSmall s (Bodies count end bodies) = All (λ b. length b.bytes ≤ max_body) bodies

abbrev pub SectionsKeep : Seen → List Section → Type 0
SectionsKeep s [] = Unit {0}
SectionsKeep s (x ∷ xs) = IsSmall s x.payload × AllKeep s (payload_items x.payload) × SectionsKeep (all_noted s (payload_items x.payload)) xs

-- ---- modules

pub record RulesAreKept (bytes : List ℕ) (sections : List Section) : Type 0 where
  pub short : length bytes ≤ max_module
  pub each : SectionsKeep nothing sections
