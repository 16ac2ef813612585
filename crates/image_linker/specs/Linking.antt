-- What is linked: the index spaces of a module and the codes of its functions.
use Rattle.std.specs.Prelude.{ℕ, ℤ, ◌+◌, ◌*◌, ◌^◌, ◌<◌, ◌&&◌, Bool, true, false, not, List, [], ◌∷◌, ◌++◌, map, take, drop, length, replicate, suc, Option, None, Some, nat_lt, slice_get, slice_index, if◌then◌else◌}
use Rattle.std.specs.List.{All, between}
use Rattle.rv_isa.specs.Words.{word_of}
use Rattle.rv_isa.specs.declared.compiled.Code.{Code}
use Rattle.rv_isa.specs.declared.compiled.Relocation.{Relocation}
use Rattle.rv_isa.specs.declared.compiled.TrapSite.{TrapSite}
use Rattle.code_list.specs.declared.list.CodeEnd.{CodeEnd}
use Rattle.code_list.specs.CodeLists.{codes_from}
use Rattle.wasm_defs.specs.declared.context.GlobalType.{GlobalType}
use Rattle.rv_isa.specs.Steps.{text_base}
use Rattle.wasm_defs.specs.declared.types.FuncType.{FuncType}
use Rattle.wasm_defs.specs.Context.{type_or_empty, type_of_function, like}
use Rattle.wasm_defs.specs.Instances.{Written, first_minimum, first_cap, all_over, all_fit}
use Rattle.wasm_defs.specs.Memory.{page}
use Rattle.wasm_defs.specs.Values as value
use Rattle.wasm_laws.specs.Kept.{FitsType}
use Rattle.frame_layout.specs.Templates.{import_stub, exit_stub}
use Rattle.frame_layout.specs.Traps.{room_trap, site_at}
use Rattle.frame_layout.specs.Functions.{with_distances}
use Rattle.image_format.specs.Contents.{Image}
use Rattle.image_format.specs.declared.image.Row.{Row}
use Rattle.image_format.specs.declared.image.Import.{Import as Imported}
use Rattle.image_format.specs.declared.image.Export.{Export}
use Rattle.image_format.specs.declared.image.Segment.{Segment}
use Rattle.image_format.specs.declared.image.TrapPlace.{TrapPlace}
use Rattle.index_spaces.specs.declared.entries.Import.{Import}
use Rattle.index_spaces.specs.declared.entries.ElementRow.{ElementRow}
use Rattle.index_spaces.specs.declared.entries.DataRow.{DataRow}
use Rattle.index_spaces.specs.Entries.{function_exports, initial_values, written_rows, written_segments, segments_at_first}
use Rattle.index_spaces.specs.Spaces.{Spaces, context_in}
use Rattle.image_linker.specs.ImageOf.{stub_size, front_of, stub_places, distances, place_at, segment_of, segment_words, joined, version_for}

-- the words of the codes, one after the other
abbrev pub words_of : List Code → List ℕ
words_of [] = []
words_of (c ∷ cs) = c.words ++ words_of cs

-- where each of them begins, in words
abbrev pub starts_from : (here : ℕ) → List Code → List ℕ
starts_from here [] = []
starts_from here (c ∷ cs) = here ∷ starts_from (here + length c.words) cs

-- the stubs of imports, of which so many came before
abbrev pub stub_words : List FuncType → (number : ℕ) → List Import → List ℕ
stub_words types number [] = []
stub_words types number (i ∷ imports) =
    map word_of (import_stub (length (type_or_empty (slice_get types i.type_index)).params) number) ++ stub_words types (suc number) imports

-- the words before the functions: the exit stub, and a stub for each import
abbrev pub front_words : Spaces → List ℕ
front_words s = map word_of exit_stub ++ stub_words s.types 0 s.imports

-- where all functions begin, of which so many are imported
abbrev pub starts_behind : (imported : ℕ) → List Code → List ℕ
starts_behind imported codes = stub_places (length exit_stub) imported ++ starts_from (front_of imported) codes

abbrev pub starts_of : Spaces → List Code → List ℕ
starts_of s codes = starts_behind (length s.imports) codes

-- the words of a code that begins at an index of the text, once its calls lead to the functions, which begin at these
abbrev pub words_at : (places : List ℕ) (here : ℕ) → Code → List ℕ
words_at places here c = with_distances (distances places here) c.relocations c.words

-- and those of codes, one after the other
abbrev pub words_from : (places : List ℕ) (here : ℕ) → List Code → List ℕ
words_from places here [] = []
words_from places here (c ∷ cs) = words_at places here c ++ words_from places (here + length c.words) cs

-- what a text is that has a code from one index up to another, once that is changed
abbrev pub changed : (begin end : ℕ) → (List ℕ → List ℕ) → List ℕ → List ℕ
changed begin end change text = take begin text ++ (change (between begin end text) ++ drop end text)

-- a text of codes that have these ends, once their calls lead to the functions: what is before the first code stays
abbrev pub led_text : (places : List ℕ) → List Relocation → List TrapSite → (text : List ℕ) → (here : ℕ) → CodeEnd → List CodeEnd → List ℕ
led_text places calls sites text here first ends = take first.words text ++ words_from places here (codes_from text calls sites first ends)

-- where the traps of imports' stubs come from, of which so many came before
abbrev pub import_traps : (here number : ℕ) → List Import → List TrapPlace
import_traps here number [] = []
import_traps here number (i ∷ imports) = place_at here number (site_at 0 i.offset room_trap) ∷ import_traps (here + stub_size) (suc number) imports

-- and those of codes, of which the first is the function with this index
abbrev pub code_traps : (here function : ℕ) → List Code → List TrapPlace
code_traps here function [] = []
code_traps here function (c ∷ cs) = map (place_at here function) c.traps ++ code_traps (here + length c.words) (suc function) cs

abbrev pub linked_traps : Spaces → List Code → List TrapPlace
linked_traps s codes = import_traps (length exit_stub) 0 s.imports ++ code_traps (front_of (length s.imports)) (length s.imports) codes

-- the numbers of a trap site have 32 bits
pub record IsShort (p : TrapPlace) : Type 0 where
  pub offset : p.offset < 2 ^ 32
  pub function : p.function < 2 ^ 32
  pub module_offset : p.module_offset < 2 ^ 32

-- an import has the type of its index
abbrev pub linked_import : List FuncType → Import → Imported
linked_import types i = record { «module» = i.module; name = i.name; signature = type_or_empty (slice_get types i.type_index) }

-- an exported function has the offset of its code, or of its stub
abbrev pub linked_export : Spaces → List ℕ → List ℕ × ℕ → Export
linked_export s starts e = record { name = e.0; signature = type_of_function (context_in s) e.1; offset = 4 * slice_index starts e.1 }

-- the offset of the start function, or 0 where there is none
abbrev pub linked_start : List ℕ → Option ℕ → ℕ
linked_start starts None = 0
linked_start starts (Some f) = 4 * slice_index starts f

-- a row without a function
abbrev pub empty_row : Row
empty_row = record { code = 0; like = 0 }

-- the least index of a type that equals the type of an index, or 0 where there is none
abbrev pub like_of : List FuncType → Option ℕ → ℕ
like_of types None = 0
like_of types (Some i) = if nat_lt i (length types) then like types i else 0

-- a row with a function: the address of its code, and the canonical index of its type
abbrev pub linked_row : Spaces → List ℕ → ℕ → Row
linked_row s starts f = record { code = text_base + 4 * slice_index starts f; like = like_of s.types (slice_get s.functions f) }

-- what element segments write into the table
abbrev pub linked_elements : Spaces → List ℕ → List ElementRow → List (Written Row)
linked_elements s starts rows = map (λ r. (r.place, map (linked_row s starts) r.functions)) rows

abbrev pub linked_rows : Spaces → List ℕ → Bool → List Row
linked_rows s starts true = all_over (replicate (first_minimum s.tables) empty_row) (linked_elements s starts s.elements)
linked_rows s starts false = replicate (first_minimum s.tables) empty_row

-- the table has room for all element segments, and the memory for all data segments; else none of both is written
abbrev pub has_room : Spaces → Bool
has_room s = all_fit (first_minimum s.tables) (written_rows s.elements) && all_fit (page * first_minimum s.memories) (written_segments s.segments)

abbrev pub linked_segments : Bool → List DataRow → List Segment
linked_segments true rows = map segment_of (written_segments rows)
linked_segments false rows = []

-- segments of an image have addresses of 32 bits, as those that fit into a memory do
abbrev pub ArePlaced : Bool → List DataRow → Type 0
ArePlaced true rows = All (λ w. w.0 < 2 ^ 32) (written_segments rows)
ArePlaced false rows = Unit {0}

-- the index spaces, with these data segments
abbrev pub with_segments : Spaces → List DataRow → Spaces
with_segments s segments = record s { segments = segments }

-- the words of the values that the globals begin with
abbrev pub global_words : Spaces → List ℕ
global_words s = value.words_of (initial_values s.globals s.initials)

-- the bytes of the data segments that instructions may name, when a run begins
abbrev pub named_segments : Spaces → List (List ℕ)
named_segments s = segments_at_first (take (context_in s).segments s.segments)

-- the numbers of the globals' constants are of the globals' types
abbrev pub NumbersFit : List GlobalType → List ℤ → Type 0
NumbersFit [] [] = Unit {0}
NumbersFit (g ∷ globals) (n ∷ numbers) = FitsType g.ty n × NumbersFit globals numbers
NumbersFit globals numbers = ⊥

-- the image of a module
abbrev pub linked : Spaces → List Code → Image
linked s codes = record {
  version = version_for (context_in s).segments;
  text = front_words s ++ words_from (starts_of s codes) (front_of (length s.imports)) codes;
  globals = global_words s ++ segment_words 0 (named_segments s);
  table = linked_rows s (starts_of s codes) (has_room s);
  pages = first_minimum s.memories;
  cap = first_cap s.memories;
  segments = linked_segments (has_room s) s.segments;
  imports = map (linked_import s.types) s.imports;
  exports = map (linked_export s (starts_of s codes)) (function_exports s.exports);
  start = linked_start (starts_of s codes) s.start;
  unlinkable = not (has_room s);
  places = linked_traps s codes;
  passive = joined (named_segments s);
}
