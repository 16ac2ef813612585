-- What is linked of the codes of a module's functions is the module's image.
use Rattle.std.proofs.Common.{◌≡◌, ℕ, suc, ◌+◌, List, [], ◌∷◌, ◌++◌, map, length, refl, sym, ap, ◌∙◌, arith}
use Rattle.std.proofs.lemmas.List.{map-append}
use Rattle.rv_isa.specs.Words.{word_of}
use Rattle.rv_isa.specs.declared.compiled.Code.{Code}
use Rattle.std.specs.Prelude.{slice_get}
use Rattle.wasm_defs.specs.declared.item.Item.{Item}
use Rattle.wasm_defs.specs.declared.item.Item.TheVariants.{Imported}
use Rattle.wasm_defs.specs.Context.{import_count, type_or_empty}
use Rattle.wasm_defs.specs.Typing.{Context}
use Rattle.wasm_defs.specs.Outside.{Body}
use Rattle.wasm_defs.specs.Trees.{Seq}
use Rattle.rv_isa.specs.declared.compiled.Relocation.{Relocation}
use Rattle.rv_isa.specs.declared.compiled.TrapSite.{TrapSite}
use Rattle.wasm_defs.specs.Faults.{context_at}
use Rattle.frame_layout.specs.Templates.{import_stub}
use Rattle.frame_layout.specs.Traps.{room_trap, site_at}
use Rattle.frame_layout.specs.Functions.{no_distance, with_distances, calls_of}
use Rattle.simulation.proofs.Frames.Filling.{calls_are_filled}
use Rattle.image_format.specs.declared.image.Import.{Import}
use Rattle.image_format.specs.declared.image.TrapPlace.{TrapPlace}
use Rattle.index_spaces.specs.Entries.{imports_of}
use Rattle.image_linker.specs.ImageOf.{around, size_of, stubs_from, places_from, code_from, code_of_function, distances, imports_of as image_imports, stub_size, place_at, stub_traps, traps_from}
use Rattle.image_linker.specs.Codes.{IsCodeOf, AreCodesOf}
use Rattle.image_linker.specs.Linking.{stub_words, starts_from, words_at, words_from, linked_import, import_traps, code_traps}

-- a function's words
code_linked : (items : List Item) (places : List ℕ) (here k : ℕ) (b : Body) (tree : Seq) (code : Code)
    → IsCodeOf items k b tree code → words_at places here code ≡ map word_of (code_of_function items places here k b tree)
code_linked items places here k b tree code h =
    ap (λ (rs : List Relocation). with_distances (distances places here) rs code.words) h.relocations
    ∙ ap (with_distances (distances places here) (calls_of (around items k b tree no_distance) (context_at items k b) tree)) h.words
    ∙ calls_are_filled (around items k b tree (distances places here)) (context_at items k b) tree

-- and those of all functions
pub words_linked : (items : List Item) (places : List ℕ) (here k : ℕ) (bodies : List Body) (trees : List Seq) (codes : List Code)
    → AreCodesOf items k bodies trees codes → map word_of (code_from items places here k bodies trees) ≡ words_from places here codes
words_linked items places here k [] [] [] h = refl
words_linked items places here k (b ∷ bodies) (tree ∷ trees) (code ∷ codes) h =
    map-append word_of (code_of_function items places here k b tree) (code_from items places (here + size_of items k b tree) (suc k) bodies trees)
    ∙ ap (λ (l : List ℕ). l ++ map word_of (code_from items places (here + size_of items k b tree) (suc k) bodies trees)) (sym (code_linked items places here k b tree code h.0))
    ∙ ap (λ (n : ℕ). words_at places here code ++ map word_of (code_from items places (here + n) (suc k) bodies trees)) (sym h.0.size)
    ∙ ap (λ (l : List ℕ). words_at places here code ++ l) (words_linked items places (here + length code.words) (suc k) bodies trees codes h.1)
words_linked items places here k [] [] (code ∷ codes) h = absurd h
words_linked items places here k [] (tree ∷ trees) codes h = absurd h
words_linked items places here k (b ∷ bodies) [] codes h = absurd h
words_linked items places here k (b ∷ bodies) (tree ∷ trees) [] h = absurd h

-- the indices of their first words
pub places_linked : (items : List Item) (here k : ℕ) (bodies : List Body) (trees : List Seq) (codes : List Code)
    → AreCodesOf items k bodies trees codes → places_from items here k bodies trees ≡ starts_from here codes
places_linked items here k [] [] [] h = refl
places_linked items here k (b ∷ bodies) (tree ∷ trees) (code ∷ codes) h =
    ap (λ (l : List ℕ). here ∷ l)
    (ap (λ (n : ℕ). places_from items (here + n) (suc k) bodies trees) (sym h.0.size)
    ∙ places_linked items (here + length code.words) (suc k) bodies trees codes h.1)
places_linked items here k [] [] (code ∷ codes) h = absurd h
places_linked items here k [] (tree ∷ trees) codes h = absurd h
places_linked items here k (b ∷ bodies) [] codes h = absurd h
places_linked items here k (b ∷ bodies) (tree ∷ trees) [] h = absurd h

-- where their traps come from
pub traps_linked : (items : List Item) (here k : ℕ) (bodies : List Body) (trees : List Seq) (codes : List Code)
    → AreCodesOf items k bodies trees codes → traps_from items here k bodies trees ≡ code_traps here (import_count items + k) codes
traps_linked items here k [] [] [] h = refl
traps_linked items here k (b ∷ bodies) (tree ∷ trees) (code ∷ codes) h =
    let next : import_count items + suc k ≡ suc (import_count items + k) = omega arith in
    ap (λ (ss : List TrapSite). map (place_at here (import_count items + k)) ss ++ traps_from items (here + size_of items k b tree) (suc k) bodies trees) (sym h.0.traps)
    ∙ ap (λ (n : ℕ). map (place_at here (import_count items + k)) code.traps ++ traps_from items (here + n) (suc k) bodies trees) (sym h.0.size)
    ∙ ap (λ (ps : List TrapPlace). map (place_at here (import_count items + k)) code.traps ++ ps)
    (traps_linked items (here + length code.words) (suc k) bodies trees codes h.1 ∙ ap (λ (n : ℕ). code_traps (here + length code.words) n codes) next)
traps_linked items here k [] [] (code ∷ codes) h = absurd h
traps_linked items here k [] (tree ∷ trees) codes h = absurd h
traps_linked items here k (b ∷ bodies) [] codes h = absurd h
traps_linked items here k (b ∷ bodies) (tree ∷ trees) [] h = absurd h

-- ---- imports

pub stub_traps_linked : (here number : ℕ) (items : List Item) → import_traps here number (imports_of items) ≡ stub_traps here number items
stub_traps_linked here number [] = refl
stub_traps_linked here number (Imported from what kind type_index ∷ items) =
    ap (λ (ps : List TrapPlace). place_at here number (site_at 0 from.0 room_trap) ∷ ps) (stub_traps_linked (here + stub_size) (suc number) items)
stub_traps_linked here number (x ∷ items) = stub_traps_linked here number items

-- the words of their stubs
pub stubs_linked : (c : Context) (number : ℕ) (items : List Item) → stub_words c.types number (imports_of items) ≡ map word_of (stubs_from c number items)
stubs_linked c number [] = refl
stubs_linked c number (Imported from what kind type_index ∷ items) =
    let stub = import_stub (length (type_or_empty (slice_get c.types type_index.1)).params) number in
    ap (λ (l : List ℕ). map word_of stub ++ l) (stubs_linked c (suc number) items) ∙ sym (map-append word_of stub (stubs_from c (suc number) items))
stubs_linked c number (x ∷ items) = stubs_linked c number items

-- and those of the image
pub imports_linked : (c : Context) (items : List Item) → map (linked_import c.types) (imports_of items) ≡ image_imports c items
imports_linked c [] = refl
imports_linked c (Imported from what kind type_index ∷ items) =
    ap (λ (l : List Import). linked_import c.types (record { «module» = from.1; name = what.1; type_index = type_index.1; offset = from.0 }) ∷ l) (imports_linked c items)
imports_linked c (x ∷ items) = imports_linked c items
