-- The stubs before the functions' codes, of imports that were gone over so far, and one more; and where functions begin after them.
use Rattle.std.proofs.Common.{◌≡◌, ◌≤◌, ◌<◌, ℕ, zero, suc, ◌+◌, ◌*◌, ◌^◌, List, [], ◌∷◌, ◌++◌, map, take, length, refl, sym, ap, ◌∙◌, arith, append_assoc, length-append}
use Rattle.std.specs.Prelude.{slice_get, slice_index, slice_index_or}
use Rattle.std.specs.List.{All}
use Rattle.std.proofs.lemmas.List.{append-nil}
use Rattle.std.proofs.lemmas.List.Elements.{All-head, All-tail}
use Rattle.rv_isa.specs.Words.{word_of}
use Rattle.rv_isa.specs.declared.compiled.Code.{Code}
use Rattle.wasm_defs.specs.declared.types.FuncType.{FuncType}
use Rattle.wasm_defs.specs.Context.{type_or_empty}
use Rattle.frame_layout.specs.Templates.{import_stub, exit_stub}
use Rattle.image_format.specs.Bounds.{IsImport}
use Rattle.image_format.specs.Contents.{IsImage}
use Rattle.index_spaces.specs.declared.entries.Import.{Import}
use Rattle.index_spaces.specs.Spaces.{Spaces}
use Rattle.image_linker.specs.ImageOf.{front_of, stub_size, stub_places}
use Rattle.image_linker.specs.Linking.{words_of, words_from, starts_from, stub_words, front_words, starts_behind, starts_of, linked_import, linked}
use Rattle.image_linker.proofs.Leading.{length-words}
use Rattle.image_linker.proofs.Loops.{starts_within}

-- ---- one stub more

abbrev stub_of : List FuncType → (number : ℕ) → Import → List ℕ
stub_of types number i = map word_of (import_stub (length (type_or_empty (slice_get types i.type_index)).params) number)

stubs_suc : (types : List FuncType) (first : ℕ) (imports : List Import) (i number : ℕ) (x : Import) → number ≡ first + i → i < length imports → x ≡ slice_index_or imports i x
    → stub_words types first (take (suc i) imports) ≡ stub_words types first (take i imports) ++ stub_of types number x
stubs_suc types first [] i number x n lt e = absurd (omega arith)
stubs_suc types first (y ∷ imports) zero number x n lt e =
    let same : first ≡ number = omega (arith, n) in
    append-nil (stub_of types first y) ∙ ap (stub_of types first) (sym e) ∙ ap (λ (k : ℕ). stub_of types k x) same
stubs_suc types first (y ∷ imports) (suc i) number x n lt e =
    ap (λ (l : List ℕ). stub_of types first y ++ l) (stubs_suc types (suc first) imports i number x (omega (arith, n)) (omega arith) e)
    ∙ sym (append_assoc (stub_of types first y) (stub_words types (suc first) (take i imports)) (stub_of types number x))

pub stubs_taken : (types : List FuncType) (imports : List Import) (i : ℕ) (x : Import) (front old new : List ℕ) → i < length imports → x ≡ slice_index_or imports i x
    → old ≡ front ++ stub_words types 0 (take i imports) → new ≡ old ++ map word_of (import_stub (length (type_or_empty (slice_get types x.type_index)).params) i)
    → new ≡ front ++ stub_words types 0 (take (i + 1) imports)
stubs_taken types imports i x front old new lt e before is =
    let k : suc i ≡ i + 1 = omega arith in
    is
    ∙ ap (λ (l : List ℕ). l ++ stub_of types i x) before
    ∙ append_assoc front (stub_words types 0 (take i imports)) (stub_of types i x)
    ∙ ap (λ (l : List ℕ). front ++ l) (sym (stubs_suc types 0 imports i i x (omega arith) lt e) ∙ ap (λ (n : ℕ). stub_words types 0 (take n imports)) k)

-- imports of an image have few parameters
pub import_params : (types : List FuncType) (imports : List Import) (i : ℕ) (x : Import) → i < length imports → x ≡ slice_index_or imports i x → All IsImport (map (linked_import types) imports)
    → length (type_or_empty (slice_get types x.type_index)).params ≤ 1000
import_params types [] i x lt e h = absurd (omega arith)
import_params types (y ∷ imports) zero x lt e h =
    let small = (All-head IsImport (linked_import types y) (map (linked_import types) imports) h).signature.params in
    omega (arith, small, ap (λ (z : Import). length (type_or_empty (slice_get types z.type_index)).params) e)
import_params types (y ∷ imports) (suc i) x lt e h = import_params types imports i x (omega arith) e (All-tail IsImport (linked_import types y) (map (linked_import types) imports) h)

-- ---- how many words

stub_words_length : (types : List FuncType) (number : ℕ) (imports : List Import) → length (stub_words types number imports) ≡ stub_size * length imports
stub_words_length types number [] = refl
stub_words_length types number (i ∷ imports) =
    length-append (stub_of types number i) (stub_words types (suc number) imports) ∙ omega (arith, stub_words_length types (suc number) imports)

pub front_length : (s : Spaces) → length (front_words s) ≡ front_of (length s.imports)
front_length s = length-append (map word_of exit_stub) (stub_words s.types 0 s.imports) ∙ omega (arith, stub_words_length s.types 0 s.imports)

-- the words of an image are few
pub words_are_few : (s : Spaces) (codes : List Code) → IsImage (linked s codes) → front_of (length s.imports) + length (words_of codes) ≤ 2 ^ 26
words_are_few s codes bounded =
    let most = bounded.text.most in
    let words = words_from (starts_of s codes) (front_of (length s.imports)) codes in
    omega (arith, most, length-append (front_words s) words, front_length s, length-words (starts_of s codes) (front_of (length s.imports)) codes)

-- ---- where functions begin

places_suc : (here n next : ℕ) → next ≡ here + stub_size * n → stub_places here (suc n) ≡ stub_places here n ++ next ∷ []
places_suc here zero next e = let same : here ≡ next = omega (arith, e) in ap (λ (k : ℕ). k ∷ []) same
places_suc here (suc n) next e = ap (λ (l : List ℕ). here ∷ l) (places_suc (here + stub_size) n next (omega (arith, e)))

pub places_taken : (n : ℕ) (old new : List ℕ) → old ≡ stub_places (length exit_stub) n → new ≡ old ++ front_of n ∷ [] → new ≡ stub_places (length exit_stub) (n + 1)
places_taken n old new before is =
    let k : suc n ≡ n + 1 = omega arith in
    is ∙ ap (λ (l : List ℕ). l ++ front_of n ∷ []) before ∙ sym (places_suc (length exit_stub) n (front_of n) refl) ∙ ap (stub_places (length exit_stub)) k

-- no index is after the text's end
places_within : (here n most : ℕ) (ys : List ℕ) → here + stub_size * n ≤ most → ((i : ℕ) → slice_index ys i ≤ most) → (i : ℕ) → slice_index (stub_places here n ++ ys) i ≤ most
places_within here zero most ys le rest i = rest i
places_within here (suc n) most ys le rest zero = omega (arith, le)
places_within here (suc n) most ys le rest (suc i) = places_within (here + stub_size) n most ys (omega (arith, le)) rest i

all_within : (imported most : ℕ) (codes : List Code) → front_of imported + length (words_of codes) ≤ most → (i : ℕ) → slice_index (starts_behind imported codes) i ≤ most
all_within imported most codes le = places_within (length exit_stub) imported most (starts_from (front_of imported) codes) (omega (arith, le)) (λ i. starts_within (front_of imported) most codes i le)

pub starts_small : (s : Spaces) (codes : List Code) (starts : List ℕ) → IsImage (linked s codes) → starts ≡ starts_of s codes → (i : ℕ) → slice_index starts i < 2 ^ 27
starts_small s codes starts bounded same i =
    let here = all_within (length s.imports) (2 ^ 26) codes (words_are_few s codes bounded) i in
    omega (arith, here, ap (λ (l : List ℕ). slice_index l i) same)
