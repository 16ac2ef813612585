-- The length of an image's encoding.
use Rattle.std.proofs.Common.{◌≡◌, ◌∙◌, ℕ, ◌+◌, ◌*◌, List, [], ◌∷◌, length, refl, sym, ap, ap₂, arith, length-append}
use Rattle.std.specs.Prelude.{sum_by}
use Rattle.std.specs.List.{flat_map}
use Rattle.std.proofs.lemmas.List.Sums.{sum_by-cons}
use Rattle.wasm_defs.specs.declared.types.ValType.{ValType}
use Rattle.wasm_defs.specs.declared.types.FuncType.{FuncType}
use Rattle.image_format.specs.declared.limits.TheConstants.{MAGIC}
use Rattle.image_format.specs.declared.image.Row.{Row}
use Rattle.image_format.specs.declared.image.Segment.{Segment}
use Rattle.image_format.specs.declared.image.Import.{Import}
use Rattle.image_format.specs.declared.image.Export.{Export}
use Rattle.image_format.specs.declared.image.TrapPlace.{TrapPlace}
use Rattle.image_format.specs.declared.version.Version.{Version}
use Rattle.image_format.specs.declared.version.Version.TheVariants.{One, Two, Three}
use Rattle.image_format.specs.Versions.{number_of}
use Rattle.image_format.specs.Contents.{Image}
use Rattle.image_format.specs.ImageBytes.{◌·◌, u32, u64, listed, text, value_type, results, signature, row, segment, import, export, flag, version, place, places, passive, spelling}
use Rattle.image_format.specs.Sizes.{results_size, signature_size, segment_size, import_size, export_size, places_size, passive_size, size_of}

u32_size : (n : ℕ) → length (u32 n) ≡ 4
unfolding u32
u32_size n = refl

u64_size : (n : ℕ) → length (u64 n) ≡ 8
unfolding u64
u64_size n = refl

joined : (xs ys : List ℕ) (m n : ℕ) → length xs ≡ m → length ys ≡ n → length (xs · ys) ≡ m + n
joined xs ys m n p q = length-append xs ys ∙ ap₂ (λ a b. a + b) p q

module _ {A : Type 0} (spell : A → List ℕ) (size : A → ℕ) (is : (x : A) → length (spell x) ≡ size x) where
  each_size : (xs : List A) → length (flat_map spell xs) ≡ sum_by size xs
  each_size [] = refl
  each_size (x ∷ xs) = length-append (spell x) (flat_map spell xs) ∙ ap₂ (λ a b. a + b) (is x) (each_size xs) ∙ sym (sum_by-cons size x xs)

  listed_size : (xs : List A) → length (listed spell xs) ≡ 4 + sum_by size xs
  listed_size xs = joined (u32 (length xs)) (flat_map spell xs) 4 (sum_by size xs) (u32_size (length xs)) (each_size xs)

  listed_same : (n : ℕ) (count : ℕ → ℕ) → count 0 ≡ 0 → ((k : ℕ) → count (k + 1) ≡ n + count k) → ((x : A) → size x ≡ n) → (xs : List A) → sum_by size xs ≡ count (length xs)
  listed_same n count none more same [] = sym none
  listed_same n count none more same (x ∷ xs) =
      let rest = listed_same n count none more same xs in
      sum_by-cons size x xs ∙ ap₂ (λ a b. a + b) (same x) rest ∙ sym (more (length xs)) ∙ ap count (omega arith)

text_size : (bytes : List ℕ) → length (text bytes) ≡ 4 + length bytes
text_size bytes = joined (u32 (length bytes)) bytes 4 (length bytes) (u32_size (length bytes)) refl

types_size : (types : List ValType) → sum_by (λ (t : ValType). 1) types ≡ length types
types_size types = listed_same value_type (λ t. 1) (λ t. refl) 1 (λ n. n) refl (λ k. omega arith) (λ t. refl) types

results_is : (types : List ValType) → length (results types) ≡ results_size types
results_is [] = refl
results_is (type ∷ []) = refl
results_is (type ∷ other ∷ types) = omega (arith, listed_size value_type (λ t. 1) (λ t. refl) (type ∷ other ∷ types), types_size (type ∷ other ∷ types))

signature_is : (s : FuncType) → length (signature s) ≡ signature_size s
signature_is s =
    let params = listed_size value_type (λ t. 1) (λ t. refl) s.params in
    let all = joined (listed value_type s.params) (results s.results) _ (results_size s.results) params (results_is s.results) in
    omega (arith, all, types_size s.params)

segment_is : (s : Segment) → length (segment s) ≡ segment_size s
segment_is s =
    let all = joined (u32 s.place) (text s.bytes) 4 _ (u32_size s.place) (text_size s.bytes) in
    omega (arith, all)

import_is : (i : Import) → length (import i) ≡ import_size i
import_is i =
    let rest = joined (text i.name) (signature i.signature) _ _ (text_size i.name) (signature_is i.signature) in
    let all = joined (text i.module) (text i.name · signature i.signature) _ _ (text_size i.module) rest in
    omega (arith, all)

export_is : (e : Export) → length (export e) ≡ export_size e
export_is e =
    let rest = joined (signature e.signature) (u32 e.offset) _ _ (signature_is e.signature) (u32_size e.offset) in
    let all = joined (text e.name) (signature e.signature · u32 e.offset) _ _ (text_size e.name) rest in
    omega (arith, all)

row_is : (r : Row) → length (row r) ≡ 16
row_is r = joined (u64 r.code) (u64 r.like) 8 8 (u64_size r.code) (u64_size r.like)

words_size : (xs : List ℕ) → length (listed u32 xs) ≡ 4 + 4 * length xs
words_size xs = listed_size u32 (λ n. 4) u32_size xs ∙ ap (λ n. 4 + n) (listed_same u32 (λ n. 4) u32_size 4 (λ k. 4 * k) refl (λ k. omega arith) (λ n. refl) xs)

globals_size : (xs : List ℕ) → length (listed u64 xs) ≡ 4 + 8 * length xs
globals_size xs = listed_size u64 (λ n. 8) u64_size xs ∙ ap (λ n. 4 + n) (listed_same u64 (λ n. 8) u64_size 8 (λ k. 8 * k) refl (λ k. omega arith) (λ n. refl) xs)

rows_size : (xs : List Row) → length (listed row xs) ≡ 4 + 16 * length xs
rows_size xs = listed_size row (λ r. 16) row_is xs ∙ ap (λ n. 4 + n) (listed_same row (λ r. 16) row_is 16 (λ k. 16 * k) refl (λ k. omega arith) (λ r. refl) xs)

place_is : (p : TrapPlace) → length (place p) ≡ 12
place_is p =
    joined (u32 p.offset) (u32 p.function · u32 p.module_offset) 4 8 (u32_size p.offset)
    (joined (u32 p.function) (u32 p.module_offset) 4 4 (u32_size p.function) (u32_size p.module_offset))

places_are : (v : Version) (xs : List TrapPlace) → length (places v xs) ≡ places_size v xs
places_are One xs = refl
places_are Two xs = listed_size place (λ p. 12) place_is xs ∙ ap (λ n. 4 + n) (listed_same place (λ p. 12) place_is 12 (λ k. 12 * k) refl (λ k. omega arith) (λ p. refl) xs)
places_are Three xs = listed_size place (λ p. 12) place_is xs ∙ ap (λ n. 4 + n) (listed_same place (λ p. 12) place_is 12 (λ k. 12 * k) refl (λ k. omega arith) (λ p. refl) xs)

passive_are : (v : Version) (bytes : List ℕ) → length (passive v bytes) ≡ passive_size v bytes
passive_are One bytes = refl
passive_are Two bytes = refl
passive_are Three bytes = joined (u32 (length bytes)) bytes 4 (length bytes) (u32_size (length bytes)) refl

module _ (i : Image) where
  ends : length (u32 i.start · u32 (flag i.unlinkable) · places i.version i.places · passive i.version i.passive) ≡ 8 + (places_size i.version i.places + passive_size i.version i.passive)
  ends =
      let last = joined (places i.version i.places) (passive i.version i.passive) _ _ (places_are i.version i.places) (passive_are i.version i.passive) in
      let all = joined (u32 i.start) _ 4 (4 + (places_size i.version i.places + passive_size i.version i.passive)) (u32_size i.start)
      (joined (u32 (flag i.unlinkable)) _ 4 (places_size i.version i.places + passive_size i.version i.passive) (u32_size (flag i.unlinkable)) last) in
      omega (arith, all)

  lists : length (listed segment i.segments · listed import i.imports · listed export i.exports · u32 i.start · u32 (flag i.unlinkable) · places i.version i.places · passive i.version i.passive)
      ≡ (4 + sum_by segment_size i.segments) + ((4 + sum_by import_size i.imports) + ((4 + sum_by export_size i.exports) + (8 + (places_size i.version i.places + passive_size i.version i.passive))))
  lists =
      joined (listed segment i.segments) _ _ _ (listed_size segment segment_size segment_is i.segments)
      (joined (listed import i.imports) _ _ _ (listed_size import import_size import_is i.imports)
      (joined (listed export i.exports) _ _ _ (listed_size export export_size export_is i.exports) ends))

  front : length (spelling i) ≡ 4 + (4 + ((4 + 4 * length i.text) + ((4 + 8 * length i.globals) + ((4 + 16 * length i.table) + (4 + (4
      + ((4 + sum_by segment_size i.segments) + ((4 + sum_by import_size i.imports) + ((4 + sum_by export_size i.exports) + (8 + (places_size i.version i.places + passive_size i.version i.passive)))))))))))
  unfolding spelling
  front =
      joined (u32 MAGIC) _ _ _ (u32_size MAGIC)
      (joined (version i.version) _ _ _ (u32_size (number_of i.version))
      (joined (listed u32 i.text) _ _ _ (words_size i.text)
      (joined (listed u64 i.globals) _ _ _ (globals_size i.globals)
      (joined (listed row i.table) _ _ _ (rows_size i.table)
      (joined (u32 i.pages) _ _ _ (u32_size i.pages)
      (joined (u32 i.cap) _ _ _ (u32_size i.cap) lists))))))

  pub spelling_size : length (spelling i) ≡ size_of i
  spelling_size = omega (arith, front)
