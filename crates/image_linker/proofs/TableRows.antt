-- The rows of a module's table in the region of its image.
use Rattle.std.proofs.Common.{◌≡◌, ℕ, suc, ◌+◌, ◌*◌, ◌^◌, ◌<◌, ◌≤◌, Bool, true, inl, inr, List, [], ◌∷◌, map, length, replicate, Option, None, Some, refl, sym, ap, ◌∙◌, subst, arith}
use Rattle.std.specs.Prelude.{slice_get, slice_index, option_map}
use Rattle.std.proofs.lemmas.Bool.{cases_Bool}
use Rattle.std.proofs.lemmas.List.{length-map, length-replicate}
use Rattle.std.proofs.lemmas.Option.{slice_get-map}
use Rattle.rv_isa.specs.Steps.{value_at}
use Rattle.wasm_defs.specs.declared.item.Item.{Item}
use Rattle.wasm_defs.specs.declared.item.Item.TheVariants.{Signature}
use Rattle.wasm_defs.specs.declared.types.FuncType.{FuncType}
use Rattle.wasm_defs.specs.Typing.{same_function_types}
use Rattle.wasm_defs.specs.Context.{context_of, types_of, type_of_function, first_like}
use Rattle.wasm_defs.specs.Configurations.{Function, Instance, type_of}
use Rattle.wasm_defs.specs.Faults.{Module}
use Rattle.wasm_defs.specs.Instances.{rows_of, elements_of, all_fit, is_linkable, instance_of, functions_of}
use Rattle.wasm_laws.proofs.Counted.{entries_in}
use Rattle.image_format.specs.Environment.{Entry, word_bytes, row_words, loaded}
use Rattle.image_format.specs.ImageRun.{begin}
use Rattle.image_format.specs.Contents.{Image}
use Rattle.image_format.proofs.EnvironmentLaws.{length-word_bytes, length-row_words}
use Rattle.wasm_defs.specs.Host.{Reply}
use Rattle.wasm_defs.specs.declared.types.ValType.{ValType}
use Rattle.simulation.specs.Regions.{row_code, row_like}
use Rattle.simulation.specs.Functions.{TextPlaces}
use Rattle.simulation.specs.Tables.{type_in, TableHolds}
use Rattle.simulation.proofs.Entering.{table_kept}
use Rattle.image_linker.specs.ImageOf.{places_of_functions, row_of, table_of, image_of}
use Rattle.image_linker.proofs.LoadedMemory.{all_over_length}
use Rattle.image_linker.proofs.Regions.{AreWords, word_is_read, row_words_at}

-- ---- types

pub types_are_few : (items : List Item) → length (types_of items) ≤ entries_in 1 items
types_are_few [] = omega arith
types_are_few (Signature form params results ty ∷ items) = omega (arith, types_are_few items)
types_are_few (x ∷ items) = types_are_few items

-- the least index of an equal type, or how many types there are
pub like_is_few : (types : List FuncType) (ty : FuncType) → first_like types ty ≤ length types
like_is_few [] ty = omega arith
like_is_few (t ∷ types) ty =
    elim (cases_Bool (same_function_types t ty)) [
      | inl e ↦ let none : first_like (t ∷ types) ty ≡ 0 = rw e refl in omega (arith, none)
      | inr e ↦ let more : first_like (t ∷ types) ty ≡ suc (first_like types ty) = rw e refl in omega (arith, more, like_is_few types ty)
    ]

-- ---- rows

-- where the table has room for all element segments, it has its minimum of rows
pub table_has_rows : (m : Module) → all_fit (rows_of m.items) (elements_of m.items) ≡ true → length (instance_of m).table ≡ rows_of m.items
table_has_rows m fit = all_over_length (replicate (rows_of m.items) None) (elements_of m.items) (rows_of m.items) (length-replicate (rows_of m.items) None) fit

-- numbers of rows are words
abbrev pub RowFits : Module → Option ℕ → Type 0
RowFits m o = ((row_of m o).code < 2 ^ 64) × ((row_of m o).like < 2 ^ 64)

rows_are_words : (m : Module) (rows : List (Option ℕ)) → ((a : ℕ) (o : Option ℕ) → slice_get rows a ≡ Some o → RowFits m o) → AreWords (row_words (map (row_of m) rows))
rows_are_words m [] fit = tt
rows_are_words m (o ∷ rows) fit = let first = fit 0 o refl in (first.0, (first.1, rows_are_words m rows (λ a p is. fit (suc a) p is)))

module _ (m : Module) (rows : List (Option ℕ)) (fit : (a : ℕ) (o : Option ℕ) → slice_get rows a ≡ Some o → RowFits m o) (a : ℕ) (o : Option ℕ) (is : slice_get rows a ≡ Some o) where
  there : slice_get (map (row_of m) rows) a ≡ Some (row_of m o)
  there = slice_get-map (row_of m) rows a ∙ ap (option_map (row_of m)) is

  row_read : (row_code (record (loaded (image_of m)) { table = word_bytes (row_words (map (row_of m) rows)) }) a ≡ (row_of m o).code) × (row_like (record (loaded (image_of m)) { table = word_bytes (row_words (map (row_of m) rows)) }) a ≡ (row_of m o).like)
  row_read =
      let words = row_words (map (row_of m) rows) in
      let small = rows_are_words m rows fit in
      let at = row_words_at (map (row_of m) rows) a (row_of m o) there in
      let first : 16 * a ≡ 8 * (2 * a) = omega arith in
      let second : 16 * a + 8 ≡ 8 * (2 * a + 1) = omega arith in (
        ap (λ (n : ℕ). value_at 8 n (word_bytes words)) first ∙ word_is_read words (2 * a) (row_of m o).code small at.0,
        ap (λ (n : ℕ). value_at 8 n (word_bytes words)) second ∙ word_is_read words (2 * a + 1) (row_of m o).like small at.1,
      )

-- functions are near the text's beginning, and types are few
module _ (m : Module) (few_types : length (context_of m.items).types < 2 ^ 32)
    (places : ℕ → ℕ) (places_are : (f : ℕ) → places f ≡ slice_index (places_of_functions m) f)
    (near : (a f : ℕ) → slice_get (instance_of m).table a ≡ Some (Some f) → places f < 2 ^ 60) where
  pub fits : (a : ℕ) (o : Option ℕ) → slice_get (instance_of m).table a ≡ Some o → RowFits m o
  fits a None is = (omega arith, omega arith)
  fits a (Some f) is =
      let low = near a f is in
      let place_is = places_are f in
      (omega arith, omega (arith, like_is_few (context_of m.items).types (type_of_function (context_of m.items) f)))

-- the rows are in the region of the image that is loaded
module _ (m : Module) (linkable : is_linkable m ≡ true) (few_types : length (context_of m.items).types < 2 ^ 32)
    (places : TextPlaces) (places_are : (f : ℕ) → places.function f ≡ slice_index (places_of_functions m) f)
    (near : (a f : ℕ) → slice_get (instance_of m).table a ≡ Some (Some f) → places.function f < 2 ^ 60)
    (functions : (a f : ℕ) → slice_get (instance_of m).table a ≡ Some (Some f) → (h : Function) × (slice_get (functions_of m) f ≡ Some h) × (type_of h ≡ type_of_function (context_of m.items) f)) where
  own : (a : ℕ) (o : Option ℕ) → slice_get (instance_of m).table a ≡ Some o → RowFits m o
  own = fits m few_types places.function places_are near

  holds : TableHolds (instance_of m) places (record (loaded (image_of m)) { table = word_bytes (row_words (map (row_of m) (instance_of m).table)) })
  holds =
      let rows = (instance_of m).table in
      record {
        rows = record {
          size = omega (arith, length-word_bytes (row_words (map (row_of m) rows)), length-row_words (map (row_of m) rows), length-map rows (row_of m));
          empty = λ a is. (row_read m rows own a None is).0;
          code_is = λ a f is. let place_is = places_are f in (row_read m rows own a (Some f) is).0 ∙ omega arith;
          like_is = λ a f is.
              let h = functions a f is in
              (row_read m rows own a (Some f) is).1
              ∙ ap (first_like (context_of m.items).types) (sym h.2 ∙ ap type_in (sym h.1));
        };
        functions = λ a f is. let h = functions a f is in (h.0, h.1);
        few_types = few_types;
      }

  pub table_stands : TableHolds (instance_of m) places (loaded (image_of m))
  table_stands =
      subst (λ (b : Bool). TableHolds (instance_of m) places (record (loaded (image_of m)) { table = word_bytes (row_words (table_of m b)) })) (sym linkable) holds

-- and where a function of it is called from outside
pub table_called : (inst : Instance) (places : TextPlaces) (i : Image) (replies : List Reply) (e : Entry × List ValType) (later : List (Entry × List ValType)) → TableHolds inst places (loaded i) → TableHolds inst places (begin i replies e later).machine.bytes
table_called inst places i replies e later h = table_kept inst places (loaded i) (begin i replies e later).machine.bytes refl h
