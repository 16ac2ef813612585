-- An image as it is loaded, where a function is called from outside, and others perhaps afterwards.
use Rattle.std.proofs.Common.{◌≡◌, ℕ, ◌*◌, ◌^◌, ◌<◌, ◌≤◌, true, List, [], ◌++◌, length, replicate, Some, refl, sym, ap, ◌∙◌, subst, arith, length-append}
use Rattle.std.specs.Prelude.{slice_get}
use Rattle.std.proofs.lemmas.List.{length-replicate, length-map}
use Rattle.std.specs.List.{All}
use Rattle.rv_isa.specs.declared.stepping.Region.TheVariants.{Stack, Globals, Table, Memory, Passive}
use Rattle.rv_isa.specs.Runs.{FitWindows}
use Rattle.wasm_defs.specs.declared.types.FuncType.{FuncType}
use Rattle.wasm_defs.specs.declared.types.ValType.{ValType}
use Rattle.wasm_defs.specs.Limits.{max_module, max_params, max_table, max_pages}
use Rattle.wasm_defs.specs.Memory.{page}
use Rattle.wasm_defs.specs.Values.{Value, InRange, word_of, words_of}
use Rattle.wasm_defs.specs.Host.{Reply, are_of}
use Rattle.wasm_defs.specs.Configurations.{Store}
use Rattle.wasm_defs.specs.Instances.{all_over, all_fit}
use Rattle.image_format.specs.Contents.{Image}
use Rattle.image_format.specs.Environment.{Entry, stack_size, with_words, words_at, word_bytes, row_words, segments_of, loaded}
use Rattle.simulation.specs.StoreLaws.{GlobalsStand, SegmentsStand}
use Rattle.image_format.specs.ImageRun.{begin}
use Rattle.image_format.proofs.EnvironmentLaws.{length-word_bytes, length-row_words}
use Rattle.simulation.specs.Laws.{IsInvoked}
use Rattle.simulation.proofs.Calls.Arguments.{are_of_types}
use Rattle.simulation.proofs.FirstSlots.{stack_is, slots_are}
use Rattle.simulation.proofs.Frames.Rules.{types_length}
use Rattle.simulation.proofs.Frames.Words.{word_small}
use Rattle.image_linker.specs.ImageOf.{segment_words, joined}
use Rattle.image_linker.proofs.LoadedMemory.{HaveBytes, IsLoaded, is_loaded}
use Rattle.image_linker.proofs.Regions.{AreWords, first_words_are_read}
use Rattle.image_linker.proofs.Segmented.{words_front, segments_loaded}

-- an image whose regions keep their limits, and whose segments are of bytes and fit
pub record IsSmall (i : Image) : Type 0 where
  pub globals : length i.globals ≤ 300000
  pub table : length i.table ≤ max_table
  pub pages : i.pages ≤ i.cap
  pub cap : i.cap ≤ max_pages
  pub fit : all_fit (page * i.pages) (segments_of i.segments) ≡ true
  pub bytes : HaveBytes (segments_of i.segments)
  pub words : AreWords i.globals
  pub passive : length i.passive ≤ max_module
  pub passive_bytes : All (λ (b : ℕ). b < 256) i.passive

-- a store as the image begins with: a memory of zeros with the active segments, the values that the first globals' words hold, and the
-- segments that the other ones describe
pub record IsFirst (i : Image) (replies : List Reply) (store : Store) : Type 0 where
  pub memory : store.memory ≡ all_over (replicate (page * i.pages) 0) (segments_of i.segments)
  pub globals : i.globals ≡ words_of store.globals ++ segment_words 0 store.segments
  pub in_range : (x : ℕ) (v : Value) → slice_get store.globals x ≡ Some v → InRange v
  pub passive : i.passive ≡ joined store.segments
  pub calls : store.calls ≡ []
  pub replies_are : store.replies ≡ replies

module _ (i : Image) (small : IsSmall i) where
  memory_is : IsLoaded (segments_of i.segments) i.pages i.cap
  memory_is = is_loaded (segments_of i.segments) i.pages i.cap small.pages small.fit small.bytes

  short_windows : (stack : List ℕ) → length stack ≡ stack_size → FitWindows (record (loaded i) { stack = stack })
  short_windows stack size Stack = omega (arith, size)
  short_windows stack size Globals = omega (arith, length-word_bytes i.globals, small.globals)
  short_windows stack size Table = omega (arith, length-word_bytes (row_words i.table), length-row_words i.table, small.table)
  short_windows stack size Memory = omega (arith, memory_is.size, small.cap)
  short_windows stack size Passive = omega (arith, small.passive)

  module _ (ty : FuncType) (at : ℕ) (store : Store) (arguments : List Value) (replies : List Reply) (later : List (Entry × List ValType)) (are : are_of ty.params arguments ≡ true) (few : length ty.params ≤ max_params) (first : IsFirst i replies store) where
    few_arguments : length arguments ≤ max_params
    few_arguments =
        let typed = are_of_types ty.params arguments are in
        omega (arith, types_length arguments, ap length typed.types_are)

    ranges : (k : ℕ) (v : Value) → slice_get arguments k ≡ Some v → word_of v < 2 ^ 64
    ranges k v is =
        let typed = are_of_types ty.params arguments are in
        word_small v.ty v.number (typed.ranges k v is)

    size : length {A = ℕ} (replicate stack_size 0) ≡ stack_size
    size = length-replicate {A = ℕ} stack_size 0

    abbrev own : List ℕ
    own = words_of store.globals

    abbrev telling : List ℕ
    telling = segment_words 0 store.segments

    words : AreWords (own ++ telling)
    words = subst AreWords first.globals small.words

    own_length : length own ≡ length store.globals
    own_length = length-map store.globals word_of

    -- the globals' words are the image's first ones
    globals_first : GlobalsStand (loaded i) store.globals
    globals_first = record {
      within = omega (arith, length-word_bytes i.globals, ap length first.globals, length-append own telling, own_length);
      are =
          ap (λ (l : List ℕ). words_at (word_bytes l) 0 (length store.globals)) first.globals
          ∙ ap (λ (n : ℕ). words_at (word_bytes (own ++ telling)) 0 n) (sym own_length)
          ∙ first_words_are_read own telling (words_front own telling words);
    }

    -- and the others describe the segments
    segments_first : SegmentsStand (loaded i) (length store.globals) store.segments
    segments_first =
        subst (λ (n : ℕ). SegmentsStand (loaded i) n store.segments) own_length
        (segments_loaded (loaded i) own store.segments words (ap word_bytes first.globals) first.passive)

    pub is_called : IsInvoked ty at i.cap store arguments (begin i replies (record { offset = 4 * at; arguments = arguments }, ty.results) later)
    is_called =
        let stack = with_words (replicate stack_size 0) 0 (words_of arguments) in
        let whole = stack_is (replicate stack_size 0) size arguments few_arguments ranges in
        record {
          frame = record { first = refl; end = refl; size = whole; windows = short_windows stack whole };
          at = refl;
          return_place = refl;
          are_of_types = are;
          stand = slots_are (replicate stack_size 0) size arguments few_arguments ranges;
          results = refl;
          calls = sym first.calls;
          replies = sym first.replies_are;
          stands = record {
            regions = record { memory = refl; size = refl; globals = refl; table = refl; whole = omega (arith, memory_is.size, small.pages) };
            room = record { within = small.pages; size = memory_is.size; zeros = memory_is.behind };
            memory = memory_is.first ∙ sym first.memory;
            are_bytes = memory_is.bytes;
            globals = record { within = globals_first.within; are = globals_first.are };
            in_range = first.in_range;
            segments = λ x bytes found.
                let s = segments_first x bytes found in
                record { from = s.from; inside = s.inside; length_is = s.length_is; address_is = s.address_is; within = s.within; bytes_are = s.bytes_are };
            passive = small.passive_bytes;
          };
        }
