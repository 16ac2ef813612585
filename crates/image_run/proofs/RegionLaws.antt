-- The regions that an image is loaded to.
use Rattle.std.proofs.Common.{◌≡◌, ℕ, ◌+◌, ◌*◌, ◌≤◌, true, List, length, take, refl, ap, ◌∙◌, arith}
use Rattle.rv_isa.specs.Steps.{Bytes}
use Rattle.wasm_defs.specs.Memory.{page}
use Rattle.wasm_defs.specs.Instances.{all_fit, all_over}
use Rattle.image_format.specs.declared.version.Version.{Version}
use Rattle.image_format.specs.declared.version.Version.TheVariants.{One, Two, Three}
use Rattle.image_format.specs.Versions.{most_globals}
use Rattle.image_format.specs.Bounds.{IsPassive}
use Rattle.image_format.specs.Contents.{Image}
use Rattle.image_format.specs.declared.image.Row.{Row}
use Rattle.image_format.specs.Environment.{stack_size, loaded, word_bytes, row_words, segments_of}
use Rattle.std.specs.Prelude.{replicate}
use Rattle.std.proofs.lemmas.List.{length-replicate}
use Rattle.image_run.specs.States.{IsLoaded, first_memory, zeros}
use Rattle.image_run.specs.Sizes.{region_bytes}
use Rattle.image_format.proofs.EnvironmentLaws.{length-word_bytes, length-row_words, globals_few}
use Rattle.image_run.proofs.MemoryLaws.{length-all_over, all_fit-more}

pub loaded_is : (i : Image) (size : ℕ) (b : Bytes) → size ≡ stack_size → b.stack ≡ zeros size → b.globals ≡ word_bytes i.globals → b.table ≡ word_bytes (row_words i.table)
    → b.memory ≡ all_over (zeros (page * i.cap)) (segments_of i.segments) → b.passive ≡ i.passive → IsLoaded i b
unfolding IsLoaded zeros
loaded_is i size b is stack globals table memory passive =
    ap (λ (x : List ℕ). record b { globals = x }) globals
    ∙ ap (λ (x : List ℕ). record b { globals = word_bytes i.globals; table = x }) table
    ∙ ap (λ (x : List ℕ). record b { globals = word_bytes i.globals; table = word_bytes (row_words i.table); memory = x }) memory
    ∙ ap (λ (x : List ℕ). record (loaded i) { stack = b.stack; passive = x }) passive
    ∙ ap (λ (x : List ℕ). record (loaded i) { stack = x }) (stack ∙ ap zeros is)

-- the pages that the memory has at first
pub first_is : (i : Image) (b : Bytes) (pages : ℕ) → IsLoaded i b → pages ≡ i.pages → take (page * pages) b.memory ≡ first_memory i
unfolding IsLoaded first_memory
first_is i b pages is pages_are = ap (λ n. take (page * n) b.memory) pages_are ∙ ap (λ (x : Bytes). take (page * i.pages) x.memory) is

pub globals_short : (v : Version) (globals bytes : List ℕ) → bytes ≡ word_bytes globals → length globals ≤ most_globals v → length bytes ≤ 2400000
globals_short v globals bytes e few = omega (arith, ap length e, length-word_bytes globals, globals_few v)

pub passive_short : (v : Version) (bytes : List ℕ) → IsPassive v bytes → length bytes ≤ 67108864
passive_short One bytes fits = let none = ap (λ (l : List ℕ). length l) fits in omega arith
passive_short Two bytes fits = let none = ap (λ (l : List ℕ). length l) fits in omega arith
passive_short Three bytes fits = omega arith

pub table_short : (table : List Row) (bytes : List ℕ) → bytes ≡ word_bytes (row_words table) → length table ≤ 100000 → length bytes ≤ 1600000
table_short table bytes e few = omega (arith, ap length e, length-word_bytes (row_words table), length-row_words table)

summed : (b : Bytes) (stack globals table memory passive : ℕ) → length b.stack ≡ stack → length b.globals ≡ globals → length b.table ≡ table → length b.memory ≡ memory
    → length b.passive ≡ passive → region_bytes b ≡ stack + globals + table + memory + passive
unfolding region_bytes
summed b stack globals table memory passive of_stack of_globals of_table of_memory of_passive = omega (arith, of_stack, of_globals, of_table, of_memory, of_passive)

length-table : (rows : List Row) → length (word_bytes (row_words rows)) ≡ 16 * length rows
length-table rows = omega (arith, length-word_bytes (row_words rows), length-row_words rows)

-- how many bytes the regions have together
pub region_bytes_are : (i : Image) → i.pages ≤ i.cap → all_fit (page * i.pages) (segments_of i.segments) ≡ true
    → region_bytes (loaded i) ≡ stack_size + 8 * length i.globals + 16 * length i.table + page * i.cap + length i.passive
region_bytes_are i within fit =
    let size = page * i.cap in
    let fits = all_fit-more (page * i.pages) size i.segments (omega (arith, within)) fit in
    let memory = length-all_over size (replicate size 0) i.segments (length-replicate {A = ℕ} size 0) fits in
    summed (loaded i) stack_size (8 * length i.globals) (16 * length i.table) size (length i.passive) (length-replicate {A = ℕ} stack_size 0) (length-word_bytes i.globals) (length-table i.table) memory refl
