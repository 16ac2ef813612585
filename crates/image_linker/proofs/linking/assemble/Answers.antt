use Rattle.std.proofs.Common.{◌≡◌, ◌∙◌, sym, ap, subst, ℕ, ◌*◌, ◌<◌, ◌^◌, arith, List, [], ◌++◌, map, take, length}
use Rattle.std.specs.Prelude.{not}
use Rattle.wasm_defs.specs.Memory.{page}
use Rattle.std.proofs.lemmas.Bool.{and_parts}
use Rattle.wasm_defs.specs.Instances.{first_minimum, first_cap, all_fit}
use Rattle.image_format.specs.Contents.{IsImage}
use Rattle.index_spaces.specs.declared.entries.DataRow.{DataRow}
use Rattle.index_spaces.specs.Entries.{function_exports, written_rows, written_segments, segments_at_first}
use Rattle.index_spaces.specs.Spaces.{context_in}
use Rattle.image_linker.specs.ImageOf.{front_of, segment_words, joined, version_for}
use Rattle.image_linker.specs.Linking.{with_segments, words_from, front_words, starts_behind, starts_of, linked_rows, linked_export, linked_start, linked_traps, global_words, linked}
use Rattle.image_linker.proofs.DataRows.{placed_where}
use Rattle.image_linker.proofs.Fields.{image_by, linked_fields}
use Rattle.image_linker.proofs.NamedRows.{named_few, pages_few, places_in_order}
use Rattle.image_linker.proofs.Fronts.{words_are_few, starts_small}
use Rattle.image_linker.proofs.TrapLoops.{each_short}
use Rattle.image_linker.proofs.linking.assemble.Goals as goal
use Rattle.image_linker.proofs.linking.assemble.Goals.{After-new-8}

pub starts_of-requires : goal.starts_of-requires
starts_of-requires c =
    let few = words_are_few (with_segments c.args.context.now c.args.segments.now) c.args.codes c.requires.bounded in
    omega (arith, few, ap (λ l. length l) c.imports.ensures)

pub places_of-requires-clause-words : goal.places_of-requires-clause-words
places_of-requires-clause-words c =
    let few = words_are_few (with_segments c.args.context.now c.args.segments.now) c.args.codes c.requires.bounded in
    omega (arith, few)

pub places_of-requires-clause-places : goal.places_of-requires-clause-places
places_of-requires-clause-places c =
    let s = with_segments c.args.context.now c.args.segments.now in
    let codes = c.args.codes in
    each_short (length (linked s codes).text) [] (linked_traps s codes) (places_in_order (context_in s).segments (length (linked s codes).text) (linked_traps s codes) c.requires.bounded.places)

pub text_of-requires : goal.text_of-requires
text_of-requires c = c.requires.bounded.imports

pub exports_of-requires-clause-places : goal.exports_of-requires-clause-places
exports_of-requires-clause-places c =
    starts_small (with_segments c.args.context.now c.args.segments.now) c.args.codes c.deref.result.now c.requires.bounded
    (c.deref.ensures.value ∙ c.in_ok-starts.ensures ∙ ap (λ imports. starts_behind (length imports) c.args.codes) c.imports.ensures)

pub start_of-requires : goal.start_of-requires
start_of-requires c =
    starts_small (with_segments c.args.context.now c.args.segments.now) c.args.codes c.deref-4.result.now c.requires.bounded
    (c.deref-4.ensures.value ∙ c.in_ok-starts.ensures ∙ ap (λ imports. starts_behind (length imports) c.args.codes) c.imports.ensures)

pub rows_of-requires : goal.rows_of-requires
rows_of-requires c = λ yes.
    let s = with_segments c.args.context.now c.args.segments.now in
    (and_parts (all_fit (first_minimum s.tables) (written_rows s.elements)) (all_fit (page * first_minimum s.memories) (written_segments s.segments)) (sym c.is_linkable-linkable.ensures ∙ yes)).0

pub placed_segments-requires : goal.placed_segments-requires
placed_segments-requires c =
    let s = with_segments c.args.context.now c.args.segments.now in
    let pages = c.requires.bounded.pages in
    let cap = c.requires.bounded.cap in
    let most = pages_few (context_in s).segments in
    let few : page * first_minimum s.memories < 2 ^ 32 = omega (arith, pages, cap, most) in
    placed_where (all_fit (first_minimum s.tables) (written_rows s.elements)) (page * first_minimum s.memories) s.segments c.is_linkable-linkable.result few c.is_linkable-linkable.ensures

pub all_words-requires-clause-numbers : goal.all_words-requires-clause-numbers
all_words-requires-clause-numbers c = c.requires.numbers

pub all_words-requires-clause-passive : goal.all_words-requires-clause-passive
all_words-requires-clause-passive c =
    let s = with_segments c.args.context.now c.args.segments.now in
    let named : c.named_rows-named.result.now ≡ take (context_in s).segments s.segments = c.named_rows-named.ensures ∙ ap (λ (n : ℕ). take n s.segments) c.segment_count.ensures in
    omega (arith, named_few s c.named_rows-named.result.now named c.requires.bounded.passive)

pub passive_bytes-requires : goal.passive_bytes-requires
passive_bytes-requires c =
    let s = with_segments c.args.context.now c.args.segments.now in
    let named : c.named_rows-named.result.now ≡ take (context_in s).segments s.segments = c.named_rows-named.ensures ∙ ap (λ (n : ℕ). take n s.segments) c.segment_count.ensures in
    omega (arith, named_few s c.named_rows-named.result.now named c.requires.bounded.passive)

-- the image, field by field
fields : (c : After-new-8)
    → image_by c.version_for.result c.new.result c.new-2.result c.new-3.result c.first_minimum-pages.result c.first_cap.result c.new-4.result c.new-5.result c.new-6.result
    c.start_of.result (not c.is_linkable-linkable.result) c.new-7.result c.new-8.result
    ≡ linked (with_segments c.args.context.now c.args.segments.now) c.args.codes
fields c =
    let s = with_segments c.args.context.now c.args.segments.now in
    let codes = c.args.codes in
    let starts = c.in_ok-starts.starts.items in
    let room = c.is_linkable-linkable.result in
    let places : starts ≡ starts_of s codes = c.in_ok-starts.ensures ∙ ap (λ imports. starts_behind (length imports) codes) c.imports.ensures in
    let version = c.version_for.ensures ∙ ap version_for c.segment_count-2.ensures in
    let named : c.named_rows-named.result.now ≡ take (context_in s).segments s.segments = c.named_rows-named.ensures ∙ ap (λ (n : ℕ). take n s.segments) c.segment_count.ensures in
    let globals =
    c.new-2.ensures.list ∙ c.in_ok-globals.ensures ∙ ap (λ (rows : List DataRow). global_words s ++ segment_words 0 (segments_at_first rows)) named in
    let passive = c.new-8.ensures ∙ c.in_ok-passive_bytes.ensures ∙ ap (λ (rows : List DataRow). joined (segments_at_first rows)) named in
    let text = c.new.ensures.list ∙ c.in_ok-text.ensures ∙ ap (λ (l : List ℕ). front_words s ++ words_from l (front_of (length s.imports)) codes) c.deref-3.ensures.value in
    let table = c.new-3.ensures ∙ c.in_ok-table.ensures ∙ ap (λ (l : List ℕ). linked_rows s l room) c.deref-2.ensures.value in
    let exports = c.new-6.ensures ∙ c.in_ok-exports.ensures.exports ∙ ap (λ (l : List ℕ). map (linked_export s l) (function_exports s.exports)) c.deref.ensures.value in
    let start = c.start_of.ensures ∙ ap (λ (l : List ℕ). linked_start l c.start.result) c.deref-4.ensures.value ∙ ap (linked_start starts) c.start.ensures in
    linked_fields s codes starts room places c.is_linkable-linkable.ensures _ _ _ _ _ _ _ _ _ _ _ _ version text globals table (c.first_minimum-pages.ensures ∙ ap first_minimum c.memories.ensures)
    (c.first_cap.ensures ∙ ap first_cap c.memories-2.ensures) (c.new-4.ensures ∙ c.in_ok-placed.ensures) (c.new-5.ensures ∙ c.in_ok-imports.ensures) exports start (c.new-7.ensures ∙ c.in_ok-traps.ensures) passive

pub invariant_of-result : goal.invariant_of-result
invariant_of-result c = subst IsImage (sym (fields (goal.at.invariant_of-result c).After-new-8)) c.requires.bounded

pub returns : goal.returns
returns c = fields (goal.at.returns c).After-new-8
