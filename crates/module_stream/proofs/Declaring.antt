-- Functions that are taken many at once: what is left, and the index spaces, are as if they were taken one by one.
use Rattle.std.proofs.Common.{◌≡◌, ℕ, ◌+◌, ◌≤◌, List, [], ◌∷◌, ◌++◌, length, drop, map, Option, None, refl, sym, ap, subst, ◌∙◌, arith, append_assoc, length-append}
use Rattle.std.proofs.lemmas.List.{append-nil}
use Rattle.wasm_defs.specs.declared.item.Item.TheVariants.{Function}
use Rattle.wasm_defs.specs.Outside.{Run}
use Rattle.index_spaces.specs.Spaces.{Spaces, with_function, with_functions}
use Rattle.section_reader.specs.declared.front.Front.{Front}
use Rattle.section_reader.specs.declared.functions.Functions.{Functions}
use Rattle.section_reader.specs.FrontOnward.{remaining_parts}
use Rattle.section_reader.specs.Onward.{after_parts}
use Rattle.section_reader.specs.Functions.{function_part, TakesFunctions}
use Rattle.body_cutter.specs.Cuttings.{Cutting}
use Rattle.module_stream.specs.declared.compilation.Compilation.{Compilation}
use Rattle.module_stream.specs.Codes.{Coding}
use Rattle.module_stream.specs.Progress.{IsJudging}
use Rattle.module_stream.specs.Streaming.{left_of, mode_weight, work_left}
use Rattle.module_stream.proofs.Compiled.{after_item}
use Rattle.module_stream.proofs.Taking.{judging_on}
use Rattle.module_stream.proofs.Streaming.{IsReading, parts_told, length_left}

-- ---- index spaces

none_more : (s : Spaces) → with_functions s [] ≡ s
none_more s =
    let count : s.declared + 0 ≡ s.declared = omega arith in
    rw (append-nil s.functions, count) refl

one_more : (s : Spaces) (type_index : ℕ) (type_indices : List ℕ) → with_functions (with_function s type_index) type_indices ≡ with_functions s (type_index ∷ type_indices)
one_more s type_index type_indices =
    let count : s.declared + 1 + length type_indices ≡ s.declared + length (type_index ∷ type_indices) = omega arith in
    rw (append_assoc s.functions (type_index ∷ []) type_indices, count) refl

-- the functions are taken one after the other
functions_judged : (bytes : List ℕ) (run : Run) (spaces : Spaces) (codes : Coding) (indices : List (ℕ × ℕ)) → IsJudging bytes (after_parts (map function_part indices) run) spaces codes → IsJudging bytes run (with_functions spaces (map (λ i. i.1) indices)) codes
functions_judged bytes run spaces codes [] j = subst (λ (s : Spaces). IsJudging bytes run s codes) (sym (none_more spaces)) j
functions_judged bytes run spaces codes (i ∷ indices) j =
    subst (λ (s : Spaces). IsJudging bytes run s codes) (one_more spaces i.1 (map (λ k. k.1) indices))
    (functions_judged bytes run (with_function spaces i.1) codes indices (after_item bytes (after_parts (map function_part indices) run) codes spaces (with_function spaces i.1) (Function i) j tt refl))

-- ---- what is left

module _ (f g : Front) (piece types : List ℕ) (read : Functions) (t : TakesFunctions f piece read types g) where
  pub functions_taken : (bytes more : List ℕ) (spaces later : Spaces) (codes : Coding) (added : List ℕ) → added ≡ map (λ i. i.1) t.indices → later ≡ with_functions spaces added
      → IsReading bytes f spaces codes (piece ++ more) → IsReading bytes g later codes (drop read.bytes piece ++ more)
  functions_taken bytes more spaces later codes added are is r = record {
    few = r.few;
    judging =
        subst (λ (s : Spaces). IsJudging bytes (remaining_parts g (drop read.bytes piece ++ more)) s codes) (sym (is ∙ ap (with_functions spaces) are))
        (functions_judged bytes _ spaces codes t.indices (judging_on bytes _ _ spaces codes (t.onward more) r.judging));
    place = record {
      idle = t.waiting ∙ r.place.idle;
      outside = t.apart r.place.outside;
      count = omega (arith, r.place.count, t.total_is, t.some, length-append piece more, length-append (drop read.bytes piece) more, length_left read.bytes piece t.some);
    };
  }

  pub functions_less : (old new : Compilation) → old.front ≡ f → new.front ≡ g → old.cutter ≡ None → new.cutter ≡ None → work_left new (drop read.bytes piece) + read.bytes ≤ work_left old piece
  functions_less old new before after none still =
      let there : length (left_of old.front old.cutter piece).parts ≡ length (remaining_parts f piece).parts =
      ap (λ (o : Option Cutting). length (left_of old.front o piece).parts) none ∙ ap (λ (k : Front). length (remaining_parts k piece).parts) before in
      let here : length (left_of new.front new.cutter (drop read.bytes piece)).parts ≡ length (remaining_parts g (drop read.bytes piece)).parts =
      ap (λ (o : Option Cutting). length (left_of new.front o (drop read.bytes piece)).parts) still ∙ ap (λ (k : Front). length (remaining_parts k (drop read.bytes piece)).parts) after in
      let told : length (remaining_parts f piece).parts ≡ length (map function_part t.indices) + length (remaining_parts g (drop read.bytes piece)).parts =
      ap (λ (l : List ℕ). length (remaining_parts f l).parts) (sym (append-nil piece))
      ∙ ap (λ (r : Run). length r.parts) (t.onward [])
      ∙ parts_told (map function_part t.indices) _
      ∙ ap (λ (l : List ℕ). length (map function_part t.indices) + length (remaining_parts g l).parts) (append-nil (drop read.bytes piece)) in
      let mode : mode_weight new.cutter ≡ 0 = ap mode_weight still in
      omega (arith, there, here, told, mode, t.some, length_left read.bytes piece t.some)
