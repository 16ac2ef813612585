-- The bytes of a drill are its sections, which keep the rules.
use Rattle.std.proofs.Common.{◌≡◌, ◌∙◌, ℕ, zero, suc, ◌+◌, ◌<◌, ◌≤◌, Bool, false, [], ◌∷◌, ◌++◌, length, Option, refl, ap, sym, subst, arith}
use Rattle.std.proofs.lemmas.List.{append-nil, length-append}
use Rattle.std.proofs.lemmas.List.Elements.{All-cons, All-nil}
use Rattle.std.specs.List.{All}
use Rattle.std.specs.FinMap as maps
use Rattle.std.specs.Cmp.Lexicographic.{slice_cmp}
use Rattle.std.specs.Ordering.{nat_cmp}
use Rattle.std.specs.Prelude.{is_some}
use Rattle.wasm_defs.specs.declared.item.Item.TheVariants.{Signature}
use Rattle.drill_laws.specs.Functions.{adder_type, runner_type}
use Rattle.wasm_defs.specs.Context.{data_count_of, declared_count, segment_count_of}
use Rattle.wasm_defs.specs.Entries.{Names, Seen, note, nothing}
use Rattle.wasm_defs.specs.Items.{bodies_in, items_in}
use Rattle.wasm_defs.specs.Limits.{max_body, max_module}
use Rattle.wasm_defs.specs.Outside.{Body, agrees}
use Rattle.wasm_defs.specs.Rules.{AllKeep, SectionsKeep, all_noted}
use Rattle.wasm_laws.specs.Sections.{AreSectionsOf}
use Rattle.module_gen.specs.Drill.{adder, code, drill_bytes, exports, functions, types}
use Rattle.module_gen.specs.Numbers.{unsigned}
use Rattle.drill_laws.proofs.Drilled.{all_bodies, all_declared, bodies_count, bodies_from, body_at, code_content, code_inside, code_section, drill_items, drill_sections, exports_content, exports_section, function_items, functions_content, functions_count, functions_inside, none_counted, run_name}
use Rattle.drill_laws.proofs.Codes.{adder_content, runner_content}
use Rattle.drill_laws.proofs.Sections.{adder_content_short, code_length, drill_spelled, functions_length, runner_short, types_length}
use Rattle.drill_laws.proofs.Spellings.{sized_short, unsigned_short}

-- ---- the rules outside bodies

functions_keep : (s : Seen) (at n : ℕ) → s.types ≡ 2 → AllKeep s (function_items at n)
functions_keep s at zero types = (omega (arith, types), tt)
functions_keep s at (suc n) types = (omega (arith, types), functions_keep (record s { functions = s.functions + 1; declared = s.declared + 1 }) (at + 1) n types)

-- what is seen of them
functions_noted : (s : Seen) (at n : ℕ) → all_noted s (function_items at n) ≡ record s { functions = s.functions + (n + 1); declared = s.declared + (n + 1) }
functions_noted s at zero = refl
functions_noted s at (suc n) =
    let one : s.functions + 1 + (n + 1) ≡ s.functions + (suc n + 1) = omega arith in
    let other : s.declared + 1 + (n + 1) ≡ s.declared + (suc n + 1) = omega arith in
    functions_noted (record s { functions = s.functions + 1; declared = s.declared + 1 }) (at + 1) n ∙ ap (λ (k : ℕ). record s { functions = k; declared = s.declared + 1 + (n + 1) }) one
    ∙ ap (λ (k : ℕ). record s { functions = s.functions + (suc n + 1); declared = k }) other

bodies_keep : (at first count n : ℕ) → n ≤ 50000 → All (λ (b : Body). length b.bytes ≤ max_body) (bodies_from at first count n)
bodies_keep at first zero n most =
    let few = runner_short n in
    All-cons (λ (b : Body). length b.bytes ≤ max_body) (body_at at (runner_content n)) [] (omega (arith, few, most)) (All-nil (λ (b : Body). length b.bytes ≤ max_body))
bodies_keep at first (suc k) n most =
    let few = adder_content_short first in
    All-cons (λ (b : Body). length b.bytes ≤ max_body) (body_at at (adder_content first)) (bodies_from (at + length (adder first)) (first + 1) k n) (omega (arith, few))
    (bodies_keep (at + length (adder first)) (first + 1) k n most)

-- no data segments are counted
bodies_told : (counted : Bool) → false ≡ counted → (at first count n : ℕ) → All (λ (b : Body). b.counted ≡ counted) (bodies_from at first count n)
bodies_told counted none at first zero n = All-cons (λ (b : Body). b.counted ≡ counted) (body_at at (runner_content n)) [] none (All-nil (λ (b : Body). b.counted ≡ counted))
bodies_told counted none at first (suc k) n =
    All-cons (λ (b : Body). b.counted ≡ counted) (body_at at (adder_content first)) (bodies_from (at + length (adder first)) (first + 1) k n) none
    (bodies_told counted none (at + length (adder first)) (first + 1) k n)

module _ (n : ℕ) (most : n ≤ 50000) where
  -- after the types
  seen : Seen
  seen = note (note nothing (Signature 11 12 14 adder_type)) (Signature 16 17 18 runner_type)

  behind_functions_keep : (s : Seen) → s.names ≡ nothing.names → n < s.functions → SectionsKeep s (exports_section n ∷ code_section n ∷ [])
  behind_functions_keep s names low = (
    (omega arith, λ e. absurd (omega (arith, e))),
    ((omega arith, ap (λ (m : Names). is_some (maps.get m run_name)) names ∙ ap is_some (maps.get-empty (slice_cmp nat_cmp) run_name), low), tt),
    (bodies_keep (code_inside n + length (unsigned (n + 1))) 0 n n most, (tt, tt), tt),
  )

  sections_keep : SectionsKeep nothing (drill_sections n)
  unfolding seen
  sections_keep =
      let at = functions_inside n + length (unsigned (n + 1)) in
      let count = functions_count at n in (
        (omega arith, λ e. absurd (omega (arith, e))),
        ((omega arith, omega arith), ((omega arith, omega arith), tt)),
        (
          (omega (arith, count, most), λ e. omega (arith, count, most)),
          functions_keep seen at n refl,
          subst (λ (s : Seen). SectionsKeep s (exports_section n ∷ code_section n ∷ [])) (sym (functions_noted seen at n))
              (behind_functions_keep (record seen { functions = seen.functions + (n + 1); declared = seen.declared + (n + 1) }) refl (omega arith)),
        ),
      )

  short : length (drill_bytes n) ≤ max_module
  unfolding drill_bytes
  short =
      let all_types = length-append types (functions n ++ (exports n ++ code n)) in
      let all_functions = length-append (functions n) (exports n ++ code n) in
      let all_exports = length-append (exports n) (code n) in
      let types_are = types_length in
      let functions_are = sized_short (functions_content n) in
      let exports_are = sized_short (exports_content n) in
      let code_is = sized_short (code_content n) in
      let functions_few = functions_length n most in
      let exports_few = unsigned_short n in
      let code_few = code_length n most in
      omega (arith, all_types, all_functions, all_exports, types_are, functions_are, exports_are, code_is, functions_few, exports_few, code_few, most)

  matched : length (bodies_in (drill_sections n)) ≡ declared_count (items_in (drill_sections n))
  matched =
      let all = append-nil (all_bodies n) in
      let bodies = bodies_count (code_inside n + length (unsigned (n + 1))) 0 n n in
      ap length all ∙ bodies ∙ sym (all_declared n)

  told : All (λ (b : Body). b.counted ≡ is_some (data_count_of (drill_items n))) (bodies_in (drill_sections n))
  told =
      let counted = is_some (data_count_of (drill_items n)) in
      subst (All (λ (b : Body). b.counted ≡ counted)) (sym (append-nil (all_bodies n)))
      (bodies_told counted (sym (ap is_some (none_counted n))) (code_inside n + length (unsigned (n + 1))) 0 n n)

  pub are_sections : AreSectionsOf (drill_sections n) (drill_bytes n)
  are_sections = record {
    spelled = record {
      spelled = drill_spelled n most;
      ordered = (omega arith, (omega arith, (omega arith, (omega arith, tt))));
      matched = matched;
      counted = ap (λ (o : Option ℕ). agrees o (segment_count_of (drill_items n))) (none_counted n);
      told = told;
    };
    kept = record { short = short; each = sections_keep };
  }
