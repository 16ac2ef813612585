-- Where reading is in a code section, and what is still to come from there.
use Rattle.std.specs.Prelude.{ℕ, suc, ◌-◌, Bool, true, false, List, ◌++◌, length, Option, None, Some}
use Rattle.wasm_defs.specs.declared.fault.Refusal.{Refusal}
use Rattle.body_cutter.specs.Sections.{Given, ends, Faulty, with_part, goes_on, bodies_from, sized}

-- the index of the function after the last body's; how many bodies are to come, that in hand among them; the offsets of the
-- next byte and of the section's end; the offset of the size in hand, and its bytes that came; whether it is whole, the
-- size, and the body's bytes that came; and the first error
pub record Place : Type 0 where
  pub behind : ℕ
  pub count : ℕ
  pub at : ℕ
  pub end : ℕ
  pub size_at : ℕ
  pub size : List ℕ
  pub sized : Bool
  pub len : ℕ
  pub bytes : List ℕ
  pub stop : Option Refusal

-- from a size on, some bytes of which came
abbrev pub on_size : Place → List ℕ → Given
on_size p more = bodies_from (p.behind - p.count) p.count (record { at = p.size_at; rest = p.size ++ more; end = p.end })

-- from a body's first byte on, some bytes of which came
abbrev pub on_body : Place → List ℕ → Given
on_body p more =
    goes_on (sized p.size_at p.len (record { at = p.at - length p.bytes; rest = p.bytes ++ more; end = p.end }))
    (λ part d. with_part (p.behind - p.count) part (bodies_from (suc (p.behind - p.count)) (p.count - 1) d))

abbrev pub on_hand : Place → Bool → List ℕ → Given
on_hand p false more = on_size p more
on_hand p true more = on_body p more

abbrev pub unless_refused : Option Refusal → Given → Given
unless_refused None g = g
unless_refused (Some r) g = ends (Faulty r)

-- what is to come where these bytes come next
abbrev pub still : Place → List ℕ → Given
still p more = unless_refused p.stop (on_hand p p.sized more)
