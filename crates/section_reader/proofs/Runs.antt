-- The module's sections, one after the other: each takes a byte, so as many as there are bytes are enough.
use Rattle.std.proofs.Common.{◌≡◌, ℕ, ◌+◌, ◌-◌, length, ap, ◌∙◌, arith, add-one, inl, inr}
use Rattle.std.proofs.lemmas.Bool.{cases_eq}
use Rattle.wasm_defs.specs.Fields.{Cursor}
use Rattle.wasm_defs.specs.Entries.{Seen}
use Rattle.wasm_defs.specs.Outside.{or_section, sections_up_to, sections}
use Rattle.wasm_laws.proofs.Runs.{enough, or_same, no_bytes}

-- the sections from one offset on: none, or one and those after it
pub sections_are : (seen : Seen) (c : Cursor) → sections seen c ≡ or_section sections seen c c.rest
unfolding sections_up_to
sections_are seen c =
    ap (λ (n : ℕ). sections_up_to n seen c) (add-one (length c.rest))
    ∙ elim (cases_eq (length c.rest) 0) [
      | inl none ↦ no_bytes (sections_up_to (length c.rest)) sections seen c c.rest (omega arith)
      | inr some ↦ or_same (length c.rest - 1) (sections_up_to (length c.rest)) sections seen c c.rest (λ s d l. enough (length c.rest) (length d.rest + 1) s d (omega arith) (omega arith)) (omega arith)
    ]
