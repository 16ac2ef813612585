-- The outline of a module (WebAssembly Core 1.0, 5.5): what is in it outside bodies, read from the left. It is the run of the
-- module, but that what follows the code section's count is passed over up to that section's end, whatever it is, and that
-- sections aren't reported.
use Rattle.std.specs.Prelude.{ℕ, zero, suc, ◌+◌, ◌==◌, List, [], ◌∷◌, length, if◌then◌else◌}
use Rattle.wasm_defs.specs.Fields.{Cursor, done}
use Rattle.wasm_defs.specs.Entries.{Seen, nothing, code}
use Rattle.wasm_defs.specs.Outside.{Row, row, listed, rest_of_section, header, entered, inside, Owed, Run, ends, runs_on, Next, contents, at_the_end, preamble, beginning}

-- the code section's count, and what follows it (5.5.13)
abbrev pub counted_code : Row
counted_code = record { front = λ s. done 1; entry = λ s. listed (code s); back = rest_of_section }

abbrev pub outline_row : ℕ → Row
outline_row id = if id == 11 then counted_code else row id

abbrev pub outline_section : Next → Next
outline_section next = λ seen c. runs_on (header seen c) (λ h d. contents (outline_row h.0) next (entered seen h.0) (inside d h.1))

abbrev pub or_outline : Next → Seen → Cursor → List ℕ → Run
or_outline next seen c [] = at_the_end seen
or_outline next seen c (b ∷ bytes) = outline_section next seen c

-- so many sections at most
unfoldable pub outline_up_to : ℕ → Next
outline_up_to zero = λ seen c. ends Owed
outline_up_to (suc n) = λ seen c. or_outline (outline_up_to n) seen c c.rest

-- each section takes a byte at least
abbrev pub outline_sections : Next
outline_sections = λ seen c. outline_up_to (length c.rest + 1) seen c

-- the items in order, and how reading ends
abbrev pub outline : List ℕ → Run
outline bytes = runs_on (preamble (beginning bytes)) (λ x c. outline_sections nothing c)
