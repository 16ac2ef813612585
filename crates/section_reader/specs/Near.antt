-- How many bytes an item leaves: no more than the last piece has, since what came before it completes none.
use Rattle.std.specs.Prelude.{◌≡◌, ◌≤◌, ◌⊎◌, ℕ, true, List, length}
use Rattle.wasm_defs.specs.Fields.{Cursor}
use Rattle.wasm_defs.specs.Entries.{Seen}
use Rattle.wasm_defs.specs.Outside.{Run}
use Rattle.wasm_laws.specs.Steadiness.{with_more}
use Rattle.section_reader.specs.declared.stage.Stage.{Stage}
use Rattle.section_reader.specs.Stages.{proceed, is_owing}

-- there are no more than so many bytes, or all but the last of so many complete nothing
abbrev pub IsNearIn : ℕ → (Cursor → Run) → Cursor → Type 0
IsNearIn most read c =
    (length c.rest ≤ most)
    ⊎ ((k : Cursor) × (more : List ℕ) × (c ≡ with_more k more) × (length more ≡ most) × (is_owing (read k).parts (read k).ending ≡ true))

abbrev pub IsNear : ℕ → Stage → Seen → Cursor → Type 0
IsNear most stage seen c = IsNearIn most (proceed stage seen) c
