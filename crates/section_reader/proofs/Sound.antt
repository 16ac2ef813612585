-- Steps keep the counts within the offset.
use Rattle.std.proofs.Common.{◌≡◌, ℕ, ◌+◌, ◌<◌, ◌≤◌, eqb, length, arith, inl, inr}
use Rattle.std.proofs.lemmas.Bool.{cases_Bool}
use Rattle.wasm_defs.specs.declared.item.Item.{Item}
use Rattle.wasm_defs.specs.declared.item.Item.TheVariants as item
use Rattle.wasm_defs.specs.Fields.{Cursor}
use Rattle.wasm_defs.specs.Entries.{Seen, note}
use Rattle.wasm_defs.specs.Outside.{entered, inside}
use Rattle.section_reader.specs.Counts.{IsWithin, IsSound}

-- so many bytes at least were taken, and the number of all bytes stays
pub record Moved (least : ℕ) (c d : Cursor) : Type 0 where
  pub more : c.at + least ≤ d.at
  pub same : d.at + length d.rest ≡ c.at + length c.rest

within_more : (s : Seen) (a b : ℕ) → IsWithin s a → a ≤ b → IsWithin s b
within_more s a b w h = search arith

-- one item more, a byte more
within_note : (s : Seen) (x : Item) (a b : ℕ) → IsWithin s a → a < b → IsWithin (note s x) b
within_note s (item.Signature form params results ty) a b w h = search arith
within_note s (item.Imported from what kind type_index) a b w h = search arith
within_note s (item.Function type_index) a b w h = search arith
within_note s (item.Table element limits) a b w h = search arith
within_note s (item.Memory limits) a b w h = search arith
within_note s (item.Global ty mutable init) a b w h = search arith
within_note s (item.Exported label kind index) a b w h = search arith
within_note s (item.Start index) a b w h = search arith
within_note s (item.Element table place functions) a b w h = search arith
within_note s (item.Code count end) a b w h = search arith
within_note s (item.DataCount count) a b w h = search arith
within_note s (item.Passive form bytes) a b w h = search arith
within_note s (item.Segment form memory place bytes) a b w h = search arith

within_entered : (s : Seen) (id a : ℕ) → IsWithin s a → IsWithin (entered s id) a
within_entered s id a w =
    elim (cases_Bool (eqb id 0)) [
      | inl custom ↦ rw custom w
      | inr other ↦ rw other (record { types = w.types; functions = w.functions; declared = w.declared; tables = w.tables; memories = w.memories; globals = w.globals })
    ]

pub sound_moved : {least : ℕ} (s : Seen) (c d : Cursor) → IsSound s c → Moved least c d → IsSound s d
sound_moved s c d h m = record { counts = within_more s c.at d.at h.counts (omega (arith, m.more)); fits = omega (arith, h.fits, m.same) }

pub sound_entered : (s : Seen) (c : Cursor) (id end : ℕ) → IsSound s c → IsSound (entered s id) (inside c end)
sound_entered s c id end h = record { counts = within_entered s id c.at h.counts; fits = h.fits }

pub sound_noted : (s : Seen) (x : Item) (c d : Cursor) → IsSound s c → Moved 1 c d → IsSound (note s x) d
sound_noted s x c d h m = record { counts = within_note s x c.at d.at h.counts (omega (arith, m.more)); fits = omega (arith, h.fits, m.same) }
