-- The rules don't ask which section came last, nor do items change that.
use Rattle.std.proofs.Common.{◌≡◌, ℕ, ◌+◌, List, [], ◌∷◌, None, Some, refl, ap, ◌∙◌, sym, arith}
use Rattle.wasm_defs.specs.declared.item.Extern.{Extern}
use Rattle.wasm_defs.specs.declared.item.Extern.TheVariants as extern
use Rattle.wasm_defs.specs.declared.item.Item.{Item}
use Rattle.wasm_defs.specs.declared.item.Item.TheVariants.{Signature, Exported, Code, Segment}
use Rattle.wasm_defs.specs.Context.{declared_count}
use Rattle.wasm_defs.specs.Entries.{Seen, note, space}
use Rattle.wasm_defs.specs.Items.{section_of, AllOf, Section, Payload, Custom, payload_items}
use Rattle.wasm_defs.specs.Rules.{Keeps, AllKeep, all_noted, IsSmall, SectionsKeep}
use Rattle.wasm_laws.proofs.Sorts.{notes, count_cons}

-- ---- rules

space_last : (s : Seen) (l : ℕ) (kind : Extern) → space (record s { last = l }) kind ≡ space s kind
space_last s l extern.Function = refl
space_last s l p = refl

keeps_last : (s : Seen) (l : ℕ) (x : Item) → Keeps s x → Keeps (record s { last = l }) x
keeps_last s l (Exported label kind index) h = (h.0, h.1, omega (arith, h.2, space_last s l kind.1))
keeps_last s l (Segment form None place bytes) h = h
keeps_last s l (Segment form (Some memory) place bytes) h = h
keeps_last s l p h = h

note_last : (s : Seen) (l : ℕ) (x : Item) → note (record s { last = l }) x ≡ record (note s x) { last = l }
note_last s l (Signature form params results ty) = refl
note_last s l p = refl

pub all_keep_last : (s : Seen) (l : ℕ) (xs : List Item) → AllKeep s xs → AllKeep (record s { last = l }) xs
all_keep_last s l [] h = tt
all_keep_last s l (x ∷ xs) h = (keeps_last s l x h.0, rw (note_last s l x) (all_keep_last (note s x) l xs h.1))

pub all_noted_last : (s : Seen) (l : ℕ) (xs : List Item) → all_noted (record s { last = l }) xs ≡ record (all_noted s xs) { last = l }
all_noted_last s l [] = refl
all_noted_last s l (x ∷ xs) = ap (λ (t : Seen). all_noted t xs) (note_last s l x) ∙ all_noted_last (note s x) l xs

pub small_last : (s : Seen) (l : ℕ) (p : Payload) → IsSmall s p → IsSmall (record s { last = l }) p
small_last s l (Custom name) h = h
small_last s l p h = h

pub sections_keep_last : (s : Seen) (l : ℕ) (xs : List Section) → SectionsKeep s xs → SectionsKeep (record s { last = l }) xs
sections_keep_last s l [] h = tt
sections_keep_last s l (x ∷ xs) h = (
  small_last s l x.payload h.0,
  all_keep_last s l (payload_items x.payload) h.1,
  rw (all_noted_last s l (payload_items x.payload)) (sections_keep_last (all_noted s (payload_items x.payload)) l xs h.2),
)

-- ---- what items add

pub all_last : (s : Seen) (xs : List Item) → (all_noted s xs).last ≡ s.last
all_last s [] = refl
all_last s (x ∷ xs) = all_last (note s x) xs ∙ (notes s x).last

pub all_declared : (s : Seen) (xs : List Item) → (all_noted s xs).declared ≡ s.declared + declared_count xs
all_declared s [] = omega arith
all_declared s (x ∷ xs) = omega (arith, all_declared (note s x) xs, (notes s x).declared, count_cons x xs)

-- only the code section's count counts
pub note_counted : (s : Seen) (x : Item) → (section_of x ≡ 11 → ⊥) → (note s x).counted ≡ s.counted
note_counted s (Code count end) h = absurd (h refl)
note_counted s p h = refl

pub all_counted : (id : ℕ) (s : Seen) (xs : List Item) → (id ≡ 11 → ⊥) → AllOf id xs → (all_noted s xs).counted ≡ s.counted
all_counted id s [] other h = refl
all_counted id s (x ∷ xs) other h = all_counted id (note s x) xs other h.1 ∙ note_counted s x (λ e. other (sym h.0 ∙ e))
