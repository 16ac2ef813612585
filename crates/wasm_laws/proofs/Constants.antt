-- The constants of globals are numbers of their types.
use Rattle.std.proofs.Common.{◌≡◌, ◌≢◌, ℕ, zero, suc, ◌+◌, ◌<◌, true, eqb, List, [], ◌∷◌, length, ap, sym, subst, inl, inr, is_some}
use Rattle.std.proofs.lemmas.Bool.{cases_Bool, cases_eq}
use Rattle.wasm_defs.proofs.NumberLaws.{AreBytes}
use Rattle.wasm_defs.specs.declared.item.Constant.{Constant}
use Rattle.wasm_defs.specs.declared.item.Item.{Item}
use Rattle.wasm_defs.specs.declared.item.Item.TheVariants.{Signature, Global}
use Rattle.wasm_defs.specs.declared.types.ValType.{ValType}
use Rattle.wasm_defs.specs.declared.types.ValType.TheVariants.{I32, I64}
use Rattle.wasm_defs.specs.Fields.{Cursor, Read, Got, Fault, Wants, byte, number}
use Rattle.wasm_defs.specs.Entries.{Seen, nothing, value_type, mutability, const_opcode, constant, global, code}
use Rattle.wasm_defs.specs.Faults.{items_of}
use Rattle.wasm_defs.specs.Items.{section_of}
use Rattle.wasm_defs.specs.Outside.{Part, Section, Listed, Coded, listed, body, code_entry, custom_name, row, header, entered, noted, inside, section_end, Run, after_part, runs_on, Next, finish, entries, contents, section, position_of, owes, at_the_end, or_section, sections_up_to, preamble, beginning, module_read}
use Rattle.wasm_defs.specs.Values.{bits}
use Rattle.wasm_laws.specs.Kept.{FitsType, ConstantsFit}
use Rattle.wasm_laws.specs.Sections as sections
use Rattle.wasm_laws.specs.Steadiness.{Advances, Leaves}
use Rattle.wasm_laws.proofs.Bytes.{each_byte}
use Rattle.wasm_laws.proofs.Steady.{IfGot, always}
use Rattle.wasm_laws.proofs.Windows.{byte_field}
use Rattle.wasm_laws.proofs.EntryLaws.{value_type_steady, mutability_steady, header_steady, preamble_steady}
use Rattle.wasm_laws.proofs.RowLaws.{row_steady, end_steady}
use Rattle.wasm_laws.proofs.Spelt.{bytes_behind}
use Rattle.wasm_laws.proofs.Ranges.{HasBytes, number_got, wide_number_got}
use Rattle.wasm_laws.proofs.Sorts.{IsItem, IsBody, listed_yields, body_yields}
use Rattle.wasm_laws.proofs.Parts.{then_got, got_both, got_map, either_got, refused_got}
use Rattle.wasm_laws.proofs.Headers.{Follows, header_tells}
use Rattle.wasm_laws.proofs.Sorted.{IsOf, row_is_sorted, code_sort, no_entries}

-- ---- bytes after what was read

bytes_later : {A : Type 0} (c : Cursor) (x : Read A) → Advances c x → HasBytes c → IfGot (λ a d. HasBytes d) x
bytes_later c (Got a d) p fits = bytes_behind p.taken d.rest (subst AreBytes p.parts fits)
bytes_later c (Fault r) p fits = tt
bytes_later c Wants p fits = tt

-- ---- globals

abbrev Fits : ValType → Constant → Cursor → Type 0
Fits ty k d = FitsType ty k.value.1

typed_number : (ty : ValType) (c : Cursor) → HasBytes c → IfGot (λ n d. FitsType ty n.1) (number true (bits ty) c)
typed_number I32 c fits = number_got c fits
typed_number I64 c fits = wide_number_got c fits

constant_got : (ty : ValType) (c : Cursor) → HasBytes c → IfGot (Fits ty) (constant ty c)
unfolding constant
constant_got ty c fits =
    then_got (λ opcode d. HasBytes d) (Fits ty) (byte c) _ (bytes_later c (byte c) ((byte_field.steady []).moves c) fits)
    (λ opcode d behind.
    elim (cases_Bool (eqb opcode.1 (const_opcode ty))) [
      | inr other ↦ rw other (refused_got (Fits ty) opcode d)
      | inl right ↦ rw right (then_got (λ n e. FitsType ty n.1) (Fits ty) (number true (bits ty) d) _ (typed_number ty d behind)
          (λ n e fit.
          then_got (λ b f. Unit {0}) (Fits ty) (byte e) _ (always (byte e))
          (λ b f t.
          elim (cases_Bool (eqb b.1 0x0B)) [
            | inr another ↦ rw another (refused_got (Fits ty) b f)
            | inl ended ↦ rw ended fit
          ])))
    ])

-- a global's constant is a number of its type
abbrev ItemFits : Item → Type 0
ItemFits (Global ty mutable init) = FitsType ty.1 init.value.1
ItemFits _ = Unit {0}

global_got : (seen : Seen) (c : Cursor) → HasBytes c → IfGot (λ x d. ItemFits x) (global seen c)
unfolding global
global_got seen c fits =
    then_got (λ ty d. HasBytes d) (λ x d. ItemFits x) (value_type c) _ (bytes_later c (value_type c) ((value_type_steady []).moves c) fits)
    (λ ty d behind.
    then_got (λ m e. HasBytes e) (λ x d. ItemFits x) (mutability d) _ (bytes_later d (mutability d) ((mutability_steady []).moves d) behind)
    (λ m e later. then_got (Fits ty.1) (λ x d. ItemFits x) (constant ty.1 e) _ (constant_got ty.1 e later) (λ k f fit. fit)))

other_fits : (k : ℕ) (x : Item) → k ≢ 6 → section_of x ≡ k → ItemFits x
other_fits k (Global ty mutable init) other e = absurd (other (sym e))
other_fits k (Signature form params results ty) other e = tt
other_fits k p other e = tt

-- ---- entries

abbrev PartFits : Part → Type 0
PartFits (Section at id) = Unit {0}
PartFits (Listed x) = ItemFits x
PartFits (Coded b) = Unit {0}

item_part_fits : (k : ℕ) (x : Part) → k ≢ 6 → IsItem (IsOf k) x → PartFits x
item_part_fits k (Section at id) other p = tt
item_part_fits k (Listed x) other p = other_fits k x other p
item_part_fits k (Coded b) other p = tt

body_part_fits : (x : Part) → IsBody x → PartFits x
body_part_fits (Section at id) p = tt
body_part_fits (Listed x) p = absurd p
body_part_fits (Coded b) p = tt

code_part_fits : (seen : Seen) (c : Cursor) → IfGot (λ x d. PartFits x) (code_entry seen c)
code_part_fits seen c =
    either_got (λ x d. PartFits x) seen.counted (body (is_some seen.data_count)) (listed (code seen)) c
    (λ e. got_map (λ x d. IsBody x) (λ x d. PartFits x) (body (is_some seen.data_count) c) (λ x d p. body_part_fits x p) ((body_yields (is_some seen.data_count)).got c))
    (λ e. got_map (λ x d. IsItem (IsOf 11) x) (λ x d. PartFits x) (listed (code seen) c) (λ x d p. item_part_fits 11 x (λ six. absurd cc) p) ((listed_yields (IsOf 11) (code seen) (code_sort seen)).got c))

-- the entries of a section that isn't custom
entry_fits : (k : ℕ) → k < 13 → k ≢ 0 → (seen : Seen) (c : Cursor) → HasBytes c → IfGot (λ x d. PartFits x) ((row k).entry seen c)
entry_fits k known some seen c fits =
    elim (cases_eq k 11) [
      | inl ten ↦ subst (λ (n : ℕ). IfGot (λ x d. PartFits x) ((row n).entry seen c)) (sym ten) (code_part_fits seen c)
      | inr items ↦
          elim (cases_eq k 6) [
            | inl six ↦
                subst (λ (n : ℕ). IfGot (λ x d. PartFits x) ((row n).entry seen c)) (sym six)
                (then_got (λ x d. ItemFits x) (λ x d. PartFits x) (global seen c) _ (global_got seen c fits) (λ x d h. h))
            | inr other ↦ got_map (λ x d. IsItem (IsOf k) x) (λ x d. PartFits x) ((row k).entry seen c) (λ x d p. item_part_fits k x other p) (((row_is_sorted k known some items).entry seen).got c)
          ]
    ]

-- ---- runs

record Fit (r : Run) : Type 0 where
  constants : ConstantsFit (items_of r.parts)

runs_fit : {A : Type 0} (P : A → Cursor → Type 0) (x : Read A) (f : A → Cursor → Run) → IfGot P x → ((a : A) (d : Cursor) → P a d → Fit (f a d)) → Fit (runs_on x f)
runs_fit P (Got a d) f p h = h a d p
runs_fit P (Fault r) f p h = record { constants = tt }
runs_fit P Wants f p h = record { constants = tt }

after_fits : (x : Part) (r : Run) → PartFits x → Fit r → Fit (after_part x r)
after_fits (Section at id) r p h = record { constants = h.constants }
after_fits (Coded b) r p h = record { constants = h.constants }
after_fits (Listed (Global ty mutable init)) r p h = record { constants = (p, h.constants) }
after_fits (Listed x) r p h = record { constants = h.constants }

abbrev RunsFit : Next → Type 0
RunsFit next = (seen : Seen) (c : Cursor) → HasBytes c → Fit (next seen c)

end_bytes : (c : Cursor) (x : Read (Unit {0})) → Leaves c x → HasBytes c → IfGot (λ a d. HasBytes d) x
end_bytes c (Got a d) p fits = subst AreBytes (sym (ap (λ (y : Cursor). y.rest) p.1)) fits
end_bytes c (Fault r) p fits = tt
end_bytes c Wants p fits = tt

module _ (id : ℕ) (next : Next) (rest : RunsFit next) where
  finish_fits : RunsFit (finish (row id) next)
  finish_fits seen c fits =
      runs_fit (λ x d. HasBytes d) ((row id).back c) _ (bytes_later c ((row id).back c) ((row_steady id).back.moves c) fits)
      (λ x d behind. runs_fit (λ y e. HasBytes e) (section_end d) _ (end_bytes d (section_end d) (end_steady.leaves d) behind) (λ y e later. rest seen e later))

  module _ (known : id < 13) (some : id ≢ 0) where
    entries_fit : (n : ℕ) → RunsFit (entries n (row id) next)
    entries_fit zero seen c fits = finish_fits seen c fits
    entries_fit (suc n) seen c fits =
        runs_fit (λ x d. PartFits x × HasBytes d) ((row id).entry seen c) _
        (got_both (λ x d. PartFits x) (λ x d. HasBytes d) ((row id).entry seen c) (entry_fits id known some seen c fits) (bytes_later c ((row id).entry seen c) (((row_steady id).entry seen).moves c) fits))
        (λ x d p. after_fits x (entries n (row id) next (noted seen x) d) p.0 (entries_fit n (noted seen x) d p.1))

    contents_fit : RunsFit (contents (row id) next)
    contents_fit seen c fits =
        runs_fit (λ n d. HasBytes d) ((row id).front seen c) _ (bytes_later c ((row id).front seen c) (((row_steady id).front seen).moves c) fits) (λ n d behind. entries_fit n seen d behind)

custom_fits : (next : Next) → RunsFit next → RunsFit (contents (row 0) next)
custom_fits next rest seen c fits =
    runs_fit (λ n d. (n ≡ 0) × HasBytes d) (custom_name c) _
    (got_both (λ n d. n ≡ 0) (λ n d. HasBytes d) (custom_name c) (no_entries c) (bytes_later c (custom_name c) (((row_steady 0).front seen).moves c) fits))
    (λ n d p. subst (λ (k : ℕ). Fit (entries k (row 0) next seen d)) (sym p.0) (finish_fits 0 next rest seen d p.1))

section_fits : (next : Next) → RunsFit next → RunsFit (section next)
section_fits next rest seen c fits =
    runs_fit (λ h d. Follows seen h.0 × HasBytes d) (header seen c) _
    (got_both (λ h d. Follows seen h.0) (λ h d. HasBytes d) (header seen c) (header_tells seen c) (bytes_later c (header seen c) ((header_steady [] seen).moves c) fits))
    (λ h d p.
    elim (cases_eq h.0 0) [
      | inl custom ↦ subst (λ (n : ℕ). Fit (contents (row n) next (entered seen h.0) (inside d h.1))) (sym custom) (custom_fits next rest (entered seen h.0) (inside d h.1) p.1)
      | inr some ↦ contents_fit h.0 next rest p.0.known some (entered seen h.0) (inside d h.1) p.1
    ])

ends_fit : (seen : Seen) → Fit (at_the_end seen)
ends_fit seen = elim (cases_Bool (owes seen)) [ inl owed ↦ rw owed (record { constants = tt }) | inr none ↦ rw none (record { constants = tt }) ]

or_fits : (next : Next) → RunsFit next → (seen : Seen) (c : Cursor) (rest : List ℕ) → HasBytes c → Fit (or_section next seen c rest)
or_fits next h seen c [] fits = ends_fit seen
or_fits next h seen c (b ∷ rest) fits = after_fits (Section c.at (position_of b)) (section next seen c) tt (section_fits next h seen c fits)

up_to_fit : (n : ℕ) → RunsFit (sections_up_to n)
unfolding sections_up_to
up_to_fit zero seen c fits = record { constants = tt }
up_to_fit (suc n) seen c fits = or_fits (sections_up_to n) (up_to_fit n) seen c c.rest fits

pub constants_fit : (bytes : List ℕ) → sections.AreBytes bytes → ConstantsFit (items_of (module_read bytes).parts)
constants_fit bytes fits =
    (runs_fit (λ v c. HasBytes c) (preamble (beginning bytes)) _ (bytes_later (beginning bytes) (preamble (beginning bytes)) ((preamble_steady []).moves (beginning bytes)) (each_byte bytes fits))
    (λ v c behind. up_to_fit (length c.rest + 1) nothing c behind)).constants
