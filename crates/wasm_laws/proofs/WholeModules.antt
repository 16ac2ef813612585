-- Modules of sections that keep the rules are read whole.
use Rattle.std.proofs.Common.{◌≡◌, ◌≤◌, ◌<◌, ℕ, zero, suc, ◌+◌, true, List, [], ◌∷◌, ◌++◌, length, map, refl, sym, ap, subst, ◌∙◌, append_assoc, arith, length-append}
use Rattle.std.proofs.lemmas.Bool.{ne_eqb}
use Rattle.wasm_defs.specs.Limits.{max_module}
use Rattle.wasm_defs.specs.Fields.{Read, Got, then_go, done, fixed}
use Rattle.wasm_defs.specs.Entries.{Seen, nothing}
use Rattle.wasm_defs.specs.Outside as outside
use Rattle.wasm_defs.specs.Outside.{Part, Row, row, position_of, header, entered, inside, no_end, Whole, Run, after_part, runs_on, Next, contents, section, or_section, sections_up_to, sections, magic, version, preamble, module_read}
use Rattle.wasm_defs.specs.Items.{each_is, u32_is, Section, Payload, Custom, Vector, Starting, Counting, Bodies, payload_id, payload_position, payload_is, section_is, payload_items, items_in, bodies_in, AreInOrder}
use Rattle.wasm_defs.specs.Rules.{AllKeep, all_noted, IsSmall, SectionsKeep}
use Rattle.wasm_laws.specs.Sections.{parts_of, parts_in, AreSectionsOf}
use Rattle.wasm_laws.proofs.Headers.{Follows}
use Rattle.wasm_laws.proofs.Positions.{position_again}
use Rattle.wasm_laws.proofs.Matched.{Matched, owes_nothing, after, after_last, after_keeps, match_after, follows_from, IsExpected, is_expected}
use Rattle.wasm_laws.proofs.Spelt.{cursor}
use Rattle.wasm_laws.proofs.SpeltFields.{fixed_read}
use Rattle.wasm_laws.proofs.SpeltRows.{vector_row}
use Rattle.wasm_laws.proofs.Lasts.{all_keep_last}
use Rattle.wasm_laws.proofs.Rereading.{prepend, header_read, vector_read, custom_read_whole, start_read_whole, count_read_whole, code_read_whole}

payload_read : (next : Next) (seen : Seen) (p : Payload) (at end : ℕ) (content back : List ℕ) → at + length content ≡ end → payload_is p at content → IsSmall seen p → AllKeep seen (payload_items p) → IsExpected seen p
    → contents (row (payload_position p)) next (entered seen (payload_position p)) (cursor at (content ++ back) end) ≡ prepend (parts_of p) (next (after seen p) (cursor end back no_end))
payload_read next seen (Custom name) at end content back e s small k bodies = custom_read_whole name next seen at end content back e s small
payload_read next seen (Vector id count items) at end content back e s small k bodies =
    let r = vector_row id s.0 in
    let t : Seen = record seen { last = id } in
    let same : entered seen id ≡ t = rw (ne_eqb id 0 (λ z. omega (arith, s.0.0))) refl in
    let c = cursor at (content ++ back) end in
    let whole = vector_read id r next count items t at end content back e s small bodies (all_keep_last seen id items k) in
    subst (λ (u : Seen). contents (row id) next u c ≡ prepend (map outside.Listed items) (next (all_noted u items) (cursor end back no_end))) (sym same)
    (ap (λ (w : Row). contents w next t c) r.is ∙ whole)
payload_read next seen (Starting index) at end content back e s small k bodies = start_read_whole index next (record seen { last = 8 }) at end content back e s k.0
payload_read next seen (Counting count) at end content back e s small k bodies = count_read_whole count next (record seen { last = 10 }) at end content back e s k.0
payload_read next seen (Bodies count stop listed) at end content back e s small k bodies =
    let same : stop ≡ end = omega (arith, s.0) in
    subst (λ (z : ℕ). contents (row 11) next (record seen { last = 11 }) (cursor at (content ++ back) z) ≡ prepend (parts_of (Bodies count stop listed)) (next (record seen { last = 11; counted = true }) (cursor z back no_end))) same
    (code_read_whole count stop listed next (record seen { last = 11 }) at content back s small bodies.2 bodies.0 bodies.1)

-- a section's header, and what it holds
section_read_at : (next : Next) (seen : Seen) (p : Payload) (offset at : ℕ) (f content back : List ℕ) → Follows seen (payload_position p) → u32_is (offset, length content) (at + 1) f → payload_is p (at + 1 + length f) content → IsSmall seen p → AllKeep seen (payload_items p) → IsExpected seen p → at + 1 + length f + length content ≤ max_module
    → section next seen (cursor at (payload_id p ∷ (f ++ (content ++ back))) no_end) ≡ prepend (parts_of p) (next (after seen p) (cursor (at + 1 + length f + length content) back no_end))
section_read_at next seen p offset at f content back follows size s small k bodies fits =
    let end = at + 1 + length f + length content in
    ap (λ (z : Read (ℕ × ℕ)). runs_on z (λ h d. contents (row h.0) next (entered seen h.0) (inside d h.1))) (header_read seen (payload_position p) (offset, length content) at f (content ++ back) follows fits size)
    ∙ payload_read next seen p (at + 1 + length f) end content back refl s small k bodies

-- ---- modules

-- a run that is whole, with these parts
abbrev IsWhole : List Part → Run → Type 0
IsWhole parts r = (s : Seen) × (r ≡ record { parts = parts; ending = Whole s })

-- sections that encode what follows are read whole, where fewer bytes than that follow
abbrev ReadsWhole : ℕ → Next → Type 0
ReadsWhole most next = (seen : Seen) (xs : List Section) (at : ℕ) (rest : List ℕ) → length rest < most → at + length rest ≤ max_module → each_is section_is xs at rest → AreInOrder seen.last xs → SectionsKeep seen xs → Matched seen (items_in xs) (bodies_in xs)
    → IsWhole (parts_in xs) (next seen (cursor at rest no_end))

part_whole : (at id : ℕ) (parts tail : List Part) (r later : Run) → r ≡ prepend parts later → IsWhole tail later → IsWhole (outside.Section at id ∷ (parts ++ tail)) (after_part (outside.Section at id) r)
part_whole at id parts tail r later e w = (w.0, ap (after_part (outside.Section at id)) (e ∙ ap (prepend parts) w.1))

or_read : (most : ℕ) (next : Next) → ReadsWhole most next → (seen : Seen) (x : Section) (xs : List Section) (at : ℕ) (rest : List ℕ) → length rest < suc most → at + length rest ≤ max_module → each_is section_is (x ∷ xs) at rest → AreInOrder seen.last (x ∷ xs) → SectionsKeep seen (x ∷ xs) → Matched seen (items_in (x ∷ xs)) (bodies_in (x ∷ xs))
    → IsWhole (parts_in (x ∷ xs)) (or_section next seen (cursor at rest no_end) rest)
or_read most next reads seen x xs at rest few fits s o k m =
    let p = x.payload in
    let id = payload_id p in
    let j = s.first in
    let sized = j.second in
    let f = sized.front in
    let content = sized.content in
    let one : length j.front ≡ 1 = ap length j.first.1 in
    let whole : rest ≡ id ∷ (f ++ (content ++ s.back)) =
    s.parts ∙ ap (λ (l : List ℕ). l ++ s.back) (j.parts ∙ ap (λ (l : List ℕ). l ++ j.back) j.first.1 ∙ ap (λ (l : List ℕ). id ∷ l) sized.parts) ∙ ap (λ (l : List ℕ). id ∷ l) (append_assoc f content s.back) in
    let place = at + 1 + length f + length content in
    let behind_front : at + length j.front ≡ at + 1 = omega arith in
    let len = ap length whole in
    let len_f = length-append f (content ++ s.back) in
    let len_content = length-append content s.back in
    let len_front : length s.front ≡ 1 + (length f + length content) = omega (arith, ap length s.parts, length-append s.front s.back) in
    let place_is : at + length s.front ≡ place = omega arith in
    let size : u32_is (x.size, length content) (at + 1) f = subst (λ (z : ℕ). u32_is (x.size, length content) z f) behind_front sized.size in
    let held : payload_is p (at + 1 + length f) content = subst (λ (z : ℕ). payload_is p (z + length f) content) behind_front sized.is in
    let tail : each_is section_is xs place s.back = subst (λ (z : ℕ). each_is section_is xs z s.back) place_is s.second in
    let follows = follows_from seen p (at + 1 + length f) content xs held o.0 o.1 m in
    let expected = is_expected seen p (at + 1 + length f) place content s.back xs held tail o.0 o.1 m in
    let read = section_read_at next seen p x.size at f content s.back follows size held k.0 k.1 expected (omega arith) in
    let later = reads (after seen p) xs place s.back (omega arith) (omega arith) tail (subst (λ (z : ℕ). AreInOrder z xs) (sym (after_last seen p (at + 1 + length f) content held)) o.1) (after_keeps seen p (at + 1 + length f) content xs held k.2) (match_after seen p (at + 1 + length f) content (items_in xs) (bodies_in xs) held o.0 m) in
    let position : position_of id ≡ payload_position p = position_again (payload_position p) in
    let all = part_whole at (position_of id) (parts_of p) (parts_in xs) _ _ read later in
    subst (λ (l : List ℕ). IsWhole (parts_in (x ∷ xs)) (or_section next seen (cursor at l no_end) l)) (sym whole)
    (subst (λ (z : ℕ × ℕ). IsWhole (outside.Section z.0 z.1 ∷ (parts_of p ++ parts_in xs)) (after_part (outside.Section at (position_of id)) (section next seen (cursor at (id ∷ (f ++ (content ++ s.back))) no_end)))) (λ i. (sym j.first.0 i, position i)) all)

ends_read : (next : Next) (seen : Seen) (at : ℕ) (rest : List ℕ) → rest ≡ [] → Matched seen [] [] → IsWhole [] (or_section next seen (cursor at rest no_end) rest)
ends_read next seen at rest e m =
    let none = owes_nothing seen m in
    subst (λ (l : List ℕ). IsWhole [] (or_section next seen (cursor at l no_end) l)) (sym e) (seen, rw none refl)

up_to_read : (n : ℕ) → ReadsWhole n (sections_up_to n)
unfolding sections_up_to
up_to_read zero seen xs at rest few fits s o k m = absurd (omega arith)
up_to_read (suc n) seen [] at rest few fits s o k m = ends_read (sections_up_to n) seen at rest s m
up_to_read (suc n) seen (x ∷ xs) at rest few fits s o k m = or_read n (sections_up_to n) (up_to_read n) seen x xs at rest few fits s o k m

preamble_read : (front mid back : List ℕ) → front ≡ magic → mid ≡ version → length (front ++ mid) ≤ no_end → (v : ℕ) × (preamble (cursor 0 (front ++ (mid ++ back)) no_end) ≡ Got v (cursor (0 + length front + length mid) back no_end))
unfolding preamble
preamble_read front mid back e g fits =
    let len = length-append front mid in
    let first = fixed_read magic 0 no_end front (mid ++ back) (omega arith) e in
    let second = fixed_read version (0 + length front) no_end mid back (omega arith) g in (
      0 + length front,
      ap (λ (z : Read ℕ). then_go z (λ m c. then_go (fixed version c) (λ v. done v))) first ∙ ap (λ (z : Read ℕ). then_go z (λ v. done v)) second,
    )

-- a module of sections that keep the rules is read whole
pub described_is_whole : (bytes : List ℕ) (xs : List Section) → AreSectionsOf xs bytes → (seen : Seen) × (module_read bytes ≡ record { parts = parts_in xs; ending = Whole seen })
described_is_whole bytes xs d =
    let j = d.spelled.spelled in
    let k = j.second in
    let whole : bytes ≡ j.front ++ (k.front ++ k.back) = j.parts ∙ ap (λ (l : List ℕ). j.front ++ l) k.parts in
    let place = 0 + length j.front + length k.front in
    let len_front = length-append j.front (k.front ++ k.back) in
    let len_back = length-append k.front k.back in
    let len = ap length whole in
    let short = d.kept.short in
    let begins = preamble_read j.front k.front k.back j.first k.first (omega (arith, length-append j.front k.front)) in
    let matched : Matched nothing (items_in xs) (bodies_in xs) = record { uncounted = λ lt. refl; same = λ lt. omega (arith, d.spelled.matched); count = λ lt. refl; segments = λ lt. d.spelled.counted; told = d.spelled.told } in
    let read = up_to_read (length k.back + 1) nothing xs place k.back (omega arith) (omega arith) k.second d.spelled.ordered d.kept.each matched in (
      read.0,
      ap module_read whole ∙ ap (λ (z : Read ℕ). runs_on z (λ v c. sections nothing c)) begins.1 ∙ read.1,
    )
