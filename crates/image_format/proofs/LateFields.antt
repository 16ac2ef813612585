-- Behind a field that is found wrong late no image goes on.
use Rattle.std.proofs.Common.{◌≡◌, ◌⊎◌, ℕ, zero, suc, ◌+◌, ◌-◌, ◌*◌, ◌%◌, ◌^◌, ◌<◌, ◌≤◌, Bool, true, ◌&&◌, cond, leb, ltb, eqb, List, [], ◌∷◌, ◌++◌, length, Result, Ok, Err, inl, inr, refl, sym, ap, subst, ◌∙◌, append_assoc, arith, lit<}
use Rattle.std.specs.List.{flat_map}
use Rattle.std.proofs.lemmas.Bool.{leb-true}
use Rattle.std.proofs.lemmas.Bool.Decides.{Decides-and, Decides-ltb, Decides-eqb}
use Rattle.std.proofs.lemmas.List.{append-nil}
use Rattle.std.proofs.lemmas.List.Concat.{flat_map-cons}
use Rattle.std.proofs.lemmas.List.Sums.{fold_push}
use Rattle.image_format.specs.declared.limits.TheConstants.{TEXT_WORDS, LIST_ITEMS, PAGE_BYTES, SEGMENT_BYTES, MAGIC}
use Rattle.image_format.specs.declared.fault.Fault.{Fault}
use Rattle.image_format.specs.declared.fault.Fault.TheVariants.{At}
use Rattle.image_format.specs.declared.version.Version.{Version}
use Rattle.image_format.specs.declared.version.Version.TheVariants.{One, Two, Three}
use Rattle.image_format.specs.declared.image.Segment.{Segment}
use Rattle.image_format.specs.declared.image.Export.{Export}
use Rattle.image_format.specs.declared.image.TrapPlace.{TrapPlace}
use Rattle.image_format.specs.Versions.{most_pages}
use Rattle.image_format.specs.Bounds.{Each, bytes_of, SegmentFits, bound_of, PlaceFits, ArePlaces}
use Rattle.image_format.specs.Contents.{Image, IsImage}
use Rattle.image_format.specs.ImageBytes as spell
use Rattle.image_format.specs.Beginnings.{BeginsImage, HasManyPages, HasFarSegment, HasManySites, IsLate}
use Rattle.image_format.specs.Reading.{Reader, ◌>>=◌, ◌▹◌, each, listed_at, u32_at, at_most, version_at, text_at, globals_at, table_at, cap_at, segment_length_at, run_at, segment_at, segments_at, imports_at, exports_at, offset_at, flag_at, trap_offset_at, place_at, places_at, passive_at, contents, fields_at, image_at}
use Rattle.image_format.proofs.Readers.{Field, bind_ok, guard_ok, ok_is}
use Rattle.image_format.proofs.Fields.{FromSites, FromStart, FromImports, FromCap, FromTable, Decides-leb, field_u32, field_at_most, field_exactly, field_version, field_text, field_globals, field_table, field_cap, field_segment, field_segments, field_imports, field_exports, field_offset, field_flag, field_place, field_image}
use Rattle.image_format.proofs.Placed.{pages_are_few}

-- a reader gives a value of these bytes
abbrev Reads : {A : Type 0} → Reader A → List ℕ → Type 0
Reads {A} read bytes = (x : A × List ℕ) × (read bytes ≡ Ok x)

-- the first of two fields is spelled: the second one is read from what follows
behind : {A B : Type 0} {P : A → Type 0} {s : A → List ℕ} {p : Reader A} (q : A → Reader B) → Field P s p → (x : A) → P x → (rest : List ℕ)
    → Reads (p ▹ q) (s x ++ rest) → Reads (q x) rest
behind {A} {B} {P} {s} {p} q field x fits rest (z, e) =
    let next : (q x rest >>= λ y. Ok ((x, y.0), y.1)) ≡ Ok z = sym (ap (λ (r : Result (A × List ℕ) Fault). r >>= λ x. q x.0 x.1 >>= λ y. Ok ((x.0, y.0), y.1)) (field.again x rest fits)) ∙ e in
    let y = bind_ok (q x rest) (λ y. Ok ((x, y.0), y.1)) z next in
    (y.0, y.1)

first_of_two : {A B : Type 0} (p : Reader A) (q : A → Reader B) (bytes : List ℕ) → Reads (p ▹ q) bytes → Reads p bytes
first_of_two p q bytes (z, e) = let x = bind_ok (p bytes) (λ x. q x.0 x.1 >>= λ y. Ok ((x.0, y.0), y.1)) z e in (x.0, x.1)

seen : {A B : Type 0} (f : A → B) (p : Reader A) (bytes : List ℕ) (z : B × List ℕ) → (p bytes >>= λ x. Ok (f x.0, x.1)) ≡ Ok z → Reads p bytes
seen f p bytes z e = let x = bind_ok (p bytes) (λ x. Ok (f x.0, x.1)) z e in (x.0, x.1)

passed : {A : Type 0} (test : A → Bool) (p : Reader A) (bytes : List ℕ) (z : A × List ℕ)
    → (p bytes >>= λ x. cond (test x.0) (Ok x) (Err (At (length bytes)))) ≡ Ok z → test z.0 ≡ true
passed test p bytes z e =
    let x = bind_ok (p bytes) (λ x. cond (test x.0) (Ok x) (Err (At (length bytes)))) z e in
    let g = guard_ok (test x.0.0) (At (length bytes)) x.0 z x.2 in
    subst (λ (y : _). test y.0 ≡ true) g.1 g.0

-- ---- all fields from one on

module _ (v : Version) (words : ℕ) where
  abbrev sites_on : Reader FromSites
  sites_on = places_at v words ▹ λ _. passive_at v

  abbrev flag_on : Reader (Bool × FromSites)
  flag_on = flag_at ▹ λ _. sites_on

  abbrev start_on : Reader FromStart
  start_on = offset_at words ▹ λ _. flag_on

  abbrev exports_on : Reader (List Export × FromStart)
  exports_on = exports_at words ▹ λ _. start_on

  abbrev imports_on : Reader FromImports
  imports_on = imports_at ▹ λ _. exports_on

  abbrev segments_on : ℕ → Reader (List Segment × FromImports)
  segments_on pages = segments_at pages ▹ λ _. imports_on

  abbrev cap_on : ℕ → Reader FromCap
  cap_on pages = cap_at v pages ▹ λ _. segments_on pages

  abbrev pages_on : Reader (ℕ × FromCap)
  pages_on = u32_at ▹ λ pages. cap_on pages

  abbrev table_on : Reader FromTable
  table_on = table_at ▹ λ _. pages_on

  abbrev globals_on : Reader (List ℕ × FromTable)
  globals_on = globals_at v ▹ λ _. table_on

abbrev text_on : Version → Reader (List ℕ × (List ℕ × FromTable))
text_on v = text_at ▹ λ text. globals_on v (length text)

abbrev version_on : Reader (Version × (List ℕ × (List ℕ × FromTable)))
version_on = version_at ▹ λ v. text_on v

-- ---- items that are spelled

module _ {A : Type 0} {P : List A → A → Type 0} {s : A → List ℕ} {item : List A → Reader A} (field : (front : List A) → Field (P front) s (item front)) where
  each_behind : (m n : ℕ) (front xs : List A) (rest : List ℕ) → m ≡ length xs + n → Each P front xs
      → each item m front (flat_map s xs ++ rest) ≡ each item n (front ++ xs) rest
  unfolding each
  each_behind m n front [] rest e fits =
      let same : m ≡ n = omega arith in
      ap (λ (k : ℕ). each item k front rest) same ∙ ap (λ (l : List A). each item n l rest) (sym (append-nil front))
  each_behind zero n front (x ∷ xs) rest e fits = absurd (omega arith)
  each_behind (suc m) n front (x ∷ xs) rest e fits =
      let regrouped : flat_map s (x ∷ xs) ++ rest ≡ s x ++ (flat_map s xs ++ rest) = ap (λ (t : List ℕ). t ++ rest) (flat_map-cons s x xs) ∙ append_assoc (s x) (flat_map s xs) rest in
      ap (each item (suc m) front) regrouped
      ∙ ap (λ (r : Result (A × List ℕ) Fault). r >>= λ y. each item m (front ++ y.0 ∷ []) y.1) ((field front).again x (flat_map s xs ++ rest) fits.0)
      ∙ each_behind m n (front ++ x ∷ []) xs rest (omega arith) fits.1
      ∙ ap (λ (l : List A). each item n l rest) (append_assoc front (x ∷ []) xs)

  next_item : (n : ℕ) (front : List A) (bytes : List ℕ) → Reads (each item (suc n) front) bytes
      → (x : A × List ℕ) × (item front bytes ≡ Ok x) × Reads (each item n (front ++ x.0 ∷ [])) x.1
  unfolding each
  next_item n front bytes (z, e) = let x = bind_ok (item front bytes) (λ x. each item n (front ++ x.0 ∷ []) x.1) z e in (x.0, x.1, (z, x.2))

-- ---- pages

cap_within : (v : Version) (pages : ℕ) (bytes : List ℕ) → Reads (cap_at v pages) bytes → pages ≤ most_pages v
unfolding cap_at
cap_within v pages bytes (z, e) =
    let t = passed (λ cap. leb cap (most_pages v) && leb pages cap) u32_at bytes z e in
    let b = (Decides-and (leb z.0 (most_pages v)) (leb pages z.0) (Decides-leb z.0 (most_pages v)) (Decides-leb pages z.0)).0 t in
    omega arith

-- ---- segments

address_within : (pages used address : ℕ) (bytes : List ℕ) → address < 2 ^ 32 → Reads (segment_at pages used) (spell.u32 address ++ bytes)
    → address ≤ pages * PAGE_BYTES
unfolding segment_at segment_length_at
address_within pages used address bytes small (z, e) =
    let both = seen (λ (x : ℕ × (ℕ × List ℕ)). record { place = x.0; bytes = x.1.1 }) (u32_at ▹ λ place. segment_length_at pages used place ▹ run_at) (spell.u32 address ++ bytes) z e in
    let length_on = behind (λ place. segment_length_at pages used place ▹ run_at) field_u32 address small bytes both in
    let n = first_of_two (segment_length_at pages used address) run_at bytes length_on in
    let t = passed (λ n. leb (address + n) (pages * PAGE_BYTES) && leb (used + n) SEGMENT_BYTES) u32_at bytes n.0 n.1 in
    let b = (Decides-and (leb (address + n.0.0) (pages * PAGE_BYTES)) (leb (used + n.0.0) SEGMENT_BYTES) (Decides-leb _ _) (Decides-leb _ _)).0 t in
    omega arith

abbrev segment_item : ℕ → List Segment → Reader Segment
segment_item pages front = segment_at pages (bytes_of front)

segments_within : (pages count m : ℕ) (front : List Segment) (address : ℕ) (bytes : List ℕ) → count ≤ LIST_ITEMS → count ≡ length front + suc m
    → Each (SegmentFits pages) [] front → address < 2 ^ 32
    → Reads (segments_at pages) (spell.u32 count ++ (flat_map spell.segment front ++ (spell.u32 address ++ bytes))) → address ≤ pages * PAGE_BYTES
unfolding segments_at
segments_within pages count m front address bytes few number fit small (z, e) =
    let rest = spell.u32 address ++ bytes in
    let both = seen (λ (x : ℕ × List Segment). x.1) (at_most LIST_ITEMS ▹ λ n. each (segment_item pages) n []) (spell.u32 count ++ (flat_map spell.segment front ++ rest)) z e in
    let items = behind (λ n. each (segment_item pages) n []) (field_at_most LIST_ITEMS) count (omega arith, few) (flat_map spell.segment front ++ rest) both in
    let next = next_item (field_segment pages) m front rest (items.0, sym (each_behind (field_segment pages) count (suc m) [] front rest number fit) ∙ items.1) in
    address_within pages (bytes_of front) address bytes small (next.0, next.1)

-- ---- trap sites

site_within : (words bound : ℕ) (bytes : List ℕ) (x : TrapPlace × List ℕ) → place_at words bound bytes ≡ Ok x
    → (x.0.offset % 4 ≡ 0) × (x.0.offset < 4 * words) × (bound ≤ x.0.offset)
unfolding place_at trap_offset_at offset_at
site_within words bound bytes x e =
    let numbers : Reader (ℕ × ℕ) = u32_at ▹ λ _. u32_at in
    let site : ℕ × (ℕ × ℕ) → TrapPlace = λ y. record { offset = y.0; function = y.1.0; module_offset = y.1.1 } in
    let a = bind_ok ((trap_offset_at words bound ▹ λ _. numbers) bytes) (λ y. Ok (site y.0, y.1)) x e in
    let b = bind_ok (trap_offset_at words bound bytes) (λ y. numbers y.1 >>= λ z. Ok ((y.0, z.0), z.1)) a.0 a.1 in
    let c = bind_ok (numbers b.0.1) (λ z. Ok ((b.0.0, z.0), z.1)) a.0 b.2 in
    let same : b.0.0 ≡ x.0.offset =
    ap (λ (y : (ℕ × (ℕ × ℕ)) × List ℕ). y.0.0) (ok_is ((b.0.0, c.0.0), c.0.1) a.0 c.2) ∙ ap (λ (y : TrapPlace × List ℕ). y.0.offset) (ok_is (site a.0.0, a.0.1) x a.2) in
    let rises : leb bound b.0.0 ≡ true = passed (λ n. leb bound n) (offset_at words) bytes b.0 b.1 in
    let d = bind_ok (offset_at words bytes) (λ y. cond (leb bound y.0) (Ok y) (Err (At (length bytes)))) b.0 b.1 in
    let g = guard_ok (leb bound d.0.0) (At (length bytes)) d.0 b.0 d.2 in
    let t = passed (λ n. eqb (n % 4) 0 && ltb n (4 * words)) u32_at bytes d.0 d.1 in
    let both = (Decides-and (eqb (d.0.0 % 4) 0) (ltb d.0.0 (4 * words)) (Decides-eqb (d.0.0 % 4) 0) (Decides-ltb d.0.0 (4 * words))).0 t in
    let offset : d.0.0 ≡ x.0.offset = ap (λ (y : ℕ × List ℕ). y.0) g.1 ∙ same in
    (sym (ap (λ (n : ℕ). n % 4) offset) ∙ both.0, omega (arith, both.1, offset), omega (arith, leb-true _ _ rises, same))

-- what a bound is: the byte after a word's first one, or the beginning
abbrev IsBound : (words bound : ℕ) → Type 0
IsBound words bound = ((bound ≡ 0) ⊎ (bound % 4 ≡ 1)) × (bound ≤ 4 * words)

next_bound : (words : ℕ) (front : List TrapPlace) (x : TrapPlace) → x.offset % 4 ≡ 0 → x.offset < 4 * words → IsBound words (bound_of (front ++ x ∷ []))
next_bound words front x e less =
    let is : bound_of (front ++ x ∷ []) ≡ x.offset + 1 = fold_push (λ (_ : ℕ) (q : TrapPlace). q.offset + 1) 0 front x in
    (inr (omega (arith, is, e)), omega (arith, is))

bound_is : (words : ℕ) (front xs : List TrapPlace) → Each (PlaceFits words) front xs → IsBound words (bound_of front) → IsBound words (bound_of (front ++ xs))
bound_is words front [] fits h = subst (λ (l : List TrapPlace). IsBound words (bound_of l)) (sym (append-nil front)) h
bound_is words front (x ∷ xs) fits h =
    subst (λ (l : List TrapPlace). IsBound words (bound_of l)) (append_assoc front (x ∷ []) xs) (bound_is words (front ++ x ∷ []) xs fits.1 (next_bound words front x fits.0.offset.1 fits.0.offset.2))

abbrev site_item : ℕ → List TrapPlace → Reader TrapPlace
site_item words front = place_at words (bound_of front)

sites_fit : (words n : ℕ) (front : List TrapPlace) (bytes : List ℕ) → IsBound words (bound_of front) → Reads (each (site_item words) n front) bytes
    → bound_of front + 4 * n ≤ 4 * words
sites_fit words zero front bytes bound read = omega (arith, bound.1)
sites_fit words (suc n) front bytes bound read =
    let next = next_item (field_place words) n front bytes read in
    let x = next.0.0 in
    let within = site_within words (bound_of front) bytes next.0 next.1 in
    let is : bound_of (front ++ x ∷ []) ≡ x.offset + 1 = fold_push (λ (_ : ℕ) (q : TrapPlace). q.offset + 1) 0 front x in
    let more = sites_fit words n (front ++ x ∷ []) next.0.1 (next_bound words front x within.0 within.1) next.2 in
    elim bound.0 [
      | inl none ↦ omega (arith, none, within.0, within.1, within.2, is, more)
      | inr some ↦ omega (arith, some, within.0, within.1, within.2, is, more)
    ]

listed_sites : (words left : ℕ) (front : List TrapPlace) (bytes : List ℕ) → words ≤ TEXT_WORDS → length front + left ≤ words → Each (PlaceFits words) [] front
    → Reads (listed_at (at_most words) (site_item words)) (spell.u32 (length front + left) ++ (flat_map spell.place front ++ bytes)) → bound_of front + 4 * left ≤ 4 * words
listed_sites words left front bytes short few fit (z, e) =
    let count = length front + left in
    let both = seen (λ (x : ℕ × List TrapPlace). x.1) (at_most words ▹ λ n. each (site_item words) n []) (spell.u32 count ++ (flat_map spell.place front ++ bytes)) z e in
    let items = behind (λ n. each (site_item words) n []) (field_at_most words) count (omega arith, few) (flat_map spell.place front ++ bytes) both in
    sites_fit words left front bytes (bound_is words [] front fit (inl refl, omega arith)) (items.0, sym (each_behind (field_place words) count left [] front bytes refl fit) ∙ items.1)

sites_within : (v : Version) (words left : ℕ) (front : List TrapPlace) (bytes : List ℕ) → words ≤ TEXT_WORDS → length front + left ≤ words
    → ArePlaces v words front
    → Reads (places_at v words) (spell.u32 (length front + left) ++ (flat_map spell.place front ++ bytes)) → bound_of front + 4 * left ≤ 4 * words
unfolding places_at
sites_within One words left front bytes short few fit read =
    let none : bound_of front ≡ 0 = ap bound_of fit in
    omega (arith, none, ap length fit)
sites_within Two words left front bytes short few fit read = listed_sites words left front bytes short few fit.1 read
sites_within Three words left front bytes short few fit read = listed_sites words left front bytes short few fit.1 read

-- ---- the fields before

module _ (i : Image) (fits : IsImage i) where
  after_table : (r : List ℕ)
      → Reads fields_at (spell.u32 MAGIC ++ (spell.version i.version ++ (spell.listed spell.u32 i.text ++ (spell.listed spell.u64 i.globals ++ (spell.listed spell.row i.table ++ r))))) → Reads (pages_on i.version (length i.text)) r
  unfolding fields_at
  after_table r read =
      let table = spell.listed spell.row i.table ++ r in
      let globals = spell.listed spell.u64 i.globals ++ table in
      let text = spell.listed spell.u32 i.text ++ globals in
      let a = behind (λ _. version_on) (field_exactly MAGIC) MAGIC (lit< tt, refl) (spell.version i.version ++ text) read in
      let b = behind text_on field_version i.version tt text a in
      let c = behind (λ t. globals_on i.version (length t)) field_text i.text fits.text globals b in
      let d = behind (λ _. table_on i.version (length i.text)) (field_globals i.version) i.globals fits.globals table c in
      behind (λ _. pages_on i.version (length i.text)) field_table i.table fits.table r d

  after_pages : (pages : ℕ) (r : List ℕ) → pages < 2 ^ 32
      → Reads fields_at (spell.u32 MAGIC ++ (spell.version i.version ++ (spell.listed spell.u32 i.text ++ (spell.listed spell.u64 i.globals ++ (spell.listed spell.row i.table ++ (spell.u32 pages ++ r))))))
      → Reads (cap_on i.version (length i.text) pages) r
  after_pages pages r small read = behind (λ p. cap_on i.version (length i.text) p) field_u32 pages small r (after_table (spell.u32 pages ++ r) read)

  after_cap : (r : List ℕ)
      → Reads fields_at (spell.u32 MAGIC ++ (spell.version i.version ++ (spell.listed spell.u32 i.text ++ (spell.listed spell.u64 i.globals ++ (spell.listed spell.row i.table ++ (spell.u32 i.pages ++ (spell.u32 i.cap ++ r)))))))
      → Reads (segments_on i.version (length i.text) i.pages) r
  after_cap r read =
      let few = pages_are_few i.version in
      behind (λ _. segments_on i.version (length i.text) i.pages) (field_cap i.version i.pages) i.cap (omega (arith, fits.cap, few), (fits.cap, fits.pages)) r
      (after_pages i.pages (spell.u32 i.cap ++ r) (omega (arith, fits.pages, fits.cap, few)) read)

  after_flag : (r : List ℕ)
      → Reads (segments_on i.version (length i.text) i.pages) (spell.listed spell.segment i.segments ++ (spell.listed spell.import i.imports ++ (spell.listed spell.export i.exports ++ (spell.u32 i.start ++ (spell.u32 (spell.flag i.unlinkable) ++ r)))))
      → Reads (sites_on i.version (length i.text)) r
  after_flag r read =
      let flag = spell.u32 (spell.flag i.unlinkable) ++ r in
      let start = spell.u32 i.start ++ flag in
      let exports = spell.listed spell.export i.exports ++ start in
      let a = behind (λ _. imports_on i.version (length i.text)) (field_segments i.pages) i.segments fits.segments (spell.listed spell.import i.imports ++ exports) read in
      let b = behind (λ _. exports_on i.version (length i.text)) field_imports i.imports fits.imports exports a in
      let c = behind (λ _. start_on i.version (length i.text)) (field_exports (length i.text)) i.exports fits.exports start b in
      let d = behind (λ _. flag_on i.version (length i.text)) (field_offset (length i.text)) i.start fits.start flag c in
      behind (λ _. sites_on i.version (length i.text)) field_flag i.unlinkable tt r d

-- ---- none of them begins an image

begun_reads : (prefix bytes : List ℕ) → (b : BeginsImage prefix) → prefix ++ b.more ≡ bytes → Reads fields_at bytes
unfolding image_at
begun_reads prefix bytes b e =
    let read : image_at bytes ≡ Ok (b.image, []) = ap image_at (sym e ∙ sym b.spelled ∙ sym (append-nil (spell.spelling b.image))) ∙ field_image.again b.image [] b.bounded in
    seen contents fields_at bytes (b.image, []) read

pages_end : (prefix : List ℕ) → HasManyPages prefix → BeginsImage prefix → ⊥
pages_end prefix late b =
    let i = late.image in
    let is : prefix ++ b.more ≡ spell.u32 MAGIC ++ (spell.version i.version ++ (spell.listed spell.u32 i.text ++ (spell.listed spell.u64 i.globals ++ (spell.listed spell.row i.table ++ (spell.u32 late.pages ++ b.more))))) =
    ap (λ (l : List ℕ). l ++ b.more) late.is ∙ simp append_assoc in
    let read = after_pages i late.bounded late.pages b.more late.number (begun_reads prefix _ b is) in
    let cap = first_of_two (cap_at i.version late.pages) (λ _. segments_on i.version (length i.text) late.pages) b.more read in
    omega (arith, cap_within i.version late.pages b.more cap, late.many)

segment_ends : (prefix : List ℕ) → HasFarSegment prefix → BeginsImage prefix → ⊥
segment_ends prefix late b =
    let i = late.image in
    let r = spell.u32 late.count ++ (flat_map spell.segment i.segments ++ (spell.u32 late.address ++ b.more)) in
    let is : prefix ++ b.more ≡ spell.u32 MAGIC ++ (spell.version i.version ++ (spell.listed spell.u32 i.text ++ (spell.listed spell.u64 i.globals ++ (spell.listed spell.row i.table ++ (spell.u32 i.pages ++ (spell.u32 i.cap ++ r)))))) =
    ap (λ (l : List ℕ). l ++ b.more) late.is ∙ simp append_assoc in
    let read = after_cap i late.bounded r (begun_reads prefix _ b is) in
    let segments = first_of_two (segments_at i.pages) (λ _. imports_on i.version (length i.text)) r read in
    let left = late.count - suc (length i.segments) in
    let number : late.count ≡ length i.segments + suc left = omega (arith, late.to_come) in
    omega (arith, segments_within i.pages late.count left i.segments late.address b.more late.few number late.bounded.segments.1 late.number segments, late.far)

sites_end : (prefix : List ℕ) → HasManySites prefix → BeginsImage prefix → ⊥
sites_end prefix late b =
    let i = late.image in
    let r = spell.u32 (length i.places + late.left) ++ (flat_map spell.place i.places ++ b.more) in
    let segments = spell.listed spell.segment i.segments ++ (spell.listed spell.import i.imports ++ (spell.listed spell.export i.exports ++ (spell.u32 i.start ++ (spell.u32 (spell.flag i.unlinkable) ++ r)))) in
    let is : prefix ++ b.more ≡ spell.u32 MAGIC ++ (spell.version i.version ++ (spell.listed spell.u32 i.text ++ (spell.listed spell.u64 i.globals ++ (spell.listed spell.row i.table ++ (spell.u32 i.pages ++ (spell.u32 i.cap ++ segments)))))) =
    ap (λ (l : List ℕ). l ++ b.more) late.is ∙ simp append_assoc in
    let read = after_flag i late.bounded r (after_cap i late.bounded segments (begun_reads prefix _ b is)) in
    let sites = first_of_two (places_at i.version (length i.text)) (λ _. passive_at i.version) r read in
    omega (arith, sites_within i.version (length i.text) late.left i.places b.more late.bounded.text.most late.few late.bounded.places sites, late.many)

pub late_begins_none : (prefix : List ℕ) → IsLate prefix → BeginsImage prefix → ⊥
late_begins_none prefix (inl late) b = pages_end prefix late b
late_begins_none prefix (inr (inl late)) b = segment_ends prefix late b
late_begins_none prefix (inr (inr late)) b = sites_end prefix late b
