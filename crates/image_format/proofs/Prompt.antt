-- Before an error an image's encoding begins, or no image goes on.
use Rattle.std.proofs.Common.{◌≡◌, ◌⊎◌, ℕ, ◌+◌, ◌-◌, ◌*◌, ◌^◌, ◌<◌, ◌≤◌, Bool, false, List, [], ◌∷◌, ◌++◌, length, take, Result, Ok, Err, inl, inr, refl, sym, ap, subst, ◌∙◌, append_assoc, arith, lit<}
use Rattle.std.specs.List.{All, flat_map}
use Rattle.std.proofs.lemmas.Bool.{cases_lt}
use Rattle.std.proofs.lemmas.List.{append-nil, get_or_past, length-take, take-take}
use Rattle.std.proofs.lemmas.List.Elements.{All-nil, All-cons, All-get_or, All-take}
use Rattle.image_format.specs.declared.limits.TheConstants.{TEXT_WORDS, LIST_ITEMS, PAGE_BYTES, PASSIVE_BYTES, IMAGE_BYTES, MAGIC}
use Rattle.image_format.specs.declared.fault.Fault.{Fault}
use Rattle.image_format.specs.declared.fault.Fault.TheVariants.{Ended, At}
use Rattle.image_format.specs.declared.version.Version.{Version}
use Rattle.image_format.specs.declared.version.Version.TheVariants.{One, Two, Three}
use Rattle.image_format.specs.declared.image.Row.{Row}
use Rattle.image_format.specs.declared.image.Segment.{Segment}
use Rattle.image_format.specs.declared.image.Import.{Import}
use Rattle.image_format.specs.declared.image.Export.{Export}
use Rattle.image_format.specs.declared.image.TrapPlace.{TrapPlace}
use Rattle.image_format.specs.Versions.{most_pages, most_globals}
use Rattle.image_format.specs.Bounds.{Each, IsText, IsOffset, AreGlobals, IsRow, IsTable, SegmentFits, AreSegments, IsImport, AreImports, AreExports, bound_of, IsPassive}
use Rattle.image_format.specs.Contents.{Image, IsImage}
use Rattle.image_format.specs.ImageBytes as spell
use Rattle.image_format.specs.Beginnings.{BeginsImage, HasManyPages, HasFarSegment, HasManySites, IsLate, ErrorsArePrompt}
use Rattle.image_format.specs.Reading.{flag_at, whole, image_of, placed, offset_in_front, text_at, globals_at, table_at, cap_at, places_at, passive_at, Fields, contents, fields_at, image_at}
use Rattle.image_format.proofs.InOrder.{all-from_each}
use Rattle.image_format.proofs.Readers.{IsBytes}
use Rattle.image_format.proofs.Whole.{bad, bad_is, within, past}
use Rattle.image_format.proofs.Fields.{FromSites, FromStart, FromImports, FromCap, FromTable, field_u32, field_u64, field_at_most, field_exactly, field_version, field_text_count, field_text, field_globals, field_row, field_table, field_cap, field_segments, field_imports, field_exports, field_offset, field_flag, PlacesRead, field_places, FieldsFit, fields_spelling, image_fits, field_image}
use Rattle.image_format.proofs.Begun.{Before, Some, Sudden, cut, cut-after, cut-all, bind_err, ok_no_err, smooth_sudden, sudden_passing, sudden_as, sudden_then, some_then, before_sudden, before_smooth, before_stuck, before_like, before_as, before_then, before_behind, before_alike}
use Rattle.image_format.proofs.BegunFields.{u32_smooth, u64_smooth, run_smooth, row_smooth, exactly_sudden, at_most_sudden, version_sudden, text_count_sudden, flag_sudden, before_imports, some_offset, before_offset, before_exports, before_segments, before_sites}

-- ---- a value of each field

some_version : Some (λ (v : Version). Unit {0})
some_version = (One, tt)

some_text : Some IsText
some_text = (0 ∷ 0 ∷ [], record { least = omega arith; most = omega arith; each = All-cons (λ word. word < 2 ^ 32) 0 (0 ∷ []) (omega arith) (All-cons (λ word. word < 2 ^ 32) 0 [] (omega arith) (All-nil (λ word. word < 2 ^ 32))) })

some_globals : (v : Version) → Some (AreGlobals v)
some_globals v = ([], (omega arith, All-nil (λ value. value < 2 ^ 64)))

some_table : Some IsTable
some_table = ([], (omega arith, All-nil IsRow))

some_segments : (pages : ℕ) → Some (AreSegments pages)
some_segments pages = ([], (omega arith, tt))

some_imports : Some AreImports
some_imports = ([], (omega arith, All-nil IsImport))

some_exports : (words : ℕ) → Some (AreExports words)
some_exports words = ([], (omega arith, tt))

some_flag : Some (λ (b : Bool). Unit {0})
some_flag = (false, tt)

some_places : (v : Version) (words : ℕ) → Some (PlacesRead v words)
some_places One words = ([], refl)
some_places Two words = ([], ((omega arith, omega arith), tt))
some_places Three words = ([], ((omega arith, omega arith), tt))

some_passive : (v : Version) → Some (IsPassive v)
some_passive One = ([], refl)
some_passive Two = ([], refl)
some_passive Three = ([], omega arith)

-- ---- and of all fields from one on, in a version and beside a text of so many words

abbrev CapFits : Version → (pages : ℕ) → ℕ → Type 0
CapFits v pages cap = (cap < 2 ^ 32) × ((cap ≤ most_pages v) × (pages ≤ cap))

module _ (v : Version) (words : ℕ) where
  abbrev SitesFit : FromSites → Type 0
  SitesFit z = PlacesRead v words z.0 × IsPassive v z.1

  abbrev FlagFits : Bool × FromSites → Type 0
  FlagFits z = Unit {0} × SitesFit z.1

  abbrev StartFits : FromStart → Type 0
  StartFits z = IsOffset words z.0 × FlagFits z.1

  abbrev ExportsFit : List Export × FromStart → Type 0
  ExportsFit z = AreExports words z.0 × StartFits z.1

  abbrev ImportsFit : FromImports → Type 0
  ImportsFit z = AreImports z.0 × ExportsFit z.1

  abbrev SegmentsFit : ℕ → List Segment × FromImports → Type 0
  SegmentsFit pages z = AreSegments pages z.0 × ImportsFit z.1

  abbrev FromCapFits : ℕ → FromCap → Type 0
  FromCapFits pages z = CapFits v pages z.0 × SegmentsFit pages z.1

  abbrev PagesFit : ℕ × FromCap → Type 0
  PagesFit z = (z.0 < 2 ^ 32) × FromCapFits z.0 z.1

  abbrev TableFits : FromTable → Type 0
  TableFits z = IsTable z.0 × PagesFit z.1

  abbrev GlobalsFit : List ℕ × FromTable → Type 0
  GlobalsFit z = AreGlobals v z.0 × TableFits z.1

  from_sites : Some SitesFit
  from_sites = some_then (some_places v words) (λ _ _. some_passive v)

  from_flag : Some FlagFits
  from_flag = some_then some_flag (λ _ _. from_sites)

  module _ (some : 1 ≤ words) where
    from_start : Some StartFits
    from_start = some_then (some_offset words some) (λ _ _. from_flag)

    from_exports : Some ExportsFit
    from_exports = some_then (some_exports words) (λ _ _. from_start)

    from_imports : Some ImportsFit
    from_imports = some_then some_imports (λ _ _. from_exports)

    from_segments : (pages : ℕ) → Some (SegmentsFit pages)
    from_segments pages = some_then (some_segments pages) (λ _ _. from_imports)

    from_pages : Some PagesFit
    from_pages = let rest = from_segments 0 in ((0, (0, rest.0)), (omega arith, ((omega arith, (omega arith, omega arith)), rest.1)))

    from_table : Some TableFits
    from_table = some_then some_table (λ _ _. from_pages)

    from_globals : Some GlobalsFit
    from_globals = some_then (some_globals v) (λ _ _. from_table)

abbrev TextFits : Version → List ℕ × (List ℕ × FromTable) → Type 0
TextFits v z = IsText z.0 × GlobalsFit v (length z.0) z.1

abbrev VersionFits : Version × (List ℕ × (List ℕ × FromTable)) → Type 0
VersionFits z = Unit {0} × TextFits z.0 z.1

from_text : (v : Version) → Some (TextFits v)
from_text v = some_then some_text (λ text fits. from_globals v (length text) (omega (arith, fits.least)))

from_version : Some VersionFits
from_version = some_then some_version (λ v _. from_text v)

-- ---- each field

before_text : {Stuck : List ℕ → Type 0} → Before Stuck IsText (spell.listed spell.u32) text_at
unfolding text_at
before_text {Stuck} =
    before_like (λ xs fits. record { least = fits.0.1.0; most = fits.0.1.1; each = all-from_each (λ word. word < 2 ^ 32) (λ front word fit. fit) [] xs fits.1 })
    (before_alike field_u32 field_text_count text_count_sudden (2, (omega arith, (omega arith, omega arith))) (0, omega arith) (before_smooth u32_smooth))

before_globals : {Stuck : List ℕ → Type 0} (v : Version) → Before Stuck (AreGlobals v) (spell.listed spell.u64) (globals_at v)
unfolding globals_at
before_globals {Stuck} v =
    before_like (λ xs fits. (fits.0.1, all-from_each (λ value. value < 2 ^ 64) (λ front value fit. fit) [] xs fits.1))
    (before_alike field_u64 (field_at_most (most_globals v)) (at_most_sudden (most_globals v)) (0, (omega arith, omega arith)) (0, omega arith) (before_smooth u64_smooth))

before_table : {Stuck : List ℕ → Type 0} → Before Stuck IsTable (spell.listed spell.row) table_at
unfolding table_at
before_table {Stuck} =
    before_like (λ xs fits. (fits.0.1, all-from_each IsRow (λ front row fit. fit) [] xs fits.1))
    (before_alike field_row (field_at_most LIST_ITEMS) (at_most_sudden LIST_ITEMS) (0, (omega arith, omega arith)) (record { code = 0; like = 0 }, (omega arith, omega arith)) (before_smooth row_smooth))

cap_sudden : (v : Version) (pages : ℕ) → Sudden (cap_at v pages)
unfolding cap_at
cap_sudden v pages = sudden_passing _ (smooth_sudden u32_smooth)

before_cap : {Stuck : List ℕ → Type 0} (v : Version) (pages : ℕ) → pages < 2 ^ 32 → (most_pages v < pages → Stuck [])
    → Before Stuck (CapFits v pages) spell.u32 (cap_at v pages)
before_cap {Stuck} v pages small stuck = by (cases_lt (most_pages v) pages)
  where
    by : (most_pages v < pages) ⊎ (pages ≤ most_pages v) → Before Stuck (CapFits v pages) spell.u32 (cap_at v pages)
    by (inl many) = before_stuck (cap_sudden v pages) (stuck many)
    by (inr few) = before_sudden (cap_sudden v pages) (pages, (small, (few, omega arith)))

before_flag : {Stuck : List ℕ → Type 0} → Before Stuck (λ (b : Bool). Unit {0}) (λ (b : Bool). spell.u32 (spell.flag b)) flag_at
before_flag {Stuck} = before_sudden flag_sudden some_flag

-- too few words for the trap sites that are left
abbrev SitesStuck : Version → ℕ → (List ℕ → Type 0) → Type 0
SitesStuck v words Stuck =
    (left : ℕ) (front : List TrapPlace) → PlacesRead v words front → length front + left ≤ words → 4 * words < bound_of front + 4 * left
    → Stuck (spell.u32 (length front + left) ++ (flat_map spell.place front ++ []))

before_places : {Stuck : List ℕ → Type 0} (v : Version) (words : ℕ) → words ≤ TEXT_WORDS → SitesStuck v words Stuck
    → Before Stuck (PlacesRead v words) (spell.places v) (places_at v words)
unfolding places_at
before_places {Stuck} One words short stuck = before_smooth (record { never = λ bytes left e. ok_no_err _ _ e })
before_places {Stuck} Two words short stuck = before_sites words short (λ left front le fit few. stuck left front ((omega arith, omega arith), fit) le few)
before_places {Stuck} Three words short stuck = before_sites words short (λ left front le fit few. stuck left front ((omega arith, omega arith), fit) le few)

before_passive : {Stuck : List ℕ → Type 0} (v : Version) → Before Stuck (IsPassive v) (spell.passive v) (passive_at v)
unfolding passive_at
before_passive {Stuck} One = before_smooth (record { never = λ bytes left e. ok_no_err _ _ e })
before_passive {Stuck} Two = before_smooth (record { never = λ bytes left e. ok_no_err _ _ e })
before_passive {Stuck} Three = before_sudden (sudden_as _ (sudden_then (at_most_sudden PASSIVE_BYTES) run_smooth)) (some_passive Three)

-- ---- fields after which no image goes on

module _ (magic : ℕ) (is : (magic < 2 ^ 32) × (magic ≡ MAGIC)) (v : Version) (text : List ℕ) (text_fits : IsText text) (globals : List ℕ) (globals_fit : AreGlobals v globals) (table : List Row) (table_fits : IsTable table) where
  abbrev words : ℕ
  words = length text

  some_words : 1 ≤ length text
  some_words = omega (arith, text_fits.least)

  -- the image with these fields and the others
  abbrev with_rest : ℕ × FromCap → Fields
  with_rest rest = (MAGIC, (v, (text, (globals, (table, rest)))))

  fit_with : (rest : ℕ × FromCap) → PagesFit v (length text) rest → IsImage (contents (with_rest rest))
  fit_with rest fits = (image_fits (with_rest rest) ((lit< tt, refl), (tt, (text_fits, (globals_fit, (table_fits, fits)))))).0

  abbrev after_table : List ℕ → List ℕ
  after_table r = spell.u32 magic ++ (spell.version v ++ (spell.listed spell.u32 text ++ (spell.listed spell.u64 globals ++ (spell.listed spell.row table ++ r))))

  many_pages : (pages : ℕ) → pages < 2 ^ 32 → most_pages v < pages → HasManyPages (after_table (spell.u32 pages ++ []))
  many_pages pages small many =
      let rest = from_pages v (length text) some_words in
      record { image = contents (with_rest rest.0); pages = pages; bounded = fit_with rest.0 rest.1; number = small; is = rw is.1 (simp (append_assoc, append-nil)); many = many }

  module _ (pages : ℕ) (small : pages < 2 ^ 32) (cap : ℕ) (cap_fits : CapFits v pages cap) where
    far_segment : (count : ℕ) (front : List Segment) (address : ℕ) → count ≤ LIST_ITEMS → length front < count → Each (SegmentFits pages) [] front
        → address < 2 ^ 32 → pages * PAGE_BYTES < address
        → HasFarSegment (after_table (spell.u32 pages ++ (spell.u32 cap ++ (spell.u32 count ++ (flat_map spell.segment front ++ (spell.u32 address ++ []))))))
    far_segment count front address few less fit low far =
        let rest = from_imports v (length text) some_words in
        let segments : AreSegments pages front = (omega arith, fit) in
        record {
          image = contents (with_rest (pages, (cap, (front, rest.0))));
          count = count;
          address = address;
          bounded = fit_with (pages, (cap, (front, rest.0))) (small, (cap_fits, (segments, rest.1)));
          to_come = less;
          few = few;
          number = low;
          is = rw is.1 (simp (append_assoc, append-nil));
          far = far;
        }

    module _ (segments : List Segment) (segments_fit : AreSegments pages segments) (imports : List Import) (imports_fit : AreImports imports) (exports : List Export) (exports_fit : AreExports (length text) exports) (start : ℕ) (start_fits : IsOffset (length text) start) (unlinkable : Bool) where
      many_sites : (left : ℕ) (front : List TrapPlace) → PlacesRead v (length text) front → length front + left ≤ length text
          → 4 * length text < bound_of front + 4 * left
          → HasManySites (after_table (spell.u32 pages ++ (spell.u32 cap ++ (spell.listed spell.segment segments ++ (spell.listed spell.import imports ++ (spell.listed spell.export exports ++ (spell.u32 start ++ (spell.u32 (spell.flag unlinkable) ++ (spell.u32 (length front + left) ++ (flat_map spell.place front ++ []))))))))))
      many_sites left front read le few =
          let passive = some_passive v in
          let rest : ℕ × FromCap = (pages, (cap, (segments, (imports, (exports, (start, (unlinkable, (front, passive.0)))))))) in
          record {
            image = contents (with_rest rest);
            left = left;
            bounded = fit_with rest (small, (cap_fits, (segments_fit, (imports_fit, (exports_fit, (start_fits, (tt, (read, passive.1))))))));
            few = le;
            is = rw is.1 (simp (append_assoc, append-nil));
            many = few;
          }

-- ---- all fields

before_fields : Before IsLate FieldsFit fields_spelling fields_at
unfolding fields_at
before_fields =
    before_then (field_exactly MAGIC) (before_sudden (exactly_sudden MAGIC) (MAGIC, (lit< tt, refl))) (λ magic is. from_version) λ magic is.
    before_then field_version (before_sudden version_sudden some_version) (λ v _. from_text v) λ v _.
    before_then field_text before_text (λ text fits. from_globals v (length text) (omega (arith, fits.least))) λ text text_fits.
    before_then (field_globals v) (before_globals v) (λ globals fits. from_table v (length text) (omega (arith, text_fits.least))) λ globals globals_fit.
    before_then field_table before_table (λ table fits. from_pages v (length text) (omega (arith, text_fits.least))) λ table table_fits.
    before_behind field_u32 u32_smooth λ pages small.
    before_then (field_cap v pages) (before_cap v pages small (λ many. inl (many_pages magic is v text text_fits globals globals_fit table table_fits pages small many))) (λ cap fits. from_segments v (length text) (omega (arith, text_fits.least)) pages) λ cap cap_fits.
    before_then (field_segments pages)
    (before_segments pages (λ count front address few less fit low far. inr (inl (far_segment magic is v text text_fits globals globals_fit table table_fits pages small cap cap_fits count front address few less fit low far))))
    (λ segments fits. from_imports v (length text) (omega (arith, text_fits.least))) λ segments segments_fit.
    before_then field_imports before_imports (λ imports fits. from_exports v (length text) (omega (arith, text_fits.least))) λ imports imports_fit.
    before_then (field_exports (length text)) (before_exports (length text) (omega (arith, text_fits.least))) (λ exports fits. from_start v (length text) (omega (arith, text_fits.least))) λ exports exports_fit.
    before_then (field_offset (length text)) (before_offset (length text) (omega (arith, text_fits.least))) (λ start fits. from_flag v (length text)) λ start start_fits.
    before_then field_flag before_flag (λ flag fits. from_sites v (length text)) λ flag _.
    before_then (field_places v (length text))
    (before_places v (length text) text_fits.most (λ left front read le few. inr (inr (many_sites magic is v text text_fits globals globals_fit table table_fits pages small cap cap_fits segments segments_fit imports imports_fit exports exports_fit start start_fits flag left front read le few))))
    (λ places fits. some_passive v) λ places _.
    before_passive v

before_image : Before IsLate IsImage spell.spelling image_at
unfolding image_at
before_image = before_as contents IsImage spell.spelling image_fits before_fields

-- ---- the whole

abbrev Outcome : List ℕ → Type 0
Outcome r = BeginsImage r ⊎ IsLate r

whole_left : (x : Image × List ℕ) (left : ℕ) → whole x ≡ Err (At left) → left ≡ length x.1
unfolding whole
whole_left (x, []) left e = absurd (ok_no_err x (At left) e)
whole_left (x, b ∷ rest) left e = cc

image_before : (bytes : List ℕ) (left : ℕ) → IsBytes bytes → image_of bytes ≡ Err (At left) → Outcome (cut left bytes)
unfolding image_of
image_before bytes left fits e = elim (bind_err (image_at bytes) whole (At left) e) [
  | inl err ↦ elim (before_image.by bytes left fits err) [
    | inl b ↦ inl (record { image = b.value; more = b.more; bounded = b.fits; spelled = b.spelled })
    | inr late ↦ inr late
  ]
  | inr (x, ok, last) ↦
      let taken = field_image.takes bytes x fits ok in
      let e : left ≡ length x.1 = whole_left x left last in
      let is : cut left bytes ≡ spell.spelling x.0 =
      ap (cut left) taken.0.parts ∙ cut-after (spell.spelling x.0) x.1 left (omega arith) ∙ ap (λ (l : List ℕ). spell.spelling x.0 ++ l) (cut-all x.1 left e) ∙ append-nil (spell.spelling x.0) in
      inl (record { image = x.0; more = []; bounded = taken.1; spelled = sym is ∙ sym (append-nil (cut left bytes)) })
]

are_bytes : (bytes : List ℕ) → All (λ b. b < 256) bytes → IsBytes bytes
are_bytes bytes fits i = elim (cases_lt i (length bytes)) [
  | inl lt ↦ All-get_or (λ b. b < 256) bytes i 0 lt fits
  | inr le ↦ rw (get_or_past bytes i 0 le) (omega arith)
]

placed_before : (bytes : List ℕ) (len offset : ℕ) → IsBytes bytes → len ≡ length bytes → offset < len → (r : Result Image Fault) → image_of bytes ≡ r
    → placed len r ≡ Err offset → Outcome (take offset bytes)
placed_before bytes len offset fits same inside (Ok i) is e = absurd cc
placed_before bytes len offset fits same inside (Err Ended) is e = absurd (omega (arith, bad_is len offset e))
placed_before bytes len offset fits same inside (Err (At left)) is e =
    let there : length bytes - left ≡ offset = omega (arith, same, bad_is (len - left) offset e) in
    subst (λ (n : ℕ). Outcome (take n bytes)) there (image_before bytes left fits is)

-- of too many bytes only the first count
front_placed : (r : Result Image Fault) (offset : ℕ) → offset < IMAGE_BYTES → offset_in_front r ≡ offset → placed IMAGE_BYTES r ≡ Err offset
front_placed (Ok i) offset small e = absurd (omega arith)
front_placed (Err f) offset small e = ap bad e

pub errors_are_prompt : ErrorsArePrompt
errors_are_prompt bytes offset are e inside small = elim (cases_lt IMAGE_BYTES (length bytes)) [
  | inr le ↦ placed_before bytes (length bytes) offset (are_bytes bytes are) refl inside (image_of bytes) refl (sym (within bytes le) ∙ e)
  | inl long ↦
      let front = take IMAGE_BYTES bytes in
      let there : offset_in_front (image_of front) ≡ offset = bad_is _ _ (sym (past bytes long) ∙ e) in
      let len : IMAGE_BYTES ≡ length front = omega (arith, length-take IMAGE_BYTES bytes) in
      let same : take offset front ≡ take offset bytes = take-take offset IMAGE_BYTES bytes (omega arith) in
      subst Outcome same (placed_before front IMAGE_BYTES offset (are_bytes front (All-take (λ b. b < 256) IMAGE_BYTES bytes are)) len small (image_of front) refl (front_placed (image_of front) offset small there))
]
