-- Before an error in one of the fields its encoding begins.
use Rattle.std.proofs.Common.{◌≡◌, ◌⊎◌, ℕ, suc, ◌+◌, ◌*◌, ◌/◌, ◌^◌, ◌<◌, ◌≤◌, Bool, true, false, cond, eqb, List, [], ◌∷◌, ◌++◌, length, replicate, Ok, Err, inl, inr, refl, sym, ap, subst, ◌∙◌, append_assoc, length-append, arith}
use Rattle.std.specs.Int.{Width, w32, w64}
use Rattle.std.specs.List.{flat_map}
use Rattle.std.proofs.lemmas.Bool.{cases_lt, eqb-true}
use Rattle.std.proofs.lemmas.List.{append-nil, length-replicate}
use Rattle.std.proofs.lemmas.List.Sums.{sum_by-append, fold_push}
use Rattle.std.proofs.lemmas.Str.{IsUtf8-nil}
use Rattle.image_format.specs.declared.limits.TheConstants.{TEXT_WORDS, LIST_ITEMS, PAGE_BYTES, SEGMENT_BYTES, NAME_BYTES, PARAMS, RESULTS}
use Rattle.image_format.specs.declared.fault.Fault.TheVariants.{Ended, At}
use Rattle.wasm_defs.specs.declared.types.ValType.{ValType}
use Rattle.wasm_defs.specs.declared.types.ValType.TheVariants.{I32}
use Rattle.wasm_defs.specs.declared.types.FuncType.{FuncType}
use Rattle.image_format.specs.declared.image.Segment.{Segment}
use Rattle.image_format.specs.declared.image.Export.{Export}
use Rattle.image_format.specs.declared.image.TrapPlace.{TrapPlace}
use Rattle.image_format.specs.Bounds.{Each, IsName, IsSignature, IsImport, IsOffset, bytes_of, SegmentFits, AreSegments, AreImports, has_name, ExportFits, AreExports, bound_of, PlaceFits}
use Rattle.image_format.specs.ImageBytes as spell
use Rattle.image_format.specs.Reading.{◌▹◌, listed_at, number, u32_at, u64_at, byte_at, run_at, exactly, at_most, name_at, type_at, result_at, several_at, results_at, params_at, signature_at, asked_at, text_count_at, row_at, segment_length_at, segment_at, segments_at, import_at, imports_at, offset_at, new_name_at, export_at, exports_at, flag_at, version_at, trap_offset_at, place_at}
use Rattle.image_format.proofs.InOrder.{all-from_each}
use Rattle.image_format.proofs.Readers.{IsBytes}
use Rattle.image_format.proofs.Fields.{field_u32, field_at_most, field_type, field_results, field_params, field_several, field_several_count, several-spelled, field_signature, field_name, field_new_name, field_import, field_export, field_segment_length, field_segment, field_place}
use Rattle.image_format.proofs.Begun.{Begun, Before, Some, Sudden, Smooth, cut, cut-after, err_inside, smooth_sudden, sudden_passing, sudden_as, sudden_then, smooth_then, smooth_as, some_then, before_sudden, before_smooth, before_stuck, before_any, before_like, before_as, before_then, before_behind, before_listed, before_alike}
use Rattle.image_format.proofs.FreshNames.{fresh_name}

-- ---- numbers and bytes are never bad, only cut off

short_none : {A : Type 0} (b : Bool) (x : A) (left : ℕ) → cond b (Err Ended) (Ok x) ≡ Err (At left) → ⊥
short_none true x left e = absurd cc
short_none false x left e = absurd cc

number_smooth : (w : Width) → Smooth (number w)
number_smooth w = record { never = λ bytes left e. short_none _ _ left e }

pub u32_smooth : Smooth u32_at
unfolding u32_at
u32_smooth = number_smooth w32

pub u64_smooth : Smooth u64_at
unfolding u64_at
u64_smooth = number_smooth w64

byte_never : (bytes : List ℕ) (left : ℕ) → byte_at bytes ≡ Err (At left) → ⊥
unfolding byte_at
byte_never [] left e = absurd cc
byte_never (b ∷ rest) left e = absurd cc

byte_smooth : Smooth byte_at
byte_smooth = record { never = byte_never }

pub run_smooth : (n : ℕ) → Smooth (run_at n)
unfolding run_at
run_smooth n = record { never = λ bytes left e. short_none _ _ left e }

pub row_smooth : Smooth row_at
unfolding row_at
row_smooth = smooth_as _ (smooth_then u64_smooth (λ _. u64_smooth))

-- ---- fields whose error is at their first byte

pub exactly_sudden : (n : ℕ) → Sudden (exactly n)
unfolding exactly
exactly_sudden n = sudden_passing _ (smooth_sudden u32_smooth)

pub at_most_sudden : (most : ℕ) → Sudden (at_most most)
unfolding at_most
at_most_sudden most = sudden_passing _ (smooth_sudden u32_smooth)

pub version_sudden : Sudden version_at
unfolding version_at
version_sudden = sudden_as _ (sudden_passing _ (smooth_sudden u32_smooth))

pub text_count_sudden : Sudden text_count_at
unfolding text_count_at
text_count_sudden = sudden_passing _ (smooth_sudden u32_smooth)

type_sudden : Sudden type_at
unfolding type_at
type_sudden = sudden_as _ (sudden_passing _ (smooth_sudden byte_smooth))

result_sudden : Sudden result_at
unfolding result_at
result_sudden = sudden_as _ (sudden_passing _ (smooth_sudden byte_smooth))

name_sudden : Sudden name_at
unfolding name_at
name_sudden = sudden_passing _ (sudden_as _ (sudden_then (at_most_sudden NAME_BYTES) run_smooth))

new_name_sudden : (was_there : List ℕ → Bool) → Sudden (new_name_at was_there)
unfolding new_name_at
new_name_sudden was_there = sudden_passing _ name_sudden

pub offset_sudden : (words : ℕ) → Sudden (offset_at words)
unfolding offset_at
offset_sudden words = sudden_passing _ (smooth_sudden u32_smooth)

pub flag_sudden : Sudden flag_at
unfolding flag_at
flag_sudden = sudden_as _ (at_most_sudden 1)

segment_length_sudden : (pages used place : ℕ) → Sudden (segment_length_at pages used place)
unfolding segment_length_at
segment_length_sudden pages used place = sudden_passing _ (smooth_sudden u32_smooth)

place_sudden : (words bound : ℕ) → Sudden (place_at words bound)
unfolding place_at trap_offset_at
place_sudden words bound = sudden_as _ (sudden_then (sudden_passing _ (offset_sudden words)) (λ _. smooth_then u32_smooth (λ _. u32_smooth)))

-- ---- signatures

abbrev Never : List ℕ → Type 0
Never r = ⊥

some_type : Some (λ (t : ValType). Unit {0})
some_type = (I32, tt)

before_params : Before Never (λ (types : List ValType). length types ≤ PARAMS) (spell.listed spell.value_type) params_at
unfolding params_at
before_params = before_like (λ xs fits. fits.0.1) (before_alike field_type (field_at_most PARAMS) (at_most_sudden PARAMS) (0, (omega arith, omega arith)) some_type (before_sudden type_sudden some_type))

before_several : Before Never (λ (types : List ValType). (2 ≤ length types) × (length types ≤ RESULTS)) (spell.listed spell.value_type) several_at
unfolding several_at
before_several =
    before_like (λ xs fits. (fits.0.1.0, fits.0.1.1)) (before_alike field_type field_several_count (sudden_passing _ (smooth_sudden u32_smooth)) (2, (omega arith, (omega arith, omega arith))) some_type (before_sudden type_sudden some_type))

abbrev ResultsBegun : List ℕ → Type 0
ResultsBegun r = Begun (λ (types : List ValType). length types ≤ RESULTS) spell.results r ⊎ ⊥

results_by : (several : Bool) (b : ℕ) (rest : List ℕ) (left : ℕ) → (several ≡ true → b ≡ 0x60) → IsBytes (b ∷ rest)
    → cond several (several_at rest) (result_at (b ∷ rest)) ≡ Err (At left) → ResultsBegun (cut left (b ∷ rest))
results_by true b rest left is96 fits e =
    let le : left ≤ length rest = err_inside (length rest) (several_at rest) left (field_several.inside rest) e in
    let same : 0x60 ∷ cut left rest ≡ cut left (b ∷ rest) = ap (λ (x : ℕ). x ∷ cut left rest) (sym (is96 refl)) ∙ sym (cut-after (b ∷ []) rest left le) in
    subst ResultsBegun same (elim (before_several.by rest left (λ i. fits (suc i)) e) [
      | inl n ↦ inl (record { value = n.value; more = n.more; fits = n.fits.1; spelled = several-spelled n.value n.fits.0 ∙ ap (λ (l : List ℕ). 0x60 ∷ l) n.spelled })
      | inr stuck ↦ inr stuck
    ])
results_by false b rest left is96 fits e = (before_sudden {Stuck = Never} {P = λ (types : List ValType). length types ≤ RESULTS} {s = spell.results} result_sudden ([], omega arith)).by (b ∷ rest) left fits e

results_begun : (bytes : List ℕ) (left : ℕ) → IsBytes bytes → results_at bytes ≡ Err (At left) → ResultsBegun (cut left bytes)
unfolding results_at byte_at
results_begun [] left fits e = absurd cc
results_begun (b ∷ rest) left fits e = results_by (eqb b 0x60) b rest left (eqb-true b 0x60) fits e

before_results : Before Never (λ (types : List ValType). length types ≤ RESULTS) spell.results results_at
before_results = record { by = results_begun; inside = λ bytes left fits e. err_inside (length bytes) (results_at bytes) left (field_results.inside bytes) e }

before_signature : Before Never IsSignature spell.signature signature_at
unfolding signature_at
before_signature =
    before_as (λ (x : List ValType × List ValType). record { params = x.0; results = x.1 }) IsSignature spell.signature (λ x fits. (record { params = fits.0; results = fits.1 }, refl))
    (before_then field_params before_params (λ x fits. ([], omega arith)) (λ x fits. before_results))

before_result : Before Never (λ (types : List ValType). length types ≤ 1) spell.results result_at
before_result = before_sudden result_sudden ([], omega arith)

abbrev IsAsked : FuncType → Type 0
IsAsked s = IsSignature s × (length s.results ≤ 1)

before_asked : Before Never IsAsked spell.signature asked_at
unfolding asked_at
before_asked =
    before_as (λ (x : List ValType × List ValType). record { params = x.0; results = x.1 }) IsAsked spell.signature (λ x fits. ((record { params = fits.0; results = omega (arith, fits.1) }, fits.1), refl))
    (before_then field_params before_params (λ x fits. ([], omega arith)) (λ x fits. before_result))

some_signature : Some IsSignature
some_signature = (record { params = []; results = [] }, record { params = omega arith; results = omega arith })

some_asked : Some IsAsked
some_asked = (record { params = []; results = [] }, (record { params = omega arith; results = omega arith }, omega arith))

-- ---- imports and exports

no_name : IsName []
no_name = record { short = omega arith; utf8 = IsUtf8-nil }

some_name : Some IsName
some_name = ([], no_name)

before_import : Before Never IsImport spell.import import_at
unfolding import_at
before_import =
    before_as (λ (x : List ℕ × (List ℕ × FuncType)). record { «module» = x.0; name = x.1.0; signature = x.1.1 }) IsImport spell.import
    (λ x fits. (record { module_name = fits.0; name = fits.1.0; signature = fits.1.1.0; one_result = fits.1.1.1 }, refl))
    (before_then field_name (before_sudden name_sudden some_name) (λ x fits. some_then some_name (λ y also. some_asked))
    (λ x fits. before_then field_name (before_sudden name_sudden some_name) (λ y also. some_asked) (λ y also. before_asked)))

some_import : Some IsImport
some_import = (record { «module» = []; name = []; signature = some_asked.0 }, record { module_name = no_name; name = no_name; signature = some_asked.1.0; one_result = some_asked.1.1 })

pub before_imports : {Stuck : List ℕ → Type 0} → Before Stuck AreImports (spell.listed spell.import) imports_at
unfolding imports_at
before_imports {Stuck} =
    before_like (λ xs fits. (fits.0.1, all-from_each IsImport (λ front x fit. fit) [] xs fits.1))
    (before_alike field_import (field_at_most LIST_ITEMS) (at_most_sudden LIST_ITEMS) (0, (omega arith, omega arith)) some_import before_import)

module _ (words : ℕ) (some : 1 ≤ words) where
  pub some_offset : Some (IsOffset words)
  some_offset = (0, (omega arith, refl, omega arith))

  pub before_offset : {Stuck : List ℕ → Type 0} → Before Stuck (IsOffset words) spell.u32 (offset_at words)
  before_offset {Stuck} = before_sudden (offset_sudden words) some_offset

  some_export : (front : List Export) → length front ≤ NAME_BYTES → Some (ExportFits words front)
  some_export front le =
      let fresh = fresh_name front le in
      (record { name = fresh.name; signature = some_signature.0; offset = some_offset.0 }, record { is = record { name = fresh.is; signature = some_signature.1 }; differs = fresh.new; offset = some_offset.1 })

  before_export : (front : List Export) → length front ≤ NAME_BYTES → Before Never (ExportFits words front) spell.export (export_at words (has_name front))
  unfolding export_at
  before_export front le =
      let fresh = fresh_name front le in
      before_as (λ (x : List ℕ × (FuncType × ℕ)). record { name = x.0; signature = x.1.0; offset = x.1.1 }) (ExportFits words front) spell.export
      (λ x fits. (record { is = record { name = fits.0.0; signature = fits.1.0 }; differs = fits.0.1; offset = fits.1.1 }, refl))
      (before_then (field_new_name (has_name front)) (before_sudden (new_name_sudden (has_name front)) (fresh.name, (fresh.is, fresh.new)))
      (λ x fits. some_then some_signature (λ y also. some_offset))
      (λ x fits. before_then field_signature before_signature (λ y also. some_offset) (λ y also. before_offset)))

  longer : (front : List Export) (x : Export) → length (front ++ x ∷ []) ≡ suc (length front)
  longer front x = length-append front (x ∷ []) ∙ omega arith

  pub before_exports : {Stuck : List ℕ → Type 0} → Before Stuck (AreExports words) (spell.listed spell.export) (exports_at words)
  unfolding exports_at
  before_exports {Stuck} =
      before_like (λ xs fits. (fits.0.1, fits.1))
      (before_listed (field_export words) Stuck (λ _ n front. length front + n ≤ LIST_ITEMS) (λ n front. length front + n ≤ LIST_ITEMS) (field_at_most LIST_ITEMS) (at_most_sudden LIST_ITEMS) (0, (omega arith, omega arith))
      (λ n fits. (omega (arith, fits), omega (arith, fits)))
      (λ m n front x known fit. omega (arith, longer front x, known))
      (λ n front room. let x = some_export front (omega (arith, room)) in (x.0, (x.1, omega (arith, longer front x.0, room))))
      (λ m fits n front known. before_like (λ x fit. (fit, omega (arith, longer front x, known))) (before_any (before_export front (omega (arith, known))))))

-- ---- segments

each_more : {A : Type 0} (P : List A → A → Type 0) (front xs : List A) (x : A) → Each P front xs → P (front ++ xs) x → Each P front (xs ++ x ∷ [])
each_more P front [] x fits fit = (subst (λ (l : List _). P l x) (append-nil front) fit, tt)
each_more P front (y ∷ xs) x fits fit = (fits.0, each_more P (front ++ y ∷ []) xs x fits.1 (subst (λ (l : List _). P l x) (sym (append_assoc front (y ∷ []) xs)) fit))

one_longer : {A : Type 0} (front : List A) (x : A) → length (front ++ x ∷ []) ≡ length front + 1
one_longer front x = length-append front (x ∷ [])

-- what is known before the next of so many segments
record SegmentsSoFar (pages count n : ℕ) (front : List Segment) : Type 0 where
  pub number : length front + n ≡ count
  pub fit : Each (SegmentFits pages) [] front
  pub few : bytes_of front ≤ SEGMENT_BYTES

module _ (pages : ℕ) where
  more_bytes : (front : List Segment) (x : Segment) → bytes_of (front ++ x ∷ []) ≡ bytes_of front + length x.bytes
  more_bytes front x = sum_by-append (λ (s : Segment). length s.bytes) front (x ∷ []) ∙ omega arith

  abbrev RoomFor : ℕ → List Segment → Type 0
  RoomFor n front = bytes_of front ≤ SEGMENT_BYTES

  -- an address behind the pages, after the count and the segments before it
  abbrev pub FarAddress : (List ℕ → Type 0) → Type 0
  FarAddress Stuck =
      (count : ℕ) (front : List Segment) (address : ℕ) → count ≤ LIST_ITEMS → length front < count → Each (SegmentFits pages) [] front → address < 2 ^ 32 → pages * PAGE_BYTES < address
      → Stuck (spell.u32 count ++ (flat_map spell.segment front ++ (spell.u32 address ++ [])))

  abbrev LengthFits : ℕ → ℕ → ℕ → Type 0
  LengthFits used address n = (n < 2 ^ 32) × ((address + n ≤ pages * PAGE_BYTES) × (used + n ≤ SEGMENT_BYTES))

  before_length : {Stuck : List ℕ → Type 0} (used address : ℕ) → used ≤ SEGMENT_BYTES → (pages * PAGE_BYTES < address → Stuck [])
      → Before Stuck (λ (z : ℕ × List ℕ). LengthFits used address z.0 × (length z.1 ≡ z.0)) (λ (z : ℕ × List ℕ). spell.u32 z.0 ++ z.1) (segment_length_at pages used address ▹ run_at)
  before_length {Stuck} used address few stuck =
      before_then (field_segment_length pages used address) (first (cases_lt (pages * PAGE_BYTES) address)) (λ n fits. (replicate n 0, length-replicate n 0)) (λ n fits. before_smooth (run_smooth n))
    where
      first : (pages * PAGE_BYTES < address) ⊎ (address ≤ pages * PAGE_BYTES)
          → Before Stuck (LengthFits used address) spell.u32 (segment_length_at pages used address)
      first (inl far) = before_stuck (segment_length_sudden pages used address) (stuck far)
      first (inr near) = before_sudden (segment_length_sudden pages used address) (0, (omega arith, (omega arith, omega arith)))

  before_segment : {Stuck : List ℕ → Type 0} (front : List Segment) → bytes_of front ≤ SEGMENT_BYTES
      → ((address : ℕ) → address < 2 ^ 32 → pages * PAGE_BYTES < address → Stuck (spell.u32 address ++ []))
      → Before Stuck (SegmentFits pages front) spell.segment (segment_at pages (bytes_of front))
  unfolding segment_at
  before_segment front few stuck =
      before_as (λ (x : ℕ × (ℕ × List ℕ)). record { place = x.0; bytes = x.1.1 }) (SegmentFits pages front) spell.segment
      (λ x fits. (record { place = fits.0; inside = rw fits.1.1 fits.1.0.1.0; together = rw fits.1.1 fits.1.0.1.1 }, ap (λ (k : ℕ). spell.u32 x.0 ++ (spell.u32 k ++ x.1.1)) fits.1.1))
      (before_behind field_u32 u32_smooth
      (λ address fits. before_length (bytes_of front) address few (stuck address fits)))

  pub before_segments : {Stuck : List ℕ → Type 0} → FarAddress Stuck → Before Stuck (AreSegments pages) (spell.listed spell.segment) (segments_at pages)
  unfolding segments_at
  before_segments {Stuck} stuck =
      before_like (λ xs fits. (fits.0.1, fits.1))
      (before_listed (field_segment pages) Stuck (SegmentsSoFar pages) RoomFor (field_at_most LIST_ITEMS) (at_most_sudden LIST_ITEMS) (0, (omega arith, omega arith))
      (λ n fits. (record { number = omega arith; fit = tt; few = omega arith }, omega arith))
      (λ m n front x known fit. record { number = omega (arith, one_longer front x, known.number); fit = each_more (SegmentFits pages) [] front x known.fit fit; few = omega (arith, more_bytes front x, fit.together) })
      (λ n front room. (record { place = 0; bytes = [] }, (record { place = omega arith; inside = omega arith; together = omega (arith, room) }, omega (arith, more_bytes front (record { place = 0; bytes = [] }), room))))
      (λ m fits n front known. before_like (λ x fit. (fit, omega (arith, more_bytes front x, fit.together)))
      (before_segment front known.few (λ address small far. stuck m front address fits.1 (omega (arith, known.number)) known.fit small far))))

-- ---- trap sites

record SitesSoFar (words count n : ℕ) (front : List TrapPlace) : Type 0 where
  pub number : length front + n ≡ count
  pub fit : Each (PlaceFits words) [] front

module _ (words : ℕ) (short : words ≤ TEXT_WORDS) where
  abbrev WordsFor : ℕ → List TrapPlace → Type 0
  WordsFor n front = bound_of front + 4 * n ≤ 4 * words

  -- too few words after some of so many sites
  abbrev pub FewWords : (List ℕ → Type 0) → Type 0
  FewWords Stuck =
      (left : ℕ) (front : List TrapPlace) → length front + left ≤ words → Each (PlaceFits words) [] front → 4 * words < bound_of front + 4 * left
      → Stuck (spell.u32 (length front + left) ++ (flat_map spell.place front ++ []))

  -- the next site is in the first word from the bound on
  next_site : ℕ → TrapPlace
  next_site bound = record { offset = 4 * ((bound + 3) / 4); function = 0; module_offset = 0 }

  bound_after : (front : List TrapPlace) (x : TrapPlace) → bound_of (front ++ x ∷ []) ≡ x.offset + 1
  bound_after front x = fold_push (λ (_ : ℕ) (q : TrapPlace). q.offset + 1) 0 front x

  some_site : (n : ℕ) (front : List TrapPlace) → WordsFor (suc n) front → Some (λ (x : TrapPlace). PlaceFits words front x × WordsFor n (front ++ x ∷ []))
  unfolding next_site
  some_site n front room =
      let site = next_site (bound_of front) in
      (site, (record { offset = (omega (arith, room), omega arith, omega (arith, room)); rises = omega arith; function = omega arith; module_offset = omega arith }, omega (arith, bound_after front site, room)))

  abbrev SitesRead : List TrapPlace → Type 0
  SitesRead places = ((length places < 2 ^ 32) × (length places ≤ words)) × Each (PlaceFits words) [] places

  pub before_sites : {Stuck : List ℕ → Type 0} → FewWords Stuck
      → Before Stuck SitesRead (spell.listed spell.place) (listed_at (at_most words) (λ front. place_at words (bound_of front)))
  before_sites {Stuck} stuck =
      before_listed (field_place words) Stuck (SitesSoFar words) WordsFor (field_at_most words) (at_most_sudden words) (0, (omega arith, omega arith))
      (λ n fits. (record { number = omega arith; fit = tt }, omega (arith, fits)))
      (λ m n front x known fit. record { number = omega (arith, one_longer front x, known.number); fit = each_more (PlaceFits words) [] front x known.fit fit })
      some_site
      (λ m fits n front known. one m n front fits.1 known (cases_lt (4 * words) (bound_of front + 4 * suc n)))
    where
      one : (m n : ℕ) (front : List TrapPlace) → m ≤ words → SitesSoFar words m (suc n) front
          → (4 * words < bound_of front + 4 * suc n) ⊎ (bound_of front + 4 * suc n ≤ 4 * words)
          → Before (λ (r : List ℕ). Stuck (spell.u32 m ++ (flat_map spell.place front ++ r))) (λ (x : TrapPlace). PlaceFits words front x × WordsFor n (front ++ x ∷ [])) spell.place (place_at words (bound_of front))
      one m n front le known (inr room) = before_sudden (place_sudden words (bound_of front)) (some_site n front room)
      one m n front le known (inl few) =
          before_stuck (place_sudden words (bound_of front))
          (subst (λ (k : ℕ). Stuck (spell.u32 k ++ (flat_map spell.place front ++ []))) known.number (stuck (suc n) front (omega (arith, known.number)) known.fit few))
