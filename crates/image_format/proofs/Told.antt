-- What a search finds among trap sites whose offsets rise.
use Rattle.std.proofs.Common.{◌≡◌, ℕ, zero, suc, ◌+◌, ◌<◌, ◌≤◌, ◌≢◌, List, [], ◌∷◌, ◌++◌, length, get_or, Some, None, Result, Ok, Err, IfOk, IfErr, refl, sym, ap, subst, arith}
use Rattle.std.specs.List.Sorted.{IsSearchInRange, IsBinarySearchResult, IsNonDecreasingBy}
use Rattle.std.specs.Ordering.{nat_cmp, ordering_index}
use Rattle.std.proofs.lemmas.Cmp.{ranked}
use Rattle.std.proofs.lemmas.Bool.Decides.{nat_tests}
use Rattle.std.proofs.lemmas.List.Sorted.{IsNonDecreasingBy-from_default}
use Rattle.std.proofs.lemmas.List.Sums.{fold_push}
use Rattle.wasm_defs.specs.declared.place.Place.{Place}
use Rattle.image_format.specs.declared.version.Version.{Version}
use Rattle.image_format.specs.declared.version.Version.TheVariants.{One, Two, Three}
use Rattle.image_format.specs.declared.image.TrapPlace.{TrapPlace}
use Rattle.image_format.specs.Bounds.{Each, bound_of, PlaceFits, ArePlaces}
use Rattle.image_format.specs.ImageRun.{place_told}
use Rattle.image_format.specs.Told.{Rise, no_place, offset_at, IsAt, IsGapFor}

-- ---- the offsets of an image's trap sites rise

each_rises : (words : ℕ) (front ps : List TrapPlace) → Each (PlaceFits words) front ps → Rise (bound_of front) ps
each_rises words front [] fits = tt
each_rises words front (p ∷ ps) fits =
    let next : bound_of (front ++ p ∷ []) ≡ p.offset + 1 = fold_push (λ (_ : ℕ) (q : TrapPlace). q.offset + 1) 0 front p in
    (fits.0.rises, subst (λ (n : ℕ). Rise n ps) next (each_rises words (front ++ p ∷ []) ps fits.1))

pub places_rise : (v : Version) (words : ℕ) (ps : List TrapPlace) → ArePlaces v words ps → Rise 0 ps
places_rise One words ps fits = subst (Rise 0) (sym fits) tt
places_rise Two words ps fits = each_rises words [] ps fits.1
places_rise Three words ps fits = each_rises words [] ps fits.1

above_bound : (bound : ℕ) (ps : List TrapPlace) → Rise bound ps → (j : ℕ) → j < length ps → bound ≤ offset_at ps j
above_bound bound [] rise j less = absurd (omega arith)
above_bound bound (p ∷ ps) rise zero less = rise.0
above_bound bound (p ∷ ps) rise (suc j) less = omega (arith, rise.0, above_bound (p.offset + 1) ps rise.1 j (omega arith))

pub strictly : (bound : ℕ) (ps : List TrapPlace) → Rise bound ps → (i j : ℕ) → i < j → j < length ps → offset_at ps i < offset_at ps j
strictly bound [] rise i j less within = absurd (omega arith)
strictly bound (p ∷ ps) rise i zero less within = absurd (omega arith)
strictly bound (p ∷ ps) rise zero (suc j) less within = omega (arith, above_bound (p.offset + 1) ps rise.1 j (omega arith))
strictly bound (p ∷ ps) rise (suc i) (suc j) less within = strictly (p.offset + 1) ps rise.1 i j (omega arith) (omega arith)

-- ---- what a search gives

abbrev place_in : TrapPlace → Place
place_in p = record { function = p.function; offset = p.module_offset }

-- a trap site's own offset gives it
pub told_at : (bound : ℕ) (ps : List TrapPlace) → Rise bound ps → (offset i : ℕ) → IsAt ps offset i → place_told ps offset ≡ Some (place_in (get_or ps i no_place))
told_at bound [] rise offset i at = absurd (omega (arith, at.in_range))
told_at bound (p ∷ ps) rise offset zero at = grind (arith, nat_tests, at.has_offset)
told_at bound (p ∷ ps) rise offset (suc i) at =
    let within : i < length ps = omega (arith, at.in_range) in
    let above = above_bound (p.offset + 1) ps rise.1 i within in
    let rest = told_at (p.offset + 1) ps rise.1 offset i (record { in_range = within; has_offset = at.has_offset }) in
    grind (arith, nat_tests, above, at.has_offset, rest)

untold : (ps : List TrapPlace) (offset : ℕ) → ((j : ℕ) → j < length ps → offset_at ps j ≢ offset) → place_told ps offset ≡ None
untold [] offset none = refl
untold (p ∷ ps) offset none = grind (arith, nat_tests, none 0 (omega arith), untold ps offset (λ j less. none (suc j) (omega arith)))

pub told_in_gap : (ps : List TrapPlace) (offset i : ℕ) → IsGapFor ps offset i → place_told ps offset ≡ None
told_in_gap ps offset i gap = untold ps offset (λ j less same. grind (arith, gap.smaller_before j, gap.greater_after j))

module _ (l : List TrapPlace) (rise : Rise 0 l) (k : ℕ) where
  comparisons_rise : IsNonDecreasingBy (λ (p : TrapPlace). ordering_index (nat_cmp p.offset k)) l
  comparisons_rise = IsNonDecreasingBy-from_default (λ (p : TrapPlace). ordering_index (nat_cmp p.offset k)) l no_place (λ i j le in_range.
      let keys_rise : offset_at l i ≤ offset_at l j = grind (arith, strictly 0 l rise i j, λ (same : i ≡ j). ap (offset_at l) same) in
      grind (arith, nat_tests))

  pub searched : (r : Result ℕ ℕ) → IsSearchInRange r (length l) → IsBinarySearchResult (λ (p : TrapPlace). nat_cmp p.offset k) l r → record { found : IfOk r (IsAt l k); absent : IfErr r (IsGapFor l k) }
  searched (Ok at) in_range equal = record { found = record { in_range = in_range; has_offset = ranked _ k _ (sym (equal no_place)) }; absent = tt }
  searched (Err at) in_range parted = record {
    found = tt;
    absent = record {
      in_range = in_range;
      smaller_before = λ j lt. ranked _ k _ (sym ((parted comparisons_rise).0 j no_place (omega arith) lt));
      greater_after = λ j le lt. ranked _ k _ (sym ((parted comparisons_rise).1 j no_place le lt));
    };
  }
