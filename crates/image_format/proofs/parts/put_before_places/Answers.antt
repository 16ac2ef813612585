use Rattle.std.proofs.Common.{◌≡◌, ◌<◌, ◌≤◌, ◌^◌, ℕ, List, [], ◌++◌, length, ap, append_assoc, arith}
use Rattle.image_format.specs.declared.limits.TheConstants.{TEXT_WORDS}
use Rattle.image_format.specs.declared.image.Segment.{Segment}
use Rattle.image_format.specs.declared.image.TrapPlace.{TrapPlace}
use Rattle.image_format.specs.declared.version.Version.{Version}
use Rattle.image_format.specs.declared.version.Version.TheVariants.{One, Two, Three}
use Rattle.image_format.specs.Bounds.{IsExport, ArePlaces}
use Rattle.image_format.specs.ImageBytes.{u32, u64, row, segment, import, export, listed, flag}
use Rattle.image_format.specs.Parts.{before_places, place_count}
use Rattle.image_format.proofs.InOrder.{all-from_each}
use Rattle.image_format.proofs.parts.put_before_places.Goals as goal

-- ten fields, put one after another
gathered : (out p1 p2 p3 p4 p5 p6 p7 p8 p9 p10 : List ℕ) → (((((((((out ++ p1) ++ p2) ++ p3) ++ p4) ++ p5) ++ p6) ++ p7) ++ p8) ++ p9) ++ p10 ≡ out ++ (p1 ++ (p2 ++ (p3 ++ (p4 ++ (p5 ++ (p6 ++ (p7 ++ (p8 ++ (p9 ++ p10)))))))))
gathered out p1 p2 p3 p4 p5 p6 p7 p8 p9 p10 = simp append_assoc

pub returns : goal.returns
unfolding before_places
returns c =
    let i = c.image.inside in
    rw (← c.image.view_is, c.in_ok-put_place_count.ensures, c.as_slice-6.ensures, c.in_ok-put-4.ensures, c.flag_of.ensures, c.in_ok-put-3.ensures, c.in_ok-put_listed-5.ensures, c.as_slice-5.ensures, c.in_ok-put_listed-4.ensures, c.as_slice-4.ensures, c.in_ok-put_listed-3.ensures, c.as_slice-3.ensures, c.in_ok-put-2.ensures, c.in_ok-put.ensures, c.in_ok-put_listed-2.ensures, c.as_slice-2.ensures, c.in_ok-put_listed.ensures, c.as_slice.ensures)
    (gathered c.args.out.now.items (listed u64 i.globals) (listed row i.table) (u32 i.pages) (u32 i.cap) (listed segment i.segments) (listed import i.imports) (listed export i.exports) (u32 i.start) (u32 (flag i.unlinkable)) (place_count i.version (length i.places)))

pub put_listed-requires-3-clause-short : goal.put_listed-requires-3-clause-short
put_listed-requires-3-clause-short c =
    rw c.as_slice-3.ensures (all-from_each (λ (s : Segment). length s.bytes < 2 ^ 32) (λ front s fit. omega (arith, fit.together)) [] c.image.inside.segments c.image.invariant.segments.1)

pub put_listed-requires-4-clause-short : goal.put_listed-requires-4-clause-short
put_listed-requires-4-clause-short c = rw c.as_slice-4.ensures c.image.invariant.imports.1

pub put_listed-requires-5-clause-short : goal.put_listed-requires-5-clause-short
put_listed-requires-5-clause-short c = rw c.as_slice-5.ensures (all-from_each IsExport (λ front e fit. fit.is) [] c.image.inside.exports c.image.invariant.exports.1)

-- as many trap sites as words at most
few_places : (v : Version) (words : ℕ) (all : List TrapPlace) → words ≤ TEXT_WORDS → ArePlaces v words all → length all < 2 ^ 32
few_places One words all le fits = let none = ap (λ (l : List TrapPlace). length l) fits in omega arith
few_places Two words all le fits = let few = fits.0 in omega arith
few_places Three words all le fits = let few = fits.0 in omega arith

pub put_place_count-requires : goal.put_place_count-requires
put_place_count-requires c =
    omega (arith, ap (λ (l : List TrapPlace). length l) c.as_slice-6.ensures, few_places c.image.inside.version (length c.image.inside.text) c.image.inside.places c.image.invariant.text.most c.image.invariant.places)
