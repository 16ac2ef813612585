-- Data segments that instructions may name: those that were gone over so far, and one more.
use Rattle.std.proofs.Common.{◌≡◌, ℕ, zero, suc, ◌+◌, ◌<◌, ◌≤◌, List, [], ◌∷◌, ◌++◌, take, length, length-append, append_assoc, append-nil, refl, sym, ap, ◌∙◌, arith}
use Rattle.std.specs.Prelude.{slice_index_or}
use Rattle.std.proofs.lemmas.List.{take-map}
use Rattle.rv_isa.specs.declared.stepping.Region.TheVariants.{Passive}
use Rattle.rv_isa.specs.Steps.{region_base}
use Rattle.image_format.specs.declared.image.TrapPlace.{TrapPlace}
use Rattle.image_format.specs.Bounds.{Each, PlaceFits, ArePlaces, IsPassive}
use Rattle.image_format.specs.Versions.{most_pages}
use Rattle.index_spaces.specs.declared.entries.DataRow.{DataRow}
use Rattle.index_spaces.specs.Entries.{bytes_at_first, segments_at_first}
use Rattle.index_spaces.specs.Spaces.{Spaces, context_in}
use Rattle.image_linker.specs.ImageOf.{segment_words, joined, version_for}
use Rattle.image_linker.specs.Linking.{named_segments}

-- ---- bytes of segments

pub joined_append : (ss ts : List (List ℕ)) → joined (ss ++ ts) ≡ joined ss ++ joined ts
joined_append [] ts = refl
joined_append (s ∷ ss) ts = ap (λ (l : List ℕ). s ++ l) (joined_append ss ts) ∙ sym (append_assoc s (joined ss) (joined ts))

pub joined_first : (n : ℕ) (ss : List (List ℕ)) → length (joined (take n ss)) ≤ length (joined ss)
joined_first zero ss = omega arith
joined_first (suc n) [] = omega arith
joined_first (suc n) (s ∷ ss) = omega (arith, length-append s (joined (take n ss)), length-append s (joined ss), joined_first n ss)

-- an image has few of them, and few pages, and its traps are in the order of their offsets
passive_few : (n : ℕ) (bytes : List ℕ) → IsPassive (version_for n) bytes → length bytes ≤ 67108864
passive_few zero bytes h = omega (arith, ap length h)
passive_few (suc n) bytes h = h

pub named_few : (s : Spaces) (rows : List DataRow) → rows ≡ take (context_in s).segments s.segments → IsPassive (version_for (context_in s).segments) (joined (named_segments s)) → length (joined (segments_at_first rows)) ≤ 67108864
named_few s rows is h = omega (arith, passive_few (context_in s).segments (joined (named_segments s)) h, ap (λ (l : List DataRow). length (joined (segments_at_first l))) is)

pub pages_few : (n : ℕ) → most_pages (version_for n) ≤ 4096
pages_few zero = omega arith
pages_few (suc n) = omega arith

pub places_in_order : (n words : ℕ) (places : List TrapPlace) → ArePlaces (version_for n) words places → Each (PlaceFits words) [] places
places_in_order zero words places h = h.1
places_in_order (suc n) words places h = h.1

-- ---- one more

bytes_suc : (rows : List DataRow) (i : ℕ) (r : DataRow) → i < length rows → r ≡ slice_index_or rows i r → segments_at_first (take (suc i) rows) ≡ segments_at_first (take i rows) ++ bytes_at_first r.place r.bytes ∷ []
bytes_suc [] i r less e = absurd (omega arith)
bytes_suc (x ∷ rows) zero r less e = ap (λ (y : DataRow). bytes_at_first y.place y.bytes ∷ []) (sym e)
bytes_suc (x ∷ rows) (suc i) r less e = ap (λ (ss : List (List ℕ)). bytes_at_first x.place x.bytes ∷ ss) (bytes_suc rows i r (omega arith) e)

bytes_more : (rows : List DataRow) (i : ℕ) (r : DataRow) → i < length rows → r ≡ slice_index_or rows i r → segments_at_first (take (i + 1) rows) ≡ segments_at_first (take i rows) ++ bytes_at_first r.place r.bytes ∷ []
bytes_more rows i r less e = let k : i + 1 ≡ suc i = omega arith in rw k (bytes_suc rows i r less e)

pub joined_more : (rows : List DataRow) (i : ℕ) (r : DataRow) → i < length rows → r ≡ slice_index_or rows i r
    → joined (segments_at_first (take (i + 1) rows)) ≡ joined (segments_at_first (take i rows)) ++ bytes_at_first r.place r.bytes
joined_more rows i r less e =
    let before = segments_at_first (take i rows) in
    let own = bytes_at_first r.place r.bytes in
    ap joined (bytes_more rows i r less e) ∙ joined_append before (own ∷ []) ∙ ap (λ (l : List ℕ). joined before ++ l) (append-nil own)

words_append : (before : ℕ) (ss : List (List ℕ)) (s : List ℕ) → segment_words before (ss ++ s ∷ []) ≡ segment_words before ss ++ (length s ∷ (region_base Passive + (before + length (joined ss))) ∷ [])
words_append before [] s = let n : before ≡ before + 0 = omega arith in ap (λ (k : ℕ). length s ∷ (region_base Passive + k) ∷ []) n
words_append before (t ∷ ss) s =
    let n : before + length t + length (joined ss) ≡ before + length (t ++ joined ss) = omega (arith, length-append t (joined ss)) in
    let front = length t ∷ (region_base Passive + before) ∷ [] in
    ap (λ (l : List ℕ). front ++ l) (words_append (before + length t) ss s)
    ∙ ap (λ (k : ℕ). front ++ (segment_words (before + length t) ss ++ (length s ∷ (region_base Passive + k) ∷ []))) n

pub words_more : (rows : List DataRow) (i : ℕ) (r : DataRow) → i < length rows → r ≡ slice_index_or rows i r
    → segment_words 0 (segments_at_first (take (i + 1) rows))
    ≡ segment_words 0 (segments_at_first (take i rows)) ++ (length (bytes_at_first r.place r.bytes) ∷ (region_base Passive + length (joined (segments_at_first (take i rows)))) ∷ [])
words_more rows i r less e =
    let before = segments_at_first (take i rows) in
    let own = bytes_at_first r.place r.bytes in
    let same : 0 + length (joined before) ≡ length (joined before) = omega arith in
    ap (segment_words 0) (bytes_more rows i r less e)
    ∙ words_append 0 before own
    ∙ ap (λ (k : ℕ). segment_words 0 before ++ (length own ∷ (region_base Passive + k) ∷ [])) same

-- those so far are no more than all
pub joined_less : (rows : List DataRow) (i : ℕ) → length (joined (segments_at_first (take i rows))) ≤ length (joined (segments_at_first rows))
joined_less rows i =
    let own = λ (r : DataRow). bytes_at_first r.place r.bytes in
    omega (arith, ap (λ (ss : List (List ℕ)). length (joined ss)) (take-map own i rows), joined_first i (segments_at_first rows))
