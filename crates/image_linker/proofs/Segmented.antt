-- What an image says of its module's data segments, as it is loaded: after the globals the length of each, and the address of its bytes.
use Rattle.std.proofs.Common.{◌≡◌, ℕ, zero, suc, ◌+◌, ◌*◌, ◌^◌, ◌<◌, List, [], ◌∷◌, ◌++◌, length, take, drop, Some, refl, sym, ap, ◌∙◌, subst, arith, append_assoc, length-append}
use Rattle.std.specs.Prelude.{slice_get}
use Rattle.std.proofs.lemmas.List.{drop_at, take_at}
use Rattle.rv_isa.specs.declared.stepping.Region.TheVariants.{Passive}
use Rattle.rv_isa.specs.Steps.{Bytes, region_base}
use Rattle.image_format.specs.Environment.{word_bytes, word_at}
use Rattle.image_format.proofs.EnvironmentLaws.{length-word_bytes}
use Rattle.simulation.specs.Regions.{global_at, SegmentStands}
use Rattle.simulation.specs.StoreLaws.{SegmentsStand}
use Rattle.image_linker.specs.ImageOf.{segment_words, joined}
use Rattle.image_linker.proofs.Regions.{AreWords, word_is_read}

-- ---- their sizes

pub segment_words_length : (before : ℕ) (segments : List (List ℕ)) → length (segment_words before segments) ≡ 2 * length segments
segment_words_length before [] = refl
segment_words_length before (s ∷ ss) = omega (arith, segment_words_length (before + length s) ss)

pub segment_words_are_words : (before : ℕ) (segments : List (List ℕ)) → before + length (joined segments) < 2 ^ 32 → AreWords (segment_words before segments)
segment_words_are_words before [] few = tt
segment_words_are_words before (s ∷ ss) few =
    let all = length-append s (joined ss) in
    (omega (arith, all), (omega (arith, all), segment_words_are_words (before + length s) ss (omega (arith, all))))

pub words_append : (xs ys : List ℕ) → AreWords xs → AreWords ys → AreWords (xs ++ ys)
words_append [] ys first second = second
words_append (x ∷ xs) ys first second = (first.0, words_append xs ys first.1 second)

pub words_front : (xs ys : List ℕ) → AreWords (xs ++ ys) → AreWords xs
words_front [] ys are = tt
words_front (x ∷ xs) ys are = (are.0, words_front xs ys are.1)

-- ---- where they are

get_behind : (front back : List ℕ) (k : ℕ) → slice_get (front ++ back) (length front + k) ≡ slice_get back k
get_behind [] back k = let same : 0 + k ≡ k = omega arith in ap (slice_get back) same
get_behind (x ∷ front) back k =
    let same : suc (length front) + k ≡ suc (length front + k) = omega arith in
    ap (slice_get (x ∷ (front ++ back))) same ∙ get_behind front back k

module _ (b : Bytes) where
  -- the word of an index
  word_there : (words : List ℕ) (i j w : ℕ) → AreWords words → b.globals ≡ word_bytes words → i ≡ j → slice_get words j ≡ Some w → global_at b i ≡ w
  word_there words i j w small globals same is = ap (λ (k : ℕ). global_at b k) same ∙ ap (λ (l : List ℕ). word_at l j) globals ∙ word_is_read words j w small is

  loaded : (front before : List ℕ) (segments : List (List ℕ)) → AreWords (front ++ segment_words (length before) segments)
      → b.globals ≡ word_bytes (front ++ segment_words (length before) segments) → b.passive ≡ before ++ joined segments
      → (x : ℕ) (bytes : List ℕ) → slice_get segments x ≡ Some bytes → SegmentStands b (length front + 2 * x) bytes
  loaded front before [] small globals passive x bytes is = absurd cc
  loaded front before (s ∷ ss) small globals passive zero bytes is =
      let same : s ≡ bytes = cc in
      let behind = segment_words (length before) (s ∷ ss) in
      let words = front ++ behind in
      subst (λ (l : List ℕ). SegmentStands b (length front + 2 * 0) l) same (record {
        from = length before;
        inside = omega (arith, ap length globals, length-word_bytes words, length-append front behind);
        length_is = word_there words (length front + 2 * 0) (length front + 0) (length s) small globals (omega arith) (get_behind front behind 0);
        address_is = word_there words (length front + 2 * 0 + 1) (length front + 1) (region_base Passive + length before) small globals (omega arith) (get_behind front behind 1);
        within = omega (arith, ap length passive, length-append before (s ++ joined ss), length-append s (joined ss));
        bytes_are = ap (λ (l : List ℕ). take (length s) (drop (length before) l)) passive ∙ ap (take (length s)) (drop_at before (s ++ joined ss) (length before) refl) ∙ take_at s (joined ss) (length s) refl;
      })
  loaded front before (s ∷ ss) small globals passive (suc x) bytes is =
      let two = length s ∷ (region_base Passive + length before) ∷ [] in
      let next = front ++ two in
      let more = before ++ s in
      let words_same : front ++ segment_words (length before) (s ∷ ss) ≡ next ++ segment_words (length more) ss =
      sym (append_assoc front two (segment_words (length before + length s) ss)) ∙ ap (λ (n : ℕ). next ++ segment_words n ss) (sym (length-append before s)) in
      let passive_same : b.passive ≡ more ++ joined ss = passive ∙ sym (append_assoc before s (joined ss)) in
      let index : length next + 2 * x ≡ length front + 2 * suc x = omega (arith, length-append front two) in
      subst (λ (n : ℕ). SegmentStands b n bytes) index (loaded next more ss (subst AreWords words_same small) (globals ∙ ap word_bytes words_same) passive_same x bytes is)

  pub segments_loaded : (front : List ℕ) (segments : List (List ℕ)) → AreWords (front ++ segment_words 0 segments)
      → b.globals ≡ word_bytes (front ++ segment_words 0 segments) → b.passive ≡ joined segments → SegmentsStand b (length front) segments
  segments_loaded front segments small globals passive = loaded front [] segments small globals passive
