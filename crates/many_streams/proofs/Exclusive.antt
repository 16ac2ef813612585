-- Frames, bytes that are cut off and bytes with a bad frame are told apart.
use Rattle.std.proofs.Common.{◌≡◌, ◌<◌, ◌≤◌, ◌^◌, ◌⊎◌, inl, inr, ℕ, true, List, [], ◌∷◌, ◌++◌, length, get_or, take, refl, sym, ap, ◌∙◌, subst, arith, append_assoc, length-append}
use mathlib.Core.Logic.{dite}
use native.Mathlib.Decide.{dec_le}
use Rattle.std.proofs.lemmas.Option.{get_or_from_slice_get}
use Rattle.std.proofs.lemmas.List.{append-nil, same_lists, take_all, take-append-le}
use Rattle.many_streams.specs.declared.limits.TheConstants.{MAX_INPUT, MAX_MODULES}
use Rattle.many_streams.specs.Frames.{Chunk, u32, chunks_encoding, encoding, bytes_of, is_ended, IsOneOpen, AreEnded, Begins, AreWhole, Frames, IsCutChunk, IsCutInChunk, IsCut, IsCutOff, IsBadCount, IsBadIndex, IsTrailing, IsError, IsBadFrame}
use Rattle.many_streams.proofs.Errors.{error_refused}
use Rattle.many_streams.proofs.Single.{u32-inj, IsStuck, AreSame, begins_once, none_open, not_open, ended_is_stuck, bad_is_stuck, cut_is_stuck}

-- well-formed chunks, and none that may follow
record Stops (bytes : List ℕ) (count : ℕ) (cs : List Chunk) (rest : List ℕ) : Type 0 where
  begins : Begins bytes count cs rest
  stuck : IsStuck count cs rest

whole_stops : (bytes : List ℕ) (count : ℕ) (cs : List Chunk) → AreWhole bytes count cs → Stops bytes count cs []
whole_stops bytes count cs w =
    record { begins = record { formed = w.formed; are = w.are ∙ sym (append-nil (encoding count cs)) }; stuck = ended_is_stuck count cs [] w.ended }

cut_stops : (bytes : List ℕ) (c : IsCutInChunk bytes) → Stops bytes c.count c.chunks c.rest
cut_stops bytes c = record { begins = c.begins; stuck = cut_is_stuck c.count c.chunks c.rest c.begins.formed.few c.cut }

index_stops : (bytes : List ℕ) (at : ℕ) (e : IsBadIndex bytes at) → Stops bytes e.count e.chunks (u32 e.index ++ e.more)
index_stops bytes at e = record { begins = e.begins; stuck = bad_is_stuck e.count e.chunks e.index e.more e.begins.formed.few e.fits e.bad }

trailing_stops : (bytes : List ℕ) (at : ℕ) (e : IsTrailing bytes at) → Stops bytes e.count e.chunks (e.byte ∷ e.more)
trailing_stops bytes at e = record { begins = e.begins; stuck = ended_is_stuck e.count e.chunks (e.byte ∷ e.more) e.ended }

stops_once : (bytes : List ℕ) (count count' : ℕ) (cs cs' : List Chunk) (rest rest' : List ℕ) → Stops bytes count cs rest → Stops bytes count' cs' rest'
    → AreSame count count' cs cs' rest rest'
stops_once bytes count count' cs cs' rest rest' s s' = begins_once bytes count count' cs cs' rest rest' s.begins s.stuck s'.begins s'.stuck

-- where one has ended, the other has none open
closed : (bytes : List ℕ) (count count' : ℕ) (cs cs' : List Chunk) (rest rest' : List ℕ) → Stops bytes count cs rest → AreEnded count cs
    → Stops bytes count' cs' rest' → IsOneOpen count' cs' → ⊥
closed bytes count count' cs cs' rest rest' s ended s' owes =
    let e = stops_once bytes count count' cs cs' rest rest' s s' in
    none_open count' cs' (subst (λ (n : ℕ). AreEnded n cs') e.counts (subst (AreEnded count) e.chunks ended)) owes

-- a number of modules has four bytes, and is 1 to 64
four_bytes : (bytes : List ℕ) (count : ℕ) (cs : List Chunk) (rest : List ℕ) → Begins bytes count cs rest → length bytes < 4 → ⊥
four_bytes bytes count cs rest b short =
    let e : length bytes ≡ length (encoding count cs ++ rest) = ap length b.are in
    let a = length-append (encoding count cs) rest in
    let c = length-append (u32 count) (chunks_encoding cs) in
    let four : length (u32 count) ≡ 4 = refl in
    absurd (omega arith)

good_count : (bytes : List ℕ) (at count : ℕ) (cs : List Chunk) (rest : List ℕ) → IsBadCount bytes at → Begins bytes count cs rest → ⊥
good_count bytes at count cs rest e b = of e.bad
  where
    same : e.count ≡ count
    same =
        let few = b.formed.few in (u32-inj e.count count e.more (chunks_encoding cs ++ rest) e.fits (omega arith) (sym e.are
        ∙ (b.are ∙ append_assoc (u32 count) (chunks_encoding cs) rest))).0

    of : (e.count ≡ 0) ⊎ (MAX_MODULES < e.count) → ⊥
    of (inl none) = let some = b.formed.some in let s = same in absurd (omega arith)
    of (inr many) = let few = b.formed.few in let s = same in absurd (omega arith)

-- ---- however many bytes there are

whole_once : (bytes : List ℕ) (count count' : ℕ) (cs cs' : List Chunk) → AreWhole bytes count cs → AreWhole bytes count' cs' → AreSame count count' cs cs' [] []
whole_once bytes count count' cs cs' w w' = stops_once bytes count count' cs cs' [] [] (whole_stops bytes count cs w) (whole_stops bytes count' cs' w')

whole_not_cut : (bytes : List ℕ) (count : ℕ) (cs : List Chunk) → AreWhole bytes count cs → IsCut bytes → ⊥
whole_not_cut bytes count cs w (inl short) = let s = whole_stops bytes count cs w in four_bytes bytes count cs [] s.begins short
whole_not_cut bytes count cs w (inr c) = closed bytes count c.count cs c.chunks [] c.rest (whole_stops bytes count cs w) w.ended (cut_stops bytes c) c.owes

whole_no_error : (bytes : List ℕ) (count at : ℕ) (cs : List Chunk) → AreWhole bytes count cs → IsError bytes at → ⊥
whole_no_error bytes count at cs w (inl e) = let s = whole_stops bytes count cs w in good_count bytes at count cs [] e s.begins
whole_no_error bytes count at cs w (inr (inl e)) =
    closed bytes count e.count cs e.chunks [] (u32 e.index ++ e.more) (whole_stops bytes count cs w) w.ended (index_stops bytes at e) e.owes
whole_no_error bytes count at cs w (inr (inr e)) =
    let s = stops_once bytes count e.count cs e.chunks [] (e.byte ∷ e.more) (whole_stops bytes count cs w) (trailing_stops bytes at e) in let r = s.rests in cc

-- an index that is cut off, or that of an open module, isn't a bad one
cut_index : (count : ℕ) (cs : List Chunk) (i : ℕ) (bytes more : List ℕ) → count ≤ MAX_MODULES → i < 2 ^ 32 → (count ≤ i) ⊎ (is_ended i cs ≡ true)
    → IsCutChunk count cs bytes → bytes ≡ u32 i ++ more → ⊥
cut_index count cs i bytes more few fits bad (inl short) are =
    let e : length bytes ≡ length (u32 i ++ more) =
    ap length are in let a = length-append (u32 i) more in let four : length (u32 i) ≡ 4 = refl in absurd (omega arith)
cut_index count cs i bytes more few fits bad (inr (k, rest, going, is, ends)) are =
    let below = going.0 in
    let e = u32-inj i k more rest fits (omega arith) (sym are ∙ is) in
    let bad' = subst (λ (n : ℕ). (count ≤ n) ⊎ (is_ended n cs ≡ true)) e.0 bad in
    not_open count cs k bad' going

cut_no_error : (bytes : List ℕ) (at : ℕ) → IsCut bytes → IsError bytes at → ⊥
cut_no_error bytes at (inl short) (inl e) =
    let s : length bytes ≡ length (u32 e.count ++ e.more) =
    ap length e.are in let a = length-append (u32 e.count) e.more in let four : length (u32 e.count) ≡ 4 = refl in absurd (omega arith)
cut_no_error bytes at (inl short) (inr (inl e)) = four_bytes bytes e.count e.chunks (u32 e.index ++ e.more) e.begins short
cut_no_error bytes at (inl short) (inr (inr e)) = four_bytes bytes e.count e.chunks (e.byte ∷ e.more) e.begins short
cut_no_error bytes at (inr c) (inl e) = good_count bytes at c.count c.chunks c.rest e c.begins
cut_no_error bytes at (inr c) (inr (inl e)) =
    let s = stops_once bytes c.count e.count c.chunks e.chunks c.rest (u32 e.index ++ e.more) (cut_stops bytes c) (index_stops bytes at e) in
    let cut = subst (λ (n : ℕ). IsCutChunk n e.chunks c.rest) s.counts (subst (λ (l : List Chunk). IsCutChunk c.count l c.rest) s.chunks c.cut) in
    cut_index e.count e.chunks e.index c.rest e.more e.begins.formed.few e.fits e.bad cut s.rests
cut_no_error bytes at (inr c) (inr (inr e)) =
    closed bytes e.count c.count e.chunks c.chunks (e.byte ∷ e.more) c.rest (trailing_stops bytes at e) e.ended (cut_stops bytes c) c.owes

same_place : (count count' : ℕ) (cs cs' : List Chunk) (rest rest' : List ℕ) → AreSame count count' cs cs' rest rest'
    → length (encoding count cs) ≡ length (encoding count' cs')
same_place count count' cs cs' rest rest' s = ap (λ (n : ℕ). length (encoding n cs)) s.counts ∙ ap (λ (l : List Chunk). length (encoding count' l)) s.chunks

error_once : (bytes : List ℕ) (at at' : ℕ) → IsError bytes at → IsError bytes at' → at ≡ at'
error_once bytes at at' (inl e) (inl e') = e.place ∙ sym e'.place
error_once bytes at at' (inl e) (inr (inl e')) = absurd (good_count bytes at e'.count e'.chunks (u32 e'.index ++ e'.more) e e'.begins)
error_once bytes at at' (inl e) (inr (inr e')) = absurd (good_count bytes at e'.count e'.chunks (e'.byte ∷ e'.more) e e'.begins)
error_once bytes at at' (inr (inl e)) (inl e') = absurd (good_count bytes at' e.count e.chunks (u32 e.index ++ e.more) e' e.begins)
error_once bytes at at' (inr (inl e)) (inr (inl e')) =
    e.place ∙ (same_place _ _ _ _ _ _ (stops_once bytes e.count e'.count e.chunks e'.chunks (u32 e.index ++ e.more) (u32 e'.index ++ e'.more) (index_stops bytes at e) (index_stops bytes at' e'))
    ∙ sym e'.place)
error_once bytes at at' (inr (inl e)) (inr (inr e')) =
    absurd (closed bytes e'.count e.count e'.chunks e.chunks (e'.byte ∷ e'.more) (u32 e.index ++ e.more) (trailing_stops bytes at' e') e'.ended (index_stops bytes at e) e.owes)
error_once bytes at at' (inr (inr e)) (inl e') = absurd (good_count bytes at' e.count e.chunks (e.byte ∷ e.more) e' e.begins)
error_once bytes at at' (inr (inr e)) (inr (inl e')) =
    absurd (closed bytes e.count e'.count e.chunks e'.chunks (e.byte ∷ e.more) (u32 e'.index ++ e'.more) (trailing_stops bytes at e) e.ended (index_stops bytes at' e') e'.owes)
error_once bytes at at' (inr (inr e)) (inr (inr e')) =
    e.place ∙ (same_place _ _ _ _ _ _ (stops_once bytes e.count e'.count e.chunks e'.chunks (e.byte ∷ e.more) (e'.byte ∷ e'.more) (trailing_stops bytes at e) (trailing_stops bytes at' e'))
    ∙ sym e'.place)

-- ---- an input of no more bytes than one may have

pub one_list : (bytes : List ℕ) (list other : List (List ℕ)) → Frames bytes list → Frames bytes other → list ≡ other
one_list bytes list other f g =
    let s = whole_once bytes f.count g.count f.chunks g.chunks f.whole g.whole in
    let n = s.counts in let a = f.modules in let b = g.modules in
    let there : (k : ℕ) (d : List ℕ) → k < length list → get_or list k d ≡ get_or other k d =
    λ k d below. get_or_from_slice_get list k (bytes_of k f.chunks) d (f.each k (omega arith))
    ∙ (ap (bytes_of k) s.chunks ∙ sym (get_or_from_slice_get other k (bytes_of k g.chunks) d (g.each k (omega arith)))) in
    same_lists list other (omega arith) there

pub frames_not_cut_off : (bytes : List ℕ) (list : List (List ℕ)) → Frames bytes list → IsCutOff bytes → ⊥
frames_not_cut_off bytes list f c = whole_not_cut bytes f.count f.chunks f.whole c.cut

pub frames_not_bad : (bytes : List ℕ) (list : List (List ℕ)) (at : ℕ) → Frames bytes list → IsBadFrame bytes at → ⊥
frames_not_bad bytes list at f (inl e) =
    whole_no_error bytes f.count at f.chunks f.whole (subst (λ (l : List ℕ). IsError l at) (take_all MAX_INPUT bytes f.short) e)
frames_not_bad bytes list at f (inr t) = let long = t.long in let short = f.short in absurd (omega arith)

pub bad_not_cut_off : (bytes : List ℕ) (at : ℕ) → IsBadFrame bytes at → IsCutOff bytes → ⊥
bad_not_cut_off bytes at (inl e) c = cut_no_error bytes at c.cut (subst (λ (l : List ℕ). IsError l at) (take_all MAX_INPUT bytes c.short) e)
bad_not_cut_off bytes at (inr t) c = let long = t.long in let short = c.short in absurd (omega arith)

-- no error comes before the byte that is too many
none_before : (bytes : List ℕ) (at : ℕ) → IsCut bytes ⊎ ((count : ℕ) × (cs : List Chunk) × AreWhole bytes count cs) → IsError bytes at → ⊥
none_before bytes at (inl cut) e = cut_no_error bytes at cut e
none_before bytes at (inr (count, cs, w)) e = whole_no_error bytes count at cs w e

pub one_offset : (bytes : List ℕ) (at other : ℕ) → IsBadFrame bytes at → IsBadFrame bytes other → at ≡ other
one_offset bytes at other (inl e) (inl e') = error_once (take MAX_INPUT bytes) at other e e'
one_offset bytes at other (inl e) (inr t) = absurd (none_before (take MAX_INPUT bytes) at t.right e)
one_offset bytes at other (inr t) (inl e) = absurd (none_before (take MAX_INPUT bytes) other t.right e)
one_offset bytes at other (inr t) (inr t') = t.place ∙ sym t'.place

pub whatever_follows : (bytes more : List ℕ) (at : ℕ) → IsBadFrame bytes at → IsBadFrame (bytes ++ more) at
whatever_follows bytes more at (inl e) = dite (dec_le (length bytes) MAX_INPUT)
    (λ few. error_refused bytes at more few (subst (λ (l : List ℕ). IsError l at) (take_all MAX_INPUT bytes few) e))
    (λ other. inl (subst (λ (l : List ℕ). IsError l at) (sym (take-append-le MAX_INPUT bytes more (omega arith))) e))
whatever_follows bytes more at (inr t) = let long = t.long in inr (record {
  place = t.place;
  long = let a = length-append bytes more in omega arith;
  right =
      subst (λ (l : List ℕ). IsCut l ⊎ ((count : ℕ) × (cs : List Chunk) × AreWhole l count cs)) (sym (take-append-le MAX_INPUT bytes more (omega arith))) t.right;
})
