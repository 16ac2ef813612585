-- The bodies of a block, by its cuts.
use Rattle.std.proofs.Common.{◌≡◌, ◌∙◌, ◌+◌, ◌-◌, ◌<◌, ◌≤◌, ℕ, zero, suc, List, [], ◌∷◌, ◌++◌, length, take, drop, refl, sym, ap, arith, append_assoc, length-append, length-drop}
use Rattle.std.specs.Prelude.{slice_index_or}
use Rattle.std.specs.List.{between}
use Rattle.std.proofs.lemmas.List.{take_rest, drop_at, take-append-le, drop-append-le, take-append-drop, drop-drop, drop_all, length-take, length-take-le, take_all}
use Rattle.wasm_defs.specs.Limits.{max_body}
use Rattle.body_cutter.specs.declared.body.Cut.{Cut}
use Rattle.body_cutter.specs.declared.body.Mark.{Mark}
use Rattle.body_cutter.specs.Bodies.{Body, Block, Begins, body_at, body_between, cut_bodies, last_end, begin_of, AreCuts, block_of, all_bytes, bytes_in, mark_of}

abbrev body_with : Cut → List ℕ → Body
body_with cut bytes = record { index = cut.index; size = cut.size; first = cut.first; bytes = bytes }

abbrev block_with : List Body → List ℕ → Block
block_with bodies rest = record { bodies = bodies; rest = rest }

same_block : (xs ys : List Body) (s t : List ℕ) → xs ≡ ys → s ≡ t → block_with xs s ≡ block_with ys t
same_block xs ys s t p q = rw (p, q) refl

-- there are as many bodies as cuts
pub count : (bytes : List ℕ) (begin : ℕ) (cuts : List Cut) → length (cut_bodies bytes begin cuts) ≡ length cuts
count bytes begin [] = refl
count bytes begin (cut ∷ cuts) = ap suc (count bytes cut.end cuts)

-- ---- where bodies end

pub rises : (n begin : ℕ) (cuts : List Cut) → AreCuts n begin cuts → begin ≤ last_end begin cuts
rises n begin [] is = omega arith
rises n begin (cut ∷ cuts) is = omega (arith, is.0, rises n cut.end cuts is.2)

pub within : (n begin : ℕ) (cuts : List Cut) → AreCuts n begin cuts → last_end begin cuts ≤ n
within n begin [] is = is
within n begin (cut ∷ cuts) is = within n cut.end cuts is.2

-- so many bytes do, if the last one ends within them
pub enough : (n m begin : ℕ) (cuts : List Cut) → AreCuts n begin cuts → last_end begin cuts ≤ m → AreCuts m begin cuts
enough n m begin [] is le = le
enough n m begin (cut ∷ cuts) is le = (is.0, is.1, enough n m cut.end cuts is.2 le)

-- the first ones alone
pub fewer : (n begin k : ℕ) (cuts : List Cut) → AreCuts n begin cuts → AreCuts n begin (take k cuts)
fewer n begin zero cuts is = omega (arith, rises n begin cuts is, within n begin cuts is)
fewer n begin (suc k) [] is = is
fewer n begin (suc k) (cut ∷ cuts) is = (is.0, is.1, fewer n cut.end k cuts is.2)

-- the first ones end where the last of them does
pub end_at : (begin : ℕ) (cuts : List Cut) (k : ℕ) (none : Cut) → k < length cuts → (slice_index_or cuts k none).end ≡ last_end begin (take (suc k) cuts)
end_at begin [] k none lt = absurd (omega arith)
end_at begin (cut ∷ cuts) zero none lt = refl
end_at begin (cut ∷ cuts) (suc k) none lt = end_at cut.end cuts k none (omega arith)

-- where there is an end before, it is that of the cut before
pub end_before : (cuts : List Cut) (k : ℕ) (none : Cut) → 0 < k → k ≤ length cuts → (slice_index_or cuts (k - 1) none).end ≡ begin_of cuts k
end_before cuts k none some le =
    let n : suc (k - 1) ≡ k = omega arith in
    end_at 0 cuts (k - 1) none (omega arith) ∙ ap (begin_of cuts) n

-- all of them end where the last one does
pub end_is : (cuts given : List Cut) (n end : ℕ) → end ≡ begin_of given n → given ≡ cuts → n ≡ length cuts → end ≡ last_end 0 cuts
end_is cuts given n end e same all = e ∙ ap (λ (l : List Cut). begin_of l n) same ∙ ap (last_end 0) (take_all n cuts (omega arith))

-- ---- the body of an index

body_is : (bytes : List ℕ) (begin : ℕ) (cuts : List Cut) (k : ℕ) (cut : Cut) → k < length cuts → cut ≡ slice_index_or cuts k cut
    → body_at (cut_bodies bytes begin cuts) k ≡ body_between bytes (last_end begin (take k cuts)) cut
body_is bytes begin [] k cut lt e = absurd (omega arith)
body_is bytes begin (first ∷ cuts) zero cut lt e = rw e refl
body_is bytes begin (first ∷ cuts) (suc k) cut lt e = body_is bytes first.end cuts k cut (omega arith) e

-- no body is longer than one may be, and it is there
record IsCut (n begin : ℕ) (cut : Cut) : Type 0 where
  pub rises : begin ≤ cut.end
  pub small : cut.end ≤ begin + max_body
  pub within : cut.end ≤ n

cut_at : (n begin : ℕ) (cuts : List Cut) (k : ℕ) (cut : Cut) → k < length cuts → cut ≡ slice_index_or cuts k cut → AreCuts n begin cuts → IsCut n (last_end begin (take k cuts)) cut
cut_at n begin [] k cut lt e is = absurd (omega arith)
cut_at n begin (first ∷ cuts) zero cut lt e is =
    let later : first.end ≤ n = omega (arith, rises n first.end cuts is.2, within n first.end cuts is.2) in
    rw e (record { rises = is.0; small = is.1; within = later })
cut_at n begin (first ∷ cuts) (suc k) cut lt e is = cut_at n first.end cuts k cut (omega arith) e is.2

-- where the body of an index lies
pub record IsAt (bytes : List ℕ) (begin : ℕ) (cut : Cut) (b : Body) : Type 0 where
  pub is : body_between bytes begin cut ≡ b
  pub rises : begin ≤ cut.end
  pub small : cut.end ≤ begin + max_body
  pub within : cut.end ≤ length bytes

pub stands : (bytes : List ℕ) (cuts : List Cut) (b : Block) → block_of bytes cuts ≡ b → AreCuts (length bytes) 0 cuts
    → (k : ℕ) (given : List Cut) (begin : ℕ) (cut : Cut) → k < length b.bodies → given ≡ cuts → begin ≡ begin_of given k → cut ≡ slice_index_or cuts k cut → IsAt bytes begin cut (body_at b.bodies k)
stands bytes cuts b view is k given begin cut lt same before own =
    let few : k < length cuts = omega (arith, lt, count bytes 0 cuts, ap (λ (x : Block). length x.bodies) view) in
    let begins : begin_of cuts k ≡ begin = sym (before ∙ ap (λ (l : List Cut). begin_of l k) same) in
    let at = cut_at (length bytes) 0 cuts k cut few own is in
    record {
      is = ap (λ (n : ℕ). body_between bytes n cut) (sym begins) ∙ sym (body_is bytes 0 cuts k cut few own) ∙ ap (λ (x : Block). body_at x.bodies k) view;
      rises = omega (arith, begins, at.rises);
      small = omega (arith, begins, at.small);
      within = at.within;
    }

-- ---- the bytes

split_at : (from to : ℕ) (xs : List ℕ) → from ≤ to → between from to xs ++ drop to xs ≡ drop from xs
split_at from to xs le =
    let n : from + (to - from) ≡ to = omega arith in
    let rest : drop (to - from) (drop from xs) ≡ drop to xs = drop-drop (to - from) from xs ∙ ap (λ (k : ℕ). drop k xs) n in
    ap (λ (l : List ℕ). between from to xs ++ l) (sym rest) ∙ take-append-drop (to - from) (drop from xs)

joined : (n : ℕ) (bytes : List ℕ) (begin : ℕ) (cuts : List Cut) → AreCuts n begin cuts → all_bytes (cut_bodies bytes begin cuts) ++ drop (last_end begin cuts) bytes ≡ drop begin bytes
joined n bytes begin [] is = refl
joined n bytes begin (cut ∷ cuts) is =
    append_assoc (between begin cut.end bytes) (all_bytes (cut_bodies bytes cut.end cuts)) (drop (last_end cut.end cuts) bytes)
    ∙ ap (λ (l : List ℕ). between begin cut.end bytes ++ l) (joined n bytes cut.end cuts is.2)
    ∙ split_at begin cut.end bytes is.0

-- a block's bytes are those of its list
pub bytes_are : (bytes : List ℕ) (cuts : List Cut) (b : Block) → block_of bytes cuts ≡ b → AreCuts (length bytes) 0 cuts → bytes_in b ≡ bytes
bytes_are bytes cuts b view is = ap (λ (x : Block). bytes_in x) (sym view) ∙ joined (length bytes) bytes 0 cuts is

-- those of the complete bodies are as many as are before the last end
all_length : (bytes : List ℕ) (cuts : List Cut) → AreCuts (length bytes) 0 cuts → length (all_bytes (cut_bodies bytes 0 cuts)) ≡ last_end 0 cuts
all_length bytes cuts is =
    let sum = ap (λ (l : List ℕ). length l) (joined (length bytes) bytes 0 cuts is) in
    omega (arith, sum, length-append (all_bytes (cut_bodies bytes 0 cuts)) (drop (last_end 0 cuts) bytes), length-drop (last_end 0 cuts) bytes, within (length bytes) 0 cuts is)

-- ---- more bytes

between_front : (xs ys : List ℕ) (from to : ℕ) → from ≤ to → to ≤ length xs → between from to (xs ++ ys) ≡ between from to xs
between_front xs ys from to le most =
    ap (take (to - from)) (drop-append-le from xs ys (omega arith)) ∙ take-append-le (to - from) (drop from xs) ys (omega (arith, length-drop from xs))

front : (xs ys : List ℕ) (begin : ℕ) (cuts : List Cut) → AreCuts (length xs) begin cuts → cut_bodies (xs ++ ys) begin cuts ≡ cut_bodies xs begin cuts
front xs ys begin [] is = refl
front xs ys begin (cut ∷ cuts) is =
    let most : cut.end ≤ length xs = omega (arith, rises (length xs) cut.end cuts is.2, within (length xs) cut.end cuts is.2) in
    rw (between_front xs ys begin cut.end is.0 most, front xs ys cut.end cuts is.2) refl

pub extended : (bytes more : List ℕ) (cuts : List Cut) (b : Block) → block_of bytes cuts ≡ b → AreCuts (length bytes) 0 cuts → block_of (bytes ++ more) cuts ≡ record { bodies = b.bodies; rest = b.rest ++ more }
extended bytes more cuts b view is =
    same_block _ _ _ _ (front bytes more 0 cuts is) (drop-append-le (last_end 0 cuts) bytes more (within (length bytes) 0 cuts is))
    ∙ ap (λ (x : Block). block_with x.bodies (x.rest ++ more)) view

-- ---- one more body

module _ (bytes : List ℕ) (last : Cut) (at_end : last.end ≡ length bytes) where
  pushed : (begin : ℕ) (cuts : List Cut) → cut_bodies bytes begin (cuts ++ last ∷ []) ≡ cut_bodies bytes begin cuts ++ body_with last (drop (last_end begin cuts) bytes) ∷ []
  pushed begin [] =
      let rest : between begin last.end bytes ≡ drop begin bytes = ap (λ (k : ℕ). between begin k bytes) at_end ∙ take_rest bytes begin in
      ap (λ (l : List ℕ). body_with last l ∷ []) rest
  pushed begin (cut ∷ cuts) = ap (λ (l : List Body). body_between bytes begin cut ∷ l) (pushed cut.end cuts)

  ends_last : (begin : ℕ) (cuts : List Cut) → last_end begin (cuts ++ last ∷ []) ≡ length bytes
  ends_last begin [] = at_end
  ends_last begin (cut ∷ cuts) = ends_last cut.end cuts

  cuts_pushed : (begin : ℕ) (cuts : List Cut) → AreCuts (length bytes) begin cuts → length bytes ≤ last_end begin cuts + max_body → AreCuts (length bytes) begin (cuts ++ last ∷ [])
  cuts_pushed begin [] is small =
      let most : begin ≤ length bytes = is in
      let few : length bytes ≤ begin + max_body = small in
      (omega (arith, most, at_end), omega (arith, few, at_end), omega (arith, at_end))
  cuts_pushed begin (cut ∷ cuts) is small = (is.0, is.1, cuts_pushed cut.end cuts is.2 small)

  pub completed : (cuts : List Cut) (b : Block) → block_of bytes cuts ≡ b → AreCuts (length bytes) 0 cuts → length b.rest ≤ max_body
      → (cuts2 : List Cut) → cuts2 ≡ cuts ++ last ∷ []
      → (block_of bytes cuts2 ≡ record { bodies = b.bodies ++ record { index = last.index; size = last.size; first = last.first; bytes = b.rest } ∷ []; rest = [] }) × AreCuts (length bytes) 0 cuts2
  completed cuts b view is small cuts2 e =
      let few : length bytes ≤ last_end 0 cuts + max_body = omega (arith, small, ap (λ (x : Block). length x.rest) view, length-drop (last_end 0 cuts) bytes) in
      let none : drop (last_end 0 (cuts ++ last ∷ [])) bytes ≡ [] = drop_all _ bytes (omega (arith, ends_last 0 cuts)) in
      rw e (same_block _ _ _ _ (pushed 0 cuts) none ∙ ap (λ (x : Block). block_with (x.bodies ++ body_with last x.rest ∷ []) []) view, cuts_pushed 0 cuts is few)

-- ---- the first bodies and bytes alone

first_bodies : (bytes : List ℕ) (begin k : ℕ) (cuts : List Cut) → cut_bodies bytes begin (take k cuts) ≡ take k (cut_bodies bytes begin cuts)
first_bodies bytes begin zero cuts = refl
first_bodies bytes begin (suc k) [] = refl
first_bodies bytes begin (suc k) (cut ∷ cuts) = ap (λ (l : List Body). body_between bytes begin cut ∷ l) (first_bodies bytes cut.end k cuts)

-- bytes behind the last end may go
shorter : (bytes : List ℕ) (m : ℕ) (cuts : List Cut) → AreCuts (length bytes) 0 cuts → last_end 0 cuts ≤ m → m ≤ length bytes
    → (cut_bodies (take m bytes) 0 cuts ≡ cut_bodies bytes 0 cuts) × AreCuts (length (take m bytes)) 0 cuts
shorter bytes m cuts is le most =
    let still = enough (length bytes) (length (take m bytes)) 0 cuts is (omega (arith, length-take-le m bytes most)) in
    (sym (front (take m bytes) (drop m bytes) 0 cuts still) ∙ ap (λ (l : List ℕ). cut_bodies l 0 cuts) (take-append-drop m bytes), still)

pub without_rest : (bytes : List ℕ) (cuts : List Cut) (b : Block) → block_of bytes cuts ≡ b → AreCuts (length bytes) 0 cuts
    → (m : ℕ) → m ≡ last_end 0 cuts → (bytes2 : List ℕ) → bytes2 ≡ take m bytes → (cuts2 : List Cut) → cuts2 ≡ cuts
    → (block_of bytes2 cuts2 ≡ record { bodies = b.bodies; rest = [] }) × AreCuts (length bytes2) 0 cuts2
without_rest bytes cuts b view is m e bytes2 p cuts2 q =
    let most : m ≤ length bytes = omega (arith, e, within (length bytes) 0 cuts is) in
    let s = shorter bytes m cuts is (omega arith) most in
    let none : drop (last_end 0 cuts) (take m bytes) ≡ [] = drop_all _ (take m bytes) (omega (arith, length-take-le m bytes most)) in
    rw (p, q) (same_block _ _ _ _ s.0 none ∙ ap (λ (x : Block). block_with x.bodies []) view, s.1)

pub cut_back : (bytes : List ℕ) (cuts : List Cut) (b : Block) → block_of bytes cuts ≡ b → AreCuts (length bytes) 0 cuts
    → (mark : Mark) (saved : Block) → mark ≡ mark_of saved → Begins saved b
    → (bytes2 : List ℕ) → bytes2 ≡ take mark.bytes bytes → (cuts2 : List Cut) → cuts2 ≡ take mark.bodies cuts
    → (block_of bytes2 cuts2 ≡ saved) × AreCuts (length bytes2) 0 cuts2
cut_back bytes cuts b view is mark saved marked begins bytes2 p cuts2 q =
    let k = length saved.bodies in
    let m = length (bytes_in saved) in
    let few = fewer (length bytes) 0 k cuts is in
    let bodies : cut_bodies bytes 0 (take k cuts) ≡ saved.bodies = first_bodies bytes 0 k cuts ∙ ap (λ (x : Block). take k x.bodies) view ∙ begins.bodies in
    let first : take m bytes ≡ bytes_in saved = ap (take m) (sym (bytes_are bytes cuts b view is)) ∙ begins.bytes in
    let long : length (take m bytes) ≡ m = ap (λ (l : List ℕ). length l) first in
    let most : m ≤ length bytes = omega (arith, long, length-take m bytes) in
    let end : length (all_bytes saved.bodies) ≡ last_end 0 (take k cuts) = ap (λ (l : List Body). length (all_bytes l)) (sym bodies) ∙ all_length bytes (take k cuts) few in
    let s = shorter bytes m (take k cuts) few (omega (arith, end, length-append (all_bytes saved.bodies) saved.rest)) most in
    let rest : drop (last_end 0 (take k cuts)) (take m bytes) ≡ saved.rest = ap (drop (last_end 0 (take k cuts))) first ∙ drop_at (all_bytes saved.bodies) saved.rest _ end in
    rw (p, q, marked) (same_block _ _ _ _ (s.0 ∙ bodies) rest, s.1)
