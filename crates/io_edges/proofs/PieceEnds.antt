-- Where pieces end, one after another.
use Rattle.std.proofs.Common.{◌≡◌, ℕ, ◌+◌, ◌-◌, ◌≤◌, ◌<◌, List, [], ◌∷◌, ◌++◌, length, slice_index, Vec, take, get_or, zero, suc, length-append, arith, refl, sym, ap, ◌≢◌, Option, None, Some, unwrap_or, ◌∙◌}
use Rattle.std.proofs.lemmas.List.{take_more, append-nil, get_or_read}
use Rattle.std.proofs.Math.Seq.{get_or-append_seam}
use Rattle.std.proofs.lemmas.Grind.{flat_map-append, common_steps}
use Rattle.std.specs.Global.{Global}
use Rattle.std.specs.List.{flat_map}
use Rattle.io_edges.specs.PiecesState.{ends_from, IsPlaced}

abbrev items : Vec ℕ Global → List ℕ
items piece = piece.items

-- each piece ends at the offset where the first begins, or after it
ends_from-above : (from : ℕ) (pieces : List (Vec ℕ Global)) (j : ℕ) → j < length (ends_from from pieces) → from ≤ slice_index (ends_from from pieces) j
ends_from-above from [] j h = omega arith
ends_from-above from (piece ∷ pieces) zero h = omega arith
ends_from-above from (piece ∷ pieces) (suc j) h = omega (arith, ends_from-above (from + length piece.items) pieces j (omega arith))

-- the ends are in order
pub ends_from-ordered : (from : ℕ) (pieces : List (Vec ℕ Global)) (i j : ℕ) → i ≤ j → j < length (ends_from from pieces)
    → slice_index (ends_from from pieces) i ≤ slice_index (ends_from from pieces) j
ends_from-ordered from [] i j le h = omega arith
ends_from-ordered from (piece ∷ pieces) zero zero le h = omega arith
ends_from-ordered from (piece ∷ pieces) zero (suc j) le h = ends_from-above (from + length piece.items) pieces j (omega arith)
ends_from-ordered from (piece ∷ pieces) (suc i) zero le h = omega arith
ends_from-ordered from (piece ∷ pieces) (suc i) (suc j) le h = ends_from-ordered (from + length piece.items) pieces i j (omega arith) (omega arith)

-- one more piece ends where all the bytes end
ends_from-push : (from : ℕ) (pieces : List (Vec ℕ Global)) (piece : Vec ℕ Global)
    → ends_from from (pieces ++ piece ∷ []) ≡ ends_from from pieces ++ (from + length (flat_map items pieces ++ piece.items)) ∷ []
ends_from-push from [] piece = refl
ends_from-push from (first ∷ pieces) piece =
    let e : from + length first.items + length (flat_map items pieces ++ piece.items) ≡ from + length (items first ++ flat_map items pieces ++ piece.items) = simp length-append (omega arith) in
    ap (λ (l : List ℕ). (from + length first.items) ∷ l) (ends_from-push (from + length first.items) pieces piece ∙ ap (λ (n : ℕ). ends_from (from + length first.items) pieces ++ n ∷ []) e)

-- a step of the loop that gathers pieces: their bytes, and their ends
pub gathers_more : (pieces : List (Vec ℕ Global)) (i : ℕ) (piece : Vec ℕ Global) (whole ends : List ℕ) → i < length pieces → piece ≡ get_or pieces i piece
    → whole ≡ flat_map items (take i pieces) → ends ≡ ends_from 0 (take i pieces)
    → (whole ++ piece.items ≡ flat_map items (take (i + 1) pieces)) × (ends ++ length (whole ++ piece.items) ∷ [] ≡ ends_from 0 (take (i + 1) pieces))
gathers_more pieces i piece whole ends h is w e =
    let more : take (i + 1) pieces ≡ take i pieces ++ piece ∷ [] = take_more pieces i piece h ∙ ap (λ (p : Vec ℕ Global). take i pieces ++ p ∷ []) (sym is) in
    let at : 0 + length (flat_map items (take i pieces) ++ piece.items) ≡ length (flat_map items (take i pieces) ++ piece.items) = omega arith in
    rw (more, w, e) (
      sym (flat_map-append items (take i pieces) (piece ∷ []) ∙ ap (λ (l : List ℕ). flat_map items (take i pieces) ++ l) (append-nil piece.items)),
      sym (ends_from-push 0 (take i pieces) piece ∙ ap (λ (n : ℕ). ends_from 0 (take i pieces) ++ n ∷ []) at),
    )

-- the last element of a list that ends with it
pub last_pushed : (xs : List ℕ) (x : ℕ) → slice_index (xs ++ x ∷ []) (length (xs ++ x ∷ []) - 1) ≡ x
last_pushed xs x =
    let at : length (xs ++ x ∷ []) - 1 ≡ length xs = simp length-append (omega arith) in
    rw at (get_or-append_seam xs x [] 0)

-- where a source doesn't fail here, it does so at a later offset, or nowhere
fails_later : (fails_at : Option ℕ) (given most : ℕ) → ((x : ℕ) → fails_at ≡ Some x → given ≤ x) → (fails_at ≡ Some given → ⊥) → given < most → given < unwrap_or fails_at most
fails_later None given most within here below = below
fails_later (Some x) given most within here below =
    let other : given ≢ x = λ e. here (ap (λ (n : ℕ). Some n) (sym e)) in
    let upto : given ≤ x = within x refl in
    omega arith

-- where bytes are left, the next piece is there
piece_is_left : {whole ends : List ℕ} {piece given : ℕ} {fails_at : Option ℕ} (next : ℕ) → IsPlaced whole ends piece given fails_at → given < length whole
    → ((i : ℕ) → piece ≤ i → i < next → slice_index ends i ≤ given) → next < length ends
piece_is_left next placed left passed = grind (arith, common_steps)

-- where bytes are left and the source doesn't fail here, a read stops after this offset, and inside the bytes
pub stops_behind : {whole ends : List ℕ} {piece given : ℕ} {fails_at : Option ℕ} (next end most : ℕ) (seen : List ℕ) → seen ≡ ends
    → IsPlaced whole ends piece given fails_at → given < length whole → (fails_at ≡ Some given → ⊥) → given < most
    → ((i : ℕ) → piece ≤ i → i < next → slice_index seen i ≤ given) → (next < length seen → given < slice_index seen next)
    → end ≡ get_or ends next end → (given < end) × (given < unwrap_or fails_at most) × (end ≤ length whole)
stops_behind {ends = ends} next end most seen same placed left here below passed behind is =
    let there : next < length ends = piece_is_left next placed left (rw same at passed) in
    let end_is : end ≡ slice_index ends next = get_or_read ends next end there is 0 in
    let order = placed.ordered next (length ends - 1) (omega arith) (omega arith) in
    let later = rw same at behind in
    (omega (arith, later there), fails_later _ _ most placed.limit here below, omega (arith, order, placed.last))
