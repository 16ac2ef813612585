-- How many instruction words the jumps of a table have.
use Rattle.std.proofs.Common.{◌≡◌, ℕ, zero, suc, ◌+◌, ◌-◌, ◌*◌, List, [], ◌∷◌, map, length, get_or, ◌++◌, refl, sym, ◌∙◌, arith, length-append}
use Rattle.std.proofs.lemmas.List.{length-map}
use Rattle.frame_layout.specs.Macros.{distance, far}
use Rattle.frame_layout.specs.Templates.{Label, EmitContext, move_words, jump_words, jumps, label_at}
use Rattle.control_emit.specs.Pending.{Pending, Shape, shape_of, shapes, Ends, named}
use Rattle.control_emit.specs.Walks.{end_shape}

-- a jump's words, by the values that it takes along
abbrev pub words_of_jump : (takes : ℕ) → ℕ
words_of_jump takes = 2 + 6 * takes

abbrev takes_at : List Shape → ℕ → ℕ
takes_at ss k = (get_or ss k (end_shape 0 0)).takes

-- those of the jumps to several labels
abbrev pub words_of_jumps : List Shape → List ℕ → ℕ
words_of_jumps ss [] = 0
words_of_jumps ss (k ∷ ks) = words_of_jump (takes_at ss k) + words_of_jumps ss ks

module _ (w : EmitContext) where
  move-length : (takes j base d : ℕ) → length (move_words w takes j base ++ far d) ≡ words_of_jump takes
  move-length zero j base d = refl
  move-length (suc n) j base d = let more = move-length n (j + 1) (base + 1) d in omega arith

  jump-length : (height here : ℕ) (l : Label) → length (jump_words w height here l) ≡ words_of_jump l.takes
  jump-length height here l =
      move-length l.takes (height - l.takes) l.base (distance (here + length (move_words w l.takes (height - l.takes) l.base)) l.place)

  takes-named : (ss : List Shape) (ends : List Ends) (k : ℕ) → length ends ≡ length ss → (label_at w (named ss ends) k).takes ≡ takes_at ss k
  takes-named [] ends k e = refl
  takes-named (s ∷ ss) [] k e = absurd (omega arith)
  takes-named (s ∷ ss) (x ∷ ends) zero e = refl
  takes-named (s ∷ ss) (x ∷ ends) (suc k) e = takes-named ss ends k (omega arith)

  jumps-length : (height here : ℕ) (ss : List Shape) (ends : List Ends) (ks : List ℕ) → length ends ≡ length ss → words_of_jumps ss ks ≡ length (jumps w height here (map (label_at w (named ss ends)) ks))
  jumps-length height here ss ends [] e = refl
  jumps-length height here ss ends (k ∷ ks) e =
      let l = label_at w (named ss ends) k in
      let first = jump_words w height here l in
      let next = here + length first in
      let own : length first ≡ words_of_jump l.takes = jump-length height here l in
      let same : l.takes ≡ takes_at ss k = takes-named ss ends k e in
      let more = jumps-length height next ss ends ks e in
      let both = length-append first (jumps w height next (map (label_at w (named ss ends)) ks)) in
      omega arith

  -- the labels that are open have as many shapes
  pub jumps-counted : (height here : ℕ) (ls : List Pending) (ends : List Ends) (ks : List ℕ) → length ends ≡ length ls → words_of_jumps (shapes ls) ks ≡ length (jumps w height here (map (label_at w (named (shapes ls) ends)) ks))
  jumps-counted height here ls ends ks e = jumps-length height here (shapes ls) ends ks (e ∙ sym (length-map ls shape_of))
