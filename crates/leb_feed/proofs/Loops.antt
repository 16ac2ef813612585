-- Reading so many of a kind, one after the other, as a loop does.
use Rattle.std.proofs.Common.{◌≡◌, ℕ, suc, ◌-◌, ◌+◌, ◌<◌, List, [], ◌∷◌, ◌++◌, refl, sym, ap, ◌∙◌, append_assoc, arith}
use Rattle.wasm_defs.specs.Fields.{Cursor, Read, Got, Fault, Wants, Reader, then_go, ◌>>=◌, done, repeated}

-- what was read before, and what is still read
abbrev pub with_front : {A : Type 0} → List A → Reader (List A) → Reader (List A)
with_front front p = p >>= λ xs. done (front ++ xs)

module _ {A : Type 0} (p : Reader A) where
  regroup : (front : List A) (x : A) (read : Read (List A)) → then_go (then_go read (λ xs. done (x ∷ xs))) (λ xs. done (front ++ xs)) ≡ then_go read (λ xs. done ((front ++ x ∷ []) ++ xs))
  regroup front x (Got xs d) = ap (λ (l : List A). Got l d) (sym (append_assoc front (x ∷ []) xs))
  regroup front x (Fault r) = refl
  regroup front x Wants = refl

  pub goes_on : (front : List A) (count i : ℕ) (c d : Cursor) (x : A) (total : Read (List A)) → i < count → p c ≡ Got x d
      → with_front front (repeated (count - i) p) c ≡ total → with_front (front ++ x ∷ []) (repeated (count - (i + 1)) p) d ≡ total
  goes_on front count i c d x total lt h so_far =
      let k : count - i ≡ suc (count - (i + 1)) = omega arith in
      let one : with_front front (repeated (count - i) p) c ≡ with_front (front ++ x ∷ []) (repeated (count - (i + 1)) p) d = rw (k, h) (regroup front x (repeated (count - (i + 1)) p d)) in
      sym one ∙ so_far
