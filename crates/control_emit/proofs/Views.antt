-- Labels are with the innermost last, and are seen with the innermost first.
use Rattle.std.proofs.Common.{◌≡◌, ◌<◌, ℕ, suc, ◌+◌, ◌-◌, List, [], ◌∷◌, ◌++◌, map, length, reverse, take, drop, set, get_or, Option, None, Some, refl, sym, ap, ◌∙◌, subst, arith, append_assoc}
use Rattle.std.proofs.Math.Seq.{drop-cons}
use Rattle.std.proofs.lemmas.List.{reverse-append, length-reverse, length-map, map-append, set_split, take-append-drop, length-drop}
use Rattle.control_emit.specs.declared.labels.Jump.{Jump}
use Rattle.control_emit.specs.declared.labels.Open.{Open}
use Rattle.control_emit.specs.Pending.{Pending, pending_of, pending_in, Shape, shape_of, shapes, with_jump, jumping, fewer, unjumped, chain, IsKept, AreKept}
use Rattle.control_emit.proofs.Chains.{chain-kept, chain-new, chain-end}

pub pending-split : (js : List Jump) (xs : List Open) (l : Open) (bs : List Open) → pending_in js (xs ++ l ∷ bs) ≡ pending_in js bs ++ pending_of js l ∷ pending_in js xs
pending-split js xs l bs =
    ap reverse (map-append (pending_of js) xs (l ∷ bs))
    ∙ reverse-append (map (pending_of js) xs) (pending_of js l ∷ map (pending_of js) bs)
    ∙ ap (λ (x : List Pending). x ++ pending_in js xs) (reverse-append (pending_of js l ∷ []) (map (pending_of js) bs))
    ∙ append_assoc (pending_in js bs) (pending_of js l ∷ []) (pending_in js xs)

pub length-pending : (js : List Jump) (ls : List Open) → length (pending_in js ls) ≡ length ls
length-pending js ls = length-reverse (map (pending_of js) ls) ∙ length-map ls (pending_of js)

-- one label more
pub pending-push : (js : List Jump) (ls : List Open) (now : List Pending) (base takes : ℕ) (start test : Option ℕ) → pending_in js ls ≡ now
    → pending_in js (ls ++ record { base = base; takes = takes; start = start; test = test; last_jump = None } ∷ []) ≡ record { base = base; takes = takes; start = start; test = test; jumps = [] } ∷ now
pending-push js ls now base takes start test is =
    let bare : Pending = record { base = base; takes = takes; start = start; test = test; jumps = [] } in
    pending-split js ls _ []
    ∙ ap (λ (x : List Pending). record bare { jumps = chain js (length js) None } ∷ x) is
    ∙ ap (λ (ps : List ℕ). record bare { jumps = ps } ∷ now) (chain-end js (length js))

-- the list, parted at an element
parted : (xs : List Open) (i : ℕ) (d : Open) → i < length xs → xs ≡ take i xs ++ get_or xs i d ∷ drop (suc i) xs
parted xs i d lt = sym (take-append-drop i xs) ∙ ap (λ (x : List Open). take i xs ++ x) (drop-cons xs i d lt)

jumping-at : (n : ℕ) (ps : List Pending) (l : Pending) (bs : List Pending) → jumping n (length ps) (ps ++ l ∷ bs) ≡ ps ++ with_jump n l ∷ bs
jumping-at n [] l bs = refl
jumping-at n (a ∷ ps) l bs = ap (λ (x : List Pending). a ∷ x) (jumping-at n ps l bs)

unjumped-at : (ps : List Pending) (l : Pending) (bs : List Pending) → unjumped (length ps) (ps ++ l ∷ bs) ≡ ps ++ record l { jumps = fewer l.start l.jumps } ∷ bs
unjumped-at [] l bs = refl
unjumped-at (a ∷ ps) l bs = ap (λ (x : List Pending). a ∷ x) (unjumped-at ps l bs)

shape-at : (ps : List Pending) (l : Pending) (bs : List Pending) (d : Shape) → get_or (shapes (ps ++ l ∷ bs)) (length ps) d ≡ shape_of l
shape-at [] l bs d = refl
shape-at (a ∷ ps) l bs d = shape-at ps l bs d

module _ (js : List Jump) where
  behind_it : (xs : List Open) (i k : ℕ) → i + k + 1 ≡ length xs → length (pending_in js (drop (suc i) xs)) ≡ k
  behind_it xs i k e = let a = length-pending js (drop (suc i) xs) in let b = length-drop (suc i) xs in omega arith

  pub shape-found : (xs : List Open) (i k : ℕ) (l : Open) (d : Shape) → i + k + 1 ≡ length xs → l ≡ get_or xs i l → get_or (shapes (pending_in js xs)) k d ≡ shape_of (pending_of js l)
  shape-found xs i k l d e is =
      let lt : i < length xs = omega arith in
      let front = take i xs in
      let back = drop (suc i) xs in
      let whole : xs ≡ front ++ l ∷ back = parted xs i l lt ∙ ap (λ (x : Open). front ++ x ∷ back) (sym is) in
      ap (λ (m : ℕ). get_or (shapes (pending_in js xs)) m d) (sym (behind_it xs i k e))
      ∙ ap (λ (x : List Pending). get_or (shapes x) (length (pending_in js back)) d) (ap (pending_in js) whole ∙ pending-split js front l back)
      ∙ shape-at (pending_in js back) (pending_of js l) (pending_in js front) d

  -- the innermost label
  pub record Innermost (xs : List Open) (l new : Open) : Type 0 where
    pub rest : List Pending
    pub before : pending_in js xs ≡ pending_of js l ∷ rest
    pub after : pending_in js (set xs (length xs - 1) new) ≡ pending_of js new ∷ rest

  nothing : (ps : List Pending) → length ps ≡ 0 → ps ≡ []
  nothing [] e = refl
  nothing (p ∷ ps) e = absurd (omega arith)

  pub innermost : (xs : List Open) (l new : Open) → 0 < length xs → l ≡ get_or xs (length xs - 1) l → Innermost xs l new
  innermost xs l new some is =
      let i = length xs - 1 in
      let lt : i < length xs = omega arith in
      let front = take i xs in
      let back = drop (suc i) xs in
      let whole : xs ≡ front ++ l ∷ back = parted xs i l lt ∙ ap (λ (x : Open). front ++ x ∷ back) (sym is) in
      let none : pending_in js back ≡ [] = nothing (pending_in js back) (behind_it xs i 0 (omega arith)) in
      record {
        rest = pending_in js front;
        before = ap (pending_in js) whole ∙ pending-split js front l back ∙ ap (λ (x : List Pending). x ++ pending_of js l ∷ pending_in js front) none;
        after = ap (pending_in js) (set_split xs i new lt) ∙ pending-split js front new back ∙ ap (λ (x : List Pending). x ++ pending_of js new ∷ pending_in js front) none;
      }

  -- ---- one jump more

  kept-map : (ms : List Jump) (ls : List Open) → AreKept (length js) ls → map (pending_of (js ++ ms)) ls ≡ map (pending_of js) ls
  kept-map ms [] h = refl
  kept-map ms (l ∷ ls) h =
      ap (λ (x : List ℕ). record (pending_of js l) { jumps = x } ∷ map (pending_of (js ++ ms)) ls) (chain-kept js ms l.last_jump h.0.1)
      ∙ ap (λ (x : List Pending). pending_of js l ∷ x) (kept-map ms ls h.1)

  pub kept-pending : (ms : List Jump) (ls : List Open) → AreKept (length js) ls → pending_in (js ++ ms) ls ≡ pending_in js ls
  kept-pending ms ls h = ap reverse (kept-map ms ls h)

  kept-parts : (n : ℕ) (xs : List Open) (l : Open) (bs : List Open) → AreKept n (xs ++ l ∷ bs) → AreKept n xs × IsKept n l × AreKept n bs
  kept-parts n [] l bs h = (tt, h.0, h.1)
  kept-parts n (x ∷ xs) l bs h = let k = kept-parts n xs l bs h.1 in ((h.0, k.0), k.1, k.2)

  pub waiting : (xs : List Open) (i k n : ℕ) (l : Open) → i + k + 1 ≡ length xs → l ≡ get_or xs i l → AreKept (length js) xs
      → pending_in (js ++ record { place = n; before = l.last_jump } ∷ []) (set xs i (record l { last_jump = Some (length js) })) ≡ jumping n k (pending_in js xs)
  waiting xs i k n l e is kept =
      let lt : i < length xs = omega arith in
      let front = take i xs in
      let back = drop (suc i) xs in
      let whole : xs ≡ front ++ l ∷ back = parted xs i l lt ∙ ap (λ (x : Open). front ++ x ∷ back) (sym is) in
      let parts = kept-parts (length js) front l back (subst (AreKept (length js)) whole kept) in
      let j : Jump = record { place = n; before = l.last_jump } in
      let more = js ++ j ∷ [] in
      let new : Open = record l { last_jump = Some (length js) } in
      let same : pending_of more new ≡ with_jump n (pending_of js l) = ap (λ (x : List ℕ). record (pending_of js l) { jumps = x }) (chain-new js j parts.1.1) in
      ap (pending_in more) (set_split xs i new lt)
      ∙ pending-split more front new back
      ∙ ap (λ (x : List Pending). x ++ pending_of more new ∷ pending_in more front) (kept-pending (j ∷ []) back parts.2)
      ∙ ap (λ (x : List Pending). pending_in js back ++ pending_of more new ∷ x) (kept-pending (j ∷ []) front parts.0)
      ∙ ap (λ (p : Pending). pending_in js back ++ p ∷ pending_in js front) same
      ∙ sym (jumping-at n (pending_in js back) (pending_of js l) (pending_in js front))
      ∙ ap (λ (m : ℕ). jumping n m (pending_in js back ++ pending_of js l ∷ pending_in js front)) (behind_it xs i k e)
      ∙ ap (jumping n k) (sym (ap (pending_in js) whole ∙ pending-split js front l back))

  -- ---- one jump fewer

  pub unjumping : (xs : List Open) (i k : ℕ) (l : Open) (last : Option ℕ) → i + k + 1 ≡ length xs → l ≡ get_or xs i l → chain js (length js) last ≡ fewer l.start (chain js (length js) l.last_jump)
      → pending_in js (set xs i (record l { last_jump = last })) ≡ unjumped k (pending_in js xs)
  unjumping xs i k l last e is less =
      let lt : i < length xs = omega arith in
      let front = take i xs in
      let back = drop (suc i) xs in
      let whole : xs ≡ front ++ l ∷ back = parted xs i l lt ∙ ap (λ (x : Open). front ++ x ∷ back) (sym is) in
      let new : Open = record l { last_jump = last } in
      let same : pending_of js new ≡ record (pending_of js l) { jumps = fewer l.start (chain js (length js) l.last_jump) } = ap (λ (x : List ℕ). record (pending_of js l) { jumps = x }) less in
      ap (pending_in js) (set_split xs i new lt)
      ∙ pending-split js front new back
      ∙ ap (λ (p : Pending). pending_in js back ++ p ∷ pending_in js front) same
      ∙ sym (unjumped-at (pending_in js back) (pending_of js l) (pending_in js front))
      ∙ ap (λ (m : ℕ). unjumped m (pending_in js back ++ pending_of js l ∷ pending_in js front)) (behind_it xs i k e)
      ∙ ap (unjumped k) (sym (ap (pending_in js) whole ∙ pending-split js front l back))
