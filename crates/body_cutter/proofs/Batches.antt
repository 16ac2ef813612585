-- Batches that are lists of their own: when they close, and the first one taken.
use Rattle.std.proofs.Common.{◌≡◌, ℕ, suc, ◌-◌, ◌<◌, ◌≤◌, inl, inr, true, false, leb, List, [], ◌∷◌, ◌++◌, length, All, Option, None, Some, refl, sym, ap, subst, ◌∙◌, arith, append_assoc, length-append}
use Rattle.std.specs.Prelude.{IfSome, IfNone}
use Rattle.std.proofs.lemmas.Bool.{le-leb, lt-leb}
use Rattle.std.proofs.lemmas.List.{append-nil}
use Rattle.std.proofs.lemmas.List.Elements.{All-head, All-tail}
use Rattle.body_cutter.specs.Bodies.{Body, Block, byte_count, all_bytes, bytes_in, body_at}
use Rattle.body_cutter.specs.Queues.{Queue, with_begun, batch_length, starts_at, joined, IsFull, IsLast, AreFew}
use Rattle.body_cutter.specs.declared.queue.Waiting.{Waiting}
use Rattle.body_cutter.specs.Held.{last_of, IsLastIf}

-- ---- how many bodies the first batch has

few_bytes : (least : ℕ) (x : Body) (bodies : List Body) → AreFew least (x ∷ bodies) → byte_count (x ∷ bodies) < least
few_bytes least x bodies (inl e) = absurd (omega (arith, ap length e))
few_bytes least x bodies (inr lt) = lt

-- up to the body with which there are enough bytes
full_length : (least : ℕ) (before : List Body) (body : Body) → AreFew least before → least ≤ byte_count (before ++ body ∷ []) → (bodies : List Body)
    → batch_length least ((before ++ body ∷ []) ++ bodies) ≡ length (before ++ body ∷ [])
full_length least [] body few enough bodies = let e : leb least (length body.bytes) ≡ true = le-leb least (length body.bytes) (omega (arith, enough)) in rw e refl
full_length least (x ∷ before) body few enough bodies =
    let lt = few_bytes least x before few in
    let e : leb least (length x.bytes) ≡ false = lt-leb least (length x.bytes) (omega (arith, lt)) in
    rw e (ap suc (full_length (least - length x.bytes) before body (inr (omega (arith, lt))) (omega (arith, enough)) bodies))

pub is_full : (least : ℕ) (before : List Body) (body : Body) → AreFew least before → least ≤ byte_count (before ++ body ∷ []) → IsFull least (before ++ body ∷ [])
is_full least before body few enough = record { some = omega (arith, length-append before (body ∷ [])); first = full_length least before body few enough }

few_length : (least : ℕ) (bodies : List Body) → AreFew least bodies → batch_length least bodies ≡ length bodies
few_length least [] few = refl
few_length least (x ∷ bodies) few =
    let lt = few_bytes least x bodies few in
    let e : leb least (length x.bytes) ≡ false = lt-leb least (length x.bytes) (omega (arith, lt)) in
    rw e (ap suc (few_length (least - length x.bytes) bodies (inr (omega (arith, lt)))))

-- the batch that is begun closes
pub is_last : (least : ℕ) (last : Option (List Body)) (bodies : List Body) → last_of last ≡ bodies → (bodies ≡ [] → last ≡ None) → AreFew least bodies → IsLastIf least last
is_last least None bodies e none few = tt
is_last least (Some []) bodies e none few = absurd (let k : Some [] ≡ None = none (sym e) in cc)
is_last least (Some (x ∷ xs)) bodies e none few = record { some = omega arith; first = few_length least (x ∷ xs) (subst (AreFew least) (sym e) few) }

-- ---- batches, joined

pub joined_append : (xs ys : List (List Body)) → joined (xs ++ ys) ≡ joined xs ++ joined ys
joined_append [] ys = refl
joined_append (x ∷ xs) ys = ap (λ (l : List Body). x ++ l) (joined_append xs ys) ∙ sym (append_assoc x (joined xs) (joined ys))

pub joined_push : (xs : List (List Body)) (x : List Body) → joined (xs ++ x ∷ []) ≡ joined xs ++ x
joined_push xs x = joined_append xs (x ∷ []) ∙ ap (λ (l : List Body). joined xs ++ l) (append-nil x)

pub all_bytes_push : (xs : List Body) (b : Body) → all_bytes (xs ++ b ∷ []) ≡ all_bytes xs ++ b.bytes
all_bytes_push [] b = append-nil b.bytes
all_bytes_push (x ∷ xs) b = ap (λ (l : List ℕ). x.bytes ++ l) (all_bytes_push xs b) ∙ sym (append_assoc x.bytes (all_bytes xs) b.bytes)

length_all_bytes : (xs : List Body) → length (all_bytes xs) ≡ byte_count xs
length_all_bytes [] = refl
length_all_bytes (x ∷ xs) = omega (arith, length-append x.bytes (all_bytes xs), length_all_bytes xs)

-- where no body is in hand, all bytes are those of complete bodies
pub complete_bytes : (b : Block) → b.rest ≡ [] → length (bytes_in b) ≡ byte_count b.bodies
complete_bytes b e = omega (arith, length-append (all_bytes b.bodies) b.rest, ap length e, length_all_bytes b.bodies)

-- the batch that is begun has enough bytes, or too few
pub closes_full : (q : Queue) (bodies : List Body) → q.least ≤ byte_count bodies → with_begun q bodies ≡ record { least = q.least; number = q.number; closed = q.closed ++ bodies; begun = [] }
closes_full q bodies le = let e : leb q.least (byte_count bodies) ≡ true = le-leb q.least (byte_count bodies) le in rw e refl

pub stays_begun : (q : Queue) (bodies : List Body) → byte_count bodies < q.least → with_begun q bodies ≡ record { least = q.least; number = q.number; closed = q.closed; begun = bodies }
stays_begun q bodies lt = let e : leb q.least (byte_count bodies) ≡ false = lt-leb q.least (byte_count bodies) lt in rw e refl

-- ---- the first batch

pub first_starts : (batch rest : List Body) → 0 < length batch → starts_at (body_at batch 0).size (batch ++ rest)
first_starts [] rest some = absurd (omega (arith, some))
first_starts (b ∷ batch) rest some = refl

abbrev waiting_of : ℕ → List (List Body) → Option (List Body) → Waiting
waiting_of number closed last = record { number = number; closed = closed; last = last }

-- it is the first of the closed ones
pub popped : (closed rest : List (List Body)) (batch last : List Body) → closed ≡ batch ∷ rest → joined closed ++ last ≡ batch ++ (joined rest ++ last)
popped closed rest batch last e = ap (λ (l : List (List Body)). joined l ++ last) e ∙ append_assoc batch (joined rest) last

pub popped_length : (least : ℕ) (closed rest : List (List Body)) (batch last : List Body) → closed ≡ batch ∷ rest → All (IsFull least) closed
    → (0 < length batch) × (batch_length least (joined closed ++ last) ≡ length batch)
popped_length least closed rest batch last e full =
    let first : IsFull least batch = All-head (IsFull least) batch rest (subst (All (IsFull least)) e full) in
    (first.some, ap (batch_length least) (popped closed rest batch last e) ∙ first.first (joined rest ++ last))

pub popped_others : (least : ℕ) (closed rest : List (List Body)) (batch : List Body) → closed ≡ batch ∷ rest → All (IsFull least) closed → All (IsFull least) rest
popped_others least closed rest batch e full = All-tail (IsFull least) batch rest (subst (All (IsFull least)) e full)

-- it is the last one
module _ (closed left : List (List Body)) (last new : Option (List Body)) (none : closed ≡ []) (still : left ≡ []) (taken : new ≡ None) where
  pub last_popped : (batch : Option (List Body)) → batch ≡ last → IfSome batch (λ b. joined closed ++ last_of last ≡ b ++ (joined left ++ last_of new))
  last_popped None e = tt
  last_popped (Some b) e =
      ap (λ (l : List (List Body)). joined l ++ last_of last) none
      ∙ ap last_of (sym e)
      ∙ sym (append-nil b)
      ∙ ap (λ (l : List (List Body)). b ++ (joined l ++ [])) (sym still)
      ∙ ap (λ (o : Option (List Body)). b ++ (joined left ++ last_of o)) (sym taken)

  pub last_length : (least : ℕ) (batch : Option (List Body)) → batch ≡ last → IsLastIf least last → IfSome batch (λ b. (0 < length b) × (batch_length least (joined closed ++ last_of last) ≡ length b))
  last_length least None e h = tt
  last_length least (Some b) e h =
      let is : IsLast least b = subst (IsLastIf least) (sym e) h in
      (is.some, ap (λ (l : List (List Body)). batch_length least (joined l ++ last_of last)) none ∙ ap (λ (o : Option (List Body)). batch_length least (last_of o)) (sym e) ∙ is.first)

  pub last_gone : (least : ℕ) → All (IsFull least) closed → All (IsFull least) left × IsLastIf least new
  last_gone least full = (subst (All (IsFull least)) (none ∙ sym still) full, subst (IsLastIf least) (sym taken) tt)

  pub none_popped : (number : ℕ) (batch : Option (List Body)) → batch ≡ last
      → IfNone batch ((joined closed ++ last_of last ≡ []) × (waiting_of number left new ≡ waiting_of number closed last))
  none_popped number (Some b) e = tt
  none_popped number None e = (
    ap (λ (l : List (List Body)). joined l ++ last_of last) none ∙ ap last_of (sym e),
    ap (λ (l : List (List Body)). waiting_of number l new) (still ∙ sym none) ∙ ap (waiting_of number closed) (taken ∙ e),
  )
