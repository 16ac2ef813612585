-- A block still begins with the bodies and the bytes that there were.
use Rattle.std.proofs.Common.{◌≡◌, ℕ, List, [], ◌∷◌, ◌++◌, length, take, sym, ap, subst, ◌∙◌, arith, append_assoc, length-take}
use Rattle.std.proofs.lemmas.List.{append-nil, take-append-le, take_all}
use Rattle.body_cutter.specs.Bodies.{Body, Block, Begins, no_bodies, all_bytes, bytes_in}
use Rattle.body_cutter.specs.Walks.{first_block}
use Rattle.body_cutter.proofs.Batches.{all_bytes_push}

front_more : {A : Type 0} (xs ys zs : List A) → take (length xs) ys ≡ xs → take (length xs) (ys ++ zs) ≡ xs
front_more xs ys zs e = take-append-le (length xs) ys zs (omega (arith, ap length e, length-take (length xs) ys)) ∙ e

pub begins_itself : (b : Block) → Begins b b
begins_itself b = record { bodies = take_all (length b.bodies) b.bodies (omega arith); bytes = take_all (length (bytes_in b)) (bytes_in b) (omega arith) }

-- more bytes of the body in hand
pub extended : (saved b : Block) (piece : List ℕ) → Begins saved b → Begins saved (record { bodies = b.bodies; rest = b.rest ++ piece })
extended saved b piece h = record {
  bodies = h.bodies;
  bytes = ap (take (length (bytes_in saved))) (sym (append_assoc (all_bytes b.bodies) b.rest piece)) ∙ front_more (bytes_in saved) (bytes_in b) piece h.bytes;
}

-- the body in hand is complete
pub completed : (saved b : Block) (body : Body) → body.bytes ≡ b.rest → Begins saved b → Begins saved (record { bodies = b.bodies ++ body ∷ []; rest = [] })
completed saved b body e h =
    let same : all_bytes (b.bodies ++ body ∷ []) ++ [] ≡ bytes_in b = append-nil (all_bytes (b.bodies ++ body ∷ [])) ∙ all_bytes_push b.bodies body ∙ ap (λ (l : List ℕ). all_bytes b.bodies ++ l) e in
    record { bodies = front_more saved.bodies b.bodies (body ∷ []) h.bodies; bytes = ap (take (length (bytes_in saved))) same ∙ h.bytes }

-- what is begun changes
pub begun_anew : (closed : List (List Body)) (saved a b : Block) → (Begins saved a → Begins saved b) → Begins saved (first_block closed a) → Begins saved (first_block closed b)
begun_anew [] saved a b f h = f h
begun_anew (batch ∷ batches) saved a b f h = h

-- the batch that is begun closes
pub closed : (closed : List (List Body)) (saved b : Block) → b.rest ≡ [] → Begins saved (first_block closed b) → Begins saved (first_block (closed ++ b.bodies ∷ []) no_bodies)
closed [] saved b e h = subst (λ (l : List ℕ). Begins saved (record { bodies = b.bodies; rest = l })) e h
closed (batch ∷ batches) saved b e h = h
