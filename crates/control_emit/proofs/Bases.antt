-- What holds of the labels that are kept.
use Rattle.std.proofs.Common.{◌<◌, ◌≤◌, ℕ, zero, suc, List, [], ◌∷◌, ◌++◌, Option, None, Some, length, set, get_or, arith}
use Rattle.control_emit.specs.declared.labels.Open.{Open}
use Rattle.control_emit.specs.Pending.{IsBefore, IsKept, AreKept}

pub before-later : (m n : ℕ) (k : Option ℕ) → m ≤ n → IsBefore m k → IsBefore n k
before-later m n None le h = tt
before-later m n (Some k) le h = omega (arith, h)

pub kept-later : (m n : ℕ) (ls : List Open) → m ≤ n → AreKept m ls → AreKept n ls
kept-later m n [] le h = tt
kept-later m n (l ∷ ls) le h = ((h.0.0, before-later m n l.last_jump le h.0.1), kept-later m n ls le h.1)

pub kept-push : (n : ℕ) (ls : List Open) (l : Open) → AreKept n ls → IsKept n l → AreKept n (ls ++ l ∷ [])
kept-push n [] l h b = (b, tt)
kept-push n (m ∷ ls) l h b = (h.0, kept-push n ls l h.1 b)

pub kept-front : (n : ℕ) (ls ms : List Open) → AreKept n (ls ++ ms) → AreKept n ls
kept-front n [] ms h = tt
kept-front n (l ∷ ls) ms h = (h.0, kept-front n ls ms h.1)

pub kept-set : (n : ℕ) (ls : List Open) (i : ℕ) (l : Open) → AreKept n ls → IsKept n l → AreKept n (set ls i l)
kept-set n [] i l h b = tt
kept-set n (m ∷ ls) zero l h b = (b, h.1)
kept-set n (m ∷ ls) (suc i) l h b = (h.0, kept-set n ls i l h.1 b)

pub kept-at : (n : ℕ) (ls : List Open) (i : ℕ) (d : Open) → i < length ls → AreKept n ls → IsKept n (get_or ls i d)
kept-at n [] i d lt h = absurd (omega arith)
kept-at n (l ∷ ls) zero d lt h = h.0
kept-at n (l ∷ ls) (suc i) d lt h = kept-at n ls i d (omega arith) h.1

pub kept-last : (n : ℕ) (ls : List Open) (l : Open) → AreKept n (ls ++ l ∷ []) → IsKept n l
kept-last n [] l h = h.0
kept-last n (m ∷ ls) l h = kept-last n ls l h.1
