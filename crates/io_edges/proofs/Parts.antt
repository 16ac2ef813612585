-- Reads of parts of what is left.
use Rattle.std.proofs.Common.{◌≡◌, ℕ, ◌+◌, ◌<◌, ◌≤◌, List, ◌++◌, length, take, drop, sym, ap, ◌∙◌, arith, length-append}
use Rattle.std.proofs.lemmas.List.{take_at, take-append-drop, length-take, length-drop, drop-drop}

-- a part, copied to the beginning of a buffer
pub part_read : (whole buf copied : List ℕ) (given n : ℕ) → 0 < n → n ≤ length buf → given + n ≤ length whole → copied ≡ take n (drop given whole)
    → (0 < n) × (n ≤ length (copied ++ drop n buf)) × (drop given whole ≡ take n (copied ++ drop n buf) ++ drop (given + n) whole)
part_read whole buf copied given n some fits inside is =
    let len : length copied ≡ n = omega (arith, ap length is, length-take n (drop given whole), length-drop given whole) in
    let front : take n (copied ++ drop n buf) ≡ take n (drop given whole) = take_at copied (drop n buf) n len ∙ is in
    (some, omega (arith, length-append copied (drop n buf), length-drop n buf), rw (front, ← drop-drop n given whole) (sym (take-append-drop n (drop given whole))))
