-- The room for the arguments of imports, lent twice.
use Rattle.std.proofs.Common.{◌≡◌, ℕ, ◌≤◌, List, ◌++◌, length, take, drop, length-append, length-drop, arith}
use Rattle.std.proofs.lemmas.List.{length-take}

pub room_kept : {A : Type 0} (most len : ℕ) (first second room : List A) → len ≡ length room → most ≤ length room
    → most ≤ length (take len (second ++ drop (length second) (take len (first ++ drop (length first) room))))
room_kept most len first second room is le = simp (length-take, length-append, length-drop) (omega arith)
