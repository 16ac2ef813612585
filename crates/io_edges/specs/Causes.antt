-- Counts of errors. A count is a u64 that begins at 0, rises at each error, and stays at the end of its type.
use Rattle.std.specs.Prelude.{ℕ, ◌+◌, ◌-◌, ◌^◌, ◌≤◌, min}

-- the count after one more error
abbrev pub one_more : ℕ → ℕ
one_more before = min (before + 1) (2 ^ 64 - 1)

-- over a call the count rose: it is greater at the end than at the start, or is at its type's end
abbrev pub Rose : ℕ → ℕ → Type 0
Rose before now = one_more before ≤ now
