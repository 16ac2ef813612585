-- What a reading of a slice is reported as.
use Rattle.std.specs.Prelude.{ℕ, ◌+◌, pos, ◌+ℤ◌, ◌*ℤ◌}
use Rattle.leb_feed.specs.declared.number.ReadAt.{ReadAt}
use Rattle.leb_feed.specs.declared.number.ReadAt.TheVariants as answers
use Rattle.wasm_defs.specs.Numbers.{Reading, Number, CutOff, Bad}

-- the answer at an index, where a number's bytes end at `next`
abbrev pub answer : ℕ → Reading → ReadAt
answer place (Number n len) = answers.Number n (place + len)
answer place CutOff = answers.CutOff
answer place Bad = answers.Bad

-- the same where the bytes before that index come to `low`, and what is there counts so many times
abbrev pub answer_behind : (low scale : ℕ) → ℕ → Reading → ReadAt
answer_behind low scale place (Number n len) = answers.Number (pos low +ℤ (pos scale *ℤ n)) (place + len)
answer_behind low scale place CutOff = answers.CutOff
answer_behind low scale place Bad = answers.Bad
