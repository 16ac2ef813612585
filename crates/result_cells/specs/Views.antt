-- What a seat knows of the room, and how its steps change that.
use Rattle.std.specs.Prelude.{ℕ, ◌+◌}
use Rattle.result_cells.specs.declared.view.View.{View}

-- it has seen so many words left, and took none
abbrev pub seen_view : ℕ → View
seen_view left = record { seen = left; taken = 0 }

-- so many words more were taken, and this many are left
abbrev pub takes : View → ℕ → ℕ → View
takes v words left = record { seen = left; taken = v.taken + words }

-- all words that were left are taken, so none is left
abbrev pub empties : View → ℕ → View
empties v found = record { seen = 0; taken = v.taken + found }

-- another number was found than the one that was seen last
abbrev pub misses : View → ℕ → View
misses v found = record { seen = found; taken = v.taken }
