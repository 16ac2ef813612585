-- UTF-8 (WebAssembly Core 1.0, 5.2.4), read from the left.
use Rattle.std.specs.Prelude.{ℕ, ◌-◌, Bool, false, ◌||◌, ◌==◌, List, [], ◌∷◌, Option, Some, None, nat_lt, nat_le, if◌then◌else◌}
use Rattle.wasm_defs.specs.declared.text.Inside.{Inside}

-- inside a character: so many bytes are due, the next one between these two
abbrev pub due_in : ℕ → ℕ → ℕ → Option Inside
due_in due least most = Some (record { due = due; least = least; most = most })

-- between two characters
abbrev pub between : Option Inside
between = due_in 0 0 0

-- after a character's first byte; the rows are those of Unicode's table of well-formed sequences
abbrev pub first_byte : ℕ → Option Inside
first_byte b =
    if nat_lt b 0x80 then between
    else if nat_lt b 0xC2 then None
    else if nat_lt b 0xE0 then due_in 1 0x80 0xBF
    else if b == 0xE0 then due_in 2 0xA0 0xBF
    else if b == 0xED then due_in 2 0x80 0x9F
    else if nat_lt b 0xF0 then due_in 2 0x80 0xBF
    else if b == 0xF0 then due_in 3 0x90 0xBF
    else if nat_lt b 0xF4 then due_in 3 0x80 0xBF
    else if b == 0xF4 then due_in 3 0x80 0x8F
    else None

abbrev pub next_byte : Inside → ℕ → Option Inside
next_byte s b =
    if s.due == 0 then first_byte b
    else if nat_lt b s.least || nat_lt s.most b then None
    else due_in (s.due - 1) 0x80 0xBF

-- some bytes after these complete a text with room for so many bytes in all
abbrev pub completes : ℕ → Option Inside → List ℕ → Bool
completes room None bytes = false
completes room (Some s) [] = nat_le s.due room
completes room (Some s) (b ∷ bytes) = completes (room - 1) (next_byte s b) bytes
