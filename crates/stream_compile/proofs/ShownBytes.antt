-- What is written of the bytes of a memory that are shown.
use Rattle.std.proofs.Common.{◌≡◌, ◌∙◌, ◌<◌, ◌≤◌, ◌+◌, ◌++◌, ℕ, Bool, true, false, List, [], ◌∷◌, Option, length, take, drop, get_or, ap, sym, subst}
use Rattle.std.specs.Prelude.{if◌then◌else◌, codes}
use Rattle.std.specs.List.{flat_map}
use Rattle.std.proofs.lemmas.Bool.{le-leb, lt-leb}
use Rattle.std.proofs.lemmas.Grind.{flat_map-append}
use Rattle.std.proofs.lemmas.List.{append-nil, take-append-drop, take_more}
use Rattle.io_edges.specs.Streams.{WritesText}
use Rattle.command_words.specs.declared.peek.Peek.{Peek}
use Rattle.image_run.proofs.PrintLaws.{writes_then, fails_first}
use Rattle.stream_compile.specs.Texts.{hex_of, hex_pair, peeked}

-- ---- the digits

hex_more : (bytes : List ℕ) (i : ℕ) → i < length bytes → hex_of (take (i + 1) bytes) ≡ hex_of (take i bytes) ++ hex_pair (get_or bytes i 0)
hex_more bytes i inside =
    ap (flat_map hex_pair) (take_more bytes i 0 inside)
    ∙ flat_map-append hex_pair (take i bytes) (get_or bytes i 0 ∷ [])
    ∙ ap (λ (l : List ℕ). flat_map hex_pair (take i bytes) ++ l) (append-nil (hex_pair (get_or bytes i 0)))

hex_apart : (bytes : List ℕ) (i : ℕ) → hex_of bytes ≡ hex_of (take i bytes) ++ hex_of (drop i bytes)
hex_apart bytes i = ap (flat_map hex_pair) (sym (take-append-drop i bytes)) ∙ flat_map-append hex_pair (take i bytes) (drop i bytes)

-- after the digits of the first bytes, those of one more
pub hex_step : (r : Bool) (bytes pair : List ℕ) (i : ℕ) (old between new : Option (List ℕ)) (before middle now : ℕ) → i < length bytes → pair ≡ hex_pair (get_or bytes i 0)
    → WritesText true (hex_of (take i bytes)) old between before middle → WritesText r pair between new middle now → WritesText r (hex_of (take (i + 1) bytes)) old new before now
hex_step r bytes pair i old between new before middle now inside is first second =
    let here = subst (λ (l : List ℕ). WritesText r l between new middle now) is second in
    subst (λ (l : List ℕ). WritesText r l old new before now) (sym (hex_more bytes i inside)) (writes_then r (hex_of (take i bytes)) (hex_pair (get_or bytes i 0)) old between new before middle now first here)

-- where the sink failed at the first bytes
pub hex_failed : (bytes : List ℕ) (i : ℕ) (old new : Option (List ℕ)) (before now : ℕ) → WritesText false (hex_of (take i bytes)) old new before now → WritesText false (hex_of bytes) old new before now
hex_failed bytes i old new before now h =
    subst (λ (l : List ℕ). WritesText false l old new before now) (sym (hex_apart bytes i)) (fails_first (hex_of (take i bytes)) (hex_of (drop i bytes)) old new before now h)

-- ---- the line

abbrev shown_or_not : Peek → List ℕ → Bool → List ℕ
shown_or_not p memory within = if within then codes "peek " ++ (hex_of (take p.count (drop p.address memory)) ++ codes "\n") else codes "peek out of range\n"

pub peeked_within : (p : Peek) (memory : List ℕ) → p.address + p.count ≤ length memory → peeked p memory ≡ codes "peek " ++ (hex_of (take p.count (drop p.address memory)) ++ codes "\n")
peeked_within p memory h = ap (shown_or_not p memory) (le-leb (p.address + p.count) (length memory) h)

pub peeked_beyond : (p : Peek) (memory : List ℕ) → length memory < p.address + p.count → peeked p memory ≡ codes "peek out of range\n"
peeked_beyond p memory h = ap (shown_or_not p memory) (lt-leb (p.address + p.count) (length memory) h)
