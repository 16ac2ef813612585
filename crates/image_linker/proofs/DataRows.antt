-- Data segments that were gone over so far, and one more.
use Rattle.std.proofs.Common.{◌≡◌, ℕ, zero, suc, ◌+◌, ◌^◌, ◌<◌, ◌≤◌, ◌&&◌, Bool, true, false, List, [], ◌∷◌, ◌++◌, map, take, length, Option, None, Some, refl, sym, ap, ◌∙◌, subst, arith, ⊎_elim}
use Rattle.std.specs.Prelude.{All, IfSome, IsTrue, nat_le, slice_index_or}
use Rattle.std.proofs.lemmas.Bool.{and_parts, and_from, le-leb, leb-true, lt-leb, cases_lt, false≢true}
use Rattle.std.proofs.lemmas.List.{map-append}
use Rattle.std.proofs.lemmas.List.Elements.{All-nil, All-cons, All-head, All-tail}
use Rattle.wasm_defs.specs.Instances.{Written, all_fit}
use Rattle.index_spaces.specs.declared.entries.DataRow.{DataRow}
use Rattle.index_spaces.specs.Entries.{written_before, written_segments}
use Rattle.image_linker.specs.ImageOf.{segment_of}
use Rattle.image_linker.specs.Linking.{ArePlaced}

-- ---- what one more writes

before_append : (place : Option ℕ) (bytes : List ℕ) (ws vs : List (Written ℕ)) → written_before place bytes (ws ++ vs) ≡ written_before place bytes ws ++ vs
before_append None bytes ws vs = refl
before_append (Some a) bytes ws vs = refl

written_suc : (rows : List DataRow) (i : ℕ) (r : DataRow) → i < length rows → r ≡ slice_index_or rows i r → written_segments (take (suc i) rows) ≡ written_segments (take i rows) ++ written_before r.place r.bytes []
written_suc [] i r less e = absurd (omega arith)
written_suc (x ∷ rows) zero r less e = ap (λ (y : DataRow). written_before y.place y.bytes []) (sym e)
written_suc (x ∷ rows) (suc i) r less e =
    ap (written_before x.place x.bytes) (written_suc rows i r (omega arith) e) ∙ before_append x.place x.bytes (written_segments (take i rows)) (written_before r.place r.bytes [])

-- ---- room

-- a segment has room, if it is active
abbrev pub HasRoom : ℕ → DataRow → Type 0
HasRoom size r = IfSome r.place (λ place. place + length r.bytes ≤ size)

fit_with : (size : ℕ) (place : Option ℕ) (bytes : List ℕ) (ws : List (Written ℕ)) → IfSome place (λ a. a + length bytes ≤ size) → all_fit size ws ≡ true → all_fit size (written_before place bytes ws) ≡ true
fit_with size None bytes ws has fit = fit
fit_with size (Some a) bytes ws has fit = and_from (nat_le (a + length bytes) size) (all_fit size ws) (le-leb (a + length bytes) size has) fit

fit_before : (size : ℕ) (place : Option ℕ) (bytes : List ℕ) (ws vs : List (Written ℕ)) → all_fit size (written_before place bytes ws) ≡ true → all_fit size vs ≡ true → all_fit size (written_before place bytes vs) ≡ true
fit_before size None bytes ws vs fit more = more
fit_before size (Some a) bytes ws vs fit more = and_from (nat_le (a + length bytes) size) (all_fit size vs) (and_parts (nat_le (a + length bytes) size) (all_fit size ws) fit).0 more

fit_after : (size : ℕ) (place : Option ℕ) (bytes : List ℕ) (ws : List (Written ℕ)) → all_fit size (written_before place bytes ws) ≡ true → all_fit size ws ≡ true
fit_after size None bytes ws fit = fit
fit_after size (Some a) bytes ws fit = (and_parts (nat_le (a + length bytes) size) (all_fit size ws) fit).1

all_fit_suc : (size : ℕ) (rows : List DataRow) (i : ℕ) (r : DataRow) → i < length rows → r ≡ slice_index_or rows i r → all_fit size (written_segments (take i rows)) ≡ true → HasRoom size r → all_fit size (written_segments (take (suc i) rows)) ≡ true
all_fit_suc size [] i r less e fit has = absurd (omega arith)
all_fit_suc size (x ∷ rows) zero r less e fit has = fit_with size x.place x.bytes [] (subst (HasRoom size) e has) refl
all_fit_suc size (x ∷ rows) (suc i) r less e fit has =
    let before = written_segments (take i rows) in
    fit_before size x.place x.bytes before (written_segments (take (suc i) rows)) fit
    (all_fit_suc size rows i r (omega arith) e (fit_after size x.place x.bytes before fit) has)

pub all_fit_more : (size : ℕ) (rows : List DataRow) (i : ℕ) (r : DataRow) → i < length rows → r ≡ slice_index_or rows i r → all_fit size (written_segments (take i rows)) ≡ true → HasRoom size r → all_fit size (written_segments (take (i + 1) rows)) ≡ true
all_fit_more size rows i r less e fit has = let k : i + 1 ≡ suc i = omega arith in rw k (all_fit_suc size rows i r less e fit has)

pub and_false : (a b : Bool) → b ≡ false → (a && b) ≡ false
and_false true b e = e
and_false false b e = refl

-- a test that fails
pub has_none : (b : Bool) (n size : ℕ) → (n ≤ size → IsTrue b) → b ≡ false → size < n
has_none b n size test e = ⊎_elim (λ over. over) (λ le. absurd (false≢true (sym e ∙ test le))) (cases_lt size n)

-- where one has no room
none_with : (size : ℕ) (place : Option ℕ) (bytes : List ℕ) (ws : List (Written ℕ)) (b : Bool) → (IfSome place (λ a. a + length bytes ≤ size) → IsTrue b) → b ≡ false → all_fit size (written_before place bytes ws) ≡ false
none_with size None bytes ws b test e = absurd (false≢true (sym e ∙ test tt))
none_with size (Some a) bytes ws b test e = let over = lt-leb (a + length bytes) size (has_none b (a + length bytes) size test e) in rw over refl

none_before : (size : ℕ) (place : Option ℕ) (bytes : List ℕ) (ws : List (Written ℕ)) → all_fit size ws ≡ false → all_fit size (written_before place bytes ws) ≡ false
none_before size None bytes ws e = e
none_before size (Some a) bytes ws e = and_false (nat_le (a + length bytes) size) (all_fit size ws) e

pub not_all_fit : (size : ℕ) (rows : List DataRow) (i : ℕ) (r : DataRow) (b : Bool) → i < length rows → r ≡ slice_index_or rows i r → (HasRoom size r → IsTrue b) → b ≡ false → all_fit size (written_segments rows) ≡ false
not_all_fit size [] i r b less e test failed = absurd (omega arith)
not_all_fit size (x ∷ rows) zero r b less e test failed = none_with size x.place x.bytes (written_segments rows) b (λ has. test (subst (HasRoom size) (sym e) has)) failed
not_all_fit size (x ∷ rows) (suc i) r b less e test failed = none_before size x.place x.bytes (written_segments rows) (not_all_fit size rows i r b (omega arith) e test failed)

-- addresses that fit into few pages have 32 bits
addresses_are_small : (size : ℕ) (ws : List (Written ℕ)) → size < 2 ^ 32 → all_fit size ws ≡ true → All (λ w. w.0 < 2 ^ 32) ws
addresses_are_small size [] small fit = All-nil (λ (w : Written ℕ). w.0 < 2 ^ 32)
addresses_are_small size (w ∷ ws) small fit =
    let parts = and_parts (nat_le (w.0 + length w.1) size) (all_fit size ws) fit in
    let inside = leb-true (w.0 + length w.1) size parts.0 in
    All-cons (λ (w : Written ℕ). w.0 < 2 ^ 32) w ws (omega (arith, inside)) (addresses_are_small size ws small parts.1)

-- so are they where another test has to hold too
pub placed_where : (other : Bool) (size : ℕ) (rows : List DataRow) (b : Bool) → size < 2 ^ 32 → b ≡ (other && all_fit size (written_segments rows)) → ArePlaced b rows
placed_where other size rows true small e = addresses_are_small size (written_segments rows) small (and_parts other (all_fit size (written_segments rows)) (sym e)).1
placed_where other size rows false small e = tt

-- ---- copies

pub segments_more : (rows : List DataRow) (i : ℕ) (r : DataRow) → i < length rows → r ≡ slice_index_or rows i r
    → map segment_of (written_segments (take (i + 1) rows)) ≡ map segment_of (written_segments (take i rows)) ++ map segment_of (written_before r.place r.bytes [])
segments_more rows i r less e =
    let k : i + 1 ≡ suc i = omega arith in
    rw k (ap (λ (ws : List (Written ℕ)). map segment_of ws) (written_suc rows i r less e) ∙ map-append segment_of (written_segments (take i rows)) (written_before r.place r.bytes []))

-- one that is copied is among those that have an address
before_first : (place : Option ℕ) (bytes : List ℕ) (ws : List (Written ℕ)) (a : ℕ) → place ≡ Some a → All (λ w. w.0 < 2 ^ 32) (written_before place bytes ws) → a < 2 ^ 32
before_first None bytes ws a e h = absurd cc
before_first (Some b) bytes ws a e h =
    let same : b ≡ a = cc in
    omega (arith, same, All-head (λ (w : Written ℕ). w.0 < 2 ^ 32) (b, bytes) ws h)

before_rest : (place : Option ℕ) (bytes : List ℕ) (ws : List (Written ℕ)) → All (λ w. w.0 < 2 ^ 32) (written_before place bytes ws) → All (λ w. w.0 < 2 ^ 32) ws
before_rest None bytes ws h = h
before_rest (Some b) bytes ws h = All-tail (λ (w : Written ℕ). w.0 < 2 ^ 32) (b, bytes) ws h

pub address_is_small : (rows : List DataRow) (i : ℕ) (r : DataRow) (a : ℕ) → i < length rows → r ≡ slice_index_or rows i r → r.place ≡ Some a → ArePlaced true rows → a < 2 ^ 32
address_is_small [] i r a less e is h = absurd (omega arith)
address_is_small (x ∷ rows) zero r a less e is h = before_first x.place x.bytes (written_segments rows) a (ap (λ (y : DataRow). y.place) (sym e) ∙ is) h
address_is_small (x ∷ rows) (suc i) r a less e is h = address_is_small rows i r a (omega arith) e is (before_rest x.place x.bytes (written_segments rows) h)
