-- Trap sites that were put so far, and those of one more.
use Rattle.std.proofs.Common.{◌≡◌, ℕ, zero, suc, ◌+◌, ◌*◌, ◌^◌, ◌<◌, List, [], ◌∷◌, ◌++◌, map, take, length, refl, sym, ap, ◌∙◌, arith, append_assoc, length-append}
use Rattle.std.specs.Prelude.{slice_index_or}
use Rattle.std.specs.List.{All}
use Rattle.std.proofs.lemmas.List.{append-nil}
use Rattle.std.proofs.lemmas.List.Elements.{All-nil, All-cons, All-head, All-tail}
use Rattle.rv_isa.specs.declared.compiled.Code.{Code}
use Rattle.rv_isa.specs.declared.compiled.TrapSite.{TrapSite}
use Rattle.frame_layout.specs.Traps.{room_trap, site_at}
use Rattle.image_format.specs.declared.image.TrapPlace.{TrapPlace}
use Rattle.image_format.specs.Bounds.{Each, PlaceFits}
use Rattle.index_spaces.specs.declared.entries.Import.{Import}
use Rattle.image_linker.specs.ImageOf.{stub_size, place_at}
use Rattle.image_linker.specs.Linking.{words_of, import_traps, code_traps, IsShort}

-- an image's trap sites are short
pub each_short : (words : ℕ) (front ps : List TrapPlace) → Each (PlaceFits words) front ps → All IsShort ps
each_short words front [] h = All-nil IsShort
each_short words front (p ∷ ps) h =
    All-cons IsShort p ps (record { offset = h.0.offset.0; function = h.0.function; module_offset = h.0.module_offset }) (each_short words (front ++ p ∷ []) ps h.1)

-- ---- one more

sites_suc : (here function : ℕ) (ss : List TrapSite) (i : ℕ) (s : TrapSite) → i < length ss → s ≡ slice_index_or ss i s → map (place_at here function) (take (suc i) ss) ≡ map (place_at here function) (take i ss) ++ place_at here function s ∷ []
sites_suc here function [] i s lt e = absurd (omega arith)
sites_suc here function (x ∷ ss) zero s lt e = ap (λ (y : TrapSite). place_at here function y ∷ []) (sym e)
sites_suc here function (x ∷ ss) (suc i) s lt e = ap (λ (l : List TrapPlace). place_at here function x ∷ l) (sites_suc here function ss i s (omega arith) e)

pub sites_taken : (here function : ℕ) (ss : List TrapSite) (i : ℕ) (s : TrapSite) → i < length ss → s ≡ slice_index_or ss i s → map (place_at here function) (take (i + 1) ss) ≡ map (place_at here function) (take i ss) ++ place_at here function s ∷ []
sites_taken here function ss i s lt e = let k : i + 1 ≡ suc i = omega arith in rw k (sites_suc here function ss i s lt e)

imports_suc : (here number : ℕ) (imports : List Import) (i at given : ℕ) (x : Import) → at ≡ here + stub_size * i → given ≡ number + i → i < length imports → x ≡ slice_index_or imports i x
    → import_traps here number (take (suc i) imports) ≡ import_traps here number (take i imports) ++ place_at at given (site_at 0 x.offset room_trap) ∷ []
imports_suc here number [] i at given x a n lt e = absurd (omega arith)
imports_suc here number (y ∷ imports) zero at given x a n lt e =
    let place_is : here ≡ at = omega (arith, a) in
    let number_is : number ≡ given = omega (arith, n) in
    ap (λ (z : Import). place_at here number (site_at 0 z.offset room_trap) ∷ []) (sym e)
    ∙ ap (λ (k : ℕ). place_at k number (site_at 0 x.offset room_trap) ∷ []) place_is
    ∙ ap (λ (k : ℕ). place_at at k (site_at 0 x.offset room_trap) ∷ []) number_is
imports_suc here number (y ∷ imports) (suc i) at given x a n lt e =
    ap (λ (l : List TrapPlace). place_at here number (site_at 0 y.offset room_trap) ∷ l) (imports_suc (here + stub_size) (suc number) imports i at given x (omega (arith, a)) (omega (arith, n)) (omega arith) e)

pub imports_taken : (here number : ℕ) (imports : List Import) (i at given : ℕ) (x : Import) → at ≡ here + stub_size * i → given ≡ number + i → i < length imports → x ≡ slice_index_or imports i x
    → import_traps here number (take (i + 1) imports) ≡ import_traps here number (take i imports) ++ place_at at given (site_at 0 x.offset room_trap) ∷ []
imports_taken here number imports i at given x a n lt e = let k : i + 1 ≡ suc i = omega arith in rw k (imports_suc here number imports i at given x a n lt e)

codes_suc : (here function : ℕ) (codes : List Code) (i at given : ℕ) (c : Code) → at ≡ here + length (words_of (take i codes)) → given ≡ function + i → i < length codes → c ≡ slice_index_or codes i c
    → code_traps here function (take (suc i) codes) ≡ code_traps here function (take i codes) ++ map (place_at at given) c.traps
codes_suc here function [] i at given c a n lt e = absurd (omega arith)
codes_suc here function (x ∷ codes) zero at given c a n lt e =
    let place_is : here ≡ at = omega (arith, a) in
    let number_is : function ≡ given = omega (arith, n) in
    append-nil (map (place_at here function) x.traps)
    ∙ ap (λ (y : Code). map (place_at here function) y.traps) (sym e)
    ∙ ap (λ (k : ℕ). map (place_at k function) c.traps) place_is
    ∙ ap (λ (k : ℕ). map (place_at at k) c.traps) number_is
codes_suc here function (x ∷ codes) (suc i) at given c a n lt e =
    ap (λ (l : List TrapPlace). map (place_at here function) x.traps ++ l)
    (codes_suc (here + length x.words) (suc function) codes i at given c (omega (arith, a, length-append x.words (words_of (take i codes)))) (omega (arith, n)) (omega arith) e)
    ∙ sym (append_assoc (map (place_at here function) x.traps) (code_traps (here + length x.words) (suc function) (take i codes)) (map (place_at at given) c.traps))

pub codes_taken : (here function : ℕ) (codes : List Code) (i at given : ℕ) (c : Code) → at ≡ here + length (words_of (take i codes)) → given ≡ function + i → i < length codes → c ≡ slice_index_or codes i c
    → code_traps here function (take (i + 1) codes) ≡ code_traps here function (take i codes) ++ map (place_at at given) c.traps
codes_taken here function codes i at given c a n lt e = let k : i + 1 ≡ suc i = omega arith in rw k (codes_suc here function codes i at given c a n lt e)

-- and each of them is short
pub all_at : (xs : List TrapSite) (here function i : ℕ) (s : TrapSite) → i < length xs → s ≡ slice_index_or xs i s → All IsShort (map (place_at here function) xs) → IsShort (place_at here function s)
all_at [] here function i s lt e h = absurd (omega arith)
all_at (x ∷ xs) here function zero s lt e h = rw e (All-head IsShort (place_at here function x) (map (place_at here function) xs) h)
all_at (x ∷ xs) here function (suc i) s lt e h = all_at xs here function i s (omega arith) e (All-tail IsShort (place_at here function x) (map (place_at here function) xs) h)

pub import_at : (here number : ℕ) (imports : List Import) (i at given : ℕ) (x : Import) → at ≡ here + stub_size * i → given ≡ number + i → i < length imports → x ≡ slice_index_or imports i x
    → All IsShort (import_traps here number imports) → IsShort (place_at at given (site_at 0 x.offset room_trap))
import_at here number [] i at given x a n lt e h = absurd (omega arith)
import_at here number (y ∷ imports) zero at given x a n lt e h =
    let place_is : at ≡ here = omega (arith, a) in
    let number_is : given ≡ number = omega (arith, n) in
    rw (place_is, number_is, e) (All-head IsShort (place_at here number (site_at 0 y.offset room_trap)) (import_traps (here + stub_size) (suc number) imports) h)
import_at here number (y ∷ imports) (suc i) at given x a n lt e h =
    import_at (here + stub_size) (suc number) imports i at given x (omega (arith, a)) (omega (arith, n)) (omega arith) e
    (All-tail IsShort (place_at here number (site_at 0 y.offset room_trap)) (import_traps (here + stub_size) (suc number) imports) h)

pub all_left : (xs ys : List TrapPlace) → All IsShort (xs ++ ys) → All IsShort xs
all_left [] ys h = All-nil IsShort
all_left (x ∷ xs) ys h = All-cons IsShort x xs (All-head IsShort x (xs ++ ys) h) (all_left xs ys (All-tail IsShort x (xs ++ ys) h))

pub all_right : (xs ys : List TrapPlace) → All IsShort (xs ++ ys) → All IsShort ys
all_right [] ys h = h
all_right (x ∷ xs) ys h = all_right xs ys (All-tail IsShort x (xs ++ ys) h)

-- the number of a function counts where it has traps, whose trap sites are short
pub same_function : (here f n : ℕ) (ss : List TrapSite) → (n < 2 ^ 32 → f ≡ n) → All IsShort (map (place_at here n) ss) → map (place_at here f) ss ≡ map (place_at here n) ss
same_function here f n [] same h = refl
same_function here f n (s ∷ ss) same h =
    ap (λ (m : ℕ). map (place_at here m) (s ∷ ss)) (same (All-head IsShort (place_at here n s) (map (place_at here n) ss) h).function)

pub code_short : (here function : ℕ) (codes : List Code) (i at given : ℕ) (c : Code) → at ≡ here + length (words_of (take i codes)) → given ≡ function + i → i < length codes → c ≡ slice_index_or codes i c
    → All IsShort (code_traps here function codes) → All IsShort (map (place_at at given) c.traps)
code_short here function [] i at given c a n lt e h = absurd (omega arith)
code_short here function (x ∷ codes) zero at given c a n lt e h =
    let place_is : at ≡ here = omega (arith, a) in
    let number_is : given ≡ function = omega (arith, n) in
    rw (place_is, number_is, e) (all_left (map (place_at here function) x.traps) (code_traps (here + length x.words) (suc function) codes) h)
code_short here function (x ∷ codes) (suc i) at given c a n lt e h =
    code_short (here + length x.words) (suc function) codes i at given c (omega (arith, a, length-append x.words (words_of (take i codes)))) (omega (arith, n)) (omega arith) e
    (all_right (map (place_at here function) x.traps) (code_traps (here + length x.words) (suc function) codes) h)
