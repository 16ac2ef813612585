-- The checker's points and its greatest height are the tree's.
use Rattle.std.proofs.Common.{◌≡◌, ℕ, ◌≤◌, List, [], ◌∷◌, ◌++◌, length, max, Option, None, Some, sym, ap, ◌∙◌, arith}
use Rattle.std.specs.Prelude.{slice_get}
use Rattle.wasm_defs.specs.declared.token.Token.{Token}
use Rattle.wasm_defs.specs.Typing.{Context}
use Rattle.wasm_defs.specs.Places.{Place, higher, greatest}
use Rattle.body_validator.specs.Exactness.{PlacesAreKept, HeightsAreMeasured}
use Rattle.body_validator.specs.Checking.{Frames, step, run, start, place_of, Checker, measured, step_checker, run_checker}
use Rattle.body_validator.proofs.Options.{through, some_inside}
use Rattle.body_validator.proofs.Complete.{Observed, see, on, observe, body_observed}

-- ---- points

place_at : (c : Context) (tokens : List Token) (t : Token) (more : List Token) (first fs : Frames) → run c tokens first ≡ Some fs
    → slice_get (observe c (tokens ++ t ∷ more) first).passed (length tokens) ≡ Some (place_of fs)
place_at c [] t more first fs e = ap (λ (x : Frames). Some (place_of x)) (some_inside first fs e)
place_at c (x ∷ xs) t more first fs e =
    let s = through (step c x first) (run c xs) fs e in
    ap (λ (o : Option Frames). slice_get (see (place_of first) (on o (observe c (xs ++ t ∷ more)))).passed (length (x ∷ xs))) s.is
    ∙ place_at c xs t more s.value fs s.then

pub places_kept : PlacesAreKept
places_kept c tokens t more tree fs reach spells body =
    let whole = ap (λ (x : List Token). observe c x (start c)) spells ∙ body_observed c tree body in
    sym (ap (λ (o : Observed). slice_get o.passed (length tokens)) whole) ∙ place_at c tokens t more (start c) fs reach

-- ---- the greatest height

higher-max : (place : Place) (most : ℕ) → higher place most ≡ max (higher place 0) most
higher-max None most = omega arith
higher-max (Some h) most = omega arith

-- the points that a run passes, and the last one
abbrev met : Context → List Token → Frames → Frames → ℕ
met c tokens fs last = higher (place_of last) (greatest (observe c tokens fs).passed)

first_met : (c : Context) (tokens : List Token) (fs : Frames) (most : ℕ) (last : Checker) → run_checker c tokens (record { frames = fs; greatest = most }) ≡ Some last
    → higher (place_of fs) 0 ≤ met c tokens fs last.frames
first_met c [] fs most last e =
    let same = ap (λ (s : Checker). higher (place_of s.frames) 0) (some_inside (record { frames = fs; greatest = most }) last e) in
    omega arith
first_met c (t ∷ ts) fs most last e =
    let rest = greatest (on (step c t fs) (observe c ts)).passed in
    let a = higher-max (place_of last.frames) (higher (place_of fs) rest) in
    let b = higher-max (place_of fs) rest in
    omega arith

all_met : (c : Context) (tokens : List Token) (fs : Frames) (most : ℕ) (last : Checker) → run_checker c tokens (record { frames = fs; greatest = most }) ≡ Some last
    → higher (place_of fs) 0 ≤ most → last.greatest ≡ max most (met c tokens fs last.frames)
all_met c [] fs most last e h =
    let same : record { frames = fs; greatest = most } ≡ last = some_inside (record { frames = fs; greatest = most }) last e in
    let a = ap (λ (s : Checker). s.greatest) same in
    let b = ap (λ (s : Checker). higher (place_of s.frames) 0) same in
    omega arith
all_met c (t ∷ ts) fs most last e h =
    let s = through (step_checker c t (record { frames = fs; greatest = most })) (run_checker c ts) last e in
    let x = through (step c t fs) (λ gs. Some (measured most gs)) s.value s.is in
    let ran : run_checker c ts (measured most x.value) ≡ Some last = ap (run_checker c ts) (some_inside (measured most x.value) s.value x.then) ∙ s.then in
    let counted = higher-max (place_of x.value) most in
    let rest = all_met c ts x.value (higher (place_of x.value) most) last ran (omega arith) in
    let first = first_met c ts x.value (higher (place_of x.value) most) last ran in
    let passed = ap (λ (o : Option Frames). greatest (on o (observe c ts)).passed) x.is in
    let more = greatest (observe c ts x.value).passed in
    let same : met c (t ∷ ts) fs last.frames ≡ higher (place_of last.frames) (higher (place_of fs) more) = ap (λ (n : ℕ). higher (place_of last.frames) (higher (place_of fs) n)) passed in
    let a = higher-max (place_of last.frames) (higher (place_of fs) more) in
    let b = higher-max (place_of fs) more in
    let d = higher-max (place_of last.frames) more in
    omega arith

pub heights_measured : HeightsAreMeasured
heights_measured c tokens tree most e spells body =
    let whole = ap (λ (x : List Token). observe c x (start c)) spells ∙ body_observed c tree body in
    let ends : Checker = record { frames = []; greatest = most } in
    let all = all_met c tokens (start c) 0 ends e (omega arith) in
    let same = ap (λ (o : Observed). greatest o.passed) whole in
    omega arith
