-- A checker's step accepts exactly the viable tokens.
use Rattle.std.proofs.Common.{◌≡◌, ℕ, Bool, List, [], ◌∷◌, ◌++◌, Option, None, Some, IfSome, Result, Ok, Err, refl, sym, ap, ◌∙◌, subst}
use Rattle.wasm_defs.specs.declared.fault.Kind.{Kind}
use Rattle.wasm_defs.specs.declared.token.Token.{Token}
use Rattle.body_validator.specs.declared.check.Step.{Step}
use Rattle.body_validator.specs.declared.check.TokenStop.{TokenStop}
use Rattle.body_validator.specs.declared.check.TokenStop.TheVariants.{Refused, NoMemory}
use Rattle.wasm_defs.specs.Trees.{Seq, Tree}
use Rattle.wasm_defs.specs.Typing.{Context, IsBody}
use Rattle.wasm_defs.specs.Places.{Place, places_of, greatest}
use Rattle.wasm_defs.specs.Viable.{IsViable, IsFaulty}
use Rattle.body_validator.specs.Exactness.{Reaches, Answers}
use Rattle.body_validator.specs.Checking.{Frames, ◌>>=◌, step, run, guarded, height, is_live, place_of, Checker, measured, start_checker, step_checker, run_checker}
use Rattle.body_validator.specs.Checks.{Checked, Answered, IsReached, IsAnswered, IsPlaced}
use Rattle.body_validator.proofs.Options.{through, some_inside}
use Rattle.body_validator.proofs.Sound.{accepted-viable, finished-body}
use Rattle.body_validator.proofs.Exact.{checker_exact}
use Rattle.body_validator.proofs.Heights.{heights_measured, places_kept}

pub step_frames : (c : Context) (t : Token) (s last : Checker) → step_checker c t s ≡ Some last → step c t s.frames ≡ Some last.frames
step_frames c t s last e =
    let x = through (step c t s.frames) (λ fs. Some (measured s.greatest fs)) last e in
    x.is ∙ ap (λ (y : Checker). Some y.frames) (some_inside (measured s.greatest x.value) last x.then)

pub run_frames : (c : Context) (tokens : List Token) (s last : Checker) → run_checker c tokens s ≡ Some last → run c tokens s.frames ≡ Some last.frames
run_frames c [] s last e = ap (λ (y : Checker). Some y.frames) (some_inside s last e)
run_frames c (t ∷ ts) s last e =
    let x = through (step_checker c t s) (run_checker c ts) last e in
    ap (λ (o : Option Frames). o >>= run c ts) (step_frames c t s x.value x.is) ∙ run_frames c ts x.value last x.then

followed : (c : Context) (xs : List Token) (t : Token) (o : Option Checker) → ((s : Checker) → run_checker c (xs ++ t ∷ []) s ≡ (run_checker c xs s >>= step_checker c t))
    → (o >>= run_checker c (xs ++ t ∷ [])) ≡ ((o >>= run_checker c xs) >>= step_checker c t)
followed c xs t None h = refl
followed c xs t (Some s) h = h s

one_more : (c : Context) (tokens : List Token) (t : Token) (s : Checker) → run_checker c (tokens ++ t ∷ []) s ≡ (run_checker c tokens s >>= step_checker c t)
one_more c [] t s = last (step_checker c t s)
  where
    last : (o : Option Checker) → (o >>= λ x. Some x) ≡ o
    last None = refl
    last (Some x) = refl
one_more c (x ∷ xs) t s = followed c xs t (step_checker c x s) (one_more c xs t)

pub reaches : (c : Context) (tokens : List Token) (s : Checker) → run_checker c tokens (start_checker c) ≡ Some s → Reaches c tokens s.frames
reaches c tokens s e = run_frames c tokens (start_checker c) s e

pub answered_exact : (offset : ℕ) (tokens : List Token) (t : Token) (r : Result Step TokenStop) (old new : Checked) → Answered offset t r old new → IsReached tokens old → IsAnswered tokens t r old new
answered_exact offset tokens t (Ok s) old new h reach =
    let c = old.context in
    let there : run_checker c (tokens ++ t ∷ []) (start_checker c) ≡ Some new.checker =
    one_more c tokens t (start_checker c) ∙ ap (λ (o : Option Checker). o >>= step_checker c t) reach ∙ h.0 in (
      subst (λ (x : Context). run_checker x (tokens ++ t ∷ []) (start_checker x) ≡ Some new.checker) (sym h.1) there,
      accepted-viable c (tokens ++ t ∷ []) new.checker.frames (reaches c (tokens ++ t ∷ []) new.checker there),
    )
answered_exact offset tokens t (Err (Refused r)) old new h reach =
    let c = old.context in
    let fs = old.checker.frames in
    let told = subst (λ (o : Option Frames). Answers c tokens t fs o) h.0 (checker_exact c tokens t fs (reaches c tokens old.checker reach)) in
    subst (λ (k : Kind). IsFaulty c (tokens ++ t ∷ []) k) (ap (λ x. x.kind) (sym h.1)) told
answered_exact offset tokens t (Err NoMemory) old new h reach = tt

pub ends_measured : (c : Checked) (tokens : List Token) (tree : Seq) → c.checker.frames ≡ [] → IsReached tokens c → Tree tokens tree → IsBody c.context tree
    → c.checker.greatest ≡ greatest (places_of c.context tree)
ends_measured c tokens tree over reach spells body =
    let most = c.checker.greatest in
    heights_measured c.context tokens tree most (reach ∙ ap (λ (fs : Frames). Some (record { frames = fs; greatest = most })) over) spells body

pub place-parts : (fs : Frames) → place_of fs ≡ guarded (is_live fs) (height fs)
place-parts [] = refl
place-parts (f ∷ fs) = refl

pub answered_placed : (offset : ℕ) (tokens : List Token) (t : Token) (r : Result Step TokenStop) (old new : Checked) → Answered offset t r old new → IsReached tokens old → IsPlaced old.context tokens t r
answered_placed offset tokens t (Ok s) old new h reach = λ more tree spells body.
    let fs = old.checker.frames in
    places_kept old.context tokens t more tree fs (reaches old.context tokens old.checker reach) spells body
    ∙ ap (λ (p : Place). Some p) (place-parts fs ∙ ap (λ (b : Bool). guarded b (height fs)) (sym h.3.0) ∙ ap (guarded s.live) (sym h.3.1))
answered_placed offset tokens t (Err stop) old new h reach = tt

-- ---- what callers know of the tokens that were taken

-- some others complete them to a valid body
pub reached-viable : (c : Checked) (tokens : List Token) → IsReached tokens c → IsViable c.context tokens
reached-viable c tokens reach = accepted-viable c.context tokens c.checker.frames (reaches c.context tokens c.checker reach)

-- and where the body has ended, they are a valid body
pub reached-body : (c : Checked) (tokens : List Token) → c.checker.frames ≡ [] → IsReached tokens c → (tree : Seq) × Tree tokens tree × IsBody c.context tree
reached-body c tokens over reach =
    finished-body c.context tokens (reaches c.context tokens c.checker reach ∙ ap (λ (fs : Frames). Some fs) over)

-- and so of a token that was answered, or left
pub maybe_exact : (offset : ℕ) (tokens : List Token) (t : Token) (r : Option (Result Step TokenStop)) (old new : Checked) → IfSome r (λ s. Answered offset t s old new) → IsReached tokens old → IfSome r (λ s. IsAnswered tokens t s old new)
maybe_exact offset tokens t None old new h reach = tt
maybe_exact offset tokens t (Some r) old new h reach = answered_exact offset tokens t r old new h reach

pub maybe_placed : (offset : ℕ) (tokens : List Token) (t : Token) (r : Option (Result Step TokenStop)) (old new : Checked) → IfSome r (λ s. Answered offset t s old new) → IsReached tokens old → IfSome r (λ s. IsPlaced old.context tokens t s)
maybe_placed offset tokens t None old new h reach = tt
maybe_placed offset tokens t (Some r) old new h reach = answered_placed offset tokens t r old new h reach
