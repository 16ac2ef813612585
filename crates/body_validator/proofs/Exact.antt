-- The checker refuses exactly the wrong token, by its kind.
use Rattle.std.proofs.Common.{◌≡◌, ◌&&◌, List, [], ◌∷◌, ◌++◌, Option, None, Some, refl, sym, ap, ◌∙◌}
use Rattle.wasm_defs.specs.declared.types.ValType.TheVariants.{I32}
use Rattle.wasm_defs.specs.declared.token.Token.{Token}
use Rattle.wasm_defs.specs.declared.token.Token.TheVariants as token
use Rattle.wasm_defs.specs.Typing.{Types, Signature, Context, rule_of, block_type}
use Rattle.wasm_defs.specs.Viable.{IsFaulty}
use Rattle.body_validator.specs.Exactness.{Reaches, Answers, CheckerIsExact, FrontsAreViable, BodiesAreAccepted}
use Rattle.body_validator.specs.declared.stack.Opening.{Opening}
use Rattle.body_validator.specs.declared.stack.Opening.TheVariants.{Block as Blocks, Loop as Loops, If as Ifs, Else as Elses}
use Rattle.body_validator.specs.Checking.{Frame, Frames, ◌>>=◌, guarded, take_all, apply, at, enter, closes, may_end, receive, starts_live, takes_else, step, run, start, nest, nests, openings, kind_of}
use Rattle.body_validator.proofs.Options.{through, some_inside, guarded-true, true_parts}
use Rattle.body_validator.proofs.Complete.{with_operands, with_own, opened, body_runs}
use Rattle.body_validator.proofs.Sound.{run-append, finished-body, accepted-viable, viable-accepted}
use Rattle.body_validator.proofs.Nesting.{nested-grammatical, grammatical-nested, nests-more}

-- ---- the frames nest as the tokens do

openings-receive : (results : Types) (fs : Frames) → openings (receive results fs) ≡ openings fs
openings-receive results [] = refl
openings-receive results (f ∷ fs) = refl

enter-nests : (c : Context) (opening : Opening) (type : Signature) (params : Types) (f : Frame) (fs after : Frames) → enter opening type params (f ∷ fs) ≡ Some after
    → opening ∷ f.opening ∷ openings fs ≡ openings after
enter-nests c opening type params f fs after e =
    let s = through (take_all f.operands.unknown params f.operands.own) (λ own. Some (opened opening type f.operands.live ∷ with_own f own ∷ fs)) after e in
    ap openings (some_inside (opened opening type f.operands.live ∷ with_own f s.value ∷ fs) after s.then)

step-nests : (c : Context) (t : Token) (fs after : Frames) → step c t fs ≡ Some after → nest t (openings fs) ≡ Some (openings after)
step-nests c t [] after e = absurd (cc)
step-nests c (token.Plain p) (f ∷ fs) after e =
    let s = through (apply (rule_of (at c (f ∷ fs)) p) f.operands) (λ o. Some (with_operands f o ∷ fs)) after e in
    ap (λ (x : Frames). Some (openings x)) (some_inside (with_operands f s.value ∷ fs) after s.then)
step-nests c (token.Block type) (f ∷ fs) after e =
    let s = through (block_type (at c (f ∷ fs)) type) (λ s. enter Blocks s s.params (f ∷ fs)) after e in
    ap (λ (x : List Opening). Some x) (enter-nests c Blocks s.value s.value.params f fs after s.then)
step-nests c (token.Loop type) (f ∷ fs) after e =
    let s = through (block_type (at c (f ∷ fs)) type) (λ s. enter Loops s s.params (f ∷ fs)) after e in
    ap (λ (x : List Opening). Some x) (enter-nests c Loops s.value s.value.params f fs after s.then)
step-nests c (token.If type) (f ∷ fs) after e =
    let s = through (block_type (at c (f ∷ fs)) type) (λ s. enter Ifs s (I32 ∷ s.params) (f ∷ fs)) after e in
    ap (λ (x : List Opening). Some x) (enter-nests c Ifs s.value (I32 ∷ s.value.params) f fs after s.then)
step-nests c token.Else (f ∷ fs) after e =
    let g = opened Elses f.type (starts_live fs) ∷ fs in
    let s = guarded-true (takes_else f.opening && closes f) g after e in
    let both = true_parts (takes_else f.opening) (closes f) s.0 in
    ap (λ b. guarded b (Elses ∷ openings fs)) both.0 ∙ ap (λ (x : Frames). Some (openings x)) s.1
step-nests c token.End (f ∷ fs) after e =
    let s = guarded-true (closes f && may_end f.opening f.type) (receive f.type.results fs) after e in
    ap (λ (x : List Opening). Some x) (sym (openings-receive f.type.results fs) ∙ ap openings s.1)

pub run-nests : (c : Context) (tokens : List Token) (fs after : Frames) → run c tokens fs ≡ Some after → nests tokens (openings fs) ≡ Some (openings after)
run-nests c [] fs after e = ap (λ (x : Frames). Some (openings x)) (some_inside fs after e)
run-nests c (t ∷ tokens) fs after e =
    let s = through (step c t fs) (run c tokens) after e in
    ap (λ (o : Option (List Opening)). o >>= nests tokens) (step-nests c t fs s.value s.is) ∙ run-nests c tokens s.value after s.then

-- ---- one more token

run-more : (c : Context) (tokens : List Token) (t : Token) (fs : Frames) (o : Option Frames) → Reaches c tokens fs → step c t fs ≡ o → run c (tokens ++ t ∷ []) (start c) ≡ o
run-more c tokens t fs o reach e =
    run-append c tokens (t ∷ []) (start c) ∙ ap (λ (x : Option Frames). x >>= run c (t ∷ [])) reach ∙ ap (λ (x : Option Frames). x >>= λ y. Some y) e ∙ last o
  where
    last : (x : Option Frames) → (x >>= λ y. Some y) ≡ x
    last None = refl
    last (Some y) = refl

faulty : (c : Context) (tokens : List Token) (t : Token) (fs : Frames) (nesting : Option (List Opening)) → Reaches c tokens fs → step c t fs ≡ None → nest t (openings fs) ≡ nesting
    → IsFaulty c (tokens ++ t ∷ []) (kind_of nesting)
faulty c tokens t fs None reach e n = λ g.
    let nested = grammatical-nested (tokens ++ t ∷ []) g in
    let ran = nests-more tokens t (openings fs) (run-nests c tokens (start c) fs reach) in
    let clash : None ≡ Some nested.0 = sym n ∙ sym ran ∙ nested.1 in
    absurd (cc)
faulty c tokens t fs (Some os) reach e n =
    let ran = nests-more tokens t (openings fs) (run-nests c tokens (start c) fs reach) in (
      nested-grammatical (tokens ++ t ∷ []) os (ran ∙ n),
      λ v.
          let accepted = viable-accepted c (tokens ++ t ∷ []) v in
          let clash : None ≡ Some accepted.0 = sym (run-more c tokens t fs None reach e) ∙ accepted.1 in
          absurd (cc),
    )

answers : (c : Context) (tokens : List Token) (t : Token) (fs : Frames) (o : Option Frames) → Reaches c tokens fs → step c t fs ≡ o → Answers c tokens t fs o
answers c tokens t fs None reach e = faulty c tokens t fs (nest t (openings fs)) reach e refl
answers c tokens t fs (Some after) reach e =
    let reached = run-more c tokens t fs (Some after) reach e in
    (reached, accepted-viable c (tokens ++ t ∷ []) after reached)

pub checker_exact : CheckerIsExact
checker_exact c tokens t fs reach = answers c tokens t fs (step c t fs) reach refl

pub bodies_accepted : BodiesAreAccepted
bodies_accepted c tokens = (finished-body c tokens, λ body. ap (λ (x : List Token). run c x (start c)) body.1 ∙ body_runs c body.0 body.2)

pub fronts_viable : FrontsAreViable
fronts_viable c tokens = (λ r. accepted-viable c tokens r.0 r.1, viable-accepted c tokens)
