-- The code of each body is valid, or has an error.
use Rattle.std.proofs.Common.{◌≡◌, ◌⊎◌, inl, inr, ℕ, zero, suc, Bool, List, [], ◌∷◌, ◌++◌, length, Option, None, Some, refl, sym, ap, ◌∙◌, subst, append_assoc, arith}
use Rattle.std.proofs.lemmas.List.{append-nil}
use Rattle.wasm_defs.specs.declared.fault.Kind.{Kind}
use Rattle.wasm_defs.specs.declared.fault.Refusal.{Refusal}
use Rattle.wasm_defs.specs.declared.token.Token.{Token}
use Rattle.wasm_defs.specs.declared.token.Token.TheVariants as token
use Rattle.wasm_defs.specs.Bodies.{Spelled, depth_after, body_read}
use Rattle.wasm_defs.specs.Faults.{tokens_of, IsTokenFault, IsCodeFault, IsValidCode}
use Rattle.wasm_defs.specs.Trees.{Seq}
use Rattle.wasm_defs.specs.Typing.{Context}
use Rattle.wasm_defs.specs.Viable.{IsFaulty}
use Rattle.wasm_laws.proofs.Faulty.{tokens_of-append}
use Rattle.body_validator.specs.declared.stack.Opening.{Opening}
use Rattle.body_validator.specs.declared.stack.Opening.TheVariants.{Block as Blocks, Else as Elses}
use Rattle.body_validator.specs.Exactness.{Reaches, Answers}
use Rattle.body_validator.specs.Checking.{Frames, step, start, takes_else, nest, nests, openings, fault_kind}
use Rattle.body_validator.proofs.Options.{through, some_inside, guarded-true}
use Rattle.body_validator.proofs.Exact.{run-nests, checker_exact, bodies_accepted, fronts_viable}
use Rattle.body_laws.specs.Reading.{Closes}
use Rattle.body_laws.proofs.SpeltCodes.{body_closes}

-- ---- the tokens are taken, or one of them is wrong

stepped_to : (c : Context) (tokens : List Token) (t : Token) (fs : Frames) (o : Option Frames) → Answers c tokens t fs o → ((after : Frames) × Reaches c (tokens ++ t ∷ []) after) ⊎ ((kind : Kind) × IsFaulty c (tokens ++ t ∷ []) kind)
stepped_to c tokens t fs None h = inr (fault_kind t fs, h)
stepped_to c tokens t fs (Some after) h = inl (after, h.0)

taken : (c : Context) (all done rest : List (ℕ × Token)) (fs : Frames) → all ≡ done ++ rest → Reaches c (tokens_of done) fs → ((fs : Frames) × Reaches c (tokens_of all) fs) ⊎ ((r : Refusal) × IsTokenFault c all r)
taken c all done [] fs e reach = inl (fs, subst (λ (l : List (ℕ × Token)). Reaches c (tokens_of l) fs) (sym (e ∙ append-nil done)) reach)
taken c all done (x ∷ rest) fs e reach =
    elim (stepped_to c (tokens_of done) x.1 fs (step c x.1 fs) (checker_exact c (tokens_of done) x.1 fs reach)) [
      | inl p ↦ taken c all (done ++ x ∷ []) rest p.0 (e ∙ sym (append_assoc done (x ∷ []) rest)) (subst (λ (l : List Token). Reaches c l p.0) (sym (tokens_of-append done (x ∷ []))) p.1)
      | inr q ↦ inr (record { offset = x.0; kind = q.0 }, record { before = done; at = x.0; token = x.1; after = rest; parts = e; viable = (fronts_viable c (tokens_of done)).0 (fs, reach); faulty = q.1; place = refl })
    ]

-- ---- tokens that close all blocks leave no frame

nest_depth : (t : Token) (o : Opening) (os after : List Opening) → nest t (o ∷ os) ≡ Some after → length after ≡ depth_after t (length (o ∷ os))
nest_depth (token.Plain p) o os after e = ap length (sym (some_inside (o ∷ os) after e))
nest_depth (token.Block type) o os after e = ap length (sym (some_inside _ after e))
nest_depth (token.Loop type) o os after e = ap length (sym (some_inside _ after e))
nest_depth (token.If type) o os after e = ap length (sym (some_inside _ after e))
nest_depth token.Else o os after e = ap length (sym (guarded-true (takes_else o) (Elses ∷ os) after e).1)
nest_depth token.End o os after e = let h : length after ≡ length os = ap length (sym (some_inside os after e)) in omega arith

closes_nests : (depth : ℕ) (ts : List Token) (os after : List Opening) → length os ≡ depth → Closes depth ts → nests ts os ≡ Some after → after ≡ []
closes_nests zero [] [] after len closes e = sym (some_inside [] after e)
closes_nests zero [] (o ∷ os) after len closes e = absurd (omega arith)
closes_nests zero (t ∷ ts) os after len closes e = absurd closes
closes_nests (suc depth) [] os after len closes e = absurd closes
closes_nests (suc depth) (t ∷ ts) [] after len closes e = absurd (omega arith)
closes_nests (suc depth) (t ∷ ts) (o ∷ os) after len closes e =
    let s = through (nest t (o ∷ os)) (nests ts) after e in
    closes_nests (depth_after t (suc depth)) ts s.value after (nest_depth t o os s.value s.is ∙ ap (depth_after t) len) closes s.then

none_open : (fs : Frames) → openings fs ≡ [] → fs ≡ []
none_open [] e = refl
none_open (f ∷ fs) e = absurd cc

-- ---- the code is validated

abbrev pub IsJudged : Context → Spelled → Type 0
IsJudged c code = ((tree : Seq) × IsValidCode c code tree) ⊎ ((r : Refusal) × IsCodeFault c code r)

-- where its tokens close all blocks unless its reading was stopped
module _ (c : Context) (code : Spelled) (closes : code.fault ≡ None → Closes 1 (tokens_of code.tokens)) where
  valid : (fs : Frames) → Reaches c (tokens_of code.tokens) fs → code.fault ≡ None → IsJudged c code
  valid fs reach whole =
      let nested = run-nests c (tokens_of code.tokens) (start c) fs reach in
      let none_left = closes_nests 1 (tokens_of code.tokens) (Blocks ∷ []) (openings fs) refl (closes whole) nested in
      let body = (bodies_accepted c (tokens_of code.tokens)).0 (subst (Reaches c (tokens_of code.tokens)) (none_open fs none_left) reach) in
      inl (body.0, record { whole = whole; tree_is = body.1; typed = body.2 })

  -- all tokens are taken
  reached : (fs : Frames) → Reaches c (tokens_of code.tokens) fs → (fault : Option Refusal) → code.fault ≡ fault → IsJudged c code
  reached fs reach None e = valid fs reach e
  reached fs reach (Some r) e = inr (r, inr (record { viable = (fronts_viable c (tokens_of code.tokens)).0 (fs, reach); is = e }))

  pub code_judged : IsJudged c code
  code_judged =
      elim (taken c code.tokens [] code.tokens (start c) refl refl) [
        | inl p ↦ reached p.0 p.1 code.fault refl
        | inr f ↦ inr (f.0, inl f.1)
      ]

pub body_judged : (c : Context) (counted : Bool) (first : ℕ) (bytes : List ℕ) → IsJudged c (body_read counted first bytes).code
body_judged c counted first bytes = code_judged c (body_read counted first bytes).code (body_closes counted first bytes)
