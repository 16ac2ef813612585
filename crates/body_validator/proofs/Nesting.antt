-- The nesting of tokens, whatever their types.
use Rattle.std.proofs.Common.{◌≡◌, true, List, [], ◌∷◌, ◌++◌, Option, None, Some, refl, sym, ap, ◌∙◌}
use Rattle.wasm_defs.specs.declared.token.Token.{Token}
use Rattle.wasm_defs.specs.declared.token.Token.TheVariants as token
use Rattle.wasm_defs.specs.Trees.{Seq, Nothing, Simple, Block, Loop, If, Else, spelled}
use Rattle.wasm_defs.specs.Viable.{IsGrammatical}
use Rattle.body_validator.specs.declared.stack.Opening.{Opening}
use Rattle.body_validator.specs.declared.stack.Opening.TheVariants.{Block as Blocks, Loop as Loops, If as Ifs, Else as Elses}
use Rattle.body_validator.specs.Checking.{◌>>=◌, takes_else, nest, nests}
use Rattle.body_validator.proofs.Options.{through, passed}

-- the tokens of a sequence leave the nesting as it is
pub spelled-nests : (tree : Seq) (o : Opening) (os : List Opening) (more : List Token) → nests (spelled tree more) (o ∷ os) ≡ nests more (o ∷ os)
spelled-nests Nothing o os more = refl
spelled-nests (Simple p rest) o os more = spelled-nests rest o os more
spelled-nests (Block type body rest) o os more =
    spelled-nests body Blocks (o ∷ os) (token.End ∷ spelled rest more) ∙ spelled-nests rest o os more
spelled-nests (Loop type body rest) o os more =
    spelled-nests body Loops (o ∷ os) (token.End ∷ spelled rest more) ∙ spelled-nests rest o os more
spelled-nests (If type body Nothing rest) o os more =
    spelled-nests body Ifs (o ∷ os) (token.End ∷ spelled rest more) ∙ spelled-nests rest o os more
spelled-nests (If type body (Else other) rest) o os more =
    spelled-nests body Ifs (o ∷ os) (token.Else ∷ spelled other (token.End ∷ spelled rest more))
    ∙ spelled-nests other Elses (o ∷ os) (token.End ∷ spelled rest more) ∙ spelled-nests rest o os more

-- how a sequence ends: by `end`, or, in an `if`, by `else` and another sequence
data Ending (o : Opening) (tree : Seq) (rest tokens : List Token) : Type 0 where
  ends : tokens ≡ spelled tree (token.End ∷ rest) → Ending o tree rest tokens
  turns_over : (other : Seq) → o ≡ Ifs → tokens ≡ spelled tree (token.Else ∷ spelled other (token.End ∷ rest)) → Ending o tree rest tokens

record Goes (o : Opening) (After : List Token → Type 0) (tokens : List Token) : Type 0 where
  tree : Seq
  rest : List Token
  ending : Ending o tree rest tokens
  then : After rest

abbrev Closes : List Opening → List Token → Type 0
Closes [] tokens = tokens ≡ []
Closes (o ∷ os) tokens = Goes o (Closes os) tokens

longer : (o : Opening) (first : List Token → List Token) (tree whole : Seq) (rest tokens all : List Token)
    → ((k : List Token) → first (spelled tree k) ≡ spelled whole k) → all ≡ first tokens → Ending o tree rest tokens → Ending o whole rest all
longer o first tree whole rest tokens all h f (ends e) = ends (f ∙ ap first e ∙ h (token.End ∷ rest))
longer o first tree whole rest tokens all h f (turns_over other is e) =
    turns_over other is (f ∙ ap first e ∙ h (token.Else ∷ spelled other (token.End ∷ rest)))

-- a sequence, after what is before it
goes_on : (o : Opening) (P : List Token → Type 0) (first : List Token → List Token) (make : Seq → Seq) (tokens all : List Token)
    → ((tree : Seq) (k : List Token) → first (spelled tree k) ≡ spelled (make tree) k) → all ≡ first tokens → Goes o P tokens → Goes o P all
goes_on o P first make tokens all h f g =
    record { tree = make g.tree; rest = g.rest; ending = longer o first g.tree (make g.tree) g.rest tokens all (h g.tree) f g.ending; then = g.then }

goes_block : (inner o : Opening) (P : List Token → Type 0) (t : Token) (make : Seq → Seq → Seq) (tokens : List Token)
    → ((body tree : Seq) (k : List Token) → t ∷ spelled body (token.End ∷ spelled tree k) ≡ spelled (make body tree) k)
    → ¬ (inner ≡ Ifs) → Goes inner (Goes o P) tokens → Goes o P (t ∷ tokens)
goes_block inner o P t make tokens h never g = elim g.ending [
  | ends e ↦ goes_on o P (λ k. t ∷ spelled g.tree (token.End ∷ k)) (make g.tree) g.rest (t ∷ tokens) (h g.tree) (ap (λ (k : List Token). t ∷ k) e) g.then
  | turns_over other is e ↦ absurd (never is)
]

pub takes_else-true : (o : Opening) → takes_else o ≡ true → o ≡ Ifs
takes_else-true Blocks e = absurd (cc)
takes_else-true Loops e = absurd (cc)
takes_else-true Ifs e = refl
takes_else-true Elses e = absurd (cc)

goes_else : (o : Opening) (P : List Token → Type 0) (tokens : List Token) → takes_else o ≡ true → Goes Elses P tokens → Goes o P (token.Else ∷ tokens)
goes_else o P tokens e g = elim g.ending [
  | ends f ↦ record { tree = Nothing; rest = g.rest; ending = turns_over g.tree (takes_else-true o e) (ap (λ (k : List Token). token.Else ∷ k) f); then = g.then }
  | turns_over other is f ↦ absurd (cc)
]

over : (tokens : List Token) → nests tokens [] ≡ Some [] → tokens ≡ []
over [] e = refl
over (t ∷ tokens) e = absurd (cc)

-- tokens that close all that is open are those of sequences
goes : (tokens : List Token) (o : Opening) (os : List Opening) → nests tokens (o ∷ os) ≡ Some [] → Goes o (Closes os) tokens
goes [] o os e = absurd (cc)
goes (token.Plain p ∷ tokens) o os e =
    goes_on o (Closes os) (λ k. token.Plain p ∷ k) (Simple p) tokens (token.Plain p ∷ tokens) (λ tree k. refl) refl (goes tokens o os e)
goes (token.Block type ∷ tokens) o os e =
    goes_block Blocks o (Closes os) (token.Block type) (Block type) tokens (λ body tree k. refl) (λ x. cc) (goes tokens Blocks (o ∷ os) e)
goes (token.Loop type ∷ tokens) o os e =
    goes_block Loops o (Closes os) (token.Loop type) (Loop type) tokens (λ body tree k. refl) (λ x. cc) (goes tokens Loops (o ∷ os) e)
goes (token.If type ∷ tokens) o os e =
    let g = goes tokens Ifs (o ∷ os) e in
    let t = token.If type in
    elim g.ending [
      | ends f ↦ goes_on o (Closes os) (λ k. t ∷ spelled g.tree (token.End ∷ k)) (If type g.tree Nothing) g.rest (t ∷ tokens) (λ tree k. refl) (ap (λ (k : List Token). t ∷ k) f) g.then
      | turns_over other is f ↦ goes_on o (Closes os) (λ k. t ∷ spelled g.tree (token.Else ∷ spelled other (token.End ∷ k))) (If type g.tree (Else other)) g.rest (t ∷ tokens)
          (λ tree k. refl) (ap (λ (k : List Token). t ∷ k) f) g.then
    ]
goes (token.Else ∷ tokens) o os e =
    let x = passed (takes_else o) (Elses ∷ os) (nests tokens) [] e in
    goes_else o (Closes os) tokens x.0 (goes tokens Elses os x.1)
goes (token.End ∷ tokens) o [] e =
    record { tree = Nothing; rest = tokens; ending = ends refl; then = over tokens e }
goes (token.End ∷ tokens) o (p ∷ os) e =
    record { tree = Nothing; rest = tokens; ending = ends refl; then = goes tokens p os e }

-- `end`s close all that is open
abbrev ends_of : List Opening → List Token
ends_of [] = []
ends_of (o ∷ os) = token.End ∷ ends_of os

ends_of-nests : (os : List Opening) → nests (ends_of os) os ≡ Some []
ends_of-nests [] = refl
ends_of-nests (o ∷ os) = ends_of-nests os

followed : (xs ys : List Token) (o : Option (List Opening)) → ((os : List Opening) → nests (xs ++ ys) os ≡ (nests xs os >>= nests ys))
    → (o >>= nests (xs ++ ys)) ≡ ((o >>= nests xs) >>= nests ys)
followed xs ys None h = refl
followed xs ys (Some os) h = h os

nests-append : (xs ys : List Token) (os : List Opening) → nests (xs ++ ys) os ≡ (nests xs os >>= nests ys)
nests-append [] ys os = refl
nests-append (x ∷ xs) ys os = followed xs ys (nest x os) (nests-append xs ys)

pub nested-grammatical : (tokens : List Token) (os : List Opening) → nests tokens (Blocks ∷ []) ≡ Some os → IsGrammatical tokens
nested-grammatical tokens os e =
    let more = ends_of os in
    let ran = nests-append tokens more (Blocks ∷ []) ∙ ap (λ (o : Option (List Opening)). o >>= nests more) e ∙ ends_of-nests os in
    let g = goes (tokens ++ more) Blocks [] ran in
    elim g.ending [
      | ends is ↦ (more, g.tree, is ∙ ap (λ (x : List Token). spelled g.tree (token.End ∷ x)) g.then)
      | turns_over other o is ↦ absurd (cc)
    ]

pub grammatical-nested : (tokens : List Token) → IsGrammatical tokens → (os : List Opening) × (nests tokens (Blocks ∷ []) ≡ Some os)
grammatical-nested tokens v =
    let ran = sym (nests-append tokens v.0 (Blocks ∷ [])) ∙ ap (λ (x : List Token). nests x (Blocks ∷ [])) v.2 ∙ spelled-nests v.1 Blocks [] (token.End ∷ []) in
    let s = through (nests tokens (Blocks ∷ [])) (nests v.0) [] ran in
    (s.value, s.is)

pub nests-more : (tokens : List Token) (t : Token) (os : List Opening) → nests tokens (Blocks ∷ []) ≡ Some os → nests (tokens ++ t ∷ []) (Blocks ∷ []) ≡ nest t os
nests-more tokens t os e =
    nests-append tokens (t ∷ []) (Blocks ∷ []) ∙ ap (λ (o : Option (List Opening)). o >>= nests (t ∷ [])) e ∙ last (nest t os)
  where
    last : (o : Option (List Opening)) → (o >>= λ x. Some x) ≡ o
    last None = refl
    last (Some x) = refl
