-- What the checker accepts, some tokens complete to a valid body.
use Rattle.std.proofs.Common.{◌≡◌, ◌&&◌, true, false, List, [], ◌∷◌, ◌++◌, Option, None, Some, refl, sym, ap, ◌∙◌, subst}
use Rattle.wasm_defs.specs.declared.types.ValType.TheVariants.{I32}
use Rattle.wasm_defs.specs.declared.token.BlockType.{BlockType}
use Rattle.wasm_defs.specs.declared.token.Plain.{Plain}
use Rattle.wasm_defs.specs.declared.token.Plain.TheVariants.{Unreachable}
use Rattle.wasm_defs.specs.declared.token.Token.{Token}
use Rattle.wasm_defs.specs.declared.token.Token.TheVariants as token
use Rattle.wasm_defs.specs.Trees.{Seq, Nothing, Simple, Block, Loop, If, Else, spelled, Tree}
use Rattle.wasm_defs.specs.Typing.{Types, Signature, Context, inside, Typed, IsBody, rule_of, block_type}
use Rattle.wasm_defs.specs.Viable.{IsViable}
use Rattle.body_validator.specs.declared.stack.Opening.{Opening}
use Rattle.body_validator.specs.declared.stack.Opening.TheVariants.{Block as Blocks, Loop as Loops, If as Ifs, Else as Elses}
use Rattle.body_validator.specs.Checking.{Operand, Operands, Frame, Frames, ◌>>=◌, known, take_all, apply, label_of, at, enter, closes, may_end, receive, starts_live, takes_else, step, run, start}
use Rattle.body_validator.proofs.OperandLaws.{Fits, known-beneath, take_all-taken, apply-source, closes-true, same_types-true}
use Rattle.body_validator.proofs.Options.{through, some_inside, true_parts, passed}
use Rattle.body_validator.proofs.Nesting.{takes_else-true}
use Rattle.body_validator.proofs.Complete.{with_operands, with_own, opened, FrameFits, end_runs, else_runs, body_runs}

-- how a sequence ends its frame: by `end`, or, in an `if`, by `else` and another sequence
pub data Ending (c : Context) (opening : Opening) (type : Signature) (tree : Seq) (rest tokens : List Token) : Type 0 where
  ends : tokens ≡ spelled tree (token.End ∷ rest) → may_end opening type ≡ true → Ending c opening type tree rest tokens
  turns_over : (other : Seq) → opening ≡ Ifs → tokens ≡ spelled tree (token.Else ∷ spelled other (token.End ∷ rest))
      → Typed (inside c type.results) other type.params type.results → Ending c opening type tree rest tokens

-- the tokens are those of a sequence, from operands that may be in the frame to its results; of its ending; and others
pub record Goes (c : Context) (f : Frame) (fs : Frames) (After : List Token → Type 0) (tokens : List Token) : Type 0 where
  tree : Seq
  from : Types
  rest : List Token
  fits : FrameFits f from
  typed : Typed (at c (f ∷ fs)) tree from f.type.results
  ending : Ending (at c fs) f.opening f.type tree rest tokens
  then : After rest

abbrev received : Frame → Types → Frame
received f results = with_own f (known results ++ f.operands.own)

-- the tokens close the frames that are left, once the innermost has those results
abbrev Closes : Context → Types → Frames → List Token → Type 0
Closes c results [] tokens = tokens ≡ []
Closes c results (f ∷ fs) tokens = Goes c (received f results) fs (Closes c f.type.results fs) tokens

-- longer by what is before the sequence
longer : (c : Context) (opening : Opening) (type : Signature) (first : List Token → List Token) (tree whole : Seq) (rest tokens : List Token)
    → ((k : List Token) → first (spelled tree k) ≡ spelled whole k) → Ending c opening type tree rest tokens → Ending c opening type whole rest (first tokens)
longer c opening type first tree whole rest tokens h (ends e m) = ends (ap first e ∙ h (token.End ∷ rest)) m
longer c opening type first tree whole rest tokens h (turns_over other o e t) =
    turns_over other o (ap first e ∙ h (token.Else ∷ spelled other (token.End ∷ rest))) t

goes_simple : (c : Context) (p : Plain) (f : Frame) (fs : Frames) (o : Operands) (tokens : List Token) (P : List Token → Type 0)
    → apply (rule_of (at c (f ∷ fs)) p) f.operands ≡ Some o → Goes c (with_operands f o) fs P tokens → Goes c f fs P (token.Plain p ∷ tokens)
goes_simple c p f fs o tokens P e g =
    let source = apply-source (rule_of (at c (f ∷ fs)) p) f.operands o g.from e g.fits in
    record {
      tree = Simple p g.tree;
      from = source.from;
      rest = g.rest;
      fits = source.fits;
      typed = (g.from, source.moves, g.typed);
      ending = longer (at c fs) f.opening f.type (λ k. token.Plain p ∷ k) g.tree (Simple p g.tree) g.rest tokens (λ k. refl) g.ending;
      then = g.then;
    }

known-only : (p ts : Types) → Fits false (known p) ts → ts ≡ p
known-only [] ts h = h
known-only (t ∷ p) [] h = absurd h
known-only (t ∷ p) (u ∷ ts) h =
    let e : t ≡ u = h.0 in
    let f : ts ≡ p = known-only p ts h.1 in
    cc

-- a block is entered, and its inside goes on to its end and beyond
record Entered (c : Context) (opening : Opening) (type : Signature) (params : Types) (f : Frame) (fs : Frames) (tokens : List Token) : Type 0 where
  own : List Operand
  took : take_all f.operands.unknown params f.operands.own ≡ Some own
  ran : run c tokens (opened opening type f.operands.live ∷ with_own f own ∷ fs) ≡ Some []

entered : (c : Context) (opening : Opening) (type : Signature) (params : Types) (f : Frame) (fs : Frames) (tokens : List Token)
    → enter opening type params (f ∷ fs) >>= run c tokens ≡ Some [] → Entered c opening type params f fs tokens
entered c opening type params f fs tokens e =
    let inner : List Operand → Option Frames = λ own. Some (opened opening type f.operands.live ∷ with_own f own ∷ fs) in
    let s = through (enter opening type params (f ∷ fs)) (run c tokens) [] e in
    let t = through (take_all f.operands.unknown params f.operands.own) inner s.value s.is in
    record {
      own = t.value;
      took = t.is;
      ran = subst (λ (x : Frames). run c tokens x ≡ Some []) (sym (some_inside (opened opening type f.operands.live ∷ with_own f t.value ∷ fs) s.value t.then)) s.then;
    }

-- the operands before a block, and what follows it
record Surrounds (c : Context) (type : Signature) (params : Types) (f : Frame) (fs : Frames) (P : List Token → Type 0) (tokens : List Token) : Type 0 where
  below : Types
  tree : Seq
  rest : List Token
  fits : FrameFits f (params ++ below)
  typed : Typed (at c (f ∷ fs)) tree (type.results ++ below) f.type.results
  ending : Ending (at c fs) f.opening f.type tree rest tokens
  then : P rest

surrounds : (c : Context) (type : Signature) (params : Types) (f : Frame) (fs : Frames) (P : List Token → Type 0) (own : List Operand) (tokens : List Token)
    → take_all f.operands.unknown params f.operands.own ≡ Some own → Goes c (received (with_own f own) type.results) fs P tokens → Surrounds c type params f fs P tokens
surrounds c type params f fs P own tokens e g =
    let b = known-beneath f.operands.unknown type.results own g.from g.fits in
    record {
      below = b.below;
      tree = g.tree;
      rest = g.rest;
      fits = take_all-taken f.operands.unknown params f.operands.own own b.below e b.fits;
      typed = subst (λ (x : Types). Typed (at c (f ∷ fs)) g.tree x f.type.results) b.is g.typed;
      ending = g.ending;
      then = g.then;
    }

-- the inside of a block, from its parameters
inside_typed : (c : Context) (type : Signature) (tree : Seq) (from : Types) → Fits false (known type.params) from → Typed c tree from type.results → Typed c tree type.params type.results
inside_typed c type tree from h t = subst (λ (x : Types). Typed c tree x type.results) (known-only type.params from h) t

-- a block, between its first token and what follows it, before the rest of the sequence
goes_around : (c : Context) (type : Signature) (params : Types) (f : Frame) (fs : Frames) (P : List Token → Type 0) (first : List Token → List Token) (whole : Seq) (rest tokens : List Token)
    → (around : Surrounds c type params f fs P rest) → ((k : List Token) → first (spelled around.tree k) ≡ spelled whole k) → tokens ≡ first rest
    → Typed (at c (f ∷ fs)) whole (params ++ around.below) f.type.results → Goes c f fs P tokens
goes_around c type params f fs P first whole rest tokens around same is typed = record {
  tree = whole;
  from = params ++ around.below;
  rest = around.rest;
  fits = around.fits;
  typed = typed;
  ending = subst (λ (x : List Token). Ending (at c fs) f.opening f.type whole around.rest x) (sym is)
      (longer (at c fs) f.opening f.type first around.tree whole around.rest rest same around.ending);
  then = around.then;
}

-- what is inside a block that was entered, and what follows it
abbrev GoesInside : Context → Opening → Signature → Frame → Frames → (List Token → Type 0) → List Operand → List Token → Type 0
GoesInside c opening s f fs P own tokens =
    Goes c (opened opening s f.operands.live) (with_own f own ∷ fs) (Goes c (received (with_own f own) s.results) fs P) tokens

-- a block that has no `else`, by its first token and its tree
goes_block : (c : Context) (opening : Opening) (first : Token) (whole : Seq → Seq → Seq) (s : Signature) (f : Frame) (fs : Frames) (P : List Token → Type 0) (own : List Operand) (tokens : List Token)
    → (opening ≡ Ifs → ⊥) → ((body rest : Seq) (k : List Token) → first ∷ spelled body (token.End ∷ spelled rest k) ≡ spelled (whole body rest) k)
    → ((body rest : Seq) (below : Types) → Typed (inside (at c (f ∷ fs)) (label_of opening s)) body s.params s.results → Typed (at c (f ∷ fs)) rest (s.results ++ below) f.type.results
    → Typed (at c (f ∷ fs)) (whole body rest) (s.params ++ below) f.type.results)
    → take_all f.operands.unknown s.params f.operands.own ≡ Some own → GoesInside c opening s f fs P own tokens → Goes c f fs P (first ∷ tokens)
goes_block c opening first whole s f fs P own tokens ended same typed took g = by_ending g.ending
  where
    by_ending : Ending (at c (f ∷ fs)) opening s g.tree g.rest tokens → Goes c f fs P (first ∷ tokens)
    by_ending (turns_over other o is t) = absurd (ended o)
    by_ending (ends is m) =
        let around = surrounds c s s.params f fs P own g.rest took g.then in
        goes_around c s s.params f fs P (λ k. first ∷ spelled g.tree (token.End ∷ k)) (whole g.tree around.tree) g.rest (first ∷ tokens) around
        (same g.tree around.tree) (ap (λ (x : List Token). first ∷ x) is)
        (typed g.tree around.tree around.below (inside_typed (inside (at c (f ∷ fs)) (label_of opening s)) s g.tree g.from g.fits g.typed) around.typed)

goes_if : (c : Context) (type : BlockType) (s : Signature) (f : Frame) (fs : Frames) (P : List Token → Type 0) (own : List Operand) (tokens : List Token)
    → block_type (at c (f ∷ fs)) type ≡ Some s → take_all f.operands.unknown (I32 ∷ s.params) f.operands.own ≡ Some own
    → GoesInside c Ifs s f fs P own tokens → Goes c f fs P (token.If type ∷ tokens)
goes_if c type s f fs P own tokens e took g = by_ending g.ending
  where
    by_ending : Ending (at c (f ∷ fs)) Ifs s g.tree g.rest tokens → Goes c f fs P (token.If type ∷ tokens)
    by_ending (ends is m) =
        let around = surrounds c s (I32 ∷ s.params) f fs P own g.rest took g.then in
        goes_around c s (I32 ∷ s.params) f fs P (λ k. token.If type ∷ spelled g.tree (token.End ∷ k)) (If type g.tree Nothing around.tree) g.rest (token.If type ∷ tokens) around
        (λ k. refl) (ap (λ (x : List Token). token.If type ∷ x) is)
        (s, around.below, e, refl, inside_typed (inside (at c (f ∷ fs)) s.results) s g.tree g.from g.fits g.typed, same_types-true s.params s.results m, around.typed)
    by_ending (turns_over other o is t) =
        let around = surrounds c s (I32 ∷ s.params) f fs P own g.rest took g.then in
        goes_around c s (I32 ∷ s.params) f fs P (λ k. token.If type ∷ spelled g.tree (token.Else ∷ spelled other (token.End ∷ k))) (If type g.tree (Else other) around.tree) g.rest (token.If type ∷ tokens) around
        (λ k. refl) (ap (λ (x : List Token). token.If type ∷ x) is)
        (s, around.below, e, refl, inside_typed (inside (at c (f ∷ fs)) s.results) s g.tree g.from g.fits g.typed, t, around.typed)

goes_else : (c : Context) (f : Frame) (fs : Frames) (P : List Token → Type 0) (tokens : List Token)
    → takes_else f.opening && closes f ≡ true → Goes c (opened Elses f.type (starts_live fs)) fs P tokens → Goes c f fs P (token.Else ∷ tokens)
goes_else c f fs P tokens e g = by_ending g.ending
  where
    by_ending : Ending (at c fs) Elses f.type g.tree g.rest tokens → Goes c f fs P (token.Else ∷ tokens)
    by_ending (turns_over other o is t) = absurd (cc)
    by_ending (ends is m) =
        let both = true_parts (takes_else f.opening) (closes f) e in
        record {
          tree = Nothing;
          from = f.type.results;
          rest = g.rest;
          fits = closes-true f both.1;
          typed = refl;
          ending = turns_over g.tree (takes_else-true f.opening both.0) (ap (λ (x : List Token). token.Else ∷ x) is)
              (inside_typed (inside (at c fs) f.type.results) f.type g.tree g.from g.fits g.typed);
          then = g.then;
        }

goes_end : (c : Context) (f : Frame) (fs : Frames) (P : List Token → Type 0) (tokens : List Token)
    → closes f && may_end f.opening f.type ≡ true → P tokens → Goes c f fs P (token.End ∷ tokens)
goes_end c f fs P tokens e p =
    let both = true_parts (closes f) (may_end f.opening f.type) e in
    record { tree = Nothing; from = f.type.results; rest = tokens; fits = closes-true f both.0; typed = refl; ending = ends refl both.1; then = p }

over : (c : Context) (tokens : List Token) → run c tokens [] ≡ Some [] → tokens ≡ []
over c [] e = refl
over c (t ∷ tokens) e = absurd (cc)

opens_by : (c : Context) (g : Signature → Option Frames) (o : Option Signature) (tokens : List Token) → (o >>= g) >>= run c tokens ≡ Some []
    → (s : Signature) × (o ≡ Some s) × (g s >>= run c tokens ≡ Some [])
opens_by c g None tokens e = absurd (cc)
opens_by c g (Some s) tokens e = (s, refl, e)

-- tokens that close all frames are those of sequences that are typed
pub goes : (c : Context) (tokens : List Token) (f : Frame) (fs : Frames) → run c tokens (f ∷ fs) ≡ Some [] → Goes c f fs (Closes c f.type.results fs) tokens
goes c [] f fs e = absurd (cc)
goes c (token.Plain p ∷ tokens) f fs e =
    let inner : Operands → Option Frames = λ o. Some (with_operands f o ∷ fs) in
    let s = through (apply (rule_of (at c (f ∷ fs)) p) f.operands >>= inner) (run c tokens) [] e in
    let t = through (apply (rule_of (at c (f ∷ fs)) p) f.operands) inner s.value s.is in
    let ran = subst (λ (x : Frames). run c tokens x ≡ Some []) (sym (some_inside (with_operands f t.value ∷ fs) s.value t.then)) s.then in
    goes_simple c p f fs t.value tokens (Closes c f.type.results fs) t.is (goes c tokens (with_operands f t.value) fs ran)
goes c (token.Block type ∷ tokens) f fs e =
    let s = opens_by c (λ s. enter Blocks s s.params (f ∷ fs)) (block_type (at c (f ∷ fs)) type) tokens e in
    let x = entered c Blocks s.0 s.0.params f fs tokens s.2 in
    goes_block c Blocks (token.Block type) (Block type) s.0 f fs (Closes c f.type.results fs) x.own tokens (λ o. absurd (cc)) (λ body rest k. refl)
    (λ body rest below within after. (s.0, below, s.1, refl, within, after)) x.took (goes c tokens (opened Blocks s.0 f.operands.live) (with_own f x.own ∷ fs) x.ran)
goes c (token.Loop type ∷ tokens) f fs e =
    let s = opens_by c (λ s. enter Loops s s.params (f ∷ fs)) (block_type (at c (f ∷ fs)) type) tokens e in
    let x = entered c Loops s.0 s.0.params f fs tokens s.2 in
    goes_block c Loops (token.Loop type) (Loop type) s.0 f fs (Closes c f.type.results fs) x.own tokens (λ o. absurd (cc)) (λ body rest k. refl)
    (λ body rest below within after. (s.0, below, s.1, refl, within, after)) x.took (goes c tokens (opened Loops s.0 f.operands.live) (with_own f x.own ∷ fs) x.ran)
goes c (token.If type ∷ tokens) f fs e =
    let s = opens_by c (λ s. enter Ifs s (I32 ∷ s.params) (f ∷ fs)) (block_type (at c (f ∷ fs)) type) tokens e in
    let x = entered c Ifs s.0 (I32 ∷ s.0.params) f fs tokens s.2 in
    goes_if c type s.0 f fs (Closes c f.type.results fs) x.own tokens s.1 x.took
    (goes c tokens (opened Ifs s.0 f.operands.live) (with_own f x.own ∷ fs) x.ran)
goes c (token.Else ∷ tokens) f fs e =
    let x = passed (takes_else f.opening && closes f) (opened Elses f.type (starts_live fs) ∷ fs) (run c tokens) [] e in
    goes_else c f fs (Closes c f.type.results fs) tokens x.0 (goes c tokens (opened Elses f.type (starts_live fs)) fs x.1)
goes c (token.End ∷ tokens) f [] e =
    let x = passed (closes f && may_end f.opening f.type) (receive f.type.results []) (run c tokens) [] e in
    goes_end c f [] (Closes c f.type.results []) tokens x.0 (over c tokens x.1)
goes c (token.End ∷ tokens) f (g ∷ gs) e =
    let x = passed (closes f && may_end f.opening f.type) (receive f.type.results (g ∷ gs)) (run c tokens) [] e in
    goes_end c f (g ∷ gs) (Closes c f.type.results (g ∷ gs)) tokens x.0 (goes c tokens (received g f.type.results) gs x.1)

-- ---- every state has a completion

abbrev closing : Opening → List Token → List Token
closing Blocks more = token.Plain Unreachable ∷ token.End ∷ more
closing Loops more = token.Plain Unreachable ∷ token.End ∷ more
closing Ifs more = token.Plain Unreachable ∷ token.Else ∷ token.Plain Unreachable ∷ token.End ∷ more
closing Elses more = token.Plain Unreachable ∷ token.End ∷ more

abbrev stopped : Operands
stopped = record { own = []; unknown = true; live = false }

closes_frame : (c : Context) (opening : Opening) (type : Signature) (o : Operands) (fs : Frames) (more : List Token)
    → run c (closing opening more) (record { opening = opening; type = type; operands = o } ∷ fs) ≡ run c more (receive type.results fs)
closes_frame c Blocks type o fs more = end_runs c (record { opening = Blocks; type = type; operands = stopped }) fs more tt refl
closes_frame c Loops type o fs more = end_runs c (record { opening = Loops; type = type; operands = stopped }) fs more tt refl
closes_frame c Ifs type o fs more =
    else_runs c type stopped fs (token.Plain Unreachable ∷ token.End ∷ more) tt
    ∙ end_runs c (record { opening = Elses; type = type; operands = stopped }) fs more tt refl
closes_frame c Elses type o fs more = end_runs c (record { opening = Elses; type = type; operands = stopped }) fs more tt refl

record Completion (c : Context) (fs : Frames) : Type 0 where
  more : List Token
  ran : run c more fs ≡ Some []

completion_of : (c : Context) (f : Frame) (fs : Frames) → Completion c (f ∷ fs)
completion_of c f [] = record { more = closing f.opening []; ran = closes_frame c f.opening f.type f.operands [] [] }
completion_of c f (g ∷ gs) =
    let next = completion_of c (received g f.type.results) gs in
    record { more = closing f.opening next.more; ran = closes_frame c f.opening f.type f.operands (g ∷ gs) next.more ∙ next.ran }

completion : (c : Context) (fs : Frames) → Completion c fs
completion c [] = record { more = []; ran = refl }
completion c (f ∷ fs) = completion_of c f fs

-- ---- accepted tokens are the viable ones

followed : (c : Context) (xs ys : List Token) (o : Option Frames) → ((gs : Frames) → run c (xs ++ ys) gs ≡ (run c xs gs >>= run c ys))
    → (o >>= run c (xs ++ ys)) ≡ ((o >>= run c xs) >>= run c ys)
followed c xs ys None h = refl
followed c xs ys (Some gs) h = h gs

pub run-append : (c : Context) (xs ys : List Token) (fs : Frames) → run c (xs ++ ys) fs ≡ (run c xs fs >>= run c ys)
run-append c [] ys fs = refl
run-append c (x ∷ xs) ys fs = followed c xs ys (step c x fs) (run-append c xs ys)

-- tokens that are accepted to the end are those of a valid body
pub finished-body : (c : Context) (tokens : List Token) → run c tokens (start c) ≡ Some [] → (tree : Seq) × Tree tokens tree × IsBody c tree
finished-body c tokens e = by_ending (goes c tokens (opened Blocks (record { params = []; results = c.results }) true) [] e)
  where
    by_ending : Goes c (opened Blocks (record { params = []; results = c.results }) true) [] (λ rest. rest ≡ []) tokens → (tree : Seq) × Tree tokens tree × IsBody c tree
    by_ending g = elim g.ending [
      | ends is m ↦ (
        g.tree,
        is ∙ ap (λ (x : List Token). spelled g.tree (token.End ∷ x)) g.then,
        inside_typed (inside c c.results) (record { params = []; results = c.results }) g.tree g.from g.fits g.typed,
      )
      | turns_over other o is t ↦ absurd (cc)
    ]

pub accepted-viable : (c : Context) (tokens : List Token) (fs : Frames) → run c tokens (start c) ≡ Some fs → IsViable c tokens
accepted-viable c tokens fs e =
    let rest = completion c fs in
    let ran = run-append c tokens rest.more (start c) ∙ ap (λ (o : Option Frames). o >>= run c rest.more) e ∙ rest.ran in
    let body = finished-body c (tokens ++ rest.more) ran in
    (rest.more, body.0, body.1, body.2)

pub viable-accepted : (c : Context) (tokens : List Token) → IsViable c tokens → (fs : Frames) × (run c tokens (start c) ≡ Some fs)
viable-accepted c tokens v =
    let ran = sym (run-append c tokens v.0 (start c)) ∙ ap (λ (x : List Token). run c x (start c)) v.2 ∙ body_runs c v.1 v.3 in
    let s = through (run c tokens (start c)) (run c v.0) [] ran in
    (s.value, s.is)
