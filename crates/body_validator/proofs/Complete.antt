-- The checker accepts what is typed, and keeps its heights.
use Rattle.std.proofs.Common.{◌≡◌, ◌+◌, Bool, true, false, List, [], ◌∷◌, ◌++◌, length, Option, None, Some, refl, sym, ap, ◌∙◌, subst}
use Rattle.wasm_defs.specs.declared.types.ValType.TheVariants.{I32}
use Rattle.wasm_defs.specs.declared.token.BlockType.{BlockType}
use Rattle.wasm_defs.specs.declared.token.Token.{Token}
use Rattle.wasm_defs.specs.declared.token.Token.TheVariants as token
use Rattle.wasm_defs.specs.Trees.{Seq, Nothing, Simple, Block, Loop, If, Else, spelled}
use Rattle.wasm_defs.specs.Typing.{Types, Signature, Context, inside, Typed, IsBody, rule_of, block_type}
use Rattle.wasm_defs.specs.Places.{Place, moved, or_empty, shape, end_of, places, places_of}
use Rattle.body_validator.specs.declared.stack.Opening.{Opening}
use Rattle.body_validator.specs.declared.stack.Opening.TheVariants.{Block as Blocks, Loop as Loops, If as Ifs, Else as Elses}
use Rattle.body_validator.specs.Checking.{Operand, Operands, Frame, Frames, ◌>>=◌, guarded, known, take_all, put, fresh, label_of, at, enter, closes, may_end, receive, starts_live, step, run, start, height, place_of}
use Rattle.body_validator.proofs.OperandLaws.{Fits, known-fits, take_all-takes, apply-applies, closes-of, same_types-of}
use Rattle.body_validator.proofs.Options.{and_true}
use Rattle.body_validator.specs.Stacks.{IsKnown}
use Rattle.body_validator.proofs.PlaceLaws.{fresh_known, types_move, params_stay, condition_goes, rule_places}

abbrev pub with_operands : Frame → Operands → Frame
with_operands f o = record f { operands = o }

abbrev pub with_own : Frame → List Operand → Frame
with_own f own = with_operands f (put f.operands own)

abbrev pub opened : Opening → Signature → Bool → Frame
opened opening type live = record { opening = opening; type = type; operands = fresh type live }

abbrev pub FrameFits : Frame → Types → Type 0
FrameFits f ts = Fits f.operands.unknown f.operands.own ts

abbrev FrameIsKnown : Frame → Type 0
FrameIsKnown f = IsKnown f.operands.live f.operands.unknown

-- ---- a run, with the points that it passes

pub record Observed : Type 0 where
  pub after : Option Frames
  pub passed : List Place

-- points passed before others
abbrev pub passing : (List Place → List Place) → Observed → Observed
passing first o = record { after = o.after; passed = first o.passed }

abbrev pub see : Place → Observed → Observed
see place o = passing (λ ps. place ∷ ps) o

abbrev pub on : Option Frames → (Frames → Observed) → Observed
on None next = record { after = None; passed = [] }
on (Some fs) next = next fs

abbrev pub observe : Context → List Token → Frames → Observed
observe c [] fs = record { after = Some fs; passed = [] }
observe c (t ∷ ts) fs = see (place_of fs) (on (step c t fs) (observe c ts))

pub observe-after : (c : Context) (tokens : List Token) (fs : Frames) → (observe c tokens fs).after ≡ run c tokens fs
observe-after c [] fs = refl
observe-after c (t ∷ ts) fs = by_step (step c t fs) (observe-after c ts)
  where
    by_step : (o : Option Frames) → ((gs : Frames) → (observe c ts gs).after ≡ run c ts gs) → (on o (observe c ts)).after ≡ (o >>= run c ts)
    by_step None h = refl
    by_step (Some gs) h = h gs

-- ---- sequences

-- the tokens of a sequence lead from the frame to one in which these operands may be, through the sequence's points
pub record Passes (c : Context) (tree : Seq) (f : Frame) (fs : Frames) (to : Types) : Type 0 where
  pub after : Operands
  pub fits : Fits after.unknown after.own to
  pub known : IsKnown after.live after.unknown
  pub place : place_of (with_operands f after ∷ fs) ≡ end_of (at c (f ∷ fs)) tree (place_of (f ∷ fs))
  pub by : (more : List Token) → observe c (spelled tree more) (f ∷ fs) ≡ passing (places (at c (f ∷ fs)) tree (place_of (f ∷ fs))) (observe c more (with_operands f after ∷ fs))

pub known-fit : (p : Types) → Fits false (known p) p
known-fit [] = refl
known-fit (t ∷ p) = (refl, known-fit p)

leaves : (c : Context) (f : Frame) (fs : Frames) (more : List Token) → FrameFits f f.type.results → may_end f.opening f.type ≡ true
    → observe c (token.End ∷ more) (f ∷ fs) ≡ see (place_of (f ∷ fs)) (observe c more (receive f.type.results fs))
leaves c f fs more h e =
    ap (λ (b : Bool). see (place_of (f ∷ fs)) (on (guarded b (receive f.type.results fs)) (observe c more))) (and_true (closes f) (may_end f.opening f.type) (closes-of f h) e)

turns : (c : Context) (type : Signature) (o : Operands) (fs : Frames) (more : List Token) → Fits o.unknown o.own type.results
    → observe c (token.Else ∷ more) (record { opening = Ifs; type = type; operands = o } ∷ fs)
    ≡ see (place_of (record { opening = Ifs; type = type; operands = o } ∷ fs)) (observe c more (opened Elses type (starts_live fs) ∷ fs))
turns c type o fs more h =
    ap (λ (b : Bool). see (guarded o.live (length o.own + height fs)) (on (guarded b (opened Elses type (starts_live fs) ∷ fs)) (observe c more))) (closes-of (record { opening = Ifs; type = type; operands = o }) h)

-- what is inside a block, up to its `end`
record Inner (c : Context) (opening : Opening) (type : Signature) (tokens : List Token → List Token) (passed : List Place → List Place) (f : Frame) (fs : Frames) : Type 0 where
  by : (more : List Token) → observe c (tokens more) (opened opening type f.operands.live ∷ f ∷ fs) ≡ passing passed (observe c more (receive type.results (f ∷ fs)))

-- a body and its `end`
inner_of : (c : Context) (opening : Opening) (type : Signature) (body : Seq) (first : Place) (f : Frame) (fs : Frames) → may_end opening type ≡ true
    → place_of (opened opening type f.operands.live ∷ f ∷ fs) ≡ first
    → Passes c body (opened opening type f.operands.live) (f ∷ fs) type.results
    → let within = inside (at c (f ∷ fs)) (label_of opening type) in
    Inner c opening type (λ more. spelled body (token.End ∷ more)) (λ ps. places within body first (end_of within body first ∷ ps)) f fs
inner_of c opening type body first f fs e is p =
    let within = inside (at c (f ∷ fs)) (label_of opening type) in
    record {
      by = λ more. p.by (token.End ∷ more)
          ∙ ap (passing (places within body (place_of (opened opening type f.operands.live ∷ f ∷ fs)))) (leaves c (with_operands (opened opening type f.operands.live) p.after) (f ∷ fs) more p.fits e)
          ∙ ap (λ (x : Place). passing (λ ps. places within body (place_of (opened opening type f.operands.live ∷ f ∷ fs)) (x ∷ ps)) (observe c more (receive type.results (f ∷ fs)))) p.place
          ∙ ap (λ (x : Place). passing (λ ps. places within body x (end_of within body x ∷ ps)) (observe c more (receive type.results (f ∷ fs)))) is;
    }

-- two bodies, an `else` between them
inner_of_two : (c : Context) (type : Signature) (body other : Seq) (first : Place) (f : Frame) (fs : Frames)
    → place_of (opened Ifs type f.operands.live ∷ f ∷ fs) ≡ first
    → Passes c body (opened Ifs type f.operands.live) (f ∷ fs) type.results
    → Passes c other (opened Elses type f.operands.live) (f ∷ fs) type.results
    → let within = inside (at c (f ∷ fs)) type.results in
    Inner c Ifs type (λ more. spelled body (token.Else ∷ spelled other (token.End ∷ more)))
    (λ ps. places within body first (end_of within body first ∷ places within other first (end_of within other first ∷ ps))) f fs
inner_of_two c type body other first f fs is p q =
    let within = inside (at c (f ∷ fs)) type.results in
    let second = inner_of c Elses type other first f fs refl is q in
    let begin = place_of (opened Ifs type f.operands.live ∷ f ∷ fs) in
    let seen : List Place → List Place = λ ps. places within other first (end_of within other first ∷ ps) in
    record {
      by = λ more. p.by (token.Else ∷ spelled other (token.End ∷ more))
          ∙ ap (passing (places within body begin)) (turns c type p.after (f ∷ fs) (spelled other (token.End ∷ more)) p.fits)
          ∙ ap (λ (o : Observed). passing (λ ps. places within body begin (place_of (with_operands (opened Ifs type f.operands.live) p.after ∷ f ∷ fs) ∷ ps)) o) (second.by more)
          ∙ ap (λ (x : Place). passing (λ ps. places within body begin (x ∷ seen ps)) (observe c more (receive type.results (f ∷ fs)))) p.place
          ∙ ap (λ (x : Place). passing (λ ps. places within body x (end_of within body x ∷ seen ps)) (observe c more (receive type.results (f ∷ fs)))) is;
    }

-- the points of a body, with its end
abbrev body_places : Context → Types → Seq → Place → List Place → List Place
body_places c label body first ps =
    let within = inside c label in
    places within body first (end_of within body first ∷ ps)

-- the point after a block that takes these
abbrev behind : (Signature → Types) → Frame → Frames → Signature → Place
behind params f fs s = moved (length (params s)) (length s.results) (place_of (f ∷ fs))

-- a sequence is a block's first token, `tokens` up to the block's end, which lead through the points `passed`, and the rest
record IsAround (c : Context) (opening : Opening) (type : BlockType) (params : Signature → Types) (tokens : List Token → List Token) (passed : Signature → List Place → List Place)
    (rest whole : Seq) (f : Frame) (fs : Frames) : Type 0 where
  read : (more : List Token) → observe c (spelled whole more) (f ∷ fs)
      ≡ see (place_of (f ∷ fs)) (on (block_type (at c (f ∷ fs)) type >>= λ s. enter opening s (params s) (f ∷ fs)) (observe c (tokens (spelled rest more))))
  placed : (ps : List Place) → place_of (f ∷ fs) ∷ passed (shape (at c (f ∷ fs)) type) (places (at c (f ∷ fs)) rest (behind params f fs (shape (at c (f ∷ fs)) type)) ps)
      ≡ places (at c (f ∷ fs)) whole (place_of (f ∷ fs)) ps
  ended : end_of (at c (f ∷ fs)) rest (behind params f fs (shape (at c (f ∷ fs)) type)) ≡ end_of (at c (f ∷ fs)) whole (place_of (f ∷ fs))

passes_around : (c : Context) (opening : Opening) (type : BlockType) (params : Signature → Types) (tokens : List Token → List Token) (passed : Signature → List Place → List Place)
    (rest whole : Seq) (f : Frame) (fs : Frames) (s : Signature) (below from to : Types) → IsAround c opening type params tokens passed rest whole f fs
    → block_type (at c (f ∷ fs)) type ≡ Some s → from ≡ params s ++ below → FrameFits f from → FrameIsKnown f
    → ((own : List Operand) → take_all f.operands.unknown (params s) f.operands.own ≡ Some own → Inner c opening s tokens (passed s) (with_own f own) fs)
    → ((own : List Operand) → Fits f.operands.unknown own (s.results ++ below) → Passes c rest (with_own f own) fs to)
    → Passes c whole f fs to
passes_around c opening type params tokens passed rest whole f fs s below from to around is splits fit k inner after =
    let place = place_of (f ∷ fs) in
    let outside = at c (f ∷ fs) in
    let left = take_all-takes f.operands.unknown (params s) f.operands.own below (subst (λ (x : Types). FrameFits f x) splits fit) in
    let next = after (known s.results ++ left.own) (known-fits f.operands.unknown s.results left.own below left.fits) in
    let entered : Option (List Operand) → Option Frames = λ o. o >>= λ own. Some (opened opening s f.operands.live ∷ with_own f own ∷ fs) in
    let moves = types_move f.operands.live f.operands.unknown (params s) s.results f.operands.own left.own (height fs) k left.is in
    let same : s ≡ shape outside type = ap or_empty (sym is) in
    let last : List Token → Observed = λ more. observe c more (with_operands f next.after ∷ fs) in
    record {
      after = next.after;
      fits = next.fits;
      known = next.known;
      place = next.place ∙ ap (end_of outside rest) moves ∙ ap (λ (x : Signature). end_of outside rest (behind params f fs x)) same ∙ around.ended;
      by = λ more. around.read more
          ∙ ap (λ (o : Option Signature). see place (on (o >>= λ x. enter opening x (params x) (f ∷ fs)) (observe c (tokens (spelled rest more))))) is
          ∙ ap (λ (o : Option (List Operand)). see place (on (entered o) (observe c (tokens (spelled rest more))))) left.is
          ∙ ap (see place) ((inner left.own left.is).by (spelled rest more))
          ∙ ap (passing (λ ps. place ∷ passed s ps)) (next.by more)
          ∙ ap (λ (x : Place). passing (λ ps. place ∷ passed s (places outside rest x ps)) (last more)) moves
          ∙ ap (λ (x : Signature). passing (λ ps. place ∷ passed x (places outside rest (behind params f fs x) ps)) (last more)) same
          ∙ ap (λ (ps : List Place). passing (λ qs. ps) (last more)) (around.placed (last more).passed);
    }

pub passes : (c : Context) (tree : Seq) (f : Frame) (fs : Frames) (from to : Types) → Typed (at c (f ∷ fs)) tree from to → FrameFits f from → FrameIsKnown f → Passes c tree f fs to
passes c Nothing f fs from to h fit k =
    record { after = f.operands; fits = subst (λ (x : Types). FrameFits f x) h fit; known = k; place = refl; by = λ more. refl }
passes c (Simple p rest) f fs from to h fit k =
    let rule = rule_of (at c (f ∷ fs)) p in
    let one = apply-applies rule f.operands from h.0 fit h.1 in
    let laid = rule_places rule f.operands one.after k one.is in
    let next = passes c rest (with_operands f one.after) fs h.0 to h.2 one.fits laid.known in
    let place = laid.place (height fs) in
    record {
      after = next.after;
      fits = next.fits;
      known = next.known;
      place = next.place ∙ ap (end_of (at c (f ∷ fs)) rest) place;
      by = λ more. ap (λ (o : Option Operands). see (place_of (f ∷ fs)) (on (o >>= λ x. Some (with_operands f x ∷ fs)) (observe c (spelled rest more)))) one.is
          ∙ ap (see (place_of (f ∷ fs))) (next.by more)
          ∙ ap (λ (x : Place). see (place_of (f ∷ fs)) (passing (places (at c (f ∷ fs)) rest x) (observe c more (with_operands f next.after ∷ fs)))) place;
    }
passes c (Block type body rest) f fs from to h fit k =
    let s = h.0 in
    let place = place_of (f ∷ fs) in
    passes_around c Blocks type (λ x. x.params) (λ more. spelled body (token.End ∷ more)) (λ x. body_places (at c (f ∷ fs)) x.results body place)
    rest (Block type body rest) f fs s h.1 from to (record { read = λ more. refl; placed = λ ps. refl; ended = refl }) h.2 h.3 fit k
    (λ own took. inner_of c Blocks s body place (with_own f own) fs refl (params_stay f.operands.live f.operands.unknown s.params f.operands.own own (height fs) k took)
    (passes c body (opened Blocks s f.operands.live) (with_own f own ∷ fs) s.params s.results h.4 (known-fit s.params) (fresh_known f.operands.live)))
    (λ own g. passes c rest (with_own f own) fs (s.results ++ h.1) to h.5 g k)
passes c (Loop type body rest) f fs from to h fit k =
    let s = h.0 in
    let place = place_of (f ∷ fs) in
    passes_around c Loops type (λ x. x.params) (λ more. spelled body (token.End ∷ more)) (λ x. body_places (at c (f ∷ fs)) x.params body place)
    rest (Loop type body rest) f fs s h.1 from to (record { read = λ more. refl; placed = λ ps. refl; ended = refl }) h.2 h.3 fit k
    (λ own took. inner_of c Loops s body place (with_own f own) fs refl (params_stay f.operands.live f.operands.unknown s.params f.operands.own own (height fs) k took)
    (passes c body (opened Loops s f.operands.live) (with_own f own ∷ fs) s.params s.results h.4 (known-fit s.params) (fresh_known f.operands.live)))
    (λ own g. passes c rest (with_own f own) fs (s.results ++ h.1) to h.5 g k)
passes c (If type body Nothing rest) f fs from to h fit k =
    let s = h.0 in
    let place = moved 1 0 (place_of (f ∷ fs)) in
    passes_around c Ifs type (λ x. I32 ∷ x.params) (λ more. spelled body (token.End ∷ more)) (λ x. body_places (at c (f ∷ fs)) x.results body place)
    rest (If type body Nothing rest) f fs s h.1 from to (record { read = λ more. refl; placed = λ ps. refl; ended = refl }) h.2 h.3 fit k
    (λ own took. inner_of c Ifs s body place (with_own f own) fs (same_types-of s.params s.results h.5) (condition_goes f.operands.live f.operands.unknown s.params f.operands.own own (height fs) k took)
    (passes c body (opened Ifs s f.operands.live) (with_own f own ∷ fs) s.params s.results h.4 (known-fit s.params) (fresh_known f.operands.live)))
    (λ own g. passes c rest (with_own f own) fs (s.results ++ h.1) to h.6 g k)
passes c (If type body (Else other) rest) f fs from to h fit k =
    let s = h.0 in
    let place = moved 1 0 (place_of (f ∷ fs)) in
    passes_around c Ifs type (λ x. I32 ∷ x.params) (λ more. spelled body (token.Else ∷ spelled other (token.End ∷ more)))
    (λ x ps. body_places (at c (f ∷ fs)) x.results body place (body_places (at c (f ∷ fs)) x.results other place ps))
    rest (If type body (Else other) rest) f fs s h.1 from to (record { read = λ more. refl; placed = λ ps. refl; ended = refl }) h.2 h.3 fit k
    (λ own took. inner_of_two c s body other place (with_own f own) fs (condition_goes f.operands.live f.operands.unknown s.params f.operands.own own (height fs) k took)
    (passes c body (opened Ifs s f.operands.live) (with_own f own ∷ fs) s.params s.results h.4 (known-fit s.params) (fresh_known f.operands.live))
    (passes c other (opened Elses s f.operands.live) (with_own f own ∷ fs) s.params s.results h.5 (known-fit s.params) (fresh_known f.operands.live)))
    (λ own g. passes c rest (with_own f own) fs (s.results ++ h.1) to h.6 g k)

-- ---- whole bodies

-- a valid body passes its points to its end
pub body_observed : (c : Context) (tree : Seq) → IsBody c tree → observe c (spelled tree (token.End ∷ [])) (start c) ≡ record { after = Some []; passed = places_of c tree }
body_observed c tree h =
    let type : Signature = record { params = []; results = c.results } in
    let f : Frame = opened Blocks type true in
    let within = inside c c.results in
    let p = passes c tree f [] [] c.results h refl refl in
    let g = with_operands f p.after in
    p.by (token.End ∷ []) ∙ ap (passing (places within tree (Some 0))) (leaves c g [] [] p.fits refl)
    ∙ ap (λ (x : Place). record { after = Some []; passed = places within tree (Some 0) (x ∷ []) }) p.place

pub body_runs : (c : Context) (tree : Seq) → IsBody c tree → run c (spelled tree (token.End ∷ [])) (start c) ≡ Some []
body_runs c tree h = sym (observe-after c (spelled tree (token.End ∷ [])) (start c)) ∙ ap (λ (o : Observed). o.after) (body_observed c tree h)

-- ---- steps that the completions take

pub end_runs : (c : Context) (f : Frame) (fs : Frames) (more : List Token) → FrameFits f f.type.results → may_end f.opening f.type ≡ true → run c (token.End ∷ more) (f ∷ fs) ≡ run c more (receive f.type.results fs)
end_runs c f fs more h e =
    sym (observe-after c (token.End ∷ more) (f ∷ fs)) ∙ ap (λ (o : Observed). o.after) (leaves c f fs more h e) ∙ observe-after c more (receive f.type.results fs)

pub else_runs : (c : Context) (type : Signature) (o : Operands) (fs : Frames) (more : List Token) → Fits o.unknown o.own type.results
    → run c (token.Else ∷ more) (record { opening = Ifs; type = type; operands = o } ∷ fs) ≡ run c more (opened Elses type (starts_live fs) ∷ fs)
else_runs c type o fs more h =
    sym (observe-after c (token.Else ∷ more) (record { opening = Ifs; type = type; operands = o } ∷ fs))
    ∙ ap (λ (x : Observed). x.after) (turns c type o fs more h) ∙ observe-after c more (opened Elses type (starts_live fs) ∷ fs)
