-- Each frame that is open has its label, and what is taken names some of these.
use Rattle.std.proofs.Common.{◌≡◌, ◌<◌, ◌≤◌, ℕ, zero, suc, ◌+◌, ◌*◌, Bool, true, false, List, [], ◌∷◌, length, Option, None, Some, refl, sym, ap, ◌∙◌, subst, arith}
use Rattle.std.specs.Prelude.{slice_get}
use Rattle.wasm_defs.specs.declared.token.Plain.{Plain}
use Rattle.wasm_defs.specs.declared.token.Plain.TheVariants.{Unreachable, Br, BrIf, BrTable}
use Rattle.wasm_defs.specs.declared.token.Token.{Token}
use Rattle.wasm_defs.specs.declared.token.Token.TheVariants as token
use Rattle.wasm_defs.specs.declared.types.ValType.TheVariants.{I32}
use Rattle.wasm_defs.specs.Bodies.{depth_after}
use Rattle.wasm_defs.specs.Places.{Place}
use Rattle.wasm_defs.specs.Typing.{Types, Context, Rule, Fixed, Stops, with_type, are_these, are_labels, only_if, rule_of}
use Rattle.body_validator.specs.Checking.{Frame, Frames, applied, at, step, step_checker, measured}
use Rattle.body_validator.specs.Checks.{Checked}
use Rattle.body_validator.proofs.Options.{through, true_parts}
use Rattle.frame_layout.specs.Templates.{EmitContext}
use Rattle.control_emit.specs.Pending.{Pending, AreBelow}
use Rattle.control_emit.specs.Emits.{FunctionBuilder}
use Rattle.control_emit.specs.Walks.{Step}
use Rattle.control_emit.proofs.Composing.{count-shapes, count-more}
use Rattle.wasm_defs.specs.Limits.{max_body}
use Rattle.body_compiler.specs.Steps.{max_lift, FunctionsAreSmall, NamesPlain, NamesOpen, AreTied}
use Rattle.body_compiler.proofs.Depths.{checker_depth}
use Rattle.body_compiler.proofs.Known.{known_after}
use Rattle.body_compiler.proofs.Lows.{low-after}

-- ---- labels that are named are open

there_below : {A : Type 0} (l : ℕ) (xs : List A) (x : A) → slice_get xs l ≡ Some x → l < length xs
there_below l [] x e = absurd cc
there_below zero (y ∷ xs) x e = omega arith
there_below (suc l) (y ∷ xs) x e = let k = there_below l xs x e in omega arith

-- a label that is there
rule_there : (t : Option Types) (rule : Types → Rule) (f : Frame) (fs gs : Frames) → applied (with_type t rule) (f ∷ fs) ≡ Some gs → (ts : Types) × (t ≡ Some ts)
rule_there None rule f fs gs e = absurd cc
rule_there (Some t) rule f fs gs e = (t, refl)

these_there : (types : Types) (t : Option Types) → are_these types t ≡ true → (ts : Types) × (t ≡ Some ts)
these_there types None e = absurd cc
these_there types (Some t) e = (t, refl)

all_below : (labels : List Types) (types : Types) (ls : List ℕ) → are_labels labels types ls ≡ true → AreBelow (length labels) ls
all_below labels types [] e = tt
all_below labels types (l ∷ ls) e =
    let k = true_parts (are_these types (slice_get labels l)) (are_labels labels types ls) e in
    let x = these_there types (slice_get labels l) k.0 in
    (there_below l labels x.0 x.1, all_below labels types ls k.1)

table_there : (t : Option Types) (test : Types → Bool) (f : Frame) (fs gs : Frames) → applied (with_type t (λ ts. only_if (test ts) (Stops (I32 ∷ ts)))) (f ∷ fs) ≡ Some gs → (ts : Types) × (t ≡ Some ts) × (test ts ≡ true)
table_there None test f fs gs e = absurd cc
table_there (Some t) test f fs gs e = (t, refl, holds (test t) e)
  where
    holds : (b : Bool) → applied (only_if b (Stops (I32 ∷ t))) (f ∷ fs) ≡ Some gs → b ≡ true
    holds true e = refl
    holds false e = absurd cc

plain_names : (c : Context) (p : Plain) (gs : Frames) (f : Frame) (fs : Frames) → applied (rule_of c p) (f ∷ fs) ≡ Some gs → NamesPlain (length c.labels) p
plain_names c (Br l) gs f fs e = let x = rule_there (slice_get c.labels l) Stops f fs gs e in there_below l c.labels x.0 x.1
plain_names c (BrIf l) gs f fs e = let x = rule_there (slice_get c.labels l) (λ ts. Fixed (I32 ∷ ts) ts) f fs gs e in there_below l c.labels x.0 x.1
plain_names c (BrTable ls l) gs f fs e =
    let x = table_there (slice_get c.labels l) (λ ts. are_labels c.labels ts ls) f fs gs e in
    (all_below c.labels x.0 ls x.2, there_below l c.labels x.0 x.1)
plain_names c Unreachable gs f fs e = tt
plain_names c p gs f fs e = tt

-- in the frames the labels are theirs and those of the context
labels_at : (c : Context) (fs : Frames) → c.labels ≡ [] → length (at c fs).labels ≡ length fs
labels_at c [] e = ap length e
labels_at c (f ∷ fs) e = ap suc (labels_at c fs e)

step_names : (c : Context) (t : Token) (fs gs : Frames) → c.labels ≡ [] → step c t fs ≡ Some gs → NamesOpen (length fs) t
step_names c t [] gs none e = absurd cc
step_names c (token.Plain p) (f ∷ fs) gs none e = subst (λ (n : ℕ). NamesPlain n p) (labels_at c (f ∷ fs) none) (plain_names (at c (f ∷ fs)) p gs f fs e)
step_names c (token.Block t) (f ∷ fs) gs none e = tt
step_names c p (f ∷ fs) gs none e = tt

pub names_open : (n : ℕ) (check later : Checked) (t : Token) → n ≡ length check.checker.frames → check.context.labels ≡ [] → step_checker check.context t check.checker ≡ Some later.checker → NamesOpen n t
names_open n check later t count unlabelled e =
    let x = through (step check.context t check.checker.frames) (λ fs. Some (measured check.checker.greatest fs)) later.checker e in
    subst (λ (n : ℕ). NamesOpen n t) (sym count) (step_names check.context t check.checker.frames x.value unlabelled x.is)

pub names : (labels : List Pending) (check later : Checked) (t : Token) (left : ℕ) → AreTied labels check left → step_checker check.context t check.checker ≡ Some later.checker → NamesOpen (length labels) t
names labels check later t left tied e = names_open (length labels) check later t tied.count tied.unlabelled e

-- ---- the labels go as the frames do

step_count : (w : EmitContext) (c : Context) (t : Token) (q : Place) (a b : FunctionBuilder) → Step w c t q a b → length b.labels ≡ depth_after t (length a.labels)
step_count w c (token.Plain p) None a b s = ap (λ (d : FunctionBuilder). length d.labels) s
step_count w c (token.Plain p) (Some h) a b s = count-shapes b.labels a.labels s.shapes_are
step_count w c (token.Block t) None a b s = let n = count-more b.labels a.labels s.shape s.opens.shapes_are in omega arith
step_count w c (token.Block t) (Some h) a b s = let n = count-more b.labels a.labels _ s.shapes_are in omega arith
step_count w c (token.Loop t) None a b s = let n = count-more b.labels a.labels s.shape s.opens.shapes_are in omega arith
step_count w c (token.Loop t) (Some h) a b s = let n = count-more b.labels a.labels _ s.shapes_are in omega arith
step_count w c (token.If t) None a b s = let n = count-more b.labels a.labels s.shape s.opens.shapes_are in omega arith
step_count w c (token.If t) (Some h) a b s = let n = count-more b.labels a.labels _ s.shapes_are in omega arith
step_count w c token.Else q a b s = count-shapes b.labels a.labels s.shapes_are
step_count w c token.End q a b s = let n = count-more a.labels b.labels s.shape s.shapes_are in omega arith

depth_rises : (t : Token) (n : ℕ) → depth_after t n ≤ n + 1
depth_rises (token.Plain p) n = omega arith
depth_rises p n = omega arith

pub tied-after : (w : EmitContext) (c : Context) (t : Token) (q : Place) (a b : FunctionBuilder) (check later : Checked) (left fewer : ℕ) → fewer + 1 ≤ left → AreTied a.labels check left → Step w c t q a b
    → step_checker check.context t check.checker ≡ Some later.checker → later.context ≡ check.context → AreTied b.labels later fewer
tied-after w c t q a b check later left fewer less tied s e same =
    let low = low-after check later t left fewer (max_lift * max_body) tied.unlabelled tied.functions less (record { small = tied.small; low = tied.low; most = tied.most }) e in
    let depth = checker_depth check.context t check.checker later.checker e in
    let rise = depth_rises t (length check.checker.frames) in
    let few = tied.few in
    record {
      count = step_count w c t q a b s ∙ ap (depth_after t) tied.count ∙ sym depth;
      unlabelled = ap (λ (x : Context). x.labels) same ∙ tied.unlabelled;
      functions = subst FunctionsAreSmall (sym same) tied.functions;
      known = known_after check.context t check.checker later.checker tied.known e;
      small = low.small;
      few = omega arith;
      low = low.low;
      most = low.most;
    }

pub some-labels : (labels : List Pending) (check : Checked) (left : ℕ) → AreTied labels check left → (check.checker.frames ≡ [] → ⊥) → 0 < length labels
some-labels labels check left tied more = let e = tied.count in let p = some check.checker.frames more in omega arith
  where
    some : (fs : Frames) → (fs ≡ [] → ⊥) → 0 < length fs
    some [] h = absurd (h refl)
    some (f ∷ fs) h = omega arith
