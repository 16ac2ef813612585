-- Heights rise with each token that is taken, by no more than a type has parameters or results.
use Rattle.std.proofs.Common.{◌≡◌, ◌≤◌, ℕ, zero, suc, ◌+◌, ◌-◌, ◌*◌, Bool, true, false, List, [], ◌∷◌, ◌++◌, length, Option, None, Some, refl, sym, ap, ◌∙◌, subst, arith, length-append}
use Rattle.std.specs.Prelude.{slice_get, nat_lt}
use Rattle.std.proofs.lemmas.List.{length-reverse}
use Rattle.wasm_defs.specs.declared.token.BlockType.{BlockType}
use Rattle.wasm_defs.specs.declared.token.BlockType.TheVariants.{Empty, Value, Index}
use Rattle.wasm_defs.specs.declared.token.Plain.{Plain}
use Rattle.wasm_defs.specs.declared.token.Plain.TheVariants.{Unreachable, Nop, Br, BrIf, BrTable, Return, Call, CallIndirect, Drop, Select, LocalGet, LocalSet, LocalTee, GlobalGet, GlobalSet, Const, Numeric}
use Rattle.wasm_defs.specs.declared.token.Token.{Token}
use Rattle.wasm_defs.specs.declared.token.Token.TheVariants as token
use Rattle.wasm_defs.specs.declared.types.FuncType.{FuncType}
use Rattle.wasm_defs.specs.declared.types.ValType.{ValType}
use Rattle.wasm_defs.specs.declared.types.ValType.TheVariants.{I32}
use Rattle.wasm_defs.specs.Places.{higher}
use Rattle.wasm_defs.proofs.EachOperation.{leaves_one}
use Rattle.wasm_defs.specs.Typing.{Types, Signature, Context, Rule, Untyped, Fixed, Stops, Discards, Selects, with_type, only_if, are_labels, function_type, called, rule_of, option_signature, signature_of, block_type}
use Rattle.body_validator.specs.declared.stack.Opening.{Opening}
use Rattle.body_validator.specs.declared.stack.Opening.TheVariants.{Block as Blocks, Loop as Loops, If as Ifs, Else as Elses}
use Rattle.body_validator.specs.Checking.{Operand, Operands, Frame, Frames, ◌>>=◌, guarded, known, take_one, take_all, Taken, take_any, joined, put, apply, applied, label_of, at, enter, fresh, receive, step, height, starts_live, place_of, measured, Checker, step_checker}
use Rattle.body_validator.specs.Checks.{Checked}
use Rattle.body_validator.proofs.Options.{through, some_inside, guarded-true}
use Rattle.body_compiler.specs.Steps.{max_lift, FunctionsAreSmall, IsSmall, AllSmall}

-- ---- operands

one_less : (unknown : Bool) (t : ValType) (own left : List Operand) → take_one unknown t own ≡ Some left → length left ≤ length own
one_less unknown t [] left e = let k = ap (λ (l : List Operand). length l) (guarded-true unknown [] left e).1 in omega arith
one_less unknown t (o ∷ own) left e = let k = ap (λ (l : List Operand). length l) (guarded-true _ own left e).1 in omega arith

all_less : (unknown : Bool) (ts : Types) (own left : List Operand) → take_all unknown ts own ≡ Some left → length left ≤ length own
all_less unknown [] own left e = let k = ap (λ (l : List Operand). length l) (some_inside own left e) in omega arith
all_less unknown (t ∷ ts) own left e =
    let x = through (take_one unknown t own) (take_all unknown ts) left e in
    let one = one_less unknown t own x.value x.is in
    let more = all_less unknown ts x.value left x.then in
    omega arith

any_less : (unknown : Bool) (own : List Operand) (x : Taken) → take_any unknown own ≡ Some x → length x.left ≤ length own
any_less unknown [] x e = let k = ap (λ (y : Taken). length y.left) (guarded-true unknown (record { operand = None; left = [] }) x e).1 in omega arith
any_less unknown (o ∷ own) x e = let k = ap (λ (y : Taken). length y.left) (some_inside _ x e) in omega arith

length-known : (ts : Types) → length (known ts) ≡ length ts
length-known [] = refl
length-known (t ∷ ts) = ap suc (length-known ts)

-- ---- rules that leave few values

abbrev pub IsLow : Rule → Type 0
IsLow Untyped = Unit {0}
IsLow (Fixed params results) = length results ≤ max_lift
IsLow (Stops params) = Unit {0}
IsLow Discards = Unit {0}
IsLow Selects = Unit {0}

apply_low : (r : Rule) (o p : Operands) → IsLow r → apply r o ≡ Some p → length p.own ≤ length o.own + max_lift
apply_low Untyped o p low e = absurd cc
apply_low (Fixed params results) o p low e =
    let x = through (take_all o.unknown params o.own) (λ own. Some (put o (known results ++ own))) p e in
    let less = all_less o.unknown params o.own x.value x.is in
    let same = ap (λ (q : Operands). length q.own) (some_inside (put o (known results ++ x.value)) p x.then) in
    let both = length-append (known results) x.value in
    let n = length-known results in
    let few : length results ≤ max_lift = low in
    omega arith
apply_low (Stops params) o p low e =
    let x = through (take_all o.unknown params o.own) (λ own. Some (record { own = []; unknown = true; live = false })) p e in
    let same = ap (λ (q : Operands). length q.own) (some_inside _ p x.then) in
    omega arith
apply_low Discards o p low e =
    let x = through (take_any o.unknown o.own) (λ x. Some (put o x.left)) p e in
    let less = any_less o.unknown o.own x.value x.is in
    let same = ap (λ (q : Operands). length q.own) (some_inside (put o x.value.left) p x.then) in
    omega arith
apply_low Selects o p low e =
    let a = through (take_one o.unknown I32 o.own) (λ own. take_any o.unknown own >>= λ x. take_any o.unknown x.left >>= λ y. joined x.operand y.operand >>= λ t. Some (put o (t ∷ y.left))) p e in
    let b = through (take_any o.unknown a.value) (λ x. take_any o.unknown x.left >>= λ y. joined x.operand y.operand >>= λ t. Some (put o (t ∷ y.left))) p a.then in
    let c = through (take_any o.unknown b.value.left) (λ y. joined b.value.operand y.operand >>= λ t. Some (put o (t ∷ y.left))) p b.then in
    let d = through (joined b.value.operand c.value.operand) (λ t. Some (put o (t ∷ c.value.left))) p c.then in
    let first = one_less o.unknown I32 o.own a.value a.is in
    let second = any_less o.unknown a.value b.value b.is in
    let third = any_less o.unknown b.value.left c.value c.is in
    let same = ap (λ (q : Operands). length q.own) (some_inside (put o (d.value ∷ c.value.left)) p d.then) in
    omega arith

-- ---- instructions

abbrev pub LabelsAreSmall : List Types → Type 0
LabelsAreSmall labels = (l : ℕ) (ts : Types) → slice_get labels l ≡ Some ts → length ts ≤ max_lift

type_low : (t : Option Types) (f : Types → Rule) → ((ts : Types) → t ≡ Some ts → IsLow (f ts)) → IsLow (with_type t f)
type_low None f h = tt
type_low (Some ts) f h = h ts refl

local_low : {T : Type 0} (t : Option T) (f : T → Rule) → ((t : T) → IsLow (f t)) → IsLow (with_type t f)
local_low None f h = tt
local_low (Some t) f h = h t

only_low : (b : Bool) (r : Rule) → IsLow r → IsLow (only_if b r)
only_low true r h = h
only_low false r h = tt

called_low : (on_top : Types) (t : Option FuncType) → ((f : FuncType) → t ≡ Some f → length f.results ≤ max_lift) → IsLow (with_type t (called on_top))
called_low on_top None h = tt
called_low on_top (Some f) h = let n = length-reverse f.results in let k = h f refl in omega arith

function_small : (c : Context) → FunctionsAreSmall c → (f : ℕ) (t : FuncType) → function_type c f ≡ Some t → length t.results ≤ max_lift
function_small c small f t e = by (slice_get c.functions f) refl
  where
    by : (o : Option ℕ) → slice_get c.functions f ≡ o → length t.results ≤ max_lift
    by None is = let h : None ≡ Some t = rw is at e in absurd cc
    by (Some i) is = let h : slice_get c.types i ≡ Some t = rw is at e in (small i t h).1

plain_low : (c : Context) (p : Plain) → LabelsAreSmall c.labels → FunctionsAreSmall c → IsLow (rule_of c p)
plain_low c Unreachable small functions = tt
plain_low c Nop small functions = omega arith
plain_low c (Br l) small functions = type_low (slice_get c.labels l) Stops (λ ts e. tt)
plain_low c (BrIf l) small functions = type_low (slice_get c.labels l) (λ ts. Fixed (I32 ∷ ts) ts) (λ ts e. small l ts e)
plain_low c (BrTable ls l) small functions = type_low (slice_get c.labels l) (λ ts. only_if (are_labels c.labels ts ls) (Stops (I32 ∷ ts))) (λ ts e. only_low (are_labels c.labels ts ls) (Stops (I32 ∷ ts)) tt)
plain_low c Return small functions = tt
plain_low c (Call f) small functions = called_low [] (function_type c f) (λ t e. function_small c functions f t e)
plain_low c (CallIndirect i table) small functions = only_low (nat_lt table c.tables) (with_type (slice_get c.types i) (called (I32 ∷ []))) (called_low (I32 ∷ []) (slice_get c.types i) (λ t e. (functions i t e).1))
plain_low c Drop small functions = tt
plain_low c Select small functions = tt
plain_low c (LocalGet x) small functions = local_low (slice_get c.locals x) _ (λ t. omega arith)
plain_low c (LocalSet x) small functions = local_low (slice_get c.locals x) _ (λ t. omega arith)
plain_low c (LocalTee x) small functions = local_low (slice_get c.locals x) _ (λ t. omega arith)
plain_low c (GlobalGet x) small functions = local_low (slice_get c.globals x) _ (λ g. omega arith)
plain_low c (GlobalSet x) small functions = local_low (slice_get c.globals x) _ (λ g. only_low g.mutable (Fixed (g.ty ∷ []) []) (omega arith))
plain_low c (Const t n) small functions = omega arith
plain_low c (Numeric op) small functions = omega (arith, leaves_one op)
plain_low c p small functions = search (only_low, arith)

-- ---- the labels of frames

own_label : (o : Opening) (s : Signature) → IsSmall s → length (label_of o s) ≤ max_lift
own_label Blocks s h = h.1
own_label Loops s h = h.0
own_label Ifs s h = h.1
own_label Elses s h = h.1

labels_small : (c : Context) (fs : Frames) → c.labels ≡ [] → AllSmall fs → LabelsAreSmall (at c fs).labels
labels_small c [] none h l ts e = absurd (nothing c.labels l ts none e)
  where
    nothing : (ls : List Types) (l : ℕ) (ts : Types) → ls ≡ [] → slice_get ls l ≡ Some ts → ⊥
    nothing [] l ts n e = absurd cc
    nothing (x ∷ ls) l ts n e = absurd cc
labels_small c (f ∷ fs) none h zero ts e = subst (λ (x : Types). length x ≤ max_lift) (some_inside (label_of f.opening f.type) ts e) (own_label f.opening f.type h.0)
labels_small c (f ∷ fs) none h (suc l) ts e = labels_small c fs none h.1 l ts e

-- ---- tokens

pub record Rises (before after : Frames) : Type 0 where
  pub small : AllSmall after
  pub low : height after ≤ height before + max_lift

applied_rises : (r : Rule) (f : Frame) (fs gs : Frames) → IsLow r → AllSmall (f ∷ fs) → applied r (f ∷ fs) ≡ Some gs → Rises (f ∷ fs) gs
applied_rises r f fs gs low h e =
    let x = through (apply r f.operands) (λ o. Some (record f { operands = o } ∷ fs)) gs e in
    let more = apply_low r f.operands x.value low x.is in
    subst (λ (g : Frames). Rises (f ∷ fs) g) (some_inside (record f { operands = x.value } ∷ fs) gs x.then) (record { small = h; low = omega arith })

index_small : (o : Option FuncType) (s : Signature) → ((t : FuncType) → o ≡ Some t → (length t.params ≤ max_lift) × (length t.results ≤ max_lift)) → option_signature o ≡ Some s → IsSmall s
index_small None s few e = absurd cc
index_small (Some t) s few e =
    let k = few t refl in
    subst IsSmall (some_inside (signature_of t) s e) (omega (arith, k.0, length-reverse t.params), omega (arith, k.1, length-reverse t.results))

type_small : (c : Context) (t : BlockType) (s : Signature) → FunctionsAreSmall c → block_type c t ≡ Some s → IsSmall s
type_small c Empty s few e = subst IsSmall (some_inside _ s e) (omega arith, omega arith)
type_small c (Value v) s few e = subst IsSmall (some_inside _ s e) (omega arith, omega arith)
type_small c (Index i) s few e = index_small (slice_get c.types i) s (few i) e

enter_rises : (opening : Opening) (s : Signature) (params : Types) (f : Frame) (fs gs : Frames) → IsSmall s → AllSmall (f ∷ fs) → enter opening s params (f ∷ fs) ≡ Some gs → Rises (f ∷ fs) gs
enter_rises opening s params f fs gs small h e =
    let x = through (take_all f.operands.unknown params f.operands.own) (λ own. Some (record { opening = opening; type = s; operands = fresh s f.operands.live } ∷ record f { operands = put f.operands own } ∷ fs)) gs e in
    let less = all_less f.operands.unknown params f.operands.own x.value x.is in
    let some : length (known s.params) ≤ max_lift = omega (arith, length-known s.params, small.0) in
    subst (λ (g : Frames). Rises (f ∷ fs) g) (some_inside _ gs x.then) (record { small = (small, h); low = omega arith })

receive_rises : (results : Types) (f : Frame) (fs : Frames) → length results ≤ max_lift → AllSmall fs → Rises (f ∷ fs) (receive results fs)
receive_rises results f [] one h = record { small = tt; low = omega arith }
receive_rises results f (g ∷ fs) one h =
    let both = length-append (known results) g.operands.own in
    let n = length-known results in
    record { small = h; low = omega (arith, one) }

turn_rises : (f : Frame) (fs : Frames) → AllSmall (f ∷ fs) → Rises (f ∷ fs) (record { opening = Elses; type = f.type; operands = fresh f.type (starts_live fs) } ∷ fs)
turn_rises f fs h =
    let some : length (known f.type.params) ≤ max_lift = omega (arith, length-known f.type.params, h.0.0) in
    record { small = h; low = omega arith }

-- in the frames the functions are those of the context
pub functions_at : (c : Context) (fs : Frames) (f : ℕ) → function_type (at c fs) f ≡ function_type c f
functions_at c [] f = refl
functions_at c (g ∷ fs) f = functions_at c fs f

small_at : (c : Context) (fs : Frames) → FunctionsAreSmall c → FunctionsAreSmall (at c fs)
small_at c fs h i t e = h i t (ap (λ (ts : List FuncType). slice_get ts i) (sym (types_at c fs)) ∙ e)
  where
    types_at : (c : Context) (fs : Frames) → (at c fs).types ≡ c.types
    types_at c [] = refl
    types_at c (f ∷ fs) = types_at c fs

step_rises : (c : Context) (t : Token) (fs gs : Frames) → c.labels ≡ [] → FunctionsAreSmall c → AllSmall fs → step c t fs ≡ Some gs → Rises fs gs
step_rises c t [] gs none functions h e = absurd cc
step_rises c (token.Plain p) (f ∷ fs) gs none functions h e =
    applied_rises (rule_of (at c (f ∷ fs)) p) f fs gs (plain_low (at c (f ∷ fs)) p (labels_small c (f ∷ fs) none h) (small_at c (f ∷ fs) functions)) h e
step_rises c (token.Block t) (f ∷ fs) gs none functions h e =
    let x = through (block_type (at c (f ∷ fs)) t) (λ s. enter Blocks s s.params (f ∷ fs)) gs e in
    enter_rises Blocks x.value x.value.params f fs gs (type_small (at c (f ∷ fs)) t x.value (small_at c (f ∷ fs) functions) x.is) h x.then
step_rises c (token.Loop t) (f ∷ fs) gs none functions h e =
    let x = through (block_type (at c (f ∷ fs)) t) (λ s. enter Loops s s.params (f ∷ fs)) gs e in
    enter_rises Loops x.value x.value.params f fs gs (type_small (at c (f ∷ fs)) t x.value (small_at c (f ∷ fs) functions) x.is) h x.then
step_rises c (token.If t) (f ∷ fs) gs none functions h e =
    let x = through (block_type (at c (f ∷ fs)) t) (λ s. enter Ifs s (I32 ∷ s.params) (f ∷ fs)) gs e in
    enter_rises Ifs x.value (I32 ∷ x.value.params) f fs gs (type_small (at c (f ∷ fs)) t x.value (small_at c (f ∷ fs) functions) x.is) h x.then
step_rises c token.Else (f ∷ fs) gs none functions h e = subst (λ (g : Frames). Rises (f ∷ fs) g) (guarded-true _ _ gs e).1 (turn_rises f fs h)
step_rises c token.End (f ∷ fs) gs none functions h e = subst (λ (g : Frames). Rises (f ∷ fs) g) (guarded-true _ _ gs e).1 (receive_rises f.type.results f fs h.0.1 h.1)

-- ---- the greatest height

higher_low : (b : Bool) (h most n : ℕ) → h ≤ n → most ≤ n → higher (guarded b h) most ≤ n
higher_low true h most n x y = omega (arith, x, y)
higher_low false h most n x y = y

place_low : (fs : Frames) (most n : ℕ) → height fs ≤ n → most ≤ n → higher (place_of fs) most ≤ n
place_low [] most n x y = y
place_low (f ∷ fs) most n x y = higher_low f.operands.live (height (f ∷ fs)) most n x y

pub record Low (check : Checked) (left : ℕ) (bound : ℕ) : Type 0 where
  pub small : AllSmall check.checker.frames
  pub low : height check.checker.frames + max_lift * left ≤ bound
  pub most : check.checker.greatest + max_lift * left ≤ bound

pub low-after : (check later : Checked) (t : Token) (left fewer bound : ℕ) → check.context.labels ≡ [] → FunctionsAreSmall check.context → fewer + 1 ≤ left → Low check left bound
    → step_checker check.context t check.checker ≡ Some later.checker → Low later fewer bound
low-after check later t left fewer bound none functions less h e =
    let x = through (step check.context t check.checker.frames) (λ fs. Some (measured check.checker.greatest fs)) later.checker e in
    let rises = step_rises check.context t check.checker.frames x.value none functions h.small x.is in
    let low = h.low in
    let most = h.most in
    let rise = rises.low in
    let same = some_inside (measured check.checker.greatest x.value) later.checker x.then in
    let top : higher (place_of x.value) check.checker.greatest ≤ bound - max_lift * fewer = place_low x.value check.checker.greatest (bound - max_lift * fewer) (omega arith) (omega arith) in
    let fits : max_lift * fewer ≤ bound = omega arith in
    record {
      small = subst (λ (y : Checker). AllSmall y.frames) same rises.small;
      low = subst (λ (y : Checker). height y.frames + max_lift * fewer ≤ bound) same (omega arith);
      most = subst (λ (y : Checker). y.greatest + max_lift * fewer ≤ bound) same (omega arith);
    }
