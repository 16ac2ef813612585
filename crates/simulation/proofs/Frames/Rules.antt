-- What rules say of heights and types.
use Rattle.std.proofs.Common.{◌≡◌, append_assoc, ℕ, ◌+◌, ◌-◌, ◌≤◌, List, [], ◌∷◌, ◌++◌, length, take, drop, Option, Some, None, refl, sym, ap, ◌∙◌, arith}
use Rattle.std.specs.Prelude.{Bool, true, false, slice_get, option_map}
use Rattle.std.proofs.lemmas.Option.{slice_get-map}
use Rattle.std.proofs.lemmas.List.{length-map, length-append, map-append}
use Rattle.wasm_defs.specs.declared.types.ValType.{ValType}
use Rattle.wasm_defs.specs.declared.types.ValType.TheVariants.{I32}
use Rattle.wasm_defs.specs.declared.context.GlobalType.{GlobalType}
use Rattle.wasm_defs.specs.declared.token.Plain.{Plain}
use Rattle.wasm_defs.specs.declared.token.Plain.TheVariants.{Unreachable, Br, BrIf, BrTable, Return, Call, CallIndirect, Nop, Drop, Select, LocalGet, LocalSet, LocalTee, GlobalGet, GlobalSet, Const, Numeric}
use Rattle.wasm_defs.specs.Typing.{Types, Context, Rule, Untyped, Fixed, Stops, Discards, Selects, Moves, with_type, only_if, rule_of}
use Rattle.wasm_defs.specs.Places.{after_rule}
use Rattle.wasm_defs.specs.Values.{Value, types_of_values}
use Rattle.simulation.specs.Covered.{IsStraightStep}
use Rattle.simulation.specs.Functions.{global_types}

pub types_length : (vs : List Value) → length (types_of_values vs) ≡ length vs
types_length vs = length-map vs (λ v. v.ty)

-- ---- heights

-- what follows is reachable
abbrev pub GoesOn : Rule → Type 0
GoesOn Untyped = Unit {0}
GoesOn (Fixed params results) = Unit {0}
GoesOn (Stops params) = ⊥
GoesOn Discards = Unit {0}
GoesOn Selects = Unit {0}

-- where so many operands are below
pub rule_height : (rule : Rule) (from to : Types) (n : ℕ) → GoesOn rule → Moves rule from to → after_rule rule (Some (length from + n)) ≡ Some (length to + n)
rule_height Untyped from to n h m = absurd m.allowed
rule_height (Fixed params results) from to n h m =
    let taken = ap length m.allowed.0 in
    let left = ap length m.allowed.1 in
    let height : length from + n - length params + length results ≡ length to + n = omega (arith, ap length m.before, ap length m.after, length-append m.taken m.below, length-append m.left m.below) in
    ap (λ (k : ℕ). Some k) height
rule_height (Stops params) from to n h m = absurd h
rule_height Discards from to n h m =
    let taken = ap length m.allowed.1 in
    let left = ap length m.allowed.2 in
    let height : length from + n - 1 + 0 ≡ length to + n = omega (arith, ap length m.before, ap length m.after, length-append m.taken m.below, length-append m.left m.below) in
    ap (λ (k : ℕ). Some k) height
rule_height Selects from to n h m =
    let taken = ap length m.allowed.1 in
    let left = ap length m.allowed.2 in
    let height : length from + n - 3 + 1 ≡ length to + n = omega (arith, ap length m.before, ap length m.after, length-append m.taken m.below, length-append m.left m.below) in
    ap (λ (k : ℕ). Some k) height

local_goes_on : (o : Option ValType) (params results : ValType → Types) → GoesOn (with_type o (λ t. Fixed (params t) (results t)))
local_goes_on None params results = tt
local_goes_on (Some t) params results = tt

with_goes_on : {T : Type 0} (o : Option T) (f : T → Rule) → ((t : T) → GoesOn (f t)) → GoesOn (with_type o f)
with_goes_on None f h = tt
with_goes_on (Some t) f h = h t

only_goes_on : (b : Bool) (rule : Rule) → GoesOn rule → GoesOn (only_if b rule)
only_goes_on true rule h = h
only_goes_on false rule h = tt

step_goes_on : (c : Context) (p : Plain) → IsStraightStep p → GoesOn (rule_of c p)
step_goes_on c Nop h = tt
step_goes_on c Drop h = tt
step_goes_on c Select h = tt
step_goes_on c (LocalGet x) h = local_goes_on (slice_get c.locals x) (λ t. []) (λ t. t ∷ [])
step_goes_on c (LocalSet x) h = local_goes_on (slice_get c.locals x) (λ t. t ∷ []) (λ t. [])
step_goes_on c (LocalTee x) h = local_goes_on (slice_get c.locals x) (λ t. t ∷ []) (λ t. t ∷ [])
step_goes_on c (GlobalGet x) h = with_goes_on (slice_get c.globals x) _ (λ (g : GlobalType). tt)
step_goes_on c (GlobalSet x) h = with_goes_on (slice_get c.globals x) _ (λ (g : GlobalType). only_goes_on g.mutable (Fixed (g.ty ∷ []) []) tt)
step_goes_on c (Const t n) h = tt
step_goes_on c (Numeric op) h = tt
step_goes_on c Unreachable h = absurd h
step_goes_on c (Br l) h = absurd h
step_goes_on c (BrIf l) h = absurd h
step_goes_on c (BrTable ls l) h = absurd h
step_goes_on c Return h = absurd h
step_goes_on c (Call f) h = absurd h
step_goes_on c (CallIndirect i table) h = absurd h
step_goes_on c p h = search only_goes_on

-- the height after an instruction is the one of its types
pub height_after : (c : Context) (p : Plain) (from to : Types) (n : ℕ) → IsStraightStep p → Moves (rule_of c p) from to → after_rule (rule_of c p) (Some (length from + n)) ≡ Some (length to + n)
height_after c p from to n h m = rule_height (rule_of c p) from to n (step_goes_on c p h) m

-- an instruction where others are below
pub moves_above : (rule : Rule) (from to others : Types) → Moves rule from to → Moves rule (from ++ others) (to ++ others)
moves_above rule from to others m = record {
  taken = m.taken;
  left = m.left;
  below = m.below ++ others;
  before = ap (λ (ts : Types). ts ++ others) m.before ∙ append_assoc m.taken m.below others;
  after = ap (λ (ts : Types). ts ++ others) m.after ∙ append_assoc m.left m.below others;
  allowed = m.allowed;
}

-- the topmost values of these types, and those below
pub types_split : (ts us : Types) (vs : List Value) → types_of_values vs ≡ ts ++ us → (types_of_values (take (length ts) vs) ≡ ts) × (types_of_values (drop (length ts) vs) ≡ us) × (length ts ≤ length vs)
types_split [] us vs e = (refl, e, omega arith)
types_split (t ∷ ts) us [] e = absurd cc
types_split (t ∷ ts) us (v ∷ vs) e =
    let first : v.ty ≡ t = cc in
    let rest = types_split ts us vs cc in
    (ap (λ (x : ValType). x ∷ types_of_values (take (length ts) vs)) first ∙ ap (λ (xs : Types). t ∷ xs) rest.0, rest.1, omega (arith, rest.2))

pub types_append : (vs ws : List Value) → types_of_values (vs ++ ws) ≡ types_of_values vs ++ types_of_values ws
types_append vs ws = map-append (λ (v : Value). v.ty) vs ws

-- ---- types

-- an instruction that takes operands of these types, and leaves others
pub record MovesFixed (params results from to : Types) : Type 0 where
  pub below : Types
  pub before : from ≡ params ++ below
  pub after : to ≡ results ++ below

pub moves_fixed : (params results from to : Types) → Moves (Fixed params results) from to → MovesFixed params results from to
moves_fixed params results from to m = record {
  below = m.below;
  before = m.before ∙ ap (λ (ts : Types). ts ++ m.below) m.allowed.0;
  after = m.after ∙ ap (λ (ts : Types). ts ++ m.below) m.allowed.1;
}

-- `drop` takes an operand of some type, and `select` two
pub record DiscardsOne (from to : Types) : Type 0 where
  pub ty : ValType
  pub moves : MovesFixed (ty ∷ []) [] from to

pub discards : (from to : Types) → Moves Discards from to → DiscardsOne from to
discards from to m = record {
  ty = m.allowed.0;
  moves = record {
    below = m.below;
    before = m.before ∙ ap (λ (ts : Types). ts ++ m.below) m.allowed.1;
    after = m.after ∙ ap (λ (ts : Types). ts ++ m.below) m.allowed.2;
  };
}

pub record SelectsOne (from to : Types) : Type 0 where
  pub ty : ValType
  pub moves : MovesFixed (I32 ∷ ty ∷ ty ∷ []) (ty ∷ []) from to

pub selects : (from to : Types) → Moves Selects from to → SelectsOne from to
selects from to m = record {
  ty = m.allowed.0;
  moves = record {
    below = m.below;
    before = m.before ∙ ap (λ (ts : Types). ts ++ m.below) m.allowed.1;
    after = m.after ∙ ap (λ (ts : Types). ts ++ m.below) m.allowed.2;
  };
}

-- ---- locals

-- the value of a type that is among those of a list
pub record Found (locals : List Value) (x : ℕ) (t : ValType) : Type 0 where
  pub v : Value
  pub is : slice_get locals x ≡ Some v
  pub ty_is : v.ty ≡ t

found : (locals : List Value) (x : ℕ) (t : ValType) (o : Option Value) → slice_get locals x ≡ o → option_map (λ (v : Value). v.ty) o ≡ Some t → Found locals x t
found locals x t None e h = absurd cc
found locals x t (Some v) e h = record { v = v; is = e; ty_is = cc }

-- an instruction that names a local of some type, or a global
pub record OnLocal (locals : List Value) (x : ℕ) (params results : ValType → Types) (from to : Types) : Type 0 where
  pub ty : ValType
  pub local : Found locals x ty
  pub moves : MovesFixed (params ty) (results ty) from to

pub on_local : (types : Types) (locals : List Value) (x : ℕ) (params results : ValType → Types) (from to : Types) (o : Option ValType) → types ≡ types_of_values locals → slice_get types x ≡ o
    → Moves (with_type o (λ t. Fixed (params t) (results t))) from to → OnLocal locals x params results from to
on_local types locals x params results from to None are e m = absurd m.allowed
on_local types locals x params results from to (Some t) are e m =
    let same : option_map (λ (v : Value). v.ty) (slice_get locals x) ≡ Some t = sym (slice_get-map (λ (v : Value). v.ty) locals x) ∙ ap (λ (ts : Types). slice_get ts x) (sym are) ∙ e in
    record { ty = t; local = found locals x t (slice_get locals x) refl same; moves = moves_fixed (params t) (results t) from to m }

-- ---- globals

-- a rule that is under a test
pub moves_only : (b : Bool) (rule : Rule) (from to : Types) → Moves (only_if b rule) from to → Moves rule from to
moves_only true rule from to m = m
moves_only false rule from to m = absurd m.allowed

pub moves_set : (o : Option GlobalType) (from to : Types) → Moves (with_type o (λ (g : GlobalType). only_if g.mutable (Fixed (g.ty ∷ []) []))) from to → Moves (with_type o (λ (g : GlobalType). Fixed (g.ty ∷ []) [])) from to
moves_set None from to m = m
moves_set (Some g) from to m = moves_only g.mutable (Fixed (g.ty ∷ []) []) from to m

-- an instruction that names a global of some type
pub on_global : (gs : List GlobalType) (globals : List Value) (x : ℕ) (params results : ValType → Types) (from to : Types) (o : Option GlobalType) → global_types gs ≡ types_of_values globals → slice_get gs x ≡ o
    → Moves (with_type o (λ (g : GlobalType). Fixed (params g.ty) (results g.ty))) from to → OnLocal globals x params results from to
on_global gs globals x params results from to None are e m = absurd m.allowed
on_global gs globals x params results from to (Some g) are e m =
    let same : option_map (λ (v : Value). v.ty) (slice_get globals x) ≡ Some g.ty =
    sym (slice_get-map (λ (v : Value). v.ty) globals x) ∙ ap (λ (ts : Types). slice_get ts x) (sym are) ∙ slice_get-map (λ (t : GlobalType). t.ty) gs x ∙ ap (option_map (λ (t : GlobalType). t.ty)) e in
    record { ty = g.ty; local = found globals x g.ty (slice_get globals x) refl same; moves = moves_fixed (params g.ty) (results g.ty) from to m }
