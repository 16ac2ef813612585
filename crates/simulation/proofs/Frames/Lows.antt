-- Each token lifts the operands by no more than a type has parameters or results, so a body's heights are no more than its tokens can
-- add.
use Rattle.std.proofs.Common.{◌≡◌, ℕ, zero, suc, ◌+◌, ◌*◌, ◌≤◌, List, [], ◌∷◌, length, Option, Some, None, refl, sym, ap, subst, arith}
use Rattle.std.specs.Prelude.{slice_get, nat_lt, Bool, true, false}
use Rattle.wasm_defs.specs.declared.types.FuncType.{FuncType}
use Rattle.wasm_defs.specs.declared.types.ValType.{ValType}
use Rattle.wasm_defs.specs.declared.types.ValType.TheVariants.{I32}
use Rattle.wasm_defs.specs.declared.context.GlobalType.{GlobalType}
use Rattle.wasm_defs.specs.declared.token.BlockType.{BlockType}
use Rattle.wasm_defs.specs.declared.token.Plain.{Plain}
use Rattle.wasm_defs.specs.declared.token.Plain.TheVariants.{Unreachable, Br, BrIf, BrTable, Return, Call, CallIndirect, Nop, Drop, Select, LocalGet, LocalSet, LocalTee, GlobalGet, GlobalSet, Const, Numeric}
use Rattle.wasm_defs.specs.Trees.{Sort, Part, Seq, Nothing, Simple, Block, Loop, If, Else, spelled}
use Rattle.wasm_defs.specs.declared.token.Token.{Token}
use Rattle.wasm_defs.specs.declared.token.Token.TheVariants as token
use Rattle.wasm_defs.proofs.EachOperation.{leaves_one}
use Rattle.wasm_defs.specs.Typing.{Types, Context, Rule, Untyped, Fixed, Stops, Discards, Selects, Signature, inside, with_type, only_if, are_labels, called, function_type, rule_of}
use Rattle.wasm_defs.specs.Places.{Place, moved, after_rule, shape, after_block, after_if, end_of, places, places_of, higher, greatest}
use Rattle.std.proofs.lemmas.List.{length-reverse}
use Rattle.simulation.specs.Covered.{IsCoveredStep}
use Rattle.simulation.proofs.Frames.Heights.{shape_by_types}

-- as many as a type may have parameters or results
abbrev pub max_lift : ℕ
max_lift = 1000

-- covered code, of which no block takes or leaves more values
abbrev pub TakesFew : Context → BlockType → Type 0
TakesFew c type = (length (shape c type).params ≤ max_lift) × (length (shape c type).results ≤ max_lift)

abbrev pub IsFew : {sort : Sort} → Context → Part sort → Type 0
IsFew c Nothing = Unit {0}
IsFew c (Simple p rest) = IsCoveredStep p × IsFew c rest
IsFew c (Block type body rest) = TakesFew c type × IsFew c body × IsFew c rest
IsFew c (Loop type body rest) = TakesFew c type × IsFew c body × IsFew c rest
IsFew c (If type body other rest) = TakesFew c type × IsFew c body × IsFew c other × IsFew c rest
IsFew c (Else other) = IsFew c other

-- the tokens of a sequence
abbrev pub tokens_in : {sort : Sort} → Part sort → ℕ
tokens_in Nothing = 0
tokens_in (Simple p rest) = 1 + tokens_in rest
tokens_in (Block type body rest) = 2 + tokens_in body + tokens_in rest
tokens_in (Loop type body rest) = 2 + tokens_in body + tokens_in rest
tokens_in (If type body other rest) = 2 + tokens_in body + tokens_in other + tokens_in rest
tokens_in (Else other) = 1 + tokens_in other

-- a reachable point has so many operands at most
abbrev pub IsUpTo : ℕ → Place → Type 0
IsUpTo most None = Unit {0}
IsUpTo most (Some h) = h ≤ most

up_more : (m n : ℕ) (p : Place) → m ≤ n → IsUpTo m p → IsUpTo n p
up_more m n None le h = tt
up_more m n (Some i) le h = omega arith

higher_up_to : (m n k : ℕ) (p : Place) → IsUpTo m p → m ≤ k → n ≤ k → higher p n ≤ k
higher_up_to m n k None h le le' = le'
higher_up_to m n k (Some i) h le le' = omega arith

-- what a rule leaves
abbrev Leaves : Rule → Type 0
Leaves Untyped = Unit {0}
Leaves (Fixed from to) = length to ≤ max_lift
Leaves (Stops from) = Unit {0}
Leaves Discards = Unit {0}
Leaves Selects = Unit {0}

moved_up : (taken left most : ℕ) (p : Place) → left ≤ max_lift → IsUpTo most p → IsUpTo (most + max_lift) (moved taken left p)
moved_up taken left most None few h = tt
moved_up taken left most (Some i) few h = omega arith

rule_up : (rule : Rule) (most : ℕ) (p : Place) → Leaves rule → IsUpTo most p → IsUpTo (most + max_lift) (after_rule rule p)
rule_up Untyped most p few h = tt
rule_up (Fixed from to) most p few h = moved_up (length from) (length to) most p few h
rule_up (Stops from) most p few h = tt
rule_up Discards most p few h = moved_up 1 0 most p (omega arith) h
rule_up Selects most p few h = moved_up 3 1 most p (omega arith) h

-- labels take few values, and functions leave few, as functions of any type do
pub record FewIn (c : Context) : Type 0 where
  pub labels : (l : ℕ) (ts : Types) → slice_get c.labels l ≡ Some ts → length ts ≤ max_lift
  pub functions : (f : ℕ) (t : FuncType) → function_type c f ≡ Some t → length t.results ≤ max_lift
  pub types : (i : ℕ) (t : FuncType) → slice_get c.types i ≡ Some t → length t.results ≤ max_lift

few_inside : (c : Context) (ts : Types) → length ts ≤ max_lift → FewIn c → FewIn (inside c ts)
few_inside c ts one few = record { labels = labels; functions = few.functions; types = few.types }
  where
    labels : (l : ℕ) (us : Types) → slice_get (ts ∷ c.labels) l ≡ Some us → length us ≤ max_lift
    labels zero us e = let same : ts ≡ us = cc in omega (arith, ap length same)
    labels (suc l) us e = few.labels l us e

local_leaves : (o : Option ValType) (from to : ValType → Types) → ((t : ValType) → length (to t) ≤ max_lift) → Leaves (with_type o (λ t. Fixed (from t) (to t)))
local_leaves None from to few = tt
local_leaves (Some t) from to few = few t

label_leaves : (o : Option Types) (f : Types → Rule) → ((ts : Types) → o ≡ Some ts → Leaves (f ts)) → Leaves (with_type o f)
label_leaves None f few = tt
label_leaves (Some ts) f few = few ts refl

call_leaves : (on_top : Types) (o : Option FuncType) → ((t : FuncType) → o ≡ Some t → length t.results ≤ max_lift) → Leaves (with_type o (called on_top))
call_leaves on_top None few = tt
call_leaves on_top (Some t) few = omega (arith, few t refl, length-reverse t.results)

with_leaves : {T : Type 0} (o : Option T) (f : T → Rule) → ((t : T) → Leaves (f t)) → Leaves (with_type o f)
with_leaves None f few = tt
with_leaves (Some t) f few = few t

only_leaves : (b : Bool) (rule : Rule) → Leaves rule → Leaves (only_if b rule)
only_leaves true rule h = h
only_leaves false rule h = tt

step_leaves : (c : Context) (p : Plain) → FewIn c → IsCoveredStep p → Leaves (rule_of c p)
step_leaves c Unreachable few h = tt
step_leaves c (Br l) few h = label_leaves (slice_get c.labels l) Stops (λ ts e. tt)
step_leaves c (BrIf l) few h = label_leaves (slice_get c.labels l) _ (λ ts e. few.labels l ts e)
step_leaves c (BrTable ls l) few h = label_leaves (slice_get c.labels l) _ (λ ts e. only_leaves (are_labels c.labels ts ls) _ tt)
step_leaves c Return few h = tt
step_leaves c (Call f) few h = call_leaves [] (function_type c f) (λ t e. few.functions f t e)
step_leaves c (CallIndirect i table) few h = only_leaves (nat_lt table c.tables) _ (call_leaves (I32 ∷ []) (slice_get c.types i) (λ t e. few.types i t e))
step_leaves c Nop few h = omega arith
step_leaves c Drop few h = tt
step_leaves c Select few h = tt
step_leaves c (LocalGet x) few h = local_leaves (slice_get c.locals x) (λ t. []) (λ t. t ∷ []) (λ t. omega arith)
step_leaves c (LocalSet x) few h = local_leaves (slice_get c.locals x) (λ t. t ∷ []) (λ t. []) (λ t. omega arith)
step_leaves c (LocalTee x) few h = local_leaves (slice_get c.locals x) (λ t. t ∷ []) (λ t. t ∷ []) (λ t. omega arith)
step_leaves c (GlobalGet x) few h = with_leaves (slice_get c.globals x) _ (λ (g : GlobalType). omega arith)
step_leaves c (GlobalSet x) few h = with_leaves (slice_get c.globals x) _ (λ (g : GlobalType). only_leaves g.mutable (Fixed (g.ty ∷ []) []) (omega arith))
step_leaves c (Const t n) few h = omega arith
step_leaves c (Numeric op) few h = omega (arith, leaves_one op)
step_leaves c p few h = search (only_leaves, arith)

-- ---- a whole sequence

module _ (i : Context) where
  -- the block's type takes and leaves few values, in the body's context too
  taking : (c : Context) (type : BlockType) → c.types ≡ i.types → TakesFew i type → TakesFew c type
  taking c type same one = subst (λ (s : Signature). (length s.params ≤ max_lift) × (length s.results ≤ max_lift)) (sym (shape_by_types c i type same)) one

  pub end_up : (c : Context) (tree : Seq) (most : ℕ) (p : Place) → c.types ≡ i.types → FewIn c → IsFew i tree → IsUpTo most p → IsUpTo (most + max_lift * tokens_in tree) (end_of c tree p)
  end_up c Nothing most p same few h up = up_more most (most + max_lift * 0) p (omega arith) up
  end_up c (Simple q rest) most p same few h up =
      up_more (most + max_lift + max_lift * tokens_in rest) (most + max_lift * (1 + tokens_in rest)) _ (omega arith) (end_up c rest (most + max_lift) (after_rule (rule_of c q) p) same few h.1 (rule_up (rule_of c q) most p (step_leaves c q few h.0) up))
  end_up c (Block type body rest) most p same few h up =
      up_more (most + max_lift + max_lift * tokens_in rest) (most + max_lift * (2 + tokens_in body + tokens_in rest)) _ (omega arith) (end_up c rest (most + max_lift) (after_block (shape c type) p) same few h.2 (moved_up (length (shape c type).params) (length (shape c type).results) most p (taking c type same h.0).1 up))
  end_up c (Loop type body rest) most p same few h up =
      up_more (most + max_lift + max_lift * tokens_in rest) (most + max_lift * (2 + tokens_in body + tokens_in rest)) _ (omega arith) (end_up c rest (most + max_lift) (after_block (shape c type) p) same few h.2 (moved_up (length (shape c type).params) (length (shape c type).results) most p (taking c type same h.0).1 up))
  end_up c (If type body other rest) most p same few h up =
      up_more (most + max_lift + max_lift * tokens_in rest) (most + max_lift * (2 + tokens_in body + tokens_in other + tokens_in rest)) _ (omega arith) (end_up c rest (most + max_lift) (after_if (shape c type) p) same few h.3 (moved_up (suc (length (shape c type).params)) (length (shape c type).results) most p (taking c type same h.0).1 up))

  -- the points of a block, whose label takes these, and those behind it
  block_low : (c : Context) (takes : Types) → length takes ≤ max_lift → (body : Seq) (most k : ℕ) (p : Place) (behind : List Place) → c.types ≡ i.types → FewIn c → IsFew i body → IsUpTo most p → most + max_lift * tokens_in body ≤ k
      → (FewIn (inside c takes) → (xs : List Place) → greatest xs ≤ k → greatest (places (inside c takes) body p xs) ≤ k) → greatest behind ≤ k
      → greatest (places (inside c takes) body p (end_of (inside c takes) body p ∷ behind)) ≤ k
  block_low c takes one body most k p behind same few h up le own below =
      let within = inside c takes in
      let few' = few_inside c takes one few in
      own few' (end_of within body p ∷ behind) (higher_up_to (most + max_lift * tokens_in body) _ k (end_of within body p) (end_up within body most p same few' h up) le below)

  -- no point is higher than what comes before and after, and the tokens
  pub tree_low : {sort : Sort} (c : Context) (tree : Part sort) (most k : ℕ) (p : Place) (xs : List Place) → c.types ≡ i.types → FewIn c → IsFew i tree → IsUpTo most p → most + max_lift * tokens_in tree ≤ k → greatest xs ≤ k → greatest (places c tree p xs) ≤ k
  tree_low c Nothing most k p xs same few h up le below = below
  tree_low c (Simple q rest) most k p xs same few h up le below =
      higher_up_to most _ k p up (omega arith) (tree_low c rest (most + max_lift) k (after_rule (rule_of c q) p) xs same few h.1 (rule_up (rule_of c q) most p (step_leaves c q few h.0) up) (omega arith) below)
  tree_low c (Block type body rest) most k p xs same few h up le below =
      let s = shape c type in
      let one = taking c type same h.0 in
      higher_up_to most _ k p up (omega arith)
      (block_low c s.results one.1 body most k p _ same few h.1 up (omega arith) (λ few' ys. tree_low (inside c s.results) body most k p ys same few' h.1 up (omega arith))
      (tree_low c rest (most + max_lift) k (after_block s p) xs same few h.2 (moved_up (length s.params) (length s.results) most p one.1 up) (omega arith) below))
  tree_low c (Loop type body rest) most k p xs same few h up le below =
      let s = shape c type in
      let one = taking c type same h.0 in
      higher_up_to most _ k p up (omega arith)
      (block_low c s.params one.0 body most k p _ same few h.1 up (omega arith) (λ few' ys. tree_low (inside c s.params) body most k p ys same few' h.1 up (omega arith))
      (tree_low c rest (most + max_lift) k (after_block s p) xs same few h.2 (moved_up (length s.params) (length s.results) most p one.1 up) (omega arith) below))
  tree_low c (If type body other rest) most k p xs same few h up le below =
      let s = shape c type in
      let one = taking c type same h.0 in
      let first = moved 1 0 p in
      let up' = moved_up 1 0 most p (omega arith) up in
      higher_up_to most _ k p up (omega arith)
      (block_low c s.results one.1 body (most + max_lift) k first _ same few h.1 up' (omega arith) (λ few' ys. tree_low (inside c s.results) body (most + max_lift) k first ys same few' h.1 up' (omega arith))
      (tree_low (inside c s.results) other (most + max_lift) k first _ same (few_inside c s.results one.1 few) h.2 up' (omega arith)
      (tree_low c rest (most + max_lift) k (after_if s p) xs same few h.3 (moved_up (suc (length s.params)) (length s.results) most p one.1 up) (omega arith) below)))
  tree_low c (Else other) most k p xs same few h up le below =
      tree_low c other most k p (end_of c other p ∷ xs) same few h up (omega arith) (higher_up_to (most + max_lift * tokens_in other) _ k (end_of c other p) (end_up c other most p same few h up) (omega arith) below)

  -- so is a body
  pub body_low : (c : Context) (tree : Seq) → c.types ≡ i.types → FewIn (inside c c.results) → IsFew i tree → greatest (places_of c tree) ≤ max_lift * tokens_in tree
  body_low c tree same few h =
      let within = inside c c.results in
      let end = end_of within tree (Some 0) in
      let none : 0 + max_lift * tokens_in tree ≡ max_lift * tokens_in tree = omega arith in
      let up = end_up within tree 0 (Some 0) same few h (omega arith) in
      tree_low within tree 0 (max_lift * tokens_in tree) (Some 0) (end ∷ []) same few h (omega arith) (omega arith) (higher_up_to (0 + max_lift * tokens_in tree) 0 (max_lift * tokens_in tree) end up (omega arith) (omega arith))

-- the tokens that encode it
pub tokens_spelled : {sort : Sort} (tree : Part sort) (after : List Token) → length (spelled tree after) ≡ tokens_in tree + length after
tokens_spelled Nothing after = omega arith
tokens_spelled (Simple p rest) after = omega (arith, tokens_spelled rest after)
tokens_spelled (Block type body rest) after = omega (arith, tokens_spelled body (token.End ∷ spelled rest after), tokens_spelled rest after)
tokens_spelled (Loop type body rest) after = omega (arith, tokens_spelled body (token.End ∷ spelled rest after), tokens_spelled rest after)
tokens_spelled (If type body other rest) after =
    omega (arith, tokens_spelled body (spelled other (token.End ∷ spelled rest after)), tokens_spelled other (token.End ∷ spelled rest after), tokens_spelled rest after)
tokens_spelled (Else other) after = omega (arith, tokens_spelled other after)
