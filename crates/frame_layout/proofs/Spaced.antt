-- The traps of a function are apart, inside it.
use Rattle.std.proofs.Common.{◌≡◌, ℕ, ◌+◌, ◌-◌, ◌≤◌, List, [], ◌∷◌, ◌++◌, map, length, Some, None, refl, sym, ap, subst, arith}
use Rattle.std.proofs.lemmas.List.{append-nil, map-append}
use Rattle.rv_isa.specs.declared.compiled.TrapSite.{TrapSite}
use Rattle.wasm_defs.specs.declared.types.ValType.{ValType}
use Rattle.wasm_defs.specs.declared.types.ValType.TheVariants.{I32, I64}
use Rattle.wasm_defs.specs.declared.operation.Operation.{Operation}
use Rattle.wasm_defs.specs.declared.operation.Operation.TheVariants.{Binary}
use Rattle.wasm_defs.specs.declared.operation.BinaryOp.{BinaryOp}
use Rattle.wasm_defs.specs.declared.operation.BinaryOp.TheVariants as binary
use Rattle.wasm_defs.specs.declared.token.BulkOp.TheVariants.{Fill, Copy, Init}
use Rattle.wasm_defs.specs.declared.token.Plain.{Plain}
use Rattle.wasm_defs.specs.declared.token.Plain.TheVariants.{Unreachable, CallIndirect, Load, Store, Bulk, Numeric}
use Rattle.wasm_defs.specs.Configurations.{Origin}
use Rattle.wasm_defs.specs.Trees.{Sort, Part, Seq, Nothing, Simple, Block, Loop, If, Else, tokens_in}
use Rattle.wasm_defs.specs.Typing.{Context, inside, rule_of}
use Rattle.wasm_defs.specs.Places.{Place, after_rule, shape, after_block, after_if, end_of}
use Rattle.frame_layout.specs.declared.layout.Layout.{Layout}
use Rattle.frame_layout.specs.Templates.{Declarations, Label, EmitContext, operate_words, declarations, words, prologue}
use Rattle.frame_layout.specs.Functions.{label, over, over_from, size, Trap, trap_at, traps_of, site_of, traps, body_place, body_size, body_traps, function_size}
use Rattle.frame_layout.specs.Traps.{trap_places, operation_places, division_places, AreSpaced}
use Rattle.frame_layout.specs.Laws.{SpacedLaw}

-- ---- lists

spaced-less : (less from to : ℕ) (ps : List ℕ) → less ≤ from → AreSpaced from ps to → AreSpaced less ps to
spaced-less less from to [] le h = omega (arith, h)
spaced-less less from to (p ∷ ps) le h = (omega (arith, h.0), h.1)

spaced-both : (from mid to : ℕ) (ps qs : List ℕ) → AreSpaced from ps mid → AreSpaced mid qs to → AreSpaced from (ps ++ qs) to
spaced-both from mid to [] qs h k = spaced-less from mid to qs h k
spaced-both from mid to (p ∷ ps) qs h k = (h.0, spaced-both (p + 1) mid to ps qs h.1 k)

abbrev places_of : List Trap → List ℕ
places_of ts = map (λ (t : Trap). t.place) ts

traps-both : (from mid to : ℕ) (ts us : List Trap) → AreSpaced from (places_of ts) mid → AreSpaced mid (places_of us) to → AreSpaced from (places_of (ts ++ us)) to
traps-both from mid to ts us h k =
    subst (λ (ps : List ℕ). AreSpaced from ps to) (sym (map-append (λ (t : Trap). t.place) ts us)) (spaced-both from mid to (places_of ts) (places_of us) h k)

-- a few words on
spaced-on : (here left from to : ℕ) (ps : List ℕ) → AreSpaced from ps to → AreSpaced (here + from) (places_of (map (trap_at here left) ps)) (here + to)
spaced-on here left from to [] h = omega (arith, h)
spaced-on here left from to (p ∷ ps) h = (omega (arith, h.0), spaced-less (here + p + 1) (here + (p + 1)) (here + to) (places_of (map (trap_at here left) ps)) (omega arith) (spaced-on here left (p + 1) to ps h.1))

module _ (w : EmitContext) where
  -- ---- instructions

  abbrev Spaced : Declarations → List Label → (h here : ℕ) → Plain → Type 0
  Spaced d labels h here p = AreSpaced 0 (trap_places p) (length (words w d labels h here p))

  division_spaced : (h : ℕ) (t : ValType) (op : BinaryOp) → AreSpaced 0 (division_places t op) (length (operate_words w h (Binary t op)))
  division_spaced h I32 binary.DivS = (omega arith, (omega arith, omega arith))
  division_spaced h I64 binary.DivS = (omega arith, (omega arith, omega arith))
  division_spaced h I32 binary.DivU = (omega arith, omega arith)
  division_spaced h I64 binary.DivU = (omega arith, omega arith)
  division_spaced h I32 binary.RemS = (omega arith, omega arith)
  division_spaced h I64 binary.RemS = (omega arith, omega arith)
  division_spaced h I32 binary.RemU = (omega arith, omega arith)
  division_spaced h I64 binary.RemU = (omega arith, omega arith)
  division_spaced h t op = omega arith

  operation_spaced : (h : ℕ) (op : Operation) → AreSpaced 0 (operation_places op) (length (operate_words w h op))
  operation_spaced h (Binary t op) = division_spaced h t op
  operation_spaced h op = omega arith

  plain_spaced : (d : Declarations) (labels : List Label) (h here : ℕ) (p : Plain) → Spaced d labels h here p
  plain_spaced d labels h here Unreachable = (omega arith, omega arith)
  plain_spaced d labels h here (CallIndirect i table) = (omega arith, (omega arith, (omega arith, omega arith)))
  plain_spaced d labels h here (Load o m) = (omega arith, omega arith)
  plain_spaced d labels h here (Store o m) = (omega arith, omega arith)
  plain_spaced d labels h here (Bulk Fill) = (omega arith, omega arith)
  plain_spaced d labels h here (Bulk Copy) = (omega arith, (omega arith, omega arith))
  plain_spaced d labels h here (Bulk (Init x)) = (omega arith, (omega arith, omega arith))
  plain_spaced d labels h here (Numeric op) = operation_spaced h op
  plain_spaced d labels h here p = omega arith

  -- ---- sequences

  abbrev TreeSpaced : {sort : Sort} → Context → List Label → Place → (here behind : ℕ) → Part sort → Type 0
  TreeSpaced c labels place here behind tree = AreSpaced here (places_of (traps w c labels place here behind tree)) (here + size w c labels place tree)

  ends_at : (from to end : ℕ) (ps : List ℕ) → to ≡ end → AreSpaced from ps to → AreSpaced from ps end
  ends_at from to end ps e h = subst (λ (n : ℕ). AreSpaced from ps n) e h

  -- traps of n words, and then of m more
  then_spaced : (here n m : ℕ) (ts us : List Trap) → AreSpaced here (places_of ts) (here + n) → AreSpaced (here + n) (places_of us) (here + n + m) → AreSpaced here (places_of (ts ++ us)) (here + (n + m))
  then_spaced here n m ts us first more =
      traps-both here (here + n) (here + (n + m)) ts us first (subst (AreSpaced (here + n) (places_of us)) (let e : here + n + m ≡ here + (n + m) = omega arith in e) more)

  -- a body, and what follows it
  nested : (c : Context) (labels : List Label) (within : Context) (inner : List Label) (h : ℕ) (next : Place) (here behind : ℕ) (body rest : Seq)
      → TreeSpaced within inner (Some h) here (1 + tokens_in rest + behind) body → ((after : ℕ) → TreeSpaced c labels next after behind rest)
      → AreSpaced here (places_of (traps w within inner (Some h) here (1 + tokens_in rest + behind) body ++ traps w c labels next (here + size w within inner (Some h) body) behind rest))
      (here + (size w within inner (Some h) body + size w c labels next rest))
  nested c labels within inner h next here behind body rest own more =
      let n = size w within inner (Some h) body in
      then_spaced here n (size w c labels next rest) (traps w within inner (Some h) here (1 + tokens_in rest + behind) body) (traps w c labels next (here + n) behind rest) own (more (here + n))

  tree_spaced : {sort : Sort} (c : Context) (labels : List Label) (place : Place) (here behind : ℕ) (tree : Part sort) → TreeSpaced c labels place here behind tree
  tree_spaced c labels None here behind tree = omega arith
  tree_spaced c labels (Some h) here behind Nothing = omega arith
  tree_spaced c labels (Some h) here behind (Simple p rest) =
      let next = after_rule (rule_of c p) (Some h) in
      let n = length (words w (declarations c) labels h 0 p) in
      let left = tokens_in (Simple p rest) + behind in
      let own = subst (λ (from : ℕ). AreSpaced from (places_of (traps_of here left p)) (here + n)) (let e : here + 0 ≡ here = omega arith in e) (spaced-on here left 0 n (trap_places p) (plain_spaced (declarations c) labels h 0 p)) in
      then_spaced here n (size w c labels next rest) (traps_of here left p) (traps w c labels next (here + n) behind rest) own (tree_spaced c labels next (here + n) behind rest)
  tree_spaced c labels (Some h) here behind (Block type body rest) =
      let s = shape c type in
      nested c labels (inside c s.results) (label (h - length s.params) (length s.results) 0 ∷ labels) h (after_block s (Some h)) here behind body rest
      (tree_spaced (inside c s.results) (label (h - length s.params) (length s.results) 0 ∷ labels) (Some h) here (1 + tokens_in rest + behind) body)
      (λ after. tree_spaced c labels (after_block s (Some h)) after behind rest)
  tree_spaced c labels (Some h) here behind (Loop type body rest) =
      let s = shape c type in
      nested c labels (inside c s.params) (label (h - length s.params) (length s.params) 0 ∷ labels) h (after_block s (Some h)) here behind body rest
      (tree_spaced (inside c s.params) (label (h - length s.params) (length s.params) 0 ∷ labels) (Some h) here (1 + tokens_in rest + behind) body)
      (λ after. tree_spaced c labels (after_block s (Some h)) after behind rest)
  tree_spaced c labels (Some h) here behind (If type body other rest) =
      let s = shape c type in
      let within = inside c s.results in
      let inner = label (h - 1 - length s.params) (length s.results) 0 ∷ labels in
      let next = after_if s (Some h) in
      let n = size w within inner (Some (h - 1)) body in
      let j = length (over (over_from other (end_of within body (Some (h - 1)))) 0 0) in
      let k = size w within inner (Some (h - 1)) other in
      let m = size w c labels next rest in
      let second = here + 6 + n + j in
      let to = here + (6 + n + j + k + m) in
      let one = traps w within inner (Some (h - 1)) (here + 6) (1 + tokens_in other + tokens_in rest + behind) body in
      let two = traps w within inner (Some (h - 1)) second (1 + tokens_in rest + behind) other in
      let others = traps w c labels next (second + k) behind rest in
      let first = spaced-less here (here + 6) (here + 6 + n) (places_of one) (omega arith) (tree_spaced within inner (Some (h - 1)) (here + 6) (1 + tokens_in other + tokens_in rest + behind) body) in
      let last = ends_at (second + k) (second + k + m) to (places_of others) (omega arith) (tree_spaced c labels next (second + k) behind rest) in
      let both = traps-both second (second + k) to two others (tree_spaced within inner (Some (h - 1)) second (1 + tokens_in rest + behind) other) last in
      traps-both here (here + 6 + n) to one (two ++ others) first (spaced-less (here + 6 + n) second to (places_of (two ++ others)) (omega arith) both)
  tree_spaced c labels (Some h) here behind (Else other) = tree_spaced c labels (Some h) here behind other

  -- ---- functions

  sites_places : (o : Origin) (ts : List Trap) → map (λ (t : TrapSite). t.place) (map (site_of o) ts) ≡ places_of ts
  sites_places o [] = refl
  sites_places o (t ∷ ts) = ap (λ (ps : List ℕ). t.place ∷ ps) (sites_places o ts)

prologue_long : (l : Layout) → 10 ≤ length (prologue l)
prologue_long l = omega arith

pub function_spaced : SpacedLaw
function_spaced w o c tree =
    let own = inside c c.results in
    let labels = label 0 (length c.results) 0 ∷ [] in
    let body = tree_spaced w own labels (Some 0) (body_place w) 1 tree in
    let end = function_size w c tree in
    let low = prologue_long w.layout in
    let spaced = spaced-less 10 (body_place w) (body_place w + body_size w c tree) (places_of (body_traps w c tree)) (omega (arith, low)) body in
    let longer = spaced-both 10 (body_place w + body_size w c tree) end (places_of (body_traps w c tree)) [] spaced (omega arith) in
    (omega arith, subst (λ (ps : List ℕ). AreSpaced 10 ps end) (sym (sites_places w o (body_traps w c tree))) (unappended (places_of (body_traps w c tree)) longer))
  where
    unappended : (ps : List ℕ) → AreSpaced 10 (ps ++ []) (function_size w c tree) → AreSpaced 10 ps (function_size w c tree)
    unappended ps h = subst (λ (l : List ℕ). AreSpaced 10 l (function_size w c tree)) (append-nil ps) h
