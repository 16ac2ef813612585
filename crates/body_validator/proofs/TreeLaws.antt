-- Tokens encode one tree.
use Rattle.std.proofs.Common.{◌≡◌, List, [], ◌∷◌, refl, sym, ◌∙◌, subst}
use Rattle.wasm_defs.specs.declared.token.Token.{Token}
use Rattle.wasm_defs.specs.declared.token.Token.TheVariants as token
use Rattle.wasm_defs.specs.Trees.{Sort, Sequence, Branch, Part, Seq, Nothing, Simple, Block, Loop, If, Else, spelled}
use Rattle.body_validator.specs.Exactness.{TreesAreOne}

-- a sequence ends before such tokens, and a second branch
abbrev pub Closes : Sort → List Token → Type 0
Closes sort [] = ⊥
Closes sort (token.End ∷ ts) = Unit {0}
Closes Sequence (token.Else ∷ ts) = Unit {0}
Closes sort (_ ∷ ts) = ⊥

-- the same tokens are of one tree, up to where both end
abbrev AreOne : {sort : Sort} → Part sort → Part sort → Type 0
AreOne {sort} s t = (a b : List Token) → Closes sort a → Closes sort b → spelled s a ≡ spelled t b → (s ≡ t) × (a ≡ b)

-- the same tokens are of one tree, its `end` and a sequence
closed-one : {sort : Sort} (body c : Part sort) (rest r : Seq) (a b : List Token) → AreOne body c → AreOne rest r → Closes Sequence a → Closes Sequence b
    → spelled body (token.End ∷ spelled rest a) ≡ spelled c (token.End ∷ spelled r b) → (body ≡ c) × (rest ≡ r) × (a ≡ b)
closed-one body c rest r a b inside after h g e =
    let inner = inside (token.End ∷ spelled rest a) (token.End ∷ spelled r b) tt tt e in
    let behind : token.End ∷ spelled rest a ≡ token.End ∷ spelled r b = inner.1 in
    let more = after a b h g (cc) in
    (inner.0, more.0, more.1)

closes-first : (other : Part Branch) (ts : List Token) → Closes Sequence (spelled other (token.End ∷ ts))
closes-first Nothing ts = tt
closes-first (Else other) ts = tt

closes-both : (ts : List Token) → Closes Branch ts → Closes Sequence ts
closes-both (token.Else ∷ ts) h = tt
closes-both ts h = h

pub spelled-one : {sort : Sort} (s t : Part sort) → AreOne s t
spelled-one Nothing Nothing a b h g e = (refl, e)
spelled-one {sort} Nothing t a b h g e = absurd (subst (Closes sort) e h)
spelled-one {sort} s Nothing a b h g e = absurd (subst (Closes sort) (sym e) g)
spelled-one (Simple p rest) (Simple q r) a b h g e =
    let first : p ≡ q = cc in
    let more = spelled-one rest r a b h g (cc) in
    let last : rest ≡ r = more.0 in
    (cc, more.1)
spelled-one (Block type body rest) (Block u c r) a b h g e =
    let first : type ≡ u = cc in
    let more = closed-one body c rest r a b (spelled-one body c) (spelled-one rest r) h g (cc) in
    let within : body ≡ c = more.0 in
    let last : rest ≡ r = more.1 in
    (cc, more.2)
spelled-one (Loop type body rest) (Loop u c r) a b h g e =
    let first : type ≡ u = cc in
    let more = closed-one body c rest r a b (spelled-one body c) (spelled-one rest r) h g (cc) in
    let within : body ≡ c = more.0 in
    let last : rest ≡ r = more.1 in
    (cc, more.2)
spelled-one (If type body other rest) (If u c d r) a b h g e =
    let first : type ≡ u = cc in
    let inner = spelled-one body c (spelled other (token.End ∷ spelled rest a)) (spelled d (token.End ∷ spelled r b)) (closes-first other (spelled rest a)) (closes-first d (spelled r b)) (cc) in
    let within : body ≡ c = inner.0 in
    let more = closed-one other d rest r a b (spelled-one other d) (spelled-one rest r) h g inner.1 in
    let second : other ≡ d = more.0 in
    let last : rest ≡ r = more.1 in
    (cc, more.2)
spelled-one (Else other) (Else d) a b h g e =
    let more = spelled-one other d a b (closes-both a h) (closes-both b g) (cc) in
    let same : other ≡ d = more.0 in
    (cc, more.1)
spelled-one s t a b h g e = absurd (cc)

pub trees_one : TreesAreOne
trees_one tokens s t h g = (spelled-one s t (token.End ∷ []) (token.End ∷ []) tt tt (sym h ∙ g)).0
