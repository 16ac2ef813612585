-- The operands that the checker keeps represent the operands that may be there, and each rule acts on the one as on the other.
use Rattle.std.proofs.Common.{◌≡◌, Bool, true, false, List, [], ◌∷◌, ◌++◌, Option, None, Some, refl, sym, ap, ◌∙◌, subst, append_assoc}
use Rattle.std.proofs.lemmas.List.{append-nil}
use Rattle.wasm_defs.specs.declared.types.ValType.{ValType}
use Rattle.wasm_defs.specs.declared.types.ValType.TheVariants.{I32, I64}
use Rattle.wasm_defs.specs.Typing.{Types, same_type, same_types, Rule, Untyped, Fixed, Stops, Discards, Selects, Moves}
use Rattle.body_validator.specs.Checking.{Operand, Operands, Frame, ◌>>=◌, guarded, known, is_of, take_one, take_all, Taken, take_any, joined, put, apply, none_left, closes}
use Rattle.body_validator.proofs.Options.{through, some_inside, guarded-true, and_true, true_parts}

-- ---- types

pub same_type-of : (t u : ValType) → t ≡ u → same_type t u ≡ true
same_type-of I32 I32 e = refl
same_type-of I64 I64 e = refl
same_type-of I32 I64 e = absurd (cc)
same_type-of I64 I32 e = absurd (cc)

pub same_type-true : (t u : ValType) → same_type t u ≡ true → t ≡ u
same_type-true I32 I32 e = refl
same_type-true I64 I64 e = refl
same_type-true I32 I64 e = absurd (cc)
same_type-true I64 I32 e = absurd (cc)

pub same_types-self : (ts : Types) → same_types ts ts ≡ true
same_types-self [] = refl
same_types-self (t ∷ ts) = and_true (same_type t t) (same_types ts ts) (same_type-of t t refl) (same_types-self ts)

pub same_types-of : (ts us : Types) → ts ≡ us → same_types ts us ≡ true
same_types-of ts us e = subst (λ (x : Types). same_types ts x ≡ true) e (same_types-self ts)

pub same_types-true : (ts us : Types) → same_types ts us ≡ true → ts ≡ us
same_types-true [] [] e = refl
same_types-true (t ∷ ts) [] e = absurd (cc)
same_types-true [] (u ∷ us) e = absurd (cc)
same_types-true (t ∷ ts) (u ∷ us) e =
    let both = true_parts (same_type t u) (same_types ts us) e in
    let head : t ≡ u = same_type-true t u both.0 in
    let tail : ts ≡ us = same_types-true ts us both.1 in
    cc

-- ---- what operands represent

abbrev pub IsOf : Operand → ValType → Type 0
IsOf None t = Unit {0}
IsOf (Some u) t = u ≡ t

-- the types of operands that may be there: any more below where that is unknown
abbrev pub Fits : Bool → List Operand → Types → Type 0
Fits true [] ts = Unit {0}
Fits false [] ts = ts ≡ []
Fits unknown (o ∷ own) [] = ⊥
Fits unknown (o ∷ own) (t ∷ ts) = IsOf o t × Fits unknown own ts

is_of-of : (o : Operand) (t : ValType) → IsOf o t → is_of o t ≡ true
is_of-of None t h = refl
is_of-of (Some u) t h = same_type-of u t h

is_of-true : (o : Operand) (t : ValType) → is_of o t ≡ true → IsOf o t
is_of-true None t e = tt
is_of-true (Some u) t e = same_type-true u t e

-- some operands may be there
pub fitting : (unknown : Bool) (own : List Operand) → (ts : Types) × Fits unknown own ts
fitting true [] = ([], tt)
fitting false [] = ([], refl)
fitting unknown (None ∷ own) = let more = fitting unknown own in (I32 ∷ more.0, (tt, more.1))
fitting unknown (Some t ∷ own) = let more = fitting unknown own in (t ∷ more.0, (refl, more.1))

pub known-fits : (unknown : Bool) (p : Types) (own : List Operand) (below : Types) → Fits unknown own below → Fits unknown (known p ++ own) (p ++ below)
known-fits unknown [] own below h = h
known-fits unknown (t ∷ p) own below h = (refl, known-fits unknown p own below h)

pub record Beneath (unknown : Bool) (p : Types) (own : List Operand) (ts : Types) : Type 0 where
  pub below : Types
  pub is : ts ≡ p ++ below
  pub fits : Fits unknown own below

pub known-beneath : (unknown : Bool) (p : Types) (own : List Operand) (ts : Types) → Fits unknown (known p ++ own) ts → Beneath unknown p own ts
known-beneath unknown [] own ts h = record { below = ts; is = refl; fits = h }
known-beneath unknown (t ∷ p) own [] h = absurd h
known-beneath unknown (t ∷ p) own (u ∷ ts) h =
    let more = known-beneath unknown p own ts h.1 in
    let e : t ≡ u = h.0 in
    let f : ts ≡ p ++ more.below = more.is in
    record { below = more.below; is = cc; fits = more.fits }

-- ---- taking operands

pub record Left (unknown : Bool) (o : Option (List Operand)) (below : Types) : Type 0 where
  pub own : List Operand
  pub is : o ≡ Some own
  pub fits : Fits unknown own below

take_one-takes : (unknown : Bool) (t : ValType) (own : List Operand) (below : Types) → Fits unknown own (t ∷ below) → Left unknown (take_one unknown t own) below
take_one-takes true t [] below h = record { own = []; is = refl; fits = tt }
take_one-takes false t [] below h = absurd (cc)
take_one-takes unknown t (o ∷ own) below h =
    record { own = own; is = ap (λ (b : Bool). guarded b own) (is_of-of o t h.0); fits = h.1 }

pub take_all-takes : (unknown : Bool) (p : Types) (own : List Operand) (below : Types) → Fits unknown own (p ++ below) → Left unknown (take_all unknown p own) below
take_all-takes unknown [] own below h = record { own = own; is = refl; fits = h }
take_all-takes unknown (t ∷ p) own below h =
    let one = take_one-takes unknown t own (p ++ below) h in
    let more = take_all-takes unknown p one.own below one.fits in
    record { own = more.own; is = ap (λ (o : Option (List Operand)). o >>= take_all unknown p) one.is ∙ more.is; fits = more.fits }

take_one-taken : (unknown : Bool) (t : ValType) (own left : List Operand) (below : Types) → take_one unknown t own ≡ Some left → Fits unknown left below → Fits unknown own (t ∷ below)
take_one-taken true t [] left below e h = tt
take_one-taken false t [] left below e h = absurd (cc)
take_one-taken unknown t (o ∷ own) left below e h =
    let parts = guarded-true (is_of o t) own left e in
    (is_of-true o t parts.0, subst (λ (x : List Operand). Fits unknown x below) (sym parts.1) h)

pub take_all-taken : (unknown : Bool) (p : Types) (own left : List Operand) (below : Types) → take_all unknown p own ≡ Some left → Fits unknown left below → Fits unknown own (p ++ below)
take_all-taken unknown [] own left below e h = subst (λ (x : List Operand). Fits unknown x below) (sym (some_inside own left e)) h
take_all-taken unknown (t ∷ p) own left below e h =
    let step = through (take_one unknown t own) (take_all unknown p) left e in
    take_one-taken unknown t own step.value (p ++ below) step.is (take_all-taken unknown p step.value left below step.then h)

-- ---- one rule

pub record Applied (o : Option Operands) (to : Types) : Type 0 where
  pub after : Operands
  pub is : o ≡ Some after
  pub fits : Fits after.unknown after.own to

any-taken : (unknown : Bool) (own : List Operand) (t : ValType) (below : Types) → Fits unknown own (t ∷ below) → (x : Taken) × (take_any unknown own ≡ Some x) × IsOf x.operand t × Fits unknown x.left below
any-taken true [] t below h = (record { operand = None; left = [] }, refl, tt, tt)
any-taken false [] t below h = absurd (cc)
any-taken unknown (o ∷ own) t below h = (record { operand = o; left = own }, refl, h.0, h.1)

any-back : (unknown : Bool) (own : List Operand) (x : Taken) (t : ValType) (below : Types) → take_any unknown own ≡ Some x → IsOf x.operand t → Fits unknown x.left below → Fits unknown own (t ∷ below)
any-back true [] x t below e h g = tt
any-back false [] x t below e h g = absurd (cc)
any-back unknown (o ∷ own) x t below e h g =
    let same : record { operand = o; left = own } ≡ x = some_inside (record { operand = o; left = own }) x e in
    let P : Taken → Type 0 = λ (y : Taken). IsOf y.operand t × Fits unknown y.left below in
    subst P (sym same) (h, g)

joined-of : (o p : Operand) (t : ValType) → IsOf o t → IsOf p t → (q : Operand) × (joined o p ≡ Some q) × IsOf q t
joined-of None p t h g = (p, refl, g)
joined-of (Some u) None t h g = (Some u, refl, h)
joined-of (Some u) (Some v) t h g =
    let e : u ≡ t = h in
    let f : v ≡ t = g in
    let same : u ≡ v = cc in
    let x : Operand = Some u in
    (x, ap (λ (b : Bool). guarded b x) (same_type-of u v same), h)

joined-back : (o p q : Operand) (t : ValType) → joined o p ≡ Some q → IsOf q t → IsOf o t × IsOf p t
joined-back None p q t e h = (tt, subst (λ (x : Operand). IsOf x t) (sym (some_inside p q e)) h)
joined-back (Some u) None q t e h =
    let x : Operand = Some u in
    (subst (λ (y : Operand). IsOf y t) (sym (some_inside x q e)) h, tt)
joined-back (Some u) (Some v) q t e h =
    let x : Operand = Some u in
    let parts = guarded-true (same_type u v) x q e in
    let f : u ≡ t = subst (λ (y : Operand). IsOf y t) (sym parts.1) h in
    let g : u ≡ v = same_type-true u v parts.0 in
    (f, sym g ∙ f)

pub apply-applies : (r : Rule) (o : Operands) (from to : Types) → Fits o.unknown o.own from → Moves r from to → Applied (apply r o) to
apply-applies Untyped o from to h m = absurd m.allowed
apply-applies (Fixed params results) o from to h m =
    let front : from ≡ params ++ m.below = m.before ∙ ap (λ (x : Types). x ++ m.below) m.allowed.0 in
    let back : to ≡ results ++ m.below = m.after ∙ ap (λ (x : Types). x ++ m.below) m.allowed.1 in
    let left = take_all-takes o.unknown params o.own m.below (subst (λ (x : Types). Fits o.unknown o.own x) front h) in
    record {
      after = put o (known results ++ left.own);
      is = ap (λ (x : Option (List Operand)). x >>= λ own. Some (put o (known results ++ own))) left.is;
      fits = subst (λ (x : Types). Fits o.unknown (known results ++ left.own) x) (sym back) (known-fits o.unknown results left.own m.below left.fits);
    }
apply-applies (Stops params) o from to h m =
    let below = m.allowed.0 ++ m.below in
    let front : from ≡ params ++ below = m.before ∙ ap (λ (x : Types). x ++ m.below) m.allowed.1 ∙ append_assoc params m.allowed.0 m.below in
    let left = take_all-takes o.unknown params o.own below (subst (λ (x : Types). Fits o.unknown o.own x) front h) in
    let stopped : Operands = record { own = []; unknown = true; live = false } in
    record { after = stopped; is = ap (λ (x : Option (List Operand)). x >>= λ own. Some stopped) left.is; fits = tt }
apply-applies Discards o from to h m =
    let t = m.allowed.0 in
    let front : from ≡ t ∷ m.below = m.before ∙ ap (λ (x : Types). x ++ m.below) m.allowed.1 in
    let back : to ≡ m.below = m.after ∙ ap (λ (x : Types). x ++ m.below) m.allowed.2 in
    let x = any-taken o.unknown o.own t m.below (subst (λ (x : Types). Fits o.unknown o.own x) front h) in
    record {
      after = put o x.0.left;
      is = ap (λ (y : Option Taken). y >>= λ z. Some (put o z.left)) x.1;
      fits = subst (λ (y : Types). Fits o.unknown x.0.left y) (sym back) x.3;
    }
apply-applies Selects o from to h m =
    let t = m.allowed.0 in
    let front : from ≡ I32 ∷ t ∷ t ∷ m.below = m.before ∙ ap (λ (x : Types). x ++ m.below) m.allowed.1 in
    let back : to ≡ t ∷ m.below = m.after ∙ ap (λ (x : Types). x ++ m.below) m.allowed.2 in
    let one = take_one-takes o.unknown I32 o.own (t ∷ t ∷ m.below) (subst (λ (x : Types). Fits o.unknown o.own x) front h) in
    let x = any-taken o.unknown one.own t (t ∷ m.below) one.fits in
    let y = any-taken o.unknown x.0.left t m.below x.3 in
    let q = joined-of x.0.operand y.0.operand t x.2 y.2 in
    let last : List Operand → Option Operands = λ own. take_any o.unknown own >>= λ x. take_any o.unknown x.left >>= λ y. joined x.operand y.operand >>= λ t. Some (put o (t ∷ y.left)) in
    let middle : Taken → Option Operands = λ x. take_any o.unknown x.left >>= λ y. joined x.operand y.operand >>= λ t. Some (put o (t ∷ y.left)) in
    let inner : Taken → Option Operands = λ z. joined x.0.operand z.operand >>= λ t. Some (put o (t ∷ z.left)) in
    let left = y.0.left in
    record {
      after = put o (q.0 ∷ left);
      is = ap (λ (z : Option (List Operand)). z >>= last) one.is ∙ ap (λ (z : Option Taken). z >>= middle) x.1
          ∙ ap (λ (z : Option Taken). z >>= inner) y.1 ∙ ap (λ (z : Option Operand). z >>= λ t. Some (put o (t ∷ left))) q.1;
      fits = subst (λ (z : Types). Fits o.unknown (q.0 ∷ left) z) (sym back) (q.2, y.3);
    }

-- where an instruction takes the operands from
pub record Source (r : Rule) (o : Operands) (to : Types) : Type 0 where
  pub from : Types
  pub fits : Fits o.unknown o.own from
  pub moves : Moves r from to

operands_inside : (x y : Operands) (to : Types) → Some x ≡ Some y → Fits y.unknown y.own to → Fits x.unknown x.own to
operands_inside x y to e h = subst (λ (z : Operands). Fits z.unknown z.own to) (sym (some_inside x y e)) h

pub apply-source : (r : Rule) (o after : Operands) (to : Types) → apply r o ≡ Some after → Fits after.unknown after.own to → Source r o to
apply-source Untyped o after to e h = absurd (cc)
apply-source (Fixed params results) o after to e h =
    let s = through (take_all o.unknown params o.own) (λ own. Some (put o (known results ++ own))) after e in
    let b = known-beneath o.unknown results s.value to (operands_inside (put o (known results ++ s.value)) after to s.then h) in
    record {
      from = params ++ b.below;
      fits = take_all-taken o.unknown params o.own s.value b.below s.is b.fits;
      moves = record { taken = params; left = results; below = b.below; before = refl; after = b.is; allowed = (refl, refl) };
    }
apply-source (Stops params) o after to e h =
    let stopped : Operands = record { own = []; unknown = true; live = false } in
    let s = through (take_all o.unknown params o.own) (λ own. Some stopped) after e in
    let b = fitting o.unknown s.value in
    record {
      from = params ++ b.0;
      fits = take_all-taken o.unknown params o.own s.value b.0 s.is b.1;
      moves = record { taken = params ++ b.0; left = to; below = []; before = sym (append-nil (params ++ b.0)); after = sym (append-nil to); allowed = (b.0, refl) };
    }
apply-source Discards o after to e h =
    let s = through (take_any o.unknown o.own) (λ x. Some (put o x.left)) after e in
    let below = operands_inside (put o s.value.left) after to s.then h in
    let t = of_operand s.value.operand in
    record {
      from = t.0 ∷ to;
      fits = any-back o.unknown o.own s.value t.0 to s.is t.1 below;
      moves = record { taken = t.0 ∷ []; left = []; below = to; before = refl; after = refl; allowed = (t.0, refl, refl) };
    }
  where
    of_operand : (p : Operand) → (t : ValType) × IsOf p t
    of_operand None = (I32, tt)
    of_operand (Some t) = (t, refl)
apply-source Selects o after [] e h =
    let s = through (take_one o.unknown I32 o.own) _ after e in
    let x = through (take_any o.unknown s.value) _ after s.then in
    let y = through (take_any o.unknown x.value.left) _ after x.then in
    let q = through (joined x.value.operand y.value.operand) _ after y.then in
    absurd (operands_inside (put o (q.value ∷ y.value.left)) after [] q.then h)
apply-source Selects o after (t ∷ below) e h =
    let s = through (take_one o.unknown I32 o.own) _ after e in
    let x = through (take_any o.unknown s.value) _ after s.then in
    let y = through (take_any o.unknown x.value.left) _ after x.then in
    let q = through (joined x.value.operand y.value.operand) _ after y.then in
    let fit = operands_inside (put o (q.value ∷ y.value.left)) after (t ∷ below) q.then h in
    let both = joined-back x.value.operand y.value.operand q.value t q.is fit.0 in
    let second = any-back o.unknown x.value.left y.value t below y.is both.1 fit.1 in
    let first = any-back o.unknown s.value x.value t (t ∷ below) x.is both.0 second in
    record {
      from = I32 ∷ t ∷ t ∷ below;
      fits = take_one-taken o.unknown I32 o.own s.value (t ∷ t ∷ below) s.is first;
      moves = record { taken = I32 ∷ t ∷ t ∷ []; left = t ∷ []; below = below; before = refl; after = refl; allowed = (t, refl, refl) };
    }

-- ---- the end of a frame

none_left-of : (unknown : Bool) (own : List Operand) → Fits unknown own [] → none_left (Some own) ≡ true
none_left-of unknown [] h = refl
none_left-of unknown (o ∷ own) h = absurd h

pub closes-of : (f : Frame) → Fits f.operands.unknown f.operands.own f.type.results → closes f ≡ true
closes-of f h =
    let left = take_all-takes f.operands.unknown f.type.results f.operands.own [] (subst (λ (x : Types). Fits f.operands.unknown f.operands.own x) (sym (append-nil f.type.results)) h) in
    ap none_left left.is ∙ none_left-of f.operands.unknown left.own left.fits

none_left-true : (o : Option (List Operand)) → none_left o ≡ true → o ≡ Some []
none_left-true None e = absurd (cc)
none_left-true (Some []) e = refl
none_left-true (Some (o ∷ own)) e = absurd (cc)

nothing-fits : (unknown : Bool) → Fits unknown [] []
nothing-fits true = tt
nothing-fits false = refl

pub closes-true : (f : Frame) → closes f ≡ true → Fits f.operands.unknown f.operands.own f.type.results
closes-true f e =
    let is = none_left-true (take_all f.operands.unknown f.type.results f.operands.own) e in
    let taken = take_all-taken f.operands.unknown f.type.results f.operands.own [] [] is (nothing-fits f.operands.unknown) in
    subst (λ (x : Types). Fits f.operands.unknown f.operands.own x) (append-nil f.type.results) taken
