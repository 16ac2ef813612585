-- The heights of the checker's frames.
use Rattle.std.proofs.Common.{◌≡◌, ℕ, ◌+◌, Bool, true, false, List, [], ◌∷◌, ◌++◌, length, Some, refl, ap, ◌∙◌, subst, arith}
use Rattle.wasm_defs.specs.declared.types.ValType.{ValType}
use Rattle.wasm_defs.specs.declared.types.ValType.TheVariants.{I32}
use Rattle.wasm_defs.specs.Typing.{Types, Rule, Untyped, Fixed, Stops, Discards, Selects}
use Rattle.wasm_defs.specs.Places.{moved, after_rule}
use Rattle.body_validator.specs.Checking.{Operand, Operands, ◌>>=◌, guarded, known, is_of, take_one, take_all, Taken, take_any, joined, put, apply}
use Rattle.body_validator.specs.Stacks.{IsKnown}
use Rattle.body_validator.proofs.Options.{through, some_inside, guarded-true}

pub fresh_known : (live : Bool) → IsKnown live false
fresh_known true = refl
fresh_known false = tt

take_one-length : (t : ValType) (own left : List Operand) → take_one false t own ≡ Some left → length own ≡ 1 + length left
take_one-length t [] left e = absurd (cc)
take_one-length t (o ∷ own) left e = let same = ap length (guarded-true (is_of o t) own left e).1 in omega arith

pub take_all-length : (p : Types) (own left : List Operand) → take_all false p own ≡ Some left → length own ≡ length p + length left
take_all-length [] own left e = let same = ap length (some_inside own left e) in omega arith
take_all-length (t ∷ p) own left e =
    let s = through (take_one false t own) (take_all false p) left e in
    let first = take_one-length t own s.value s.is in
    let more = take_all-length p s.value left s.then in
    omega arith

take_any-length : (own : List Operand) (x : Taken) → take_any false own ≡ Some x → length own ≡ 1 + length x.left
take_any-length [] x e = absurd (cc)
take_any-length (o ∷ own) x e =
    let same = ap (λ (y : Taken). length y.left) (some_inside (record { operand = o; left = own }) x e) in
    omega arith

pub known-length : (p : Types) (own : List Operand) → length (known p ++ own) ≡ length p + length own
known-length [] own = omega arith
known-length (t ∷ p) own = let more = known-length p own in omega arith

-- the height after so many operands are taken and others left
moves_place : (live : Bool) (own left : List Operand) (taken given base : ℕ) → (live ≡ true → (rest : ℕ) × (length own ≡ taken + rest) × (length left ≡ given + rest))
    → guarded live (length left + base) ≡ moved taken given (guarded live (length own + base))
moves_place false own left taken given base h = refl
moves_place true own left taken given base h = let e = h refl in let f = e.1 in let g = e.2 in ap (λ (n : ℕ). Some n) (omega arith)

all_known : (live unknown : Bool) → IsKnown live unknown → live ≡ true → unknown ≡ false
all_known true unknown k e = k
all_known false unknown k e = absurd (cc)

-- operands of types are taken, and others left
pub types_move : (live unknown : Bool) (params results : Types) (own left : List Operand) (base : ℕ) → IsKnown live unknown → take_all unknown params own ≡ Some left
    → guarded live (length (known results ++ left) + base) ≡ moved (length params) (length results) (guarded live (length own + base))
types_move live unknown params results own left base k e =
    moves_place live own (known results ++ left) (length params) (length results) base
    (λ l. let f = take_all-length params own left (subst (λ (u : Bool). take_all u params own ≡ Some left) (all_known live unknown k l) e) in (length left, f, known-length results left))

-- a block's parameters stay
pub params_stay : (live unknown : Bool) (params : Types) (own left : List Operand) (base : ℕ) → IsKnown live unknown → take_all unknown params own ≡ Some left
    → guarded live (length (known params) + (length left + base)) ≡ guarded live (length own + base)
params_stay false unknown params own left base k e = refl
params_stay true unknown params own left base k e =
    let f = take_all-length params own left (subst (λ (u : Bool). take_all u params own ≡ Some left) k e) in
    let g : length (known params) ≡ length params = count params in
    ap (λ (n : ℕ). Some n) (omega arith)
  where
    count : (p : Types) → length (known p) ≡ length p
    count [] = refl
    count (t ∷ p) = let more = count p in omega arith

pub condition_goes : (live unknown : Bool) (params : Types) (own left : List Operand) (base : ℕ) → IsKnown live unknown → take_all unknown (I32 ∷ params) own ≡ Some left
    → guarded live (length (known params) + (length left + base)) ≡ moved 1 0 (guarded live (length own + base))
condition_goes live unknown params own left base k e =
    let s = through (take_one unknown I32 own) (take_all unknown params) left e in
    params_stay live unknown params s.value left base k s.then
    ∙ moves_place live own s.value 1 0 base
    (λ l. let f = take_one-length I32 own s.value (subst (λ (u : Bool). take_one u I32 own ≡ Some s.value) (all_known live unknown k l) s.is) in (length s.value, f, omega arith))

-- ---- one rule

pub record RulePlaces (r : Rule) (o after : Operands) : Type 0 where
  pub known : IsKnown after.live after.unknown
  pub place : (base : ℕ) → guarded after.live (length after.own + base) ≡ after_rule r (guarded o.live (length o.own + base))

along : (r : Rule) (o x y : Operands) → Some x ≡ Some y → RulePlaces r o x → RulePlaces r o y
along r o x y e p = subst (λ (z : Operands). RulePlaces r o z) (some_inside x y e) p

pub rule_places : (r : Rule) (o after : Operands) → IsKnown o.live o.unknown → apply r o ≡ Some after → RulePlaces r o after
rule_places Untyped o after k e = absurd (cc)
rule_places (Fixed params results) o after k e =
    let s = through (take_all o.unknown params o.own) (λ own. Some (put o (known results ++ own))) after e in
    along (Fixed params results) o (put o (known results ++ s.value)) after s.then
    (record { known = k; place = λ base. types_move o.live o.unknown params results o.own s.value base k s.is })
rule_places (Stops params) o after k e =
    let stopped : Operands = record { own = []; unknown = true; live = false } in
    let s = through (take_all o.unknown params o.own) (λ own. Some stopped) after e in
    along (Stops params) o stopped after s.then (record { known = tt; place = λ base. refl })
rule_places Discards o after k e =
    let s = through (take_any o.unknown o.own) (λ x. Some (put o x.left)) after e in
    along Discards o (put o s.value.left) after s.then
    (record {
      known = k;
      place = λ base. moves_place o.live o.own s.value.left 1 0 base
          (λ l. let f = take_any-length o.own s.value (subst (λ (u : Bool). take_any u o.own ≡ Some s.value) (all_known o.live o.unknown k l) s.is) in (length s.value.left, f, omega arith));
    })
rule_places Selects o after k e =
    let s = through (take_one o.unknown I32 o.own) (λ own. take_any o.unknown own >>= λ x. take_any o.unknown x.left >>= λ y. joined x.operand y.operand >>= λ t. Some (put o (t ∷ y.left))) after e in
    let x = through (take_any o.unknown s.value) (λ x. take_any o.unknown x.left >>= λ y. joined x.operand y.operand >>= λ t. Some (put o (t ∷ y.left))) after s.then in
    let y = through (take_any o.unknown x.value.left) (λ y. joined x.value.operand y.operand >>= λ t. Some (put o (t ∷ y.left))) after x.then in
    let q = through (joined x.value.operand y.value.operand) (λ t. Some (put o (t ∷ y.value.left))) after y.then in
    along Selects o (put o (q.value ∷ y.value.left)) after q.then
    (record {
      known = k;
      place = λ base. moves_place o.live o.own (q.value ∷ y.value.left) 3 1 base
          (λ l.
          let u = all_known o.live o.unknown k l in
          let f = take_one-length I32 o.own s.value (subst (λ (u : Bool). take_one u I32 o.own ≡ Some s.value) u s.is) in
          let g = take_any-length s.value x.value (subst (λ (u : Bool). take_any u s.value ≡ Some x.value) u x.is) in
          let h = take_any-length x.value.left y.value (subst (λ (u : Bool). take_any u x.value.left ≡ Some y.value) u y.is) in
          (length y.value.left, omega arith, omega arith));
    })
