-- Steps of the frames, from what becomes of the operands.
use Rattle.std.proofs.Common.{refl, ◌<◌, ◌≡◌, ℕ, ◌-◌, ◌≤◌, Bool, true, false, List, [], ◌∷◌, ◌++◌, length, take, drop, Option, None, Some, Result, Ok, Err, sym, ap, ◌∙◌, subst, arith}
use Rattle.std.specs.Prelude.{reverse, is_some}
use Rattle.std.proofs.lemmas.List.{length-append, length-take-le, take-append-le, drop_all, take-take}
use Rattle.wasm_defs.specs.Typing.{Types, Fixed, Stops, Discards, Selects}
use Rattle.body_validator.specs.declared.stack.Frame.{Frame as Flat}
use Rattle.body_validator.specs.declared.kept.Operands.{Operands}
use Rattle.body_validator.specs.declared.operands.Stop.{Stop}
use Rattle.body_validator.specs.declared.operands.Stop.TheVariants.{Refused, NoMemory}
use Rattle.body_validator.specs.Checking.{Operand, Operands as Checked, Frames, ◌>>=◌, known, take_all, Taken, take_any, put, applied}
use Rattle.body_validator.specs.Stacks.{own_of, frame_of, frames_of, HasLast, IsLaid}
use Rattle.body_validator.specs.Exchange.{Exchanges, TakesOne, TakesThree, Steps, Tries}
use Rattle.body_validator.specs.Kept.{flat, IsKept, IsSeen, IsSeenFrom, IsTried}
use Rattle.body_validator.proofs.Laying.{base_seen}
use Rattle.body_validator.proofs.Options.{some_inside}
use Rattle.body_validator.proofs.Flat.{take_all-drop}
use Rattle.body_validator.proofs.Frames.{last_in, discard_steps, select_applied}

pub seen_from : (all : List Flat) (f : Flat) (rest : List Flat) (o : Operands) → all ≡ f ∷ rest → IsSeen f.base f.unknown o → IsSeenFrom all o
seen_from all f rest o e h = subst (λ (x : List Flat). IsSeenFrom x o) (sym e) h

pub kept_from : (all : List Flat) (o : Operands) → IsSeenFrom all o → IsKept o
kept_from [] o h = h
kept_from (f ∷ fs) o h = h.kept

pub last_seen : (slice items : List Flat) (f : Flat) (o : Operands) → slice ≡ items → HasLast slice f → IsSeenFrom (reverse items) o → IsSeen f.base f.unknown o
last_seen slice items f o e h s = subst (λ (x : List Flat). IsSeenFrom x o) (last_in slice items f e h) s

-- what is above the innermost base changes
laid_again : (all : List Flat) (f : Flat) (rest : List Flat) (old new : List Operand) → all ≡ f ∷ rest → IsLaid all old → take f.base new ≡ take f.base old → f.base ≤ length new → IsLaid all new
laid_again all f rest old new is h e within =
    let inside = subst (λ (x : List Flat). IsLaid x old) is h in
    subst (λ (x : List Flat). IsLaid x new) (sym is) (within, subst (λ (x : List Operand). IsLaid rest x) (sym e) inside.1)

-- what is above the base of the last of these changes
pub last_again : (slice items : List Flat) (f : Flat) (o n : Operands) → slice ≡ items → HasLast slice f → IsLaid (reverse items) (flat o) → take f.base (flat n) ≡ take f.base (flat o)
    → IsSeen f.base f.unknown n → IsLaid (reverse items) (flat n) × IsSeenFrom (reverse items) n
last_again slice items f o n e h laid below seen =
    let rest = reverse (take (length items - 1) items) in
    let is = last_in slice items f e h in
    (laid_again (reverse items) f rest (flat o) (flat n) is laid below (base_seen f.base f.unknown n seen), seen_from (reverse items) f rest n is seen)

made : (o : Option (List Operand)) (g : Types) (x : Checked) (r : List Operand) (k : Checked → Frames) → (o >>= λ left. Some (known g ++ left)) ≡ Some r
    → ((o >>= λ own. Some (put x (known g ++ own))) >>= λ y. Some (k y)) ≡ Some (k (put x r))
made None g x r k e = absurd (cc)
made (Some own) g x r k e = ap (λ (z : List Operand). Some (k (put x z))) (some_inside (known g ++ own) r e)

pub exchange_steps : (all : List Flat) (f : Flat) (rest : List Flat) (p g : Types) (result : Result (Unit {0}) Stop) (old new : List Operand) → all ≡ f ∷ rest
    → Exchanges f.unknown f.base p g result old new → take f.base new ≡ take f.base old → Steps (applied (Fixed p g) (frames_of all old)) result (frames_of all old) (frames_of all new)
exchange_steps all f rest p g (Ok done) old new is e below =
    let o = (frame_of f old).operands in
    ap (λ (y : List Flat). applied (Fixed p g) (frames_of y old)) is
    ∙ made (take_all f.unknown p (own_of old f.base)) g o (own_of new f.base) (λ y. record (frame_of f old) { operands = y } ∷ frames_of rest (take f.base old)) e
    ∙ ap (λ (z : List Operand). Some (record (frame_of f old) { operands = put o (own_of new f.base) } ∷ frames_of rest z)) (sym below)
    ∙ ap (λ (y : List Flat). Some (frames_of y new)) (sym is)
exchange_steps all f rest p g (Err Refused) old new is e below =
    let o = (frame_of f old).operands in (
      ap (λ (y : List Flat). applied (Fixed p g) (frames_of y old)) is
          ∙ ap (λ (x : Option (List Operand)). (x >>= λ own. Some (put o (known g ++ own))) >>= λ y. Some (record (frame_of f old) { operands = y } ∷ frames_of rest (take f.base old))) e.0,
      ap (frames_of all) e.1,
    )
exchange_steps all f rest p g (Err NoMemory) old new is e below = ap (frames_of all) e

no_own : (old : List Operand) (base : ℕ) → length old ≡ base → own_of old base ≡ []
no_own old base e = ap reverse (drop_all base old (omega (arith, e)))

pub discards : (all : List Flat) (f : Flat) (rest : List Flat) (result : Result (Unit {0}) Stop) (old new : List Operand) → all ≡ f ∷ rest → f.base ≤ length old
    → TakesOne f.unknown f.base result old new → take f.base new ≡ take f.base old → Steps (applied Discards (frames_of all old)) result (frames_of all old) (frames_of all new)
discards all f rest (Ok done) old new is within e below = discard_steps all f rest old new is e.1 within e.0 below
discards all f rest (Err Refused) old new is within e below =
    let o = (frame_of f old).operands in
    let none : take_any f.unknown (own_of old f.base) ≡ None = ap (take_any f.unknown) (no_own old f.base e.0) ∙ ap (λ (b : Bool). take_any b []) e.1 in (
      ap (λ (y : List Flat). applied Discards (frames_of y old)) is
          ∙ ap (λ (x : Option Taken). (x >>= λ z. Some (put o z.left)) >>= λ y. Some (record (frame_of f old) { operands = y } ∷ frames_of rest (take f.base old))) none,
      ap (frames_of all) e.2,
    )
discards all f rest (Err NoMemory) old new is within e below = ap (frames_of all) e

pub selects : (all : List Flat) (f : Flat) (rest : List Flat) (result : Result (Unit {0}) Stop) (old new : List Operand) → all ≡ f ∷ rest
    → TakesThree f.unknown f.base result old new → take f.base new ≡ take f.base old → Steps (applied Selects (frames_of all old)) result (frames_of all old) (frames_of all new)
selects all f rest (Ok done) old new is e below =
    let o = (frame_of f old).operands in
    let make : List Operand → List Operand → Frames = λ x z. record (frame_of f old) { operands = put o x } ∷ frames_of rest z in
    ap (λ (y : List Flat). applied Selects (frames_of y old)) is
    ∙ ap (λ (x : Option Checked). x >>= λ y. Some (record (frame_of f old) { operands = y } ∷ frames_of rest (take f.base old)))
    (select_applied o ∙ ap (λ (x : Option Operand). x >>= λ t. Some (put o (t ∷ drop 3 o.own))) e.1)
    ∙ ap (λ (x : List Operand). Some (make x (take f.base old))) (sym e.2) ∙ ap (λ (z : List Operand). Some (make (own_of new f.base) z)) (sym below)
    ∙ ap (λ (y : List Flat). Some (frames_of y new)) (sym is)
selects all f rest (Err Refused) old new is e below =
    let o = (frame_of f old).operands in (
      ap (λ (y : List Flat). applied Selects (frames_of y old)) is
          ∙ ap (λ (x : Option Checked). x >>= λ y. Some (record (frame_of f old) { operands = y } ∷ frames_of rest (take f.base old)))
          (select_applied o ∙ ap (λ (x : Option Operand). x >>= λ t. Some (put o (t ∷ drop 3 o.own))) e.0),
      ap (frames_of all) e.1,
    )
selects all f rest (Err NoMemory) old new is e below = ap (frames_of all) e

abbrev stopped : Flat → Flat
stopped f = record f { unknown = true; live = false }

pub stop_steps : (all after : List Flat) (f : Flat) (rest : List Flat) (p : Types) (old new : List Operand) → all ≡ f ∷ rest → after ≡ stopped f ∷ rest → f.base ≤ length old
    → is_some (take_all f.unknown p (own_of old f.base)) ≡ true → new ≡ take f.base old → applied (Stops p) (frames_of all old) ≡ Some (frames_of after new)
stop_steps all after f rest p old new is later within found e =
    let o = (frame_of f old).operands in
    let bare : Checked = record { own = []; unknown = true; live = false } in
    let none : own_of new f.base ≡ [] = no_own new f.base (ap length e ∙ length-take-le f.base old within) in
    let same : take f.base new ≡ take f.base old = ap (take f.base) e ∙ take-take f.base f.base old (omega arith) in
    let make : List Operand → List Operand → Frames = λ x z. record (frame_of f old) { operands = record { own = x; unknown = true; live = false } } ∷ frames_of rest z in
    ap (λ (y : List Flat). applied (Stops p) (frames_of y old)) is
    ∙ ap (λ (x : Option (List Operand)). (x >>= λ own. Some bare) >>= λ y. Some (record (frame_of f old) { operands = y } ∷ frames_of rest (take f.base old))) (take_all-drop f.unknown p (own_of old f.base) found)
    ∙ ap (λ (x : List Operand). Some (make x (take f.base old))) (sym none) ∙ ap (λ (z : List Operand). Some (make (own_of new f.base) z)) (sym same)
    ∙ ap (λ (y : List Flat). Some (frames_of y new)) (sym later)

-- the frames with other ones in place of the innermost
pub laid_with : (all after : List Flat) (f g : Flat) (rest : List Flat) (old new : List Operand) → all ≡ f ∷ rest → after ≡ g ∷ rest → g.base ≡ f.base → IsLaid all old
    → take f.base new ≡ take f.base old → f.base ≤ length new → IsLaid after new
laid_with all after f g rest old new is later e h same within =
    let inside = subst (λ (x : List Flat). IsLaid x old) is h in
    let below : take g.base new ≡ take f.base old = ap (λ (k : ℕ). take k new) e ∙ same in
    subst (λ (x : List Flat). IsLaid x new) (sym later) (omega (arith, e, within), subst (λ (x : List Operand). IsLaid rest x) (sym below) inside.1)

pub laid_inside : (all after : List Flat) (f g : Flat) (rest : List Flat) (old left new : List Operand) → all ≡ f ∷ rest → after ≡ g ∷ f ∷ rest → IsLaid all old
    → take f.base left ≡ take f.base old → f.base ≤ length left → take g.base new ≡ left → g.base ≤ length new → IsLaid after new
laid_inside all after f g rest old left new is later h same within front above =
    let under = subst (λ (x : List Flat). IsLaid x left) is (laid_again all f rest old left is h same within) in
    subst (λ (x : List Flat). IsLaid x new) (sym later) (above, subst (λ (x : List Operand). IsLaid (f ∷ rest) x) (sym front) under)

-- others are put on what is below a base
pub put_below : (items more new : List Operand) (base : ℕ) → base ≤ length items → new ≡ take base items ++ more → (take base new ≡ take base items) × (base ≤ length new)
put_below items more new base h e =
    let long = length-take-le base items h in (
      ap (take base) e ∙ take-append-le base (take base items) more (omega (arith, long)) ∙ take-take base base items (omega arith),
      omega (arith, ap length e, length-append (take base items) more, long),
    )

pub not_none : {A : Type 0} (xs : List A) (x : A) (rest : List A) → xs ≡ x ∷ rest → xs ≡ [] → ⊥
not_none xs x rest e f = let bad : x ∷ rest ≡ [] = sym e ∙ f in absurd (cc)

-- ---- single operands of the innermost frame, whichever that is

abbrev pub IsTriedAt : Types → Types → Result (Unit {0}) Stop → Operands → Operands → Type 0
IsTriedAt p g result o n = (base : ℕ) (unknown : Bool) → IsSeen base unknown o → IsTried base unknown p g result o n

pub tried_steps : (all : List Flat) (p g : Types) (o n : Operands) (result : Result (Unit {0}) Stop) (done : Unit {0}) → result ≡ Ok done → 0 < length all → IsSeenFrom all o → IsTriedAt p g result o n
    → applied (Fixed p g) (frames_of all (flat o)) ≡ Some (frames_of all (flat n))
tried_steps [] p g o n result done e h s t = absurd (omega arith)
tried_steps (f ∷ fs) p g o n result done e h s t =
    let w = subst (λ (r : Result (Unit {0}) Stop). IsTried f.base f.unknown p g r o n) e (t f.base f.unknown s) in
    exchange_steps (f ∷ fs) f fs p g (Ok done) (flat o) (flat n) refl w.0 w.1

pub tried_laid : (all : List Flat) (p g : Types) (o n : Operands) (result : Result (Unit {0}) Stop) → 0 < length all → IsLaid all (flat o) → IsSeenFrom all o → IsTriedAt p g result o n
    → IsLaid all (flat n) × IsSeenFrom all n
tried_laid [] p g o n result h laid s t = absurd (omega arith)
tried_laid (f ∷ fs) p g o n (Ok done) h laid s t =
    let w = t f.base f.unknown s in
    (laid_again (f ∷ fs) f fs (flat o) (flat n) refl laid w.1 (base_seen f.base f.unknown n w.2), w.2)
tried_laid (f ∷ fs) p g o n (Err stop) h laid s t =
    let w = t f.base f.unknown s in
    (subst (λ (x : List Operand). IsLaid (f ∷ fs) x) (sym w.0) laid, w.1)

pub tried_same : (all : List Flat) (p g : Types) (o n : Operands) (result : Result (Unit {0}) Stop) (stop : Stop) → result ≡ Err stop → 0 < length all → IsSeenFrom all o → IsTriedAt p g result o n
    → flat n ≡ flat o
tried_same [] p g o n result stop e h s t = absurd (omega arith)
tried_same (f ∷ fs) p g o n result stop e h s t = (subst (λ (r : Result (Unit {0}) Stop). IsTried f.base f.unknown p g r o n) e (t f.base f.unknown s)).0

pub tried_tries : (all : List Flat) (p g : Types) (o n : Operands) (result : Result (Unit {0}) Stop) → 0 < length all → IsSeenFrom all o → IsTriedAt p g result o n
    → Tries (applied (Fixed p g) (frames_of all (flat o))) result (frames_of all (flat o)) (frames_of all (flat n))
tried_tries all p g o n (Ok done) h s t = tried_steps all p g o n (Ok done) done refl h s t
tried_tries all p g o n (Err stop) h s t = ap (frames_of all) (tried_same all p g o n (Err stop) stop refl h s t)

-- ---- an instruction that was tried, and then taken by its rule

pub tries_same : (answer : Option Frames) (result : Result (Unit {0}) Stop) (stop : Stop) (old new : Frames) → result ≡ Err stop → Tries answer result old new → new ≡ old
tries_same answer result stop old new is t = subst (λ (r : Result (Unit {0}) Stop). Tries answer r old new) is t
