-- Instruction words that are before others.
use Rattle.std.proofs.Common.{◌≡◌, ◌≤◌, ℕ, Result, Ok, Err, List, ◌++◌, length, take, refl, sym, ap, ◌∙◌, subst, arith}
use Rattle.std.specs.Prelude.{OnOk, OnErr}
use Rattle.std.proofs.lemmas.List.{length-take, take_all, take_at, take-take}
use Rattle.control_emit.specs.Emits.{IsFront}

pub front-same : (old new : List ℕ) → new ≡ old → IsFront old new
front-same old new e = ap (take (length old)) e ∙ take_all (length old) old (omega arith)

pub front-of : (old new more : List ℕ) → new ≡ old ++ more → IsFront old new
front-of old new more e = ap (take (length old)) e ∙ take_at old more (length old) refl

pub front-either : {A B : Type 0} (r : Result A B) (old new more : List ℕ) → OnOk r (new ≡ old ++ more) → OnErr r (new ≡ old) → IsFront old new
front-either (Ok x) old new more e f = front-of old new more e
front-either (Err x) old new more e f = front-same old new f

pub front-later : (old mid new : List ℕ) → IsFront old mid → IsFront mid new → IsFront old new
front-later old mid new first second =
    let fewer : length old ≤ length mid = omega (arith, ap (λ (l : List ℕ). length l) first, length-take (length old) mid) in
    sym (take-take (length old) (length mid) new fewer) ∙ ap (take (length old)) second ∙ first

-- what an outcome says of the words holds of the same words
pub settles : {A B : Type 0} (P : List ℕ → Type 0) (r s : Result A B) (mid new : List ℕ) → s ≡ r → OnOk r (new ≡ mid) → OnOk r (P mid) → OnOk s (P new)
settles P r s mid new e same p = subst (λ (t : Result _ _). OnOk t (P new)) (sym e) (here r same p)
  where
    here : {A B : Type 0} (t : Result A B) → OnOk t (new ≡ mid) → OnOk t (P mid) → OnOk t (P new)
    here (Ok x) f q = subst P (sym f) q
    here (Err x) f q = tt

-- words are taken back where memory ran out, and so the prefix stays
pub settled-front : {A B : Type 0} (r : Result A B) (old mid new : List ℕ) → IsFront old mid → OnOk r (new ≡ mid) → OnErr r (new ≡ old) → IsFront old new
settled-front (Ok x) old mid new front same back = subst (IsFront old) (sym same) front
settled-front (Err x) old mid new front same back = front-same old new back

pub on_err : {A B : Type 0} {P Q : Type 0} (r : Result A B) → (P → Q) → OnErr r P → OnErr r Q
on_err (Ok x) f h = tt
on_err (Err x) f h = f h

pub always_err : {A B : Type 0} {P : Type 0} (r : Result A B) → P → OnErr r P
always_err (Ok x) h = tt
always_err (Err x) h = h
