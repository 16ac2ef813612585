-- What a reader met before an error begins the encoding of some value.
use Rattle.std.proofs.Common.{◌≡◌, ◌⊎◌, ℕ, zero, suc, ◌-◌, ◌≤◌, Bool, true, false, cond, List, [], ◌∷◌, ◌++◌, length, take, Result, Ok, Err, inl, inr, refl, sym, ap, subst, ◌∙◌, append_assoc, length-append, arith}
use Rattle.std.specs.List.{flat_map}
use Rattle.std.proofs.lemmas.List.{append-nil}
use Rattle.std.proofs.lemmas.List.Concat.{flat_map-cons}
use Rattle.std.proofs.lemmas.Grind.{flat_map-append}
use Rattle.image_format.specs.declared.fault.Fault.{Fault}
use Rattle.image_format.specs.declared.fault.Fault.TheVariants.{At}
use Rattle.image_format.specs.Bounds.{Each}
use Rattle.image_format.specs.Reading.{Reader, ◌>>=◌, ◌▹◌, passing, as_value, each, listed_at}
use Rattle.image_format.proofs.Readers.{IsBytes, Inside, Field, each-inside}
use Rattle.image_format.proofs.Whole.{take-long}

-- the bytes before the error
abbrev pub cut : (left : ℕ) → List ℕ → List ℕ
cut left bytes = take (length bytes - left) bytes

-- a value that fits
abbrev pub Some : {A : Type 0} → (A → Type 0) → Type 0
Some {A} P = (x : A) × P x

-- a value whose encoding begins so
pub record Begun {A : Type 0} (Fits : A → Type 0) (spell : A → List ℕ) (prefix : List ℕ) : Type 0 where
  pub value : A
  pub more : List ℕ
  pub fits : Fits value
  pub spelled : spell value ≡ prefix ++ more

-- before each error a value's encoding begins, or the bytes are such that none does
pub record Before {A : Type 0} (Stuck : List ℕ → Type 0) (Fits : A → Type 0) (spell : A → List ℕ) (read : Reader A) : Type 0 where
  pub by : (bytes : List ℕ) (left : ℕ) → IsBytes bytes → read bytes ≡ Err (At left) → Begun Fits spell (cut left bytes) ⊎ Stuck (cut left bytes)
  pub inside : (bytes : List ℕ) (left : ℕ) → IsBytes bytes → read bytes ≡ Err (At left) → left ≤ length bytes

-- ---- steps

abbrev fault : {A : Type 0} → Fault → Result A Fault
fault d = Err d

-- the error is the first step's, or the second one's
pub bind_err : {A B : Type 0} (r : Result A Fault) (f : A → Result B Fault) (d : Fault) → (r >>= f) ≡ Err d
    → (r ≡ Err d) ⊎ ((x : A) × (r ≡ Ok x) × (f x ≡ Err d))
bind_err (Ok x) f d e = inr (x, refl, e)
bind_err {A} {B} (Err c) f d e = let same : c ≡ d = cc in inl (ap (λ (b : Fault). fault {A = A} b) same)

pub ok_no_err : {A : Type 0} (x : A) (d : Fault) → Path (Result A Fault) (Ok x) (Err d) → ⊥
ok_no_err x d e = absurd cc

pub cut-after : (xs ys : List ℕ) (left : ℕ) → left ≤ length ys → cut left (xs ++ ys) ≡ xs ++ cut left ys
cut-after xs ys left le = take-long xs ys (length (xs ++ ys) - left) (length ys - left) (omega (arith, length-append xs ys))

-- where nothing is left out
pub cut-all : (bytes : List ℕ) (left : ℕ) → left ≡ length bytes → cut left bytes ≡ []
cut-all bytes left e = let none : length bytes - left ≡ 0 = omega (arith, e) in ap (λ (n : ℕ). take n bytes) none

-- an error leaves no more than there was
pub err_inside : {A : Type 0} (n : ℕ) (r : Result (A × List ℕ) Fault) (left : ℕ) → Inside n r → r ≡ Err (At left) → left ≤ n
err_inside {A} n r left h e = subst (λ (x : Result (A × List ℕ) Fault). Inside n x) e h

-- ---- readers whose only error is at their first byte, or that have none

pub record Sudden {A : Type 0} (read : Reader A) : Type 0 where
  pub at : (bytes : List ℕ) (left : ℕ) → read bytes ≡ Err (At left) → left ≡ length bytes

pub record Smooth {A : Type 0} (read : Reader A) : Type 0 where
  pub never : (bytes : List ℕ) (left : ℕ) → read bytes ≡ Err (At left) → ⊥

pub before_sudden : {A : Type 0} {Stuck : List ℕ → Type 0} {P : A → Type 0} {s : A → List ℕ} {p : Reader A} → Sudden p → Some P → Before Stuck P s p
before_sudden {A} {Stuck} {P} {s} {p} sudden some = record {
  by = λ bytes left fits e. inl (record { value = some.0; more = s some.0; fits = some.1; spelled = ap (λ (l : List ℕ). l ++ s some.0) (sym (cut-all bytes left (sudden.at bytes left e))) });
  inside = λ bytes left fits e. omega (arith, sudden.at bytes left e);
}

pub before_smooth : {A : Type 0} {Stuck : List ℕ → Type 0} {P : A → Type 0} {s : A → List ℕ} {p : Reader A} → Smooth p → Before Stuck P s p
before_smooth smooth = record { by = λ bytes left fits e. absurd (smooth.never bytes left e); inside = λ bytes left fits e. absurd (smooth.never bytes left e) }

pub smooth_sudden : {A : Type 0} {p : Reader A} → Smooth p → Sudden p
smooth_sudden smooth = record { at = λ bytes left e. absurd (smooth.never bytes left e) }

left_is : {A : Type 0} (m n : ℕ) → fault {A = A} (At m) ≡ fault {A = A} (At n) → m ≡ n
left_is m n e = cc

tested : {A : Type 0} (b : Bool) (x : A) (m n : ℕ) → cond b (Ok x) (Err (At m)) ≡ Err (At n) → n ≡ m
tested true x m n e = absurd (ok_no_err x (At n) e)
tested {A} false x m n e = sym (left_is {A = A} m n e)

pub sudden_passing : {A : Type 0} {p : Reader A} (test : A → Bool) → Sudden p → Sudden (passing test p)
sudden_passing {A} {p} test sudden = record {
  at = λ bytes left e. elim (bind_err (p bytes) (λ x. cond (test x.0) (Ok x) (Err (At (length bytes)))) (At left) e) [
    | inl first ↦ sudden.at bytes left first
    | inr (x, ok, second) ↦ tested (test x.0) x (length bytes) left second
  ];
}

pub sudden_as : {A B : Type 0} {p : Reader A} (f : A → B) → Sudden p → Sudden (as_value f p)
sudden_as {A} {B} {p} f sudden = record {
  at = λ bytes left e. elim (bind_err (p bytes) (λ x. Ok (f x.0, x.1)) (At left) e) [
    | inl first ↦ sudden.at bytes left first
    | inr (x, ok, second) ↦ absurd (ok_no_err (f x.0, x.1) (At left) second)
  ];
}

pub sudden_then : {A B : Type 0} {p : Reader A} {q : A → Reader B} → Sudden p → ((x : A) → Smooth (q x)) → Sudden (p ▹ q)
sudden_then {A} {B} {p} {q} sudden smooth = record {
  at = λ bytes left e. elim (bind_err (p bytes) (λ x. q x.0 x.1 >>= λ y. Ok ((x.0, y.0), y.1)) (At left) e) [
    | inl first ↦ sudden.at bytes left first
    | inr (x, ok, second) ↦ elim (bind_err (q x.0 x.1) (λ y. Ok ((x.0, y.0), y.1)) (At left) second) [
      | inl third ↦ absurd ((smooth x.0).never x.1 left third)
      | inr (y, good, last) ↦ absurd (ok_no_err ((x.0, y.0), y.1) (At left) last)
    ]
  ];
}

pub smooth_then : {A B : Type 0} {p : Reader A} {q : A → Reader B} → Smooth p → ((x : A) → Smooth (q x)) → Smooth (p ▹ q)
smooth_then {A} {B} {p} {q} one two = record {
  never = λ bytes left e. elim (bind_err (p bytes) (λ x. q x.0 x.1 >>= λ y. Ok ((x.0, y.0), y.1)) (At left) e) [
    | inl first ↦ one.never bytes left first
    | inr (x, ok, second) ↦ elim (bind_err (q x.0 x.1) (λ y. Ok ((x.0, y.0), y.1)) (At left) second) [
      | inl third ↦ (two x.0).never x.1 left third
      | inr (y, good, last) ↦ ok_no_err ((x.0, y.0), y.1) (At left) last
    ]
  ];
}

pub smooth_as : {A B : Type 0} {p : Reader A} (f : A → B) → Smooth p → Smooth (as_value f p)
smooth_as {A} {B} {p} f smooth = record {
  never = λ bytes left e. elim (bind_err (p bytes) (λ x. Ok (f x.0, x.1)) (At left) e) [
    | inl first ↦ smooth.never bytes left first
    | inr (x, ok, second) ↦ ok_no_err (f x.0, x.1) (At left) second
  ];
}

-- ---- one field and then another

pub some_then : {A B : Type 0} {P : A → Type 0} {Q : A → B → Type 0} → Some P → ((x : A) → P x → Some (Q x)) → Some (λ (z : A × B). P z.0 × Q z.0 z.1)
some_then first second = let y = second first.0 first.1 in ((first.0, y.0), (first.1, y.1))

module _ {A B : Type 0} (P : A → Type 0) (Q : A → B → Type 0) (s : A → List ℕ) (t : A → B → List ℕ) where
  abbrev Both : List ℕ → Type 0
  Both = Begun (λ (z : A × B). P z.0 × Q z.0 z.1) (λ (z : A × B). s z.0 ++ t z.0 z.1)

  begun_first : ((x : A) → P x → Some (Q x)) → (prefix : List ℕ) → Begun P s prefix → Both prefix
  begun_first some prefix b =
      let y = some b.value b.fits in
      record { value = (b.value, y.0); more = b.more ++ t b.value y.0; fits = (b.fits, y.1); spelled = ap (λ (l : List ℕ). l ++ t b.value y.0) b.spelled ∙ append_assoc prefix b.more (t b.value y.0) }

  begun_second : (x : A) → P x → (prefix : List ℕ) → Begun (Q x) (t x) prefix → Both (s x ++ prefix)
  begun_second x fits prefix b = record { value = (x, b.value); more = b.more; fits = (fits, b.fits); spelled = ap (λ (l : List ℕ). s x ++ l) b.spelled ∙ sym (append_assoc (s x) prefix b.more) }

module _ {A B : Type 0} {Stuck : List ℕ → Type 0} {P : A → Type 0} {Q : A → B → Type 0} {s : A → List ℕ} {t : A → B → List ℕ} {p : Reader A} {q : A → Reader B} where
  before_steps : Field P s p → ((bytes : List ℕ) (left : ℕ) → IsBytes bytes → p bytes ≡ Err (At left) → Both P Q s t (cut left bytes) ⊎ Stuck (cut left bytes))
      → ((x : A) → P x → Before (λ (r : List ℕ). Stuck (s x ++ r)) (Q x) (t x) (q x))
      → Before Stuck (λ (z : A × B). P z.0 × Q z.0 z.1) (λ (z : A × B). s z.0 ++ t z.0 z.1) (p ▹ q)
  before_steps one first second = record {
    by = λ bytes left fits e. elim (bind_err (p bytes) (λ x. q x.0 x.1 >>= λ y. Ok ((x.0, y.0), y.1)) (At left) e) [
      | inl err ↦ first bytes left fits err
      | inr (x, ok, err) ↦ elim (bind_err (q x.0 x.1) (λ y. Ok ((x.0, y.0), y.1)) (At left) err) [
        | inl last ↦
            let taken = one.takes bytes x fits ok in
            let le = (second x.0 taken.1).inside x.1 left taken.0.rest_fits last in
            let same : s x.0 ++ cut left x.1 ≡ cut left bytes = sym (ap (cut left) taken.0.parts ∙ cut-after (s x.0) x.1 left le) in
            subst (λ (r : List ℕ). Both P Q s t r ⊎ Stuck r) same (elim ((second x.0 taken.1).by x.1 left taken.0.rest_fits last) [
              | inl b ↦ inl (begun_second P Q s t x.0 taken.1 (cut left x.1) b)
              | inr stuck ↦ inr stuck
            ])
        | inr (y, good, last) ↦ absurd (ok_no_err ((x.0, y.0), y.1) (At left) last)
      ]
    ];
    inside = λ bytes left fits e. elim (bind_err (p bytes) (λ x. q x.0 x.1 >>= λ y. Ok ((x.0, y.0), y.1)) (At left) e) [
      | inl err ↦ err_inside (length bytes) (p bytes) left (one.inside bytes) err
      | inr (x, ok, err) ↦ elim (bind_err (q x.0 x.1) (λ y. Ok ((x.0, y.0), y.1)) (At left) err) [
        | inl last ↦
            let taken = one.takes bytes x fits ok in
            omega (arith, (second x.0 taken.1).inside x.1 left taken.0.rest_fits last, ap length taken.0.parts, length-append (s x.0) x.1)
        | inr (y, good, last) ↦ absurd (ok_no_err ((x.0, y.0), y.1) (At left) last)
      ]
    ];
  }

  -- where each first value has a second one
  pub before_then : Field P s p → Before Stuck P s p → ((x : A) → P x → Some (Q x))
      → ((x : A) → P x → Before (λ (r : List ℕ). Stuck (s x ++ r)) (Q x) (t x) (q x))
      → Before Stuck (λ (z : A × B). P z.0 × Q z.0 z.1) (λ (z : A × B). s z.0 ++ t z.0 z.1) (p ▹ q)
  before_then one first some second = before_steps one first_by second
    where
      first_by : (bytes : List ℕ) (left : ℕ) → IsBytes bytes → p bytes ≡ Err (At left) → Both P Q s t (cut left bytes) ⊎ Stuck (cut left bytes)
      first_by bytes left fits err = elim (first.by bytes left fits err) [
        | inl b ↦ inl (begun_first P Q s t some (cut left bytes) b)
        | inr stuck ↦ inr stuck
      ]

  -- where the first one is never bad
  pub before_behind : Field P s p → Smooth p → ((x : A) → P x → Before (λ (r : List ℕ). Stuck (s x ++ r)) (Q x) (t x) (q x))
      → Before Stuck (λ (z : A × B). P z.0 × Q z.0 z.1) (λ (z : A × B). s z.0 ++ t z.0 z.1) (p ▹ q)
  before_behind one smooth second = before_steps one (λ bytes left fits err. absurd (smooth.never bytes left err)) second

-- ---- seen as another value

pub before_as : {A B : Type 0} {Stuck : List ℕ → Type 0} {P : A → Type 0} {s : A → List ℕ} {p : Reader A} (f : A → B) (Q : B → Type 0) (t : B → List ℕ)
    → ((x : A) → P x → Q (f x) × (t (f x) ≡ s x)) → Before Stuck P s p → Before Stuck Q t (as_value f p)
before_as {A} {B} {Stuck} {P} {s} {p} f Q t to before = record {
  by = λ bytes left fits e. elim (bind_err (p bytes) (λ x. Ok (f x.0, x.1)) (At left) e) [
    | inl err ↦ elim (before.by bytes left fits err) [
      | inl b ↦ inl (record { value = f b.value; more = b.more; fits = (to b.value b.fits).0; spelled = (to b.value b.fits).1 ∙ b.spelled })
      | inr stuck ↦ inr stuck
    ]
    | inr (x, ok, last) ↦ absurd (ok_no_err (f x.0, x.1) (At left) last)
  ];
  inside = λ bytes left fits e. elim (bind_err (p bytes) (λ x. Ok (f x.0, x.1)) (At left) e) [
    | inl err ↦ before.inside bytes left fits err
    | inr (x, ok, last) ↦ absurd (ok_no_err (f x.0, x.1) (At left) last)
  ];
}

pub before_like : {A : Type 0} {Stuck : List ℕ → Type 0} {P Q : A → Type 0} {s : A → List ℕ} {p : Reader A} → ((x : A) → P x → Q x) → Before Stuck P s p
    → Before Stuck Q s p
before_like to before = record {
  by = λ bytes left fits e. elim (before.by bytes left fits e) [
    | inl b ↦ inl (record { value = b.value; more = b.more; fits = to b.value b.fits; spelled = b.spelled })
    | inr stuck ↦ inr stuck
  ];
  inside = before.inside;
}

-- where no value goes on
pub before_stuck : {A : Type 0} {Stuck : List ℕ → Type 0} {P : A → Type 0} {s : A → List ℕ} {p : Reader A} → Sudden p → Stuck [] → Before Stuck P s p
before_stuck {A} {Stuck} sudden stuck = record { by = λ bytes left fits e. inr (subst Stuck (sym (cut-all bytes left (sudden.at bytes left e))) stuck); inside = λ bytes left fits e. omega (arith, sudden.at bytes left e) }

-- what is never stuck
pub before_any : {A : Type 0} {Stuck : List ℕ → Type 0} {P : A → Type 0} {s : A → List ℕ} {p : Reader A} → Before (λ (r : List ℕ). ⊥) P s p → Before Stuck P s p
before_any before = record {
  by = λ bytes left fits e. elim (before.by bytes left fits e) [
    | inl b ↦ inl b
    | inr stuck ↦ absurd stuck
  ];
  inside = before.inside;
}

-- ---- items in a row

module _ {A : Type 0} {P : List A → A → Type 0} {s : A → List ℕ} {item : List A → Reader A} (field : (front : List A) → Field (P front) s (item front)) (Stuck : List ℕ → Type 0) (Known Room : ℕ → List A → Type 0) where
  -- what is known where so many items are to come after those before: it stays
  abbrev pub Keeps : Type 0
  Keeps = (n : ℕ) (front : List A) (x : A) → Known (suc n) front → P front x → Known n (front ++ x ∷ [])

  -- where there is room for so many, there is an item that leaves room for the others
  abbrev pub Fills : Type 0
  Fills = (n : ℕ) (front : List A) → Room (suc n) front → Some (λ (x : A). P front x × Room n (front ++ x ∷ []))

  abbrev pub Begins : Type 0
  Begins = (n : ℕ) (front : List A) → Known (suc n) front → Before (λ (r : List ℕ). Stuck (flat_map s front ++ r)) (λ (x : A). P front x × Room n (front ++ x ∷ [])) s (item front)

  pub filled : Fills → (n : ℕ) (front : List A) → Room n front → Some (λ (xs : List A). (length xs ≡ n) × Each P front xs)
  filled fill zero front room = ([], (refl, tt))
  filled fill (suc n) front room =
      let x = fill n front room in
      let xs = filled fill n (front ++ x.0 ∷ []) x.1.1 in
      (x.0 ∷ xs.0, (ap suc xs.1.0, (x.1.0, xs.1.1)))

  abbrev All : ℕ → List A → List ℕ → Type 0
  All n front = Begun (λ (xs : List A). (length xs ≡ n) × Each P front xs) (λ (xs : List A). flat_map s xs)

  all_first : Fills → (n : ℕ) (front : List A) (prefix : List ℕ) → Begun (λ (x : A). P front x × Room n (front ++ x ∷ [])) s prefix → All (suc n) front prefix
  all_first fill n front prefix b =
      let xs = filled fill n (front ++ b.value ∷ []) b.fits.1 in
      record {
        value = b.value ∷ xs.0;
        more = b.more ++ flat_map s xs.0;
        fits = (ap suc xs.1.0, (b.fits.0, xs.1.1));
        spelled = flat_map-cons s b.value xs.0 ∙ ap (λ (l : List ℕ). l ++ flat_map s xs.0) b.spelled ∙ append_assoc prefix b.more (flat_map s xs.0);
      }

  all_second : (n : ℕ) (front : List A) (x : A) → P front x → (prefix : List ℕ) → All n (front ++ x ∷ []) prefix → All (suc n) front (s x ++ prefix)
  all_second n front x fits prefix b = record {
    value = x ∷ b.value;
    more = b.more;
    fits = (ap suc b.fits.0, (fits, b.fits.1));
    spelled = flat_map-cons s x b.value ∙ ap (λ (l : List ℕ). s x ++ l) b.spelled ∙ sym (append_assoc (s x) prefix b.more);
  }

  one_more : (front : List A) (x : A) (r : List ℕ) → flat_map s (front ++ x ∷ []) ++ r ≡ flat_map s front ++ (s x ++ r)
  one_more front x r =
      let one : flat_map s (x ∷ []) ≡ s x = flat_map-cons s x [] ∙ append-nil (s x) in
      ap (λ (l : List ℕ). l ++ r) (flat_map-append s front (x ∷ []) ∙ ap (λ (l : List ℕ). flat_map s front ++ l) one) ∙ append_assoc (flat_map s front) (s x) r

  abbrev Outcome : ℕ → List A → List ℕ → Type 0
  Outcome n front prefix = All n front prefix ⊎ Stuck (flat_map s front ++ prefix)

  pub each_by : Keeps → Fills → Begins → (n : ℕ) (front : List A) → Known n front → (bytes : List ℕ) (left : ℕ) → IsBytes bytes
      → each item n front bytes ≡ Err (At left) → Outcome n front (cut left bytes)
  unfolding each
  each_by keep fill one zero front known bytes left fits e = absurd (ok_no_err (front, bytes) (At left) e)
  each_by keep fill one (suc n) front known bytes left fits e = elim (bind_err (item front bytes) (λ x. each item n (front ++ x.0 ∷ []) x.1) (At left) e) [
    | inl err ↦ elim ((one n front known).by bytes left fits err) [
      | inl b ↦ inl (all_first fill n front (cut left bytes) b)
      | inr stuck ↦ inr stuck
    ]
    | inr (x, ok, last) ↦
        let taken = (field front).takes bytes x fits ok in
        let le : left ≤ length x.1 = err_inside (length x.1) (each item n (front ++ x.0 ∷ []) x.1) left (each-inside field n (front ++ x.0 ∷ []) x.1) last in
        let same : s x.0 ++ cut left x.1 ≡ cut left bytes = sym (ap (cut left) taken.0.parts ∙ cut-after (s x.0) x.1 left le) in
        let later = each_by keep fill one n (front ++ x.0 ∷ []) (keep n front x.0 known taken.1) x.1 left taken.0.rest_fits last in
        subst (Outcome (suc n) front) same (elim later [
          | inl b ↦ inl (all_second n front x.0 taken.1 (cut left x.1) b)
          | inr stuck ↦ inr (subst Stuck (one_more front x.0 (cut left x.1)) stuck)
        ])
  ]

-- their number first
module _ {A : Type 0} {P : List A → A → Type 0} {s : A → List ℕ} {item : List A → Reader A} (field : (front : List A) → Field (P front) s (item front)) (Stuck : List ℕ → Type 0) (Known : ℕ → ℕ → List A → Type 0) (Room : ℕ → List A → Type 0) where
  pub before_listed : {C : ℕ → Type 0} {c : ℕ → List ℕ} {count : Reader ℕ} → Field C c count → Sudden count → Some C
      → ((n : ℕ) → C n → Known n n [] × Room n [])
      → ((n : ℕ) → Keeps field (λ (r : List ℕ). Stuck (c n ++ r)) (Known n) Room) → Fills field Stuck (Known 0) Room
      → ((n : ℕ) → C n → Begins field (λ (r : List ℕ). Stuck (c n ++ r)) (Known n) Room)
      → Before Stuck (λ (xs : List A). C (length xs) × Each P [] xs) (λ (xs : List A). c (length xs) ++ flat_map s xs) (listed_at count item)
  before_listed {C} {c} {count} counted sudden least first keep fill one =
      before_as (λ (x : ℕ × List A). x.1) (λ (xs : List A). C (length xs) × Each P [] xs) (λ (xs : List A). c (length xs) ++ flat_map s xs)
      (λ x fits. ((subst C (sym fits.1.0) fits.0, fits.1.1), ap (λ (k : ℕ). c k ++ flat_map s x.1) fits.1.0))
      (before_then counted (before_sudden sudden least) (λ n fits. filled field Stuck (Known 0) Room fill n [] (first n fits).1)
      (λ n fits. record { by = λ bytes left are e. each_by field (λ (r : List ℕ). Stuck (c n ++ r)) (Known n) Room (keep n) fill (one n fits) n [] (first n fits).0 bytes left are e; inside = λ bytes left are e. err_inside (length bytes) (each item n [] bytes) left (each-inside field n [] bytes) e }))

-- items that depend on none of the others
module _ {A : Type 0} {P : A → Type 0} {s : A → List ℕ} {item : Reader A} (field : Field P s item) where
  pub before_alike : {Stuck : List ℕ → Type 0} {C : ℕ → Type 0} {c : ℕ → List ℕ} {count : Reader ℕ} → Field C c count → Sudden count → Some C → Some P
      → Before (λ (r : List ℕ). ⊥) P s item
      → Before Stuck (λ (xs : List A). C (length xs) × Each (λ _ x. P x) [] xs) (λ (xs : List A). c (length xs) ++ flat_map s xs) (listed_at count (λ _. item))
  before_alike {Stuck} counted sudden least some before =
      before_listed {P = λ _ x. P x} (λ _. field) Stuck (λ _ _ _. Unit {0}) (λ _ _. Unit {0}) counted sudden least (λ n fits. (tt, tt)) (λ n m front x known fit. tt) (λ n front room. (some.0, (some.1, tt)))
      (λ n fits m front known. before_like (λ x fit. (fit, tt)) (before_any before))
