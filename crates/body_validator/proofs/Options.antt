-- Steps that may have no answer.
use Rattle.std.proofs.Common.{◌≡◌, ◌&&◌, Bool, true, false, Option, None, Some, refl}
use Rattle.body_validator.specs.Checking.{◌>>=◌, guarded}

-- a step and what follows it, where both have an answer
pub record Through {A B : Type 0} (o : Option A) (f : A → Option B) (y : B) : Type 0 where
  pub value : A
  pub is : o ≡ Some value
  pub then : f value ≡ Some y

pub through : {A B : Type 0} (o : Option A) (f : A → Option B) (y : B) → o >>= f ≡ Some y → Through o f y
through None f y e = absurd (cc)
through (Some x) f y e = record { value = x; is = refl; then = e }

pub some_inside : {A : Type 0} (x y : A) → Some x ≡ Some y → x ≡ y
some_inside x y e = cc

pub guarded-true : {A : Type 0} (b : Bool) (x y : A) → guarded b x ≡ Some y → (b ≡ true) × (x ≡ y)
guarded-true true x y e = (refl, cc)
guarded-true false x y e = absurd (cc)

pub and_true : (a b : Bool) → a ≡ true → b ≡ true → a && b ≡ true
and_true true b e f = f
and_true false b e f = absurd (cc)

pub true_parts : (a b : Bool) → a && b ≡ true → (a ≡ true) × (b ≡ true)
true_parts true b e = (refl, e)
true_parts false b e = absurd (cc)

-- a test, and what follows it
pub passed : {A B : Type 0} (b : Bool) (x : A) (g : A → Option B) (y : B) → guarded b x >>= g ≡ Some y → (b ≡ true) × (g x ≡ Some y)
passed true x g y e = (refl, e)
passed false x g y e = absurd (cc)
