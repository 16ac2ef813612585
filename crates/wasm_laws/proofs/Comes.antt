-- What reading comes to where more bytes are there than a field can want.
use Rattle.std.proofs.Common.{◌≡◌, ℕ, ◌+◌, ◌-◌, ◌*◌, ◌^◌, ◌≤◌, ◌<◌, Bool, true, false, ltb, List, [], ◌∷◌, length, refl, arith, inl, inr}
use Rattle.std.proofs.lemmas.Bool.{cases_lt, cases_Bool, lt-ltb, le-ltb}
use Rattle.wasm_defs.specs.Numbers.{Reading, Number, CutOff, Bad, number_at, last_byte, after_byte}
use Rattle.wasm_defs.specs.Fields.{Cursor, Read, Got, Fault, Wants, Reader, then_go, past, window, first_of, byte, from_reading, number, u32, agree, fixed}
use Rattle.wasm_laws.proofs.Steady.{IfGot, IsDecided}

-- a value of which the fact holds, or an error
abbrev pub Comes : {A : Type 0} → (A → Cursor → Type 0) → Read A → Type 0
Comes P (Got x d) = P x d
Comes P (Fault r) = Unit {0}
Comes P Wants = ⊥

pub comes_of : {A : Type 0} (P : A → Cursor → Type 0) (x : Read A) → IsDecided x → IfGot P x → Comes P x
comes_of P (Got x d) h q = q
comes_of P (Fault r) h q = tt
comes_of P Wants h q = h

pub then_comes : {A B : Type 0} (P : A → Cursor → Type 0) (Q : B → Cursor → Type 0) (x : Read A) (f : A → Reader B) → Comes P x → ((a : A) (d : Cursor) → P a d → Comes Q (f a d)) → Comes Q (then_go x f)
then_comes P Q (Got a d) f p h = h a d p
then_comes P Q (Fault r) f p h = tt
then_comes P Q Wants f p h = p

pub first_comes : (c : Cursor) (w : List ℕ) → 0 < length w → Comes (λ b d. (b.0 ≡ c.at) × (d ≡ past c 1)) (first_of c w)
first_comes c [] some = absurd (omega arith)
first_comes c (b ∷ w) some = (refl, refl)

pub byte_comes : (c : Cursor) → 0 < length (window c) → Comes (λ b d. (b.0 ≡ c.at) × (d ≡ past c 1)) (byte c)
unfolding byte
byte_comes c some = first_comes c (window c) some

-- ---- numbers

abbrev IsWhole : Reading → Type 0
IsWhole (Number n len) = Unit {0}
IsWhole CutOff = ⊥
IsWhole Bad = Unit {0}

last_is_whole : (signed : Bool) (bits b : ℕ) → IsWhole (last_byte signed bits b)
last_is_whole false bits b = elim (cases_Bool (ltb b (2 ^ bits))) [ inl h ↦ rw h tt | inr h ↦ rw h tt ]
last_is_whole true bits b =
    elim (cases_Bool (ltb b 64)) [
      | inl low ↦ rw low (elim (cases_Bool (ltb b (2 ^ (bits - 1)))) [ inl h ↦ rw h tt | inr h ↦ rw h tt ])
      | inr high ↦ rw high (elim (cases_Bool (ltb (b + 2 ^ (bits - 1)) 128)) [ inl h ↦ rw h tt | inr h ↦ rw h tt ])
    ]

after_is_whole : (b : ℕ) (r : Reading) → IsWhole r → IsWhole (after_byte b r)
after_is_whole b (Number n len) h = tt
after_is_whole b CutOff h = h
after_is_whole b Bad h = tt

-- so many bytes cut no number off: each has seven bits of it
number_is_whole : (signed : Bool) (bits : ℕ) (bytes : List ℕ) → 0 < length bytes → bits ≤ 7 * length bytes → IsWhole (number_at signed bits bytes)
unfolding number_at
number_is_whole signed bits [] some h = absurd (omega arith)
number_is_whole signed bits (b ∷ bytes) some h =
    elim (cases_Bool (ltb b 128)) [
      | inl low ↦ rw low (last_is_whole signed bits b)
      | inr high ↦ rw high (elim (cases_lt 7 bits) [
        | inl wide ↦ rw (lt-ltb 7 bits wide) (after_is_whole b (number_at signed (bits - 7) bytes) (number_is_whole signed (bits - 7) bytes (omega arith) (omega arith)))
        | inr narrow ↦ rw (le-ltb 7 bits narrow) tt
      ])
    ]

reading_is_decided : (c : Cursor) (r : Reading) → IsWhole r → IsDecided (from_reading c r)
reading_is_decided c (Number n len) h = tt
reading_is_decided c CutOff h = absurd h
reading_is_decided c Bad h = tt

then_decided : {A B : Type 0} (x : Read A) (f : A → Reader B) → IsDecided x → ((a : A) (d : Cursor) → IsDecided (f a d)) → IsDecided (then_go x f)
then_decided (Got a d) f h k = k a d
then_decided (Fault r) f h k = tt
then_decided Wants f h k = h

pub u32_is_decided : (c : Cursor) → 5 ≤ length (window c) → IsDecided (u32 c)
unfolding u32 number
u32_is_decided c five = then_decided (number false 32 c) _ (reading_is_decided c (number_at false 32 (window c)) (number_is_whole false 32 (window c) (omega arith) (omega arith))) (λ n d. tt)

-- ---- given bytes

pub fixed_comes : (bytes : List ℕ) (c : Cursor) → length bytes ≤ length (window c) → Comes (λ v d. d ≡ past c (length bytes)) (fixed bytes c)
unfolding fixed
fixed_comes bytes c there =
    elim (cases_Bool (agree bytes (window c))) [
      | inr other ↦ rw other tt
      | inl same ↦ rw (same, le-ltb (length (window c)) (length bytes) there) refl
    ]
