-- Readers that read what a grammar encodes: a value that is got was encoded and keeps its rule, and an encoding that keeps
-- the rule is read as its value, whatever follows.
use Rattle.std.proofs.Common.{◌≡◌, ◌≤◌, ℕ, ◌+◌, Bool, true, false, cond, List, [], ◌∷◌, ◌++◌, length, refl, sym, ap, subst, ◌∙◌, append_assoc, arith, length-append}
use Rattle.wasm_defs.proofs.NumberLaws.{AreBytes}
use Rattle.wasm_defs.specs.declared.fault.Kind.{Kind}
use Rattle.wasm_defs.specs.Fields.{Cursor, Read, Got, Reader, then_go, ◌>>=◌, done, refused}
use Rattle.wasm_defs.specs.Items.{Spelling, Joined, ◌then◌, exactly}
use Rattle.wasm_laws.proofs.Steady.{IfGot}
use Rattle.wasm_laws.proofs.Parts.{then_got}

abbrev pub cursor : ℕ → List ℕ → ℕ → Cursor
cursor at rest end = record { at = at; rest = rest; end = end }

-- reading is before the section's end, or at it, and all bytes are bytes
pub record Ready (c : Cursor) : Type 0 where
  pub low : c.at ≤ c.end
  pub bytes : AreBytes c.rest

-- the bytes that were taken are such an encoding, and that holds of what they encode
pub record Found (s : Spelling) (K : Type 0) (c d : Cursor) : Type 0 where
  pub taken : List ℕ
  pub parts : c.rest ≡ taken ++ d.rest
  pub at : d.at ≡ c.at + length taken
  pub end : d.end ≡ c.end
  pub fits : c.at + length taken ≤ c.end
  pub spelled : s c.at taken
  pub kept : K

-- such an encoding is read as x, where it fits before the section's end
pub record Reads {A : Type 0} (p : Reader A) (x : A) (s : Spelling) : Type 0 where
  pub by : (at end : ℕ) (front back : List ℕ) → at + length front ≤ end → s at front → p (cursor at (front ++ back) end) ≡ Got x (cursor (at + length front) back end)

pub record Spelt {A : Type 0} (S : A → Spelling) (K : A → Type 0) (p : Reader A) : Type 0 where
  pub sound : (c : Cursor) → Ready c → IfGot (λ x d. Found (S x) (K x) c d) (p c)
  pub complete : (x : A) → K x → Reads p x (S x)

-- ---- sound

pub bytes_behind : (front back : List ℕ) → AreBytes (front ++ back) → AreBytes back
bytes_behind [] back h = h
bytes_behind (b ∷ front) back h = bytes_behind front back h.1

pub later : {s : Spelling} {K : Type 0} (c d : Cursor) → Found s K c d → Ready c → Ready d
later c d p h = record { low = omega (arith, p.at, p.end, p.fits); bytes = bytes_behind p.taken d.rest (subst AreBytes p.parts h.bytes) }

pub found_nothing : (c : Cursor) (K : Type 0) → Ready c → K → Found (exactly []) K c c
found_nothing c K ready h = record { taken = []; parts = refl; at = omega arith; end = refl; fits = omega (arith, ready.low); spelled = refl; kept = h }

-- one after the other
pub found_then : {s t : Spelling} {K L : Type 0} (M : Type 0) (c d e : Cursor) → Found s K c d → Found t L d e → M → Found (s then t) M c e
found_then {s} {t} M c d e p q h = record {
  taken = p.taken ++ q.taken;
  parts = p.parts ∙ ap (λ (l : List ℕ). p.taken ++ l) q.parts ∙ sym (append_assoc p.taken q.taken e.rest);
  at = omega (arith, p.at, q.at, length-append p.taken q.taken);
  end = q.end ∙ p.end;
  fits = omega (arith, p.at, p.end, q.fits, length-append p.taken q.taken);
  spelled = record { front = p.taken; back = q.taken; parts = refl; first = p.spelled; second = subst (λ (at : ℕ). t at q.taken) p.at q.spelled };
  kept = h;
}

-- nothing after it
pub found_alone : {s : Spelling} {K L : Type 0} (M : Type 0) (c d e : Cursor) → Found s K c d → Found (exactly []) L d e → M → Found s M c e
found_alone M c d e p q h =
    let none : length q.taken ≡ 0 = ap length q.spelled in
    record {
      taken = p.taken;
      parts = p.parts ∙ ap (λ (l : List ℕ). p.taken ++ l) (q.parts ∙ ap (λ (l : List ℕ). l ++ e.rest) q.spelled);
      at = omega (arith, p.at, q.at);
      end = q.end ∙ p.end;
      fits = p.fits;
      spelled = p.spelled;
      kept = h;
    }

-- the same bytes, as another encoding
pub found_here : {s : Spelling} {K : Type 0} (t : Spelling) (M : Type 0) (c d : Cursor) (p : Found s K c d) → t c.at p.taken → M → Found t M c d
found_here t M c d p h k = record { taken = p.taken; parts = p.parts; at = p.at; end = p.end; fits = p.fits; spelled = h; kept = k }

pub found_as : {s : Spelling} {K : Type 0} (t : Spelling) (M : Type 0) (c d : Cursor) → Found s K c d → ((at : ℕ) (bytes : List ℕ) → s at bytes → t at bytes) → M → Found t M c d
found_as t M c d p f h = found_here t M c d p (f c.at p.taken p.spelled) h

-- what is read next, and what was found of it
pub read : {A B : Type 0} (S : A → Spelling) (K : A → Type 0) (p : Reader A) (f : A → Reader B) (Q : B → Cursor → Type 0) (c : Cursor) → Spelt S K p → Ready c
    → ((x : A) (d : Cursor) → Found (S x) (K x) c d → Ready d → IfGot Q (f x d)) → IfGot Q ((p >>= f) c)
read S K p f Q c h ready g = then_got (λ x d. Found (S x) (K x) c d) Q (p c) f (h.sound c ready) (λ x d found. g x d found (later c d found ready))

-- past a test
pub unless : {A : Type 0} (Q : A → Cursor → Type 0) (b : Bool) (kind : Kind) (at : ℕ) (q : Reader A) (c : Cursor) → (b ≡ false → IfGot Q (q c)) → IfGot Q (cond b (refused kind at) q c)
unless Q true kind at q c h = tt
unless Q false kind at q c h = h refl

pub provided : {A : Type 0} (Q : A → Cursor → Type 0) (b : Bool) (kind : Kind) (at : ℕ) (q : Reader A) (c : Cursor) → (b ≡ true → IfGot Q (q c)) → IfGot Q (cond b q (refused kind at) c)
provided Q true kind at q c h = h refl
provided Q false kind at q c h = tt

-- ---- complete

pub reads_then : {A B : Type 0} (p : Reader A) (f : A → Reader B) (x : A) (y : B) (s t : Spelling) → Reads p x s → Reads (f x) y t → Reads (p >>= f) y (s then t)
reads_then {A} p f x y s t h k = record { by = λ at end bytes back fits j. joined at end bytes back fits j }
  where
    one : (at end : ℕ) (l r back : List ℕ) → at + length l + length r ≤ end → s at l → t (at + length l) r → then_go (p (cursor at (l ++ (r ++ back)) end)) f ≡ Got y (cursor (at + length l + length r) back end)
    one at end l r back fits first second =
        ap (λ (z : Read A). then_go z f) (h.by at end l (r ++ back) (omega arith) first) ∙ k.by (at + length l) end r back fits second

    joined : (at end : ℕ) (bytes back : List ℕ) → at + length bytes ≤ end → Joined s t at bytes → then_go (p (cursor at (bytes ++ back) end)) f ≡ Got y (cursor (at + length bytes) back end)
    joined at end bytes back fits j =
        let len : length bytes ≡ length j.front + length j.back = ap length j.parts ∙ length-append j.front j.back in
        let place : at + length bytes ≡ at + length j.front + length j.back = omega arith in
        let whole : bytes ++ back ≡ j.front ++ (j.back ++ back) = ap (λ (l : List ℕ). l ++ back) j.parts ∙ append_assoc j.front j.back back in
        rw (whole, place) (one at end j.front j.back back (omega arith) j.first j.second)

-- what is left takes nothing
pub reads_on : {A B : Type 0} (p : Reader A) (f : A → Reader B) (x : A) (y : B) (s : Spelling) → Reads p x s → ((c : Cursor) → f x c ≡ Got y c) → Reads (p >>= f) y s
reads_on {A} p f x y s h e = record { by = λ at end front back fits k. ap (λ (z : Read A). then_go z f) (h.by at end front back fits k) ∙ e (cursor (at + length front) back end) }

pub reads_last : {A B : Type 0} (p : Reader A) (g : A → B) (x : A) (s : Spelling) → Reads p x s → Reads (p >>= (λ z. done (g z))) (g x) s
reads_last p g x s h = reads_on p (λ z. done (g z)) x (g x) s h (λ c. refl)

pub reads_if : {A : Type 0} (b : Bool) (p q : Reader A) (x : A) (s : Spelling) → b ≡ true → Reads p x s → Reads (cond b p q) x s
reads_if true p q x s e h = h
reads_if false p q x s e h = absurd cc

pub reads_else : {A : Type 0} (b : Bool) (p q : Reader A) (x : A) (s : Spelling) → b ≡ false → Reads q x s → Reads (cond b p q) x s
reads_else true p q x s e h = absurd cc
reads_else false p q x s e h = h
