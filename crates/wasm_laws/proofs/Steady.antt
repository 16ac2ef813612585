-- Steady readers one after the other are steady.
use Rattle.std.proofs.Common.{◌≡◌, ◌≤◌, ◌<◌, ℕ, zero, suc, ◌+◌, Bool, true, false, cond, List, [], ◌∷◌, ◌++◌, length, refl, sym, ap, ◌∙◌, append_assoc, arith, length-append}
use Rattle.wasm_defs.specs.declared.fault.Kind.{Kind}
use Rattle.wasm_defs.specs.declared.fault.Refusal.{Refusal}
use Rattle.wasm_defs.specs.Fields.{Cursor, Read, Got, Fault, Wants, Reader, then_go, ◌>>=◌, done, refused, repeated, room_of}
pub use Rattle.wasm_laws.specs.Steadiness.{IfGot, with_more, Extends, got, faulty, owed, Advance, Advances, Stands, StandsIn, AreBehind, IsThere, IsDecided, Steady}

-- ---- bytes that are taken

pub no_advance : (c : Cursor) → Advance c c
no_advance c = record { taken = []; parts = refl; at = omega arith; end = refl; fits = omega arith }

pub advance_then : (c d e : Cursor) → Advance c d → Advance d e → Advance c e
advance_then c d e p q = record {
  taken = p.taken ++ q.taken;
  parts = p.parts ∙ ap (λ (l : List ℕ). p.taken ++ l) q.parts ∙ sym (append_assoc p.taken q.taken e.rest);
  at = omega (arith, p.at, q.at, length-append p.taken q.taken);
  end = q.end ∙ p.end;
  fits = omega (arith, p.at, p.end, p.fits, q.fits, length-append p.taken q.taken);
}

-- the offset and the number of bytes that are left move together
pub record Moves (c d : Cursor) : Type 0 where
  pub by : ℕ
  pub rest : length c.rest ≡ by + length d.rest
  pub at : d.at ≡ c.at + by
  pub room : room_of c ≡ by + room_of d

pub moves_of : (c d : Cursor) → Advance c d → Moves c d
moves_of c d p = record {
  by = length p.taken;
  rest = ap length p.parts ∙ length-append p.taken d.rest;
  at = p.at;
  room = omega (arith, p.at, p.end, p.fits);
}

pub moves_then : (c d e : Cursor) → Moves c d → Moves d e → Moves c e
moves_then c d e p q = record { by = p.by + q.by; rest = omega (arith, p.rest, q.rest); at = omega (arith, p.at, q.at); room = omega (arith, p.room, q.room) }

pub advance_fewer : (c d : Cursor) → Advance c d → length d.rest ≤ length c.rest
advance_fewer c d p = omega (arith, ap length p.parts, length-append p.taken d.rest)

-- ---- offsets

pub stands_later : (low : ℕ) (c d : Cursor) (r : Refusal) → Moves c d → Stands low d r → Stands low c r
stands_later low c d r p q = record {
  from = q.from;
  within = omega (arith, p.rest, p.at, q.within);
  at_a_byte = λ h. omega (arith, p.rest, p.at, p.room, h, q.at_a_byte (omega (arith, p.rest, p.room, h)));
}

pub behind_later : (low : ℕ) (c d : Cursor) (marks : List ℕ) → c.at ≤ d.at → AreBehind low c marks → AreBehind low d marks
behind_later low c d [] le p = tt
behind_later low c d (mark ∷ marks) le p = (p.0, omega (arith, p.1), behind_later low c d marks le p.2)

pub there_later : (c d : Cursor) → Moves c d → IsThere c → IsThere d
there_later c d p h = omega (arith, p.rest, p.room, h)

-- ---- one after the other

pub then_extends : {A B : Type 0} (more : List ℕ) (x y : Read A) (f : A → Reader B) → ((a : A) (c : Cursor) → Extends B more (f a c) (f a (with_more c more))) → Extends A more x y → Extends B more (then_go x f) (then_go y f)
then_extends more x y f h (got a c) = h a c
then_extends more x y f h (faulty r) = faulty r
then_extends more x y f h (owed later) = owed (then_go later f)

advances_on : {A : Type 0} (c d : Cursor) (x : Read A) → Advance c d → Advances d x → Advances c x
advances_on c d (Got x e) p q = advance_then c d e p q
advances_on c d (Fault r) p q = tt
advances_on c d Wants p q = tt

then_advances : {A B : Type 0} (c : Cursor) (x : Read A) (f : A → Reader B) → ((a : A) (d : Cursor) → Advances d (f a d)) → Advances c x → Advances c (then_go x f)
then_advances c (Got a d) f h p = advances_on c d (f a d) p (h a d)
then_advances c (Fault r) f h p = tt
then_advances c Wants f h p = tt

pub always : {A : Type 0} (x : Read A) → IfGot (λ a d. Unit {0}) x
always (Got x d) = tt
always (Fault r) = tt
always Wants = tt

stands_on : {A : Type 0} (low : ℕ) (c d : Cursor) (x : Read A) → Moves c d → StandsIn low d x → StandsIn low c x
stands_on low c d (Got x e) p q = tt
stands_on low c d (Fault r) p q = stands_later low c d r p q
stands_on low c d Wants p q = tt

then_stands : {A B : Type 0} (low : ℕ) (c : Cursor) (x : Read A) (f : A → Reader B) (P : A → Cursor → Type 0) → ((a : A) (d : Cursor) → c.at ≤ d.at → P a d → StandsIn low d (f a d)) → Advances c x → IfGot P x → StandsIn low c x → StandsIn low c (then_go x f)
then_stands low c (Got a d) f P h p g q = stands_on low c d (f a d) (moves_of c d p) (h a d (omega (arith, p.at)) g)
then_stands low c (Fault r) f P h p g q = q
then_stands low c Wants f P h p g q = tt

then_decides : {A B : Type 0} (c : Cursor) (x : Read A) (f : A → Reader B) → ((a : A) (d : Cursor) → IsThere d → IsDecided (f a d)) → Advances c x → IsThere c → IsDecided x → IsDecided (then_go x f)
then_decides c (Got a d) f h p there q = h a d (there_later c d (moves_of c d p) there)
then_decides c (Fault r) f h p there q = tt
then_decides c Wants f h p there q = q

pub bind : {A B : Type 0} (marks : List ℕ) (p : Reader A) (f : A → Reader B) → Steady marks p → ((a : A) → Steady marks (f a)) → Steady marks (p >>= f)
bind marks p f hp hf = record {
  by = λ c more. then_extends more (p c) (p (with_more c more)) f (λ a d. (hf a).by d more) (hp.by c more);
  moves = λ c. then_advances c (p c) f (λ a d. (hf a).moves d) (hp.moves c);
  place = λ low c le behind. then_stands low c (p c) f (λ a d. Unit {0}) (λ a d later g. (hf a).place low d (omega arith) (behind_later low c d marks later behind)) (hp.moves c) (always (p c)) (hp.place low c le behind);
  decides = λ c there. then_decides c (p c) f (λ a d. (hf a).decides d) (hp.moves c) there (hp.decides c there);
}

-- ---- fields

-- the value has the offset of the field, which has a byte at least
abbrev pub IsMarked : {A : Type 0} → Cursor → ℕ × A → Cursor → Type 0
IsMarked c x d = (c.at ≤ x.0) × (x.0 < d.at)

pub record Field {A : Type 0} (p : Reader (ℕ × A)) : Type 0 where
  pub steady : (marks : List ℕ) → Steady marks p
  pub marked : (c : Cursor) → IfGot (IsMarked c) (p c)

-- after a field it is a mark
pub bind_field : {A B : Type 0} (marks : List ℕ) (p : Reader (ℕ × A)) (f : ℕ × A → Reader B) → Field p → ((x : ℕ × A) → Steady (x.0 ∷ marks) (f x)) → Steady marks (p >>= f)
bind_field marks p f hp hf =
    let sp = hp.steady marks in
    record {
      by = λ c more. then_extends more (p c) (p (with_more c more)) f (λ a d. (hf a).by d more) (sp.by c more);
      moves = λ c. then_advances c (p c) f (λ a d. (hf a).moves d) (sp.moves c);
      place = λ low c le behind. then_stands low c (p c) f (IsMarked c) (λ a d later g. (hf a).place low d (omega arith) (omega (arith, g.0), g.1, behind_later low c d marks later behind)) (sp.moves c) (hp.marked c) (sp.place low c le behind);
      decides = λ c there. then_decides c (p c) f (λ a d. (hf a).decides d) (sp.moves c) there (sp.decides c there);
    }

pub field_steady : {A : Type 0} (marks : List ℕ) (p : Reader (ℕ × A)) → Field p → Steady marks p
field_steady marks p h = h.steady marks

-- ---- the other forms

pub done_steady : {A : Type 0} (marks : List ℕ) (x : A) → Steady marks (done x)
done_steady marks x = record { by = λ c more. got x c; moves = λ c. no_advance c; place = λ low c le behind. tt; decides = λ c there. tt }

pub data In (m : ℕ) : List ℕ → Type 0 where
  here_in : {marks : List ℕ} → In m (m ∷ marks)
  there_in : {k : ℕ} {marks : List ℕ} → In m marks → In m (k ∷ marks)

pub mark_is_behind : (low : ℕ) (c : Cursor) (mark : ℕ) (marks : List ℕ) → In mark marks → AreBehind low c marks → (low ≤ mark) × (mark < c.at)
mark_is_behind low c mark _ here_in p = (p.0, p.1)
mark_is_behind low c mark _ (there_in {marks = marks} i) p = mark_is_behind low c mark marks i p.2

pub refused_steady : {A : Type 0} (marks : List ℕ) (kind : Kind) (at : ℕ) → In at marks → Steady marks (refused {A = A} kind at)
refused_steady marks kind at i = record {
  by = λ c more. faulty (record { offset = at; kind = kind });
  moves = λ c. tt;
  place = λ low c le behind.
      let p = mark_is_behind low c at marks i behind in
      record { from = p.0; within = omega (arith, p.1); at_a_byte = λ h. omega (arith, p.1) };
  decides = λ c there. tt;
}

pub either : {A : Type 0} (marks : List ℕ) (b : Bool) (p q : Reader A) → Steady marks p → Steady marks q → Steady marks (cond b p q)
either marks true p q hp hq = hp
either marks false p q hp hq = hq

pub repeated_steady : {A : Type 0} (marks : List ℕ) (n : ℕ) (p : Reader A) → Steady marks p → Steady marks (repeated n p)
repeated_steady marks zero p h = done_steady marks _
repeated_steady marks (suc n) p h = bind marks p _ h (λ x. bind marks (repeated n p) _ (repeated_steady marks n p h) (λ xs. done_steady marks _))
