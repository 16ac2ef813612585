-- Runs of bytes, given bytes and what is put together of fields are steady.
use Rattle.std.proofs.Common.{◌≡◌, ℕ, ◌≤◌, ◌<◌, true, false, eqb, List, [], ◌∷◌, ◌++◌, length, take, refl, arith, length-append, inl, inr}
use Rattle.std.proofs.lemmas.List.{take-append-le}
use Rattle.std.proofs.lemmas.Bool.{cases_lt, cases_Bool, lt-ltb, le-ltb, and_parts, and_from}
use Rattle.wasm_defs.specs.declared.fault.Kind.TheVariants.{Malformed}
use Rattle.wasm_defs.specs.Fields.{Cursor, Read, Got, Fault, Wants, Reader, then_go, ◌>>=◌, done, nat_of, room_of, window, number, u32, count, vector, run, room, here, stop, counted_bytes, agree, fixed}
use Rattle.wasm_laws.proofs.Steady.{with_more, Extends, got, faulty, no_advance, Advances, StandsIn, IsThere, IsDecided, Steady, IfGot, IsMarked, Field, bind, bind_field, field_steady, either, done_steady, refused_steady, here_in, there_in, repeated_steady}
use Rattle.wasm_laws.proofs.Windows.{same_window, wider_window, added, window_short, got_past, past_advance, cut_extends, cut_advances, stands_here, cut_stands, cut_decides, byte_field, number_field}

-- ---- what takes nothing

pub room_steady : (marks : List ℕ) → Steady marks room
unfolding room
room_steady marks = record { by = λ c more. got (room_of c) c; moves = λ c. no_advance c; place = λ low c le behind. tt; decides = λ c there. tt }

pub here_steady : (marks : List ℕ) → Steady marks here
unfolding here
here_steady marks = record { by = λ c more. got c.at c; moves = λ c. no_advance c; place = λ low c le behind. tt; decides = λ c there. tt }

pub stop_steady : (marks : List ℕ) → Steady marks stop
unfolding stop
stop_steady marks = record { by = λ c more. got c.end c; moves = λ c. no_advance c; place = λ low c le behind. tt; decides = λ c there. tt }

-- ---- runs

run_extends : (n : ℕ) (c : Cursor) (more : List ℕ) → Extends (List ℕ) more (run n c) (run n (with_more c more))
unfolding run
run_extends n c more =
    elim (cases_lt (length (window c)) n) [
      | inl lt ↦ rw (lt-ltb (length (window c)) n lt) (cut_extends c more _ (λ there. rw (same_window c more there, lt-ltb (length (window c)) n lt) refl))
      | inr ge ↦ elim (cases_lt (length c.rest) (room_of c)) [
        | inl more_room ↦ rw (wider_window c more more_room, le-ltb (length (window c)) n ge, le-ltb (length (window c ++ added c more)) n (omega (arith, length-append (window c) (added c more))), take-append-le n (window c) (added c more) ge) (got_past (take n (window c)) c more n ge)
        | inr there ↦ rw (same_window c more there, le-ltb (length (window c)) n ge) (got_past (take n (window c)) c more n ge)
      ]
    ]

run_advances : (n : ℕ) (c : Cursor) → Advances c (run n c)
unfolding run
run_advances n c =
    elim (cases_lt (length (window c)) n) [
      | inl lt ↦ rw (lt-ltb (length (window c)) n lt) (cut_advances _ c)
      | inr ge ↦ rw (le-ltb (length (window c)) n ge) (past_advance c n ge)
    ]

run_stands : (n low : ℕ) (c : Cursor) → low ≤ c.at → StandsIn low c (run n c)
unfolding run
run_stands n low c le =
    elim (cases_lt (length (window c)) n) [
      | inl lt ↦ rw (lt-ltb (length (window c)) n lt) (cut_stands _ low c le)
      | inr ge ↦ rw (le-ltb (length (window c)) n ge) tt
    ]

run_decides : (n : ℕ) (c : Cursor) → IsThere c → IsDecided (run n c)
unfolding run
run_decides n c there =
    elim (cases_lt (length (window c)) n) [
      | inl lt ↦ rw (lt-ltb (length (window c)) n lt) (cut_decides _ c there)
      | inr ge ↦ rw (le-ltb (length (window c)) n ge) tt
    ]

pub run_steady : (marks : List ℕ) (n : ℕ) → Steady marks (run n)
run_steady marks n = record { by = λ c more. run_extends n c more; moves = λ c. run_advances n c; place = λ low c le behind. run_stands n low c le; decides = λ c there. run_decides n c there }

-- ---- given bytes

agree_longer : (xs ys more : List ℕ) → agree xs ys ≡ false → agree xs (ys ++ more) ≡ false
agree_longer [] ys more e = absurd cc
agree_longer (x ∷ xs) [] more e = absurd cc
agree_longer (x ∷ xs) (y ∷ ys) more e =
    elim (cases_Bool (eqb x y)) [
      | inl same ↦ let t : agree xs ys ≡ false = rw same at e in rw same (agree_longer xs ys more t)
      | inr other ↦ rw other refl
    ]

agree_past : (xs ys more : List ℕ) → length xs ≤ length ys → agree xs ys ≡ true → agree xs (ys ++ more) ≡ true
agree_past [] ys more h e = refl
agree_past (x ∷ xs) [] more h e = absurd (omega arith)
agree_past (x ∷ xs) (y ∷ ys) more h e =
    let p = and_parts (eqb x y) (agree xs ys) e in
    and_from (eqb x y) (agree xs (ys ++ more)) p.0 (agree_past xs ys more (omega arith) p.1)

-- what differs is there
differs_at : (xs ys : List ℕ) → agree xs ys ≡ false → 0 < length ys
differs_at [] ys e = absurd cc
differs_at (x ∷ xs) [] e = absurd cc
differs_at (x ∷ xs) (y ∷ ys) e = omega arith

fixed_extends : (bytes : List ℕ) (c : Cursor) (more : List ℕ) → Extends ℕ more (fixed bytes c) (fixed bytes (with_more c more))
unfolding fixed
fixed_extends bytes c more =
    elim (cases_lt (length c.rest) (room_of c)) [
      | inr there ↦ rw (same_window c more there) (elim (cases_Bool (agree bytes (window c))) [
        | inr other ↦ rw other (faulty _)
        | inl same ↦ rw same (elim (cases_lt (length (window c)) (length bytes)) [
          | inl lt ↦ rw (lt-ltb (length (window c)) (length bytes) lt) (cut_extends c more _ (λ h. refl))
          | inr ge ↦ rw (le-ltb (length (window c)) (length bytes) ge) (got_past c.at c more (length bytes) ge)
        ])
      ])
      | inl room ↦ rw (wider_window c more room) (elim (cases_Bool (agree bytes (window c))) [
        | inr other ↦ rw (other, agree_longer bytes (window c) (added c more) other) (faulty _)
        | inl same ↦ rw same (elim (cases_lt (length (window c)) (length bytes)) [
          | inl lt ↦ rw (lt-ltb (length (window c)) (length bytes) lt) (cut_extends c more _ (λ h. absurd (omega arith)))
          | inr ge ↦ rw (le-ltb (length (window c)) (length bytes) ge, agree_past bytes (window c) (added c more) ge same, le-ltb (length (window c ++ added c more)) (length bytes) (omega (arith, length-append (window c) (added c more)))) (got_past c.at c more (length bytes) ge)
        ])
      ])
    ]

fixed_advances : (bytes : List ℕ) (c : Cursor) → Advances c (fixed bytes c)
unfolding fixed
fixed_advances bytes c =
    elim (cases_Bool (agree bytes (window c))) [
      | inr other ↦ rw other tt
      | inl same ↦ rw same (elim (cases_lt (length (window c)) (length bytes)) [
        | inl lt ↦ rw (lt-ltb (length (window c)) (length bytes) lt) (cut_advances _ c)
        | inr ge ↦ rw (le-ltb (length (window c)) (length bytes) ge) (past_advance c (length bytes) ge)
      ])
    ]

fixed_stands : (bytes : List ℕ) (low : ℕ) (c : Cursor) → low ≤ c.at → StandsIn low c (fixed bytes c)
unfolding fixed
fixed_stands bytes low c le =
    elim (cases_Bool (agree bytes (window c))) [
      | inr other ↦
          let some = differs_at bytes (window c) other in
          let short = window_short c in
          rw other (stands_here low c Malformed le (λ lt. omega arith))
      | inl same ↦ rw same (elim (cases_lt (length (window c)) (length bytes)) [
        | inl lt ↦ rw (lt-ltb (length (window c)) (length bytes) lt) (cut_stands _ low c le)
        | inr ge ↦ rw (le-ltb (length (window c)) (length bytes) ge) tt
      ])
    ]

fixed_decides : (bytes : List ℕ) (c : Cursor) → IsThere c → IsDecided (fixed bytes c)
unfolding fixed
fixed_decides bytes c there =
    elim (cases_Bool (agree bytes (window c))) [
      | inr other ↦ rw other tt
      | inl same ↦ rw same (elim (cases_lt (length (window c)) (length bytes)) [
        | inl lt ↦ rw (lt-ltb (length (window c)) (length bytes) lt) (cut_decides _ c there)
        | inr ge ↦ rw (le-ltb (length (window c)) (length bytes) ge) tt
      ])
    ]

pub fixed_steady : (marks : List ℕ) (bytes : List ℕ) → Steady marks (fixed bytes)
fixed_steady marks bytes = record { by = λ c more. fixed_extends bytes c more; moves = λ c. fixed_advances bytes c; place = λ low c le behind. fixed_stands bytes low c le; decides = λ c there. fixed_decides bytes c there }

-- ---- what is put together

marked_on : {A B : Type 0} (c : Cursor) (f : A → B) (x : Read (ℕ × A)) → IfGot (IsMarked c) x → IfGot (IsMarked {A = B} c) (then_go x (λ y. done (y.0, f y.1)))
marked_on c f (Got x d) q = q
marked_on c f (Fault r) q = tt
marked_on c f Wants q = tt

-- a field whose value is made another is a field at the same offset
pub mapped_field : {A B : Type 0} (p : Reader (ℕ × A)) (f : A → B) → Field p → Field (p >>= (λ x. done (x.0, f x.1)))
mapped_field p f h = record {
  steady = λ marks. bind marks p _ (h.steady marks) (λ x. done_steady marks _);
  marked = λ c. marked_on c f (p c) (h.marked c);
}

pub u32_field : Field u32
unfolding u32
u32_field = mapped_field (number false 32) nat_of (number_field false 32)

pub ruleset readers = (bind_field, bind, either, done_steady, refused_steady, here_in, there_in, repeated_steady, field_steady, byte_field, number_field, u32_field, room_steady, here_steady, stop_steady, run_steady, fixed_steady)

pub count_steady : (marks : List ℕ) (most : ℕ) → Steady marks (count most)
unfolding count
count_steady marks most = search readers depth 40

pub vector_steady : {A : Type 0} (marks : List ℕ) (counted : Reader (ℕ × ℕ)) (p : Reader A) → Steady marks counted → Steady marks p → Steady marks (vector counted p)
unfolding vector
vector_steady marks counted p hc hp = bind marks counted _ hc (λ n. bind marks _ _ (repeated_steady marks n.1 p hp) (λ xs. done_steady marks _))

pub counted_bytes_steady : (marks : List ℕ) → Steady marks counted_bytes
unfolding counted_bytes
counted_bytes_steady marks = search readers depth 40
