-- Functions that are read many at once are those that are read one after the other.
use Rattle.std.proofs.Common.{◌≡◌, ℕ, zero, suc, ◌+◌, ◌-◌, ◌*◌, ◌^◌, ◌<◌, ◌≤◌, false, List, [], ◌∷◌, ◌++◌, length, take, drop, map, min, get_or, set, refl, sym, ap, ◌∙◌, arith, add-one, length-append, length-take, length-drop, length-set, ℤ, pos, ◌+ℤ◌}
use Rattle.std.proofs.Common.{to_z, of_z}
use mir.Syntax.{w128}
use lib.IntN.{nat_abs}
use Rattle.std.proofs.Math.IntN.{pos-*ℤ-pos}
use Rattle.std.proofs.lemmas.Bool.{lt-ltb, le-ltb}
use Rattle.std.proofs.lemmas.List.{drop_more, drop-drop, drop-take, take-append-le, take_more_set}
use Rattle.wasm_defs.specs.declared.item.Item.TheVariants.{Function}
use Rattle.wasm_defs.specs.Numbers.{Number, Spells, BeginsWithNumber, number_at}
use Rattle.wasm_defs.specs.Fields.{Cursor, Read, Got, Fault, Wants, Reader, repeated, window, past, nat_of, number, u32}
use Rattle.wasm_defs.specs.Entries.{Seen, note, index, listed_index, function}
use Rattle.wasm_defs.specs.Outside.{Part, Next, row, runs_on, after_part, noted, entries}
use Rattle.wasm_laws.specs.Steadiness.{with_more, IfGot}
use Rattle.wasm_laws.proofs.Parts.{then_got, got_is}
use Rattle.leb_feed.specs.Answers.{answer}
use Rattle.leb_feed.specs.declared.number.ReadAt.TheVariants as answers
use Rattle.leb_feed.proofs.Readings.{was_read}
use Rattle.leb_feed.proofs.Casts.{unsigned_natural, cast_is}
use Rattle.section_reader.specs.declared.functions.Functions.{Functions}
use Rattle.section_reader.specs.Outline.{outline_row}
use Rattle.section_reader.specs.Onward.{after_parts}
use Rattle.section_reader.specs.Functions.{IsIndexAt, AreRead, declares, function_part}
use Rattle.section_reader.proofs.OutlineRuns.{outline_steady}
use Rattle.section_reader.proofs.Leading.{more_got}

-- ---- so many, one after the other

got_self : {A : Type 0} (x : Read A) → IfGot (λ a d. x ≡ Got a d) x
got_self (Got a d) = refl
got_self (Fault r) = tt
got_self Wants = tt

-- the first, and the others
record Split {A : Type 0} (n : ℕ) (p : Reader A) (c : Cursor) (xs : List A) (d : Cursor) : Type 0 where
  first : A
  mid : Cursor
  rest : List A
  one : p c ≡ Got first mid
  others : repeated n p mid ≡ Got rest d
  all : xs ≡ first ∷ rest

split : {A : Type 0} (n : ℕ) (p : Reader A) (c : Cursor) (xs : List A) (d : Cursor) → repeated (suc n) p c ≡ Got xs d → Split n p c xs d
split {A} n p c xs d h =
    got_is (λ ys e. Split n p c ys e) (repeated (suc n) p c) xs d h
    (then_got (λ a e. p c ≡ Got a e) (λ ys e. Split n p c ys e) (p c) _ (got_self (p c)) (λ a e one.
    then_got (λ ys f. repeated n p e ≡ Got ys f) (λ ys f. Split n p c ys f) (repeated n p e) _ (got_self (repeated n p e)) (λ ys f others. record { first = a; mid = e; rest = ys; one = one; others = others; all = refl })))

-- and one more
one_after : {A : Type 0} (n : ℕ) (p : Reader A) (c d e : Cursor) (xs : List A) (x : A) → repeated n p c ≡ Got xs d → p d ≡ Got x e → repeated (suc n) p c ≡ Got (xs ++ x ∷ []) e
one_after zero p c d e xs x h k =
    let none : [] ≡ xs = cc in
    let same : c ≡ d = cc in
    rw (← none, same, k) refl
one_after (suc n) p c d e xs x h k =
    let s = split n p c xs d h in
    let later = one_after n p s.mid d e s.rest x s.others k in
    rw (s.all, s.one, later) refl

-- ---- an index

-- bytes that are passed over are no more in the window
window_past : (c : Cursor) (place : ℕ) (bytes : List ℕ) → window c ≡ bytes → place ≤ length bytes → window (past c place) ≡ drop place bytes
window_past c place bytes e within =
    let room : c.end - c.at ≡ place + (c.end - (c.at + place)) = omega (arith, within, ap length e, length-take (c.end - c.at) c.rest) in
    sym (drop-take place (c.end - (c.at + place)) c.rest) ∙ ap (λ (n : ℕ). drop place (take n c.rest)) (sym room) ∙ ap (drop place) e

past_twice : (c : Cursor) (place len next : ℕ) → next ≡ place + len → past (past c place) len ≡ past c next
past_twice c place len next e =
    let at : c.at + place + len ≡ c.at + next = omega arith in
    rw (at, e, drop-drop len place c.rest) refl

index_read : (types : ℕ) (bytes : List ℕ) (place i next : ℕ) → IsIndexAt types bytes place i next → (c : Cursor) → window c ≡ bytes → listed_index types (past c place) ≡ Got i (past c next)
unfolding number u32 index listed_index
index_read types bytes place i next at c e =
    let there = window_past c place bytes e (omega (arith, at.ends, at.within)) in
    rw (there, at.number, lt-ltb i types at.known) (ap (λ (f : Cursor). Got i f) (past_twice c place at.len next at.ends))

spells_some : (n : ℤ) (len : ℕ) (bytes : List ℕ) → Spells n 32 false (take len bytes) → 0 < len
spells_some n zero [] p = absurd p
spells_some n zero (b ∷ bytes) p = absurd p
spells_some n (suc len) bytes p = omega arith

-- of any number of bytes
pub any_bytes : (types : ℕ) (bytes : List ℕ) (place : ℕ) (n : ℤ) (next i : ℕ) → place ≤ length bytes → answers.Number n next ≡ answer place (number_at false 32 (drop place bytes))
    → (len : ℕ) × (next ≡ place + len) × BeginsWithNumber false 32 (drop place bytes) n len → i ≡ nat_abs (to_z w128 (of_z w128 n)) → i < types → IsIndexAt types bytes place i next
any_bytes types bytes place n next i there said h is known =
    let rest = drop place bytes in
    let r = was_read place (number_at false 32 rest) n next said in
    let natural = unsigned_natural n 32 (take h.0 rest) h.2.1 in
    let value : natural.value ≡ i = sym (ap nat_of natural.is) ∙ cast_is n nat_of (λ v. refl) natural ∙ sym is in
    let same : h.0 ≡ r.len = omega (arith, h.1, r.ends) in
    record {
      len = r.len;
      number = r.read ∙ ap (λ (z : ℤ). Number z r.len) (natural.is ∙ ap pos value);
      ends = r.ends;
      some = omega (arith, same, spells_some n h.0 rest h.2.1);
      within = omega (arith, h.1, h.2.0, length-drop place bytes);
      known = known;
    }

pub one_byte : (types : ℕ) (bytes : List ℕ) (place b : ℕ) → place < length bytes → b ≡ get_or bytes place 0 → b < 128 → b < types → IsIndexAt types bytes place b (place + 1)
unfolding number_at
one_byte types bytes place b there is below known =
    let cut : drop place bytes ≡ b ∷ drop (place + 1) bytes = rw is (drop_more bytes place 0 there) in
    record {
      len = 1;
      number = rw (cut, lt-ltb b 128 below, lt-ltb b (2 ^ 32) (omega arith)) refl;
      ends = refl;
      some = omega arith;
      within = omega arith;
      known = known;
    }

pub two_bytes : (types : ℕ) (bytes : List ℕ) (place a b : ℕ) → place + 1 < length bytes → a ≡ get_or bytes place 0 → b ≡ get_or bytes (place + 1) 0 → 128 ≤ a → b < 128 → a - 128 + 128 * b < types
    → IsIndexAt types bytes place (a - 128 + 128 * b) (place + 2)
unfolding number_at
two_bytes types bytes place a b there is is_next from below known =
    let cut : drop place bytes ≡ a ∷ drop (place + 1) bytes = rw is (drop_more bytes place 0 (omega arith)) in
    let cut_next : drop (place + 1) bytes ≡ b ∷ drop (place + 1 + 1) bytes = rw is_next (drop_more bytes (place + 1) 0 there) in
    record {
      len = 2;
      number =
          rw (cut, le-ltb a 128 from, cut_next, lt-ltb b 128 below, lt-ltb b (2 ^ 25) (omega arith))
          (ap (λ (z : ℤ). Number (pos (a - 128) +ℤ z) 2) (pos-*ℤ-pos 128 b));
      ends = refl;
      some = omega arith;
      within = omega arith;
      known = known;
    }

-- ---- indices in a row

abbrev pub read_of : (count place : ℕ) → Functions
read_of count place = record { count = count; bytes = place }

module _ (types : ℕ) (bytes indices : List ℕ) where
  pub one_more : (count place i next : ℕ) → count < length indices → IsIndexAt types bytes place i next → AreRead types bytes (read_of count place) indices → AreRead types bytes (read_of (count + 1) next) (set indices count i)
  one_more count place i next there at r = record {
    room = omega (arith, length-set indices count i);
    within = at.within;
    each = omega (arith, r.each, at.ends, at.some);
    from = λ c e.
        ap (λ (n : ℕ). repeated n (listed_index types) c) (add-one count)
        ∙ one_after count (listed_index types) c (past c place) (past c next) (take count indices) i (r.from c e) (index_read types bytes place i next at c e)
        ∙ ap (λ (l : List ℕ). Got l (past c next)) (sym (take_more_set indices count i there));
  }

-- an index of one byte, where each before has one
pub single_more : (types single : ℕ) (bytes indices : List ℕ) (count next b : ℕ) → single ≡ min types 128 → next ≡ count + 1 → next ≤ length indices → next ≤ length bytes → b ≡ get_or bytes count 0 → b < single
    → AreRead types bytes (read_of count count) indices → AreRead types bytes (read_of next next) (set indices count b)
single_more types single bytes indices count next b least e room there is below r =
    rw e (one_more types bytes indices count count b (count + 1) (omega arith) (one_byte types bytes count b (omega arith) is (omega arith) (omega arith)) r)

-- the first of more indices
pub with_rest : (types : ℕ) (bytes : List ℕ) (read : Functions) (indices rest : List ℕ) → AreRead types bytes read indices → AreRead types bytes read (indices ++ rest)
with_rest types bytes read indices rest r = record {
  room = omega (arith, r.room, length-append indices rest);
  within = r.within;
  each = r.each;
  from = λ c e. r.from c e ∙ ap (λ (l : List ℕ). Got l (past c read.bytes)) (sym (take-append-le read.count indices rest r.room));
}

-- ---- functions

-- so many entries of the function section
pub record AreFunctions (k n : ℕ) (seen : Seen) (c d : Cursor) (types : List ℕ) : Type 0 where
  pub indices : List (ℕ × ℕ)
  pub are : types ≡ map (λ i. i.1) indices
  pub run : (next : Next) (more : List ℕ) → entries n (row 3) next seen (with_more c more) ≡ after_parts (map function_part indices) (entries (n - k) (row 3) next (declares seen k) (with_more d more))

offset_of : (types : ℕ) (c d : Cursor) (i : ℕ) → listed_index types c ≡ Got i d → (at : ℕ) × (index types c ≡ Got (at, i) d)
unfolding listed_index
offset_of types c d i h =
    got_is (λ j e. (at : ℕ) × (index types c ≡ Got (at, j) e)) (listed_index types c) i d h
    (then_got (λ j e. index types c ≡ Got j e) (λ j e. (at : ℕ) × (index types c ≡ Got (at, j) e)) (index types c) _ (got_self (index types c)) (λ j e is. (j.0, is)))

entry_is : (seen : Seen) (c d : Cursor) (i : ℕ × ℕ) → index seen.types c ≡ Got i d → (outline_row 3).entry seen c ≡ Got (function_part i) d
unfolding function
entry_is seen c d i h = rw h refl

declares_none : (seen : Seen) → declares seen 0 ≡ seen
declares_none seen =
    let f : seen.functions + 0 ≡ seen.functions = omega arith in
    let g : seen.declared + 0 ≡ seen.declared = omega arith in
    rw (f, g) refl

declares_more : (seen : Seen) (i : ℕ × ℕ) (k : ℕ) → declares (note seen (Function i)) k ≡ declares seen (suc k)
declares_more seen i k =
    let f : seen.functions + 1 + k ≡ seen.functions + suc k = omega arith in
    let g : seen.declared + 1 + k ≡ seen.declared + suc k = omega arith in
    rw (f, g) refl

entry_run : (next : Next) (n : ℕ) (seen : Seen) (c d : Cursor) (i : ℕ × ℕ) → 0 < n → index seen.types c ≡ Got i d → (more : List ℕ)
    → entries n (row 3) next seen (with_more c more) ≡ after_part (function_part i) (entries (n - 1) (row 3) next (note seen (Function i)) (with_more d more))
entry_run next n seen c d i some h more =
    let here : n ≡ suc (n - 1) = omega arith in
    ap (λ (j : ℕ). entries j (row 3) next seen (with_more c more)) here
    ∙ ap (λ (r : Read Part). runs_on r (λ y f. after_part y (entries (n - 1) (row 3) next (noted seen y) f))) (more_got ((outline_row 3).entry seen) ((outline_steady 3).entry seen).by c d (function_part i) (entry_is seen c d i h) more)

left_over : (next : Next) (k n : ℕ) (seen : Seen) (i : ℕ × ℕ) (d : Cursor) (more : List ℕ)
    → entries (n - 1 - k) (row 3) next (declares (note seen (Function i)) k) (with_more d more) ≡ entries (n - suc k) (row 3) next (declares seen (suc k)) (with_more d more)
left_over next k n seen i d more =
    let fewer : n - 1 - k ≡ n - suc k = omega arith in
    ap (λ (j : ℕ). entries j (row 3) next (declares (note seen (Function i)) k) (with_more d more)) fewer
    ∙ ap (λ (t : Seen). entries (n - suc k) (row 3) next t (with_more d more)) (declares_more seen i k)

pub functions_are : (k n : ℕ) (seen : Seen) (c d : Cursor) (types : List ℕ) → k ≤ n → repeated k (listed_index seen.types) c ≡ Got types d → AreFunctions k n seen c d types
functions_are zero n seen c d types few h =
    let none : types ≡ [] = cc in
    let same : c ≡ d = cc in
    let all : n ≡ n - 0 = omega arith in
    record {
      indices = [];
      are = none;
      run = λ next more.
          ap (λ (j : ℕ). entries j (row 3) next seen (with_more c more)) all
          ∙ ap (λ (s : Seen). entries (n - 0) (row 3) next s (with_more c more)) (sym (declares_none seen))
          ∙ ap (λ (f : Cursor). entries (n - 0) (row 3) next (declares seen 0) (with_more f more)) same;
    }
functions_are (suc k) n seen c d types few h =
    let s = split k (listed_index seen.types) c types d h in
    let o = offset_of seen.types c s.mid s.first s.one in
    let i : ℕ × ℕ = (o.0, s.first) in
    let tail = functions_are k (n - 1) (note seen (Function i)) s.mid d s.rest (omega arith) s.others in
    record {
      indices = i ∷ tail.indices;
      are = s.all ∙ ap (λ (l : List ℕ). s.first ∷ l) tail.are;
      run = λ next more. entry_run next n seen c s.mid i (omega arith) o.1 more ∙ ap (after_part (function_part i)) (tail.run next more ∙ ap (after_parts (map function_part tail.indices)) (left_over next k n seen i d more));
    }
