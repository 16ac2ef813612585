-- A reader that wants more bytes reads, where they come, on into them.
use Rattle.std.proofs.Common.{◌≡◌, ◌≤◌, ◌<◌, ℕ, suc, ◌+◌, ◌-◌, Bool, false, eqb, ltb, List, [], ◌∷◌, ◌++◌, length, take, drop, refl, sym, ap, ◌∙◌, arith, length-append, length-drop, length-take, inl, inr, ℤ}
use Rattle.std.proofs.lemmas.Bool.{cases_Bool, cases_lt, lt-ltb, le-ltb, lt-leb, le-leb}
use Rattle.wasm_defs.specs.declared.fault.Kind.{Kind}
use Rattle.wasm_defs.specs.Numbers.{Reading, Number, CutOff, Bad, number_at, after_byte}
use Rattle.wasm_defs.specs.Fields.{Cursor, Read, Got, Fault, Wants, Reader, then_go, ◌>>=◌, done, refused, room_of, window, past, cut, first_of, byte, from_reading, number, nat_of, run, room, here, stop, agree, fixed, text_after, least, length_owed, name_from, name}
use Rattle.wasm_defs.specs.Entries.{Seen, code}
use Rattle.wasm_defs.specs.Outside.{header, preamble, left_over, section_end}
use Rattle.wasm_defs.proofs.NumberLaws.{last_is_whole, after_cut}
use Rattle.wasm_laws.specs.Steadiness.{IfGot, with_more, Extends, got, faulty, owed, Advances}
use Rattle.wasm_laws.proofs.Steady.{field_steady, then_extends}
use Rattle.wasm_laws.proofs.Windows.{all_of, take_over, window_reads_on, LiesIn, number_lies, ReadsOn, byte_field, number_field}
use Rattle.wasm_laws.proofs.FieldLaws.{run_steady, fixed_steady}
use Rattle.wasm_laws.proofs.Names.{text_outcome, name_field}
use Rattle.wasm_laws.proofs.Completing.{room_left, window_is, text_owes, owed_fits}
use Rattle.wasm_laws.proofs.RowLaws.{end_steady}
use Rattle.wasm_laws.proofs.EachReader.{Composes, RowHas, listed_has, code_has, rest_has, either_row, header_has, preamble_has, row_has}
use Rattle.section_reader.specs.Outline.{outline_row, counted_code}

-- at most so many bytes are left
abbrev pub Leaves : {A : Type 0} → ℕ → Read A → Type 0
Leaves most = IfGot (λ x d. length d.rest ≤ most)

pub record Prompt {A : Type 0} (p : Reader A) : Type 0 where
  pub by : (c : Cursor) (more : List ℕ) → Extends A more (p c) (p (with_more c more))
  pub fewer : (c : Cursor) → Leaves (length c.rest) (p c)
  pub late : (c : Cursor) (more : List ℕ) → p c ≡ Wants → Leaves (length more) (p (with_more c more))

-- ---- one after the other

leaves_less : {A : Type 0} (least most : ℕ) (x : Read A) → least ≤ most → Leaves least x → Leaves most x
leaves_less least most (Got x d) le h = omega (arith, h)
leaves_less least most (Fault r) le h = tt
leaves_less least most Wants le h = tt

then_leaves : {A B : Type 0} (most : ℕ) (x : Read A) (f : A → Reader B) → ((a : A) (d : Cursor) → Leaves (length d.rest) (f a d)) → Leaves most x → Leaves most (then_go x f)
then_leaves most (Got a d) f h le = leaves_less (length d.rest) most (f a d) le (h a d)
then_leaves most (Fault r) f h le = tt
then_leaves most Wants f h le = tt

then_late : {A B : Type 0} (more : List ℕ) (x y : Read A) (f : A → Reader B) → Extends A more x y → (x ≡ Wants → Leaves (length more) y)
    → ((a : A) (d : Cursor) → Leaves (length d.rest) (f a d)) → ((a : A) (d : Cursor) → f a d ≡ Wants → Leaves (length more) (f a (with_more d more)))
    → then_go x f ≡ Wants → Leaves (length more) (then_go y f)
then_late more _ _ f (got a c) hx fewer late e = late a c e
then_late more _ _ f (faulty r) hx fewer late e = absurd cc
then_late more _ _ f (owed later) hx fewer late e = then_leaves (length more) later f fewer (hx refl)

bind : {A B : Type 0} (p : Reader A) (f : A → Reader B) → Prompt p → ((a : A) → Prompt (f a)) → Prompt (p >>= f)
bind p f hp hf = record {
  by = λ c more. then_extends more (p c) (p (with_more c more)) f (λ a d. (hf a).by d more) (hp.by c more);
  fewer = λ c. then_leaves (length c.rest) (p c) f (λ a d. (hf a).fewer d) (hp.fewer c);
  late = λ c more e. then_late more (p c) (p (with_more c more)) f (hp.by c more) (hp.late c more) (λ a d. (hf a).fewer d) (λ a d. (hf a).late d more) e;
}

done_prompt : {A : Type 0} (x : A) → Prompt (done x)
done_prompt x = record { by = λ c more. got x c; fewer = λ c. omega arith; late = λ c more e. absurd cc }

refused_prompt : {A : Type 0} (kind : Kind) (at : ℕ) → Prompt (refused {A = A} kind at)
refused_prompt kind at = record { by = λ c more. faulty (record { offset = at; kind = kind }); fewer = λ c. tt; late = λ c more e. absurd cc }

-- ---- fields

advance_leaves : {A : Type 0} (c : Cursor) (x : Read A) → Advances c x → Leaves (length c.rest) x
advance_leaves c (Got x d) p = omega (arith, ap length p.parts, length-append p.taken d.rest)
advance_leaves c (Fault r) p = tt
advance_leaves c Wants p = tt

cut_leaves : (A : Type 0) (most : ℕ) (c : Cursor) → Leaves {A = A} most (cut c)
cut_leaves A most c =
    elim (cases_lt (length c.rest) (room_of c)) [
      | inl lt ↦ rw (lt-leb (room_of c) (length c.rest) lt) tt
      | inr ge ↦ rw (le-leb (room_of c) (length c.rest) ge) tt
    ]

-- so many bytes of those that are there and of more ones are passed
past_late : (c : Cursor) (more : List ℕ) (len : ℕ) → length c.rest ≤ len → length (past (with_more c more) len).rest ≤ length more
past_late c more len h = omega (arith, length-drop len (c.rest ++ more), length-append c.rest more)

first_wants : (c : Cursor) (w : List ℕ) → first_of c w ≡ Wants → (w ≡ []) × (cut {A = ℕ × ℕ} c ≡ Wants)
first_wants c [] e = (refl, e)
first_wants c (b ∷ w) e = absurd cc

first_late : (c : Cursor) (more w : List ℕ) → length c.rest ≤ 1 → Leaves (length more) (first_of (with_more c more) w)
first_late c more [] h = cut_leaves (ℕ × ℕ) (length more) (with_more c more)
first_late c more (b ∷ w) h = past_late c more 1 h

byte_prompt : Prompt byte
unfolding byte
byte_prompt = record {
  by = (field_steady [] byte byte_field).by;
  fewer = λ c. advance_leaves c (byte c) ((field_steady [] byte byte_field).moves c);
  late = λ c more e.
      let w = first_wants c (window c) e in
      let room = room_left (ℕ × ℕ) c w.1 in
      let none : length c.rest ≤ 1 = omega (arith, ap length (window_is c (omega arith)), ap length w.0) in
      first_late c more (window (with_more c more)) none;
}

-- a number that goes on is longer
abbrev IsLonger : ℕ → Reading → Type 0
IsLonger k (Number n len) = k < len
IsLonger k CutOff = Unit {0}
IsLonger k Bad = Unit {0}

after_longer : (k b : ℕ) (r : Reading) → IsLonger k r → IsLonger (suc k) (after_byte b r)
after_longer k b (Number n len) h = omega (arith, h)
after_longer k b CutOff h = tt
after_longer k b Bad h = tt

lies_longer : (most : ℕ) (r : Reading) → LiesIn most r → IsLonger 0 r
lies_longer most (Number n len) h = omega (arith, h.0)
lies_longer most CutOff h = tt
lies_longer most Bad h = tt

number_longer : (signed : Bool) (bits : ℕ) (bytes more : List ℕ) → number_at signed bits bytes ≡ CutOff → IsLonger (length bytes) (number_at signed bits (bytes ++ more))
unfolding number_at
number_longer signed bits [] more e = lies_longer (length more) (number_at signed bits more) (number_lies signed bits more)
number_longer signed bits (b ∷ bytes) more e =
    elim (cases_Bool (ltb b 128)) [
      | inl low ↦ absurd (last_is_whole signed bits b (rw low at e))
      | inr high ↦ let t = rw high at e in rw high (elim (cases_Bool (ltb 7 bits)) [
        | inl wide ↦ let u = rw wide at t in rw wide (after_longer (length bytes) b (number_at signed (bits - 7) (bytes ++ more)) (number_longer signed (bits - 7) bytes more (after_cut b (number_at signed (bits - 7) bytes) u)))
        | inr narrow ↦ rw narrow tt
      ])
    ]

-- in the window of a section with room
window_longer : (signed : Bool) (bits : ℕ) (c : Cursor) (more : List ℕ) → length c.rest ≤ room_of c → number_at signed bits (window c) ≡ CutOff → IsLonger (length c.rest) (number_at signed bits (window (with_more c more)))
window_longer signed bits c more h e =
    elim (cases_lt (length c.rest + length more) (room_of c)) [
      | inl fits ↦ rw (all_of (room_of c) (c.rest ++ more) (omega (arith, length-append c.rest more))) (number_longer signed bits c.rest more (ap (number_at signed bits) (sym (window_is c h)) ∙ e))
      | inr over ↦ rw (take_over (room_of c) c.rest more h) (number_longer signed bits c.rest (take (room_of c - length c.rest) more) (ap (number_at signed bits) (sym (window_is c h)) ∙ e))
    ]

reading_late : (c : Cursor) (more : List ℕ) (r : Reading) → IsLonger (length c.rest) r → Leaves (length more) (from_reading (with_more c more) r)
reading_late c more (Number n len) h = past_late c more len (omega (arith, h))
reading_late c more CutOff h = cut_leaves (ℕ × ℤ) (length more) (with_more c more)
reading_late c more Bad h = tt

number_late : (signed : Bool) (bits : ℕ) (c : Cursor) (more : List ℕ) (r : Reading) → number_at signed bits (window c) ≡ r → from_reading c r ≡ Wants → Leaves (length more) (from_reading (with_more c more) (number_at signed bits (window (with_more c more))))
number_late signed bits c more (Number n len) is e = absurd cc
number_late signed bits c more CutOff is e =
    let room = room_left (ℕ × ℤ) c e in
    reading_late c more _ (window_longer signed bits c more (omega arith) is)
number_late signed bits c more Bad is e = absurd cc

number_prompt : (signed : Bool) (bits : ℕ) → Prompt (number signed bits)
unfolding number
number_prompt signed bits = record {
  by = (field_steady [] (number signed bits) (number_field signed bits)).by;
  fewer = λ c. advance_leaves c (number signed bits c) ((field_steady [] (number signed bits) (number_field signed bits)).moves c);
  late = λ c more e. number_late signed bits c more (number_at signed bits (window c)) refl e;
}

-- ---- names

text_late : (len n : ℕ) (c : Cursor) (more : List ℕ) → length c.rest ≤ len + n → Leaves (length more) (text_after len n (with_more c more))
text_late len n c more h =
    text_outcome (Leaves (length more)) len n (with_more c more) tt tt (λ fits right lt. tt) (λ fits right ge under. past_late c more (len + n) h)

-- a text that isn't whole has room for more than is there
text_wants : (len n : ℕ) (c : Cursor) → text_after len n c ≡ Wants → length c.rest ≤ len + n
text_wants len n c e =
    let o = text_owes len n c e in
    let few : length (window c) < len + n = omega (arith, o.short, length-take n (drop len (window c)), length-drop len (window c)) in
    omega (arith, few, o.fits, length-take (room_of c) c.rest)

owed_leaves : (most : ℕ) (c : Cursor) → Leaves most (length_owed c)
owed_leaves most c =
    elim (cases_Bool (ltb (room_of c) (length (window c) + 1 + least (window c)))) [
      | inl long ↦ rw long tt
      | inr fits ↦ rw fits tt
    ]

owed_room : (c : Cursor) → length_owed c ≡ Wants → length c.rest ≤ room_of c
owed_room c e = omega (arith, owed_fits c e, length-take (room_of c) c.rest)

longer_late : (c : Cursor) (more : List ℕ) (r : Reading) → IsLonger (length c.rest) r → Leaves (length more) (name_from (with_more c more) r)
longer_late c more (Number n len) h = text_late len (nat_of n) c more (omega (arith, h))
longer_late c more CutOff h = owed_leaves (length more) (with_more c more)
longer_late c more Bad h = tt

name_late : (c : Cursor) (more : List ℕ) (r : Reading) → number_at false 32 (window c) ≡ r → name_from c r ≡ Wants → ReadsOn r (number_at false 32 (window (with_more c more))) → Leaves (length more) (name_from (with_more c more) (number_at false 32 (window (with_more c more))))
name_late c more (Number n len) is e on = rw on (text_late len (nat_of n) c more (text_wants len (nat_of n) c e))
name_late c more CutOff is e on = longer_late c more _ (window_longer false 32 c more (owed_room c e) is)
name_late c more Bad is e on = absurd cc

name_prompt : Prompt name
unfolding name
name_prompt = record {
  by = (field_steady [] name name_field).by;
  fewer = λ c. advance_leaves c (name c) ((field_steady [] name name_field).moves c);
  late = λ c more e. name_late c more (number_at false 32 (window c)) refl e (window_reads_on false 32 c more);
}

-- ---- runs and given bytes

run_prompt : (n : ℕ) → Prompt (run n)
unfolding run
run_prompt n = record {
  by = (run_steady [] n).by;
  fewer = λ c. advance_leaves c (run n c) ((run_steady [] n).moves c);
  late = λ c more e.
      elim (cases_lt (length (window c)) n) [
        | inr ge ↦ absurd (let t = rw (le-ltb (length (window c)) n ge) at e in cc)
        | inl lt ↦
            let room = room_left (List ℕ) c (rw (lt-ltb (length (window c)) n lt) at e) in
            let short : length c.rest ≤ n = omega (arith, ap length (window_is c (omega arith)), lt) in
            elim (cases_lt (length (window (with_more c more))) n) [
              | inl few ↦ rw (lt-ltb (length (window (with_more c more))) n few) (cut_leaves (List ℕ) (length more) (with_more c more))
              | inr enough ↦ rw (le-ltb (length (window (with_more c more))) n enough) (past_late c more n short)
            ]
      ];
}

fixed_leaves : (bytes : List ℕ) (c : Cursor) (more : List ℕ) → length c.rest ≤ length bytes → Leaves (length more) (fixed bytes (with_more c more))
unfolding fixed
fixed_leaves bytes c more h =
    elim (cases_Bool (agree bytes (window (with_more c more)))) [
      | inr other ↦ rw other tt
      | inl same ↦ rw same (elim (cases_lt (length (window (with_more c more))) (length bytes)) [
        | inl few ↦ rw (lt-ltb (length (window (with_more c more))) (length bytes) few) (cut_leaves ℕ (length more) (with_more c more))
        | inr enough ↦ rw (le-ltb (length (window (with_more c more))) (length bytes) enough) (past_late c more (length bytes) h)
      ])
    ]

fixed_prompt : (bytes : List ℕ) → Prompt (fixed bytes)
unfolding fixed
fixed_prompt bytes = record {
  by = (fixed_steady [] bytes).by;
  fewer = λ c. advance_leaves c (fixed bytes c) ((fixed_steady [] bytes).moves c);
  late = λ c more e.
      elim (cases_Bool (agree bytes (window c))) [
        | inr other ↦ absurd (let t = rw other at e in cc)
        | inl same ↦ let t = rw same at e in elim (cases_lt (length (window c)) (length bytes)) [
          | inr ge ↦ absurd (let u = rw (le-ltb (length (window c)) (length bytes) ge) at t in cc)
          | inl lt ↦
              let room = room_left ℕ c (rw (lt-ltb (length (window c)) (length bytes) lt) at t) in
              fixed_leaves bytes c more (omega (arith, ap length (window_is c (omega arith)), lt))
        ]
      ];
}

room_prompt : Prompt room
unfolding room
room_prompt = record { by = λ c more. got (room_of c) c; fewer = λ c. omega arith; late = λ c more e. absurd cc }

here_prompt : Prompt here
unfolding here
here_prompt = record { by = λ c more. got c.at c; fewer = λ c. omega arith; late = λ c more e. absurd cc }

stop_prompt : Prompt stop
unfolding stop
stop_prompt = record { by = λ c more. got c.end c; fewer = λ c. omega arith; late = λ c more e. absurd cc }

-- ---- all readers

abbrev pub AsPrompt : (A : Type 0) → Reader A → Type 0
AsPrompt A p = Prompt p

prompt_composes : Composes AsPrompt
prompt_composes = record {
  of_bind = bind;
  of_done = done_prompt;
  of_refused = λ kind at few. refused_prompt kind at;
  of_byte = byte_prompt;
  of_number = number_prompt;
  of_run = run_prompt;
  of_room = room_prompt;
  of_here = here_prompt;
  of_stop = stop_prompt;
  of_fixed = fixed_prompt;
  of_name = name_prompt;
}

pub header_prompt : (seen : Seen) → Prompt (header seen)
header_prompt seen = header_has AsPrompt prompt_composes seen

pub preamble_prompt : Prompt preamble
preamble_prompt = preamble_has AsPrompt prompt_composes

-- in an outline the code section has one entry, its count
counted_prompt : RowHas AsPrompt counted_code
counted_prompt = record {
  front = λ s. done_prompt 1;
  entry = λ s. listed_has AsPrompt prompt_composes (code s) (code_has AsPrompt prompt_composes s);
  back = rest_has AsPrompt prompt_composes;
}

pub row_prompt : (id : ℕ) → RowHas AsPrompt (outline_row id)
row_prompt id = either_row AsPrompt prompt_composes (eqb id 11) _ _ counted_prompt (row_has AsPrompt prompt_composes id)

-- ---- where a section ends

left_late : (c : Cursor) (most : ℕ) (rest : List ℕ) → Leaves most (left_over c rest)
left_late c most [] = tt
left_late c most (b ∷ rest) = tt

pub end_prompt : Prompt section_end
unfolding section_end
end_prompt = record {
  by = end_steady.by;
  fewer = λ c. elim (cases_Bool (eqb (room_of c) 0)) [
    | inl over ↦ rw over (omega arith)
    | inr some ↦ rw some (left_late c (length c.rest) c.rest)
  ];
  late = λ c more e. elim (cases_Bool (eqb (room_of c) 0)) [
    | inl over ↦ absurd (let t = rw over at e in cc)
    | inr some ↦ rw some (left_late (with_more c more) (length more) (c.rest ++ more))
  ];
}
