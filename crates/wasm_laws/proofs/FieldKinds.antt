-- Reading refuses nothing as Ended: that is said of bytes that are owed alone.
use Rattle.std.proofs.Common.{◌<◌, ℕ, ◌+◌, Bool, true, false, cond, leb, ltb, eqb, List, [], ◌∷◌, length, arith, inl, inr}
use Rattle.std.proofs.lemmas.Bool.{cases_Bool}
use Rattle.wasm_defs.specs.declared.fault.Kind.{Kind}
use Rattle.wasm_defs.specs.Numbers.{Reading, Number, CutOff, Bad, number_at}
use Rattle.wasm_defs.specs.Fields.{Cursor, Read, Got, Fault, Wants, Reader, then_go, ◌>>=◌, done, refused, repeated, room_of, window, cut, first_of, byte, from_reading, number, u32, count, vector, run, room, here, stop, text_after, least, name_from, nat_of, name, agree, fixed}
use Rattle.wasm_defs.specs.Entries.{Seen, value_type}
use Rattle.wasm_defs.specs.Outside.{row, left_over, header, preamble, section_end}
use Rattle.wasm_defs.specs.Faults.{rank}
use Rattle.wasm_laws.proofs.Names.{text_outcome}
use Rattle.wasm_laws.proofs.EachReader.{malformed, unsupported, limit, invalid, wrong, wrong_after, Composes, RowHas, repeated_has, u32_has, count_has, vector_has, value_type_has, header_has, preamble_has, row_has}

abbrev pub Lasts : {A : Type 0} → Read A → Type 0
Lasts (Got x d) = Unit {0}
Lasts (Fault r) = rank r.kind < 4
Lasts Wants = Unit {0}

-- a reader whose errors are of another kind than Ended
pub record Lasting {A : Type 0} (p : Reader A) : Type 0 where
  pub by : (c : Cursor) → Lasts (p c)

-- ---- one after the other

then_lasts : {A B : Type 0} (x : Read A) (f : A → Reader B) → Lasts x → ((a : A) (d : Cursor) → Lasts (f a d)) → Lasts (then_go x f)
then_lasts (Got a d) f h k = k a d
then_lasts (Fault r) f h k = h
then_lasts Wants f h k = tt

pub bind : {A B : Type 0} (p : Reader A) (f : A → Reader B) → Lasting p → ((a : A) → Lasting (f a)) → Lasting (p >>= f)
bind p f hp hf = record { by = λ c. then_lasts (p c) f (hp.by c) (λ a d. (hf a).by d) }

pub done_lasts : {A : Type 0} (x : A) → Lasting (done x)
done_lasts x = record { by = λ c. tt }

pub refused_lasts : {A : Type 0} (kind : Kind) (at : ℕ) → rank kind < 4 → Lasting (refused {A = A} kind at)
refused_lasts kind at h = record { by = λ c. h }

pub either : {A : Type 0} (b : Bool) (p q : Reader A) → Lasting p → Lasting q → Lasting (cond b p q)
either true p q hp hq = hp
either false p q hp hq = hq

-- ---- fields

cut_lasts : (A : Type 0) (c : Cursor) → Lasts (cut {A = A} c)
cut_lasts A c = elim (cases_Bool (leb (room_of c) (length c.rest))) [ inl h ↦ rw h (omega arith) | inr h ↦ rw h tt ]

first_lasts : (c : Cursor) (w : List ℕ) → Lasts (first_of c w)
first_lasts c [] = cut_lasts _ c
first_lasts c (b ∷ bytes) = tt

pub byte_lasts : Lasting byte
unfolding byte
byte_lasts = record { by = λ c. first_lasts c (window c) }

reading_lasts : (c : Cursor) (r : Reading) → Lasts (from_reading c r)
reading_lasts c (Number n len) = tt
reading_lasts c CutOff = cut_lasts _ c
reading_lasts c Bad = omega arith

pub number_lasts : (signed : Bool) (bits : ℕ) → Lasting (number signed bits)
unfolding number
number_lasts signed bits = record { by = λ c. reading_lasts c (number_at signed bits (window c)) }

run_lasts : (n : ℕ) → Lasting (run n)
unfolding run
run_lasts n = record { by = λ c. elim (cases_Bool (ltb (length (window c)) n)) [ inl h ↦ rw h (cut_lasts _ c) | inr h ↦ rw h tt ] }

room_lasts : Lasting room
unfolding room
room_lasts = record { by = λ c. tt }

pub here_lasts : Lasting here
unfolding here
here_lasts = record { by = λ c. tt }

stop_lasts : Lasting stop
unfolding stop
stop_lasts = record { by = λ c. tt }

fixed_lasts : (bytes : List ℕ) → Lasting (fixed bytes)
unfolding fixed
fixed_lasts bytes = record {
  by = λ c. elim (cases_Bool (agree bytes (window c))) [
    | inr other ↦ rw other (omega arith)
    | inl same ↦ rw same (elim (cases_Bool (ltb (length (window c)) (length bytes))) [ inl h ↦ rw h (cut_lasts _ c) | inr h ↦ rw h tt ])
  ];
}

text_lasts : (len n : ℕ) (c : Cursor) → Lasts (text_after len n c)
text_lasts len n c = text_outcome Lasts len n c malformed limit (λ fits right short. tt) (λ fits right whole few. tt)

name_from_lasts : (c : Cursor) (r : Reading) → Lasts (name_from c r)
name_from_lasts c (Number n len) = text_lasts len (nat_of n) c
name_from_lasts c CutOff = elim (cases_Bool (ltb (room_of c) (length (window c) + 1 + least (window c)))) [ inl h ↦ rw h malformed | inr h ↦ rw h tt ]
name_from_lasts c Bad = malformed

name_lasts : Lasting name
unfolding name
name_lasts = record { by = λ c. name_from_lasts c (number_at false 32 (window c)) }

-- ---- all readers

abbrev pub AsLasting : (A : Type 0) → Reader A → Type 0
AsLasting A p = Lasting p

lasting_composes : Composes AsLasting
lasting_composes = record {
  of_bind = bind;
  of_done = done_lasts;
  of_refused = refused_lasts;
  of_byte = byte_lasts;
  of_number = number_lasts;
  of_run = run_lasts;
  of_room = room_lasts;
  of_here = here_lasts;
  of_stop = stop_lasts;
  of_fixed = fixed_lasts;
  of_name = name_lasts;
}

pub repeated_lasts : {A : Type 0} (n : ℕ) (p : Reader A) → Lasting p → Lasting (repeated n p)
repeated_lasts n p h = repeated_has AsLasting lasting_composes n p h

pub u32_lasts : Lasting u32
u32_lasts = u32_has AsLasting lasting_composes

pub count_lasts : (most : ℕ) → Lasting (count most)
count_lasts most = count_has AsLasting lasting_composes most

pub vector_lasts : {A : Type 0} (counted : Reader (ℕ × ℕ)) (p : Reader A) → Lasting counted → Lasting p → Lasting (vector counted p)
vector_lasts counted p hc hp = vector_has AsLasting lasting_composes counted p hc hp

pub value_type_lasts : Lasting value_type
value_type_lasts = value_type_has AsLasting lasting_composes

pub ruleset lasting = (u32_lasts, count_lasts, vector_lasts, bind, either, done_lasts, refused_lasts, malformed, unsupported, limit, invalid, wrong, wrong_after, repeated_lasts, byte_lasts, number_lasts, here_lasts)

pub header_lasts : (seen : Seen) → Lasting (header seen)
header_lasts seen = header_has AsLasting lasting_composes seen

pub preamble_lasts : Lasting preamble
preamble_lasts = preamble_has AsLasting lasting_composes

pub row_lasts : (id : ℕ) → RowHas AsLasting (row id)
row_lasts id = row_has AsLasting lasting_composes id

-- ---- where a section ends

left_lasts : (c : Cursor) (rest : List ℕ) → Lasts (left_over c rest)
left_lasts c [] = tt
left_lasts c (b ∷ rest) = omega arith

pub end_lasts : Lasting section_end
unfolding section_end
end_lasts = record { by = λ c. elim (cases_Bool (eqb (room_of c) 0)) [ inl over ↦ rw over tt | inr left ↦ rw left (left_lasts c c.rest) ] }
