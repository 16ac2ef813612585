-- Where no token begins, the error is at the first field that isn't encoded.
use Rattle.std.proofs.Common.{◌≡◌, ◌⊎◌, inl, inr, ℕ, zero, suc, ◌+◌, ◌-◌, ℤ, pos, negsuc, Bool, true, false, cond, nat_lt, nat_le, eqb, ◌||◌, List, [], ◌∷◌, ◌++◌, length, replicate, Option, Some, None, refl, sym, ap, subst, ◌∙◌, append_assoc, arith, length-append}
use Rattle.std.proofs.lemmas.Bool.{cases_Bool, eqb-true}
use Rattle.std.proofs.lemmas.List.{append-nil}
use Rattle.wasm_defs.specs.declared.fault.Kind.{Kind}
use Rattle.wasm_defs.specs.declared.fault.Kind.TheVariants.{Malformed, Unsupported}
use Rattle.wasm_defs.specs.declared.fault.Refusal.{Refusal}
use Rattle.wasm_defs.specs.declared.types.ValType.{ValType}
use Rattle.wasm_defs.specs.declared.types.ValType.TheVariants.{I32, I64}
use Rattle.wasm_defs.specs.declared.operation.Access.{Access}
use Rattle.wasm_defs.specs.declared.operation.Operation.{Operation}
use Rattle.wasm_defs.specs.declared.token.BlockType.{BlockType}
use Rattle.wasm_defs.specs.declared.token.BlockType.TheVariants.{Empty, Value}
use Rattle.wasm_defs.specs.declared.token.BulkOp.TheVariants.{Fill, Copy, Init}
use Rattle.wasm_defs.specs.declared.token.Plain.{Plain}
use Rattle.wasm_defs.specs.declared.token.Plain.TheVariants as plains
use Rattle.wasm_defs.specs.declared.token.Token.{Token}
use Rattle.wasm_defs.specs.declared.token.Token.TheVariants as token
use Rattle.wasm_defs.specs.Fields.{Cursor, Read, Got, Fault, Reader, then_go, ◌>>=◌, done, refused, repeated, room_of, window, past, first_of, from_reading, byte, number, here, u32, vector}
use Rattle.wasm_defs.specs.Numbers.{Reading, Number, CutOff, Bad, number_at}
use Rattle.wasm_defs.specs.Items.{Spelling, ◌then◌, exactly, byte_is, u32_is, number_is, listed_index_is}
use Rattle.wasm_defs.specs.Bodies.{with_index, short_type, type_by, block_type, with_type, label, branch_table, zero_byte, indirect, with_zero, initializing, copying, by_number, prefixed, mem_arg, accessed, with_mem_arg, constant, control, variable, accessed_at, memory, operated_at, numeric, instruction}
use Rattle.wasm_defs.specs.Codes.{block_type_is, instruction_is}
use Rattle.wasm_defs.proofs.NumberLaws.{AreBytes}
use Rattle.wasm_defs.specs.Values.{bits}
use Rattle.wasm_laws.specs.Sections as sections
use Rattle.wasm_laws.specs.Steadiness as steady
use Rattle.wasm_laws.proofs.Bytes.{each_byte}
use Rattle.wasm_laws.proofs.Steady.{IfGot}
use Rattle.wasm_laws.proofs.Parts.{then_got, got_map}
use Rattle.wasm_laws.proofs.Spelt.{cursor, Ready, Found, later, found_nothing, found_then, found_here}
use Rattle.wasm_laws.proofs.SpeltFields.{Always, byte_spelt, number_spelt, u32_spelt}
use Rattle.body_laws.specs.WrongTokens.{Field, Index, Typed, Zero, Signed, field_is, fields_are, Following, Fields, Labels, anything, opcode_is, Numbered, following_is, IsWrongField, AreWrongFields, IsWrongFollowing, IsWrongToken}
use Rattle.body_laws.proofs.SpeltTokens.{typed_by, block_type_spelt, zero_spelt, token_read}
use Rattle.body_laws.proofs.WrongFields.{IfStops, stops_then, stops_as, got_as, Fits, fits_behind, got_of, read_wrong, fault_at, cut_place, number_place, u32_place}

-- ---- readers of fields

record FieldIs {A : Type 0} (f : Field) (p : Reader A) : Type 0 where
  found : (c : Cursor) → Ready c → IfGot (λ x d. Found (field_is f) (Unit {0}) c d) (p c)
  wrong : (last : ℕ) (c : Cursor) → Fits c → IfStops (IsWrongField f c.at c.rest last) last (p c)

record FieldsAre {A : Type 0} (fs : List Field) (p : Reader A) : Type 0 where
  found : (c : Cursor) → Ready c → IfGot (λ x d. Found (fields_are fs) (Unit {0}) c d) (p c)
  wrong : (last : ℕ) (c : Cursor) → Ready c → Fits c → IfStops (AreWrongFields fs c.at c.rest last) last (p c)

no_fields : {A : Type 0} (x : A) → FieldsAre [] (done x)
no_fields x = record { found = λ c ready. found_nothing c (Unit {0}) ready tt; wrong = λ last c ready fits. tt }

then_field : {A B : Type 0} (f : Field) (fs : List Field) (p : Reader A) (k : A → Reader B) → FieldIs f p → ((x : A) → FieldsAre fs (k x)) → FieldsAre (f ∷ fs) (p >>= k)
then_field {A} {B} f fs p k h g = record {
  found = λ c ready. then_got (λ x d. Found (field_is f) (Unit {0}) c d) (λ y e. Found (fields_are (f ∷ fs)) (Unit {0}) c e) (p c) k (h.found c ready) (λ x d found.
      got_map (λ y e. Found (fields_are fs) (Unit {0}) d e) (λ y e. Found (fields_are (f ∷ fs)) (Unit {0}) c e) (k x d) (λ y e behind. found_then (Unit {0}) c d e found behind tt) ((g x).found d (later c d found ready)));
  wrong = λ last c ready fits.
      stops_then (AreWrongFields (f ∷ fs) c.at c.rest last) last (p c) k (stops_as (IsWrongField f c.at c.rest last) (AreWrongFields (f ∷ fs) c.at c.rest last) last (p c) (λ r w. inl w) (h.wrong last c fits)) (λ x d e.
      let found = got_as (λ (x : A) (d : Cursor). Found (field_is f) (Unit {0}) c d) (p c) x d e (h.found c ready) in
      stops_as (AreWrongFields fs d.at d.rest last) (AreWrongFields (f ∷ fs) c.at c.rest last) last (k x d) (λ r w. inr (found.taken, d.rest, found.parts, found.spelled, subst (λ (o : ℕ). AreWrongFields fs o d.rest last r) found.at w)) ((g x).wrong last d (later c d found ready) (fits_behind c d found fits)));
}

last_field : {A B : Type 0} (f : Field) (p : Reader A) (g : A → B) → FieldIs f p → FieldsAre (f ∷ []) (p >>= (λ x. done (g x)))
last_field f p g h = then_field f [] p (λ x. done (g x)) h (λ x. no_fields (g x))

-- what is made of what was read takes nothing
field_made : {A B : Type 0} (f : Field) (p : Reader A) (g : A → B) → FieldIs f p → FieldIs f (p >>= (λ x. done (g x)))
field_made f p g h = record {
  found = λ c ready. then_got (λ x d. Found (field_is f) (Unit {0}) c d) (λ y d. Found (field_is f) (Unit {0}) c d) (p c) (λ x. done (g x)) (h.found c ready) (λ x d found. found);
  wrong = λ last c fits. stops_then (IsWrongField f c.at c.rest last) last (p c) (λ x. done (g x)) (h.wrong last c fits) (λ x d e. tt);
}

fields_made : {A B : Type 0} (fs : List Field) (p : Reader A) (g : A → B) → FieldsAre fs p → FieldsAre fs (p >>= (λ x. done (g x)))
fields_made fs p g h = record {
  found = λ c ready. then_got (λ x d. Found (fields_are fs) (Unit {0}) c d) (λ y d. Found (fields_are fs) (Unit {0}) c d) (p c) (λ x. done (g x)) (h.found c ready) (λ x d found. found);
  wrong = λ last c ready fits. stops_then (AreWrongFields fs c.at c.rest last) last (p c) (λ x. done (g x)) (h.wrong last c ready fits) (λ x d e. tt);
}

-- ---- the fields

index_field : FieldIs Index u32
index_field = record {
  found = λ c ready. got_map (λ n d. Found (u32_is n) (Always n) c d) (λ n d. Found (field_is Index) (Unit {0}) c d) (u32 c) (λ n d found. found_here (field_is Index) (Unit {0}) c d found (n.1, found.spelled.1) tt) (u32_spelt.sound c ready);
  wrong = λ last c fits. read_wrong (λ (u : Unit {0}). field_is Index) u32 last c (λ u front back e s. ((c.at, s.0), cursor (c.at + length front) back c.end, got_of u32 (c.at, s.0) (u32_is (c.at, s.0)) c fits (u32_spelt.complete (c.at, s.0) tt) front back e (refl, s.1))) (u32_place c);
}

label_field : FieldIs Index label
unfolding label
label_field = field_made Index u32 (λ l. l.1) index_field

block_tested : (at : ℕ) (d : Cursor) (r : Refusal) (first second third fourth : Bool) → cond first (done Empty) (cond second (done (Value I32)) (cond third (done (Value I64)) (cond fourth (refused Unsupported at) (refused Malformed at)))) d ≡ Fault r → r.offset ≡ at
block_tested at d r true second third fourth e = absurd cc
block_tested at d r false true third fourth e = absurd cc
block_tested at d r false false true fourth e = absurd cc
block_tested at d r false false false true e = fault_at at (record { offset = at; kind = Unsupported }) r refl e
block_tested at d r false false false false e = fault_at at (record { offset = at; kind = Malformed }) r refl e

type_tested : (at less : ℕ) (d : Cursor) (r : Refusal) (long : Bool) → cond long (refused Malformed at) (short_type at less) d ≡ Fault r → r.offset ≡ at
type_tested at less d r true e = fault_at at (record { offset = at; kind = Malformed }) r refl e
type_tested at less d r false e = block_tested at d r (eqb less 0x3F) (eqb less 0x00) (eqb less 0x01) (eqb less 0x02 || eqb less 0x03) e

type_place : (at bytes : ℕ) (n : ℤ) (d : Cursor) (r : Refusal) → type_by at bytes n d ≡ Fault r → r.offset ≡ at
type_place at bytes (pos i) d r e = absurd cc
type_place at bytes (negsuc less) d r e = type_tested at less d r (nat_lt 1 bytes) e

block_place : (c : Cursor) (r : Refusal) → block_type c ≡ Fault r → r.offset ≡ c.at
unfolding block_type number here
block_place c r e = of (number_at true 33 (window c)) e
  where
    of : (x : Reading) → then_go (from_reading c x) typed_by ≡ Fault r → r.offset ≡ c.at
    of (Number n len) e = type_place c.at ((past c len).at - c.at) n (past c len) r e
    of CutOff e = cut_place (nat_le (room_of c) (length c.rest)) c typed_by r e
    of Bad e = fault_at c.at (record { offset = c.at; kind = Malformed }) r refl e

block_field : FieldIs Typed block_type
block_field = record {
  found = λ c ready. got_map (λ t d. Found (block_type_is t) (Always t) c d) (λ t d. Found (field_is Typed) (Unit {0}) c d) (block_type c) (λ t d found. found_here (field_is Typed) (Unit {0}) c d found (t, found.spelled) tt) (block_type_spelt.sound c ready);
  wrong = λ last c fits. read_wrong (λ (u : Unit {0}). field_is Typed) block_type last c (λ u front back e s. (s.0, cursor (c.at + length front) back c.end, got_of block_type s.0 (block_type_is s.0) c fits (block_type_spelt.complete s.0 tt) front back e s.1)) (block_place c);
}

abbrev passed : Reader (Unit {0})
passed = done tt

abbrev not_zero : ℕ → Reader (Unit {0})
not_zero at = refused Malformed at

zero_tested : (at : ℕ) (d : Cursor) (r : Refusal) (test : Bool) → cond test passed (not_zero at) d ≡ Fault r → r.offset ≡ at
zero_tested at d r true e = absurd cc
zero_tested at d r false e = fault_at at (record { offset = at; kind = Malformed }) r refl e

zero_place : (c : Cursor) (r : Refusal) → zero_byte c ≡ Fault r → r.offset ≡ c.at
unfolding zero_byte byte
zero_place c r e = of (window c) e
  where
    test : ℕ × ℕ → Reader (Unit {0})
    test b = cond (eqb b.1 0) passed (not_zero b.0)

    of : (w : List ℕ) → then_go (first_of c w) test ≡ Fault r → r.offset ≡ c.at
    of [] e = cut_place (nat_le (room_of c) (length c.rest)) c test r e
    of (b ∷ w) e = zero_tested c.at (past c 1) r (eqb b 0) e

zero_field : FieldIs Zero zero_byte
zero_field = record {
  found = λ c ready. zero_spelt.sound c ready;
  wrong = λ last c fits. read_wrong (λ (u : Unit {0}). field_is Zero) zero_byte last c (λ u front back e s. (tt, cursor (c.at + length front) back c.end, got_of zero_byte tt (exactly (0x00 ∷ [])) c fits (zero_spelt.complete tt tt) front back e s)) (zero_place c);
}

signed_field : (ty : ValType) → FieldIs (Signed ty) (number true (bits ty))
signed_field ty = record {
  found = λ c ready. got_map (λ n d. Found (number_is true (bits ty) n) (Always n) c d) (λ n d. Found (field_is (Signed ty)) (Unit {0}) c d) (number true (bits ty) c) (λ n d found. found_here (field_is (Signed ty)) (Unit {0}) c d found (n.1, found.spelled.1) tt) ((number_spelt true (bits ty)).sound c ready);
  wrong = λ last c fits. read_wrong (λ (u : Unit {0}). field_is (Signed ty)) (number true (bits ty)) last c (λ u front back e s. ((c.at, s.0), cursor (c.at + length front) back c.end, got_of (number true (bits ty)) (c.at, s.0) (number_is true (bits ty) (c.at, s.0)) c fits ((number_spelt true (bits ty)).complete (c.at, s.0) tt) front back e (refl, s.1))) (number_place true (bits ty) c);
}

-- ---- what follows an opcode

record Follows {A : Type 0} (F : Following) (p : Reader A) : Type 0 where
  found : (c : Cursor) → Ready c → IfGot (λ x d. Found (following_is F) (Unit {0}) c d) (p c)
  wrong : (last : ℕ) (c : Cursor) → Ready c → Fits c → IfStops (IsWrongFollowing F c.at c.rest last) last (p c)

as_fields : {A : Type 0} (fs : List Field) (p : Reader A) → FieldsAre fs p → Follows (Fields fs) p
as_fields fs p h = record { found = λ c ready. h.found c ready; wrong = λ last c ready fits. h.wrong last c ready fits }

repeated_fields : {A : Type 0} (n : ℕ) (f : Field) (p : Reader A) → FieldIs f p → FieldsAre (replicate n f) (repeated n p)
repeated_fields zero f p h = no_fields []
repeated_fields (suc n) f p h = then_field f (replicate n f) p _ h (λ x. fields_made (replicate n f) (repeated n p) (λ xs. x ∷ xs) (repeated_fields n f p h))

-- the number of labels, and these
abbrev counted_is : Spelling
counted_is = λ at bytes. (n : ℕ) × (listed_index_is n then fields_are (replicate n Index)) at bytes

labels_found : (c : Cursor) → Ready c → IfGot (λ xs d. Found counted_is (Unit {0}) c d) (vector u32 label c)
unfolding vector
labels_found c ready =
    then_got (λ n d. Found (u32_is n) (Always n) c d) (λ xs e. Found counted_is (Unit {0}) c e) (u32 c) _ (u32_spelt.sound c ready) (λ n d found.
    then_got (λ xs e. Found (fields_are (replicate n.1 Index)) (Unit {0}) d e) (λ xs e. Found counted_is (Unit {0}) c e) (repeated n.1 label d) _ ((repeated_fields n.1 Index label label_field).found d (later c d found ready)) (λ xs e behind.
    let all = found_then (Unit {0}) c d e found behind tt in
    found_here counted_is (Unit {0}) c e all (n.1, record { front = all.spelled.front; back = all.spelled.back; parts = all.spelled.parts; first = all.spelled.first.1; second = all.spelled.second }) tt))

-- after the number of labels
module _ (c : Cursor) (last : ℕ) where
  abbrev Wrong : Refusal → Type 0
  Wrong = IsWrongFollowing Labels c.at c.rest last

  labels_wrong : Ready c → Fits c → IfStops Wrong last (vector u32 label c)
  unfolding vector
  labels_wrong ready fits =
      stops_then Wrong last (u32 c) _ (stops_as (IsWrongField Index c.at c.rest last) Wrong last (u32 c) (λ r w. inl w) (index_field.wrong last c fits)) (λ n d e.
      let found = got_as (λ (n : ℕ × ℕ) (d : Cursor). Found (u32_is n) (Always n) c d) (u32 c) n d e (u32_spelt.sound c ready) in
      stops_then Wrong last (repeated n.1 label d) _ (stops_as (AreWrongFields (replicate n.1 Index) d.at d.rest last) Wrong last (repeated n.1 label d) (λ r w.
      inr (record { count = n.1; front = found.taken; back = d.rest; parts = found.parts; spelled = found.spelled.1; wrong = inl (subst (λ (o : ℕ). AreWrongFields (replicate n.1 Index) o d.rest last r) found.at w) }))
      ((repeated_fields n.1 Index label label_field).wrong last d (later c d found ready) (fits_behind c d found fits))) (λ xs f k. tt))

  last_wrong : (d : Cursor) (r : Refusal) → Found counted_is (Unit {0}) c d → IsWrongField Index d.at d.rest last r → Wrong r
  last_wrong d r found w =
      let j = found.spelled.1 in
      let here : d.at ≡ c.at + length j.front + length j.back = omega (arith, found.at, ap length j.parts, length-append j.front j.back) in
      inr (record {
        count = found.spelled.0;
        front = j.front;
        back = j.back ++ d.rest;
        parts = found.parts ∙ ap (λ (l : List ℕ). l ++ d.rest) j.parts ∙ append_assoc j.front j.back d.rest;
        spelled = j.first;
        wrong = inr (j.back, d.rest, refl, j.second, subst (λ (o : ℕ). IsWrongField Index o d.rest last r) here w);
      })

regrouped : (at : ℕ) (bytes : List ℕ) (j : (counted_is then field_is Index) at bytes) → (listed_index_is j.first.0 then fields_are (replicate j.first.0 Index) then field_is Index) at bytes
regrouped at bytes j =
    let k = j.first.1 in
    let here : at + length j.front ≡ at + length k.front + length k.back = omega (arith, ap length k.parts, length-append k.front k.back) in
    record {
      front = k.front;
      back = k.back ++ j.back;
      parts = j.parts ∙ ap (λ (l : List ℕ). l ++ j.back) k.parts ∙ append_assoc k.front k.back j.back;
      first = k.first;
      second = record { front = k.back; back = j.back; parts = refl; first = k.second; second = subst (λ (o : ℕ). field_is Index o j.back) here j.second };
    }

table_follows : Follows Labels branch_table
unfolding branch_table
table_follows = record {
  found = λ c ready.
      then_got (λ xs d. Found counted_is (Unit {0}) c d) (λ t e. Found (following_is Labels) (Unit {0}) c e) (vector u32 label c) _ (labels_found c ready) (λ xs d found.
      then_got (λ l e. Found (field_is Index) (Unit {0}) d e) (λ t e. Found (following_is Labels) (Unit {0}) c e) (label d) _ (label_field.found d (later c d found ready)) (λ l e behind.
      let all = found_then (Unit {0}) c d e found behind tt in
      found_here (following_is Labels) (Unit {0}) c e all (all.spelled.first.0, regrouped c.at all.taken all.spelled) tt));
  wrong = λ last c ready fits.
      stops_then (IsWrongFollowing Labels c.at c.rest last) last (vector u32 label c) _ (labels_wrong c last ready fits) (λ xs d e.
      let found = got_as (λ (xs : ℕ × List ℕ) (d : Cursor). Found counted_is (Unit {0}) c d) (vector u32 label c) xs d e (labels_found c ready) in
      stops_then (IsWrongFollowing Labels c.at c.rest last) last (label d) _ (stops_as (IsWrongField Index d.at d.rest last) (IsWrongFollowing Labels c.at c.rest last) last (label d) (λ r w. last_wrong c last d r found w) (label_field.wrong last d (fits_behind c d found fits))) (λ l f k. tt));
}

-- ---- opcodes

-- a reader after an opcode refuses it, or knows what follows it
abbrev Known : (at : ℕ) → Reader Token → Type 0
Known at p = ((kind : Kind) × ((c : Cursor) → p c ≡ Fault (record { offset = at; kind = kind }))) ⊎ ((F : Following) × Follows F p)

tested : (at : ℕ) (b : Bool) (p q : Reader Token) → Known at p → Known at q → Known at (cond b p q)
tested at true p q h k = h
tested at false p q h k = k

refuses : (at : ℕ) (kind : Kind) → Known at (refused kind at)
refuses at kind = inl (kind, λ c. refl)

bare : (at : ℕ) (t : Token) → Known at (done t)
bare at t = inr (Fields [], as_fields [] (done t) (no_fields t))

indexed : (at : ℕ) (make : ℕ → Plain) → Known at (with_index make)
unfolding with_index
indexed at make = inr (Fields (Index ∷ []), as_fields (Index ∷ []) (with_index make) (last_field Index u32 (λ i. token.Plain (make i.1)) index_field))

typed : (at : ℕ) (make : BlockType → Token) → Known at (with_type make)
unfolding with_type
typed at make = inr (Fields (Typed ∷ []), as_fields (Typed ∷ []) (with_type make) (last_field Typed block_type make block_field))

called : (at : ℕ) → Known at indirect
unfolding indirect
called at = inr (Fields (Index ∷ Index ∷ []), as_fields (Index ∷ Index ∷ []) indirect (then_field Index (Index ∷ []) u32 _ index_field (λ i. last_field Index u32 (λ table. token.Plain (plains.CallIndirect i.1 table.1)) index_field)))

zeroed : (at : ℕ) (p : Plain) → Known at (with_zero p)
unfolding with_zero
zeroed at p = inr (Fields (Zero ∷ []), as_fields (Zero ∷ []) (with_zero p) (last_field Zero zero_byte (λ x. token.Plain p) zero_field))

arguments : FieldsAre (Index ∷ Index ∷ []) mem_arg
unfolding mem_arg
arguments = then_field Index (Index ∷ []) u32 _ index_field (λ align. last_field Index u32 (λ offset. record { align = align.1; offset = offset.1 }) index_field)

accessing : (at : ℕ) (op : Access) → Known at (with_mem_arg op)
unfolding with_mem_arg
accessing at op = inr (Fields (Index ∷ Index ∷ []), as_fields (Index ∷ Index ∷ []) (with_mem_arg op) (fields_made (Index ∷ Index ∷ []) mem_arg (λ m. token.Plain (accessed op m)) arguments))

numbered : (at : ℕ) (ty : ValType) → Known at (constant ty)
unfolding constant
numbered at ty = inr (Fields (Signed ty ∷ []), as_fields (Signed ty ∷ []) (constant ty) (last_field (Signed ty) (number true (bits ty)) (λ n. token.Plain (plains.Const ty n.1)) (signed_field ty)))

control_known : (at b : ℕ) → Known at (control at b)
unfolding control
control_known at b =
    tested at (eqb b 0x00) _ _ (bare at _) (
    tested at (eqb b 0x01) _ _ (bare at _) (
    tested at (eqb b 0x02) _ _ (typed at token.Block) (
    tested at (eqb b 0x03) _ _ (typed at token.Loop) (
    tested at (eqb b 0x04) _ _ (typed at token.If) (
    tested at (eqb b 0x05) _ _ (bare at _) (
    tested at (eqb b 0x0B) _ _ (bare at _) (
    tested at (eqb b 0x0C) _ _ (indexed at plains.Br) (
    tested at (eqb b 0x0D) _ _ (indexed at plains.BrIf) (
    tested at (eqb b 0x0E) _ _ (inr (Labels, table_follows)) (
    tested at (eqb b 0x0F) _ _ (bare at _) (
    tested at (eqb b 0x10) _ _ (indexed at plains.Call) (
    tested at (eqb b 0x11) _ _ (called at) (
    tested at (eqb b 0x1A) _ _ (bare at _) (
    tested at (eqb b 0x1B) _ _ (bare at _) (refuses at Malformed)))))))))))))))

variable_known : (at b : ℕ) → Known at (variable at b)
unfolding variable
variable_known at b =
    tested at (eqb b 0x20) _ _ (indexed at plains.LocalGet) (
    tested at (eqb b 0x21) _ _ (indexed at plains.LocalSet) (
    tested at (eqb b 0x22) _ _ (indexed at plains.LocalTee) (
    tested at (eqb b 0x23) _ _ (indexed at plains.GlobalGet) (
    tested at (eqb b 0x24) _ _ (indexed at plains.GlobalSet) (refuses at Malformed)))))

accessed_known : (at : ℕ) (row : Option (Option Access)) → Known at (accessed_at at row)
accessed_known at None = refuses at Malformed
accessed_known at (Some None) = refuses at Unsupported
accessed_known at (Some (Some op)) = accessing at op

memory_known : (at b : ℕ) → Known at (memory at b)
unfolding memory
memory_known at b = tested at (eqb b 0x3F) _ _ (zeroed at plains.MemorySize) (tested at (eqb b 0x40) _ _ (zeroed at plains.MemoryGrow) (accessed_known at _))

operated_known : (counted : Bool) (at b : ℕ) (row : Option (Option Operation)) → eqb b 0xFC ≡ false → Known at (operated_at counted at b row)
operated_known counted at b None other = rw other (refuses at Malformed)
operated_known counted at b (Some None) other = refuses at Unsupported
operated_known counted at b (Some (Some op)) other = bare at _

numeric_known : (counted : Bool) (at b : ℕ) → eqb b 0xFC ≡ false → Known at (numeric counted at b)
unfolding numeric
numeric_known counted at b other =
    tested at (eqb b 0x41) _ _ (numbered at I32) (
    tested at (eqb b 0x42) _ _ (numbered at I64) (
    tested at (nat_lt b 0x45) _ _ (refuses at Unsupported) (operated_known counted at b _ other)))

-- but for the prefix
instruction_known : (counted : Bool) (at b : ℕ) → eqb b 0xFC ≡ false → Known at (instruction counted at b)
unfolding instruction
instruction_known counted at b other =
    tested at (nat_lt b 0x20) _ _ (control_known at b) (
    tested at (nat_lt b 0x28) _ _ (variable_known at b) (
    tested at (nat_lt b 0x41) _ _ (memory_known at b) (numeric_known counted at b other)))

-- ---- after an opcode

-- what a token's encoding is read as, after its opcode
token_of : (counted : Bool) (at b : ℕ) (t : Token) (more : List ℕ) → instruction_is counted t at (b ∷ more) → instruction counted at b (cursor (at + 1) (more ++ []) (at + 1 + length more)) ≡ Got t (cursor (at + length (b ∷ more)) [] (at + 1 + length more))
token_of counted at b t more s =
    let end = at + 1 + length more in
    let first : byte (cursor at (b ∷ (more ++ [])) end) ≡ Got (at, b) (cursor (at + 1) (more ++ []) end) = (byte_spelt.complete (at, b) tt).by at end (b ∷ []) (more ++ []) (omega arith) (refl, refl) in
    let whole : steady.token counted (cursor at ((b ∷ more) ++ []) end) ≡ Got t (cursor (at + length (b ∷ more)) [] end) = (token_read counted t).by at end (b ∷ more) [] (omega arith) s in
    sym (ap (λ (z : Read (ℕ × ℕ)). then_go z (λ b. instruction counted b.0 b.1)) first) ∙ whole

found_follows : (counted : Bool) (at b : ℕ) (F : Following) → ((c : Cursor) → Ready c → IfGot (λ t d. Found (following_is F) (Unit {0}) c d) (instruction counted at b c)) → (t : Token) (more : List ℕ) → sections.AreBytes more → instruction_is counted t at (b ∷ more) → following_is F (at + 1) more
found_follows counted at b F h t more are s =
    let c : Cursor = cursor (at + 1) (more ++ []) (at + 1 + length more) in
    let ready : Ready c = record { low = omega arith; bytes = subst AreBytes (sym (append-nil more)) (each_byte more are) } in
    let found = got_as (λ (x : Token) (d : Cursor). Found (following_is F) (Unit {0}) c d) (instruction counted at b c) t _ (token_of counted at b t more s) (h c ready) in
    let same : found.taken ≡ more = sym (append-nil found.taken) ∙ sym found.parts ∙ append-nil more in
    subst (λ (l : List ℕ). following_is F (at + 1) l) same found.spelled

follows_all : (counted : Bool) (at b : ℕ) (F : Following) → Follows F (instruction counted at b) → (t : Token) (more : List ℕ) → sections.AreBytes more → instruction_is counted t at (b ∷ more) → following_is F (at + 1) more
follows_all counted at b F h = found_follows counted at b F h.found

none_at : (counted : Bool) (at b : ℕ) (kind : Kind) → ((c : Cursor) → instruction counted at b c ≡ Fault (record { offset = at; kind = kind })) → (t : Token) (more : List ℕ) → instruction_is counted t at (b ∷ more) → ⊥
none_at counted at b kind all t more s =
    let got = token_of counted at b t more s in
    let not = all (cursor (at + 1) (more ++ []) (at + 1 + length more)) in
    absurd cc

-- ---- after the prefix

two_zeros : FieldsAre (Zero ∷ Zero ∷ []) copying
unfolding copying
two_zeros = then_field Zero (Zero ∷ []) zero_byte _ zero_field (λ x. last_field Zero zero_byte (λ y. token.Plain (plains.Bulk Copy)) zero_field)

initialized : (at : ℕ) → Known at initializing
unfolding initializing
initialized at =
    inr (Fields (Index ∷ Zero ∷ []), as_fields (Index ∷ Zero ∷ []) initializing (then_field Index (Zero ∷ []) u32 _ index_field (λ i. last_field Zero zero_byte (λ x. token.Plain (plains.Bulk (Init i.1))) zero_field)))

by_number_known : (counted : Bool) (at n : ℕ) → Known at (by_number counted at n)
unfolding by_number
by_number_known counted at n =
    tested at (eqb n 8) _ _ (tested at counted _ _ (initialized at) (refuses at Malformed)) (
    tested at (eqb n 9) _ _ (tested at counted _ _ (indexed at plains.DataDrop) (refuses at Malformed)) (
    tested at (eqb n 10) _ _ (inr (Fields (Zero ∷ Zero ∷ []), as_fields (Zero ∷ Zero ∷ []) copying two_zeros)) (
    tested at (eqb n 11) _ _ (zeroed at (plains.Bulk Fill)) (
    tested at (nat_lt n 18) _ _ (refuses at Unsupported) (refuses at Malformed)))))

-- the number alone
number_found : (counted : Bool) (at : ℕ) (c : Cursor) → Ready c → IfGot (λ t d. Found (following_is Numbered) (Unit {0}) c d) (prefixed counted at c)
unfolding prefixed
number_found counted at c ready =
    then_got (λ n d. Found (field_is Index) (Unit {0}) c d) (λ t e. Found (following_is Numbered) (Unit {0}) c e) (u32 c) _ (index_field.found c ready) (λ n d found.
    known_behind at n.1 c d found ready (by_number_known counted at n.1))
  where
    known_behind : (at n : ℕ) (c d : Cursor) → Found (field_is Index) (Unit {0}) c d → Ready c → Known at (by_number counted at n) → IfGot (λ t e. Found (following_is Numbered) (Unit {0}) c e) (by_number counted at n d)
    known_behind at n c d found ready (inl (kind, all)) = subst (IfGot (λ t e. Found (following_is Numbered) (Unit {0}) c e)) (sym (all d)) tt
    known_behind at n c d found ready (inr (F, h)) =
        got_map (λ t e. Found (following_is F) (Unit {0}) d e) (λ t e. Found (following_is Numbered) (Unit {0}) c e) (by_number counted at n d) (λ t e behind.
        found_then (Unit {0}) c d e found (found_here anything (Unit {0}) d e behind tt tt) tt) (h.found d (later c d found ready))

prefix_read : (counted : Bool) (at : ℕ) (c : Cursor) → instruction counted at 0xFC c ≡ prefixed counted at c
unfolding instruction numeric
prefix_read counted at c = refl

-- what a token's encoding is read as, after the prefix and its number
number_of : (counted : Bool) (at n : ℕ) (num : List ℕ) → listed_index_is n (at + 1) num → (t : Token) (more : List ℕ) → instruction_is counted t at (0xFC ∷ (num ++ more))
    → by_number counted at n (cursor (at + 1 + length num) (more ++ []) (at + 1 + length (num ++ more))) ≡ Got t (cursor (at + length (0xFC ∷ (num ++ more))) [] (at + 1 + length (num ++ more)))
unfolding prefixed
number_of counted at n num spelled t more s =
    let end = at + 1 + length (num ++ more) in
    let all = sym (prefix_read counted at (cursor (at + 1) ((num ++ more) ++ []) end)) ∙ token_of counted at 0xFC t (num ++ more) s in
    let first : u32 (cursor (at + 1) (num ++ (more ++ [])) end) ≡ Got (at + 1, n) (cursor (at + 1 + length num) (more ++ []) end) =
    (u32_spelt.complete (at + 1, n) tt).by (at + 1) end num (more ++ []) (omega (arith, length-append num more)) (refl, spelled) in
    let same : u32 (cursor (at + 1) ((num ++ more) ++ []) end) ≡ Got (at + 1, n) (cursor (at + 1 + length num) (more ++ []) end) =
    ap (λ (l : List ℕ). u32 (cursor (at + 1) l end)) (append_assoc num more []) ∙ first in
    sym (ap (λ (z : Read (ℕ × ℕ)). then_go z (λ n. by_number counted at n.1)) same) ∙ all

module _ (counted : Bool) (last : ℕ) (c d : Cursor) (ready : Ready d) (fits : Fits d) (at : ℕ) (place : at ≡ c.at) (parts : c.rest ≡ 0xFC ∷ d.rest) (behind : d.at ≡ c.at + 1) where
  abbrev WrongHere : Refusal → Type 0
  WrongHere = IsWrongToken counted c.at c.rest last

  wrong_number : (r : Refusal) → IsWrongField Index d.at d.rest last r → WrongHere r
  wrong_number r w = inr (inr (record {
    opcode = 0xFC ∷ [];
    behind = d.rest;
    parts = parts;
    is = inl (0xFC, refl);
    following = Numbered;
    follows = λ t more are s. number_follows t more are s;
    wrong = subst (λ (o : ℕ). IsWrongField Index o d.rest last r) behind w;
  }))
    where
      number_follows : (t : Token) (more : List ℕ) → sections.AreBytes more → instruction_is counted t c.at (0xFC ∷ more) → following_is Numbered (c.at + 1) more
      number_follows t more are s = found_follows counted c.at 0xFC Numbered (λ e ready. subst (IfGot (λ t f. Found (following_is Numbered) (Unit {0}) e f)) (sym (prefix_read counted c.at e)) (number_found counted c.at e ready)) t more are s

  module _ (n : ℕ) (g : Cursor) (found : Found (listed_index_is n) (Unit {0}) d g) where
    abbrev opcode : List ℕ
    opcode = 0xFC ∷ found.taken

    its : opcode_is c.at opcode
    its = inr (n, record { front = 0xFC ∷ []; back = found.taken; parts = refl; first = refl; second = subst (λ (o : ℕ). listed_index_is n o found.taken) behind found.spelled })

    its_parts : c.rest ≡ opcode ++ g.rest
    its_parts = parts ∙ ap (λ (l : List ℕ). 0xFC ∷ l) found.parts

    wrong_behind : (F : Following) → Follows F (by_number counted at n) → (r : Refusal) → IsWrongFollowing F g.at g.rest last r → WrongHere r
    wrong_behind F h r w = inr (inr (record {
      opcode = opcode;
      behind = g.rest;
      parts = its_parts;
      is = its;
      following = F;
      follows = λ t more are s. its_follows t more are s;
      wrong = subst (λ (o : ℕ). IsWrongFollowing F o g.rest last r) (found.at ∙ omega (arith, behind)) w;
    }))
      where
        its_follows : (t : Token) (more : List ℕ) → sections.AreBytes more → instruction_is counted t c.at (opcode ++ more) → following_is F (c.at + length opcode) more
        its_follows t more are s =
            let e : Cursor = cursor (c.at + 1 + length found.taken) (more ++ []) (c.at + 1 + length (found.taken ++ more)) in
            let ready : Ready e = record { low = omega (arith, length-append found.taken more); bytes = subst AreBytes (sym (append-nil more)) (each_byte more are) } in
            let got = number_of counted c.at n found.taken (subst (λ (o : ℕ). listed_index_is n o found.taken) behind found.spelled) t more s in
            let own : by_number counted at n e ≡ _ = ap (λ (o : ℕ). by_number counted o n e) place ∙ got in
            let f = got_as (λ (x : Token) (d : Cursor). Found (following_is F) (Unit {0}) e d) (by_number counted at n e) t _ own (h.found e ready) in
            let same : f.taken ≡ more = sym (append-nil f.taken) ∙ sym f.parts ∙ append-nil more in
            let there : c.at + 1 + length found.taken ≡ c.at + length opcode = omega arith in
            subst (λ (o : ℕ). following_is F o more) there (subst (λ (l : List ℕ). following_is F (c.at + 1 + length found.taken) l) same f.spelled)

    no_token : (kind : Kind) → ((e : Cursor) → by_number counted at n e ≡ Fault (record { offset = at; kind = kind })) → WrongHere (record { offset = at; kind = kind })
    no_token kind all = inr (inl (record { opcode = opcode; behind = g.rest; parts = its_parts; is = its; none = λ t more s. never t more s; place = place }))
      where
        never : (t : Token) (more : List ℕ) → instruction_is counted t c.at (opcode ++ more) → ⊥
        never t more s =
            let e : Cursor = cursor (c.at + 1 + length found.taken) (more ++ []) (c.at + 1 + length (found.taken ++ more)) in
            let got = number_of counted c.at n found.taken (subst (λ (o : ℕ). listed_index_is n o found.taken) behind found.spelled) t more s in
            let own : by_number counted at n e ≡ _ = ap (λ (o : ℕ). by_number counted o n e) place ∙ got in
            let not = all e in
            absurd cc

    behind_number : Known at (by_number counted at n) → IfStops WrongHere last (by_number counted at n g)
    behind_number (inl (kind, all)) = subst (IfStops WrongHere last) (sym (all g)) (no_token kind all)
    behind_number (inr (F, h)) = stops_as (IsWrongFollowing F g.at g.rest last) WrongHere last (by_number counted at n g) (λ r w. wrong_behind F h r w) (h.wrong last g (later d g found ready) (fits_behind d g found fits))

  prefixed_wrong : IfStops WrongHere last (prefixed counted at d)
  unfolding prefixed
  prefixed_wrong =
      stops_then WrongHere last (u32 d) _ (stops_as (IsWrongField Index d.at d.rest last) WrongHere last (u32 d) (λ r w. wrong_number r w) (index_field.wrong last d fits)) (λ n g e.
      let found = got_as (λ (n : ℕ × ℕ) (g : Cursor). Found (u32_is n) (Always n) d g) (u32 d) n g e (u32_spelt.sound d ready) in
      behind_number n.1 g (found_here (listed_index_is n.1) (Unit {0}) d g found found.spelled.1 tt) (by_number_known counted at n.1))

-- where the instruction after an opcode isn't read
pub opcode_wrong : (counted : Bool) (last : ℕ) (c : Cursor) (b : ℕ × ℕ) (d : Cursor) → Ready c → Fits c → Found (byte_is b.0 b.1) (Unit {0}) c d → IfStops (IsWrongToken counted c.at c.rest last) last (instruction counted b.0 b.1 d)
opcode_wrong counted last c b d ready fits found =
    elim (cases_Bool (eqb b.1 0xFC)) [
      | inl prefix ↦ prefix_so (eqb-true b.1 0xFC prefix)
      | inr other ↦ of (instruction_known counted b.0 b.1 other)
    ]
  where
    here : b.0 ≡ c.at
    here = found.spelled.0

    parts : c.rest ≡ b.1 ∷ d.rest
    parts = found.parts ∙ ap (λ (l : List ℕ). l ++ d.rest) found.spelled.1

    behind : d.at ≡ c.at + 1
    behind = omega (arith, found.at, ap length found.spelled.1)

    refused_so : (r : Refusal) → r.offset ≡ b.0 → ((t : Token) (more : List ℕ) → instruction_is counted t b.0 (b.1 ∷ more) → ⊥) → IsWrongToken counted c.at c.rest last r
    refused_so r place none = inr (inl (record { opcode = b.1 ∷ []; behind = d.rest; parts = parts; is = inl (b.1, refl); none = λ t more s. none t more (subst (λ (o : ℕ). instruction_is counted t o (b.1 ∷ more)) (sym here) s); place = place ∙ here }))

    wrong_so : (F : Following) → Follows F (instruction counted b.0 b.1) → (r : Refusal) → IsWrongFollowing F d.at d.rest last r → IsWrongToken counted c.at c.rest last r
    wrong_so F h r w = inr (inr (record {
      opcode = b.1 ∷ [];
      behind = d.rest;
      parts = parts;
      is = inl (b.1, refl);
      following = F;
      follows = subst (λ (o : ℕ). (t : Token) (more : List ℕ) → sections.AreBytes more → instruction_is counted t o (b.1 ∷ more) → following_is F (o + 1) more) here (follows_all counted b.0 b.1 F h);
      wrong = subst (λ (o : ℕ). IsWrongFollowing F o d.rest last r) behind w;
    }))

    prefix_so : b.1 ≡ 0xFC → IfStops (IsWrongToken counted c.at c.rest last) last (instruction counted b.0 b.1 d)
    prefix_so is =
        subst (λ (n : ℕ). IfStops (IsWrongToken counted c.at c.rest last) last (instruction counted b.0 n d)) (sym is)
        (subst (IfStops (IsWrongToken counted c.at c.rest last) last) (sym (prefix_read counted b.0 d))
        (prefixed_wrong counted last c d (later c d found ready) (fits_behind c d found fits) b.0 here (parts ∙ ap (λ (n : ℕ). n ∷ d.rest) is) behind))

    of : Known b.0 (instruction counted b.0 b.1) → IfStops (IsWrongToken counted c.at c.rest last) last (instruction counted b.0 b.1 d)
    of (inl (kind, all)) = subst (IfStops (IsWrongToken counted c.at c.rest last) last) (sym (all d)) (refused_so (record { offset = b.0; kind = kind }) refl (none_at counted b.0 b.1 kind all))
    of (inr (F, h)) = stops_as (IsWrongFollowing F d.at d.rest last) (IsWrongToken counted c.at c.rest last) last (instruction counted b.0 b.1 d) (λ r w. wrong_so F h r w) (h.wrong last d (later c d found ready) (fits_behind c d found fits))
