-- The tokens that are read are those of the longest prefix, whatever is wrong after it.
use Rattle.std.proofs.Common.{◌≡◌, ◌≤◌, ◌<◌, inl, inr, ℕ, zero, suc, ◌+◌, ℤ, pos, Bool, true, false, cond, nat_le, List, [], ◌∷◌, ◌++◌, length, Option, Some, None, refl, sym, ap, subst, ◌∙◌, append_assoc, arith, length-append}
use Rattle.std.proofs.lemmas.Bool.{leb-true}
use Rattle.wasm_defs.proofs.NumberLaws.{AreBytes}
use Rattle.wasm_defs.specs.declared.fault.Kind.TheVariants.{Malformed}
use Rattle.wasm_defs.specs.declared.fault.Refusal.{Refusal}
use Rattle.wasm_defs.specs.declared.token.Token.{Token}
use Rattle.wasm_defs.specs.Numbers.{Spells}
use Rattle.wasm_defs.specs.Fields.{Cursor, Read, Got, Fault, Wants, then_go, room_of, window, first_of, byte}
use Rattle.wasm_defs.specs.Items.{each_is, byte_is}
use Rattle.wasm_defs.specs.Bodies.{Group, local_groups, Spelled, closed, after_token, goes_on, spelled_from, instruction, depth_after, body_cursor, last_of, read_code, body_read}
use Rattle.wasm_defs.specs.Codes.{listed_vector_is, instruction_is, token_is, group_is}
use Rattle.wasm_defs.specs.Faults.{tokens_of}
use Rattle.wasm_laws.specs.Kept.{LocalsAreFew}
use Rattle.wasm_laws.specs.Steadiness as steady
use Rattle.wasm_laws.proofs.Steady.{IfGot}
use Rattle.wasm_laws.proofs.Spelt.{cursor, Ready, Found, later, bytes_behind}
use Rattle.wasm_laws.proofs.SpeltFields.{byte_spelt}
use Rattle.body_laws.specs.Reading.{Closes, IsWrongAfter, IsReadThrough}
use Rattle.body_laws.specs.WrongTokens.{IsWrongToken}
use Rattle.body_laws.proofs.SpeltTokens.{Q, instruction_found, token_read}
use Rattle.body_laws.proofs.SpeltCodes.{token_some, locals_read}
use Rattle.body_laws.proofs.WrongFields.{IfStops, told}
use Rattle.body_laws.proofs.WrongTokens.{opcode_wrong}

-- ---- tokens

record Longest (counted : Bool) (at : ℕ) (bytes : List ℕ) (depth last : ℕ) (ts : List (ℕ × Token)) (fault : Option Refusal) : Type 0 where
  front : List ℕ
  back : List ℕ
  parts : bytes ≡ front ++ back
  tokens : each_is (token_is counted) ts at front
  longest : (t : Token) (more rest : List ℕ) → back ≡ more ++ rest → instruction_is counted t (at + length front) more → Closes depth (tokens_of ts)
  whole : fault ≡ None → (back ≡ []) × Closes depth (tokens_of ts)
  place : (r : Refusal) → fault ≡ Some r → IsWrongAfter counted depth (tokens_of ts) (at + length front) back last r

closed_longest : (counted : Bool) (at last : ℕ) (bytes : List ℕ) → Longest counted at bytes 0 last (closed at bytes).tokens (closed at bytes).fault
closed_longest counted at last [] = record { front = []; back = []; parts = refl; tokens = refl; longest = λ t more rest e s. tt; whole = λ e. (refl, tt); place = λ r e. absurd cc }
closed_longest counted at last (b ∷ bytes) = record {
  front = [];
  back = b ∷ bytes;
  parts = refl;
  tokens = refl;
  longest = λ t more rest e s. tt;
  whole = λ e. absurd cc;
  place = λ r e.
      let k : record { offset = at; kind = Malformed } ≡ r = cc in
      let here : at ≡ at + 0 = omega arith in
      inl (tt, sym k ∙ ap (λ (o : ℕ). record { offset = o; kind = Malformed }) here);
}

-- the bytes end before the section does
abbrev Fits : Cursor → Type 0
Fits c = c.at + length c.rest < c.end

-- what is encoded at the beginning is read
begun_is_read : (counted : Bool) (c : Cursor) (t : Token) (more rest : List ℕ) → Fits c → c.rest ≡ more ++ rest → instruction_is counted t c.at more → steady.token counted c ≡ Got t (cursor (c.at + length more) rest c.end)
begun_is_read counted c t more rest fits e s =
    ap (λ (l : List ℕ). steady.token counted (cursor c.at l c.end)) e ∙ (token_read counted t).by c.at c.end more rest (omega (arith, ap length e, length-append more rest)) s

-- nothing is read, so nothing begins there
none_begins : (counted : Bool) (c : Cursor) (depth last : ℕ) (f : Refusal) → Fits c → IsWrongToken counted c.at c.rest last f → ((t : Token) (e : Cursor) → steady.token counted c ≡ Got t e → ⊥) → Longest counted c.at c.rest depth last [] (Some f)
none_begins counted c depth last f fits wrong none =
    let here : c.at + 0 ≡ c.at = omega arith in
    record {
      front = [];
      back = c.rest;
      parts = refl;
      tokens = refl;
      longest = λ t more rest e s. absurd (none t (cursor (c.at + length more) rest c.end) (begun_is_read counted c t more rest fits e (subst (λ (at : ℕ). instruction_is counted t at more) here s)));
      whole = λ e. absurd cc;
      place = λ r e. let k : f ≡ r = cc in inr (subst (λ (at : ℕ). IsWrongToken counted at c.rest last r) (sym here) (subst (IsWrongToken counted c.at c.rest last) k wrong));
    }

one_longer : {K : Type 0} (counted : Bool) (c : Cursor) (depth last at : ℕ) (t : Token) (e : Cursor) (ts : List (ℕ × Token)) (fault : Option Refusal) → Found (token_is counted (at, t)) K c e → Longest counted e.at e.rest (depth_after t (suc depth)) last ts fault → Longest counted c.at c.rest (suc depth) last ((at, t) ∷ ts) fault
one_longer counted c depth last at t e ts fault found l =
    let here : c.at + length (found.taken ++ l.front) ≡ e.at + length l.front = omega (arith, found.at, length-append found.taken l.front) in
    record {
      front = found.taken ++ l.front;
      back = l.back;
      parts = found.parts ∙ ap (λ (z : List ℕ). found.taken ++ z) l.parts ∙ sym (append_assoc found.taken l.front l.back);
      tokens = record { front = found.taken; back = l.front; parts = refl; first = found.spelled; second = subst (λ (o : ℕ). each_is (token_is counted) ts o l.front) found.at l.tokens };
      longest = λ u more rest e2 s. l.longest u more rest e2 (subst (λ (o : ℕ). instruction_is counted u o more) here s);
      whole = l.whole;
      place = λ r e2. subst (λ (o : ℕ). IsWrongAfter counted (depth_after t (suc depth)) (tokens_of ts) o l.back last r) (sym here) (l.place r e2);
    }

-- ---- a byte is missing where none is left

byte_there : (c : Cursor) → Fits c → (b : ℕ) (rest : List ℕ) → c.rest ≡ b ∷ rest → byte c ≡ Got (c.at, b) (cursor (c.at + 1) rest c.end)
byte_there c fits b rest e = ap (λ (l : List ℕ). byte (cursor c.at l c.end)) e ∙ (byte_spelt.complete (c.at, b) tt).by c.at c.end (b ∷ []) rest (omega (arith, fits, ap length e)) (refl, refl)

none_left : (c : Cursor) → Fits c → byte c ≡ Wants → (l : List ℕ) → c.rest ≡ l → l ≡ []
none_left c fits e [] is = refl
none_left c fits e (b ∷ rest) is = let there = byte_there c fits b rest is in absurd cc

cut_refuses : (c : Cursor) (r : Refusal) (b : Bool) → Fits c → nat_le (room_of c) (length c.rest) ≡ b → cond b (told (ℕ × ℕ) (record { offset = c.at; kind = Malformed })) Wants ≡ Fault r → ⊥
cut_refuses c r true fits le e = let h = leb-true (room_of c) (length c.rest) le in absurd (omega (arith, fits, h))
cut_refuses c r false fits le e = absurd cc

byte_refuses : (c : Cursor) (r : Refusal) → Fits c → byte c ≡ Fault r → ⊥
unfolding byte
byte_refuses c r fits e = of (window c) e
  where
    of : (w : List ℕ) → first_of c w ≡ Fault r → ⊥
    of [] e = cut_refuses c r (nat_le (room_of c) (length c.rest)) fits refl e
    of (b ∷ w) e = absurd cc

-- the rest of the tokens
abbrev IsLongest : Bool → ℕ → ℕ → ℕ → Cursor → Type 0
IsLongest counted n depth last c = Longest counted c.at c.rest depth last (spelled_from counted n depth last c).tokens (spelled_from counted n depth last c).fault

module _ (counted : Bool) (n depth last : ℕ) (c : Cursor) (ready : Ready c) (few : length c.rest < suc n) (fits : Fits c) (rest : (depth : ℕ) (e : Cursor) → Ready e → length e.rest < n → Fits e → IsLongest counted n depth last e) where
  abbrev next : ℕ × ℕ → Token → Cursor → Spelled
  next b t e = after_token b.0 t (spelled_from counted n (depth_after t (suc depth)) last e)

  read_as : (b : ℕ × ℕ) (d : Cursor) (y : Read Token) → byte c ≡ Got b d → instruction counted b.0 b.1 d ≡ y → steady.token counted c ≡ y
  read_as b d y eb ey = ap (λ (z : Read (ℕ × ℕ)). then_go z (λ b. instruction counted b.0 b.1)) eb ∙ ey

  abbrev Ends : Spelled → Type 0
  Ends s = Longest counted c.at c.rest (suc depth) last s.tokens s.fault

  behind_opcode : (b : ℕ × ℕ) (d : Cursor) → byte c ≡ Got b d → Found (byte_is b.0 b.1) (Unit {0}) c d → (y : Read Token) → instruction counted b.0 b.1 d ≡ y → Ends (goes_on last y (next b))
  behind_opcode b d eb found (Got t e) ey =
      let one : Q counted b.0 b.1 c d found (later c d found ready) t e = subst (IfGot (Q counted b.0 b.1 c d found (later c d found ready))) ey (instruction_found counted b.0 b.1 c d found (later c d found ready)) in
      let some = token_some counted t c.at one.taken one.spelled.1 in
      let len : length c.rest ≡ length one.taken + length e.rest = ap length one.parts ∙ length-append one.taken e.rest in
      one_longer counted c depth last b.0 t e _ _ one (rest (depth_after t (suc depth)) e (later c e one ready) (omega arith) (omega (arith, one.at, one.end)))
  behind_opcode b d eb found (Fault r) ey = none_begins counted c (suc depth) last r fits (subst (IfStops (IsWrongToken counted c.at c.rest last) last) ey (opcode_wrong counted last c b d ready (omega arith) found)) (λ t e g. let h = read_as b d (Fault r) eb ey in absurd cc)
  behind_opcode b d eb found Wants ey = none_begins counted c (suc depth) last (record { offset = last; kind = Malformed }) fits (subst (IfStops (IsWrongToken counted c.at c.rest last) last) ey (opcode_wrong counted last c b d ready (omega arith) found)) (λ t e g. let h = read_as b d Wants eb ey in absurd cc)

  at_opcode : (x : Read (ℕ × ℕ)) → byte c ≡ x → Ends (goes_on last x (λ b d. goes_on last (instruction counted b.0 b.1 d) (next b)))
  at_opcode (Got b d) e = behind_opcode b d e (subst (IfGot (λ b d. Found (byte_is b.0 b.1) (Unit {0}) c d)) e (byte_spelt.sound c ready)) (instruction counted b.0 b.1 d) refl
  at_opcode (Fault r) e = absurd (byte_refuses c r fits e)
  at_opcode Wants e = none_begins counted c (suc depth) last (record { offset = last; kind = Malformed }) fits (inl (none_left c fits e c.rest refl, refl)) (λ t f g. let h : steady.token counted c ≡ Wants = ap (λ (z : Read (ℕ × ℕ)). then_go z (λ b. instruction counted b.0 b.1)) e in absurd cc)

tokens_longest : (counted : Bool) (n depth last : ℕ) (c : Cursor) → Ready c → length c.rest < n → Fits c → IsLongest counted n depth last c
unfolding spelled_from
tokens_longest counted zero depth last c ready few fits = absurd (omega arith)
tokens_longest counted (suc n) zero last c ready few fits = closed_longest counted c.at last c.rest
tokens_longest counted (suc n) (suc depth) last c ready few fits = at_opcode counted n depth last c ready few fits (λ depth e r l f. tokens_longest counted n depth last e r l f) (byte c) refl

-- ---- bodies

number_some : (n : ℤ) (bytes : List ℕ) → Spells n 32 false bytes → 1 ≤ length bytes
number_some n [] h = absurd h
number_some n (b ∷ bytes) h = omega arith

pub read_through : (counted : Bool) (first : ℕ) (front back : List ℕ) (gs : List Group) → AreBytes (front ++ back) → listed_vector_is group_is gs first front → LocalsAreFew gs → IsReadThrough counted gs (first + length front) back (last_of first (front ++ back)) (body_read counted first (front ++ back))
read_through counted first front back gs fits s few =
    let bytes = front ++ back in
    let last = last_of first bytes in
    let n = length bytes + 1 in
    let end = first + length bytes + 1 in
    let len : length bytes ≡ length front + length back = length-append front back in
    let some = number_some (pos (length gs)) s.front s.first in
    let begun : length front ≡ length s.front + length s.back = ap length s.parts ∙ length-append s.front s.back in
    let e : Cursor = cursor (first + length front) back end in
    let got : local_groups (body_cursor first bytes) ≡ Got gs e = (locals_read gs few).by first end front back (omega arith) s in
    let whole : body_read counted first bytes ≡ record { groups = gs; code = spelled_from counted n 1 last e } = ap (λ (x : Read (List Group)). read_code counted last x n) got in
    let l = tokens_longest counted n 1 last e (record { low = omega arith; bytes = bytes_behind front back fits }) (omega arith) (omega arith) in
    subst (IsReadThrough counted gs (first + length front) back last) (sym whole) (record { locals = refl; front = l.front; back = l.back; parts = l.parts; tokens = l.tokens; longest = l.longest; whole = l.whole; place = l.place })
