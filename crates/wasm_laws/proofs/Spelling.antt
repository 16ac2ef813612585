-- The offsets of a body's tokens, and of the error that stops its reading.
use Rattle.std.proofs.Common.{◌≡◌, ◌≤◌, ◌<◌, ℕ, zero, suc, ◌+◌, Bool, ◌⊎◌, inl, inr, List, [], ◌∷◌, length, None, Some, refl, ap, arith, leb}
use Rattle.std.proofs.lemmas.Bool.{leb-true}
use Rattle.std.proofs.lemmas.Bool.{cases_Bool}
use Rattle.wasm_defs.specs.declared.fault.Kind.TheVariants.{Malformed}
use Rattle.wasm_defs.specs.declared.fault.Refusal.{Refusal}
use Rattle.wasm_defs.specs.declared.token.Token.{Token}
use Rattle.wasm_defs.specs.Fields.{Cursor, Read, Got, Fault, Wants, byte, first_of, window, room_of, past, cut}
use Rattle.wasm_defs.specs.Bodies.{Spelled, stops, malformed_at, closed, after_token, goes_on, spelled_from, instruction, depth_after}
use Rattle.wasm_laws.specs.Steadiness.{Advance, Advances, StandsIn}
use Rattle.wasm_laws.proofs.Steady.{moves_of, here_in}
use Rattle.wasm_laws.proofs.Windows.{window_short, past_advance}
use Rattle.wasm_laws.proofs.BodyLaws.{instruction_steady}

-- the offsets are at least low, and below high
abbrev pub AllWithin : {A : Type 0} → ℕ → ℕ → List (ℕ × A) → Type 0
AllWithin low high [] = Unit {0}
AllWithin low high (x ∷ xs) = (low ≤ x.0) × (x.0 < high) × AllWithin low high xs

-- an error is among them, or at the body's last byte
abbrev pub StandsWithin : ℕ → ℕ → ℕ → Refusal → Type 0
StandsWithin low high last r = ((low ≤ r.offset) × (r.offset < high)) ⊎ (r.offset ≡ last)

pub record Places (low high last : ℕ) (s : Spelled) : Type 0 where
  pub tokens : AllWithin low high s.tokens
  pub fault : (r : Refusal) → s.fault ≡ Some r → StandsWithin low high last r

all_lower : {A : Type 0} (low from high : ℕ) (xs : List (ℕ × A)) → low ≤ from → AllWithin from high xs → AllWithin low high xs
all_lower low from high [] le h = tt
all_lower low from high (x ∷ xs) le h = (omega (arith, h.0), h.1, all_lower low from high xs le h.2)

pub places_lower : (low from high last : ℕ) (s : Spelled) → low ≤ from → Places from high last s → Places low high last s
places_lower low from high last s le p = record {
  tokens = all_lower low from high s.tokens le p.tokens;
  fault = λ r e. elim (p.fault r e) [ inl h ↦ inl (omega (arith, h.0), h.1) | inr h ↦ inr h ];
}

stops_none : (low high last : ℕ) → Places low high last (stops None)
stops_none low high last = record { tokens = tt; fault = λ r e. absurd cc }

pub stops_at : (low high last : ℕ) (f : Refusal) → StandsWithin low high last f → Places low high last (stops (Some f))
stops_at low high last f h = record {
  tokens = tt;
  fault = λ r e. let k : f ≡ r = cc in rw (← k) h;
}

closed_at : (high last : ℕ) (c : Cursor) (rest : List ℕ) → c.rest ≡ rest → high ≡ c.at + length c.rest → Places c.at high last (closed c.at rest)
closed_at high last c [] e h = stops_none c.at high last
closed_at high last c (b ∷ rest) e h = stops_at c.at high last (record { offset = c.at; kind = Malformed }) (inl (omega arith, omega (arith, h, ap length e)))

pub missing : (low high last : ℕ) → Places low high last (malformed_at last)
missing low high last = stops_at low high last (record { offset = last; kind = Malformed }) (inr refl)

-- where no end is near, and high is the offset after the bytes
pub record IsOpen (high : ℕ) (c : Cursor) : Type 0 where
  pub far : length c.rest < room_of c
  pub high_is : high ≡ c.at + length c.rest

pub open_later : (high : ℕ) (c d : Cursor) → Advance c d → IsOpen high c → IsOpen high d
open_later high c d p h =
    let m = moves_of c d p in
    record { far = omega (arith, m.rest, m.room, h.far); high_is = omega (arith, m.rest, m.at, h.high_is) }

goes_on_places : {A : Type 0} (low high last : ℕ) (c : Cursor) (x : Read A) (f : A → Cursor → Spelled) → IsOpen high c → Advances c x → StandsIn low c x → ((a : A) (d : Cursor) → Advance c d → Places low high last (f a d)) → Places low high last (goes_on last x f)
goes_on_places low high last c (Got x d) f o p q h = h x d p
goes_on_places low high last c (Fault r) f o p q h = stops_at low high last r (inl (q.from, omega (arith, o.high_is, q.at_a_byte o.far)))
goes_on_places low high last c Wants f o p q h = missing low high last

with_token : (low high last : ℕ) (t : Token) (s : Spelled) → low < high → Places low high last s → Places low high last (after_token low t s)
with_token low high last t s lt p = record { tokens = (omega arith, lt, p.tokens); fault = p.fault }

-- where no byte is there, one is owed
cut_places : (high last : ℕ) (c : Cursor) (f : ℕ × ℕ → Cursor → Spelled) → IsOpen high c → Places c.at high last (goes_on last (cut {A = ℕ × ℕ} c) f)
cut_places high last c f o =
    elim (cases_Bool (leb (room_of c) (length c.rest))) [
      | inl there ↦ absurd (let h = leb-true (room_of c) (length c.rest) there in omega (arith, o.far))
      | inr short ↦ rw short (missing c.at high last)
    ]

opcode_places : (counted : Bool) (high last : ℕ) (c : Cursor) (w : List ℕ) (k : Token → Cursor → Spelled) → IsOpen high c → window c ≡ w → ((t : Token) (e : Cursor) → IsOpen high e → Places e.at high last (k t e))
    → Places c.at high last (goes_on last (first_of c w) (λ b d. goes_on last (instruction counted b.0 b.1 d) (λ t e. after_token b.0 t (k t e))))
opcode_places counted high last c [] k o is h = cut_places high last c _ o
opcode_places counted high last c (b ∷ w) k o is h =
    let d = past c 1 in
    let short = window_short c in
    let some : 1 ≤ length (window c) = omega (arith, ap length is) in
    let lt : c.at < high = omega (arith, o.high_is, short.0) in
    let here = open_later high c d (past_advance c 1 some) o in
    let s = instruction_steady (c.at ∷ []) counted c.at b here_in in
    goes_on_places c.at high last d (instruction counted c.at b d) _ here (s.moves d) (s.place c.at d (omega arith) (omega arith, omega arith, tt))
    (λ t e p. with_token c.at high last t _ lt (places_lower c.at e.at high last (k t e) (omega (arith, p.at)) (h t e (open_later high d e p here))))

pub spelled_places : (counted : Bool) (n depth high last : ℕ) (c : Cursor) → IsOpen high c → Places c.at high last (spelled_from counted n depth last c)
unfolding spelled_from byte
spelled_places counted zero depth high last c o = missing c.at high last
spelled_places counted (suc n) zero high last c o = closed_at high last c c.rest refl o.high_is
spelled_places counted (suc n) (suc depth) high last c o =
    opcode_places counted high last c (window c) (λ t e. spelled_from counted n (depth_after t (suc depth)) last e) o refl
    (λ t e p. spelled_places counted n (depth_after t (suc depth)) high last e p)
