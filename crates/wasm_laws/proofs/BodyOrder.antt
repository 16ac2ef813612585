-- Tokens and the error of encoding are in order in a body.
use Rattle.std.proofs.Common.{Bool, ◌≡◌, ℕ, zero, suc, ◌+◌, ◌≤◌, ◌<◌, List, [], ◌∷◌, Some, length, refl, arith}
use Rattle.wasm_defs.specs.declared.fault.Refusal.{Refusal}
use Rattle.wasm_defs.specs.declared.token.Token.{Token}
use Rattle.wasm_defs.specs.Fields.{Cursor, Read, Got, Fault, Wants, room_of, byte}
use Rattle.wasm_defs.specs.Bodies.{Group, local_groups, instruction, depth_after, Spelled, stops, malformed_at, closed, after_token, goes_on, spelled_from, body_cursor, last_of, read_code, body_read}
use Rattle.wasm_laws.specs.BodyOrder.{AreRising, stop_of, IsSpelledIn}
use Rattle.wasm_laws.proofs.Steady.{IfGot, IsMarked, Advance, Advances, moves_of, StandsIn, here_in}
use Rattle.wasm_laws.proofs.Windows.{byte_field}
use Rattle.wasm_laws.proofs.BodyLaws.{local_groups_steady, instruction_steady}

rising_wider : {X : Type 0} (low low' last : ℕ) (xs : List (ℕ × X)) → low' ≤ low → AreRising low last xs → AreRising low' last xs
rising_wider low low' last [] le p = tt
rising_wider low low' last (x ∷ xs) le p = (omega (arith, p.0), p.1, p.2)

-- what is encoded in a body: tokens from low on, and its stop, at from or after
record IsSpelledFrom (low from last : ℕ) (s : Spelled) : Type 0 where
  tokens : AreRising low (stop_of last s.fault) s.tokens
  after : from ≤ stop_of last s.fault
  within : stop_of last s.fault ≤ last

-- reading is in a body that has last for its last byte, with the end not near
record InBody (last : ℕ) (c : Cursor) : Type 0 where
  sum : c.at + length c.rest ≡ suc last
  far : length c.rest < room_of c

body_on : (last : ℕ) (c d : Cursor) → InBody last c → Advance c d → InBody last d
body_on last c d p q = let m = moves_of c d q in record { sum = omega (arith, p.sum, m.at, m.rest); far = omega (arith, p.far, m.rest, m.room) }

-- an error alone
fault_stands : (low from last : ℕ) (c : Cursor) (r : Refusal) → InBody last c → from ≤ low → StandsIn {A = Token} low c (Fault r) → IsSpelledFrom c.at from last (stops (Some r))
fault_stands low from last c r p le q = record { tokens = tt; after = omega (arith, q.from); within = omega (arith, p.sum, q.at_a_byte p.far) }

missing_stands : (low from last : ℕ) → from ≤ last → IsSpelledFrom low from last (malformed_at last)
missing_stands low from last le = record { tokens = tt; after = le; within = omega arith }

closed_stands : (low from last at : ℕ) (rest : List ℕ) → from ≤ at → from ≤ last → at + length rest ≡ suc last → IsSpelledFrom low from last (closed at rest)
closed_stands low from last at [] le le' e = record { tokens = tt; after = le'; within = omega arith }
closed_stands low from last at (b ∷ rest) le le' e = record { tokens = tt; after = le; within = omega arith }

-- an instruction, and what follows it
instruction_stands : (low from last : ℕ) (b : ℕ × ℕ) (d : Cursor) (x : Read Token) (f : Token → Cursor → Spelled) → low ≤ b.0 → from ≤ b.0 → b.0 < d.at → InBody last d → Advances d x → StandsIn b.0 d x → ((t : Token) (e : Cursor) → InBody last e → b.0 ≤ e.at → IsSpelledFrom e.at b.0 last (f t e)) → IsSpelledFrom low from last (goes_on last x (λ t e. after_token b.0 t (f t e)))
instruction_stands low from last b d (Got t e) f le le' lt p q s h =
    let m = moves_of d e q in
    let r = h t e (body_on last d e p q) (omega (arith, m.at)) in
    let stop = stop_of last (f t e).fault in
    let behind : suc b.0 ≤ e.at = omega (arith, m.at) in
    record {
      tokens = (le, r.after, rising_wider e.at (suc b.0) stop (f t e).tokens behind r.tokens);
      after = omega (arith, r.after);
      within = r.within;
    }
instruction_stands low from last b d (Fault r) f le le' lt p q s h = record { tokens = tt; after = omega (arith, s.from); within = omega (arith, p.sum, s.at_a_byte p.far) }
instruction_stands low from last b d Wants f le le' lt p q s h = record { tokens = tt; after = omega (arith, p.sum); within = omega arith }

byte_stands : (from last : ℕ) (c : Cursor) (x : Read (ℕ × ℕ)) (f : ℕ × ℕ → Cursor → Spelled) → InBody last c → from ≤ c.at → from ≤ last → Advances c x → IfGot (IsMarked c) x → StandsIn c.at c x → ((b : ℕ × ℕ) (d : Cursor) → Advance c d → IsMarked c b d → IsSpelledFrom c.at from last (f b d)) → IsSpelledFrom c.at from last (goes_on last x f)
byte_stands from last c (Got b d) f p le le' q m s h = h b d q m
byte_stands from last c (Fault r) f p le le' q m s h = fault_stands c.at from last c r p le s
byte_stands from last c Wants f p le le' q m s h = missing_stands c.at from last le'

spelled_stands : (counted : Bool) (n depth from last : ℕ) (c : Cursor) → InBody last c → from ≤ c.at → from ≤ last → IsSpelledFrom c.at from last (spelled_from counted n depth last c)
unfolding spelled_from
spelled_stands counted zero depth from last c p le le' = missing_stands c.at from last le'
spelled_stands counted (suc n) zero from last c p le le' = closed_stands c.at from last c.at c.rest le le' p.sum
spelled_stands counted (suc n) (suc depth) from last c p le le' =
    let s = byte_field.steady [] in
    byte_stands from last c (byte c) _ p le le' (s.moves c) (byte_field.marked c) (s.place c.at c (omega arith) tt)
    (λ b d q m.
    let w = instruction_steady (b.0 ∷ []) counted b.0 b.1 here_in in
    let i = body_on last c d p q in
    instruction_stands c.at from last b d (instruction counted b.0 b.1 d) (λ t e. spelled_from counted n (depth_after t (suc depth)) last e) m.0 (omega (arith, m.0)) m.1 i (w.moves d) (w.place b.0 d (omega (arith, m.1)) (omega arith, m.1, tt))
    (λ t e j le''. spelled_stands counted n (depth_after t (suc depth)) b.0 last e j le'' (omega (arith, i.sum, m.1))))

groups_stand : (counted : Bool) (first last n : ℕ) (c : Cursor) (x : Read (List Group)) → c.at ≡ first → InBody last c → first ≤ last → Advances c x → StandsIn first c x → IsSpelledIn first last (read_code counted last x n).code
groups_stand counted first last n c (Got gs d) e p le q s =
    let m = moves_of c d q in
    let from : first ≤ d.at = omega (arith, m.at) in
    let r = spelled_stands counted n 1 first last d (body_on last c d p q) from le in
    let body = spelled_from counted n 1 last d in
    let stop = stop_of last body.fault in
    record { tokens = rising_wider d.at first stop body.tokens from r.tokens; after = r.after; within = r.within }
groups_stand counted first last n c (Fault r) e p le q s = record { tokens = tt; after = s.from; within = omega (arith, p.sum, s.at_a_byte p.far) }
groups_stand counted first last n c Wants e p le q s = record { tokens = tt; after = le; within = omega arith }

pub body_is_ordered : (counted : Bool) (first : ℕ) (bytes : List ℕ) → 0 < length bytes → IsSpelledIn first (last_of first bytes) (body_read counted first bytes).code
body_is_ordered counted first bytes some =
    let c = body_cursor first bytes in
    let s = local_groups_steady [] in
    groups_stand counted first (last_of first bytes) (length bytes + 1) c (local_groups c) refl (record { sum = omega arith; far = omega arith }) (omega arith) (s.moves c) (s.place first c (omega arith) tt)
