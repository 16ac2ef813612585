-- Each token takes a byte.
use Rattle.std.proofs.Common.{Bool, ℕ, zero, suc, ◌+◌, ◌≤◌, List, [], ◌∷◌, length, arith}
use Rattle.wasm_defs.specs.declared.token.Token.{Token}
use Rattle.wasm_defs.specs.Bodies.{Group, local_groups, instruction, depth_after, Spelled, closed, after_token, goes_on, spelled_from, body_cursor, last_of, read_code, body_read}
use Rattle.wasm_defs.specs.Fields.{Cursor, Read, Got, Fault, Wants, byte}
use Rattle.wasm_laws.specs.Steadiness.{Advances, LeavesFewer}
use Rattle.wasm_laws.proofs.Steady.{moves_of, here_in}
use Rattle.wasm_laws.proofs.Windows.{byte_field}
use Rattle.wasm_laws.proofs.Takes.{field_takes}
use Rattle.wasm_laws.proofs.BodyLaws.{local_groups_steady, instruction_steady}

-- ---- tokens take bytes

-- no more tokens than so many
record Few (most : ℕ) (s : Spelled) : Type 0 where
  tokens : length s.tokens ≤ most

few_more : (n m : ℕ) (s : Spelled) → n ≤ m → Few n s → Few m s
few_more n m s le h = record { tokens = omega (arith, h.tokens) }

token_few : (last : ℕ) (b : ℕ × ℕ) (d : Cursor) (x : Read Token) (f : Token → Cursor → Spelled) → Advances d x → ((t : Token) (e : Cursor) → Few (length e.rest) (f t e)) → Few (suc (length d.rest)) (goes_on last x (λ t e. after_token b.0 t (f t e)))
token_few last b d (Got t e) f moves h = let m = moves_of d e moves in let r = h t e in record { tokens = omega (arith, r.tokens, m.rest) }
token_few last b d (Fault r) f moves h = record { tokens = omega arith }
token_few last b d Wants f moves h = record { tokens = omega arith }

opcode_few : (last : ℕ) (c : Cursor) (x : Read (ℕ × ℕ)) (f : ℕ × ℕ → Cursor → Spelled) → LeavesFewer c x → ((b : ℕ × ℕ) (d : Cursor) → Few (suc (length d.rest)) (f b d)) → Few (length c.rest) (goes_on last x f)
opcode_few last c (Got b d) f fewer h = few_more (suc (length d.rest)) (length c.rest) (f b d) (omega arith) (h b d)
opcode_few last c (Fault r) f fewer h = record { tokens = omega arith }
opcode_few last c Wants f fewer h = record { tokens = omega arith }

closed_few : (most at : ℕ) (rest : List ℕ) → Few most (closed at rest)
closed_few most at [] = record { tokens = omega arith }
closed_few most at (b ∷ rest) = record { tokens = omega arith }

spelled_few : (counted : Bool) (n depth last : ℕ) (c : Cursor) → Few (length c.rest) (spelled_from counted n depth last c)
unfolding spelled_from
spelled_few counted zero depth last c = record { tokens = omega arith }
spelled_few counted (suc n) zero last c = closed_few (length c.rest) c.at c.rest
spelled_few counted (suc n) (suc depth) last c =
    opcode_few last c (byte c) _ ((field_takes byte byte_field).some c)
    (λ b d. token_few last b d (instruction counted b.0 b.1 d) (λ t e. spelled_from counted n (depth_after t (suc depth)) last e) ((instruction_steady (b.0 ∷ []) counted b.0 b.1 here_in).moves d) (λ t e. spelled_few counted n (depth_after t (suc depth)) last e))

read_few : (counted : Bool) (last n : ℕ) (c : Cursor) (x : Read (List Group)) → Advances c x → Few (length c.rest) (read_code counted last x n).code
read_few counted last n c (Got gs d) moves = let m = moves_of c d moves in few_more (length d.rest) (length c.rest) (spelled_from counted n 1 last d) (omega (arith, m.rest)) (spelled_few counted n 1 last d)
read_few counted last n c (Fault r) moves = record { tokens = omega arith }
read_few counted last n c Wants moves = record { tokens = omega arith }

pub tokens_are_few : (counted : Bool) (first : ℕ) (bytes : List ℕ) → length (body_read counted first bytes).code.tokens ≤ length bytes
tokens_are_few counted first bytes =
    let c = body_cursor first bytes in
    (read_few counted (last_of first bytes) (length bytes + 1) c (local_groups c) ((local_groups_steady []).moves c)).tokens
