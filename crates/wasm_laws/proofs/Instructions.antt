-- What holds of every instruction holds of each token of a body.
use Rattle.std.proofs.Common.{Bool, ℕ, zero, suc, ◌+◌, List, [], ◌∷◌, length}
use Rattle.wasm_defs.specs.declared.token.Token.{Token}
use Rattle.wasm_defs.specs.Fields.{Cursor, Read, Got, Fault, Wants, byte}
use Rattle.wasm_defs.specs.Bodies.{Group, local_groups, instruction, depth_after, Spelled, closed, after_token, goes_on, spelled_from, body_cursor, last_of, read_code, body_read}
use Rattle.wasm_laws.proofs.Steady.{IfGot, Advance, Advances, here_in}
use Rattle.wasm_laws.proofs.Windows.{byte_field}
use Rattle.wasm_laws.proofs.BodyLaws.{local_groups_steady, instruction_steady}

abbrev pub Each : (Token → Type 0) → List (ℕ × Token) → Type 0
Each P [] = Unit {0}
Each P (t ∷ ts) = P t.1 × Each P ts

-- what holds of each instruction holds of each token, where that holds of what follows any bytes, too
module _ (B : Cursor → Type 0) (on : (c d : Cursor) → Advance c d → B c → B d) (P : Token → Type 0) (counted : Bool) (each : (at b : ℕ) (d : Cursor) → B d → IfGot (λ t e. P t) (instruction counted at b d)) where
  token_on : (last at : ℕ) (d : Cursor) (x : Read Token) (f : Token → Cursor → Spelled) → B d → Advances d x → IfGot (λ t e. P t) x → ((t : Token) (e : Cursor) → B e → Each P (f t e).tokens) → Each P (goes_on last x (λ t e. after_token at t (f t e))).tokens
  token_on last at d (Got t e) f known moves p h = (p, h t e (on d e moves known))
  token_on last at d (Fault r) f known moves p h = tt
  token_on last at d Wants f known moves p h = tt

  opcode_on : (last : ℕ) (c : Cursor) (x : Read (ℕ × ℕ)) (f : ℕ × ℕ → Cursor → Spelled) → B c → Advances c x → ((b : ℕ × ℕ) (d : Cursor) → B d → Each P (f b d).tokens) → Each P (goes_on last x f).tokens
  opcode_on last c (Got b d) f known moves h = h b d (on c d moves known)
  opcode_on last c (Fault r) f known moves h = tt
  opcode_on last c Wants f known moves h = tt

  closed_on : (at : ℕ) (rest : List ℕ) → Each P (closed at rest).tokens
  closed_on at [] = tt
  closed_on at (b ∷ rest) = tt

  each_spelled : (n depth last : ℕ) (c : Cursor) → B c → Each P (spelled_from counted n depth last c).tokens
  unfolding spelled_from
  each_spelled zero depth last c known = tt
  each_spelled (suc n) zero last c known = closed_on c.at c.rest
  each_spelled (suc n) (suc depth) last c known =
      opcode_on last c (byte c) _ known ((byte_field.steady []).moves c)
      (λ b d known.
      token_on last b.0 d (instruction counted b.0 b.1 d) (λ t e. spelled_from counted n (depth_after t (suc depth)) last e) known ((instruction_steady (b.0 ∷ []) counted b.0 b.1 here_in).moves d) (each b.0 b.1 d known)
      (λ t e known. each_spelled n (depth_after t (suc depth)) last e known))

  each_read : (last n : ℕ) (c : Cursor) (x : Read (List Group)) → B c → Advances c x → Each P (read_code counted last x n).code.tokens
  each_read last n c (Got gs d) known moves = each_spelled n 1 last d (on c d moves known)
  each_read last n c (Fault r) known moves = tt
  each_read last n c Wants known moves = tt

  pub each_token : (first : ℕ) (bytes : List ℕ) → B (body_cursor first bytes) → Each P (body_read counted first bytes).code.tokens
  each_token first bytes known =
      let c = body_cursor first bytes in
      each_read (last_of first bytes) (length bytes + 1) c (local_groups c) known ((local_groups_steady []).moves c)
