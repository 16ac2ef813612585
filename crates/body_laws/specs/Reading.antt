-- What the bytes of a body are read as (WebAssembly Core 1.0, 5.5.13).
use Rattle.std.specs.Prelude.{Bool, ◌≡◌, ◌⊎◌, ℕ, zero, suc, ◌+◌, List, [], ◌∷◌, ◌++◌, length, Some, None}
use Rattle.wasm_defs.specs.declared.fault.Kind.TheVariants.{Malformed}
use Rattle.wasm_defs.specs.declared.fault.Refusal.{Refusal}
use Rattle.wasm_defs.specs.declared.token.Token.{Token}
use Rattle.wasm_defs.specs.Bodies.{Group, BodyRead, depth_after, body_read}
use Rattle.wasm_defs.specs.Codes.{instruction_is, token_is}
use Rattle.wasm_defs.specs.Faults.{tokens_of}
use Rattle.wasm_defs.specs.Items.{each_is}
use Rattle.body_laws.specs.WrongTokens.{IsWrongToken}

-- they are read whole, as these groups of locals and these tokens
pub record IsReadAs (counted : Bool) (groups : List Group) (tokens : List (ℕ × Token)) (first : ℕ) (bytes : List ℕ) : Type 0 where
  pub locals : (body_read counted first bytes).groups ≡ groups
  pub code : (body_read counted first bytes).code.tokens ≡ tokens
  pub whole : (body_read counted first bytes).code.fault ≡ None

-- the last of these tokens, and none before it, closes the last of so many blocks that are open
abbrev pub Closes : ℕ → List Token → Type 0
Closes zero [] = Unit {0}
Closes zero (t ∷ ts) = ⊥
Closes (suc depth) [] = ⊥
Closes (suc depth) (t ∷ ts) = Closes (depth_after t (suc depth)) ts

-- tokens are wrong after these: they close the body, and what is left is malformed at its first byte; or they don't, and the bytes
-- begin no token
abbrev pub IsWrongAfter : Bool → (depth : ℕ) → List Token → (at : ℕ) → List ℕ → (last : ℕ) → Refusal → Type 0
IsWrongAfter counted depth tokens at bytes last r = (Closes depth tokens × (r ≡ record { offset = at; kind = Malformed })) ⊎ IsWrongToken counted at bytes last r

-- after these groups of locals the tokens are those of the longest prefix: no token's encoding begins what is after it, unless the
-- tokens close the body. There is the wrong field; there is none where the tokens close the body and nothing is left
pub record IsReadThrough (counted : Bool) (groups : List Group) (at : ℕ) (bytes : List ℕ) (last : ℕ) (read : BodyRead) : Type 0 where
  pub locals : read.groups ≡ groups
  pub front : List ℕ
  pub back : List ℕ
  pub parts : bytes ≡ front ++ back
  pub tokens : each_is (token_is counted) read.code.tokens at front
  pub longest : (t : Token) (more rest : List ℕ) → back ≡ more ++ rest → instruction_is counted t (at + length front) more → Closes 1 (tokens_of read.code.tokens)
  pub whole : read.code.fault ≡ None → (back ≡ []) × Closes 1 (tokens_of read.code.tokens)
  pub place : (r : Refusal) → read.code.fault ≡ Some r → IsWrongAfter counted 1 (tokens_of read.code.tokens) (at + length front) back last r
