-- The bodies of a drill encode their trees.
use Rattle.std.proofs.Common.{◌≡◌, ℕ, zero, suc, ◌+◌, ◌^◌, ◌<◌, ◌≤◌, pos, false, List, [], ◌∷◌, ◌++◌, length, refl, ap, inl, arith, append_assoc}
use Rattle.std.specs.List.{flat_map, range_with_len}
use Rattle.wasm_defs.specs.declared.types.ValType.TheVariants.{I32}
use Rattle.wasm_defs.specs.declared.operation.BinaryOp.TheVariants.{Add}
use Rattle.wasm_defs.specs.declared.operation.Operation.TheVariants.{Binary}
use Rattle.wasm_defs.specs.declared.token.Plain.TheVariants.{Call, Const, LocalGet, Numeric}
use Rattle.wasm_defs.specs.declared.token.Token.{Token}
use Rattle.wasm_defs.specs.declared.token.Token.TheVariants as token
use Rattle.wasm_defs.specs.Codes.{Code, instruction_is, token_is}
use Rattle.wasm_defs.specs.Faults.{tokens_of}
use Rattle.wasm_defs.specs.Items.{each_is}
use Rattle.wasm_defs.specs.Trees.{Tree, spelled}
use Rattle.wasm_defs.specs.Opcodes.{operation_code}
use Rattle.module_gen.specs.Drill.{below, call}
use Rattle.module_gen.specs.Numbers.{signed, unsigned}
use Rattle.drill_laws.specs.Functions.{adder_tree, calls_from, runner_tree}
use Rattle.drill_laws.proofs.Spellings.{one_byte, signed_spells, unsigned_spells}

-- a token at the start of others
token_then : (at : ℕ) (t : Token) (ts : List (ℕ × Token)) (front back : List ℕ) → instruction_is false t at front → each_is (token_is false) ts (at + length front) back
    → each_is (token_is false) ((at, t) ∷ ts) at (front ++ back)
token_then at t ts front back is rest = record { front = front; back = back; parts = refl; first = (refl, is); second = rest }

ends : (at : ℕ) → each_is (token_is false) ((at, token.End) ∷ []) at (0x0B ∷ [])
ends at = token_then at token.End [] (0x0B ∷ []) [] refl refl

-- no groups of locals, and then tokens
abbrev pub Spell : List (ℕ × Token) → ℕ → List ℕ → Type 0
Spell ts = Code false [] ts

no_locals : (at : ℕ) (ts : List (ℕ × Token)) (bytes : List ℕ) → each_is (token_is false) ts (at + 1) bytes → Spell ts at (0x00 ∷ bytes)
no_locals at ts bytes rest = record {
  front = 0x00 ∷ [];
  back = bytes;
  parts = refl;
  first = record { front = 0x00 ∷ []; back = []; parts = refl; first = one_byte 0 (omega arith); second = refl };
  second = rest;
}

-- ---- of one that adds

abbrev pub adder_content : ℕ → List ℕ
adder_content i = 0x00 ∷ 0x20 ∷ 0x00 ∷ 0x41 ∷ (signed i ++ 0x6A ∷ 0x0B ∷ [])

abbrev pub adder_tokens : (first i : ℕ) → List (ℕ × Token)
adder_tokens first i =
    let constant = first + 1 + 2 in
    let sum = constant + length (0x41 ∷ signed i) in
    (first + 1, token.Plain (LocalGet 0)) ∷ (constant, token.Plain (Const I32 (pos i))) ∷ (sum, token.Plain (Numeric (Binary I32 Add))) ∷ (sum + 1, token.End) ∷ []

pub adder_spelled : (first i : ℕ) → i < 2 ^ 31 → Spell (adder_tokens first i) first (adder_content i)
unfolding operation_code
adder_spelled first i small =
    let constant = first + 1 + 2 in
    let sum = constant + length (0x41 ∷ signed i) in
    let last : List (ℕ × Token) = (sum + 1, token.End) ∷ [] in
    let adding : List (ℕ × Token) = (sum, token.Plain (Numeric (Binary I32 Add))) ∷ last in
    let all : List (ℕ × Token) = (constant, token.Plain (Const I32 (pos i))) ∷ adding in
    let adds = token_then sum (token.Plain (Numeric (Binary I32 Add))) last (0x6A ∷ []) (0x0B ∷ []) refl (ends (sum + 1)) in
    let number = token_then constant (token.Plain (Const I32 (pos i))) adding (0x41 ∷ signed i) (0x6A ∷ 0x0B ∷ [])
    (record { front = 0x41 ∷ []; back = signed i; parts = refl; first = refl; second = signed_spells i small }) adds in
    let gets = token_then (first + 1) (token.Plain (LocalGet 0)) all (0x20 ∷ 0x00 ∷ []) (0x41 ∷ (signed i ++ 0x6A ∷ 0x0B ∷ []))
    (record { front = 0x20 ∷ []; back = 0x00 ∷ []; parts = refl; first = refl; second = one_byte 0 (omega arith) }) number in
    no_locals first (adder_tokens first i) (0x20 ∷ 0x00 ∷ 0x41 ∷ (signed i ++ 0x6A ∷ 0x0B ∷ [])) gets

pub adder_nests : (first i : ℕ) → Tree (tokens_of (adder_tokens first i)) (adder_tree i)
adder_nests first i = refl

-- ---- of the one that calls

abbrev pub runner_content : ℕ → List ℕ
runner_content n = 0x00 ∷ 0x41 ∷ 0x00 ∷ (flat_map call (below n) ++ 0x0B ∷ [])

abbrev pub call_tokens : (at first count : ℕ) → List (ℕ × Token)
call_tokens at first zero = (at, token.End) ∷ []
call_tokens at first (suc k) = (at, token.Plain (Call first)) ∷ call_tokens (at + length (call first)) (first + 1) k

call_is : (at i : ℕ) → i < 2 ^ 32 → instruction_is false (token.Plain (Call i)) at (call i)
unfolding call
call_is at i small = record { front = 0x10 ∷ []; back = unsigned i; parts = refl; first = refl; second = unsigned_spells i small }

calls_spelled : (at first count : ℕ) → first + count ≤ 2 ^ 32 → each_is (token_is false) (call_tokens at first count) at (flat_map call (range_with_len first count) ++ 0x0B ∷ [])
calls_spelled at first zero small = ends at
calls_spelled at first (suc k) small =
    let one = call_is at first (omega (arith, small)) in
    let rest = calls_spelled (at + length (call first)) (first + 1) k (omega (arith, small)) in
    rw (append_assoc (call first) (flat_map call (range_with_len (first + 1) k)) (0x0B ∷ []))
    (token_then at (token.Plain (Call first)) (call_tokens (at + length (call first)) (first + 1) k) (call first) (flat_map call (range_with_len (first + 1) k) ++ 0x0B ∷ []) one rest)

abbrev pub runner_tokens : (first n : ℕ) → List (ℕ × Token)
runner_tokens first n = (first + 1, token.Plain (Const I32 (pos 0))) ∷ call_tokens (first + 1 + 2) 0 n

zero_spells : (at : ℕ) → instruction_is false (token.Plain (Const I32 (pos 0))) at (0x41 ∷ 0x00 ∷ [])
zero_spells at = record { front = 0x41 ∷ []; back = 0x00 ∷ []; parts = refl; first = refl; second = inl (omega arith, omega arith, refl) }

pub runner_spelled : (first n : ℕ) → n ≤ 2 ^ 32 → Spell (runner_tokens first n) first (runner_content n)
runner_spelled first n small =
    no_locals first (runner_tokens first n) (0x41 ∷ 0x00 ∷ (flat_map call (below n) ++ 0x0B ∷ []))
    (token_then (first + 1) (token.Plain (Const I32 (pos 0))) (call_tokens (first + 1 + 2) 0 n) (0x41 ∷ 0x00 ∷ []) (flat_map call (below n) ++ 0x0B ∷ []) (zero_spells (first + 1))
    (calls_spelled (first + 1 + 2) 0 n (omega (arith, small))))

calls_nest : (at first count : ℕ) → tokens_of (call_tokens at first count) ≡ spelled (calls_from first count) (token.End ∷ [])
calls_nest at first zero = refl
calls_nest at first (suc k) = ap (λ (l : List Token). token.Plain (Call first) ∷ l) (calls_nest (at + length (call first)) (first + 1) k)

pub runner_nests : (first n : ℕ) → Tree (tokens_of (runner_tokens first n)) (runner_tree n)
runner_nests first n = ap (λ (l : List Token). token.Plain (Const I32 (pos 0)) ∷ l) (calls_nest (first + 1 + 2) 0 n)
