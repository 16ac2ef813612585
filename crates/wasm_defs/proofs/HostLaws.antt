-- The test of bytes says which numbers are bytes.
use Rattle.std.proofs.Common.{◌≡◌, ℕ, ◌<◌, true, List, [], ◌∷◌, refl}
use Rattle.std.specs.Prelude.{All, nat_lt}
use Rattle.std.proofs.lemmas.Bool.{and_parts, and_from, lt-ltb, ltb-true}
use Rattle.std.proofs.lemmas.List.Elements.{All-nil, All-cons, All-head, All-tail}
use Rattle.wasm_defs.specs.Host.{are_bytes}

pub bytes_tested : (bytes : List ℕ) → are_bytes bytes ≡ true → All (λ b. b < 256) bytes
bytes_tested [] e = All-nil (λ (b : ℕ). b < 256)
bytes_tested (b ∷ bytes) e =
    let parts = and_parts (nat_lt b 256) (are_bytes bytes) e in
    All-cons (λ (x : ℕ). x < 256) b bytes (ltb-true b 256 parts.0) (bytes_tested bytes parts.1)

pub bytes_pass : (bytes : List ℕ) → All (λ b. b < 256) bytes → are_bytes bytes ≡ true
bytes_pass [] h = refl
bytes_pass (b ∷ bytes) h =
    and_from (nat_lt b 256) (are_bytes bytes) (lt-ltb b 256 (All-head (λ (x : ℕ). x < 256) b bytes h)) (bytes_pass bytes (All-tail (λ (x : ℕ). x < 256) b bytes h))
