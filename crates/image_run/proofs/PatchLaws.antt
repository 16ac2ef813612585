-- Patches of a host, written to the beginning of a memory.
use Rattle.std.proofs.Common.{◌≡◌, ℕ, ◌+◌, ◌≤◌, ◌<◌, true, ◌&&◌, List, ◌++◌, take, drop, length, Some, refl, sym, ap, ◌∙◌, subst, arith, append_assoc, length-append, length-take, length-drop}
use Rattle.std.specs.Prelude.{All, replicate, nat_le, option_map}
use Rattle.rv_isa.specs.Steps.{put}
use Rattle.wasm_defs.specs.Host.{are_bytes, patched, most_patched}
use Rattle.wasm_defs.proofs.HostLaws.{bytes_pass}
use Rattle.image_run.specs.declared.host.Patch.{Patch}
use Rattle.image_run.specs.Hosts.{patch_of}
use Rattle.std.proofs.lemmas.Bool.{and_parts, leb-true, le-leb}
use Rattle.std.proofs.lemmas.List.{take-append-le, drop-append-le, take-append-drop, drop_at, drop-drop, length-replicate}
use Rattle.rv_isa.specs.declared.stepping.Region.TheVariants.{Memory}
use Rattle.rv_isa.specs.Steps.{region}
use Rattle.rv64im_machine.specs.Contents.{Contents as Machine}
use Rattle.rv64im_machine.specs.Lending.{with_bytes}
use Rattle.image_run.specs.Answers.{Patches}

-- bytes written over those of a prefix are written over those of the whole
over_front : (front rest new : List ℕ) (place n : ℕ) → length new ≡ n → place + n ≤ length front
    → (take place front ++ (new ++ drop (place + n) front)) ++ drop (length (take place front ++ (new ++ drop (place + n) front))) (front ++ rest) ≡ put n place (front ++ rest) new
over_front front rest new place n is inside =
    let written = take place front ++ (new ++ drop (place + n) front) in
    let size : length written ≡ length front =
    omega (arith, length-append (take place front) (new ++ drop (place + n) front), length-append new (drop (place + n) front), length-take place front, length-drop (place + n) front) in
    let behind : drop (length written) (front ++ rest) ≡ rest = ap (λ (k : ℕ). drop k (front ++ rest)) size ∙ drop_at front rest (length front) refl in
    let before : take place (front ++ rest) ≡ take place front = take-append-le place front rest (omega arith) in
    let after : drop n (drop place (front ++ rest)) ≡ drop (place + n) front ++ rest = drop-drop n place (front ++ rest) ∙ drop-append-le (place + n) front rest inside in
    ap (λ (l : List ℕ). written ++ l) behind
    ∙ append_assoc (take place front) (new ++ drop (place + n) front) rest
    ∙ ap (λ (l : List ℕ). take place front ++ l) (append_assoc new (drop (place + n) front) rest ∙ ap (λ (l : List ℕ). new ++ l) (sym after))
    ∙ ap (λ (l : List ℕ). l ++ (new ++ drop n (drop place (front ++ rest)))) (sym before)

pub over_whole : (memory new : List ℕ) (size place n : ℕ) → size ≤ length memory → length new ≡ n → place + n ≤ size
    → (take place (take size memory) ++ (new ++ drop (place + n) (take size memory))) ++ drop (length (take place (take size memory) ++ (new ++ drop (place + n) (take size memory)))) memory ≡ put n place memory new
over_whole memory new size place n fits is inside =
    let front = take size memory in
    let written = take place front ++ (new ++ drop (place + n) front) in
    let whole = take-append-drop size memory in
    let long : place + n ≤ length front = omega (arith, length-take size memory) in
    subst (λ (l : List ℕ). written ++ drop (length written) l ≡ put n place l new) whole (over_front front (drop size memory) new place n is long)

length_of_patch : (p : Patch) → length (patch_of p).bytes ≡ p.len
length_of_patch p = omega (arith, length-take p.len (p.bytes ++ replicate p.len 0), length-append p.bytes (replicate p.len 0), length-replicate {A = ℕ} p.len 0)

bytes_of_patch : (p : Patch) → length p.bytes ≡ 8 → p.len ≤ 8 → (patch_of p).bytes ≡ take p.len p.bytes
bytes_of_patch p is few = take-append-le p.len p.bytes (replicate p.len 0) (omega arith)

-- a patch that is in the memory
pub patch_goes : (p : Patch) (size : ℕ) (old new : Machine) → size ≤ length old.bytes.memory → length p.bytes ≡ 8 → (nat_le p.len most_patched && nat_le (p.place + p.len) size) ≡ true
    → All (λ b. b < 256) (take p.len p.bytes) → new ≡ with_bytes old Memory (put p.len p.place (region old.bytes Memory) (take p.len p.bytes)) → Patches true (patched (take size old.bytes.memory) (option_map patch_of (Some p))) old new
patch_goes p size old new fits whole ok bytes e =
    let parts = and_parts (nat_le p.len most_patched) (nat_le (p.place + p.len) size) ok in
    let few : p.len ≤ 8 = leb-true p.len most_patched parts.0 in
    let inside : p.place + p.len ≤ size = leb-true (p.place + p.len) size parts.1 in
    let memory = old.bytes.memory in
    let count = length_of_patch p in
    let short : nat_le (length (patch_of p).bytes) most_patched ≡ true = le-leb (length (patch_of p).bytes) most_patched (omega (arith, count)) in
    let are : are_bytes (patch_of p).bytes ≡ true = bytes_pass (patch_of p).bytes (subst (λ (l : List ℕ). All (λ b. b < 256) l) (sym (bytes_of_patch p whole few)) bytes) in
    let long : nat_le (p.place + length (patch_of p).bytes) (length (take size memory)) ≡ true = le-leb (p.place + length (patch_of p).bytes) (length (take size memory)) (omega (arith, count, length-take size memory)) in
    let same = over_whole memory (patch_of p).bytes size p.place (length (patch_of p).bytes) fits refl (omega (arith, count)) in
    let written = take p.place (take size memory) ++ ((patch_of p).bytes ++ drop (p.place + length (patch_of p).bytes) (take size memory)) in
    let is : new ≡ with_bytes old Memory (written ++ drop (length written) memory) =
    e ∙ ap (λ (l : List ℕ). with_bytes old Memory (put p.len p.place memory l)) (sym (bytes_of_patch p whole few))
    ∙ ap (λ (n : ℕ). with_bytes old Memory (put n p.place memory (patch_of p).bytes)) (sym count)
    ∙ ap (λ (l : List ℕ). with_bytes old Memory l) (sym same) in
    rw (short, are, long) is

-- the first bytes, as many as are written
pub front_written : (m now : Machine) (place count len : ℕ) (bytes : List ℕ) → count ≡ len → len ≤ length bytes → now ≡ with_bytes m Memory (put (length (take count bytes)) place m.bytes.memory (take count bytes))
    → now ≡ with_bytes m Memory (put len place m.bytes.memory (take len bytes))
front_written m now place count len bytes same fits is =
    let long : length (take count bytes) ≡ len = omega (arith, length-take count bytes) in
    is ∙ ap (λ (n : ℕ). with_bytes m Memory (put n place m.bytes.memory (take count bytes))) long ∙ ap (λ (n : ℕ). with_bytes m Memory (put len place m.bytes.memory (take n bytes))) same

-- and they are bytes
pub front_bytes : (count len : ℕ) (bytes : List ℕ) → count ≡ len → All (λ b. b < 256) (take count bytes) → All (λ b. b < 256) (take len bytes)
front_bytes count len bytes same are = subst (λ (n : ℕ). All (λ b. b < 256) (take n bytes)) same are
