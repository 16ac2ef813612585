-- The bytes of a buffer that are still to be taken.
use Rattle.std.proofs.Common.{◌≡◌, ◌≤◌, ◌+◌, ◌-◌, ℕ, List, [], length, take, drop, ap, ◌∙◌, arith, drop-drop, length-drop, length-take}
use Rattle.std.proofs.lemmas.List.{drop-take, drop_all}
use Rattle.source_reading.specs.Chunks.{Chunked}

-- some were taken
pub skipped : (xs : List ℕ) (from len taken : ℕ) → taken ≤ len → drop taken (take len (drop from xs)) ≡ take (len - taken) (drop (from + taken) xs)
skipped xs from len taken few =
    let e : len ≡ taken + (len - taken) = omega arith in
    ap (λ (n : ℕ). drop taken (take n (drop from xs))) e
    ∙ drop-take taken (len - taken) (drop from xs)
    ∙ ap (take (len - taken)) (drop-drop taken from xs)

-- so many are pending
pub pending_count : (xs : List ℕ) (from len : ℕ) → from + len ≤ length xs → length (take len (drop from xs)) ≡ len
pending_count xs from len fits = omega (arith, length-take len (drop from xs), length-drop from xs)

-- all were taken
pub none_after : (c d : Chunked) (piece : List ℕ) (taken : ℕ) → d ≡ record c { pending = drop taken c.pending } → piece ≡ c.pending → taken ≡ length piece → d.pending ≡ []
none_after c d piece taken is same all =
    let few = ap length same in
    ap (λ (x : Chunked). x.pending) is ∙ drop_all taken c.pending (omega (arith, few, all))
