-- What the loops write, as lists.
use Rattle.std.proofs.Common.{◌≡◌, ℕ, zero, suc, ◌+◌, ◌%◌, ◌≤◌, List, [], ◌++◌, take, drop, length, replicate, refl, sym, ap, subst, ◌∙◌, arith}
use Rattle.std.proofs.lemmas.List.{take-append-drop}
use Rattle.rv_isa.specs.declared.stepping.Region.{Region}
use Rattle.rv_isa.specs.declared.stepping.Region.TheVariants.{Memory}
use Rattle.rv_isa.specs.Steps.{Bytes, value_at, put, le_bytes, region}
use Rattle.rv_isa.specs.Runs.{AreBytes}
use Rattle.rv_isa.proofs.ByteLaws.{AreBytes-put, length-put, length-le_bytes}
use Rattle.simulation.proofs.Memory.Bulk.Lists.{put_next, put_last, byte_there, take_next, take_last, read_above, read_below}
use Rattle.simulation.proofs.Memory.Bulk.Loops.{with_byte, filled, moved_up, moved_down}

-- the memory's bytes are others
abbrev pub with_bytes : Bytes → List ℕ → Bytes
with_bytes b l = record b { memory = l }

put_none : (at : ℕ) (b : Bytes) → b ≡ with_bytes b (put 0 at b.memory [])
put_none at b = ap (with_bytes b) (sym (take-append-drop at b.memory))

-- ---- bytes of one value

pub filled_is : (n at value : ℕ) (b : Bytes) → at + n ≤ length b.memory → filled n at value b ≡ with_bytes b (put n at b.memory (replicate n (value % 256)))
filled_is zero at value b inside = put_none at b
filled_is (suc n) at value b inside =
    let one = le_bytes 1 value in
    let size = length-put 1 at b.memory one (omega arith) (length-le_bytes 1 value) in
    filled_is n (suc at) value (with_byte b at value) (omega arith)
    ∙ ap (with_bytes b) (put_next n at one (replicate n (value % 256)) b.memory (omega arith) refl)

-- ---- bytes of another region

module _ (r : Region) (stays : (b : Bytes) (at value : ℕ) → region (with_byte b at value) r ≡ region b r) where
  pub moved_from : (n to from : ℕ) (b : Bytes) → to + n ≤ length b.memory → from + n ≤ length (region b r) → AreBytes (region b r) → moved_up r n to from b ≡ with_bytes b (put n to b.memory (take n (drop from (region b r))))
  moved_from zero to from b inside within sound = put_none to b
  moved_from (suc n) to from b inside within sound =
      let l = region b r in
      let value = value_at 1 from l in
      let one = le_bytes 1 value in
      let b' = with_byte b to value in
      let size = length-put 1 to b.memory one (omega arith) (length-le_bytes 1 value) in
      let same = stays b to value in
      let sound' = subst AreBytes (sym same) sound in
      moved_from n (suc to) (suc from) b' (omega arith) (omega (arith, ap length same)) sound'
      ∙ ap (λ (source : List ℕ). with_bytes b (put n (suc to) (put 1 to b.memory one) (take n (drop (suc from) source)))) same
      ∙ ap (with_bytes b) (put_next n to one (take n (drop (suc from) l)) b.memory (omega arith) refl)
      ∙ ap (λ (bytes : List ℕ). with_bytes b (put (suc n) to b.memory (bytes ++ take n (drop (suc from) l)))) (byte_there l from sound (omega arith))
      ∙ ap (λ (bytes : List ℕ). with_bytes b (put (suc n) to b.memory bytes)) (take_next n from l)

-- ---- bytes of the memory itself: upward from an address that isn't below, downward from one that isn't above

pub moved_up_is : (n to from : ℕ) (b : Bytes) → to ≤ from → to + n ≤ length b.memory → from + n ≤ length b.memory → AreBytes b.memory → moved_up Memory n to from b ≡ with_bytes b (put n to b.memory (take n (drop from b.memory)))
moved_up_is zero to from b below inside within sound = put_none to b
moved_up_is (suc n) to from b below inside within sound =
    let l = b.memory in
    let value = value_at 1 from l in
    let one = le_bytes 1 value in
    let b' = with_byte b to value in
    let size = length-put 1 to l one (omega arith) (length-le_bytes 1 value) in
    moved_up_is n (suc to) (suc from) b' (omega arith) (omega arith) (omega arith) (AreBytes-put 1 to value l sound)
    ∙ ap (λ (bytes : List ℕ). with_bytes b (put n (suc to) (put 1 to l one) bytes)) (read_above n to (suc from) one l (omega arith) (omega arith) refl)
    ∙ ap (with_bytes b) (put_next n to one (take n (drop (suc from) l)) l (omega arith) refl)
    ∙ ap (λ (bytes : List ℕ). with_bytes b (put (suc n) to l (bytes ++ take n (drop (suc from) l)))) (byte_there l from sound (omega arith))
    ∙ ap (λ (bytes : List ℕ). with_bytes b (put (suc n) to l bytes)) (take_next n from l)

pub moved_down_is : (n to from : ℕ) (b : Bytes) → from ≤ to → to + n ≤ length b.memory → AreBytes b.memory → moved_down n to from b ≡ with_bytes b (put n to b.memory (take n (drop from b.memory)))
moved_down_is zero to from b above inside sound = put_none to b
moved_down_is (suc n) to from b above inside sound =
    let l = b.memory in
    let value = value_at 1 (from + n) l in
    let one = le_bytes 1 value in
    let b' = with_byte b (to + n) value in
    let size = length-put 1 (to + n) l one (omega arith) (length-le_bytes 1 value) in
    moved_down_is n to from b' above (omega arith) (AreBytes-put 1 (to + n) value l sound)
    ∙ ap (λ (bytes : List ℕ). with_bytes b (put n to (put 1 (to + n) l one) bytes)) (read_below n (to + n) from one l (omega arith) (omega arith))
    ∙ ap (with_bytes b) (put_last n to one (take n (drop from l)) l (omega arith) refl)
    ∙ ap (λ (bytes : List ℕ). with_bytes b (put (suc n) to l (take n (drop from l) ++ bytes))) (byte_there l (from + n) sound (omega arith))
    ∙ ap (λ (bytes : List ℕ). with_bytes b (put (suc n) to l bytes)) (take_last n from l)
