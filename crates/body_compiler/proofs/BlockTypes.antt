-- The type of a block that is one byte: the number that it is determines it.
use Rattle.std.proofs.Common.{◌≡◌, ℕ, ◌-◌, ◌^◌, ◌<◌, ◌≤◌, ℤ, pos, negsuc, ◌-ℤ◌, true, false, to_z, of_z, w64, refl, sym, ap, subst, ◌∙◌, arith}
use Rattle.std.specs.Prelude.{◌≤ℤ◌, ◌<ℤ◌, Result, Ok, Err}
use lib.IntN.{nat_abs}
use lib.Signed.{le_z}
use Rattle.std.proofs.lemmas.Int.{ints, to_z_pos}
use Rattle.std.proofs.lemmas.Bool.{le-ltb}
use Rattle.wasm_defs.specs.declared.token.BlockType.{BlockType}
use Rattle.wasm_defs.specs.Fields.{Cursor, Read, Got, Reader, then_go, ◌>>=◌, number, here}
use Rattle.wasm_defs.specs.Bodies.{short_type, type_by, block_type}
use Rattle.leb_feed.specs.declared.stop.Stop.{Stop}
use Rattle.leb_feed.specs.Reads.{Reads, Stops}

-- how much a negative number is below -1
abbrev pub below_minus_one : ℤ → ℕ
below_minus_one n = nat_abs (to_z w64 (of_z w64 (negsuc 0 -ℤ to_z w64 (of_z w64 n))))

pub is_negative : (n : ℤ) → negsuc (2 ^ 32 - 1) ≤ℤ n → n <ℤ pos (2 ^ 32) → le_z (pos 0) (to_z w64 (of_z w64 n)) ≡ false → n ≡ negsuc (below_minus_one n)
is_negative (pos v) low high e = absurd (grind (arith, ints))
is_negative (negsuc v) low high e =
    let small : v < 2 ^ 32 = omega (arith, ints) in
    let through : to_z w64 (of_z w64 (negsuc v)) ≡ negsuc v = omega (arith, ints) in
    let less : negsuc 0 -ℤ negsuc v ≡ pos v = omega (arith, ints) in
    sym
    (ap (λ (z : ℤ). negsuc (nat_abs (to_z w64 (of_z w64 (negsuc 0 -ℤ z))))) through ∙ ap (λ (z : ℤ). negsuc (nat_abs (to_z w64 (of_z w64 z)))) less ∙ ap (λ (z : ℤ). negsuc (nat_abs z)) (to_z_pos w64 v (omega arith)))

by_number : (c d : Cursor) (at : ℕ) (n : ℤ) → number true 33 c ≡ Got (at, n) d → block_type c ≡ type_by at (d.at - at) n d
unfolding block_type here
by_number c d at n e = ap (λ (r : Read (ℕ × ℤ)). then_go r (λ n. here >>= (λ behind. type_by n.0 (behind - n.0) n.1))) e

by_one_byte : (c : Cursor) (at bytes less : ℕ) → bytes ≤ 1 → type_by at bytes (negsuc less) c ≡ short_type at less c
by_one_byte c at bytes less le = rw (le-ltb 1 bytes le) refl

read_as : (p q : Reader BlockType) (r : Result BlockType Stop) (c d : Cursor) → p c ≡ q d → Reads q (λ t. t) r d d → Reads p (λ t. t) r c d
read_as p q (Ok x) c d e h = e ∙ h
read_as p q (Err s) c d e h = subst (Stops s) (sym e) h

pub short_reads : (c d : Cursor) (at : ℕ) (n : ℤ) (bytes less : ℕ) (r : Result BlockType Stop) → number true 33 c ≡ Got (at, n) d → bytes ≡ d.at - at → bytes ≤ 1 → n ≡ negsuc less
    → Reads (short_type at less) (λ t. t) r d d → Reads block_type (λ t. t) r c d
short_reads c d at n bytes less r e count few is h =
    read_as block_type (short_type at less) r c d
    (by_number c d at n e ∙ ap (λ (k : ℕ). type_by at k n d) (sym count) ∙ ap (λ (z : ℤ). type_by at bytes z d) is ∙ by_one_byte d at bytes less few) h
