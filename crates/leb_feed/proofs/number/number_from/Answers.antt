use mir.Syntax.{w128}
use Rattle.std.proofs.Common.{ℕ, ◌≡◌, ◌<◌, ◌≤◌, ◌+◌, ◌-◌, ◌-ℤ◌, pos, negsuc, to_z, of_z, get_or, refl, ap, ◌∙◌, ℤ, arith}
use Rattle.std.proofs.lemmas.Int.{ints}
use Rattle.leb_feed.specs.declared.number.ReadAt.TheVariants as answers
use Rattle.leb_feed.proofs.Readings.{small_byte, small_negative}
use Rattle.leb_feed.proofs.number.number_from.Goals as goal

small : (z : ℤ) (b : ℕ) → z ≡ pos b → b < 64 → to_z w128 (of_z w128 z) ≡ pos b
small z b is lt = omega (arith, ints, is, lt)

pub returns-then-byte-lt64 : goal.returns-then-byte-lt64
returns-then-byte-lt64 c =
    let b = get_or c.args.bytes.now c.args.place 0 in
    let value = small c.from.result b c.from.ensures c.if-byte-lt64.true in
    record { exact = ap (λ (v : ℤ). answers.Number v (c.args.place + 1)) value ∙ small_byte c.args.signed c.args.bits c.args.place c.args.bytes.now b (omega arith) refl c.if-byte-lt64.true (omega arith) }

below : (z : ℤ) (b : ℕ) → z ≡ pos b → 64 ≤ b → b < 128 → to_z w128 (of_z w128 (to_z w128 (of_z w128 z) -ℤ pos 128)) ≡ negsuc (127 - b)
below z b is le lt = omega (arith, ints, is, le, lt)

pub returns-then-byte-lt128 : goal.returns-then-byte-lt128
returns-then-byte-lt128 c =
    let b = get_or c.args.bytes.now c.args.place 0 in
    let value = below c.from-then-byte-lt128.result b c.from-then-byte-lt128.ensures c.if-byte-lt64.false c.if-byte-lt128.true in
    record { exact = ap (λ (v : ℤ). answers.Number v (c.args.place + 1)) value ∙ rw c.if-signed.true (small_negative c.args.bits c.args.place c.args.bytes.now b (omega arith) refl c.if-byte-lt64.false c.if-byte-lt128.true (omega arith)) }
