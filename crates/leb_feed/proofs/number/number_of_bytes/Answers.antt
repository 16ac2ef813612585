use Rattle.std.proofs.Common.{ℕ, ◌+◌, ◌-◌, ◌^◌, ◌≡◌, ◌≤◌, ◌<◌, ap, ◌∙◌, refl, get_or, arith, ℤ, pos}
use Rattle.std.specs.Prelude.{unsigned_abs}
use Rattle.std.proofs.lemmas.Nat.{one_shl}
use Rattle.std.proofs.Math.Pow.{pow_mono}
use Rattle.wasm_defs.specs.Numbers.{last_byte}
use Rattle.leb_feed.specs.Answers.{answer}
use Rattle.leb_feed.specs.declared.number.ReadAt.TheVariants as answers
use Rattle.leb_feed.proofs.Readings.{goes_on, ends_with, near, joined, more_bits, more_below, product_fits, sum_fits}
use Rattle.leb_feed.proofs.number.number_of_bytes.Goals as goal

said : (c : goal.After-from) → answers.Number c.in-Number.high c.in-Number.next ≡ answer c.loop-at.at (last_byte c.args.signed c.loop-at.left (get_or c.args.bytes.now c.loop-at.at 0))
said c =
    let here : c.loop-at.at + 1 - 1 ≡ c.loop-at.at = omega arith in
    c.in-Number.ensures.exact ∙ ap (λ (k : ℕ). answer k (last_byte c.args.signed c.loop-at.left (get_or c.args.bytes.now c.loop-at.at 0))) here

scale_is : (c : goal.After-from) → c.from-scale.result ≡ pos (2 ^ c.loop-at.low_bits)
scale_is c = c.from-scale.ensures ∙ ap pos (one_shl c.loop-at.low_bits 64 (omega arith))

close : (c : goal.After-from) → unsigned_abs c.in-Number.high ≤ 128
close c = near c.args.signed c.loop-at.left (get_or c.args.bytes.now c.loop-at.at 0) c.loop-at.at c.in-Number.high c.in-Number.next c.if-byte-lt128.true (said c)

pub overflow_mul-result : goal.overflow_mul-result
overflow_mul-result c = product_fits c.from-scale.result c.loop-at.low_bits c.in-Number.high (scale_is c) (omega arith) (close c)

pub overflow_add-result : goal.overflow_add-result
overflow_add-result c =
    sum_fits c.from.result c.from-scale.result c.loop-at.low c.loop-at.low_bits c.in-Number.high c.from.ensures (scale_is c) c.loop-at.auto.low-fits.fits (omega arith) (close c)

pub returns-in-Number : goal.returns-in-Number
returns-in-Number c =
    let l = c.loop-at in
    let b = get_or c.args.bytes.now l.at 0 in
    let n = c.in-Number.high in
    let few : l.low_bits < 64 = omega arith in
    let value = joined c.from.result c.from-scale.result l.low l.low_bits n c.from.ensures (scale_is c) l.auto.low-fits.fits few (close c) in
    let ends = ends_with c.args.signed l.left l.at l.low l.low_bits c.args.bytes.now b n c.in-Number.next c.loop-at-test.true refl c.if-byte-lt128.true (said c) in
    record { exact = ap (λ (v : ℤ). answers.Number v c.in-Number.next) value ∙ ends ∙ l.invariant.same }

pub overflow_add-low : goal.overflow_add-low
overflow_add-low c =
    let l = c.loop-at in
    let b = get_or c.args.bytes.now l.at 0 in
    let below : b < 256 = omega (arith, c.type_inv.bytes l.at) in
    let more = more_bits b l.low_bits (omega arith) below (omega arith) in
    let small = more_below l.low b l.low_bits l.invariant.fits (omega arith) below in
    let fewer : l.low_bits + 7 ≤ 64 = omega arith in
    let p : 2 ^ (l.low_bits + 7) ≤ 2 ^ 64 = pow_mono fewer in
    rw (c.from-in-loop-at.ensures, more) (record { fits = omega (arith, small, p) })

pub loop-at-preserved : goal.loop-at-preserved
loop-at-preserved c =
    let l = c.loop-at in
    let b = get_or c.args.bytes.now l.at 0 in
    let below : b < 256 = omega (arith, c.type_inv.bytes l.at) in
    let more = more_bits b l.low_bits (omega arith) below (omega arith) in
    let small = more_below l.low b l.low_bits l.invariant.fits (omega arith) below in
    rw (c.from-in-loop-at.ensures, more)
    (record {
      within = omega arith;
      bits_left = omega arith;
      bits_in_all = omega arith;
      fits = small;
      same = goes_on c.args.signed l.left l.at l.low l.low_bits c.args.bytes.now b (omega arith) refl (omega arith) (omega arith) ∙ l.invariant.same;
    })
