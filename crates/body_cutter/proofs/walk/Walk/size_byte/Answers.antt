use Rattle.std.proofs.Common.{◌≡◌, ◌^◌, refl, ◌∙◌, ap, arith, pos, to_z, of_z}
use mir.Syntax.{w128}
use Rattle.std.specs.Prelude.{◌≤ℤ◌, ◌<ℤ◌}
use Rattle.wasm_defs.specs.Numbers.{Spells}
use Rattle.leb_feed.specs.Feeding.{Feeding}
use Rattle.leb_feed.proofs.Casts.{spelled_bounds, wide_is}
use Rattle.body_cutter.specs.Walks.{given}
use Rattle.body_cutter.proofs.Steps.{hand_at_size, behind_last, cut_off, no_size, still_in_size, size_is, size_wrong, size_right, natural_bounds}
use Rattle.body_cutter.proofs.walk.Walk.size_byte.Goals as goal
use Rattle.body_cutter.proofs.walk.Walk.size_byte.Goals.{In-Done}

pub returns-then-self-eq0-clause-same : goal.returns-then-self-eq0-clause-same
unfolding given
returns-then-self-eq0-clause-same c = λ more. behind_last c.args.self.now c.requires.sound c.requires.in_size c.requires.going c.requires.inside c.args.byte more c.if-self-eq0.true

pub returns-then-self-clause-same : goal.returns-then-self-clause-same
unfolding given
returns-then-self-clause-same c = λ more. cut_off c.args.self.now c.requires.sound c.requires.in_size c.requires.going c.requires.inside c.args.byte (omega (arith, c.if-self-eq0.false)) c.feed.new.self c.feed.ensures.grows more c.if-self.true c.in-More.ensures.exact

pub returns-else-self-clause-same : goal.returns-else-self-clause-same
returns-else-self-clause-same c = λ more. still_in_size c.args.self.now c.requires.sound c.requires.in_size c.requires.going c.requires.inside c.args.byte (omega (arith, c.if-self-eq0.false)) c.feed.new.self c.feed.ensures.grows more

pub returns-in-Bad-clause-same : goal.returns-in-Bad-clause-same
unfolding given
returns-in-Bad-clause-same c = λ more. no_size c.args.self.now c.requires.sound c.requires.in_size c.requires.going c.requires.inside c.args.byte (omega (arith, c.if-self-eq0.false)) c.feed.new.self c.feed.ensures.grows more c.in-Bad.ensures.exact

-- ---- the size is whole

spelled : (c : In-Done) → Spells c.in-Done.n c.feed.new.self.bits c.feed.new.self.signed c.feed.new.self.bytes
spelled c = (c.in-Done.ensures.done c.in-Done.n).0 refl

bits : (c : In-Done) → c.feed.new.self.bits ≡ 32
bits c = ap (λ (f : Feeding). f.bits) c.feed.ensures.grows ∙ (hand_at_size c.args.self.now c.requires.sound c.requires.in_size c.requires.going).bits

same : (c : In-Done) → to_z w128 (of_z w128 c.in-Done.n) ≡ c.in-Done.n
same c = wide_is c.in-Done.n (spelled_bounds c.in-Done.n c.feed.new.self.bits c.feed.new.self.signed c.feed.new.self.bytes (omega (arith, bits c)) (spelled c))

bounds : (c : In-Done) → (pos 0 ≤ℤ c.in-Done.n) × (c.in-Done.n <ℤ pos (2 ^ 32))
bounds c =
    let h = hand_at_size c.args.self.now c.requires.sound c.requires.in_size c.requires.going in
    natural_bounds c.in-Done.n c.feed.new.self (bits c) (ap (λ (f : Feeding). f.signed) c.feed.ensures.grows ∙ h.signed) (spelled c)

pub natural-size-requires-clause-low : goal.natural-size-requires-clause-low
natural-size-requires-clause-low c = rw (same c) ((bounds c).0)

pub natural-size-requires-clause-high : goal.natural-size-requires-clause-high
natural-size-requires-clause-high c = rw (same c) ((bounds c).1)

pub returns-in-Some-clause-same : goal.returns-in-Some-clause-same
unfolding given
returns-in-Some-clause-same c = λ more. size_wrong c.args.self.now c.requires.sound c.requires.in_size c.requires.going c.requires.inside c.args.byte (omega (arith, c.if-self-eq0.false)) c.feed.new.self c.feed.ensures.grows more c.natural-size.result (size_is c.args.self.now c.requires.sound c.requires.in_size c.requires.going c.requires.inside c.args.byte (omega (arith, c.if-self-eq0.false)) c.feed.new.self c.feed.ensures.grows more c.in-Done.n c.natural-size.result ((c.in-Done.ensures.done c.in-Done.n).0 refl) c.natural-size.ensures) c.in-Some.kind c.in-Some.ensures.exact

pub returns-in-None-clause-same : goal.returns-in-None-clause-same
returns-in-None-clause-same c = λ more. size_right c.args.self.now c.requires.sound c.requires.in_size c.requires.going c.requires.inside c.args.byte (omega (arith, c.if-self-eq0.false)) c.feed.new.self c.feed.ensures.grows more c.natural-size.result (size_is c.args.self.now c.requires.sound c.requires.in_size c.requires.going c.requires.inside c.args.byte (omega (arith, c.if-self-eq0.false)) c.feed.new.self c.feed.ensures.grows more c.in-Done.n c.natural-size.result ((c.in-Done.ensures.done c.in-Done.n).0 refl) c.natural-size.ensures) c.in-None.ensures.exact
