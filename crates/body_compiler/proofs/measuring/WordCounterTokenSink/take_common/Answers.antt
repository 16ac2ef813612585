use Rattle.body_validator.specs.Checks.{Checked}
use Rattle.std.proofs.Common.{refl, sym, subst, [], length, ap}
use Rattle.wasm_defs.specs.declared.token.Token.TheVariants.{Plain}
use Rattle.wasm_defs.specs.Faults.{tokens_of}
use Rattle.body_validator.specs.Checking.{guarded}
use Rattle.body_compiler.specs.Counting.{AreCounted, IsCountingOn, word_count}
use Rattle.body_compiler.specs.Counting.{going_of}
use Rattle.body_compiler.proofs.CountingOn.{still_open, open_after, still_many, counts_on}
use Rattle.body_compiler.proofs.Going.{refused_token}
use Rattle.body_compiler.proofs.Tying.{names_open}
use Rattle.body_compiler.proofs.Walking.{any}
use Rattle.body_compiler.proofs.measuring.WordCounterTokenSink.take_common.Goals as goal

pub returns-in-Some-Err-Refused-clause-goes : goal.returns-in-Some-Err-Refused-clause-goes
returns-in-Some-Err-Refused-clause-goes c = λ counted c' last b code before mid after front k h is.
    let g = going_of counted c.args.self.now.too_long c' last before c.args.check.now code front (word_count c.args.self.now.takes.items c.args.self.now.words) k in
    let steps = rw c.in-Some-Err-Refused.field-0-0-is at (rw c.in-Some-Err-Refused.field-0-is at c.in-Some-Err-Refused.ensures.steps) in
    let exact = rw c.in-Some-Err-Refused.field-0-0-is at (rw c.in-Some-Err-Refused.field-0-is at (c.in-Some-Err-Refused.ensures.exact (tokens_of g.tokens) g.reached)) in
    (tt, refused_token counted c' last c.args.at b before mid after (Plain c.args.plain) c.args.check.now code _ g h c.requires.more is (ap (λ r. r.offset) steps.1) exact)

pub returns-then-self-clause-fits : goal.returns-then-self-clause-fits
returns-then-self-clause-fits c = λ left later counts less.
    still_open c.args.self.now.too_long c.args.self.now.takes.items c.args.check.now c.common.new.self counts (rw c.in-Some-Ok.field-0-is at c.in-Some-Ok.ensures.steps).1 c.if-self.true

pub returns-then-self-clause-goes : goal.returns-then-self-clause-goes
returns-then-self-clause-goes c = λ counted c' last b code before mid after front k h is.
    let old = word_count c.args.self.now.takes.items c.args.self.now.words in
    let g = going_of counted c.args.self.now.too_long c' last before c.args.check.now code front old k in
    let steps = (rw c.in-Some-Ok.field-0-is at c.in-Some-Ok.ensures.steps) in
    let exact = rw c.in-Some-Ok.field-0-is at (c.in-Some-Ok.ensures.exact (tokens_of g.tokens) g.reached) in
    (still_many counted c' last c.args.at b before mid after (Plain c.args.plain) c.args.check.now c.common.new.self code front old h c.requires.more is steps.0 steps.1 c.args.self.now.too_long c.if-self.true k exact.0 old, tt)

pub take_plain-requires-clause-names : goal.take_plain-requires-clause-names
take_plain-requires-clause-names c =
    names_open (length c.args.self.now.takes.items) c.args.check.now c.common.new.self (Plain c.args.plain) (c.requires.fits.1.count c.if-self.false) c.requires.fits.1.unlabelled (rw c.in-Some-Ok.field-0-is at c.in-Some-Ok.ensures.steps).0

pub returns-in-Some-Ok-clause-fits : goal.returns-in-Some-Ok-clause-fits
returns-in-Some-Ok-clause-fits c = λ left later counts less.
    let steps = (rw c.in-Some-Ok.field-0-is at c.in-Some-Ok.ensures.steps) in
    let s = c.in-Some-Ok.step in
    let w = any 0 [] (record { params = 0; locals = 0; greatest = 0 }) in
    let x = c.args.check.now.context in
    open_after w x (Plain c.args.plain) (guarded s.live s.height_before) c.args.self.now.too_long c.take_plain.new.self.too_long c.args.self.now.takes.items c.take_plain.new.self.takes.items c.args.self.now.words c.take_plain.new.self.words c.args.check.now c.common.new.self
    c.if-self.false counts steps.1 steps.0 (c.take_plain.ensures w x s.height_before)

pub returns-in-Some-Ok-clause-goes : goal.returns-in-Some-Ok-clause-goes
returns-in-Some-Ok-clause-goes c = λ counted c' last b code before mid after front k h is.
    let old = word_count c.args.self.now.takes.items c.args.self.now.words in
    let new = word_count c.take_plain.new.self.takes.items c.take_plain.new.self.words in
    let g = going_of counted c.args.self.now.too_long c' last before c.args.check.now code front old k in
    let steps = (rw c.in-Some-Ok.field-0-is at c.in-Some-Ok.ensures.steps) in
    let s = c.in-Some-Ok.step in
    let exact = rw c.in-Some-Ok.field-0-is at (c.in-Some-Ok.ensures.exact (tokens_of g.tokens) g.reached) in
    (counts_on counted c' last c.args.at b before mid after (Plain c.args.plain) c.args.check.now c.common.new.self code front old h c.requires.more is steps.0 steps.1 (guarded s.live s.height_before) c.args.self.now.too_long c.take_plain.new.self.too_long c.if-self.false k exact.0 (rw c.in-Some-Ok.field-0-is at (c.in-Some-Ok.ensures.places (tokens_of g.tokens) g.reached)) new (λ w. c.take_plain.ensures w c' s.height_before), tt)

pub returns-clause-fits : goal.returns-clause-fits
returns-clause-fits c = λ left later counts less. c.take_plain_read.ensures.fits left later (subst (λ (x : Checked). AreCounted c.args.self.now.too_long c.args.self.now.takes.items x) (sym (c.in-None.ensures.left refl)) counts) less

pub returns-clause-goes : goal.returns-clause-goes
returns-clause-goes c = λ counted c' last b code before mid after front k h is.
    let old = word_count c.args.self.now.takes.items c.args.self.now.words in
    c.take_plain_read.ensures.goes counted c' last b code before mid after front (subst (λ (x : Checked). IsCountingOn counted c.args.self.now.too_long c' last before x code front old) (sym (c.in-None.ensures.left refl)) k) h is
