use Rattle.std.proofs.Common.{◌≡◌, ◌∙◌, [], length, sym, ap, subst}
use Rattle.wasm_defs.specs.Faults.{tokens_of}
use Rattle.wasm_defs.specs.Typing.{Context}
use Rattle.index_spaces.specs.Spaces.{context_in}
use Rattle.body_validator.specs.Checking.{guarded}
use Rattle.body_compiler.specs.Counting.{word_count}
use Rattle.body_compiler.specs.Steps.{TypesLiftFew}
use Rattle.body_compiler.specs.Counting.{going_of}
use Rattle.body_compiler.proofs.CountingOn.{still_open, open_after, still_many, counts_on}
use Rattle.body_compiler.proofs.Going.{refused_token}
use Rattle.body_compiler.proofs.Tying.{names_open}
use Rattle.body_compiler.proofs.Walking.{any}
use Rattle.body_compiler.proofs.measuring.WordCounterTokenSink.take_read.Goals as goal

pub returns-in-Err-Refused-clause-goes : goal.returns-in-Err-Refused-clause-goes
returns-in-Err-Refused-clause-goes c = λ counted c' last b code before mid after front k h is.
    let g = going_of counted c.args.self.now.too_long c' last before c.args.check.now code front (word_count c.args.self.now.takes.items c.args.self.now.words) k in
    let steps = rw c.in-Err-Refused.field-0-is at c.in-Err-Refused.ensures.steps in
    let exact = rw c.in-Err-Refused.field-0-is at (c.in-Err-Refused.ensures.exact (tokens_of g.tokens) g.reached) in
    (tt, refused_token counted c' last c.args.at b before mid after c.args.token.now c.args.check.now code _ g h c.requires.more is (ap (λ r. r.offset) steps.1) exact)

pub returns-then-self-clause-fits : goal.returns-then-self-clause-fits
returns-then-self-clause-fits c = λ left later counts less.
    still_open c.args.self.now.too_long c.args.self.now.takes.items c.args.check.now c.token.new.self counts c.in-Ok.ensures.steps.1 c.if-self.true

pub returns-then-self-clause-goes : goal.returns-then-self-clause-goes
returns-then-self-clause-goes c = λ counted c' last b code before mid after front k h is.
    let old = word_count c.args.self.now.takes.items c.args.self.now.words in
    let g = going_of counted c.args.self.now.too_long c' last before c.args.check.now code front (word_count c.args.self.now.takes.items c.args.self.now.words) k in
    let steps = c.in-Ok.ensures.steps in
    let exact = c.in-Ok.ensures.exact (tokens_of g.tokens) g.reached in
    (still_many counted c' last c.args.at b before mid after c.args.token.now c.args.check.now c.token.new.self code front old h c.requires.more is steps.0 steps.1 c.args.self.now.too_long c.if-self.true k exact.0 old, tt)

pub take-requires-clause-names : goal.take-requires-clause-names
take-requires-clause-names c =
    names_open (length c.args.self.now.takes.items) c.args.check.now c.token.new.self c.args.token.now (c.requires.fits.1.count c.if-self.false) c.requires.fits.1.unlabelled c.in-Ok.ensures.steps.0

pub take-requires-clause-types : goal.take-requires-clause-types
take-requires-clause-types c =
    subst TypesLiftFew (sym (c.types.ensures ∙ c.context.ensures.types ∙ ap (λ (x : Context). x.types) c.in-Ok.ensures.steps.1)) c.requires.fits.1.functions

pub returns-in-Ok-take-clause-fits : goal.returns-in-Ok-take-clause-fits
returns-in-Ok-take-clause-fits c = λ left later counts less.
    let steps = c.in-Ok.ensures.steps in
    let s = c.in-Ok.step in
    let w = any 0 [] (record { params = 0; locals = 0; greatest = 0 }) in
    let x = context_in c.context.result.now in
    open_after w x c.args.token.now (guarded s.live s.height_before) c.args.self.now.too_long c.take.new.self.too_long c.args.self.now.takes.items c.take.new.self.takes.items c.args.self.now.words c.take.new.self.words c.args.check.now c.token.new.self
    c.if-self.false counts steps.1 steps.0 (c.in-Ok-take.ensures w x s.height_before (sym c.types.ensures))

pub returns-in-Ok-take-clause-goes : goal.returns-in-Ok-take-clause-goes
returns-in-Ok-take-clause-goes c = λ counted c' last b code before mid after front k h is.
    let old = word_count c.args.self.now.takes.items c.args.self.now.words in
    let new = word_count c.take.new.self.takes.items c.take.new.self.words in
    let g = going_of counted c.args.self.now.too_long c' last before c.args.check.now code front (word_count c.args.self.now.takes.items c.args.self.now.words) k in
    let steps = c.in-Ok.ensures.steps in
    let s = c.in-Ok.step in
    let exact = c.in-Ok.ensures.exact (tokens_of g.tokens) g.reached in
    let types : c'.types ≡ c.types.result.now = sym (c.types.ensures ∙ c.context.ensures.types ∙ ap (λ (x : Context). x.types) (steps.1 ∙ g.context)) in
    (counts_on counted c' last c.args.at b before mid after c.args.token.now c.args.check.now c.token.new.self code front old h c.requires.more is steps.0 steps.1 (guarded s.live s.height_before) c.args.self.now.too_long c.take.new.self.too_long c.if-self.false k exact.0 (c.in-Ok.ensures.places (tokens_of g.tokens) g.reached) new (λ w. c.in-Ok-take.ensures w c' s.height_before types), tt)
