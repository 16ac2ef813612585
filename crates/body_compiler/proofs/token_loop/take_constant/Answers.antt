use Rattle.std.proofs.Common.{◌≡◌, ◌∙◌, length, sym, subst, rules}
use Rattle.wasm_defs.specs.declared.token.Token.{Token}
use Rattle.wasm_defs.specs.Fields.{Read, Got}
use Rattle.leb_feed.specs.Reads.{Stops}
use Rattle.wasm_defs.specs.declared.token.Plain.TheVariants.{Const}
use Rattle.wasm_defs.specs.declared.token.Token.TheVariants.{Plain}
use Rattle.wasm_defs.specs.Bodies.{instruction}
use Rattle.wasm_laws.specs.Immediates.{TokenIsInRange}
use Rattle.body_compiler.proofs.CountingOn.{instruction_stops}
use Rattle.body_compiler.proofs.Going.{instruction_shrinks, on_any}
use Rattle.body_compiler.proofs.Spelled.{bytes_later, token_in_range}
use Rattle.body_compiler.proofs.token_loop.take_constant.Goals as goal

pub returns-in-Ok-clause-shrinks : goal.returns-in-Ok-clause-shrinks
returns-in-Ok-clause-shrinks g c =
    on_any _ _ (instruction_shrinks c.requires.reads.0 c.args.at c.requires.reads.1 c.args.fields.now c.value.new.fields _ (c.requires.reads.2 ∙ c.in-Ok.ensures))

pub returns-in-Ok-clause-bytes : goal.returns-in-Ok-clause-bytes
returns-in-Ok-clause-bytes g c =
    on_any _ _ (bytes_later c.requires.reads.0 c.args.at c.requires.reads.1 c.args.fields.now c.value.new.fields _ (c.requires.reads.2 ∙ c.in-Ok.ensures) c.requires.bytes)

pub returns-in-Ok-clause-fits : goal.returns-in-Ok-clause-fits
returns-in-Ok-clause-fits g c =
    c.take_common.ensures.fits (length c.args.fields.now.rest) (length c.value.new.fields.rest) c.requires.fits (instruction_shrinks c.requires.reads.0 c.args.at c.requires.reads.1 c.args.fields.now c.value.new.fields _ (c.requires.reads.2 ∙ c.in-Ok.ensures))

pub take_common-requires-clause-range : goal.take_common-requires-clause-range
take_common-requires-clause-range g c =
    let range : TokenIsInRange (Plain (Const c.args.ty c.in-Ok.n)) = token_in_range c.requires.reads.0 c.args.at c.requires.reads.1 c.args.fields.now c.value.new.fields _ c.requires.bytes (c.requires.reads.2 ∙ c.in-Ok.ensures) in
    search (rules, range)

pub returns-in-Ok-clause-goes : goal.returns-in-Ok-clause-goes
returns-in-Ok-clause-goes g c =
    λ counted c' b code before front k h same.
    let is : instruction counted c.args.at b c.args.fields.now ≡ Got (Plain (Const c.args.ty c.in-Ok.n)) c.value.new.fields = same ∙ c.in-Ok.ensures in
    c.take_common.ensures.goes counted c' c.args.last b code before c.args.fields.now c.value.new.fields front k h (search (rules, is))

pub returns-in-Err-clause-goes : goal.returns-in-Err-clause-goes
returns-in-Err-clause-goes g c =
    λ counted c' b code before front k h same. (
      tt,
      rw c.stop_of.ensures (instruction_stops counted c' c.args.last c.args.at b before c.args.fields.now c.args.check.now code c.in-Err.stop
          (g.T.TokenSink.going counted c' c.args.last before c.args.check.now code front c.args.sink.now k) h c.requires.more (subst (λ (r : Read Token). Stops c.in-Err.stop r) (sym same) (c.in-Err.ensures))),
    )
