use Rattle.std.proofs.Common.{◌≡◌, ◌∙◌, length, sym, subst}
use Rattle.wasm_defs.specs.declared.token.Token.{Token}
use Rattle.wasm_defs.specs.Fields.{Read, Got}
use Rattle.leb_feed.specs.Reads.{Stops}
use Rattle.wasm_defs.specs.declared.operation.Access.{Access}
use Rattle.wasm_defs.specs.declared.token.Token.TheVariants.{Plain}
use Rattle.wasm_defs.specs.Bodies.{with_mem_arg, accessed}
use Rattle.body_compiler.proofs.CountingOn.{instruction_stops}
use Rattle.body_compiler.proofs.Going.{instruction_shrinks, on_any}
use Rattle.body_compiler.proofs.Spelled.{bytes_later}
use Rattle.body_compiler.proofs.token_loop.take_access.Goals as goal

pub returns-in-Load-clause-shrinks : goal.returns-in-Load-clause-shrinks
returns-in-Load-clause-shrinks g c =
    on_any _ _ (instruction_shrinks c.requires.reads.0 c.args.at c.requires.reads.1 c.args.fields.now c.accessed_place.new.fields _ (c.requires.reads.2 ∙ c.in-Ok.ensures c.args.access))

pub returns-in-Load-clause-bytes : goal.returns-in-Load-clause-bytes
returns-in-Load-clause-bytes g c =
    on_any _ _ (bytes_later c.requires.reads.0 c.args.at c.requires.reads.1 c.args.fields.now c.accessed_place.new.fields _ (c.requires.reads.2 ∙ c.in-Ok.ensures c.args.access) c.requires.bytes)

pub returns-in-Load-clause-fits : goal.returns-in-Load-clause-fits
returns-in-Load-clause-fits g c =
    c.take_common.ensures.fits (length c.args.fields.now.rest) (length c.accessed_place.new.fields.rest) c.requires.fits (instruction_shrinks c.requires.reads.0 c.args.at c.requires.reads.1 c.args.fields.now c.accessed_place.new.fields _ (c.requires.reads.2 ∙ c.in-Ok.ensures c.args.access))

pub returns-in-Load-clause-goes : goal.returns-in-Load-clause-goes
returns-in-Load-clause-goes g c =
    λ counted c' b code before front k h same. c.take_common.ensures.goes counted c' c.args.last b code before c.args.fields.now c.accessed_place.new.fields front k h
    (same ∙ subst (λ (a : Access). with_mem_arg c.args.access c.args.fields.now ≡ Got (Plain (accessed a c.in-Ok.place)) c.accessed_place.new.fields) c.in-Load.is (c.in-Ok.ensures c.args.access))

pub returns-in-Store-clause-shrinks : goal.returns-in-Store-clause-shrinks
returns-in-Store-clause-shrinks g c =
    on_any _ _ (instruction_shrinks c.requires.reads.0 c.args.at c.requires.reads.1 c.args.fields.now c.accessed_place.new.fields _ (c.requires.reads.2 ∙ c.in-Ok.ensures c.args.access))

pub returns-in-Store-clause-bytes : goal.returns-in-Store-clause-bytes
returns-in-Store-clause-bytes g c =
    on_any _ _ (bytes_later c.requires.reads.0 c.args.at c.requires.reads.1 c.args.fields.now c.accessed_place.new.fields _ (c.requires.reads.2 ∙ c.in-Ok.ensures c.args.access) c.requires.bytes)

pub returns-in-Store-clause-fits : goal.returns-in-Store-clause-fits
returns-in-Store-clause-fits g c =
    c.take_common-in-Store.ensures.fits (length c.args.fields.now.rest) (length c.accessed_place.new.fields.rest) c.requires.fits (instruction_shrinks c.requires.reads.0 c.args.at c.requires.reads.1 c.args.fields.now c.accessed_place.new.fields _ (c.requires.reads.2 ∙ c.in-Ok.ensures c.args.access))

pub returns-in-Store-clause-goes : goal.returns-in-Store-clause-goes
returns-in-Store-clause-goes g c =
    λ counted c' b code before front k h same. c.take_common-in-Store.ensures.goes counted c' c.args.last b code before c.args.fields.now c.accessed_place.new.fields front k h
    (same ∙ subst (λ (a : Access). with_mem_arg c.args.access c.args.fields.now ≡ Got (Plain (accessed a c.in-Ok.place)) c.accessed_place.new.fields) c.in-Store.is (c.in-Ok.ensures c.args.access))

pub returns-in-Err-clause-goes : goal.returns-in-Err-clause-goes
returns-in-Err-clause-goes g c =
    λ counted c' b code before front k h same. (
      tt,
      rw c.stop_of.ensures (instruction_stops counted c' c.args.last c.args.at b before c.args.fields.now c.args.check.now code c.in-Err.stop
          (g.T.TokenSink.going counted c' c.args.last before c.args.check.now code front c.args.sink.now k) h c.requires.more (subst (λ (r : Read Token). Stops c.in-Err.stop r) (sym same) (c.in-Err.ensures c.args.access))),
    )
