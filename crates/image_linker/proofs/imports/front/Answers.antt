use Rattle.std.proofs.Common.{◌≡◌, ◌++◌, ap, ◌∙◌, arith, map, length, ℕ}
use Rattle.std.specs.Prelude.{slice_get, slice_index_or}
use Rattle.rv_isa.specs.Words.{word_of}
use Rattle.wasm_defs.specs.Context.{type_or_empty}
use Rattle.frame_layout.specs.Templates.{import_stub, exit_stub}
use Rattle.image_linker.proofs.Fronts.{stubs_taken, import_params}
use Rattle.image_linker.proofs.imports.front.Goals as goal

pub params_of-requires : goal.params_of-requires
params_of-requires c =
    let x = c.import-item.result in
    let i = c.loop-import.import-index in
    let all = ap (λ imports. length imports) c.imports-import-items.ensures in
    let few = import_params c.args.context.now.types c.args.context.now.imports i x (omega (arith, c.loop-import-test.true, all)) (c.import-item.is ∙ ap (λ imports. slice_index_or imports i x) c.imports-import-items.ensures) c.requires.1 in
    omega (arith, few)

pub loop-import-preserved : goal.loop-import-preserved
loop-import-preserved c =
    let x = c.import-item.result in
    let i = c.loop-import.import-index in
    let old = c.loop-import.text in
    let types = c.args.context.now.types in
    let number : c.loop-import.number ≡ i = c.loop-import.invariant.1 in
    let stub =
    c.in_ok-emit_import_stub.ensures.ok
    ∙ ap (λ (n : ℕ). old ++ map word_of (import_stub n c.loop-import.number)) c.params_of.ensures
    ∙ ap (λ (n : ℕ). old ++ map word_of (import_stub (length (type_or_empty (slice_get types x.type_index)).params) n)) number in (
      stubs_taken types c.args.context.now.imports i x (map word_of exit_stub) old _ (omega (arith, c.loop-import-test.true, ap (λ imports. length imports) c.imports-import-items.ensures))
          (c.import-item.is ∙ ap (λ imports. slice_index_or imports i x) c.imports-import-items.ensures) c.loop-import.invariant.0 stub,
      omega (arith, number),
    )
