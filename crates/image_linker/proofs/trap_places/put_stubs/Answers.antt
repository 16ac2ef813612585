use Rattle.std.proofs.Common.{◌≡◌, ◌+◌, ◌*◌, ◌++◌, ◌∷◌, [], ℕ, List, length, refl, append_assoc, sym, ap, ◌∙◌, arith}
use Rattle.std.proofs.lemmas.List.{append-nil}
use Rattle.frame_layout.specs.Templates.{exit_stub}
use Rattle.frame_layout.specs.Traps.{room_trap, site_at}
use Rattle.image_format.specs.declared.image.TrapPlace.{TrapPlace}
use Rattle.image_linker.specs.ImageOf.{stub_size, place_at}
use Rattle.image_linker.proofs.TrapLoops.{import_at, imports_taken}
use Rattle.image_linker.proofs.trap_places.put_stubs.Goals as goal

pub loop-import-init : goal.loop-import-init
loop-import-init c = (sym (append-nil c.args.places.now.items), refl)

pub front_of-requires : goal.front_of-requires
front_of-requires c = omega (arith, c.requires.stubs, c.loop-import-test.true, c.loop-import.invariant.1)

pub place_at-requires-clause-place : goal.place_at-requires-clause-place
place_at-requires-clause-place c =
    let i = c.loop-import.import-index in
    let short = import_at (length exit_stub) 0 c.args.imports.now i (length exit_stub + stub_size * i) i c.import-item.result refl (omega arith) (omega (arith, c.loop-import-test.true)) c.import-item.is c.requires.places in
    omega (arith, short.offset, c.front_of.ensures, c.loop-import.invariant.1)

pub place_at-requires-clause-offset : goal.place_at-requires-clause-offset
place_at-requires-clause-offset c =
    let i = c.loop-import.import-index in
    (import_at (length exit_stub) 0 c.args.imports.now i (length exit_stub + stub_size * i) i c.import-item.result refl (omega arith) (omega (arith, c.loop-import-test.true)) c.import-item.is c.requires.places).module_offset

pub overflow_add-number : goal.overflow_add-number
overflow_add-number c = omega (arith, c.requires.stubs, c.loop-import-test.true, c.loop-import.invariant.1)

pub loop-import-preserved : goal.loop-import-preserved
loop-import-preserved c =
    let i = c.loop-import.import-index in
    let x = c.import-item.result in
    let site = site_at 0 x.offset room_trap in
    let at = length exit_stub + stub_size * i in
    let here : c.front_of.result ≡ at = omega (arith, c.front_of.ensures, c.loop-import.invariant.1) in
    let place : c.place_at.result ≡ place_at at i site =
    c.place_at.ensures ∙ ap (λ (n : ℕ). place_at n c.loop-import.number site) here ∙ ap (λ (n : ℕ). place_at at n site) c.loop-import.invariant.1 in (
      c.in_ok-push.ensures.items
          ∙ ap (λ (p : TrapPlace). c.loop-import.places.items ++ p ∷ []) place
          ∙ ap (λ (l : List TrapPlace). l ++ place_at at i site ∷ []) c.loop-import.invariant.0
          ∙ append_assoc c.args.places.now.items _ (place_at at i site ∷ [])
          ∙ ap (λ (l : List TrapPlace). c.args.places.now.items ++ l) (sym (imports_taken (length exit_stub) 0 c.args.imports.now i at i x refl (omega arith) (omega (arith, c.loop-import-test.true)) c.import-item.is)),
      omega (arith, c.loop-import.invariant.1),
    )
