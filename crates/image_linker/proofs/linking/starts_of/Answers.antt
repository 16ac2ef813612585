use Rattle.std.proofs.Common.{◌++◌, ◌∷◌, ◌<◌, [], ap, ◌∙◌, sym, ℕ, List, take, arith, length, append_assoc}
use Rattle.frame_layout.specs.Templates.{exit_stub}
use Rattle.image_linker.specs.ImageOf.{front_of, stub_places}
use Rattle.image_linker.specs.Linking.{starts_from}
use Rattle.image_linker.proofs.Coded.{words_at}
use Rattle.image_linker.proofs.Loops.{starts_taken}
use Rattle.image_linker.proofs.linking.starts_of.Goals as goal

-- the words with one more code are no more than all
pub overflow_add-here : goal.overflow_add-here
overflow_add-here c =
    let at = words_at c.args.codes.now c.loop-index.index c.get.result.words (omega (arith, c.loop-index-test.true, c.count-index-end.ensures)) c.get.ensures.words in
    omega (arith, c.requires, at.next, at.within, c.loop-index.invariant.1)

pub overflow_cast-here : goal.overflow_cast-here
overflow_cast-here c =
    let at = words_at c.args.codes.now c.loop-index.index c.get.result.words (omega (arith, c.loop-index-test.true, c.count-index-end.ensures)) c.get.ensures.words in
    omega (arith, c.requires, at.next, at.within)

pub loop-index-preserved : goal.loop-index-preserved
loop-index-preserved c =
    let imported = c.args.imported in
    let codes = c.args.codes.now in
    let i = c.loop-index.index in
    let within : i < length codes = omega (arith, c.loop-index-test.true, c.count-index-end.ensures) in
    let at = words_at codes i c.get.result.words within c.get.ensures.words in (
      c.in_ok-push.ensures.items
          ∙ ap (λ (l : List ℕ). l ++ c.loop-index.here ∷ []) c.loop-index.invariant.0
          ∙ append_assoc (stub_places (length exit_stub) imported) (starts_from (front_of imported) (take i codes)) (c.loop-index.here ∷ [])
          ∙ ap (λ (n : ℕ). stub_places (length exit_stub) imported ++ (starts_from (front_of imported) (take i codes) ++ n ∷ [])) c.loop-index.invariant.1
          ∙ ap (λ (l : List ℕ). stub_places (length exit_stub) imported ++ l) (sym (starts_taken (front_of imported) codes i within)),
      omega (arith, at.next, c.loop-index.invariant.1),
    )
