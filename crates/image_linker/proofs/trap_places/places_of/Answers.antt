use Rattle.std.proofs.Common.{◌+◌, ◌^◌, ◌<◌, ◌++◌, List, length, map, append_assoc, refl, sym, ap, ◌∙◌, subst, arith}
use Rattle.std.specs.List.{All}
use Rattle.rv_isa.specs.declared.compiled.TrapSite.{TrapSite}
use Rattle.frame_layout.specs.Templates.{exit_stub}
use Rattle.image_format.specs.declared.image.TrapPlace.{TrapPlace}
use Rattle.code_list.specs.CodeLists.{code_at}
use Rattle.image_linker.specs.ImageOf.{front_of, place_at}
use Rattle.image_linker.specs.Linking.{import_traps, code_traps, IsShort}
use Rattle.image_linker.proofs.Coded.{is_at, words_at}
use Rattle.image_linker.proofs.TrapLoops.{all_left, all_right, code_short, codes_taken, same_function}
use Rattle.image_linker.proofs.trap_places.places_of.Goals as goal

pub put_stubs-requires-clause-stubs : goal.put_stubs-requires-clause-stubs
put_stubs-requires-clause-stubs c = omega (arith, c.requires.words, ap (λ imports. length imports) c.imports-imports.ensures)

pub put_stubs-requires-clause-places : goal.put_stubs-requires-clause-places
put_stubs-requires-clause-places c =
    subst (λ imports. All IsShort (import_traps (length exit_stub) 0 imports)) (sym c.imports-imports.ensures)
    (all_left (import_traps (length exit_stub) 0 c.args.context.now.imports) (code_traps (front_of (length c.args.context.now.imports)) (length c.args.context.now.imports) c.args.codes.now) c.requires.places)

pub front_of-here-requires : goal.front_of-here-requires
front_of-here-requires c = omega (arith, c.requires.words, ap (λ imports. length imports) c.imports-imports.ensures)

-- the words with one more code are no more than all
pub overflow_add-here : goal.overflow_add-here
overflow_add-here c =
    let at = words_at c.args.codes.now c.loop-index.index c.get-code.result.words (omega (arith, c.loop-index-test.true, c.count-index-end.ensures)) c.get-code.ensures.words in
    omega (arith, c.requires.words, at.next, at.within, c.loop-index.invariant.0)

pub overflow_cast-here : goal.overflow_cast-here
overflow_cast-here c =
    let at = words_at c.args.codes.now c.loop-index.index c.get-code.result.words (omega (arith, c.loop-index-test.true, c.count-index-end.ensures)) c.get-code.ensures.words in
    omega (arith, c.requires.words, at.next, at.within)

pub put_sites-requires : goal.put_sites-requires
put_sites-requires c =
    let imports = c.args.context.now.imports in
    let codes = c.args.codes.now in
    let i = c.loop-index.index in
    let code = code_at codes i in
    let here = c.loop-index.here in
    let less : i < length codes = omega (arith, c.loop-index-test.true, c.count-index-end.ensures) in
    let all = all_right (import_traps (length exit_stub) 0 imports) (code_traps (front_of (length imports)) (length imports) codes) c.requires.places in
    let short = code_short (front_of (length imports)) (length imports) codes i here (length imports + i) code c.loop-index.invariant.0 refl less (is_at codes i less) all in
    let same = same_function here c.loop-index.function (length imports + i) code.traps c.loop-index.invariant.1 short in
    subst (λ (ss : List TrapSite). All IsShort (map (place_at here c.loop-index.function) ss)) (sym c.get-code.ensures.traps)
    (subst (λ (l : List TrapPlace). All IsShort l) (sym same) short)

pub loop-index-preserved : goal.loop-index-preserved
loop-index-preserved c =
    let imports = c.args.context.now.imports in
    let codes = c.args.codes.now in
    let i = c.loop-index.index in
    let code = code_at codes i in
    let here = c.loop-index.here in
    let function = c.loop-index.function in
    let less : i < length codes = omega (arith, c.loop-index-test.true, c.count-index-end.ensures) in
    let is = is_at codes i less in
    let at = words_at codes i c.get-code.result.words less c.get-code.ensures.words in
    let front = import_traps (length exit_stub) 0 imports in
    let all = all_right front (code_traps (front_of (length imports)) (length imports) codes) c.requires.places in
    let short = code_short (front_of (length imports)) (length imports) codes i here (length imports + i) code c.loop-index.invariant.0 refl less is all in
    let same = same_function here function (length imports + i) code.traps c.loop-index.invariant.1 short in (
      omega (arith, at.next, c.loop-index.invariant.0),
      (λ (few : length imports + (i + 1) < 2 ^ 32). let before = c.loop-index.invariant.1 (omega (arith, few)) in omega (arith, before, few, c.saturating_add-function.ensures)),
      c.in_ok-put_sites.ensures
          ∙ ap (λ (ss : List TrapSite). c.loop-index.places.items ++ map (place_at here function) ss) c.get-code.ensures.traps
          ∙ ap (λ (l : List TrapPlace). c.loop-index.places.items ++ l) same
          ∙ ap (λ (l : List TrapPlace). l ++ map (place_at here (length imports + i)) code.traps) c.loop-index.invariant.2
          ∙ append_assoc front _ (map (place_at here (length imports + i)) code.traps)
          ∙ ap (λ (l : List TrapPlace). front ++ l) (sym (codes_taken (front_of (length imports)) (length imports) codes i here (length imports + i) code c.loop-index.invariant.0 refl less is)),
    )
