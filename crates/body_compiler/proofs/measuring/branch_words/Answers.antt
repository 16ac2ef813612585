use Rattle.std.proofs.Common.{◌≡◌, ◌∙◌, ◌+◌, ℕ, List, map, length, reverse, sym, subst, arith}
use Rattle.wasm_defs.specs.declared.token.Plain.{Plain}
use Rattle.frame_layout.specs.Templates.{label_at, jump_table_words, words}
use Rattle.body_compiler.specs.Counting.{labels_of}
use Rattle.body_compiler.proofs.Counting.{jump_counted, jump_if_counted, jump_table_counted, return_counted}
use Rattle.body_compiler.proofs.measuring.branch_words.Goals as goal

pub returns-in-Br : goal.returns-in-Br
returns-in-Br c = λ w c' h.
    let takes = reverse c.args.takes.now in
    let is = jump_counted w takes h 0 c.in-Br.label c.takes_of.result c.takes_of.ensures in
    subst (λ (p : Plain). c.jump_words.result ≡ length (words w c' (labels_of takes) h 0 p)) (sym c.in-Br.is) (c.jump_words.ensures ∙ sym is)

pub returns-in-BrIf : goal.returns-in-BrIf
returns-in-BrIf c = λ w c' h.
    let takes = reverse c.args.takes.now in
    let is = jump_if_counted w takes h 0 c.in-BrIf.label c.takes_of-takes.result c.takes_of-takes.ensures in
    subst (λ (p : Plain). 3 + c.unless_words.result + c.jump_words-in-BrIf.result ≡ length (words w c' (labels_of takes) h 0 p)) (sym c.in-BrIf.is)
    (omega (arith, is, c.unless_words.ensures, c.jump_words-in-BrIf.ensures))

pub returns-in-BrTable : goal.returns-in-BrTable
returns-in-BrTable c = λ w c' h.
    let takes = reverse c.args.takes.now in
    let L = labels_of takes in
    let count = c.front_words.result + c.table_words.result + c.jump_words-in-BrTable.result in
    let is = jump_table_counted w takes h 0 c.as_slice.result.now c.in-BrTable.last c.takes_of-last.result c.takes_of-last.ensures in
    let here : count ≡ length (jump_table_words w h 0 (map (label_at w L) c.as_slice.result.now) (label_at w L c.in-BrTable.last)) = omega (arith, is, c.table_words.ensures.words, c.front_words.ensures, c.jump_words-in-BrTable.ensures) in
    subst (λ (p : Plain). count ≡ length (words w c' L h 0 p)) (sym c.in-BrTable.is)
    (subst (λ (ls : List ℕ). count ≡ length (jump_table_words w h 0 (map (label_at w L) ls) (label_at w L c.in-BrTable.last))) c.as_slice.ensures here)

pub returns-in-Return : goal.returns-in-Return
returns-in-Return c = λ w c' h.
    let takes = c.args.takes.now in
    let is = return_counted w takes h 0 c.requires.some in
    subst (λ (p : Plain). c.jump_words-in-Return.result ≡ length (words w c' (labels_of (reverse takes)) h 0 p)) (sym c.in-Return.is) (c.jump_words-in-Return.ensures ∙ sym is)
