use Rattle.std.proofs.Common.{◌≡◌, ◌∙◌, ◌+◌, ℕ, List, [], ◌∷◌, length, sym, ap}
use Rattle.wasm_defs.specs.declared.types.ValType.{ValType}
use Rattle.body_validator.specs.Checking.{Checker}
use Rattle.frame_layout.specs.declared.layout.Layout.{Layout}
use Rattle.frame_layout.specs.Templates.{prologue, epilogue}
use Rattle.body_compiler.specs.Counting.{word_count, begun_count}
use Rattle.body_compiler.proofs.CountingOn.{started}
use Rattle.body_compiler.proofs.Whole.{counted_size, uncounted_size}
use Rattle.body_compiler.proofs.measuring.measure_code.Goals as goal

-- before the first token
begins : (takes : List ℕ) (words results front own : ℕ) → takes ≡ results ∷ [] → words ≡ front → results ≡ own → word_count takes words ≡ begun_count front own
begins takes words results front own are same is =
    ap (λ (l : List ℕ). word_count l words) are ∙ ap (λ (n : ℕ). word_count (results ∷ []) n) same ∙ ap (λ (n : ℕ). word_count (n ∷ []) front) is

pub count_code-requires-clause-counts : goal.count_code-requires-clause-counts
count_code-requires-clause-counts c = record {
  count = λ short. ap (λ (l : List ℕ). length l) c.in-Ok.ensures.0 ∙ sym (ap (λ (x : Checker). length x.frames) c.requires.begun);
  unlabelled = c.requires.unlabelled;
  functions = c.requires.functions;
}

pub returns-in-Ok-count_code : goal.returns-in-Ok-count_code
returns-in-Ok-count_code c = λ c' code g none same rows first.
    let results = ap (λ (l : List ValType). length l) c.as_slice.ensures in
    let front = c.frame_words.result in
    let slots : Layout = record { params = length c.args.body.function.now.params; locals = c.args.body.locals; greatest = 0 } in
    let n = word_count c.in-Ok.counter.takes.items c.in-Ok.counter.words in
    let is = begins c.in-Ok.counter.takes.items c.in-Ok.counter.words (length c.as_slice.result.now) front (length c'.results) c.in-Ok.ensures.0 c.in-Ok.ensures.1 (results ∙ sym same) in
    let k = started c.args.body.counted c' c.args.body.last c.args.body.fields c.args.scratch.now.check code front n g none is in
    let frame : (l : Layout) → l.locals ≡ slots.locals → front ≡ length (prologue l) + length (epilogue l (length c.args.body.function.now.results)) = λ l e.
    c.frame_words.ensures l e ∙ ap (λ (m : ℕ). length (prologue l) + length (epilogue l m)) results in
    rw (sym c.from.ensures) at (counted_size rows first c' code slots (length c.args.body.function.now.results) front frame c.count_code.new.counter.words (c.in-Ok-count_code.ensures c' code front k))

pub returns-in-Err : goal.returns-in-Err
returns-in-Err c = λ c' code g none same rows first.
    let results = ap (λ (l : List ValType). length l) c.as_slice.ensures in
    let front = c.frame_words.result in
    let slots : Layout = record { params = length c.args.body.function.now.params; locals = c.args.body.locals; greatest = 0 } in
    let n = word_count c.in-Ok.counter.takes.items c.in-Ok.counter.words in
    let is = begins c.in-Ok.counter.takes.items c.in-Ok.counter.words (length c.as_slice.result.now) front (length c'.results) c.in-Ok.ensures.0 c.in-Ok.ensures.1 (results ∙ sym same) in
    let k = started c.args.body.counted c' c.args.body.last c.args.body.fields c.args.scratch.now.check code front n g none is in
    let frame : (l : Layout) → l.locals ≡ slots.locals → front ≡ length (prologue l) + length (epilogue l (length c.args.body.function.now.results)) = λ l e.
    c.frame_words.ensures l e ∙ ap (λ (m : ℕ). length (prologue l) + length (epilogue l m)) results in
    uncounted_size rows first c' code slots (length c.args.body.function.now.results) front frame c.count_code.new.counter.words c.in-Err.stop (c.in-Err.ensures c' code front k)
