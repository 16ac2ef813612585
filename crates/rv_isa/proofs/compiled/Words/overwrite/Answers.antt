use Rattle.std.proofs.Common.{◌≡◌, ◌∙◌, ◌++◌, ◌+◌, ◌<◌, ℕ, suc, List, [], take, drop, length, sym, subst, ap, arith}
use Rattle.std.proofs.lemmas.List.{map-append, take_all}
use Rattle.std.specs.Prelude.{slice_set, slice_index_or}
use Rattle.rv_isa.specs.Stored.{AreStored, words_in}
use Rattle.rv_isa.proofs.Stored.{overwritten, stored_at, put_at, words_dropped, words_length}
use Rattle.rv_isa.proofs.compiled.Words.overwrite.Goals as goal

pub loop-index-preserved : goal.loop-index-preserved
loop-index-preserved c =
    let all = c.loop-index.self-inside.words.items in
    let front = c.deref-word-items.result.now in
    let old = c.self.inside.words.items in
    let i = c.loop-index.index in
    let word = slice_index_or front i [] in
    let next : suc i ≡ i + 1 = omega arith in
    let within : i < length old = omega (
      arith,
      c.loop-index-test.true,
      c.requires,
      ap (λ (l : List ℕ). length l) c.self.view_is,
      ap (λ (l : List ℕ). length l) c.front.view_is,
      words_length old,
      words_length c.front.inside.words.items,
      ap (λ (l : List (List ℕ)). length l) c.deref-word-items.ensures.value,
    ) in
    record {
      stored = put_at all i word (stored_at front i [] (omega (arith, c.loop-index-test.true)) (subst AreStored (sym c.deref-word-items.ensures.value) c.front.invariant)) c.loop-index.invariant.stored;
      is = ap (λ (l : List (List ℕ)). slice_set l i word) c.loop-index.invariant.is ∙ overwritten front old i [] (omega (arith, c.loop-index-test.true)) within
          ∙ ap (λ (n : ℕ). take n front ++ drop n old) next;
    }

pub returns : goal.returns
returns c =
    let front = c.deref-word-items.result.now in
    let old = c.self.inside.words.items in
    let i = c.loop-index.index in
    let words : words_in front ≡ c.args.front.now = ap words_in c.deref-word-items.ensures.value ∙ c.front.view_is in
    let end : i ≡ length c.args.front.now = omega (arith, c.loop-index-test.false, c.loop-index.auto.index-end, words_length front, ap (λ (l : List ℕ). length l) words) in
    ap words_in c.loop-index.invariant.is ∙ map-append _ (take i front) (drop i old)
    ∙ ap (λ (l : List (List ℕ)). words_in l ++ words_in (drop i old)) (take_all i front (omega (arith, c.loop-index-test.false)))
    ∙ ap (λ (l : List ℕ). l ++ words_in (drop i old)) words
    ∙ ap (λ (l : List ℕ). c.args.front.now ++ l) (words_dropped i old ∙ ap (drop i) c.self.view_is ∙ ap (λ (n : ℕ). drop n c.args.self.now) end)
