use Rattle.std.proofs.Common.{◌∙◌, ◌<◌, ◌+◌, ℕ, length, drop, sym, subst, arith}
use Rattle.code_list.specs.CodeLists.{AreEnds}
use Rattle.image_linker.proofs.LedTexts.{end_at, Opened, opened, led_length, led_more, led_next, led_all}
use Rattle.image_linker.proofs.linking.lead_codes.Goals as goal
use Rattle.image_linker.proofs.linking.lead_codes.Goals.{In-loop-end}

-- the next end is in order, within the lists, and so are those after it
next : (c : In-loop-end) → Opened (length c.loop-end.text) (length c.args.calls.now) c.loop-end.invariant.ends.0 c.loop-end.begin (end_at c.args.ends.now c.loop-end.end-index)
    (drop (c.loop-end.end-index + 1) c.args.ends.now)
next c =
    let l = c.loop-end in
    opened (length l.text) (length c.args.calls.now) l.invariant.ends.0 l.begin c.args.ends.now l.end-index (omega (arith, c.loop-end-test.true)) l.invariant.ends.1

pub lead_between-requires-clause-words : goal.lead_between-requires-clause-words
lead_between-requires-clause-words c = (next (goal.at.lead_between-requires-clause-words c).In-loop-end).rises.words

pub lead_between-requires-clause-text : goal.lead_between-requires-clause-text
lead_between-requires-clause-text c = (next (goal.at.lead_between-requires-clause-text c).In-loop-end).within.words

pub lead_between-requires-clause-rise : goal.lead_between-requires-clause-rise
lead_between-requires-clause-rise c = (next (goal.at.lead_between-requires-clause-rise c).In-loop-end).rises.calls

pub lead_between-requires-clause-calls : goal.lead_between-requires-clause-calls
lead_between-requires-clause-calls c = (next (goal.at.lead_between-requires-clause-calls c).In-loop-end).within.calls

pub lead_between-requires-clause-few : goal.lead_between-requires-clause-few
lead_between-requires-clause-few c =
    let l = c.loop-end in
    let o = next (goal.at.lead_between-requires-clause-few c).In-loop-end in
    omega (arith, o.rises.words, o.within.words, l.invariant.here, l.invariant.length, c.requires.few)

pub overflow_sub-here : goal.overflow_sub-here
overflow_sub-here c = omega (arith, (next (goal.at.overflow_sub-here c).In-loop-end).rises.words)

pub overflow_add-here : goal.overflow_add-here
overflow_add-here c =
    let l = c.loop-end in
    let o = next (goal.at.overflow_add-here c).In-loop-end in
    omega (arith, o.rises.words, o.within.words, l.invariant.here, l.invariant.length, c.requires.few)

pub loop-end-preserved : goal.loop-end-preserved
loop-end-preserved c =
    let l = c.loop-end in
    let sites = l.invariant.ends.0 in
    let starts = c.args.starts.now in
    let calls = c.args.calls.now in
    let ends = c.args.ends.now in
    let i = l.end-index in
    let end = end_at ends i in
    let text = c.lead_between.new.text in
    let lt : i < length ends = omega (arith, c.loop-end-test.true) in
    let o = next (goal.at.loop-end-preserved c).In-loop-end in
    let same = led_length starts calls l.text text l.here l.begin end o.rises.words o.within.words c.lead_between.ensures in
    record {
      words = λ traps.
          led_more starts calls l.text text l.here l.begin end o.rises.words o.within.words c.lead_between.ensures traps (length l.text) (length calls) sites (drop (i + 1) ends) o.ends
          ∙ led_next starts calls traps l.text l.here l.begin ends i lt
          ∙ l.invariant.words traps;
      ends = (sites, subst (λ (n : ℕ). AreEnds n (length calls) sites end (drop (i + 1) ends)) (sym same) o.ends);
      here = omega (arith, l.invariant.here, o.rises.words);
      length = same ∙ l.invariant.length;
    }

pub returns-clause-words : goal.returns-clause-words
returns-clause-words c = λ sites.
    let l = c.loop-end in
    let h = l.invariant.ends in
    led_all c.args.starts.now c.args.calls.now sites l.text l.here (length c.args.calls.now) h.0 l.begin c.args.ends.now l.end-index (omega (arith, c.loop-end-test.false)) h.1 ∙ l.invariant.words sites
