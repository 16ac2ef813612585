use Rattle.std.proofs.Common.{◌≡◌, ◌≤◌, ℕ, List, [], ◌++◌, length, drop, None, Err, refl, sym, ap, subst, ◌∙◌, arith, length-drop}
use Rattle.wasm_defs.specs.Outside.{Run, Refused, ends, sections, no_end}
use Rattle.section_reader.specs.declared.front.Front.{Front}
use Rattle.section_reader.specs.FrontOnward.{remaining_parts}
use Rattle.section_reader.specs.Onward.{after_parts}
use Rattle.body_cutter.specs.Places.{Place}
use Rattle.wasm_defs.specs.declared.front_stop.FrontStop.{FrontStop}
use Rattle.body_cutter.specs.Cuttings.{Handed, left, Feeds}
use Rattle.module_stream.specs.Limits.{max_read}
use Rattle.module_stream.specs.CutBodies.{coded_all, counts_data, cut_run, sections_behind}
use Rattle.module_stream.specs.Progress.{IsJudging}
use Rattle.module_stream.specs.Streaming.{AreOpen, IsGoing, with_cutter}
use Rattle.module_stream.proofs.Cutting.{rest_run, few_taken, all_taken}
use Rattle.module_stream.proofs.OpenBatches.{left_open}
use Rattle.module_stream.proofs.NoErrors.{place_is_none, cut_is_none, behind_is_none}
use Rattle.module_stream.proofs.Streaming.{IsCutting, cutting_of, begun_of, going_reading, going_cutting, fed_judging, refused_judging, refused_at, cutting_on, waiting_on, reading_behind, less_whole, less_cut, shorter, fault_advances}
use Rattle.module_stream.proofs.compilation.Compilation.cut.Goals as goal
use Rattle.module_stream.proofs.compilation.Compilation.cut.Goals.{In-Ok, In-Err-Refused, In-Ok-judge, After-skip_to}

-- ---- what more than one return needs

-- the closed batches come next, and then what the rest comes to
fed_next : (c : In-Ok) (bytes more : List ℕ) → IsGoing bytes (with_cutter c.args.self.now c.args.cutter) (c.args.piece.now ++ more)
    → (length bytes ≤ max_read)
    × IsJudging bytes (after_parts (coded_all (counts_data c.args.self.now.front.steps.seen) c.feed.new.self.queue.closed)
    (rest_run c.args.self.now.front.steps.seen c.feed.new.self (drop c.in-Ok.taken c.args.piece.now ++ more))) c.args.self.now.spaces c.args.self.now.codes
fed_next c bytes more g =
    let s = c.args.self.now in
    let k = cutting_of bytes (with_cutter s c.args.cutter) (c.args.piece.now ++ more) c.args.cutter refl g in
    (k.few, fed_judging bytes s.front c.args.cutter c.feed.new.self s.spaces s.codes c.args.piece.now more k c.in-Ok.taken c.in-Ok.ensures)

-- or then their section's error
refused_next : (c : In-Err-Refused) (bytes more : List ℕ) → IsGoing bytes (with_cutter c.args.self.now c.args.cutter) (c.args.piece.now ++ more)
    → (length bytes ≤ max_read)
    × IsJudging bytes (after_parts (coded_all (counts_data c.args.self.now.front.steps.seen) c.feed.new.self.queue.closed) (ends (Refused c.in-Err-Refused.refusal)))
    c.args.self.now.spaces c.args.self.now.codes
refused_next c bytes more g =
    let s = c.args.self.now in
    let k = cutting_of bytes (with_cutter s c.args.cutter) (c.args.piece.now ++ more) c.args.cutter refl g in
    let refused = subst (λ (x : FrontStop). Feeds c.args.cutter c.args.piece.now (Err x) c.feed.new.self) c.in-Err-Refused.field-0-is c.in-Err-Refused.ensures in
    (k.few, refused_judging bytes s.front c.args.cutter c.feed.new.self s.spaces s.codes c.args.piece.now more k c.in-Err-Refused.refusal refused)

-- the closed batches were taken, and this is left
taken_next : (c : In-Ok-judge) (bytes more : List ℕ) → IsGoing bytes (with_cutter c.args.self.now c.args.cutter) (c.args.piece.now ++ more)
    → IsCutting bytes c.judge.new.self.front c.args.cutter c.args.self.now.spaces c.args.self.now.codes (c.args.piece.now ++ more)
    × IsJudging bytes (rest_run c.judge.new.self.front.steps.seen c.feed.new.self (drop c.in-Ok.taken c.args.piece.now ++ more)) c.judge.new.self.spaces c.judge.new.self.codes
taken_next c bytes more g =
    let s = c.args.self.now in
    let t = c.judge.new.self in
    let mid = c.feed.new.self in
    let piece = c.args.piece.now in
    let e = c.in-Ok-judge.ensures in
    let k = cutting_of bytes (with_cutter s c.args.cutter) (piece ++ more) c.args.cutter refl g in
    let kt = subst (λ (f : Front). IsCutting bytes f c.args.cutter s.spaces s.codes (piece ++ more)) (sym e.rest.front) k in (
      kt,
      e.takes bytes (rest_run t.front.steps.seen mid (drop c.in-Ok.taken piece ++ more)) (counts_data t.front.steps.seen) k.few
          (fed_judging bytes t.front c.args.cutter mid s.spaces s.codes piece more kt c.in-Ok.taken c.in-Ok.ensures),
    )

-- how many parts the cut bodies come to is the same before and after
parts_same : (c : In-Ok-judge) (run : Front → Run) → length (run c.judge.new.self.front).parts ≡ length (run c.args.self.now.front).parts
parts_same c run = ap (λ (f : Front). length (run f).parts) c.in-Ok-judge.ensures.rest.front

-- the reader is behind the section
skipped : (c : After-skip_to) (later : List ℕ)
    → remaining_parts c.skip_to.new.self later ≡ sections c.judge.new.self.front.steps.seen (record { at = c.judge.new.cutter.place.end; rest = later; end = no_end })
skipped c later =
    c.skip_to.ensures.onward later
    ∙ ap (λ (n : ℕ). sections c.judge.new.self.front.steps.seen (record { at = n; rest = later; end = no_end })) c.section_end.ensures

-- ---- the returns

pub judge-requires : goal.judge-requires
judge-requires c =
    let s = c.args.self.now in
    let bytes = c.requires.0 in
    let more = c.requires.1 in
    let next = fed_next (goal.at.judge-requires c).In-Ok bytes more c.requires.2 in
    (bytes, rest_run s.front.steps.seen c.feed.new.self (drop c.in-Ok.taken c.args.piece.now ++ more), next.0, counts_data s.front.steps.seen, next.1)

pub returns-then-is_whole-clause-goes : goal.returns-then-is_whole-clause-goes
returns-then-is_whole-clause-goes c = λ bytes more g.
    let t = c.judge.new.self in
    let new = c.judge.new.cutter in
    let piece = c.args.piece.now in
    let taken = c.in-Ok.taken in
    let e = c.in-Ok-judge.ensures in
    let next = taken_next (goal.at.returns-then-is_whole-clause-goes c).In-Ok-judge bytes more g in
    going_reading bytes _ (drop taken piece ++ more) refl
    (reading_behind bytes t.front c.args.cutter c.feed.new.self new t.spaces t.codes piece more taken c.in-Ok.ensures e.place e.queue.0 e.queue.1 c.skip_to.new.self
    (sym c.is_whole.ensures.is ∙ c.if-is_whole.true) (c.is_whole.ensures.whole c.if-is_whole.true) (skipped (goal.at.returns-then-is_whole-clause-goes c).After-skip_to)
    next.0.few next.0.count next.1 c.skip_to.ensures.stage (c.skip_to.ensures.total ∙ c.section_end.ensures) c.skip_to.ensures.idle)

pub returns-then-is_whole-clause-less : goal.returns-then-is_whole-clause-less
returns-then-is_whole-clause-less c =
    let t = c.judge.new.self in
    let old = c.args.cutter in
    let mid = c.feed.new.self in
    let piece = c.args.piece.now in
    let taken = c.in-Ok.taken in
    let e = c.in-Ok-judge.ensures in
    let few = few_taken old mid piece taken c.in-Ok.ensures in
    let less = less_whole [] t.front old mid c.judge.new.cutter t.spaces t.codes piece [] taken c.in-Ok.ensures e.place e.queue.0 e.queue.1 c.skip_to.new.self
    (sym c.is_whole.ensures.is ∙ c.if-is_whole.true) (c.is_whole.ensures.whole c.if-is_whole.true) (skipped (goal.at.returns-then-is_whole-clause-less c).After-skip_to) in
    let there = parts_same (goal.at.returns-then-is_whole-clause-less c).In-Ok-judge (λ f. cut_run (counts_data f.steps.seen) (left old piece) (sections_behind f.steps.seen old.place.at old.place.end piece)) in
    (few, λ some. omega (arith, less, there, shorter taken piece few))

pub returns-else-is_whole-clause-goes : goal.returns-else-is_whole-clause-goes
returns-else-is_whole-clause-goes c = λ bytes more g.
    let s = c.args.self.now in
    let t = c.judge.new.self in
    let old = c.args.cutter in
    let mid = c.feed.new.self in
    let new = c.judge.new.cutter in
    let piece = c.args.piece.now in
    let taken = c.in-Ok.taken in
    let e = c.in-Ok-judge.ensures in
    let next = taken_next (goal.at.returns-else-is_whole-clause-goes c).In-Ok-judge bytes more g in
    let begun = subst (λ (h : Handed). AreOpen s.batch h.queue.begun) ((c.in-Ok.ensures).same more) (begun_of bytes (with_cutter s old) (piece ++ more) old refl g) in
    going_cutting bytes _ (drop taken piece ++ more) new refl
    (cutting_on bytes t.front old mid new t.spaces t.codes piece more taken c.in-Ok.ensures e.place e.queue.0 e.queue.1 next.0.skips next.0.few next.0.count next.1)
    (subst (λ (n : ℕ). AreOpen n (left new (drop taken piece ++ more)).queue.begun) (sym e.rest.batch) (left_open s.batch mid new (drop taken piece ++ more) e.place e.queue.2 e.queue.1 begun))

pub returns-else-is_whole-clause-less : goal.returns-else-is_whole-clause-less
returns-else-is_whole-clause-less c =
    let t = c.judge.new.self in
    let old = c.args.cutter in
    let mid = c.feed.new.self in
    let new = c.judge.new.cutter in
    let piece = c.args.piece.now in
    let taken = c.in-Ok.taken in
    let e = c.in-Ok-judge.ensures in
    let few = few_taken old mid piece taken c.in-Ok.ensures in
    let going : new.place.stop ≡ None = ap (λ (p : Place). p.stop) e.place ∙ (c.in-Ok.ensures).going in
    let owed = c.is_whole.ensures.owed c.if-is_whole.false going in
    let all = all_taken old mid piece taken c.in-Ok.ensures (omega (arith, owed, ap (λ (p : Place). p.at) e.place, ap (λ (p : Place). p.end) e.place)) in
    let less = less_cut [] t.front old mid new t.spaces t.codes piece [] taken c.in-Ok.ensures e.place e.queue.0 e.queue.1 in
    let there = parts_same (goal.at.returns-else-is_whole-clause-less c).In-Ok-judge (λ f. cut_run (counts_data f.steps.seen) (left old piece) (sections_behind f.steps.seen old.place.at old.place.end piece)) in
    (few, λ some. omega (arith, less, there, all, some, length-drop taken piece))

pub returns-else-is_whole-clause-waits : goal.returns-else-is_whole-clause-waits
returns-else-is_whole-clause-waits c =
    let t = c.judge.new.self in
    let e = c.in-Ok-judge.ensures in
    waiting_on [] t.front c.args.cutter c.feed.new.self c.judge.new.cutter t.spaces t.codes c.args.piece.now [] c.in-Ok.taken c.in-Ok.ensures e.place e.queue.0 e.queue.1 (sym c.is_whole.ensures.is ∙ c.if-is_whole.false)

pub returns-in-Ok-clause-goes : goal.returns-in-Ok-clause-goes
returns-in-Ok-clause-goes c = λ bytes more g.
    let s = c.args.self.now in
    let piece = c.args.piece.now in
    let run = rest_run s.front.steps.seen c.feed.new.self (drop c.in-Ok.taken piece ++ more) in
    let next = fed_next (goal.at.returns-in-Ok-clause-goes c).In-Ok bytes more g in
    fault_advances bytes piece c.in-Err.stop run c.judge.new.self.spaces c.judge.new.self.codes c.judge.new.self more
    (c.in-Err.ensures.takes bytes run (counts_data s.front.steps.seen) next.0 next.1)

pub judge-requires-in-Err-Refused : goal.judge-requires-in-Err-Refused
judge-requires-in-Err-Refused c =
    let bytes = c.requires.0 in
    let next = refused_next (goal.at.judge-requires-in-Err-Refused c).In-Err-Refused bytes c.requires.1 c.requires.2 in
    (bytes, ends (Refused c.in-Err-Refused.refusal), next.0, counts_data c.args.self.now.front.steps.seen, next.1)

pub returns-in-Ok-judge-2-clause-goes : goal.returns-in-Ok-judge-2-clause-goes
returns-in-Ok-judge-2-clause-goes c = λ bytes more g.
    let t = c.judge-in-Err-Refused.new.self in
    let r = c.in-Err-Refused.refusal in
    let next = refused_next (goal.at.returns-in-Ok-judge-2-clause-goes c).In-Err-Refused bytes more g in
    refused_at bytes t.spaces t.codes (Refused r) r refl
    (c.in-Ok-judge-2.ensures.takes bytes (ends (Refused r)) (counts_data c.args.self.now.front.steps.seen) next.0 next.1)

pub returns-in-Err-Refused-clause-goes : goal.returns-in-Err-Refused-clause-goes
returns-in-Err-Refused-clause-goes c = λ bytes more g.
    let t = c.judge-in-Err-Refused.new.self in
    let run = ends (Refused c.in-Err-Refused.refusal) in
    let next = refused_next (goal.at.returns-in-Err-Refused-clause-goes c).In-Err-Refused bytes more g in
    fault_advances bytes c.args.piece.now c.in-Err-judge.stop run t.spaces t.codes t more
    (c.in-Err-judge.ensures.takes bytes run (counts_data c.args.self.now.front.steps.seen) next.0 next.1)

pub returns-then-is_whole-clause-no_error : goal.returns-then-is_whole-clause-no_error
returns-then-is_whole-clause-no_error c =
    behind_is_none c.skip_to.new.self c.judge.new.self.front.steps.seen c.judge.new.cutter.place.end (skipped (goal.at.returns-then-is_whole-clause-no_error c).After-skip_to [])

pub returns-else-is_whole-clause-no_error : goal.returns-else-is_whole-clause-no_error
returns-else-is_whole-clause-no_error c =
    let new = c.judge.new.cutter in
    cut_is_none c.judge.new.self.front.steps.seen new (place_is_none c.args.cutter c.feed.new.self c.args.piece.now c.in-Ok.taken new.place c.in-Ok.ensures c.in-Ok-judge.ensures.place)
