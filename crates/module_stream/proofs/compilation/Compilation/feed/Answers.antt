use Rattle.std.proofs.Common.{◌≡◌, ◌<◌, ◌-◌, ℕ, List, ◌++◌, length, take, drop, arith, sym, ap, subst, ◌∙◌, drop-drop, length-drop}
use Rattle.std.proofs.lemmas.List.{drop_all}
use Rattle.module_stream.specs.Streaming.{IsGoing, work_left}
use Rattle.module_stream.proofs.Stops.{advances_behind, goes_advances, not_up, not_outside, rest_is}
use Rattle.module_stream.proofs.compilation.Compilation.feed.Goals as goal

pub advance-requires : goal.advance-requires
advance-requires c =
    let l = c.loop-taken in
    let piece = c.args.piece.now in
    (c.requires.0, c.requires.1, subst (λ (p : List ℕ). IsGoing c.requires.0 l.self (p ++ c.requires.1)) (sym (rest_is l.taken piece)) (l.invariant.going c.requires.0 c.requires.1 c.requires.2))

pub returns-in-Err-clause-goes : goal.returns-in-Err-clause-goes
returns-in-Err-clause-goes c = λ bytes more g.
    let l = c.loop-taken in
    let piece = c.args.piece.now in
    advances_behind bytes piece (take (length piece - l.taken) (drop l.taken piece)) c.in-Err.stop c.advance.new.self c.advance.new.self more more
    (c.in-Err.ensures.goes bytes more (subst (λ (p : List ℕ). IsGoing bytes l.self (p ++ more)) (sym (rest_is l.taken piece)) (l.invariant.going bytes more g)))

pub returns-then-stops-clause-all : goal.returns-then-stops-clause-all
returns-then-stops-clause-all c =
    let l = c.loop-taken in
    let is = sym c.stops.ensures ∙ c.if-stops.true in
    (λ up. absurd (not_up c.args.up_to_bodies l.self.cutter is up), λ none. absurd (not_outside c.args.up_to_bodies l.self.cutter is none))

pub loop-taken-preserved : goal.loop-taken-preserved
loop-taken-preserved c =
    let l = c.loop-taken in
    let piece = c.args.piece.now in
    let same = rest_is l.taken piece in
    let few = c.in-Ok.ensures.less.0 in
    record {
      few = omega (arith, l.invariant.few, few, ap length same, length-drop l.taken piece);
      going = λ bytes more g.
          subst (λ (p : List ℕ). IsGoing bytes c.advance.new.self (p ++ more)) (ap (drop c.in-Ok.more) same ∙ drop-drop c.in-Ok.more l.taken piece)
          (c.in-Ok.ensures.goes bytes more (subst (λ (p : List ℕ). IsGoing bytes l.self (p ++ more)) (sym same) (l.invariant.going bytes more g)));
      batch = c.in-Ok.ensures.batch ∙ l.invariant.batch;
      kept = c.in-Ok.ensures.kept ∙ l.invariant.kept;
    }

pub loop-taken-smaller : goal.loop-taken-smaller
loop-taken-smaller c =
    let l = c.loop-taken in
    let piece = c.args.piece.now in
    let same = rest_is l.taken piece in
    subst (λ (p : List ℕ). work_left c.advance.new.self p < work_left l.self (drop l.taken piece)) (drop-drop c.in-Ok.more l.taken piece)
    (subst (λ (p : List ℕ). work_left c.advance.new.self (drop c.in-Ok.more p) < work_left l.self p) same
    (c.in-Ok.ensures.less.1 (omega (arith, c.loop-taken-test.true, ap length same, length-drop l.taken piece))))

pub tell-requires : goal.tell-requires
tell-requires c =
    let l = c.loop-taken in
    let none = drop_all l.taken c.args.piece.now (omega (arith, c.loop-taken-test.false)) in
    (c.requires.0, c.requires.1, subst (λ (p : List ℕ). IsGoing c.requires.0 l.self (p ++ c.requires.1)) none (l.invariant.going c.requires.0 c.requires.1 c.requires.2))

pub returns-in-Ok-tell-clause-goes : goal.returns-in-Ok-tell-clause-goes
returns-in-Ok-tell-clause-goes c = λ bytes more g.
    let l = c.loop-taken in
    let none = drop_all l.taken c.args.piece.now (omega (arith, c.loop-taken-test.false)) in
    subst (λ (p : List ℕ). IsGoing bytes c.tell.new.self (p ++ more)) (sym none)
    (c.in-Ok-tell.ensures.goes bytes more (subst (λ (p : List ℕ). IsGoing bytes l.self (p ++ more)) none (l.invariant.going bytes more g)))

pub returns-in-Ok-tell-clause-all : goal.returns-in-Ok-tell-clause-all
returns-in-Ok-tell-clause-all c =
    let all : c.loop-taken.taken ≡ length c.args.piece.now = omega (arith, c.loop-taken.invariant.few, c.loop-taken-test.false) in
    (λ up. all, λ outside. all)

pub returns-in-Err-tell-clause-goes : goal.returns-in-Err-tell-clause-goes
returns-in-Err-tell-clause-goes c = λ bytes more g.
    let l = c.loop-taken in
    let none = drop_all l.taken c.args.piece.now (omega (arith, c.loop-taken-test.false)) in
    goes_advances bytes c.args.piece.now c.in-Err-tell.stop c.tell.new.self c.tell.new.self more more
    (c.in-Err-tell.ensures.goes bytes more (subst (λ (p : List ℕ). IsGoing bytes l.self (p ++ more)) none (l.invariant.going bytes more g)))

pub returns-then-stops-clause-no_error : goal.returns-then-stops-clause-no_error
returns-then-stops-clause-no_error c =
    let l = c.loop-taken in
    let is = sym c.stops.ensures ∙ c.if-stops.true in
    (λ up. absurd (not_up c.args.up_to_bodies l.self.cutter is up), λ none. absurd (not_outside c.args.up_to_bodies l.self.cutter is none))

pub returns-then-stops-clause-waits : goal.returns-then-stops-clause-waits
returns-then-stops-clause-waits c = λ up. absurd (not_up c.args.up_to_bodies c.loop-taken.self.cutter (sym c.stops.ensures ∙ c.if-stops.true) up)

pub returns-in-Ok-tell-clause-waits : goal.returns-in-Ok-tell-clause-waits
returns-in-Ok-tell-clause-waits c = λ up. c.in-Ok-tell.ensures.waits

pub returns-in-Ok-tell-clause-no_error : goal.returns-in-Ok-tell-clause-no_error
returns-in-Ok-tell-clause-no_error c = (λ up. c.in-Ok-tell.ensures.no_error, λ outside. c.in-Ok-tell.ensures.no_error)
