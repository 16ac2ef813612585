use Rattle.std.proofs.Common.{◌≤◌, length, take, get_or, None, sym, subst, arith}
use Rattle.std.proofs.lemmas.List.{take_all, take_more}
use Rattle.control_emit.specs.declared.labels.Open.{Open}
use Rattle.control_emit.specs.Pending.{AreKept}
use Rattle.control_emit.proofs.Bases.{kept-at, kept-later, kept-push}
use Rattle.control_emit.proofs.labels.count_named.Goals as goal

pub loop-open-preserved : goal.loop-open-preserved
loop-open-preserved c = λ n kept.
    let ls = c.args.labels.now in
    let i = c.loop-open.open-index in
    let none : Open = record { base = 0; takes = 0; start = None; test = None; last_jump = None } in
    let l = get_or ls i none in
    let so_far = c.loop-open.invariant n kept in
    let own = kept-at n ls i none c.loop-open-test.true kept in
    let x = c.count_with-count.ensures in
    (x.fewest n so_far.0 own.1, subst (AreKept c.count_with-count.result) (sym (take_more ls i none c.loop-open-test.true)) (kept-push c.count_with-count.result (take i ls) l (kept-later c.loop-open.count c.count_with-count.result (take i ls) x.more so_far.1) (own.0, x.named)))

pub returns : goal.returns
returns c = λ n kept.
    let ls = c.args.labels.now in
    let i = c.loop-open.open-index in
    let over : length ls ≤ i = omega (arith, c.loop-open-test.false) in
    let x = c.loop-open.invariant n kept in
    (x.0, subst (AreKept c.loop-open.count) (take_all i ls over) x.1)
