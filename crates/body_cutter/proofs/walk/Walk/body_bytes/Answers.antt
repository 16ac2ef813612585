use Rattle.std.proofs.Common.{sym, subst, ◌∙◌}
use Rattle.body_cutter.specs.Bodies.{Begins}
use Rattle.body_cutter.proofs.Fills.{filled, on_ok}
use Rattle.body_cutter.proofs.Starts.{begun_anew, extended}
use Rattle.body_cutter.proofs.walk.Walk.body_bytes.Goals as goal

pub returns-then-rest_len-self-clause-same : goal.returns-then-rest_len-self-clause-same
returns-then-rest_len-self-clause-same c = λ more. filled c.args.self.now c.extend.new.self c.args.piece.now more c.requires.in_body c.requires.going c.in_ok-extend.ensures.ok

pub returns-clause-same : goal.returns-clause-same
returns-clause-same c = on_ok c.complete.result (λ h more. filled c.args.self.now c.extend.new.self c.args.piece.now more c.requires.in_body c.requires.going c.in_ok-extend.ensures.ok ∙ h more) c.complete.ensures.same

pub returns-clause-starts : goal.returns-clause-starts
returns-clause-starts c = λ saved h.
    let w = c.args.self.now in
    c.complete.ensures.starts saved
    (begun_anew w.closed saved w.block c.extend.new.self (λ k. subst (Begins saved) (sym c.in_ok-extend.ensures.ok) (extended saved w.block c.args.piece.now k)) h)
