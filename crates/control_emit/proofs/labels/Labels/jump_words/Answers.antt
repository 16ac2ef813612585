use Rattle.std.proofs.Common.{◌≡◌, ◌≤◌, drop, length, ap, ◌∙◌, arith}
use Rattle.std.proofs.lemmas.List.{drop_all}
use Rattle.control_emit.specs.Pending.{shapes}
use Rattle.control_emit.proofs.Counts.{words_of_jumps, jumps-counted}
use Rattle.control_emit.proofs.labels.Labels.jump_words.Goals as goal

pub returns : goal.returns
returns c = λ w height here ends e.
    let ks = c.args.labels.now in
    let i = c.loop-label.label-index in
    let over : length ks ≤ i = omega (arith, c.loop-label-test.false) in
    let none : words_of_jumps (shapes c.args.self.now) (drop i ks) ≡ 0 = ap (words_of_jumps (shapes c.args.self.now)) (drop_all i ks over) in
    let left = c.loop-label.invariant.left in
    let all : c.loop-label.count ≡ words_of_jumps (shapes c.args.self.now) ks = omega arith in
    all ∙ jumps-counted w height here c.args.self.now ends ks e
