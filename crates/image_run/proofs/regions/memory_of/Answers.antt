use Rattle.std.proofs.Common.{◌≡◌, ◌-◌, ◌++◌, ℕ, List, [], take, refl, ap, ◌∙◌, arith}
use Rattle.std.proofs.Math.ListN.{drop_of_length-le}
use Rattle.std.proofs.Math.Seq.{take-nil}
use Rattle.std.specs.Prelude.{replicate}
use Rattle.image_run.specs.States.{zeros}
use Rattle.linear_memory.specs.Linear.{Linear}
use Rattle.image_run.proofs.MemoryLaws.{placing_begins, placing_ends}
use Rattle.image_run.proofs.regions.memory_of.Goals as goal

filled : (first : ℕ) (none : List ℕ) (count : ℕ) → none ≡ [] → count ≡ 0 → take first none ++ replicate (first - count) 0 ≡ zeros first
unfolding zeros
filled first none count is nothing =
    let front : take first none ≡ [] = ap (λ (l : List ℕ). take first l) is ∙ take-nil first in
    let rest : first - count ≡ first = omega (arith, nothing) in
    rw (front, rest) refl

pub loop-segment-init : goal.loop-segment-init
loop-segment-init c =
    let bytes = c.in_ok-resize.ensures.items ∙ filled c.args.first c.in_ok-stored.stored.items c.in_ok-stored.stored.len c.in_ok-stored.ensures.items c.in_ok-stored.ensures.len in
    (placing_begins c.args.first c.args.segments.now c.resize.new.self.items bytes c.requires.fit, omega (arith, c.in_ok-stored.ensures.exact, c.in_ok-resize.ensures.capacity))

pub returns-clause-bytes : goal.returns-clause-bytes
returns-clause-bytes c =
    let l = c.loop-segment in
    let none = drop_of_length-le c.args.segments.now c.loop-segment-test.false in
    ap (λ (m : Linear). m.bytes) c.reserved.ensures ∙ placing_ends c.args.first c.args.size c.args.segments.now l.stored.items _ c.requires.first none c.requires.fit l.invariant.0
