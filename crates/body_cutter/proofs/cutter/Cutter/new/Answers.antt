use Rattle.std.proofs.Common.{◌≡◌, ◌+◌, ◌-◌, ℕ, ap, ◌∙◌, arith}
use Rattle.body_cutter.specs.Sections.{Given, bodies_from}
use Rattle.body_cutter.specs.Queues.{Queue}
use Rattle.body_cutter.specs.Cuttings.{left, handed, no_batch}
use Rattle.body_cutter.specs.Walks.{position_of}
use Rattle.body_cutter.specs.Places.{still}
use Rattle.body_cutter.proofs.Sizes.{from_there}
use Rattle.body_cutter.proofs.Cuts.{first_given, none_waits, first_batches}
use Rattle.body_cutter.proofs.cutter.Cutter.new.Goals as goal

pub returns-clause-left : goal.returns-clause-left
unfolding left
returns-clause-left c = λ more.
    let w = c.new.result in
    let (least, closed, block) = c.new.ensures.batches in
    let g : Given = bodies_from (c.args.first_index + c.args.count - c.args.count) c.args.count (from_there c.args.first_offset more c.args.section_end) in
    let index : c.args.first_index + c.args.count - c.args.count ≡ c.args.first_index = omega arith in
    ap (λ (q : Queue). handed q (still (position_of w) more)) (none_waits w c.new-2.result c.new-2.ensures closed)
    ∙ first_given w more g (c.new.ensures.given more)
    ∙ ap (λ (q : Queue). handed q g) (first_batches w c.args.batch_bytes least closed block)
    ∙ ap (λ (k : ℕ). handed (no_batch c.args.batch_bytes) (bodies_from k c.args.count (from_there c.args.first_offset more c.args.section_end))) index
