use Rattle.std.proofs.Common.{◌≡◌, None, ◌&&◌, eqb, true, rules, sym, ap, ◌∙◌}
use Rattle.body_cutter.specs.Sections.{Given, End, Whole}
use Rattle.body_cutter.specs.Queues.{Queue}
use Rattle.body_cutter.specs.Walks.{is_over}
use Rattle.body_cutter.specs.Held.{end_by, queue_of}
use Rattle.body_cutter.specs.Cuttings.{Cutting, left, handed, finished}
use Rattle.body_cutter.proofs.Cuts.{handed_of, over, is_whole}
use Rattle.body_cutter.proofs.cutter.Cutter.is_whole.Goals as goal

-- where the section is over, the queue is what is handed over, whatever comes
pub returns-then-is_none-clause-whole : goal.returns-then-is_none-clause-whole
unfolding left
returns-then-is_none-clause-whole c = λ e more.
    let i = c.self.inside in
    let going : i.walk.stop ≡ None = search rules in
    let ended : is_over i.walk ≡ true = sym c.is_over.ensures ∙ e in
    let ending : end_by i.walk ≡ Whole = is_whole i.walk.stop (eqb i.walk.count 0 && eqb i.walk.at i.walk.end) going ended in
    let q : Queue = queue_of i.walk i.queue in
    let queue : finished Whole q ≡ q = sym (ap (λ (x : End). finished x q) ending) ∙ c.self.invariant.prompt in
    ap (λ (k : Cutting). left k more) (sym c.self.view_is)
    ∙ ap (λ (g : Given). handed q g) (over i.walk c.self.invariant.sound ended more)
    ∙ ap (λ (x : End). handed_of (finished x q) x) ending
    ∙ ap (λ (q : Queue). handed_of q Whole) queue
    ∙ ap (λ (k : Cutting). handed_of k.queue Whole) c.self.view_is
