use Rattle.std.proofs.Common.{◌≡◌, Some, None, [], ◌&&◌, eqb, false, true, rules, refl, sym, ap, subst, ◌∙◌, inr}
use Rattle.body_cutter.specs.Sections.{Given}
use Rattle.wasm_defs.specs.declared.fault.Refusal.{Refusal}
use Rattle.body_cutter.specs.declared.walk.Walk.{Walk}
use Rattle.body_cutter.specs.Bodies.{no_bodies}
use Rattle.body_cutter.specs.Walks.{is_over, IsSound}
use Rattle.body_cutter.specs.Queues.{Queue, all_closed}
use Rattle.body_cutter.specs.Held.{IsHeld, queue_of}
use Rattle.body_cutter.specs.Cuttings.{Cutting, left, handed, ended_at, is_whole as whole_is}
use Rattle.body_cutter.proofs.Cuts.{idle, goes, is_whole, over_is_whole}
use Rattle.body_cutter.proofs.Kept.{IsClosed, held_closed}
use Rattle.body_cutter.proofs.cutter.Cutter.end.Goals as goal

pub returns-then-is_over : goal.returns-then-is_over
unfolding left
returns-then-is_over c =
    let i = c.self.inside in
    let going : i.walk.stop ≡ None = search rules in
    let over : is_over i.walk ≡ true = sym c.is_over.ensures ∙ c.if-is_over.true in (
      ap whole_is (sym c.self.view_is) ∙ over_is_whole i.walk.stop (eqb i.walk.count 0 && eqb i.walk.at i.walk.end) going over,
      ap (λ (k : Cutting). (left k []).ending) (sym c.self.view_is)
          ∙ ap (λ (g : Given). (handed (queue_of i.walk i.queue) g).ending) (idle i.walk c.self.invariant.sound)
          ∙ is_whole i.walk.stop (eqb i.walk.count 0 && eqb i.walk.at i.walk.end) going over,
      refl,
    )

-- the batch that is begun is in the queue
pub invariant_of-self : goal.invariant_of-self
invariant_of-self c =
    let i = c.self.inside in
    let h = c.self.invariant in
    let refusal : Refusal = ended_at i.walk.at in
    let v : Walk = record i.walk { stop = Some refusal } in
    let is : IsClosed v i.queue c.close_last.new.queue =
    record { last = c.close_last.ensures.last; kept = c.close_last.ensures.kept; waits = ap (λ (q : Queue). q.closed) c.close_last.ensures.queue } in
    let sound : IsSound (record v { block = no_bodies }) = record { counted = h.sound.counted; inside = h.sound.inside; fits = h.sound.fits; hand = tt } in
    subst (λ (z : Walk). IsHeld z c.close_last.new.queue) (sym c.close_last.ensures.walk)
    (held_closed v i.queue c.close_last.new.queue sound refl h.batches.few h.given h.indices h.numbers h.full is)

pub returns : goal.returns
unfolding left
returns c =
    let i = c.self.inside in
    let on : is_over i.walk ≡ false = sym c.is_over.ensures ∙ c.if-is_over.false in
    inr (record {
      owed = ap (λ (k : Cutting). (left k []).ending) (sym c.self.view_is)
          ∙ ap (λ (g : Given). (handed (queue_of i.walk i.queue) g).ending) (idle i.walk c.self.invariant.sound)
          ∙ goes i.walk.stop (eqb i.walk.count 0 && eqb i.walk.at i.walk.end) on;
      fault = ap (λ (k : Cutting). ended_at k.place.at) c.self.view_is;
      stays = ap (λ (z : Walk). z.stop) c.close_last.ensures.walk;
      closed = c.close_last.ensures.queue ∙ ap (λ (k : Cutting). all_closed k.queue) c.self.view_is;
    })
