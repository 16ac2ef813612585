use Rattle.std.proofs.Common.{length, refl, arith}
use Rattle.std.proofs.lemmas.Option.{slice_get_read}
use Rattle.many_streams.proofs.Flows.{out_begins, out_next, out_steps}
use Rattle.many_streams.proofs.judging.take_flows.Goals as goal

pub loop-k-init : goal.loop-k-init
loop-k-init c = out_begins c.args.members.now.items c.new-flows.result.items c.new-flows.ensures.items

pub index_mut-requires : goal.index_mut-requires
index_mut-requires c = let all = c.loop-k.invariant.all in omega arith

pub take_flow-flow-requires : goal.take_flow-flow-requires
take_flow-flow-requires c =
    let h = c.loop-k.invariant in
    let all = h.all in
    let m = c.index_mut.result.now in
    let at = slice_get_read c.loop-k.members.items (length c.loop-k.members.items) c.loop-k.k m refl (omega arith) c.index_mut.ensures.value in
    c.requires c.loop-k.k m (out_next c.loop-k.k c.args.members.now.items c.loop-k.members.items c.loop-k.flows.items m h at)

pub loop-k-preserved : goal.loop-k-preserved
loop-k-preserved c =
    let h = c.loop-k.invariant in
    let all = h.all in
    let m = c.index_mut.result.now in
    let at = slice_get_read c.loop-k.members.items (length c.loop-k.members.items) c.loop-k.k m refl (omega arith) c.index_mut.ensures.value in
    out_steps c.loop-k.k c.args.members.now.items c.loop-k.members.items _ c.loop-k.flows.items c.push.new.self.items m c.take_flow-flow.new.self c.take_flow-flow.result h at refl c.in_ok-push.ensures.items c.take_flow-flow.ensures.lent c.take_flow-flow.ensures.whole

pub returns-clause-count : goal.returns-clause-count
returns-clause-count c = let h = c.loop-k.invariant in let n = h.count in let all = h.all in omega arith

pub returns-clause-lent : goal.returns-clause-lent
returns-clause-lent c = c.loop-k.invariant.lent

pub returns-clause-whole : goal.returns-clause-whole
returns-clause-whole c = c.loop-k.invariant.whole
