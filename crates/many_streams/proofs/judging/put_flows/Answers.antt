use Rattle.std.proofs.Common.{rules, ◌≡◌, ℕ, length, get_or, refl, subst, arith}
use Rattle.std.proofs.Math.ListN.{set}
use Rattle.std.proofs.lemmas.Option.{slice_get_read}
use Rattle.many_streams.proofs.Flows.{put_begins, put_in, put_steps, put_all}
use Rattle.many_streams.proofs.judging.put_flows.Goals as goal

pub loop-flow-init : goal.loop-flow-init
loop-flow-init c = put_begins c.args.members.now.items c.args.flows.items c.requires

pub index_mut-requires : goal.index_mut-requires
index_mut-requires c =
    let l = c.loop-flow in
    let same : c.len.result ≡ length c.pop.new.self.items = search rules in
    let fits = put_in c.args.members.now.items l.members.items c.args.flows.items l.flows.items c.pop.new.self.items c.in-Some.flow l.invariant c.in-Some.ensures.items in omega arith

pub loop-flow-preserved : goal.loop-flow-preserved
loop-flow-preserved c =
    let l = c.loop-flow in
    let left = c.pop.new.self.items in
    let same : c.len.result ≡ length left = search rules in
    let fits = put_in c.args.members.now.items l.members.items c.args.flows.items l.flows.items left c.in-Some.flow l.invariant c.in-Some.ensures.items in
    let m = c.index_mut.result.now in
    let at = slice_get_read l.members.items (length l.members.items) (length left) m refl fits (subst (λ (k : ℕ). m ≡ get_or l.members.items k m) same c.index_mut.ensures.value) in
    put_steps c.args.members.now.items l.members.items c.args.flows.items l.flows.items left c.in-Some.flow l.invariant c.in-Some.ensures.items _ m at (λ i. set l.members.items (same i) (c.put_flow.ensures i))

pub returns : goal.returns
returns c =
    let none : length c.loop-flow.flows.items ≡ 0 = search rules in
    put_all c.args.members.now.items c.loop-flow.members.items c.args.flows.items c.loop-flow.flows.items none c.loop-flow.invariant
