use Rattle.std.proofs.Common.{length, refl, ap, ◌∙◌, rules}
use Rattle.many_streams.specs.declared.rest.Rest.{Rest}
use Rattle.many_streams.specs.Members.{IsEnded, IsJudged}
use Rattle.many_streams.proofs.Rests.{paused_lent, together, together_made}
use Rattle.many_streams.proofs.Sources.{comes_on, stops_on}
use Rattle.many_streams.proofs.judging.judge_beside.Goals as goal

pub take_flows-requires : goal.take_flows-requires
take_flows-requires g c = c.requires.paused.2.waiting

pub work_beside-requires-clause-arrives : goal.work_beside-requires-clause-arrives
work_beside-requires-clause-arrives g c κs lives =
    let p = c.requires.paused in
    let o = c.in-Ok.ensures in
    let r : Rest = record { reader = c.args.streams.reader; flows = c.in-Ok.flows } in
    (p.0, p.1, c.args.streams.keeps, paused_lent p.0 p.1 _ _ _ c.args.streams c.take_flows.new.members.items c.as_slice.result.now r c.as_slice.ensures.value p.2 refl o.count o.lent o.whole)

pub put_flows-requires : goal.put_flows-requires
put_flows-requires g c =
    let p = c.requires.paused in
    let o = c.in-Ok.ensures in
    let r : Rest = record { reader = c.args.streams.reader; flows = c.in-Ok.flows } in
    let d = c.in-Ok-work_beside.ensures.comes p.0 p.1 c.args.streams.keeps (paused_lent p.0 p.1 _ _ _ c.args.streams c.take_flows.new.members.items c.as_slice.result.now r c.as_slice.ensures.value p.2 refl o.count o.lent o.whole) in
    d.0 ∙ ap length c.as_slice.ensures.value

pub settle_beside-requires : goal.settle_beside-requires
settle_beside-requires g c =
    let p = c.requires.paused in
    let o = c.in-Ok.ensures in
    let r : Rest = record { reader = c.args.streams.reader; flows = c.in-Ok.flows } in
    let members = c.take_flows.new.members.items in
    let flows = c.in-Ok-work_beside.done.flows.items in
    let d = c.in-Ok-work_beside.ensures.comes p.0 p.1 c.args.streams.keeps (paused_lent p.0 p.1 _ _ _ c.args.streams members c.as_slice.result.now r c.as_slice.ensures.value p.2 refl o.count o.lent o.whole) in
    let e = together c.args.streams.keeps _ _ _ members c.as_slice.result.now c.put_flows.new.members.items flows c.as_slice.ensures.value c.put_flows.ensures d.1 in (
      search rules,
      (
        (c.args.streams.keeps, e.4, e.6),
        together_made members c.as_slice.result.now c.put_flows.new.members.items flows c.in-Ok-work_beside.done.made.items c.as_slice.ensures.value c.put_flows.ensures d.0 c.in-Ok-work_beside.ensures.made,
      ),
    )

pub returns-in-Ok-settle_beside-clause-answer : goal.returns-in-Ok-settle_beside-clause-answer
returns-in-Ok-settle_beside-clause-answer g c = λ first before p.
    let o = c.in-Ok.ensures in
    let r : Rest = record { reader = c.args.streams.reader; flows = c.in-Ok.flows } in
    let keeps = c.args.streams.keeps in
    let members = c.take_flows.new.members.items in
    let d = c.in-Ok-work_beside.ensures.comes first before keeps (paused_lent first before _ _ _ c.args.streams members c.as_slice.result.now r c.as_slice.ensures.value p refl o.count o.lent o.whole) in
    let e = together keeps _ _ _ members c.as_slice.result.now c.put_flows.new.members.items c.in-Ok-work_beside.done.flows.items c.as_slice.ensures.value c.put_flows.ensures d.1 in
    comes_on (IsEnded keeps) (IsJudged keeps) _ _ _ c.put_flows.new.members.items c.in-Ok-settle_beside.judged.items e (λ list are. c.in-Ok-settle_beside.ensures keeps list are)

pub returns-in-Err-clause-answer : goal.returns-in-Err-clause-answer
returns-in-Err-clause-answer g c = λ first before p.
    let o = c.in-Ok.ensures in
    let r : Rest = record { reader = c.args.streams.reader; flows = c.in-Ok.flows } in
    let keeps = c.args.streams.keeps in
    stops_on (IsEnded keeps) (IsJudged keeps) _ _ _ c.in-Err.stop
    (c.in-Err.ensures.comes first before keeps (paused_lent first before _ _ _ c.args.streams c.take_flows.new.members.items c.as_slice.result.now r c.as_slice.ensures.value p refl o.count o.lent o.whole))
