use Rattle.std.proofs.Common.{length, refl}
use Rattle.std.proofs.lemmas.Option.{slice_get_read}
use Rattle.many_streams.proofs.Workers.{opened_later, opened_push, lane_of_part}
use Rattle.many_streams.proofs.working.open_next.Goals as goal

pub returns-in_default : goal.returns-in_default
returns-in_default c = opened_later c.args.workers c.args.members.now c.args.«module» c.args.work.now.lanes.items c.args.work.now.desks.items c.requires.opened

pub returns : goal.returns
returns c =
    let members = c.args.members.now in
    let n = c.args.«module» in
    let w = c.args.work.now in
    let o = c.in_ok-opened.opened in
    let is = c.in_ok-opened.ensures in
    let at = slice_get_read members (length members) n c.index-members-k.result refl c.requires.«module» c.index-members-k.is in
    opened_push c.args.workers members n w.lanes.items c.push.new.self.items w.desks.items c.push-2.new.self.items o.lane o.desk c.requires.opened
    c.in_ok-push.ensures.items c.in_ok-push-2.ensures.items is.«module» (lane_of_part members o.lane c.index-members-k.result c.in-Some.part.now n is.«module» at c.in-Some.ensures is.context)
    (record { of = is.desk.0; rows = is.desk.1; parts = is.parts.1; all = is.parts.0 })
