use Rattle.std.proofs.Common.{rules}
use Rattle.batch_pool.proofs.Crews.{helped, room_split}
use Rattle.batch_pool.proofs.lanes.crew.help_many.Goals as goal

pub take_in_many-requires-clause-room : goal.take_in_many-requires-clause-room
take_in_many-requires-clause-room g c =
    room_split c.args.lanes.now c.args.desks.now.items c.split_all.new.desks.items c.requires.desks c.in-Ok.ensures.desks (search rules) c.in-Ok.ensures.left

pub returns : goal.returns
returns g c = record {
  desks = search rules;
  gathers = helped c.args.lanes.now c.args.desks.now.items c.split_all.new.desks.items c.take_in_many.new.desks.items c.requires.desks c.in-Ok.ensures.desks (search rules) c.in-Ok.ensures.left c.in_ok-take_in_many.ensures.gathers;
}
