use Rattle.many_streams.proofs.Exclusive.{one_list, one_offset, whatever_follows, frames_not_cut_off, frames_not_bad, bad_not_cut_off}
use Rattle.many_streams.proofs.laws.frames_are_one.Goals as goal

pub returns-clause-list : goal.returns-clause-list
returns-clause-list c = one_list

pub returns-clause-offset : goal.returns-clause-offset
returns-clause-offset c = one_offset

pub returns-clause-whatever_follows : goal.returns-clause-whatever_follows
returns-clause-whatever_follows c = whatever_follows

pub returns-clause-frames_are_not_cut_off : goal.returns-clause-frames_are_not_cut_off
returns-clause-frames_are_not_cut_off c = frames_not_cut_off

pub returns-clause-frames_are_not_bad : goal.returns-clause-frames_are_not_bad
returns-clause-frames_are_not_bad c = frames_not_bad

pub returns-clause-bad_is_not_cut_off : goal.returns-clause-bad_is_not_cut_off
returns-clause-bad_is_not_cut_off c = bad_not_cut_off
