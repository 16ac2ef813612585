use Rattle.std.proofs.Common.{refl, rules, ◌≡◌, ◌++◌}
use Rattle.section_reader.proofs.Keeping.{kept_fed, kept_owed, kept_told}
use Rattle.section_reader.proofs.FrontTelling.{kept_stalled}
use Rattle.section_reader.proofs.front.Front.keep.Goals as goal

pub returns-in-Some : goal.returns-in-Some
returns-in-Some c =
    let o = c.args.self.now in
    let kept : c.extend_from_slice.new.self.items ≡ o.kept.items ++ c.args.bytes.now = search rules in
    let follows = c.in-Some.ensures.follows o.kept.items (rw c.deref.ensures.value kept) o.placed.among in
    record {
      fed = kept_fed o _ c.args.bytes.now c.requires.waiting c.requires.refusal c.requires.some follows.passes refl refl refl kept c.requires.waiting c.requires.refusal;
      onward = kept_told o _ c.args.bytes.now c.requires.waiting c.requires.refusal refl refl refl kept c.requires.waiting c.requires.refusal;
    }

pub invariant_of-self-in-Some-clause-owed : goal.invariant_of-self-in-Some-clause-owed
invariant_of-self-in-Some-clause-owed c =
    let o = c.args.self.now in
    let kept : c.extend_from_slice.new.self.items ≡ o.kept.items ++ c.args.bytes.now = search rules in
    let follows = c.in-Some.ensures.follows o.kept.items (rw c.deref.ensures.value kept) o.placed.among in
    rw kept (kept_owed o c.args.bytes.now c.requires.some follows.passes)

pub invariant_of-self-in-Some-clause-stalled : goal.invariant_of-self-in-Some-clause-stalled
invariant_of-self-in-Some-clause-stalled c =
    let o = c.args.self.now in
    let kept : c.extend_from_slice.new.self.items ≡ o.kept.items ++ c.args.bytes.now = search rules in
    let follows = c.in-Some.ensures.follows o.kept.items (rw c.deref.ensures.value kept) o.placed.among in
    rw kept (kept_stalled o c.args.bytes.now c.requires.some follows.passes)
