use Rattle.std.proofs.Common.{◌≡◌, [], length, reverse, take, true, ap, subst, ◌∙◌, sym, ◌-◌, List, ◌++◌, map, Some, arith}
use Rattle.body_validator.specs.Checking.{Operand, ended, closes}
use Rattle.body_validator.specs.declared.stack.Frame.{Frame}
use Rattle.body_validator.specs.Stacks.{frame_of, frames_of, is_live_at, IsLaid}
use Rattle.body_validator.specs.Kept.{flat}
use Rattle.body_validator.proofs.Frames.{last_in, leave_steps, laid_more, laid_below}
use Rattle.body_validator.proofs.Laying.{flat_same}
use Rattle.body_validator.proofs.Seen.{seen_from, not_none}
use Rattle.body_validator.proofs.stack.Stack.leave.Goals as goal

pub returns-in-Some-innermost : goal.returns-in-Some-innermost
returns-in-Some-innermost c =
    let s = c.self.inside in
    let frame = c.in-Some.frame in
    let around = c.in-Some-innermost.around in
    let frames = s.frames.items in
    let items = flat s.operands in
    let new = flat c.put.new.self in
    let outer = c.truncate.new.self.items in
    let rest = reverse (take (length frames - 1) frames) in
    let is = last_in c.deref.result.now frames frame c.deref.ensures.value c.in-Some.ensures in
    let just : closes (frame_of frame items) ≡ true = sym c.in_ok-are_just.ensures.found ∙ c.if-not-branch.false in
    let len : c.len-outer.result ≡ length frames = omega (arith, s.frames.ok.0) in
    let left : reverse outer ≡ rest = ap reverse c.truncate.ensures.items ∙ ap (λ n. reverse (take (n - 1) frames)) len in
    let next = last_in c.deref-2.result.now outer around c.deref-2.ensures.value c.in-Some-innermost.ensures in
    let some = λ (e : rest ≡ []). not_none (reverse outer) around (reverse (take (length outer - 1) outer)) next (left ∙ e) in
    let laid = c.put.ensures.laid ∙ ap (λ (x : List Operand). x ++ map Some frame.results.now)
    (c.look.ensures.same ∙ c.cut.ensures.left ∙ ap (take frame.base) (flat_same c.are_just.new.self c.make_room.new.self c.make_room.ensures.same ∙ c.are_just.ensures.same)) in
    ap ended (sym c.self.view_is)
    ∙ leave_steps (reverse frames) frame rest items new is c.self.invariant.0 just (sym c.can_end.ensures ∙ c.if-not-can_end.false) some laid
    ∙ ap (λ (x : List Frame). Some (frames_of x new)) (sym left)

pub invariant_of-self-in-Some-innermost : goal.invariant_of-self-in-Some-innermost
invariant_of-self-in-Some-innermost c =
    let s = c.self.inside in
    let frame = c.in-Some.frame in
    let around = c.in-Some-innermost.around in
    let frames = s.frames.items in
    let items = flat s.operands in
    let new = flat c.put.new.self in
    let outer = c.truncate.new.self.items in
    let rest = reverse (take (length frames - 1) frames) in
    let is = last_in c.deref.result.now frames frame c.deref.ensures.value c.in-Some.ensures in
    let len : c.len-outer.result ≡ length frames = omega (arith, s.frames.ok.0) in
    let left : reverse outer ≡ rest = ap reverse c.truncate.ensures.items ∙ ap (λ n. reverse (take (n - 1) frames)) len in
    let next = last_in c.deref-2.result.now outer around c.deref-2.ensures.value c.in-Some-innermost.ensures in
    let some = λ (e : rest ≡ []). not_none (reverse outer) around (reverse (take (length outer - 1) outer)) next (left ∙ e) in
    let laid = c.put.ensures.laid ∙ ap (λ (x : List Operand). x ++ map Some frame.results.now)
    (c.look.ensures.same ∙ c.cut.ensures.left ∙ ap (take frame.base) (flat_same c.are_just.new.self c.make_room.new.self c.make_room.ensures.same ∙ c.are_just.ensures.same)) in
    let more = laid_more rest (take frame.base items) (map Some frame.results.now) some (laid_below (reverse frames) frame rest items is c.self.invariant.0) in (
      subst (λ (x : List Frame). IsLaid x new) (sym left) (subst (λ (x : List Operand). IsLaid rest x) (sym laid) more),
      seen_from (reverse outer) around (reverse (take (length outer - 1) outer)) c.put.new.self next (c.put.ensures.seen around.base around.unknown c.look.ensures.seen),
      sym (ap is_live_at next),
    )
