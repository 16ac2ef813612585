use Rattle.std.proofs.Common.{◌≡◌, ◌/◌, List, Vec, Global, Result, Ok, IfOk, refl, subst, arith, rules, take, drop}
use Rattle.std.specs.declared.alloc.AllocError.{AllocError}
use Rattle.many_streams.specs.Workers.{AreSettled}
use Rattle.many_streams.specs.declared.member.Member.{Member}
use Rattle.many_streams.specs.declared.working.Made.{Made}
use Rattle.many_streams.specs.Members.{IsEnded, IsJudged, AreRowsOf}
use Rattle.many_streams.proofs.Halves.{front, back, both}
use Rattle.many_streams.proofs.judging.+fn-settle_beside-join+arg2+fn-settle_beside-join+arg3+settle_beside.Goals as goal

abbrev HasRows : Member → Made → Type 0
HasRows m x = AreRowsOf x.cells x.rows.items m

pub join-judged-requires-after_bounds : goal.join-judged-requires-after_bounds
join-judged-requires-after_bounds g t c κs within =
    let half = c.len-half.result / 2 in
    let e = c.requires.ended in
    let o = c.in_ok-back.ensures in
    let m = c.in_ok-back_made.ensures in
    let all = c.args.members.items in
    let made = c.args.made.items in (
      (
        search rules,
        (
          λ a live. live,
          (
            search rules,
            (
              (e.0, take half e.1, front (IsEnded e.0) half e.1 (take half e.1) all c.split_off.new.self.items refl o.items e.2),
              (front HasRows half all c.split_off.new.self.items made c.split_off-2.new.self.items o.items m.items c.requires.made, search rules),
            ),
          ),
        ),
      ),
      (
        search rules,
        (
          λ a live. live,
          (
            search rules,
            (
              (e.0, drop half e.1, back (IsEnded e.0) half e.1 (drop half e.1) all c.in_ok-back.back.items refl o.tail e.2),
              (back HasRows half all c.in_ok-back.back.items made c.in_ok-back_made.back_made.items o.tail m.tail c.requires.made, search rules),
            ),
          ),
        ),
      ),
    )

-- what an answer that is good says
settled : (members : List Member) (v : Vec Member Global) (r : Result (Vec Member Global) AllocError) → r ≡ Ok v → IfOk r (λ w. AreSettled members w.items) → AreSettled members v.items
settled members v r is so = subst (λ (x : Result (Vec Member Global) AllocError). IfOk x (λ w. AreSettled members w.items)) is so

pub returns : goal.returns
returns g t c = λ keeps list are.
    let half = c.len-half.result / 2 in
    let o = c.in_ok-back.ensures in
    let all = c.args.members.items in
    both (IsJudged keeps) half list c.in_ok-judged.judged.items c.in_ok-rest.rest.items c.append.new.self.items c.in_ok-append.ensures.items
    (omega (arith, are.0, c.len-half.ensures, c.args.members.ok.0))
    (settled c.split_off.new.self.items c.in_ok-judged.judged c.join-judged.result.0 c.in_ok-judged.was c.join-judged.ensures.first keeps (take half list)
    (front (IsEnded keeps) half list (take half list) all c.split_off.new.self.items refl o.items are))
    (settled c.in_ok-back.back.items c.in_ok-rest.rest c.join-judged.result.1 c.in_ok-rest.was c.join-judged.ensures.second keeps (drop half list)
    (back (IsEnded keeps) half list (drop half list) all c.in_ok-back.back.items refl o.tail are))
