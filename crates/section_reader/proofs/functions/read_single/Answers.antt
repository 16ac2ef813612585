use Rattle.std.proofs.Common.{◌≡◌, ◌≤◌, ◌+◌, ◌∙◌, length, set, refl, arith, length-set}
use Rattle.section_reader.proofs.Declaring.{single_more}
use Rattle.section_reader.proofs.functions.read_single.Goals as goal

pub loop-count-preserved : goal.loop-count-preserved
loop-count-preserved c =
    let types = c.args.types in
    let bytes = c.args.bytes.now in
    let single = c.min-single.result in
    let l = c.loop-count in
    let n = l.count in
    let zero = l.indices in
    let one = set zero n c.from-first.result in
    let two = set one (n + 1) c.from-second.result in
    let three = set two (n + 2) c.from-third.result in
    let long_one : length one ≡ length zero = length-set zero n c.from-first.result in
    let long_two : length two ≡ length zero = length-set one (n + 1) c.from-second.result ∙ long_one in
    let long_three : length three ≡ length zero = length-set two (n + 2) c.from-third.result ∙ long_two in
    let most : n + 4 ≤ c.min-most.result = omega (arith, c.loop-count-test.true, l.invariant.most) in
    let room : n + 4 ≤ length zero = omega (arith, most, c.min-most.ensures, l.invariant.len) in
    let there : n + 4 ≤ length bytes = omega (arith, most, c.min-most.ensures) in
    let least = c.min-single.ensures in
    record {
      read =
          single_more types single bytes three (n + 3) (n + 4) c.from-fourth.result least (omega arith) (omega (arith, room, long_three)) (omega (arith, there)) c.from-fourth.ensures c.if-single-fourth.false
          (single_more types single bytes two (n + 2) (n + 3) c.from-third.result least (omega arith) (omega (arith, room, long_two)) (omega (arith, there)) c.from-third.ensures c.if-single-third.false
          (single_more types single bytes one (n + 1) (n + 2) c.from-second.result least (omega arith) (omega (arith, room, long_one)) (omega (arith, there)) c.from-second.ensures c.if-single-second.false
          (single_more types single bytes zero n (n + 1) c.from-first.result least refl (omega (arith, room)) (omega (arith, there)) c.from-first.ensures c.if-single-first.false l.invariant.read)));
      len = length-set three (n + 3) c.from-fourth.result ∙ long_three ∙ l.invariant.len;
      most = most;
    }
