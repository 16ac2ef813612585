use Rattle.std.proofs.Common.{rules, ◌≡◌, ◌+◌, ◌<◌, length, [], ◌∷◌, ◌++◌, slice_set, take, arith}
use Rattle.std.proofs.lemmas.List.{length-take}
use Rattle.std.proofs.lemmas.Grind.{common_steps}
use Rattle.wasm_defs.specs.Numbers.{number_at}
use Rattle.leb_feed.specs.Feeding.{told}
use Rattle.leb_feed.proofs.Feeds.{Says, all_says, unfinished_short, unfinished_bytes}
use Rattle.leb_feed.proofs.leb.Leb.feed.Goals as goal

said : (c : goal.Joined-read_at) → let i = c.self.inside in Says i.signed i.bits (take (i.count + 1) (slice_set i.bytes i.count c.args.byte)) c.match-read_at.result
said c =
    let i = c.self.inside in
    let old = take i.count i.bytes in
    let bytes = take (i.count + 1) (slice_set i.bytes i.count c.args.byte) in
    let e : c.match-read_at.result ≡ told (number_at i.signed i.bits bytes) = search rules in
    let unfinished = rw (← c.self.view_is) at c.requires in
    let short = unfinished_short i.signed i.bits old c.self.invariant.0 unfinished in
    let few : i.count < length i.bytes = omega (arith, short, c.self.told, c.self.invariant.1, length-take i.count i.bytes) in
    let grown : bytes ≡ old ++ c.args.byte ∷ [] = grind (arith, common_steps) in
    let fits = unfinished_bytes unfinished.0 i.bits i.signed old unfinished.1 unfinished.2 c.args.byte (omega (arith, c.ranges.byte.fits)) unfinished.3 in
    rw grown (all_says i.signed i.bits old c.args.byte unfinished c.match-read_at.result fits (rw grown at e))

pub returns-clause-done : goal.returns-clause-done
returns-clause-done c = (said c).0

pub returns-clause-more : goal.returns-clause-more
returns-clause-more c = (said c).1

pub returns-clause-bad : goal.returns-clause-bad
returns-clause-bad c = (said c).2
