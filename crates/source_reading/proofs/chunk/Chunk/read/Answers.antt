use Rattle.std.proofs.lemmas.List.{with_items_is, places}
use Rattle.std.proofs.Common.{◌≡◌, ◌+◌, take, ap, ◌∙◌, rules, arith}
use Rattle.source_reading.specs.declared.chunk.ReadStatus.TheVariants.{Bytes}
use Rattle.source_reading.specs.Chunks.{Chunked}
use Rattle.source_reading.proofs.Arriving.{read_full, read_end, read_failed, read_bytes}
use Rattle.source_reading.proofs.chunk.Chunk.read.Goals as goal

pub returns-then-self-ge-MAX_READ-clause-arrives : goal.returns-then-self-ge-MAX_READ-clause-arrives
returns-then-self-ge-MAX_READ-clause-arrives g c = λ closing first before s free valid a.
    read_full closing first before (g.S.Source.left c.args.source.now) (g.S.Source.faults c.args.source.now) (g.S.Source.is_open c.args.source.now) s _ a _ (search rules) (search rules) (search rules)

pub returns-in-End-clause-arrives : goal.returns-in-End-clause-arrives
returns-in-End-clause-arrives g c = λ closing first before s free valid a.
    let new = c.fill.new.source in
    read_end closing first before (g.S.Source.left c.args.source.now) (g.S.Source.faults c.args.source.now) (g.S.Source.is_open c.args.source.now) s _ a (g.S.Source.left new) (g.S.Source.faults new) (g.S.Source.is_open new) _ (search rules) (search rules) c.in-End.ensures.bytes.0 c.in-End.ensures.bytes.1 c.in-End.ensures.cause

pub returns-in-Failed-clause-arrives : goal.returns-in-Failed-clause-arrives
returns-in-Failed-clause-arrives g c = λ closing first before s free valid a.
    let new = c.fill.new.source in
    read_failed closing first before (g.S.Source.left c.args.source.now) (g.S.Source.faults c.args.source.now) (g.S.Source.is_open c.args.source.now) s _ a (g.S.Source.left new) (g.S.Source.faults new) (g.S.Source.is_open new) _ (search rules) (search rules) c.in-Failed.ensures.bytes c.in-Failed.ensures.cause

pub returns-in-Bytes-clause-arrives : goal.returns-in-Bytes-clause-arrives
returns-in-Bytes-clause-arrives g c = λ closing first before s free valid a.
    let new = c.fill.new.source in
    let n = c.in-Bytes.n in
    let is = c.self.view_is in
    let counts : c.self.inside.count ≡ c.args.self.now.count = ap (λ (k : Chunked). k.count) is in
    let was : c.args.self.now.came ≡ Bytes = search rules in
    let same = with_items_is c.self.inside.bytes c.fill.new.bytes (search (rules, places)) in
    let now : _ ≡ record { pending = take n c.fill.new.bytes; count = c.args.self.now.count + n; came = Bytes } =
    λ i. record { pending = take n (same i); count = ap (λ (k : Chunked). k.count) is i + n; came = (ap (λ (k : Chunked). k.came) is ∙ was) i } in
    read_bytes closing first before (g.S.Source.left c.args.source.now) (g.S.Source.faults c.args.source.now) (g.S.Source.is_open c.args.source.now) s c.args.self.now a (g.S.Source.left new) (g.S.Source.faults new) (g.S.Source.is_open new)
    n c.min-room.result c.fill.new.bytes _ was c.requires.none free valid now c.fill.ensures.fit c.in-Bytes.ensures.bytes.1 (omega arith) (omega arith) c.in-Bytes.ensures.bytes.2 c.in-Bytes.ensures.cause c.in-Bytes.ensures.on
