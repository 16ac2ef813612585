use Rattle.std.proofs.Common.{◌≤◌, List, ℕ, ◌++◌, length, drop, sym, ap, subst}
use Rattle.source_reading.specs.Chunks.{Chunked}
use Rattle.module_stream.specs.Streaming.{IsGoing, MayGo}
use Rattle.source_reading.proofs.Arriving.{may_go, pending_taken, stops_there}
use Rattle.module_stream.proofs.Stops.{advances_goes}
use Rattle.source_reading.proofs.Chunking.{none_after}
use Rattle.source_reading.proofs.reading.take_pending.Goals as goal

pub feed-requires : goal.feed-requires
feed-requires c =
    let r = c.requires in
    subst (λ (l : List ℕ). MayGo c.args.compilation.now l) (sym c.pending.ensures) (may_go r.0 r.1 r.2 r.3 r.4 r.5 c.args.compilation.now c.args.chunk.now r.6)

pub returns-in-Ok-clause-arrives : goal.returns-in-Ok-clause-arrives
returns-in-Ok-clause-arrives c = λ closing first before left now may_read a.
    pending_taken closing first before left now may_read c.args.compilation.now c.args.chunk.now a c.feed.new.self c.skip.new.self c.in-Ok.taken c.in-Ok.ensures.batch c.skip.ensures
    (λ bytes more g. subst (λ (l : List ℕ). IsGoing bytes c.feed.new.self (drop c.in-Ok.taken l ++ more)) c.pending.ensures
    (c.in-Ok.ensures.goes bytes more (subst (λ (l : List ℕ). IsGoing bytes c.args.compilation.now (l ++ more)) (sym c.pending.ensures) g)))

pub returns-in-Err-clause-arrives : goal.returns-in-Err-clause-arrives
returns-in-Err-clause-arrives c = λ closing first before left now may_read a low.
    stops_there closing first before left now may_read c.args.compilation.now c.args.chunk.now a c.in-Err.stop c.feed.new.self
    (λ more few. advances_goes ((a.came ++ a.piece) ++ more) c.pending.result.now c.in-Err.stop c.feed.new.self c.feed.new.self more more
    (c.in-Err.ensures.goes ((a.came ++ a.piece) ++ more) more (subst (λ (l : List ℕ). IsGoing ((a.came ++ a.piece) ++ more) c.args.compilation.now (l ++ more)) (sym c.pending.ensures) (a.going more few)))) low

pub skip-requires : goal.skip-requires
skip-requires c = subst (λ (l : List ℕ). c.in-Ok.taken ≤ length l) c.pending.ensures c.in-Ok.ensures.few

pub returns-in-Ok-clause-all : goal.returns-in-Ok-clause-all
returns-in-Ok-clause-all c =
    let none = none_after c.args.chunk.now c.skip.new.self c.pending.result.now c.in-Ok.taken c.skip.ensures c.pending.ensures in
    (λ up. none (c.in-Ok.ensures.all.0 up), λ outside. none (c.in-Ok.ensures.all.1 outside))

pub returns-in-Ok-clause-chunk : goal.returns-in-Ok-clause-chunk
returns-in-Ok-clause-chunk c = (ap (λ (x : Chunked). x.count) c.skip.ensures, ap (λ (x : Chunked). x.came) c.skip.ensures)
