use Rattle.std.proofs.Common.{List, ℕ, Err, ap, subst, ◌∙◌, arith}
use Rattle.std.proofs.lemmas.List.{drop_all}
use Rattle.wasm_defs.specs.declared.front_stop.FrontStop.{FrontStop}
use Rattle.body_cutter.specs.Places.{Place}
use Rattle.body_cutter.specs.Cuttings.{IsFed, IsRefused, Feeds}
use Rattle.source_reading.specs.Chunks.{Chunked}
use Rattle.module_stream.specs.Kept.{kept_bodies}
use Rattle.module_stream.proofs.Cutting.{few_taken, all_taken}
use Rattle.module_stream.proofs.NoErrors.{place_is_none, cut_is_none}
use Rattle.module_stream.specs.Keeping.{with_kept}
use Rattle.source_reading.proofs.Keeping.{piece_taken, piece_refused}
use Rattle.source_reading.proofs.intake.take_piece.Goals as goal

pub skip-requires : goal.skip-requires
skip-requires c =
    let i = c.args.intake.now in
    few_taken i.cutter c.feed.new.self i.chunk.pending c.in-Ok.taken (subst (λ (l : List ℕ). IsFed i.cutter l c.in-Ok.taken c.feed.new.self) c.pending.ensures c.in-Ok.ensures)

pub returns-in-Ok-hand_over-clause-all : goal.returns-in-Ok-hand_over-clause-all
returns-in-Ok-hand_over-clause-all c = λ inside.
    let i = c.args.intake.now in
    let mid = c.feed.new.self in
    let e = c.in-Ok-hand_over.ensures in
    let fed = subst (λ (l : List ℕ). IsFed i.cutter l c.in-Ok.taken mid) c.pending.ensures c.in-Ok.ensures in
    let all = all_taken i.cutter mid i.chunk.pending c.in-Ok.taken fed (omega (arith, inside, ap (λ (p : Place). p.at) e.place, ap (λ (p : Place). p.end) e.place)) in
    ap (λ (x : Chunked). x.pending) (e.chunk ∙ c.skip.ensures) ∙ drop_all c.in-Ok.taken i.chunk.pending (omega (arith, all))

pub returns-in-Ok-hand_over-clause-going : goal.returns-in-Ok-hand_over-clause-going
returns-in-Ok-hand_over-clause-going c = ap (λ (p : Place). p.stop) c.in-Ok-hand_over.ensures.place ∙ (c.in-Ok.ensures).going

pub returns-in-Ok-hand_over-clause-no_error : goal.returns-in-Ok-hand_over-clause-no_error
returns-in-Ok-hand_over-clause-no_error c = λ s.
    let j = c.hand_over.new.intake in
    cut_is_none s.front.steps.seen (with_kept (kept_bodies j.kept.items) j.cutter)
    (place_is_none c.args.intake.now.cutter c.feed.new.self c.pending.result.now c.in-Ok.taken j.cutter.place c.in-Ok.ensures c.in-Ok-hand_over.ensures.place)

pub returns-in-Ok-hand_over-clause-keeps : goal.returns-in-Ok-hand_over-clause-keeps
returns-in-Ok-hand_over-clause-keeps c = λ first before left now may_read s a.
    let i = c.args.intake.now in
    let mid = c.feed.new.self in
    let e = c.in-Ok-hand_over.ensures in
    let fed = subst (λ (l : List ℕ). IsFed i.cutter l c.in-Ok.taken mid) c.pending.ensures c.in-Ok.ensures in
    piece_taken first before left now may_read s i c.hand_over.new.intake mid e.kept a c.in-Ok.taken fed e.place e.closed e.begun e.least (e.chunk ∙ c.skip.ensures)

pub returns-in-Ok-hand_over-2-clause-keeps : goal.returns-in-Ok-hand_over-2-clause-keeps
returns-in-Ok-hand_over-2-clause-keeps c = λ first before left now may_read s a.
    let i = c.args.intake.now in
    let mid = c.feed.new.self in
    let r = c.in-Err-Refused.refusal in
    let e = c.in-Ok-hand_over-2.ensures in
    let refused = subst (λ (x : FrontStop). Feeds i.cutter c.pending.result.now (Err x) mid) c.in-Err-Refused.field-0-is c.in-Err-Refused.ensures in
    piece_refused first before left now may_read s i c.hand_over-in-Err-Refused.new.intake mid e.kept a r (subst (λ (l : List ℕ). IsRefused i.cutter l r mid) c.pending.ensures refused) e.chunk
