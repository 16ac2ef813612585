use Rattle.std.proofs.Common.{◌≡◌, ◌++◌, ◌-◌, List, ℕ, length, take, drop, Some, Err, refl, sym, ap, subst, ◌∙◌, arith, length-drop}
use Rattle.std.proofs.lemmas.List.{take_all}
use Rattle.std.specs.declared.vec.Vec.{Vec}
use Rattle.std.specs.declared.alloc.Global.{Global}
use Rattle.wasm_defs.specs.declared.front_stop.FrontStop.{FrontStop}
use Rattle.body_cutter.specs.Cuttings.{Feeds}
use Rattle.many_streams.proofs.Intakes.{keeps_passed, keeps_rest, keeps_behind, keeps_inside, keeps_error}
use Rattle.many_streams.proofs.intake.Intake.feed.Goals as goal

pub returns-then-is_some : goal.returns-then-is_some
returns-then-is_some c = λ bytes more s k. keeps_passed bytes s c.args.self.now c.args.piece.now more (sym c.is_some.ensures ∙ c.if-is_some.true) k

pub returns-then-is_whole : goal.returns-then-is_whole
returns-then-is_whole c = λ bytes more s k.
    let i = c.args.self.now in
    keeps_rest bytes s i c.args.piece.now more (sym c.is_some.ensures ∙ c.if-is_some.false) k (record i { rest = c.extend_from_slice.new.self })
    (sym c.is_whole.ensures.is ∙ c.if-is_whole.true) refl refl refl c.in_ok-extend_from_slice.ensures.items

pub returns-in_ok-extend_from_slice-in-Ok : goal.returns-in_ok-extend_from_slice-in-Ok
returns-in_ok-extend_from_slice-in-Ok c = λ bytes more s k.
    let i = c.args.self.now in
    let e = c.in_ok-keep_closed-in-Ok.ensures in
    let j = record c.keep_closed.new.self { rest = c.extend_from_slice-then-is_whole-2.new.self } in
    let piece = c.args.piece.now in
    let all : take (length piece - c.in-Ok.taken) (drop c.in-Ok.taken piece) ≡ drop c.in-Ok.taken piece = take_all (length piece - c.in-Ok.taken) (drop c.in-Ok.taken piece) (omega (arith, length-drop c.in-Ok.taken piece)) in
    let rest : j.rest.items ≡ i.rest.items ++ drop c.in-Ok.taken piece =
    c.in_ok-extend_from_slice-in-Ok.ensures.items ∙ (ap (λ (l : List ℕ). c.keep_closed.new.self.rest.items ++ l) all ∙ ap (λ (v : Vec ℕ Global). v.items ++ drop c.in-Ok.taken piece) c.keep_closed.ensures.same.0) in
    keeps_behind bytes s i c.args.piece.now more (sym c.is_some.ensures ∙ c.if-is_some.false) k (sym c.is_whole.ensures.is ∙ c.if-is_whole.false) c.feed.new.self
    j e.kept c.in-Ok.taken c.in-Ok.ensures c.keep_closed.ensures.place e.closed e.begun e.least c.keep_closed.ensures.same.1
    (sym c.is_whole-in-Ok.ensures.is ∙ c.if-is_whole-2.true) rest

pub returns-else-is_whole-2 : goal.returns-else-is_whole-2
returns-else-is_whole-2 c = λ bytes more s k.
    let i = c.args.self.now in
    let j = c.keep_closed.new.self in
    let e = c.in_ok-keep_closed-in-Ok.ensures in
    keeps_inside bytes s i c.args.piece.now more (sym c.is_some.ensures ∙ c.if-is_some.false) k (sym c.is_whole.ensures.is ∙ c.if-is_whole.false) c.feed.new.self
    j e.kept c.in-Ok.taken c.in-Ok.ensures c.keep_closed.ensures.place e.closed e.begun e.least c.keep_closed.ensures.same.1
    (c.is_whole-in-Ok.ensures.owed c.if-is_whole-2.false) (ap (λ (v : Vec ℕ Global). v.items) c.keep_closed.ensures.same.0)

pub returns-in_ok-keep_closed-in-Err-Refused : goal.returns-in_ok-keep_closed-in-Err-Refused
returns-in_ok-keep_closed-in-Err-Refused c = λ bytes more s k.
    let i = c.args.self.now in
    let e = c.in_ok-keep_closed-in-Err-Refused.ensures in
    let r = c.in-Err-Refused.refusal in
    let refused = subst (λ (x : FrontStop). Feeds i.cutter c.args.piece.now (Err x) c.feed.new.self) c.in-Err-Refused.field-0-is c.in-Err-Refused.ensures in
    keeps_error bytes s i c.args.piece.now more (sym c.is_some.ensures ∙ c.if-is_some.false) k (sym c.is_whole.ensures.is ∙ c.if-is_whole.false) c.feed.new.self
    (record c.keep_closed-in-Err-Refused.new.self { error = Some r }) e.kept r refused refl
