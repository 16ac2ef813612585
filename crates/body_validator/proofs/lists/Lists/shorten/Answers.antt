use Rattle.std.proofs.Common.{◌≡◌, ◌-◌, ◌<◌, ℕ, List, length, get_or, take, reverse, refl, ap, sym, subst, ◌∙◌, arith}
use Rattle.std.proofs.lemmas.List.{take_all}
use Rattle.std.specs.Borrow.{Bor}
use Rattle.wasm_defs.specs.Typing.{Types}
use Rattle.body_validator.specs.declared.lists.Spread.{Spread}
use Rattle.body_validator.specs.Kept.{spread, spreads, paired, IsShort}
use Rattle.body_validator.proofs.Laying.{short_none, short_some}
use Rattle.body_validator.proofs.Paired.{length-paired, paired-take, paired-get, paired-set, fewer_set, fewer_take, found, evenly}
use Rattle.body_validator.proofs.lists.Lists.shorten.Goals as goal
use Rattle.body_validator.proofs.lists.Lists.shorten.Goals.{then-left-types, else-left-types}

pub overflow_sub-last : goal.overflow_sub-last
overflow_sub-last c =
    let l = c.args.self.now in
    omega (arith, c.requires, length-paired l.types.items l.below.items (evenly l), l.types.ok.0)

pub returns-then-left-eq0-clause-short : goal.returns-then-left-eq0-clause-short
returns-then-left-eq0-clause-short c =
    let l = c.args.self.now in
    let ts = l.types.items in
    let bs = l.below.items in
    let n = c.len-last.result in
    let long = length-paired ts bs (evenly l) in
    let len : n ≡ length ts = omega (arith, c.len-last.ensures, l.types.ok.0) in
    let at : n - 1 < length ts = omega (arith, len, long, c.requires) in
    let t = c.index-types.result.now in
    let b = get_or bs (n - 1) 0 in
    let is = paired-get ts bs (n - 1) t b (evenly l) at c.index-types.ensures (found bs (n - 1) 0 (omega (arith, at, evenly l))) in
    let after = ap (λ (x : List ℕ). paired c.truncate.new.self.items x) c.truncate-then-left-eq0.ensures.items ∙ ap (λ (x : List (Bor Types)). paired x (take (n - 1) bs)) c.truncate.ensures.items
    ∙ paired-take (n - 1) ts bs in
    short_none (spreads l) (paired c.truncate.new.self.items c.truncate-then-left-eq0.new.self.items) n c.args.left (spread t b) (omega (arith, len, long)) (omega (arith, at, len)) is c.if-left-eq0.true after

pub returns-then-left-eq0-clause-fewer : goal.returns-then-left-eq0-clause-fewer
returns-then-left-eq0-clause-fewer c =
    let l = c.args.self.now in
    let ts = l.types.items in
    let bs = l.below.items in
    let n = c.len-last.result in
    let same = ap (λ (x : List ℕ). paired c.truncate.new.self.items x) c.truncate-then-left-eq0.ensures.items ∙ ap (λ (x : List (Bor Types)). paired x (take (n - 1) bs)) c.truncate.ensures.items in
    omega (arith, ap (λ (x : List Spread). length x) same, fewer_take (n - 1) ts bs)

pub returns-clause-fewer : goal.returns-clause-fewer
returns-clause-fewer c =
    let l = c.args.self.now in
    fewer_set l.types.items l.below.items (c.len-last.result - 1) _ (evenly l)

pub returns-clause-short : goal.returns-clause-short
returns-clause-short c =
    let l = c.args.self.now in
    let ts = l.types.items in
    let bs = l.below.items in
    let n = c.len-last.result in
    let long = length-paired ts bs (evenly l) in
    let len : n ≡ length ts = omega (arith, c.len-last.ensures, l.types.ok.0) in
    let at : n - 1 < length ts = omega (arith, len, long, c.requires) in
    let t = c.index-types.result.now in
    let b = get_or bs (n - 1) 0 in
    let found_b = found bs (n - 1) 0 (omega (arith, at, evenly l)) in
    let is = paired-get ts bs (n - 1) t b (evenly l) at c.index-types.ensures found_b in
    let its : take c.if-left-types.left t.now ≡ take c.args.left t.now = elim c.if-left-types.branch [
      | then-left-types w ↦ ap (λ (k : ℕ). take k t.now) w.left-is
      | else-left-types w ↦ ap (λ (k : ℕ). take k t.now) w.left-is ∙ take_all (length t.now) t.now (omega arith) ∙ sym (take_all c.args.left t.now (omega (arith, w.if-left-types.false)))
    ] in
    subst (λ (x : List Spread). IsShort c.args.left (reverse (spreads l)) (reverse x)) (sym (paired-set ts bs (n - 1) _ b (evenly l) at found_b))
    (short_some (spreads l) n c.args.left (spread t b) (spread _ b) (omega (arith, len, long)) (omega (arith, at, len)) is (omega (arith, c.if-left-eq0.false)) its refl)
