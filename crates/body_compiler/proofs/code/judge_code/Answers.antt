use Rattle.std.proofs.Common.{◌∙◌, ℕ, Bool, true, false, refl, sym, subst}
use Rattle.body_compiler.specs.Going.{Beginning, calling, IsTaking}
use Rattle.body_compiler.proofs.Going.{is_valid, stopped_judges}
use Rattle.body_compiler.proofs.Walking.{judged}
use Rattle.body_compiler.proofs.code.judge_code.Goals as goal

pub returns-in-Err-clause-judges : goal.returns-in-Err-clause-judges
returns-in-Err-clause-judges c = λ c' code front k.
    let d = c.args.draft.now in
    let f = d.function in
    let b : Beginning = record { layout = f.layout; rows = f.rows; words = front } in
    let taking = subst (λ (long : Bool). IsTaking c.args.reading.counted long c' c.args.reading.last c.args.fields.now c.args.check.now code f.layout front (calling f.labels f.words f.calls.items f.rows d.sites.items)) (sym c.requires.short) k in
    (tt, stopped_judges c' code f.layout front c.read_code.new.check _ c.in-Err.stop (c.in-Err.ensures.goes c' code b (refl, refl, taking)).1)

pub returns-then-is_too_long-clause-judges : goal.returns-then-is_too_long-clause-judges
returns-then-is_too_long-clause-judges c = λ c' code front k.
    let d = c.args.draft.now in
    let f = d.function in
    let n = c.read_code.new.sink in
    let g = n.function in
    let b : Beginning = record { layout = f.layout; rows = f.rows; words = front } in
    let taking = subst (λ (long : Bool). IsTaking c.args.reading.counted long c' c.args.reading.last c.args.fields.now c.args.check.now code f.layout front (calling f.labels f.words f.calls.items f.rows d.sites.items)) (sym c.requires.short) k in
    let came = (c.in-Ok.ensures.goes c' code b (refl, refl, taking)).0 in
    let x = subst (λ (long : Bool). IsTaking c.args.reading.counted long c' c.args.reading.last c.read_code.new.fields c.read_code.new.check code f.layout front (calling g.labels g.words g.calls.items g.rows n.sites.items)) (sym c.is_too_long.ensures ∙ c.if-is_too_long.true) came.0.2 in
    let y = subst (λ (rows : ℕ). IsTaking c.args.reading.counted true c' c.args.reading.last c.read_code.new.fields c.read_code.new.check code f.layout front (calling g.labels g.words g.calls.items rows n.sites.items)) came.0.1 x in
    let valid = is_valid c.args.reading.counted c' c.args.reading.last c.read_code.new.fields c.read_code.new.check code y.0 c.in-Ok.ensures.over came.1 in
    (tt, (valid.0, valid.1, y.1))

pub returns-else-is_too_long-clause-judges : goal.returns-else-is_too_long-clause-judges
returns-else-is_too_long-clause-judges c = λ c' code front k.
    let d = c.args.draft.now in
    let f = d.function in
    let n = c.read_code.new.sink in
    let g = n.function in
    let b : Beginning = record { layout = f.layout; rows = f.rows; words = front } in
    let taking = subst (λ (long : Bool). IsTaking c.args.reading.counted long c' c.args.reading.last c.args.fields.now c.args.check.now code f.layout front (calling f.labels f.words f.calls.items f.rows d.sites.items)) (sym c.requires.short) k in
    let came = (c.in-Ok.ensures.goes c' code b (refl, refl, taking)).0 in
    let x = subst (λ (long : Bool). IsTaking c.args.reading.counted long c' c.args.reading.last c.read_code.new.fields c.read_code.new.check code f.layout front (calling g.labels g.words g.calls.items g.rows n.sites.items)) (sym c.is_too_long.ensures ∙ c.if-is_too_long.false) came.0.2 in
    let y = subst (λ (rows : ℕ). IsTaking c.args.reading.counted false c' c.args.reading.last c.read_code.new.fields c.read_code.new.check code f.layout front (calling g.labels g.words g.calls.items rows n.sites.items)) came.0.1 x in
    (came.0.0, judged c.args.reading.counted c' c.args.reading.last c.read_code.new.fields c.read_code.new.check code f.layout front _ y c.in-Ok.ensures.over came.1)
