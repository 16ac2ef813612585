use Rattle.std.proofs.Common.{◌≡◌, Ok, sym, subst, ◌∙◌, rules}
use Rattle.std.specs.Arc.{arc_value}
use Rattle.rv_isa.specs.declared.compiled.Code.{Code}
use Rattle.body_cutter.specs.Bodies.{body_of}
use Rattle.body_compiler.specs.declared.batch.row.Stored.{Stored}
use Rattle.body_compiler.specs.BatchRows.{Stores}
use Rattle.module_stream.specs.Progress.{TakesBody}
use Rattle.module_stream.proofs.Sharing.{known_code, not_unknown}
use Rattle.module_stream.proofs.Taking.{long_taken}
use Rattle.module_stream.proofs.shared.take_stored.Goals as goal

pub take_counted-requires-clause-code : goal.take_counted-requires-clause-code
take_counted-requires-clause-code c =
    let r = c.requires.code in
    let here = subst (λ (s : Stored). Stores c.args.cells.now c.args.index s r.0) c.in-Judged.is r.1 in
    (r.0, here.1, r.2)

pub take_counted-requires-in-NoRoom-clause-code : goal.take_counted-requires-in-NoRoom-clause-code
take_counted-requires-in-NoRoom-clause-code c =
    let r = c.requires.code in
    let here = subst (λ (s : Stored). Stores c.args.cells.now c.args.index s r.0) c.in-NoRoom.is r.1 in
    (r.0, here.1, r.2)

pub add_code-requires-clause-code : goal.add_code-requires-clause-code
add_code-requires-clause-code c =
    let r = c.requires.code in
    let same = subst (λ (s : Stored). Stores c.args.cells.now c.args.index s r.0) c.in-Apart.is r.1 in
    let is : c.deref.result.now ≡ arc_value c.in-Apart.code = search rules in
    subst (λ (k : Code). TakesBody c.args.spaces.now c.args.codes.now.count (body_of c.args.body) (Ok k)) (sym (is ∙ same.3)) r.2

pub get-requires-clause-index : goal.get-requires-clause-index
get-requires-clause-index c =
    let r = c.requires.code in
    (subst (λ (s : Stored). Stores c.args.cells.now c.args.index s r.0) c.in-Cell.is r.1).0

pub get-requires-clause-cell : goal.get-requires-clause-cell
get-requires-clause-cell c =
    let r = c.requires.code in
    (subst (λ (s : Stored). Stores c.args.cells.now c.args.index s r.0) c.in-Cell.is r.1).1

pub add_code-requires-in-Some-clause-code : goal.add_code-requires-in-Some-clause-code
add_code-requires-in-Some-clause-code c =
    let r = c.requires.code in
    let here = subst (λ (s : Stored). Stores c.args.cells.now c.args.index s r.0) c.in-Cell.is r.1 in
    let found = known_code c.in-Cell.note.known (arc_value c.in-Some.code.now) r.0 here.2 c.in-Some.ensures.value.1 in
    let is : c.deref-in-Some.result.now ≡ arc_value c.in-Some.code.now = search rules in
    subst (λ (k : Code). TakesBody c.args.spaces.now c.args.codes.now.count (body_of c.args.body) (Ok k)) (sym (is ∙ found)) r.2

pub unreachable-requires : goal.unreachable-requires
unreachable-requires c =
    let r = c.requires.code in
    let here = subst (λ (s : Stored). Stores c.args.cells.now c.args.index s r.0) c.in-Cell.is r.1 in
    not_unknown c.in-Cell.note.known r.0 here.2 c.in-None.ensures.value.0

pub returns-clause-takes : goal.returns-clause-takes
returns-clause-takes c =
    let r = c.requires.code in
    rw c.limit_at.ensures (long_taken c.args.spaces.now c.args.codes.now c.args.codes.now (body_of c.args.body) r.0 (subst (λ (s : Stored). Stores c.args.cells.now c.args.index s r.0) c.in-TooLong.is r.1) r.2)
