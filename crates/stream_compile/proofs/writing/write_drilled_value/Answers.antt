use Rattle.std.proofs.Common.{◌≡◌, ◌∙◌, [], ◌∷◌, sym, ap, subst, rules, w64}
use mir.Val.{SFits}
use Rattle.std.proofs.lemmas.Int.{to_z-of_z}
use Rattle.io_edges.specs.Streams.{WritesText}
use Rattle.wasm_defs.specs.Values.{value_of}
use Rattle.stream_compile.specs.Texts.{Outcome, drill_line, drilled}
use Rattle.stream_compile.proofs.writing.write_drilled_value.Goals as goal

pub returns-in-I32-clause-text : goal.returns-in-I32-clause-text
returns-in-I32-clause-text g c =
    let same : drilled c.args.functions (value_of c.args.value ∷ []) ≡ drill_line c.args.functions c.from.result = search rules in
    let fits : SFits w64 c.from.result = search rules in
    let line = ap (drill_line c.args.functions) (to_z-of_z w64 c.from.result fits) ∙ sym same in
    subst (λ (o : Outcome). WritesText c.write_drill_line.result o.text (g.O.Sink.written c.args.out.now) (g.O.Sink.written c.write_drill_line.new.out) (g.O.Sink.faults c.args.out.now) (g.O.Sink.faults c.write_drill_line.new.out)) line c.write_drill_line.ensures.text

pub returns-in-I64-clause-text : goal.returns-in-I64-clause-text
returns-in-I64-clause-text g c =
    let same : drilled c.args.functions (value_of c.args.value ∷ []) ≡ drill_line c.args.functions c.in-I64.number = search rules in
    let fits : SFits w64 c.in-I64.number = search rules in
    let line = ap (drill_line c.args.functions) (to_z-of_z w64 c.in-I64.number fits) ∙ sym same in
    subst (λ (o : Outcome). WritesText c.write_drill_line-in-I64.result o.text (g.O.Sink.written c.args.out.now) (g.O.Sink.written c.write_drill_line-in-I64.new.out) (g.O.Sink.faults c.args.out.now) (g.O.Sink.faults c.write_drill_line-in-I64.new.out))
    line c.write_drill_line-in-I64.ensures.text
