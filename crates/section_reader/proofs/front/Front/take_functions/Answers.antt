use Rattle.std.proofs.Common.{◌∙◌, ◌+◌, ℕ, refl, sym, ap, arith}
use Rattle.wasm_defs.specs.Fields.{Cursor, window}
use Rattle.section_reader.proofs.FunctionsTaken.{functions_taken}
use Rattle.section_reader.proofs.front.Front.take_functions.Goals as goal

pub returns-clause-takes : goal.returns-clause-takes
returns-clause-takes c =
    let o = c.args.self.now in
    let f = c.in-Some.ensures.there in
    let read = c.read_functions-read in
    functions_taken o c.args.bytes.now _ c.functions_owed-owed.result read.result (c.functions_owed-owed.ensures (omega (arith, c.if-owed-eq0.false))) read.ensures.few
    (sym (c.section_bytes.ensures ∙ ap window f))
    _ (ap (λ (n : ℕ). n + read.result.bytes) (c.offset.ensures ∙ ap (λ (d : Cursor). d.at) f)) refl refl refl refl read.ensures.steps _ read.ensures.read
