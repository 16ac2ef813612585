use Rattle.std.proofs.Common.{rules, ◌≡◌, ◌<◌, ◌+◌, ◌∙◌, sym, [], None, length}
use Rattle.std.proofs.lemmas.List.{nil_from_length}
use Rattle.section_reader.specs.FrontLeft.{total}
use Rattle.section_reader.proofs.Ending.{ending_empty}
use Rattle.section_reader.proofs.OnwardSilence.{refused_ends, silent_ends, kept_ends}
use Rattle.section_reader.proofs.front.Front.ending.Goals as goal

pub returns-then-is_empty-clause-answer : goal.returns-then-is_empty-clause-answer
returns-then-is_empty-clause-answer c =
    let o = c.args.self.now in
    let none : o.refusal ≡ None = search rules in
    let few : length o.kept.items ≡ 0 = search rules in
    let kept : o.kept.items ≡ [] = nil_from_length o.kept.items few in
    c.ending.ensures ∙ sym (ending_empty o none kept o.ahead)

pub returns-in-Some-clause-onward : goal.returns-in-Some-clause-onward
returns-in-Some-clause-onward c = λ apart waits.
    let o = c.args.self.now in
    refused_ends o c.in-Some.refusal waits c.in-Some.is

pub returns-then-is_empty-clause-onward : goal.returns-then-is_empty-clause-onward
returns-then-is_empty-clause-onward c = λ apart waits.
    let o = c.args.self.now in
    let none : o.refusal ≡ None = search rules in
    let few : length o.kept.items ≡ 0 = search rules in
    rw c.ending.ensures (silent_ends o waits none apart (nil_from_length o.kept.items few))

pub returns-clause-onward : goal.returns-clause-onward
returns-clause-onward c = λ apart waits.
    let o = c.args.self.now in
    let none : o.refusal ≡ None = search rules in
    let some : 0 < length o.kept.items = search rules in
    let place : o.at + c.len.result ≡ total o = search rules in
    rw place (kept_ends o waits none apart some)
