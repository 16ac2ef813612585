use Rattle.std.proofs.Common.{◌≡◌, ◌∙◌, rules, ap, inl, map, List, true≢false, sym, string_bytes, subst}
use Rattle.std.specs.Prelude.{◌≢◌, []}
use Rattle.clap.specs.Faults.{fault_of}
use Rattle.clap.specs.Walk.{Text}
use Rattle.clap.specs.Simple.{app_of}
use Rattle.command_words.specs.Grammar.{Gives, command_in, program}
use Rattle.command_words.proofs.Commands.{as_reading, found, no_command, refused}
use Rattle.command_words.proofs.reading.command_of.Goals as goal

pub returns-in-Ok : goal.returns-in-Ok
returns-in-Ok c =
    let is : app_of c.in_ok-program.program ≡ program = search rules in
    let words : List Text = map string_bytes c.args.words.now.items in
    let gives : Gives (command_in words) c.command_in.result = subst (λ o. Gives o c.command_in.result)
    (found (app_of c.in_ok-program.program) (map string_bytes c.as_slice.result.now) words c.in-Ok.matches is (ap (map string_bytes) c.as_slice.ensures.value) c.in-Ok.ensures.kinds c.in-Ok.ensures.matches)
    c.command_in.ensures in
    record { reads = as_reading words c.command_in.result gives; value = gives }

pub returns-in-Err-2 : goal.returns-in-Err-2
returns-in-Err-2 c =
    let is : app_of c.in_ok-program.program ≡ program = search rules in
    let words : List Text = map string_bytes c.args.words.now.items in
    let fault : fault_of program words ≢ [] = refused (app_of c.in_ok-program.program) (map string_bytes c.as_slice.result.now) words c.in-Err.error is (ap (map string_bytes) c.as_slice.ensures.value) c.in-Err.ensures.kinds
    (λ e. let same = rw (c.kind.ensures ∙ e) at c.if-eq.ensures in true≢false (sym same)) in
    record { reads = inl fault; value = no_command words fault }
