-- What the program answers and writes.
use Rattle.std.specs.Prelude.{◌≡◌, ◌<◌, ◌≤◌, ◌⊎◌, ◌+◌, ◌*◌, ◌/◌, ◌%◌, ◌==◌, ℕ, ℤ, pos, Bool, true, false, if◌then◌else◌, nat_lt, nat_le, List, [], ◌∷◌, ◌++◌, length, take, drop, Option, None, Some, codes, String, string_bytes, map, min, Result, Ok, Err}
use Rattle.std.specs.Fmt.{decimal, signed_decimal}
use Rattle.std.specs.List.{flat_map}
use Rattle.std.specs.Global.{Global}
use Rattle.std.specs.Io.KnownBytes.{append_known, prepend_known, IsAtEnd}
use Rattle.command_words.specs.declared.argument.Argument.{Argument}
use Rattle.command_words.specs.declared.argument.Argument.TheVariants as argument
use Rattle.command_words.specs.declared.command.Command.{Command}
use Rattle.command_words.specs.declared.command.Command.TheVariants.{Check, Compile, Many, Run, Exec, Drill}
use Rattle.command_words.specs.declared.command.Call.{Call as Given}
use Rattle.command_words.specs.declared.command.Options.{Options}
use Rattle.command_words.specs.declared.peek.Peek.{Peek}
use Rattle.command_words.specs.declared.command.Drill.{Drill as Drilled}
use Rattle.command_words.specs.Grammar.{command_in}
use Rattle.wasm_defs.specs.declared.fault.Kind.{Kind}
use Rattle.wasm_defs.specs.declared.fault.Kind.TheVariants.{Malformed, Unsupported, Limit, Invalid, Ended}
use Rattle.wasm_defs.specs.declared.fault.Refusal.{Refusal}
use Rattle.wasm_defs.specs.declared.types.ValType.{ValType}
use Rattle.wasm_defs.specs.declared.types.ValType.TheVariants.{I32, I64}
use Rattle.wasm_defs.specs.declared.place.Place.{Place}
use Rattle.wasm_defs.specs.declared.value.TrapKind.{TrapKind}
use Rattle.wasm_defs.specs.declared.value.Value.{Value as GivenValue}
use Rattle.wasm_defs.specs.declared.value.Value.TheVariants as given
use Rattle.wasm_defs.specs.Values.{Value, signed, value_of, trap_text, types_of_values}
use Rattle.wasm_defs.specs.Context.{context_of, declared_count}
use Rattle.wasm_defs.specs.Faults.{Module, Verdict, Accepted, Rejected}
use Rattle.wasm_defs.specs.Instances.{exports_of, named}
use Rattle.wasm_defs.specs.ModuleRun.{Returns, Traps, Stops, Going, module_run}
use Rattle.wasm_defs.specs.ModuleRun as module_runs
use Rattle.image_format.specs.Contents.{Image}
use Rattle.image_format.specs.ImageBytes.{spelling}
use Rattle.image_format.specs.Reading.{image_or_offset}
use Rattle.image_format.specs.declared.image.Export.{Export}
use Rattle.image_format.specs.declared.image.Import.{Import}
use Rattle.image_format.specs.ImageRun.{Ending, As, Fault, ImageRun}
use Rattle.image_linker.specs.ImageOf.{image_of, export_of, imports_of}
use Rattle.image_linker.specs.Judging.{IsModuleOf, IsVerdictOf, IsStoppedAt}
use Rattle.image_linker.specs.Same.{Same}
use Rattle.simulation.specs.SameRuns.{BeginsWith, own_run}
use Rattle.wasm_defs.specs.Host.{HostCall, Reply}
use Rattle.image_run.specs.declared.checks.NotRunnable.{NotRunnable}
use Rattle.image_run.specs.declared.checks.NotRunnable.TheVariants.{UnknownImport, NoSuchExport, WrongArguments, Unlinkable}
use Rattle.image_run.specs.Checks.{export_named, not_runnable}
use Rattle.image_run.specs.Ends.{run_of_export}
use Rattle.wasi_host.specs.Answers.{bytes_written}
use Rattle.wasi_host.specs.ExitCodes.{exit_code}
use Rattle.wasi_host.specs.Own.{AreOwn}
use Rattle.rv_isa.specs.declared.stepping.FaultKind.{FaultKind}
use Rattle.rv_isa.specs.declared.stepping.FaultKind.TheVariants.{Fetch, Word, Break, Target, Load, Store, Call}
use Rattle.module_gen.specs.Drill.{drill_bytes}
use Rattle.drill_laws.specs.Functions.{sum_below}
use Rattle.many_streams.specs.declared.member.EachChecked.{EachChecked}
use Rattle.many_streams.specs.declared.member.EachChecked.TheVariants as each
use Rattle.many_streams.specs.Frames.{Frames, IsBadFrame, IsCutOff}
use Rattle.many_streams.specs.Many.{IsFront}
use Rattle.module_stream.specs.declared.settings.Settings.{Settings}
use Rattle.module_stream.specs.ValidPrefixes.{closing_bytes}
use Rattle.source_reading.specs.Received.{AreReceived, AreReceivedUpTo, image_input}

-- a status, and what is written
pub record Outcome : Type 0 where
  pub status : ℕ
  pub text : List ℕ

-- ---- the lines

-- the words are outside the command grammar
abbrev pub usage : Outcome
usage = record { status = 1; text = codes "usage: wstream check, compile, run EXPORT ARGS, exec EXPORT ARGS or drill N\n" }

abbrev pub read_fault : Outcome
read_fault = record { status = 6; text = codes "read fault\n" }

-- so many functions that a module declares, and so many bytes that it has
abbrev pub accepted : ℕ → ℕ → Outcome
accepted functions bytes = record { status = 0; text = codes "ok " ++ decimal functions ++ codes " functions " ++ decimal bytes ++ codes " bytes\n" }

-- an image's bytes, and nothing else
abbrev pub compiled : List ℕ → Outcome
compiled bytes = record { status = 0; text = bytes }

abbrev pub kind_name : Kind → List ℕ
kind_name Malformed = codes "malformed"
kind_name Unsupported = codes "unsupported"
kind_name Limit = codes "limit"
kind_name Invalid = codes "invalid"
kind_name Ended = codes "ended"

-- what is wrong, and the offset of the byte where it is
abbrev pub rejected : Refusal → Outcome
rejected r = record { status = 2; text = codes "refused " ++ kind_name r.kind ++ codes " at " ++ decimal r.offset ++ codes "\n" }

-- of several modules: the line of the one with this index is the index and its own line; the status is 2 where one is refused
abbrev pub many_line : ℕ → Outcome → List ℕ
many_line index o = decimal index ++ (codes " " ++ o.text)

abbrev pub many_text : ℕ → List Outcome → List ℕ
many_text index [] = []
many_text index (o ∷ os) = many_line index o ++ many_text (index + 1) os

abbrev pub many_status : List Outcome → ℕ
many_status [] = 0
many_status (o ∷ os) = if o.status == 0 then many_status os else 2

abbrev pub told_many : List Outcome → Outcome
told_many os = record { status = many_status os; text = many_text 0 os }

-- what validating one of them is reported as
abbrev pub said : EachChecked → Outcome
said (each.Valid c) = accepted c.functions c.bytes
said (each.Refused r) = rejected r

-- the bytes are no frames: the offset of their error, or their number where they are cut off
abbrev pub bad_frame : ℕ → Outcome
bad_frame offset = record { status = 12; text = codes "bad frame at " ++ decimal offset ++ codes "\n" }

abbrev pub reason : NotRunnable → List ℕ
reason UnknownImport = codes "unknown import"
reason NoSuchExport = codes "no such export"
reason WrongArguments = codes "wrong arguments"
reason Unlinkable = codes "unlinkable"

abbrev pub unrunnable : NotRunnable → Outcome
unrunnable why = record { status = 3; text = codes "not runnable " ++ reason why ++ codes "\n" }

abbrev pub type_name : ValType → List ℕ
type_name I32 = codes "i32 "
type_name I64 = codes "i64 "

-- a value as a signed number
abbrev pub value_line : Value → List ℕ
value_line v = type_name v.ty ++ signed_decimal (signed v.ty v.number) ++ codes "\n"

-- each value on a line, in order, or that there is none
abbrev pub returned : List Value → Outcome
returned [] = record { status = 0; text = codes "ok\n" }
returned (v ∷ vs) = record { status = 0; text = flat_map value_line (v ∷ vs) }

-- what the last of so many functions returned, as a signed number
abbrev pub drill_line : (functions : ℕ) → ℤ → Outcome
drill_line functions n = record { status = 0; text = codes "functions " ++ (decimal functions ++ (codes " result " ++ (signed_decimal n ++ codes "\n"))) }

abbrev pub drilled : (functions : ℕ) → List Value → Outcome
drilled functions [] = returned []
drilled functions (v ∷ vs) = drill_line functions (signed v.ty v.number)

-- where in the module a trap comes from, if it is known: the function's index, and the offset of the byte
abbrev pub trap_place : Option Place → List ℕ
trap_place None = codes "\n"
trap_place (Some p) = codes " in function " ++ (decimal p.function ++ codes " at " ++ decimal p.offset ++ codes "\n")

abbrev pub trapped : TrapKind → Option Place → Outcome
trapped kind place = record { status = 4; text = codes "trap " ++ (trap_text kind ++ trap_place place) }

-- the machine made all its steps, and the run hadn't ended
abbrev pub steps_spent : Outcome
steps_spent = record { status = 5; text = codes "steps spent\n" }

-- proc_exit was called with an exit code (WASI preview 1)
abbrev pub exited : (code : ℕ) → Outcome
exited code = record { status = if code == 0 then 0 else 11; text = codes "exit " ++ (decimal code ++ codes "\n") }

abbrev pub fault_name : FaultKind → List ℕ
fault_name Fetch = codes "fetch"
fault_name Word = codes "word"
fault_name Break = codes "break"
fault_name Target = codes "target"
fault_name Load = codes "load"
fault_name Store = codes "store"
fault_name Call = codes "call"

-- the machine has no step there
abbrev pub machine_fault : FaultKind → ℕ → Outcome
machine_fault kind pc = record { status = 9; text = codes "machine fault " ++ fault_name kind ++ codes " at " ++ decimal pc ++ codes "\n" }

-- the bytes are no image: the offset of their first error
abbrev pub bad_image : ℕ → Outcome
bad_image offset = record { status = 10; text = codes "bad image at " ++ decimal offset ++ codes "\n" }

-- ---- what a command comes to

abbrev pub given_value : Argument → GivenValue
given_value (argument.I32 n) = given.I32 n
given_value (argument.I64 n) = given.I64 n

abbrev pub arguments_of : List Argument → List Value
arguments_of arguments = map value_of (map given_value arguments)

-- the lines of the values that were returned: by a drill with so many functions, or by another run
abbrev pub returned_by : (drill : Option ℕ) → List Value → Outcome
returned_by None values = returned values
returned_by (Some functions) values = drilled functions values

-- the digit of a number below 16, in lower case
abbrev pub hex_digit : ℕ → ℕ
hex_digit n = if nat_lt n 10 then 48 + n else 87 + n

-- the two digits of a byte
abbrev pub hex_pair : ℕ → List ℕ
hex_pair b = hex_digit (b / 16) ∷ hex_digit (b % 16) ∷ []

abbrev pub hex_of : List ℕ → List ℕ
hex_of bytes = flat_map hex_pair bytes

-- the bytes of a memory that are to be shown, or that it hasn't all of them
abbrev pub peeked : Peek → (memory : List ℕ) → List ℕ
peeked p memory =
    if nat_le (p.address + p.count) (length memory) then codes "peek " ++ (hex_of (take p.count (drop p.address memory)) ++ codes "\n") else codes "peek out of range\n"

-- after a text, where bytes are to be shown, comes their line
abbrev pub with_peek : Option Peek → (memory text : List ℕ) → List ℕ
with_peek None memory text = text
with_peek (Some p) memory text = text ++ peeked p memory

abbrev pub showing : Option Peek → (memory : List ℕ) → Outcome → Outcome
showing peek memory line = record line { text = with_peek peek memory line.text }

-- The lines of a run of an image that ended so, by the exit code of its calls of proc_exit: where there is one, the host stopped the
-- run, and else it didn't. Other ends have none.
abbrev pub line_of_end : (drill : Option ℕ) → Option Peek → (exit : Option ℕ) → Ending → Option Outcome
line_of_end drill peek None (As (Returns values memory globals)) = Some (showing peek memory (returned_by drill values))
line_of_end drill peek None (As (Traps kind place memory globals)) = Some (showing peek memory (trapped kind place))
line_of_end drill peek None (As Going) = Some steps_spent
line_of_end drill peek None (Fault kind pc) = Some (machine_fault kind pc)
line_of_end drill peek (Some code) (As (Stops memory)) = Some (showing peek memory (exited code))
line_of_end drill peek exit end = None

-- after what the calls of a run write come its lines
abbrev pub after : List ℕ → Outcome → Outcome
after text line = record line { text = text ++ line.text }

-- What is reported of a run of an image whose replies are the host's own: what its calls write, and its lines. By the run with each list of
-- replies.
abbrev pub TellsImageRun : (drill : Option ℕ) → Option Peek → List Import → (List Reply → ImageRun) → Outcome → Type 0
TellsImageRun drill peek imports run o =
    (rs : List Reply) × AreOwn imports (λ q. (run q).calls) rs
    × (line : Outcome) × (line_of_end drill peek (exit_code imports (run rs).calls) (run rs).end ≡ Some line) × (o ≡ after (bytes_written imports (run rs).calls) line)

-- of the function that the image exports under the name
abbrev pub ChecksAndCalls : (drill : Option ℕ) → Option NotRunnable → Image → Given → Outcome → Type 0
ChecksAndCalls drill (Some why) i c o = o ≡ unrunnable why
ChecksAndCalls drill None i c o =
    (e : Export) × (export_named c.export i.exports ≡ Some e)
    × TellsImageRun drill c.peek i.imports (λ rs. run_of_export i e (arguments_of c.arguments) rs c.steps) o

abbrev pub TellsImageCall : (drill : Option ℕ) → Given → Image → Outcome → Type 0
TellsImageCall drill c i o = ChecksAndCalls drill (not_runnable i c.export (types_of_values (arguments_of c.arguments))) i c o

-- A module's run goes on at each weight that so many steps are enough for: 128 for each unit of weight, and 64 more.
abbrev pub GoesOn : (steps : ℕ) → (ℕ → module_runs.Run) → Type 0
GoesOn steps runs = (k : ℕ) → 128 * k + 64 ≤ steps → (runs k).end ≡ Going

-- A module's runs, where its image made these calls and ended so within these steps: the run by the reduction rules has the same calls
-- and the same end, for some weight; or the image goes on after all its steps, its calls are a prefix of the module's for some weight,
-- and the module's run goes on at each weight that the steps were enough for. An image of a module has no faults.
abbrev pub RunsAlike : (steps : ℕ) → List HostCall → Ending → (ℕ → module_runs.Run) → Type 0
RunsAlike steps calls (As Going) runs = (k : ℕ) × BeginsWith (runs k).calls calls × GoesOn steps runs
RunsAlike steps calls (As end) runs = (k : ℕ) × (runs k ≡ record { calls = calls; end = end })
RunsAlike steps calls (Fault kind pc) runs = ⊥

-- What its calls write, and its lines, where the replies are the host's own. By the runs with each list of replies, of the image and of
-- the module.
abbrev pub TellsModuleRun : (drill : Option ℕ) → Option Peek → (steps : ℕ) → List Import → (List Reply → ImageRun) → (List Reply → ℕ → module_runs.Run) → Outcome → Type 0
TellsModuleRun drill peek steps imports run runs o =
    (rs : List Reply) × AreOwn imports (λ q. (run q).calls) rs
    × RunsAlike steps (run rs).calls (run rs).end (runs rs)
    × (line : Outcome) × (line_of_end drill peek (exit_code imports (run rs).calls) (run rs).end ≡ Some line) × (o ≡ after (bytes_written imports (run rs).calls) line)

-- of the function that is exported under the name. Of the image's globals the module's count, which are the first ones.
abbrev pub TellsRun : (drill : Option ℕ) → Module → Given → Outcome → Type 0
TellsRun drill m c o =
    let arguments = arguments_of c.arguments in
    (f : ℕ) × (named c.export (exports_of m.items) ≡ Some f)
    × TellsModuleRun drill c.peek c.steps (imports_of (context_of m.items) m.items)
    (λ rs. own_run (length (context_of m.items).globals) (run_of_export (image_of m) (export_of m (c.export, f)) arguments rs c.steps))
    (module_run m f arguments) o

abbrev pub ChecksAndRuns : (drill : Option ℕ) → Option NotRunnable → Module → Given → Outcome → Type 0
ChecksAndRuns drill (Some why) m c o = o ≡ unrunnable why
ChecksAndRuns drill None m c o = TellsRun drill m c o

-- what each command on a module of so many bytes comes to
abbrev pub TellsCheck : (bytes : ℕ) → Module → Outcome → Type 0
TellsCheck bytes m o = o ≡ accepted (declared_count m.items) bytes

abbrev pub TellsImage : Module → Outcome → Type 0
TellsImage m o = o ≡ compiled (spelling (image_of m))

abbrev pub TellsCall : (drill : Option ℕ) → Given → Module → Outcome → Type 0
TellsCall drill c m o = ChecksAndRuns drill (not_runnable (image_of m) c.export (types_of_values (arguments_of c.arguments))) m c o

-- a drill calls the module's last function, which is exported under this name
abbrev pub drill_call : (steps : ℕ) → Given
drill_call steps = record { export = codes "run"; arguments = []; steps = steps; peek = None }

abbrev pub TellsDrill : (steps : ℕ) → Module → Outcome → Type 0
TellsDrill steps m o = TellsCall (Some (declared_count m.items)) (drill_call steps) m o

-- the module and its image behave alike, and this is reported of it; or the module is refused
abbrev pub OfVerdict : (Module → Outcome → Type 0) → Verdict → Outcome → Type 0
OfVerdict Tells (Accepted m) o = Same m (image_of m) × Tells m o
OfVerdict Tells (Rejected r) o = o ≡ rejected r

-- the command that the words are, of which the first is the program's name; or they are outside the command grammar
abbrev pub command_said : List (String Global) → Option Command
command_said words = command_in (map string_bytes words)

-- where the source failed: the error that decides then of the bytes that came, or that it failed
abbrev pub stopped : Option Refusal → Outcome
stopped None = read_fault
stopped (Some r) = rejected r

-- of a command on a module: by whether the source failed, and the bytes that came
abbrev pub OfModule : ((bytes : ℕ) → Module → Outcome → Type 0) → Bool → List ℕ → Outcome → Type 0
OfModule Tells true bytes o = (s : Option Refusal) × IsStoppedAt bytes s × (o ≡ stopped s)
OfModule Tells false bytes o = (v : Verdict) × IsVerdictOf bytes v × OfVerdict (Tells (length bytes)) v o

-- the sum of 0 to N - 1 is reported, with N + 1 functions; or the steps are spent, which are fewer than so many
abbrev pub TellsSum : Drilled → Outcome → Type 0
TellsSum d o = (o ≡ drill_line (d.count + 1) (pos (sum_below d.count))) ⊎ ((d.steps < 640 * d.count + 448) × (o ≡ steps_spent))

-- The bytes that are made, of the given size, are a module. It and its image behave alike, and this is reported of it, which is the sum
-- wherever the steps suffice.
abbrev pub OfDrill : Drilled → Outcome → Type 0
OfDrill d o = (m : Module) × IsModuleOf (drill_bytes d.count) m × Same m (image_of m) × TellsDrill d.steps m o × TellsSum d o

-- of a command on an image
abbrev pub OfReading : Given → Result Image ℕ → Outcome → Type 0
OfReading c (Ok i) o = TellsImageCall None c i o
OfReading c (Err offset) o = o ≡ bad_image offset

abbrev pub OfImage : Given → Bool → List ℕ → Outcome → Type 0
OfImage c true bytes o = o ≡ read_fault
OfImage c false bytes o = OfReading c (image_or_offset bytes) o

-- how modules are compiled: neither setting has a part in the answer
abbrev pub settings_of : Options → Settings
settings_of o = record { workers = min o.workers 64; batch = min o.batch 1048576 }

-- how many bytes close a batch of bodies, where closed batches are validated before more bytes are read: where no workers are asked for
abbrev pub closing_of : Options → Option ℕ
closing_of o = closing_bytes (settings_of o).workers (settings_of o).batch

-- by what was left in the source before and after
abbrev pub ComesOfModule : (closing : Option ℕ) → ((bytes : ℕ) → Module → Outcome → Type 0) → Bool → (left rest : Option (List ℕ)) → Outcome → Type 0
ComesOfModule closing Tells failed left rest o = (bytes : List ℕ) × AreReceived closing left rest failed bytes × OfModule Tells failed bytes o

-- of each module is reported what `check` reports of its bytes alone
abbrev pub AreChecked : List (List ℕ) → List Outcome → Type 0
AreChecked [] [] = Unit {0}
AreChecked [] (o ∷ os) = ⊥
AreChecked (bytes ∷ list) [] = ⊥
AreChecked (bytes ∷ list) (o ∷ os) = OfModule TellsCheck false bytes o × AreChecked list os

-- the bytes are frames, and of their modules this is reported
abbrev pub OfFrames : List ℕ → Outcome → Type 0
OfFrames bytes o = (list : List (List ℕ)) × Frames bytes list × (os : List Outcome) × AreChecked list os × (o ≡ told_many os)

-- Of several modules, by whether the source failed, and what was left in it before and after: a bad frame among the bytes that came decides,
-- whatever would have followed; else all bytes came, and are frames or are cut off; or the source failed, and nothing is wrong with those
-- that came.
abbrev pub ComesOfMany : Bool → (left rest : Option (List ℕ)) → Outcome → Type 0
ComesOfMany true left rest o = (bytes : List ℕ) × (left ≡ prepend_known bytes rest) × IsFront bytes × (o ≡ read_fault)
ComesOfMany false left rest o =
    (bytes : List ℕ) × (left ≡ prepend_known bytes rest)
    × (((at : ℕ) × IsBadFrame bytes at × (o ≡ bad_frame at)) ⊎ (IsAtEnd rest × IsCutOff bytes × (o ≡ bad_frame (length bytes))) ⊎ (IsAtEnd rest × OfFrames bytes o))

-- what the words, the source's failing and what it gave come to
abbrev pub ComesTo : Option Command → Bool → (left rest : Option (List ℕ)) → Outcome → Type 0
ComesTo None failed left rest o = o ≡ usage
ComesTo (Some (Check options)) failed left rest o = ComesOfModule (closing_of options) TellsCheck failed left rest o
ComesTo (Some (Compile options)) failed left rest o = ComesOfModule (closing_of options) (λ bytes m. TellsImage m) failed left rest o
ComesTo (Some (Many options)) failed left rest o = ComesOfMany failed left rest o
ComesTo (Some (Run r)) failed left rest o = ComesOfModule (closing_of r.options) (λ bytes m. TellsCall None r.call m) failed left rest o
ComesTo (Some (Exec c)) failed left rest o = (bytes : List ℕ) × AreReceivedUpTo image_input left rest failed bytes × OfImage c failed bytes o
ComesTo (Some (Drill d)) failed left rest o = OfDrill d o

-- outside the command grammar, and for `drill`, nothing is read
abbrev pub ReadsNothing : Option Command → Type 0
ReadsNothing None = Unit {0}
ReadsNothing (Some (Check options)) = ⊥
ReadsNothing (Some (Compile options)) = ⊥
ReadsNothing (Some (Many options)) = ⊥
ReadsNothing (Some (Run r)) = ⊥
ReadsNothing (Some (Exec c)) = ⊥
ReadsNothing (Some (Drill d)) = Unit {0}

-- ---- what is written

-- what was answered and written of an outcome: where the sink failed, a prefix of its text; else its status and its text
abbrev pub Told : ℕ → Outcome → Bool → Option (List ℕ) → Option (List ℕ) → Type 0
Told status o true old new = (status ≡ 7) × (n : ℕ) × (new ≡ append_known old (take n o.text))
Told status o false old new = (status ≡ o.status) × (new ≡ append_known old o.text)

-- what a call answered and wrote: out of memory, and the sink is untouched; else what the words and the bytes come to
abbrev pub AnswersAndWrites : (untouched : Type 0) → Option Command → Bool → (left rest : Option (List ℕ)) → ℕ → Bool → Option (List ℕ) → Option (List ℕ) → Type 0
AnswersAndWrites untouched command source_failed left rest status sink_failed old new =
    ((status ≡ 8) × untouched × (sink_failed ≡ false) × (new ≡ old))
    ⊎ ((o : Outcome) × ComesTo command source_failed left rest o × Told status o sink_failed old new)
