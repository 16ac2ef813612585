-- What a call of an image's function comes to.
use Rattle.std.specs.Prelude.{◌≡◌, ℕ, Bool, true, false, List, Option, None, Ok, Err}
use Rattle.command_words.specs.declared.command.Call.{Call}
use Rattle.command_words.specs.declared.peek.Peek.{Peek}
use Rattle.wasm_defs.specs.Host.{all_in_range}
use Rattle.image_format.specs.Contents.{Image}
use Rattle.image_format.specs.Reading.{image_or_offset}
use Rattle.wasm_defs.specs.Values.{Value}
use Rattle.wasi_host.specs.declared.run_end.RunEnd.{RunEnd}
use Rattle.wasi_host.specs.declared.run_end.RunEnd.TheVariants as run_end
use Rattle.stream_compile.specs.declared.foreign.LoadedImage.{LoadedImage}
use Rattle.stream_compile.specs.declared.foreign.LoadedImage.TheVariants as foreign
use Rattle.source_reading.specs.Received.{AreReceivedUpTo, image_input}
use Rattle.stream_compile.specs.Texts.{Outcome, Told, arguments_of, exited, machine_fault, returned_by, showing, steps_spent, trapped, TellsImageCall}

-- the lines of an end of a run, with its results
abbrev pub line_of : (drill : Option ℕ) → RunEnd → (results : List Value) → Outcome
line_of drill (run_end.Returned n) results = returned_by drill results
line_of drill (run_end.Trapped kind place) results = trapped kind place
line_of drill run_end.StepsSpent results = steps_spent
line_of drill (run_end.Exited code) results = exited code
line_of drill (run_end.Fault kind pc) results = machine_fault kind pc

-- bytes are shown after a value, after a trap and after an exit
abbrev pub shown_after : RunEnd → Option Peek → Option Peek
shown_after (run_end.Returned n) peek = peek
shown_after (run_end.Trapped kind place) peek = peek
shown_after run_end.StepsSpent peek = None
shown_after (run_end.Exited code) peek = peek
shown_after (run_end.Fault kind pc) peek = None

-- its lines, with the memory and the results after the run
abbrev pub lines_of : (drill : Option ℕ) → Option Peek → RunEnd → (memory : List ℕ) → (results : List Value) → Outcome
lines_of drill peek end memory results = showing (shown_after end peek) memory (line_of drill end results)

-- what was answered and written is an outcome of these
abbrev pub IsTold : (Outcome → Type 0) → ℕ → Bool → (written written_now : Option (List ℕ)) → Type 0
IsTold Comes status failed written written_now = (o : Outcome) × Comes o × Told status o failed written written_now

-- the arguments are values, and this is the line of the call of the image's function
abbrev pub RunsAs : (drill : Option ℕ) → Image → Call → Outcome → Type 0
RunsAs drill i c o = (all_in_range (arguments_of c.arguments) ≡ true) × TellsImageCall drill c i o

-- what was read of a source is that image, or has its first error there; or the source failed
abbrev pub IsForeign : Bool → (left rest : Option (List ℕ)) → LoadedImage → Type 0
IsForeign failed left rest (foreign.Image i) = (failed ≡ false) × (bytes : List ℕ) × AreReceivedUpTo image_input left rest false bytes × (image_or_offset bytes ≡ Ok i)
IsForeign failed left rest (foreign.Bad offset) = (failed ≡ false) × (bytes : List ℕ) × AreReceivedUpTo image_input left rest false bytes × (image_or_offset bytes ≡ Err offset)
IsForeign failed left rest foreign.Failed = (failed ≡ true) × (bytes : List ℕ) × AreReceivedUpTo image_input left rest true bytes
