-- What the program answers, as an outcome.
use Rattle.std.specs.Prelude.{string_bytes}
use Rattle.stream_compile.specs.declared.output.Output.{Output}
use Rattle.stream_compile.specs.Texts.{Outcome}

-- a status and a text in memory as an outcome
abbrev pub view : Output → Outcome
view a = record { status = a.status; text = string_bytes a.text }
