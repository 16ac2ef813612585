-- Replies that are the host's own: they answer the calls that a run with them makes.
use Rattle.std.specs.Prelude.{◌≡◌, List}
use Rattle.wasm_defs.specs.Host.{HostCall, Reply}
use Rattle.image_format.specs.declared.image.Import.{Import}
use Rattle.wasi_host.specs.Answers.{replies}

-- by the calls of the run with a list of replies
abbrev pub AreOwn : List Import → (List Reply → List HostCall) → List Reply → Type 0
AreOwn imports calls rs = rs ≡ replies imports (calls rs)
