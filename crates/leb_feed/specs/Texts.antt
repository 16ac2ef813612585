-- A text (WebAssembly Core 1.0, 5.2.4) whose bytes come in pieces.
use Rattle.std.specs.Prelude.{ℕ, List, [], ◌∷◌, Option, Some, None}
use Rattle.wasm_defs.specs.declared.text.Inside.{Inside}
use Rattle.wasm_defs.specs.Text.{next_byte}

-- where a text is after these bytes, if they are right so far
abbrev pub text_state : Option Inside → List ℕ → Option Inside
text_state None bytes = None
text_state (Some s) [] = Some s
text_state (Some s) (b ∷ bytes) = text_state (next_byte s b) bytes
