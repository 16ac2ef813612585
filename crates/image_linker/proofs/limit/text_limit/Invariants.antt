use Rattle.std.proofs.Common.{◌≡◌, ℕ, suc, ◌^◌, ◌<◌, ◌≤◌, take, length}
use Rattle.wasm_defs.specs.Limits.{max_text}
use Rattle.image_linker.specs.Linking.{words_of}
use Rattle.image_linker.specs.TextLimits.{bytes_up_to}
use Rattle.image_linker.proofs.limit.text_limit.Given as goal

-- the words so far are counted, and keep the limit
abbrev pub invariant-loop-index : goal.invariant-loop-index
invariant-loop-index l =
    (l.words ≡ length (words_of (take l.index l.codes))) × ((j : ℕ) → j < l.index → bytes_up_to l.context l.codes (suc j) ≤ max_text) × (l.words < 2 ^ 80)
