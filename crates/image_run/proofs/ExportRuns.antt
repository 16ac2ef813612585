-- The run of an export, by steps under replies.
use Rattle.std.proofs.Common.{◌≡◌, ℕ, ◌==◌, if◌then◌else◌, Bool, true, false, List, [], ◌∷◌, refl, ap}
use Rattle.wasm_defs.specs.declared.types.ValType.{ValType}
use Rattle.wasm_defs.specs.Values.{Value}
use Rattle.wasm_defs.specs.Host.{Reply}
use Rattle.image_format.specs.Contents.{Image}
use Rattle.image_format.specs.declared.image.Export.{Export}
use Rattle.image_format.specs.Environment.{Entry}
use Rattle.image_format.specs.ImageRun.{Running, begin, run_of, steps}
use Rattle.image_run.specs.Ends.{run_of_export}
use Rattle.image_run.proofs.ReplyLaws.{with_replies, goes}

module _ (i : Image) (e : Export) (arguments : List Value) where
  abbrev pub called : Entry × List ValType
  called = (record { offset = e.offset; arguments = arguments }, e.signature.results)

  abbrev pub first_if : Bool → List Reply → Running
  first_if b rs = if b then begin i rs called [] else begin i rs (record { offset = i.start; arguments = [] }, []) (called ∷ [])

  unfoldable pub first : Running
  first = first_if (i.start == 0) []

  pub first_with : (b : Bool) (rs : List Reply) → first_if b rs ≡ with_replies (first_if b []) rs
  first_with true rs = refl
  first_with false rs = refl

  first_none : (b : Bool) → (first_if b []).calls ≡ []
  first_none true = refl
  first_none false = refl

  pub first_calls : first.calls ≡ []
  unfolding first
  first_calls = first_none (i.start == 0)

  pub by_goes : (n : ℕ) (rs : List Reply) → run_of_export i e arguments rs n ≡ run_of (goes i n first rs)
  unfolding run_of_export first
  by_goes n rs = ap (λ (r : Running). run_of (steps i n r)) (first_with (i.start == 0) rs)
