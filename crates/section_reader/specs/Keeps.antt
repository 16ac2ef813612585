-- What a push reader does with bytes that may complete nothing.
use Rattle.std.specs.Prelude.{◌≡◌, ℕ, List, length, Bool, true, false, Result, Ok, Err}
use Rattle.std.specs.declared.alloc.AllocError.{AllocError}
use Rattle.section_reader.specs.declared.front.Front.{Front}
use Rattle.section_reader.specs.FrontLeft.{Fed}
use Rattle.section_reader.specs.FrontOnward.{FedOnward}

-- all of them were taken
pub record Kept (old : Front) (bytes : List ℕ) (new : Front) : Type 0 where
  pub fed : Fed old bytes (length bytes) new
  pub onward : FedOnward old bytes (length bytes) new

-- nothing changed
pub record IsStill (old new : Front) : Type 0 where
  pub steps : new.steps ≡ old.steps
  pub at : new.at ≡ old.at
  pub end : new.end ≡ old.end
  pub kept : new.kept.items ≡ old.kept.items
  pub waiting : new.waiting ≡ old.waiting
  pub refusal : new.refusal ≡ old.refusal

-- they were kept, or nothing changed
abbrev pub Keeps : Front → List ℕ → Result Bool AllocError → Front → Type 0
Keeps old bytes (Ok true) new = Kept old bytes new
Keeps old bytes (Ok false) new = IsStill old new
Keeps old bytes (Err e) new = IsStill old new
