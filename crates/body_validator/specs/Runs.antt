-- Locals as runs of one type, which follow so many other locals.
use Rattle.std.specs.Prelude.{ℕ, ◌-◌, ◌≤◌, List, [], ◌∷◌, ◌++◌, replicate}
use Rattle.wasm_defs.specs.Typing.{Types}
use Rattle.body_validator.specs.declared.locals.Run.{Run}

-- how many locals there are up to and with the last run
abbrev pub end_of : ℕ → List Run → ℕ
end_of start [] = start
end_of start (r ∷ rs) = end_of r.end rs

-- the types of the runs' locals
abbrev pub run_types : ℕ → List Run → Types
run_types start [] = []
run_types start (r ∷ rs) = replicate (r.end - start) r.ty ++ run_types r.end rs

-- no run ends before the one that it follows
abbrev pub AreRising : ℕ → List Run → Type 0
AreRising start [] = Unit {0}
AreRising start (r ∷ rs) = (start ≤ r.end) × AreRising r.end rs
