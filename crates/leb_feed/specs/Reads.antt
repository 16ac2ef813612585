-- What a method does, by a reader of the definitions.
use Rattle.std.specs.Prelude.{◌≡◌, Result, Ok, Err}
use Rattle.wasm_defs.specs.Fields.{Cursor, Read, Got, Fault, Wants, Reader}
use Rattle.leb_feed.specs.declared.stop.Stop.{Stop}
use Rattle.leb_feed.specs.declared.stop.Stop.TheVariants as stop

abbrev pub Stops : {A : Type 0} → Stop → Read A → Type 0
Stops (stop.Refused r) read = read ≡ Fault r
Stops stop.Wants read = read ≡ Wants
Stops stop.NoMemory read = Unit {0}

-- what was read, seen by view, and where reading is then; or why it stopped
abbrev pub Reads : {A B : Type 0} → Reader A → (B → A) → Result B Stop → Cursor → Cursor → Type 0
Reads p view (Ok x) old new = p old ≡ Got (view x) new
Reads p view (Err s) old new = Stops s (p old)

-- what takes no memory doesn't report out of memory
abbrev pub NeedsNoMemory : {B : Type 0} → Result B Stop → Type 0
NeedsNoMemory (Ok x) = Unit {0}
NeedsNoMemory (Err (stop.Refused r)) = Unit {0}
NeedsNoMemory (Err stop.Wants) = Unit {0}
NeedsNoMemory (Err stop.NoMemory) = ⊥
