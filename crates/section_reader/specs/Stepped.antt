-- What a step does, and what steps up to an item do.
use Rattle.std.specs.Prelude.{◌≡◌, ◌<◌, ℕ, false, List, Option, None, IfSome, Result, Ok, Err}
use Rattle.wasm_defs.specs.declared.fault.Refusal.{Refusal}
use Rattle.wasm_defs.specs.declared.item.Item.{Item}
use Rattle.wasm_defs.specs.Fields.{Cursor}
use Rattle.wasm_defs.specs.Outside.{Part, Refused, ends}
use Rattle.wasm_laws.specs.Steadiness.{with_more}
use Rattle.leb_feed.specs.declared.stop.Stop.{Stop}
use Rattle.wasm_defs.specs.declared.front_stop.FrontStop.{FrontStop}
use Rattle.wasm_defs.specs.declared.front_stop.FrontStop.TheVariants as front
use Rattle.section_reader.specs.declared.steps.Steps.{Steps}
use Rattle.section_reader.specs.Counts.{IsSound}
use Rattle.section_reader.specs.Stages.{proceed, prepend, unfinished, is_at_bodies, Passed, Leads, work_left, Halts, IsSameButLast}
use Rattle.section_reader.specs.Onward.{onward, after_parts, AreSections, stalled, HaltsOnward, IsOrdered, IsBehind}

-- what a step reports of the module: some sections, and an item, if there is one
pub record Tells (old : Steps) (c : Cursor) (item : Option Item) (new : Steps) (d : Cursor) : Type 0 where
  pub told : List Part
  pub sections : AreSections told
  pub run : (more : List ℕ) → onward old.stage old.seen (with_more c more) ≡ after_parts told (prepend item (onward new.stage new.seen (with_more d more)))

-- outside the bodies it is reported so; and the code section's count alone leads to the bodies
pub record GoesOnward (old : Steps) (c : Cursor) (item : Option Item) (new : Steps) (d : Cursor) : Type 0 where
  pub tells : is_at_bodies old.stage ≡ false → Tells old c item new d
  pub apart : is_at_bodies old.stage ≡ false → item ≡ None → is_at_bodies new.stage ≡ false
  pub ordered : IsOrdered new.stage new.seen
  pub behind : IfSome item (λ x. IsBehind x new.stage new.seen d.end)

-- some sections are reported, and then it is refused
pub record RefusedOnward (old : Steps) (c : Cursor) (r : Refusal) : Type 0 where
  pub told : List Part
  pub sections : AreSections told
  pub run : (more : List ℕ) → onward old.stage old.seen (with_more c more) ≡ after_parts told (ends (Refused r))

pub record Goes (old : Steps) (c : Cursor) (item : Option Item) (new : Steps) (d : Cursor) : Type 0 where
  pub leads : Leads old.stage old.seen c item new.stage new.seen d
  pub sound : IsSound new.seen d
  pub less : item ≡ None → work_left new.stage d < work_left old.stage c
  pub same : item ≡ None → IsSameButLast old.seen new.seen
  pub passed : Passed c d
  pub tells : IsOrdered old.stage old.seen → GoesOnward old c item new d

-- an item or none, or why reading stops, and then all is as it was
abbrev pub Stepped : Steps → Cursor → Result (Option Item) Stop → Steps → Cursor → Type 0
Stepped old c (Ok item) new d = Goes old c item new d
Stepped old c (Err s) new d = Halts old.stage old.seen c s × (new ≡ old) × (d ≡ c) × (IsOrdered old.stage old.seen → is_at_bodies old.stage ≡ false → HaltsOnward old.stage old.seen c s)

-- up to an item, or as far as the bytes go
pub record Reached (old : Steps) (c : Cursor) (item : Option Item) (new : Steps) (d : Cursor) : Type 0 where
  pub leads : Leads old.stage old.seen c item new.stage new.seen d
  pub sound : IsSound new.seen d
  pub passed : Passed c d
  pub stuck : item ≡ None → proceed new.stage new.seen d ≡ unfinished new.stage new.seen d
  pub same : item ≡ None → IsSameButLast old.seen new.seen
  pub tells : IsOrdered old.stage old.seen → GoesOnward old c item new d
  pub stalls : IsOrdered old.stage old.seen → is_at_bodies new.stage ≡ false → item ≡ None → onward new.stage new.seen d ≡ stalled new.stage new.seen d

abbrev pub Reaches : Steps → Cursor → Result (Option Item) FrontStop → Steps → Cursor → Type 0
Reaches old c (Ok item) new d = Reached old c item new d
Reaches old c (Err (front.Refused r)) new d = ((more : List ℕ) → proceed old.stage old.seen (with_more c more) ≡ ends (Refused r)) × IsSameButLast old.seen new.seen × (IsOrdered old.stage old.seen → is_at_bodies old.stage ≡ false → RefusedOnward old c r)
Reaches old c (Err front.NoMemory) new d = IsSameButLast old.seen new.seen
