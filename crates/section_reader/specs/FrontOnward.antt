-- What a push reader has left to report of the module, its sections and bodies too (WebAssembly Core 1.0,
-- 5.5).
use Rattle.std.specs.Prelude.{◌≡◌, ℕ, ◌+◌, ◌≤◌, true, false, List, [], ◌++◌, drop, Option, None, Result, Ok, Err}
use Rattle.wasm_defs.specs.declared.fault.Refusal.{Refusal}
use Rattle.wasm_defs.specs.declared.item.Item.{Item}
use Rattle.wasm_defs.specs.declared.item.Item.TheVariants.{Code}
use Rattle.wasm_defs.specs.Faults.{ending_fault}
use Rattle.wasm_defs.specs.Outside.{Part, Ending, Refused, Run, ends, row, entries, sections}
use Rattle.wasm_laws.specs.Steadiness.{with_more}
use Rattle.wasm_defs.specs.declared.front_stop.FrontStop.{FrontStop}
use Rattle.wasm_defs.specs.declared.front_stop.FrontStop.TheVariants as stop
use Rattle.section_reader.specs.declared.front.Front.{Front}
use Rattle.section_reader.specs.Stages.{prepend, is_at_bodies}
use Rattle.section_reader.specs.Onward.{onward, after_parts, AreSections}
use Rattle.section_reader.specs.FrontLeft.{from_there, cursor_of, total, can_skip}

-- what is left of the module, where these bytes come next: its sections and bodies too
abbrev pub remaining_parts : Front → List ℕ → Run
remaining_parts f more = prepend f.waiting (from_there f.refusal (onward f.steps.stage f.steps.seen (with_more (cursor_of f) more)))

-- ---- what was fed

-- sections were reported, and what is left comes after them
pub record Told (old : Front) (bytes : List ℕ) (taken : ℕ) (new : Front) : Type 0 where
  pub told : List Part
  pub sections : AreSections told
  pub run : (more : List ℕ) → remaining_parts old (bytes ++ more) ≡ after_parts told (remaining_parts new (drop taken bytes ++ more))

-- so many bytes were taken; the bodies don't come next, unless an item waits that says so
pub record FedOnward (old : Front) (bytes : List ℕ) (taken : ℕ) (new : Front) : Type 0 where
  pub count : total new ≡ total old + taken
  pub going : old.waiting ≡ None → new.refusal ≡ None
  pub told : is_at_bodies old.steps.stage ≡ false → Told old bytes taken new
  pub apart : is_at_bodies old.steps.stage ≡ false → new.waiting ≡ None → is_at_bodies new.steps.stage ≡ false

-- some sections are reported, and then it is refused, for good
pub record ToldRefused (old : Front) (bytes : List ℕ) (r : Refusal) (new : Front) : Type 0 where
  pub told : List Part
  pub sections : AreSections told
  pub run : (more : List ℕ) → remaining_parts old (bytes ++ more) ≡ after_parts told (ends (Refused r))
  pub stays : (more : List ℕ) → remaining_parts new more ≡ ends (Refused r)

-- what is left is as it was
pub record IsAsItWas (old new : Front) : Type 0 where
  pub run : (more : List ℕ) → remaining_parts new more ≡ remaining_parts old more
  pub steps : new.steps ≡ old.steps
  pub total : total new ≡ total old
  pub waiting : new.waiting ≡ old.waiting

abbrev pub FeedsOnward : Front → List ℕ → Result ℕ FrontStop → Front → Type 0
FeedsOnward old bytes (Ok taken) new = FedOnward old bytes taken new
FeedsOnward old bytes (Err (stop.Refused r)) new = is_at_bodies old.steps.stage ≡ false → ToldRefused old bytes r new
FeedsOnward old bytes (Err stop.NoMemory) new = IsAsItWas old new

-- ---- items

-- so many bodies come next, in a section that ends there
pub record BodiesCome (count end : ℕ) (f : Front) : Type 0 where
  pub skip : can_skip f end ≡ true
  pub ahead : total f ≤ end
  pub few : count ≤ total f
  pub counted : f.steps.seen.counted ≡ true
  pub run : (more : List ℕ) → remaining_parts f more ≡ entries count (row 11) sections f.steps.seen (record { at = total f; rest = more; end = end })

-- after the code section's count the bodies come next, and after no other item
abbrev pub Follows : Item → Front → Type 0
Follows (Code count end) f = BodiesCome count.1 end f
Follows _ f = is_at_bodies f.steps.stage ≡ false

-- ---- the end

-- if no further bytes come: some sections are reported, and how the module ends
pub record EndsOnward (f : Front) (answer : Option Refusal) : Type 0 where
  pub told : List Part
  pub sections : AreSections told
  pub ending : Ending
  pub run : remaining_parts f [] ≡ after_parts told (ends ending)
  pub fault : ending_fault (total f) ending ≡ answer
