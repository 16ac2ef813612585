-- Hosts: what a call and its reply are, and calls that lead a host from one to another (WebAssembly Core 1.0, 4.4.7.3).
use Rattle.std.specs.Prelude.{◌≡◌, ℕ, List, [], ◌∷◌, ◌++◌, map, take, replicate, Option, None, Some, option_map}
use Rattle.wasm_defs.specs.declared.value.Value.{Value as Given}
use Rattle.wasm_defs.specs.Values.{Value, value_of}
use Rattle.wasm_defs.specs.Host.{HostCall, Patch, Reply, Answer, Stop}
use Rattle.image_run.specs.declared.host.Patch.{Patch as GivenPatch}
use Rattle.image_run.specs.declared.host.Reply.{Reply as GivenReply}
use Rattle.image_run.specs.declared.host.Reply.TheVariants as given

-- one value, or none
abbrev pub values_of : Option Given → List Value
values_of None = []
values_of (Some v) = value_of v ∷ []

abbrev pub call_of : (number : ℕ) → List Given → (memory : List ℕ) → HostCall
call_of number arguments memory = record { number = number; arguments = map value_of arguments; memory = memory }

-- so many of the patch's bytes: where it says that there are more than it has, those are zeros
abbrev pub patch_of : GivenPatch → Patch
patch_of p = record { place = p.place; bytes = take p.len (p.bytes ++ replicate p.len 0) }

abbrev pub reply_of : GivenReply → Reply
reply_of (given.Value value patch) = Answer (values_of value) (option_map patch_of patch)
reply_of given.Stop = Stop

-- the calls, answered one after another by these replies, lead a host from one to another: there is a reply to each call. Answers
-- says which hosts a call may lead to: the host before it, the call, its reply and the host after it.
abbrev pub Leads : {H : Type 0} → (H → HostCall → Reply → H → Type 0) → H → List HostCall → List Reply → H → Type 0
Leads Answers from [] [] to = to ≡ from
Leads Answers from [] (r ∷ rs) to = ⊥
Leads Answers from (c ∷ cs) [] to = ⊥
Leads {H} Answers from (c ∷ cs) (r ∷ rs) to = (next : H) × Answers from c r next × Leads Answers next cs rs to
