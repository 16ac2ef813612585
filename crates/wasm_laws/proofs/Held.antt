-- The items of a module hold no more bytes than the module has.
use Rattle.std.proofs.Common.{◌≡◌, ℕ, ◌+◌, ◌≤◌, List, [], ◌∷◌, ◌++◌, length, Some, None, ap, arith, length-append}
use Rattle.wasm_defs.specs.declared.item.Item.{Item}
use Rattle.wasm_defs.specs.declared.item.Item.TheVariants.{Signature, Imported, Function, Table, Memory, Global, Exported, Start, Element, Code, DataCount, Passive, Segment}
use Rattle.wasm_defs.specs.Faults.{Module, IsModule}
use Rattle.wasm_defs.specs.Items.{each_is, name_is, bytes_are, item_is, Section, Payload, Custom, Vector, Starting, Counting, Bodies, payload_is, payload_items, section_is, items_in}
use Rattle.wasm_laws.specs.Held.{held_bytes, all_held}
use Rattle.wasm_laws.specs.Sections.{AreBytes}
use Rattle.wasm_laws.proofs.Bytes.{each_byte}
use Rattle.wasm_laws.proofs.Described.{module_is_described}

run_holds : (run : ℕ × List ℕ) (at : ℕ) (bytes : List ℕ) → bytes_are run at bytes → length run.1 ≤ length bytes
run_holds run at bytes s = omega (arith, ap length s.parts, length-append s.front s.content, ap length s.is)

name_holds : (name : ℕ × List ℕ) (at : ℕ) (bytes : List ℕ) → name_is name at bytes → length name.1 ≤ length bytes
name_holds name at bytes s = run_holds name at bytes s.1

item_holds : (x : Item) (at : ℕ) (bytes : List ℕ) → item_is x at bytes → held_bytes x ≤ length bytes
item_holds (Signature form params results ty) at bytes s = omega arith
item_holds (Imported from what kind type_index) at bytes s =
    let first = name_holds from at s.front s.first in
    let second = name_holds what (at + length s.front) s.second.front s.second.first in
    omega (arith, first, second, ap length s.parts, length-append s.front s.back, ap length s.second.parts, length-append s.second.front s.second.back)
item_holds (Function type_index) at bytes s = omega arith
item_holds (Table element limits) at bytes s = omega arith
item_holds (Memory limits) at bytes s = omega arith
item_holds (Global ty mutable init) at bytes s = omega arith
item_holds (Exported label kind index) at bytes s =
    let first = name_holds label at s.front s.first in
    omega (arith, first, ap length s.parts, length-append s.front s.back)
item_holds (Start index) at bytes s = absurd s
item_holds (Element table place functions) at bytes s = omega arith
item_holds (Code count end) at bytes s = absurd s
item_holds (DataCount count) at bytes s = absurd s
item_holds (Passive form run) at bytes s =
    let last = run_holds run (at + length s.front) s.back s.second in
    omega (arith, last, ap length s.parts, length-append s.front s.back)
item_holds (Segment form None place run) at bytes s =
    let inner = s.second in
    let last = run_holds run (at + length s.front + length inner.front) inner.back inner.second in
    omega (arith, last, ap length s.parts, length-append s.front s.back, ap length inner.parts, length-append inner.front inner.back)
item_holds (Segment form (Some memory) place run) at bytes s =
    let after = s.second in
    let inner = after.second in
    let last = run_holds run (at + length s.front + length after.front + length inner.front) inner.back inner.second in
    omega (arith, last, ap length s.parts, length-append s.front s.back, ap length after.parts, length-append after.front after.back, ap length inner.parts, length-append inner.front inner.back)

items_hold : (xs : List Item) (at : ℕ) (bytes : List ℕ) → each_is item_is xs at bytes → all_held xs ≤ length bytes
items_hold [] at bytes s = omega arith
items_hold (x ∷ xs) at bytes s =
    let first = item_holds x at s.front s.first in
    let rest = items_hold xs (at + length s.front) s.back s.second in
    omega (arith, first, rest, ap length s.parts, length-append s.front s.back)

payload_holds : (p : Payload) (at : ℕ) (bytes : List ℕ) → payload_is p at bytes → all_held (payload_items p) ≤ length bytes
payload_holds (Custom name) at bytes s = omega arith
payload_holds (Vector id count items) at bytes s =
    let vector = s.2 in
    let each = items_hold items (at + length vector.front) vector.back vector.second in
    omega (arith, each, ap length vector.parts, length-append vector.front vector.back)
payload_holds (Starting index) at bytes s = omega arith
payload_holds (Counting count) at bytes s = omega arith
payload_holds (Bodies count end bodies) at run s = omega arith

pub held_append : (xs ys : List Item) → all_held (xs ++ ys) ≡ all_held xs + all_held ys
held_append [] ys = omega arith
held_append (x ∷ xs) ys = omega (arith, held_append xs ys)

sections_hold : (xs : List Section) (at : ℕ) (bytes : List ℕ) → each_is section_is xs at bytes → all_held (items_in xs) ≤ length bytes
sections_hold [] at bytes s = omega arith
sections_hold (x ∷ xs) at bytes s =
    let first = s.first in
    let sized = first.second in
    let here = payload_holds x.payload (at + length first.front + length sized.front) sized.content sized.is in
    let rest = sections_hold xs (at + length s.front) s.back s.second in
    omega (arith, here, rest, held_append (payload_items x.payload) (items_in xs), ap length s.parts, length-append s.front s.back, ap length first.parts, length-append first.front first.back, ap length sized.parts, length-append sized.front sized.content)

pub module_holds : (bytes : List ℕ) (m : Module) → AreBytes bytes → IsModule bytes m → all_held m.items ≤ length bytes
module_holds bytes m fits is =
    let d = module_is_described bytes m (each_byte bytes fits) is in
    let all = d.1.spelled.spelled in
    let behind = all.second in
    let held = sections_hold d.0 _ behind.back behind.second in
    omega (arith, ap all_held d.2, held, ap length all.parts, length-append all.front all.back, ap length behind.parts, length-append behind.front behind.back)
