-- What an entry of a section is: an item, or in the code section a body that is in what was taken.
use Rattle.std.proofs.Common.{◌≡◌, ℕ, ◌+◌, ◌≤◌, ◌<◌, Bool, true, false, cond, ltb, ◌||◌, eqb, List, [], length, Option, None, Some, is_some, refl, ap, arith, length-take, inl, inr}
use Rattle.std.proofs.lemmas.Bool.{cases_Bool, cases_lt, lt-ltb, le-ltb, or_parts, ltb-false}
use Rattle.wasm_defs.specs.declared.item.Item.{Item}
use Rattle.wasm_defs.specs.declared.fault.Kind.TheVariants.{Invalid}
use Rattle.wasm_defs.specs.Limits.{max_body}
use Rattle.wasm_defs.specs.Fields.{Cursor, Read, Got, Fault, Wants, Reader, then_go, past, room_of, window, byte, u32, name, room, here, run, agree, fixed, done, refused}
use Rattle.wasm_defs.specs.Entries.{Seen, refused_opcode, index, signature, imported, function, table, memory, global, exported, start, element, code, data_count, passive, segment}
use Rattle.wasm_defs.specs.Outside.{Body, Part, Section, Listed, Coded, listed, body, entries_of, code_entry, Row, row}
use Rattle.wasm_defs.specs.Faults.{Use, use_of, offset_of_use}
use Rattle.wasm_laws.specs.Order.{end_of}
use Rattle.wasm_laws.proofs.Steady.{IfGot, always, Advance, advance_then, IsMarked}
use Rattle.wasm_laws.proofs.Windows.{cut_got, byte_field}
use Rattle.wasm_laws.proofs.FieldLaws.{u32_field}
use Rattle.wasm_laws.proofs.Names.{name_field}
use Rattle.wasm_laws.proofs.Sorts.{Yields, yielding}

pub then_got : {A B : Type 0} (P : A → Cursor → Type 0) (Q : B → Cursor → Type 0) (x : Read A) (f : A → Reader B) → IfGot P x → ((a : A) (d : Cursor) → P a d → IfGot Q (f a d)) → IfGot Q (then_go x f)
then_got P Q (Got a d) f p h = h a d p
then_got P Q (Fault r) f p h = tt
then_got P Q Wants f p h = tt

pub got_both : {A : Type 0} (P Q : A → Cursor → Type 0) (x : Read A) → IfGot P x → IfGot Q x → IfGot (λ a d. P a d × Q a d) x
got_both P Q (Got a d) p q = (p, q)
got_both P Q (Fault r) p q = tt
got_both P Q Wants p q = tt

-- what was got
pub got_is : {A : Type 0} (P : A → Cursor → Type 0) (r : Read A) (x : A) (d : Cursor) → r ≡ Got x d → IfGot P r → P x d
got_is P (Got y f) x d e h = let a : y ≡ x = cc in let b : f ≡ d = cc in rw (← a, ← b) h
got_is P (Fault r) x d e h = absurd cc
got_is P Wants x d e h = absurd cc

pub got_map : {A : Type 0} (P Q : A → Cursor → Type 0) (x : Read A) → ((a : A) (d : Cursor) → P a d → Q a d) → IfGot P x → IfGot Q x
got_map P Q (Got a d) h p = h a d p
got_map P Q (Fault r) h p = tt
got_map P Q Wants h p = tt

pub either_got : {A : Type 0} (P : A → Cursor → Type 0) (b : Bool) (p q : Reader A) (c : Cursor) → (b ≡ true → IfGot P (p c)) → (b ≡ false → IfGot P (q c)) → IfGot P (cond b p q c)
either_got P true p q c hp hq = hp refl
either_got P false p q c hp hq = hq refl

pub refused_got : {A : Type 0} (P : A → Cursor → Type 0) (b : ℕ × ℕ) (c : Cursor) → IfGot P (refused_opcode b c)
unfolding refused_opcode
refused_got P b c = either_got P (eqb b.1 0xFC) _ _ c (λ prefix. then_got (λ n d. Unit {0}) P (u32 c) _ (always (u32 c)) (λ n d t. tt)) (λ no. tt)

pub fixed_got : (bytes : List ℕ) (c : Cursor) → IfGot (λ v d. d.at ≡ c.at + length bytes) (fixed bytes c)
unfolding fixed
fixed_got bytes c =
    elim (cases_Bool (agree bytes (window c))) [
      | inr other ↦ rw other tt
      | inl same ↦ rw same (elim (cases_lt (length (window c)) (length bytes)) [
        | inl lt ↦ rw (lt-ltb (length (window c)) (length bytes) lt) (cut_got _ _ c)
        | inr ge ↦ rw (le-ltb (length (window c)) (length bytes) ge) refl
      ])
    ]

-- a body of which all bytes were taken
pub record Lies (c d : Cursor) (b : Body) : Type 0 where
  pub from : c.at ≤ b.size
  pub sized : b.size < b.first
  pub least : 2 ≤ length b.bytes
  pub most : length b.bytes ≤ max_body
  pub taken : end_of b ≤ d.at

-- an item that was taken: the index that not every type serves is among what was
abbrev pub UseLies : Cursor → Option Use → Cursor → Type 0
UseLies c None d = Unit {0}
UseLies c (Some u) d = (c.at ≤ offset_of_use u) × (offset_of_use u < d.at)

abbrev pub PartLies : Cursor → Part → Cursor → Type 0
PartLies c (Section at id) d = ⊥
PartLies c (Listed x) d = UseLies c (use_of x) d
PartLies c (Coded b) d = Lies c d b

-- ---- bodies

run_got : (n : ℕ) (c : Cursor) → IfGot (λ bytes d. (length bytes ≡ n) × (d ≡ past c n)) (run n c)
unfolding run
run_got n c =
    elim (cases_lt (length (window c)) n) [
      | inl lt ↦ rw (lt-ltb (length (window c)) n lt) (cut_got _ _ c)
      | inr ge ↦ rw (le-ltb (length (window c)) n ge) (omega (arith, length-take n (window c)), refl)
    ]

body_lies : (counted : Bool) (c : Cursor) → IfGot (PartLies c) (body counted c)
unfolding body room here
body_lies counted c =
    then_got (IsMarked c) (PartLies c) (u32 c) _ (u32_field.marked c)
    (λ n d q.
    elim (cases_Bool (ltb n.1 2 || ltb (room_of d) n.1)) [
      | inl wrong ↦ rw wrong tt
      | inr right ↦
          let some = ltb-false n.1 2 (or_parts (ltb n.1 2) (ltb (room_of d) n.1) right).0 in
          rw right (elim (cases_lt max_body n.1) [
            | inl over ↦ rw (lt-ltb max_body n.1 over) tt
            | inr fits ↦ rw (le-ltb max_body n.1 fits) (then_got (λ bytes e. (length bytes ≡ n.1) × (e ≡ past d n.1)) (PartLies c) (run n.1 d) _ (run_got n.1 d)
                (λ bytes e k. record {
                  from = q.0;
                  sized = q.1;
                  least = omega (arith, k.0);
                  most = omega (arith, k.0);
                  taken = omega (arith, k.0, ap (λ (z : Cursor). z.at) k.1);
                }))
          ])
    ])

-- ---- items

abbrev IsOther : Item → Type 0
IsOther x = use_of x ≡ None

other_lies : (c d : Cursor) (o : Option Use) → o ≡ None → UseLies c o d
other_lies c d None h = tt
other_lies c d (Some u) h = absurd cc

abbrev ItemLies : Cursor → Item → Cursor → Type 0
ItemLies c x d = UseLies c (use_of x) d

others_lie : (entry : Seen → Reader Item) → ((seen : Seen) → Yields IsOther (entry seen)) → (seen : Seen) (c : Cursor) → IfGot (ItemLies c) (entry seen c)
others_lie entry yields seen c = got_map (λ x d. IsOther x) (ItemLies c) (entry seen c) (λ x d h. other_lies c d (use_of x) h) ((yields seen).got c)

signature_other : (seen : Seen) → Yields IsOther (signature seen)
unfolding signature
signature_other seen = search yielding depth 40

function_other : (seen : Seen) → Yields IsOther (function seen)
unfolding function
function_other seen = search yielding depth 40

table_other : (seen : Seen) → Yields IsOther (table seen)
unfolding table
table_other seen = search yielding depth 40

memory_other : (seen : Seen) → Yields IsOther (memory seen)
unfolding memory
memory_other seen = search yielding depth 40

global_other : (seen : Seen) → Yields IsOther (global seen)
unfolding global
global_other seen = search yielding depth 40

exported_other : (seen : Seen) → Yields IsOther (exported seen)
unfolding exported
exported_other seen = search yielding depth 40

element_other : (seen : Seen) → Yields IsOther (element seen)
unfolding element
element_other seen = search yielding depth 40

code_other : (seen : Seen) → Yields IsOther (code seen)
unfolding code
code_other seen = search yielding depth 40

data_count_other : (seen : Seen) → Yields IsOther (data_count seen)
unfolding data_count
data_count_other seen = search yielding depth 40

segment_other : (seen : Seen) → Yields IsOther (segment seen)
unfolding segment passive
segment_other seen = search yielding depth 40

index_lies : (most : ℕ) (c : Cursor) → IfGot (IsMarked c) (index most c)
unfolding index
index_lies most c =
    then_got (IsMarked c) (IsMarked c) (u32 c) _ (u32_field.marked c)
    (λ i d q. either_got (λ (x : ℕ × ℕ) (e : Cursor). IsMarked c x e) (ltb i.1 most) (done i) (refused Invalid i.0) d (λ e. q) (λ e. tt))

start_lies : (seen : Seen) (c : Cursor) → IfGot (ItemLies c) (start seen c)
unfolding start
start_lies seen c = then_got (IsMarked c) (ItemLies c) (index seen.functions c) _ (index_lies seen.functions c) (λ i d q. q)

-- after what was taken, an index of more that is
marked_behind : {A : Type 0} (c d e : Cursor) (x : ℕ × A) → Advance c d → IsMarked d x e → IsMarked c x e
marked_behind c d e x p q = (omega (arith, p.at, q.0), q.1)

imported_lies : (seen : Seen) (c : Cursor) → IfGot (ItemLies c) (imported seen c)
unfolding imported
imported_lies seen c =
    then_got (λ from d. Advance c d) (ItemLies c) (name c) _ ((name_field.steady []).moves c)
    (λ from d first.
    then_got (λ what e. Advance d e) (ItemLies c) (name d) _ ((name_field.steady []).moves d)
    (λ what e second.
    then_got (λ kind f. Advance e f) (ItemLies c) (byte e) _ ((byte_field.steady []).moves e)
    (λ kind f third.
    either_got (ItemLies c) (ltb 3 kind.1) _ _ f (λ t. tt)
    (λ no. either_got (ItemLies c) (ltb 0 kind.1) _ _ f (λ t. tt)
    (λ no. then_got (IsMarked f) (ItemLies c) (index seen.types f) _ (index_lies seen.types f)
    (λ i g q. marked_behind c f g i (advance_then c e f (advance_then c d e first second) third) q))))))

-- ---- rows

listed_lies : (c : Cursor) (x : Read Item) → IfGot (ItemLies c) x → IfGot (PartLies c) (then_go x (λ y d. Got (Listed y) d))
listed_lies c (Got y d) h = h
listed_lies c (Fault r) h = tt
listed_lies c Wants h = tt

pub record LyingRow (r : Row) : Type 0 where
  pub entry : (seen : Seen) (c : Cursor) → IfGot (PartLies c) (r.entry seen c)

either_row : (b : Bool) (p q : Row) → LyingRow p → LyingRow q → LyingRow (cond b p q)
either_row true p q hp hq = hp
either_row false p q hp hq = hq

items_lie : (front : Seen → Reader ℕ) (entry : Seen → Reader Item) → ((seen : Seen) (c : Cursor) → IfGot (ItemLies c) (entry seen c)) → LyingRow (entries_of front entry)
items_lie front entry lie = record { entry = λ seen c. listed_lies c (entry seen c) (lie seen c) }

code_lies : (seen : Seen) (c : Cursor) → IfGot (PartLies c) (code_entry seen c)
code_lies seen c = either_got (PartLies c) seen.counted (body (is_some seen.data_count)) (listed (code seen)) c (λ e. body_lies (is_some seen.data_count) c) (λ e. listed_lies c (code seen c) (others_lie code code_other seen c))

pub row_lies : (id : ℕ) → LyingRow (row id)
row_lies id =
    either_row (eqb id 1) _ _ (items_lie _ _ (others_lie signature signature_other))
    (either_row (eqb id 2) _ _ (items_lie _ _ imported_lies)
    (either_row (eqb id 3) _ _ (items_lie _ _ (others_lie function function_other))
    (either_row (eqb id 4) _ _ (items_lie _ _ (others_lie table table_other))
    (either_row (eqb id 5) _ _ (items_lie _ _ (others_lie memory memory_other))
    (either_row (eqb id 6) _ _ (items_lie _ _ (others_lie global global_other))
    (either_row (eqb id 7) _ _ (items_lie _ _ (others_lie exported exported_other))
    (either_row (eqb id 8) _ _ (items_lie _ _ start_lies)
    (either_row (eqb id 9) _ _ (items_lie _ _ (others_lie element element_other))
    (either_row (eqb id 10) _ _ (items_lie _ _ (others_lie data_count data_count_other))
    (either_row (eqb id 11) _ _ (record { entry = code_lies })
    (either_row (eqb id 12) _ _ (items_lie _ _ (others_lie segment segment_other))
    (record { entry = λ seen c. listed_lies c _ (start_lies seen c) }))))))))))))
