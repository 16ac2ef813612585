-- Each entry of a section takes a byte at least, and so does a section.
use Rattle.std.proofs.Common.{ℕ, ◌<◌, Bool, true, false, cond, [], ◌∷◌, length, arith}
use Rattle.wasm_defs.specs.declared.item.Item.{Item}
use Rattle.wasm_defs.specs.Fields.{Cursor, Read, Got, Fault, Wants, Reader, then_go, ◌>>=◌, count}
use Rattle.wasm_defs.specs.Entries.{Seen, index, value_type, limits, start, code, data_count}
use Rattle.wasm_defs.specs.Outside.{listed, code_entry, body, header}
pub use Rattle.wasm_laws.specs.Steadiness.{LeavesFewer, Takes}
use Rattle.wasm_laws.proofs.Steady.{Advances, moves_of, Steady, IfGot, IsMarked, Field, done_steady}
use Rattle.wasm_laws.proofs.EntryLaws.{parts}

fewer_on : {A : Type 0} (c d : Cursor) (x : Read A) → length d.rest < length c.rest → Advances d x → LeavesFewer c x
fewer_on c d (Got x e) h p = let m = moves_of d e p in omega (arith, m.rest)
fewer_on c d (Fault r) h p = tt
fewer_on c d Wants h p = tt

then_fewer : {A B : Type 0} (c : Cursor) (x : Read A) (f : A → Reader B) → LeavesFewer c x → ((a : A) (d : Cursor) → Advances d (f a d)) → LeavesFewer c (then_go x f)
then_fewer c (Got a d) f h moves = fewer_on c d (f a d) h (moves a d)
then_fewer c (Fault r) f h moves = tt
then_fewer c Wants f h moves = tt

marked_fewer : {A : Type 0} (c : Cursor) (x : Read (ℕ × A)) → Advances c x → IfGot (IsMarked c) x → LeavesFewer c x
marked_fewer c (Got x d) p q = let m = moves_of c d p in omega (arith, m.rest, m.at, q.0, q.1)
marked_fewer c (Fault r) p q = tt
marked_fewer c Wants p q = tt

pub field_takes : {A : Type 0} (p : Reader (ℕ × A)) → Field p → Takes p
field_takes p h = record { some = λ c. marked_fewer c (p c) ((h.steady []).moves c) (h.marked c) }

-- what begins with a field
pub from_field : {A B : Type 0} (p : Reader (ℕ × A)) (f : ℕ × A → Reader B) → Field p → ((x : ℕ × A) → Steady (x.0 ∷ []) (f x)) → Takes (p >>= f)
from_field p f h steady = record { some = λ c. then_fewer c (p c) f ((field_takes p h).some c) (λ x d. (steady x).moves d) }

pub from_taking : {A B : Type 0} (p : Reader A) (f : A → Reader B) → Takes p → ((x : A) → Steady [] (f x)) → Takes (p >>= f)
from_taking p f h steady = record { some = λ c. then_fewer c (p c) f (h.some c) (λ x d. (steady x).moves d) }

pub either_takes : {A : Type 0} (b : Bool) (p q : Reader A) → Takes p → Takes q → Takes (cond b p q)
either_takes true p q hp hq = hp
either_takes false p q hp hq = hq

pub ruleset taking = (from_field, from_taking, either_takes, field_takes, parts)

pub index_takes : (most : ℕ) → Takes (index most)
unfolding index
index_takes most = search taking depth 40

pub value_type_takes : Takes value_type
unfolding value_type
value_type_takes = search taking depth 40

pub limits_takes : (most top : ℕ) → Takes (limits most top)
unfolding limits
limits_takes most top = search taking depth 40

pub ruleset firsts = (index_takes, value_type_takes, limits_takes, taking)

pub start_takes : (seen : Seen) → Takes (start seen)
unfolding start
start_takes seen = search firsts depth 40

pub code_takes : (seen : Seen) → Takes (code seen)
unfolding code
code_takes seen = search firsts depth 40

pub data_count_takes : (seen : Seen) → Takes (data_count seen)
unfolding data_count count
data_count_takes seen = search firsts depth 40

pub body_takes : (counted : Bool) → Takes (body counted)
unfolding body
body_takes counted = search firsts depth 40

pub header_takes : (seen : Seen) → Takes (header seen)
unfolding header
header_takes seen = search firsts depth 40

pub listed_takes : (p : Reader Item) → Takes p → Takes (listed p)
listed_takes p h = from_taking p _ h (λ x. done_steady [] _)

pub code_entry_takes : (seen : Seen) → Takes (code_entry seen)
code_entry_takes seen = either_takes _ _ _ (body_takes _) (listed_takes _ (code_takes seen))
