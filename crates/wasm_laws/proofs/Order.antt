-- The parts of a module are one after the other, before the error that ends reading.
use Rattle.std.proofs.Common.{◌≡◌, ℕ, zero, suc, ◌+◌, ◌≤◌, ◌<◌, List, [], ◌∷◌, ◌++◌, length, Option, None, Some, ap, arith, inl, inr}
use Rattle.std.proofs.lemmas.Bool.{cases_Bool}
use Rattle.wasm_defs.specs.declared.fault.Refusal.{Refusal}
use Rattle.wasm_defs.specs.declared.item.Item.{Item}
use Rattle.wasm_defs.specs.declared.fault.Kind.TheVariants.{Ended}
use Rattle.wasm_defs.specs.Fields.{Cursor, Read, Got, Fault, Wants, room_of, fixed}
use Rattle.wasm_defs.specs.Entries.{Seen, nothing}
use Rattle.wasm_defs.specs.Outside.{Body, Part, Section, Listed, Coded, Row, row, entered, noted, inside, no_end, Ending, Whole, Refused, Owed, Run, after_part, runs_on, Next, finish, entries, contents, section, owes, at_the_end, or_section, sections_up_to, magic, version, preamble, beginning, module_read}
use Rattle.wasm_defs.specs.Faults.{ending_fault, Use, use_of}
use Rattle.wasm_laws.specs.Order.{end_of, BodyStands, UseStands, behind_use, AreOrdered, first_section}
use Rattle.wasm_laws.proofs.Steady.{IfGot, Advance, moves_of, StandsIn}
use Rattle.wasm_laws.proofs.EntryLaws.{header_steady, preamble_steady}
use Rattle.wasm_laws.proofs.Takes.{header_takes}
use Rattle.wasm_laws.proofs.RowLaws.{SteadyRow, row_steady, end_steady}
use Rattle.wasm_laws.proofs.Parts.{then_got, got_both, got_map, fixed_got, UseLies, PartLies, LyingRow, row_lies}

-- where reading so many bytes ends: at the error, or at their number
abbrev pub ending_place : ℕ → Ending → ℕ
ending_place len (Whole seen) = len
ending_place len (Refused r) = r.offset
ending_place len Owed = len

-- a run of so many bytes: its parts from low on, and its end, at from or after
pub record IsOrdered (low from len : ℕ) (r : Run) : Type 0 where
  pub parts : AreOrdered low (ending_place len r.ending) r.parts
  pub after : from ≤ ending_place len r.ending
  pub within : ending_place len r.ending ≤ len

-- ---- parts in order

stands_wider : (low low' last last' : ℕ) (b : Body) → low' ≤ low → last ≤ last' → BodyStands low last b → BodyStands low' last' b
stands_wider low low' last last' b le ge p = record { from = omega (arith, p.from); sized = p.sized; least = p.least; most = p.most; before = omega (arith, p.before) }

-- ---- items

abbrev Used : Type 0
Used = Option Use

pub use_wider : (low low' last last' : ℕ) (o : Used) → low' ≤ low → last ≤ last' → UseStands low last o → UseStands low' last' o
use_wider low low' last last' None le ge p = omega (arith, p)
use_wider low low' last last' (Some u) le ge p = (omega (arith, p.0), omega (arith, p.1))

-- what follows an item is no earlier than it
pub use_goes_on : (low last : ℕ) (o : Used) → UseStands low last o → (low ≤ behind_use low o) × (behind_use low o ≤ last)
use_goes_on low last None p = (omega arith, p)
use_goes_on low last (Some u) p = (omega (arith, p.0), omega (arith, p.1))

behind_lower : (low low' : ℕ) (o : Used) → low' ≤ low → behind_use low' o ≤ behind_use low o
behind_lower low low' None le = le
behind_lower low low' (Some u) le = omega arith

-- before an offset, no earlier than which another part is
pub use_before : (low last place : ℕ) (o : Used) → UseStands low last o → behind_use low o ≤ place → UseStands low place o
use_before low last place None p le = le
use_before low last place (Some u) p le = (p.0, omega arith)

-- an item that was taken
use_taken : (c d : Cursor) (last : ℕ) (o : Used) → c.at ≤ d.at → UseLies c o d → d.at ≤ last → UseStands c.at last o × (behind_use c.at o ≤ d.at)
use_taken c d last None le p ge = (omega arith, le)
use_taken c d last (Some u) le p ge = ((p.0, omega (arith, p.1)), omega (arith, p.1))

-- ---- parts

pub ordered_wider : (low low' last last' : ℕ) (parts : List Part) → low' ≤ low → last ≤ last' → AreOrdered low last parts → AreOrdered low' last' parts
ordered_wider low low' last last' [] le ge p = tt
ordered_wider low low' last last' (Section at id ∷ parts) le ge p = (omega (arith, p.0), omega (arith, p.1), ordered_wider (suc at) (suc at) last last' parts (omega arith) ge p.2)
ordered_wider low low' last last' (Listed x ∷ parts) le ge p = (use_wider low low' last last' (use_of x) le ge p.0, ordered_wider (behind_use low (use_of x)) (behind_use low' (use_of x)) last last' parts (behind_lower low low' (use_of x) le) ge p.1)
ordered_wider low low' last last' (Coded b ∷ parts) le ge p = (stands_wider low low' last last' b le ge p.0, ordered_wider (end_of b) (end_of b) last last' parts (omega arith) ge p.1)

-- what is before a body, and what after it
pub around_body : (low last : ℕ) (front : List Part) (b : Body) (back : List Part) → AreOrdered low last (front ++ Coded b ∷ back) → AreOrdered low b.size front × BodyStands low last b × AreOrdered (end_of b) last back
around_body low last [] b back p = (tt, p.0, p.1)
around_body low last (Section at id ∷ front) b back p =
    let q = around_body (suc at) last front b back p.2 in
    let body = q.1 in
    ((p.0, omega (arith, body.from), q.0), stands_wider (suc at) low last last b (omega (arith, p.0)) (omega arith) body, q.2)
around_body low last (Listed x ∷ front) b back p =
    let q = around_body (behind_use low (use_of x)) last front b back p.1 in
    let body = q.1 in
    ((use_before low last b.size (use_of x) p.0 body.from, q.0), stands_wider (behind_use low (use_of x)) low last last b (use_goes_on low last (use_of x) p.0).0 (omega arith) body, q.2)
around_body low last (Coded a ∷ front) b back p =
    let q = around_body (end_of a) last front b back p.1 in
    let first = p.0 in
    let body = q.1 in
    let later : low ≤ end_of a = omega (arith, first.from, first.sized) in
    ((record { from = first.from; sized = first.sized; least = first.least; most = first.most; before = body.from }, q.0), stands_wider (end_of a) low last last b later (omega arith) body, q.2)

-- what is before a section, and what after its id
pub around_section : (low last : ℕ) (front : List Part) (at id : ℕ) (back : List Part) → AreOrdered low last (front ++ Section at id ∷ back) → AreOrdered low at front × (low ≤ at) × (at ≤ last) × AreOrdered (suc at) last back
around_section low last [] at id back p = (tt, p.0, p.1, p.2)
around_section low last (Section first one ∷ front) at id back p =
    let q = around_section (suc first) last front at id back p.2 in
    ((p.0, omega (arith, q.1), q.0), omega (arith, p.0, q.1), q.2, q.3)
around_section low last (Listed x ∷ front) at id back p =
    let q = around_section (behind_use low (use_of x)) last front at id back p.1 in
    ((use_before low last at (use_of x) p.0 q.1, q.0), omega (arith, (use_goes_on low last (use_of x) p.0).0, q.1), q.2, q.3)
around_section low last (Coded a ∷ front) at id back p =
    let q = around_section (end_of a) last front at id back p.1 in
    let first = p.0 in
    ((record { from = first.from; sized = first.sized; least = first.least; most = first.most; before = q.1 }, q.0), omega (arith, first.from, first.sized, q.1), q.2, q.3)

-- where an item among the parts is, and what after it
pub around_item : (low last : ℕ) (front : List Part) (x : Item) (back : List Part) → AreOrdered low last (front ++ Listed x ∷ back) → (at : ℕ) × UseStands at last (use_of x) × AreOrdered (behind_use at (use_of x)) last back
around_item low last [] x back p = (low, p.0, p.1)
around_item low last (Section at id ∷ front) x back p = around_item (suc at) last front x back p.2
around_item low last (Listed y ∷ front) x back p = around_item (behind_use low (use_of y)) last front x back p.1
around_item low last (Coded b ∷ front) x back p = around_item (end_of b) last front x back p.1

-- ---- runs

run_wider : (low low' from from' len : ℕ) (r : Run) → low' ≤ low → from' ≤ from → IsOrdered low from len r → IsOrdered low' from' len r
run_wider low low' from from' len r le ge p = record {
  parts = ordered_wider low low' (ending_place len r.ending) (ending_place len r.ending) r.parts le (omega arith) p.parts;
  after = omega (arith, p.after);
  within = p.within;
}

-- reading that goes on from a cursor, where so many bytes are there in all
runs_ordered : {A : Type 0} (P : A → Cursor → Type 0) (low len : ℕ) (c : Cursor) (x : Read A) (f : A → Cursor → Run) → c.at + length c.rest ≡ len → StandsIn c.at c x → IfGot P x → ((a : A) (d : Cursor) → P a d → IsOrdered low c.at len (f a d)) → IsOrdered low c.at len (runs_on x f)
runs_ordered P low len c (Got a d) f e p q h = h a d q
runs_ordered P low len c (Fault r) f e p q h = record { parts = tt; after = p.from; within = omega (arith, p.within) }
runs_ordered P low len c Wants f e p q h = record { parts = tt; after = omega arith; within = omega arith }

-- a part that was taken is before what comes next
part_ordered : (c d : Cursor) (len : ℕ) (x : Part) (r : Run) → c.at ≤ d.at → PartLies c x d → IsOrdered d.at d.at len r → IsOrdered c.at c.at len (after_part x r)
part_ordered c d len (Section at id) r le p q = absurd p
part_ordered c d len (Listed x) r le p q =
    let item = use_taken c d (ending_place len r.ending) (use_of x) le p q.after in
    record { parts = (item.0, ordered_wider d.at (behind_use c.at (use_of x)) (ending_place len r.ending) (ending_place len r.ending) r.parts item.1 (omega arith) q.parts); after = omega (arith, q.after); within = q.within }
part_ordered c d len (Coded b) r le p q = record {
  parts = (record { from = p.from; sized = p.sized; least = p.least; most = p.most; before = omega (arith, p.taken, q.after) }, ordered_wider d.at (end_of b) (ending_place len r.ending) (ending_place len r.ending) r.parts p.taken (omega arith) q.parts);
  after = omega (arith, q.after);
  within = q.within;
}

abbrev Orders : ℕ → Next → Type 0
Orders len next = (seen : Seen) (c : Cursor) → c.at + length c.rest ≡ len → IsOrdered c.at c.at len (next seen c)

-- how far was read, with the bytes that are left
abbrev Sum : ℕ → Cursor → Cursor → Type 0
Sum len c d = (c.at ≤ d.at) × (d.at + length d.rest ≡ len)

sum_on : (len : ℕ) (c d : Cursor) → c.at + length c.rest ≡ len → Advance c d → Sum len c d
sum_on len c d e p = let m = moves_of c d p in (omega (arith, m.at), omega (arith, m.at, m.rest))

module _ (len : ℕ) (r : Row) (steady : SteadyRow r) (lies : LyingRow r) (next : Next) (orders : Orders len next) where
  finish_orders : Orders len (finish r next)
  finish_orders seen c e =
      runs_ordered (λ x d. Advance c d) c.at len c _ _ e (steady.back.place c.at c (omega arith) tt) (steady.back.moves c)
      (λ x d p.
      let s = sum_on len c d e p in
      run_wider d.at c.at d.at c.at len _ s.0 s.0 (runs_ordered (λ y f. (room_of d ≡ 0) × (f ≡ inside d no_end)) d.at len d _ _ s.1 (end_steady.place d) (end_steady.leaves d)
      (λ y f q. rw q.1 (orders seen (inside d no_end) s.1))))

  entries_order : (n : ℕ) → Orders len (entries n r next)
  entries_order zero seen c e = finish_orders seen c e
  entries_order (suc n) seen c e =
      runs_ordered (λ x d. Advance c d × PartLies c x d) c.at len c _ _ e ((steady.entry seen).place c.at c (omega arith) tt) (got_both _ _ _ ((steady.entry seen).moves c) (lies.entry seen c))
      (λ x d p.
      let s = sum_on len c d e p.0 in
      part_ordered c d len x _ s.0 p.1 (entries_order n (noted seen x) d s.1))

  contents_order : Orders len (contents r next)
  contents_order seen c e =
      runs_ordered (λ n d. Advance c d) c.at len c _ _ e ((steady.front seen).place c.at c (omega arith) tt) ((steady.front seen).moves c)
      (λ n d p.
      let s = sum_on len c d e p in
      run_wider d.at c.at d.at c.at len _ s.0 s.0 (entries_order n seen d s.1))

-- a section follows its id, but for an error of its header
section_orders : (len : ℕ) (next : Next) → Orders len next → (seen : Seen) (c : Cursor) → c.at + length c.rest ≡ len → IsOrdered (suc c.at) c.at len (section next seen c)
section_orders len next orders seen c e =
    runs_ordered (λ h d. Advance c d × (length d.rest < length c.rest)) (suc c.at) len c _ _ e ((header_steady [] seen).place c.at c (omega arith) tt) (got_both _ _ _ ((header_steady [] seen).moves c) ((header_takes seen).some c))
    (λ h d p.
    let s = sum_on len c d e p.0 in
    let m = moves_of c d p.0 in
    let behind : suc c.at ≤ d.at = omega (arith, m.at, m.rest, p.1) in
    run_wider d.at (suc c.at) d.at c.at len _ behind s.0 (contents_order len (row h.0) (row_steady h.0) (row_lies h.0) next orders (entered seen h.0) (inside d h.1) s.1))

ends_ordered : (len : ℕ) (seen : Seen) (at : ℕ) → at ≤ len → IsOrdered at at len (at_the_end seen)
ends_ordered len seen at le =
    elim (cases_Bool (owes seen)) [
      | inl code ↦ rw code (record { parts = tt; after = le; within = omega arith })
      | inr none ↦ rw none (record { parts = tt; after = le; within = omega arith })
    ]

or_orders : (len : ℕ) (next : Next) → Orders len next → (seen : Seen) (c : Cursor) (rest : List ℕ) → c.at + length c.rest ≡ len → IsOrdered c.at c.at len (or_section next seen c rest)
or_orders len next orders seen c [] e = ends_ordered len seen c.at (omega arith)
or_orders len next orders seen c (b ∷ rest) e =
    let s = section_orders len next orders seen c e in
    record { parts = (omega arith, s.after, s.parts); after = s.after; within = s.within }

up_to_orders : (len n : ℕ) → Orders len (sections_up_to n)
unfolding sections_up_to
up_to_orders len zero seen c e = record { parts = tt; after = omega arith; within = omega arith }
up_to_orders len (suc n) seen c e = or_orders len (sections_up_to n) (up_to_orders len n) seen c c.rest e

-- ---- modules

preamble_ends : (c : Cursor) → IfGot (λ v d. d.at ≡ c.at + first_section) (preamble c)
unfolding preamble
preamble_ends c =
    then_got (λ m d. d.at ≡ c.at + 4) _ (fixed magic c) _ (fixed_got magic c)
    (λ m d p. then_got (λ v e. e.at ≡ d.at + 4) _ (fixed version d) _ (fixed_got version d) (λ v e q. omega arith))

preamble_got : (bytes : List ℕ) → IfGot (λ v d. Sum (length bytes) (beginning bytes) d × (d.at ≡ first_section)) (preamble (beginning bytes))
preamble_got bytes =
    let c = beginning bytes in
    got_map (λ v d. Advance c d × (d.at ≡ c.at + first_section)) _ (preamble c) (λ v d p. (sum_on (length bytes) c d (omega arith) p.0, omega (arith, p.1))) (got_both _ _ (preamble c) ((preamble_steady []).moves c) (preamble_ends c))

pub module_is_ordered : (bytes : List ℕ) → IsOrdered first_section 0 (length bytes) (module_read bytes)
module_is_ordered bytes =
    let len = length bytes in
    let c = beginning bytes in
    runs_ordered (λ v d. Sum len c d × (d.at ≡ first_section)) first_section len c _ _ (omega arith) ((preamble_steady []).place 0 c (omega arith) tt) (preamble_got bytes)
    (λ v d p. run_wider d.at first_section d.at 0 len _ (omega (arith, p.1)) (omega arith) (up_to_orders len (length d.rest + 1) nothing d p.0.1))

-- the error of what is outside bodies, if there is one, is where reading ends
fault_ends : (len : ℕ) (ending : Ending) (r : Refusal) → ending_fault len ending ≡ Some r → ending_place len ending ≡ r.offset
fault_ends len (Whole seen) r e = absurd cc
fault_ends len (Refused s) r e = let same : s ≡ r = cc in ap (λ (t : Refusal). t.offset) same
fault_ends len Owed r e =
    let same : record { offset = len; kind = Ended } ≡ r = cc in ap (λ (t : Refusal). t.offset) same

pub parts_before_fault : (bytes : List ℕ) (r : Refusal) → ending_fault (length bytes) (module_read bytes).ending ≡ Some r → AreOrdered first_section r.offset (module_read bytes).parts × (r.offset ≤ length bytes)
parts_before_fault bytes r e =
    let run = module_read bytes in
    let p = module_is_ordered bytes in
    let at = fault_ends (length bytes) run.ending r e in
    (rw (← at) p.parts, omega (arith, p.within))

pub parts_in_module : (bytes : List ℕ) → AreOrdered first_section (length bytes) (module_read bytes).parts
parts_in_module bytes =
    let run = module_read bytes in
    let p = module_is_ordered bytes in
    ordered_wider first_section first_section (ending_place (length bytes) run.ending) (length bytes) run.parts (omega arith) p.within p.parts
