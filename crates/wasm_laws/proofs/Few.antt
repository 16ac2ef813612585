-- A run has no more parts than there are bytes.
use Rattle.std.proofs.Common.{◌≡◌, ℕ, zero, suc, ◌+◌, ◌≤◌, ◌<◌, List, [], ◌∷◌, length, refl, ap, arith, inl, inr}
use Rattle.std.proofs.lemmas.Bool.{cases_Bool}
use Rattle.wasm_defs.specs.Fields.{Cursor, Read, Got, Fault, Wants}
use Rattle.wasm_defs.specs.Entries.{Seen, nothing}
use Rattle.wasm_defs.specs.Outside.{Part, Section, Row, row, header, entered, noted, inside, Run, after_part, runs_on, Next, finish, entries, contents, section, position_of, owes, at_the_end, or_section, sections_up_to, preamble, beginning, module_read}
use Rattle.wasm_laws.specs.Steadiness.{Advances, LeavesFewer, Leaves, SteadyRow}
use Rattle.wasm_laws.proofs.Steady.{moves_of}
use Rattle.wasm_laws.proofs.EntryLaws.{preamble_steady}
use Rattle.wasm_laws.proofs.Takes.{header_takes}
use Rattle.wasm_laws.proofs.RowLaws.{row_steady, end_steady}

record Few (most : ℕ) (r : Run) : Type 0 where
  parts : length r.parts ≤ most

few_more : (n m : ℕ) (r : Run) → n ≤ m → Few n r → Few m r
few_more n m r le h = record { parts = omega (arith, h.parts) }

abbrev IsFew : Next → Type 0
IsFew next = (seen : Seen) (c : Cursor) → Few (length c.rest) (next seen c)

runs_few : {A : Type 0} (c : Cursor) (x : Read A) (f : A → Cursor → Run) → Advances c x → ((a : A) (d : Cursor) → Few (length d.rest) (f a d)) → Few (length c.rest) (runs_on x f)
runs_few c (Got a d) f p h = let m = moves_of c d p in few_more (length d.rest) (length c.rest) (f a d) (omega (arith, m.rest)) (h a d)
runs_few c (Fault r) f p h = record { parts = omega arith }
runs_few c Wants f p h = record { parts = omega arith }

-- a part was taken, with a byte at least
takes_few : {A : Type 0} (c : Cursor) (x : Read A) (f : A → Cursor → Run) → LeavesFewer c x → ((a : A) (d : Cursor) → Few (suc (length d.rest)) (f a d)) → Few (length c.rest) (runs_on x f)
takes_few c (Got a d) f p h = few_more (suc (length d.rest)) (length c.rest) (f a d) (omega arith) (h a d)
takes_few c (Fault r) f p h = record { parts = omega arith }
takes_few c Wants f p h = record { parts = omega arith }

after_few : (n : ℕ) (x : Part) (r : Run) → Few n r → Few (suc n) (after_part x r)
after_few n x r h = record { parts = omega (arith, h.parts) }

leaves_few : (c : Cursor) (x : Read (Unit {0})) (f : Unit {0} → Cursor → Run) → Leaves c x → ((a : Unit {0}) (d : Cursor) → Few (length d.rest) (f a d)) → Few (length c.rest) (runs_on x f)
leaves_few c (Got a d) f p h = few_more (length d.rest) (length c.rest) (f a d) (omega (arith, ap (λ (y : Cursor). length y.rest) p.1)) (h a d)
leaves_few c (Fault r) f p h = record { parts = omega arith }
leaves_few c Wants f p h = record { parts = omega arith }

module _ (r : Row) (steady : SteadyRow r) (next : Next) (few : IsFew next) where
  finish_few : IsFew (finish r next)
  finish_few seen c = runs_few c _ _ (steady.back.moves c) (λ x d. leaves_few d _ _ (end_steady.leaves d) (λ y e. few seen e))

  entries_few : (n : ℕ) → IsFew (entries n r next)
  entries_few zero seen c = finish_few seen c
  entries_few (suc n) seen c = takes_few c _ _ ((steady.takes seen).some c) (λ x d. after_few (length d.rest) x _ (entries_few n (noted seen x) d))

  contents_few : IsFew (contents r next)
  contents_few seen c = runs_few c _ _ ((steady.front seen).moves c) (λ n d. entries_few n seen d)

-- the id's byte isn't taken yet
section_few : (next : Next) → IsFew next → (seen : Seen) (c : Cursor) → 0 < length c.rest → Few (length c.rest) (after_part (Section c.at 0) (section next seen c))
section_few next few seen c some = counted (header seen c) ((header_takes seen).some c)
  where
    counted : (x : Read (ℕ × ℕ)) → LeavesFewer c x → Few (length c.rest) (after_part (Section c.at 0) (runs_on x (λ h d. contents (row h.0) next (entered seen h.0) (inside d h.1))))
    counted (Got h d) p =
        few_more (suc (length d.rest)) (length c.rest) _ (omega arith) (after_few (length d.rest) (Section c.at 0) _ (contents_few (row h.0) (row_steady h.0) next few (entered seen h.0) (inside d h.1)))
    counted (Fault r) p = record { parts = omega arith }
    counted Wants p = record { parts = omega arith }

same_few : (n at : ℕ) (a b : ℕ) (r : Run) → Few n (after_part (Section at a) r) → Few n (after_part (Section at b) r)
same_few n at a b r h = record { parts = h.parts }

ends_few : (seen : Seen) → Few 0 (at_the_end seen)
ends_few seen = elim (cases_Bool (owes seen)) [ inl e ↦ rw e (record { parts = omega arith }) | inr e ↦ rw e (record { parts = omega arith }) ]

or_few : (next : Next) → IsFew next → (seen : Seen) (c : Cursor) (rest : List ℕ) → c.rest ≡ rest → Few (length c.rest) (or_section next seen c rest)
or_few next few seen c [] e = few_more 0 (length c.rest) _ (omega arith) (ends_few seen)
or_few next few seen c (b ∷ rest) e = same_few (length c.rest) c.at 0 (position_of b) (section next seen c) (section_few next few seen c (omega (arith, ap length e)))

up_to_few : (n : ℕ) → IsFew (sections_up_to n)
unfolding sections_up_to
up_to_few zero seen c = record { parts = omega arith }
up_to_few (suc n) seen c = or_few (sections_up_to n) (up_to_few n) seen c c.rest refl

-- no more parts than bytes
pub parts_are_few : (bytes : List ℕ) → length (module_read bytes).parts ≤ length bytes
parts_are_few bytes =
    (runs_few (beginning bytes) (preamble (beginning bytes)) (λ x c. sections_up_to (length c.rest + 1) nothing c) ((preamble_steady []).moves (beginning bytes)) (λ x c. up_to_few (length c.rest + 1) nothing c)).parts
