-- Which items and bodies a section holds, by its id.
use Rattle.std.proofs.Common.{◌≡◌, ◌≢◌, ℕ, ◌+◌, Bool, true, false, cond, eqb, List, [], ◌∷◌, refl, arith}
use Rattle.std.proofs.lemmas.Bool.{eqb-true}
use Rattle.wasm_defs.specs.declared.fault.Kind.{Kind}
use Rattle.wasm_defs.specs.declared.item.Item.{Item}
use Rattle.wasm_defs.specs.declared.item.Item.TheVariants.{Signature, Function, Code}
use Rattle.wasm_defs.specs.Fields.{Cursor, Read, Got, Fault, Wants, Reader, then_go, ◌>>=◌, done, refused}
use Rattle.wasm_defs.specs.Entries.{Seen, note, signature, imported, function, table, memory, global, exported, start, element, code, data_count, passive, segment}
use Rattle.wasm_defs.specs.Outside.{Part, Section, Listed, Coded, listed, body, entries_of, Row, row}
use Rattle.wasm_defs.specs.Context.{declared_count}
use Rattle.wasm_laws.proofs.Steady.{IfGot}

-- ---- items by what they add to the counts

-- all but declared functions and the code section's count
abbrev pub IsPlain : Item → Type 0
IsPlain (Function type_index) = ⊥
IsPlain (Code count end) = ⊥
IsPlain _ = Unit {0}

-- a function
abbrev pub IsFunction : Item → Type 0
IsFunction (Function type_index) = Unit {0}
IsFunction _ = ⊥

-- the code section's count
abbrev pub IsCode : Item → Type 0
IsCode (Code count end) = Unit {0}
IsCode _ = ⊥

-- ---- what a reader yields

pub record Yields {A : Type 0} (P : A → Type 0) (p : Reader A) : Type 0 where
  pub got : (c : Cursor) → IfGot (λ x d. P x) (p c)

then_yields : {A B : Type 0} (P : B → Type 0) (x : Read A) (f : A → Reader B) → ((a : A) → Yields P (f a)) → IfGot (λ y d. P y) (then_go x f)
then_yields P (Got a d) f h = (h a).got d
then_yields P (Fault r) f h = tt
then_yields P Wants f h = tt

pub bind_yields : {A B : Type 0} (P : B → Type 0) (p : Reader A) (f : A → Reader B) → ((a : A) → Yields P (f a)) → Yields P (p >>= f)
bind_yields P p f h = record { got = λ c. then_yields P (p c) f h }

pub done_yields : {A : Type 0} (P : A → Type 0) (x : A) → P x → Yields P (done x)
done_yields P x h = record { got = λ c. h }

pub refused_yields : {A : Type 0} (P : A → Type 0) (kind : Kind) (at : ℕ) → Yields P (refused kind at)
refused_yields P kind at = record { got = λ c. tt }

pub either_yields : {A : Type 0} (P : A → Type 0) (b : Bool) (p q : Reader A) → Yields P p → Yields P q → Yields P (cond b p q)
either_yields P true p q hp hq = hp
either_yields P false p q hp hq = hq

pub ruleset yielding = (bind_yields, done_yields, refused_yields, either_yields)

signature_yields : (seen : Seen) → Yields IsPlain (signature seen)
unfolding signature
signature_yields seen = search yielding depth 40

imported_yields : (seen : Seen) → Yields IsPlain (imported seen)
unfolding imported
imported_yields seen = search yielding depth 40

table_yields : (seen : Seen) → Yields IsPlain (table seen)
unfolding table
table_yields seen = search yielding depth 40

memory_yields : (seen : Seen) → Yields IsPlain (memory seen)
unfolding memory
memory_yields seen = search yielding depth 40

global_yields : (seen : Seen) → Yields IsPlain (global seen)
unfolding global
global_yields seen = search yielding depth 40

exported_yields : (seen : Seen) → Yields IsPlain (exported seen)
unfolding exported
exported_yields seen = search yielding depth 40

start_yields : (seen : Seen) → Yields IsPlain (start seen)
unfolding start
start_yields seen = search yielding depth 40

element_yields : (seen : Seen) → Yields IsPlain (element seen)
unfolding element
element_yields seen = search yielding depth 40

data_count_yields : (seen : Seen) → Yields IsPlain (data_count seen)
unfolding data_count
data_count_yields seen = search yielding depth 40

segment_yields : (seen : Seen) → Yields IsPlain (segment seen)
unfolding segment passive
segment_yields seen = search yielding depth 40

pub function_yields : (seen : Seen) → Yields IsFunction (function seen)
unfolding function
function_yields seen = search yielding depth 40

pub code_yields : (seen : Seen) → Yields IsCode (code seen)
unfolding code
code_yields seen = search yielding depth 40

-- ---- parts

-- an item of which that holds
abbrev pub IsItem : (Item → Type 0) → Part → Type 0
IsItem P (Section at id) = ⊥
IsItem P (Listed x) = P x
IsItem P (Coded b) = ⊥

abbrev pub IsBody : Part → Type 0
IsBody (Section at id) = ⊥
IsBody (Listed x) = ⊥
IsBody (Coded b) = Unit {0}

listed_on : (P : Item → Type 0) (x : Read Item) → IfGot (λ y d. P y) x → IfGot (λ y d. IsItem P y) (then_go x (λ y. done (Listed y)))
listed_on P (Got y d) h = h
listed_on P (Fault r) h = tt
listed_on P Wants h = tt

pub listed_yields : (P : Item → Type 0) (p : Reader Item) → Yields P p → Yields (IsItem P) (listed p)
listed_yields P p h = record { got = λ c. listed_on P (p c) (h.got c) }

pub body_yields : (counted : Bool) → Yields IsBody (body counted)
unfolding body
body_yields counted = search yielding depth 40

-- ---- rows

pub record PlainRow (r : Row) : Type 0 where
  pub entry : (seen : Seen) → Yields (IsItem IsPlain) (r.entry seen)

plain_items : (front : Seen → Reader ℕ) (entry : Seen → Reader Item) → ((seen : Seen) → Yields IsPlain (entry seen)) → PlainRow (entries_of front entry)
plain_items front entry h = record { entry = λ s. listed_yields IsPlain (entry s) (h s) }

either_row : (b : Bool) (p q : Row) → (b ≡ true → PlainRow p) → PlainRow q → PlainRow (cond b p q)
either_row true p q hp hq = hp refl
either_row false p q hp hq = hq

-- all sections but those of functions and code
pub row_is_plain : (id : ℕ) → id ≢ 3 → id ≢ 11 → PlainRow (row id)
row_is_plain id not_functions not_code =
    either_row (eqb id 1) _ _ (λ e. plain_items _ _ signature_yields)
    (either_row (eqb id 2) _ _ (λ e. plain_items _ _ imported_yields)
    (either_row (eqb id 3) _ _ (λ e. absurd (not_functions (eqb-true id 3 e)))
    (either_row (eqb id 4) _ _ (λ e. plain_items _ _ table_yields)
    (either_row (eqb id 5) _ _ (λ e. plain_items _ _ memory_yields)
    (either_row (eqb id 6) _ _ (λ e. plain_items _ _ global_yields)
    (either_row (eqb id 7) _ _ (λ e. plain_items _ _ exported_yields)
    (either_row (eqb id 8) _ _ (λ e. plain_items _ _ start_yields)
    (either_row (eqb id 9) _ _ (λ e. plain_items _ _ element_yields)
    (either_row (eqb id 10) _ _ (λ e. plain_items _ _ data_count_yields)
    (either_row (eqb id 11) _ _ (λ e. absurd (not_code (eqb-true id 11 e)))
    (either_row (eqb id 12) _ _ (λ e. plain_items _ _ segment_yields)
    (record { entry = λ s. listed_yields IsPlain (start s) (start_yields s) }))))))))))))

-- ---- what items add to the counts

pub count_cons : (x : Item) (xs : List Item) → declared_count (x ∷ xs) ≡ declared_count (x ∷ []) + declared_count xs
count_cons (Signature form params results ty) xs = omega arith
count_cons p xs = omega arith

-- what is seen with an item
pub record Notes (s : Seen) (x : Item) : Type 0 where
  pub declared : (note s x).declared ≡ s.declared + declared_count (x ∷ [])
  pub last : (note s x).last ≡ s.last

pub notes : (s : Seen) (x : Item) → Notes s x
notes s (Function type_index) = record { declared = omega arith; last = refl }
notes s p = record { declared = omega arith; last = refl }

pub plain_keeps : (s : Seen) (x : Item) → IsPlain x → (declared_count (x ∷ []) ≡ 0) × ((note s x).counted ≡ s.counted)
plain_keeps s (Function type_index) h = absurd h
plain_keeps s (Code count end) h = absurd h
plain_keeps s p h = (refl, refl)
