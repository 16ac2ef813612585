-- The rows of the sections are steady, and so is where a section ends.
use Rattle.std.proofs.Common.{◌≡◌, ◌<◌, ℕ, Bool, true, false, cond, eqb, List, [], ◌∷◌, ◌++◌, length, refl, arith, inl, inr}
use Rattle.std.proofs.lemmas.Bool.{cases_Bool, cases_eq, eq-eqb, ne_eqb}
use Rattle.wasm_defs.specs.declared.item.Item.{Item}
use Rattle.wasm_defs.specs.Fields.{Cursor, Reader, room_of}
use Rattle.wasm_defs.specs.Entries.{Seen, signature, imported, function, table, memory, global, exported, element, data_count, segment}
use Rattle.wasm_defs.specs.Outside.{Nothing, listed, entries_of, code_entry, Row, row, inside, no_end, left_over, section_end}
pub use Rattle.wasm_laws.specs.Steadiness.{SteadyRow, Leaves, SteadyEnd}
use Rattle.wasm_laws.proofs.Steady.{with_more, Extends, got, faulty, owed, StandsIn, IsDecided, Steady, bind, either, done_steady}
use Rattle.wasm_laws.proofs.Windows.{stands_here}
use Rattle.wasm_laws.proofs.EntryLaws.{parts, start_steady, code_steady, body_steady, rest_steady, number_of_steady, at_most_one_steady, function_count_steady, segment_count_steady, custom_name_steady}
use Rattle.wasm_laws.proofs.Takes.{Takes, firsts, listed_takes, code_entry_takes, start_takes, data_count_takes}

-- ---- rows

pub listed_steady : (marks : List ℕ) (p : Reader Item) → Steady marks p → Steady marks (listed p)
listed_steady marks p h = bind marks p _ h (λ x. done_steady marks _)

pub code_entry_steady : (marks : List ℕ) (seen : Seen) → Steady marks (code_entry seen)
code_entry_steady marks seen = either marks _ _ _ (body_steady marks _) (listed_steady marks _ (code_steady marks seen))

entries_steady : (front : Seen → Reader ℕ) (entry : Seen → Reader Item) → ((seen : Seen) → Steady [] (front seen)) → ((seen : Seen) → Steady [] (entry seen)) → ((seen : Seen) → Takes (entry seen)) → SteadyRow (entries_of front entry)
entries_steady front entry hf he ht = record { front = hf; entry = λ s. listed_steady [] _ (he s); back = done_steady [] tt; takes = λ s. listed_takes _ (ht s) }

pub either_row : (b : Bool) (p q : Row) → SteadyRow p → SteadyRow q → SteadyRow (cond b p q)
either_row true p q hp hq = hp
either_row false p q hp hq = hq

pub row_steady : (id : ℕ) → SteadyRow (row id)
unfolding signature imported function table memory global exported element data_count segment
row_steady id =
    either_row (eqb id 1) _ _ (entries_steady _ signature (λ s. number_of_steady [] _) (λ s. search parts depth 40) (λ s. search firsts depth 40))
    (either_row (eqb id 2) _ _ (entries_steady _ imported (λ s. number_of_steady [] _) (λ s. search parts depth 40) (λ s. search firsts depth 40))
    (either_row (eqb id 3) _ _ (entries_steady _ function (function_count_steady []) (λ s. search parts depth 40) (λ s. search firsts depth 40))
    (either_row (eqb id 4) _ _ (entries_steady _ table (λ s. at_most_one_steady []) (λ s. search parts depth 40) (λ s. search firsts depth 40))
    (either_row (eqb id 5) _ _ (entries_steady _ memory (λ s. at_most_one_steady []) (λ s. search parts depth 40) (λ s. search firsts depth 40))
    (either_row (eqb id 6) _ _ (entries_steady _ global (λ s. number_of_steady [] _) (λ s. search parts depth 40) (λ s. search firsts depth 40))
    (either_row (eqb id 7) _ _ (entries_steady _ exported (λ s. number_of_steady [] _) (λ s. search parts depth 40) (λ s. search firsts depth 40))
    (either_row (eqb id 8) _ _ (entries_steady _ _ (λ s. done_steady [] 1) (start_steady []) start_takes)
    (either_row (eqb id 9) _ _ (entries_steady _ element (λ s. number_of_steady [] _) (λ s. search parts depth 40) (λ s. search firsts depth 40))
    (either_row (eqb id 10) _ _ (entries_steady _ data_count (λ s. done_steady [] 1) (λ s. search parts depth 40) data_count_takes)
    (either_row (eqb id 11) _ _ (record { front = λ s. done_steady [] _; entry = code_entry_steady []; back = done_steady [] tt; takes = code_entry_takes })
    (either_row (eqb id 12) _ _ (entries_steady _ segment (segment_count_steady []) (λ s. search parts depth 40) (λ s. search firsts depth 40))
    (record { front = λ s. custom_name_steady []; entry = λ s. listed_steady [] _ (start_steady [] s); back = rest_steady []; takes = λ s. listed_takes _ (start_takes s) }))))))))))))

-- ---- where a section ends

left_extends : (c : Cursor) (more rest : List ℕ) → c.rest ≡ rest → Extends Nothing more (left_over c rest) (left_over (with_more c more) (rest ++ more))
left_extends c more [] e = owed _
left_extends c more (b ∷ rest) e = faulty _

left_leaves : (c : Cursor) (rest : List ℕ) → Leaves c (left_over c rest)
left_leaves c [] = tt
left_leaves c (b ∷ rest) = tt

left_stands : (c : Cursor) (rest : List ℕ) → c.rest ≡ rest → StandsIn c.at c (left_over c rest)
left_stands c [] e = tt
left_stands c (b ∷ rest) e = stands_here c.at c _ (omega arith) (λ lt. rw e (omega arith))

left_decides : (c : Cursor) (rest : List ℕ) → 0 < length rest → IsDecided (left_over c rest)
left_decides c [] some = absurd (omega arith)
left_decides c (b ∷ rest) some = tt

pub end_steady : SteadyEnd section_end
unfolding section_end
end_steady = record {
  by = λ c more. elim (cases_Bool (eqb (room_of c) 0)) [
    | inl over ↦ rw over (got tt (inside c no_end))
    | inr left ↦ rw left (left_extends c more c.rest refl)
  ];
  leaves = λ c. elim (cases_eq (room_of c) 0) [
    | inl over ↦ rw (eq-eqb (room_of c) 0 over) (over, refl)
    | inr left ↦ rw (ne_eqb (room_of c) 0 left) (left_leaves c c.rest)
  ];
  place = λ c. elim (cases_Bool (eqb (room_of c) 0)) [
    | inl over ↦ rw over tt
    | inr left ↦ rw left (left_stands c c.rest refl)
  ];
  decides = λ c there. elim (cases_eq (room_of c) 0) [
    | inl over ↦ rw (eq-eqb (room_of c) 0 over) tt
    | inr left ↦ rw (ne_eqb (room_of c) 0 left) (left_decides c c.rest (omega arith))
  ];
}
