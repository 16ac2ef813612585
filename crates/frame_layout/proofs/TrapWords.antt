-- The traps among the instruction words of each instruction are those of the table.
use Rattle.std.proofs.Common.{◌≡◌, ℕ, zero, suc, ◌+◌, ◌-◌, Bool, true, false, List, [], ◌∷◌, ◌++◌, map, length, refl}
use Rattle.std.specs.Prelude.{◌&&◌, not, nat_le, if◌then◌else◌}
use Rattle.rv_isa.specs.declared.operations.Op.{Op}
use Rattle.wasm_defs.specs.declared.types.ValType.{ValType}
use Rattle.wasm_defs.specs.declared.types.ValType.TheVariants.{I32, I64}
use Rattle.wasm_defs.specs.declared.operation.Operation.{Operation}
use Rattle.wasm_defs.specs.declared.token.BulkOp.TheVariants.{Fill, Copy, Init}
use Rattle.wasm_defs.specs.declared.token.Plain.{Plain}
use Rattle.wasm_defs.specs.declared.token.Plain.TheVariants.{Unreachable, Br, BrIf, BrTable, Return, Bulk, Const, Numeric}
use Rattle.wasm_defs.specs.Values.{unsigned}
use Rattle.frame_layout.specs.Macros.{t0, distance, far}
use Rattle.frame_layout.specs.Templates.{Declarations, Label, EmitContext, load_operand, move_words, jump_words, unless_words, jump_if_words, jumps, table_front, jump_table_words, label_at, last_label, operate_words, const_words, words}
use Rattle.frame_layout.specs.Traps.{is_number, is_call, found, traps_in, trap_places, operation_places}
use Rattle.frame_layout.specs.Laws.{TrapsLaw}
use Rattle.wasm_defs.proofs.EachOperation.{each_same}

-- ---- where no environment is called, nothing traps

abbrev calls_none : List Op → Bool
calls_none [] = true
calls_none (op ∷ ops) = not (is_call op) && calls_none ops

none_more : (c : Bool) (a b : List Op) → (calls_none a ≡ true → calls_none (a ++ b) ≡ true) → (not c && calls_none a) ≡ true → (not c && calls_none (a ++ b)) ≡ true
none_more true a b more h = absurd cc
none_more false a b more h = more h

calls_none-both : (a b : List Op) → calls_none a ≡ true → calls_none b ≡ true → calls_none (a ++ b) ≡ true
calls_none-both [] b h k = k
calls_none-both (op ∷ a) b h k = none_more (is_call op) a b (λ rest. calls_none-both a b rest k) h

first_none : (asks c : Bool) (here : ℕ) (more : List ℕ) (ops : List Op) → (calls_none ops ≡ true → more ≡ []) → (not c && calls_none ops) ≡ true → (if asks && c then here ∷ more else more) ≡ []
first_none asks true here more ops rest h = absurd cc
first_none true false here more ops rest h = rest h
first_none false false here more ops rest h = rest h

found-none : (asks : Bool) (here : ℕ) (ops : List Op) → calls_none ops ≡ true → found asks here ops ≡ []
found-none asks here [] h = refl
found-none asks here (op ∷ ops) h = first_none asks (is_call op) here (found (is_number op) (here + 1) ops) ops (λ none. found-none (is_number op) (here + 1) ops none) h

module _ (w : EmitContext) where
  moves_none : (takes j base : ℕ) → calls_none (move_words w takes j base) ≡ true
  moves_none zero j base = refl
  moves_none (suc n) j base = moves_none n (j + 1) (base + 1)

  jump_none : (height here : ℕ) (l : Label) → calls_none (jump_words w height here l) ≡ true
  jump_none height here l =
      let moves = move_words w l.takes (height - l.takes) l.base in
      calls_none-both moves (far (distance (here + length moves) l.place)) (moves_none l.takes (height - l.takes) l.base) refl

  jumps_none : (height here : ℕ) (ls : List Label) → calls_none (jumps w height here ls) ≡ true
  jumps_none height here [] = refl
  jumps_none height here (l ∷ ls) =
      let first = jump_words w height here l in
      calls_none-both first (jumps w height (here + length first) ls) (jump_none height here l) (jumps_none height (here + length first) ls)

  unless_none : (here takes : ℕ) → calls_none (unless_words w here takes) ≡ true
  unless_none here takes = by (nat_le takes 170) refl
    where
      by : (b : Bool) → nat_le takes 170 ≡ b → calls_none (unless_words w here takes) ≡ true
      by true e = rw e refl
      by false e = rw e refl

  jump_if_none : (h here : ℕ) (l : Label) → calls_none (jump_if_words w h here l) ≡ true
  jump_if_none h here l =
      let skip = unless_words w (here + 3) l.takes in
      let jump = jump_words w (h - 1) (here + 3 + length skip) l in
      calls_none-both (load_operand w t0 (h - 1)) (skip ++ jump) refl (calls_none-both skip jump (unless_none (here + 3) l.takes) (jump_none (h - 1) (here + 3 + length skip) l))

  front_none : (h count takes : ℕ) → calls_none (table_front w h count takes) ≡ true
  front_none h count zero = refl
  front_none h count (suc zero) = refl
  front_none h count (suc (suc n)) = refl

  jump_table_none : (h here : ℕ) (ls : List Label) (last : Label) → calls_none (jump_table_words w h here ls last) ≡ true
  jump_table_none h here ls last =
      let front = table_front w h (length ls) last.takes in
      let more = jumps w (h - 1) (here + length front) (ls ++ last ∷ []) in
      calls_none-both front more (front_none h (length ls) last.takes) (jumps_none (h - 1) (here + length front) (ls ++ last ∷ []))

  const_none : (h : ℕ) (t : ValType) (n : ℕ) → calls_none (const_words w h t n) ≡ true
  const_none h I32 n = refl
  const_none h I64 n = refl

  -- ---- divisions trap, and nothing else that computes

  operation_found : (h : ℕ) (op : Operation) → traps_in (operate_words w h op) ≡ operation_places op
  operation_found h op = each_same (λ (o : Operation). traps_in (operate_words w h o)) operation_places refl op

  plain_found : (d : Declarations) (labels : List Label) (h here : ℕ) (p : Plain) → traps_in (words w d labels h here p) ≡ trap_places p
  plain_found d labels h here Unreachable = refl
  plain_found d labels h here (Br l) = found-none false 0 (words w d labels h here (Br l)) (jump_none h here (label_at w labels l))
  plain_found d labels h here (BrIf l) = found-none false 0 (words w d labels h here (BrIf l)) (jump_if_none h here (label_at w labels l))
  plain_found d labels h here (BrTable ls l) = found-none false 0 (words w d labels h here (BrTable ls l)) (jump_table_none h here (map (label_at w labels) ls) (label_at w labels l))
  plain_found d labels h here Return = found-none false 0 (words w d labels h here Return) (jump_none h here (last_label w labels))
  plain_found d labels h here (Const t n) = found-none false 0 (words w d labels h here (Const t n)) (const_none h t (unsigned t n))
  plain_found d labels h here (Numeric op) = operation_found h op
  plain_found d labels h here (Bulk Fill) = refl
  plain_found d labels h here (Bulk Copy) = refl
  plain_found d labels h here (Bulk (Init x)) = refl
  plain_found d labels h here p = refl

pub traps_are_found : TrapsLaw
traps_are_found w d labels h here p = plain_found w d labels h here p
