-- Instructions are read as they are encoded.
use Rattle.std.proofs.Common.{◌≡◌, ◌≤◌, ℕ, ◌-◌, ℤ, Bool, true, not, eqb, nat_lt, ◌||◌, List, [], ◌∷◌, length, Option, Some, None, refl, sym, ap, subst, ◌∙◌, ◌+◌, pos, negsuc, inl, inr, arith, false}
use Rattle.std.specs.Prelude.{slice_get, ◌==◌}
use Rattle.std.specs.List.{All}
use Rattle.std.proofs.lemmas.Bool.{eqb-true, ltb-false, le-ltb}
use Rattle.wasm_defs.specs.declared.types.ValType.{ValType}
use Rattle.wasm_defs.specs.declared.types.ValType.TheVariants.{I32, I64}
use Rattle.wasm_defs.specs.declared.operation.Operation.{Operation}
use Rattle.wasm_defs.specs.declared.operation.LoadOp.{LoadOp}
use Rattle.wasm_defs.specs.declared.operation.LoadOp.TheVariants.{I32Load}
use Rattle.wasm_defs.specs.declared.operation.StoreOp.{StoreOp}
use Rattle.wasm_defs.specs.declared.operation.StoreOp.TheVariants.{I32Store}
use Rattle.wasm_defs.specs.declared.operation.Access.{Access}
use Rattle.wasm_defs.specs.declared.operation.Access.TheVariants as access
use Rattle.wasm_defs.specs.declared.token.BlockType.{BlockType}
use Rattle.wasm_defs.specs.declared.token.BlockType.TheVariants.{Empty, Value, Index}
use Rattle.wasm_defs.specs.declared.token.MemArg.{MemArg}
use Rattle.wasm_defs.specs.declared.token.Plain.{Plain}
use Rattle.wasm_defs.specs.declared.token.BulkOp.TheVariants.{Fill, Copy, Init}
use Rattle.wasm_defs.specs.declared.token.Plain.TheVariants.{Unreachable, Nop, Br, BrIf, BrTable, Return, Call, CallIndirect, Drop, Select, LocalGet, LocalSet, LocalTee, GlobalGet, GlobalSet, Load, Store, MemorySize, MemoryGrow, Bulk, DataDrop, Const, Numeric}
use Rattle.wasm_defs.specs.declared.token.Token.{Token}
use Rattle.wasm_defs.specs.declared.token.Token.TheVariants as token
use Rattle.wasm_defs.specs.Opcodes.{operations, accesses, load_code, store_code, operation_code}
use Rattle.wasm_defs.specs.Entries.{const_opcode}
use Rattle.wasm_defs.specs.Numbers.{IsLastByte, Spells}
use Rattle.wasm_defs.specs.Fields.{Cursor, Read, Got, Reader, then_go, ◌>>=◌, byte, number, u32, vector, here}
use Rattle.wasm_defs.specs.Items.{Spelling, ◌then◌, exactly, byte_is, number_is, vector_is, listed_index_is}
use Rattle.wasm_defs.specs.Bodies.{plain, with_index, short_type, type_by, block_type, with_type, label, branch_table, zero_byte, indirect, with_zero, initializing, copying, by_number, prefixed, mem_arg, accessed, with_mem_arg, constant, control, variable, accessed_at, memory, operated_at, numeric, instruction}
use Rattle.wasm_defs.specs.Codes.{listed_vector_is, block_type_is, mem_arg_is, signed_is, if_counted, plain_is, instruction_is, token_is}
use Rattle.wasm_laws.specs.Steadiness.{token}
use Rattle.wasm_laws.proofs.Steady.{IfGot}
use Rattle.wasm_laws.proofs.Parts.{either_got}
use Rattle.wasm_laws.proofs.Spelt.{Ready, Found, found_then, found_here, found_as, read, Reads, reads_then, reads_on, Spelt}
use Rattle.wasm_laws.proofs.SpeltFields.{Always, byte_spelt, number_spelt, u32_spelt}
use Rattle.wasm_laws.proofs.SpeltLists.{vector_spelt}
use Rattle.wasm_laws.proofs.SpeltParts.{placed_spelt, ruled_spelt}
use Rattle.body_laws.proofs.Rows.{operation_at, access_code, access_at}
use Rattle.wasm_defs.proofs.EachOperation.{all_rows, each_operation, operation_row}
use Rattle.wasm_defs.specs.Values.{bits}

-- ---- fields without their offsets

-- a field at any offset, and what is after it
pub reads_past : {A B : Type 0} (p : Reader (ℕ × A)) (f : ℕ × A → Reader B) (x : A) (y : B) (s t : Spelling) → ((o : ℕ) → Reads p (o, x) (λ at bytes. (o ≡ at) × s at bytes)) → ((o : ℕ) → Reads (f (o, x)) y t) → Reads (p >>= f) y (s then t)
reads_past p f x y s t h k = record {
  by = λ at end bytes back fits j.
      (reads_then p f (at, x) y (λ a b. (at ≡ a) × s a b) t (h at) (k at)).by at end bytes back fits (record { front = j.front; back = j.back; parts = j.parts; first = (refl, j.first); second = j.second });
}

pub reads_only : {A B : Type 0} (p : Reader (ℕ × A)) (f : ℕ × A → Reader B) (x : A) (y : B) (s : Spelling) → ((o : ℕ) → Reads p (o, x) (λ at bytes. (o ≡ at) × s at bytes)) → ((o : ℕ) (c : Cursor) → f (o, x) c ≡ Got y c) → Reads (p >>= f) y s
reads_only p f x y s h e = record { by = λ at end front back fits k. (reads_on p f (at, x) y (λ a b. (at ≡ a) × s a b) (h at) (e at)).by at end front back fits (refl, k) }

pub reads_as : {A : Type 0} (p : Reader A) (x : A) (s t : Spelling) → ((at : ℕ) (bytes : List ℕ) → t at bytes → s at bytes) → Reads p x s → Reads p x t
reads_as p x s t f h = record { by = λ at end front back fits k. h.by at end front back fits (f at front k) }

pub byte_reads : (b o : ℕ) → Reads byte (o, b) (λ at bytes. (o ≡ at) × exactly (b ∷ []) at bytes)
byte_reads b o = byte_spelt.complete (o, b) tt

pub index_reads : (i o : ℕ) → Reads u32 (o, i) (λ at bytes. (o ≡ at) × listed_index_is i at bytes)
index_reads i o = u32_spelt.complete (o, i) tt

-- what is at an offset, without it
pub opened : (o b : ℕ) (s : Spelling) (at : ℕ) (bytes : List ℕ) → (byte_is o b then s) at bytes → (o ≡ at) × (exactly (b ∷ []) then s) at bytes
opened o b s at bytes j = (j.first.0, record { front = j.front; back = j.back; parts = j.parts; first = j.first.1; second = j.second })

-- a list after its count
pub vector_as_listed : {A : Type 0} (S : A → Spelling) (o : ℕ) (xs : List A) (at : ℕ) (bytes : List ℕ) → vector_is S o xs at bytes → listed_vector_is S xs at bytes
vector_as_listed S o xs at bytes j = record { front = j.front; back = j.back; parts = j.parts; first = j.first.1; second = j.second }

pub listed_as_vector : {A : Type 0} (S : A → Spelling) (o : ℕ) (xs : List A) (at : ℕ) (bytes : List ℕ) → (o ≡ at) × listed_vector_is S xs at bytes → vector_is S o xs at bytes
listed_as_vector S o xs at bytes k = let j = k.1 in record { front = j.front; back = j.back; parts = j.parts; first = (k.0, j.first); second = j.second }

-- ---- immediates

pub label_spelt : Spelt listed_index_is Always label
unfolding label
label_spelt = placed_spelt (λ i bytes. listed_index_is i 0 bytes) Always u32 u32_spelt

labels_spelt : Spelt (λ xs. vector_is listed_index_is xs.0 xs.1) Always (vector u32 label)
labels_spelt =
    ruled_spelt _ (λ (xs : ℕ × List ℕ). Always {A = ℕ × ℕ} (xs.0, length xs.1) × All Always xs.1) Always (vector u32 label) (λ xs k. tt) (λ xs k. (tt, λ i d lt. tt))
    (vector_spelt listed_index_is Always Always u32 label u32_spelt label_spelt)

-- the one byte that encodes a negative number
short_last : (less b : ℕ) → IsLastByte true 33 b (negsuc less) → b ∷ [] ≡ (127 - less) ∷ []
short_last less b (inl h) = let e = h.2 in absurd cc
short_last less b (inr h) =
    let e = h.3 in
    let same : less ≡ 127 - b = cc in
    let is : b ≡ 127 - less = omega (arith, same, h.0, h.1) in
    ap (λ (x : ℕ). x ∷ []) is

short_is : (less : ℕ) (bytes : List ℕ) → Spells (negsuc less) 33 true bytes → length bytes ≤ 1 → bytes ≡ (127 - less) ∷ []
short_is less [] s le = absurd s
short_is less (b ∷ []) s le = short_last less b s
short_is less (b ∷ c ∷ bytes) s le = absurd (omega arith)

abbrev TypeFound : Cursor → BlockType → Cursor → Type 0
TypeFound c t d = Found (block_type_is t) (Always t) c d

short_found : (o less : ℕ) (c d : Cursor) → Found (number_is true 33 (o, negsuc less)) (Unit {0}) c d → d.at - o ≤ 1 → IfGot (TypeFound c) (short_type o less d)
short_found o less c d f le =
    let one : f.taken ≡ (127 - less) ∷ [] = short_is less f.taken f.spelled.1 (omega (arith, le, f.at, f.spelled.0)) in
    either_got _ (eqb less 0x3F) _ _ d (λ e. found_here (block_type_is Empty) _ c d f (one ∙ ap (λ (k : ℕ). (127 - k) ∷ []) (eqb-true less 0x3F e)) tt) (λ no.
    either_got _ (eqb less 0x00) _ _ d (λ e. found_here (block_type_is (Value I32)) _ c d f (one ∙ ap (λ (k : ℕ). (127 - k) ∷ []) (eqb-true less 0x00 e)) tt) (λ no.
    either_got _ (eqb less 0x01) _ _ d (λ e. found_here (block_type_is (Value I64)) _ c d f (one ∙ ap (λ (k : ℕ). (127 - k) ∷ []) (eqb-true less 0x01 e)) tt) (λ no.
    either_got _ (eqb less 0x02 || eqb less 0x03) _ _ d (λ e. tt) (λ no. tt))))

type_found : (o : ℕ) (n : ℤ) (c d : Cursor) → Found (number_is true 33 (o, n)) (Unit {0}) c d → IfGot (TypeFound c) (type_by o (d.at - o) n d)
type_found o (pos i) c d f = found_as (block_type_is (Index i)) _ c d f (λ at bytes s. s.1) tt
type_found o (negsuc less) c d f = either_got _ (nat_lt 1 (d.at - o)) _ _ d (λ long. tt) (λ short. short_found o less c d f (ltb-false 1 (d.at - o) short))

block_type_found : (c : Cursor) → Ready c → IfGot (λ t d. Found (block_type_is t) (Always t) c d) (block_type c)
unfolding block_type here
block_type_found c ready = read _ _ (number true 33) _ _ c (number_spelt true 33) ready (λ n d found ready. type_found n.0 n.1 c d found)

-- what is done with the number
abbrev pub typed_by : ℕ × ℤ → Reader BlockType
typed_by n = here >>= (λ behind. type_by n.0 (behind - n.0) n.1)

short_by : (at bytes less : ℕ) (c : Cursor) (t : BlockType) → bytes ≤ 1 → short_type at less c ≡ Got t c → type_by at bytes (negsuc less) c ≡ Got t c
short_by at bytes less c t le h = rw (le-ltb 1 bytes le) h

short_reads : (less b : ℕ) (t : BlockType) → Spells (negsuc less) 33 true (b ∷ []) → ((o : ℕ) (c : Cursor) → short_type o less c ≡ Got t c) → Reads block_type t (exactly (b ∷ []))
unfolding block_type here
short_reads less b t s h = record {
  by = λ at end front back fits e.
      let got = ((number_spelt true 33).complete (at, negsuc less) tt).by at end front back fits (refl, subst (Spells (negsuc less) 33 true) (sym e) s) in
      let behind : Cursor = record { at = at + length front; rest = back; end = end } in
      ap (λ (z : Read (ℕ × ℤ)). then_go z typed_by) got ∙ short_by at (at + length front - at) less behind t (omega (arith, ap length e)) (h at behind);
}

block_type_read : (t : BlockType) → Reads block_type t (block_type_is t)
unfolding block_type here
block_type_read Empty = short_reads 0x3F 0x40 Empty (inr (omega arith, omega arith, omega arith, refl)) (λ o c. refl)
block_type_read (Value I32) = short_reads 0x00 0x7F (Value I32) (inr (omega arith, omega arith, omega arith, refl)) (λ o c. refl)
block_type_read (Value I64) = short_reads 0x01 0x7E (Value I64) (inr (omega arith, omega arith, omega arith, refl)) (λ o c. refl)
block_type_read (Index i) =
    reads_only (number true 33) _ (pos i) (Index i) (block_type_is (Index i)) (λ o. (number_spelt true 33).complete (o, pos i) tt) (λ o c. refl)

pub block_type_spelt : Spelt block_type_is Always block_type
block_type_spelt = record { sound = block_type_found; complete = λ t k. block_type_read t }

zero_found : (c : Cursor) → Ready c → IfGot (λ x d. Found (exactly (0x00 ∷ [])) (Unit {0}) c d) (zero_byte c)
unfolding zero_byte
zero_found c ready =
    read _ _ byte _ _ c byte_spelt ready (λ b d found ready.
    either_got _ (eqb b.1 0) _ _ d (λ e. found_as (exactly (0x00 ∷ [])) _ c d found (λ at bytes s. s.1 ∙ ap (λ (n : ℕ). n ∷ []) (eqb-true b.1 0 e)) tt) (λ no. tt))

pub zero_spelt : Spelt (λ x. exactly (0x00 ∷ [])) Always zero_byte
unfolding zero_byte
zero_spelt = record { sound = zero_found; complete = λ x k. reads_only byte _ 0 tt (exactly (0x00 ∷ [])) (byte_reads 0) (λ o c. refl) }

mem_arg_spelt : Spelt mem_arg_is Always mem_arg
unfolding mem_arg
mem_arg_spelt = record {
  sound = λ c ready.
      read _ _ u32 _ _ c u32_spelt ready (λ align d align_found ready.
      read _ _ u32 _ _ d u32_spelt ready (λ offset e offset_found ready.
      found_as (mem_arg_is (record { align = align.1; offset = offset.1 })) _ c e (found_then (Unit {0}) c d e align_found offset_found tt)
      (λ at bytes j. record { front = j.front; back = j.back; parts = j.parts; first = j.first.1; second = j.second.1 }) tt));
  complete = λ m k.
      reads_past u32 _ m.align m (listed_index_is m.align) (listed_index_is m.offset) (index_reads m.align) (λ o.
      reads_only u32 _ m.offset m (listed_index_is m.offset) (index_reads m.offset) (λ o c. refl));
}

-- ---- what is got after an opcode is encoded with it

module _ (counted : Bool) (o b : ℕ) (c d : Cursor) (found : Found (byte_is o b) (Unit {0}) c d) (ready : Ready d) where
  abbrev pub Q : Token → Cursor → Type 0
  Q t e = Found (token_is counted (o, t)) (Unit {0}) c e

  found_code : (n : ℕ) → b ≡ n → Found (byte_is o n) (Unit {0}) c d
  found_code n e = subst (λ (k : ℕ). Found (byte_is o k) (Unit {0}) c d) e found

  -- no immediates
  bare : (n : ℕ) (t : Token) → b ≡ n → ((at : ℕ) (bytes : List ℕ) → exactly (n ∷ []) at bytes → instruction_is counted t at bytes) → Q t d
  bare n t e f = found_as (token_is counted (o, t)) _ c d (found_code n e) (λ at bytes s. (s.0, f at bytes s.1)) tt

  -- these immediates
  followed : {s : Spelling} {K : Type 0} (n : ℕ) (t : Token) (e : Cursor) → b ≡ n → Found s K d e → ((at : ℕ) (bytes : List ℕ) → (exactly (n ∷ []) then s) at bytes → instruction_is counted t at bytes) → Q t e
  followed {s} n t e is behind f =
      found_as (token_is counted (o, t)) _ c e (found_then (Unit {0}) c d e (found_code n is) behind tt) (λ at bytes j. let k = opened o n s at bytes j in (k.0, f at bytes k.1)) tt

  is : (n : ℕ) → eqb b n ≡ true → b ≡ n
  is n e = eqb-true b n e

  indexed : (n : ℕ) (make : ℕ → Plain) → eqb b n ≡ true → ((i at : ℕ) (bytes : List ℕ) → (exactly (n ∷ []) then listed_index_is i) at bytes → plain_is counted (make i) at bytes) → IfGot Q (with_index make d)
  unfolding with_index
  indexed n make e f =
      read _ _ u32 _ _ d u32_spelt ready (λ i g index ready.
      followed n (token.Plain (make i.1)) g (is n e) (found_as (listed_index_is i.1) (Unit {0}) d g index (λ at bytes s. s.1) tt) (f i.1))

  typed : (n : ℕ) (make : BlockType → Token) → eqb b n ≡ true → ((t : BlockType) (at : ℕ) (bytes : List ℕ) → (exactly (n ∷ []) then block_type_is t) at bytes → instruction_is counted (make t) at bytes) → IfGot Q (with_type make d)
  unfolding with_type
  typed n make e f = read _ _ block_type _ _ d block_type_spelt ready (λ t g ty ready. followed n (make t) g (is n e) ty (f t))

  branches : eqb b 0x0E ≡ true → IfGot Q (branch_table d)
  unfolding branch_table
  branches e =
      read _ _ (vector u32 label) _ _ d labels_spelt ready (λ labels f labels_found ready.
      read _ _ label _ _ f label_spelt ready (λ last g last_found ready.
      followed 0x0E (token.Plain (BrTable labels.1 last)) g (is 0x0E e)
      (found_then (Unit {0}) d f g (found_as (listed_vector_is listed_index_is labels.1) (Unit {0}) d f labels_found (vector_as_listed listed_index_is labels.0 labels.1) tt) last_found tt)
      (λ at bytes s. s)))

  calls_indirect : eqb b 0x11 ≡ true → IfGot Q (indirect d)
  unfolding indirect
  calls_indirect e =
      read _ _ u32 _ _ d u32_spelt ready (λ i f index ready.
      read _ _ u32 _ _ f u32_spelt ready (λ table g table_found ready.
      followed 0x11 (token.Plain (CallIndirect i.1 table.1)) g (is 0x11 e)
      (found_then (Unit {0}) d f g (found_as (listed_index_is i.1) (Unit {0}) d f index (λ at bytes s. s.1) tt)
      (found_as (listed_index_is table.1) (Unit {0}) f g table_found (λ at bytes s. s.1) tt) tt)
      (λ at bytes s. s)))

  zeroed : (n : ℕ) (p : Plain) → eqb b n ≡ true → ((at : ℕ) (bytes : List ℕ) → (exactly (n ∷ []) then exactly (0x00 ∷ [])) at bytes → plain_is counted p at bytes) → IfGot Q (with_zero p d)
  unfolding with_zero
  zeroed n p e f = read _ _ zero_byte _ _ d zero_spelt ready (λ x g zero ready. followed n (token.Plain p) g (is n e) zero f)

  accesses_memory : (op : Access) → access_code op ≡ b → IfGot Q (with_mem_arg op d)
  unfolding with_mem_arg
  accesses_memory op e =
      read _ _ mem_arg _ _ d mem_arg_spelt ready (λ m g arg ready. as_access op e m g arg)
    where
      as_access : (op : Access) → access_code op ≡ b → (m : MemArg) (g : Cursor) → Found (mem_arg_is m) (Always m) d g → Q (token.Plain (accessed op m)) g
      as_access (access.Load op) e m g arg = followed (load_code op) (token.Plain (Load op m)) g (sym e) arg (λ at bytes s. s)
      as_access (access.Store op) e m g arg = followed (store_code op) (token.Plain (Store op m)) g (sym e) arg (λ at bytes s. s)

  -- after the prefix
  copies : (g : Cursor) → eqb b 0xFC ≡ true → Found (listed_index_is 10) (Unit {0}) d g → Ready g → IfGot Q (copying g)
  unfolding copying
  copies g e number ready =
      read _ _ zero_byte _ _ g zero_spelt ready (λ x h first ready.
      read _ _ zero_byte _ _ h zero_spelt ready (λ y k second ready.
      followed 0xFC (token.Plain (Bulk Copy)) k (is 0xFC e) (found_then (Unit {0}) d g k number (found_then (Unit {0}) g h k first second tt) tt) (λ at bytes s. s)))

  fills : (g : Cursor) → eqb b 0xFC ≡ true → Found (listed_index_is 11) (Unit {0}) d g → Ready g → IfGot Q (with_zero (Bulk Fill) g)
  unfolding with_zero
  fills g e number ready =
      read _ _ zero_byte _ _ g zero_spelt ready (λ x h zero ready. followed 0xFC (token.Plain (Bulk Fill)) h (is 0xFC e) (found_then (Unit {0}) d g h number zero tt) (λ at bytes s. s))

  initializes : (g : Cursor) → counted ≡ true → eqb b 0xFC ≡ true → Found (listed_index_is 8) (Unit {0}) d g → Ready g → IfGot Q (initializing g)
  unfolding initializing
  initializes g may e number ready =
      read _ _ u32 _ _ g u32_spelt ready (λ i h index ready.
      read _ _ zero_byte _ _ h zero_spelt ready (λ x k zero ready.
      let named = found_as (listed_index_is i.1) (Unit {0}) g h index (λ at bytes s. s.1) tt in
      followed 0xFC (token.Plain (Bulk (Init i.1))) k (is 0xFC e) (found_then (Unit {0}) d g k number (found_then (Unit {0}) g h k named zero tt) tt) (λ at bytes s. (may, s))))

  drops : (g : Cursor) → counted ≡ true → eqb b 0xFC ≡ true → Found (listed_index_is 9) (Unit {0}) d g → Ready g → IfGot Q (with_index DataDrop g)
  unfolding with_index
  drops g may e number ready =
      read _ _ u32 _ _ g u32_spelt ready (λ i h index ready.
      let named = found_as (listed_index_is i.1) (Unit {0}) g h index (λ at bytes s. s.1) tt in
      followed 0xFC (token.Plain (DataDrop i.1)) h (is 0xFC e) (found_then (Unit {0}) d g h number named tt) (λ at bytes s. (may, s)))

  prefixed_found : eqb b 0xFC ≡ true → IfGot Q (prefixed counted o d)
  unfolding prefixed by_number
  prefixed_found e =
      read _ _ u32 _ _ d u32_spelt ready (λ n g found ready.
      let number : (k : ℕ) → eqb n.1 k ≡ true → Found (listed_index_is k) (Unit {0}) d g = λ k same. found_as (listed_index_is k) (Unit {0}) d g found (λ at bytes s. subst (λ (m : ℕ). listed_index_is m at bytes) (eqb-true n.1 k same) s.1) tt in
      either_got Q (eqb n.1 8) _ _ g (λ same. either_got Q counted _ _ g (λ may. initializes g may e (number 8 same) ready) (λ none. tt)) (λ no.
      either_got Q (eqb n.1 9) _ _ g (λ same. either_got Q counted _ _ g (λ may. drops g may e (number 9 same) ready) (λ none. tt)) (λ no.
      either_got Q (eqb n.1 10) _ _ g (λ same. copies g e (number 10 same) ready) (λ no.
      either_got Q (eqb n.1 11) _ _ g (λ same. fills g e (number 11 same) ready) (λ no.
      either_got Q (nat_lt n.1 18) _ _ g (λ lt. tt) (λ no. tt))))))

  constants : (ty : ValType) → eqb b (const_opcode ty) ≡ true → IfGot Q (constant ty d)
  unfolding constant
  constants ty e =
      read _ _ (number true (bits ty)) _ _ d (number_spelt true (bits ty)) ready (λ n g value ready.
      followed (const_opcode ty) (token.Plain (Const ty n.1)) g (is (const_opcode ty) e) (found_as (signed_is ty n.1) (Unit {0}) d g value (λ at bytes s. s.1) tt) (λ at bytes s. s))

  control_found : IfGot Q (control o b d)
  unfolding control
  control_found =
      either_got Q (eqb b 0x00) _ _ d (λ e. bare 0x00 (token.Plain Unreachable) (is 0x00 e) (λ at bytes s. s)) (λ no.
      either_got Q (eqb b 0x01) _ _ d (λ e. bare 0x01 (token.Plain Nop) (is 0x01 e) (λ at bytes s. s)) (λ no.
      either_got Q (eqb b 0x02) _ _ d (λ e. typed 0x02 token.Block e (λ t at bytes s. s)) (λ no.
      either_got Q (eqb b 0x03) _ _ d (λ e. typed 0x03 token.Loop e (λ t at bytes s. s)) (λ no.
      either_got Q (eqb b 0x04) _ _ d (λ e. typed 0x04 token.If e (λ t at bytes s. s)) (λ no.
      either_got Q (eqb b 0x05) _ _ d (λ e. bare 0x05 token.Else (is 0x05 e) (λ at bytes s. s)) (λ no.
      either_got Q (eqb b 0x0B) _ _ d (λ e. bare 0x0B token.End (is 0x0B e) (λ at bytes s. s)) (λ no.
      either_got Q (eqb b 0x0C) _ _ d (λ e. indexed 0x0C Br e (λ i at bytes s. s)) (λ no.
      either_got Q (eqb b 0x0D) _ _ d (λ e. indexed 0x0D BrIf e (λ i at bytes s. s)) (λ no.
      either_got Q (eqb b 0x0E) _ _ d (λ e. branches e) (λ no.
      either_got Q (eqb b 0x0F) _ _ d (λ e. bare 0x0F (token.Plain Return) (is 0x0F e) (λ at bytes s. s)) (λ no.
      either_got Q (eqb b 0x10) _ _ d (λ e. indexed 0x10 Call e (λ i at bytes s. s)) (λ no.
      either_got Q (eqb b 0x11) _ _ d (λ e. calls_indirect e) (λ no.
      either_got Q (eqb b 0x1A) _ _ d (λ e. bare 0x1A (token.Plain Drop) (is 0x1A e) (λ at bytes s. s)) (λ no.
      either_got Q (eqb b 0x1B) _ _ d (λ e. bare 0x1B (token.Plain Select) (is 0x1B e) (λ at bytes s. s)) (λ no.
      tt)))))))))))))))

  variable_found : IfGot Q (variable o b d)
  unfolding variable
  variable_found =
      either_got Q (eqb b 0x20) _ _ d (λ e. indexed 0x20 LocalGet e (λ i at bytes s. s)) (λ no.
      either_got Q (eqb b 0x21) _ _ d (λ e. indexed 0x21 LocalSet e (λ i at bytes s. s)) (λ no.
      either_got Q (eqb b 0x22) _ _ d (λ e. indexed 0x22 LocalTee e (λ i at bytes s. s)) (λ no.
      either_got Q (eqb b 0x23) _ _ d (λ e. indexed 0x23 GlobalGet e (λ i at bytes s. s)) (λ no.
      either_got Q (eqb b 0x24) _ _ d (λ e. indexed 0x24 GlobalSet e (λ i at bytes s. s)) (λ no.
      tt)))))

  memory_found : 0x28 ≤ b → IfGot Q (memory o b d)
  unfolding memory
  memory_found ge =
      either_got Q (eqb b 0x3F) _ _ d (λ e. zeroed 0x3F MemorySize e (λ at bytes s. s)) (λ no.
      either_got Q (eqb b 0x40) _ _ d (λ e. zeroed 0x40 MemoryGrow e (λ at bytes s. s)) (λ no.
      in_table (slice_get accesses (b - 0x28)) refl))
    where
      in_table : (row : Option (Option Access)) → slice_get accesses (b - 0x28) ≡ row → IfGot Q (accessed_at o row d)
      in_table None e = tt
      in_table (Some None) e = tt
      in_table (Some (Some op)) e = accesses_memory op (access_at b op ge e)

  numeric_found : IfGot Q (numeric counted o b d)
  unfolding numeric
  numeric_found =
      either_got Q (eqb b 0x41) _ _ d (λ e. constants I32 e) (λ no.
      either_got Q (eqb b 0x42) _ _ d (λ e. constants I64 e) (λ no.
      either_got Q (nat_lt b 0x45) _ _ d (λ e. tt) (λ ge.
      in_table (ltb-false b 0x45 ge) (slice_get operations (b - 0x45)) refl)))
    where
      in_table : 0x45 ≤ b → (row : Option (Option Operation)) → slice_get operations (b - 0x45) ≡ row → IfGot Q (operated_at counted o b row d)
      in_table ge None e = either_got Q (eqb b 0xFC) _ _ d (λ y. prefixed_found y) (λ n. tt)
      in_table ge (Some None) e = tt
      in_table ge (Some (Some op)) e = bare (operation_code op) (token.Plain (Numeric op)) (sym (operation_at b op ge e)) (λ at bytes s. s)

  pub instruction_found : IfGot Q (instruction counted o b d)
  unfolding instruction
  instruction_found =
      either_got Q (nat_lt b 0x20) _ _ d (λ e. control_found) (λ n.
      either_got Q (nat_lt b 0x28) _ _ d (λ e. variable_found) (λ n.
      either_got Q (nat_lt b 0x41) _ _ d (λ e. memory_found (ltb-false b 0x28 n)) (λ n. numeric_found)))

-- ---- what is encoded is read

alone : (counted : Bool) (n : ℕ) (t : Token) → ((o : ℕ) (c : Cursor) → instruction counted o n c ≡ Got t c) → Reads (token counted) t (exactly (n ∷ []))
alone counted n t e = reads_only byte _ n t (exactly (n ∷ [])) (byte_reads n) e

before : (counted : Bool) (n : ℕ) (t : Token) (s : Spelling) → ((o : ℕ) → Reads (instruction counted o n) t s) → Reads (token counted) t (exactly (n ∷ []) then s)
before counted n t s h = reads_past byte _ n t (exactly (n ∷ [])) s (byte_reads n) h

index_read : (make : ℕ → Plain) (i : ℕ) → Reads (with_index make) (token.Plain (make i)) (listed_index_is i)
unfolding with_index
index_read make i = reads_only u32 _ i _ (listed_index_is i) (index_reads i) (λ o c. refl)

type_read : (make : BlockType → Token) (t : BlockType) → Reads (with_type make) (make t) (block_type_is t)
unfolding with_type
type_read make t = reads_on block_type _ t _ (block_type_is t) (block_type_read t) (λ c. refl)

branches_read : (labels : List ℕ) (last : ℕ) → Reads branch_table (token.Plain (BrTable labels last)) (listed_vector_is listed_index_is labels then listed_index_is last)
unfolding branch_table
branches_read labels last =
    reads_past (vector u32 label) _ labels _ (listed_vector_is listed_index_is labels) (listed_index_is last)
    (λ o. reads_as (vector u32 label) (o, labels) (vector_is listed_index_is o labels) _ (listed_as_vector listed_index_is o labels) (labels_spelt.complete (o, labels) tt))
    (λ o. reads_on label _ last _ (listed_index_is last) (label_spelt.complete last tt) (λ c. refl))

indirect_read : (i table : ℕ) → Reads indirect (token.Plain (CallIndirect i table)) (listed_index_is i then listed_index_is table)
unfolding indirect
indirect_read i table =
    reads_past u32 _ i _ (listed_index_is i) (listed_index_is table) (index_reads i)
    (λ o. reads_only u32 _ table _ (listed_index_is table) (index_reads table) (λ o c. refl))

zero_read : (p : Plain) → Reads (with_zero p) (token.Plain p) (exactly (0x00 ∷ []))
unfolding with_zero
zero_read p = reads_on zero_byte _ tt _ (exactly (0x00 ∷ [])) (zero_spelt.complete tt tt) (λ c. refl)

mem_arg_read : (op : Access) (m : MemArg) → Reads (with_mem_arg op) (token.Plain (accessed op m)) (mem_arg_is m)
unfolding with_mem_arg
mem_arg_read op m = reads_on mem_arg _ m _ (mem_arg_is m) (mem_arg_spelt.complete m tt) (λ c. refl)

constant_read : (ty : ValType) (n : ℤ) → Reads (constant ty) (token.Plain (Const ty n)) (signed_is ty n)
unfolding constant
constant_read ty n = reads_only (number true (bits ty)) _ n _ (signed_is ty n) (λ o. (number_spelt true (bits ty)).complete (o, n) tt) (λ o c. refl)

loads : (counted : Bool) (op : LoadOp) (o : ℕ) → instruction counted o (load_code op) ≡ with_mem_arg (access.Load op)
unfolding instruction memory load_code
loads counted I32Load o = refl
loads counted op o = refl

stores : (counted : Bool) (op : StoreOp) (o : ℕ) → instruction counted o (store_code op) ≡ with_mem_arg (access.Store op)
unfolding instruction memory store_code
stores counted I32Store o = refl
stores counted op o = refl

not_true : (b : Bool) → not b ≡ true → b ≡ false
not_true false e = refl
not_true true e = absurd cc

each_code : (p : ℕ → Bool) (op : Operation) → all_rows (λ (x : Operation). not (p (operation_code x))) operations ≡ true → p (operation_code op) ≡ false
each_code p op e = not_true _ (each_operation (λ (x : Operation). not (p (operation_code x))) e op)

-- no other instruction has the opcode of an operation
record IsPast (b : ℕ) : Type 0 where
  low : nat_lt b 0x20 ≡ false
  variables : nat_lt b 0x28 ≡ false
  memories : nat_lt b 0x41 ≡ false
  i32 : (b == 0x41) ≡ false
  i64 : (b == 0x42) ≡ false
  floats : nat_lt b 0x45 ≡ false

codes_are_past : (op : Operation) → IsPast (operation_code op)
unfolding operation_code
codes_are_past op = record {
  low = each_code (λ b. nat_lt b 0x20) op refl;
  variables = each_code (λ b. nat_lt b 0x28) op refl;
  memories = each_code (λ b. nat_lt b 0x41) op refl;
  i32 = each_code (λ b. b == 0x41) op refl;
  i64 = each_code (λ b. b == 0x42) op refl;
  floats = each_code (λ b. nat_lt b 0x45) op refl;
}

operates : (counted : Bool) (op : Operation) (o : ℕ) → instruction counted o (operation_code op) ≡ plain (Numeric op)
unfolding instruction numeric
operates counted op o =
    let past = codes_are_past op in
    rw (past.low, past.variables, past.memories, past.i32, past.i64, past.floats, operation_row op) refl

as_reads : (p q : Reader Token) (t : Token) (s : Spelling) → p ≡ q → Reads q t s → Reads p t s
as_reads p q t s e h = subst (λ (r : Reader Token). Reads r t s) (sym e) h

fill_read : (counted : Bool) (at : ℕ) → Reads (prefixed counted at) (token.Plain (Bulk Fill)) (listed_index_is 11 then exactly (0x00 ∷ []))
unfolding prefixed by_number
fill_read counted at = reads_past u32 _ 11 _ (listed_index_is 11) (exactly (0x00 ∷ [])) (index_reads 11) (λ o. zero_read (Bulk Fill))

zeros_read : Reads copying (token.Plain (Bulk Copy)) (exactly (0x00 ∷ []) then exactly (0x00 ∷ []))
unfolding copying
zeros_read =
    reads_then zero_byte _ tt _ (exactly (0x00 ∷ [])) (exactly (0x00 ∷ [])) (zero_spelt.complete tt tt)
    (reads_on zero_byte _ tt _ (exactly (0x00 ∷ [])) (zero_spelt.complete tt tt) (λ c. refl))

initializing_read : (i : ℕ) → Reads initializing (token.Plain (Bulk (Init i))) (listed_index_is i then exactly (0x00 ∷ []))
unfolding initializing
initializing_read i =
    reads_past u32 _ i _ (listed_index_is i) (exactly (0x00 ∷ [])) (index_reads i) (λ o. reads_on zero_byte _ tt _ (exactly (0x00 ∷ [])) (zero_spelt.complete tt tt) (λ c. refl))

init_read : (at i : ℕ) → Reads (prefixed true at) (token.Plain (Bulk (Init i))) (listed_index_is 8 then listed_index_is i then exactly (0x00 ∷ []))
unfolding prefixed by_number
init_read at i = reads_past u32 _ 8 _ (listed_index_is 8) (listed_index_is i then exactly (0x00 ∷ [])) (index_reads 8) (λ o. initializing_read i)

drop_read : (at i : ℕ) → Reads (prefixed true at) (token.Plain (DataDrop i)) (listed_index_is 9 then listed_index_is i)
unfolding prefixed by_number
drop_read at i = reads_past u32 _ 9 _ (listed_index_is 9) (listed_index_is i) (index_reads 9) (λ o. index_read DataDrop i)

-- an instruction on data segments is read where they are counted
if_counted_read : (counted : Bool) (t : Token) (s : Spelling) → Reads (token true) t s → Reads (token counted) t (if_counted counted s)
if_counted_read true t s h = reads_as (token true) t s (if_counted true s) (λ at bytes k. k.1) h
if_counted_read false t s h = record { by = λ at end front back fits k. absurd (let e = k.0 in cc) }

copy_read : (counted : Bool) (at : ℕ) → Reads (prefixed counted at) (token.Plain (Bulk Copy)) (listed_index_is 10 then exactly (0x00 ∷ []) then exactly (0x00 ∷ []))
unfolding prefixed by_number
copy_read counted at = reads_past u32 _ 10 _ (listed_index_is 10) (exactly (0x00 ∷ []) then exactly (0x00 ∷ [])) (index_reads 10) (λ o. zeros_read)

plain_read : (counted : Bool) (p : Plain) → Reads (token counted) (token.Plain p) (plain_is counted p)
unfolding instruction control variable memory numeric
plain_read counted Unreachable = alone counted 0x00 _ (λ o c. refl)
plain_read counted Nop = alone counted 0x01 _ (λ o c. refl)
plain_read counted (Br l) = before counted 0x0C _ (listed_index_is l) (λ o. index_read Br l)
plain_read counted (BrIf l) = before counted 0x0D _ (listed_index_is l) (λ o. index_read BrIf l)
plain_read counted (BrTable labels last) = before counted 0x0E _ (listed_vector_is listed_index_is labels then listed_index_is last) (λ o. branches_read labels last)
plain_read counted Return = alone counted 0x0F _ (λ o c. refl)
plain_read counted (Call x) = before counted 0x10 _ (listed_index_is x) (λ o. index_read Call x)
plain_read counted (CallIndirect i table) = before counted 0x11 _ (listed_index_is i then listed_index_is table) (λ o. indirect_read i table)
plain_read counted Drop = alone counted 0x1A _ (λ o c. refl)
plain_read counted Select = alone counted 0x1B _ (λ o c. refl)
plain_read counted (LocalGet x) = before counted 0x20 _ (listed_index_is x) (λ o. index_read LocalGet x)
plain_read counted (LocalSet x) = before counted 0x21 _ (listed_index_is x) (λ o. index_read LocalSet x)
plain_read counted (LocalTee x) = before counted 0x22 _ (listed_index_is x) (λ o. index_read LocalTee x)
plain_read counted (GlobalGet x) = before counted 0x23 _ (listed_index_is x) (λ o. index_read GlobalGet x)
plain_read counted (GlobalSet x) = before counted 0x24 _ (listed_index_is x) (λ o. index_read GlobalSet x)
plain_read counted (Load op m) = before counted (load_code op) _ (mem_arg_is m) (λ o. as_reads _ _ _ (mem_arg_is m) (loads counted op o) (mem_arg_read (access.Load op) m))
plain_read counted (Store op m) = before counted (store_code op) _ (mem_arg_is m) (λ o. as_reads _ _ _ (mem_arg_is m) (stores counted op o) (mem_arg_read (access.Store op) m))
plain_read counted MemorySize = before counted 0x3F _ (exactly (0x00 ∷ [])) (λ o. zero_read MemorySize)
plain_read counted MemoryGrow = before counted 0x40 _ (exactly (0x00 ∷ [])) (λ o. zero_read MemoryGrow)
plain_read counted (Bulk Fill) = before counted 0xFC _ (listed_index_is 11 then exactly (0x00 ∷ [])) (λ o. fill_read counted o)
plain_read counted (Bulk Copy) = before counted 0xFC _ (listed_index_is 10 then exactly (0x00 ∷ []) then exactly (0x00 ∷ [])) (λ o. copy_read counted o)
plain_read counted (Bulk (Init x)) = if_counted_read counted _ _ (before true 0xFC _ (listed_index_is 8 then listed_index_is x then exactly (0x00 ∷ [])) (λ o. init_read o x))
plain_read counted (DataDrop x) = if_counted_read counted _ _ (before true 0xFC _ (listed_index_is 9 then listed_index_is x) (λ o. drop_read o x))
plain_read counted (Const I32 n) = before counted 0x41 _ (signed_is I32 n) (λ o. constant_read I32 n)
plain_read counted (Const I64 n) = before counted 0x42 _ (signed_is I64 n) (λ o. constant_read I64 n)
plain_read counted (Numeric op) = alone counted (operation_code op) _ (λ o c. ap (λ (r : Reader Token). r c) (operates counted op o))

pub token_read : (counted : Bool) (t : Token) → Reads (token counted) t (instruction_is counted t)
unfolding instruction control
token_read counted (token.Plain p) = plain_read counted p
token_read counted (token.Block ty) = before counted 0x02 _ (block_type_is ty) (λ o. type_read token.Block ty)
token_read counted (token.Loop ty) = before counted 0x03 _ (block_type_is ty) (λ o. type_read token.Loop ty)
token_read counted (token.If ty) = before counted 0x04 _ (block_type_is ty) (λ o. type_read token.If ty)
token_read counted token.Else = alone counted 0x05 _ (λ o c. refl)
token_read counted token.End = alone counted 0x0B _ (λ o c. refl)
