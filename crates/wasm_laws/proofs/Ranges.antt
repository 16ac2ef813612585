-- The immediates of code are in range.
use Rattle.std.proofs.Common.{Bool, ◌≡◌, ℕ, ◌+◌, ◌-◌, ◌*◌, ◌^◌, ◌<◌, ◌≤◌, ◌||◌, eqb, nat_lt, inl, inr, true, false, List, [], ◌∷◌, Option, Some, None, sym, subst, ap, ◌∙◌, arith, ℤ, pos, zero, suc}
use Rattle.std.specs.Prelude.{slice_get, negsuc, neg_ℤ, ◌≤ℤ◌, ◌<ℤ◌, FitsSigned}
use Rattle.std.specs.Int.{w32, w64}
use Rattle.std.proofs.lemmas.Bool.{cases_lt, lt-ltb, le-ltb}
use Rattle.std.proofs.lemmas.Int.{ints}
use Rattle.std.proofs.lemmas.Nat.{pow-add}
use Rattle.wasm_defs.proofs.NumberLaws.{AreBytes, reading_small, IsSigned, last_signed}
use Rattle.wasm_defs.specs.Numbers.{Reading, Number, CutOff, Bad, after_byte, number_at, IsSmall}
use Rattle.wasm_defs.specs.Faults.{tokens_of}
use Rattle.wasm_defs.specs.Fields.{Cursor, nat_of, window, room_of, from_reading, number, here, u32, vector, repeated, Read, Got, Fault, Wants}
use Rattle.wasm_defs.specs.Bodies.{with_index, constant, instruction, body_read, type_by, block_type, with_type, branch_table, label, indirect, with_zero, copying, by_number, prefixed, with_mem_arg, mem_arg, zero_byte, initializing, control, variable, memory, accessed_at, operated_at, numeric}
use Rattle.wasm_defs.specs.Opcodes.{operations, accesses}
use Rattle.wasm_defs.specs.Trees.{Sort, Part, Seq, Nothing, Simple, Block, Loop, If, Else, spelled, Tree}
use Rattle.wasm_defs.specs.declared.token.Plain.{Plain}
use Rattle.wasm_defs.specs.declared.token.BulkOp.TheVariants.{Fill}
use Rattle.wasm_defs.specs.declared.token.Plain.TheVariants.{LocalGet, LocalSet, LocalTee, Br, BrIf, Call, GlobalGet, GlobalSet, MemorySize, MemoryGrow, Bulk, DataDrop}
use Rattle.wasm_defs.specs.declared.token.Token.{Token}
use Rattle.wasm_defs.specs.declared.types.ValType.TheVariants.{I32, I64}
use Rattle.wasm_defs.specs.Values.{unsigned}
use Rattle.wasm_defs.specs.declared.token.Token.TheVariants as token
use Rattle.wasm_laws.specs.Immediates.{IsSpelledType, IsInRange, TokenIsInRange, TokensAreInRange, TreeIsInRange, AreIndices}
use Rattle.wasm_laws.proofs.Steady.{IfGot, always, Advances}
use Rattle.wasm_laws.proofs.Windows.{cut_got}
use Rattle.wasm_laws.proofs.Parts.{then_got, got_both, either_got}
use Rattle.wasm_laws.proofs.Spelt.{bytes_behind}
use Rattle.wasm_laws.proofs.SpeltFields.{front_bytes}
use Rattle.wasm_laws.proofs.Instructions.{Each, each_token}
use Rattle.wasm_defs.specs.declared.operation.Access.{Access}
use Rattle.wasm_defs.specs.declared.operation.Operation.{Operation}
use Rattle.wasm_defs.specs.declared.token.BlockType.{BlockType}
use Rattle.wasm_laws.proofs.FieldLaws.{u32_field}
use Rattle.wasm_defs.specs.declared.operation.Access.TheVariants as access

-- ---- signed numbers

seven_more : (bits : ℕ) → 7 < bits → 2 ^ (bits - 1) ≡ 128 * 2 ^ (bits - 7 - 1)
seven_more bits wide = let e : 7 + (bits - 7 - 1) ≡ bits - 1 = omega arith in ap (λ (k : ℕ). 2 ^ k) (sym e) ∙ pow-add 2 7 (bits - 7 - 1)

after_signed : (bits b : ℕ) (r : Reading) → 128 ≤ b → b < 256 → 7 < bits → IsSigned (bits - 7) r → IsSigned bits (after_byte b r)
after_signed bits b (Number m len) ge lt wide p =
    let e = seven_more bits wide in
    let low = p.0 in
    let high = p.1 in
    (omega (arith, ints), omega (arith, ints))
after_signed bits b CutOff ge lt wide p = tt
after_signed bits b Bad ge lt wide p = tt

reading_signed : (bits : ℕ) (bytes : List ℕ) → AreBytes bytes → IsSigned bits (number_at true bits bytes)
unfolding number_at
reading_signed bits [] fits = tt
reading_signed bits (b ∷ bytes) fits =
    elim (cases_lt b 128) [
      | inl lt ↦ rw (lt-ltb b 128 lt) (last_signed bits b lt)
      | inr ge ↦ rw (le-ltb b 128 ge) (elim (cases_lt 7 bits) [
        | inl wide ↦ rw (lt-ltb 7 bits wide) (after_signed bits b (number_at true (bits - 7) bytes) ge fits.0 wide (reading_signed (bits - 7) bytes fits.1))
        | inr narrow ↦ rw (le-ltb 7 bits narrow) tt
      ])
    ]

fits_signed : (n : ℤ) → neg_ℤ (pos 2147483648) ≤ℤ n → n <ℤ pos 2147483648 → FitsSigned w32 n
fits_signed (pos n) low high = record { sfits = omega (arith, ints) }
fits_signed (negsuc n) low high = record { sfits = omega (arith, ints) }

fits_signed_wide : (n : ℤ) → neg_ℤ (pos 9223372036854775808) ≤ℤ n → n <ℤ pos 9223372036854775808 → FitsSigned w64 n
fits_signed_wide (pos n) low high = record { sfits = omega (arith, ints) }
fits_signed_wide (negsuc n) low high = record { sfits = omega (arith, ints) }

-- its bits are a number of so many bits
pub constant_fits : (n : ℤ) → FitsSigned w32 n → unsigned I32 n < 2 ^ 32
constant_fits (pos n) h = omega (arith, h.sfits)
constant_fits (negsuc n) h = omega (arith, h.sfits)

pub long_constant_fits : (n : ℤ) → FitsSigned w64 n → unsigned I64 n < 2 ^ 64
long_constant_fits (pos n) h = omega (arith, h.sfits)
long_constant_fits (negsuc n) h = omega (arith, h.sfits)

-- ---- fields

abbrev pub HasBytes : Cursor → Type 0
HasBytes c = AreBytes c.rest

signed_got : (c : Cursor) (r : Reading) → IsSigned 32 r → IfGot (λ n d. FitsSigned w32 n.1) (from_reading c r)
signed_got c (Number n len) h = fits_signed n h.0 h.1
signed_got c CutOff h = cut_got _ _ c
signed_got c Bad h = tt

pub number_got : (c : Cursor) → HasBytes c → IfGot (λ n d. FitsSigned w32 n.1) (number true 32 c)
unfolding number
number_got c fits = signed_got c (number_at true 32 (window c)) (reading_signed 32 (window c) (front_bytes (room_of c) c.rest fits))

wide_got : (c : Cursor) (r : Reading) → IsSigned 64 r → IfGot (λ n d. FitsSigned w64 n.1) (from_reading c r)
wide_got c (Number n len) h = fits_signed_wide n h.0 h.1
wide_got c CutOff h = cut_got _ _ c
wide_got c Bad h = tt

pub wide_number_got : (c : Cursor) → HasBytes c → IfGot (λ n d. FitsSigned w64 n.1) (number true 64 c)
unfolding number
wide_number_got c fits = wide_got c (number_at true 64 (window c)) (reading_signed 64 (window c) (front_bytes (room_of c) c.rest fits))

small_index : (n : ℤ) → n <ℤ pos 4294967296 → nat_of n < 4294967296
small_index (pos n) h = omega (arith, ints)
small_index (negsuc n) h = omega arith

small_got : (c : Cursor) (r : Reading) → IsSmall 32 r → IfGot (λ n d. nat_of n.1 < 2 ^ 32) (from_reading c r)
small_got c (Number n len) h = small_index n h.1
small_got c CutOff h = cut_got _ _ c
small_got c Bad h = tt

u32_got : (c : Cursor) → HasBytes c → IfGot (λ n d. n.1 < 2 ^ 32) (u32 c)
unfolding u32 number
u32_got c fits =
    then_got (λ n d. nat_of n.1 < 2 ^ 32) (λ n d. n.1 < 2 ^ 32) (number false 32 c) _ (small_got c (number_at false 32 (window c)) (reading_small false 32 (window c) (front_bytes (room_of c) c.rest fits)))
    (λ n d h. h)

-- ---- instructions

abbrev pub InRange : Token → Cursor → Type 0
InRange t d = TokenIsInRange t

index_in_range : (make : ℕ → Plain) (d : Cursor) → HasBytes d → ((i : ℕ) → i < 2 ^ 32 → IsInRange (make i)) → IfGot InRange (with_index make d)
unfolding with_index
index_in_range make d fits h = then_got (λ i e. i.1 < 2 ^ 32) InRange (u32 d) _ (u32_got d fits) (λ i e lt. h i.1 lt)

narrow_in_range : (d : Cursor) → HasBytes d → IfGot InRange (constant I32 d)
unfolding constant
narrow_in_range d fits = then_got (λ n e. FitsSigned w32 n.1) InRange (number true 32 d) _ (number_got d fits) (λ n e h. h)

wide_in_range : (d : Cursor) → HasBytes d → IfGot InRange (constant I64 d)
unfolding constant
wide_in_range d fits = then_got (λ n e. FitsSigned w64 n.1) InRange (number true 64 d) _ (wide_number_got d fits) (λ n e h. h)

behind_bytes : {A : Type 0} (c : Cursor) (x : Read A) → HasBytes c → Advances c x → IfGot (λ a d. HasBytes d) x
behind_bytes c (Got a d) fits p = bytes_behind p.taken d.rest (subst AreBytes p.parts fits)
behind_bytes c (Fault r) fits p = tt
behind_bytes c Wants fits p = tt

-- an index, and bytes after it
index_got : (c : Cursor) → HasBytes c → IfGot (λ n d. (n.1 < 2 ^ 32) × HasBytes d) (u32 c)
index_got c fits = got_both (λ n d. n.1 < 2 ^ 32) (λ n d. HasBytes d) (u32 c) (u32_got c fits) (behind_bytes c (u32 c) fits ((u32_field.steady []).moves c))

label_got : (d : Cursor) → HasBytes d → IfGot (λ l e. (l < 2 ^ 32) × HasBytes e) (label d)
unfolding label
label_got d fits = then_got (λ i e. (i.1 < 2 ^ 32) × HasBytes e) (λ l e. (l < 2 ^ 32) × HasBytes e) (u32 d) _ (index_got d fits) (λ i e h. h)

labels_got : (n : ℕ) (d : Cursor) → HasBytes d → IfGot (λ ls e. AreIndices ls × HasBytes e) (repeated n label d)
labels_got zero d fits = (tt, fits)
labels_got (suc n) d fits =
    then_got (λ l e. (l < 2 ^ 32) × HasBytes e) (λ ls e. AreIndices ls × HasBytes e) (label d) _ (label_got d fits)
    (λ l e h. then_got (λ ls f. AreIndices ls × HasBytes f) (λ ls f. AreIndices ls × HasBytes f) (repeated n label e) _ (labels_got n e h.1) (λ ls f k. ((h.0, k.0), k.1)))

table_in_range : (d : Cursor) → HasBytes d → IfGot InRange (branch_table d)
unfolding branch_table vector
table_in_range d fits =
    then_got (λ ls e. AreIndices ls.1 × HasBytes e) InRange (vector u32 label d) _
    (then_got (λ n e. (n.1 < 2 ^ 32) × HasBytes e) (λ ls e. AreIndices ls.1 × HasBytes e) (u32 d) _ (index_got d fits)
    (λ n e h. then_got (λ ls f. AreIndices ls × HasBytes f) (λ ls f. AreIndices ls.1 × HasBytes f) (repeated n.1 label e) _ (labels_got n.1 e h.1) (λ ls f k. k)))
    (λ ls e h. then_got (λ l f. (l < 2 ^ 32) × HasBytes f) InRange (label e) _ (label_got e h.1) (λ l f k. (h.0, k.0)))

-- the index of a type has 32 bits, since it isn't negative
type_number : (c : Cursor) (r : Reading) → IsSigned 33 r → IfGot (λ n d. n.1 <ℤ pos 4294967296) (from_reading c r)
type_number c (Number n len) h = h.1
type_number c CutOff h = cut_got _ _ c
type_number c Bad h = tt

type_number_got : (c : Cursor) → HasBytes c → IfGot (λ n d. n.1 <ℤ pos 4294967296) (number true 33 c)
unfolding number
type_number_got c fits = type_number c (number_at true 33 (window c)) (reading_signed 33 (window c) (front_bytes (room_of c) c.rest fits))

type_got : (at bytes : ℕ) (n : ℤ) (d : Cursor) → n <ℤ pos 4294967296 → IfGot (λ t e. IsSpelledType t) (type_by at bytes n d)
type_got at bytes (pos i) d h = omega (arith, ints)
type_got at bytes (negsuc less) d h =
    either_got _ (nat_lt 1 bytes) _ _ d (λ long. tt) (λ short.
    either_got _ (eqb less 0x3F) _ _ d (λ e. tt) (λ no.
    either_got _ (eqb less 0x00) _ _ d (λ e. tt) (λ no.
    either_got _ (eqb less 0x01) _ _ d (λ e. tt) (λ no.
    either_got _ (eqb less 0x02 || eqb less 0x03) _ _ d (λ e. tt) (λ no. tt)))))

block_type_got : (d : Cursor) → HasBytes d → IfGot (λ t e. IsSpelledType t) (block_type d)
unfolding block_type here
block_type_got d fits = then_got (λ n e. n.1 <ℤ pos 4294967296) (λ t e. IsSpelledType t) (number true 33 d) _ (type_number_got d fits) (λ n e h. type_got n.0 (e.at - n.0) n.1 e h)

type_in_range : (make : BlockType → Token) (d : Cursor) → HasBytes d → ((t : BlockType) → IsSpelledType t → TokenIsInRange (make t)) → IfGot InRange (with_type make d)
unfolding with_type
type_in_range make d fits h = then_got (λ t e. IsSpelledType t) InRange (block_type d) _ (block_type_got d fits) (λ t e is. h t is)

zero_in_range : (p : Plain) (d : Cursor) → IsInRange p → IfGot InRange (with_zero p d)
unfolding with_zero
zero_in_range p d h = then_got (λ x e. Unit {0}) InRange (zero_byte d) _ (always (zero_byte d)) (λ x e u. h)

indirect_in_range : (d : Cursor) → HasBytes d → IfGot InRange (indirect d)
unfolding indirect
indirect_in_range d fits =
    then_got (λ i e. (i.1 < 2 ^ 32) × HasBytes e) InRange (u32 d) _ (index_got d fits)
    (λ i e h. then_got (λ t f. t.1 < 2 ^ 32) InRange (u32 e) _ (u32_got e h.1) (λ t f lt. (h.0, lt)))

mem_arg_got : (d : Cursor) → HasBytes d → IfGot (λ m e. (m.align < 2 ^ 32) × (m.offset < 2 ^ 32)) (mem_arg d)
unfolding mem_arg
mem_arg_got d fits =
    then_got (λ i e. (i.1 < 2 ^ 32) × HasBytes e) (λ m e. (m.align < 2 ^ 32) × (m.offset < 2 ^ 32)) (u32 d) _ (index_got d fits)
    (λ i e h. then_got (λ o f. o.1 < 2 ^ 32) (λ m f. (m.align < 2 ^ 32) × (m.offset < 2 ^ 32)) (u32 e) _ (u32_got e h.1) (λ o f lt. (h.0, lt)))

access_in_range : (op : Access) (d : Cursor) → HasBytes d → IfGot InRange (with_mem_arg op d)
unfolding with_mem_arg
access_in_range (access.Load op) d fits = then_got (λ m e. (m.align < 2 ^ 32) × (m.offset < 2 ^ 32)) InRange (mem_arg d) _ (mem_arg_got d fits) (λ m e h. h)
access_in_range (access.Store op) d fits = then_got (λ m e. (m.align < 2 ^ 32) × (m.offset < 2 ^ 32)) InRange (mem_arg d) _ (mem_arg_got d fits) (λ m e h. h)

accessed_in_range : (at : ℕ) (row : Option (Option Access)) (d : Cursor) → HasBytes d → IfGot InRange (accessed_at at row d)
accessed_in_range at None d fits = tt
accessed_in_range at (Some None) d fits = tt
accessed_in_range at (Some (Some op)) d fits = access_in_range op d fits

memory_in_range : (at b : ℕ) (d : Cursor) → HasBytes d → IfGot InRange (memory at b d)
unfolding memory
memory_in_range at b d fits =
    either_got _ (eqb b 0x3F) _ _ d (λ is. zero_in_range MemorySize d tt) (λ no.
    either_got _ (eqb b 0x40) _ _ d (λ is. zero_in_range MemoryGrow d tt) (λ no. accessed_in_range at (slice_get accesses (b - 0x28)) d fits))

initializing_in_range : (d : Cursor) → HasBytes d → IfGot InRange (initializing d)
unfolding initializing
initializing_in_range d fits =
    then_got (λ i e. i.1 < 2 ^ 32) InRange (u32 d) _ (u32_got d fits) (λ i e lt.
    then_got (λ x f. Unit {0}) InRange (zero_byte e) _ (always (zero_byte e)) (λ x f u. lt))

copying_in_range : (d : Cursor) → IfGot InRange (copying d)
unfolding copying
copying_in_range d =
    then_got (λ x e. Unit {0}) InRange (zero_byte d) _ (always (zero_byte d)) (λ x e u.
    then_got (λ x f. Unit {0}) InRange (zero_byte e) _ (always (zero_byte e)) (λ y f u. tt))

prefixed_in_range : (counted : Bool) (at : ℕ) (d : Cursor) → HasBytes d → IfGot InRange (prefixed counted at d)
unfolding prefixed by_number
prefixed_in_range counted at d fits =
    then_got (λ n e. (n.1 < 2 ^ 32) × HasBytes e) InRange (u32 d) _ (index_got d fits) (λ n e h.
    either_got _ (eqb n.1 8) _ _ e (λ is. either_got _ counted _ _ e (λ yes. initializing_in_range e h.1) (λ no. tt)) (λ no.
    either_got _ (eqb n.1 9) _ _ e (λ is. either_got _ counted _ _ e (λ yes. index_in_range DataDrop e h.1 (λ i lt. lt)) (λ no. tt)) (λ no.
    either_got _ (eqb n.1 10) _ _ e (λ is. copying_in_range e) (λ no.
    either_got _ (eqb n.1 11) _ _ e (λ is. zero_in_range (Bulk Fill) e tt) (λ no.
    either_got _ (nat_lt n.1 18) _ _ e (λ lt. tt) (λ no. tt))))))

-- each group of opcodes in turn
control_in_range : (at b : ℕ) (d : Cursor) → HasBytes d → IfGot InRange (control at b d)
unfolding control
control_in_range at b d fits =
    either_got _ (eqb b 0x00) _ _ d (λ is. tt) (λ no.
    either_got _ (eqb b 0x01) _ _ d (λ is. tt) (λ no.
    either_got _ (eqb b 0x02) _ _ d (λ is. type_in_range token.Block d fits (λ t is. is)) (λ no.
    either_got _ (eqb b 0x03) _ _ d (λ is. type_in_range token.Loop d fits (λ t is. is)) (λ no.
    either_got _ (eqb b 0x04) _ _ d (λ is. type_in_range token.If d fits (λ t is. is)) (λ no.
    either_got _ (eqb b 0x05) _ _ d (λ is. tt) (λ no.
    either_got _ (eqb b 0x0B) _ _ d (λ is. tt) (λ no.
    either_got _ (eqb b 0x0C) _ _ d (λ is. index_in_range Br d fits (λ i lt. lt)) (λ no.
    either_got _ (eqb b 0x0D) _ _ d (λ is. index_in_range BrIf d fits (λ i lt. lt)) (λ no.
    either_got _ (eqb b 0x0E) _ _ d (λ is. table_in_range d fits) (λ no.
    either_got _ (eqb b 0x0F) _ _ d (λ is. tt) (λ no.
    either_got _ (eqb b 0x10) _ _ d (λ is. index_in_range Call d fits (λ i lt. lt)) (λ no.
    either_got _ (eqb b 0x11) _ _ d (λ is. indirect_in_range d fits) (λ no.
    either_got _ (eqb b 0x1A) _ _ d (λ is. tt) (λ no.
    either_got _ (eqb b 0x1B) _ _ d (λ is. tt) (λ no. tt)))))))))))))))

variable_in_range : (at b : ℕ) (d : Cursor) → HasBytes d → IfGot InRange (variable at b d)
unfolding variable
variable_in_range at b d fits =
    either_got _ (eqb b 0x20) _ _ d (λ is. index_in_range LocalGet d fits (λ i lt. lt)) (λ no.
    either_got _ (eqb b 0x21) _ _ d (λ is. index_in_range LocalSet d fits (λ i lt. lt)) (λ no.
    either_got _ (eqb b 0x22) _ _ d (λ is. index_in_range LocalTee d fits (λ i lt. lt)) (λ no.
    either_got _ (eqb b 0x23) _ _ d (λ is. index_in_range GlobalGet d fits (λ i lt. lt)) (λ no.
    either_got _ (eqb b 0x24) _ _ d (λ is. index_in_range GlobalSet d fits (λ i lt. lt)) (λ no. tt)))))

operated_in_range : (counted : Bool) (at b : ℕ) (row : Option (Option Operation)) (d : Cursor) → HasBytes d → IfGot InRange (operated_at counted at b row d)
operated_in_range counted at b None d fits = either_got _ (eqb b 0xFC) _ _ d (λ is. prefixed_in_range counted at d fits) (λ no. tt)
operated_in_range counted at b (Some None) d fits = tt
operated_in_range counted at b (Some (Some op)) d fits = tt

numeric_in_range : (counted : Bool) (at b : ℕ) (d : Cursor) → HasBytes d → IfGot InRange (numeric counted at b d)
unfolding numeric
numeric_in_range counted at b d fits =
    either_got _ (eqb b 0x41) _ _ d (λ is. narrow_in_range d fits) (λ no.
    either_got _ (eqb b 0x42) _ _ d (λ is. wide_in_range d fits) (λ no.
    either_got _ (nat_lt b 0x45) _ _ d (λ lt. tt) (λ ge. operated_in_range counted at b (slice_get operations (b - 0x45)) d fits)))

pub instruction_in_range : (counted : Bool) (at b : ℕ) (d : Cursor) → HasBytes d → IfGot InRange (instruction counted at b d)
unfolding instruction
instruction_in_range counted at b d fits =
    either_got _ (nat_lt b 0x20) _ _ d (λ lt. control_in_range at b d fits) (λ ge.
    either_got _ (nat_lt b 0x28) _ _ d (λ lt. variable_in_range at b d fits) (λ ge.
    either_got _ (nat_lt b 0x41) _ _ d (λ lt. memory_in_range at b d fits) (λ ge. numeric_in_range counted at b d fits)))

-- ---- bodies

tokens_in_range : (ts : List (ℕ × Token)) → Each TokenIsInRange ts → TokensAreInRange (tokens_of ts)
tokens_in_range [] h = tt
tokens_in_range (t ∷ ts) h = (h.0, tokens_in_range ts h.1)

pub tokens_are_in_range : (counted : Bool) (first : ℕ) (bytes : List ℕ) → AreBytes bytes → TokensAreInRange (tokens_of (body_read counted first bytes).code.tokens)
tokens_are_in_range counted first bytes fits =
    tokens_in_range (body_read counted first bytes).code.tokens
    (each_token HasBytes (λ c d p known. bytes_behind p.taken d.rest (subst AreBytes p.parts known)) TokenIsInRange counted (instruction_in_range counted) first bytes fits)

-- of the tokens that encode a sequence, and those after
both_in_range : {sort : Sort} (tree : Part sort) (after : List Token) → TokensAreInRange (spelled tree after) → TreeIsInRange tree × TokensAreInRange after
both_in_range Nothing after h = (tt, h)
both_in_range (Simple p rest) after h = let more = both_in_range rest after h.1 in ((h.0, more.0), more.1)
both_in_range (Block type body rest) after h =
    let first = both_in_range body (token.End ∷ spelled rest after) h.1 in
    let more = both_in_range rest after first.1.1 in
    ((h.0, first.0, more.0), more.1)
both_in_range (Loop type body rest) after h =
    let first = both_in_range body (token.End ∷ spelled rest after) h.1 in
    let more = both_in_range rest after first.1.1 in
    ((h.0, first.0, more.0), more.1)
both_in_range (If type body other rest) after h =
    let first = both_in_range body (spelled other (token.End ∷ spelled rest after)) h.1 in
    let second = both_in_range other (token.End ∷ spelled rest after) first.1 in
    let more = both_in_range rest after second.1.1 in
    ((h.0, first.0, second.0, more.0), more.1)
both_in_range (Else other) after h = both_in_range other after h.1

pub tree_is_in_range : (counted : Bool) (first : ℕ) (bytes : List ℕ) (tree : Seq) → AreBytes bytes → Tree (tokens_of (body_read counted first bytes).code.tokens) tree → TreeIsInRange tree
tree_is_in_range counted first bytes tree fits e = (both_in_range tree (token.End ∷ []) (subst TokensAreInRange e (tokens_are_in_range counted first bytes fits))).0
