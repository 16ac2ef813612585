-- Parts of entries are read as they are encoded.
use Rattle.std.proofs.Common.{inl, inr, ◌≡◌, ◌≤◌, ◌<◌, ℕ, Bool, true, false, ltb, eqb, ◌||◌, pos, if◌then◌else◌, List, [], ◌∷◌, Option, Some, None, refl, sym, ap, subst, ◌∙◌, arith}
use Rattle.std.proofs.lemmas.Bool.{cases_Bool, cases_eq, le-ltb, lt-ltb, ltb-true, ltb-false, eqb-true, eqb-false, eq-eqb, ne_eqb, or_parts, or_from}
use Rattle.wasm_defs.specs.declared.fault.Kind.{Kind}
use Rattle.wasm_defs.specs.declared.fault.Kind.TheVariants.{Malformed, Limit, Invalid}
use Rattle.wasm_defs.specs.declared.types.ValType.{ValType}
use Rattle.wasm_defs.specs.declared.types.ValType.TheVariants.{I32, I64}
use Rattle.wasm_defs.specs.declared.item.Extern.TheVariants as extern
use Rattle.wasm_defs.specs.declared.item.Constant.{Constant}
use Rattle.wasm_defs.specs.Numbers.{Spells}
use Rattle.wasm_defs.specs.Fields.{Cursor, Read, Got, Fault, Wants, Reader, then_go, ◌>>=◌, done, refused, byte, number, u32, count}
use Rattle.wasm_defs.specs.Entries.{index, value_type, listed_type, limits, const_opcode, constant, mutability, extern_kind, listed_index}
use Rattle.wasm_defs.specs.Items.{Spelling, ◌then◌, byte_is, u32_is, type_code, type_is, listed_type_is, bounds_are, limits_are, mutability_code, listed_index_is, constant_is, extern_code}
use Rattle.wasm_defs.specs.Rules.{IsUpTo, LimitsKeep}
use Rattle.wasm_defs.specs.Values.{bits}
use Rattle.wasm_laws.proofs.Steady.{IfGot}
use Rattle.wasm_laws.proofs.Spelt.{Ready, Found, found_then, found_as, read, unless, provided, Reads, reads_then, reads_on, reads_if, reads_else, Spelt}
use Rattle.wasm_laws.proofs.SpeltFields.{Always, byte_spelt, number_spelt, u32_spelt}
use Rattle.wasm_laws.proofs.SpeltLists.{checked_spelt}
use Rattle.wasm_laws.proofs.Parts.{either_got, refused_got}

-- ---- numbers with a rule

pub count_spelt : (most : ℕ) → Spelt u32_is (λ n. Always n × (n.1 ≤ most)) (count most)
unfolding count
count_spelt most = checked_spelt u32_is Always (λ n. n.1 ≤ most) u32 (λ n. ltb most n.1) (λ n. Limit) (λ n. n.0) u32_spelt (λ n e. ltb-false most n.1 e) (λ n k le. le-ltb most n.1 le)

-- the same, where the test is of what is right
pub allowed_spelt : {A : Type 0} (S : A → Spelling) (K L : A → Type 0) (p : Reader A) (right : A → Bool) (kind : A → Kind) (place : A → ℕ) → Spelt S K p → ((x : A) → right x ≡ true → L x) → ((x : A) → K x → L x → right x ≡ true) → Spelt S (λ x. K x × L x) (p >>= (λ x. if right x then done x else refused (kind x) (place x)))
allowed_spelt S K L p right kind place h to from = record {
  sound = λ c ready.
      read S K p _ _ c h ready (λ x d found ready.
      provided _ (right x) (kind x) (place x) (done x) d (λ e.
      found_as (S x) (K x × L x) c d found (λ at bytes s. s) (found.kept, to x e)));
  complete = λ x k. reads_on p _ x x (S x) (h.complete x k.0) (λ c. rw (from x k.0 k.1) refl);
}

pub index_spelt : (most : ℕ) → Spelt u32_is (λ i. Always i × (i.1 < most)) (index most)
unfolding index
index_spelt most = allowed_spelt u32_is Always (λ i. i.1 < most) u32 (λ i. ltb i.1 most) (λ i. Invalid) (λ i. i.0) u32_spelt (λ i e. ltb-true i.1 most e) (λ i k lt. lt-ltb i.1 most lt)

-- ---- fields without their offsets

pub placed_spelt : {A : Type 0} (S : A → List ℕ → Type 0) (K : A → Type 0) (p : Reader (ℕ × A)) → Spelt (λ x at bytes. (x.0 ≡ at) × S x.1 bytes) (λ x. K x.1) p → Spelt (λ x at bytes. S x bytes) K (p >>= (λ x. done x.1))
placed_spelt {A} S K p h = record {
  sound = λ c ready.
      read (λ x at bytes. (x.0 ≡ at) × S x.1 bytes) (λ x. K x.1) p _ _ c h ready (λ x d found ready.
      found_as (λ at bytes. S x.1 bytes) (K x.1) c d found (λ at bytes s. s.1) found.kept);
  complete = λ x k. record { by = λ at end front back fits s. ap (λ (z : Read (ℕ × A)). then_go z (λ y. done y.1)) ((h.complete (at, x) k).by at end front back fits (refl, s)) };
}

pub ruled_spelt : {A : Type 0} (S : A → Spelling) (K L : A → Type 0) (p : Reader A) → ((x : A) → K x → L x) → ((x : A) → L x → K x) → Spelt S K p → Spelt S L p
ruled_spelt S K L p to from h = record {
  sound = λ c ready. kept c (p c) (h.sound c ready);
  complete = λ x k. h.complete x (from x k);
}
  where
    kept : (c : Cursor) (r : Read _) → IfGot (λ x d. Found (S x) (K x) c d) r → IfGot (λ x d. Found (S x) (L x) c d) r
    kept c (Got x d) found = found_as (S x) (L x) c d found (λ at bytes s. s) (to x found.kept)
    kept c (Fault r) found = tt
    kept c Wants found = tt

pub listed_index_spelt : (most : ℕ) → Spelt listed_index_is (λ i. i < most) (listed_index most)
unfolding listed_index
listed_index_spelt most = placed_spelt (λ i bytes. Spells (pos i) 32 false bytes) (λ i. i < most) (index most) (ruled_spelt u32_is (λ i. Always i × (i.1 < most)) (λ i. i.1 < most) (index most) (λ i k. k.1) (λ i k. (tt, k)) (index_spelt most))

-- ---- codes

pub coded_spelt : {A : Type 0} (code : A → ℕ) (g : ℕ × ℕ → Reader (ℕ × A)) → ((b : ℕ × ℕ) (d : Cursor) → IfGot (λ x e. (x.0 ≡ b.0) × (code x.1 ≡ b.1) × (e ≡ d)) (g b d)) → ((offset : ℕ) (x : A) (c : Cursor) → g (offset, code x) c ≡ Got (offset, x) c) → Spelt (λ x. byte_is x.0 (code x.1)) Always (byte >>= g)
coded_spelt {A} code g decodes encodes = record {
  sound = λ c ready. read (λ b. byte_is b.0 b.1) Always byte g (λ x d. Found (byte_is x.0 (code x.1)) (Unit {0}) c d) c byte_spelt ready (λ b d found ready. decoded c b d found (g b d) (decodes b d));
  complete = λ x k. reads_on byte g (x.0, code x.1) x (byte_is x.0 (code x.1)) (byte_spelt.complete (x.0, code x.1) tt) (encodes x.0 x.1);
}
  where
    decoded : (c : Cursor) (b : ℕ × ℕ) (d : Cursor) → Found (byte_is b.0 b.1) (Always b) c d → (r : Read (ℕ × A)) → IfGot (λ x e. (x.0 ≡ b.0) × (code x.1 ≡ b.1) × (e ≡ d)) r → IfGot (λ x e. Found (byte_is x.0 (code x.1)) (Unit {0}) c e) r
    decoded c b d found (Got x e) h = subst (λ (z : Cursor). Found (byte_is x.0 (code x.1)) (Unit {0}) c z) (sym h.2) (found_as (byte_is x.0 (code x.1)) (Unit {0}) c d found (λ at bytes s. (h.0 ∙ s.0, s.1 ∙ ap (λ (n : ℕ). n ∷ []) (sym h.1))) tt)
    decoded c b d found (Fault r) h = tt
    decoded c b d found Wants h = tt

pub value_type_spelt : Spelt type_is Always value_type
unfolding value_type
value_type_spelt =
    coded_spelt type_code _
    (λ b d.
    elim (cases_eq b.1 0x7F) [
      | inl e ↦ rw (eq-eqb b.1 0x7F e) (refl, sym e, refl)
      | inr n ↦ rw (ne_eqb b.1 0x7F n) (elim (cases_eq b.1 0x7E) [
        | inl e ↦ rw (eq-eqb b.1 0x7E e) (refl, sym e, refl)
        | inr m ↦ rw (ne_eqb b.1 0x7E m) (elim (cases_Bool (eqb b.1 0x7D || eqb b.1 0x7C)) [ inl e ↦ rw e tt | inr e ↦ rw e tt ])
      ])
    ])
    (λ offset. elim [ I32 ↦ λ c. refl | I64 ↦ λ c. refl ])

pub mutability_spelt : Spelt (λ m. byte_is m.0 (mutability_code m.1)) Always mutability
unfolding mutability
mutability_spelt =
    coded_spelt mutability_code _
    (λ b d.
    elim (cases_Bool (ltb 1 b.1)) [
      | inl over ↦ rw over tt
      | inr under ↦
          let le = ltb-false 1 b.1 under in
          rw under (refl, elim (cases_eq b.1 1) [ inl e ↦ rw e refl | inr n ↦ rw (ne_eqb b.1 1 n) (omega arith) ], refl)
    ])
    (λ offset. elim [ false ↦ λ c. refl | true ↦ λ c. refl ])

pub extern_kind_spelt : Spelt (λ k. byte_is k.0 (extern_code k.1)) Always extern_kind
unfolding extern_kind
extern_kind_spelt =
    coded_spelt extern_code _
    (λ b d.
    elim (cases_eq b.1 0) [
      | inl e ↦ rw (eq-eqb b.1 0 e) (refl, sym e, refl)
      | inr n ↦ rw (ne_eqb b.1 0 n) (elim (cases_eq b.1 1) [
        | inl e ↦ rw (eq-eqb b.1 1 e) (refl, sym e, refl)
        | inr m ↦ rw (ne_eqb b.1 1 m) (elim (cases_eq b.1 2) [
          | inl e ↦ rw (eq-eqb b.1 2 e) (refl, sym e, refl)
          | inr k ↦ rw (ne_eqb b.1 2 k) (elim (cases_eq b.1 3) [ inl e ↦ rw (eq-eqb b.1 3 e) (refl, sym e, refl) | inr l ↦ rw (ne_eqb b.1 3 l) tt ])
        ])
      ])
    ])
    (λ offset. elim [ extern.Function ↦ λ c. refl | extern.Table ↦ λ c. refl | extern.Memory ↦ λ c. refl | extern.Global ↦ λ c. refl ])

pub listed_type_spelt : Spelt listed_type_is Always listed_type
unfolding listed_type
listed_type_spelt = placed_spelt (λ ty bytes. bytes ≡ type_code ty ∷ []) Always value_type value_type_spelt

-- ---- limits

-- a byte that was found to be another
pub byte_as : (o b n : ℕ) (K : Type 0) (c d : Cursor) → b ≡ n → Found (byte_is o b) K c d → Found (byte_is o n) K c d
byte_as o b n K c d e found = subst (λ (k : ℕ). Found (byte_is o k) K c d) e found

limits_found : (most top : ℕ) (c : Cursor) → Ready c → IfGot (λ l d. Found (limits_are l) (LimitsKeep l most top) c d) (limits most top c)
unfolding limits
limits_found most top c ready =
    read _ _ byte _ _ c byte_spelt ready (λ flag d flag_found ready.
    unless _ (ltb 1 flag.1) Malformed flag.0 _ d (λ small.
    read _ _ u32 _ _ d u32_spelt ready (λ min e min_found ready.
    unless _ (ltb most min.1) Limit min.0 _ e (λ fits.
    let le = ltb-false most min.1 fits in
    either_got _ (eqb flag.1 0) _ _ e
    (λ none. found_then (LimitsKeep (record { flag = flag.0; min = min; max = None }) most top) c d e (byte_as flag.0 flag.1 0 _ c d (eqb-true flag.1 0 none) flag_found) min_found (le, tt))
    (λ some.
    let one : flag.1 ≡ 1 = let n = eqb-false flag.1 0 some in let m = ltb-false 1 flag.1 small in omega arith in
    read _ _ u32 _ _ e u32_spelt ready (λ max f max_found ready.
    unless _ (ltb top max.1 || ltb max.1 min.1) Invalid max.0 _ f (λ right.
    let p = or_parts (ltb top max.1) (ltb max.1 min.1) right in
    found_then (LimitsKeep (record { flag = flag.0; min = min; max = Some max }) most top) c d f (byte_as flag.0 flag.1 1 _ c d one flag_found)
    (found_then (Unit {0}) d e f min_found max_found tt)
    (le, (ltb-false max.1 min.1 p.1, ltb-false top max.1 p.0)))))))))

limits_read : (most top flag : ℕ) (min : ℕ × ℕ) (max : Option (ℕ × ℕ)) → (min.1 ≤ most) × IsUpTo max min top → Reads (limits most top) (record { flag = flag; min = min; max = max }) (bounds_are flag min max)
unfolding limits
limits_read most top flag min None k =
    reads_then byte _ (flag, 0) _ (byte_is flag 0) (u32_is min) (byte_spelt.complete (flag, 0) tt)
    (reads_on u32 _ min _ (u32_is min) (u32_spelt.complete min tt) (λ c. rw (le-ltb most min.1 k.0) refl))
limits_read most top flag min (Some max) k =
    reads_then byte _ (flag, 1) _ (byte_is flag 1) (u32_is min then u32_is max) (byte_spelt.complete (flag, 1) tt)
    (reads_then u32 _ min _ (u32_is min) (u32_is max) (u32_spelt.complete min tt)
    (reads_else (ltb most min.1) _ _ _ (u32_is max) (le-ltb most min.1 k.0)
    (reads_on u32 _ max _ (u32_is max) (u32_spelt.complete max tt) (λ c. rw (or_from (ltb top max.1) (ltb max.1 min.1) (le-ltb top max.1 k.1.1) (le-ltb max.1 min.1 k.1.0)) refl))))

pub limits_spelt : (most top : ℕ) → Spelt limits_are (λ l. LimitsKeep l most top) (limits most top)
limits_spelt most top = record { sound = limits_found most top; complete = λ l k. limits_read most top l.flag l.min l.max k }

-- ---- constants

constant_found : (ty : ValType) (c : Cursor) → Ready c → IfGot (λ x d. Found (constant_is ty x) (Always x) c d) (constant ty c)
unfolding constant
constant_found ty c ready =
    read _ _ byte _ _ c byte_spelt ready (λ opcode d opcode_found ready.
    either_got _ (eqb opcode.1 (const_opcode ty)) _ _ d
    (λ right.
    read _ _ (number true (bits ty)) _ _ d (number_spelt true (bits ty)) ready (λ value e value_found ready.
    read _ _ byte _ _ e byte_spelt ready (λ end f end_found ready.
    either_got _ (eqb end.1 0x0B) _ _ f
    (λ closed.
    found_then (Unit {0}) c d f (byte_as opcode.0 opcode.1 (const_opcode ty) _ c d (eqb-true opcode.1 (const_opcode ty) right) opcode_found)
    (found_then (Unit {0}) d e f value_found (byte_as end.0 end.1 0x0B _ e f (eqb-true end.1 0x0B closed) end_found) tt)
    tt)
    (λ another. refused_got _ end f))))
    (λ other. refused_got _ opcode d))

constant_read : (ty : ValType) (x : Constant) → Reads (constant ty) x (constant_is ty x)
unfolding constant
constant_read ty x =
    reads_then byte _ (x.opcode, const_opcode ty) x _ _ (byte_spelt.complete (x.opcode, const_opcode ty) tt)
    (reads_if (eqb (const_opcode ty) (const_opcode ty)) _ _ x _ (eq-eqb (const_opcode ty) (const_opcode ty) refl)
    (reads_then (number true (bits ty)) _ x.value x _ _ ((number_spelt true (bits ty)).complete x.value tt)
    (reads_on byte _ (x.end, 0x0B) x _ (byte_spelt.complete (x.end, 0x0B) tt) (λ c. refl))))

pub constant_spelt : (ty : ValType) → Spelt (constant_is ty) Always (constant ty)
constant_spelt ty = record { sound = constant_found ty; complete = λ x k. constant_read ty x }
