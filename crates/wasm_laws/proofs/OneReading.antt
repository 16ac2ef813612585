-- The grammar has one reading of any bytes.
use Rattle.std.proofs.Common.{◌≡◌, ◌≢◌, ◌≤◌, ℕ, ◌+◌, ℤ, pos, Bool, true, false, List, [], ◌∷◌, ◌++◌, length, map, take, is_some, Option, Some, None, refl, sym, ap, subst, ◌∙◌, append_assoc, arith, length-append}
use Rattle.std.specs.List.{All}
use Rattle.std.proofs.lemmas.List.{append_cancel_left, take_at, length-map}
use Rattle.std.proofs.lemmas.List.Elements.{All-head, All-tail}
use Rattle.wasm_defs.proofs.NumberLaws.{prefix_free}
use Rattle.wasm_defs.specs.declared.types.ValType.{ValType}
use Rattle.wasm_defs.specs.declared.types.ValType.TheVariants.{I32, I64}
use Rattle.wasm_defs.specs.declared.item.Extern.{Extern}
use Rattle.wasm_defs.specs.declared.item.Extern.TheVariants as extern
use Rattle.wasm_defs.specs.declared.item.Limits.{Limits}
use Rattle.wasm_defs.specs.declared.item.Constant.{Constant}
use Rattle.wasm_defs.specs.declared.item.Item.{Item}
use Rattle.wasm_defs.specs.declared.item.Item.TheVariants.{Signature, Imported, Function, Table, Memory, Global, Exported, Start, Element, Code, DataCount, Passive, Segment}
use Rattle.wasm_defs.specs.Entries.{const_opcode}
use Rattle.wasm_defs.specs.Context.{data_count_of}
use Rattle.wasm_defs.specs.Outside.{Body, position_of}
use Rattle.wasm_laws.proofs.Positions.{position_again}
use Rattle.wasm_laws.proofs.DataCounts.{all_front, all_back}
use Rattle.wasm_defs.specs.Items.{Spelling, Joined, ◌then◌, exactly, each_is, byte_is, number_is, u32_is, vector_is, Sized, bytes_are, name_is, type_code, listed_type_is, bounds_are, limits_are, mutability_code, listed_index_is, constant_is, extern_code, item_is, section_of, body_is, AllOf, Section, Payload, Custom, Vector, Starting, Counting, Bodies, payload_id, payload_position, HoldsVector, payload_is, payload_items, payload_bodies, items_in, bodies_in, section_is, Items}
use Rattle.wasm_defs.specs.Values.{bits}

-- two things that bytes begin with are one, and so is what is left
pub record Same {A : Type 0} (x y : A) (f g b c : List ℕ) : Type 0 where
  pub value : x ≡ y
  pub front : f ≡ g
  pub back : b ≡ c

-- ---- values

same_front : {A : Type 0} (x y : A) (f g b c : List ℕ) → x ≡ y → f ≡ g → f ++ b ≡ g ++ c → Same x y f g b c
same_front x y f g b c v e h = record { value = v; front = e; back = append_cancel_left g b c (ap (λ (l : List ℕ). l ++ b) (sym e) ∙ h) }

number_one : (signed : Bool) (bits : ℕ) (m n : ℕ × ℤ) (at : ℕ) (f g b c : List ℕ) → number_is signed bits m at f → number_is signed bits n at g → f ++ b ≡ g ++ c → Same m n f g b c
number_one signed bits m n at f g b c p q e =
    let h = prefix_free signed bits f g b c m.1 n.1 p.1 q.1 e in
    same_front m n f g b c (ap (λ (o : ℕ). (o, m.1)) (p.0 ∙ sym q.0) ∙ ap (λ (z : ℤ). (n.0, z)) h.1) h.0 e

u32_one : (m n : ℕ × ℕ) (at : ℕ) (f g b c : List ℕ) → u32_is m at f → u32_is n at g → f ++ b ≡ g ++ c → Same m n f g b c
u32_one m n at f g b c p q e =
    let h = prefix_free false 32 f g b c (pos m.1) (pos n.1) p.1 q.1 e in
    let same : m.1 ≡ n.1 = let k = h.1 in cc in
    same_front m n f g b c (ap (λ (o : ℕ). (o, m.1)) (p.0 ∙ sym q.0) ∙ ap (λ (z : ℕ). (n.0, z)) same) h.0 e

byte_one : (m n : ℕ × ℕ) (at : ℕ) (f g b c : List ℕ) → byte_is m.0 m.1 at f → byte_is n.0 n.1 at g → f ++ b ≡ g ++ c → Same m n f g b c
byte_one m n at f g b c s t e =
    let whole : m.1 ∷ b ≡ n.1 ∷ c = ap (λ (l : List ℕ). l ++ b) (sym s.1) ∙ e ∙ ap (λ (l : List ℕ). l ++ c) t.1 in
    let same : m.1 ≡ n.1 = cc in
    same_front m n f g b c (ap (λ (z : ℕ). (z, m.1)) (s.0 ∙ sym t.0) ∙ ap (λ (z : ℕ). (n.0, z)) same) (s.1 ∙ ap (λ (z : ℕ). z ∷ []) same ∙ sym t.1) e

-- a byte that encodes something
coded_one : {A : Type 0} (code : A → ℕ) → ((x y : A) → code x ≡ code y → x ≡ y) → (m n : ℕ × A) (at : ℕ) (f g b c : List ℕ) → byte_is m.0 (code m.1) at f → byte_is n.0 (code n.1) at g → f ++ b ≡ g ++ c → Same m n f g b c
coded_one {A} code one m n at f g b c s t e =
    let h = byte_one (m.0, code m.1) (n.0, code n.1) at f g b c s t e in
    let place : m.0 ≡ n.0 = ap (λ (z : ℕ × ℕ). z.0) h.value in
    let same : m.1 ≡ n.1 = one m.1 n.1 (ap (λ (z : ℕ × ℕ). z.1) h.value) in
    record { value = ap (λ (z : ℕ). (z, m.1)) place ∙ ap (λ (z : A). (n.0, z)) same; front = h.front; back = h.back }

-- bytes of one length
pub same_length : (f g b c : List ℕ) → length f ≡ length g → f ++ b ≡ g ++ c → (f ≡ g) × (b ≡ c)
same_length f g b c len e =
    let front : f ≡ g = sym (take_at f b (length g) len) ∙ ap (λ (l : List ℕ). take (length g) l) e ∙ take_at g c (length g) refl in
    (front, append_cancel_left g b c (ap (λ (l : List ℕ). l ++ b) (sym front) ∙ e))

-- ---- one after the other

module _ (p q s t : Spelling) (at : ℕ) (f g b c : List ℕ) (j : Joined p q at f) (k : Joined s t at g) (e : f ++ b ≡ g ++ c) where
  fronts : j.front ++ (j.back ++ b) ≡ k.front ++ (k.back ++ c)
  fronts = sym (ap (λ (l : List ℕ). l ++ b) j.parts ∙ append_assoc j.front j.back b) ∙ e ∙ ap (λ (l : List ℕ). l ++ c) k.parts ∙ append_assoc k.front k.back c

  -- both prefixes are one, and then what follows them
  joined_one : {X U : Type 0} (x y : X) (u v : U) → (j.front ++ (j.back ++ b) ≡ k.front ++ (k.back ++ c) → Same x y j.front k.front (j.back ++ b) (k.back ++ c)) → (x ≡ y → t (at + length j.front) k.back → j.back ++ b ≡ k.back ++ c → Same u v j.back k.back b c) → Same {A = X × U} (x, u) (y, v) f g b c
  joined_one {X} {U} x y u v first rest =
      let h = first fronts in
      let l = rest h.value (subst (λ (z : List ℕ). t (at + length z) k.back) (sym h.front) k.second) h.back in
      record {
        value = ap (λ (z : X). (z, u)) h.value ∙ ap (λ (z : U). (y, z)) l.value;
        front = j.parts ∙ ap (λ (z : List ℕ). z ++ j.back) h.front ∙ ap (λ (z : List ℕ). k.front ++ z) l.front ∙ sym k.parts;
        back = l.back;
      }

-- bytes that encode x don't begin others that encode y
abbrev pub AreOne : {A : Type 0} → Spelling → Spelling → A → A → Type 0
AreOne s t x y = (at : ℕ) (f g b c : List ℕ) → s at f → t at g → f ++ b ≡ g ++ c → Same x y f g b c

pub two_one : {X U : Type 0} (p s q t : Spelling) (x y : X) (u v : U) → AreOne p s x y → (x ≡ y → AreOne q t u v) → AreOne {A = X × U} (p then q) (s then t) (x, u) (y, v)
two_one p s q t x y u v first rest at f g b c j k e =
    joined_one p q s t at f g b c j k e x y u v (λ d. first at j.front k.front (j.back ++ b) (k.back ++ c) j.first k.first d) (λ d behind h. rest d (at + length j.front) j.back k.back b c j.second behind h)

pub as_one : {X Y : Type 0} (make : X → Y) (s t : Spelling) (x y : X) → AreOne s t x y → AreOne s t (make x) (make y)
as_one make s t x y h at f g b c p q e =
    let k = h at f g b c p q e in
    record { value = ap make k.value; front = k.front; back = k.back }

nothing_one : {A : Type 0} (x : A) (f g b c : List ℕ) → f ≡ [] → g ≡ [] → f ++ b ≡ g ++ c → Same x x f g b c
nothing_one x f g b c d e h = record { value = refl; front = d ∙ sym e; back = ap (λ (l : List ℕ). l ++ b) (sym d) ∙ h ∙ ap (λ (l : List ℕ). l ++ c) e }

-- sizes are one, and so are the contents
record SameContent (at : ℕ) (m n : ℕ) (p q : Spelling) (f g b c : List ℕ) : Type 0 where
  offset : m ≡ n
  place : ℕ
  content : List ℕ
  first : p place content
  second : q place content
  front : f ≡ g
  back : b ≡ c

sized_one : (m n : ℕ) (p q : Spelling) (at : ℕ) (f g b c : List ℕ) → Sized m p at f → Sized n q at g → f ++ b ≡ g ++ c → SameContent at m n p q f g b c
sized_one m n p q at f g b c s t e =
    let whole : s.front ++ (s.content ++ b) ≡ t.front ++ (t.content ++ c) = sym (ap (λ (l : List ℕ). l ++ b) s.parts ∙ append_assoc s.front s.content b) ∙ e ∙ ap (λ (l : List ℕ). l ++ c) t.parts ∙ append_assoc t.front t.content c in
    let h = u32_one (m, length s.content) (n, length t.content) at s.front t.front (s.content ++ b) (t.content ++ c) s.size t.size whole in
    let l = same_length s.content t.content b c (ap (λ (z : ℕ × ℕ). z.1) h.value) h.back in
    record {
      offset = ap (λ (z : ℕ × ℕ). z.0) h.value;
      place = at + length s.front;
      content = s.content;
      first = s.is;
      second = subst (λ (z : List ℕ). q (at + length z) s.content) (sym h.front) (subst (λ (z : List ℕ). q (at + length t.front) z) (sym l.0) t.is);
      front = s.parts ∙ ap (λ (z : List ℕ). z ++ s.content) h.front ∙ ap (λ (z : List ℕ). t.front ++ z) l.0 ∙ sym t.parts;
      back = l.1;
    }

bytes_one : (m n : ℕ × List ℕ) (at : ℕ) (f g b c : List ℕ) → bytes_are m at f → bytes_are n at g → f ++ b ≡ g ++ c → Same m n f g b c
bytes_one m n at f g b c s t e =
    let h = sized_one m.0 n.0 (exactly m.1) (exactly n.1) at f g b c s t e in
    record { value = ap (λ (z : ℕ). (z, m.1)) h.offset ∙ ap (λ (z : List ℕ). (n.0, z)) (sym h.first ∙ h.second); front = h.front; back = h.back }

-- ---- vectors

abbrev pub IsOne : {A : Type 0} → (A → Spelling) → Type 0
IsOne {A} S = (x y : A) → AreOne (S x) (S y) x y

pub each_one : {A : Type 0} (S : A → Spelling) → IsOne S → (xs ys : List A) → length xs ≡ length ys → AreOne (each_is S xs) (each_is S ys) xs ys
each_one S one [] [] len = λ at f g b c s t e. nothing_one [] f g b c s t e
each_one S one [] (y ∷ ys) len = absurd (omega arith)
each_one S one (x ∷ xs) [] len = absurd (omega arith)
each_one {A} S one (x ∷ xs) (y ∷ ys) len =
    as_one (λ (z : A × List A). z.0 ∷ z.1) _ _ (x, xs) (y, ys) (two_one (S x) (S y) (each_is S xs) (each_is S ys) x y xs ys (one x y) (λ d. each_one S one xs ys (omega arith)))

vector_one : {A : Type 0} (S : A → Spelling) → IsOne S → (m n : ℕ × List A) → AreOne (vector_is S m.0 m.1) (vector_is S n.0 n.1) m n
vector_one {A} S one m n =
    as_one (λ (z : (ℕ × ℕ) × List A). (z.0.0, z.1)) _ _ ((m.0, length m.1), m.1) ((n.0, length n.1), n.1)
    (two_one (u32_is (m.0, length m.1)) (u32_is (n.0, length n.1)) (each_is S m.1) (each_is S n.1) (m.0, length m.1) (n.0, length n.1) m.1 n.1 (u32_one (m.0, length m.1) (n.0, length n.1)) (λ d. each_one S one m.1 n.1 (ap (λ (z : ℕ × ℕ). z.1) d)))

-- ---- parts of entries

type_codes : (x y : ValType) → type_code x ≡ type_code y → x ≡ y
type_codes I32 I32 e = refl
type_codes I32 I64 e = absurd (omega arith)
type_codes I64 I32 e = absurd (omega arith)
type_codes I64 I64 e = refl

mutability_codes : (x y : Bool) → mutability_code x ≡ mutability_code y → x ≡ y
mutability_codes false false e = refl
mutability_codes false true e = absurd (omega arith)
mutability_codes true false e = absurd (omega arith)
mutability_codes true true e = refl

extern_codes : (x y : Extern) → extern_code x ≡ extern_code y → x ≡ y
extern_codes extern.Function extern.Function e = refl
extern_codes extern.Table extern.Table e = refl
extern_codes extern.Memory extern.Memory e = refl
extern_codes extern.Global extern.Global e = refl
extern_codes x y e = absurd (omega (arith, e))

pub listed_type_one : IsOne listed_type_is
listed_type_one x y at f g b c s t e =
    let h = coded_one type_code type_codes (at, x) (at, y) at f g b c (refl, s) (refl, t) e in
    record { value = ap (λ (z : ℕ × ValType). z.1) h.value; front = h.front; back = h.back }

pub listed_index_one : IsOne listed_index_is
listed_index_one x y at f g b c s t e =
    let h = u32_one (at, x) (at, y) at f g b c (refl, s) (refl, t) e in
    record { value = ap (λ (z : ℕ × ℕ). z.1) h.value; front = h.front; back = h.back }

-- limits with a maximum are none without
flags_differ : {A : Type 0} (p q : Spelling) (m n : ℕ × ℕ) (x y : A) → m.1 ≢ n.1 → AreOne (byte_is m.0 m.1 then p) (byte_is n.0 n.1 then q) x y
flags_differ p q m n x y other at f g b c s t e =
    let h = byte_one m n at s.front t.front (s.back ++ b) (t.back ++ c) s.first t.first (fronts (byte_is m.0 m.1) p (byte_is n.0 n.1) q at f g b c s t e) in
    absurd (other (ap (λ (z : ℕ × ℕ). z.1) h.value))

bounds_one : (flag flog : ℕ) (min mon : ℕ × ℕ) (max mox : Option (ℕ × ℕ)) → AreOne {A = Limits} (bounds_are flag min max) (bounds_are flog mon mox) (record { flag = flag; min = min; max = max }) (record { flag = flog; min = mon; max = mox })
bounds_one flag flog min mon None None =
    as_one (λ (z : (ℕ × ℕ) × (ℕ × ℕ)). record { flag = z.0.0; min = z.1; max = None }) _ _ ((flag, 0), min) ((flog, 0), mon)
    (two_one (byte_is flag 0) (byte_is flog 0) (u32_is min) (u32_is mon) (flag, 0) (flog, 0) min mon (byte_one (flag, 0) (flog, 0)) (λ d. u32_one min mon))
bounds_one flag flog min mon None (Some mox) = flags_differ (u32_is min) (u32_is mon then u32_is mox) (flag, 0) (flog, 1) _ _ (λ e. omega arith)
bounds_one flag flog min mon (Some max) None = flags_differ (u32_is min then u32_is max) (u32_is mon) (flag, 1) (flog, 0) _ _ (λ e. omega arith)
bounds_one flag flog min mon (Some max) (Some mox) =
    as_one (λ (z : (ℕ × ℕ) × ((ℕ × ℕ) × (ℕ × ℕ))). record { flag = z.0.0; min = z.1.0; max = Some z.1.1 }) _ _ ((flag, 1), (min, max)) ((flog, 1), (mon, mox))
    (two_one (byte_is flag 1) (byte_is flog 1) (u32_is min then u32_is max) (u32_is mon then u32_is mox) (flag, 1) (flog, 1) (min, max) (mon, mox) (byte_one (flag, 1) (flog, 1))
    (λ d. two_one (u32_is min) (u32_is mon) (u32_is max) (u32_is mox) min mon max mox (u32_one min mon) (λ d. u32_one max mox)))

limits_one : IsOne limits_are
limits_one x y = bounds_one x.flag y.flag x.min y.min x.max y.max

constant_one : (ty : ValType) → IsOne (constant_is ty)
constant_one ty x y =
    let op = const_opcode ty in
    as_one (λ (z : (ℕ × ℕ) × ((ℕ × ℤ) × (ℕ × ℕ))). record { opcode = z.0.0; value = z.1.0; end = z.1.1.0 }) _ _ ((x.opcode, op), (x.value, (x.end, 0x0B))) ((y.opcode, op), (y.value, (y.end, 0x0B)))
    (two_one (byte_is x.opcode op) (byte_is y.opcode op) _ _ (x.opcode, op) (y.opcode, op) (x.value, (x.end, 0x0B)) (y.value, (y.end, 0x0B)) (byte_one (x.opcode, op) (y.opcode, op))
    (λ d. two_one (number_is true (bits ty) x.value) (number_is true (bits ty) y.value) (byte_is x.end 0x0B) (byte_is y.end 0x0B) x.value y.value (x.end, 0x0B) (y.end, 0x0B) (number_one true (bits ty) x.value y.value) (λ d. byte_one (x.end, 0x0B) (y.end, 0x0B))))

name_one : IsOne name_is
name_one m n at f g b c s t e = bytes_one m n at f g b c s.1 t.1 e

-- ---- items

forms_differ : {A : Type 0} (p q : Spelling) (m n : ℕ × ℕ) (x y : A) → m.1 ≢ n.1 → AreOne (u32_is m then p) (u32_is n then q) x y
forms_differ p q m n x y other at f g b c s t e =
    let h = u32_one m n at s.front t.front (s.back ++ b) (t.back ++ c) s.first t.first (fronts (u32_is m) p (u32_is n) q at f g b c s t e) in
    absurd (other (ap (λ (z : ℕ × ℕ). z.1) h.value))

item_one : (x y : Item) → section_of x ≡ section_of y → AreOne (item_is x) (item_is y) x y
item_one (Signature form params outs ty) (Signature form2 params2 outs2 ty2) same =
    as_one (λ (z : (ℕ × ℕ) × ((ℕ × List ValType) × (ℕ × List ValType))). Signature z.0.0 z.1.0.0 z.1.1.0 (record { params = z.1.0.1; results = z.1.1.1 })) _ _ ((form, 0x60), ((params, ty.params), (outs, ty.results))) ((form2, 0x60), ((params2, ty2.params), (outs2, ty2.results)))
    (two_one _ _ _ _ _ _ _ _ (byte_one (form, 0x60) (form2, 0x60))
    (λ d. two_one _ _ _ _ _ _ _ _ (vector_one listed_type_is listed_type_one (params, ty.params) (params2, ty2.params)) (λ d. vector_one listed_type_is listed_type_one (outs, ty.results) (outs2, ty2.results))))
item_one (Imported from what kind i) (Imported from2 what2 kind2 i2) same =
    as_one (λ (z : (ℕ × List ℕ) × ((ℕ × List ℕ) × ((ℕ × ℕ) × (ℕ × ℕ)))). Imported z.0 z.1.0 z.1.1.0.0 z.1.1.1) _ _ (from, (what, ((kind, 0), i))) (from2, (what2, ((kind2, 0), i2)))
    (two_one _ _ _ _ _ _ _ _ (name_one from from2) (λ d. two_one _ _ _ _ _ _ _ _ (name_one what what2) (λ d. two_one _ _ _ _ _ _ _ _ (byte_one (kind, 0) (kind2, 0)) (λ d. u32_one i i2))))
item_one (Function i) (Function i2) same = as_one (λ (z : ℕ × ℕ). Function z) _ _ i i2 (u32_one i i2)
item_one (Table element l) (Table element2 l2) same =
    as_one (λ (z : (ℕ × ℕ) × Limits). Table z.0.0 z.1) _ _ ((element, 0x70), l) ((element2, 0x70), l2) (two_one _ _ _ _ _ _ _ _ (byte_one (element, 0x70) (element2, 0x70)) (λ d. limits_one l l2))
item_one (Memory l) (Memory l2) same = as_one (λ (z : Limits). Memory z) _ _ l l2 (limits_one l l2)
item_one (Global ty mutable init) (Global ty2 mutable2 init2) same =
    as_one (λ (z : (ℕ × ValType) × ((ℕ × Bool) × Constant)). Global z.0 z.1.0 z.1.1) _ _ (ty, (mutable, init)) (ty2, (mutable2, init2))
    (two_one _ _ _ _ _ _ _ _ (coded_one type_code type_codes ty ty2)
    (λ d. two_one _ _ _ _ _ _ _ _ (coded_one mutability_code mutability_codes mutable mutable2) (λ k. constants_one ty ty2 d init init2)))
  where
    constants_one : (ty ty2 : ℕ × ValType) → ty ≡ ty2 → (init init2 : Constant) → AreOne (constant_is ty.1 init) (constant_is ty2.1 init2) init init2
    constants_one ty ty2 e init init2 = subst (λ (z : ℕ × ValType). AreOne (constant_is ty.1 init) (constant_is z.1 init2) init init2) e (constant_one ty.1 init init2)
item_one (Exported label kind i) (Exported label2 kind2 i2) same =
    as_one (λ (z : (ℕ × List ℕ) × ((ℕ × Extern) × (ℕ × ℕ))). Exported z.0 z.1.0 z.1.1) _ _ (label, (kind, i)) (label2, (kind2, i2))
    (two_one _ _ _ _ _ _ _ _ (name_one label label2) (λ d. two_one _ _ _ _ _ _ _ _ (coded_one extern_code extern_codes kind kind2) (λ d. u32_one i i2)))
item_one (Start i) (Start i2) same = λ at f g b c s t e. absurd s
item_one (Element i place fs) (Element i2 place2 fs2) same =
    as_one (λ (z : (ℕ × ℕ) × (Constant × (ℕ × List ℕ))). Element z.0 z.1.0 z.1.1) _ _ (i, (place, fs)) (i2, (place2, fs2))
    (two_one _ _ _ _ _ _ _ _ (u32_one i i2) (λ d. two_one _ _ _ _ _ _ _ _ (constant_one I32 place place2) (λ d. vector_one listed_index_is listed_index_one fs fs2)))
item_one (Code count end) (Code count2 end2) same = λ at f g b c s t e. absurd s
item_one (DataCount count) (DataCount count2) same = λ at f g b c s t e. absurd s
item_one (Passive form bytes) (Passive form2 bytes2) same =
    as_one (λ (z : (ℕ × ℕ) × (ℕ × List ℕ)). Passive z.0.0 z.1) _ _ ((form, 1), bytes) ((form2, 1), bytes2) (two_one _ _ _ _ _ _ _ _ (u32_one (form, 1) (form2, 1)) (λ d. bytes_one bytes bytes2))
item_one (Segment form None place bytes) (Segment form2 None place2 bytes2) same =
    as_one (λ (z : (ℕ × ℕ) × (Constant × (ℕ × List ℕ))). Segment z.0.0 None z.1.0 z.1.1) _ _ ((form, 0), (place, bytes)) ((form2, 0), (place2, bytes2))
    (two_one _ _ _ _ _ _ _ _ (u32_one (form, 0) (form2, 0)) (λ d. two_one _ _ _ _ _ _ _ _ (constant_one I32 place place2) (λ d. bytes_one bytes bytes2)))
item_one (Segment form (Some i) place bytes) (Segment form2 (Some i2) place2 bytes2) same =
    as_one (λ (z : (ℕ × ℕ) × ((ℕ × ℕ) × (Constant × (ℕ × List ℕ)))). Segment z.0.0 (Some z.1.0) z.1.1.0 z.1.1.1) _ _ ((form, 2), (i, (place, bytes))) ((form2, 2), (i2, (place2, bytes2)))
    (two_one _ _ _ _ _ _ _ _ (u32_one (form, 2) (form2, 2))
    (λ d. two_one _ _ _ _ _ _ _ _ (u32_one i i2) (λ d. two_one _ _ _ _ _ _ _ _ (constant_one I32 place place2) (λ d. bytes_one bytes bytes2))))
item_one (Passive form bytes) (Segment form2 None place2 bytes2) same = forms_differ _ _ (form, 1) (form2, 0) _ _ (λ e. omega arith)
item_one (Passive form bytes) (Segment form2 (Some i2) place2 bytes2) same = forms_differ _ _ (form, 1) (form2, 2) _ _ (λ e. omega arith)
item_one (Segment form None place bytes) (Passive form2 bytes2) same = forms_differ _ _ (form, 0) (form2, 1) _ _ (λ e. omega arith)
item_one (Segment form None place bytes) (Segment form2 (Some i2) place2 bytes2) same = forms_differ _ _ (form, 0) (form2, 2) _ _ (λ e. omega arith)
item_one (Segment form (Some i) place bytes) (Passive form2 bytes2) same = forms_differ _ _ (form, 2) (form2, 1) _ _ (λ e. omega arith)
item_one (Segment form (Some i) place bytes) (Segment form2 None place2 bytes2) same = forms_differ _ _ (form, 2) (form2, 0) _ _ (λ e. omega arith)
item_one x y same = λ at f g b c s t e. absurd (omega (arith, same))

-- items of one section
abbrev StandsIn : ℕ → Item → Spelling
StandsIn id x = λ at bytes. (section_of x ≡ id) × item_is x at bytes

standing_one : (id : ℕ) → IsOne (StandsIn id)
standing_one id x y at f g b c s t e = item_one x y (s.0 ∙ sym t.0) at f g b c s.1 t.1 e

each_stands : (id : ℕ) (xs : List Item) (at : ℕ) (f : List ℕ) → AllOf id xs → each_is item_is xs at f → each_is (StandsIn id) xs at f
each_stands id [] at f a s = s
each_stands id (x ∷ xs) at f a s = record { front = s.front; back = s.back; parts = s.parts; first = (a.0, s.first); second = each_stands id xs (at + length s.front) s.back a.1 s.second }

items_one : (id : ℕ) (m n : ℕ × List Item) → AllOf id m.1 → AllOf id n.1 → AreOne (vector_is item_is m.0 m.1) (vector_is item_is n.0 n.1) m n
items_one id m n a o at f g b c s t e = vector_one (StandsIn id) (standing_one id) m n at f g b c (standing m a f s) (standing n o g t) e
  where
    standing : (m : ℕ × List Item) → AllOf id m.1 → (f : List ℕ) → vector_is item_is m.0 m.1 at f → vector_is (StandsIn id) m.0 m.1 at f
    standing m a f s = record { front = s.front; back = s.back; parts = s.parts; first = s.first; second = each_stands id m.1 (at + length s.front) s.back a s.second }

-- ---- bodies: their bytes don't say whether the module counts its data segments, so they are compared as if it didn't

abbrev told_as : Bool → Body → Body
told_as counted b = record b { counted = counted }

abbrev told_is : Body → Spelling
told_is b = λ at bytes. (b.counted ≡ false) × body_is b at bytes

body_one : IsOne told_is
body_one x y at f g b c s t e =
    let h = sized_one x.size y.size (λ at bytes. (x.first ≡ at) × (bytes ≡ x.bytes) × (2 ≤ length bytes)) (λ at bytes. (y.first ≡ at) × (bytes ≡ y.bytes) × (2 ≤ length bytes)) at f g b c s.1 t.1 e in
    let counted : x.counted ≡ y.counted = s.0 ∙ sym t.0 in
    let first : x.first ≡ y.first = h.first.0 ∙ sym h.second.0 in
    let bytes : x.bytes ≡ y.bytes = sym h.first.1 ∙ h.second.1 in
    record {
      value =
          ap (λ (z : Bool). record { counted = z; size = x.size; first = x.first; bytes = x.bytes }) counted
          ∙ ap (λ (z : ℕ). record { counted = y.counted; size = z; first = x.first; bytes = x.bytes }) h.offset
          ∙ ap (λ (z : ℕ). record { counted = y.counted; size = y.size; first = z; bytes = x.bytes }) first
          ∙ ap (λ (z : List ℕ). record { counted = y.counted; size = y.size; first = y.first; bytes = z }) bytes;
      front = h.front;
      back = h.back;
    }

each_untold : (bs : List Body) (at : ℕ) (f : List ℕ) → each_is body_is bs at f → each_is told_is (map (told_as false) bs) at f
each_untold [] at f s = s
each_untold (b ∷ bs) at f s = record { front = s.front; back = s.back; parts = s.parts; first = (refl, s.first); second = each_untold bs (at + length s.front) s.back s.second }

bodies_untold : (count : ℕ) (bs : List Body) (at : ℕ) (f : List ℕ) → vector_is body_is count bs at f → vector_is told_is count (map (told_as false) bs) at f
bodies_untold count bs at f s = record {
  front = s.front;
  back = s.back;
  parts = s.parts;
  first = subst (λ (k : ℕ). u32_is (count, k) at s.front) (sym (length-map bs (told_as false))) s.first;
  second = each_untold bs (at + length s.front) s.back s.second;
}

-- ---- sections

abbrev payload_told : Bool → Payload → Payload
payload_told counted (Bodies count end bodies) = Bodies count end (map (told_as counted) bodies)
payload_told counted p = p

abbrev section_told : Bool → Section → Section
section_told counted s = record s { payload = payload_told counted s.payload }

-- a vector's section has a position of its own
abbrev HoldsNone : Payload → Type 0
HoldsNone (Vector id count items) = ⊥
HoldsNone p = Unit {0}

no_vector : (id : ℕ) (p : Payload) → HoldsNone p → HoldsVector id → id ≡ payload_position p → ⊥
no_vector id (Vector k count items) none h e = none
no_vector id (Custom name) none h e = omega (arith, h.0)
no_vector id (Starting index) none h e = h.2 e
no_vector id (Counting count) none h e = h.4 e
no_vector id (Bodies count end bodies) none h e = h.3 e

payload_one : (p q : Payload) → payload_position p ≡ payload_position q → (at : ℕ) (content : List ℕ) → payload_is p at content → payload_is q at content → payload_told false p ≡ payload_told false q
payload_one (Custom name) (Custom other) same at content s t = ap Custom (name_one name other at s.front t.front s.back t.back s.first t.first (sym s.parts ∙ t.parts)).value
payload_one (Vector id count items) (Vector id2 count2 items2) same at content s t =
    let h = items_one id (count, items) (count2, items2) s.1 (subst (λ (z : ℕ). AllOf z items2) (sym same) t.1) at content content [] [] s.2 t.2 refl in
    ap (λ (z : ℕ). Vector z count items) same ∙ ap (λ (z : ℕ × List Item). Vector id2 z.0 z.1) h.value
payload_one (Starting index) (Starting index2) same at content s t = ap Starting (u32_one index index2 at content content [] [] s t refl).value
payload_one (Counting count) (Counting count2) same at content s t = ap Counting (u32_one count count2 at content content [] [] s t refl).value
payload_one (Bodies count end bodies) (Bodies count2 end2 bodies2) same at content s t =
    let x : ℕ × List Body = (count, map (told_as false) bodies) in
    let y : ℕ × List Body = (count2, map (told_as false) bodies2) in
    let h = vector_one told_is body_one x y at content content [] [] (bodies_untold count bodies at content s.1) (bodies_untold count2 bodies2 at content t.1) refl in
    ap (λ (z : ℕ). Bodies count z x.1) (s.0 ∙ sym t.0) ∙ ap (λ (z : ℕ × List Body). Bodies z.0 end2 z.1) h.value
payload_one (Vector id count items) q same at content s t = absurd (no_vector id q tt s.0 same)
payload_one p (Vector id count items) same at content s t = absurd (no_vector id p tt t.0 (sym same))
payload_one p q same at content s t = absurd (omega (arith, same))

held_one : (m n : ℕ) (p q : Payload) → payload_id p ≡ payload_id q → AreOne {A = ℕ × Payload} (Sized m (payload_is p)) (Sized n (payload_is q)) (m, payload_told false p) (n, payload_told false q)
held_one m n p q same at f g b c s t e =
    let h = sized_one m n (payload_is p) (payload_is q) at f g b c s t e in
    let position : payload_position p ≡ payload_position q = sym (position_again (payload_position p)) ∙ ap position_of same ∙ position_again (payload_position q) in
    record {
      value = ap (λ (z : ℕ). (z, payload_told false p)) h.offset ∙ ap (λ (z : Payload). (n, z)) (payload_one p q position h.place h.content h.first h.second);
      front = h.front;
      back = h.back;
    }

section_one : (x y : Section) → AreOne (section_is x) (section_is y) (section_told false x) (section_told false y)
section_one x y =
    as_one (λ (z : (ℕ × ℕ) × (ℕ × Payload)). record { id = z.0.0; size = z.1.0; payload = z.1.1 }) _ _
    ((x.id, payload_id x.payload), (x.size, payload_told false x.payload)) ((y.id, payload_id y.payload), (y.size, payload_told false y.payload))
    (two_one _ _ _ _ _ _ _ _ (byte_one (x.id, payload_id x.payload) (y.id, payload_id y.payload)) (λ d. held_one x.size y.size x.payload y.payload (ap (λ (z : ℕ × ℕ). z.1) d)))

-- ---- modules

some_section : (x : Section) (xs : List Section) (at : ℕ) (f : List ℕ) → each_is section_is (x ∷ xs) at f → f ≡ [] → ⊥
some_section x xs at f s e =
    let j = s.first in
    let len : length j.front ≡ 1 = ap length j.first.1 in
    omega (arith, ap length e, ap length s.parts, length-append s.front s.back, ap length j.parts, length-append j.front j.back)

sections_one : (xs ys : List Section) (at : ℕ) (f g : List ℕ) → each_is section_is xs at f → each_is section_is ys at g → f ≡ g → map (section_told false) xs ≡ map (section_told false) ys
sections_one [] [] at f g s t e = refl
sections_one [] (y ∷ ys) at f g s t e = absurd (some_section y ys at g t (sym e ∙ s))
sections_one (x ∷ xs) [] at f g s t e = absurd (some_section x xs at f s (e ∙ t))
sections_one (x ∷ xs) (y ∷ ys) at f g s t e =
    let h = section_one x y at s.front t.front s.back t.back s.first t.first (sym s.parts ∙ e ∙ t.parts) in
    let rest = sections_one xs ys (at + length s.front) s.back t.back s.second (subst (λ (z : List ℕ). each_is section_is ys (at + length z) t.back) (sym h.front) t.second) h.back in
    ap (λ (z : Section). z ∷ map (section_told false) xs) h.value ∙ ap (λ (z : List Section). section_told false y ∷ z) rest

-- ---- what bodies say of the data count is the module's

items_told : (xs : List Section) → items_in (map (section_told false) xs) ≡ items_in xs
items_told [] = refl
items_told (x ∷ xs) = ap (λ (l : List Item). l ++ items_in (map (section_told false) xs)) (of_payload x.payload) ∙ ap (λ (l : List Item). payload_items x.payload ++ l) (items_told xs)
  where
    of_payload : (p : Payload) → payload_items (payload_told false p) ≡ payload_items p
    of_payload (Bodies count end bodies) = ap (λ (n : ℕ). Code (count, n) end ∷ []) (length-map bodies (told_as false))
    of_payload p = refl

module _ (counted : Bool) where
  abbrev AreTold : List Body → Type 0
  AreTold bs = All (λ b. b.counted ≡ counted) bs

  bodies_again : (bs : List Body) → AreTold bs → map (told_as counted) (map (told_as false) bs) ≡ bs
  bodies_again [] h = refl
  bodies_again (b ∷ bs) h =
      ap (λ (z : Bool). record b { counted = z } ∷ map (told_as counted) (map (told_as false) bs)) (sym (All-head (λ b. b.counted ≡ counted) b bs h))
      ∙ ap (λ (l : List Body). b ∷ l) (bodies_again bs (All-tail (λ b. b.counted ≡ counted) b bs h))

  payload_again : (p : Payload) → AreTold (payload_bodies p) → payload_told counted (payload_told false p) ≡ p
  payload_again (Bodies count end bodies) h = ap (λ (l : List Body). Bodies count end l) (bodies_again bodies h)
  payload_again p h = refl

  sections_again : (xs : List Section) → AreTold (bodies_in xs) → map (section_told counted) (map (section_told false) xs) ≡ xs
  sections_again [] h = refl
  sections_again (x ∷ xs) h =
      let here = all_front (λ b. b.counted ≡ counted) (payload_bodies x.payload) (bodies_in xs) h in
      let rest = all_back (λ b. b.counted ≡ counted) (payload_bodies x.payload) (bodies_in xs) h in
      ap (λ (p : Payload). record x { payload = p } ∷ map (section_told counted) (map (section_told false) xs)) (payload_again x.payload here)
      ∙ ap (λ (l : List Section). x ∷ l) (sections_again xs rest)

pub modules_are_one : (bytes : List ℕ) (xs ys : List Section) → Items bytes xs → Items bytes ys → xs ≡ ys
modules_are_one bytes xs ys m n =
    let s = m.spelled in
    let t = n.spelled in
    let u = s.second in
    let v = t.second in
    let first : s.front ≡ t.front = s.first ∙ sym t.first in
    let behind = same_length s.front t.front s.back t.back (ap length first) (sym s.parts ∙ t.parts) in
    let second : u.front ≡ v.front = u.first ∙ sym v.first in
    let rest = same_length u.front v.front u.back v.back (ap length second) (sym u.parts ∙ behind.1 ∙ v.parts) in
    let place : 0 + length t.front + length v.front ≡ 0 + length s.front + length u.front = omega (arith, ap length first, ap length second) in
    let untold = sections_one xs ys (0 + length s.front + length u.front) u.back v.back u.second (subst (λ (z : ℕ). each_is section_is ys z v.back) place v.second) rest.1 in
    let items : items_in xs ≡ items_in ys = sym (items_told xs) ∙ ap items_in untold ∙ items_told ys in
    let counted = is_some (data_count_of (items_in xs)) in
    let told : All (λ b. b.counted ≡ counted) (bodies_in ys) = subst (λ (l : List Item). All (λ b. b.counted ≡ is_some (data_count_of l)) (bodies_in ys)) (sym items) n.told in
    sym (sections_again counted xs m.told) ∙ ap (λ (l : List Section). map (section_told counted) l) untold ∙ sections_again counted ys told
