-- The grammar of bodies has one reading of any bytes.
use Rattle.std.proofs.Common.{Bool, ◌≡◌, ℕ, ◌+◌, List, [], ◌∷◌, ◌++◌, length, refl, sym, ap, subst, ◌∙◌, arith, length-append}
use Rattle.wasm_defs.specs.declared.types.ValType.{ValType}
use Rattle.wasm_defs.specs.declared.token.Token.{Token}
use Rattle.wasm_defs.specs.Fields.{Cursor, Got}
use Rattle.wasm_defs.specs.Items.{each_is, listed_type_is, listed_index_is}
use Rattle.wasm_defs.specs.Bodies.{Group}
use Rattle.wasm_defs.specs.Codes.{listed_vector_is, token_is, group_is, Code}
use Rattle.wasm_laws.specs.Steadiness as steady
use Rattle.wasm_laws.proofs.Spelt.{cursor}
use Rattle.wasm_laws.proofs.OneReading.{same_length, AreOne, two_one, as_one, IsOne, each_one, listed_type_one, listed_index_one}
use Rattle.body_laws.proofs.SpeltTokens.{token_read}
use Rattle.body_laws.proofs.SpeltCodes.{token_some}

-- ---- tokens: what is encoded is what is read

same_reading : (counted : Bool) (t u : Token) (c d e f : Cursor) → c ≡ d → steady.token counted c ≡ Got t e → steady.token counted d ≡ Got u f → (t ≡ u) × (e.at ≡ f.at)
same_reading counted t u c d e f same first second =
    let both : Got t e ≡ Got u f = sym first ∙ ap (steady.token counted) same ∙ second in
    let left : e ≡ f = cc in
    (cc, ap (λ (x : Cursor). x.at) left)

same_token : (t u : ℕ × Token) → t.0 ≡ u.0 → t.1 ≡ u.1 → t ≡ u
same_token t u p q = ap (λ (o : ℕ). (o, t.1)) p ∙ ap (λ (x : Token). (u.0, x)) q

token_one : (counted : Bool) → IsOne (token_is counted)
token_one counted t u at f g b c s r e =
    let end = at + length f + length g in
    let same = same_reading counted t.1 u.1 (cursor at (f ++ b) end) (cursor at (g ++ c) end) (cursor (at + length f) b end) (cursor (at + length g) c end) (ap (λ (l : List ℕ). cursor at l end) e)
    ((token_read counted t.1).by at end f b (omega arith) s.1) ((token_read counted u.1).by at end g c (omega arith) r.1) in
    let len : length f ≡ length g = omega (arith, same.1) in
    let bytes = same_length f g b c len e in
    record { value = same_token t u (s.0 ∙ sym r.0) same.0; front = bytes.0; back = bytes.1 }

some_token : (counted : Bool) (t : ℕ × Token) (ts : List (ℕ × Token)) (at : ℕ) (f : List ℕ) → each_is (token_is counted) (t ∷ ts) at f → f ≡ [] → ⊥
some_token counted t ts at f s e = let some = token_some counted t.1 at s.front s.first.1 in omega (arith, ap length e, ap length s.parts, length-append s.front s.back)

tokens_one : (counted : Bool) (ts us : List (ℕ × Token)) (at : ℕ) (f g : List ℕ) → each_is (token_is counted) ts at f → each_is (token_is counted) us at g → f ≡ g → ts ≡ us
tokens_one counted [] [] at f g s r e = refl
tokens_one counted [] (u ∷ us) at f g s r e = absurd (some_token counted u us at g r (sym e ∙ s))
tokens_one counted (t ∷ ts) [] at f g s r e = absurd (some_token counted t ts at f s (e ∙ r))
tokens_one counted (t ∷ ts) (u ∷ us) at f g s r e =
    let h = token_one counted t u at s.front r.front s.back r.back s.first r.first (sym s.parts ∙ e ∙ r.parts) in
    let rest = tokens_one counted ts us (at + length s.front) s.back r.back s.second (subst (λ (z : List ℕ). each_is (token_is counted) us (at + length z) r.back) (sym h.front) r.second) h.back in
    ap (λ (z : ℕ × Token). z ∷ ts) h.value ∙ ap (λ (z : List (ℕ × Token)). u ∷ z) rest

-- ---- locals

group_one : IsOne group_is
group_one x y =
    as_one (λ (z : ℕ × ValType). record { count = z.0; ty = z.1 }) _ _ (x.count, x.ty) (y.count, y.ty)
    (two_one (listed_index_is x.count) (listed_index_is y.count) (listed_type_is x.ty) (listed_type_is y.ty) x.count y.count x.ty y.ty (listed_index_one x.count y.count) (λ d. listed_type_one x.ty y.ty))

groups_one : (xs ys : List Group) → AreOne (listed_vector_is group_is xs) (listed_vector_is group_is ys) xs ys
groups_one xs ys =
    as_one (λ (z : ℕ × List Group). z.1) _ _ (length xs, xs) (length ys, ys)
    (two_one (listed_index_is (length xs)) (listed_index_is (length ys)) (each_is group_is xs) (each_is group_is ys) (length xs) (length ys) xs ys (listed_index_one (length xs) (length ys)) (λ d. each_one group_is group_one xs ys d))

-- ---- bodies

pub codes_one : (counted : Bool) (first : ℕ) (bytes : List ℕ) (gs hs : List Group) (ts us : List (ℕ × Token)) → Code counted gs ts first bytes → Code counted hs us first bytes → (gs ≡ hs) × (ts ≡ us)
codes_one counted first bytes gs hs ts us j k =
    let h = groups_one gs hs first j.front k.front j.back k.back j.first k.first (sym j.parts ∙ k.parts) in
    (h.value, tokens_one counted ts us (first + length j.front) j.back k.back j.second (subst (λ (z : List ℕ). each_is (token_is counted) us (first + length z) k.back) (sym h.front) k.second) h.back)
