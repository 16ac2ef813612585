-- What follows its count or its size is read as it is encoded.
use Rattle.std.proofs.Common.{◌≡◌, ◌≤◌, ℕ, zero, suc, ◌+◌, ◌-◌, Bool, false, ltb, if◌then◌else◌, List, [], ◌∷◌, ◌++◌, length, refl, sym, ap, subst, ◌∙◌, append_assoc, arith, length-append}
use Rattle.std.specs.List.{All}
use Rattle.std.proofs.lemmas.Bool.{le-ltb}
use Rattle.std.proofs.lemmas.List.Elements.{All-nil, All-cons, All-head, All-tail}
use Rattle.wasm_defs.specs.declared.fault.Kind.{Kind}
use Rattle.wasm_defs.specs.declared.fault.Kind.TheVariants.{Malformed}
use Rattle.wasm_defs.specs.Fields.{Cursor, Read, Got, Fault, Wants, Reader, then_go, ◌>>=◌, done, refused, repeated, room_of, u32, vector, run, room, counted_bytes}
use Rattle.wasm_defs.specs.Items.{Spelling, ◌then◌, exactly, each_is, u32_is, vector_is, Sized, bytes_are}
use Rattle.wasm_laws.proofs.Steady.{IfGot}
use Rattle.wasm_laws.proofs.Spelt.{cursor, Ready, Found, found_nothing, found_then, found_as, read, unless, Reads, reads_then, reads_on, reads_last, Spelt}
use Rattle.wasm_laws.proofs.SpeltFields.{Always, u32_spelt, run_spelt}

-- ---- one after the other

repeated_found : {A : Type 0} (S : A → Spelling) (K : A → Type 0) (p : Reader A) → Spelt S K p → (n : ℕ) (c : Cursor) → Ready c → IfGot (λ xs d. Found (each_is S xs) ((length xs ≡ n) × All K xs) c d) (repeated n p c)
repeated_found S K p h zero c ready = found_nothing c _ ready (refl, All-nil K)
repeated_found {A} S K p h (suc n) c ready =
    let Q : List A → Cursor → Type 0 = λ xs d. Found (each_is S xs) ((length xs ≡ suc n) × All K xs) c d in
    read S K p (λ x. repeated n p >>= (λ xs. done (x ∷ xs))) Q c h ready (λ x d found ready.
    rest Q x d (repeated n p d) (repeated_found S K p h n d ready) (λ xs e tail. found_then ((length (x ∷ xs) ≡ suc n) × All K (x ∷ xs)) c d e found tail (ap suc tail.kept.0, All-cons K x xs found.kept tail.kept.1)))
  where
    rest : (Q : List A → Cursor → Type 0) (x : A) (d : Cursor) (r : Read (List A)) → IfGot (λ xs e. Found (each_is S xs) ((length xs ≡ n) × All K xs) d e) r → ((xs : List A) (e : Cursor) → Found (each_is S xs) ((length xs ≡ n) × All K xs) d e → Q (x ∷ xs) e) → IfGot Q (then_go r (λ xs. done (x ∷ xs)))
    rest Q x d (Got xs e) p f = f xs e p
    rest Q x d (Fault r) p f = tt
    rest Q x d Wants p f = tt

repeated_reads : {A : Type 0} (S : A → Spelling) (K : A → Type 0) (p : Reader A) → Spelt S K p → (n : ℕ) (xs : List A) → (length xs ≡ n) × All K xs → Reads (repeated n p) xs (each_is S xs)
repeated_reads {A} S K p h zero [] k = record { by = λ at end front back fits e. nothing at end front back e }
  where
    nothing : (at end : ℕ) (front back : List ℕ) → front ≡ [] → repeated zero p (cursor at (front ++ back) end) ≡ Got [] (cursor (at + length front) back end)
    nothing at end front back e = let zero_more : at + 0 ≡ at = omega arith in rw (e, zero_more) refl
repeated_reads S K p h zero (x ∷ xs) k = absurd (omega (arith, k.0))
repeated_reads S K p h (suc n) [] k = absurd (omega (arith, k.0))
repeated_reads {A} S K p h (suc n) (x ∷ xs) k =
    let rest = repeated_reads S K p h n xs (omega (arith, k.0), All-tail K x xs k.1) in
    reads_then p (λ y. repeated n p >>= (λ ys. done (y ∷ ys))) x (x ∷ xs) (S x) (each_is S xs) (h.complete x (All-head K x xs k.1))
    (reads_last (repeated n p) (λ (ys : List A). x ∷ ys) xs (each_is S xs) rest)

pub repeated_spelt : {A : Type 0} (S : A → Spelling) (K : A → Type 0) (p : Reader A) → Spelt S K p → (n : ℕ) → Spelt (each_is S) (λ xs. (length xs ≡ n) × All K xs) (repeated n p)
repeated_spelt S K p h n = record { sound = repeated_found S K p h n; complete = repeated_reads S K p h n }

pub vector_spelt : {A : Type 0} (S : A → Spelling) (K : A → Type 0) (C : ℕ × ℕ → Type 0) (counted : Reader (ℕ × ℕ)) (p : Reader A) → Spelt u32_is C counted → Spelt S K p
    → Spelt (λ xs. vector_is S xs.0 xs.1) (λ xs. C (xs.0, length xs.1) × All K xs.1) (vector counted p)
unfolding vector
vector_spelt {A} S K C counted p hc hp = record {
  sound = λ c ready.
      read u32_is C counted _ _ c hc ready (λ n d found ready.
      read (each_is S) (λ xs. (length xs ≡ n.1) × All K xs) (repeated n.1 p) _ _ d (repeated_spelt S K p hp n.1) ready (λ xs e list ready.
      let same : n ≡ (n.0, length xs) = ap (λ (k : ℕ). (n.0, k)) (sym list.kept.0) in
      found_then (C (n.0, length xs) × All K xs) c d e (subst (λ (m : ℕ × ℕ). Found (u32_is m) (C n) c d) same found) list (subst C same found.kept, list.kept.1)));
  complete = λ xs k.
      reads_then counted _ (xs.0, length xs.1) xs (u32_is (xs.0, length xs.1)) (each_is S xs.1) (hc.complete (xs.0, length xs.1) k.0)
      (reads_last (repeated (length xs.1) p) (λ (ys : List A). (xs.0, ys)) xs.1 (each_is S xs.1) ((repeated_spelt S K p hp (length xs.1)).complete xs.1 (refl, k.1)));
}

-- ---- fields with a rule

pub checked_spelt : {A : Type 0} (S : A → Spelling) (K L : A → Type 0) (p : Reader A) (wrong : A → Bool) (kind : A → Kind) (place : A → ℕ) → Spelt S K p → ((x : A) → wrong x ≡ false → L x) → ((x : A) → K x → L x → wrong x ≡ false) → Spelt S (λ x. K x × L x) (p >>= (λ x. if wrong x then refused (kind x) (place x) else done x))
checked_spelt S K L p wrong kind place h to from = record {
  sound = λ c ready.
      read S K p _ _ c h ready (λ x d found ready.
      unless _ (wrong x) (kind x) (place x) (done x) d (λ right.
      found_as (S x) (K x × L x) c d found (λ at bytes s. s) (found.kept, to x right)));
  complete = λ x k. reads_on p _ x x (S x) (h.complete x k.0) (λ c. rw (from x k.0 k.1) refl);
}

-- ---- sizes

pub found_sized : {p : Spelling} {K L : Type 0} (M : Type 0) (n : ℕ × ℕ) (c d e : Cursor) → Found (u32_is n) K c d → (q : Found p L d e) → length q.taken ≡ n.1 → M → Found (Sized n.0 p) M c e
found_sized {p} M n c d e f q len h = record {
  taken = f.taken ++ q.taken;
  parts = f.parts ∙ ap (λ (l : List ℕ). f.taken ++ l) q.parts ∙ sym (append_assoc f.taken q.taken e.rest);
  at = omega (arith, f.at, q.at, length-append f.taken q.taken);
  end = q.end ∙ f.end;
  fits = omega (arith, f.at, f.end, q.fits, length-append f.taken q.taken);
  spelled = record { front = f.taken; content = q.taken; parts = refl; size = subst (λ (m : ℕ). u32_is (n.0, m) c.at f.taken) (sym len) f.spelled; is = subst (λ (at : ℕ). p at q.taken) f.at q.spelled };
  kept = h;
}

-- after the size of what fits, that is read
abbrev pub ReadsContent : {B : Type 0} → (ℕ × ℕ → Reader B) → ℕ → B → Spelling → Type 0
ReadsContent f offset y p = (at end : ℕ) (content back : List ℕ) → at + length content ≤ end → p at content → f (offset, length content) (cursor at (content ++ back) end) ≡ Got y (cursor (at + length content) back end)

pub reads_sized : {B : Type 0} (f : ℕ × ℕ → Reader B) (offset : ℕ) (y : B) (p : Spelling) → ReadsContent f offset y p → Reads (u32 >>= f) y (Sized offset p)
reads_sized {B} f offset y p h = record { by = λ at end bytes back fits s. whole at end bytes back fits s }
  where
    whole : (at end : ℕ) (bytes back : List ℕ) → at + length bytes ≤ end → Sized offset p at bytes → then_go (u32 (cursor at (bytes ++ back) end)) f ≡ Got y (cursor (at + length bytes) back end)
    whole at end bytes back fits s =
        let len : length bytes ≡ length s.front + length s.content = ap length s.parts ∙ length-append s.front s.content in
        let place : at + length bytes ≡ at + length s.front + length s.content = omega arith in
        let all : bytes ++ back ≡ s.front ++ (s.content ++ back) = ap (λ (l : List ℕ). l ++ back) s.parts ∙ append_assoc s.front s.content back in
        let n : ℕ × ℕ = (offset, length s.content) in
        let first = (u32_spelt.complete n tt).by at end s.front (s.content ++ back) (omega arith) s.size in
        rw (all, place) (ap (λ (z : Read (ℕ × ℕ)). then_go z f) first ∙ h (at + length s.front) end s.content back (omega arith) s.is)

counted_content : (x : ℕ × List ℕ) → ReadsContent (λ n. room >>= (λ left. if ltb left n.1 then refused Malformed n.0 else (run n.1 >>= (λ bytes. done (n.0, bytes))))) x.0 x (exactly x.1)
unfolding room
counted_content x at end content back fits e =
    rw (le-ltb (end - at) (length content) (omega arith)) (ap (λ (z : Read (List ℕ)). then_go z (λ bytes. done (x.0, bytes))) (((run_spelt (length content)).complete x.1 (ap length (sym e))).by at end content back fits e))

pub counted_bytes_spelt : Spelt bytes_are Always counted_bytes
unfolding counted_bytes room
counted_bytes_spelt = record {
  sound = λ c ready.
      read u32_is Always u32 _ _ c u32_spelt ready (λ n d found ready.
      unless _ (ltb (room_of d) n.1) Malformed n.0 _ d (λ fits.
      read exactly (λ bytes. length bytes ≡ n.1) (run n.1) _ _ d (run_spelt n.1) ready (λ bytes e content ready.
      found_sized (Unit {0}) n c d e found content (ap length content.spelled ∙ content.kept) tt)));
  complete = λ x k. reads_sized _ x.0 x (exactly x.1) (counted_content x);
}
