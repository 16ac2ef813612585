-- Bytes begin with well-formed chunks in one way, as far as they can.
use Rattle.std.proofs.Common.{◌≡◌, ◌<◌, ◌≤◌, ◌^◌, ◌⊎◌, inl, inr, ℕ, Bool, true, false, List, [], ◌∷◌, ◌++◌, length, take, drop, refl, sym, ap, ◌∙◌, subst, arith, append_assoc, length-append}
use Rattle.std.specs.Int.{w32, from_le_bytes}
use Rattle.std.proofs.lemmas.Nat.{from_le_bytes-to_le_bytes_4}
use Rattle.std.proofs.lemmas.List.{append-nil, take_at, drop_at}
use Rattle.many_streams.specs.declared.limits.TheConstants.{MAX_MODULES}
use Rattle.many_streams.specs.Frames.{Chunk, u32, chunk_encoding, chunks_encoding, is_ended, IsOpen, IsOneOpen, AreEnded, MayFollow, AreInOrder, Begins, EndsInLength, EndsInBytes, IsCutChunk}

-- ---- a number's encoding is a prefix code

pub u32-inj : (a b : ℕ) (xs ys : List ℕ) → a < 2 ^ 32 → b < 2 ^ 32 → u32 a ++ xs ≡ u32 b ++ ys → (a ≡ b) × (xs ≡ ys)
u32-inj a b xs ys fits fits' same =
    let e : u32 a ≡ u32 b = sym (take_at (u32 a) xs 4 refl) ∙ (ap (take 4) same ∙ take_at (u32 b) ys 4 refl) in (
      sym (from_le_bytes-to_le_bytes_4 a fits) ∙ (ap (from_le_bytes w32) e ∙ from_le_bytes-to_le_bytes_4 b fits'),
      sym (drop_at (u32 a) xs 4 refl) ∙ (ap (drop 4) same ∙ drop_at (u32 b) ys 4 refl),
    )

-- so is a chunk's
split : (xs ys r s : List ℕ) → length xs ≡ length ys → xs ++ r ≡ ys ++ s → (xs ≡ ys) × (r ≡ s)
split xs ys r s long same = (
  sym (take_at xs r (length ys) long) ∙ (ap (take (length ys)) same ∙ take_at ys s (length ys) refl),
  sym (drop_at xs r (length ys) long) ∙ (ap (drop (length ys)) same ∙ drop_at ys s (length ys) refl),
)

chunk-is : (c : Chunk) (i : ℕ) (bytes : List ℕ) → c.index ≡ i → c.bytes ≡ bytes → c ≡ record { index = i; bytes = bytes }
chunk-is c i bytes a b = ap (λ (k : ℕ). record { index = k; bytes = c.bytes }) a ∙ ap (λ (l : List ℕ). record { index = i; bytes = l }) b

pub chunk_encoding-inj : (count : ℕ) (before : List Chunk) (c d : Chunk) (xs ys : List ℕ) → count ≤ MAX_MODULES → MayFollow count before c
    → MayFollow count before d → chunk_encoding c ++ xs ≡ chunk_encoding d ++ ys → (c ≡ d) × (xs ≡ ys)
chunk_encoding-inj count before c d xs ys few m n same =
    let below = m.going.0 in
    let below' = n.going.0 in
    let e = u32-inj c.index d.index ((u32 (length c.bytes) ++ c.bytes) ++ xs) ((u32 (length d.bytes) ++ d.bytes) ++ ys) (omega arith) (omega arith)
    (sym (append_assoc (u32 c.index) (u32 (length c.bytes) ++ c.bytes) xs) ∙ (same ∙ append_assoc (u32 d.index) (u32 (length d.bytes) ++ d.bytes) ys)) in
    let l = u32-inj (length c.bytes) (length d.bytes) (c.bytes ++ xs) (d.bytes ++ ys) m.short n.short
    (sym (append_assoc (u32 (length c.bytes)) c.bytes xs) ∙ (e.1 ∙ append_assoc (u32 (length d.bytes)) d.bytes ys)) in
    let b = split c.bytes d.bytes xs ys l.0 l.1 in
    (chunk-is c d.index d.bytes e.0 b.0, b.1)

-- ---- well-formed chunks after which none may follow that comes

-- no chunk that may follow is at the start of the rest
abbrev pub IsStuck : ℕ → List Chunk → List ℕ → Type 0
IsStuck count cs rest = (c : Chunk) (more : List ℕ) → MayFollow count cs c → rest ≡ chunk_encoding c ++ more → ⊥

same_chunks : (count : ℕ) (before cs ds : List Chunk) (r s : List ℕ) → count ≤ MAX_MODULES → AreInOrder count before cs → AreInOrder count before ds
    → IsStuck count (before ++ cs) r → IsStuck count (before ++ ds) s
    → chunks_encoding cs ++ r ≡ chunks_encoding ds ++ s → (cs ≡ ds) × (r ≡ s)
same_chunks count before [] [] r s few are are' stuck stuck' same = (refl, same)
same_chunks count before [] (d ∷ ds) r s few are are' stuck stuck' same =
    absurd (stuck d (chunks_encoding ds ++ s) (subst (λ (l : List Chunk). MayFollow count l d) (sym (append-nil before)) are'.0) (same
    ∙ append_assoc (chunk_encoding d) (chunks_encoding ds) s))
same_chunks count before (c ∷ cs) [] r s few are are' stuck stuck' same =
    absurd (stuck' c (chunks_encoding cs ++ r) (subst (λ (l : List Chunk). MayFollow count l c) (sym (append-nil before)) are.0) (sym same
    ∙ append_assoc (chunk_encoding c) (chunks_encoding cs) r))
same_chunks count before (c ∷ cs) (d ∷ ds) r s few are are' stuck stuck' same =
    let e = chunk_encoding-inj count before c d (chunks_encoding cs ++ r) (chunks_encoding ds ++ s) few are.0 are'.0
    (sym (append_assoc (chunk_encoding c) (chunks_encoding cs) r) ∙ (same ∙ append_assoc (chunk_encoding d) (chunks_encoding ds) s)) in
    let t = same_chunks count (before ++ c ∷ []) cs ds r s few are.1 (subst (λ (x : Chunk). AreInOrder count (before ++ x ∷ []) ds) (sym e.0) are'.1)
    (subst (λ (l : List Chunk). IsStuck count l r) (sym (append_assoc before (c ∷ []) cs)) stuck)
    (subst (λ (l : List Chunk). IsStuck count l s) (sym (append_assoc before (c ∷ []) ds)
    ∙ refl) (subst (λ (x : Chunk). IsStuck count (before ++ (x ∷ ds)) s) (sym e.0) stuck')) e.1 in
    (ap (λ (x : Chunk). x ∷ cs) e.0 ∙ ap (λ (l : List Chunk). d ∷ l) t.0, t.1)

-- the number of modules, the chunks and the rest are the same
pub record AreSame (count count' : ℕ) (cs cs' : List Chunk) (rest rest' : List ℕ) : Type 0 where
  pub counts : count ≡ count'
  pub chunks : cs ≡ cs'
  pub rests : rest ≡ rest'

pub begins_once : (bytes : List ℕ) (count count' : ℕ) (cs cs' : List Chunk) (rest rest' : List ℕ) → Begins bytes count cs rest → IsStuck count cs rest
    → Begins bytes count' cs' rest' → IsStuck count' cs' rest'
    → AreSame count count' cs cs' rest rest'
begins_once bytes count count' cs cs' rest rest' b stuck b' stuck' =
    let few = b.formed.few in
    let few' = b'.formed.few in
    let e = u32-inj count count' (chunks_encoding cs ++ rest) (chunks_encoding cs' ++ rest') (omega arith) (omega arith)
    (sym (append_assoc (u32 count) (chunks_encoding cs) rest) ∙ (sym b.are ∙ (b'.are ∙ append_assoc (u32 count') (chunks_encoding cs') rest'))) in
    let s =
    same_chunks count [] cs cs' rest rest' few b.formed.chunks (subst (λ (n : ℕ). AreInOrder n [] cs') (sym e.0) b'.formed.chunks) stuck (subst (λ (n : ℕ). IsStuck n cs' rest') (sym e.0) stuck') e.1 in
    record { counts = e.0; chunks = s.0; rests = s.1 }

-- ---- where that is

true≢false : (b : Bool) → b ≡ true → b ≡ false → ⊥
true≢false b is not = cc

-- no module is open where all have ended
pub none_open : (count : ℕ) (cs : List Chunk) → AreEnded count cs → IsOneOpen count cs → ⊥
none_open count cs ended (i, (below, going)) = true≢false _ (ended i below) going

pub ended_is_stuck : (count : ℕ) (cs : List Chunk) (rest : List ℕ) → AreEnded count cs → IsStuck count cs rest
ended_is_stuck count cs rest ended c more may are = none_open count cs ended (c.index, may.going)

-- an index of no module, or of one that has ended
pub not_open : (count : ℕ) (cs : List Chunk) (i : ℕ) → (count ≤ i) ⊎ (is_ended i cs ≡ true) → IsOpen count cs i → ⊥
not_open count cs i (inl past) going = let below = going.0 in absurd (omega arith)
not_open count cs i (inr over) going = true≢false _ over going.1

pub bad_is_stuck : (count : ℕ) (cs : List Chunk) (i : ℕ) (rest : List ℕ) → count ≤ MAX_MODULES → i < 2 ^ 32 → (count ≤ i) ⊎ (is_ended i cs ≡ true)
    → IsStuck count cs (u32 i ++ rest)
bad_is_stuck count cs i rest few fits bad c more may are =
    let below = may.going.0 in
    let e = u32-inj i c.index rest ((u32 (length c.bytes) ++ c.bytes) ++ more) fits (omega arith) (are
    ∙ append_assoc (u32 c.index) (u32 (length c.bytes) ++ c.bytes) more) in
    not_open count cs i bad (subst (IsOpen count cs) (sym e.0) may.going)

-- less than a length, or fewer bytes than it says
ends_early : (after bytes more : List ℕ) → length bytes < 2 ^ 32 → EndsInLength after ⊎ EndsInBytes after → after ≡ u32 (length bytes) ++ (bytes ++ more) → ⊥
ends_early after bytes more short (inl few) are =
    let e : length after ≡ length (u32 (length bytes) ++ (bytes ++ more)) = ap length are in
    let a = length-append (u32 (length bytes)) (bytes ++ more) in
    let four : length (u32 (length bytes)) ≡ 4 = refl in
    absurd (omega arith)
ends_early after bytes more short (inr (n, came, fits, few, is)) are =
    let e = u32-inj n (length bytes) came (bytes ++ more) fits short (sym is ∙ are) in
    let l : length came ≡ length (bytes ++ more) = ap length e.1 in
    let n' = e.0 in
    let a = length-append bytes more in
    absurd (omega arith)

-- less than a chunk
pub cut_is_stuck : (count : ℕ) (cs : List Chunk) (rest : List ℕ) → count ≤ MAX_MODULES → IsCutChunk count cs rest → IsStuck count cs rest
cut_is_stuck count cs rest few (inl short) c more may are =
    let e : length rest ≡ length (chunk_encoding c ++ more) = ap length are in
    let a = length-append (chunk_encoding c) more in
    let b = length-append (u32 c.index) (u32 (length c.bytes) ++ c.bytes) in
    let four : length (u32 c.index) ≡ 4 = refl in
    absurd (omega arith)
cut_is_stuck count cs rest few (inr (i, after, going, is, short)) c more may are =
    let below = may.going.0 in
    let below' = going.0 in
    let e = u32-inj i c.index after ((u32 (length c.bytes) ++ c.bytes) ++ more) (omega arith) (omega arith) (sym is
    ∙ (are ∙ append_assoc (u32 c.index) (u32 (length c.bytes) ++ c.bytes) more)) in
    ends_early after c.bytes more may.short short (e.1 ∙ append_assoc (u32 (length c.bytes)) c.bytes more)
