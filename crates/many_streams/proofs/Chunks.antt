-- A chunk that is added to some chunks.
use Rattle.std.proofs.Common.{◌≡◌, ◌≢◌, ◌<◌, ◌≤◌, ℕ, Bool, true, false, ◌||◌, ◌&&◌, eqb, cond, List, [], ◌∷◌, ◌++◌, get_or, sym, refl, ap, ◌∙◌, subst, arith, append_assoc, eq-eqb}
use mathlib.Core.Logic.{dite}
use native.Mathlib.Decide.{ℕ_discrete}
use Rattle.std.proofs.Math.ListN.{set, length-set}
use Rattle.std.proofs.lemmas.Bool.{ne_eqb}
use Rattle.std.proofs.lemmas.List.{append-nil, get_or-set_same, get_or-set_other}
use Rattle.batch_pool.proofs.GatheringLaws.{or_false}
use Rattle.many_streams.specs.Frames.{Chunk, u32, chunk_encoding, chunks_encoding, encoding, bytes_of, ends, is_ended, IsOpen, MayFollow, AreInOrder, AreWellFormed}
use Rattle.many_streams.specs.Reading.{AreFlags, AreOf}

pub chunks-push : (cs : List Chunk) (c : Chunk) → chunks_encoding (cs ++ c ∷ []) ≡ chunks_encoding cs ++ chunk_encoding c
chunks-push [] c = append-nil (chunk_encoding c)
chunks-push (x ∷ cs) c =
    ap (λ (l : List ℕ). chunk_encoding x ++ l) (chunks-push cs c) ∙ sym (append_assoc (chunk_encoding x) (chunks_encoding cs) (chunk_encoding c))

pub encoding-push : (count : ℕ) (cs : List Chunk) (c : Chunk) → encoding count (cs ++ c ∷ []) ≡ encoding count cs ++ chunk_encoding c
encoding-push count cs c = ap (λ (l : List ℕ). u32 count ++ l) (chunks-push cs c) ∙ sym (append_assoc (u32 count) (chunks_encoding cs) (chunk_encoding c))

pub bytes_of-push : (i : ℕ) (cs : List Chunk) (c : Chunk) → bytes_of i (cs ++ c ∷ []) ≡ bytes_of i cs ++ cond (eqb c.index i) c.bytes []
bytes_of-push i [] c = append-nil (cond (eqb c.index i) c.bytes [])
bytes_of-push i (x ∷ cs) c =
    ap (λ (l : List ℕ). cond (eqb x.index i) x.bytes [] ++ l) (bytes_of-push i cs c)
    ∙ sym (append_assoc (cond (eqb x.index i) x.bytes []) (bytes_of i cs) (cond (eqb c.index i) c.bytes []))

or_assoc : (a b c : Bool) → (a || (b || c)) ≡ ((a || b) || c)
or_assoc true b c = refl
or_assoc false b c = refl

pub is_ended-push : (i : ℕ) (cs : List Chunk) (c : Chunk) → is_ended i (cs ++ c ∷ []) ≡ (is_ended i cs || ends i c)
is_ended-push i [] c = or_false (ends i c)
is_ended-push i (x ∷ cs) c = ap (λ (b : Bool). ends i x || b) (is_ended-push i cs c) ∙ or_assoc (ends i x) (is_ended i cs) (ends i c)

pub chunks_push : (count : ℕ) (before cs : List Chunk) (c : Chunk) → AreInOrder count before cs → MayFollow count (before ++ cs) c
    → AreInOrder count before (cs ++ c ∷ [])
chunks_push count before [] c are next = (subst (λ (l : List Chunk). MayFollow count l c) (append-nil before) next, tt)
chunks_push count before (x ∷ cs) c are next =
    (are.0, chunks_push count (before ++ x ∷ []) cs c are.1 (subst (λ (l : List Chunk). MayFollow count l c) (sym (append_assoc before (x ∷ []) cs)) next))

pub formed_push : (count : ℕ) (cs : List Chunk) (c : Chunk) → AreWellFormed count cs → MayFollow count cs c → AreWellFormed count (cs ++ c ∷ [])
formed_push count cs c formed next = record { some = formed.some; few = formed.few; chunks = chunks_push count [] cs c formed.chunks next }

-- ---- an empty chunk

abbrev pub nothing : List ℕ
nothing = []

pub no_bytes : (b : Bool) → cond b nothing nothing ≡ nothing
no_bytes true = refl
no_bytes false = refl

pub next_empty : (modules : ℕ) (cs : List Chunk) (m : ℕ) → IsOpen modules cs m → MayFollow modules cs (record { index = m; bytes = [] })
next_empty modules cs m going = record { going = going; short = omega arith }

ends_here : (m : ℕ) → ends m (record { index = m; bytes = [] }) ≡ true
ends_here m = ap (λ (b : Bool). b && true) (eq-eqb m m refl)

ends_not : (m i : ℕ) → m ≢ i → ends i (record { index = m; bytes = [] }) ≡ false
ends_not m i other = ap (λ (b : Bool). b && true) (ne_eqb m i other)

or_true : (b : Bool) → (b || true) ≡ true
or_true true = refl
or_true false = refl

-- which modules have ended after it
pub known_ended : (modules m : ℕ) (flags : List Bool) (cs : List Chunk) → modules ≤ 64 → m < modules → AreFlags modules flags cs
    → AreFlags modules (set flags m true) (cs ++ record { index = m; bytes = [] } ∷ [])
known_ended modules m flags cs few in' known = (
  length-set flags m true ∙ known.0,
  λ i below. dite (ℕ_discrete m i)
      (λ same. subst (λ (k : ℕ). get_or (set flags m true) k false ≡ is_ended k (cs ++ record { index = m; bytes = [] } ∷ [])) same
      (get_or-set_same flags m true false (let l =
      known.0 in omega arith)
      ∙ sym (is_ended-push m cs (record { index = m; bytes = [] }) ∙ (ap (λ (b : Bool). is_ended m cs || b) (ends_here m) ∙ or_true (is_ended m cs)))))
      (λ other. get_or-set_other flags m i true false (λ e. other (sym e)) ∙ (known.1 i below
      ∙ sym (is_ended-push i cs (record { index = m; bytes = [] }) ∙ (ap (λ (b : Bool). is_ended i cs || b) (ends_not m i other) ∙ or_false (is_ended i cs))))),
)

-- the module's index and the length 0 are its encoding
pub ended_bytes : (modules m : ℕ) (cs : List Chunk) (bytes : List ℕ) → bytes ≡ encoding modules cs ++ (u32 m ++ u32 0)
    → bytes ≡ encoding modules (cs ++ record { index = m; bytes = [] } ∷ [])
ended_bytes modules m cs bytes are =
    are ∙ (ap (λ (l : List ℕ). encoding modules cs ++ (u32 m ++ l)) (sym (append-nil (u32 0))) ∙ sym (encoding-push modules cs (record {
      index =
          m;
      bytes = [];
    })))

pub of_ended : (of : ℕ → List ℕ) (cs : List Chunk) (m : ℕ) → AreOf of cs → AreOf of (cs ++ record { index = m; bytes = [] } ∷ [])
of_ended of cs m each i =
    each i ∙ sym (bytes_of-push i cs (record { index = m; bytes = [] })
    ∙ (ap (λ (l : List ℕ). bytes_of i cs ++ l) (no_bytes (eqb m i)) ∙ append-nil (bytes_of i cs)))
