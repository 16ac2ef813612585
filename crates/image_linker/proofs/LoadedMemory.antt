-- The memory that segments are written into (WebAssembly Core 1.0, 4.5.4): the first pages of a region with room for more.
use Rattle.std.proofs.Common.{◌≡◌, ℕ, ◌+◌, ◌-◌, ◌*◌, ◌<◌, ◌≤◌, true, List, [], ◌∷◌, ◌++◌, take, drop, length, replicate, refl, sym, ap, ap₂, subst, ◌∙◌, arith, append_assoc, length-append, length-drop}
use Rattle.std.specs.Prelude.{nat_le}
use Rattle.std.proofs.lemmas.Bool.{and_parts, leb-true}
use Rattle.std.proofs.lemmas.List.{length-take-le, length-replicate, replicate-append-replicate, take-append-le, drop-append-le, take_at, drop_at}
use Rattle.std.proofs.lemmas.List.Elements.{All-append, All-take, All-drop, All-replicate}
use Rattle.rv_isa.specs.Runs.{AreBytes}
use Rattle.wasm_defs.specs.Memory.{page}
use Rattle.wasm_defs.specs.Instances.{Written, over, all_over, all_fit}

-- the bytes of all segments are bytes
abbrev pub HaveBytes : List (Written ℕ) → Type 0
HaveBytes [] = Unit {0}
HaveBytes (w ∷ ws) = AreBytes w.1 × HaveBytes ws

-- ---- one segment

pub over_length : {A : Type 0} (old : List A) (w : Written A) → w.0 + length w.1 ≤ length old → length (over old w) ≡ length old
over_length {A} old w fits =
    length-append (take w.0 old) (w.1 ++ drop (w.0 + length w.1) old)
    ∙ omega (arith, length-take-le w.0 old (omega arith), length-append w.1 (drop (w.0 + length w.1) old), length-drop (w.0 + length w.1) old, fits)

-- where it fits into the prefix, what is after stays
over_front : (front back : List ℕ) (w : Written ℕ) → w.0 + length w.1 ≤ length front → over (front ++ back) w ≡ over front w ++ back
over_front front back w fits =
    let behind = w.0 + length w.1 in
    ap₂ (λ (xs ys : List ℕ). xs ++ (w.1 ++ ys)) (take-append-le w.0 front back (omega arith)) (drop-append-le behind front back fits)
    ∙ ap (λ (ys : List ℕ). take w.0 front ++ ys) (sym (append_assoc w.1 (drop behind front) back))
    ∙ sym (append_assoc (take w.0 front) (w.1 ++ drop behind front) back)

over_bytes : (old : List ℕ) (w : Written ℕ) → AreBytes old → AreBytes w.1 → AreBytes (over old w)
over_bytes old w bytes new =
    let small = λ (x : ℕ). x < 256 in
    let behind = drop (w.0 + length w.1) old in
    All-append small (take w.0 old) (w.1 ++ behind) (All-take small w.0 old bytes) (All-append small w.1 behind new (All-drop small (w.0 + length w.1) old bytes))

-- ---- all of them

first_fits : {A : Type 0} (size : ℕ) (w : Written A) (ws : List (Written A)) → all_fit size (w ∷ ws) ≡ true → (w.0 + length w.1 ≤ size) × (all_fit size ws ≡ true)
first_fits {A} size w ws fit =
    let parts = and_parts (nat_le (w.0 + length w.1) size) (all_fit size ws) fit in
    (leb-true (w.0 + length w.1) size parts.0, parts.1)

pub all_over_length : {A : Type 0} (old : List A) (ws : List (Written A)) (size : ℕ) → length old ≡ size → all_fit size ws ≡ true → length (all_over old ws) ≡ size
all_over_length {A} old [] size is fit = is
all_over_length {A} old (w ∷ ws) size is fit =
    let h = first_fits size w ws fit in
    all_over_length (over old w) ws size (over_length old w (omega (arith, is, h.0)) ∙ is) h.1

all_over_front : (front back : List ℕ) (ws : List (Written ℕ)) (size : ℕ) → length front ≡ size → all_fit size ws ≡ true → all_over (front ++ back) ws ≡ all_over front ws ++ back
all_over_front front back [] size is fit = refl
all_over_front front back (w ∷ ws) size is fit =
    let h = first_fits size w ws fit in
    ap (λ (l : List ℕ). all_over l ws) (over_front front back w (omega (arith, is, h.0)))
    ∙ all_over_front (over front w) back ws size (over_length front w (omega (arith, is, h.0)) ∙ is) h.1

all_over_bytes : (old : List ℕ) (ws : List (Written ℕ)) → AreBytes old → HaveBytes ws → AreBytes (all_over old ws)
all_over_bytes old [] bytes new = bytes
all_over_bytes old (w ∷ ws) bytes new = all_over_bytes (over old w) ws (over_bytes old w bytes new.0) new.1

-- ---- a memory of zeros, of so many pages in a region of more

pub record IsLoaded (ws : List (Written ℕ)) (pages cap : ℕ) : Type 0 where
  pub size : length (all_over (replicate (page * cap) 0) ws) ≡ page * cap
  pub first : take (page * pages) (all_over (replicate (page * cap) 0) ws) ≡ all_over (replicate (page * pages) 0) ws
  pub behind : drop (page * pages) (all_over (replicate (page * cap) 0) ws) ≡ replicate (page * cap - page * pages) 0
  pub bytes : AreBytes (all_over (replicate (page * cap) 0) ws)

module _ (ws : List (Written ℕ)) (n more : ℕ) (fit : all_fit n ws ≡ true) where
  parts : all_over (replicate (n + more) 0) ws ≡ all_over (replicate n 0) ws ++ replicate more 0
  parts =
      ap (λ (l : List ℕ). all_over l ws) (sym (replicate-append-replicate n more 0))
      ∙ all_over_front (replicate n 0) (replicate more 0) ws n (length-replicate n 0) fit

  front_size : length (all_over (replicate n 0) ws) ≡ n
  front_size = all_over_length (replicate n 0) ws n (length-replicate n 0) fit

  whole_size : length (all_over (replicate (n + more) 0) ws) ≡ n + more
  whole_size = ap length parts ∙ length-append (all_over (replicate n 0) ws) (replicate more 0) ∙ omega (arith, front_size, length-replicate {A = ℕ} more 0)

  front_is : take n (all_over (replicate (n + more) 0) ws) ≡ all_over (replicate n 0) ws
  front_is = ap (take n) parts ∙ take_at (all_over (replicate n 0) ws) (replicate more 0) n front_size

  behind_is : drop n (all_over (replicate (n + more) 0) ws) ≡ replicate more 0
  behind_is = ap (drop n) parts ∙ drop_at (all_over (replicate n 0) ws) (replicate more 0) n front_size

pub is_loaded : (ws : List (Written ℕ)) (pages cap : ℕ) → pages ≤ cap → all_fit (page * pages) ws ≡ true → HaveBytes ws → IsLoaded ws pages cap
is_loaded ws pages cap le fit new =
    let n = page * pages in
    let more = page * cap - page * pages in
    let all : page * pages + (page * cap - page * pages) ≡ page * cap = omega arith in
    let small = λ (x : ℕ). x < 256 in
    record {
      size = subst (λ (k : ℕ). length (all_over (replicate k 0) ws) ≡ k) all (whole_size ws n more fit);
      first = subst (λ (k : ℕ). take (page * pages) (all_over (replicate k 0) ws) ≡ all_over (replicate (page * pages) 0) ws) all (front_is ws n more fit);
      behind = subst (λ (k : ℕ). drop (page * pages) (all_over (replicate k 0) ws) ≡ replicate (page * cap - page * pages) 0) all (behind_is ws n more fit);
      bytes = all_over_bytes (replicate (page * cap) 0) ws (All-replicate small (page * cap) 0 (omega arith)) new;
    }
