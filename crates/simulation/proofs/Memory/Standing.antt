-- Globals that are read and set, and bytes that are stored, as the store has them.
use Rattle.std.proofs.Common.{◌≡◌, ℕ, zero, suc, ◌+◌, ◌*◌, ◌^◌, ◌<◌, ◌≤◌, Bool, true, false, nat_le, if◌then◌else◌, List, [], ◌∷◌, ◌++◌, take, drop, length, None, Some, inl, inr, refl, sym, ap, ap₂, subst, ◌∙◌, arith, length-append, length-drop}
use Rattle.std.specs.Prelude.{slice_get, slice_set, option_map, ◌≢◌}
use Rattle.std.proofs.lemmas.Bool.{cases_lt, lt-ltb, le-ltb, leb-true}
use Rattle.std.proofs.lemmas.List.{length-take-le, take_at, drop_at}
use Rattle.std.proofs.lemmas.Option.{slice_get-map}
use Rattle.rv_isa.specs.Steps.{Bytes, le_bytes, put}
use Rattle.rv_isa.specs.Runs.{AreBytes}
use Rattle.rv_isa.proofs.ByteLaws.{written_is_read, above_stays, below_stays, length-put, length-le_bytes, AreBytes-le_bytes}
use Rattle.std.proofs.lemmas.List.Elements.{All-append, All-take, All-drop}
use Rattle.wasm_defs.specs.declared.types.ValType.{ValType}
use Rattle.wasm_defs.specs.declared.types.ValType.TheVariants.{I32, I64}
use Rattle.wasm_defs.specs.Values.{Value, modulus, word, word_of, words_of}
use Rattle.wasm_defs.specs.Memory.{page}
use Rattle.image_format.specs.Environment.{word_at, words_at}
use Rattle.simulation.specs.Regions.{global_at, with_global, memory_now, SegmentStands}
use Rattle.simulation.specs.StoreLaws.{GlobalsStand, GlobalInsideLaw, GlobalReadLaw, GlobalWrittenLaw, WrittenLaw, BytesStayLaw, BytesOfLaw}
use Rattle.simulation.proofs.Memory.Parts.{bytes_are}

-- ---- instruction words of a region

words_count : (bytes : List ℕ) (from n : ℕ) → length (words_at bytes from n) ≡ n
words_count bytes from zero = refl
words_count bytes from (suc n) = omega (arith, words_count bytes (from + 1) n)

word_there : (bytes : List ℕ) (from n x w : ℕ) → slice_get (words_at bytes from n) x ≡ Some w → word_at bytes (from + x) ≡ w
word_there bytes from zero x w e = absurd cc
word_there bytes from (suc n) zero w e =
    let here : from + 0 ≡ from = omega arith in
    ap (word_at bytes) here ∙ cc
word_there bytes from (suc n) (suc x) w e =
    let there : from + suc x ≡ from + 1 + x = omega arith in
    ap (word_at bytes) there ∙ word_there bytes (from + 1) n x w e

-- where a word before them is written
words_above : (bytes : List ℕ) (from n x v : ℕ) → 8 * (x + 1) ≤ length bytes → x < from → words_at (put 8 (8 * x) bytes (le_bytes 8 v)) from n ≡ words_at bytes from n
words_above bytes from zero x v inside less = refl
words_above bytes from (suc n) x v inside less =
    ap₂ (λ (w : ℕ) (ws : List ℕ). w ∷ ws) (above_stays 8 (8 * x) v 8 (8 * from) bytes (omega arith) (omega arith)) (words_above bytes (from + 1) n x v inside (omega arith))

-- where one of them is
words_written : (bytes : List ℕ) (from n k v : ℕ) → 8 * (from + k + 1) ≤ length bytes → v < 2 ^ 64 → words_at (put 8 (8 * (from + k)) bytes (le_bytes 8 v)) from n ≡ slice_set (words_at bytes from n) k v
words_written bytes from zero k v inside small = refl
words_written bytes from (suc n) zero v inside small =
    let here : from + 0 ≡ from = omega arith in
    ap (λ (x : ℕ). words_at (put 8 (8 * x) bytes (le_bytes 8 v)) from (suc n)) here
    ∙ ap₂ (λ (w : ℕ) (ws : List ℕ). w ∷ ws) (written_is_read 8 (8 * from) v bytes (omega arith) small) (words_above bytes (from + 1) n from v (omega arith) (omega arith))
words_written bytes from (suc n) (suc k) v inside small =
    let there : from + suc k ≡ from + 1 + k = omega arith in
    ap₂ (λ (w : ℕ) (ws : List ℕ). w ∷ ws)
    (below_stays 8 (8 * (from + suc k)) v 8 (8 * from) bytes (omega arith) (omega arith))
    (ap (λ (x : ℕ). words_at (put 8 (8 * x) bytes (le_bytes 8 v)) (from + 1) n) there ∙ words_written bytes (from + 1) n k v (omega arith) small)

-- ---- globals

pub global_inside : GlobalInsideLaw
global_inside b vs x e less = omega (arith, e.within)

pub global_read : GlobalReadLaw
global_read b vs x v e is =
    let there : slice_get (words_at b.globals 0 (length vs)) x ≡ Some (word_of v) = ap (λ (ws : List ℕ). slice_get ws x) e.are ∙ slice_get-map word_of vs x ∙ ap (option_map word_of) is in
    let here : 0 + x ≡ x = omega arith in
    ap (word_at b.globals) (sym here) ∙ word_there b.globals 0 (length vs) x (word_of v) there

set_words : (vs : List Value) (x : ℕ) (v : Value) → slice_set (words_of vs) x (word_of v) ≡ words_of (slice_set vs x v)
set_words [] x v = refl
set_words (u ∷ vs) zero v = refl
set_words (u ∷ vs) (suc x) v = ap (λ (ws : List ℕ). word_of u ∷ ws) (set_words vs x v)

word_below : (t : ValType) (n : ℕ) → n < modulus t → word t n < 2 ^ 64
word_below I32 n small =
    elim (cases_lt n (2 ^ 31)) [
      | inl h ↦ rw (lt-ltb n (2 ^ 31) h) (omega arith)
      | inr h ↦ rw (le-ltb n (2 ^ 31) h) (omega arith)
    ]
word_below I64 n small = small

length-set : (vs : List Value) (x : ℕ) (v : Value) → length (slice_set vs x v) ≡ length vs
length-set [] x v = refl
length-set (u ∷ vs) zero v = refl
length-set (u ∷ vs) (suc x) v = ap suc (length-set vs x v)

pub global_written : GlobalWrittenLaw
global_written b vs x v e less range =
    let inside = global_inside b vs x e less in
    let here : 0 + x ≡ x = omega arith in
    let size : length (with_global b x (word_of v)).globals ≡ length b.globals = length-put 8 (8 * x) b.globals (le_bytes 8 (word_of v)) (omega arith) (length-le_bytes 8 (word_of v)) in
    let count = length-set vs x v in
    record {
      within = omega (arith, e.within);
      are =
          ap (λ (n : ℕ). words_at (with_global b x (word_of v)).globals 0 n) count
          ∙ ap (λ (k : ℕ). words_at (put 8 (8 * k) b.globals (le_bytes 8 (word_of v))) 0 (length vs)) (sym here)
          ∙ words_written b.globals 0 (length vs) x (word_of v) (omega arith) (word_below v.ty v.number range)
          ∙ ap (λ (ws : List ℕ). slice_set ws x (word_of v)) e.are
          ∙ set_words vs x v;
    }

-- ---- words after the globals

-- where a word after them is written, words stay
words_below : (bytes : List ℕ) (from n x v : ℕ) → 8 * (x + 1) ≤ length bytes → from + n ≤ x → words_at (put 8 (8 * x) bytes (le_bytes 8 v)) from n ≡ words_at bytes from n
words_below bytes from zero x v inside less = refl
words_below bytes from (suc n) x v inside less =
    ap₂ (λ (w : ℕ) (ws : List ℕ). w ∷ ws) (below_stays 8 (8 * x) v 8 (8 * from) bytes (omega arith) (omega arith)) (words_below bytes (from + 1) n x v inside (omega arith))

pub globals_below : (b : Bytes) (vs : List Value) (x v : ℕ) → GlobalsStand b vs → 8 * (x + 1) ≤ length b.globals → length vs ≤ x → GlobalsStand (with_global b x v) vs
globals_below b vs x v e inside below =
    let size = length-put 8 (8 * x) b.globals (le_bytes 8 v) (omega arith) (length-le_bytes 8 v) in
    record { within = omega (arith, e.within); are = words_below b.globals 0 (length vs) x v inside (omega arith) ∙ e.are }

pub word_stays : (b : Bytes) (x v y : ℕ) → 8 * (x + 1) ≤ length b.globals → y ≢ x → global_at (with_global b x v) y ≡ global_at b y
word_stays b x v y inside differs =
    elim (cases_lt y x) [
      | inl below ↦ below_stays 8 (8 * x) v 8 (8 * y) b.globals (omega arith) (omega arith)
      | inr above ↦ let behind : x < y = omega (arith, differs) in above_stays 8 (8 * x) v 8 (8 * y) b.globals (omega arith) (omega arith)
    ]

-- a data segment whose words are others
pub segment_stays : (b : Bytes) (x v y : ℕ) (bytes : List ℕ) → 8 * (x + 1) ≤ length b.globals → y ≢ x → y + 1 ≢ x → SegmentStands b y bytes → SegmentStands (with_global b x v) y bytes
segment_stays b x v y bytes inside first second h =
    let size = length-put 8 (8 * x) b.globals (le_bytes 8 v) (omega arith) (length-le_bytes 8 v) in
    record {
      from = h.from;
      inside = omega (arith, h.inside);
      length_is = word_stays b x v y inside first ∙ h.length_is;
      address_is = word_stays b x v (y + 1) inside second ∙ h.address_is;
      within = h.within;
      bytes_are = h.bytes_are;
    }

-- and one that has no byte any more
pub segment_dropped : (b : Bytes) (x : ℕ) (bytes : List ℕ) → SegmentStands b x bytes → SegmentStands (with_global b x 0) x []
segment_dropped b x bytes h =
    let size = length-put 8 (8 * x) b.globals (le_bytes 8 0) (omega (arith, h.inside)) (length-le_bytes 8 0) in
    record {
      from = h.from;
      inside = omega (arith, h.inside);
      length_is = written_is_read 8 (8 * x) 0 b.globals (omega (arith, h.inside)) (omega arith);
      address_is = word_stays b x 0 (x + 1) (omega (arith, h.inside)) (λ e. absurd (omega (arith, e))) ∙ h.address_is;
      within = omega (arith, h.within);
      bytes_are = refl;
    }

-- ---- the memory

written_size : (memory after bytes : List ℕ) (at : ℕ) (t : Bool) → nat_le (at + length bytes) (length memory) ≡ t → (if t then Some (take at memory ++ (bytes ++ drop (at + length bytes) memory)) else None) ≡ Some after → length after ≡ length memory
written_size memory after bytes at true is e =
    let same : take at memory ++ (bytes ++ drop (at + length bytes) memory) ≡ after = cc in
    let fits = leb-true (at + length bytes) (length memory) is in
    ap length (sym same) ∙ omega (arith, length-append (take at memory) (bytes ++ drop (at + length bytes) memory), length-take-le at memory (omega arith), length-append bytes (drop (at + length bytes) memory), length-drop (at + length bytes) memory)
written_size memory after bytes at false is e = absurd cc

pub written_stands : WrittenLaw
written_stands b pages at bytes memory whole e =
    let size : length memory ≡ page * pages = written_size (memory_now pages b) memory bytes at _ refl e ∙ length-take-le (page * pages) b.memory whole in
    record {
      memory_is = take_at memory (drop (length memory) b.memory) (page * pages) size;
      behind = drop_at memory (drop (length memory) b.memory) (page * pages) size ∙ ap (λ (n : ℕ). drop n b.memory) size;
      size = omega (arith, length-append memory (drop (length memory) b.memory), length-drop (length memory) b.memory);
    }

part_bytes : (at : ℕ) (bytes l : List ℕ) → AreBytes bytes → AreBytes l → AreBytes (take at l ++ (bytes ++ drop (at + length bytes) l))
part_bytes at bytes l new old =
    let small = λ (x : ℕ). x < 256 in
    let rest = drop (at + length bytes) l in
    All-append small (take at l) (bytes ++ rest) (All-take small at l old) (All-append small bytes rest new (All-drop small (at + length bytes) l old))

bytes_by : (l bytes after : List ℕ) (at : ℕ) (t : Bool) → AreBytes l → AreBytes bytes → (if t then Some (take at l ++ (bytes ++ drop (at + length bytes) l)) else None) ≡ Some after → AreBytes after
bytes_by l bytes after at true old new e =
    let same : take at l ++ (bytes ++ drop (at + length bytes) l) ≡ after = cc in
    subst AreBytes same (part_bytes at bytes l new old)
bytes_by l bytes after at false old new e = absurd cc

pub bytes_stay : BytesStayLaw
bytes_stay b pages at bytes memory old new e =
    let small = λ (x : ℕ). x < 256 in
    let now = bytes_by (memory_now pages b) bytes memory at (nat_le (at + length bytes) (length (memory_now pages b))) (All-take small (page * pages) b.memory old) new e in
    All-append small memory (drop (length memory) b.memory) now (All-drop small (length memory) b.memory old)

pub bytes_of_are : BytesOfLaw
bytes_of_are count n = subst AreBytes (sym (bytes_are count n)) (AreBytes-le_bytes count n)
