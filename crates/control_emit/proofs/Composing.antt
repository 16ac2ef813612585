-- Calls one after the other.
use Rattle.std.proofs.Common.{◌≡◌, ℕ, ◌+◌, List, [], ◌∷◌, ◌++◌, map, length, refl, sym, ap, ◌∙◌, arith, append_assoc, length-append}
use Rattle.std.proofs.lemmas.List.{map-append, append-nil, length-map}
use Rattle.rv_isa.specs.declared.operations.Op.{Op}
use Rattle.rv_isa.specs.Words.{word_of}
use Rattle.frame_layout.specs.Templates.{Label}
use Rattle.control_emit.specs.Pending.{Pending, Shape, shape_of, shapes, Ends, label_of, named}
use Rattle.control_emit.specs.Emits.{FunctionBuilder, IsHeld, meant, Emits, Opens, Turns, Closes}
use Rattle.control_emit.proofs.Meanings.{length-meaning}

-- ---- numbers of labels and instruction words

pub count-shapes : (ls ms : List Pending) → shapes ls ≡ shapes ms → length ls ≡ length ms
count-shapes ls ms e = let a = length-map ls shape_of in let b = length-map ms shape_of in let c = ap length e in omega arith

pub count-more : (ls ms : List Pending) (s : Shape) → shapes ls ≡ s ∷ shapes ms → length ls ≡ length ms + 1
count-more ls ms s e = let a = length-map ls shape_of in let b = length-map ms shape_of in let c = ap length e in omega arith

appended : (old new : FunctionBuilder) (es fs : List Ends) (ops : List Op) → meant new es ≡ meant old fs ++ map word_of ops → length new.words ≡ length old.words + length ops
appended old new es fs ops e =
    let a = length-meaning new.labels es new.words in
    let b = ap length e in
    let c = length-append (meant old fs) (map word_of ops) in
    let d = length-meaning old.labels fs old.words in
    let f = length-map ops word_of in
    omega arith

pub longer : (old new : FunctionBuilder) (ops : List Ends → List Op) → Emits old new ops → (es : List Ends) → length es ≡ length old.labels → length new.words ≡ length old.words + length (ops es)
longer old new ops x es e = appended old new es es (ops es) (x.words_are es e)

pub longer-opens : (old new : FunctionBuilder) (s : Shape) (ops : Ends → List Op) → Opens old new s ops → (e : Ends) (es : List Ends) → length es ≡ length old.labels → length new.words ≡ length old.words + length (ops e)
longer-opens old new s ops x e es is = appended old new (e ∷ es) es (ops e) (x.words_are e es is)

pub longer-turns : (old new : FunctionBuilder) (ops : ℕ → List Op) → Turns old new ops → (end : ℕ) (es : List Ends) → 1 + length es ≡ length old.labels → length new.words ≡ length old.words + length (ops end)
longer-turns old new ops x end es is =
    let e : Ends = record { other = 0; end = end } in
    let f : Ends = record { other = length new.words; end = end } in
    appended old new (e ∷ es) (f ∷ es) (ops end) (x.words_are 0 end es (let z : length (e ∷ es) ≡ length old.labels = omega arith in z))

-- ---- emission

pub emits-nothing : (d : FunctionBuilder) → IsHeld d → Emits d d (λ es. [])
emits-nothing d h = record { held = h; shapes_are = refl; words_are = λ es e. sym (append-nil (meant d es)) }

pub emits-as : (a b : FunctionBuilder) (f g : List Ends → List Op) → Emits a b f → ((es : List Ends) → length es ≡ length a.labels → f es ≡ g es) → Emits a b g
emits-as a b f g x same = record {
  held = x.held;
  shapes_are = x.shapes_are;
  words_are = λ es e. x.words_are es e ∙ ap (λ (ops : List Op). meant a es ++ map word_of ops) (same es e);
}

joined : (x y z : List ℕ) (f g : List Op) → z ≡ y ++ map word_of g → y ≡ x ++ map word_of f → z ≡ x ++ map word_of (f ++ g)
joined x y z f g later first =
    later ∙ ap (λ (l : List ℕ). l ++ map word_of g) first ∙ append_assoc x (map word_of f) (map word_of g) ∙ ap (λ (l : List ℕ). x ++ l) (sym (map-append word_of f g))

pub emits-both : (a b c : FunctionBuilder) (f g : List Ends → List Op) → Emits a b f → Emits b c g → Emits a c (λ es. f es ++ g es)
emits-both a b c f g x y = record {
  held = y.held;
  shapes_are = y.shapes_are ∙ x.shapes_are;
  words_are = λ es e. joined (meant a es) (meant b es) (meant c es) (f es) (g es) (y.words_are es (e ∙ sym (count-shapes b.labels a.labels x.shapes_are))) (x.words_are es e);
}

-- ---- a block

abbrev pub ends_there : ℕ → Ends
ends_there n = record { other = n; end = n }

pub closed-shapes : (a b c d : FunctionBuilder) (s t : Shape) → shapes b.labels ≡ s ∷ shapes a.labels → shapes c.labels ≡ shapes b.labels → shapes c.labels ≡ t ∷ shapes d.labels → shapes d.labels ≡ shapes a.labels
closed-shapes a b c d s t x y z = cc

-- what is emitted in a block, and closed
pub enclosed : (a b c d : FunctionBuilder) (s : Shape) (first : Ends → List Op) (f : List Label → ℕ → List Op) → Opens a b s first → Emits b c (λ es. f (named (shapes b.labels) es) (length b.words)) → Closes c d
    → Emits a d (λ es. let e = ends_there (length c.words) in first e ++ f (label_of s e ∷ named (shapes a.labels) es) (length a.words + length (first e)))
enclosed a b c d s first f x y z =
    let e = ends_there (length c.words) in
    let same = closed-shapes a b c d s z.shape x.shapes_are y.shapes_are z.shapes_are in
    let count = count-shapes d.labels a.labels same in
    let more = count-more b.labels a.labels s x.shapes_are in
    record {
      held = z.held;
      shapes_are = same;
      words_are = λ es is.
          let here = longer-opens a b s first x e es is in
          let inner = f (label_of s e ∷ named (shapes a.labels) es) (length a.words + length (first e)) in
          let now : f (named (shapes b.labels) (e ∷ es)) (length b.words) ≡ inner =
          ap (λ (ss : List Shape). f (named ss (e ∷ es)) (length b.words)) x.shapes_are ∙ ap (f (label_of s e ∷ named (shapes a.labels) es)) here in
          z.words_are es (is ∙ sym count)
          ∙ joined (meant a es) (meant b (e ∷ es)) (meant c (e ∷ es)) (first e) inner
          (y.words_are (e ∷ es) (let l : length (e ∷ es) ≡ length b.labels = omega arith in l) ∙ ap (λ (ops : List Op). meant b (e ∷ es) ++ map word_of ops) now)
          (x.words_are e es is);
    }

-- how long it is
pub enclosed-size : (a b c : FunctionBuilder) (s : Shape) (first : Ends → List Op) (f : List Label → ℕ → List Op) → Opens a b s first → Emits b c (λ es. f (named (shapes b.labels) es) (length b.words))
    → (e : Ends) (es : List Ends) → length es ≡ length a.labels
    → length c.words ≡ length a.words + length (first e) + length (f (label_of s e ∷ named (shapes a.labels) es) (length a.words + length (first e)))
enclosed-size a b c s first f x y e es is =
    let more = count-more b.labels a.labels s x.shapes_are in
    let here = longer-opens a b s first x e es is in
    let now : f (named (shapes b.labels) (e ∷ es)) (length b.words) ≡ f (label_of s e ∷ named (shapes a.labels) es) (length a.words + length (first e)) =
    ap (λ (ss : List Shape). f (named ss (e ∷ es)) (length b.words)) x.shapes_are ∙ ap (f (label_of s e ∷ named (shapes a.labels) es)) here in
    let l : length (e ∷ es) ≡ length b.labels = omega arith in
    let k = longer b c (λ es. f (named (shapes b.labels) es) (length b.words)) y (e ∷ es) l in
    let n = ap length now in
    omega arith

-- ---- both branches of an `if`

abbrev pub branches_end : (second end : ℕ) → Ends
branches_end second end = record { other = second; end = end }

pub both-enclosed : (a b c d e z : FunctionBuilder) (s : Shape) (first : Ends → List Op) (f g : List Label → ℕ → List Op) (t : ℕ → List Op) → ((i j k : ℕ) → label_of s (branches_end i k) ≡ label_of s (branches_end j k)) → Opens a b s first
    → Emits b c (λ es. f (named (shapes b.labels) es) (length b.words)) → Turns c d t → Emits d e (λ es. g (named (shapes d.labels) es) (length d.words)) → Closes e z
    → Emits a z (λ es.
    let n = length e.words in
    let m = length d.words in
    let inner = label_of s (ends_there n) ∷ named (shapes a.labels) es in
    first (branches_end m n) ++ (f inner (length b.words) ++ (t n ++ g inner m)))
both-enclosed a b c d e z s first f g t same_label x y turns v closes =
    let n = length e.words in
    let m = length d.words in
    let E = ends_there n in
    let F = branches_end m n in
    let bs = x.shapes_are in
    let cs = y.shapes_are ∙ bs in
    let ds = turns.shapes_are ∙ cs in
    let es' = v.shapes_are ∙ ds in
    let same : shapes z.labels ≡ shapes a.labels = closed-shapes a d e z s closes.shape ds v.shapes_are closes.shapes_are in
    let count = count-shapes z.labels a.labels same in
    let countb = count-more b.labels a.labels s bs in
    let countc = count-more c.labels a.labels s cs in
    let countd = count-more d.labels a.labels s ds in
    record {
      held = closes.held;
      shapes_are = same;
      words_are = λ es is.
          let L = named (shapes a.labels) es in
          let inner = label_of s E ∷ L in
          let one : f (named (shapes b.labels) (F ∷ es)) (length b.words) ≡ f inner (length b.words) =
          ap (λ (ss : List Shape). f (named ss (F ∷ es)) (length b.words)) bs ∙ ap (λ (l : Label). f (l ∷ L) (length b.words)) (same_label m n n) in
          let two : g (named (shapes d.labels) (E ∷ es)) m ≡ g inner m = ap (λ (ss : List Shape). g (named ss (E ∷ es)) m) ds in
          let lb : length (F ∷ es) ≡ length b.labels = omega arith in
          let lc : length (E ∷ es) ≡ length c.labels = omega arith in
          let ld : length (E ∷ es) ≡ length d.labels = omega arith in
          let past = joined (meant c (F ∷ es)) (meant d (E ∷ es)) (meant e (E ∷ es)) (t n) (g inner m)
          (v.words_are (E ∷ es) ld ∙ ap (λ (ops : List Op). meant d (E ∷ es) ++ map word_of ops) two)
          (turns.words_are n n es lc) in
          let within = joined (meant b (F ∷ es)) (meant c (F ∷ es)) (meant e (E ∷ es)) (f inner (length b.words)) (t n ++ g inner m) past
          (y.words_are (F ∷ es) lb ∙ ap (λ (ops : List Op). meant b (F ∷ es) ++ map word_of ops) one) in
          closes.words_are es (is ∙ sym count)
          ∙ joined (meant a es) (meant b (F ∷ es)) (meant e (E ∷ es)) (first F) (f inner (length b.words) ++ (t n ++ g inner m)) within (x.words_are F es is);
    }
