-- What the calls of labels come to.
use Rattle.std.proofs.Common.{◌≡◌, Bool, true, false, Result, Ok, Err, ◌≤◌, ◌<◌, ℕ, zero, suc, ◌+◌, ◌-◌, List, [], ◌∷◌, ◌++◌, map, length, take, drop, get_or, Option, None, Some, refl, sym, ap, ◌∙◌, subst, arith, append_assoc, length-append}
use Rattle.std.specs.Prelude.{OnOk}
use Rattle.std.proofs.lemmas.List.{map-append, append-nil, length-map, take_more}
use Rattle.rv_isa.specs.declared.operations.Op.{Op}
use Rattle.rv_isa.specs.Words.{word_of}
use Rattle.frame_layout.specs.Macros.{x0, t0, distance, far, forward}
use Rattle.rv_isa.specs.declared.operations.Op.TheVariants.{Branch}
use Rattle.rv_isa.specs.declared.operations.BranchOp.TheVariants.{Bne}
use Rattle.frame_layout.specs.Templates.{Label, EmitContext, label_at, load_operand, move_words, unless_words, jump_words, jump_if_words, jumps, table_front, jump_table_words}
use Rattle.frame_layout.specs.declared.layout.Layout.{Layout}
use Rattle.frame_layout.specs.Functions.{over, test_words}
use Rattle.wasm_defs.specs.Places.{Place}
use Rattle.control_emit.specs.Pending.{Pending, Shape, shape_of, shapes, Ends, label_of, named, place_or, meaning, patched, filled, test_patched, IsTestWithin, AreBelow, Within, jumping, end_at, TakesTest}
use Rattle.control_emit.specs.Walks.{end_shape, IsLive}
use Rattle.control_emit.specs.Emits.{FunctionBuilder, draft, meant, Emits, Opens, Turns, Closes}
use Rattle.control_emit.proofs.Meanings.{meaning-front, meaning-jump, within-later, within-jump, patched-seam, length-filled, length-test}
use Rattle.control_emit.proofs.Composing.{emits-as, emits-both, longer, count-shapes}

-- words after the others
pub emits-plain : (labels : List Pending) (old new : List ℕ) (ops : List Op) → Within (length old) labels → new ≡ old ++ map word_of ops → Emits (draft labels old) (draft labels new) (λ es. ops)
emits-plain labels old new ops h is = record {
  held = let n = ap length is in let m = length-append old (map word_of ops) in within-later (length old) (length new) labels (omega arith) h;
  shapes_are = refl;
  words_are = λ es e. ap (meaning labels es) is ∙ meaning-front labels es old (map word_of ops) h;
}

pub shapes-jumping : (n k : ℕ) (ls : List Pending) → shapes (jumping n k ls) ≡ shapes ls
shapes-jumping n k [] = refl
shapes-jumping n zero (l ∷ ls) = refl
shapes-jumping n (suc k) (l ∷ ls) = ap (λ (x : List Shape). shape_of l ∷ x) (shapes-jumping n k ls)

-- a jump whose target isn't known
pub emits-jump : (labels after : List Pending) (old new : List ℕ) (k n : ℕ) → Within (length old) labels → k < length labels → n ≡ length old → new ≡ old ++ map word_of (far (distance n n)) → after ≡ jumping n k labels
    → Emits (draft labels old) (draft after new) (λ es. far (distance (length old) (end_at k es)))
emits-jump labels after old new k n h lt e is waits =
    let size = ap length is in
    let more = length-append old (map word_of (far (distance n n))) in
    let two : length (map word_of (far (distance n n))) ≡ 2 = refl in
    let longer_by : n + 2 ≤ length new = omega arith in
    let own : Within n labels = subst (λ (m : ℕ). Within m labels) (sym e) h in
    record {
      held = subst (λ (ls : List Pending). Within (length new) ls) (sym waits) (within-jump labels k n (length new) longer_by own);
      shapes_are = ap shapes waits ∙ shapes-jumping n k labels;
      words_are = λ es same.
          ap (λ (ls : List Pending). meaning ls es new) waits
          ∙ ap (meaning (jumping n k labels) es) is
          ∙ meaning-jump labels es k n _ _ old (sym e) own lt same
          ∙ ap (λ (m : ℕ). meaning labels es old ++ map word_of (far (distance m (end_at k es)))) e;
    }

-- ---- the label that is named

pub named-at : (w : EmitContext) (ss : List Shape) (es : List Ends) (k : ℕ) (d s : Shape) → length es ≡ length ss → k < length ss → get_or ss k d ≡ s
    → label_at w (named ss es) k ≡ record { base = s.base; takes = s.takes; place = place_or s.start (end_at k es) }
named-at w [] es k d s e lt is = absurd (omega arith)
named-at w (t ∷ ss) [] k d s e lt is = absurd (omega arith)
named-at w (t ∷ ss) (f ∷ es) zero d s e lt is = ap (λ (x : Shape). label_of x f) is
named-at w (t ∷ ss) (f ∷ es) (suc k) d s e lt is = named-at w ss es k d s (omega arith) (omega arith) is

-- the moves, and then the jump
pub emits-lead : (w : EmitContext) (a b z : FunctionBuilder) (h k : ℕ) (s d : Shape) → Emits a b (λ es. move_words w s.takes (h - s.takes) s.base) → Emits b z (λ es. far (distance (length b.words) (place_or s.start (end_at k es))))
    → get_or (shapes a.labels) k d ≡ s → k < length a.labels → Emits a z (λ es. jump_words w h (length a.words) (label_at w (named (shapes a.labels) es) k))
emits-lead w a b z h k s d x y is lt =
    let moves = move_words w s.takes (h - s.takes) s.base in
    emits-as a z (λ es. moves ++ far (distance (length b.words) (place_or s.start (end_at k es)))) (λ es. jump_words w h (length a.words) (label_at w (named (shapes a.labels) es) k))
    (emits-both a b z (λ es. moves) (λ es. far (distance (length b.words) (place_or s.start (end_at k es)))) x y)
    (λ es e.
    let n = longer a b (λ es. moves) x es e in
    let c = length-map a.labels shape_of in
    let l = named-at w (shapes a.labels) es k d s (omega arith) (omega arith) is in
    ap (λ (m : ℕ). moves ++ far (distance m (place_or s.start (end_at k es)))) n
    ∙ ap (λ (m : Label). jump_words w h (length a.words) m) (sym l))

-- ---- tables

pub jumps-more : (w : EmitContext) (j here : ℕ) (ls : List Label) (l : Label) → jumps w j here (ls ++ l ∷ []) ≡ jumps w j here ls ++ jump_words w j (here + length (jumps w j here ls)) l
jumps-more w j here [] l = let zero_more : here + 0 ≡ here = omega arith in append-nil (jump_words w j here l) ∙ ap (λ (m : ℕ). jump_words w j m l) (sym zero_more)
jumps-more w j here (m ∷ ls) l =
    let first = jump_words w j here m in
    let next = here + length first in
    let all = jumps w j next ls in
    let same : next + length all ≡ here + length (first ++ all) = let n = length-append first all in omega arith in
    ap (λ (x : List Op). first ++ x) (jumps-more w j next ls l)
    ∙ sym (append_assoc first all (jump_words w j (next + length all) l))
    ∙ ap (λ (k : ℕ). (first ++ all) ++ jump_words w j k l) same

pub on_ok : {A B : Type 0} {P Q : Type 0} (r : Result A B) → (P → Q) → OnOk r P → OnOk r Q
on_ok (Ok x) f h = f h
on_ok (Err x) f h = tt

-- any function's surroundings, with that frame
abbrev pub framed : Layout → EmitContext
framed l = record { layout = l; rows = 0; like = λ i. i; distance_to = λ here function. 0 }

-- ---- a block, and a loop

pub opens-label : (labels after : List Pending) (words : List ℕ) (base takes : ℕ) (start : Option ℕ) → Within (length words) labels
    → after ≡ record { base = base; takes = takes; start = start; test = None; jumps = [] } ∷ labels
    → Opens (draft labels words) (draft after words) (record { base = base; takes = takes; start = start }) (λ e. [])
opens-label labels after words base takes start held opened = record {
  held = subst (λ (ls : List Pending). Within (length words) ls) (sym opened) ((tt, tt), held);
  shapes_are = ap shapes opened;
  words_are = λ x es is. ap (λ (ls : List Pending). meaning ls (x ∷ es) words) opened ∙ sym (append-nil (meaning labels es words));
}

-- ---- an `if`

pub opens-test : (w : EmitContext) (labels after : List Pending) (old mid new : List ℕ) (base takes h n : ℕ) → Within (length old) labels
    → mid ≡ old ++ map word_of (load_operand w t0 (h - 1) ++ (Branch Bne t0 x0 (forward 12) ∷ [])) → n ≡ length mid → new ≡ mid ++ map word_of (far (distance (length mid) n))
    → after ≡ record { base = base; takes = takes; start = None; test = Some n; jumps = [] } ∷ labels
    → Opens (draft labels old) (draft after new) (end_shape base takes) (λ e. test_words w h (length old) e.other)
opens-test w labels after old mid new base takes h n held first here second opened =
    let ops = load_operand w t0 (h - 1) ++ (Branch Bne t0 x0 (forward 12) ∷ []) in
    let jump = far (distance (length mid) n) in
    let a = ap length first in
    let b = length-append old (map word_of ops) in
    let four : length (map word_of ops) ≡ 4 = refl in
    let d = ap length second in
    let e = length-append mid (map word_of jump) in
    let two : length (map word_of jump) ≡ 2 = refl in
    let at : n ≡ length old + 4 = omega arith in
    let last : n + 2 ≤ length new = omega arith in
    let front : length old ≤ length new = omega arith in
    record {
      held = subst (λ (ls : List Pending). Within (length new) ls) (sym opened) ((last, tt), within-later (length old) (length new) labels front held);
      shapes_are = ap shapes opened;
      words_are = λ x es is.
          let there = x.other in
          let filled_in : patched there n new ≡ old ++ map word_of (test_words w h (length old) there) =
          ap (patched there n) second ∙ patched-seam there n _ _ mid (sym here)
          ∙ ap (λ (l : List ℕ). l ++ map word_of (far (distance n there))) first
          ∙ append_assoc old (map word_of ops) (map word_of (far (distance n there)))
          ∙ ap (λ (m : ℕ). old ++ (map word_of ops ++ map word_of (far (distance m there)))) at in
          ap (λ (ls : List Pending). meaning ls (x ∷ es) new) opened
          ∙ ap (meaning labels es) filled_in
          ∙ meaning-front labels es old (map word_of (test_words w h (length old) there)) held;
    }

-- ---- an `else`

test-taken : (n : ℕ) (test : Option ℕ) (labels after : List Pending) (words : List ℕ) → Within n labels → TakesTest test labels after → Within n after
test-taken n test [] after words h t = absurd t
test-taken n test (l ∷ ls) after words h t = subst (λ (ls : List Pending). Within n ls) (sym t.1) ((tt, h.0.1), h.1)

test-shapes : (test : Option ℕ) (labels after : List Pending) → TakesTest test labels after → shapes after ≡ shapes labels
test-shapes test [] after t = absurd t
test-shapes test (l ∷ ls) after t = ap shapes t.1

test-meant : (n other end : ℕ) (test : Option ℕ) (labels after : List Pending) (es : List Ends) (words new : List ℕ) → TakesTest test labels after → new ≡ test_patched n test words
    → meaning after (record { other = other; end = end } ∷ es) new ≡ meaning labels (record { other = n; end = end } ∷ es) words
test-meant n other end test [] after es words new t is = absurd t
test-meant n other end test (l ∷ ls) after es words new t is =
    ap (λ (ms : List Pending). meaning ms (record { other = other; end = end } ∷ es) new) t.1
    ∙ ap (λ (x : List ℕ). meaning (record l { test = None } ∷ ls) (record { other = other; end = end } ∷ es) x) (is ∙ ap (λ (p : Option ℕ). test_patched n p words) t.0)

pub turns : (a b : FunctionBuilder) (after : List Pending) (new : List ℕ) (n : ℕ) (test : Option ℕ) (q : Place) → Emits a b (λ es. over q (length a.words) (end_at 0 es)) → n ≡ length b.words → TakesTest test b.labels after
    → new ≡ test_patched n test b.words → Turns a (draft after new) (λ end. over q (length a.words) end)
turns a b after new n test q x here takes is =
    let size : length new ≡ length b.words = ap length is ∙ length-test n test b.words in
    let count = count-shapes b.labels a.labels x.shapes_are in
    record {
      held = test-taken (length new) test b.labels after new (subst (λ (m : ℕ). Within m b.labels) (sym size) x.held) takes;
      shapes_are = test-shapes test b.labels after takes ∙ x.shapes_are;
      words_are = λ other end es e.
          test-meant n other end test b.labels after es b.words new takes is
          ∙ x.words_are (record { other = n; end = end } ∷ es) e
          ∙ ap (λ (m : ℕ). meant a (record { other = m; end = end } ∷ es) ++ map word_of (over q (length a.words) end)) (here ∙ sym size);
    }

-- ---- an `end`

pub closes : (labels after : List Pending) (l : Pending) (old new : List ℕ) (n : ℕ) → Within (length old) labels → n ≡ length old → labels ≡ l ∷ after → new ≡ filled l (record { other = n; end = n }) old
    → Closes (draft labels old) (draft after new)
closes labels after l old new n held here parts is =
    let size : length new ≡ length old = ap length is ∙ length-filled l (record { other = n; end = n }) old in
    let h : Within (length old) (l ∷ after) = subst (λ (ls : List Pending). Within (length old) ls) parts held in
    record {
      held = subst (λ (m : ℕ). Within m after) (sym size) h.1;
      shape = shape_of l;
      shapes_are = ap shapes parts;
      size = size;
      words_are = λ es e.
          ap (meaning after es) (is ∙ ap (λ (m : ℕ). filled l (record { other = m; end = m }) old) here)
          ∙ ap (λ (ls : List Pending). meaning ls (record { other = length old; end = length old } ∷ es) old) (sym parts);
    }

-- ---- a condition, and a table

pub emits-if : (w : EmitContext) (a b z : FunctionBuilder) (h k : ℕ) (s d : Shape) → Emits a b (λ es. load_operand w t0 (h - 1) ++ unless_words w (length a.words + 3) s.takes)
    → Emits b z (λ es. jump_words w (h - 1) (length b.words) (label_at w (named (shapes b.labels) es) k)) → get_or (shapes a.labels) k d ≡ s → k < length a.labels
    → Emits a z (λ es. jump_if_words w h (length a.words) (label_at w (named (shapes a.labels) es) k))
emits-if w a b z h k s d x y is lt =
    let here = length a.words in
    let skip = unless_words w (here + 3) s.takes in
    let first = load_operand w t0 (h - 1) ++ skip in
    emits-as a z (λ es. first ++ jump_words w (h - 1) (length b.words) (label_at w (named (shapes b.labels) es) k)) (λ es. jump_if_words w h here (label_at w (named (shapes a.labels) es) k))
    (emits-both a b z (λ es. first) (λ es. jump_words w (h - 1) (length b.words) (label_at w (named (shapes b.labels) es) k)) x y)
    (λ es e.
    let m = longer a b (λ es. first) x es e in
    let n : length b.words ≡ here + 3 + length skip = omega arith in
    let c = length-map a.labels shape_of in
    let l = named-at w (shapes a.labels) es k d s (omega arith) (omega arith) is in
    let label = label_at w (named (shapes a.labels) es) k in
    ap (λ (ss : List Shape). first ++ jump_words w (h - 1) (length b.words) (label_at w (named ss es) k)) x.shapes_are
    ∙ ap (λ (m : ℕ). first ++ jump_words w (h - 1) m label) n
    ∙ ap (λ (m : ℕ). load_operand w t0 (h - 1) ++ (unless_words w (here + 3) m ++ jump_words w (h - 1) (here + 3 + length (unless_words w (here + 3) m)) label)) (sym (ap (λ (x : Label). x.takes) l)))

abbrev pub named_all : EmitContext → FunctionBuilder → List ℕ → List Ends → List Label
named_all w a is es = map (label_at w (named (shapes a.labels) es)) is

-- one jump more
pub emits-more : (w : EmitContext) (a b z : FunctionBuilder) (j i : ℕ) (is : List ℕ) → Emits a b (λ es. jumps w j (length a.words) (named_all w a (take i is) es))
    → Emits b z (λ es. jump_words w j (length b.words) (label_at w (named (shapes b.labels) es) (get_or is i 0))) → i < length is
    → Emits a z (λ es. jumps w j (length a.words) (named_all w a (take (i + 1) is) es))
emits-more w a b z j i is x y lt =
    let l = get_or is i 0 in
    let f : List Ends → List Op = λ es. jumps w j (length a.words) (named_all w a (take i is) es) in
    emits-as a z (λ es. f es ++ jump_words w j (length b.words) (label_at w (named (shapes b.labels) es) l)) (λ es. jumps w j (length a.words) (named_all w a (take (i + 1) is) es))
    (emits-both a b z f (λ es. jump_words w j (length b.words) (label_at w (named (shapes b.labels) es) l)) x y)
    (λ es e.
    let L = label_at w (named (shapes a.labels) es) in
    let n = longer a b f x es e in
    let more : take (i + 1) is ≡ take i is ++ l ∷ [] = take_more is i 0 lt in
    ap (λ (ss : List Shape). f es ++ jump_words w j (length b.words) (label_at w (named ss es) l)) x.shapes_are
    ∙ ap (λ (m : ℕ). f es ++ jump_words w j m (L l)) n
    ∙ sym (jumps-more w j (length a.words) (map L (take i is)) (L l))
    ∙ ap (λ (ls : List Label). jumps w j (length a.words) ls) (sym (map-append L (take i is) (l ∷ [])))
    ∙ ap (λ (ls : List ℕ). jumps w j (length a.words) (map L ls)) (sym more))

pub emits-table : (w : EmitContext) (a b c z : FunctionBuilder) (h l : ℕ) (is : List ℕ) (s d : Shape) → Emits a b (λ es. table_front w h (length is) s.takes)
    → Emits b c (λ es. jumps w (h - 1) (length b.words) (named_all w b is es)) → Emits c z (λ es. jump_words w (h - 1) (length c.words) (label_at w (named (shapes c.labels) es) l))
    → get_or (shapes a.labels) l d ≡ s → l < length a.labels
    → Emits a z (λ es. jump_table_words w h (length a.words) (named_all w a is es) (label_at w (named (shapes a.labels) es) l))
emits-table w a b c z h l is s d x y v named_is lt =
    let first = table_front w h (length is) s.takes in
    let g : List Ends → List Op = λ es. jumps w (h - 1) (length b.words) (named_all w b is es) in
    let k : List Ends → List Op = λ es. jump_words w (h - 1) (length c.words) (label_at w (named (shapes c.labels) es) l) in
    let sb = x.shapes_are in
    let sc = y.shapes_are ∙ sb in
    emits-as a z (λ es. first ++ (g es ++ k es)) (λ es. jump_table_words w h (length a.words) (named_all w a is es) (label_at w (named (shapes a.labels) es) l))
    (emits-both a b z (λ es. first) (λ es. g es ++ k es) x (emits-both b c z g k y v))
    (λ es e.
    let L = label_at w (named (shapes a.labels) es) in
    let count = count-shapes b.labels a.labels sb in
    let n = longer a b (λ es. first) x es e in
    let m = longer b c g y es (e ∙ sym count) in
    let cm = length-map a.labels shape_of in
    let lab = named-at w (shapes a.labels) es l d s (omega arith) (omega arith) named_is in
    let gs : g es ≡ jumps w (h - 1) (length b.words) (map L is) = ap (λ (ss : List Shape). jumps w (h - 1) (length b.words) (map (label_at w (named ss es)) is)) sb in
    let ks : k es ≡ jump_words w (h - 1) (length c.words) (L l) = ap (λ (ss : List Shape). jump_words w (h - 1) (length c.words) (label_at w (named ss es) l)) sc in
    let at : length c.words ≡ length b.words + length (jumps w (h - 1) (length b.words) (map L is)) = m ∙ ap (λ (ops : List Op). length b.words + length ops) gs in
    let both : g es ++ k es ≡ jumps w (h - 1) (length b.words) (map L is ++ L l ∷ []) =
    ap (λ (ops : List Op). ops ++ k es) gs ∙ ap (λ (ops : List Op). jumps w (h - 1) (length b.words) (map L is) ++ ops) (ks ∙ ap (λ (m : ℕ). jump_words w (h - 1) m (L l)) at)
    ∙ sym (jumps-more w (h - 1) (length b.words) (map L is) (L l)) in
    let takes : s.takes ≡ (L l).takes = sym (ap (λ (x : Label). x.takes) lab) in
    let all = length-map is L in
    ap (λ (ops : List Op). first ++ ops) (both ∙ ap (λ (m : ℕ). jumps w (h - 1) m (map L is ++ L l ∷ [])) n)
    ∙ ap (λ (m : ℕ). table_front w h (length is) m ++ jumps w (h - 1) (length a.words + length (table_front w h (length is) m)) (map L is ++ L l ∷ [])) takes
    ∙ ap (λ (m : ℕ). table_front w h m (L l).takes ++ jumps w (h - 1) (length a.words + length (table_front w h m (L l).takes)) (map L is ++ L l ∷ [])) (sym all))

-- ---- the innermost `if`

pub takes-test : (old new rest : List Pending) (l : Pending) → old ≡ l ∷ rest → new ≡ record l { test = None } ∷ rest → TakesTest l.test old new
takes-test old new rest l e f = subst (λ (ls : List Pending). TakesTest l.test ls new) (sym e) (refl, f)

pub test-is-within : (n : ℕ) (test : Option ℕ) (labels after : List Pending) → Within n labels → TakesTest test labels after → IsTestWithin n test
test-is-within n test [] after h t = absurd t
test-is-within n test (l ∷ ls) after h t = subst (λ (p : Option ℕ). IsTestWithin n p) (sym t.0) h.0.0

pub any_place : (b : Bool) → (q : Place) × IsLive b q
any_place true = (Some 0, tt)
any_place false = (None, tt)

below-suc : (n i : ℕ) (ls : List ℕ) → AreBelow n (drop i ls) → AreBelow n (drop (suc i) ls)
below-suc n zero [] h = tt
below-suc n (suc i) [] h = tt
below-suc n zero (l ∷ ls) h = h.1
below-suc n (suc i) (l ∷ ls) h = below-suc n i ls h

pub below-next : (n i : ℕ) (ls : List ℕ) → AreBelow n (drop i ls) → AreBelow n (drop (i + 1) ls)
below-next n i ls h = let e : suc i ≡ i + 1 = omega arith in subst (λ (m : ℕ). AreBelow n (drop m ls)) e (below-suc n i ls h)
