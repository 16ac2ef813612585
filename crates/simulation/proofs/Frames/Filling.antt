-- What filling in the distances of its calls makes of a function's instruction words.
use Rattle.std.proofs.Common.{◌≡◌, ℕ, zero, suc, ◌+◌, ◌-◌, List, [], ◌∷◌, ◌++◌, length, map, Some, None, refl, sym, ap, ◌∙◌, subst, arith, append_assoc}
use Rattle.std.proofs.lemmas.List.{append-nil, map-append, length-append, length-map, set-append_right}
use Rattle.std.specs.Prelude.{slice_set}
use Rattle.rv_isa.specs.declared.compiled.Relocation.{Relocation}
use Rattle.rv_isa.specs.declared.operations.Op.{Op}
use Rattle.rv_isa.specs.declared.operations.Op.TheVariants.{Auipc, Jalr}
use Rattle.rv_isa.specs.Runs.{hi, lo}
use Rattle.rv_isa.specs.Words.{word_of}
use Rattle.wasm_defs.specs.declared.operation.Operation.{Operation}
use Rattle.wasm_defs.specs.declared.operation.Operation.TheVariants.{Unary}
use Rattle.wasm_defs.specs.declared.token.Plain.{Plain}
use Rattle.wasm_defs.specs.declared.token.Plain.TheVariants.{Br, BrIf, BrTable, Return, Call, Numeric}
use Rattle.wasm_defs.specs.Trees.{Sort, Part, Seq, Nothing, Simple, Block, Loop, If, Else}
use Rattle.wasm_defs.specs.Typing.{Context, rule_of, inside}
use Rattle.wasm_defs.specs.Places.{Place, after_rule, shape, after_block, after_if, end_of}
use Rattle.frame_layout.specs.Macros.{ra, t0, distance, far}
use Rattle.frame_layout.specs.Templates.{Declarations, Label, EmitContext, load_operand, operate_words, prologue, epilogue, move_words, jump_words, unless_words, jumps, table_front, label_at, last_label, call_words, declarations, words}
use Rattle.frame_layout.specs.Functions.{label, over, over_from, test_words, size, code, no_distance, near, with_distance, with_distances, call_of, calls, body_place, body_size, body_code, calls_of, function_code}
use Rattle.frame_layout.proofs.Sizes.{taken_by, words_size, over_size, code_size}

-- ---- lists

in_order : (d : ℕ → ℕ → ℕ) (rs ss : List Relocation) (words : List ℕ) → with_distances d (rs ++ ss) words ≡ with_distances d ss (with_distances d rs words)
in_order d [] ss words = refl
in_order d (r ∷ rs) ss words = in_order d rs ss (with_distance (d r.place r.function) r.place words)

-- six words on from an index
filled_at : (distance here : ℕ) (front : List ℕ) (a b c d e f x y : ℕ) (rest : List ℕ) → length front ≡ here
    → with_distance distance (here + 6) (front ++ a ∷ b ∷ c ∷ d ∷ e ∷ f ∷ x ∷ y ∷ rest)
    ≡ front ++ a ∷ b ∷ c ∷ d ∷ e ∷ f ∷ word_of (Auipc ra (hi distance)) ∷ word_of (Jalr ra ra (lo distance)) ∷ rest
filled_at distance here front a b c d e f x y rest len =
    let u = word_of (Auipc ra (hi distance)) in
    let v = word_of (Jalr ra ra (lo distance)) in
    let first : slice_set (front ++ a ∷ b ∷ c ∷ d ∷ e ∷ f ∷ x ∷ y ∷ rest) (here + 6) u ≡ front ++ a ∷ b ∷ c ∷ d ∷ e ∷ f ∷ u ∷ y ∷ rest =
    set-append_right front (a ∷ b ∷ c ∷ d ∷ e ∷ f ∷ x ∷ y ∷ rest) here (here + 6) u len (omega arith)
    ∙ ap (λ (k : ℕ). front ++ slice_set (a ∷ b ∷ c ∷ d ∷ e ∷ f ∷ x ∷ y ∷ rest) k u) (let z : here + 6 - here ≡ 6 = omega arith in z) in
    let second : slice_set (front ++ a ∷ b ∷ c ∷ d ∷ e ∷ f ∷ u ∷ y ∷ rest) (here + 6 + 1) v ≡ front ++ a ∷ b ∷ c ∷ d ∷ e ∷ f ∷ u ∷ v ∷ rest =
    set-append_right front (a ∷ b ∷ c ∷ d ∷ e ∷ f ∷ u ∷ y ∷ rest) here (here + 6 + 1) v len (omega arith)
    ∙ ap (λ (k : ℕ). front ++ slice_set (a ∷ b ∷ c ∷ d ∷ e ∷ f ∷ u ∷ y ∷ rest) k v) (let z : here + 6 + 1 - here ≡ 7 = omega arith in z) in
    ap (λ (l : List ℕ). slice_set l (here + 6 + 1) v) first ∙ second

-- at an index of a function, these calls filled in make of the old words the new ones
abbrev Fills : (d : ℕ → ℕ → ℕ) (here : ℕ) → List Relocation → (old new : List Op) → Type 0
Fills d here rs old new =
    (front behind : List ℕ) → length front ≡ here → with_distances d rs (front ++ (map word_of old ++ behind)) ≡ front ++ (map word_of new ++ behind)

module _ (d : ℕ → ℕ → ℕ) where
  fills_none : (here : ℕ) (old new : List Op) → old ≡ new → Fills d here [] old new
  fills_none here old new same front behind len = ap (λ (ops : List Op). front ++ (map word_of ops ++ behind)) same

  fills_both : (here there : ℕ) (rs ss : List Relocation) (a a' b b' : List Op) → here + length a' ≡ there
      → Fills d here rs a a' → Fills d there ss b b' → Fills d here (rs ++ ss) (a ++ b) (a' ++ b')
  fills_both here there rs ss a a' b b' there_is first second front behind len =
      let parted : (xs ys : List Op) → front ++ (map word_of (xs ++ ys) ++ behind) ≡ front ++ (map word_of xs ++ (map word_of ys ++ behind)) = λ xs ys.
      ap (λ (l : List ℕ). front ++ (l ++ behind)) (map-append word_of xs ys) ∙ ap (λ (l : List ℕ). front ++ l) (append_assoc (map word_of xs) (map word_of ys) behind) in
      let moved : (l : List ℕ) → front ++ (map word_of a' ++ l) ≡ (front ++ map word_of a') ++ l = λ l. sym (append_assoc front (map word_of a') l) in
      let long : length (front ++ map word_of a') ≡ there = omega (arith, length-append front (map word_of a'), length-map a' word_of, len, there_is) in
      ap (with_distances d (rs ++ ss)) (parted a b)
      ∙ in_order d rs ss (front ++ (map word_of a ++ (map word_of b ++ behind)))
      ∙ ap (with_distances d ss) (first front (map word_of b ++ behind) len ∙ moved (map word_of b ++ behind))
      ∙ second (front ++ map word_of a') behind long
      ∙ sym (moved (map word_of b' ++ behind))
      ∙ sym (parted a' b')

-- numbers that are one
at_one : (F : ℕ → ℕ → Type 0) (n a b : ℕ) → F n n → n ≡ a → n ≡ b → F a b
at_one F n a b h e f = subst (λ (k : ℕ). F a k) f (subst (λ (k : ℕ). F k n) e h)

at_two : (F : ℕ → ℕ → ℕ → ℕ → Type 0) (m n a b k l : ℕ) → F m m n n → m ≡ a → m ≡ b → n ≡ k → n ≡ l → F a b k l
at_two F m n a b k l h e f g i = at_one (F a b) n k l (at_one (λ x y. F x y n n) m a b h e f) g i

-- ---- instructions

module _ (w : EmitContext) where
  moves_near : (takes j base : ℕ) → move_words (near w) takes j base ≡ move_words w takes j base
  moves_near zero j base = refl
  moves_near (suc n) j base = rw (moves_near n (j + 1) (base + 1)) refl

  jump_near : (j here : ℕ) (l : Label) → jump_words (near w) j here l ≡ jump_words w j here l
  jump_near j here l = ap (λ (moves : List Op). moves ++ far (distance (here + length moves) l.place)) (moves_near l.takes (j - l.takes) l.base)

  jumps_near : (j here : ℕ) (ls : List Label) → jumps (near w) j here ls ≡ jumps w j here ls
  jumps_near j here [] = refl
  jumps_near j here (l ∷ ls) =
      ap (λ (first : List Op). first ++ jumps (near w) j (here + length first) ls) (jump_near j here l)
      ∙ ap (λ (more : List Op). jump_words w j here l ++ more) (jumps_near j (here + length (jump_words w j here l)) ls)

  last_near : (labels : List Label) → last_label (near w) labels ≡ last_label w labels
  last_near [] = refl
  last_near (l ∷ []) = refl
  last_near (l ∷ m ∷ ls) = last_near (m ∷ ls)

  operate_near : (h : ℕ) (op : Operation) → operate_words (near w) h op ≡ operate_words w h op
  operate_near h (Unary t op) = refl
  operate_near h p = refl

  -- a call's words
  call_fills : (h here function arguments : ℕ) → Fills w.distance_to here (record { place = here + 6; function = function } ∷ []) (call_words (near w) h here function arguments) (call_words w h here function arguments)
  call_fills h here function arguments front behind len = filled_at (w.distance_to (here + 6) function) here front _ _ _ _ _ _ _ _ _ len

  plain_fills : (d : Declarations) (labels : List Label) (h here : ℕ) (p : Plain) → Fills w.distance_to here (call_of (near w) here p) (words (near w) d labels h here p) (words w d labels h here p)
  plain_fills d labels h here (Call f) = call_fills h here f (length (d.function f).params)
  plain_fills d labels h here (Br l) = fills_none w.distance_to here _ _ (jump_near h here (label_at w labels l))
  plain_fills d labels h here (BrIf l) =
      let skip = unless_words w (here + 3) (label_at w labels l).takes in
      fills_none w.distance_to here _ _ (ap (λ (jump : List Op). load_operand w t0 (h - 1) ++ (skip ++ jump)) (jump_near (h - 1) (here + 3 + length skip) (label_at w labels l)))
  plain_fills d labels h here (BrTable ls l) =
      let last = label_at w labels l in
      let all = map (label_at w labels) ls in
      let front = table_front w h (length all) last.takes in
      fills_none w.distance_to here _ _ (ap (λ (more : List Op). front ++ more) (jumps_near (h - 1) (here + length front) (all ++ last ∷ [])))
  plain_fills d labels h here Return =
      fills_none w.distance_to here _ _ (jump_near h here (last_label (near w) labels) ∙ ap (jump_words w h here) (last_near labels))
  plain_fills d labels h here (Numeric op) = fills_none w.distance_to here _ _ (operate_near h op)
  plain_fills d labels h here p = fills_none w.distance_to here (words (near w) d labels h here p) (words w d labels h here p) refl

  words_near : (d : Declarations) (labels others : List Label) → taken_by labels ≡ taken_by others → (h here : ℕ) (p : Plain) → length (words w d labels h here p) ≡ length (words (near w) d others h 0 p)
  words_near d labels others same h here p = words_size w no_distance d labels others same h here p

  size_near : {sort : Sort} (c : Context) (labels others : List Label) → taken_by labels ≡ taken_by others → (tree : Part sort) (place : Place) → size w c labels place tree ≡ size (near w) c others place tree
  size_near c labels others same tree place = sym (code_size w w.distance_to c labels labels refl tree place 0) ∙ code_size w no_distance c labels others same tree place 0

  -- ---- sequences

  code_fills : {sort : Sort} (c : Context) (labels counted : List Label) → taken_by labels ≡ taken_by counted → (tree : Part sort) (place : Place) (here : ℕ)
      → Fills w.distance_to here (calls (near w) c counted place here tree) (code (near w) c labels place here tree) (code w c labels place here tree)
  code_fills c labels counted same tree None here = fills_none w.distance_to here [] [] refl
  code_fills c labels counted same Nothing (Some h) here = fills_none w.distance_to here [] [] refl
  code_fills c labels counted same (Simple p rest) (Some h) here =
      let old = words (near w) (declarations c) labels h here p in
      let new = words w (declarations c) labels h here p in
      let next = after_rule (rule_of c p) (Some h) in
      let size_of_new : length new ≡ length (words (near w) (declarations c) counted h 0 p) = words_near (declarations c) labels counted same h here p in
      let size_of_old : length new ≡ length old = words_near (declarations c) labels labels refl h here p ∙ sym (words_size (near w) no_distance (declarations c) labels labels refl h here p) in
      let there = here + length new in
      at_one
      (λ a b. Fills w.distance_to here (call_of (near w) here p ++ calls (near w) c counted next (here + a) rest) (old ++ code (near w) c labels next (here + b) rest) (new ++ code w c labels next there rest))
      (length new) (length (words (near w) (declarations c) counted h 0 p)) (length old)
      (fills_both w.distance_to here there (call_of (near w) here p) (calls (near w) c counted next there rest) old new (code (near w) c labels next there rest) (code w c labels next there rest)
      refl (plain_fills (declarations c) labels h here p) (code_fills c labels counted same rest next there))
      size_of_new size_of_old
  code_fills c labels counted same (Block type body rest) (Some h) here =
      let s = shape c type in
      let within = inside c s.results in
      let base = h - length s.params in
      let n = length s.results in
      let after = after_block s (Some h) in
      let more = ap (λ (ns : List ℕ). n ∷ ns) same in
      let inner = label base n 0 ∷ counted in
      let count = size w within (label base n 0 ∷ labels) (Some h) body in
      let there = here + count in
      let counts : length (code w within (label base n there ∷ labels) (Some h) here body) ≡ count = code_size w w.distance_to within (label base n there ∷ labels) (label base n 0 ∷ labels) refl body (Some h) here in
      at_one
      (λ a b. Fills w.distance_to here (calls (near w) within inner (Some h) here body ++ calls (near w) c counted after (here + a) rest)
      (code (near w) within (label base n (here + b) ∷ labels) (Some h) here body ++ code (near w) c labels after (here + b) rest)
      (code w within (label base n there ∷ labels) (Some h) here body ++ code w c labels after there rest))
      count (size (near w) within inner (Some h) body) (size (near w) within (label base n 0 ∷ labels) (Some h) body)
      (fills_both w.distance_to here there (calls (near w) within inner (Some h) here body) (calls (near w) c counted after there rest)
      (code (near w) within (label base n there ∷ labels) (Some h) here body) (code w within (label base n there ∷ labels) (Some h) here body)
      (code (near w) c labels after there rest) (code w c labels after there rest)
      (omega (arith, counts)) (code_fills within (label base n there ∷ labels) inner more body (Some h) here) (code_fills c labels counted same rest after there))
      (size_near within (label base n 0 ∷ labels) inner more body (Some h)) (size_near within (label base n 0 ∷ labels) (label base n 0 ∷ labels) refl body (Some h))
  code_fills c labels counted same (Loop type body rest) (Some h) here =
      let s = shape c type in
      let within = inside c s.params in
      let base = h - length s.params in
      let n = length s.params in
      let after = after_block s (Some h) in
      let more = ap (λ (ns : List ℕ). n ∷ ns) same in
      let opened = label base n here ∷ labels in
      let inner = label base n 0 ∷ counted in
      let count = size w within opened (Some h) body in
      let there = here + count in
      let counts : length (code w within opened (Some h) here body) ≡ count = code_size w w.distance_to within opened opened refl body (Some h) here in
      at_one
      (λ a b. Fills w.distance_to here (calls (near w) within inner (Some h) here body ++ calls (near w) c counted after (here + a) rest)
      (code (near w) within opened (Some h) here body ++ code (near w) c labels after (here + b) rest)
      (code w within opened (Some h) here body ++ code w c labels after there rest))
      count (size (near w) within inner (Some h) body) (size (near w) within opened (Some h) body)
      (fills_both w.distance_to here there (calls (near w) within inner (Some h) here body) (calls (near w) c counted after there rest)
      (code (near w) within opened (Some h) here body) (code w within opened (Some h) here body)
      (code (near w) c labels after there rest) (code w c labels after there rest)
      (omega (arith, counts)) (code_fills within opened inner more body (Some h) here) (code_fills c labels counted same rest after there))
      (size_near within opened inner more body (Some h)) (size_near within opened opened refl body (Some h))
  code_fills c labels counted same (If type body other rest) (Some h) here =
      let s = shape c type in
      let within = inside c s.results in
      let base = h - 1 - length s.params in
      let n = length s.results in
      let after = after_if s (Some h) in
      let more = ap (λ (ns : List ℕ). n ∷ ns) same in
      let inner = label base n 0 ∷ counted in
      let plain = label base n 0 ∷ labels in
      let live = over_from other (end_of within body (Some (h - 1))) in
      let jump = length (over live 0 0) in
      let one = size w within plain (Some (h - 1)) body in
      let two = size w within plain (Some (h - 1)) other in
      let first_end = here + 6 + one in
      let second = first_end + jump in
      let end = second + two in
      let opened = label base n end ∷ labels in
      let counts : length (code w within opened (Some (h - 1)) (here + 6) body) ≡ one = code_size w w.distance_to within opened plain refl body (Some (h - 1)) (here + 6) in
      let counts_two : length (code w within opened (Some (h - 1)) second other) ≡ two = code_size w w.distance_to within opened plain refl other (Some (h - 1)) second in
      let last = fills_both w.distance_to second end (calls (near w) within inner (Some (h - 1)) second other) (calls (near w) c counted after end rest)
      (code (near w) within opened (Some (h - 1)) second other) (code w within opened (Some (h - 1)) second other) (code (near w) c labels after end rest) (code w c labels after end rest)
      (omega (arith, counts_two)) (code_fills within opened inner more other (Some (h - 1)) second) (code_fills c labels counted same rest after end) in
      let middle = fills_both w.distance_to first_end second [] (calls (near w) within inner (Some (h - 1)) second other ++ calls (near w) c counted after end rest)
      (over live first_end end) (over live first_end end)
      (code (near w) within opened (Some (h - 1)) second other ++ code (near w) c labels after end rest) (code w within opened (Some (h - 1)) second other ++ code w c labels after end rest)
      (omega (arith, over_size w w.distance_to live first_end end)) (fills_none w.distance_to first_end (over live first_end end) (over live first_end end) refl) last in
      let inside_it = fills_both w.distance_to (here + 6) first_end (calls (near w) within inner (Some (h - 1)) (here + 6) body) (calls (near w) within inner (Some (h - 1)) second other ++ calls (near w) c counted after end rest)
      (code (near w) within opened (Some (h - 1)) (here + 6) body) (code w within opened (Some (h - 1)) (here + 6) body)
      (over live first_end end ++ (code (near w) within opened (Some (h - 1)) second other ++ code (near w) c labels after end rest))
      (over live first_end end ++ (code w within opened (Some (h - 1)) second other ++ code w c labels after end rest))
      (omega (arith, counts)) (code_fills within opened inner more body (Some (h - 1)) (here + 6)) middle in
      let whole = fills_both w.distance_to here (here + 6) [] (calls (near w) within inner (Some (h - 1)) (here + 6) body ++ (calls (near w) within inner (Some (h - 1)) second other ++ calls (near w) c counted after end rest))
      (test_words (near w) h here second) (test_words w h here second)
      (code (near w) within opened (Some (h - 1)) (here + 6) body ++ (over live first_end end ++ (code (near w) within opened (Some (h - 1)) second other ++ code (near w) c labels after end rest)))
      (code w within opened (Some (h - 1)) (here + 6) body ++ (over live first_end end ++ (code w within opened (Some (h - 1)) second other ++ code w c labels after end rest)))
      refl (fills_none w.distance_to here (test_words (near w) h here second) (test_words w h here second) refl) inside_it in
      at_two
      (λ a b k l. Fills w.distance_to here
      (calls (near w) within inner (Some (h - 1)) (here + 6) body ++ (calls (near w) within inner (Some (h - 1)) (here + 6 + a + jump) other ++ calls (near w) c counted after (here + 6 + a + jump + k) rest))
      (test_words (near w) h here (here + 6 + b + jump) ++ (code (near w) within (label base n (here + 6 + b + jump + l) ∷ labels) (Some (h - 1)) (here + 6) body
      ++ (over live (here + 6 + b) (here + 6 + b + jump + l) ++ (code (near w) within (label base n (here + 6 + b + jump + l) ∷ labels) (Some (h - 1)) (here + 6 + b + jump) other
      ++ code (near w) c labels after (here + 6 + b + jump + l) rest))))
      (test_words w h here second ++ (code w within opened (Some (h - 1)) (here + 6) body ++ (over live first_end end ++ (code w within opened (Some (h - 1)) second other ++ code w c labels after end rest)))))
      one two (size (near w) within inner (Some (h - 1)) body) (size (near w) within plain (Some (h - 1)) body) (size (near w) within inner (Some (h - 1)) other) (size (near w) within plain (Some (h - 1)) other)
      whole
      (size_near within plain inner more body (Some (h - 1))) (size_near within plain plain refl body (Some (h - 1)))
      (size_near within plain inner more other (Some (h - 1))) (size_near within plain plain refl other (Some (h - 1)))
  code_fills c labels counted same (Else other) (Some h) here = code_fills c labels counted same other (Some h) here

  -- ---- functions

  body_fills : (c : Context) (tree : Seq) → Fills w.distance_to (body_place w) (calls_of (near w) c tree) (body_code (near w) c tree) (body_code w c tree)
  body_fills c tree =
      let n = length c.results in
      let within = inside c c.results in
      subst
      (λ (k : ℕ). Fills w.distance_to (body_place w) (calls_of (near w) c tree) (code (near w) within (label 0 n (body_place w + k) ∷ []) (Some 0) (body_place w) tree) (body_code w c tree))
      (size_near within (label 0 n 0 ∷ []) (label 0 n 0 ∷ []) refl tree (Some 0))
      (code_fills within (label 0 n (body_place w + body_size w c tree) ∷ []) (label 0 n 0 ∷ []) refl tree (Some 0) (body_place w))

  function_fills : (c : Context) (tree : Seq) → Fills w.distance_to 0 (calls_of (near w) c tree) (function_code (near w) c tree) (function_code w c tree)
  function_fills c tree =
      let begin = prologue w.layout in
      let end = epilogue w.layout (length c.results) in
      let all = calls_of (near w) c tree in
      let behind = fills_both w.distance_to (body_place w) (body_place w + length (body_code w c tree)) all [] (body_code (near w) c tree) (body_code w c tree) end end
      refl (body_fills c tree) (fills_none w.distance_to (body_place w + length (body_code w c tree)) end end refl) in
      let last = subst (λ (rs : List Relocation). Fills w.distance_to (body_place w) rs (body_code (near w) c tree ++ end) (body_code w c tree ++ end)) (append-nil all) behind in
      fills_both w.distance_to 0 (body_place w) [] all begin begin (body_code (near w) c tree ++ end) (body_code w c tree ++ end)
      (omega arith) (fills_none w.distance_to 0 begin begin refl) last

  pub calls_are_filled : (c : Context) (tree : Seq) → with_distances w.distance_to (calls_of (near w) c tree) (map word_of (function_code (near w) c tree)) ≡ map word_of (function_code w c tree)
  calls_are_filled c tree =
      ap (with_distances w.distance_to (calls_of (near w) c tree)) (sym (append-nil (map word_of (function_code (near w) c tree))))
      ∙ function_fills c tree [] [] refl
      ∙ append-nil (map word_of (function_code w c tree))
