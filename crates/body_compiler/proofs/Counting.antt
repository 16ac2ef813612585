-- The instruction words that a body's tokens have, one after the other, are as many as those of its tree.
use Rattle.std.proofs.Common.{◌≡◌, ◌≤◌, ◌<◌, ℕ, zero, suc, ◌+◌, ◌-◌, List, [], ◌∷◌, ◌++◌, map, length, reverse, None, Some, refl, sym, ap, ap₂, ◌∙◌, arith, length-append}
use Rattle.std.specs.Prelude.{slice_index_or}
use Rattle.std.proofs.lemmas.List.{map-append, reverse-append}
use Rattle.rv_isa.specs.declared.operations.Op.{Op}
use Rattle.wasm_defs.specs.declared.token.Plain.{Plain}
use Rattle.wasm_defs.specs.declared.token.Token.{Token}
use Rattle.wasm_defs.specs.declared.token.Token.TheVariants as token
use Rattle.wasm_defs.specs.Places.{Place, moved, shape, after_rule, after_block, after_if, end_of, places, places_of}
use Rattle.wasm_defs.specs.Trees.{Seq, Nothing, Simple, Block, Loop, If, Else, Tree, spelled}
use Rattle.wasm_defs.specs.Typing.{Types, Context, inside, rule_of}
use Rattle.frame_layout.specs.Templates.{Label, EmitContext, declarations, label_at, last_label, jump_words, unless_words, jump_if_words, jumps, table_front, jump_table_words, words}
use Rattle.frame_layout.specs.Functions.{label, over, size, body_size}
use Rattle.frame_layout.proofs.Sizes.{taken_by, jump_count, unless_count, front_count, jump_length, unless_length, front_length, words_size}
use Rattle.control_emit.proofs.Trees.{labelled, shape_labelled, after_dead, end_dead}
use Rattle.body_compiler.specs.Counting.{WordCount, labels_of, jump_sum, begun_count, opening, test_size, plain_size, after_token, after_tokens}

abbrev with_words : WordCount → ℕ → WordCount
with_words n words = record { takes = n.takes; words = words }

no_more : (n : WordCount) (k : ℕ) → k ≡ 0 → with_words n (n.words + k) ≡ n
no_more n k e = let same : n.words + k ≡ n.words = omega (arith, e) in ap (with_words n) same

pub taken_labels : (ns : List ℕ) → taken_by (labels_of ns) ≡ ns
taken_labels [] = refl
taken_labels (n ∷ ns) = ap (λ (l : List ℕ). n ∷ l) (taken_labels ns)

module _ (w : EmitContext) (c : Context) where
  abbrev after : List Token → List Place → WordCount → WordCount
  after = after_tokens w c

  -- ---- what isn't reachable has none

  over_dead : (q : Place) → q ≡ None → length (over q 0 0) ≡ 0
  over_dead q e = ap (λ (r : Place). length (over r 0 0)) e

  abbrev HasNoWords : Context → Seq → Place → Type 0
  HasNoWords d t q = (more : List Token) (behind : List Place) (n : WordCount) → after (spelled t more) (places d t q behind) n ≡ after more behind n

  -- nor has a body with its `end`, and what follows it
  dead_closed : (d within : Context) (body rest : Seq) (first next : Place) (takes test : ℕ) → test ≡ 0 → HasNoWords within body first → HasNoWords d rest next
      → (more : List Token) (behind : List Place) (n : WordCount)
      → after (spelled body (token.End ∷ spelled rest more)) (places within body first (end_of within body first ∷ places d rest next behind)) (opening takes test n) ≡ after more behind n
  dead_closed d within body rest first next takes test none inside after_it more behind n =
      inside (token.End ∷ spelled rest more) (end_of within body first ∷ places d rest next behind) (opening takes test n)
      ∙ ap (after (spelled rest more) (places d rest next behind)) (let same : n.words + test + 0 ≡ n.words = omega (arith, none) in ap (with_words n) same)
      ∙ after_it more behind n

  dead : (d : Context) (t : Seq) (q : Place) → q ≡ None → HasNoWords d t q
  dead d Nothing q e more behind n = refl
  dead d (Simple p rest) q e more behind n =
      let here : plain_size w c q n.takes p ≡ 0 = ap (λ (r : Place). plain_size w c r n.takes p) e in
      dead d rest (after_rule (rule_of d p) q) (ap (after_rule (rule_of d p)) e ∙ after_dead (rule_of d p)) more behind (after_token w c (token.Plain p) q n)
      ∙ ap (after more behind) (no_more n (plain_size w c q n.takes p) here)
  dead d (Block type body rest) q e more behind n =
      let s = shape d type in
      dead_closed d (inside d s.results) body rest q (after_block s q) (length (shape c type).results) 0 refl
      (dead (inside d s.results) body q e) (dead d rest (after_block s q) (ap (after_block s) e)) more behind n
  dead d (Loop type body rest) q e more behind n =
      let s = shape d type in
      dead_closed d (inside d s.params) body rest q (after_block s q) (length (shape c type).params) 0 refl
      (dead (inside d s.params) body q e) (dead d rest (after_block s q) (ap (after_block s) e)) more behind n
  dead d (If type body Nothing rest) q e more behind n =
      let s = shape d type in
      dead_closed d (inside d s.results) body rest (moved 1 0 q) (after_if s q) (length (shape c type).results) (test_size q) (ap test_size e)
      (dead (inside d s.results) body (moved 1 0 q) (ap (moved 1 0) e)) (dead d rest (after_if s q) (ap (after_if s) e)) more behind n
  dead d (If type body (Else other) rest) q e more behind n =
      let s = shape d type in
      let within = inside d s.results in
      let next = after_if s q in
      let first = moved 1 0 q in
      let none : first ≡ None = ap (moved 1 0) e in
      let takes = length (shape c type).results in
      let end = end_of within body first in
      let jump : length (over end 0 0) ≡ 0 = over_dead end (ap (end_of within body) none ∙ end_dead within body) in
      dead within body first none (token.Else ∷ spelled other (token.End ∷ spelled rest more)) (end ∷ places within other first (end_of within other first ∷ places d rest next behind)) (opening takes (test_size q) n)
      ∙ dead_closed d within other rest first next takes (length (over end 0 0)) jump (dead within other first none) (dead d rest next (ap (after_if s) e)) more behind (with_words n (n.words + test_size q))
      ∙ ap (after more behind) (no_more n (test_size q) (ap test_size e))

  -- ---- what is reachable

  plain_is : (ls : List Types) (labels : List Label) (takes : List ℕ) (h : ℕ) (p : Plain) → taken_by labels ≡ takes → length (words w (declarations c) (labels_of takes) h 0 p) ≡ length (words w (declarations c) labels h 0 p)
  plain_is ls labels takes h p e =
      words_size w w.distance_to (declarations c) (labels_of takes) labels (taken_labels takes ∙ sym e) h 0 p

  inner_takes : (ls : List Types) (labels : List Label) (base wanted own : ℕ) (takes : List ℕ) → own ≡ wanted → taken_by labels ≡ takes → taken_by (label base own 0 ∷ labels) ≡ wanted ∷ takes
  inner_takes ls labels base wanted own takes e f = ap₂ (λ (n : ℕ) (ns : List ℕ). n ∷ ns) e f

  abbrev HasWords : List Types → Seq → Place → Type 0
  HasWords ls t q = (labels : List Label) (more : List Token) (behind : List Place) (n : WordCount) → taken_by labels ≡ n.takes
      → after (spelled t more) (places (labelled c ls) t q behind) n ≡ after more behind (with_words n (n.words + size w (labelled c ls) labels q t))

  -- a body with its `end`, and what follows it, after so many words of the block's beginning
  live_closed : (ls : List Types) (own : Types) (body rest : Seq) (first next : Place) (base wanted begins : ℕ) → length own ≡ wanted → HasWords (own ∷ ls) body first → HasWords ls rest next
      → (labels : List Label) (more : List Token) (behind : List Place) (n : WordCount) (all : ℕ) → taken_by labels ≡ n.takes
      → all ≡ begins + size w (labelled c (own ∷ ls)) (label base (length own) 0 ∷ labels) first body + size w (labelled c ls) labels next rest
      → after (spelled body (token.End ∷ spelled rest more)) (places (labelled c (own ∷ ls)) body first (end_of (labelled c (own ∷ ls)) body first ∷ places (labelled c ls) rest next behind))
      (opening wanted begins n) ≡ after more behind (with_words n (n.words + all))
  live_closed ls own body rest first next base wanted begins fits inside after_it labels more behind n all e is =
      let within = labelled c (own ∷ ls) in
      let inner : List Label = label base (length own) 0 ∷ labels in
      let inside_words = size w within inner first body in
      inside inner (token.End ∷ spelled rest more) (end_of within body first ∷ places (labelled c ls) rest next behind) (opening wanted begins n)
      (inner_takes ls labels base wanted (length own) n.takes fits e)
      ∙ after_it labels more behind (with_words n (n.words + begins + inside_words + 0)) e
      ∙ ap (after more behind) (let same : n.words + begins + inside_words + 0 + size w (labelled c ls) labels next rest ≡ n.words + all = omega (arith, is) in ap (with_words n) same)

  live : (ls : List Types) (t : Seq) (q : Place) → HasWords ls t q
  live ls t None labels more behind n e =
      dead (labelled c ls) t None refl more behind n ∙ ap (after more behind) (sym (no_more n 0 refl))
  live ls Nothing (Some h) labels more behind n e = ap (after more behind) (sym (no_more n 0 refl))
  live ls (Simple p rest) (Some h) labels more behind n e =
      let d = labelled c ls in
      let next = after_rule (rule_of d p) (Some h) in
      let one = after_token w c (token.Plain p) (Some h) n in
      let here = plain_is ls labels n.takes h p e in
      live ls rest next labels more behind one e
      ∙ ap (after more behind) (let same : one.words + size w d labels next rest ≡ n.words + (length (words w (declarations c) labels h 0 p) + size w d labels next rest) = omega (arith, here) in ap (with_words n) same)
  live ls (Block type body rest) (Some h) labels more behind n e =
      let d = labelled c ls in
      let s = shape d type in
      let next = after_block s (Some h) in
      let inner : List Label = label (h - length s.params) (length s.results) 0 ∷ labels in
      live_closed ls s.results body rest (Some h) next (h - length s.params) (length (shape c type).results) 0 (ap (λ (x : _). length x.results) (shape_labelled c ls type))
      (live (s.results ∷ ls) body (Some h)) (live ls rest next) labels more behind n (size w (inside d s.results) inner (Some h) body + size w d labels next rest) e (omega arith)
  live ls (Loop type body rest) (Some h) labels more behind n e =
      let d = labelled c ls in
      let s = shape d type in
      let next = after_block s (Some h) in
      let inner : List Label = label (h - length s.params) (length s.params) 0 ∷ labels in
      live_closed ls s.params body rest (Some h) next (h - length s.params) (length (shape c type).params) 0 (ap (λ (x : _). length x.params) (shape_labelled c ls type))
      (live (s.params ∷ ls) body (Some h)) (live ls rest next) labels more behind n (size w (inside d s.params) inner (Some h) body + size w d labels next rest) e (omega arith)
  live ls (If type body Nothing rest) (Some h) labels more behind n e =
      let d = labelled c ls in
      let s = shape d type in
      let next = after_if s (Some h) in
      let first : Place = Some (h - 1 + 0) in
      let below : first ≡ Some (h - 1) = let m : h - 1 + 0 ≡ h - 1 = omega arith in ap (λ (m : ℕ). Some m) m in
      let inner : List Label = label (h - 1 - length s.params) (length s.results) 0 ∷ labels in
      let there = ap (λ (r : Place). size w (inside d s.results) inner r body) (sym below) in
      live_closed ls s.results body rest first next (h - 1 - length s.params) (length (shape c type).results) 6 (ap (λ (x : _). length x.results) (shape_labelled c ls type))
      (live (s.results ∷ ls) body first) (live ls rest next) labels more behind n _ e (omega (arith, there))
  live ls (If type body (Else other) rest) (Some h) labels more behind n e =
      let d = labelled c ls in
      let s = shape d type in
      let within = inside d s.results in
      let next = after_if s (Some h) in
      let first : Place = Some (h - 1 + 0) in
      let below : first ≡ Some (h - 1) = let m : h - 1 + 0 ≡ h - 1 = omega arith in ap (λ (m : ℕ). Some m) m in
      let inner : List Label = label (h - 1 - length s.params) (length s.results) 0 ∷ labels in
      let wanted = length (shape c type).results in
      let own : length s.results ≡ wanted = ap (λ (x : _). length x.results) (shape_labelled c ls type) in
      let fits = inner_takes ls labels (h - 1 - length s.params) wanted (length s.results) n.takes own e in
      let end = end_of within body first in
      let one = opening wanted 6 n in
      let first_words = size w within inner first body in
      let jump = length (over end 0 0) in
      let other_words = size w within inner first other in
      let rest_words = size w d labels next rest in
      let first_there : first_words ≡ size w within inner (Some (h - 1)) body = ap (λ (r : Place). size w within inner r body) below in
      let other_there : other_words ≡ size w within inner (Some (h - 1)) other = ap (λ (r : Place). size w within inner r other) below in
      let jump_there : jump ≡ length (over (end_of within body (Some (h - 1))) 0 0) = ap (λ (r : Place). length (over (end_of within body r) 0 0)) below in
      let last : List Token = token.End ∷ spelled rest more in
      let last_places = end_of within other first ∷ places d rest next behind in
      live (s.results ∷ ls) body first inner (token.Else ∷ spelled other last) (end ∷ places within other first last_places) one fits
      ∙ live_closed ls s.results other rest first next (h - 1 - length s.params) wanted jump own (live (s.results ∷ ls) other first) (live ls rest next) labels more behind
      (with_words n (n.words + 6 + first_words)) (jump + other_words + rest_words) e refl
      ∙ ap (after more behind)
      (let same : n.words + 6 + first_words + (jump + other_words + rest_words) ≡ n.words + (6 + size w within inner (Some (h - 1)) body + length (over (end_of within body (Some (h - 1))) 0 0) + size w within inner (Some (h - 1)) other + rest_words) = omega (arith, first_there, other_there, jump_there) in
      ap (with_words n) same)

  -- ---- a body

  -- all its tokens have its words
  pub body_counted : (tokens : List Token) (tree : Seq) (front : ℕ) → Tree tokens tree → (after tokens (places_of c tree) (begun_count front (length c.results))).words ≡ front + body_size w c tree
  body_counted tokens tree front spells =
      let n = length c.results in
      let labels : List Label = label 0 n 0 ∷ [] in
      let within = inside c c.results in
      ap (λ (ts : List Token). (after ts (places_of c tree) (begun_count front n)).words) spells
      ∙ ap (λ (x : WordCount). x.words) (live (c.results ∷ c.labels) tree (Some 0) labels (token.End ∷ []) (end_of within tree (Some 0) ∷ []) (begun_count front n) refl)
      ∙ (let same : front + body_size w c tree + 0 ≡ front + body_size w c tree = omega arith in same)

  -- ---- words only become more

  pub token_more : (t : Token) (q : Place) (n : WordCount) → n.words ≤ (after_token w c t q n).words
  token_more (token.Plain p) q n = omega arith
  token_more (token.Block t) q n = omega arith
  token_more (token.Loop t) q n = omega arith
  token_more (token.If t) q n = omega arith
  token_more token.Else q n = omega arith
  token_more token.End q n = omega arith

  pub tokens_more : (ts : List Token) (qs : List Place) (n : WordCount) → n.words ≤ (after ts qs n).words
  tokens_more [] qs n = omega arith
  tokens_more (t ∷ ts) [] n = omega arith
  tokens_more (t ∷ ts) (q ∷ qs) n = let one = token_more t q n in let rest = tokens_more ts qs (after_token w c t q n) in omega arith

  -- tokens and others after them
  pub after_both : (ts us : List Token) (qs rs : List Place) (n : WordCount) → length qs ≡ length ts → after (ts ++ us) (qs ++ rs) n ≡ after us rs (after ts qs n)
  after_both [] us [] rs n e = refl
  after_both [] us (q ∷ qs) rs n e = absurd (omega arith)
  after_both (t ∷ ts) us [] rs n e = absurd (omega arith)
  after_both (t ∷ ts) us (q ∷ qs) rs n e = after_both ts us qs rs (after_token w c t q n) (omega arith)

-- ---- branches

last_is : (w : EmitContext) (ls : List Label) (l : Label) → last_label w (ls ++ l ∷ []) ≡ l
last_is w [] l = refl
last_is w (a ∷ []) l = refl
last_is w (a ∷ b ∷ ls) l = last_is w (b ∷ ls) l

module _ (w : EmitContext) (ns : List ℕ) where
  pub at_takes : (l : ℕ) → (label_at w (labels_of ns) l).takes ≡ slice_index_or ns l 0
  at_takes l = at ns l
    where
      at : (ms : List ℕ) (l : ℕ) → (label_at w (labels_of ms) l).takes ≡ slice_index_or ms l 0
      at [] l = refl
      at (m ∷ ms) zero = refl
      at (m ∷ ms) (suc l) = at ms l

  pub jump_counted : (j here l n : ℕ) → n ≡ slice_index_or ns l 0 → length (jump_words w j here (label_at w (labels_of ns) l)) ≡ jump_count n
  jump_counted j here l n e = jump_length w j here (label_at w (labels_of ns) l) ∙ ap jump_count (at_takes l ∙ sym e)

  pub jump_if_counted : (h here l n : ℕ) → n ≡ slice_index_or ns l 0 → length (jump_if_words w h here (label_at w (labels_of ns) l)) ≡ 3 + unless_count n + jump_count n
  jump_if_counted h here l n e =
      let label = label_at w (labels_of ns) l in
      let skip = unless_words w (here + 3) label.takes in
      let same : unless_count label.takes ≡ unless_count n = ap unless_count (at_takes l ∙ sym e) in
      omega (
        arith,
        length-append skip (jump_words w (h - 1) (here + 3 + length skip) label),
        unless_length w (here + 3) label.takes,
        same,
        jump_counted (h - 1) (here + 3 + length skip) l n e,
      )

  table_counted : (j here : ℕ) (ks : List ℕ) (l n : ℕ) → n ≡ slice_index_or ns l 0 → length (jumps w j here (map (label_at w (labels_of ns)) ks ++ label_at w (labels_of ns) l ∷ [])) ≡ jump_sum ns ks + jump_count n
  table_counted j here [] l n e =
      let first = jump_words w j here (label_at w (labels_of ns) l) in
      let none : List Op = [] in
      omega (arith, length-append first none, jump_counted j here l n e)
  table_counted j here (k ∷ ks) l n e =
      let first = jump_words w j here (label_at w (labels_of ns) k) in
      omega (
        arith,
        length-append first (jumps w j (here + length first) (map (label_at w (labels_of ns)) ks ++ label_at w (labels_of ns) l ∷ [])),
        jump_counted j here k (slice_index_or ns k 0) refl,
        table_counted j (here + length first) ks l n e,
      )

  pub jump_table_counted : (h here : ℕ) (ks : List ℕ) (l n : ℕ) → n ≡ slice_index_or ns l 0
      → length (jump_table_words w h here (map (label_at w (labels_of ns)) ks) (label_at w (labels_of ns) l)) ≡ front_count n + jump_sum ns ks + jump_count n
  jump_table_counted h here ks l n e =
      let ls = map (label_at w (labels_of ns)) ks in
      let last = label_at w (labels_of ns) l in
      let front = table_front w h (length ls) last.takes in
      let same : front_count last.takes ≡ front_count n = ap front_count (at_takes l ∙ sym e) in
      omega (
        arith,
        length-append front (jumps w (h - 1) (here + length front) (ls ++ last ∷ [])),
        front_length w h (length ls) last.takes,
        same,
        table_counted (h - 1) (here + length front) ks l n e,
      )

-- the label of a function is the outermost one
pub return_counted : (w : EmitContext) (takes : List ℕ) (h here : ℕ) → 0 < length takes → length (jump_words w h here (last_label w (labels_of (reverse takes)))) ≡ jump_count (slice_index_or takes 0 0)
return_counted w [] h here some = absurd (omega arith)
return_counted w (m ∷ ms) h here some =
    let parts : reverse (m ∷ ms) ≡ reverse ms ++ m ∷ [] = reverse-append (m ∷ []) ms in
    let labels : labels_of (reverse (m ∷ ms)) ≡ labels_of (reverse ms) ++ label 0 m 0 ∷ [] = ap labels_of parts ∙ map-append (λ (n : ℕ). label 0 n 0) (reverse ms) (m ∷ []) in
    let last : last_label w (labels_of (reverse (m ∷ ms))) ≡ label 0 m 0 = ap (last_label w) labels ∙ last_is w (labels_of (reverse ms)) (label 0 m 0) in
    jump_length w h here (last_label w (labels_of (reverse (m ∷ ms)))) ∙ ap (λ (l : Label). jump_count l.takes) last
