-- The instruction words of a body's tokens, one after the other, are those of its tree.
use Rattle.std.proofs.Common.{◌≡◌, ℕ, suc, ◌+◌, ◌-◌, List, [], ◌∷◌, ◌++◌, map, length, None, Some, refl, sym, ap, ◌∙◌, subst, arith, append_assoc}
use Rattle.std.proofs.lemmas.List.{append-nil, length-map}
use Rattle.rv_isa.specs.declared.compiled.Relocation.{Relocation}
use Rattle.rv_isa.specs.declared.operations.Op.{Op}
use Rattle.rv_isa.specs.Words.{word_of}
use Rattle.wasm_defs.specs.declared.token.Token.{Token}
use Rattle.wasm_defs.specs.declared.token.Token.TheVariants as token
use Rattle.wasm_defs.specs.declared.token.BlockType.{BlockType}
use Rattle.wasm_defs.specs.declared.token.BlockType.TheVariants.{Empty, Value, Index}
use Rattle.wasm_defs.specs.Places.{Place, moved, shape, after_rule, after_block, after_if, end_of, places, places_of}
use Rattle.wasm_defs.specs.Trees.{Sort, Branch, Part, Seq, Nothing, Simple, Block, Loop, If, Else, Tree, spelled, tokens_in}
use Rattle.wasm_defs.specs.Typing.{Types, Signature, Context, Rule, Untyped, inside, rule_of}
use Rattle.frame_layout.specs.Templates.{Label, EmitContext, declarations, words}
use Rattle.frame_layout.specs.Functions.{label, over, test_words, size, code, call_of, calls, Trap, traps_of, traps, body_place, body_size, body_traps}
use Rattle.control_emit.specs.Pending.{Pending, Shape, shape_of, shapes, Ends, label_of, named, meaning}
use Rattle.control_emit.specs.Emits.{FunctionBuilder, IsHeld, Emits, Opens, Turns, Closes}
use Rattle.control_emit.specs.Walks.{end_shape, start_shape, OpensDead, Step, Walk, token_calls, walk_calls, Calling, token_traps, walk_traps, begun, WordsLaw, CallsLaw}
use Rattle.control_emit.proofs.Composing.{longer, longer-opens, longer-turns, emits-nothing, emits-as, emits-both, ends_there, enclosed, enclosed-size, closed-shapes, both-enclosed, count-more, count-shapes}
use Rattle.control_emit.proofs.Sizes.{AreAlike, alike-same, words_size, size_is, code_dead, over_size}

-- labels of other types are named in blocks
abbrev pub labelled : Context → List Types → Context
labelled c ls = record c { labels = ls }

pub shape_labelled : (c : Context) (ls : List Types) (t : BlockType) → shape (labelled c ls) t ≡ shape c t
shape_labelled c ls Empty = refl
shape_labelled c ls (Value t) = refl
shape_labelled c ls (Index i) = refl

-- ---- what isn't reachable

pub after_dead : (r : Rule) → after_rule r None ≡ None
after_dead Untyped = refl
after_dead p = refl

pub end_dead : (c : Context) (t : Seq) → end_of c t None ≡ None
end_dead c Nothing = refl
end_dead c (Simple p rest) = ap (end_of c rest) (after_dead (rule_of c p)) ∙ end_dead c rest
end_dead c (Block type body rest) = end_dead c rest
end_dead c (Loop type body rest) = end_dead c rest
end_dead c (If type body other rest) = end_dead c rest

-- ---- labels where only lengths are counted

abbrev pub counted : List Shape → List Label
counted [] = []
counted (s ∷ ss) = label s.base s.takes 0 ∷ counted ss

abbrev pub ends_of : List Shape → List Ends
ends_of [] = []
ends_of (s ∷ ss) = ends_there 0 ∷ ends_of ss

pub counted_alike : (ss : List Shape) → AreAlike (counted ss) (named ss (ends_of ss))
counted_alike [] = tt
counted_alike (s ∷ ss) = (refl, counted_alike ss)

pub length-ends : (ss : List Shape) → length (ends_of ss) ≡ length ss
length-ends [] = refl
length-ends (s ∷ ss) = ap suc (length-ends ss)

pub ends_count : (ls : List Pending) → length (ends_of (shapes ls)) ≡ length ls
ends_count ls = length-ends (shapes ls) ∙ length-map ls shape_of

-- ---- calls

calls_dead : (w : EmitContext) (c : Context) (ls : List Label) (here : ℕ) (t : Seq) → calls w c ls None here t ≡ []
calls_dead w c ls here Nothing = refl
calls_dead w c ls here p = refl

calls_at : (w : EmitContext) (c : Context) (q : Place) (t : Seq) (ls ms : List Label) (i j : ℕ) → ls ≡ ms → i ≡ j → calls w c ls q i t ≡ calls w c ms q j t
calls_at w c q t ls ms i j e f = ap (λ (l : List Label). calls w c l q i t) e ∙ ap (λ (n : ℕ). calls w c ms q n t) f

-- one run after the other, and what follows
both_lists : {A : Type 0} (all first then_all second rest own next : List A) → all ≡ first ++ then_all → first ≡ own → then_all ≡ second ++ rest → second ≡ next → all ≡ (own ++ next) ++ rest
both_lists {A} all first then_all second rest own next e f g h =
    e ∙ ap (λ (l : List A). l ++ then_all) f ∙ ap (λ (l : List A). own ++ l) (g ∙ ap (λ (l : List A). l ++ rest) h) ∙ sym (append_assoc own next rest)

-- ---- traps

traps_dead : (w : EmitContext) (c : Context) (ls : List Label) (here behind : ℕ) (t : Seq) → traps w c ls None here behind t ≡ []
traps_dead w c ls here behind Nothing = refl
traps_dead w c ls here behind p = refl

traps_at : (w : EmitContext) (c : Context) (q : Place) (t : Seq) (ls ms : List Label) (i j m n : ℕ) → ls ≡ ms → i ≡ j → m ≡ n → traps w c ls q i m t ≡ traps w c ms q j n t
traps_at w c q t ls ms i j m n e f g = ap (λ (l : List Label). traps w c l q i m t) e ∙ ap (λ (k : ℕ). traps w c ms q k m t) f ∙ ap (λ (k : ℕ). traps w c ms q j k t) g

-- how many tokens there are with others after them
pub spelled_length : {sort : Sort} (t : Part sort) (more : List Token) → length (spelled t more) ≡ tokens_in t + length more
spelled_length Nothing more = omega arith
spelled_length (Simple p rest) more = omega (arith, spelled_length rest more)
spelled_length (Block type body rest) more =
    omega (arith, spelled_length body (token.End ∷ spelled rest more), spelled_length rest more, spelled_length body (token.End ∷ spelled rest []))
spelled_length (Loop type body rest) more =
    omega (arith, spelled_length body (token.End ∷ spelled rest more), spelled_length rest more, spelled_length body (token.End ∷ spelled rest []))
spelled_length (If type body other rest) more =
    let behind = token.End ∷ spelled rest more in
    let alone : List Token = token.End ∷ spelled rest [] in
    omega (arith, spelled_length body (spelled other behind), spelled_length other behind, spelled_length rest more, spelled_length body (spelled other alone), spelled_length other alone)
spelled_length (Else other) more = omega (arith, spelled_length other more)

-- after a block's body its `end`, and after the first branch of an `if` also the second one
behind_body : (rest : Seq) (more : List Token) → length (token.End ∷ spelled rest more) ≡ 1 + tokens_in rest + length more
behind_body rest more = omega (arith, spelled_length rest more)

behind_first : (other : Part Branch) (rest : Seq) (more : List Token) → length (spelled other (token.End ∷ spelled rest more)) ≡ 1 + tokens_in other + tokens_in rest + length more
behind_first other rest more = omega (arith, spelled_length other (token.End ∷ spelled rest more), spelled_length rest more)

-- the tokens of a sequence, whose calls and traps and all after them are given, lead through a draft in the middle
record Through (w : EmitContext) (c : Context) (more : List Token) (after : List Place) (old new : FunctionBuilder) (ops : List Ends → List Op) (all own : List Relocation) (all_traps own_traps : List Trap) : Type 0 where
  mid : FunctionBuilder
  emits : Emits old mid ops
  walk : Walk w c more after mid new
  noted : (all ≡ own ++ walk_calls w c more after mid new walk) × (all_traps ≡ own_traps ++ walk_traps w c more after mid new walk)

none_both : (a b c : FunctionBuilder) → Emits a b (λ es. []) → Emits b c (λ es. []) → Emits a c (λ es. [])
none_both a b c x y = emits-both a b c (λ es. []) (λ es. []) x y

none_enclosed : (a b c d : FunctionBuilder) (s : Shape) → Opens a b s (λ e. []) → Emits b c (λ es. []) → Closes c d → Emits a d (λ es. [])
none_enclosed a b c d s x y z = enclosed a b c d s (λ e. []) (λ labels here. []) x y z

none_turned : (a b c : FunctionBuilder) (s : Shape) → Opens a b s (λ e. []) → Turns b c (λ n. []) → Opens a c s (λ e. [])
none_turned a b c s x y =
    let count = count-more b.labels a.labels s x.shapes_are in
    record {
      held = y.held;
      shapes_are = y.shapes_are ∙ x.shapes_are;
      words_are = λ e es is.
          let l : length (e ∷ es) ≡ length b.labels = omega arith in
          y.words_are e.other e.end es l ∙ append-nil _ ∙ x.words_are (record { other = length c.words; end = e.end }) es is;
    }

none_more : (a b c : FunctionBuilder) (s : Shape) → Opens a b s (λ e. []) → Emits b c (λ es. []) → Opens a c s (λ e. [])
none_more a b c s x y =
    let count = count-more b.labels a.labels s x.shapes_are in
    record {
      held = y.held;
      shapes_are = y.shapes_are ∙ x.shapes_are;
      words_are = λ e es is.
          let l : length (e ∷ es) ≡ length b.labels = omega arith in
          y.words_are (e ∷ es) l ∙ append-nil _ ∙ x.words_are e es is;
    }

dead : (w : EmitContext) (c d : Context) (t : Seq) (q : Place) → q ≡ None → (more : List Token) (after : List Place) (old new : FunctionBuilder) → IsHeld old → (x : Walk w c (spelled t more) (places d t q after) old new)
    → Through w c more after old new (λ es. []) (walk_calls w c (spelled t more) (places d t q after) old new x) [] (walk_traps w c (spelled t more) (places d t q after) old new x) []
dead w c d Nothing q none more after old new held x = record { mid = old; emits = emits-nothing old held; walk = x; noted = (refl, refl) }
dead w c d (Simple p rest) q none more after old new held x =
    let same : x.0 ≡ old = subst (λ (r : Place). Step w c (token.Plain p) r old x.0) none x.1 in
    let r = dead w c d rest (after_rule (rule_of d p) q) (ap (after_rule (rule_of d p)) none ∙ after_dead (rule_of d p)) more after x.0 new (subst IsHeld (sym same) held) x.2 in
    let behind = walk_calls w c (spelled rest more) (places d rest (after_rule (rule_of d p) q) after) x.0 new x.2 in
    let traps_behind = walk_traps w c (spelled rest more) (places d rest (after_rule (rule_of d p) q) after) x.0 new x.2 in
    record {
      mid = r.mid;
      emits = subst (λ (y : FunctionBuilder). Emits y r.mid (λ es. [])) same r.emits;
      walk = r.walk;
      noted = (
        ap (λ (r : Place). token_calls w (token.Plain p) r (length old.words) ++ behind) none ∙ r.noted.0,
        ap (λ (r : Place). token_traps (length (token.Plain p ∷ spelled rest more)) (token.Plain p) r (length old.words) ++ traps_behind) none ∙ r.noted.1,
      );
    }
dead w c d (Block type body rest) q none more after old new held x =
    let s = shape d type in
    let within = inside d s.results in
    let opens : OpensDead old x.0 = subst (λ (r : Place). Step w c (token.Block type) r old x.0) none x.1 in
    let i = dead w c within body q none (token.End ∷ spelled rest more) (end_of within body q ∷ places d rest (after_block s q) after) x.0 new opens.opens.held x.2 in
    let r = dead w c d rest (after_block s q) (ap (after_block s) none) more after i.walk.0 new i.walk.1.held i.walk.2 in
    record { mid = r.mid; emits = none_both old i.walk.0 r.mid (none_enclosed old x.0 i.mid i.walk.0 opens.shape opens.opens i.emits i.walk.1) r.emits; walk = r.walk; noted = (i.noted.0 ∙ r.noted.0, i.noted.1 ∙ r.noted.1) }
dead w c d (Loop type body rest) q none more after old new held x =
    let s = shape d type in
    let within = inside d s.params in
    let opens : OpensDead old x.0 = subst (λ (r : Place). Step w c (token.Loop type) r old x.0) none x.1 in
    let i = dead w c within body q none (token.End ∷ spelled rest more) (end_of within body q ∷ places d rest (after_block s q) after) x.0 new opens.opens.held x.2 in
    let r = dead w c d rest (after_block s q) (ap (after_block s) none) more after i.walk.0 new i.walk.1.held i.walk.2 in
    record { mid = r.mid; emits = none_both old i.walk.0 r.mid (none_enclosed old x.0 i.mid i.walk.0 opens.shape opens.opens i.emits i.walk.1) r.emits; walk = r.walk; noted = (i.noted.0 ∙ r.noted.0, i.noted.1 ∙ r.noted.1) }
dead w c d (If type body Nothing rest) q none more after old new held x =
    let s = shape d type in
    let within = inside d s.results in
    let opens : OpensDead old x.0 = subst (λ (r : Place). Step w c (token.If type) r old x.0) none x.1 in
    let i = dead w c within body (moved 1 0 q) (ap (moved 1 0) none) (token.End ∷ spelled rest more) (end_of within body (moved 1 0 q) ∷ places d rest (after_if s q) after) x.0 new opens.opens.held x.2 in
    let r = dead w c d rest (after_if s q) (ap (after_if s) none) more after i.walk.0 new i.walk.1.held i.walk.2 in
    record { mid = r.mid; emits = none_both old i.walk.0 r.mid (none_enclosed old x.0 i.mid i.walk.0 opens.shape opens.opens i.emits i.walk.1) r.emits; walk = r.walk; noted = (i.noted.0 ∙ r.noted.0, i.noted.1 ∙ r.noted.1) }
dead w c d (If type body (Else other) rest) q none more after old new held x =
    let s = shape d type in
    let within = inside d s.results in
    let first = moved 1 0 q in
    let opens : OpensDead old x.0 = subst (λ (r : Place). Step w c (token.If type) r old x.0) none x.1 in
    let i = dead w c within body first (ap (moved 1 0) none) (token.Else ∷ spelled other (token.End ∷ spelled rest more)) (end_of within body first ∷ places within other first (end_of within other first ∷ places d rest (after_if s q) after)) x.0 new opens.opens.held x.2 in
    let turn : Turns i.mid i.walk.0 (λ n. []) = subst (λ (r : Place). Turns i.mid i.walk.0 (λ n. over r (length i.mid.words) n)) (ap (λ (r : Place). end_of within body (moved 1 0 r)) none ∙ end_dead within body) i.walk.1 in
    let j = dead w c within other first (ap (moved 1 0) none) (token.End ∷ spelled rest more) (end_of within other first ∷ places d rest (after_if s q) after) i.walk.0 new turn.held i.walk.2 in
    let r = dead w c d rest (after_if s q) (ap (after_if s) none) more after j.walk.0 new j.walk.1.held j.walk.2 in
    let o = none_turned old i.mid i.walk.0 opens.shape (none_more old x.0 i.mid opens.shape opens.opens i.emits) turn in
    record { mid = r.mid; emits = none_both old j.walk.0 r.mid (none_enclosed old i.walk.0 j.mid j.walk.0 opens.shape o j.emits j.walk.1) r.emits; walk = r.walk; noted = (i.noted.0 ∙ j.noted.0 ∙ r.noted.0, i.noted.1 ∙ j.noted.1 ∙ r.noted.1) }

-- ---- what is reachable

-- a block, and what follows it: where it ends is known
behind : (a b d : FunctionBuilder) (f g k : List Ends → List Op) (rest : List Label → ℕ → List Op) → Emits a b f → Emits b d (λ es. rest (named (shapes b.labels) es) (length b.words))
    → ((es : List Ends) → length es ≡ length a.labels → f es ++ rest (named (shapes a.labels) es) (length b.words) ≡ k es) → Emits a d k
behind a b d f g k rest x y same =
    emits-as a d (λ es. f es ++ rest (named (shapes b.labels) es) (length b.words)) k
    (emits-both a b d f (λ es. rest (named (shapes b.labels) es) (length b.words)) x y)
    (λ es is. ap (λ (ss : List Shape). f es ++ rest (named ss es) (length b.words)) x.shapes_are ∙ same es is)

-- a sequence that has a label of its own, from what begins it up to its `end`, and the sequence after it
closed_live : (w : EmitContext) (c d within : Context) (body rest : Seq) (q place next : Place) (more : List Token) (after : List Place) (old opened new : FunctionBuilder) (sh : Shape) (sized : Label)
    (first : Ends → List Op) (front begin : ℕ) (all : List Relocation) (all_traps : List Trap) (second end : ℕ → ℕ) → ((n : ℕ) → second n ≡ n) → ((n : ℕ) → end n ≡ n) → q ≡ place → sized.takes ≡ sh.takes → ((e : Ends) → length (first e) ≡ front) → begin ≡ length old.words + front
    → Opens old opened sh first
    → (i : Through w c (token.End ∷ spelled rest more) (end_of within body q ∷ places d rest next after) opened new (λ es. code w within (named (shapes opened.labels) es) q (length opened.words) body)
    all (calls w within (counted (shapes opened.labels)) q (length opened.words) body)
    all_traps (traps w within (counted (shapes opened.labels)) q (length opened.words) (length (token.End ∷ spelled rest more)) body))
    → Through w c more after i.walk.0 new (λ es. code w d (named (shapes i.walk.0.labels) es) next (length i.walk.0.words) rest)
    (walk_calls w c (spelled rest more) (places d rest next after) i.walk.0 new i.walk.2) (calls w d (counted (shapes i.walk.0.labels)) next (length i.walk.0.words) rest)
    (walk_traps w c (spelled rest more) (places d rest next after) i.walk.0 new i.walk.2) (traps w d (counted (shapes i.walk.0.labels)) next (length i.walk.0.words) (length more) rest)
    → let inner = label sh.base sh.takes 0 ∷ counted (shapes old.labels) in
    let behind = end (begin + size w within inner place body) in
    Through w c more after old new
    (λ es.
    let labels = named (shapes old.labels) es in
    let there = begin + size w within (sized ∷ labels) place body in
    let e : Ends = record { other = second there; end = end there } in
    first e ++ (code w within (label_of sh e ∷ labels) place begin body ++ code w d labels next (end there) rest))
    all (calls w within inner place begin body ++ calls w d (counted (shapes old.labels)) next behind rest)
    all_traps (traps w within inner place begin (1 + tokens_in rest + length more) body ++ traps w d (counted (shapes old.labels)) next behind (length more) rest)
closed_live w c d within body rest q place next more after old opened new sh sized first front begin all all_traps second end_at second_is end_is from takes fronts begin_is step i r =
    let here = length old.words in
    let f : List Label → ℕ → List Op = λ labels k. code w within labels place k body in
    let emits : Emits opened i.mid (λ es. f (named (shapes opened.labels) es) (length opened.words)) = subst (λ (p : Place). Emits opened i.mid (λ es. code w within (named (shapes opened.labels) es) p (length opened.words) body)) from i.emits in
    let n = length i.mid.words in
    let e = ends_there n in
    let begins : here + length (first e) ≡ begin = omega (arith, fronts e, begin_is) in
    record {
      mid = r.mid;
      emits = behind old i.walk.0 r.mid _ (λ es. []) _ (λ labels k. code w d labels next k rest) (enclosed old opened i.mid i.walk.0 sh first f step emits i.walk.1) r.emits
          (λ es is.
          let labels = named (shapes old.labels) es in
          let k = enclosed-size old opened i.mid sh first f step emits e es is in
          let z = size_is w within (sized ∷ labels) (label_of sh e ∷ labels) place (here + length (first e)) body (takes, alike-same labels) in
          let there = begin + size w within (sized ∷ labels) place body in
          let end : n ≡ there = omega (arith, k, z, begins) in
          let out : length i.walk.0.words ≡ there = i.walk.1.size ∙ end in
          let label_at : ℕ → List Label = λ m. label_of sh (ends_there m) ∷ labels in
          ap (λ (m : ℕ). (first e ++ f (label_at n) m) ++ code w d labels next (length i.walk.0.words) rest) begins
          ∙ ap (λ (m : ℕ). (first (ends_there m) ++ f (label_at m) begin) ++ code w d labels next (length i.walk.0.words) rest) end
          ∙ ap (λ (m : ℕ). (first (ends_there there) ++ f (label_at there) begin) ++ code w d labels next m rest) out
          ∙ append_assoc (first (ends_there there)) (f (label_at there) begin) (code w d labels next there rest)
          ∙ ap (λ (m : ℕ). first (record { other = m; end = there }) ++ (f (label_at there) begin ++ code w d labels next there rest)) (sym (second_is there))
          ∙ ap (λ (m : ℕ). first (record { other = second there; end = m }) ++ (f (label_at m) begin ++ code w d labels next m rest)) (sym (end_is there)));
      walk = r.walk;
      noted =
          let labels = counted (shapes old.labels) in
          let es = ends_of (shapes old.labels) in
          let inner = label sh.base sh.takes 0 ∷ labels in
          let opens : length opened.words ≡ begin = longer-opens old opened sh first step e es (ends_count old.labels) ∙ begins in
          let k = enclosed-size old opened i.mid sh first f step emits e es (ends_count old.labels) in
          let z = size_is w within inner (label_of sh e ∷ named (shapes old.labels) es) place (here + length (first e)) body (refl, counted_alike (shapes old.labels)) in
          let out : length i.walk.0.words ≡ end_at (begin + size w within inner place body) = omega (arith, i.walk.1.size, k, z, begins, end_is (begin + size w within inner place body)) in
          let same = closed-shapes old opened i.mid i.walk.0 sh i.walk.1.shape step.shapes_are i.emits.shapes_are i.walk.1.shapes_are in
          let left = 1 + tokens_in rest + length more in
          let own = calls_at w within q body _ inner _ begin (ap counted step.shapes_are) opens ∙ ap (λ (p : Place). calls w within inner p begin body) from in
          let own_traps = traps_at w within q body _ inner _ begin _ left (ap counted step.shapes_are) opens (behind_body rest more) ∙ ap (λ (p : Place). traps w within inner p begin left body) from in (
            both_lists _ _ _ _ _ _ _ i.noted.0 own r.noted.0 (calls_at w d next rest _ labels _ _ (ap counted same) out),
            both_lists _ _ _ _ _ _ _ i.noted.1 own_traps r.noted.1 (traps_at w d next rest _ labels _ _ (length more) (length more) (ap counted same) out refl),
          );
    }

live : (w : EmitContext) (c : Context) (ls : List Types) (t : Seq) (q : Place) (more : List Token) (after : List Place) (old new : FunctionBuilder) → IsHeld old → (x : Walk w c (spelled t more) (places (labelled c ls) t q after) old new)
    → Through w c more after old new (λ es. code w (labelled c ls) (named (shapes old.labels) es) q (length old.words) t)
    (walk_calls w c (spelled t more) (places (labelled c ls) t q after) old new x) (calls w (labelled c ls) (counted (shapes old.labels)) q (length old.words) t)
    (walk_traps w c (spelled t more) (places (labelled c ls) t q after) old new x) (traps w (labelled c ls) (counted (shapes old.labels)) q (length old.words) (length more) t)
live w c ls t None more after old new held x =
    let r = dead w c (labelled c ls) t None refl more after old new held x in
    record {
      mid = r.mid;
      emits = emits-as old r.mid _ _ r.emits (λ es is. sym (code_dead w (labelled c ls) (named (shapes old.labels) es) (length old.words) t));
      walk = r.walk;
      noted = (
        r.noted.0 ∙ ap (λ (l : List Relocation). l ++ walk_calls w c more after r.mid new r.walk) (sym (calls_dead w (labelled c ls) (counted (shapes old.labels)) (length old.words) t)),
        r.noted.1 ∙ ap (λ (l : List Trap). l ++ walk_traps w c more after r.mid new r.walk) (sym (traps_dead w (labelled c ls) (counted (shapes old.labels)) (length old.words) (length more) t)),
      );
    }
live w c ls Nothing (Some h) more after old new held x = record { mid = old; emits = emits-nothing old held; walk = x; noted = (refl, refl) }
live w c ls (Simple p rest) (Some h) more after old new held x =
    let d = labelled c ls in
    let next = after_rule (rule_of d p) (Some h) in
    let r = live w c ls rest next more after x.0 new x.1.held x.2 in
    record {
      mid = r.mid;
      emits = behind old x.0 r.mid (λ es. words w (declarations c) (named (shapes old.labels) es) h (length old.words) p) (λ es. []) _ (λ labels here. code w d labels next here rest) x.1 r.emits
          (λ es is.
          let labels = named (shapes old.labels) es in
          let n = longer old x.0 (λ es. words w (declarations c) (named (shapes old.labels) es) h (length old.words) p) x.1 es is in
          ap (λ (k : ℕ). words w (declarations c) labels h (length old.words) p ++ code w d labels next k rest) n);
      walk = r.walk;
      noted =
          let here = length old.words in
          let labels = counted (shapes old.labels) in
          let es = ends_of (shapes old.labels) in
          let n = longer old x.0 (λ es. words w (declarations c) (named (shapes old.labels) es) h (length old.words) p) x.1 es (ends_count old.labels) in
          let same = words_size w (declarations c) labels (named (shapes old.labels) es) h 0 here p (counted_alike (shapes old.labels)) in
          let out : length x.0.words ≡ here + length (words w (declarations c) labels h 0 p) = omega arith in
          let left = ap (λ (m : ℕ). traps_of here m p) (spelled_length (Simple p rest) more) in (
            both_lists _ (call_of w here p) _ _ _ (call_of w here p) _ refl refl r.noted.0 (calls_at w d next rest _ _ _ _ (ap counted x.1.shapes_are) out),
            both_lists _ (traps_of here (length (token.Plain p ∷ spelled rest more)) p) _ _ _ (traps_of here (tokens_in (Simple p rest) + length more) p) _ refl left r.noted.1
                (traps_at w d next rest _ _ _ _ (length more) (length more) (ap counted x.1.shapes_are) out refl),
          );
    }
live w c ls (Block type body rest) (Some h) more after old new held x =
    let d = labelled c ls in
    let s = shape d type in
    let within = inside d s.results in
    let base = h - length s.params in
    let takes = length s.results in
    let next = after_block s (Some h) in
    let step : Opens old x.0 (end_shape base takes) (λ e. []) = subst (λ (y : Signature). Opens old x.0 (end_shape (h - length y.params) (length y.results)) (λ e. [])) (sym (shape_labelled c ls type)) x.1 in
    let i = live w c (s.results ∷ ls) body (Some h) (token.End ∷ spelled rest more) (end_of within body (Some h) ∷ places d rest next after) x.0 new step.held x.2 in
    closed_live w c d within body rest (Some h) (Some h) next more after old x.0 new (end_shape base takes) (label base takes 0) (λ e. []) 0 (length old.words) _ _ (λ n. n) (λ n. n) (λ n. refl) (λ n. refl) refl refl (λ e. refl) (omega arith) step i
    (live w c ls rest next more after i.walk.0 new i.walk.1.held i.walk.2)
live w c ls (Loop type body rest) (Some h) more after old new held x =
    let d = labelled c ls in
    let s = shape d type in
    let within = inside d s.params in
    let base = h - length s.params in
    let takes = length s.params in
    let here = length old.words in
    let next = after_block s (Some h) in
    let step : Opens old x.0 (start_shape base takes here) (λ e. []) = subst (λ (y : Signature). Opens old x.0 (start_shape (h - length y.params) (length y.params) here) (λ e. [])) (sym (shape_labelled c ls type)) x.1 in
    let i = live w c (s.params ∷ ls) body (Some h) (token.End ∷ spelled rest more) (end_of within body (Some h) ∷ places d rest next after) x.0 new step.held x.2 in
    closed_live w c d within body rest (Some h) (Some h) next more after old x.0 new (start_shape base takes here) (label base takes here) (λ e. []) 0 here _ _ (λ n. n) (λ n. n) (λ n. refl) (λ n. refl) refl refl (λ e. refl) (omega arith) step i
    (live w c ls rest next more after i.walk.0 new i.walk.1.held i.walk.2)
live w c ls (If type body Nothing rest) (Some h) more after old new held x =
    let d = labelled c ls in
    let s = shape d type in
    let within = inside d s.results in
    let base = h - 1 - length s.params in
    let takes = length s.results in
    let here = length old.words in
    let next = after_if s (Some h) in
    let first : Ends → List Op = λ e. test_words w h here e.other in
    let step : Opens old x.0 (end_shape base takes) first = subst (λ (y : Signature). Opens old x.0 (end_shape (h - 1 - length y.params) (length y.results)) first) (sym (shape_labelled c ls type)) x.1 in
    let q : Place = Some (h - 1 + 0) in
    let from : q ≡ Some (h - 1) = ap (λ (m : ℕ). Some m) (let m : h - 1 + 0 ≡ h - 1 = omega arith in m) in
    let i = live w c (s.results ∷ ls) body q (token.End ∷ spelled rest more) (end_of within body q ∷ places d rest next after) x.0 new step.held x.2 in
    closed_live w c d within body rest q (Some (h - 1)) next more after old x.0 new (end_shape base takes) (label base takes 0) first 6 (here + 6) _ _ (λ n. n + 0) (λ n. n + 0 + 0) (λ n. omega arith) (λ n. omega arith) from refl (λ e. refl) refl step i
    (live w c ls rest next more after i.walk.0 new i.walk.1.held i.walk.2)
live w c ls (If type body (Else other) rest) (Some h) more after old new held x =
    let d = labelled c ls in
    let s = shape d type in
    let within = inside d s.results in
    let base = h - 1 - length s.params in
    let takes = length s.results in
    let next = after_if s (Some h) in
    let sh = end_shape base takes in
    let here = length old.words in
    let below = h - 1 in
    let first : Ends → List Op = λ e. test_words w h here e.other in
    let f : List Label → ℕ → List Op = λ labels here. code w within labels (Some below) here body in
    let g : List Label → ℕ → List Op = λ labels here. code w within labels (Some below) here other in
    let step : Opens old x.0 sh first = subst (λ (y : Signature). Opens old x.0 (end_shape (h - 1 - length y.params) (length y.results)) first) (sym (shape_labelled c ls type)) x.1 in
    let from : Some (h - 1 + 0) ≡ Some below = ap (λ (m : ℕ). Some m) (let m : h - 1 + 0 ≡ below = omega arith in m) in
    let q : Place = Some (h - 1 + 0) in
    let first_live = end_of within body (Some below) in
    let i = live w c (s.results ∷ ls) body q (token.Else ∷ spelled other (token.End ∷ spelled rest more)) (end_of within body q ∷ places within other q (end_of within other q ∷ places d rest next after)) x.0 new step.held x.2 in
    let one : Emits x.0 i.mid (λ es. f (named (shapes x.0.labels) es) (length x.0.words)) = subst (λ (r : Place). Emits x.0 i.mid (λ es. code w within (named (shapes x.0.labels) es) r (length x.0.words) body)) from i.emits in
    let t : ℕ → List Op = λ n. over first_live (length i.mid.words) n in
    let turn : Turns i.mid i.walk.0 t = subst (λ (r : Place). Turns i.mid i.walk.0 (λ n. over (end_of within body r) (length i.mid.words) n)) from i.walk.1 in
    let j = live w c (s.results ∷ ls) other q (token.End ∷ spelled rest more) (end_of within other q ∷ places d rest next after) i.walk.0 new turn.held i.walk.2 in
    let two : Emits i.walk.0 j.mid (λ es. g (named (shapes i.walk.0.labels) es) (length i.walk.0.words)) = subst (λ (r : Place). Emits i.walk.0 j.mid (λ es. code w within (named (shapes i.walk.0.labels) es) r (length i.walk.0.words) other)) from j.emits in
    let r = live w c ls rest next more after j.walk.0 new j.walk.1.held j.walk.2 in
    let m = length i.walk.0.words in
    let n = length j.mid.words in
    let shapes_same : shapes i.walk.0.labels ≡ sh ∷ shapes old.labels = turn.shapes_are ∙ i.emits.shapes_are ∙ step.shapes_are in
    -- where the parts are, by labels that take as many
    let parts : (es : List Ends) → length es ≡ length old.labels → (counted : List Label) → AreAlike counted (label base takes n ∷ named (shapes old.labels) es)
    → let first_end = here + 6 + size w within counted (Some below) body in
    let second = first_end + length (over first_live 0 0) in
    (length x.0.words ≡ here + 6) × (length i.mid.words ≡ first_end) × (m ≡ second) × (n ≡ second + size w within counted (Some below) other) = λ es is counted alike.
    let e = ends_there n in
    let begins : length x.0.words ≡ here + 6 = longer-opens old x.0 sh first step e es is in
    let zi = size_is w within counted (label base takes n ∷ named (shapes old.labels) es) (Some below) (here + 6) body alike in
    let ki = enclosed-size old x.0 i.mid sh first f step one e es is in
    let first_end = here + 6 + size w within counted (Some below) body in
    let first_is : length i.mid.words ≡ first_end = omega arith in
    let countb = count-more x.0.labels old.labels sh step.shapes_are in
    let counti = count-shapes i.mid.labels x.0.labels i.emits.shapes_are in
    let li : 1 + length es ≡ length i.mid.labels = omega arith in
    let kt = longer-turns i.mid i.walk.0 t turn n es li in
    let ot = over_size w first_live 0 0 (length i.mid.words) n in
    let second_is : m ≡ first_end + length (over first_live 0 0) = omega arith in
    let countt = count-shapes i.walk.0.labels i.mid.labels turn.shapes_are in
    let lj : length (e ∷ es) ≡ length i.walk.0.labels = omega arith in
    let kj = longer i.walk.0 j.mid (λ fs. g (named (shapes i.walk.0.labels) fs) m) two (e ∷ es) lj in
    let named_same = ap (λ (ss : List Shape). length (g (named ss (e ∷ es)) m)) shapes_same in
    let zj = size_is w within counted (label base takes n ∷ named (shapes old.labels) es) (Some below) m other alike in
    (begins, first_is, second_is, omega arith) in
    record {
      mid = r.mid;
      emits = behind old j.walk.0 r.mid _ (λ es. []) _ (λ labels here. code w d labels next here rest)
          (both-enclosed old x.0 i.mid i.walk.0 j.mid j.walk.0 sh first f g t (λ i j k. refl) step one turn two j.walk.1) r.emits
          (λ es is.
          let labels = named (shapes old.labels) es in
          let inner : ℕ → List Label = λ k. label base takes k ∷ labels in
          let counted = inner 0 in
          let rest_words : ℕ → List Op = λ k. code w d labels next k rest in
          let first_end = here + 6 + size w within counted (Some below) body in
          let second = first_end + length (over first_live 0 0) in
          let end = second + size w within counted (Some below) other in
          let at = parts es is counted (refl, alike-same labels) in
          let out : length j.walk.0.words ≡ end = j.walk.1.size ∙ at.3 in
          let whole : ℕ → ℕ → ℕ → ℕ → ℕ → List Op = λ a b k l o. (test_words w h here k ++ (f (inner l) a ++ (over first_live b l ++ g (inner l) k))) ++ rest_words o in
          ap (λ (a : ℕ). whole a (length i.mid.words) m n (length j.walk.0.words)) at.0
          ∙ ap (λ (a : ℕ). whole (here + 6) a m n (length j.walk.0.words)) at.1
          ∙ ap (λ (a : ℕ). whole (here + 6) first_end a n (length j.walk.0.words)) at.2
          ∙ ap (λ (a : ℕ). whole (here + 6) first_end second a (length j.walk.0.words)) at.3
          ∙ ap (λ (a : ℕ). whole (here + 6) first_end second end a) out
          ∙ append_assoc (test_words w h here second) (f (inner end) (here + 6) ++ (over first_live first_end end ++ g (inner end) second)) (rest_words end)
          ∙ ap (λ (l : List Op). test_words w h here second ++ l)
          (append_assoc (f (inner end) (here + 6)) (over first_live first_end end ++ g (inner end) second) (rest_words end)
          ∙ ap (λ (l : List Op). f (inner end) (here + 6) ++ l) (append_assoc (over first_live first_end end) (g (inner end) second) (rest_words end))));
      walk = r.walk;
      noted =
          let labels = counted (shapes old.labels) in
          let es = ends_of (shapes old.labels) in
          let is = ends_count old.labels in
          let inner = label base takes 0 ∷ labels in
          let alike : AreAlike inner (label base takes n ∷ named (shapes old.labels) es) = (refl, counted_alike (shapes old.labels)) in
          let first_end = here + 6 + size w within inner (Some below) body in
          let second = first_end + length (over first_live 0 0) in
          let end = second + size w within inner (Some below) other in
          let at = parts es is inner alike in
          let out : length j.walk.0.words ≡ end = j.walk.1.size ∙ at.3 in
          let same = closed-shapes old i.walk.0 j.mid j.walk.0 sh j.walk.1.shape shapes_same j.emits.shapes_are j.walk.1.shapes_are in
          let own = calls_at w within q body _ inner _ (here + 6) (ap counted step.shapes_are) at.0 ∙ ap (λ (r : Place). calls w within inner r (here + 6) body) from in
          let own_other = calls_at w within q other _ inner _ second (ap counted shapes_same) at.2 ∙ ap (λ (r : Place). calls w within inner r second other) from in
          let last = calls_at w d next rest _ labels _ _ (ap counted same) out in
          let behind = walk_calls w c more after r.mid new r.walk in
          let left = 1 + tokens_in (Else other) + tokens_in rest + length more in
          let left_other = 1 + tokens_in rest + length more in
          let own_traps = traps_at w within q body _ inner _ (here + 6) _ left (ap counted step.shapes_are) at.0 (behind_first (Else other) rest more) ∙ ap (λ (r : Place). traps w within inner r (here + 6) left body) from in
          let other_traps = traps_at w within q other _ inner _ second _ left_other (ap counted shapes_same) at.2 (behind_body rest more) ∙ ap (λ (r : Place). traps w within inner r second left_other other) from in
          let last_traps = traps_at w d next rest _ labels _ _ (length more) (length more) (ap counted same) out refl in
          let traps_behind = walk_traps w c more after r.mid new r.walk in (
            both_lists _ _ _ _ behind _ _ i.noted.0 own (both_lists _ _ _ _ behind _ _ j.noted.0 own_other r.noted.0 last) refl,
            both_lists _ _ _ _ traps_behind _ _ i.noted.1 own_traps (both_lists _ _ _ _ traps_behind _ _ j.noted.1 other_traps r.noted.1 last_traps) refl,
          );
    }

-- ---- a body

meaning-none : (ls : List Pending) (words : List ℕ) → length ls ≡ 0 → meaning ls [] words ≡ words
meaning-none [] words h = refl
meaning-none (l ∷ ls) words h = refl

pub words_are_code : WordsLaw
words_are_code w c tokens tree front last spells at x =
    let n = length c.results in
    let within = inside c c.results in
    let old = begun n front in
    let end = end_of within tree (Some 0) in
    let y : Walk w c (spelled tree (token.End ∷ [])) (places_of c tree) old last = subst (λ (ts : List Token). Walk w c ts (places_of c tree) old last) spells x in
    let i = live w c (c.results ∷ c.labels) tree (Some 0) (token.End ∷ []) (end ∷ []) old last ((tt, tt), tt) y in
    let closes = i.walk.1 in
    let final : last ≡ i.walk.0 = i.walk.2 in
    let k = length i.mid.words in
    let e = ends_there k in
    let here = length front in
    let f : ℕ → List Op = λ m. code w within (label 0 n m ∷ []) (Some 0) here tree in
    let size_here = longer old i.mid (λ es. code w within (named (shapes old.labels) es) (Some 0) here tree) i.emits (e ∷ []) refl in
    let z = size_is w within (label 0 n 0 ∷ []) (label 0 n k ∷ []) (Some 0) here tree (refl, tt) in
    let ends : k ≡ body_place w + body_size w c tree = omega arith in
    let none = count-more i.mid.labels i.walk.0.labels closes.shape closes.shapes_are in
    let one = count-shapes i.mid.labels old.labels i.emits.shapes_are in
    let empty : length {A = Ends} [] ≡ length i.walk.0.labels = omega arith in
    ap (λ (d : FunctionBuilder). d.words) final
    ∙ sym (meaning-none i.walk.0.labels i.walk.0.words (sym empty))
    ∙ closes.words_are [] empty
    ∙ i.emits.words_are (e ∷ []) refl
    ∙ ap (λ (m : ℕ). front ++ map word_of (f m)) ends
    ∙ ap (λ (m : ℕ). front ++ map word_of (code w within (label 0 n (body_place w + body_size w c tree) ∷ []) (Some 0) m tree)) at

pub calls_are_those : CallsLaw
calls_are_those w c tokens tree front last rs spells at x =
    let n = length c.results in
    let within = inside c c.results in
    let old = begun n front in
    let end = end_of within tree (Some 0) in
    let y : Calling w c (spelled tree (token.End ∷ [])) (places_of c tree) old last rs = subst (λ (ts : List Token). Calling w c ts (places_of c tree) old last rs) spells x in
    let i = live w c (c.results ∷ c.labels) tree (Some 0) (token.End ∷ []) (end ∷ []) old last ((tt, tt), tt) y.0 in
    sym y.1 ∙ i.noted.0 ∙ append-nil _ ∙ ap (λ (m : ℕ). calls w within (label 0 n 0 ∷ []) (Some 0) m tree) at

-- the traps of a walk are those of the body
abbrev pub Trapping : EmitContext → Context → List Token → List Place → FunctionBuilder → FunctionBuilder → List Trap → Type 0
Trapping w c tokens places old new ts = (walk : Walk w c tokens places old new) × (walk_traps w c tokens places old new walk ≡ ts)

pub traps_are_those : (w : EmitContext) (c : Context) (tokens : List Token) (tree : Seq) (front : List ℕ) (last : FunctionBuilder) (ts : List Trap) → Tree tokens tree → length front ≡ body_place w
    → Trapping w c tokens (places_of c tree) (begun (length c.results) front) last ts → ts ≡ body_traps w c tree
traps_are_those w c tokens tree front last all spells at x =
    let n = length c.results in
    let within = inside c c.results in
    let old = begun n front in
    let end = end_of within tree (Some 0) in
    let y : Trapping w c (spelled tree (token.End ∷ [])) (places_of c tree) old last all = subst (λ (ts : List Token). Trapping w c ts (places_of c tree) old last all) spells x in
    let i = live w c (c.results ∷ c.labels) tree (Some 0) (token.End ∷ []) (end ∷ []) old last ((tt, tt), tt) y.0 in
    sym y.1 ∙ i.noted.1 ∙ append-nil _ ∙ ap (λ (m : ℕ). traps w within (label 0 n 0 ∷ []) (Some 0) m 1 tree) at
