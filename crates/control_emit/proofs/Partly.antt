-- The instruction words of a prefix of a body's tokens, with those of the token after it, are no more than the
-- whole body's.
use Rattle.std.proofs.Common.{◌≡◌, ◌≤◌, ℕ, zero, suc, ◌+◌, ◌-◌, List, [], ◌∷◌, ◌++◌, length, None, Some, refl, sym, ap, ◌∙◌, subst, arith}
use Rattle.std.proofs.lemmas.List.{length-map}
use Rattle.rv_isa.specs.declared.operations.Op.{Op}
use Rattle.wasm_defs.specs.declared.token.Plain.{Plain}
use Rattle.wasm_defs.specs.declared.token.Token.{Token}
use Rattle.wasm_defs.specs.declared.token.Token.TheVariants as token
use Rattle.wasm_defs.specs.Places.{Place, shape, after_rule, after_block, after_if, end_of, places, places_of}
use Rattle.wasm_defs.specs.Trees.{Seq, Nothing, Simple, Block, Loop, If, Else, Tree, spelled}
use Rattle.wasm_defs.specs.Typing.{Types, Signature, Context, inside, rule_of}
use Rattle.frame_layout.specs.Templates.{EmitContext, declarations, words}
use Rattle.frame_layout.specs.Functions.{label, over, test_words, size, body_place, body_size, body_code}
use Rattle.control_emit.specs.Pending.{Pending, Shape, shape_of, shapes, Ends, named}
use Rattle.control_emit.specs.Emits.{FunctionBuilder, Emits, Opens, Turns, Closes}
use Rattle.control_emit.specs.Walks.{end_shape, start_shape, OpensDead, Step, Walk, begun, count_of, NextLaw}
use Rattle.control_emit.proofs.Composing.{longer, longer-opens, longer-turns, ends_there}
use Rattle.control_emit.proofs.Sizes.{AreAlike, words_size, over_size, size_dead, size_is}
use Rattle.control_emit.proofs.Trees.{labelled, shape_labelled, after_dead, end_dead, counted, ends_of, counted_alike, length-ends, ends_count}

-- a token's own words, where only lengths are counted
abbrev own_words : EmitContext → Context → Token → Place → List Pending → ℕ
own_words w c (token.Plain p) None ls = 0
own_words w c (token.Plain p) (Some h) ls = length (words w (declarations c) (counted (shapes ls)) h 0 p)
own_words w c (token.Block t) q ls = 0
own_words w c (token.Loop t) q ls = 0
own_words w c (token.If t) q ls = 0
own_words w c token.Else q ls = 0
own_words w c token.End q ls = 0

abbrev ahead : EmitContext → Context → List Token → List Place → List Pending → ℕ
ahead w c [] qs ls = 0
ahead w c (t ∷ ts) [] ls = 0
ahead w c (t ∷ ts) (q ∷ qs) ls = own_words w c t q ls

-- so many of the tokens, each at its point, lead to so many words, those of the next token among them
abbrev Partly : EmitContext → Context → ℕ → List Token → List Place → FunctionBuilder → ℕ → Type 0
Partly w c zero ts qs old new = new ≡ length old.words + ahead w c ts qs old.labels
Partly w c (suc k) [] qs old new = ⊥
Partly w c (suc k) (t ∷ ts) [] old new = ⊥
Partly w c (suc k) (t ∷ ts) (q ∷ qs) old new = (mid : FunctionBuilder) × Step w c t q old mid × Partly w c k ts qs mid new

partly-next : (w : EmitContext) (c : Context) (ts more : List Token) (t : Token) (qs rest : List Place) (q : Place) (old new : FunctionBuilder) → length qs ≡ length ts → Walk w c ts qs old new
    → Partly w c (length ts) (ts ++ t ∷ more) (qs ++ q ∷ rest) old (length new.words + own_words w c t q new.labels)
partly-next w c [] more t [] rest q old new e x = ap (λ (d : FunctionBuilder). length d.words + own_words w c t q d.labels) x
partly-next w c [] more t (p ∷ qs) rest q old new e x = absurd (omega arith)
partly-next w c (u ∷ ts) more t [] rest q old new e x = absurd x
partly-next w c (u ∷ ts) more t (p ∷ qs) rest q old new e x = (x.0, x.1, partly-next w c ts more t qs rest q x.0 new (omega arith) x.2)

partly-none : (w : EmitContext) (c : Context) (k : ℕ) (old : FunctionBuilder) (new : ℕ) → Partly w c k [] [] old new → new ≡ length old.words + 0
partly-none w c zero old new x = x
partly-none w c (suc k) old new x = absurd x

-- a token's own words fit
abbrev Fits : EmitContext → Context → Token → Place → FunctionBuilder → (most : ℕ) → Type 0
Fits w c (token.Plain p) None d most = length d.words ≤ most
Fits w c (token.Plain p) (Some h) d most = length d.words + length (words w (declarations c) (counted (shapes d.labels)) h 0 p) ≤ most
Fits w c (token.Block t) q d most = length d.words ≤ most
Fits w c (token.Loop t) q d most = length d.words ≤ most
Fits w c (token.If t) q d most = length d.words ≤ most
Fits w c token.Else q d most = length d.words ≤ most
Fits w c token.End q d most = length d.words ≤ most

none-fits : (n most : ℕ) → n ≤ most → n + 0 ≤ most
none-fits n most le = omega arith

own-fits : (w : EmitContext) (c : Context) (t : Token) (q : Place) (d : FunctionBuilder) (most : ℕ) → Fits w c t q d most → length d.words + own_words w c t q d.labels ≤ most
own-fits w c (token.Plain p) None d most le = none-fits (length d.words) most le
own-fits w c (token.Plain p) (Some h) d most le = le
own-fits w c (token.Block t) q d most le = none-fits (length d.words) most le
own-fits w c (token.Loop t) q d most le = none-fits (length d.words) most le
own-fits w c (token.If t) q d most le = none-fits (length d.words) most le
own-fits w c token.Else q d most le = none-fits (length d.words) most le
own-fits w c token.End q d most le = none-fits (length d.words) most le

along : (a b most : ℕ) → a ≡ b → b ≤ most → a ≤ most
along a b most e le = omega arith

-- it ends before a token, or goes on after it
onward : (w : EmitContext) (c : Context) (k : ℕ) (t : Token) (ts : List Token) (q : Place) (qs : List Place) (old : FunctionBuilder) (new most : ℕ) → Fits w c t q old most
    → ((mid : FunctionBuilder) (j : ℕ) → Step w c t q old mid → Partly w c j ts qs mid new → new ≤ most) → Partly w c k (t ∷ ts) (q ∷ qs) old new → new ≤ most
onward w c zero t ts q qs old new most le go x = along new (length old.words + own_words w c t q old.labels) most x (own-fits w c t q old most le)
onward w c (suc k) t ts q qs old new most le go x = go x.0 k x.1 x.2

-- ---- how many words a step adds

opens-size : (old new : FunctionBuilder) (s : Shape) (ops : Ends → List Op) → Opens old new s ops → (e : Ends) → length new.words ≡ length old.words + length (ops e)
opens-size old new s ops x e = longer-opens old new s ops x e (ends_of (shapes old.labels)) (ends_count old.labels)

opens-none : (old new : FunctionBuilder) (s : Shape) → Opens old new s (λ e. []) → length new.words ≡ length old.words
opens-none old new s x = let n : length new.words ≡ length old.words + 0 = opens-size old new s (λ e. []) x (ends_there 0) in omega arith

turns-size : (old new : FunctionBuilder) (ops : ℕ → List Op) (s : Shape) (ss : List Shape) → shapes old.labels ≡ s ∷ ss → Turns old new ops → length new.words ≡ length old.words + length (ops 0)
turns-size old new ops s ss e x =
    let a = length-map old.labels shape_of in
    let b = length-ends ss in
    let c = ap length e in
    let count : 1 + length (ends_of ss) ≡ length old.labels = omega arith in
    longer-turns old new ops x 0 (ends_of ss) count

-- where only lengths are counted, a plain token has as many words under these labels
plain-own : (w : EmitContext) (c : Context) (h : ℕ) (p : Plain) (ss : List Shape) (d : FunctionBuilder) → shapes d.labels ≡ ss
    → length (words w (declarations c) (counted (shapes d.labels)) h 0 p) ≡ length (words w (declarations c) (counted ss) h 0 p)
plain-own w c h p ss d e = ap (λ (l : List Shape). length (words w (declarations c) (counted l) h 0 p)) e

plain-size : (w : EmitContext) (c : Context) (h : ℕ) (p : Plain) (ss : List Shape) (old new : FunctionBuilder) → shapes old.labels ≡ ss → Emits old new (λ ends. words w (declarations c) (named (shapes old.labels) ends) h (length old.words) p)
    → length new.words ≡ length old.words + length (words w (declarations c) (counted ss) h 0 p)
plain-size w c h p ss old new e x =
    let here = length old.words in
    let own = shapes old.labels in
    let es = ends_of own in
    let n : length new.words ≡ here + length (words w (declarations c) (named own es) h here p) = longer old new (λ ends. words w (declarations c) (named (shapes old.labels) ends) h (length old.words) p) x es (ends_count old.labels) in
    let same : length (words w (declarations c) (counted own) h 0 p) ≡ length (words w (declarations c) (named own es) h here p) = words_size w (declarations c) (counted own) (named own es) h 0 here p (counted_alike own) in
    let given : length (words w (declarations c) (counted own) h 0 p) ≡ length (words w (declarations c) (counted ss) h 0 p) = plain-own w c h p ss old e in
    omega arith

-- wherever the open blocks end
alike-named : (ss : List Shape) (es : List Ends) → length es ≡ length ss → AreAlike (counted ss) (named ss es)
alike-named [] es e = tt
alike-named (s ∷ ss) [] e = absurd (omega arith)
alike-named (s ∷ ss) (x ∷ es) e = (refl, alike-named ss es (omega arith))

own-count : (w : EmitContext) (c : Context) (t : Token) (q : Place) (d : FunctionBuilder) (ends : List Ends) → length ends ≡ length d.labels → own_words w c t q d.labels ≡ count_of w c t q d ends
own-count w c (token.Plain p) None d ends e = refl
own-count w c (token.Plain p) (Some h) d ends e =
    words_size w (declarations c) (counted (shapes d.labels)) (named (shapes d.labels) ends) h 0 (length d.words) p (alike-named (shapes d.labels) ends (e ∙ sym (length-map d.labels shape_of)))
own-count w c (token.Block t) q d ends e = refl
own-count w c p q d ends e = refl

-- after a block its label is gone
closed-behind : (b d : FunctionBuilder) (s t : Shape) (ss : List Shape) → shapes b.labels ≡ s ∷ ss → shapes b.labels ≡ t ∷ shapes d.labels → shapes d.labels ≡ ss
closed-behind b d s t ss x y = cc

-- ---- what isn't reachable

-- a limit that holds of what follows these tokens, which add no words, holds of all
abbrev Stays : EmitContext → Context → (List Token → List Token) → (List Place → List Place) → Type 0
Stays w c tokens placed =
    (k : ℕ) (more : List Token) (after : List Place) (old : FunctionBuilder) (new most : ℕ) → length old.words ≤ most
    → ((mid : FunctionBuilder) (j : ℕ) → shapes mid.labels ≡ shapes old.labels → length mid.words ≡ length old.words → Partly w c j more after mid new → new ≤ most)
    → Partly w c k (tokens more) (placed after) old new → new ≤ most

-- such are a token that opens a block, what the block holds, its end, and what follows it
stays-enclosed : (w : EmitContext) (c : Context) (t : Token) (q : Place) (body rest : List Token → List Token) (inner behind : List Place → List Place)
    → ((d : FunctionBuilder) (most : ℕ) → length d.words ≤ most → Fits w c t None d most) → ((a b : FunctionBuilder) → Step w c t None a b → OpensDead a b)
    → Stays w c body inner → Stays w c rest behind → Stays w c (λ more. t ∷ body (token.End ∷ rest more)) (λ after. None ∷ inner (q ∷ behind after))
stays-enclosed w c t q body rest inner behind wordless opens holds follows = λ k more after old new most le go x.
    onward w c k t (body (token.End ∷ rest more)) None (inner (q ∷ behind after)) old new most (wordless old most le)
    (λ a i step y.
    let dark : OpensDead old a = opens old a step in
    let begins = opens-none old a dark.shape dark.opens in
    let within : length a.words ≤ most = omega arith in
    holds i (token.End ∷ rest more) (q ∷ behind after) a new most within
    (λ b j bs bn z.
    let ends : length b.words ≤ most = omega arith in
    onward w c j token.End (rest more) q (behind after) b new most ends
    (λ e m close u.
    let closes : Closes b e = close in
    let same = closed-behind b e dark.shape closes.shape (shapes old.labels) (bs ∙ dark.opens.shapes_are) closes.shapes_are in
    let out : length e.words ≡ length old.words = closes.size ∙ bn ∙ begins in
    let fits : length e.words ≤ most = omega arith in
    follows m more after e new most fits (λ f n fs fn. go f n (fs ∙ same) (fn ∙ out)) u)
    z)
    y)
    x

dead : (w : EmitContext) (c d : Context) (t : Seq) → Stays w c (spelled t) (places d t None)
dead w c d Nothing = λ k more after old new most le go x. go old k refl refl x
dead w c d (Simple p rest) = λ k more after old new most le go x.
    onward w c k (token.Plain p) (spelled rest more) None (places d rest (after_rule (rule_of d p) None) after) old new most le
    (λ a i step y.
    let same : a ≡ old = step in
    let none : Partly w c i (spelled rest more) (places d rest None after) a new = subst (λ (q : Place). Partly w c i (spelled rest more) (places d rest q after) a new) (after_dead (rule_of d p)) y in
    let fits : length a.words ≤ most = subst (λ (e : FunctionBuilder). length e.words ≤ most) (sym same) le in
    dead w c d rest i more after a new most fits
    (λ b j bs bn. go b j (bs ∙ ap (λ (e : FunctionBuilder). shapes e.labels) same) (bn ∙ ap (λ (e : FunctionBuilder). length e.words) same))
    none)
    x
dead w c d (Block type body rest) =
    let within = inside d (shape d type).results in
    stays-enclosed w c (token.Block type) (end_of within body None) (spelled body) (spelled rest) (places within body None) (places d rest None) (λ x most le. le) (λ a b step. step) (dead w c within body) (dead w c d rest)
dead w c d (Loop type body rest) =
    let within = inside d (shape d type).params in
    stays-enclosed w c (token.Loop type) (end_of within body None) (spelled body) (spelled rest) (places within body None) (places d rest None) (λ x most le. le) (λ a b step. step) (dead w c within body) (dead w c d rest)
dead w c d (If type body Nothing rest) =
    let within = inside d (shape d type).results in
    stays-enclosed w c (token.If type) (end_of within body None) (spelled body) (spelled rest) (places within body None) (places d rest None) (λ x most le. le) (λ a b step. step) (dead w c within body) (dead w c d rest)
dead w c d (If type body (Else other) rest) = λ k more after old new most le go x.
    let within = inside d (shape d type).results in
    let last = token.End ∷ spelled rest more in
    let following = end_of within other None ∷ places d rest None after in
    let middle = token.Else ∷ spelled other last in
    let amid = end_of within body None ∷ places within other None following in
    onward w c k (token.If type) (spelled body middle) None (places within body None amid) old new most le
    (λ a i step y.
    let dark : OpensDead old a = step in
    let begins = opens-none old a dark.shape dark.opens in
    let inner : length a.words ≤ most = omega arith in
    dead w c within body i middle amid a new most inner
    (λ b j bs bn z.
    let open_still : shapes b.labels ≡ dark.shape ∷ shapes old.labels = bs ∙ dark.opens.shapes_are in
    let half : length b.words ≤ most = omega arith in
    onward w c j token.Else (spelled other last) (end_of within body None) (places within other None following) b new most half
    (λ e m turn u.
    let turns : Turns b e (λ n. []) = subst (λ (q : Place). Turns b e (λ n. over q (length b.words) n)) (end_dead within body) turn in
    let turned : length e.words ≡ length b.words + 0 = turns-size b e (λ n. []) dark.shape (shapes old.labels) open_still turns in
    let second : length e.words ≤ most = omega arith in
    dead w c within other m last following e new most second
    (λ f n fs fn v.
    let ends : length f.words ≤ most = omega arith in
    onward w c n token.End (spelled rest more) (end_of within other None) (places d rest None after) f new most ends
    (λ g o close s.
    let closes : Closes f g = close in
    let same = closed-behind f g dark.shape closes.shape (shapes old.labels) (fs ∙ turns.shapes_are ∙ open_still) closes.shapes_are in
    let size_same = closes.size in
    let out : length g.words ≡ length old.words = omega arith in
    let fits : length g.words ≤ most = omega arith in
    dead w c d rest o more after g new most fits (λ r l rs rn. go r l (rs ∙ same) (rn ∙ out)) s)
    v)
    u)
    z)
    y)
    x

-- ---- what is reachable

-- the same of tokens that add so many words under these labels
abbrev Adds : EmitContext → Context → List Shape → ℕ → (List Token → List Token) → (List Place → List Place) → Type 0
Adds w c ss size tokens placed =
    (k : ℕ) (more : List Token) (after : List Place) (old : FunctionBuilder) (new most : ℕ) → shapes old.labels ≡ ss → length old.words + size ≤ most
    → ((mid : FunctionBuilder) (j : ℕ) → shapes mid.labels ≡ ss → length mid.words ≡ length old.words + size → Partly w c j more after mid new → new ≤ most)
    → Partly w c k (tokens more) (placed after) old new → new ≤ most

-- a token that opens a block has its shape, and adds so many words
record Opened (old new : FunctionBuilder) (s : Shape) (size : ℕ) : Type 0 where
  shapes_are : shapes new.labels ≡ s ∷ shapes old.labels
  words : length new.words ≡ length old.words + size

adds-enclosed : (w : EmitContext) (c : Context) (ss : List Shape) (t : Token) (p q : Place) (sh : FunctionBuilder → Shape) (first one two : ℕ) (body rest : List Token → List Token) (inner behind : List Place → List Place)
    → ((d : FunctionBuilder) (most : ℕ) → length d.words ≤ most → Fits w c t p d most) → ((a b : FunctionBuilder) → Step w c t p a b → Opened a b (sh a) first)
    → ((d : FunctionBuilder) → Adds w c (sh d ∷ ss) one body inner) → Adds w c ss two rest behind → Adds w c ss (first + one + two) (λ more. t ∷ body (token.End ∷ rest more)) (λ after. p ∷ inner (q ∷ behind after))
adds-enclosed w c ss t p q sh first one two body rest inner behind wordless opens holds follows = λ k more after old new most e le go x.
    let before : length old.words ≤ most = omega arith in
    onward w c k t (body (token.End ∷ rest more)) p (inner (q ∷ behind after)) old new most (wordless old most before)
    (λ a i step y.
    let begins : Opened old a (sh old) first = opens old a step in
    let added = begins.words in
    let fits : length a.words + one ≤ most = omega arith in
    holds old i (token.End ∷ rest more) (q ∷ behind after) a new most (begins.shapes_are ∙ ap (λ (l : List Shape). sh old ∷ l) e) fits
    (λ b j bs bn z.
    let half : length b.words ≤ most = omega arith in
    onward w c j token.End (rest more) q (behind after) b new most half
    (λ f m close u.
    let closes : Closes b f = close in
    let same = closed-behind b f (sh old) closes.shape ss bs closes.shapes_are in
    let size_same = closes.size in
    let out : length f.words ≡ length old.words + (first + one) = omega arith in
    let left : length f.words + two ≤ most = omega arith in
    follows m more after f new most same left
    (λ g n gs gn. go g n gs (let all : length g.words ≡ length old.words + (first + one + two) = omega arith in all))
    u)
    z)
    y)
    x

live : (w : EmitContext) (c : Context) (ls : List Types) (t : Seq) (q : Place) (ss : List Shape) → Adds w c ss (size w (labelled c ls) (counted ss) q t) (spelled t) (places (labelled c ls) t q)
live w c ls t None ss = λ k more after old new most e le go x.
    let none : size w (labelled c ls) (counted ss) None t ≡ 0 = size_dead w (labelled c ls) (counted ss) t in
    let fits : length old.words ≤ most = omega arith in
    dead w c (labelled c ls) t k more after old new most fits
    (λ a i sa na. go a i (sa ∙ e) (let m : length a.words ≡ length old.words + size w (labelled c ls) (counted ss) None t = omega arith in m))
    x
live w c ls Nothing (Some h) ss = λ k more after old new most e le go x.
    let n : length old.words ≡ length old.words + 0 = omega arith in
    go old k e n x
live w c ls (Simple p rest) (Some h) ss = λ k more after old new most e le go x.
    let d = labelled c ls in
    let next = after_rule (rule_of d p) (Some h) in
    let here = length old.words in
    let own = length (words w (declarations c) (counted ss) h 0 p) in
    let behind = size w d (counted ss) next rest in
    let room : here + (own + behind) ≤ most = le in
    let counts : length (words w (declarations c) (counted (shapes old.labels)) h 0 p) ≡ own = plain-own w c h p ss old e in
    let before : here + length (words w (declarations c) (counted (shapes old.labels)) h 0 p) ≤ most = omega arith in
    onward w c k (token.Plain p) (spelled rest more) (Some h) (places d rest next after) old new most before
    (λ a i step y.
    let emits : Emits old a (λ ends. words w (declarations c) (named (shapes old.labels) ends) h (length old.words) p) = step in
    let n : length a.words ≡ here + own = plain-size w c h p ss old a e emits in
    let fits : length a.words + behind ≤ most = omega arith in
    live w c ls rest next ss i more after a new most (emits.shapes_are ∙ e) fits
    (λ b j bs bn. go b j bs (let all : length b.words ≡ here + (own + behind) = omega arith in all))
    y)
    x
live w c ls (Block type body rest) (Some h) ss = λ k more after old new most e le go x.
    let d = labelled c ls in
    let s = shape d type in
    let within = labelled c (s.results ∷ ls) in
    let sh = end_shape (h - length s.params) (length s.results) in
    let next = after_block s (Some h) in
    adds-enclosed w c ss (token.Block type) (Some h) (end_of within body (Some h)) (λ a. sh) 0 (size w within (counted (sh ∷ ss)) (Some h) body) (size w d (counted ss) next rest) (spelled body) (spelled rest) (places within body (Some h)) (places d rest next)
    (λ a most le. le)
    (λ a b step.
    let opens : Opens a b sh (λ e. []) = subst (λ (y : Signature). Opens a b (end_shape (h - length y.params) (length y.results)) (λ e. [])) (sym (shape_labelled c ls type)) step in
    record { shapes_are = opens.shapes_are; words = let n = opens-none a b sh opens in omega arith })
    (λ a. live w c (s.results ∷ ls) body (Some h) (sh ∷ ss)) (live w c ls rest next ss) k more after old new most e (omega (arith, le)) (λ mid j sm sn. go mid j sm (omega (arith, sn))) x
live w c ls (Loop type body rest) (Some h) ss = λ k more after old new most e le go x.
    let d = labelled c ls in
    let s = shape d type in
    let within = labelled c (s.params ∷ ls) in
    let sh : FunctionBuilder → Shape = λ a. start_shape (h - length s.params) (length s.params) (length a.words) in
    let next = after_block s (Some h) in
    adds-enclosed w c ss (token.Loop type) (Some h) (end_of within body (Some h)) sh 0 (size w within (counted (sh old ∷ ss)) (Some h) body) (size w d (counted ss) next rest) (spelled body) (spelled rest) (places within body (Some h)) (places d rest next)
    (λ a most le. le)
    (λ a b step.
    let opens : Opens a b (sh a) (λ e. []) = subst (λ (y : Signature). Opens a b (start_shape (h - length y.params) (length y.params) (length a.words)) (λ e. [])) (sym (shape_labelled c ls type)) step in
    record { shapes_are = opens.shapes_are; words = let n = opens-none a b (sh a) opens in omega arith })
    (λ a. live w c (s.params ∷ ls) body (Some h) (sh a ∷ ss)) (live w c ls rest next ss) k more after old new most e (omega (arith, le)) (λ mid j sm sn. go mid j sm (omega (arith, sn))) x
live w c ls (If type body Nothing rest) (Some h) ss = λ k more after old new most e le go x.
    let d = labelled c ls in
    let s = shape d type in
    let within = labelled c (s.results ∷ ls) in
    let sh = end_shape (h - 1 - length s.params) (length s.results) in
    let next = after_if s (Some h) in
    let below : Place = Some (h - 1) in
    let q : Place = Some (h - 1 + 0) in
    let from : q ≡ below = ap (λ (m : ℕ). Some m) (let m : h - 1 + 0 ≡ h - 1 = omega arith in m) in
    let first : FunctionBuilder → Ends → List Op = λ a e. test_words w h (length a.words) e.other in
    let rests = places d rest next after in
    let there : Partly w c k (token.If type ∷ spelled body (token.End ∷ spelled rest more)) (Some h ∷ places within body below (end_of within body below ∷ rests)) old new =
    subst (λ (r : Place). Partly w c k (token.If type ∷ spelled body (token.End ∷ spelled rest more)) (Some h ∷ places within body r (end_of within body r ∷ rests)) old new) from x in
    adds-enclosed w c ss (token.If type) (Some h) (end_of within body below) (λ a. sh) 6 (size w within (counted (sh ∷ ss)) below body) (size w d (counted ss) next rest) (spelled body) (spelled rest) (places within body below) (places d rest next)
    (λ a most le. le)
    (λ a b step.
    let opens : Opens a b sh (first a) = subst (λ (y : Signature). Opens a b (end_shape (h - 1 - length y.params) (length y.results)) (first a)) (sym (shape_labelled c ls type)) step in
    record { shapes_are = opens.shapes_are; words = opens-size a b sh (first a) opens (ends_there 0) })
    (λ a. live w c (s.results ∷ ls) body below (sh ∷ ss)) (live w c ls rest next ss) k more after old new most e (omega (arith, le)) (λ mid j sm sn. go mid j sm (omega (arith, sn))) there
live w c ls (If type body (Else other) rest) (Some h) ss = λ k more after old new most e le go x.
    let d = labelled c ls in
    let s = shape d type in
    let within = labelled c (s.results ∷ ls) in
    let sh = end_shape (h - 1 - length s.params) (length s.results) in
    let next = after_if s (Some h) in
    let here = length old.words in
    let below : Place = Some (h - 1) in
    let q : Place = Some (h - 1 + 0) in
    let from : q ≡ below = ap (λ (m : ℕ). Some m) (let m : h - 1 + 0 ≡ h - 1 = omega arith in m) in
    let one = size w within (counted (sh ∷ ss)) below body in
    let past = length (over (end_of within body below) 0 0) in
    let two = size w within (counted (sh ∷ ss)) below other in
    let behind = size w d (counted ss) next rest in
    let room : here + (6 + one + past + two + behind) ≤ most = le in
    let before : here ≤ most = omega arith in
    let last = token.End ∷ spelled rest more in
    let middle = token.Else ∷ spelled other last in
    let rests = places d rest next after in
    let following = end_of within other below ∷ rests in
    let amid = end_of within body below ∷ places within other below following in
    let first : Ends → List Op = λ e. test_words w h (length old.words) e.other in
    onward w c k (token.If type) (spelled body middle) (Some h) (places within body q (end_of within body q ∷ places within other q (end_of within other q ∷ rests))) old new most before
    (λ a i step y.
    let opens : Opens old a sh first = subst (λ (y : Signature). Opens old a (end_shape (h - 1 - length y.params) (length y.results)) first) (sym (shape_labelled c ls type)) step in
    let begins : length a.words ≡ here + 6 = opens-size old a sh first opens (ends_there 0) in
    let fits : length a.words + one ≤ most = omega arith in
    let goes : Partly w c i (spelled body middle) (places within body below amid) a new =
    subst (λ (r : Place). Partly w c i (spelled body middle) (places within body r (end_of within body r ∷ places within other r (end_of within other r ∷ rests))) a new) from y in
    live w c (s.results ∷ ls) body below (sh ∷ ss) i middle amid a new most (opens.shapes_are ∙ ap (λ (l : List Shape). sh ∷ l) e) fits
    (λ b j bs bn z.
    let half : length b.words ≤ most = omega arith in
    onward w c j token.Else (spelled other last) (end_of within body below) (places within other below following) b new most half
    (λ f m turn u.
    let turns : Turns b f (λ n. over (end_of within body below) (length b.words) n) = turn in
    let turned : length f.words ≡ length b.words + length (over (end_of within body below) (length b.words) 0) = turns-size b f (λ n. over (end_of within body below) (length b.words) n) sh ss bs turns in
    let same_past : length (over (end_of within body below) (length b.words) 0) ≡ past = over_size w (end_of within body below) (length b.words) 0 0 0 in
    let second : length f.words + two ≤ most = omega arith in
    live w c (s.results ∷ ls) other below (sh ∷ ss) m last following f new most (turns.shapes_are ∙ bs) second
    (λ g n gs gn v.
    let ends : length g.words ≤ most = omega arith in
    onward w c n token.End (spelled rest more) (end_of within other below) rests g new most ends
    (λ r o close t.
    let closes : Closes g r = close in
    let same = closed-behind g r sh closes.shape ss gs closes.shapes_are in
    let size_same = closes.size in
    let out : length r.words ≡ here + (6 + one + past + two) = omega arith in
    let left : length r.words + behind ≤ most = omega arith in
    live w c ls rest next ss o more after r new most same left
    (λ z l zs zn. go z l zs (let all : length z.words ≡ here + (6 + one + past + two + behind) = omega arith in all))
    t)
    v)
    u)
    z)
    goes)
    x

-- ---- a body

partly-fits : (w : EmitContext) (c : Context) (tokens : List Token) (qs : List Place) (tree : Seq) (front : List ℕ) (k new : ℕ) → Tree tokens tree → places_of c tree ≡ qs
    → Partly w c k tokens qs (begun (length c.results) front) new → new ≤ length front + length (body_code w c tree)
partly-fits w c tokens qs tree front k new spells placed x =
    let n = length c.results in
    let within = labelled c (c.results ∷ c.labels) in
    let old = begun n front in
    let end = end_of within tree (Some 0) in
    let sh = end_shape 0 n in
    let inner = size w within (counted (sh ∷ [])) (Some 0) tree in
    let all = length (body_code w c tree) in
    let y : Partly w c k tokens (places_of c tree) old new = subst (λ (ps : List Place). Partly w c k tokens ps old new) (sym placed) x in
    let z : Partly w c k (spelled tree (token.End ∷ [])) (places within tree (Some 0) (end ∷ [])) old new = subst (λ (ts : List Token). Partly w c k ts (places_of c tree) old new) spells y in
    let whole : inner ≡ all = size_is w within (label 0 n 0 ∷ []) (label 0 n (body_place w + body_size w c tree) ∷ []) (Some 0) (body_place w) tree (refl, tt) in
    let fits : length front + inner ≤ length front + all = omega arith in
    live w c (c.results ∷ c.labels) tree (Some 0) (sh ∷ []) k (token.End ∷ []) (end ∷ []) old new (length front + all) refl fits
    (λ a i sa na v.
    let count : length a.words ≡ length front + inner = na in
    let ends : length a.words ≤ length front + all = omega arith in
    onward w c i token.End [] end [] a new (length front + all) ends
    (λ b j close u.
    let closes : Closes a b = close in
    let size_same = closes.size in
    let last : new ≡ length b.words + 0 = partly-none w c j b new u in
    let le : new ≤ length front + all = omega arith in
    le)
    v)
    z

pub next_is_within : NextLaw
next_is_within w c tokens more t qs rest q tree front last ends spells placed count is x =
    let own = own_words w c t q last.labels in
    let at = partly-next w c tokens more t qs rest q (begun (length c.results) front) last count x in
    let le : length last.words + own ≤ length front + length (body_code w c tree) = partly-fits w c (tokens ++ t ∷ more) (qs ++ q ∷ rest) tree front (length tokens) (length last.words + own) spells placed at in
    let same : own ≡ count_of w c t q last ends = own-count w c t q last ends is in
    omega arith
