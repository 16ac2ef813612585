-- How tokens, each at its point, lead from one draft of a function's instruction words to another.
use Rattle.std.specs.Prelude.{◌≡◌, ◌≤◌, ℕ, ◌+◌, ◌-◌, Bool, true, false, List, [], ◌∷◌, ◌++◌, length, map, None, Some}
use Rattle.rv_isa.specs.declared.compiled.Relocation.{Relocation}
use Rattle.rv_isa.specs.declared.compiled.TrapSite.{TrapSite}
use Rattle.rv_isa.specs.Words.{word_of}
use Rattle.wasm_defs.specs.declared.token.Token.{Token}
use Rattle.wasm_defs.specs.declared.token.Token.TheVariants as token
use Rattle.wasm_defs.specs.Configurations.{Origin}
use Rattle.wasm_defs.specs.Places.{Place, shape, places_of}
use Rattle.wasm_defs.specs.Trees.{Seq, Tree}
use Rattle.wasm_defs.specs.Typing.{Context, Signature}
use Rattle.frame_layout.specs.Templates.{EmitContext, declarations, words}
use Rattle.frame_layout.specs.Traps.{trap_places, site_at}
use Rattle.frame_layout.specs.Functions.{over, test_words, call_of, Trap, traps_of, site_of, body_place, body_code, calls_of, body_traps}
use Rattle.control_emit.specs.Pending.{Pending, Shape, shapes, Ends, named}
use Rattle.control_emit.specs.Emits.{FunctionBuilder, Emits, Opens, Turns, Closes}

abbrev pub end_shape : (base takes : ℕ) → Shape
end_shape base takes = record { base = base; takes = takes; start = None }

abbrev pub start_shape : (base takes start : ℕ) → Shape
start_shape base takes start = record { base = base; takes = takes; start = Some start }

-- a block that isn't reachable has a label too, which nothing names
pub record OpensDead (old new : FunctionBuilder) : Type 0 where
  pub shape : Shape
  pub opens : Opens old new shape (λ e. [])

abbrev pub Blocks : (h : ℕ) → Signature → FunctionBuilder → FunctionBuilder → Type 0
Blocks h s old new = Opens old new (end_shape (h - length s.params) (length s.results)) (λ e. [])

abbrev pub Loops : (h : ℕ) → Signature → FunctionBuilder → FunctionBuilder → Type 0
Loops h s old new = Opens old new (start_shape (h - length s.params) (length s.params) (length old.words)) (λ e. [])

abbrev pub Tests : EmitContext → (h : ℕ) → Signature → FunctionBuilder → FunctionBuilder → Type 0
Tests w h s old new = Opens old new (end_shape (h - 1 - length s.params) (length s.results)) (λ e. test_words w h (length old.words) e.other)

abbrev pub Step : EmitContext → Context → Token → Place → FunctionBuilder → FunctionBuilder → Type 0
Step w c (token.Plain p) None old new = new ≡ old
Step w c (token.Plain p) (Some h) old new = Emits old new (λ ends. words w (declarations c) (named (shapes old.labels) ends) h (length old.words) p)
Step w c (token.Block t) None old new = OpensDead old new
Step w c (token.Block t) (Some h) old new = Blocks h (shape c t) old new
Step w c (token.Loop t) None old new = OpensDead old new
Step w c (token.Loop t) (Some h) old new = Loops h (shape c t) old new
Step w c (token.If t) None old new = OpensDead old new
Step w c (token.If t) (Some h) old new = Tests w h (shape c t) old new
Step w c token.Else place old new = Turns old new (λ end. over place (length old.words) end)
Step w c token.End place old new = Closes old new

abbrev pub Walk : EmitContext → Context → List Token → List Place → FunctionBuilder → FunctionBuilder → Type 0
Walk w c [] places old new = new ≡ old
Walk w c (t ∷ ts) [] old new = ⊥
Walk w c (t ∷ ts) (q ∷ qs) old new = (mid : FunctionBuilder) × Step w c t q old mid × Walk w c ts qs mid new

-- the calls among them: a token has its own where its point is reachable, after so many words
abbrev pub token_calls : EmitContext → Token → Place → (here : ℕ) → List Relocation
token_calls w (token.Plain p) None here = []
token_calls w (token.Plain p) (Some h) here = call_of w here p
token_calls w _ place here = []

abbrev pub walk_calls : (w : EmitContext) (c : Context) (tokens : List Token) (places : List Place) (old new : FunctionBuilder) → Walk w c tokens places old new → List Relocation
walk_calls w c [] places old new walk = []
walk_calls w c (t ∷ ts) [] old new walk = []
walk_calls w c (t ∷ ts) (q ∷ qs) old new walk = token_calls w t q (length old.words) ++ walk_calls w c ts qs walk.0 new walk.2

-- the tokens lead there, and these are their calls
abbrev pub Calling : EmitContext → Context → List Token → List Place → FunctionBuilder → FunctionBuilder → List Relocation → Type 0
Calling w c tokens places old new calls = (walk : Walk w c tokens places old new) × (walk_calls w c tokens places old new walk ≡ calls)

-- the traps among them: a token has its own where its point is reachable, and with it so many tokens are left
abbrev pub token_traps : (left : ℕ) → Token → Place → (here : ℕ) → List Trap
token_traps left (token.Plain p) None here = []
token_traps left (token.Plain p) (Some h) here = traps_of here left p
token_traps left _ place here = []

abbrev pub walk_traps : (w : EmitContext) (c : Context) (tokens : List Token) (places : List Place) (old new : FunctionBuilder) → Walk w c tokens places old new → List Trap
walk_traps w c [] places old new walk = []
walk_traps w c (t ∷ ts) [] old new walk = []
walk_traps w c (t ∷ ts) (q ∷ qs) old new walk = token_traps (length (t ∷ ts)) t q (length old.words) ++ walk_traps w c ts qs walk.0 new walk.2

-- and as they are noted, where each token has its offset
abbrev pub token_sites : Token → Place → (here offset : ℕ) → List TrapSite
token_sites (token.Plain p) None here offset = []
token_sites (token.Plain p) (Some h) here offset = map (site_at here offset) (trap_places p)
token_sites (token.Block t) place here offset = []
token_sites (token.Loop t) place here offset = []
token_sites (token.If t) place here offset = []
token_sites token.Else place here offset = []
token_sites token.End place here offset = []

abbrev pub walk_sites : (w : EmitContext) (c : Context) (tokens : List Token) (offsets : List ℕ) (places : List Place) (old new : FunctionBuilder) → Walk w c tokens places old new → List TrapSite
walk_sites w c [] offsets places old new walk = []
walk_sites w c (t ∷ ts) [] places old new walk = []
walk_sites w c (t ∷ ts) (o ∷ os) [] old new walk = []
walk_sites w c (t ∷ ts) (o ∷ os) (q ∷ qs) old new walk = token_sites t q (length old.words) o ++ walk_sites w c ts os qs walk.0 new walk.2

-- the tokens lead there, and these are their traps
abbrev pub Siting : EmitContext → Context → List Token → (offsets : List ℕ) → List Place → FunctionBuilder → FunctionBuilder → List TrapSite → Type 0
Siting w c tokens offsets places old new sites = (walk : Walk w c tokens places old new) × (walk_sites w c tokens offsets places old new walk ≡ sites)

-- a body's own label
abbrev pub body_label : (results : ℕ) → Pending
body_label results = record { base = 0; takes = results; start = None; test = None; jumps = [] }

abbrev pub begun : (results : ℕ) → List ℕ → FunctionBuilder
begun results front = record { labels = body_label results ∷ []; words = front }

abbrev pub IsLive : Bool → Place → Type 0
IsLive true None = ⊥
IsLive true (Some h) = Unit {0}
IsLive false None = Unit {0}
IsLive false (Some h) = ⊥

-- a body's tokens, each at its point, lead to its words
abbrev pub WordsLaw : Type 0
WordsLaw =
    (w : EmitContext) (c : Context) (tokens : List Token) (tree : Seq) (front : List ℕ) (last : FunctionBuilder) → Tree tokens tree → length front ≡ body_place w
    → Walk w c tokens (places_of c tree) (begun (length c.results) front) last → last.words ≡ front ++ map word_of (body_code w c tree)

-- and their calls are the body's
abbrev pub CallsLaw : Type 0
CallsLaw =
    (w : EmitContext) (c : Context) (tokens : List Token) (tree : Seq) (front : List ℕ) (last : FunctionBuilder) (calls : List Relocation) → Tree tokens tree → length front ≡ body_place w
    → Calling w c tokens (places_of c tree) (begun (length c.results) front) last calls → calls ≡ calls_of w c tree

-- and their traps
abbrev pub SitesLaw : Type 0
SitesLaw =
    (w : EmitContext) (o : Origin) (c : Context) (tokens : List Token) (tree : Seq) (front : List ℕ) (last : FunctionBuilder) (sites : List TrapSite) → Tree tokens tree → length o.offsets ≡ length tokens
    → length front ≡ body_place w → Siting w c tokens o.offsets (places_of c tree) (begun (length c.results) front) last sites → sites ≡ map (site_of o) (body_traps w c tree)

-- how many words a token has by itself, wherever the open blocks end; those of an `if` and an `else` aren't counted
abbrev pub count_of : EmitContext → Context → Token → Place → FunctionBuilder → List Ends → ℕ
count_of w c (token.Plain p) None d ends = 0
count_of w c (token.Plain p) (Some h) d ends = length (words w (declarations c) (named (shapes d.labels) ends) h (length d.words) p)
count_of w c (token.Block t) place d ends = 0
count_of w c (token.Loop t) place d ends = 0
count_of w c (token.If t) place d ends = 0
count_of w c token.Else place d ends = 0
count_of w c token.End place d ends = 0

-- the words of a prefix of a body's tokens, with those of the token after it, are no more than the whole body's
abbrev pub NextLaw : Type 0
NextLaw =
    (w : EmitContext) (c : Context) (tokens more : List Token) (t : Token) (places rest : List Place) (place : Place) (tree : Seq) (front : List ℕ) (last : FunctionBuilder) (ends : List Ends) → Tree (tokens ++ t ∷ more) tree
    → places_of c tree ≡ places ++ place ∷ rest → length places ≡ length tokens → length ends ≡ length last.labels → Walk w c tokens places (begun (length c.results) front) last
    → length last.words + count_of w c t place last ends ≤ length front + length (body_code w c tree)
