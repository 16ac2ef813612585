-- The checker as a definition: it goes over the tokens with a stack of open frames (after Core 7.3).
use Rattle.std.specs.Prelude.{ℕ, zero, suc, ◌+◌, Bool, true, false, ◌&&◌, List, [], ◌∷◌, ◌++◌, length, Option, None, Some}
use Rattle.wasm_defs.specs.declared.types.ValType.{ValType}
use Rattle.wasm_defs.specs.declared.types.ValType.TheVariants.{I32}
use Rattle.wasm_defs.specs.declared.token.Token.{Token}
use Rattle.wasm_defs.specs.declared.token.Token.TheVariants as token
use Rattle.body_validator.specs.declared.stack.Opening.{Opening}
use Rattle.body_validator.specs.declared.stack.Opening.TheVariants.{Block as Blocks, Loop as Loops, If as Ifs, Else as Elses}
use Rattle.wasm_defs.specs.declared.fault.Kind.{Kind}
use Rattle.wasm_defs.specs.declared.fault.Kind.TheVariants.{Malformed, Invalid}
use Rattle.wasm_defs.specs.Typing.{Types, Signature, Context, inside, same_type, same_types, Rule, Untyped, Fixed, Stops, Discards, Selects, rule_of, block_type}
use Rattle.wasm_defs.specs.Places.{Place, higher}

-- the operand's type, where it is known
abbrev pub Operand : Type 0
Operand = Option ValType

-- the operands of one frame, the topmost first
pub record Operands : Type 0 where
  pub own : List Operand
  -- any operands may be below these: what comes after `unreachable` and the like
  pub unknown : Bool
  -- the point here is reachable
  pub live : Bool

pub record Frame : Type 0 where
  pub opening : Opening
  pub type : Signature
  pub operands : Operands

-- the open frames, the innermost first; none once the body has ended
abbrev pub Frames : Type 0
Frames = List Frame

infixl 10 ◌>>=◌
abbrev pub ◌>>=◌ : {A B : Type 0} → Option A → (A → Option B) → Option B
None >>= f = None
Some x >>= f = f x

abbrev pub guarded : Bool → {A : Type 0} → A → Option A
guarded true x = Some x
guarded false x = None

abbrev pub known : Types → List Operand
known [] = []
known (t ∷ ts) = Some t ∷ known ts

abbrev pub is_of : Operand → ValType → Bool
is_of None t = true
is_of (Some u) t = same_type u t

-- takes an operand of the type
abbrev pub take_one : Bool → ValType → List Operand → Option (List Operand)
take_one unknown t [] = guarded unknown []
take_one unknown t (o ∷ own) = guarded (is_of o t) own

-- takes operands of the types
abbrev pub take_all : Bool → Types → List Operand → Option (List Operand)
take_all unknown [] own = Some own
take_all unknown (t ∷ ts) own = take_one unknown t own >>= take_all unknown ts

-- an operand of any type, and what is left
pub record Taken : Type 0 where
  pub operand : Operand
  pub left : List Operand

abbrev pub take_any : Bool → List Operand → Option Taken
take_any unknown [] = guarded unknown (record { operand = None; left = [] })
take_any unknown (o ∷ own) = Some (record { operand = o; left = own })

-- the common type of two operands
abbrev pub joined : Operand → Operand → Option Operand
joined None o = Some o
joined (Some t) None = Some (Some t)
joined (Some t) (Some u) = guarded (same_type t u) (Some t)

abbrev pub put : Operands → List Operand → Operands
put operands own = record operands { own = own }

-- what the operands are after a plain instruction of that rule
abbrev pub apply : Rule → Operands → Option Operands
apply Untyped o = None
apply (Fixed params results) o = take_all o.unknown params o.own >>= λ own. Some (put o (known results ++ own))
apply (Stops params) o =
    take_all o.unknown params o.own >>= λ own. Some (record { own = []; unknown = true; live = false })
apply Discards o = take_any o.unknown o.own >>= λ x. Some (put o x.left)
apply Selects o =
    take_one o.unknown I32 o.own >>= λ own. take_any o.unknown own >>= λ x. take_any o.unknown x.left
    >>= λ y. joined x.operand y.operand >>= λ t. Some (put o (t ∷ y.left))

-- the operands at the beginning of a block
abbrev pub fresh : Signature → Bool → Operands
fresh type live = record { own = known type.params; unknown = false; live = live }

abbrev pub label_of : Opening → Signature → Types
label_of Blocks type = type.results
label_of Loops type = type.params
label_of Ifs type = type.results
label_of Elses type = type.results

-- the context in the innermost frame
abbrev pub at : Context → Frames → Context
at c [] = c
at c (f ∷ fs) = inside (at c fs) (label_of f.opening f.type)

-- the operands are just the results
abbrev pub none_left : Option (List Operand) → Bool
none_left None = false
none_left (Some []) = true
none_left (Some (o ∷ own)) = false

abbrev pub closes : Frame → Bool
closes f = none_left (take_all f.operands.unknown f.type.results f.operands.own)

-- the frame may end here: an `if` without an `else` gives back what it took
abbrev pub may_end : Opening → Signature → Bool
may_end Blocks type = true
may_end Loops type = true
may_end Ifs type = same_types type.params type.results
may_end Elses type = true

-- the frame around a block, once it has the block's results
abbrev pub receive : Types → Frames → Frames
receive results [] = []
receive results (f ∷ fs) = record f { operands = put f.operands (known results ++ f.operands.own) } ∷ fs

abbrev pub starts_live : Frames → Bool
starts_live [] = true
starts_live (f ∷ fs) = f.operands.live

abbrev pub takes_else : Opening → Bool
takes_else Blocks = false
takes_else Loops = false
takes_else Ifs = true
takes_else Elses = false

-- a plain instruction of that rule
abbrev pub applied : Rule → Frames → Option Frames
applied r [] = None
applied r (f ∷ fs) = apply r f.operands >>= λ o. Some (record f { operands = o } ∷ fs)

-- a block begins, and takes its parameters from the operands of the frame around it
abbrev pub enter : Opening → Signature → Types → Frames → Option Frames
enter opening type params [] = None
enter opening type params (f ∷ fs) =
    take_all f.operands.unknown params f.operands.own >>= λ own.
    Some (record { opening = opening; type = type; operands = fresh type f.operands.live } ∷ record f { operands = put f.operands own } ∷ fs)

-- an `else`
abbrev pub turned : Frames → Option Frames
turned [] = None
turned (f ∷ fs) =
    guarded (takes_else f.opening && closes f) (record { opening = Elses; type = f.type; operands = fresh f.type (starts_live fs) } ∷ fs)

-- an `end`
abbrev pub ended : Frames → Option Frames
ended [] = None
ended (f ∷ fs) = guarded (closes f && may_end f.opening f.type) (receive f.type.results fs)

-- the frames after one more token
abbrev pub step : Context → Token → Frames → Option Frames
step c t [] = None
step c (token.Plain p) (f ∷ fs) = applied (rule_of (at c (f ∷ fs)) p) (f ∷ fs)
step c (token.Block type) (f ∷ fs) = block_type (at c (f ∷ fs)) type >>= λ s. enter Blocks s s.params (f ∷ fs)
step c (token.Loop type) (f ∷ fs) = block_type (at c (f ∷ fs)) type >>= λ s. enter Loops s s.params (f ∷ fs)
step c (token.If type) (f ∷ fs) = block_type (at c (f ∷ fs)) type >>= λ s. enter Ifs s (I32 ∷ s.params) (f ∷ fs)
step c token.Else (f ∷ fs) = turned (f ∷ fs)
step c token.End (f ∷ fs) = ended (f ∷ fs)

-- the frames after some tokens
abbrev pub run : Context → List Token → Frames → Option Frames
run c [] fs = Some fs
run c (t ∷ ts) fs = step c t fs >>= run c ts

-- at the beginning of a body of these results
abbrev pub body_frames : Types → Frames
body_frames results =
    let type : Signature = record { params = []; results = results } in
    record { opening = Blocks; type = type; operands = fresh type true } ∷ []

abbrev pub start : Context → Frames
start c = body_frames c.results

-- ---- heights

abbrev pub height : Frames → ℕ
height [] = 0
height (f ∷ fs) = length f.operands.own + height fs

abbrev pub place_of : Frames → Place
place_of [] = None
place_of (f ∷ fs) = guarded f.operands.live (height (f ∷ fs))

-- the checker with the greatest height that it has met where the point was reachable
pub record Checker : Type 0 where
  pub frames : Frames
  pub greatest : ℕ

abbrev pub start_checker : Context → Checker
start_checker c = record { frames = start c; greatest = 0 }

abbrev pub measured : ℕ → Frames → Checker
measured most fs = record { frames = fs; greatest = higher (place_of fs) most }

abbrev pub step_checker : Context → Token → Checker → Option Checker
step_checker c t s = step c t s.frames >>= λ fs. Some (measured s.greatest fs)

abbrev pub run_checker : Context → List Token → Checker → Option Checker
run_checker c [] s = Some s
run_checker c (t ∷ ts) s = step_checker c t s >>= run_checker c ts

-- ---- nesting alone, and the kind of an error

-- the openings of the frames that are open after one more token
abbrev pub nest : Token → List Opening → Option (List Opening)
nest t [] = None
nest (token.Plain p) (o ∷ os) = Some (o ∷ os)
nest (token.Block type) (o ∷ os) = Some (Blocks ∷ o ∷ os)
nest (token.Loop type) (o ∷ os) = Some (Loops ∷ o ∷ os)
nest (token.If type) (o ∷ os) = Some (Ifs ∷ o ∷ os)
nest token.Else (o ∷ os) = guarded (takes_else o) (Elses ∷ os)
nest token.End (o ∷ os) = Some os

abbrev pub nests : List Token → List Opening → Option (List Opening)
nests [] os = Some os
nests (t ∷ ts) os = nest t os >>= nests ts

abbrev pub openings : Frames → List Opening
openings [] = []
openings (f ∷ fs) = f.opening ∷ openings fs

abbrev pub kind_of : Option (List Opening) → Kind
kind_of None = Malformed
kind_of (Some os) = Invalid

-- the kind of the error of a token that the frames don't take
abbrev pub fault_kind : Token → Frames → Kind
fault_kind t fs = kind_of (nest t (openings fs))

-- ---- what the frames say

abbrev pub is_open : Frames → Bool
is_open [] = false
is_open (f ∷ fs) = true

abbrev pub is_live : Frames → Bool
is_live [] = false
is_live (f ∷ fs) = f.operands.live

abbrev pub may_turn : Frames → Bool
may_turn [] = false
may_turn (f ∷ fs) = takes_else f.opening

abbrev pub labels : Frames → List Types
labels [] = []
labels (f ∷ fs) = label_of f.opening f.type ∷ labels fs

-- the operand so far below the topmost one
abbrev pub any_at : Bool → List Operand → ℕ → Option Operand
any_at unknown [] depth = guarded unknown None
any_at unknown (o ∷ own) zero = Some o
any_at unknown (o ∷ own) (suc depth) = any_at unknown own depth

-- what `select` leaves
abbrev pub selected_of : Bool → List Operand → Option Operand
selected_of unknown own =
    any_at unknown own 0 >>= λ condition. guarded (is_of condition I32) condition >>= λ _. any_at unknown own 1
    >>= λ left. any_at unknown own 2 >>= λ right. joined left right
