-- What the checker's answers say of bodies.
use Rattle.std.specs.Prelude.{◌≡◌, ℕ, ◌↔◌, List, [], ◌∷◌, ◌++◌, length, slice_get, Option, None, Some}
use Rattle.wasm_defs.specs.declared.token.Token.{Token}
use Rattle.wasm_defs.specs.Trees.{Seq, Tree}
use Rattle.wasm_defs.specs.Typing.{Context, IsBody}
use Rattle.wasm_defs.specs.Places.{places_of, greatest}
use Rattle.wasm_defs.specs.Viable.{IsViable, IsFaulty}
use Rattle.body_validator.specs.Checking.{Frames, step, run, start, fault_kind, place_of, start_checker, run_checker}

-- a body's tokens so far lead to these frames
abbrev pub Reaches : Context → List Token → Frames → Type 0
Reaches c tokens fs = run c tokens (start c) ≡ Some fs

-- what the checker's answer to one more token says
abbrev pub Answers : Context → List Token → Token → Frames → Option Frames → Type 0
Answers c tokens t fs None = IsFaulty c (tokens ++ t ∷ []) (fault_kind t fs)
Answers c tokens t fs (Some after) = Reaches c (tokens ++ t ∷ []) after × IsViable c (tokens ++ t ∷ [])

abbrev pub CheckerIsExact : Type 0
CheckerIsExact =
    (c : Context) (tokens : List Token) (t : Token) (fs : Frames) → Reaches c tokens fs → Answers c tokens t fs (step c t fs)

-- the tokens that lead to some frames, none of them open where the body has ended, are those that others complete to a body
abbrev pub FrontsAreViable : Type 0
FrontsAreViable = (c : Context) (tokens : List Token) → ((fs : Frames) × Reaches c tokens fs) ↔ IsViable c tokens

-- a body is accepted to its end exactly where it is valid
abbrev pub BodiesAreAccepted : Type 0
BodiesAreAccepted =
    (c : Context) (tokens : List Token) → Reaches c tokens [] ↔ ((tree : Seq) × Tree tokens tree × IsBody c tree)

-- tokens encode one body
abbrev pub TreesAreOne : Type 0
TreesAreOne = (tokens : List Token) (s t : Seq) → Tree tokens s → Tree tokens t → s ≡ t

-- the point after the tokens is reachable where the tree says so, and at its height
abbrev pub PlacesAreKept : Type 0
PlacesAreKept =
    (c : Context) (tokens : List Token) (t : Token) (more : List Token) (tree : Seq) (fs : Frames) → Reaches c tokens fs
    → Tree (tokens ++ t ∷ more) tree → IsBody c tree → slice_get (places_of c tree) (length tokens) ≡ Some (place_of fs)

-- at the body's end the checker has its greatest reachable height
abbrev pub HeightsAreMeasured : Type 0
HeightsAreMeasured =
    (c : Context) (tokens : List Token) (tree : Seq) (most : ℕ) → run_checker c tokens (start_checker c) ≡ Some (record { frames = []; greatest = most })
    → Tree tokens tree → IsBody c tree → most ≡ greatest (places_of c tree)
