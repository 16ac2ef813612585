-- Frames as a flat stack of operands keeps them.
use Rattle.std.specs.Prelude.{◌≡◌, ℕ, ◌-◌, ◌≤◌, Bool, true, false, List, [], ◌∷◌, length, take, drop, reverse}
use Rattle.body_validator.specs.declared.stack.Frame.{Frame as Flat}
use Rattle.wasm_defs.specs.Typing.{Types, Signature}
use Rattle.body_validator.specs.Checking.{Operand, Frame, Frames}

-- the operands from the base on, the topmost first
abbrev pub own_of : List Operand → ℕ → List Operand
own_of items base = reverse (drop base items)

abbrev pub signature : Types → Types → Signature
signature params results = record { params = reverse params; results = reverse results }

abbrev pub frame_of : Flat → List Operand → Frame
frame_of f items = record {
  opening = f.opening;
  type = signature f.params.now f.results.now;
  operands = record { own = own_of items f.base; unknown = f.unknown; live = f.live };
}

-- where a frame is reachable, all its operands are known
abbrev pub IsKnown : Bool → Bool → Type 0
IsKnown true unknown = unknown ≡ false
IsKnown false unknown = Unit {0}

-- the frames, the innermost first: what is below a frame's base is the next one's
abbrev pub frames_of : List Flat → List Operand → Frames
frames_of [] items = []
frames_of (f ∷ fs) items = frame_of f items ∷ frames_of fs (take f.base items)

-- each frame's base is within the operands, and no operand below all of them
abbrev pub IsLaid : List Flat → List Operand → Type 0
IsLaid [] items = items ≡ []
IsLaid (f ∷ fs) items = (f.base ≤ length items) × IsLaid fs (take f.base items)

-- f is the last of these
abbrev pub HasLast : List Flat → Flat → Type 0
HasLast fs f = reverse fs ≡ f ∷ reverse (take (length fs - 1) fs)

-- what begins inside these is reachable
abbrev pub is_live_in : List Flat → Bool
is_live_in [] = true
is_live_in (f ∷ fs) = f.live

-- the point inside the first of these is reachable
abbrev pub is_live_at : List Flat → Bool
is_live_at [] = false
is_live_at (f ∷ fs) = f.live
