-- Operands that are taken from a flat stack, and others that are put in their place.
use Rattle.std.specs.Prelude.{◌≡◌, ℕ, Bool, true, false, List, [], ◌∷◌, ◌++◌, length, drop, reverse, Option, None, Some, Result, Ok, Err}
use Rattle.wasm_defs.specs.declared.types.ValType.{ValType}
use Rattle.wasm_defs.specs.declared.types.ValType.TheVariants.{I32}
use Rattle.body_validator.specs.declared.operands.Few.{Few}
use Rattle.body_validator.specs.declared.operands.Few.TheVariants.{Zero, One, Two}
use Rattle.body_validator.specs.declared.operands.Stop.{Stop}
use Rattle.body_validator.specs.declared.operands.Stop.TheVariants.{Refused, NoMemory}
use Rattle.body_validator.specs.declared.operands.Taken.{Taken}
use Rattle.wasm_defs.specs.Typing.{Types}
use Rattle.body_validator.specs.Checking.{Operand, Frames, ◌>>=◌, known, take_all, selected_of}
use Rattle.body_validator.specs.Stacks.{own_of}

-- the types that are taken, the topmost first: those of a rule's parameters, below a condition where there is one
abbrev pub with_condition : Bool → Types → Types
with_condition false types = types
with_condition true types = I32 ∷ types

-- the types of up to two operands, the topmost first
abbrev pub few_types : Few → Types
few_types Zero = []
few_types (One t) = t ∷ []
few_types (Two s t) = t ∷ s ∷ []

-- the type of what is put in their place, if anything is
abbrev pub given_types : Option ValType → Types
given_types None = []
given_types (Some t) = t ∷ []

-- the types that a row of operands takes, which names them in the order in which they were put
abbrev pub taken_types : Taken → Types
taken_types taken = with_condition taken.condition (reverse taken.types.now)

-- what the operands above the base come to
abbrev pub exchanged : Bool → Types → Types → List Operand → Option (List Operand)
exchanged unknown params results own = take_all unknown params own >>= λ left. Some (known results ++ left)

abbrev pub Exchanges : Bool → ℕ → Types → Types → Result (Unit {0}) Stop → List Operand → List Operand → Type 0
Exchanges unknown base params results (Ok done) old new = exchanged unknown params results (own_of old base) ≡ Some (own_of new base)
Exchanges unknown base params results (Err Refused) old new = (take_all unknown params (own_of old base) ≡ None) × (new ≡ old)
Exchanges unknown base params results (Err NoMemory) old new = new ≡ old

-- a step of the frames that was taken, or why not
abbrev pub Steps : Option Frames → Result (Unit {0}) Stop → Frames → Frames → Type 0
Steps answer (Ok done) old new = answer ≡ Some new
Steps answer (Err Refused) old new = (answer ≡ None) × (new ≡ old)
Steps answer (Err NoMemory) old new = new ≡ old

-- a step of the frames that was taken, or the frames are as before
abbrev pub Tries : Option Frames → Result (Unit {0}) Stop → Frames → Frames → Type 0
Tries answer (Ok done) old new = answer ≡ Some new
Tries answer (Err stop) old new = new ≡ old

-- the topmost operand above the base is taken, or there is none
abbrev pub TakesOne : Bool → ℕ → Result (Unit {0}) Stop → List Operand → List Operand → Type 0
TakesOne unknown base (Ok done) old new = (own_of new base ≡ drop 1 (own_of old base)) × (length old ≡ base → unknown ≡ true)
TakesOne unknown base (Err Refused) old new = (length old ≡ base) × (unknown ≡ false) × (new ≡ old)
TakesOne unknown base (Err NoMemory) old new = new ≡ old

-- a condition and two operands above the base are taken, and one is left
abbrev pub TakesThree : Bool → ℕ → Result (Unit {0}) Stop → List Operand → List Operand → Type 0
TakesThree unknown base (Ok done) old new =
    (t : Operand) × (selected_of unknown (own_of old base) ≡ Some t) × (own_of new base ≡ t ∷ drop 3 (own_of old base))
TakesThree unknown base (Err Refused) old new = (selected_of unknown (own_of old base) ≡ None) × (new ≡ old)
TakesThree unknown base (Err NoMemory) old new = new ≡ old
