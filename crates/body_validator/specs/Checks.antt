-- What the check of a body keeps, and what it answers.
use Rattle.std.specs.Prelude.{◌≡◌, ℕ, ◌+◌, ◌-◌, ◌<◌, ◌≤◌, List, [], ◌∷◌, ◌++◌, length, replicate, slice_get, None, Some, Result, Ok, Err}
use Rattle.wasm_defs.specs.declared.token.Token.{Token}
use Rattle.wasm_defs.specs.declared.types.FuncType.{FuncType}
use Rattle.wasm_defs.specs.declared.types.ValType.{ValType}
use Rattle.wasm_defs.specs.declared.fault.Kind.TheVariants.{Limit}
use Rattle.body_validator.specs.declared.check.Shape.{Shape}
use Rattle.body_validator.specs.declared.check.Step.{Step}
use Rattle.body_validator.specs.Scopes.{with_locals}
use Rattle.body_validator.specs.declared.check.TokenStop.{TokenStop}
use Rattle.body_validator.specs.declared.check.TokenStop.TheVariants.{Refused, NoMemory}
use Rattle.wasm_defs.specs.Bodies.{Group}
use Rattle.wasm_defs.specs.Context.{body_context}
use Rattle.wasm_defs.specs.Limits.{max_locals}
use Rattle.wasm_defs.specs.Typing.{Context, IsBody}
use Rattle.wasm_defs.specs.Trees.{Seq, Tree}
use Rattle.wasm_defs.specs.Places.{places_of}
use Rattle.wasm_defs.specs.Viable.{IsViable, IsFaulty}
use Rattle.body_validator.specs.Checking.{Frames, guarded, step, fault_kind, height, is_live, Checker, start_checker, step_checker, run_checker}

-- the context of the body, and the checker after the tokens that were taken
pub record Checked : Type 0 where
  pub context : Context
  -- how many of the locals are parameters
  pub params : ℕ
  pub checker : Checker

-- before the first token of the body of a function of that type in a module, after these groups of locals
abbrev pub before_code : Context → FuncType → List Group → Checked
before_code c f groups = record {
  context = body_context c f groups;
  params = length f.params;
  checker = start_checker (body_context c f groups);
}

abbrev pub IsStep : Step → Frames → Frames → Type 0
IsStep s before after = (s.live ≡ is_live before) × (s.height_before ≡ height before) × (s.height_after ≡ height after)

-- the answer to a token is the checker's step
abbrev pub Answered : ℕ → Token → Result Step TokenStop → Checked → Checked → Type 0
Answered offset t (Ok s) old new =
    (step_checker old.context t old.checker ≡ Some new.checker) × (new.context ≡ old.context) × (new.params ≡ old.params) × IsStep s old.checker.frames new.checker.frames
Answered offset t (Err (Refused r)) old new =
    (step old.context t old.checker.frames ≡ None) × (r ≡ record { offset = offset; kind = fault_kind t old.checker.frames }) × (new ≡ old)
Answered offset t (Err NoMemory) old new = new ≡ old

-- these tokens lead there from the beginning of the body
abbrev pub IsReached : List Token → Checked → Type 0
IsReached tokens c = run_checker c.context tokens (start_checker c.context) ≡ Some c.checker

-- after the tokens, one more is taken exactly where all of them together are viable
abbrev pub IsAnswered : List Token → Token → Result Step TokenStop → Checked → Checked → Type 0
IsAnswered tokens t (Ok s) old new = IsReached (tokens ++ t ∷ []) new × IsViable old.context (tokens ++ t ∷ [])
IsAnswered tokens t (Err (Refused r)) old new = IsFaulty old.context (tokens ++ t ∷ []) r.kind
IsAnswered tokens t (Err NoMemory) old new = Unit {0}

-- the step has the point, before the token, of every valid body that the tokens begin
abbrev pub IsPlaced : Context → List Token → Token → Result Step TokenStop → Type 0
IsPlaced c tokens t (Ok s) =
    (more : List Token) (tree : Seq) → Tree (tokens ++ t ∷ more) tree → IsBody c tree → slice_get (places_of c tree) (length tokens) ≡ Some (guarded s.live s.height_before)
IsPlaced c tokens t (Err stop) = Unit {0}

abbrev pub declared_of : Checked → ℕ
declared_of c = length c.context.locals - c.params

abbrev pub grouped : Checked → ℕ → ValType → Checked
grouped c count t = record c { context = with_locals c.context (c.context.locals ++ replicate count t) }

-- the answer to a group of locals
abbrev pub IsGrouped : ℕ → ℕ → ValType → Result (Unit {0}) TokenStop → Checked → Checked → Type 0
IsGrouped offset count t (Ok done) old new = (declared_of old + count ≤ max_locals) × (new ≡ grouped old count t)
IsGrouped offset count t (Err (Refused r)) old new =
    (max_locals < declared_of old + count) × (r ≡ record { offset = offset; kind = Limit }) × (new ≡ old)
IsGrouped offset count t (Err NoMemory) old new = new ≡ old

abbrev pub IsCounted : Shape → Checked → Type 0
IsCounted s c = (s.params ≡ c.params) × (s.locals ≡ declared_of c)
