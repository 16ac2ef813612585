-- One token's step, from the steps of the frames.
use Rattle.std.proofs.Common.{◌≡◌, true, false, List, [], ◌∷◌, Option, None, Some, refl, sym, ap, ◌∙◌}
use Rattle.wasm_defs.specs.declared.types.ValType.TheVariants.{I32}
use Rattle.wasm_defs.specs.declared.token.BlockType.{BlockType}
use Rattle.wasm_defs.specs.declared.token.BlockType.TheVariants.{Empty, Value, Index}
use Rattle.wasm_defs.specs.declared.token.Plain.{Plain}
use Rattle.wasm_defs.specs.declared.token.Token.TheVariants as token
use Rattle.body_validator.specs.declared.stack.Opening.TheVariants.{Block as Blocks, Loop as Loops, If as Ifs}
use Rattle.wasm_defs.specs.Typing.{Types, Signature, Context, inside, rule_of, block_type}
use Rattle.body_validator.specs.Checking.{Frames, ◌>>=◌, applied, enter, at, label_of, labels, step}
use Rattle.body_validator.specs.Scopes.{with_labels, unlabelled, begun}

at-labels : (c : Context) (fs : Frames) → at (unlabelled c) fs ≡ with_labels c (labels fs)
at-labels c [] = refl
at-labels c (f ∷ fs) = ap (λ (x : Context). inside x (label_of f.opening f.type)) (at-labels c fs)

block_type-labels : (c : Context) (ls : List Types) (type : BlockType) → block_type (with_labels c ls) type ≡ block_type c type
block_type-labels c ls Empty = refl
block_type-labels c ls (Value t) = refl
block_type-labels c ls (Index i) = refl

block_type-at : (c : Context) (fs : Frames) (type : BlockType) → block_type (at (unlabelled c) fs) type ≡ block_type c type
block_type-at c fs type = ap (λ (x : Context). block_type x type) (at-labels c fs) ∙ block_type-labels c (labels fs) type

pub plain_step : (c : Context) (p : Plain) (fs : Frames) → applied (rule_of (with_labels c (labels fs)) p) fs ≡ step (unlabelled c) (token.Plain p) fs
plain_step c p [] = refl
plain_step c p (f ∷ fs) = ap (λ (x : Context). applied (rule_of x p) (f ∷ fs)) (sym (at-labels c (f ∷ fs)))

abbrev nowhere : Signature → Option Frames
nowhere s = None

never : (o : Option Signature) → (o >>= nowhere) ≡ None
never None = refl
never (Some s) = refl

pub block_step : (c : Context) (type : BlockType) (fs : Frames) → begun c Blocks type false fs ≡ step (unlabelled c) (token.Block type) fs
block_step c type [] = never (block_type c type)
block_step c type (f ∷ fs) = ap (λ (o : Option Signature). o >>= λ s. enter Blocks s s.params (f ∷ fs)) (sym (block_type-at c (f ∷ fs) type))

pub loop_step : (c : Context) (type : BlockType) (fs : Frames) → begun c Loops type false fs ≡ step (unlabelled c) (token.Loop type) fs
loop_step c type [] = never (block_type c type)
loop_step c type (f ∷ fs) = ap (λ (o : Option Signature). o >>= λ s. enter Loops s s.params (f ∷ fs)) (sym (block_type-at c (f ∷ fs) type))

pub if_step : (c : Context) (type : BlockType) (fs : Frames) → begun c Ifs type true fs ≡ step (unlabelled c) (token.If type) fs
if_step c type [] = never (block_type c type)
if_step c type (f ∷ fs) = ap (λ (o : Option Signature). o >>= λ s. enter Ifs s (I32 ∷ s.params) (f ∷ fs)) (sym (block_type-at c (f ∷ fs) type))
