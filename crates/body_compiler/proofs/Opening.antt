-- Labels that are opened: what a block's type says of them.
use Rattle.std.proofs.Common.{◌≡◌, ◌-◌, ℕ, Bool, true, false, List, [], length, Option, None, Some, sym, ap, ◌∙◌, subst}
use Rattle.std.specs.Prelude.{slice_get}
use Rattle.std.proofs.lemmas.List.{length-reverse}
use Rattle.wasm_defs.specs.declared.token.BlockType.{BlockType}
use Rattle.wasm_defs.specs.declared.token.BlockType.TheVariants.{Index}
use Rattle.wasm_defs.specs.declared.types.FuncType.{FuncType}
use Rattle.wasm_defs.specs.declared.token.Token.TheVariants as token
use Rattle.wasm_defs.specs.Context.{type_or_empty}
use Rattle.wasm_defs.specs.Places.{or_empty, shape}
use Rattle.wasm_defs.specs.Typing.{Context, option_signature}
use Rattle.body_validator.specs.Checking.{guarded}
use Rattle.frame_layout.specs.Templates.{EmitContext}
use Rattle.frame_layout.specs.Functions.{test_words}
use Rattle.control_emit.specs.Pending.{Shape}
use Rattle.control_emit.specs.Emits.{FunctionBuilder, Opens}
use Rattle.control_emit.specs.Walks.{Step, end_shape, start_shape}
use Rattle.body_compiler.specs.Steps.{HasResults}

pub results_are : (types : List FuncType) (i : ℕ) (o : Option FuncType) → slice_get types i ≡ o → HasResults types (Index i) (length (type_or_empty o).results)
results_are types i None is c same = ap (λ (x : Option FuncType). length (or_empty (option_signature x)).results) (ap (λ (ts : List FuncType). slice_get ts i) same ∙ is)
results_are types i (Some f) is c same =
    ap (λ (x : Option FuncType). length (or_empty (option_signature x)).results) (ap (λ (ts : List FuncType). slice_get ts i) same ∙ is) ∙ length-reverse f.results

ended_at : (h n p q r : ℕ) → q ≡ p → r ≡ n → end_shape (h - p) n ≡ end_shape (h - q) r
ended_at h n p q r e f = ap (λ (m : ℕ). end_shape (h - m) n) (sym e) ∙ ap (λ (m : ℕ). end_shape (h - q) m) (sym f)

started_at : (h p q here : ℕ) → q ≡ p → start_shape (h - p) p here ≡ start_shape (h - q) q here
started_at h p q here e = ap (λ (m : ℕ). start_shape (h - m) m here) (sym e)

pub opens_block : (w : EmitContext) (c : Context) (t : BlockType) (live : Bool) (h base p n : ℕ) (a b : FunctionBuilder) → base ≡ h - p → length (shape c t).params ≡ p → length (shape c t).results ≡ n → Opens a b (end_shape base n) (λ e. [])
    → Step w c (token.Block t) (guarded live h) a b
opens_block w c t false h base p n a b e k l x = record { shape = end_shape base n; opens = x }
opens_block w c t true h base p n a b e k l x =
    subst (λ (y : Shape). Opens a b y (λ e. [])) (ap (λ (m : ℕ). end_shape m n) e ∙ ended_at h n p (length (shape c t).params) (length (shape c t).results) k l) x

pub opens_loop : (w : EmitContext) (c : Context) (t : BlockType) (live : Bool) (h base p : ℕ) (a b : FunctionBuilder) → base ≡ h - p → length (shape c t).params ≡ p → Opens a b (start_shape base p (length a.words)) (λ e. [])
    → Step w c (token.Loop t) (guarded live h) a b
opens_loop w c t false h base p a b e k x = record { shape = start_shape base p (length a.words); opens = x }
opens_loop w c t true h base p a b e k x =
    subst (λ (y : Shape). Opens a b y (λ e. [])) (ap (λ (m : ℕ). start_shape m p (length a.words)) e ∙ started_at h p (length (shape c t).params) (length a.words) k) x

pub opens_if : (w : EmitContext) (c : Context) (t : BlockType) (h base p n : ℕ) (a b : FunctionBuilder) → base ≡ h - 1 - p → length (shape c t).params ≡ p → length (shape c t).results ≡ n
    → Opens a b (end_shape base n) (λ f. test_words w h (length a.words) f.other) → Step w c (token.If t) (Some h) a b
opens_if w c t h base p n a b e k l x =
    subst (λ (y : Shape). Opens a b y (λ f. test_words w h (length a.words) f.other))
    (ap (λ (m : ℕ). end_shape m n) e ∙ ended_at (h - 1) n p (length (shape c t).params) (length (shape c t).results) k l) x
