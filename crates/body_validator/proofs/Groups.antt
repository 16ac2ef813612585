-- Locals that are declared before a body's first token.
use Rattle.std.proofs.Common.{◌≡◌, ℕ, List, [], ◌∷◌, ◌++◌, Result, Ok, Err, OnOk, refl, sym, ap, ◌∙◌, append_assoc, append-nil}
use Rattle.std.specs.Prelude.{replicate}
use Rattle.wasm_defs.specs.declared.types.FuncType.{FuncType}
use Rattle.wasm_defs.specs.declared.types.ValType.{ValType}
use Rattle.wasm_defs.specs.Bodies.{Group}
use Rattle.wasm_defs.specs.Context.{declared_types}
use Rattle.wasm_defs.specs.Typing.{Types, Context}
use Rattle.body_validator.specs.declared.check.TokenStop.{TokenStop}
use Rattle.body_validator.specs.Scopes.{with_locals}
use Rattle.body_validator.specs.Checks.{Checked, before_code, grouped, IsGrouped}

pub declared_types-append : (gs hs : List Group) → declared_types (gs ++ hs) ≡ declared_types gs ++ declared_types hs
declared_types-append [] hs = refl
declared_types-append (g ∷ gs) hs =
    ap (λ (x : Types). replicate g.count g.ty ++ x) (declared_types-append gs hs) ∙ sym (append_assoc (replicate g.count g.ty) (declared_types gs) (declared_types hs))

-- one more group follows the others
pub declared_types-push : (gs : List Group) (g : Group) → declared_types (gs ++ g ∷ []) ≡ declared_types gs ++ replicate g.count g.ty
declared_types-push gs g =
    declared_types-append gs (g ∷ []) ∙ ap (λ (x : Types). declared_types gs ++ x) (append-nil (replicate g.count g.ty))

pub grouped-before_code : (c : Context) (f : FuncType) (gs : List Group) (count : ℕ) (t : ValType)
    → grouped (before_code c f gs) count t ≡ before_code c f (gs ++ record { count = count; ty = t } ∷ [])
grouped-before_code c f gs count t =
    let more : f.params ++ declared_types (gs ++ record { count = count; ty = t } ∷ []) ≡ f.params ++ declared_types gs ++ replicate count t =
    ap (λ (x : Types). f.params ++ x) (declared_types-push gs (record { count = count; ty = t }))
    ∙ sym (append_assoc f.params (declared_types gs) (replicate count t)) in
    ap (λ (x : Types). record (before_code c f gs) { context = with_locals (before_code c f gs).context x }) (sym more)

pub grouped-behind : (offset count : ℕ) (t : ValType) (r : Result (Unit {0}) TokenStop) (old new : Checked) → IsGrouped offset count t r old new
    → (c : Context) (f : FuncType) (gs : List Group) → old ≡ before_code c f gs → OnOk r (new ≡ before_code c f (gs ++ record { count = count; ty = t } ∷ []))
grouped-behind offset count t (Ok done) old new h c f gs e =
    h.1 ∙ ap (λ (x : Checked). grouped x count t) e ∙ grouped-before_code c f gs count t
grouped-behind offset count t (Err stop) old new h c f gs e = tt
