-- The results in the stack's first slots, and their number.
use Rattle.std.proofs.Common.{◌≡◌, ℕ, zero, suc, ◌+◌, ◌*◌, ◌<◌, List, [], ◌∷◌, length, get_or, Option, Some, refl, sym, ap, ◌∙◌, arith}
use Rattle.std.specs.Prelude.{slice_get}
use Rattle.std.proofs.lemmas.Option.{slice_get-get_or}
use Rattle.rv_isa.specs.Steps.{value_at}
use Rattle.wasm_defs.specs.declared.types.ValType.{ValType}
use Rattle.image_format.specs.declared.image.Export.{Export}
use Rattle.image_format.specs.Environment.{word_at, held}
use Rattle.wasm_defs.specs.Values.{Value}
use Rattle.image_format.specs.ImageRun.{Ending, results_at}
use Rattle.image_run.specs.declared.outcome.Outcome.{Outcome}
use Rattle.image_run.specs.declared.outcome.Outcome.TheVariants.{Returned, Trapped, StepsSpent, HostStopped, Fault}
use Rattle.image_run.specs.Ends.{IsEnd, TellsCount}
use Rattle.image_run.specs.States.{types_left}

pub results_counted : (stack : List ℕ) (from : ℕ) (types : List ValType) → length (results_at stack from types) ≡ length types
results_counted stack from [] = refl
results_counted stack from (t ∷ types) = ap suc (results_counted stack (from + 1) types)

-- the one of an index is held by the slot of that index
pub result_at : (stack : List ℕ) (from : ℕ) (types : List ValType) (k : ℕ) (t : ValType) → slice_get types k ≡ Some t → slice_get (results_at stack from types) k ≡ Some (held t (word_at stack (from + k)))
result_at stack from [] k t is = absurd cc
result_at stack from (u ∷ types) zero t is =
    let same : u ≡ t = cc in
    let here : from + 0 ≡ from = omega arith in
    ap (λ (v : ValType). Some (held v (word_at stack from))) same ∙ ap (λ (n : ℕ). Some (held t (word_at stack n))) (sym here)
result_at stack from (u ∷ types) (suc k) t is =
    let there : (from + 1) + k ≡ from + suc k = omega arith in
    result_at stack (from + 1) types k t is ∙ ap (λ (n : ℕ). Some (held t (word_at stack n))) there

-- what is read of the slot of an index, by the type of that index
pub result_read : (stack bytes : List ℕ) (types read : List ValType) (k word : ℕ) (t : ValType) (results : List Value) (v : Value) → results ≡ results_at stack 0 types → read ≡ types → bytes ≡ stack → k < length results
    → word ≡ value_at 8 (8 * k) bytes → v ≡ held (get_or read k t) word → slice_get results k ≡ Some v
result_read stack bytes types read k word t results v are same lent lt holds is =
    let within : k < length types = omega (arith, lt, ap (λ (l : List Value). length l) are, results_counted stack 0 types) in
    let here : 0 + k ≡ k = omega arith in
    ap (λ (l : List Value). slice_get l k) are
    ∙ result_at stack 0 types k (get_or types k t) (slice_get-get_or types k t within)
    ∙ ap (λ (n : ℕ). Some (held (get_or types k t) (word_at stack n))) here
    ∙ ap (λ (w : ℕ). Some (held (get_or types k t) w)) (sym (holds ∙ ap (λ (l : List ℕ). value_at 8 (8 * k) l) lent))
    ∙ ap (λ (l : List ValType). Some (held (get_or l k t) word)) (sym same)
    ∙ ap (λ (x : Value). Some x) (sym is)

-- the results are of the export whose run returned
pub results_are : (stack : List ℕ) (left : Option Export) (e : Export) (results : List Value) → results_at stack 0 (types_left left) ≡ results → left ≡ Some e → results ≡ results_at stack 0 e.signature.results
results_are stack left e results h is = sym h ∙ ap (λ (o : Option Export). results_at stack 0 (types_left o)) is

-- where there are none
pub tells_count : (outcome : Outcome) (memory : List ℕ) (end : Ending) → IsEnd outcome memory [] end → TellsCount outcome []
tells_count (Returned n) memory end h = h.0
tells_count (Trapped kind place) memory end h = refl
tells_count StepsSpent memory end h = refl
tells_count HostStopped memory end h = refl
tells_count (Fault kind pc) memory end h = refl
