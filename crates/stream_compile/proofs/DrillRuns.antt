-- The image of a drill's module, and how its run ends.
use Rattle.std.proofs.Common.{◌≡◌, ◌∙◌, ◌⊎◌, ℕ, suc, ◌+◌, ◌*◌, ◌<◌, ◌≤◌, List, [], ◌∷◌, None, refl, ap, sym, subst, inl, inr, arith}
use Rattle.std.specs.Prelude.{codes}
use Rattle.std.proofs.lemmas.Bool.{cases_lt}
use Rattle.wasm_defs.specs.declared.item.Item.{Item}
use Rattle.wasm_defs.specs.declared.item.Item.TheVariants.{Signature, Imported, Function, Table, Memory, Global, Exported, Start, Element, Code, DataCount, Passive, Segment}
use Rattle.wasm_defs.specs.declared.types.ValType.{ValType}
use Rattle.wasm_defs.specs.declared.types.ValType.TheVariants.{I32}
use Rattle.wasm_defs.specs.Context.{context_of, import_count, type_of_function, type_or_empty}
use Rattle.wasm_defs.specs.Effects.{value}
use Rattle.wasm_defs.specs.Faults.{Module}
use Rattle.wasm_defs.specs.Host.{Reply}
use Rattle.wasm_defs.specs.ModuleRun.{Fails, Going, Returns, Stops, Traps, module_run}
use Rattle.wasm_defs.specs.Outside.{Body}
use Rattle.wasm_defs.specs.Trees.{Seq}
use Rattle.wasm_defs.specs.Typing.{Context}
use Rattle.frame_layout.specs.Functions.{no_distance}
use Rattle.image_format.specs.Contents.{Image}
use Rattle.image_format.specs.ImageRun.{As, Ending, Fault, ImageRun, image_run, steps}
use Rattle.image_linker.specs.ImageOf.{around, front_of, image_of, imports_of, size_of}
use Rattle.image_linker.specs.Judging.{IsModuleOf, sizes}
use Rattle.image_run.specs.Checks.{not_runnable}
use Rattle.simulation.specs.SameRuns.{IsOver, SameRuns, own_ending, own_run}
use Rattle.module_gen.specs.Drill.{drill_bytes}
use Rattle.drill_laws.specs.Functions.{runner_type, sum_below}
use Rattle.drill_laws.specs.Modules.{IsDrill}
use Rattle.drill_laws.specs.Words.{words_of}
use Rattle.drill_laws.proofs.Modules.{drills_are_modules, drills_run}
use Rattle.stream_compile.proofs.Lasting.{image_stays, own_as, own_returns}

-- ---- the text keeps its limit

sizes_are : (items : List Item) (k : ℕ) (bodies : List Body) (trees : List Seq) → sizes items k bodies trees ≡ words_of (λ j b tree. around items j b tree no_distance) items k bodies trees
sizes_are items k [] trees = refl
sizes_are items k (b ∷ bodies) [] = refl
sizes_are items k (b ∷ bodies) (tree ∷ trees) = ap (λ (x : ℕ). size_of items k b tree + x) (sizes_are items (suc k) bodies trees)

pub drill_fits : (n : ℕ) → n ≤ 50000 → (m : Module) × IsModuleOf (drill_bytes n) m × IsDrill n m
drill_fits n most =
    let (m, is, drill) = drills_are_modules n most in
    let words = drill.words (λ k b tree. around m.items k b tree no_distance) in
    let same = sizes_are m.items 0 m.bodies m.trees in
    let front : front_of (import_count m.items) ≡ 2 = ap front_of drill.imported in
    (m, record { is = is; fits = omega (arith, words, same, front, most) }, drill)

-- ---- its export can be called

none_imported : (c : Context) (items : List Item) → import_count items ≡ 0 → imports_of c items ≡ []
none_imported c [] h = refl
none_imported c (Signature form params results ty ∷ xs) h = none_imported c xs h
none_imported c (Imported from what kind type_index ∷ xs) h = absurd (omega (arith, h))
none_imported c (Function type_index ∷ xs) h = none_imported c xs h
none_imported c (Table element limits ∷ xs) h = none_imported c xs h
none_imported c (Memory limits ∷ xs) h = none_imported c xs h
none_imported c (Global ty mutable init ∷ xs) h = none_imported c xs h
none_imported c (Exported label kind index ∷ xs) h = none_imported c xs h
none_imported c (Start index ∷ xs) h = none_imported c xs h
none_imported c (Element table place functions ∷ xs) h = none_imported c xs h
none_imported c (Code count end ∷ xs) h = none_imported c xs h
none_imported c (DataCount count ∷ xs) h = none_imported c xs h
none_imported c (Passive form bytes ∷ xs) h = none_imported c xs h
none_imported c (Segment form memory place bytes ∷ xs) h = none_imported c xs h

pub imports_nothing : (m : Module) → import_count m.items ≡ 0 → (image_of m).imports ≡ []
imports_nothing m none = none_imported (context_of m.items) m.items none

pub drill_type : (n : ℕ) (m : Module) → IsDrill n m → type_of_function (context_of m.items) n ≡ runner_type
drill_type n m drill = ap type_or_empty drill.exported

pub drill_runnable : (n : ℕ) (m : Module) → IsDrill n m → not_runnable (image_of m) (codes "run") [] ≡ None
drill_runnable n m drill =
    rw (none_imported (context_of m.items) m.items drill.imported, drill.exports, drill.exported, drill.linkable) refl

-- ---- the sum is returned, or the steps are spent, which so many aren't

abbrev pub DrillEnds : (n steps : ℕ) → Ending → Type 0
DrillEnds n steps end =
    ((memory globals : List ℕ) × (end ≡ As (Returns (value I32 (sum_below n) ∷ []) memory globals)))
    ⊎ ((steps < 640 * n + 448) × (end ≡ As Going))

module _ (n : ℕ) (m : Module) (most : n ≤ 50000) (drill : IsDrill n m) (i : Image) (offset : ℕ) (results : List ValType) (replies : List Reply) (g : ℕ) (alike : SameRuns (module_run m n [] replies) (λ k. own_run g (image_run i offset results [] replies k))) where
  image : ℕ → ImageRun
  image = image_run i offset results [] replies

  -- where it has ended sooner, it has ended in the same way
  before : (few j : ℕ) (memory globals : List ℕ) (end : Ending) → few < j → j ≤ 640 * n + 448 → (image j).end ≡ As (Returns (value I32 (sum_below n) ∷ []) memory globals) → (image few).end ≡ end → DrillEnds n few end
  unfolding image
  before few j memory globals (As (Returns values other words)) less most there is =
      let later = image_stays i offset results [] replies few j (Returns values other words) (omega (arith, less)) tt is in
      inl (memory, globals, sym later ∙ there)
  before few j memory globals (As (Traps kind place other words)) less most there is =
      let later = image_stays i offset results [] replies few j (Traps kind place other words) (omega (arith, less)) tt is in
      inl (memory, globals, sym later ∙ there)
  before few j memory globals (As (Stops at_call)) less most there is =
      let later = image_stays i offset results [] replies few j (Stops at_call) (omega (arith, less)) tt is in
      inl (memory, globals, sym later ∙ there)
  before few j memory globals (As Going) less most there is = inr (omega (arith, less, most), refl)
  before few j memory globals (As Fails) less most there is = absurd (alike.is_module_end few (ap (own_ending g) is))
  before few j memory globals (Fault kind pc) less most there is = absurd (alike.never_faults few kind pc (ap (own_ending g) is))

  pub drill_ends : (count : ℕ) → DrillEnds n count (image_run i offset results [] replies count).end
  unfolding image
  drill_ends count =
      let k = 5 * n + 3 + 0 in
      let returned = drills_run n m replies most drill 0 in
      let over : IsOver (module_run m n [] replies k).end = subst IsOver (sym returned) tt in
      let (j, short, same) = alike.ends k over in
      let all = ap (λ (r : ImageRun). r.end) same ∙ ap As returned in
      let (d, ended, over_too, own_is) = own_as g (image_run i offset results [] replies j).end _ all tt in
      let (memory, words, returns) = own_returns g d _ _ _ own_is in
      let there = ended ∙ ap As returns in
      elim (cases_lt count j) [
        | inl less ↦ before count j _ _ (image_run i offset results [] replies count).end less (omega (arith, short)) there refl
        | inr more ↦ inl (_, _, image_stays i offset results [] replies j count _ more tt there)
      ]
