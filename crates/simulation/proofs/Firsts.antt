-- The first weight of a function that is called from outside: it is entered, or, where it is imported, the host is asked.
use Rattle.std.proofs.Common.{◌≡◌, ℕ, ◌+◌, ◌*◌, ◌^◌, ◌<◌, ◌≤◌, ⊎_elim, List, [], length, reverse, Option, Some, refl, sym, ap, ◌∙◌, subst, arith}
use Rattle.std.specs.Prelude.{slice_get}
use Rattle.rv_isa.specs.Runs.{place, HasAt}
use Rattle.rv_isa.specs.Steps.{text_base}
use Rattle.frame_layout.specs.Laws.{slot_at}
use Rattle.wasm_defs.specs.Typing.{Types}
use Rattle.wasm_defs.specs.declared.types.FuncType.{FuncType}
use Rattle.wasm_defs.specs.Values.{types_of_values}
use Rattle.wasm_defs.specs.Configurations.{Func, Function, Imported, Declared, type_of, Instance, Store, Invocation, place_of_import}
use Rattle.wasm_defs.specs.Reductions.{enter, ask, start_function}
use Rattle.frame_layout.specs.Traps.{room_trap}
use Rattle.frame_layout.specs.Templates.{import_stub, exit_stub}
use Rattle.image_format.specs.Contents.{Image}
use Rattle.image_format.specs.Environment.{code_of_image}
use Rattle.image_format.specs.ImageRun.{Running}
use Rattle.simulation.specs.Functions.{TextPlaces, Compiled, Known, Asked, Placed}
use Rattle.simulation.proofs.Frames.Follows.{owed_of}
use Rattle.simulation.proofs.Frames.Holding.{follows_less}
use Rattle.simulation.proofs.Frames.Values.{Locals}
use Rattle.simulation.specs.Laws.{EnvironmentStands}
use Rattle.simulation.proofs.Calls.Arguments.{AreOf, are_of_types}
use Rattle.simulation.proofs.Calls.Entered.{enters_follow}
use Rattle.simulation.proofs.Entering.{Enters}
use Rattle.simulation.proofs.Importing.{ask_leads}
use Rattle.simulation.proofs.Matching.{StoreStays, Leads, lifted, leads_less}

module _ (im : Image) (near : length (code_of_image im) ≤ 2 ^ 26) (inst : Instance) (places : TextPlaces) (stub : HasAt (code_of_image im) 0 exit_stub)
    (all : (i : ℕ) (h : Function) → slice_get inst.functions i ≡ Some h → Placed (code_of_image im) inst places i h) (environment : EnvironmentStands inst im places)
    (store : Store) (next : Invocation) (later : List Invocation) (r : Running) (x : Enters im inst places store next later r) where
  abbrev ty : FuncType
  ty = type_of x.function

  abbrev Comes : Option Function → Type 0
  Comes o = Leads im inst places (type_of x.function).results 128 0 r (start_function store o next.arguments [] later)

  stores : StoreStays im inst places store r
  stores = record { calls = x.invoked.calls; replies = x.invoked.replies; stands = x.invoked.stands; types = x.types; table = x.table; told = environment.told }

  are : AreOf (type_of x.function).params next.arguments
  are = are_of_types ty.params next.arguments x.invoked.are_of_types

  stand : Locals r.machine.bytes 0 next.arguments
  stand = record { holds = λ i v at. let here : 0 + i ≡ i = omega arith in record { is = ap (λ (n : ℕ). slot_at r.machine.bytes n) here ∙ x.invoked.stand i v at; range = are.ranges i v at } }

  declared : (f : Func) → f.ty ≡ type_of x.function → (k : Compiled (code_of_image im) inst places f) → k.begin ≡ places.function next.function → Comes (Some (Declared f))
  declared f same k begin_is =
      let text = code_of_image im in
      let step = enter store f next.arguments [] later in
      let types : types_of_values next.arguments ≡ f.ty.params = are.types_are ∙ ap (λ (t : FuncType). t.params) (sym same) in
      let outer : reverse f.ty.results ≡ reverse ty.results = ap (λ (t : FuncType). reverse t.results) same in
      let entry = enters_follow text near inst places ty.results stub store later 0 f k next.arguments [] r.machine text_base (x.invoked.at ∙ ap place (sym begin_is)) x.invoked.frame x.invoked.return_place types stand (refl, outer) in
      lifted im inst places ty.results store later r stores x.invoked.results x.entries 128 0 step
      (follows_less text inst places ty.results store later (24 + 128 * owed_of step) (128 + 128 * owed_of step) 0 r.machine step (omega arith) entry)

  imported : (number : ℕ) (t : FuncType) (first : ℕ) → t ≡ type_of x.function → slice_get inst.functions next.function ≡ Some (Imported number t first) → HasAt (code_of_image im) (places.function next.function) (import_stub (length t.params) number)
      → places.trap (places.function next.function + room_trap) ≡ Some (place_of_import number first) → length t.params < 2 ^ 20 → number < 2 ^ 32 → length t.results ≤ 1 → Comes (Some (Imported number t first))
  imported number t first same is has told few small one =
      let i = environment.imports next.function number t first is in
      let types : types_of_values next.arguments ≡ t.params = are.types_are ∙ ap (λ (u : FuncType). u.params) (sym same) in
      let outer : reverse t.results ≡ reverse ty.results = ap (λ (u : FuncType). reverse u.results) same in
      leads_less im inst places ty.results 64 128 0 r (ask number t first store next.arguments [] later) (omega arith)
      (ask_leads im near inst places ty.results stub store later r stores x.invoked.results x.entries 0 number t first i.0 i.1 i.2 few small one [] text_base next.arguments (places.function next.function) has told x.invoked.at x.invoked.frame x.invoked.return_place types stand (refl, outer))

  by_kind : (f : Function) → type_of f ≡ type_of x.function → slice_get inst.functions next.function ≡ Some f → Placed (code_of_image im) inst places next.function f → Comes (slice_get inst.functions next.function)
  by_kind f same is placed =
      ⊎_elim
      (λ (y : Known (code_of_image im) inst places next.function f).
      subst Comes (sym (is ∙ ap (λ (g : Function). Some g) y.is)) (declared y.func (ap type_of (sym y.is) ∙ same) y.compiled y.begin_is))
      (λ (y : Asked (code_of_image im) inst places next.function f).
      let found : slice_get inst.functions next.function ≡ Some (Imported y.number y.ty y.first) = is ∙ ap (λ (g : Function). Some g) y.is in
      subst Comes (sym found) (imported y.number y.ty y.first (ap type_of (sym y.is) ∙ same) found y.has y.room y.few y.small y.one_result))
      placed

  pub first_leads : (outer : Types) × Leads im inst places outer 128 0 r (start_function store (slice_get inst.functions next.function) next.arguments [] later)
  first_leads = (ty.results, by_kind x.function refl x.is (all next.function x.function x.is))
