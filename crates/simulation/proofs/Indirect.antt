-- The rule of `call_indirect` (WebAssembly Core 1.0, 4.4.5.11), on a running image: three tests that trap, and then a call.
use Rattle.std.proofs.Common.{◌≡◌, ℕ, ◌+◌, ◌*◌, ◌^◌, ◌<◌, ◌≤◌, ◌-◌, ◌==◌, inl, inr, ⊎_elim, Bool, true, false, List, [], ◌∷◌, length, take, drop, reverse, Option, None, Some, refl, sym, ap, ◌∙◌, subst, arith}
use Rattle.std.specs.Prelude.{slice_get, nat_lt, if◌then◌else◌}
use Rattle.std.proofs.lemmas.Option.{slice_get_within}
use Rattle.rv_isa.specs.declared.operations.Op.{Op}
use Rattle.rv_isa.specs.Runs.{place, HasAt}
use Rattle.wasm_defs.specs.declared.place.Place.{Place}
use Rattle.wasm_defs.specs.declared.types.FuncType.{FuncType}
use Rattle.wasm_defs.specs.declared.value.TrapKind.{TrapKind}
use Rattle.wasm_defs.specs.declared.value.TrapKind.TheVariants.{UndefinedElement, UninitializedElement, TypeMismatch}
use Rattle.wasm_defs.specs.declared.token.Plain.TheVariants.{CallIndirect}
use Rattle.wasm_defs.specs.Trees.{Seq, Simple}
use Rattle.wasm_defs.specs.Typing.{Types, same_function_types}
use Rattle.wasm_defs.specs.Context.{type_or_empty, first_like}
use Rattle.wasm_defs.specs.Values.{Value, types_of_values, trap_number}
use Rattle.wasm_defs.specs.Configurations.{Func, Function, Imported, Declared, type_of, Instance, Config, Step, Trapped, place_of, place_of_import, belows}
use Rattle.wasm_defs.specs.Reductions.{enter, ask, call, call_typed, call_row, call_indirect, simple}
use Rattle.frame_layout.specs.Slots.{operand}
use Rattle.frame_layout.specs.Traps.{trap_places, room_trap}
use Rattle.frame_layout.specs.Laws.{TrapsAt}
use Rattle.frame_layout.specs.Templates.{import_stub, exit_stub}
use Rattle.image_format.specs.Contents.{Image}
use Rattle.image_format.specs.Environment.{code_of_image}
use Rattle.image_format.specs.ImageRun.{Running}
use Rattle.simulation.specs.TableLaws.{Begins, BeginsTyped, BeginsRow}
use Rattle.simulation.specs.Functions.{TextPlaces, Compiled, Known, Asked, Placed}
use Rattle.simulation.proofs.Frames.Frames.{under, FramesStay}
use Rattle.simulation.proofs.Frames.Follows.{same_beside, ahead, labels_ahead, halts_at, owed_of}
use Rattle.simulation.proofs.Frames.Holding.{follows_less, follows_after}
use Rattle.simulation.proofs.Frames.Sited.{IsIn}
use Rattle.simulation.proofs.Frames.Sitting.{trap_told}
use Rattle.simulation.specs.Laws.{EnvironmentStands}
use Rattle.simulation.specs.Tables.{type_in, like_in}
use Rattle.simulation.proofs.Calls.Entered.{enters_follow}
use Rattle.simulation.proofs.Calls.Indirect.{x as typed_call, type_is, called_by, by_row, begun}
use Rattle.simulation.proofs.Goings.{goes_by}
use Rattle.simulation.proofs.Importing.{ask_leads}
use Rattle.simulation.proofs.Matching.{Matches, store_moves, Leads, lifted, leads_less, leads_after}
use Rattle.simulation.proofs.Steps.{with_machine}
use Rattle.simulation.proofs.TypeIndices.{likes_tell, same_equal}

module _ (im : Image) (near : length (code_of_image im) ≤ 2 ^ 26) (inst : Instance) (places : TextPlaces) (outer : Types) (stub : HasAt (code_of_image im) 0 exit_stub)
    (all : (index : ℕ) (h : Function) → slice_get inst.functions index ≡ Some h → Placed (code_of_image im) inst places index h) (environment : EnvironmentStands inst im places) (c : Config) (r : Running) (start : Matches im inst places outer c r) where
  abbrev text : List (Option Op)
  text = code_of_image im

  -- a function's first word is in the text
  place_within : (f : ℕ) (h : Function) → slice_get inst.functions f ≡ Some h → places.function f ≤ length text
  place_within f h is =
      ⊎_elim
      (λ (y : Known (code_of_image im) inst places f h). let inside = y.compiled.inside in let at = y.begin_is in omega arith)
      (λ (y : Asked (code_of_image im) inst places f h). let within = slice_get_within text (places.function f) _ y.has.0 in omega arith)
      (all f h is)

  module _ (type table_index : ℕ) (rest : Seq) where
    abbrev size : ℕ
    size = ahead (Simple (CallIndirect type table_index) rest) + labels_ahead c.frame.labels

    abbrev Goes : Step → Type 0
    Goes step = Leads im inst places outer 128 (ahead (Simple (CallIndirect type table_index) rest) + labels_ahead c.frame.labels) r step

    -- where it traps
    abbrev from : Place
    from = place_of c.frame (Simple (CallIndirect type table_index) rest)

    module _ (v : Value) (below : List Value) (m : FramesStay (code_of_image im) inst places outer (record c.frame { operands = v ∷ below; code = Simple (CallIndirect type table_index) rest }) c.callers r.machine) where
      abbrev ty : FuncType
      ty = (typed_call (code_of_image im) near inst places outer c r.machine type table_index rest v below m).ty

      abbrev slots : ℕ
      slots =
          operand m.running.compiled.around.layout (length (types_of_values (v ∷ below)) + length (belows c.frame.labels) - 1 - length (type_or_empty (slice_get (under m.running.compiled.context m.running.os).types type)).params)

      halts : {behind : ℕ} (steps word : ℕ) (kind : TrapKind) → word + 1 ≡ behind → IsIn word (trap_places (CallIndirect type table_index)) → steps ≤ 128 → TrapsAt (code_of_image im) steps behind (trap_number kind) r.machine
          → Goes (Trapped c.store kind from)
      halts {behind} steps word kind ends among short y =
          let k = m.running.compiled in
          let types = types_of_values (v ∷ below) in
          let told = trap_told text inst places k m.running.os (CallIndirect type table_index) rest (length types + length (belows c.frame.labels)) m.here types m.running.to m.running.there m.running.sits c.frame.labels m.running.fit word among in
          lifted im inst places outer c.store c.later r start.store start.results start.later 128 size (Trapped c.store kind from)
          (refl, halts_at text inst places outer c.store c.later 128 steps r.machine kind (k.begin + m.here) (k.begin + (m.here + word)) from m.at (omega (arith, ends)) told short y)

      -- ---- to the function of a row

      module _ (f : ℕ) (y : Begins (code_of_image im) 29 38 slots (place (places.function f)) r.machine) where
        abbrev Called : Function → Type 0
        Called h = Goes (call c rest below (Some h))

        entered : (func : Func) (callee : Compiled (code_of_image im) inst places func) → callee.begin ≡ places.function f → func.ty ≡ ty → Called (Declared func)
        entered func callee begin_is ty_is =
            let b = begun text near inst places outer c r.machine type table_index rest v below m func.ty ty_is (places.function f) y in
            let arguments = reverse (take (length func.ty.params) below) in
            let callers = record c.frame { operands = drop (length func.ty.params) below; code = rest } ∷ c.callers in
            let step = enter c.store func arguments callers c.later in
            lifted im inst places outer c.store c.later r start.store start.results start.later 128 size step
            (follows_less text inst places outer c.store c.later (29 + (24 + 128 * owed_of step)) (128 + 128 * owed_of step) size r.machine step (omega arith)
            (follows_after text inst places outer c.store c.later 29 (24 + 128 * owed_of step) size r.machine b.end b.reaches (same_beside r.machine.bytes b.end.bytes b.bytes_are) b.registers step
            (enters_follow text near inst places outer stub c.store c.later size func callee arguments callers b.end (place (m.running.compiled.begin + (m.here + 38))) (b.at ∙ ap place (sym begin_is)) b.frame b.link_is b.types b.stand b.stay)))

        asked : (number : ℕ) (t : FuncType) (first : ℕ) → t ≡ ty → slice_get inst.functions f ≡ Some (Imported number t first) → HasAt (code_of_image im) (places.function f) (import_stub (length t.params) number)
            → places.trap (places.function f + room_trap) ≡ Some (place_of_import number first) → length t.params < 2 ^ 20 → number < 2 ^ 32 → length t.results ≤ 1 → Called (Imported number t first)
        asked number t first ty_is found has told few small one_result =
            let b = begun text near inst places outer c r.machine type table_index rest v below m t ty_is (places.function f) y in
            let q = with_machine r b.end in
            let i = environment.imports f number t first found in
            let arguments = reverse (take (length t.params) below) in
            let callers = record c.frame { operands = drop (length t.params) below; code = rest } ∷ c.callers in
            let stores = store_moves im inst places c.store r b.end (same_beside r.machine.bytes b.end.bytes b.bytes_are) b.registers start.store in
            let leads = ask_leads im near inst places outer stub c.store c.later q stores start.results start.later size number t first i.0 i.1 i.2 few small one_result callers (place (m.running.compiled.begin + (m.here + 38))) arguments (places.function f) has told b.at b.frame b.link_is b.types b.stand b.stay in
            let step = ask number t first c.store arguments callers c.later in
            leads_less im inst places outer (29 + 64) 128 size r step (omega arith) (leads_after im inst places outer 29 64 size r q step (goes_by im 29 r b.end b.reaches) leads)

        by_kind : (h : Function) → slice_get inst.functions f ≡ Some h → type_of h ≡ ty → Placed (code_of_image im) inst places f h → Called h
        by_kind h is ty_is (inl k) = subst Called (sym k.is) (entered k.func k.compiled k.begin_is (ap type_of (sym k.is) ∙ ty_is))
        by_kind h is ty_is (inr k) =
            let found : slice_get inst.functions f ≡ Some (Imported k.number k.ty k.first) = is ∙ ap (λ (g : Function). Some g) k.is in
            subst Called (sym k.is) (asked k.number k.ty k.first (ap type_of (sym k.is) ∙ ty_is) found k.has k.room k.few k.small k.one_result)

      -- ---- by the row

      abbrev Typed : Function → Bool → Type 0
      Typed h same = Goes (if same then call c rest below (Some h) else Trapped c.store TypeMismatch from)

      by_type : (f : ℕ) (h : Function) → slice_get inst.functions f ≡ Some h → (same : Bool) → same_function_types ty (type_of h) ≡ same → BeginsTyped (code_of_image im) slots (place (places.function f)) r.machine same → Typed h same
      by_type f h is true e y = by_kind f y h is (sym (same_equal ty (type_of h) e)) (all f h is)
      by_type f h is false e y = halts 25 30 TypeMismatch refl (inr (inr (inl refl))) (omega arith) y

      by_function : (f : ℕ) (h : Function) → slice_get inst.functions f ≡ Some h → BeginsTyped (code_of_image im) slots (place (places.function f)) r.machine (like_in inst f == m.running.compiled.around.like type)
          → Goes (call_typed c from rest below (slice_get inst.context.types type) (slice_get inst.functions f))
      by_function f h is y =
          let k = m.running.compiled in
          let found = type_is text near inst places outer c r.machine type table_index rest v below m in
          let like_is : like_in inst f ≡ first_like inst.context.types (type_of h) = ap (λ (o : Option Function). first_like inst.context.types (type_in o)) is in
          let same : (like_in inst f == k.around.like type) ≡ same_function_types ty (type_of h) =
          ap (λ (n : ℕ). n == k.around.like type) like_is ∙ ap (λ (g : ℕ → ℕ). first_like inst.context.types (type_of h) == g type) k.like_is ∙ likes_tell inst.context.types type ty found (type_of h) in
          subst (λ (o : Option FuncType). Goes (call_typed c from rest below o (slice_get inst.functions f))) (sym found)
          (subst (λ (o : Option Function). Goes (call_typed c from rest below (Some ty) o)) (sym is)
          (by_type f h is (same_function_types ty (type_of h)) refl (subst (BeginsTyped text slots (place (places.function f)) r.machine) same y)))

      by_option : (o : Option (Option ℕ)) → slice_get inst.table v.number ≡ o → BeginsRow (code_of_image im) slots (m.running.compiled.around.like type) places.function (like_in inst) r.machine o → Goes (call_row inst c from rest type below o)
      by_option None is y = halts 14 13 UndefinedElement refl (inl refl) (omega arith) y
      by_option (Some None) is y = halts 18 20 UninitializedElement refl (inr (inl refl)) (omega arith) y
      by_option (Some (Some f)) is y = let h = start.store.table.functions v.number f is in by_function f h.0 h.1 y

      goes : Goes (call_row inst c from rest type below (slice_get inst.table v.number))
      goes =
          let table = start.store.table in
          by_option (slice_get inst.table v.number) refl
          (by_row text near inst places outer c r.machine type table_index rest v below m r.pages start.store.stands.regions table (λ f is. let h = table.functions v.number f is in place_within f h.0 h.1))

    by_operands : (ops : List Value) → FramesStay (code_of_image im) inst places outer (record c.frame { operands = ops; code = Simple (CallIndirect type table_index) rest }) c.callers r.machine → Goes (call_indirect inst c from rest type ops)
    by_operands [] m =
        let at = under m.running.compiled.context m.running.os in
        let y = called_by (nat_lt table_index at.tables) (slice_get at.types type) [] m.running.sits.typed.0 m.running.sits.typed.1 in
        let e = y.moves.before in
        absurd cc
    by_operands (v ∷ below) m = goes v below m

    pub indirect_leads : FramesStay (code_of_image im) inst places outer (record c.frame { code = Simple (CallIndirect type table_index) rest }) c.callers r.machine
        → Leads im inst places outer 128 (ahead (Simple (CallIndirect type table_index) rest) + labels_ahead c.frame.labels) r (simple inst c (CallIndirect type table_index) rest)
    indirect_leads m = by_operands c.frame.operands m
