-- The entry of a function: its frame after the prologue, or the trap of a stack that has no room.
use Rattle.std.proofs.Common.{◌≡◌, ℕ, zero, suc, ◌+◌, ◌-◌, ◌*◌, ◌^◌, ◌<◌, ◌≤◌, inl, ⊎_elim, false, List, [], ◌∷◌, ◌++◌, length, map, reverse, Option, Some, None, refl, sym, ap, ◌∙◌, subst, arith}
use Rattle.std.specs.Prelude.{slice_get, nat_lt}
use Rattle.std.proofs.lemmas.Bool.{cases_lt, cond-true, cond-false, lt-ltb, le-ltb}
use Rattle.std.proofs.lemmas.List.{length-append, length-map}
use Rattle.std.proofs.lemmas.Option.{slice_get_within}
use Rattle.rv_isa.specs.declared.operations.Op.{Op}
use Rattle.rv_isa.specs.declared.stepping.Region.TheVariants.{Stack, Globals, Table, Memory, Passive}
use Rattle.rv_isa.specs.Steps.{State, Bytes, reg, window, Spent}
use Rattle.rv_isa.specs.Runs.{place, HasAt, Reaches, FitWindows}
use Rattle.wasm_defs.specs.declared.types.ValType.{ValType}
use Rattle.wasm_defs.specs.declared.value.TrapKind.TheVariants.{StackExhausted}
use Rattle.wasm_defs.specs.Typing.{Types, Context, Typed, inside}
use Rattle.wasm_defs.specs.Places.{Place, end_of}
use Rattle.wasm_defs.specs.Configurations.{Func, Instance, Store, Invocation, Frame, Step, place_of_body, belows, used, max_slots}
use Rattle.wasm_defs.specs.Configurations as config
use Rattle.wasm_defs.specs.Reductions.{enter}
use Rattle.wasm_defs.specs.Values.{Value, zero_of, types_of_values}
use Rattle.frame_layout.specs.declared.layout.Layout.{Layout}
use Rattle.frame_layout.specs.Macros.{ra, s0, s5}
use Rattle.frame_layout.specs.Slots.{link, need}
use Rattle.frame_layout.specs.Templates.{prologue, epilogue, exit_stub}
use Rattle.frame_layout.specs.Traps.{room_trap}
use Rattle.frame_layout.specs.Functions.{label, code, traps, body_place, body_size, body_code}
use Rattle.frame_layout.specs.Laws.{slot_at, IsFrame, Enters}
use Rattle.frame_layout.proofs.Beginnings.{prologue_does, exhaustion_does}
use Rattle.frame_layout.proofs.Standing.{has_first, has_rest}
use Rattle.simulation.specs.Functions.{TextPlaces}
use Rattle.simulation.proofs.Frames.Frames.{labels_of, under, AreSited, Compiled, own, Ending, SitsAt, CallersStay, FramesStay}
use Rattle.simulation.proofs.Frames.Follows.{callers_kept, Reached, halts_at, Follows, owed_of}
use Rattle.simulation.proofs.Frames.Heights.{peak, peak_here}
use Rattle.simulation.proofs.Frames.Leaving.{address_fits}
use Rattle.simulation.proofs.Frames.Rules.{types_length, types_append}
use Rattle.simulation.proofs.Frames.Sited.{traps_alike}
use Rattle.frame_layout.proofs.Sizes.{code_size}
use Rattle.simulation.proofs.Frames.Values.{Holds, holds_as, Locals, Agree, SameBeside}
use Rattle.simulation.proofs.Frames.Words.{zero_word, modulus_positive}
use Rattle.simulation.proofs.Frames.Reversed.{among_both}
use Rattle.simulation.proofs.Calls.Arguments.{types_of_zeros, among_zeros}

same_windows : (b c : Bytes) → length c.stack ≡ length b.stack → SameBeside b c → FitWindows b → FitWindows c
same_windows b c e same fit Stack = let fits = fit Stack in omega arith
same_windows b c e same fit Globals = subst (λ (l : List ℕ). length l ≤ window) (sym same.globals) (fit Globals)
same_windows b c e same fit Table = subst (λ (l : List ℕ). length l ≤ window) (sym same.table) (fit Table)
same_windows b c e same fit Memory = subst (λ (l : List ℕ). length l ≤ window) (sym same.memory) (fit Memory)
same_windows b c e same fit Passive = subst (λ (l : List ℕ). length l ≤ window) (sym same.passive) (fit Passive)

zero_holds : (x : ℕ) (v : Value) (t : ValType) → v ≡ zero_of t → x ≡ 0 → Holds x v
zero_holds x v t e none = subst (Holds x) (sym e) (record { is = none ∙ sym (zero_word t); range = modulus_positive t })

-- ---- the locals after a prologue

module _ (code : List (Option Op)) (l : Layout) (f : Func) (base : ℕ) (arguments : List Value) (s : State) (e : Enters code l base s)
    (params : l.params ≡ length f.ty.params) (locals : l.locals ≡ length f.locals) (types : types_of_values arguments ≡ f.ty.params) (stand : Locals s.bytes base arguments) where
  count : length arguments ≡ l.params
  count = sym (types_length arguments) ∙ ap length types ∙ sym params

  argument_holds : (k : ℕ) (v : Value) → slice_get arguments k ≡ Some v → Holds (slot_at e.bytes (base + k)) v
  argument_holds k v is =
      let within = slice_get_within arguments k v is in
      holds_as (slot_at e.bytes (base + k)) (e.below (base + k) (omega (arith, count))) (stand.holds k v is)

  zero_local_holds : (j k : ℕ) (v : Value) → k ≡ length arguments + j → slice_get (map zero_of f.locals) j ≡ Some v → Holds (slot_at e.bytes (base + k)) v
  zero_local_holds j k v at is =
      let one = among_zeros f.locals j v is in
      let here : base + k ≡ base + l.params + j = omega (arith, count) in
      zero_holds (slot_at e.bytes (base + k)) v one.1 one.2 (ap (slot_at e.bytes) here ∙ e.zeros j (omega arith))

  pub entered_locals : Locals e.bytes base (arguments ++ map zero_of f.locals)
  entered_locals = record { holds = λ k v is. ⊎_elim (λ h. argument_holds k v h) (λ h. zero_local_holds h.0 k v h.1 h.2) (among_both arguments (map zero_of f.locals) k v is) }

  pub entered_width : length (arguments ++ map zero_of f.locals) ≡ link l
  entered_width = length-append arguments (map zero_of f.locals) ∙ omega (arith, count, length-map f.locals zero_of)

-- ---- the body

module _ (text : List (Option Op)) (near : length text ≤ 2 ^ 26) (inst : Instance) (places : TextPlaces) (outer : Types) (stub : HasAt text 0 exit_stub) where
  module _ {f : Func} (k : Compiled text inst places f) where
    abbrev inner : Context
    inner = under k.context (own text inst places k ∷ [])

    -- the context of the body
    same : inside k.context k.context.results ≡ under k.context (own text inst places k ∷ [])
    same = ap (λ (ls : List Types). record k.context { labels = k.context.results ∷ ls }) k.no_labels

    abbrev body : List Op
    body = code k.around inner (labels_of (own text inst places k ∷ [])) (Some 0) (body_place k.around) f.body

    body_is : body_code k.around k.context f.body ≡ body
    body_is = ap (λ (c : Context). code k.around c (labels_of (own text inst places k ∷ [])) (Some 0) (body_place k.around) f.body) same

    body_count : length (body_code k.around k.context f.body) ≡ body_size k.around k.context f.body
    body_count =
        code_size k.around k.around.distance_to (inside k.context k.context.results) (labels_of (own text inst places k ∷ [])) (label 0 (length k.context.results) 0 ∷ []) refl f.body (Some 0) (body_place k.around)

    pub body_sits : SitsAt text inst places k (own text inst places k ∷ []) (Some 0) [] (body_place k.around) f.body k.context.results (own text inst places k).place
    unfolding peak
    body_sits =
        let w = k.around in
        let front = prologue w.layout in
        let old = body_code w k.context f.body in
        let end = epilogue w.layout (length k.context.results) in
        let count = body_count in
        let same_length = ap length body_is in
        record {
          covered = k.covered;
          typed = subst (λ (c : Context). Typed c f.body [] k.context.results) same k.typed;
          low = subst (λ (c : Context). peak c f.body (Some 0) ≤ w.layout.greatest) same (omega (arith, k.greatest_is, k.highest));
          has = subst (HasAt text (k.begin + length front)) body_is (has_first text (k.begin + length front) old end (has_rest text k.begin front (old ++ end) k.has));
          inside = omega (arith, k.inside, length-append front (old ++ end), length-append old end);
          ending = inl_falls (end_of inner f.body (Some 0)) (omega arith);
          sited = subst (AreSited places.trap k.begin f.origin)
              (traps_alike w w.distance_to (inside k.context k.context.results) (label 0 (length k.context.results) 0 ∷ []) (labels_of (own text inst places k ∷ [])) refl f.body (Some 0) (body_place w) 1
              ∙ ap (λ (c : Context). traps w c (labels_of (own text inst places k ∷ [])) (Some 0) (body_place w) 1 f.body) same)
              k.sited;
        }
      where
        inl_falls : (p : Place) → body_place k.around + length body ≡ (own text inst places k).place → Ending text inst places k p (body_place k.around + length body) (own text inst places k).place
        inl_falls None e = tt
        inl_falls (Some h) e = inl e

  -- ---- the entry

  pub used_fits : (b : Bytes) (address : ℕ) (awaited : Types) (callers : List Frame) → CallersStay text inst places outer b address awaited callers → used callers ≤ max_slots
  used_fits b address awaited [] x = omega arith
  used_fits b address awaited (f ∷ fs) x =
      let r = x.1.stays in
      let room = r.room in
      let width = r.width in
      let low = r.sits.low in
      let peak_is = peak_here (under r.compiled.context r.os) f.code (length (awaited ++ types_of_values f.operands) + length (belows f.labels)) in
      omega (arith, length-append f.operands (belows f.labels), length-append awaited (types_of_values f.operands), types_length f.operands)

  -- what leads to another address takes a step
  takes_steps : (count : ℕ) (s t : State) (n : ℕ) → Reaches text count s t → t.pc ≡ s.pc + 4 * suc n → 0 < count
  takes_steps zero s t n x e =
      let spent : Spent s ≡ Spent t = x.by 0 in
      let same : s ≡ t = cc in
      absurd (omega (arith, ap (λ (u : State). u.pc) same))
  takes_steps (suc count) s t n x e = omega arith

  module _ (store : Store) (later : List Invocation) (size : ℕ) (f : Func) (k : Compiled text inst places f) (arguments : List Value) (callers : List Frame) (s : State) (address : ℕ)
      (at : s.pc ≡ place k.begin) (frame : IsFrame (used callers) s) (link_is : reg s.registers ra ≡ address) (types : types_of_values arguments ≡ f.ty.params) (stand : Locals s.bytes (used callers) arguments)
      (stay : CallersStay text inst places outer s.bytes address (reverse f.ty.results) callers) where
    abbrev l : Layout
    l = k.around.layout

    needs : used callers + config.need f ≡ used callers + need l
    needs = omega (arith, k.params, k.locals, k.highest)

    has_prologue : HasAt text k.begin (prologue k.around.layout)
    has_prologue = has_first text k.begin (prologue l) (body_code k.around k.context f.body ++ epilogue l (length k.context.results)) k.has

    abbrev callee : Frame
    callee = record { function = f; locals = arguments ++ map zero_of f.locals; operands = []; code = f.body; labels = [] }

    module _ (e : Enters text l (used callers) s) (room : used callers + need l ≤ max_slots) where
      beside : SameBeside s.bytes e.does.end.bytes
      beside = subst (SameBeside s.bytes) (sym e.does.bytes_are) (record { globals = e.globals; table = e.table; memory = e.memory; passive = e.passive })

      low : Agree (used callers) s.bytes e.does.end.bytes
      low = subst (Agree (used callers) s.bytes) (sym e.does.bytes_are) (record { by = λ i less. e.below i (omega arith) })

      stay_entered : FramesStay text inst places outer callee callers e.does.end
      stay_entered = record {
        frame = record {
          first = e.does.others s0 refl ∙ frame.first;
          end = e.does.others s5 refl ∙ frame.end;
          size = ap (λ (b : Bytes). length b.stack) e.does.bytes_are ∙ e.size ∙ frame.size;
          windows = same_windows s.bytes e.does.end.bytes (ap (λ (b : Bytes). length b.stack) e.does.bytes_are ∙ e.size) beside frame.windows;
        };
        here = body_place k.around;
        address = address;
        running = record {
          compiled = k;
          os = own text inst places k ∷ [];
          to = k.context.results;
          there = (own text inst places k).place;
          room = room;
          width = entered_width text l f (used callers) arguments s e k.params k.locals types stand;
          are = k.locals_are ∙ sym (types_append arguments (map zero_of f.locals) ∙ ap (λ (ts : Types). ts ++ types_of_values (map zero_of f.locals)) types ∙ ap (λ (ts : Types). f.ty.params ++ ts) (types_of_zeros f.locals));
          values = subst (λ (b : Bytes). Locals b (used callers) (arguments ++ map zero_of f.locals)) (sym e.does.bytes_are) (entered_locals text l f (used callers) arguments s e k.params k.locals types stand);
          live = tt;
          link_is = ap (λ (b : Bytes). slot_at b (used callers + link l)) e.does.bytes_are ∙ e.link_is ∙ link_is;
          sits = body_sits k;
          fit = (refl, refl, refl);
        };
        at = omega (arith, e.does.pc_is);
        callers_stay = callers_kept text inst places outer s.bytes e.does.end.bytes address (reverse f.ty.results) callers low stay;
      }

      reached : Reached text inst places outer store later (24 + 128 * length f.locals) size s (record { store = store; frame = callee; callers = callers; owed = length f.locals; later = later })
      reached = record {
        same_store = refl;
        same_later = refl;
        leads = record {
          steps = e.steps;
          short = omega (arith, e.within, k.locals);
          end = e.does.end;
          reaches = e.does.reaches;
          stay = stay_entered;
          beside = beside;
          registers = record { by = λ r a b c. e.does.others r a };
        };
        moves = inl (takes_steps e.steps s e.does.end (length (prologue l) - 1) e.does.reaches (omega (arith, e.does.pc_is)));
      }

    -- zeroing locals is paid for by what is owed
    abbrev Pays : Step → Type 0
    Pays step = Follows text inst places outer store later (24 + 128 * owed_of step) size s step

    entered : used callers + need k.around.layout ≤ max_slots → Pays (enter store f arguments callers later)
    entered room =
        let fits = address_fits text near inst places outer stub s.bytes address (reverse f.ty.results) callers stay in
        let e = prologue_does text s k.begin (used callers) l has_prologue at frame (omega (arith, fits.0)) room near in
        let none : nat_lt max_slots (used callers + config.need f) ≡ false = le-ltb max_slots (used callers + config.need f) (omega (arith, needs)) in
        subst Pays (sym (cond-false _ _ _ none)) (reached e room)

    exhausted : max_slots < used callers + need k.around.layout → Pays (enter store f arguments callers later)
    exhausted full =
        let x = exhaustion_does text s k.begin (used callers) l has_prologue at frame (used_fits s.bytes address (reverse f.ty.results) callers stay) k.fits full in
        subst Pays (sym (cond-true _ _ _ (lt-ltb max_slots (used callers + config.need f) (omega (arith, needs)))))
        (refl, halts_at text inst places outer store later (24 + 128 * 0) 10 s StackExhausted k.begin (k.begin + room_trap) (place_of_body f.origin) at (omega arith) k.room (omega arith) x)

    pub enters_follow : Follows text inst places outer store later (24 + 128 * owed_of (enter store f arguments callers later)) size s (enter store f arguments callers later)
    enters_follow = ⊎_elim exhausted entered (cases_lt max_slots (used callers + need k.around.layout))
