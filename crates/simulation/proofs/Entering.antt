-- What is called from outside next: where a function that was called from outside has ended, the environment enters it.
use Rattle.std.proofs.Common.{◌≡◌, ℕ, ◌+◌, ◌*◌, ◌^◌, ◌<◌, ◌≤◌, ◌==◌, List, ◌∷◌, length, take, drop, Some, refl, sym, ap, ◌∙◌, subst, arith}
use Rattle.std.specs.Prelude.{slice_get}
use Rattle.std.proofs.lemmas.Bool.{cond-true, eq-eqb}
use Rattle.rv_isa.specs.declared.stepping.Region.TheVariants.{Stack, Globals, Table, Memory, Passive}
use Rattle.rv_isa.specs.Steps.{State, Bytes, reg, text_base, value_at}
use Rattle.rv_isa.specs.Runs.{AreBytes, FitWindows}
use Rattle.wasm_defs.specs.declared.types.ValType.{ValType}
use Rattle.wasm_defs.specs.Limits.{max_params}
use Rattle.wasm_defs.specs.Memory.{page}
use Rattle.wasm_defs.specs.Values.{Value, word_of, words_of}
use Rattle.wasm_defs.specs.Configurations.{Function, type_of, Instance, Store, Invocation, max_slots}
use Rattle.frame_layout.specs.Macros.{a7}
use Rattle.image_format.specs.Contents.{Image}
use Rattle.image_format.specs.Environment.{Entry, entered, word_at, with_words}
use Rattle.image_format.specs.ImageRun.{Running, To, finish, environment}
use Rattle.simulation.specs.StoreStands.{StoreStands}
use Rattle.simulation.proofs.Memory.StoreStanding.{globals_kept, segments_kept}
use Rattle.simulation.specs.Functions.{TextPlaces, StoreFits}
use Rattle.simulation.proofs.Frames.Rules.{types_length}
use Rattle.simulation.proofs.Frames.Values.{SameBeside}
use Rattle.simulation.proofs.Frames.Words.{word_small}
use Rattle.simulation.specs.Entries.{IsEntry, AreEntries}
use Rattle.simulation.specs.Tables.{TableHolds}
use Rattle.simulation.specs.Laws.{IsInvoked}
use Rattle.simulation.proofs.Calls.Arguments.{are_of_types}
use Rattle.simulation.proofs.FirstSlots.{stack_is, slots_are}
use Rattle.simulation.proofs.Steps.{with_machine}

-- the table's rows are where its bytes stay
pub table_kept : (inst : Instance) (places : TextPlaces) (b c : Bytes) → c.table ≡ b.table → TableHolds inst places b → TableHolds inst places c
table_kept inst places b c same h = record {
  rows = record {
    size = ap length same ∙ h.rows.size;
    empty = λ a is. ap (λ (l : List ℕ). value_at 8 (16 * a) l) same ∙ h.rows.empty a is;
    code_is = λ a f is. ap (λ (l : List ℕ). value_at 8 (16 * a) l) same ∙ h.rows.code_is a f is;
    like_is = λ a f is. ap (λ (l : List ℕ). value_at 8 (16 * a + 8) l) same ∙ h.rows.like_is a f is;
  };
  functions = h.functions;
  few_types = h.few_types;
}

module _ (image : Image) (inst : Instance) (places : TextPlaces) where
  -- a function is called from outside next, and others afterwards
  pub record Enters (store : Store) (next : Invocation) (later : List Invocation) (r : Running) : Type 0 where
    pub function : Function
    pub is : slice_get inst.functions next.function ≡ Some function
    pub invoked : IsInvoked (type_of function) (places.function next.function) image.cap store next.arguments r
    pub types : StoreFits inst.context store
    pub table : TableHolds inst places r.machine.bytes
    pub entries : AreEntries inst places later r.later

  -- the machine follows the call that ends a function; what is outside the stack is as before
  module _ (store : Store) (r : Running) (t : State) (size : length t.bytes.stack ≡ 8 * max_slots) (windows : FitWindows t.bytes) (beside : SameBeside r.machine.bytes t.bytes)
      (calls : r.calls ≡ store.calls) (replies : r.replies ≡ store.replies) (stands : StoreStands store r.pages image.cap r.machine) (types : StoreFits inst.context store) (table : TableHolds inst places r.machine.bytes)
      (next : Invocation) (more : List Invocation) (e : Entry × List ValType) (es : List (Entry × List ValType)) (is : IsEntry inst places next e) (others : AreEntries inst places more es) where
    abbrev pub entering : Running
    entering = record r { machine = entered r.pages t.bytes e.0; results = e.1; later = es }

    ranges : (k : ℕ) (v : Value) → slice_get next.arguments k ≡ Some v → word_of v < 2 ^ 64
    ranges k v at =
        let typed = are_of_types (type_of is.function).params next.arguments is.are_of_types in
        word_small v.ty v.number (typed.ranges k v at)

    few : length next.arguments ≤ max_params
    few =
        let typed = are_of_types (type_of is.function).params next.arguments is.are_of_types in
        let most = is.few in
        omega (arith, types_length next.arguments, ap length typed.types_are, most)

    words : words_of e.0.arguments ≡ words_of next.arguments
    words = ap words_of is.arguments

    stack_size : length (with_words t.bytes.stack 0 (words_of e.0.arguments)) ≡ 8 * max_slots
    stack_size = ap (λ (ws : List ℕ). length (with_words t.bytes.stack 0 ws)) words ∙ stack_is t.bytes.stack size next.arguments few ranges

    fit : FitWindows (record t.bytes { stack = with_words t.bytes.stack 0 (words_of e.0.arguments) })
    fit Stack = omega (arith, stack_size)
    fit Globals = windows Globals
    fit Table = windows Table
    fit Memory = windows Memory
    fit Passive = windows Passive

    pub enters : Enters store next more (record r { machine = entered r.pages t.bytes e.0; results = e.1; later = es })
    enters = record {
      function = is.function;
      is = is.is;
      invoked = record {
        frame = record { first = refl; end = refl; size = stack_size; windows = fit };
        at = ap (λ (n : ℕ). text_base + n) is.offset;
        return_place = refl;
        are_of_types = is.are_of_types;
        stand = λ k v at. ap (λ (ws : List ℕ). word_at (with_words t.bytes.stack 0 ws) k) words ∙ slots_are t.bytes.stack size next.arguments few ranges k v at;
        results = is.results;
        calls = calls;
        replies = replies;
        stands = record {
          regions = record { memory = refl; size = refl; globals = refl; table = refl; whole = subst (λ (l : List ℕ). page * r.pages ≤ length l) (sym beside.memory) stands.regions.whole };
          room = record { within = stands.room.within; size = ap length beside.memory ∙ stands.room.size; zeros = ap (drop (page * r.pages)) beside.memory ∙ stands.room.zeros };
          memory = ap (take (page * r.pages)) beside.memory ∙ stands.memory;
          are_bytes = subst AreBytes (sym beside.memory) stands.are_bytes;
          globals = globals_kept r.machine.bytes (entered r.pages t.bytes e.0).bytes store.globals beside.globals stands.globals;
          in_range = stands.in_range;
          segments = segments_kept r.machine.bytes (entered r.pages t.bytes e.0).bytes (length store.globals) store.segments beside.globals beside.passive stands.segments;
          passive = subst AreBytes (sym beside.passive) stands.passive;
        };
      };
      types = types;
      table = table_kept inst places r.machine.bytes (entered r.pages t.bytes e.0).bytes beside.table table;
      entries = others;
    }

    pub enters_by : reg t.registers a7 ≡ 0 → r.later ≡ e ∷ es → (pc : ℕ) → environment image (with_machine r t) pc ≡ To (record r { machine = entered r.pages t.bytes e.0; results = e.1; later = es })
    enters_by number some pc =
        cond-true (reg t.registers a7 == 0) _ _ (eq-eqb (reg t.registers a7) 0 number) ∙ ap (λ (later : List (Entry × List ValType)). finish (with_machine r t) later) some
