-- Globals, loads, stores and the memory's size.
use Rattle.std.proofs.Common.{◌≡◌, ℕ, suc, ◌+◌, ◌-◌, ◌*◌, ◌^◌, ◌<◌, ◌≤◌, ◌⊎◌, false, inl, inr, slice_set, List, ◌∷◌, length, Option, None, Some, refl, sym, ap, ◌∙◌, subst, arith}
use Rattle.std.specs.Prelude.{slice_get}
use Rattle.std.proofs.lemmas.List.Elements.{All-take}
use Rattle.std.proofs.lemmas.Bool.{lt-ltb}
use Rattle.std.proofs.lemmas.Option.{slice_get_within}
use Rattle.rv_isa.specs.declared.operations.Op.{Op}
use Rattle.rv_isa.specs.Steps.{reg, State, Bytes, value_at, le_bytes, window}
use Rattle.rv_isa.proofs.ByteLaws.{length-put, length-le_bytes}
use Rattle.rv_isa.specs.Runs.{place, HasAt, AreBytes, Reaches, FitWindows}
use Rattle.rv_isa.specs.declared.stepping.Region.TheVariants.{Stack, Globals, Table, Memory, Passive}
use Rattle.wasm_defs.specs.declared.types.ValType.TheVariants.{I32}
use Rattle.wasm_defs.specs.declared.value.TrapKind.TheVariants.{MemoryBounds}
use Rattle.wasm_defs.specs.declared.operation.LoadOp.{LoadOp}
use Rattle.wasm_defs.specs.declared.operation.StoreOp.{StoreOp}
use Rattle.wasm_defs.specs.declared.token.MemArg.{MemArg}
use Rattle.wasm_defs.specs.declared.token.Plain.{Plain}
use Rattle.wasm_defs.specs.declared.token.Plain.TheVariants.{GlobalGet, GlobalSet, Load, MemorySize}
use Rattle.wasm_defs.specs.declared.token.Plain.TheVariants as plain
use Rattle.wasm_defs.specs.Typing.{Types, Context, load_type, store_type}
use Rattle.wasm_defs.specs.Configurations.{Store}
use Rattle.wasm_defs.specs.Values.{Value, word, word_of, types_of_values}
use Rattle.wasm_defs.specs.Memory.{page, pages_of, number_of, bytes_at, bytes_of, written_at, load_count, store_count, extended}
use Rattle.wasm_defs.specs.Effects.{Gives, effect, loaded, stored, pushed, value, bytes_written}
use Rattle.frame_layout.specs.Slots.{link, operand}
use Rattle.frame_layout.specs.declared.layout.Layout.{Layout}
use Rattle.frame_layout.specs.Macros.{s0, s5}
use Rattle.frame_layout.specs.Templates.{Label, EmitContext, global_get_words, global_set_words, load_words, store_words, size_words, declarations, words}
use Rattle.frame_layout.specs.Laws.{slot_at, with_slot, is_scratch, Does}
use Rattle.frame_layout.proofs.Steps.{does_with}
use Rattle.simulation.specs.Regions.{with_global, with_memory}
use Rattle.simulation.specs.MemoryLaws.{Loaded, Stored}
use Rattle.simulation.specs.StoreLaws.{WrittenOver}
use Rattle.simulation.specs.StoreStands.{StoreStands}
use Rattle.simulation.proofs.Memory.Globals.{global_get_does, global_set_does}
use Rattle.simulation.proofs.Memory.Growing.{size_does, pages_now}
use Rattle.simulation.proofs.Memory.Loads.{load_does}
use Rattle.simulation.proofs.Memory.Parts.{load_range}
use Rattle.simulation.proofs.Memory.Standing.{global_inside, global_read, written_stands, bytes_of_are}
use Rattle.simulation.proofs.Memory.Stores.{store_law_does}
use Rattle.simulation.proofs.Memory.StoreStanding.{store_set, store_stored}
use Rattle.simulation.proofs.Frames.Sets.{set_types}
use Rattle.simulation.proofs.Frames.Values.{Agree, Locals, Operands, Matches, locals_kept, operands_kept}
use Rattle.simulation.proofs.Straight.Instructions.{most_steps, Follows, Halts, Outcome, put_follows}
use Rattle.simulation.proofs.Straight.Operations.{typed_word, typed_range}

module _ (code : List (Option Op)) (c : Context) (labels : List Label) (w : EmitContext) (base there : ℕ) (b : Bytes) (store : Store)
    (cap : ℕ) (locals : List Value) (here : ℕ) (s : State) (i : ℕ) (at : s.pc ≡ place i) (pages : ℕ) (holds : StoreStands store pages cap s) where
  abbrev Holding : List Value → Type 0
  Holding operands = Matches w.layout base there b locals operands s

  pub global_get_follows : (operands : List Value) (mid : Types) (x : ℕ) (v : Value) → slice_get store.globals x ≡ Some v → v.ty ∷ types_of_values operands ≡ mid → length operands < w.layout.greatest
      → HasAt code i (global_get_words w (length operands) x) → Holding operands → Follows code c labels w base there b store cap locals operands (GlobalGet x) mid here s
  global_get_follows operands mid x v is types high has m =
      let room = m.room in
      let within = slice_get_within store.globals x v is in
      let d = global_get_does w code s i base (length operands) x pages has at m.frame holds.regions (global_inside s.bytes store.globals x holds.globals within) (omega arith) in
      put_follows code c labels w base there b store cap locals here s (GlobalGet x) operands operands mid v 6 (ap (pushed store locals operands) is) types (omega arith)
      (does_with (ap (with_slot s.bytes (base + operand w.layout (length operands))) (global_read s.bytes store.globals x v holds.globals is)) d) (holds.in_range x v is) high m m.live

  pub size_follows : (operands : List Value) (mid : Types) → I32 ∷ types_of_values operands ≡ mid → length operands < w.layout.greatest
      → HasAt code i (size_words w (length operands)) → Holding operands → Follows code c labels w base there b store cap locals operands MemorySize mid here s
  size_follows operands mid types high has m =
      let room = m.room in
      let d = size_does w code s i base (length operands) pages has at m.frame holds.regions (omega arith) in
      let same = ap (λ (l : List ℕ). with_slot s.bytes (base + operand w.layout (length operands)) (word I32 (pages_of l))) holds.memory in
      let few : pages_of store.memory < 2 ^ 32 = few_pages in
      put_follows code c labels w base there b store cap locals here s MemorySize operands operands mid (value I32 (pages_of store.memory)) 4 refl types (omega arith) (does_with same d) few high m m.live
    where
      few_pages : pages_of store.memory < 2 ^ 32
      few_pages =
          let fit = m.frame.windows Memory in
          let whole = holds.regions.whole in
          let count : pages_of store.memory ≡ pages = ap pages_of (sym holds.memory) ∙ pages_now pages s.bytes.memory holds.regions.whole in
          omega arith

  module _ (x : Value) (below : List Value) (o : LoadOp) (mem : MemArg) (x_ty : x.ty ≡ I32) (high : suc (length below) ≤ w.layout.greatest) (m : Holding (x ∷ below)) where
    loaded_outcome : (mid : Types) (r : Option (List ℕ)) → load_type o ∷ types_of_values below ≡ mid → bytes_at store.memory (x.number + mem.offset) (load_count o) ≡ r
        → Loaded code s (base + operand w.layout (length below)) o r → Outcome code c labels w base there b store cap locals here s (x ∷ below) (Load o mem) mid
    loaded_outcome mid None types e traps = inr (record { kind = MemoryBounds; gives = ap (loaded store locals o below) e; steps = 16; short = omega arith; behind = 16; traps = traps; word = 15; ends = refl; among = inl refl })
    loaded_outcome mid (Some bytes) types e d =
        let sound = subst AreBytes holds.memory (All-take (λ (n : ℕ). n < 256) (page * pages) s.bytes.memory holds.are_bytes) in
        inl (put_follows code c labels w base there b store cap locals here s (Load o mem) (x ∷ below) below mid (value (load_type o) (extended o (number_of bytes))) 18 (ap (loaded store locals o below) e) types (omega arith)
        d (load_range o store.memory bytes (x.number + mem.offset) sound e) (omega arith) m m.live.1)

    pub load_outcome : (mid : Types) → load_type o ∷ types_of_values below ≡ mid → mem.offset < 2 ^ 32 → HasAt code i (load_words w (suc (length below)) o mem.offset) → length code ≤ 2 ^ 26
        → Outcome code c labels w base there b store cap locals here s (x ∷ below) (Load o mem) mid
    load_outcome mid types small has short =
        let room = m.room in
        let top : suc (length below) - 1 ≡ length below = omega arith in
        let there_is : base + operand w.layout (suc (length below) - 1) ≡ base + operand w.layout 0 + length below = omega arith in
        let slot = slot_at s.bytes (base + operand w.layout 0 + length below) in
        let x_word = ap (slot_at s.bytes) there_is ∙ typed_word slot x I32 x_ty m.live.0 in
        let x_small = typed_range slot x I32 x_ty m.live.0 in
        let d = load_does w code s i base (suc (length below)) x.number mem.offset pages o has at m.frame holds.regions holds.are_bytes (omega arith) x_word x_small small short in
        let d' = subst (λ (l : List ℕ). Loaded code s (base + operand w.layout (suc (length below) - 1)) o (bytes_at l (x.number + mem.offset) (load_count o))) holds.memory d in
        loaded_outcome mid (bytes_at store.memory (x.number + mem.offset) (load_count o)) types refl (subst (λ (j : ℕ). Loaded code s (base + operand w.layout j) o (bytes_at store.memory (x.number + mem.offset) (load_count o))) top d')

-- ---- what changes the store

-- slots stay where the regions outside the stack change
slot_kept : (old bytes : Bytes) → bytes.stack ≡ old.stack → (k : ℕ) → slot_at bytes k ≡ slot_at old k
slot_kept old bytes same k = ap (λ (stack : List ℕ). value_at 8 (8 * k) stack) same

agrees : (old bytes : Bytes) → bytes.stack ≡ old.stack → (n : ℕ) → Agree n old bytes
agrees old bytes same n = record { by = λ k less. slot_kept old bytes same k }

module _ {code : List (Option Op)} {l : Layout} {base there : ℕ} {b : Bytes} {locals operands : List Value} {s : State} {steps words : ℕ} (bytes : Bytes) (same : bytes.stack ≡ s.bytes.stack) (fit : FitWindows bytes)
    (m : Matches l base there b locals operands s) (others : List Value) (live : Operands s.bytes (base + operand l 0) others) where
  pub beside_matches : (d : Does code steps words s bytes) → Matches l base there (record d.end.bytes { stack = b.stack }) locals others d.end
  beside_matches d =
      let is = d.bytes_are in
      record {
        frame = record {
          first = d.others s0 refl ∙ m.frame.first;
          end = d.others s5 refl ∙ m.frame.end;
          size = ap (λ (c : Bytes). length c.stack) is ∙ ap length same ∙ m.frame.size;
          windows = subst FitWindows (sym is) fit;
        };
        room = m.room;
        width = m.width;
        values = subst (λ (c : Bytes). Locals c base locals) (sym is) (locals_kept s.bytes bytes base locals (agrees s.bytes bytes same (base + length locals)) m.values);
        live = subst (λ (c : Bytes). Operands c (base + operand l 0) others) (sym is) (operands_kept s.bytes bytes (base + operand l 0) others (agrees s.bytes bytes same (base + operand l 0 + length others)) live);
        link_is = ap (λ (c : Bytes). slot_at c (base + link l)) is ∙ slot_kept s.bytes bytes same (base + link l) ∙ m.link_is;
        beside = record { globals = refl; table = refl; memory = refl; passive = refl };
        low = record { by = λ k less. ap (λ (c : Bytes). slot_at c k) is ∙ slot_kept s.bytes bytes same k ∙ m.low.by k less };
      }

-- what an instruction that changes the store comes to, within so many steps
pub record Change (store : Store) (cap : ℕ) (locals operands : List Value) (p : Plain) (mid : Types) : Type 0 where
  pub store_after : Store
  pub after : List Value
  pub gives : effect store locals cap p operands ≡ Gives store_after locals after
  pub types_are : types_of_values after ≡ mid
  pub calls_stay : store_after.calls ≡ store.calls
  pub replies_stay : store_after.replies ≡ store.replies
  pub globals_stay : types_of_values store_after.globals ≡ types_of_values store.globals
  pub segments_stay : length store_after.segments ≡ length store.segments
  pub steps : ℕ
  pub some : 0 < steps
  pub short : steps ≤ most_steps + 128 * bytes_written p operands

pub record Changes (code : List (Option Op)) (c : Context) (labels : List Label) (w : EmitContext) (base there : ℕ) (b : Bytes) (store : Store) (cap pages : ℕ) (locals operands : List Value) (p : Plain)
    (mid : Types) (here : ℕ) (s : State) : Type 0 where
  pub change : Change store cap locals operands p mid
  pub end : State
  pub reaches : Reaches code change.steps s end
  pub pc_is : end.pc ≡ s.pc + 4 * length (words w (declarations c) labels (length operands) here p)
  pub others : (r : ℕ) → is_scratch r ≡ false → reg end.registers r ≡ reg s.registers r
  pub matches : Matches w.layout base there (record end.bytes { stack = b.stack }) locals change.after end
  pub table_stays : end.bytes.table ≡ s.bytes.table
  pub stands : StoreStands change.store_after pages cap end

pub globals_fit : (b : Bytes) (globals : List ℕ) → length globals ≤ window → FitWindows b → FitWindows (record b { globals = globals })
globals_fit b globals small fit Stack = fit Stack
globals_fit b globals small fit Globals = small
globals_fit b globals small fit Table = fit Table
globals_fit b globals small fit Memory = fit Memory
globals_fit b globals small fit Passive = fit Passive

memory_fits : (b : Bytes) (memory : List ℕ) → length (with_memory b memory).memory ≤ window → FitWindows b → FitWindows (with_memory b memory)
memory_fits b memory small fit Stack = fit Stack
memory_fits b memory small fit Globals = fit Globals
memory_fits b memory small fit Table = fit Table
memory_fits b memory small fit Memory = small
memory_fits b memory small fit Passive = fit Passive

module _ (code : List (Option Op)) (c : Context) (labels : List Label) (w : EmitContext) (base there : ℕ) (b : Bytes) (store : Store)
    (cap : ℕ) (locals : List Value) (here : ℕ) (s : State) (i : ℕ) (at : s.pc ≡ place i) (pages : ℕ) (holds : StoreStands store pages cap s) where
  -- words that write the regions beside the stack
  pub changed : (operands : List Value) (p : Plain) (mid : Types) (x : Change store cap locals operands p mid) (bytes : Bytes) → bytes.stack ≡ s.bytes.stack → bytes.table ≡ s.bytes.table → FitWindows bytes → Matches w.layout base there b locals operands s
      → Operands s.bytes (base + operand w.layout 0) x.after → (d : Does code x.steps (length (words w (declarations c) labels (length operands) here p)) s bytes) → StoreStands x.store_after pages cap d.end → Changes code c labels w base there b store cap pages locals operands p mid here s
  changed operands p mid x bytes stack table fit m live d stands = record {
    change = x;
    end = d.end;
    reaches = d.reaches;
    pc_is = d.pc_is;
    others = d.others;
    matches = beside_matches bytes stack fit m x.after live d;
    table_stays = ap (λ (y : Bytes). y.table) d.bytes_are ∙ table;
    stands = stands;
  }

  -- words that write bytes of the memory
  pub written_changes : (operands below : List Value) (p : Plain) (mid : Types) (memory : List ℕ) (steps : ℕ) → effect store locals cap p operands ≡ Gives (record store { memory = memory }) locals below → types_of_values below ≡ mid → 0 < steps → steps ≤ most_steps + 128 * bytes_written p operands
      → WrittenOver store.memory memory → Matches w.layout base there b locals operands s → Operands s.bytes (base + operand w.layout 0) below → Does code steps (length (words w (declarations c) labels (length operands) here p)) s (with_memory s.bytes memory)
      → Changes code c labels w base there b store cap pages locals operands p mid here s
  written_changes operands below p mid memory steps gives types some short over m live d =
      let is = ap (λ (l : List ℕ). written_at l over.place over.bytes) holds.memory ∙ over.is in
      let now = written_stands s.bytes pages over.place over.bytes memory holds.regions.whole is in
      let x : Change store cap locals operands p mid = record {
        store_after = record store { memory = memory };
        after = below;
        gives = gives;
        types_are = types;
        calls_stay = refl;
        replies_stay = refl;
        globals_stay = refl;
        segments_stay = refl;
        steps = steps;
        some = some;
        short = short;
      } in
      changed operands p mid x (with_memory s.bytes memory) refl refl (memory_fits s.bytes memory (subst (λ (n : ℕ). n ≤ window) (sym now.size) (m.frame.windows Memory)) m.frame.windows) m live d
      (store_stored code store pages cap steps (length (words w (declarations c) labels (length operands) here p)) memory s holds over d)

  -- a global of the value's type
  pub global_set_changes : (v u : Value) (below : List Value) (mid : Types) (x : ℕ) → slice_get store.globals x ≡ Some u → v.ty ≡ u.ty → types_of_values below ≡ mid → suc (length below) ≤ w.layout.greatest
      → HasAt code i (global_set_words w (suc (length below)) x) → Matches w.layout base there b locals (v ∷ below) s → Changes code c labels w base there b store cap pages locals (v ∷ below) (GlobalSet x) mid here s
  global_set_changes v u below mid x is same types high has m =
      let room = m.room in
      let within = slice_get_within store.globals x u is in
      let inside = global_inside s.bytes store.globals x holds.globals within in
      let there_is : base + operand w.layout (suc (length below) - 1) ≡ base + operand w.layout 0 + length below = omega arith in
      let word_is = ap (slot_at s.bytes) there_is ∙ m.live.0.is in
      let d = does_with (ap (with_global s.bytes x) word_is) (global_set_does w code s i base (suc (length below)) x pages has at m.frame holds.regions inside (omega arith)) in
      let bytes = with_global s.bytes x (word_of v) in
      let size : length bytes.globals ≡ length s.bytes.globals = length-put 8 (8 * x) s.bytes.globals (le_bytes 8 (word_of v)) (omega arith) (length-le_bytes 8 (word_of v)) in
      let change : Change store cap locals (v ∷ below) (GlobalSet x) mid = record {
        store_after = record store { globals = slice_set store.globals x v };
        after = below;
        gives = rw (lt-ltb x (length store.globals) within) refl;
        types_are = types;
        calls_stay = refl;
        replies_stay = refl;
        globals_stay = set_types store.globals x u v is same;
        segments_stay = refl;
        steps = 6;
        some = omega arith;
        short = omega arith;
      } in
      changed (v ∷ below) (GlobalSet x) mid change bytes refl refl (globals_fit s.bytes bytes.globals (subst (λ (n : ℕ). n ≤ window) (sym size) (m.frame.windows Globals)) m.frame.windows) m m.live.1 d
      (store_set code store pages cap 6 6 x v s holds within m.live.0.range d)

  module _ (y x : Value) (below : List Value) (o : StoreOp) (mem : MemArg) (y_ty : y.ty ≡ store_type o) (x_ty : x.ty ≡ I32) (high : suc (suc (length below)) ≤ w.layout.greatest) (m : Matches w.layout base there b locals (y ∷ x ∷ below) s) where
    abbrev Comes : Types → Type 0
    Comes mid = Changes code c labels w base there b store cap pages locals (y ∷ x ∷ below) (plain.Store o mem) mid here s ⊎ Halts code store cap locals (y ∷ x ∷ below) (plain.Store o mem) s

    stored_comes : (mid : Types) (r : Option (List ℕ)) → types_of_values below ≡ mid → written_at store.memory (x.number + mem.offset) (bytes_of (store_count o) y.number) ≡ r → Stored code s r → Comes mid
    stored_comes mid None types e traps = inr (record { kind = MemoryBounds; gives = ap (stored store locals below) e; steps = 16; short = omega arith; behind = 16; traps = traps; word = 15; ends = refl; among = inl refl })
    stored_comes mid (Some memory) types e d =
        let over : WrittenOver store.memory memory = record { place = x.number + mem.offset; bytes = bytes_of (store_count o) y.number; sound = bytes_of_are (store_count o) y.number; is = e } in
        inl (written_changes (y ∷ x ∷ below) below (plain.Store o mem) mid memory 18 (ap (stored store locals below) e) types (omega arith) (omega arith) over m m.live.1.1 d)

    pub store_comes : (mid : Types) → types_of_values below ≡ mid → mem.offset < 2 ^ 32 → HasAt code i (store_words w (suc (suc (length below))) o mem.offset) → length code ≤ 2 ^ 26 → Comes mid
    store_comes mid types small has short =
        let room = m.room in
        let x_there : base + operand w.layout (suc (suc (length below)) - 2) ≡ base + operand w.layout 0 + length below = omega arith in
        let y_there : base + operand w.layout (suc (suc (length below)) - 1) ≡ base + operand w.layout 0 + suc (length below) = omega arith in
        let x_slot = slot_at s.bytes (base + operand w.layout 0 + length below) in
        let y_slot = slot_at s.bytes (base + operand w.layout 0 + suc (length below)) in
        let x_word = ap (slot_at s.bytes) x_there ∙ typed_word x_slot x I32 x_ty m.live.1.0 in
        let y_word = ap (slot_at s.bytes) y_there ∙ typed_word y_slot y (store_type o) y_ty m.live.0 in
        let d = store_law_does w code s i base (suc (suc (length below))) x.number y.number mem.offset pages o has at m.frame holds.regions (omega arith) (omega arith) x_word y_word (typed_range x_slot x I32 x_ty m.live.1.0) (typed_range y_slot y (store_type o) y_ty m.live.0) small short in
        stored_comes mid (written_at store.memory (x.number + mem.offset) (bytes_of (store_count o) y.number)) types refl
        (subst (λ (l : List ℕ). Stored code s (written_at l (x.number + mem.offset) (bytes_of (store_count o) y.number))) holds.memory d)
