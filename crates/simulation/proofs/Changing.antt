-- What the instruction words of `global.set`, of stores, of `memory.grow`, of bulk memory and of `data.drop` come to on a running
-- image: the store after them, and the operands.
use Rattle.std.proofs.Common.{◌≡◌, ℕ, suc, ◌+◌, ◌-◌, ◌*◌, ◌^◌, ◌<◌, ◌≤◌, ◌⊎◌, true, inl, inr, List, [], ◌∷◌, length, Option, None, Some, refl, sym, ap, ◌∙◌, subst, arith}
use Rattle.std.specs.Prelude.{slice_get, nat_lt, ◌&&◌}
use Rattle.std.proofs.lemmas.List.{length-take}
use Rattle.rv_isa.specs.declared.operations.Op.{Op}
use Rattle.rv_isa.specs.Steps.{Bytes}
use Rattle.rv_isa.specs.Runs.{place, HasAt}
use Rattle.wasm_defs.specs.declared.types.ValType.TheVariants.{I32}
use Rattle.wasm_defs.specs.declared.operation.StoreOp.{StoreOp}
use Rattle.wasm_defs.specs.declared.token.MemArg.{MemArg}
use Rattle.wasm_defs.specs.declared.token.BulkOp.{BulkOp}
use Rattle.wasm_defs.specs.declared.token.Plain.{Plain}
use Rattle.wasm_defs.specs.declared.token.Plain.TheVariants.{GlobalSet, MemoryGrow, Bulk, DataDrop}
use Rattle.wasm_defs.specs.declared.token.Plain.TheVariants as plain
use Rattle.wasm_defs.specs.Typing.{Types, Context, Moves, Fixed, store_type, store_alignment, accesses, reads_segment, rule_of}
use Rattle.wasm_defs.specs.Values.{Value, word, types_of_values}
use Rattle.wasm_defs.specs.Memory.{page, pages_of, grown}
use Rattle.wasm_defs.specs.Configurations.{Store}
use Rattle.wasm_defs.specs.Effects.{Gives, effect, grew, value}
use Rattle.frame_layout.specs.Slots.{operand}
use Rattle.frame_layout.specs.Macros.{s0, s5}
use Rattle.frame_layout.specs.Templates.{Label, EmitContext, global_set_words, store_words, grow_words, declarations, words}
use Rattle.frame_layout.specs.Laws.{slot_at, with_slot}
use Rattle.image_format.specs.Contents.{Image}
use Rattle.image_format.specs.Environment.{code_of_image}
use Rattle.image_format.specs.ImageRun.{Running}
use Rattle.simulation.specs.StoreStands.{StoreStands}
use Rattle.simulation.specs.Covered.{IsStraightStep}
use Rattle.simulation.specs.Functions.{StoreFits}
use Rattle.simulation.proofs.Frames.Puts.{put_stands}
use Rattle.simulation.proofs.Frames.Rules.{MovesFixed, moves_fixed, OnLocal, on_global, moves_set, moves_only}
use Rattle.simulation.proofs.Frames.Values.{Agree, Holds, Matches}
use Rattle.simulation.proofs.Goings.{Goes, goes_by}
use Rattle.simulation.proofs.GrowingMemory.{Grown, GrownBy, grow_goes}
use Rattle.simulation.proofs.Steps.{with_machine}
use Rattle.simulation.proofs.Straight.Instructions.{Halts}
use Rattle.simulation.proofs.Straight.Bulk.{moves_if, bulk_comes, drop_changes}
use Rattle.simulation.proofs.Straight.Memories.{Change, Changes, global_set_changes, store_comes}
use Rattle.simulation.proofs.Straight.Operations.{typed_word, typed_range}
use Rattle.simulation.proofs.Straight.Effects.{ChangesStore}

-- so many steps lead to where the frame holds other operands, and the regions another store
pub record Passes (image : Image) (c : Context) (labels : List Label) (w : EmitContext) (base there : ℕ) (store : Store) (locals operands : List Value) (p : Plain) (mid : Types) (here : ℕ) (r : Running) : Type 0 where
  pub change : Change store image.cap locals operands p mid
  pub last : Running
  pub goes : Goes image change.steps r last
  pub pc_is : last.machine.pc ≡ r.machine.pc + 4 * length (words w (declarations c) labels (length operands) here p)
  pub bytes : Bytes
  pub matches : Matches w.layout base there bytes locals change.after last.machine
  pub low : Agree base r.machine.bytes last.machine.bytes
  pub table_stays : last.machine.bytes.table ≡ r.machine.bytes.table
  pub stands : StoreStands change.store_after last.pages image.cap last.machine
  pub calls : last.calls ≡ r.calls
  pub replies : last.replies ≡ r.replies
  pub results : last.results ≡ r.results
  pub later : last.later ≡ r.later

module _ (image : Image) (near : length (code_of_image image) ≤ 2 ^ 26) (few : page * image.cap ≤ 2 ^ 28) (c : Context) (labels : List Label) (w : EmitContext) (base there : ℕ) (store : Store) (locals : List Value) (here : ℕ) (r : Running)
    (i : ℕ) (at : r.machine.pc ≡ place i) (holds : StoreStands store r.pages image.cap r.machine) (fits_store : StoreFits c store) where
  abbrev code : List (Option Op)
  code = code_of_image image

  abbrev Holding : List Value → Type 0
  Holding operands = Matches w.layout base there r.machine.bytes locals operands r.machine

  abbrev Passing : List Value → Plain → Types → Type 0
  Passing operands p mid = Passes image c labels w base there store locals operands p mid here r

  abbrev Halting : List Value → Plain → Type 0
  Halting operands p = Halts (code_of_image image) store image.cap locals operands p r.machine

  -- ---- what the machine does alone

  moved : (operands : List Value) (p : Plain) (mid : Types) → Changes (code_of_image image) c labels w base there r.machine.bytes store image.cap r.pages locals operands p mid here r.machine → Passing operands p mid
  moved operands p mid x = record {
    change = x.change;
    last = with_machine r x.end;
    goes = goes_by image x.change.steps r x.end x.reaches;
    pc_is = x.pc_is;
    bytes = record x.end.bytes { stack = r.machine.bytes.stack };
    matches = x.matches;
    low = record { by = λ k less. x.matches.low.by k less };
    table_stays = x.table_stays;
    stands = x.stands;
    calls = refl;
    replies = refl;
    results = refl;
    later = refl;
  }

  either_passes : (operands : List Value) (p : Plain) (mid : Types) → Changes (code_of_image image) c labels w base there r.machine.bytes store image.cap r.pages locals operands p mid here r.machine ⊎ Halting operands p → Passing operands p mid ⊎ Halting operands p
  either_passes operands p mid (inl z) = inl (moved operands p mid z)
  either_passes operands p mid (inr z) = inr z

  global_set_passes : (operands : List Value) (mid : Types) (x : ℕ) → OnLocal store.globals x (λ t. t ∷ []) (λ t. []) (types_of_values operands) mid → length operands ≤ w.layout.greatest
      → HasAt (code_of_image image) i (global_set_words w (length operands) x) → Holding operands → Passing operands (GlobalSet x) mid
  global_set_passes [] mid x g low has m = let e = g.moves.before in absurd cc
  global_set_passes (v ∷ below) mid x g low has m =
      let e = g.moves.before in
      let ty_is : v.ty ≡ g.ty = cc in
      let rest : types_of_values below ≡ g.moves.below = cc in
      moved (v ∷ below) (GlobalSet x) mid
      (global_set_changes code c labels w base there r.machine.bytes store image.cap locals here r.machine i at r.pages holds v g.local.v below mid x g.local.is (ty_is ∙ sym g.local.ty_is) (rest ∙ sym g.moves.after) low has m)

  store_passes : (operands : List Value) (mid : Types) (o : StoreOp) (mem : MemArg) → mem.offset < 2 ^ 32 → MovesFixed (store_type o ∷ I32 ∷ []) [] (types_of_values operands) mid → length operands ≤ w.layout.greatest
      → HasAt (code_of_image image) i (store_words w (length operands) o mem.offset) → Holding operands → Passing operands (plain.Store o mem) mid ⊎ Halting operands (plain.Store o mem)
  store_passes [] mid o mem small f low has m = let e = f.before in absurd cc
  store_passes (y ∷ []) mid o mem small f low has m = let e = f.before in absurd cc
  store_passes (y ∷ x ∷ below) mid o mem small f low has m =
      let e = f.before in
      let y_ty : y.ty ≡ store_type o = cc in
      let x_ty : x.ty ≡ I32 = cc in
      let rest : types_of_values below ≡ f.below = cc in
      either_passes (y ∷ x ∷ below) (plain.Store o mem) mid
      (store_comes code c labels w base there r.machine.bytes store image.cap locals here r.machine i at r.pages holds y x below o mem y_ty x_ty low m mid (rest ∙ sym f.after) small has near)

  -- ---- many bytes

  bulk_passes : (op : BulkOp) (operands : List Value) (mid : Types) → (nat_lt 0 c.memories && reads_segment c op) ≡ true → MovesFixed (I32 ∷ I32 ∷ I32 ∷ []) [] (types_of_values operands) mid → length operands ≤ w.layout.greatest
      → HasAt (code_of_image image) i (words w (declarations c) labels (length operands) here (Bulk op)) → Holding operands → Passing operands (Bulk op) mid ⊎ Halting operands (Bulk op)
  bulk_passes op [] mid there f low has m = let e = f.before in absurd cc
  bulk_passes op (n ∷ []) mid there f low has m = let e = f.before in absurd cc
  bulk_passes op (n ∷ v ∷ []) mid there f low has m = let e = f.before in absurd cc
  bulk_passes op (n ∷ v ∷ d ∷ below) mid reads f low has m =
      let e = f.before in
      let n_ty : n.ty ≡ I32 = cc in
      let v_ty : v.ty ≡ I32 = cc in
      let d_ty : d.ty ≡ I32 = cc in
      let rest : types_of_values below ≡ f.below = cc in
      either_passes (n ∷ v ∷ d ∷ below) (Bulk op) mid
      (bulk_comes code near c labels w base there r.machine.bytes store image.cap locals here r.machine i at r.pages holds fits_store n v d below n_ty v_ty d_ty low m op mid (rest ∙ sym f.after) reads has)

  -- ---- growing

  module _ (x : Value) (below : List Value) (mid : Types) (types : I32 ∷ types_of_values below ≡ mid) (high : suc (length below) ≤ w.layout.greatest) (m : Holding (x ∷ below)) where
    grown_passes : (number pages : ℕ) (after : Store) → number < 2 ^ 32 → effect store locals image.cap MemoryGrow (x ∷ below) ≡ Gives after locals (value I32 number ∷ below) → after.calls ≡ store.calls → after.replies ≡ store.replies → after.globals ≡ store.globals → after.segments ≡ store.segments
        → Grown image r (base + operand w.layout (suc (length below) - 1)) number pages after → Passing (x ∷ below) MemoryGrow mid
    grown_passes number pages after small gives calls replies globals segments g =
        let top : suc (length below) - 1 ≡ length below = omega arith in
        let bytes_are = g.bytes_are ∙ ap (λ (j : ℕ). with_slot r.machine.bytes (base + operand w.layout j) (word I32 number)) top in
        let first = g.others s0 refl in
        let last = g.others s5 refl in
        let hold : Holds (word I32 number) (value I32 number) = record { is = refl; range = small } in
        let matches = put_stands w.layout base there r.machine.bytes locals (x ∷ below) below r.machine g.last.machine (word I32 number) (value I32 number) bytes_are first last hold (omega arith) m m.live.1 in
        record {
          change = record {
            store_after = after;
            after = value I32 number ∷ below;
            gives = gives;
            types_are = types;
            calls_stay = calls;
            replies_stay = replies;
            globals_stay = ap types_of_values globals;
            segments_stay = ap length segments;
            steps = 8;
            some = omega arith;
            short = omega arith;
          };
          last = g.last;
          goes = g.goes;
          pc_is = g.pc_is;
          bytes = r.machine.bytes;
          matches = matches;
          low = matches.low;
          table_stays = ap (λ (b : Bytes). b.table) g.bytes_are;
          stands = subst (λ (n : ℕ). StoreStands after n image.cap g.last.machine) (sym g.pages_are) g.stands;
          calls = g.calls;
          replies = g.replies;
          results = g.results;
          later = g.later;
        }

    pages_few : pages_of store.memory < 2 ^ 32
    pages_few =
        let whole = holds.regions.whole in
        let within = holds.room.within in
        let size = holds.room.size in
        let count : length store.memory ≤ length r.machine.bytes.memory = omega (arith, ap length holds.memory, length-take (page * r.pages) r.machine.bytes.memory) in
        omega arith

    by_memory : (o : Option (List ℕ)) → grown store.memory x.number image.cap ≡ o → GrownBy image r (base + operand w.layout (suc (length below) - 1)) x.number store o → Passing (x ∷ below) MemoryGrow mid
    by_memory None e g = grown_passes (2 ^ 32 - 1) r.pages store (omega arith) (ap (grew store locals below) e) refl refl refl refl g
    by_memory (Some memory) e g =
        grown_passes (pages_of store.memory) (r.pages + x.number) (record store { memory = memory }) pages_few (ap (grew store locals below) e) refl refl refl refl g

    grow_passes : x.ty ≡ I32 → HasAt (code_of_image image) i (grow_words w (suc (length below))) → Passing (x ∷ below) MemoryGrow mid
    grow_passes x_ty has =
        let room = m.room in
        let there_is : base + operand w.layout (suc (length below) - 1) ≡ base + operand w.layout 0 + length below = omega arith in
        let slot = slot_at r.machine.bytes (base + operand w.layout 0 + length below) in
        let x_word = ap (slot_at r.machine.bytes) there_is ∙ typed_word slot x I32 x_ty m.live.0 in
        let x_small = typed_range slot x I32 x_ty m.live.0 in
        by_memory (grown store.memory x.number image.cap) refl
        (grow_goes image w r store i base (suc (length below)) x.number has at m.frame (omega arith) x_word x_small holds few)

  grow_one : (operands : List Value) (mid : Types) → MovesFixed (I32 ∷ []) (I32 ∷ []) (types_of_values operands) mid → length operands ≤ w.layout.greatest
      → HasAt (code_of_image image) i (grow_words w (length operands)) → Holding operands → Passing operands MemoryGrow mid
  grow_one [] mid f low has m = let e = f.before in absurd cc
  grow_one (x ∷ below) mid f low has m =
      let e = f.before in
      let x_ty : x.ty ≡ I32 = cc in
      let rest : types_of_values below ≡ f.below = cc in
      grow_passes x below mid (ap (λ (ts : Types). I32 ∷ ts) rest ∙ sym f.after) low m x_ty has

  -- ---- by the instruction

  pub passes : (p : Plain) (operands : List Value) (mid : Types) → IsStraightStep p → ChangesStore p → Moves (rule_of c p) (types_of_values operands) mid → length operands ≤ w.layout.greatest
      → HasAt (code_of_image image) i (words w (declarations c) labels (length operands) here p) → Matches w.layout base there r.machine.bytes locals operands r.machine
      → Passes image c labels w base there store locals operands p mid here r ⊎ Halts (code_of_image image) store image.cap locals operands p r.machine
  passes (GlobalSet x) operands mid h changes moves low has m =
      let set = moves_set (slice_get c.globals x) (types_of_values operands) mid moves in
      inl (global_set_passes operands mid x (on_global c.globals store.globals x (λ t. t ∷ []) (λ t. []) (types_of_values operands) mid (slice_get c.globals x) fits_store.globals refl set) low has m)
  passes (plain.Store o mem) operands mid h changes moves low has m =
      let allowed = moves_only (accesses c mem.align (store_alignment o)) (Fixed (store_type o ∷ I32 ∷ []) []) (types_of_values operands) mid moves in
      store_passes operands mid o mem h (moves_fixed (store_type o ∷ I32 ∷ []) [] (types_of_values operands) mid allowed) low has m
  passes MemoryGrow operands mid h changes moves low has m =
      let allowed = moves_only (nat_lt 0 c.memories) (Fixed (I32 ∷ []) (I32 ∷ [])) (types_of_values operands) mid moves in
      inl (grow_one operands mid (moves_fixed (I32 ∷ []) (I32 ∷ []) (types_of_values operands) mid allowed) low has m)
  passes (Bulk op) operands mid h changes moves low has m =
      let allowed = moves_only (nat_lt 0 c.memories && reads_segment c op) (Fixed (I32 ∷ I32 ∷ I32 ∷ []) []) (types_of_values operands) mid moves in
      bulk_passes op operands mid (moves_if (nat_lt 0 c.memories && reads_segment c op) (Fixed (I32 ∷ I32 ∷ I32 ∷ []) []) (types_of_values operands) mid moves) (moves_fixed (I32 ∷ I32 ∷ I32 ∷ []) [] (types_of_values operands) mid allowed) low has m
  passes (DataDrop x) operands mid h changes moves low has m =
      let allowed = moves_only (nat_lt x c.segments) (Fixed [] []) (types_of_values operands) mid moves in
      let f = moves_fixed [] [] (types_of_values operands) mid allowed in
      inl (moved operands (DataDrop x) mid (drop_changes code near c labels w base there r.machine.bytes store image.cap locals here r.machine i at r.pages holds fits_store operands mid x (moves_if (nat_lt x c.segments) (Fixed [] []) (types_of_values operands) mid moves) (f.before ∙ sym f.after) has m))
  passes p operands mid h changes moves low has m = absurd cc
