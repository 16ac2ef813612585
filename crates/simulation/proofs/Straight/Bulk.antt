-- Instructions that write many bytes of the memory, and data segments that are dropped.
use Rattle.std.proofs.Common.{◌≡◌, ℕ, zero, suc, ◌+◌, ◌-◌, ◌*◌, ◌^◌, ◌<◌, ◌≤◌, ◌⊎◌, Bool, true, false, inl, inr, List, [], ◌∷◌, drop, length, Option, None, Some, refl, sym, ap, ◌∙◌, subst, arith}
use Rattle.std.specs.Prelude.{slice_get, slice_set, nat_lt, ◌&&◌}
use Rattle.std.proofs.lemmas.Bool.{and_parts, ltb-true, lt-ltb}
use Rattle.std.proofs.lemmas.List.Elements.{All-take, All-drop}
use Rattle.std.proofs.lemmas.List.{length-map}
use Rattle.wasm_defs.specs.declared.context.GlobalType.{GlobalType}
use Rattle.rv_isa.specs.declared.operations.Op.{Op}
use Rattle.rv_isa.specs.Steps.{State, Bytes, window, le_bytes}
use Rattle.rv_isa.specs.Runs.{place, HasAt, AreBytes}
use Rattle.rv_isa.specs.declared.stepping.Region.TheVariants.{Globals}
use Rattle.rv_isa.proofs.ByteLaws.{length-put, length-le_bytes}
use Rattle.wasm_defs.specs.declared.types.ValType.TheVariants.{I32}
use Rattle.wasm_defs.specs.declared.value.TrapKind.TheVariants.{MemoryBounds}
use Rattle.wasm_defs.specs.declared.token.BulkOp.{BulkOp}
use Rattle.wasm_defs.specs.declared.token.BulkOp.TheVariants.{Fill, Copy, Init}
use Rattle.wasm_defs.specs.declared.token.Plain.TheVariants.{Bulk, DataDrop}
use Rattle.wasm_defs.specs.Typing.{Types, Context, Rule, Moves, only_if, reads_segment}
use Rattle.wasm_defs.specs.Configurations.{Store}
use Rattle.wasm_defs.specs.Values.{Value, types_of_values, word}
use Rattle.wasm_defs.specs.Memory.{page, filled_at, copied_at}
use Rattle.wasm_defs.specs.Effects.{Gives, Traps, effect, stored, copied}
use Rattle.frame_layout.specs.Slots.{operand}
use Rattle.frame_layout.specs.BulkWords.{fill_words, copy_words, init_words, drop_words}
use Rattle.frame_layout.specs.Templates.{Label, EmitContext, declarations, words}
use Rattle.frame_layout.specs.Traps.{bulk_places}
use Rattle.frame_layout.specs.Laws.{slot_at, TrapsAt}
use Rattle.simulation.specs.Regions.{with_global, SegmentStands}
use Rattle.simulation.specs.StoreLaws.{WrittenOver}
use Rattle.simulation.specs.StoreStands.{StoreStands}
use Rattle.simulation.proofs.Memory.StoreStanding.{store_dropped}
use Rattle.simulation.specs.BulkLaws.{Writes, Filled, Copied, Inited}
use Rattle.simulation.proofs.Memory.Bulk.Fill.{fill_law_does}
use Rattle.simulation.proofs.Memory.Bulk.Copy.{copy_law_does}
use Rattle.simulation.proofs.Memory.Bulk.Init.{init_law_does, drop_law_does}
use Rattle.simulation.proofs.Memory.Bulk.Over.{filled_over, copied_over}
use Rattle.simulation.specs.Functions.{StoreFits}
use Rattle.simulation.proofs.Frames.Rules.{types_length}
use Rattle.simulation.proofs.Frames.Sited.{IsIn}
use Rattle.simulation.proofs.Frames.Values.{Matches}
use Rattle.simulation.proofs.Straight.Instructions.{most_steps, Halts}
use Rattle.simulation.proofs.Straight.Memories.{Change, Changes, globals_fit, changed, written_changes}
use Rattle.simulation.proofs.Straight.Operations.{typed_word, typed_range}

-- ---- what typing says

pub moves_if : (b : Bool) (rule : Rule) (from to : Types) → Moves (only_if b rule) from to → b ≡ true
moves_if true rule from to m = refl
moves_if false rule from to m = absurd m.allowed

there_is : {A : Type 0} (xs : List A) (x : ℕ) → x < length xs → (a : A) × (slice_get xs x ≡ Some a)
there_is [] x less = absurd (omega (arith, less))
there_is (a ∷ xs) zero less = (a, refl)
there_is (a ∷ xs) (suc x) less = there_is xs x (omega (arith, less))

length-set : {A : Type 0} (xs : List A) (x : ℕ) (a : A) → length (slice_set xs x a) ≡ length xs
length-set [] x a = refl
length-set (b ∷ xs) zero a = refl
length-set (b ∷ xs) (suc x) a = ap suc (length-set xs x a)

globals_count : (c : Context) (store : Store) → StoreFits c store → length c.globals ≡ length store.globals
globals_count c store fits = omega (arith, ap length fits.globals, length-map c.globals (λ (g : GlobalType). g.ty), types_length store.globals)

module _ (code : List (Option Op)) (short : length code ≤ 2 ^ 26) (c : Context) (labels : List Label) (w : EmitContext) (base there : ℕ) (b : Bytes) (store : Store)
    (cap : ℕ) (locals : List Value) (here : ℕ) (s : State) (i : ℕ) (at : s.pc ≡ place i) (pages : ℕ) (holds : StoreStands store pages cap s) (fits : StoreFits c store) where
  module _ (n v d : Value) (below : List Value) (n_ty : n.ty ≡ I32) (v_ty : v.ty ≡ I32) (d_ty : d.ty ≡ I32) (high : suc (suc (suc (length below))) ≤ w.layout.greatest) (m : Matches w.layout base there b locals (n ∷ v ∷ d ∷ below) s) where
    abbrev height : ℕ
    height = suc (suc (suc (length below)))

    abbrev Comes : BulkOp → Types → Type 0
    Comes op mid = Changes code c labels w base there b store cap pages locals (n ∷ v ∷ d ∷ below) (Bulk op) mid here s ⊎ Halts code store cap locals (n ∷ v ∷ d ∷ below) (Bulk op) s

    -- the operands
    inside : base + operand w.layout (height - 1) < 131072
    inside = let room = m.room in omega arith

    abbrev slot : ℕ → ℕ
    slot k = slot_at s.bytes (base + operand w.layout 0 + k)

    d_word : slot_at s.bytes (base + operand w.layout (height - 3)) ≡ word I32 d.number
    d_word =
        let same : base + operand w.layout (height - 3) ≡ base + operand w.layout 0 + length below = omega arith in
        ap (slot_at s.bytes) same ∙ typed_word (slot (length below)) d I32 d_ty m.live.1.1.0

    v_word : slot_at s.bytes (base + operand w.layout (height - 2)) ≡ word I32 v.number
    v_word =
        let same : base + operand w.layout (height - 2) ≡ base + operand w.layout 0 + suc (length below) = omega arith in
        ap (slot_at s.bytes) same ∙ typed_word (slot (suc (length below))) v I32 v_ty m.live.1.0

    n_word : slot_at s.bytes (base + operand w.layout (height - 1)) ≡ word I32 n.number
    n_word =
        let same : base + operand w.layout (height - 1) ≡ base + operand w.layout 0 + suc (suc (length below)) = omega arith in
        ap (slot_at s.bytes) same ∙ typed_word (slot (suc (suc (length below)))) n I32 n_ty m.live.0

    d_small : d.number < 2 ^ 32
    d_small = typed_range (slot (length below)) d I32 d_ty m.live.1.1.0

    v_small : v.number < 2 ^ 32
    v_small = typed_range (slot (suc (length below))) v I32 v_ty m.live.1.0

    n_small : n.number < 2 ^ 32
    n_small = typed_range (slot (suc (suc (length below)))) n I32 n_ty m.live.0

    -- bytes that were written
    writes_comes : (op : BulkOp) (mid : Types) (memory : List ℕ) (most : ℕ) → effect store locals cap (Bulk op) (n ∷ v ∷ d ∷ below) ≡ Gives (record store { memory = memory }) locals below → types_of_values below ≡ mid → WrittenOver store.memory memory
        → most ≤ most_steps + 128 * n.number → Writes code most (length (words w (declarations c) labels (suc (suc (suc (length below)))) here (Bulk op))) s memory → Comes op mid
    writes_comes op mid memory most gives types over le x =
        inl (written_changes code c labels w base there b store cap locals here s i at pages holds (n ∷ v ∷ d ∷ below) below (Bulk op) mid memory x.steps gives types x.some (omega (arith, x.within, le)) over m m.live.1.1.1 x.does)

    -- or a trap
    traps_comes : (op : BulkOp) (mid : Types) (steps count word : ℕ) → effect store locals cap (Bulk op) (n ∷ v ∷ d ∷ below) ≡ Traps MemoryBounds → steps ≤ 128 → word + 1 ≡ count → IsIn word (bulk_places op) → TrapsAt code steps count 4 s → Comes op mid
    traps_comes op mid steps count word gives le ends among traps = inr (record { kind = MemoryBounds; gives = gives; steps = steps; short = le; behind = count; traps = traps; word = word; ends = ends; among = among })

    -- ---- `memory.fill`

    filled_comes : (mid : Types) (o : Option (List ℕ)) → types_of_values below ≡ mid → filled_at store.memory d.number v.number n.number ≡ o → Filled code n.number s o → Comes Fill mid
    filled_comes mid None types e traps = traps_comes Fill mid 15 15 14 (ap (stored store locals below) e) (omega arith) refl (inl refl) traps
    filled_comes mid (Some memory) types e x =
        writes_comes Fill mid memory (18 + 4 * n.number) (ap (stored store locals below) e) types (filled_over store.memory memory d.number v.number n.number e) (omega arith) x

    fill_comes : (mid : Types) → types_of_values below ≡ mid → HasAt code i (fill_words w.layout (suc (suc (suc (length below))))) → Comes Fill mid
    fill_comes mid types has =
        let law = fill_law_does w code s i base height d.number v.number n.number pages has at m.frame holds.regions (omega arith) inside d_word v_word n_word d_small v_small n_small short in
        filled_comes mid (filled_at store.memory d.number v.number n.number) types refl (subst (λ (l : List ℕ). Filled code n.number s (filled_at l d.number v.number n.number)) holds.memory law)

    -- ---- `memory.copy`

    copied_comes : (mid : Types) (o : Option (List ℕ)) → types_of_values below ≡ mid → copied_at store.memory store.memory d.number v.number n.number ≡ o → Copied code n.number s o → Comes Copy mid
    copied_comes mid None types e x = by_place x.among
      where
        by_place : (x.words ≡ 20) ⊎ (x.words ≡ 25) → Comes Copy mid
        by_place (inl is) = traps_comes Copy mid x.steps x.words 19 (ap (stored store locals below) e) x.within (sym is) (inl refl) x.traps
        by_place (inr is) = traps_comes Copy mid x.steps x.words 24 (ap (stored store locals below) e) x.within (sym is) (inr (inl refl)) x.traps
    copied_comes mid (Some memory) types e x =
        writes_comes Copy mid memory (25 + 7 * n.number) (ap (stored store locals below) e) types (copied_over store.memory store.memory memory d.number v.number n.number memory_sound e) (omega arith) x
      where
        memory_sound : AreBytes store.memory
        memory_sound = subst AreBytes holds.memory (All-take (λ (x : ℕ). x < 256) (page * pages) s.bytes.memory holds.are_bytes)

    copy_comes : (mid : Types) → types_of_values below ≡ mid → HasAt code i (copy_words w.layout (suc (suc (suc (length below))))) → Comes Copy mid
    copy_comes mid types has =
        let law = copy_law_does w code s i base height d.number v.number n.number pages has at m.frame holds.regions holds.are_bytes (omega arith) inside d_word v_word n_word d_small v_small n_small short in
        copied_comes mid (copied_at store.memory store.memory d.number v.number n.number) types refl (subst (λ (l : List ℕ). Copied code n.number s (copied_at l l d.number v.number n.number)) holds.memory law)

    -- ---- `memory.init`

    module _ (x : ℕ) (bytes : List ℕ) (found : slice_get store.segments x ≡ Some bytes) where
      abbrev stands : SegmentStands s.bytes (length store.globals + 2 * x) bytes
      stands = holds.segments x bytes found

      bytes_sound : AreBytes bytes
      bytes_sound = subst AreBytes stands.bytes_are (All-take (λ (y : ℕ). y < 256) (length bytes) (drop stands.from s.bytes.passive) (All-drop (λ (y : ℕ). y < 256) stands.from s.bytes.passive holds.passive))

      effect_is : (o : Option (List ℕ)) → copied_at bytes store.memory d.number v.number n.number ≡ o → effect store locals cap (Bulk (Init x)) (n ∷ v ∷ d ∷ below) ≡ stored store locals below o
      effect_is o e = ap (copied store locals below d.number v.number n.number) found ∙ ap (stored store locals below) e

      inited_comes : (mid : Types) (o : Option (List ℕ)) → types_of_values below ≡ mid → copied_at bytes store.memory d.number v.number n.number ≡ o → Inited code n.number s o → Comes (Init x) mid
      inited_comes mid None types e y = by_place y.among
        where
          by_place : (y.words ≡ 23) ⊎ (y.words ≡ 28) → Comes (Init x) mid
          by_place (inl is) = traps_comes (Init x) mid y.steps y.words 22 (effect_is None e) y.within (sym is) (inl refl) y.traps
          by_place (inr is) = traps_comes (Init x) mid y.steps y.words 27 (effect_is None e) y.within (sym is) (inr (inl refl)) y.traps
      inited_comes mid (Some memory) types e y =
          writes_comes (Init x) mid memory (29 + 6 * n.number) (effect_is (Some memory) e) types (copied_over bytes store.memory memory d.number v.number n.number bytes_sound e) (omega arith) y

      init_comes : (mid : Types) → types_of_values below ≡ mid → HasAt code i (init_words w.layout (suc (suc (suc (length below)))) (8 * (length c.globals + 2 * x))) → Comes (Init x) mid
      init_comes mid types has =
          let count = globals_count c store fits in
          let has' = subst (λ (k : ℕ). HasAt code i (init_words w.layout height (8 * (k + 2 * x)))) count has in
          let law = init_law_does w code s i base height d.number v.number n.number pages (length store.globals + 2 * x) bytes has' at m.frame holds.regions holds.passive stands (omega arith) inside d_word v_word n_word d_small v_small n_small short in
          inited_comes mid (copied_at bytes store.memory d.number v.number n.number) types refl (subst (λ (l : List ℕ). Inited code n.number s (copied_at bytes l d.number v.number n.number)) holds.memory law)

    pub bulk_comes : (op : BulkOp) (mid : Types) → types_of_values below ≡ mid → (nat_lt 0 c.memories && reads_segment c op) ≡ true → HasAt code i (words w (declarations c) labels (suc (suc (suc (length below)))) here (Bulk op))
        → Changes code c labels w base there b store cap pages locals (n ∷ v ∷ d ∷ below) (Bulk op) mid here s ⊎ Halts code store cap locals (n ∷ v ∷ d ∷ below) (Bulk op) s
    bulk_comes Fill mid types reads has = fill_comes mid types has
    bulk_comes Copy mid types reads has = copy_comes mid types has
    bulk_comes (Init x) mid types reads has =
        let less = ltb-true x c.segments (and_parts (nat_lt 0 c.memories) (nat_lt x c.segments) reads).1 in
        let found = there_is store.segments x (omega (arith, less, fits.segments)) in
        init_comes x found.0 found.1 mid types has

  -- ---- `data.drop`

  pub drop_changes : (operands : List Value) (mid : Types) (x : ℕ) → nat_lt x c.segments ≡ true → types_of_values operands ≡ mid → HasAt code i (drop_words (8 * (length c.globals + 2 * x))) → Matches w.layout base there b locals operands s
      → Changes code c labels w base there b store cap pages locals operands (DataDrop x) mid here s
  drop_changes operands mid x reads types has m =
      let less : x < length store.segments = omega (arith, ltb-true x c.segments reads, fits.segments) in
      let found = there_is store.segments x less in
      let stands = holds.segments x found.0 found.1 in
      let y = length store.globals + 2 * x in
      let has' = subst (λ (k : ℕ). HasAt code i (drop_words (8 * (k + 2 * x)))) (globals_count c store fits) has in
      let inside : 8 * (y + 1) ≤ length s.bytes.globals = omega (arith, stands.inside) in
      let d = drop_law_does code s i base y pages has' at m.frame holds.regions inside in
      let bytes = with_global s.bytes y 0 in
      let size : length bytes.globals ≡ length s.bytes.globals = length-put 8 (8 * y) s.bytes.globals (le_bytes 8 0) (omega arith) (length-le_bytes 8 0) in
      let change : Change store cap locals operands (DataDrop x) mid = record {
        store_after = record store { segments = slice_set store.segments x [] };
        after = operands;
        gives = rw (lt-ltb x (length store.segments) less) refl;
        types_are = types;
        calls_stay = refl;
        replies_stay = refl;
        globals_stay = refl;
        segments_stay = length-set store.segments x [];
        steps = 3;
        some = omega arith;
        short = omega arith;
      } in
      changed code c labels w base there b store cap locals here s i at pages holds operands (DataDrop x) mid change bytes refl refl (globals_fit s.bytes bytes.globals (subst (λ (k : ℕ). k ≤ window) (sym size) (m.frame.windows Globals)) m.frame.windows) m m.live d
      (store_dropped code store pages cap 3 3 x found.0 s holds found.1 d)
