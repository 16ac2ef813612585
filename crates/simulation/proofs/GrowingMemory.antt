-- `memory.grow`: its instruction words ask the environment and put the answer into the operand's slot; and so on a running image.
use Rattle.std.proofs.Common.{◌≡◌, ℕ, suc, ◌+◌, ◌-◌, ◌*◌, ◌%◌, ◌^◌, ◌<◌, ◌≤◌, ◌==◌, false, List, [], ◌∷◌, ◌++◌, length, Option, None, Some, refl, sym, ap, subst, ◌∙◌, arith}
use Rattle.std.specs.Prelude.{◌||◌}
use Rattle.std.proofs.lemmas.Bool.{or_parts}
use Rattle.rv_isa.specs.declared.operations.ImmOp.TheVariants.{Addi}
use Rattle.rv_isa.specs.declared.operations.Op.{Op}
use Rattle.rv_isa.specs.declared.operations.Op.TheVariants.{Imm, Ecall}
use Rattle.rv_isa.specs.Words.{IsInRange}
use Rattle.rv_isa.specs.Steps.{reg, Bytes, State}
use Rattle.rv_isa.specs.Runs.{place, HasAt, AreBytes, AllInRange}
use Rattle.rv_isa.proofs.RunLaws.{Reaches-then}
use Rattle.wasm_defs.specs.declared.types.ValType.TheVariants.{I32}
use Rattle.wasm_defs.specs.Values.{word}
use Rattle.wasm_defs.specs.Memory.{page, pages_of, grown}
use Rattle.wasm_defs.specs.Configurations.{Store, max_slots}
use Rattle.frame_layout.specs.Slots.{operand}
use Rattle.frame_layout.specs.Macros.{x0, s0, s1, s2, s3, s4, s5, a0, a7}
use Rattle.frame_layout.specs.Templates.{EmitContext, load_operand, store_operand, grow_words}
use Rattle.frame_layout.specs.Laws.{slot_at, with_slot, IsFrame, is_scratch, is_passed, Asks}
use Rattle.frame_layout.proofs.Standing.{has_first, has_rest}
use Rattle.frame_layout.proofs.SlotLaws.{load_slot_leaves, store_slot_leaves}
use Rattle.frame_layout.proofs.Steps.{does_leave, does_with, frame_kept}
use Rattle.frame_layout.proofs.Jumps.{number_leaves, asks_after, passed_apart, passed_kept}
use Rattle.image_format.specs.Contents.{Image}
use Rattle.image_format.specs.Environment.{code_of_image}
use Rattle.image_format.specs.ImageRun.{Running, memory_of}
use Rattle.simulation.specs.Regions.{memory_now}
use Rattle.simulation.specs.MemoryLaws.{AsksForPages, GrowLaw, GrownLaw}
use Rattle.simulation.specs.StoreLaws.{GlobalsStand, SegmentsStand, HasRoom, Answered, Grows}
use Rattle.simulation.specs.StoreStands.{StoreStands}
use Rattle.simulation.proofs.Memory.Answering.{grows_does}
use Rattle.frame_layout.proofs.WordLaws.{low_word}
use Rattle.simulation.proofs.Memory.StoreStanding.{store_kept, store_grown}
use Rattle.simulation.proofs.MacroRanges.{both_in_range, load_in_range, store_in_range}
use Rattle.simulation.proofs.Goings.{Goes, goes_by, goes_by_call, goes_then}
use Rattle.simulation.proofs.Steps.{with_machine}

-- ---- its instruction words

asking_in_range : AllInRange (Imm Addi a7 x0 2 ∷ Ecall ∷ [])
unfolding IsInRange
asking_in_range = ((omega arith, omega arith, omega arith), (tt, tt))

pub grow_in_range : (w : EmitContext) (h : ℕ) → AllInRange (grow_words w h)
grow_in_range w h =
    let asking : List Op = Imm Addi a7 x0 2 ∷ Ecall ∷ [] in
    both_in_range (load_operand w a0 (h - 1)) (asking ++ store_operand w a0 (h - 1)) (load_in_range a0 (operand w.layout (h - 1)) (omega arith)) (
    both_in_range asking (store_operand w a0 (h - 1)) asking_in_range (store_in_range a0 (operand w.layout (h - 1)) (omega arith)))

pub grow_does : GrowLaw
grow_does w code s i base h a has at frame inside is small =
    let front = load_operand w a0 (h - 1) in
    let asking = Imm Addi a7 x0 2 ∷ Ecall ∷ [] in
    let back = store_operand w a0 (h - 1) in
    let one = load_slot_leaves code s i base a0 (operand w.layout (h - 1)) (has_first code i front (asking ++ back) has) at frame (λ e. absurd cc) (λ e. absurd cc) inside in
    let pc_one = one.pc_is in
    let has_asking = has_first code (i + 3) asking back (has_rest code i front (asking ++ back) has) in
    let two = number_leaves code one.end (i + 3) 16 2 (has_asking.0, tt) (omega arith) (omega arith) in
    let pc_two = two.pc_is in
    let number = ap (λ (x : ℕ). x % 2 ^ 32) (two.others a0 (λ e. absurd cc) ∙ one.value_is ∙ is) ∙ low_word a small in
    record {
      asks = asks_after 4 (suc (i + 3)) 4 2 two.end (Reaches-then one.reaches two.reaches) (omega arith) has_asking.1 (omega arith) (two.bytes_are ∙ one.bytes_are) two.value_is (λ r kept. two.others r (passed_apart r a7 kept refl) ∙ one.others r (passed_apart r a0 kept refl));
      number_is = number;
    }

pub grown_does : GrownLaw
grown_does w code s i base h v has at frame inside is =
    let front = load_operand w a0 (h - 1) ++ (Imm Addi a7 x0 2 ∷ Ecall ∷ []) in
    let stored = store_slot_leaves code s (i + 5) base a0 (operand w.layout (h - 1)) (has_rest code i front (store_operand w a0 (h - 1)) has) at frame (λ e. absurd cc) inside in
    does_with (ap (with_slot s.bytes (base + operand w.layout (h - 1))) is) (does_leave refl stored)

-- ---- on a running image

-- a call of the environment keeps the store, and so does an answer that changes no pages
stands_asked : {code : List (Option Op)} {steps words number pages cap : ℕ} {s : State} (store : Store) → (asks : Asks code steps words number s) → StoreStands store pages cap s → StoreStands store pages cap asks.end
stands_asked {code} {steps} {words} {number} {pages} {cap} {s} store asks h =
    let same = asks.bytes_are in
    record {
      regions = record {
        memory = asks.others s1 refl ∙ h.regions.memory;
        size = asks.others s2 refl ∙ h.regions.size;
        globals = asks.others s3 refl ∙ h.regions.globals;
        table = asks.others s4 refl ∙ h.regions.table;
        whole = subst (λ (b : Bytes). page * pages ≤ length b.memory) (sym same) h.regions.whole;
      };
      room = subst (HasRoom cap pages) (sym same) h.room;
      memory = ap (memory_now pages) same ∙ h.memory;
      are_bytes = subst (λ (b : Bytes). AreBytes b.memory) (sym same) h.are_bytes;
      globals = subst (λ (b : Bytes). GlobalsStand b store.globals) (sym same) h.globals;
      in_range = h.in_range;
      segments = subst (λ (b : Bytes). SegmentsStand b (length store.globals) store.segments) (sym same) h.segments;
      passive = subst (λ (b : Bytes). AreBytes b.passive) (sym same) h.passive;
    }

stands_answered : {number : ℕ} (i : Image) (r : Running) (store : Store) → StoreStands store r.pages i.cap r.machine → (a : Answered i r number r.pages) → StoreStands store r.pages i.cap a.to.machine
stands_answered {number} i r store h a =
    let same = a.bytes_are in
    record {
      regions = a.regions;
      room = a.room;
      memory = ap (memory_now r.pages) same ∙ h.memory;
      are_bytes = subst (λ (b : Bytes). AreBytes b.memory) (sym same) h.are_bytes;
      globals = subst (λ (b : Bytes). GlobalsStand b store.globals) (sym same) h.globals;
      in_range = h.in_range;
      segments = subst (λ (b : Bytes). SegmentsStand b (length store.globals) store.segments) (sym same) h.segments;
      passive = subst (λ (b : Bytes). AreBytes b.passive) (sym same) h.passive;
    }

module _ (image : Image) where
  -- eight steps on, the answer is in a slot, and the store in the regions
  pub record Grown (r : Running) (slot number pages : ℕ) (store : Store) : Type 0 where
    pub last : Running
    pub goes : Goes image 8 r last
    pub pc_is : last.machine.pc ≡ r.machine.pc + 4 * 8
    pub bytes_are : last.machine.bytes ≡ with_slot r.machine.bytes slot (word I32 number)
    pub pages_are : last.pages ≡ pages
    pub stands : StoreStands store pages image.cap last.machine
    pub others : (q : ℕ) → (is_passed q || q == s2) ≡ false → reg last.machine.registers q ≡ reg r.machine.registers q
    pub calls : last.calls ≡ r.calls
    pub replies : last.replies ≡ r.replies
    pub results : last.results ≡ r.results
    pub later : last.later ≡ r.later

  -- as the rule says
  abbrev pub GrownBy : (r : Running) (slot more : ℕ) (store : Store) → Option (List ℕ) → Type 0
  GrownBy r slot more store None = Grown r slot (2 ^ 32 - 1) r.pages store
  GrownBy r slot more store (Some memory) = Grown r slot (pages_of store.memory) (r.pages + more) (record store { memory = memory })

  module _ (w : EmitContext) (r : Running) (store : Store) (i base h more : ℕ) (has : HasAt (code_of_image image) i (grow_words w h)) (at : r.machine.pc ≡ place i) (frame : IsFrame base r.machine)
      (inside : base + operand w.layout (h - 1) < max_slots) (is : slot_at r.machine.bytes (base + operand w.layout (h - 1)) ≡ word I32 more) (small : more < 2 ^ 32) (holds : StoreStands store r.pages image.cap r.machine) (few : page * image.cap ≤ 2 ^ 28) where
    abbrev slot : ℕ
    slot = base + operand w.layout (h - 1)

    abbrev asking : AsksForPages (code_of_image image) more r.machine
    asking = grow_does w (code_of_image image) r.machine i base h more has at frame inside is small

    abbrev mid : Running
    mid = with_machine r asking.asks.end

    kept : (q : ℕ) → (is_passed q || q == s2) ≡ false → (q == a0 || q == s2) ≡ false
    kept q e =
        let outer = or_parts (is_passed q) (q == s2) e in
        let inner = or_parts (is_scratch q || q == a0) (q == a7) outer.0 in
        let other = or_parts (is_scratch q) (q == a0) inner.0 in
        rw (other.1) outer.1

    goes_on : (number pages : ℕ) (after : Store) → (a : Answered image mid number pages) → StoreStands after pages image.cap a.to.machine → Grown r slot number pages after
    goes_on number pages after a stands =
        let asks = asking.asks in
        let pc_asked = asks.pc_is in
        let pc_answered = a.pc_is in
        let frame' = frame_kept a.to.machine frame (a.others s0 refl ∙ asks.others s0 refl) (a.others s5 refl ∙ asks.others s5 refl) (a.bytes_are ∙ asks.bytes_are) in
        let d = grown_does w (code_of_image image) a.to.machine i base h (word I32 number) has (omega arith) frame' inside a.answer_is in
        let pc_done = d.pc_is in
        record {
          last = with_machine a.to d.end;
          goes = goes_then image 5 3 r a.to (with_machine a.to d.end) (goes_by_call image 5 r a.to asks.end asks.by a.is) (goes_by image 3 a.to d.end d.reaches);
          pc_is = omega arith;
          bytes_are = d.bytes_are ∙ ap (λ (b : Bytes). with_slot b slot (word I32 number)) (a.bytes_are ∙ asks.bytes_are);
          pages_are = a.pages_are;
          stands = store_kept (code_of_image image) after pages image.cap 3 3 a.to.machine (with_slot a.to.machine.bytes slot (word I32 number)) stands refl refl refl d;
          others = λ q e.
              let outer = or_parts (is_passed q) (q == s2) e in
              d.others q (passed_kept q outer.0) ∙ a.others q (kept q e) ∙ asks.others q outer.0;
          calls = a.calls;
          replies = a.replies;
          results = a.results;
          later = a.later;
        }

    memory_is : memory_of mid ≡ store.memory
    memory_is = ap (memory_now r.pages) asking.asks.bytes_are ∙ holds.memory

    by_memory : (o : Option (List ℕ)) → grown store.memory more image.cap ≡ o → Grows image mid more o → GrownBy r slot more store o
    by_memory None e a =
        goes_on (2 ^ 32 - 1) r.pages store a (stands_answered image mid store (stands_asked store asking.asks holds) a)
    by_memory (Some memory) e a =
        let number : pages_of (memory_of mid) ≡ pages_of store.memory = ap pages_of memory_is in
        let answered = subst (λ (n : ℕ). Answered image mid n (r.pages + more)) number a.0 in
        goes_on (pages_of store.memory) (r.pages + more) (record store { memory = memory }) answered
        (store_grown image mid store (pages_of store.memory) more memory (stands_asked store asking.asks holds) e answered)

    pub grow_goes : GrownBy r slot more store (grown store.memory more image.cap)
    grow_goes =
        let stands = stands_asked store asking.asks holds in
        let given = grows_does image mid more asking.asks.number_is asking.number_is stands.regions stands.room few in
        by_memory (grown store.memory more image.cap) refl (subst (λ (l : List ℕ). Grows image mid more (grown l more image.cap)) memory_is given)
