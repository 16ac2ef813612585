-- The fields of the operations of global and memory instructions fit their instruction words.
use Rattle.std.proofs.Common.{ℕ, ◌-◌, ◌*◌, ◌^◌, ◌<◌, List, [], ◌∷◌, ◌++◌, arith}
use Rattle.rv_isa.specs.declared.operations.Op.{Op}
use Rattle.rv_isa.specs.declared.operations.Op.TheVariants.{Branch, Load, Store, Imm, Shift, Reg}
use Rattle.rv_isa.specs.declared.operations.BranchOp.TheVariants.{Bgeu}
use Rattle.rv_isa.specs.declared.operations.LoadOp.{LoadOp as MachineLoad}
use Rattle.rv_isa.specs.declared.operations.StoreOp.{StoreOp as MachineStore}
use Rattle.rv_isa.specs.declared.operations.ImmOp.TheVariants.{Addi}
use Rattle.rv_isa.specs.declared.operations.ShiftOp.TheVariants.{Srli}
use Rattle.rv_isa.specs.declared.operations.RegOp.TheVariants.{Add}
use Rattle.rv_isa.specs.Words.{IsInRange}
use Rattle.rv_isa.specs.Runs.{AllInRange, load_behind, store_behind}
use Rattle.wasm_defs.specs.declared.operation.LoadOp.{LoadOp}
use Rattle.wasm_defs.specs.declared.operation.LoadOp.TheVariants.{I32Load}
use Rattle.wasm_defs.specs.declared.operation.StoreOp.{StoreOp}
use Rattle.wasm_defs.specs.declared.operation.StoreOp.TheVariants.{I32Store}
use Rattle.wasm_defs.specs.Memory.{load_count, store_count}
use Rattle.frame_layout.specs.Slots.{operand}
use Rattle.frame_layout.specs.Macros.{t0, t1, t2, t3, s1, s2, s3, forward, trap, zero_extend, const_32}
use Rattle.frame_layout.specs.Templates.{EmitContext, load_operand, store_operand, address, machine_load, machine_store, load_words, store_words, size_words, global_get_words, global_set_words}
use Rattle.simulation.proofs.MacroRanges.{both_in_range, load_in_range, store_in_range, const_in_range, behind_in_range, stored_in_range, extended_in_range}

-- ---- globals

-- ---- addresses

-- the end of the bytes against the memory's
bound_in_range : (count : ℕ) → count < 2 ^ 12 → AllInRange (Reg Add t0 t0 t1 ∷ Imm Addi t1 t0 count ∷ Branch Bgeu s2 t1 (forward 16) ∷ trap 4)
unfolding IsInRange
bound_in_range count small = (
  (omega arith, omega arith, omega arith),
  ((omega arith, omega arith, small), ((omega arith, omega arith, omega arith), ((omega arith, omega arith, omega arith), ((omega arith, omega arith, omega arith), (tt, tt))))),
)

based_in_range : AllInRange (Reg Add t0 t0 s1 ∷ [])
unfolding IsInRange
based_in_range = ((omega arith, omega arith, omega arith), tt)

loads_in_range : (o : MachineLoad) → AllInRange (Load o t0 t0 0 ∷ [])
unfolding IsInRange
loads_in_range o = ((omega arith, omega arith, omega arith), tt)

stores_in_range : (o : MachineStore) → AllInRange (Store o t0 t2 0 ∷ [])
unfolding IsInRange
stores_in_range o = ((omega arith, omega arith, omega arith), tt)

few_loaded : (o : LoadOp) → load_count o < 2 ^ 12
few_loaded I32Load = omega arith
few_loaded p = omega arith

few_stored : (o : StoreOp) → store_count o < 2 ^ 12
few_stored I32Store = omega arith
few_stored p = omega arith

shifted_in_range : AllInRange (Shift Srli t0 s2 16 ∷ [])
unfolding IsInRange
shifted_in_range = ((omega arith, omega arith, omega arith), tt)

module _ (w : EmitContext) where
  pub global_get_in_range : (h x : ℕ) → AllInRange (global_get_words w h x)
  global_get_in_range h x =
      both_in_range (load_behind t0 s3 (8 * x)) (store_operand w t0 h) (behind_in_range t0 s3 (8 * x) (omega arith) (omega arith)) (store_in_range t0 (operand w.layout h) (omega arith))

  pub global_set_in_range : (h x : ℕ) → AllInRange (global_set_words w h x)
  global_set_in_range h x =
      both_in_range (load_operand w t0 (h - 1)) (store_behind t0 t3 s3 (8 * x)) (load_in_range t0 (operand w.layout (h - 1)) (omega arith)) (stored_in_range t0 t3 s3 (8 * x) (omega arith) (omega arith) (omega arith))

  address_in_range : (j offset count : ℕ) → count < 2 ^ 12 → AllInRange (address w j offset count)
  address_in_range j offset count small =
      let test : List Op = Reg Add t0 t0 t1 ∷ Imm Addi t1 t0 count ∷ Branch Bgeu s2 t1 (forward 16) ∷ trap 4 in
      let based : List Op = Reg Add t0 t0 s1 ∷ [] in
      both_in_range (load_operand w t0 j) (zero_extend t0 ++ (const_32 t1 offset ++ (test ++ based))) (load_in_range t0 (operand w.layout j) (omega arith)) (
      both_in_range (zero_extend t0) (const_32 t1 offset ++ (test ++ based)) extended_in_range (
      both_in_range (const_32 t1 offset) (test ++ based) (const_in_range t1 offset (omega arith)) (both_in_range test based (bound_in_range count small) based_in_range)))

  pub loading_in_range : (h : ℕ) (o : LoadOp) (offset : ℕ) → AllInRange (load_words w h o offset)
  loading_in_range h o offset =
      let one : List Op = Load (machine_load w o) t0 t0 0 ∷ [] in
      both_in_range (address w (h - 1) offset (load_count o)) (one ++ store_operand w t0 (h - 1)) (address_in_range (h - 1) offset (load_count o) (few_loaded o)) (
      both_in_range one (store_operand w t0 (h - 1)) (loads_in_range (machine_load w o)) (store_in_range t0 (operand w.layout (h - 1)) (omega arith)))

  pub storing_in_range : (h : ℕ) (o : StoreOp) (offset : ℕ) → AllInRange (store_words w h o offset)
  storing_in_range h o offset =
      let one : List Op = Store (machine_store w o) t0 t2 0 ∷ [] in
      both_in_range (address w (h - 2) offset (store_count o)) (load_operand w t2 (h - 1) ++ one) (address_in_range (h - 2) offset (store_count o) (few_stored o)) (
      both_in_range (load_operand w t2 (h - 1)) one (load_in_range t2 (operand w.layout (h - 1)) (omega arith)) (stores_in_range (machine_store w o)))

  pub size_in_range : (h : ℕ) → AllInRange (size_words w h)
  size_in_range h = both_in_range (Shift Srli t0 s2 16 ∷ []) (store_operand w t0 h) shifted_in_range (store_in_range t0 (operand w.layout h) (omega arith))
