-- The instruction words of `memory.fill`, `memory.copy`, `memory.init` and `data.drop` (WebAssembly Core 2.0, 4.4.7). Those that
-- write test all bounds before the first byte.
use Rattle.std.specs.Prelude.{ℕ, ◌+◌, ◌-◌, ◌*◌, ◌/◌, ◌^◌, List, [], ◌∷◌, ◌++◌}
use Rattle.rv_isa.specs.declared.operations.BranchOp.TheVariants.{Beq, Bltu, Bgeu}
use Rattle.rv_isa.specs.declared.operations.LoadOp.TheVariants.{Lbu}
use Rattle.rv_isa.specs.declared.operations.StoreOp.TheVariants.{Sb}
use Rattle.rv_isa.specs.declared.operations.ImmOp.TheVariants.{Addi}
use Rattle.rv_isa.specs.declared.operations.RegOp.TheVariants.{Add}
use Rattle.rv_isa.specs.declared.operations.Op.{Op}
use Rattle.rv_isa.specs.declared.operations.Op.TheVariants as op
use Rattle.rv_isa.specs.Runs.{load_behind, store_behind}
use Rattle.wasm_defs.specs.declared.token.BulkOp.{BulkOp}
use Rattle.wasm_defs.specs.declared.token.BulkOp.TheVariants.{Fill, Copy, Init}
use Rattle.frame_layout.specs.declared.layout.Layout.{Layout}
use Rattle.frame_layout.specs.Slots.{operand}
use Rattle.frame_layout.specs.Macros.{x0, t0, t1, t2, t3, s1, s2, s3, a0, forward, minus_one, load_slot, trap, zero_extend}

-- a jump's immediate: so many bytes back
abbrev pub jump_back : ℕ → ℕ
jump_back bytes = (2 ^ 21 - bytes) / 2

-- r becomes the sum of two registers; the words trap where that is past the end of the memory
abbrev pub bound : (a b r : ℕ) → List Op
bound a b r = op.Reg Add r a b ∷ op.Branch Bgeu s2 r (forward 16) ∷ trap 4

-- ---- byte by byte

-- the byte in t1 is stored at each address from t0 up to t2
abbrev pub fill_loop : List Op
fill_loop = op.Branch Beq t0 t2 (forward 16) ∷ op.Store Sb t0 t1 0 ∷ op.Imm Addi t0 t0 1 ∷ op.Jal x0 (jump_back 12) ∷ []

-- the bytes from t1 on are stored at the addresses from t0 up to t2; then the words branch, by so many bytes
abbrev pub up_loop : (exit : ℕ) → List Op
up_loop exit =
    op.Branch Beq t0 t2 (forward exit) ∷ op.Load Lbu t3 t1 0 ∷ op.Store Sb t0 t3 0 ∷ op.Imm Addi t0 t0 1 ∷ op.Imm Addi t1 t1 1 ∷ op.Jal x0 (jump_back 20) ∷ []

-- t0 and t1 go down t2 times, and each byte at t1 is stored at t0
abbrev pub down_loop : List Op
down_loop =
    op.Branch Beq t2 x0 (forward 28) ∷ op.Imm Addi t0 t0 minus_one ∷ op.Imm Addi t1 t1 minus_one ∷ op.Load Lbu t3 t1 0 ∷ op.Store Sb t0 t3 0
    ∷ op.Imm Addi t2 t2 minus_one ∷ op.Jal x0 (jump_back 24) ∷ []

-- ---- addresses in the memory

-- upward where the destination isn't above the source, and else downward
abbrev pub copy_places : List Op
copy_places = op.Reg Add t0 t0 s1 ∷ op.Reg Add t1 t1 s1 ∷ op.Branch Bltu t1 t0 (forward 32) ∷ []

abbrev pub copy_up : List Op
copy_up = op.Reg Add t2 t2 t0 ∷ up_loop 60

abbrev pub copy_down : List Op
copy_down = op.Reg Add t0 t0 t2 ∷ op.Reg Add t1 t1 t2 ∷ down_loop

-- a segment's length is at offset g from the first global, and the address of its bytes at g + 8
abbrev pub init_test : (g : ℕ) → List Op
init_test g = load_behind t3 s3 g ++ (op.Reg Add a0 t1 t2 ∷ op.Branch Bgeu t3 a0 (forward 16) ∷ trap 4)

abbrev pub init_places : (g : ℕ) → List Op
init_places g = op.Reg Add t0 t0 s1 ∷ load_behind a0 s3 (g + 8) ++ (op.Reg Add t1 t1 a0 ∷ op.Reg Add t2 t2 t0 ∷ [])

-- ---- the instructions, at a height

module _ (l : Layout) where
  -- register r becomes the number in operand j
  abbrev pub load_number : (r j : ℕ) → List Op
  load_number r j = load_slot r (operand l j) ++ zero_extend r

  abbrev pub load_three : (h : ℕ) → List Op
  load_three h = load_number t0 (h - 3) ++ (load_number t1 (h - 2) ++ load_number t2 (h - 1))

  abbrev pub fill_front : (h : ℕ) → List Op
  fill_front h = load_number t0 (h - 3) ++ load_number t1 (h - 1)

  abbrev pub fill_places : (h : ℕ) → List Op
  fill_places h = op.Reg Add t0 t0 s1 ∷ op.Reg Add t2 t2 s1 ∷ load_slot t1 (operand l (h - 2))

  abbrev pub fill_words : (h : ℕ) → List Op
  fill_words h = fill_front h ++ (bound t0 t1 t2 ++ (fill_places h ++ fill_loop))

  abbrev pub copy_words : (h : ℕ) → List Op
  copy_words h = load_three h ++ (bound t0 t2 t3 ++ (bound t1 t2 t3 ++ (copy_places ++ (copy_up ++ copy_down))))

  abbrev pub init_words : (h g : ℕ) → List Op
  init_words h g = load_three h ++ (init_test g ++ (bound t0 t2 a0 ++ (init_places g ++ up_loop 24)))

  -- in a module of so many globals: after them come two words for each segment
  abbrev pub bulk_words : (globals h : ℕ) → BulkOp → List Op
  bulk_words globals h Fill = fill_words h
  bulk_words globals h Copy = copy_words h
  bulk_words globals h (Init x) = init_words h (8 * (globals + 2 * x))

abbrev pub drop_words : (g : ℕ) → List Op
drop_words g = store_behind x0 t3 s3 g
