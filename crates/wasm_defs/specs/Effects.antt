-- What the instructions that neither branch nor call do (WebAssembly Core 1.0, 4.4.1 to 4.4.4, and `nop`, 4.4.5.1).
use Rattle.std.specs.Prelude.{ℕ, ◌+◌, ◌-◌, ◌^◌, ◌==◌, List, [], ◌∷◌, Option, Some, None, if◌then◌else◌, slice_get, slice_set, nat_lt, length}
use Rattle.wasm_defs.specs.declared.types.ValType.{ValType}
use Rattle.wasm_defs.specs.declared.types.ValType.TheVariants.{I32}
use Rattle.wasm_defs.specs.declared.value.TrapKind.{TrapKind}
use Rattle.wasm_defs.specs.declared.value.TrapKind.TheVariants.{DivideByZero, Overflow, MemoryBounds}
use Rattle.wasm_defs.specs.declared.operation.Operation.{Operation}
use Rattle.wasm_defs.specs.declared.operation.Operation.TheVariants.{Unary, Test, Binary, Compare, Convert, Extend}
use Rattle.wasm_defs.specs.declared.operation.LoadOp.{LoadOp}
use Rattle.wasm_defs.specs.declared.token.BulkOp.TheVariants.{Fill, Copy, Init}
use Rattle.wasm_defs.specs.declared.token.Plain.{Plain}
use Rattle.wasm_defs.specs.declared.token.Plain.TheVariants.{Nop, Drop, Select, LocalGet, LocalSet, LocalTee, GlobalGet, GlobalSet, Load, Store, MemorySize, MemoryGrow, Bulk, DataDrop, Const, Numeric}
use Rattle.wasm_defs.specs.Typing.{load_type, extend_type}
use Rattle.wasm_defs.specs.Values.{Value, unsigned}
use Rattle.wasm_defs.specs.Integers.{Computed, Number, DividesByZero, Overflows, binary, unary, ieqz, compare, converted, converted_type, sign_extended}
use Rattle.wasm_defs.specs.Memory.{pages_of, number_of, bytes_of, bytes_at, written_at, filled_at, copied_at, load_count, store_count, extended, grown}
use Rattle.wasm_defs.specs.Configurations as run

-- the store, the locals and the operands after an instruction; or a trap; or none, where it finds other than it takes
pub data Effect : Type 0 where
  Gives : (store : run.Store) (locals operands : List Value) → Effect
  Traps : (kind : TrapKind) → Effect
  Fails : Effect

abbrev pub value : ValType → ℕ → Value
value t n = record { ty = t; number = n }

module _ (store : run.Store) (locals : List Value) where
  -- ---- numeric instructions (4.4.1)

  abbrev pub computed : ValType → List Value → Computed → Effect
  computed t below (Number n) = Gives store locals (value t n ∷ below)
  computed t below DividesByZero = Traps DivideByZero
  computed t below Overflows = Traps Overflow

  abbrev pub operated : Operation → List Value → Effect
  operated (Unary t op) (x ∷ below) = Gives store locals (value t (unary op t x.number) ∷ below)
  operated (Test t) (x ∷ below) = Gives store locals (value I32 (ieqz x.number) ∷ below)
  operated (Binary t op) (y ∷ x ∷ below) = computed t below (binary op t x.number y.number)
  operated (Compare t op) (y ∷ x ∷ below) = Gives store locals (value I32 (compare op t x.number y.number) ∷ below)
  operated (Convert op) (x ∷ below) = Gives store locals (value (converted_type op) (converted op x.number) ∷ below)
  operated (Extend op) (x ∷ below) = Gives store locals (value (extend_type op) (sign_extended op x.number) ∷ below)
  operated op operands = Fails

  -- ---- variable instructions (4.4.3)

  abbrev pub pushed : List Value → Option Value → Effect
  pushed operands None = Fails
  pushed operands (Some v) = Gives store locals (v ∷ operands)

  abbrev pub local_set : ℕ → Value → List Value → Effect
  local_set x v operands = if nat_lt x (length locals) then Gives store (slice_set locals x v) operands else Fails

  abbrev pub global_set : ℕ → Value → List Value → Effect
  global_set x v operands =
      if nat_lt x (length store.globals) then Gives (record store { globals = slice_set store.globals x v }) locals operands else Fails

  -- ---- memory instructions (4.4.4). An address is the operand plus the offset, and doesn't wrap.

  abbrev pub loaded : LoadOp → List Value → Option (List ℕ) → Effect
  loaded op below None = Traps MemoryBounds
  loaded op below (Some bytes) = Gives store locals (value (load_type op) (extended op (number_of bytes)) ∷ below)

  abbrev pub stored : List Value → Option (List ℕ) → Effect
  stored below None = Traps MemoryBounds
  stored below (Some memory) = Gives (record store { memory = memory }) locals below

  abbrev pub grew : List Value → Option (List ℕ) → Effect
  grew below None = Gives store locals (value I32 (2 ^ 32 - 1) ∷ below)
  grew below (Some memory) = Gives (record store { memory = memory }) locals (value I32 (pages_of store.memory) ∷ below)

  -- bytes that come from a data segment
  abbrev pub copied : List Value → (place from count : ℕ) → Option (List ℕ) → Effect
  copied below place from count None = Fails
  copied below place from count (Some bytes) = stored below (copied_at bytes store.memory place from count)

  abbrev pub data_drop : ℕ → List Value → Effect
  data_drop x operands =
      if nat_lt x (length store.segments) then Gives (record store { segments = slice_set store.segments x [] }) locals operands else Fails

  -- ---- a row for each instruction; the memory may have so many pages

  abbrev pub effect : (cap : ℕ) → Plain → List Value → Effect
  effect cap Nop operands = Gives store locals operands
  effect cap Drop (x ∷ below) = Gives store locals below
  effect cap Select (c ∷ y ∷ x ∷ below) = Gives store locals ((if c.number == 0 then y else x) ∷ below)
  effect cap (LocalGet x) operands = pushed operands (slice_get locals x)
  effect cap (LocalSet x) (v ∷ below) = local_set x v below
  effect cap (LocalTee x) (v ∷ below) = local_set x v (v ∷ below)
  effect cap (GlobalGet x) operands = pushed operands (slice_get store.globals x)
  effect cap (GlobalSet x) (v ∷ below) = global_set x v below
  effect cap (Load op m) (a ∷ below) = loaded op below (bytes_at store.memory (a.number + m.offset) (load_count op))
  effect cap (Store op m) (v ∷ a ∷ below) = stored below (written_at store.memory (a.number + m.offset) (bytes_of (store_count op) v.number))
  effect cap MemorySize operands = Gives store locals (value I32 (pages_of store.memory) ∷ operands)
  effect cap MemoryGrow (n ∷ below) = grew below (grown store.memory n.number cap)
  effect cap (Bulk Fill) (n ∷ v ∷ d ∷ below) = stored below (filled_at store.memory d.number v.number n.number)
  effect cap (Bulk Copy) (n ∷ s ∷ d ∷ below) = stored below (copied_at store.memory store.memory d.number s.number n.number)
  effect cap (Bulk (Init x)) (n ∷ s ∷ d ∷ below) = copied below d.number s.number n.number (slice_get store.segments x)
  effect cap (DataDrop x) operands = data_drop x operands
  effect cap (Const t n) operands = Gives store locals (value t (unsigned t n) ∷ operands)
  effect cap (Numeric op) operands = operated op operands
  effect cap p operands = Fails

-- what an instruction weighs above 1: one for each byte that it writes
abbrev pub bytes_written : Plain → List Value → ℕ
bytes_written (Bulk op) (n ∷ below) = n.number
bytes_written p operands = 0
