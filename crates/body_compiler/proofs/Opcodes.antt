-- What the instructions of some opcodes read after them.
use Rattle.std.proofs.Common.{◌≡◌, ◌≤◌, ℕ, ◌-◌, Bool, true, false, Some, refl, sym, subst, arith, nat_lt, ◌==◌}
use Rattle.std.proofs.lemmas.Bool.{le-ltb, lt-ltb, ne_eqb}
use Rattle.std.specs.Prelude.{slice_get}
use Rattle.wasm_defs.specs.declared.operation.Access.{Access}
use Rattle.wasm_defs.specs.declared.operation.Operation.{Operation}
use Rattle.wasm_defs.specs.declared.token.Plain.TheVariants.{BrIf, LocalGet, LocalSet, LocalTee, GlobalGet, GlobalSet, Numeric}
use Rattle.wasm_defs.specs.declared.token.Token.{Token}
use Rattle.wasm_defs.specs.declared.token.Token.TheVariants as token
use Rattle.wasm_defs.specs.declared.types.ValType.TheVariants.{I32, I64}
use Rattle.wasm_defs.specs.Bodies.{instruction, control, variable, memory, numeric, with_index, with_mem_arg, constant}
use Rattle.wasm_defs.specs.Fields.{Cursor, Read, Got}
use Rattle.wasm_defs.specs.Opcodes.{operations, accesses}

module _ (counted : Bool) (at b : ℕ) (d : Cursor) where
  -- what an opcode's instruction reads, if this one is it
  of : (k : ℕ) (r : Read Token) → b ≡ k → instruction counted at k d ≡ r → instruction counted at b d ≡ r
  of k r same is = subst (λ (n : ℕ). instruction counted at n d ≡ r) (sym same) is

  pub else_read : b ≡ 0x05 → instruction counted at b d ≡ Got token.Else d
  unfolding instruction control
  else_read same = of 0x05 _ same refl

  pub end_read : b ≡ 0x0B → instruction counted at b d ≡ Got token.End d
  unfolding instruction control
  end_read same = of 0x0B _ same refl

  pub br_if_read : b ≡ 0x0D → instruction counted at b d ≡ with_index BrIf d
  unfolding instruction control
  br_if_read same = of 0x0D _ same refl

  pub local_get_read : b ≡ 0x20 → instruction counted at b d ≡ with_index LocalGet d
  unfolding instruction variable
  local_get_read same = of 0x20 _ same refl

  pub local_set_read : b ≡ 0x21 → instruction counted at b d ≡ with_index LocalSet d
  unfolding instruction variable
  local_set_read same = of 0x21 _ same refl

  pub local_tee_read : b ≡ 0x22 → instruction counted at b d ≡ with_index LocalTee d
  unfolding instruction variable
  local_tee_read same = of 0x22 _ same refl

  pub global_get_read : b ≡ 0x23 → instruction counted at b d ≡ with_index GlobalGet d
  unfolding instruction variable
  global_get_read same = of 0x23 _ same refl

  pub global_set_read : b ≡ 0x24 → instruction counted at b d ≡ with_index GlobalSet d
  unfolding instruction variable
  global_set_read same = of 0x24 _ same refl

  pub i32_const_read : b ≡ 0x41 → instruction counted at b d ≡ constant I32 d
  unfolding instruction numeric
  i32_const_read same = of 0x41 _ same refl

  pub i64_const_read : b ≡ 0x42 → instruction counted at b d ≡ constant I64 d
  unfolding instruction numeric
  i64_const_read same = of 0x42 _ same refl

  pub access_read : (access : Access) → 0x28 ≤ b → b ≤ 0x3E → slice_get accesses (b - 0x28) ≡ Some (Some access) → instruction counted at b d ≡ with_mem_arg access d
  unfolding instruction memory
  access_read access least most row =
      let low : nat_lt b 0x20 ≡ false = le-ltb b 0x20 (omega (arith, least)) in
      let variables : nat_lt b 0x28 ≡ false = le-ltb b 0x28 least in
      let memories : nat_lt b 0x41 ≡ true = lt-ltb b 0x41 (omega (arith, most)) in
      let sized : (b == 0x3F) ≡ false = ne_eqb b 0x3F (λ e. omega (arith, e, most)) in
      let grown : (b == 0x40) ≡ false = ne_eqb b 0x40 (λ e. omega (arith, e, most)) in
      rw (low, variables, memories, sized, grown, row) refl

  pub operation_read : (op : Operation) → 0x45 ≤ b → slice_get operations (b - 0x45) ≡ Some (Some op) → instruction counted at b d ≡ Got (token.Plain (Numeric op)) d
  unfolding instruction numeric
  operation_read op least row =
      let low : nat_lt b 0x20 ≡ false = le-ltb b 0x20 (omega (arith, least)) in
      let variables : nat_lt b 0x28 ≡ false = le-ltb b 0x28 (omega (arith, least)) in
      let memories : nat_lt b 0x41 ≡ false = le-ltb b 0x41 (omega (arith, least)) in
      let i32 : (b == 0x41) ≡ false = ne_eqb b 0x41 (λ e. omega (arith, e, least)) in
      let i64 : (b == 0x42) ≡ false = ne_eqb b 0x42 (λ e. omega (arith, e, least)) in
      let floats : nat_lt b 0x45 ≡ false = le-ltb b 0x45 least in
      rw (low, variables, memories, i32, i64, floats, row) refl
