-- Values stay in the range of their types.
use Rattle.std.proofs.Common.{◌≡◌, ℕ, zero, suc, ◌+◌, ◌-◌, ◌*◌, ◌/◌, ◌%◌, ◌==◌, ◌^◌, ◌<◌, ◌≤◌, Bool, true, false, if◌then◌else◌, List, [], ◌∷◌, length, Option, None, Some, lit≤, refl, sym, ap, subst, arith}
use Rattle.std.specs.Prelude.{All, slice_get, nat_le, ◌&&◌}
use Rattle.std.proofs.lemmas.Bool.{and_parts, leb-true}
use Rattle.std.proofs.lemmas.List.Elements.{All-head, All-tail}
use Rattle.rv_isa.specs.declared.operations.LoadOp.{LoadOp}
use Rattle.rv_isa.specs.declared.operations.StoreOp.{StoreOp}
use Rattle.rv_isa.specs.declared.operations.RegOpW.TheVariants.{Addw}
use Rattle.rv_isa.specs.declared.operations.Op.{Op}
use Rattle.rv_isa.specs.declared.operations.Op.TheVariants.{Lui, Auipc, Jal, Jalr, Branch, Load, Store, Imm, Shift, Addiw, ShiftW, Reg, RegW, Fence, Ecall, Ebreak}
use Rattle.rv_isa.specs.declared.stepping.Region.{Region}
use Rattle.rv_isa.specs.Words.{IsInRange}
use Rattle.rv_isa.specs.Values.{plus, i_value, u_value, b_value, j_value, register_form, shift_form, shift_form_w, is_taken, load_width, store_width}
use Rattle.rv_isa.specs.Steps.{Registers, reg, set_reg, Bytes, State, Stepped, Next, Call, Fault, gives, jump, branch, load, put, le_bytes, region, value_at, loaded, stored, store, act, code_of, text_base, fetched, at_word, step, Ran, go_on, exec}
use Rattle.rv_isa.specs.Runs.{OnStep, OnRan, Loads, Stores, IsWord, AreBytes, IsSound}
use Rattle.rv_isa.specs.Laws.{StepsStaySound, RunsStaySound}
use Rattle.rv_isa.proofs.Inverse.{sound}
use Rattle.rv_isa.proofs.ByteLaws.{AreBytes-put, value_at_small}
use Rattle.rv_isa.proofs.AccessLaws.{loaded_says, stored_says}
use Rattle.rv_isa.proofs.RegionLaws.{replaced}
use Rattle.rv_isa.proofs.ValueLaws.{extended_small, if_small, computed_small, computed_w_small, load_value_small}

-- ---- the parts of a state

set_small : (registers : Registers) (rd value : ℕ) → ((r : ℕ) → reg registers r < 2 ^ 64) → value < 2 ^ 64 → (r : ℕ) → reg (set_reg registers rd value) r < 2 ^ 64
set_small registers zero value h small r = h r
set_small registers (suc rd) value h small zero = h zero
set_small registers (suc rd) value h small (suc r) =
    if_small (suc r == suc rd) value (registers (suc r)) (2 ^ 64) small (h (suc r))

loaded_small : (b : Bytes) (op : LoadOp) (address value : ℕ) → ((r : Region) → AreBytes (region b r)) → loaded b op address ≡ Some value → value < 2 ^ 64
loaded_small b op address value h e =
    let l : Loads b op address value = loaded_says b op address value e in
    let n = value_at (load_width op) l.at (region b l.from) in
    let small = load_value_small op n (value_at_small (load_width op) l.at (region b l.from) (h l.from) l.lies.inside) in
    subst (λ (v : ℕ). v < 2 ^ 64) (sym l.value_is) small

stored_bytes : (b : Bytes) (op : StoreOp) (address value : ℕ) (b' : Bytes) → ((r : Region) → AreBytes (region b r)) → stored b op address value ≡ Some b' → (r : Region) → AreBytes (region b' r)
stored_bytes b op address value b' h e r =
    let s : Stores b op address value b' = stored_says b op address value b' e in
    let width = store_width op in
    let new = put width s.at (region b s.to) (le_bytes width value) in
    subst (λ (x : Bytes). AreBytes (region x r)) (sym s.bytes_are) (
    replaced AreBytes b s.to new h (AreBytes-put width s.at value (region b s.to) (h s.to)) r)

-- ---- an operation whose fields fit, at an address that is followed by another

on_if : (t : Bool) (x y : Stepped) → OnStep IsSound x → OnStep IsSound y → OnStep IsSound (if t then x else y)
on_if true x y here there = here
on_if false x y here there = there

module _ (s : State) (h : IsSound s) (near : s.pc + 4 < 2 ^ 64) where
  moved : (pc : ℕ) → pc < 2 ^ 64 → IsSound (record s { pc = pc })
  moved pc small = record { registers = h.registers; pc = small; bytes = h.bytes }

  gives_sound : (rd value : ℕ) → value < 2 ^ 64 → OnStep IsSound (gives s rd value)
  gives_sound rd value small =
      record { registers = set_small s.registers rd value h.registers small; pc = near; bytes = h.bytes }

  jump_sound : (rd target : ℕ) → target < 2 ^ 64 → OnStep IsSound (jump s rd target)
  jump_sound rd target small =
      let to : IsSound (record s { registers = set_reg s.registers rd (s.pc + 4); pc = target }) = record { registers = set_small s.registers rd (s.pc + 4) h.registers near; pc = small; bytes = h.bytes } in
      on_if (target % 4 == 0) _ _ to tt

  branch_sound : (taken : Bool) (target : ℕ) → target < 2 ^ 64 → OnStep IsSound (branch s taken target)
  branch_sound taken target small =
      on_if taken _ _ (on_if (target % 4 == 0) _ _ (moved target small) tt) (moved (s.pc + 4) near)

  load_sound : (rd : ℕ) (o : Option ℕ) → ((value : ℕ) → o ≡ Some value → value < 2 ^ 64) → OnStep IsSound (load s rd o)
  load_sound rd None small = tt
  load_sound rd (Some value) small = gives_sound rd value (small value refl)

  store_sound : (o : Option Bytes) → ((b' : Bytes) → o ≡ Some b' → (r : Region) → AreBytes (region b' r)) → OnStep IsSound (store s o)
  store_sound None bytes = tt
  store_sound (Some b') bytes = record { registers = h.registers; pc = near; bytes = bytes b' refl }

  i_small : (imm : ℕ) → imm < 2 ^ 12 → i_value imm < 2 ^ 64
  i_small imm fits = extended_small 12 imm fits (lit≤ tt)

  u_small : (imm : ℕ) → imm < 2 ^ 20 → u_value imm < 2 ^ 64
  u_small imm fits = extended_small 32 (imm * 2 ^ 12) (omega arith) (lit≤ tt)

  plus_small : (x y : ℕ) → plus x y < 2 ^ 64
  plus_small x y = omega arith

  act_sound : (op : Op) → IsInRange op → OnStep IsSound (act op s)
  unfolding IsInRange
  act_sound (Lui rd imm) fits = gives_sound rd _ (u_small imm fits.1)
  act_sound (Auipc rd imm) fits = gives_sound rd _ (plus_small s.pc (u_value imm))
  act_sound (Jal rd offset) fits = jump_sound rd _ (plus_small s.pc (j_value offset))
  act_sound (Jalr rd rs1 imm) fits = jump_sound rd _ (omega arith)
  act_sound (Branch op rs1 rs2 offset) fits =
      branch_sound (is_taken op (reg s.registers rs1) (reg s.registers rs2)) _ (plus_small s.pc (b_value offset))
  act_sound (Load op rd rs1 imm) fits = load_sound rd _ (λ value e. loaded_small s.bytes op _ value h.bytes e)
  act_sound (Store op rs1 rs2 imm) fits = store_sound _ (λ b' e. stored_bytes s.bytes op _ _ b' h.bytes e)
  act_sound (Imm op rd rs1 imm) fits =
      gives_sound rd _ (computed_small (reg s.registers rs1) (i_value imm) (h.registers rs1) (i_small imm fits.2) (register_form op))
  act_sound (Shift op rd rs1 amount) fits =
      gives_sound rd _ (computed_small (reg s.registers rs1) amount (h.registers rs1) (omega (arith, fits.2)) (shift_form op))
  act_sound (Addiw rd rs1 imm) fits = gives_sound rd _ (computed_w_small Addw (reg s.registers rs1) (i_value imm))
  act_sound (ShiftW op rd rs1 amount) fits = gives_sound rd _ (computed_w_small (shift_form_w op) (reg s.registers rs1) amount)
  act_sound (Reg op rd rs1 rs2) fits =
      gives_sound rd _ (computed_small (reg s.registers rs1) (reg s.registers rs2) (h.registers rs1) (h.registers rs2) op)
  act_sound (RegW op rd rs1 rs2) fits = gives_sound rd _ (computed_w_small op (reg s.registers rs1) (reg s.registers rs2))
  act_sound (Fence rd rs1 imm) fits = moved (s.pc + 4) near
  act_sound Ecall fits = moved (s.pc + 4) near
  act_sound Ebreak fits = tt

-- ---- the operations of a text

get_below : {A : Type 0} (xs : List A) (k : ℕ) (x : A) → slice_get xs k ≡ Some x → k < length xs
get_below [] k x e = absurd cc
get_below (y ∷ xs) zero x e = omega arith
get_below (y ∷ xs) (suc k) x e = let below = get_below xs k x e in omega arith

decoded_fits : (words : List ℕ) (k : ℕ) (op : Op) → All IsWord words → slice_get (code_of words) k ≡ Some (Some op) → IsInRange op
decoded_fits [] k op small e = absurd cc
decoded_fits (w ∷ words) zero op small e = (sound w (All-head IsWord w words small) op (cc)).in_range
decoded_fits (w ∷ words) (suc k) op small e = decoded_fits words k op (All-tail IsWord w words small) e

-- what is fetched is in the text
record Fetched (code : List (Option Op)) (pc : ℕ) (w : Option Op) : Type 0 where
  stands : slice_get code ((pc - text_base) / 4) ≡ Some w
  near : pc + 4 < 2 ^ 64

fetched_by : (code : List (Option Op)) (pc : ℕ) (w : Option Op) (t : Bool) → length code ≤ 2 ^ 26 → (nat_le text_base pc && ((pc - text_base) % 4 == 0)) ≡ t → (if t then slice_get code ((pc - text_base) / 4) else None) ≡ Some w → Fetched code pc w
fetched_by code pc w true short is e =
    let parts = and_parts (nat_le text_base pc) ((pc - text_base) % 4 == 0) is in
    let above = leb-true text_base pc parts.0 in
    let below = get_below code ((pc - text_base) / 4) w e in
    record { stands = e; near = omega arith }
fetched_by code pc w false short is e = absurd cc

at_word_sound : (words : List ℕ) (s : State) (o : Option (Option Op)) → All IsWord words → length (code_of words) ≤ 2 ^ 26 → IsSound s → fetched (code_of words) s.pc ≡ o → OnStep IsSound (at_word o s)
at_word_sound words s None small short h e = tt
at_word_sound words s (Some None) small short h e = tt
at_word_sound words s (Some (Some op)) small short h e =
    let f = fetched_by (code_of words) s.pc (Some op) _ short refl e in
    act_sound s h f.near op (decoded_fits words ((s.pc - text_base) / 4) op small f.stands)

length-code_of : (words : List ℕ) → length (code_of words) ≡ length words
length-code_of [] = refl
length-code_of (w ∷ words) = ap suc (length-code_of words)

pub steps_stay_sound : StepsStaySound
steps_stay_sound words s small short h =
    at_word_sound words s _ small (omega (arith, length-code_of words)) h refl

after_step : (now : Stepped) (n : ℕ) (s : State) (rest : State → Ran) → IsSound s → OnStep IsSound now → ((s' : State) → IsSound s' → OnRan IsSound (rest s')) → OnRan IsSound (go_on now n s rest)
after_step (Next s') n s rest h keeps later = later s' keeps
after_step (Call s') n s rest h keeps later = keeps
after_step (Fault kind) n s rest h keeps later = h

pub runs_stay_sound : RunsStaySound
runs_stay_sound words zero s small short h = h
runs_stay_sound words (suc n) s small short h =
    after_step (step (code_of words) s) n s (exec (code_of words) n) h (steps_stay_sound words s small short h) (λ s'. runs_stay_sound words n s' small short)
