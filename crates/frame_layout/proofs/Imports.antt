-- The stub of an imported function.
use Rattle.std.proofs.Common.{suc, ◌+◌, List, [], ◌∷◌, ◌++◌, refl, ◌∙◌, arith}
use Rattle.std.proofs.lemmas.Option.{slice_get_within}
use Rattle.rv_isa.specs.declared.operations.ImmOp.TheVariants.{Addi}
use Rattle.rv_isa.specs.declared.operations.Op.{Op}
use Rattle.rv_isa.specs.declared.operations.Op.TheVariants.{Jalr, Imm, Ecall}
use Rattle.rv_isa.proofs.RunLaws.{Reaches-then}
use Rattle.frame_layout.specs.Macros.{x0, ra, a0, a7, const_32}
use Rattle.frame_layout.specs.Templates.{room_words}
use Rattle.frame_layout.specs.Laws.{ImportLaw, ImportExhaustionLaw, ImportReturnLaw}
use Rattle.frame_layout.proofs.Standing.{has_first, has_rest}
use Rattle.frame_layout.proofs.Constants.{const_32_leaves}
use Rattle.frame_layout.proofs.Beginnings.{room_is, none_traps}
use Rattle.frame_layout.proofs.Jumps.{returned_reaches, number_leaves, passed_kept, passed_apart, asks_after}

abbrev last : List Op
last = Imm Addi a7 x0 3 ∷ Ecall ∷ Jalr x0 ra 0 ∷ []

pub import_asks : ImportLaw
import_asks code s i base params import has at frame few small fits short =
    let front = room_words (params + 1) in
    let number = const_32 a0 import in
    let near = slice_get_within code i _ has.0 in
    let room = room_is code s i base (params + 1) (has_first code i front (number ++ last) has) at frame (omega arith) (omega arith) fits (omega arith) in
    let pc_room = room.pc_is in
    let has_one = has_rest code i front (number ++ last) has in
    let one = const_32_leaves code room.end (i + 10) a0 import (has_first code (i + 10) number last has_one) (omega arith) (λ e. absurd cc) small in
    let pc_one = one.pc_is in
    let has_two = has_rest code i (front ++ number) last has in
    let two = number_leaves code one.end (i + 15) 16 3 (has_two.0, tt) (omega arith) (omega arith) in
    let pc_two = two.pc_is in
    record {
      asks = asks_after 13 (suc (i + 15)) 16 3 two.end (Reaches-then room.reaches (Reaches-then one.reaches two.reaches)) (omega arith) (has_two.1.0, tt) (omega arith) (two.bytes_are ∙ one.bytes_are ∙ room.bytes_are) two.value_is (λ q kept. two.others q (passed_apart q a7 kept refl) ∙ one.others q (passed_apart q a0 kept refl) ∙ room.others q (passed_kept q kept));
      import_is = two.others a0 (λ e. absurd cc) ∙ one.value_is;
    }

pub import_traps : ImportExhaustionLaw
import_traps code s i base params import has at frame few inside full =
    none_traps code s i base (params + 1) (has_first code i (room_words (params + 1)) (const_32 a0 import ++ last) has) at frame (omega arith) inside full

pub import_returns : ImportReturnLaw
import_returns code s i params import there has at is small aligned =
    returned_reaches code s (i + 17) at there (has_rest code i (room_words (params + 1) ++ (const_32 a0 import ++ Imm Addi a7 x0 3 ∷ Ecall ∷ [])) (Jalr x0 ra 0 ∷ []) has) is small aligned
