-- The instruction words of operations have 32 bits, where the operations' fields fit.
use Rattle.std.proofs.Common.{ℕ, ◌^◌, ◌<◌, List, [], ◌∷◌, map, arith, lit<}
use Rattle.std.specs.Prelude.{All}
use Rattle.std.proofs.lemmas.List.Elements.{All-nil, All-cons}
use Rattle.rv_isa.specs.declared.table.Opcode.TheVariants as opcode
use Rattle.rv_isa.specs.declared.operations.Op.{Op}
use Rattle.rv_isa.specs.declared.operations.Op.TheVariants.{Lui, Auipc, Jal, Jalr, Branch, Load, Store, Imm, Shift, Addiw, ShiftW, Reg, RegW, Fence, Ecall, Ebreak}
use Rattle.rv_isa.specs.Words.{opcode_bits, branch_funct3, load_funct3, store_funct3, imm_funct3, shift_funct, shift_w_funct, reg_funct, reg_w_funct, r_type, i_type, shift_type, s_type, b_type, u_type, j_type, word_of, IsInRange}
use Rattle.rv_isa.specs.Runs.{AllInRange}
use Rattle.rv_isa.proofs.CodeLaws.{branch_small, load_small, store_small, imm_small, shift_small, shift_w_small, reg_small, reg_w_small}

r_short : (code f d s t : ℕ) → code < 2 ^ 7 → f < 2 ^ 10 → d < 2 ^ 5 → s < 2 ^ 5 → t < 2 ^ 5 → r_type code f d s t < 2 ^ 32
r_short code f d s t hc hf hd hs ht = omega arith

i_short : (code f d s imm : ℕ) → code < 2 ^ 7 → f < 2 ^ 3 → d < 2 ^ 5 → s < 2 ^ 5 → imm < 2 ^ 12 → i_type code f d s imm < 2 ^ 32
i_short code f d s imm hc hf hd hs hi = omega arith

shift_short : (code f d s n : ℕ) → code < 2 ^ 7 → f < 2 ^ 9 → d < 2 ^ 5 → s < 2 ^ 5 → n < 2 ^ 6 → shift_type code f d s n < 2 ^ 32
shift_short code f d s n hc hf hd hs hn = omega arith

s_short : (code f s t imm : ℕ) → code < 2 ^ 7 → f < 2 ^ 3 → s < 2 ^ 5 → t < 2 ^ 5 → imm < 2 ^ 12 → s_type code f s t imm < 2 ^ 32
s_short code f s t imm hc hf hs ht hi = omega arith

b_short : (code f s t imm : ℕ) → code < 2 ^ 7 → f < 2 ^ 3 → s < 2 ^ 5 → t < 2 ^ 5 → imm < 2 ^ 12 → b_type code f s t imm < 2 ^ 32
b_short code f s t imm hc hf hs ht hi = omega arith

u_short : (code d imm : ℕ) → code < 2 ^ 7 → d < 2 ^ 5 → imm < 2 ^ 20 → u_type code d imm < 2 ^ 32
u_short code d imm hc hd hi = omega arith

j_short : (code d imm : ℕ) → code < 2 ^ 7 → d < 2 ^ 5 → imm < 2 ^ 20 → j_type code d imm < 2 ^ 32
j_short code d imm hc hd hi = omega arith

word_short : (op : Op) → IsInRange op → word_of op < 2 ^ 32
unfolding word_of IsInRange
word_short (Lui d i) r = u_short (opcode_bits opcode.Lui) d i (lit< tt) r.0 r.1
word_short (Auipc d i) r = u_short (opcode_bits opcode.Auipc) d i (lit< tt) r.0 r.1
word_short (Jal d i) r = j_short (opcode_bits opcode.Jal) d i (lit< tt) r.0 r.1
word_short (Jalr d s i) r = i_short (opcode_bits opcode.Jalr) 0 d s i (lit< tt) (lit< tt) r.0 r.1 r.2
word_short (Branch o s t i) r = b_short (opcode_bits opcode.Branch) (branch_funct3 o) s t i (lit< tt) (branch_small o) r.0 r.1 r.2
word_short (Load o d s i) r = i_short (opcode_bits opcode.Load) (load_funct3 o) d s i (lit< tt) (load_small o) r.0 r.1 r.2
word_short (Store o s t i) r = s_short (opcode_bits opcode.Store) (store_funct3 o) s t i (lit< tt) (store_small o) r.0 r.1 r.2
word_short (Imm o d s i) r = i_short (opcode_bits opcode.OpImm) (imm_funct3 o) d s i (lit< tt) (imm_small o) r.0 r.1 r.2
word_short (Shift o d s n) r = shift_short (opcode_bits opcode.OpImm) (shift_funct o) d s n (lit< tt) (shift_small o) r.0 r.1 r.2
word_short (Addiw d s i) r = i_short (opcode_bits opcode.OpImm32) 0 d s i (lit< tt) (lit< tt) r.0 r.1 r.2
word_short (ShiftW o d s n) r = shift_short (opcode_bits opcode.OpImm32) (shift_w_funct o) d s n (lit< tt) (shift_w_small o) r.0 r.1 (omega (arith, r.2))
word_short (Reg o d s t) r = r_short (opcode_bits opcode.Op) (reg_funct o) d s t (lit< tt) (reg_small o) r.0 r.1 r.2
word_short (RegW o d s t) r = r_short (opcode_bits opcode.Op32) (reg_w_funct o) d s t (lit< tt) (reg_w_small o) r.0 r.1 r.2
word_short (Fence d s i) r = i_short (opcode_bits opcode.MiscMem) 0 d s i (lit< tt) (lit< tt) r.0 r.1 r.2
word_short Ecall r = lit< tt
word_short Ebreak r = lit< tt

pub words_are_short : (ops : List Op) → AllInRange ops → All (λ word. word < 2 ^ 32) (map word_of ops)
words_are_short [] h = All-nil (λ word. word < 2 ^ 32)
words_are_short (op ∷ ops) h = All-cons (λ word. word < 2 ^ 32) (word_of op) (map word_of ops) (word_short op h.0) (words_are_short ops h.1)
