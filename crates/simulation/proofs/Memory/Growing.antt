-- What the instruction words of `memory.size` do, and the memory of more pages.
use Rattle.std.proofs.Common.{◌≡◌, ℕ, ◌+◌, ◌-◌, ◌*◌, ◌^◌, ◌≤◌, Bool, true, false, nat_le, if◌then◌else◌, List, [], ◌∷◌, ◌++◌, take, drop, length, replicate, None, Some, refl, sym, ap, ap₂, ◌∙◌, arith}
use Rattle.std.proofs.lemmas.Bool.{leb-true, lt-ltb}
use Rattle.std.proofs.lemmas.List.{length-take-le, drop-take, take-take, drop-drop, take-append-drop, take-replicate, drop-replicate}
use Rattle.rv_isa.specs.declared.operations.ShiftOp.TheVariants.{Srli}
use Rattle.rv_isa.specs.declared.operations.RegOp.TheVariants.{Srl}
use Rattle.rv_isa.specs.declared.operations.Op.TheVariants.{Shift}
use Rattle.rv_isa.specs.declared.stepping.Region.TheVariants.{Memory}
use Rattle.rv_isa.specs.Values.{computed}
use Rattle.wasm_defs.specs.declared.types.ValType.TheVariants.{I32}
use Rattle.wasm_defs.specs.Values.{word}
use Rattle.wasm_defs.specs.Memory.{page, pages_of}
use Rattle.frame_layout.specs.Slots.{operand}
use Rattle.frame_layout.specs.Macros.{t0, s2}
use Rattle.frame_layout.specs.Templates.{store_operand}
use Rattle.frame_layout.proofs.Standing.{has_first, has_rest}
use Rattle.frame_layout.proofs.Constants.{block_leaves}
use Rattle.frame_layout.proofs.Steps.{does_leave}
use Rattle.frame_layout.proofs.Instructions.{stored_does}
use Rattle.simulation.specs.Regions.{memory_now}
use Rattle.simulation.specs.MemoryLaws.{SizeLaw, GrownMemoryLaw, ZerosBehindLaw}

-- ---- the size

pub pages_now : (pages : ℕ) (l : List ℕ) → page * pages ≤ length l → pages_of (take (page * pages) l) ≡ pages
pages_now pages l whole = omega (arith, length-take-le (page * pages) l whole)

size_value : (pages : ℕ) → page * pages ≤ 2 ^ 28 → computed Srl (page * pages) 16 ≡ word I32 pages
unfolding computed
size_value pages few = rw (lt-ltb pages (2 ^ 31) (omega arith)) (omega arith)

pub size_does : SizeLaw
size_does w code s i base h pages has at frame regions inside =
    let front = Shift Srli t0 s2 16 ∷ [] in
    let fit = frame.windows Memory in
    let whole = regions.whole in
    let value = ap (λ (x : ℕ). computed Srl x 16) regions.size ∙ size_value pages (omega arith) ∙ ap (word I32) (sym (pages_now pages s.bytes.memory whole)) in
    let given = block_leaves code front i s t0 (word I32 (pages_of (memory_now pages s.bytes))) refl (has_first code i front (store_operand w t0 h) has) at value in
    let pc_is = given.pc_is in
    stored_does code s (i + 1) 1 1 base (operand w.layout h) _ (does_leave refl given) given.value_is (has_rest code i front (store_operand w t0 h) has) (omega arith) frame inside

-- ---- the memory of more pages

more_zeros : (memory : List ℕ) (pages more cap : ℕ) → pages + more ≤ cap → drop (page * pages) memory ≡ replicate (page * cap - page * pages) 0 → take (page * pages) memory ++ replicate (page * more) 0 ≡ take (page * (pages + more)) memory
more_zeros memory pages more cap fits zeros =
    let n = page * pages in
    let m = page * more in
    let sum : n + m ≡ page * (pages + more) = omega arith in
    let part : take m (drop n memory) ≡ replicate m 0 = ap (take m) zeros ∙ take-replicate m (page * cap - page * pages) 0 (omega arith) in
    let rest : drop n (take (n + m) memory) ≡ replicate m 0 = drop-take n m memory ∙ part in
    let first : take n (take (n + m) memory) ≡ take n memory = take-take n (n + m) memory (omega arith) in
    ap₂ (λ (xs ys : List ℕ). xs ++ ys) (sym first) (sym rest) ∙ take-append-drop n (take (n + m) memory) ∙ ap (λ (k : ℕ). take k memory) sum

grown_by : (memory : List ℕ) (pages more cap : ℕ) (t : Bool) → nat_le (pages + more) cap ≡ t → drop (page * pages) memory ≡ replicate (page * cap - page * pages) 0 → (if t then Some (take (page * pages) memory ++ replicate (page * more) 0) else None) ≡ (if t then Some (take (page * (pages + more)) memory) else None)
grown_by memory pages more cap true is zeros = ap Some (more_zeros memory pages more cap (leb-true (pages + more) cap is) zeros)
grown_by memory pages more cap false is zeros = refl

pub grown_memory : GrownMemoryLaw
grown_memory memory pages more cap few size zeros =
    ap (λ (n : ℕ). if nat_le (n + more) cap then Some (take (page * pages) memory ++ replicate (page * more) 0) else None) (pages_now pages memory (omega arith))
    ∙ grown_by memory pages more cap _ refl zeros

pub zeros_behind : ZerosBehindLaw
zeros_behind memory pages more cap fits zeros =
    let sum : page * pages + page * more ≡ page * (pages + more) = omega arith in
    let left : page * cap - page * pages - page * more ≡ page * cap - page * (pages + more) = omega arith in
    ap (λ (k : ℕ). drop k memory) (sym sum) ∙ sym (drop-drop (page * more) (page * pages) memory) ∙ ap (drop (page * more)) zeros
    ∙ drop-replicate (page * more) (page * cap - page * pages) 0 ∙ ap (λ (k : ℕ). replicate k 0) left
