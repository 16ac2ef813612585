use Rattle.std.proofs.Common.{◌≡◌, ◌<◌, ℕ, zero, suc, ◌+◌, ◌*◌, List, [], ◌∷◌, length, length-append, refl, ap, arith}
use Rattle.rv_isa.specs.declared.operations.Op.{Op}
use Rattle.rv_isa.specs.declared.operations.Op.TheVariants.{Jalr}
use Rattle.frame_layout.specs.Macros.{x0, ra}
use Rattle.frame_layout.specs.declared.layout.Layout.{Layout}
use Rattle.frame_layout.specs.Templates.{zero_locals, result_words, epilogue}
use Rattle.body_compiler.proofs.word_counts.frame_words.Goals as goal

results_length : (l : Layout) (n i : ℕ) → length (result_words l n i) ≡ 6 * n
results_length l zero i = refl
results_length l (suc n) i = omega (arith, results_length l n (i + 1))

epilogue_length : (l : Layout) (results : ℕ) → length (epilogue l results) ≡ 4 + 6 * results
epilogue_length l results = let last : List Op = Jalr x0 ra 0 ∷ [] in omega (arith, results_length l results 0, length-append (result_words l results 0) last)

locals_length : (l : Layout) (n : ℕ) → 0 < n → length (zero_locals l n) ≡ 15
locals_length l zero some = absurd (omega arith)
locals_length l (suc n) some = refl

pub returns-then-locals-eq0 : goal.returns-then-locals-eq0
returns-then-locals-eq0 c = λ l same.
    let none : l.locals ≡ 0 = omega (arith, same) in
    omega (arith, epilogue_length l c.args.results, ap (λ (n : ℕ). length (zero_locals l n)) none)

pub returns-else-locals-eq0 : goal.returns-else-locals-eq0
returns-else-locals-eq0 c = λ l same.
    let some : 0 < l.locals = omega (arith, same) in
    omega (arith, epilogue_length l c.args.results, locals_length l l.locals some)
