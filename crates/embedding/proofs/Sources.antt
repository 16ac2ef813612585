-- What the compiling of bytes in memory comes to.
use Rattle.std.proofs.Common.{◌≡◌, ℕ, false, List, ◌++◌, Option, Some, sym, ap, subst, ◌∙◌}
use Rattle.wasm_defs.specs.declared.fault.Refusal.{Refusal}
use Rattle.wasm_defs.specs.Faults.{Rejected}
use Rattle.image_linker.specs.Judging.{IsVerdictOf}
use Rattle.source_reading.specs.declared.answer.Answer.TheVariants as answer
use Rattle.source_reading.specs.Received.{AreReceived}
use Rattle.source_reading.specs.Compiling.{CompilesSource}
use Rattle.embedding.specs.declared.compiling.Compiled.TheVariants as compiled
use Rattle.embedding.specs.Modules.{IsCompiled}

-- all bytes came
all_came : (closing : Option ℕ) (bytes rest came : List ℕ) → AreReceived closing (Some bytes) (Some rest) false came → came ≡ bytes
all_came closing bytes rest came (read, more, is_read, more_is, both) =
    let taken : Some bytes ≡ Some (read ++ rest) = is_read.taken in
    let same : bytes ≡ read ++ rest = cc in
    both ∙ ap (λ (l : List ℕ). read ++ l) more_is ∙ sym same

pub refused_done : (closing : Option ℕ) (bytes rest : List ℕ) (r : Refusal) → CompilesSource closing false (Some bytes) (Some rest) (answer.Refused r) → IsCompiled bytes (compiled.Refused r)
refused_done closing bytes rest r (came, is_came, refused) = subst (λ (l : List ℕ). IsVerdictOf l (Rejected r)) (all_came closing bytes rest came is_came) refused
