-- What the command `drill` comes to.
use Rattle.std.proofs.Common.{◌≡◌, ◌∙◌, ◌++◌, ℕ, ◌≤◌, false, List, Option, Some, sym, ap, subst}
use Rattle.std.specs.Prelude.{unwrap_or}
use Rattle.wasm_defs.specs.declared.fault.Refusal.{Refusal}
use Rattle.wasm_defs.specs.Context.{declared_count}
use Rattle.wasm_defs.specs.Faults.{Rejected}
use Rattle.image_linker.specs.Judging.{IsModuleOf, IsVerdictOf}
use Rattle.command_words.specs.declared.command.Call.{Call}
use Rattle.command_words.specs.declared.command.Drill.{Drill}
use Rattle.module_gen.specs.Drill.{drill_bytes}
use Rattle.source_reading.specs.declared.answer.Answer.TheVariants as answer
use Rattle.module_stream.specs.declared.built.Built.{Built}
use Rattle.source_reading.specs.Received.{AreReceived}
use Rattle.source_reading.specs.Compiling.{CompilesSource}
use Rattle.stream_compile.specs.Running.{RunsAs}
use Rattle.stream_compile.specs.Texts.{Outcome, OfDrill, drill_call}
use Rattle.stream_compile.proofs.Calls.{run_done}
use Rattle.stream_compile.proofs.DrillSums.{not_refused, sum_told}

-- all that came of bytes in memory are these bytes
pub flat_came : (closing : Option ℕ) (bytes rest came : List ℕ) → AreReceived closing (Some bytes) (Some rest) false came → came ≡ bytes
flat_came closing bytes rest came (read, more, is, same, joined) =
    let taken : bytes ≡ read ++ rest = ap (λ o. unwrap_or o bytes) is.taken in
    joined ∙ ap (λ l. read ++ l) same ∙ sym taken

-- what the call of the image's function comes to is what that of the module's does
pub image_drills : (closing : Option ℕ) (d : Drill) (bytes rest : List ℕ) (built : Built) (call : Call) → d.count ≤ 50000 → bytes ≡ drill_bytes d.count → call ≡ drill_call d.steps → CompilesSource closing false (Some bytes) (Some rest) (answer.Image built)
    → (o : Outcome) → RunsAs (Some built.functions) built.image call o → OfDrill d o
image_drills closing d bytes rest built call most made said (calm, came, is_came, end, is) o e =
    let m = is.«module» in
    let same : came ≡ drill_bytes d.count = flat_came closing bytes rest came is_came ∙ made in
    let module_is : IsModuleOf (drill_bytes d.count) m = subst (λ (l : List ℕ). IsModuleOf l m) same is.is.is in
    let counted : RunsAs (Some (declared_count m.items)) built.image call o = subst (λ (n : ℕ). RunsAs (Some n) built.image call o) is.is.functions_are e in
    let here : RunsAs (Some (declared_count m.items)) built.image (drill_call d.steps) o = subst (λ (c : Call). RunsAs (Some (declared_count m.items)) built.image c o) said counted in
    let tells = run_done (Some (declared_count m.items)) m built.image (drill_call d.steps) o is.image_is is.is.same here in
    (m, module_is, is.is.same, tells, sum_told d m o most module_is is.is.same tells)

-- the bytes have no error
pub refused_drills : (closing : Option ℕ) (d : Drill) (bytes rest : List ℕ) (refusal : Refusal) (o : Outcome) → d.count ≤ 50000 → bytes ≡ drill_bytes d.count → CompilesSource closing false (Some bytes) (Some rest) (answer.Refused refusal)
    → OfDrill d o
refused_drills closing d bytes rest refusal o most made (came, is_came, is) =
    let same : came ≡ drill_bytes d.count = flat_came closing bytes rest came is_came ∙ made in
    not_refused d.count refusal (OfDrill d o) most (subst (λ (l : List ℕ). IsVerdictOf l (Rejected refusal)) same is)
