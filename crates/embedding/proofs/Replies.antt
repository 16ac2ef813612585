-- Runs whose host answers from a list.
use Rattle.std.proofs.Common.{◌≡◌, ℕ, ℤ, List, [], ◌∷◌, Option, Some, refl, ap, subst, ◌∙◌}
use Rattle.wasm_defs.specs.declared.value.Value.{Value as Given}
use Rattle.wasm_defs.specs.Values.{Value}
use Rattle.wasm_defs.specs.Host.{HostCall, Reply}
use Rattle.image_format.specs.Contents.{Image}
use Rattle.image_format.specs.declared.image.Export.{Export}
use Rattle.image_run.specs.declared.outcome.Outcome.{Outcome}
use Rattle.image_run.specs.Checks.{export_named}
use Rattle.image_run.specs.Ends.{RunsTo, run_of_export}
use Rattle.image_run.specs.Hosts.{Leads}
use Rattle.embedding.specs.Lists.{reply_to, replies_to}
use Rattle.embedding.specs.Calls.{IsFirst, RunsImage, argument_of}

-- a host keeps its list, and each call is answered from it
abbrev pub FromList : {H : Type 0} → (H → List ℤ) → H → HostCall → Reply → H → Type 0
FromList numbers from call reply to = (numbers to ≡ numbers from) × (reply ≡ reply_to (numbers from) call.arguments)

replies_are : (H : Type 0) (numbers : H → List ℤ) (a b : H) (cs : List HostCall) (rs : List Reply) → Leads (FromList numbers) a cs rs b → rs ≡ replies_to (numbers a) cs
replies_are H numbers a b [] [] h = refl
replies_are H numbers a b [] (r ∷ rs) h = absurd h
replies_are H numbers a b (c ∷ cs) [] h = absurd h
replies_are H numbers a b (c ∷ cs) (r ∷ rs) h =
    let (next, answer, later) = h in
    let rest : rs ≡ replies_to (numbers a) cs = replies_are H numbers next b cs rs later ∙ ap (λ (l : List ℤ). replies_to l cs) answer.0 in
    ap (λ (x : Reply). x ∷ rs) answer.1 ∙ ap (λ (l : List Reply). reply_to (numbers a) c.arguments ∷ l) rest

-- what the run of an export says of its image
pub runs_image : (H : Type 0) (numbers : H → List ℤ) (from to : H) (i : Image) (name : List ℕ) (e : Export) (argument : ℤ) (value : Value) (steps : ℕ) (outcome : Outcome) (first : Option Given) (memory : List ℕ) (results : List Value)
    → value ≡ argument_of argument → export_named name i.exports ≡ Some e → RunsTo (FromList numbers) i e (value ∷ []) steps from to outcome memory results → IsFirst outcome first results
    → RunsImage i name argument (numbers from) steps outcome first
runs_image H numbers from to i name e argument value steps outcome first memory results is there run first_is =
    let here : RunsTo (FromList numbers) i e (argument_of argument ∷ []) steps from to outcome memory results = subst (λ (v : Value). RunsTo (FromList numbers) i e (v ∷ []) steps from to outcome memory results) is run in
    record {
      export = e;
      exported = there;
      replies = here.replies;
      replies_are = replies_are H numbers from to (run_of_export i e (argument_of argument ∷ []) here.replies steps).calls here.replies here.leads;
      memory = memory;
      results = results;
      end = here.end;
      first_is = first_is;
    }
